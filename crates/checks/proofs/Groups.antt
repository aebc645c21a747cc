-- Laws of errors added one after another. Assumes nothing.
use mathlib.Core.Path.{◌≡◌, refl, sym, ap, ◌∙◌}
use mathlib.Core.Bool.{Bool, true, false, ◌&&◌, ◌||◌, not, cond, and_assoc, and-true}
use mathlib.Core.List.{List, [], ◌∷◌, ◌++◌, map, append_assoc}
use Prim.Native.Nat.{ℕ, suc, ◌+◌, ◌≤◌, ◌<◌}
use native.Mathlib.Numerals.{add-one}
use lib.Dec.{eqb}
use lib.ListN.{length, drop, get_or, drop_of_length-le}
use lib.Seq.{drop-cons}
use Rattle.texts.specs.Texts.{ascii}
use Rattle.addresses.specs.declared.Address.{Address}
use Rattle.addresses.specs.Addresses.{is_address, code_in}
use Rattle.places.specs.Bids.{all_formed}
use Rattle.places.specs.Bids
use Rattle.places.specs.declared.Place.{Place}
use Rattle.envelope.specs.declared.application.Field.TheVariants.{Bids}
use Rattle.envelope.specs.Application.{bytes_of, fields_of}
use Rattle.rules.specs.Opening.{Admission, any}
use Rattle.bids.proofs.Columns.{bids-ten}
use Rattle.terms.specs.declared.Terms as declared
use Rattle.terms.specs.Viewed.{viewed}
use Rattle.checks.specs.Columns.{column_errors}
use Rattle.rules.specs.Receiving.{Error, when, sender_errors, bids_in, bid_errors, place_errors}

-- errors added, and more added to those, are added together
pub added : (before between after es fs : List Error) → between ≡ before ++ es → after ≡ between ++ fs → after ≡ before ++ (es ++ fs)
added before between after es fs h k = k ∙ ap (λ (l : List Error). l ++ fs) h ∙ append_assoc before es fs

-- a test may stand for what it is equal to
pub tested : (before after : List Error) (b d : Bool) (e : Error) → b ≡ d → after ≡ before ++ when b e → after ≡ before ++ when d e
tested before after b d e h k = k ∙ ap (λ (x : Bool). before ++ when x e) h

-- the errors of a sender, by whether it is an address
pub sender_known : (codes : List ℕ) (s : Address) (admitted : Bool) → is_address s ≡ true → admitted ≡ any (eqb (code_in s)) codes → when (not admitted) (ascii "040", 300) ≡ sender_errors codes s
unfolding sender_errors
sender_known codes s admitted h k = rw (h, k) refl

pub sender_unknown : (codes : List ℕ) (s : Address) → is_address s ≡ false → when true (ascii "040", 309) ≡ sender_errors codes s
unfolding sender_errors when
sender_unknown codes s h = rw h refl

-- the loop over places that are well formed: one more, and the end
pub formed_more : (ok : Bool) (formed : List Bool) (k : ℕ) → k < length formed → ((ok && get_or formed k false) && all_formed (drop (k + 1) formed)) ≡ (ok && all_formed (drop k formed))
unfolding all_formed
formed_more ok formed k h = rw (drop-cons formed k false h, add-one) (and_assoc ok (get_or formed k false) (all_formed (drop (suc k) formed)))

pub formed_end : (ok : Bool) (formed : List Bool) (k : ℕ) → length formed ≤ k → (ok && all_formed (drop k formed)) ≡ ok
unfolding all_formed
formed_end ok formed k h = rw (drop_of_length-le formed h) (and-true ok)

-- places in columns, and the same places one by one
not_both : (a b : Bool) → (not a || not b) ≡ not (a && b)
not_both true b = refl
not_both false b = refl

some_malformed : (ps : List Place) → any (λ (p : Place). not p.formed) ps ≡ not (all_formed (map (λ (p : Place). p.formed) ps))
unfolding any all_formed
some_malformed [] = refl
some_malformed (p ∷ ps) = rw (some_malformed ps) (not_both p.formed (all_formed (map (λ (p : Place). p.formed) ps)))

turned : {A : Type 0} (b : Bool) (x y : A) → cond (not b) x y ≡ cond b y x
turned true x y = refl
turned false x y = refl

pub column_errors_lem : (t : declared.Terms) (a : Admission) (m : List ℕ) → column_errors t (fields_of m).places ≡ place_errors (viewed t a) (bytes_of Bids m)
unfolding column_errors place_errors bid_errors fields_of Bids.places_of bids_in
column_errors_lem t a m =
    let ps = Bids.places_in 10 (bytes_of Bids m) in
    rw (some_malformed ps, bids-ten (bytes_of Bids m)) (sym (turned (all_formed (map (λ (p : Place). p.formed) ps)) _ _))
