-- The awards of 640 places, of which those of the bids in the book are written: what allotting and a preview give. Assumes nothing.
use Rattle.std.specs.Prelude.{Result}
use Rattle.std.specs.Prelude as prelude
use mathlib.Core.Path.{◌≡◌, refl, sym, ap, ◌∙◌}
use mathlib.Core.List.{List, ◌++◌}
use mathlib.Core.Option.{Option, none, some}
use Prim.Native.Nat.{ℕ, ◌-◌, ◌≤◌}
use native.Mathlib.Nat.{sub-zero}
use lib.ListN.{length, take, drop, replicate, take-append-drop}
use lib.Seq.{take_at, length-take-le}
use Rattle.envelope.specs.Refusals.{unless_refused}
use Rattle.places.specs.declared.Rate.{Rate}
use Rattle.rules.specs.Allotment.{Bid}
use Rattle.rules.specs.Calls as rules
use Rattle.rules.specs.Calls.{bids_in_book, awards_given, in640, allotment, not_allotted, allot, preview}
use Rattle.book.proofs.Empty.{zeros_after}
use Rattle.refusals.specs.declared.Refusal.{Refusal}
use Rattle.refusals.specs.Conditions.{refusal_number, not_closed, ended}
use Rattle.outcomes.specs.Allotting.{awarded_to, marginal_in, AllotsBids, AllotsPlaces}
use Rattle.outcomes.proofs.Allotting.{allotting_refused_lem, preview_refused_lem}

-- a part of so many elements that is lent, and lent again after it was written
pub lent_length : (l : List ℕ) (n : ℕ) → n ≤ length l → length (take (n - 0) l) ≡ n
lent_length l n h = ap (λ (k : ℕ). length (take k l)) (sub-zero n) ∙ length-take-le n l h

pub lent_again : (part rest : List ℕ) (n : ℕ) → length part ≡ n → take (n - 0) (part ++ rest) ≡ part
lent_again part rest n e = ap (λ (k : ℕ). take k (part ++ rest)) (sub-zero n) ∙ take_at part rest n e

-- the awards of all places, written from zeros on: those of the bids in the book, then zeros
module _ (first : Option ℕ) (t : rules.Tender) (a : Result (prelude.Option Rate) Refusal) (n : ℕ) (part : List ℕ) (few : n ≤ 640) (long : length part ≡ n)
    (allotted : AllotsBids first t (take (n - 0) (replicate 640 0)) a part) where
  abbrev bs : List Bid
  bs = bids_in_book t.book

  -- the cents of all places
  abbrev whole : List ℕ
  whole = part ++ drop (n - 0) (replicate 640 0)

  last_zeros : drop {A = ℕ} (n - 0) (replicate 640 0) ≡ replicate (640 - n) 0
  last_zeros = ap (λ (k : ℕ). drop {A = ℕ} k (replicate 640 0)) (sub-zero n) ∙ zeros_after n 640 few

  given_where : (l : Option ℕ) → refusal_number a ≡ l
      → ◌≡◌ {A = rules.Allotted} (record { awards = whole; marginal = marginal_in a }) (unless_refused l not_allotted (allotment t.terms bs))
  unfolding allotment in640
  given_where none e =
      let p = allotted.awarded ∙ ap (λ (l : Option ℕ). unless_refused l (none, take (n - 0) (replicate 640 0)) (awarded_to t)) e in
      let is : part ≡ awards_given t.terms bs = ap (λ (x : Option ℕ × List ℕ). x.1) p in
      λ i. record {
        awards = (ap (λ (x : List ℕ). part ++ x) (last_zeros ∙ ap (λ (k : ℕ). replicate (640 - k) 0) (sym long)) ∙ ap in640 is) i;
        marginal = ap (λ (x : Option ℕ × List ℕ). x.0) p i;
      }
  given_where (some k) e =
      let p = allotted.awarded ∙ ap (λ (l : Option ℕ). unless_refused l (none, take (n - 0) (replicate 640 0)) (awarded_to t)) e in
      λ i. record {
        awards = (ap (λ (x : Option ℕ × List ℕ). x.1 ++ drop (n - 0) (replicate 640 0)) p ∙ take-append-drop (n - 0) (replicate 640 0)) i;
        marginal = ap (λ (x : Option ℕ × List ℕ). x.0) p i;
      }

  pub allots-places : AllotsPlaces first t (refusal_number a) (record { awards = whole; marginal = marginal_in a })
  allots-places = record { number = allotted.number; awarded = given_where (refusal_number a) refl }

-- what allotting and a preview give
module _ (t : rules.Tender) (r : Option ℕ) (given : rules.Allotted) where
  abbrev awarded_unless : Option ℕ → rules.Allotted
  awarded_unless l = unless_refused l not_allotted (allotment t.terms (bids_in_book t.book))

  pub allot_is : AllotsPlaces (not_closed t.state) t r given → (next : rules.Tender) → next ≡ unless_refused r t (rules.in_state rules.Announced t)
      → (r, next, given) ≡ rules.allot t
  unfolding allot
  allot_is a next e =
      (λ i. (r, e i, a.awarded i))
      ∙ ap (λ (l : Option ℕ). (l, unless_refused l t (rules.in_state rules.Announced t), awarded_unless l)) (a.number ∙ allotting_refused_lem t)

  pub preview_is : AllotsPlaces (ended t.state) t r given → (r, t, given) ≡ rules.preview t
  unfolding preview
  preview_is a = (λ i. (r, t, a.awarded i)) ∙ ap (λ (l : Option ℕ). (l, t, awarded_unless l)) (a.number ∙ preview_refused_lem t)
