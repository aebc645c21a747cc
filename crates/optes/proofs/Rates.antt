-- Rates of up to eight digits are held whole in 32 bits, and a wider one is refused. Assumes nothing.
use mathlib.Core.Path.{◌≡◌, refl, sym, ap, ap₂, ◌∙◌}
use mathlib.Core.Bool.{Bool, true, false, ◌&&◌, false≢true}
use mathlib.Core.List.{List, [], ◌∷◌, map}
use mathlib.Core.Option.{Option, some}
use Prim.Native.Nat.{ℕ, ◌≤◌, ◌%◌, ◌^◌}
use native.Mathlib.Omega.{arith}
use lib.Dec.{ltb}
use lib.ListN.{length}
use borrow.Author.Tests.{ltb-true, lt-ltb}
use Rattle.laws.proofs.Tests.{and_left, and_right}
use Rattle.addresses.specs.Addresses.{address_fits}
use Rattle.places.specs.declared.Rate.{Rate}
use Rattle.places.specs.declared.Amount.{Amount}
use Rattle.places.specs.Bids.{fits, places_fit}
use Rattle.envelope.specs.declared.application.Application.{Application}
use Rattle.envelope.specs.Refusals.{first_holding}
use Rattle.envelope.specs.Application.{numbers_fit, texts_fit, write}
use Rattle.optes.specs.Interface.{answer_number, answered, rate_of}

-- what 32 bits hold of a rate
abbrev pub low_rate : ℕ → Rate
low_rate n = rate_of (n % 4294967296)

-- whether rates have up to eight digits, tested one after the other
unfoldable pub within : Bool → List ℕ → Bool
within b [] = b
within b (r ∷ rs) = within (b && ltb r 100000000) rs

within_first : (b : Bool) (rs : List ℕ) → within b rs ≡ true → b ≡ true
unfolding within
within_first b [] h = h
within_first b (r ∷ rs) h = and_left b (ltb r 100000000) (within_first (b && ltb r 100000000) rs h)

same_rates : (b : Bool) (rs : List ℕ) → within b rs ≡ true → map low_rate rs ≡ map rate_of rs
unfolding within
same_rates b [] h = refl
same_rates b (r ∷ rs) h =
    let l = ltb-true r 100000000 (and_right b (ltb r 100000000) (within_first (b && ltb r 100000000) rs h)) in
    ap₂ (λ (x : ℕ) (xs : List Rate). rate_of x ∷ xs) (let e : r % 4294967296 ≡ r = omega arith in e) (same_rates (b && ltb r 100000000) rs h)

-- rates that fit their field have
fit_within : (b : Bool) (rs : List ℕ) (qs : List Amount) → length rs ≤ length qs → b ≡ true → places_fit (map rate_of rs) qs ≡ true → within b rs ≡ true
unfolding within places_fit
fit_within b [] qs l t h = t
fit_within b (r ∷ rs) [] l t h = absurd (let z : ⊥ = omega arith in z)
fit_within b (r ∷ rs) (q ∷ qs) l t h =
    let f = and_left (fits 8 r && fits 15 q.0) (places_fit (map rate_of rs) qs) h in
    fit_within (b && ltb r 100000000) rs qs (omega arith) (ap₂ (λ (x y : Bool). x && y) t (and_left (fits 8 r) (fits 15 q.0) f)) (and_right (fits 8 r && fits 15 q.0) (places_fit (map rate_of rs) qs) h)

-- an application with other rates
abbrev pub with_rates : Application → List Rate → Application
with_rates a rates = record { sender = a.sender; recipient = a.recipient; cro = a.cro; date = a.date; time = a.time; check = a.check; rates = rates; amounts = a.amounts }

-- numbers or texts that do not fit are refused
unfit-write : (a : Application) (kind identifier name space : List ℕ) → (numbers_fit a && texts_fit kind identifier name) ≡ false → write a kind identifier name space ≡ (some 17, space)
unfolding write first_holding
unfit-write a kind identifier name space h = rw h

module _ (a : Application) (rs kind identifier name space : List ℕ) where
  abbrev b : Application
  b = with_rates a (map rate_of rs)

  -- a rate that is wider is refused
  pub wide-refused : length rs ≤ length a.amounts → within true rs ≡ false → (17, space) ≡ answered (write b kind identifier name space)
  wide-refused l w = go (numbers_fit b) refl
    where
      go : (t : Bool) → numbers_fit b ≡ t → (17, space) ≡ answered (write b kind identifier name space)
      go false e = sym (ap answered (unfit-write b kind identifier name space (ap (λ (t : Bool). t && texts_fit kind identifier name) e)))
      go true e =
          let f = and_right (address_fits a.sender && address_fits a.recipient && fits 11 a.cro && fits 8 a.date && fits 6 a.time && fits 5 a.check) (places_fit (map rate_of rs) a.amounts) (unfold numbers_fit in e) in
          absurd (false≢true (sym w ∙ fit_within true rs a.amounts l refl f))

  -- and where none is, what is answered for the rates that are held is answered for the rates themselves
  pub held-write : {rates : List Rate} {n : ℕ} {refusal : Option ℕ} {after : List ℕ} → within true rs ≡ true → rates ≡ map low_rate rs → (refusal, after) ≡ write (with_rates a rates) kind identifier name space → n ≡ answer_number refusal → (n, after) ≡ answered (write b kind identifier name space)
  held-write {after = after} w rates written number =
      ap (λ (n : ℕ). (n, after)) number ∙ ap answered (written ∙ ap (λ (rates : List Rate). write (with_rates a rates) kind identifier name space) (rates ∙ same_rates true rs w))
