-- Laws of the fields and places of a 6G1 by their numbers. Assumes nothing.
use mathlib.Core.Path.{◌≡◌, refl, sym, ap, ◌∙◌}
use mathlib.Core.Logic.{◌≢◌}
use mathlib.Core.Bool.{true, false}
use mathlib.Core.List.{List, map}
use Prim.Native.Nat.{ℕ, zero, suc, ◌*◌, ◌≤◌, ◌<◌}
use native.Mathlib.Omega.{arith}
use lib.Dec.{ltb}
use lib.ListN.{length, take, drop, get_or, replicate, get_or-map, get_or-eq_default}
use borrow.Author.Tests.{ltb-true}
use Rattle.laws.proofs.Tests.{and_left, and_right}
use Rattle.std.proofs.Common.{None}
use Rattle.digits.specs.Decimal.{digits_of}
use Rattle.layout.specs.Fields.{readable, content, whole}
use Rattle.layout.proofs.ReturnTrip.{whole_of}
use Rattle.addresses.specs.Addresses.{address_of, code_digits}
use Rattle.places.specs.declared.Place.{Place}
use Rattle.places.specs.Bids.{malformed, place_of, places_in, columns, places_of}
use Rattle.places.proofs.Reading.{place_at}
use Rattle.envelope.specs.declared.application.Field.TheVariants.{Sender, Recipient}
use Rattle.envelope.specs.declared.application.Fields.{Fields}
use Rattle.envelope.specs.Refusals.{first_holding}
use Rattle.envelope.specs.Application.{layout6_g1, bytes_of, fields_of, no_fields, reading}
use Rattle.numbers.specs.ByNumber.{has_field, numbered, field_digits, place_numbered}

-- a field that is there is whole
pub whole_there : (k : ℕ) (m : List ℕ) → has_field k m ≡ true → whole k m ≡ true
unfolding has_field layout6_g1
whole_there k m h = whole_of layout6_g1 m (and_left (readable layout6_g1 m) (ltb k 10) h) k (ltb-true k 10 (and_right (readable layout6_g1 m) (ltb k 10) h))

-- the fields of a reading, where the message is readable and where it is not
pub fields_read : (m : List ℕ) → readable layout6_g1 m ≡ true → (reading m).1 ≡ fields_of m
unfolding reading first_holding
fields_read m h = rw h

pub fields_none : (m : List ℕ) → readable layout6_g1 m ≡ false → (reading m).1 ≡ no_fields
unfolding reading first_holding
fields_none m h = rw h

-- the digit fields by their numbers
digit_number : (k : ℕ) (m : List ℕ) → 3 ≤ k → k ≤ 6 → numbered k (fields_of m) ≡ digits_of (content k m)
unfolding numbered fields_of
digit_number zero m h l = absurd (let z : ⊥ = omega arith in z)
digit_number (suc zero) m h l = absurd (let z : ⊥ = omega arith in z)
digit_number (suc (suc zero)) m h l = absurd (let z : ⊥ = omega arith in z)
digit_number (suc (suc (suc zero))) m h l = refl
digit_number (suc (suc (suc (suc zero)))) m h l = refl
digit_number (suc (suc (suc (suc (suc zero))))) m h l = refl
digit_number (suc (suc (suc (suc (suc (suc zero)))))) m h l = refl
digit_number (suc (suc (suc (suc (suc (suc (suc k))))))) m h l = absurd (let z : ⊥ = omega arith in z)

no_digit_number : (k : ℕ) (fields : Fields) → k ≢ 1 → k ≢ 2 → k ≢ 3 → k ≢ 4 → k ≢ 5 → k ≢ 6 → numbered k fields ≡ None
unfolding numbered
no_digit_number zero fields a b c d e f = refl
no_digit_number (suc zero) fields a b c d e f = absurd (a refl)
no_digit_number (suc (suc zero)) fields a b c d e f = absurd (b refl)
no_digit_number (suc (suc (suc zero))) fields a b c d e f = absurd (c refl)
no_digit_number (suc (suc (suc (suc zero)))) fields a b c d e f = absurd (d refl)
no_digit_number (suc (suc (suc (suc (suc zero))))) fields a b c d e f = absurd (e refl)
no_digit_number (suc (suc (suc (suc (suc (suc zero)))))) fields a b c d e f = absurd (f refl)
no_digit_number (suc (suc (suc (suc (suc (suc (suc k))))))) fields a b c d e f = refl

nothing-numbered : (k : ℕ) → numbered k no_fields ≡ None
unfolding numbered
nothing-numbered zero = refl
nothing-numbered (suc zero) = refl
nothing-numbered (suc (suc zero)) = refl
nothing-numbered (suc (suc (suc zero))) = refl
nothing-numbered (suc (suc (suc (suc zero)))) = refl
nothing-numbered (suc (suc (suc (suc (suc zero))))) = refl
nothing-numbered (suc (suc (suc (suc (suc (suc zero)))))) = refl
nothing-numbered (suc (suc (suc (suc (suc (suc (suc k))))))) = refl

-- the addresses of a reading
module _ (m : List ℕ) (h : readable layout6_g1 m ≡ true) where
  pub sender_there : (reading m).1.sender ≡ address_of (bytes_of Sender m)
  unfolding fields_of
  sender_there = ap (λ (f : Fields). f.sender) (fields_read m h)

  pub recipient_there : (reading m).1.recipient ≡ address_of (bytes_of Recipient m)
  unfolding fields_of
  recipient_there = ap (λ (f : Fields). f.recipient) (fields_read m h)

  -- their codes
  pub sender_code : (k : ℕ) → k ≡ 1 → field_digits k m ≡ code_digits (address_of (bytes_of Sender m))
  unfolding field_digits numbered
  sender_code k e = ap (λ (j : ℕ). field_digits j m) e ∙ ap code_digits sender_there

  pub recipient_code : (k : ℕ) → k ≡ 2 → field_digits k m ≡ code_digits (address_of (bytes_of Recipient m))
  unfolding field_digits numbered
  recipient_code k e = ap (λ (j : ℕ). field_digits j m) e ∙ ap code_digits recipient_there

-- the other digit fields
module _ (k : ℕ) (m : List ℕ) where
  pub digits_there : readable layout6_g1 m ≡ true → 3 ≤ k → k ≤ 6 → field_digits k m ≡ digits_of (content k m)
  unfolding field_digits
  digits_there h l u = ap (numbered k) (fields_read m h) ∙ digit_number k m l u

  pub digits_other : k ≢ 1 → k ≢ 2 → k ≢ 3 → k ≢ 4 → k ≢ 5 → k ≢ 6 → None ≡ field_digits k m
  unfolding field_digits
  digits_other a b c d e f = sym (no_digit_number k (reading m).1 a b c d e f)

  pub digits_none : readable layout6_g1 m ≡ false → None ≡ field_digits k m
  unfolding field_digits
  digits_none h = sym (ap (numbered k) (fields_none m h) ∙ nothing-numbered k)

-- the places by their numbers
column : {A : Type 0} (f : Place → A) (s : List ℕ) (k : ℕ) → k < 10 → get_or (map f (places_in 10 s)) k (f malformed) ≡ f (place_of (take 24 (drop (24 * k) s)))
column f s k h = get_or-map f (places_in 10 s) k malformed ∙ ap f (place_at 10 s k h)

past : {A : Type 0} (f : Place → A) (ps : List Place) (k : ℕ) → length ps ≤ k → get_or (map f ps) k (f malformed) ≡ f malformed
past f ps k h = get_or-map f ps k malformed ∙ ap f (get_or-eq_default ps malformed h)

pub place_there : (k : ℕ) (s : List ℕ) → k < 10 → place_numbered k (places_of s) ≡ place_of (take 24 (drop (24 * k) s))
unfolding place_numbered places_of
place_there k s h =
    let formed = column (λ (p : Place). p.formed) s k h in
    let rate = column (λ (p : Place). p.rate) s k h in
    let amount = column (λ (p : Place). p.amount) s k h in
    λ i. record { formed = formed i; rate = rate i; amount = amount i }

pub place-past : (k : ℕ) (ps : List Place) → length ps ≤ k → malformed ≡ place_numbered k (columns ps)
unfolding place_numbered
place-past k ps h =
    let formed = past (λ (p : Place). p.formed) ps k h in
    let rate = past (λ (p : Place). p.rate) ps k h in
    let amount = past (λ (p : Place). p.amount) ps k h in
    sym (λ i. record { formed = formed i; rate = rate i; amount = amount i })

all-malformed : (n k : ℕ) → get_or (replicate n malformed) k malformed ≡ malformed
all-malformed zero k = refl
all-malformed (suc n) zero = refl
all-malformed (suc n) (suc k) = all-malformed n k

no_column : {A : Type 0} (f : Place → A) (k : ℕ) → get_or (map f (replicate 10 malformed)) k (f malformed) ≡ f malformed
no_column f k = get_or-map f (replicate 10 malformed) k malformed ∙ ap f (all-malformed 10 k)

pub place_none : (k : ℕ) → malformed ≡ place_numbered k no_fields.places
unfolding place_numbered
place_none k =
    let formed = no_column (λ (p : Place). p.formed) k in
    let rate = no_column (λ (p : Place). p.rate) k in
    let amount = no_column (λ (p : Place). p.amount) k in
    sym (λ i. record { formed = formed i; rate = rate i; amount = amount i })
