-- Laws of what the numbers of a readable 6G1 tell. Assumes nothing.
use mathlib.Core.Path.{◌≡◌, refl, sym, ap, ap₂, ◌∙◌}
use mathlib.Core.Bool.{true}
use mathlib.Core.List.{List, [], ◌∷◌, ◌++◌}
use Prim.Native.Nat.{ℕ, ◌+◌, ◌*◌, ◌<◌}
use native.Mathlib.Numerals.{add-one}
use native.Mathlib.Omega.{arith}
use lib.Dec.{eqb, lit<}
use lib.ListN.{length, take, drop}
use borrow.Author.Tests.{lt-ltb}
use Rattle.digits.specs.Decimal.{Digits}
use Rattle.std.proofs.Common.{Some, None}
use Rattle.digits.specs.Decimal.{digits_of}
use Rattle.layout.specs.Fields.{readable, offset}
use Rattle.layout.proofs.Fields.{offset-within}
use Rattle.addresses.specs.declared.Address.{Address}
use Rattle.addresses.specs.Addresses.{code_address, address_of, text_start}
use Rattle.addresses.proofs.Reading.{five_is}
use Rattle.places.specs.Bids.{place_of}
use Rattle.envelope.specs.declared.application.Field.{Field}
use Rattle.envelope.specs.declared.application.Field.TheVariants.{Sender, Recipient, Bids}
use Rattle.envelope.specs.declared.application.Fields.{Fields}
use Rattle.envelope.specs.Application.{layout6_g1, position, bytes_of, fields_of, reading}
use Rattle.envelope.proofs.Promise.{longest_message, short_addresses, whole-field}
use Rattle.numbers.specs.ByNumber.{has_field, start_of, place_numbered, place_at}
use Rattle.numbers.specs.Numbers.{place_numbers, places_numbers, text_starts, address_numbers, addresses_numbers}
use Rattle.numbers.proofs.ByNumber.{fields_read, sender_there, recipient_there, place_there}

-- the short forms have nothing besides their codes
no_branch : (d : Digits) (text : ℕ) → address_numbers (code_address d) text ≡ 0 ∷ 0 ∷ 0 ∷ []
unfolding address_numbers
no_branch None text = refl
no_branch (Some n) text = refl

short_numbers : (a : Address) (s : List ℕ) (text : ℕ) → a ≡ address_of s → length s ≡ 5 → address_numbers a text ≡ 0 ∷ 0 ∷ 0 ∷ []
short_numbers a s text e l = ap (λ (x : Address). address_numbers x text) (e ∙ sym (five_is s l)) ∙ no_branch (digits_of s) text

module _ (m : List ℕ) (h : readable layout6_g1 m ≡ true) where
  -- where fields start
  start_there : (k at : ℕ) → k < 10 → at ≡ offset k m + 3 → at ≡ start_of k m
  unfolding start_of has_field
  start_there k at l e = rw (h, lt-ltb k 10 l) e

  pub starts_are : (kind identifier name : ℕ) → kind ≡ offset 0 m + 3 → identifier ≡ offset 7 m + 3 → name ≡ offset 9 m + 3 → (kind ∷ identifier ∷ name ∷ []) ≡ text_starts m
  unfolding text_starts
  starts_are kind identifier name p q r =
      let type = start_there 0 kind (lit< tt) p in
      let operation = start_there 7 identifier (lit< tt) q in
      let contact = start_there 9 name (lit< tt) r in
      λ i. type i ∷ operation i ∷ contact i ∷ []

  -- each start leaves room for more in a number
  pub start-within : (f : Field) (at : ℕ) → at ≡ offset (position f) m + 3 → at < 65536
  start-within f at e = omega (arith, offset-within (position f) m (offset (position f) m) (whole-field m h f) refl, longest_message m h)

  -- the long forms, with the indices of their characters
  pub sender_numbers : (at text : ℕ) → at ≡ offset 1 m + 3 → text ≡ text_start → address_numbers (address_of (bytes_of Sender m)) (at + text) ≡ address_numbers (reading m).1.sender (start_of 1 m + text_start)
  sender_numbers at text p q = ap₂ address_numbers (sym (sender_there m h)) (ap₂ (λ (j k : ℕ). j + k) (start_there 1 at (lit< tt) p) q)

  pub recipient_numbers : (at text : ℕ) → at ≡ offset 2 m + 3 → text ≡ text_start → address_numbers (address_of (bytes_of Recipient m)) (at + text) ≡ address_numbers (reading m).1.recipient (start_of 2 m + text_start)
  recipient_numbers at text p q = ap₂ address_numbers (sym (recipient_there m h)) (ap₂ (λ (j k : ℕ). j + k) (start_there 2 at (lit< tt) p) q)

  -- where both are short
  pub no_branches : eqb (length (bytes_of Sender m) + length (bytes_of Recipient m)) 10 ≡ true → ((0 ∷ 0 ∷ 0 ∷ []) ++ (0 ∷ 0 ∷ 0 ∷ [])) ≡ addresses_numbers m
  unfolding addresses_numbers
  no_branches t =
      let l = short_addresses m h t in
      sym
      (ap₂ (λ (s r : List ℕ). s ++ r)
      (short_numbers (reading m).1.sender (bytes_of Sender m) (start_of 1 m + text_start) (sender_there m h) l.0)
      (short_numbers (reading m).1.recipient (bytes_of Recipient m) (start_of 2 m + text_start) (recipient_there m h) l.1))

-- place k of the bids
pub place-part : (m : List ℕ) → readable layout6_g1 m ≡ true → (k : ℕ) → k < 10 → place_of (take 24 (drop (24 * k) (bytes_of Bids m))) ≡ place_at k m
unfolding place_at fields_of
place-part m h k l = sym (ap (λ (f : Fields). place_numbered k f.places) (fields_read m h) ∙ place_there k (bytes_of Bids m) l)

-- one more place
pub places_more : (k : ℕ) (m : List ℕ) → places_numbers k m ++ place_numbers (place_at k m) ≡ places_numbers (k + 1) m
unfolding places_numbers
places_more k m = rw add-one
