-- Laws of the fields of a readable 6G1: the first three by their lengths, the others by their distance from its end. Assumes nothing.
use mathlib.Core.Path.{◌≡◌, refl, sym, ap, ap₂, subst, ◌∙◌}
use mathlib.Core.Logic.{◌≢◌, ⊎_elim}
use mathlib.Core.Bool.{Bool, true, false, ◌&&◌}
use mathlib.Core.List.{List, [], ◌∷◌}
use Prim.Native.Nat.{ℕ, ◌+◌, ◌*◌, ◌-◌, ◌≤◌, ◌<◌}
use native.Mathlib.Omega.{arith}
use lib.Dec.{eqb}
use lib.ListN.{length, take, drop, length-drop}
use lib.Seq.{drop-drop, take_all, take-take, length-take-le}
use borrow.Author.Tests.{eqb-true, eq-eqb}
use Rattle.laws.proofs.Tests.{same_test}
use Rattle.digits.specs.Decimal.{digits_of}
use Rattle.layout.specs.Fields.{FieldEntry, one_of, IsOneOf, length_at, starts, readable, offset, content, whole}
use Rattle.layout.proofs.Fields.{starts-fits, starts-length, offset-within}
use Rattle.layout.proofs.ReturnTrip.{first, rest, Stands, is_one_of, field-whole, field-length}
use Rattle.layout.proofs.Fixed.{fixed, first-length, bytes_in}
use Rattle.layout.proofs.Ends.{readable_split, head-length, offset_next, offset_from_end}
use Rattle.addresses.specs.Addresses.{address_of, code_digits}
use Rattle.addresses.proofs.Reading.{part_of, code_of_five}
use Rattle.envelope.specs.declared.application.Field.{Field}
use Rattle.envelope.specs.declared.application.Field.TheVariants.{MessageType, Sender, Recipient, Cro, Date, Time, Check, Identifier, Bids, Name}
use Rattle.envelope.specs.Application.{one, either, entry_of, layout6_g1, position, bytes_of}

-- the first fields, and the last, which have one length each
abbrev pub first6_g1 : List FieldEntry
first6_g1 = entry_of MessageType ∷ entry_of Sender ∷ entry_of Recipient ∷ []

abbrev pub last6_g1 : List (ℕ × ℕ)
last6_g1 = (0x02, 11) ∷ (0x31, 8) ∷ (0x60, 6) ∷ (0x10, 5) ∷ (0x70, 11) ∷ (0x76, 240) ∷ (0x7f, 15) ∷ []

-- where the bytes of a field start, and how many they are, as the code has it: the last fields by their distance from the end
abbrev pub start_in : Field → List ℕ → ℕ
start_in MessageType m = 3
start_in Sender m = 9
start_in Recipient m = 12 + length_at (drop 6 m)
start_in Cro m = length m - 314
start_in Date m = length m - 300
start_in Time m = length m - 289
start_in Check m = length m - 280
start_in Identifier m = length m - 272
start_in Bids m = length m - 258
start_in Name m = length m - 15

abbrev pub width_in : Field → List ℕ → ℕ
width_in MessageType m = 3
width_in Sender m = length_at (drop 6 m)
width_in Recipient m = length_at (drop (9 + length_at (drop 6 m)) m)
width_in Cro m = 11
width_in Date m = 8
width_in Time m = 6
width_in Check m = 5
width_in Identifier m = 11
width_in Bids m = 240
width_in Name m = 15

-- one of the two lengths of an address, as the reader of addresses asks for it
abbrev FiveOrFourteen : ℕ → Type 0
FiveOrFourteen w = (w ≢ 5 → w ≡ 14) × (5 ≤ w) × (w ≤ 14)

five_or_fourteen : (w : ℕ) → IsOneOf (5 ∷ 14 ∷ []) w → FiveOrFourteen w
five_or_fourteen w o = ⊎_elim (λ e. ((λ n. absurd (n e)), omega arith, omega arith)) (λ e. ((λ n. e), omega arith, omega arith)) o

-- in 22 bytes the addresses of the first fields are short
abbrev pub short6_g1 : List (ℕ × ℕ)
short6_g1 = (0x01, 3) ∷ (0x04, 5) ∷ (0x05, 5) ∷ []

same_start : (tag : ℕ) (m : List ℕ) → length_at m ≡ 5 → starts (one tag 5) m ≡ starts (either tag 5 14) m
unfolding starts one_of
same_start tag m e = rw e

module _ (s : List ℕ) (l : length s ≡ 22) where
  abbrev second : List ℕ
  second = drop (3 + length_at s) s

  abbrev third : List ℕ
  third = drop (3 + length_at second) second

  same_first : length_at second ≡ 5 → length_at third ≡ 5 → readable (fixed short6_g1) s ≡ readable first6_g1 s
  unfolding readable fixed
  same_first p q =
      ap₂ (λ (x y : Bool). starts (entry_of MessageType) s && (x && (y && eqb (length (drop (3 + length_at third) third)) 0))) (same_start 0x04 second p) (same_start 0x05 third q)

  from_short : readable (fixed short6_g1) s ≡ true → readable first6_g1 s ≡ true
  unfolding fixed
  from_short h =
      let r = rest (one 0x01 3) (fixed (drop 1 short6_g1)) s h in
      let t = rest (one 0x04 5) (fixed (drop 2 short6_g1)) second r in
      sym (same_first (first-length (0x04, 5) (drop 2 short6_g1) second r) (first-length (0x05, 5) [] third t)) ∙ h

  to_short : readable first6_g1 s ≡ true → readable (fixed short6_g1) s ≡ true
  unfolding readable
  to_short h =
      let r = rest (entry_of MessageType) (drop 1 first6_g1) s h in
      let t = rest (entry_of Sender) (drop 2 first6_g1) second r in
      let f = first (entry_of MessageType) (drop 1 first6_g1) s h in
      let g = first (entry_of Sender) (drop 2 first6_g1) second r in
      let i = first (entry_of Recipient) [] third t in
      let n = is_one_of (3 ∷ []) (length_at s) (starts-length (entry_of MessageType) s f) in
      let w = five_or_fourteen (length_at second) (is_one_of (5 ∷ 14 ∷ []) (length_at second) (starts-length (entry_of Sender) second g)) in
      let v = five_or_fourteen (length_at third) (is_one_of (5 ∷ 14 ∷ []) (length_at third) (starts-length (entry_of Recipient) third i)) in
      let a : length second ≡ 16 = omega (arith, length-drop (3 + length_at s) s) in
      let b : length third + 3 + length_at second ≡ 16 = omega (arith, length-drop (3 + length_at second) second, starts-fits (entry_of Sender) second g) in
      let c = starts-fits (entry_of Recipient) third i in
      same_first (omega (arith, w.1, v.1)) (omega (arith, w.1, v.1)) ∙ h

  short_first : readable (fixed short6_g1) s ≡ readable first6_g1 s
  short_first = same_test (readable (fixed short6_g1) s) (readable first6_g1 s) from_short to_short

-- the last fields are tested first, as the part up to the end
module _ (m : List ℕ) (k : ℕ) (e : k + 317 ≡ length m) where
  parts : (readable (fixed last6_g1) (drop k m) && readable first6_g1 (take k m)) ≡ readable layout6_g1 m
  unfolding layout6_g1 fixed bytes_in
  parts = readable_split first6_g1 last6_g1 m k e

  to_end : take (length m - k) (drop k m) ≡ drop k m
  to_end = take_all (length m - k) (drop k m) (omega (arith, length-drop k m))

  with_first : (b : Bool) → readable (fixed last6_g1) (take (length m - k) (drop k m)) ≡ b → (b && readable first6_g1 (take k m)) ≡ readable layout6_g1 m
  with_first b h = ap (λ (t : Bool). t && readable first6_g1 (take k m)) (sym h ∙ ap (readable (fixed last6_g1)) to_end) ∙ parts

  pub both_parts : (r : Bool) → readable (fixed last6_g1) (take (length m - k) (drop k m)) ≡ true → r ≡ readable first6_g1 (take (k - 0) m) → r ≡ readable layout6_g1 m
  both_parts r h f = let z : k - 0 ≡ k = omega arith in f ∙ ap (λ (j : ℕ). readable first6_g1 (take j m)) z ∙ with_first true h

  pub short_parts : (r : Bool) → length m ≡ 339 → readable (fixed last6_g1) (take (length m - k) (drop k m)) ≡ true → r ≡ readable (fixed short6_g1) (take 22 m) → r ≡ readable layout6_g1 m
  short_parts r n h f =
      let z : 22 ≡ k = omega arith in
      f ∙ short_first (take 22 m) (length-take-le 22 m (omega arith)) ∙ ap (λ (j : ℕ). readable first6_g1 (take j m)) z ∙ with_first true h

  pub no_last_part : readable (fixed last6_g1) (take (length m - k) (drop k m)) ≡ false → false ≡ readable layout6_g1 m
  no_last_part h = with_first false h

-- each entry stands in the layout at its field's place
pub placed : (f : Field) → Stands layout6_g1 (position f) (entry_of f)
unfolding layout6_g1 Stands
placed MessageType = refl
placed Sender = refl
placed Recipient = refl
placed Cro = refl
placed Date = refl
placed Time = refl
placed Check = refl
placed Identifier = refl
placed Bids = refl
placed Name = refl

module _ (m : List ℕ) (h : readable layout6_g1 m ≡ true) where
  pub whole-field : (f : Field) → whole (position f) m ≡ true
  whole-field f = field-whole layout6_g1 m h (position f) (entry_of f) (placed f)

  pub length-field : (f : Field) → IsOneOf (entry_of f).lengths (length (bytes_of f m))
  length-field f = field-length layout6_g1 m h (position f) (entry_of f) (placed f)

  -- where sender and recipient stand, and how long they are
  sender_at : offset 1 m ≡ 6
  unfolding offset
  sender_at = let n = head-length layout6_g1 m h 0 (entry_of MessageType) (placed MessageType) in omega arith

  sender_length : FiveOrFourteen (length_at (drop 6 m))
  sender_length = five_or_fourteen (length_at (drop 6 m)) (rw sender_at at (head-length layout6_g1 m h 1 (entry_of Sender) (placed Sender)))

  recipient_at : offset 2 m ≡ 9 + length_at (drop 6 m)
  recipient_at = offset_next 1 m ∙ rw sender_at (omega arith)

  recipient_length : FiveOrFourteen (length_at (drop (9 + length_at (drop 6 m)) m))
  recipient_length = five_or_fourteen (length_at (drop (9 + length_at (drop 6 m)) m)) (rw recipient_at at (head-length layout6_g1 m h 2 (entry_of Recipient) (placed Recipient)))

  -- how long the message is
  by_heads : 329 + length_at (drop 6 m) + length_at (drop (9 + length_at (drop 6 m)) m) ≡ length m
  unfolding layout6_g1 fixed bytes_in
  by_heads =
      let e = offset_from_end layout6_g1 m 3 last6_g1 h (omega arith) refl in
      let n : offset 3 m ≡ 9 + length_at (drop 6 m) + 3 + length_at (drop (9 + length_at (drop 6 m)) m) = offset_next 2 m ∙ rw recipient_at refl in
      omega arith

  pub at_least_339 : 339 ≤ length m
  at_least_339 = omega (arith, by_heads, sender_length.1, recipient_length.1)

  pub at_most_357 : length m ≤ 357
  at_most_357 = omega (arith, by_heads, sender_length.2, recipient_length.2)

  sender_bytes : bytes_of Sender m ≡ take (length_at (drop 6 m)) (drop 9 m)
  unfolding content
  sender_bytes = rw (sender_at, drop-drop)

  recipient_bytes : bytes_of Recipient m ≡ take (length_at (drop (9 + length_at (drop 6 m)) m)) (drop (12 + length_at (drop 6 m)) m)
  unfolding content
  recipient_bytes =
      let i : 9 + length_at (drop 6 m) + 3 ≡ 12 + length_at (drop 6 m) = omega arith in
      rw (recipient_at, drop-drop, i)

  -- sender and recipient, as the code reads them
  pub sender_read : (w : ℕ) → w ≡ length_at (drop 6 m) → (w ≢ 5 → w ≡ 14) × (5 ≤ w) × (w + 334 ≤ length m) × (take w (drop 9 m) ≡ bytes_of Sender m)
  sender_read w e =
      let s = sender_length in
      let v = recipient_length.1 in
      let l = by_heads in
      (subst (λ (x : ℕ). x ≢ 5 → x ≡ 14) (sym e) s.0, omega (arith, s.1), omega arith, ap (λ (x : ℕ). take x (drop 9 m)) e ∙ sym sender_bytes)

  pub recipient_read : (w v : ℕ) → w ≡ length_at (drop 6 m) → v ≡ length_at (drop (9 + w) m) → (v ≢ 5 → v ≡ 14) × (5 ≤ v) × (329 + w + v ≡ length m) × (take v (drop (12 + w) m) ≡ bytes_of Recipient m)
  recipient_read w v e f =
      let g : v ≡ length_at (drop (9 + length_at (drop 6 m)) m) = f ∙ ap (λ (x : ℕ). length_at (drop (9 + x) m)) e in
      let r = recipient_length in
      let l = by_heads in
      (subst (λ (x : ℕ). x ≢ 5 → x ≡ 14) (sym g) r.0, omega (arith, r.1), omega arith, ap₂ (λ (x y : ℕ). take y (drop (12 + x) m)) e g ∙ sym recipient_bytes)

  length_sender : length (bytes_of Sender m) ≡ length_at (drop 6 m)
  length_sender =
      let s = sender_read (length_at (drop 6 m)) refl in
      ap length sender_bytes ∙ length-take-le (length_at (drop 6 m)) (drop 9 m) (omega (arith, s.2, length-drop 9 m))

  length_recipient : length (bytes_of Recipient m) ≡ length_at (drop (9 + length_at (drop 6 m)) m)
  length_recipient =
      let w = length_at (drop 6 m) in
      let r = recipient_read w (length_at (drop (9 + w) m)) refl refl in
      ap length recipient_bytes ∙ length-take-le (length_at (drop (9 + w) m)) (drop (12 + w) m) (omega (arith, r.2, length-drop (12 + w) m))

  pub length_6g1 : length m ≡ 329 + length (bytes_of Sender m) + length (bytes_of Recipient m)
  length_6g1 = omega (arith, by_heads, length_sender, length_recipient)

  pub sender_within : (5 ≤ length (bytes_of Sender m)) × (length (bytes_of Sender m) ≤ 14)
  sender_within = (omega (arith, length_sender, sender_length.1), omega (arith, length_sender, sender_length.2))

  -- the code that both forms of a sender start with
  pub code-bytes : take 5 (drop 9 m) ≡ take 5 (bytes_of Sender m)
  code-bytes = sym (ap (take 5) sender_bytes ∙ take-take 5 (length_at (drop 6 m)) (drop 9 m) sender_length.1)

  -- where the bytes of each field start
  from_end : (k : ℕ) (fs : List (ℕ × ℕ)) (d : ℕ) → k ≤ length layout6_g1 → drop k layout6_g1 ≡ fixed fs → bytes_in fs ≡ 3 + d → length m - d ≡ offset k m + 3
  from_end k fs d l e q = omega (arith, offset_from_end layout6_g1 m k fs h l e)

  pub start_is : (f : Field) → start_in f m ≡ offset (position f) m + 3
  unfolding layout6_g1 fixed bytes_in offset
  start_is MessageType = refl
  start_is Sender = omega (arith, sender_at)
  start_is Recipient = omega (arith, recipient_at)
  start_is Cro = from_end 3 last6_g1 314 (omega arith) refl refl
  start_is Date = from_end 4 (drop 1 last6_g1) 300 (omega arith) refl refl
  start_is Time = from_end 5 (drop 2 last6_g1) 289 (omega arith) refl refl
  start_is Check = from_end 6 (drop 3 last6_g1) 280 (omega arith) refl refl
  start_is Identifier = from_end 7 (drop 4 last6_g1) 272 (omega arith) refl refl
  start_is Bids = from_end 8 (drop 5 last6_g1) 258 (omega arith) refl refl
  start_is Name = from_end 9 (drop 6 last6_g1) 15 (omega arith) refl refl

  -- and how many they are
  pub width_is : (f : Field) → width_in f m ≡ length (bytes_of f m)
  width_is MessageType = sym (length-field MessageType)
  width_is Sender = sym length_sender
  width_is Recipient = sym length_recipient
  width_is Cro = sym (length-field Cro)
  width_is Date = sym (length-field Date)
  width_is Time = sym (length-field Time)
  width_is Check = sym (length-field Check)
  width_is Identifier = sym (length-field Identifier)
  width_is Bids = sym (length-field Bids)
  width_is Name = sym (length-field Name)

  -- the bytes of a field, as a part of the message
  pub part_is : (f : Field) (at w : ℕ) → at ≡ offset (position f) m + 3 → w ≡ length (bytes_of f m) → (at + w ≤ length m) × (take (at + w - at) (drop at m) ≡ bytes_of f m)
  unfolding content
  part_is f at w p q =
      let o = offset (position f) m in
      let n = length_at (drop o m) in
      let l = offset-within (position f) m o (whole-field f) refl in
      let e : w ≡ n = q ∙ length-take-le n (drop 3 (drop o m)) (omega (arith, l, length-drop 3 (drop o m), length-drop o m)) in
      let i : at + w - at ≡ n = omega arith in
      (omega arith, ap₂ (λ (x y : ℕ). take x (drop y m)) i p ∙ ap (take n) (sym (drop-drop 3 o m)))

  pub field_is : (f : Field) (at : ℕ) → at ≡ offset (position f) m + 3 → (at + width_in f m ≤ length m) × (take (at + width_in f m - at) (drop at m) ≡ bytes_of f m)
  field_is f at p = part_is f at (width_in f m) p (width_is f)

  -- a place, in the same way
  pub place_is : (k at : ℕ) → k < 10 → at ≡ length m - 258 + 24 * k → (at + 24 ≤ length m) × (take (at + 24 - at) (drop at m) ≡ take 24 (drop (24 * k) (bytes_of Bids m)))
  place_is k at l p =
      let from = length m - 258 in
      let n = at_least_339 in
      let i : at + 24 - at ≡ 24 = omega arith in
      let j : from + 240 - from ≡ 240 = omega arith in
      let bids : take 240 (drop from m) ≡ bytes_of Bids m = ap (λ (x : ℕ). take x (drop from m)) (sym j) ∙ (field_is Bids from (start_is Bids)).1 in
      let inside = part_of (24 * k) 24 240 (drop from m) (omega arith) ∙ ap (take 24) (drop-drop (24 * k) from m) in
      (omega arith, ap₂ (λ (x y : ℕ). take x (drop y m)) i p ∙ sym inside ∙ ap (λ (s : List ℕ). take 24 (drop (24 * k) s)) bids)

  -- both addresses are short in 339 bytes only, and each of them then
  abbrev Short : Bool
  Short = eqb (length (bytes_of Sender m) + length (bytes_of Recipient m)) 10

  pub short_test : eqb (length m) 339 ≡ Short
  short_test =
      let s = length (bytes_of Sender m) in
      let r = length (bytes_of Recipient m) in
      let l = length_6g1 in
      same_test (eqb (length m) 339) Short (λ t. let e = eqb-true (length m) 339 t in eq-eqb (s + r) 10 (omega arith)) (λ t. let e = eqb-true (s + r) 10 t in eq-eqb (length m) 339 (omega arith))

  pub short_addresses : Short ≡ true → (length (bytes_of Sender m) ≡ 5) × (length (bytes_of Recipient m) ≡ 5)
  short_addresses t =
      let e = eqb-true (length (bytes_of Sender m) + length (bytes_of Recipient m)) 10 t in
      let r : 5 ≤ length (bytes_of Recipient m) = omega (arith, length_recipient, recipient_length.1) in
      (omega (arith, sender_within.0), omega (arith, sender_within.0))

  pub short_sender : Short ≡ true → digits_of (take 5 (drop 9 m)) ≡ code_digits (address_of (bytes_of Sender m))
  short_sender t =
      let e = (short_addresses t).0 in
      ap digits_of (part_is Sender 9 5 (start_is Sender) (sym e)).1 ∙ code_of_five (bytes_of Sender m) e

  pub short_recipient : Short ≡ true → digits_of (take 5 (drop 17 m)) ≡ code_digits (address_of (bytes_of Recipient m))
  short_recipient t =
      let e = short_addresses t in
      let i : 17 ≡ offset 2 m + 3 = omega (arith, start_is Recipient, length_sender, e.0) in
      ap digits_of (part_is Recipient 17 5 i (sym e.1)).1 ∙ code_of_five (bytes_of Recipient m) e.1

-- what is under 339 bytes is not readable
pub short_6g1 : (m : List ℕ) → length m < 339 → false ≡ readable layout6_g1 m
short_6g1 m l = go (readable layout6_g1 m) refl
  where
    go : (t : Bool) → readable layout6_g1 m ≡ t → false ≡ t
    go true e = absurd (let z = at_least_339 m e in omega arith)
    go false e = refl
