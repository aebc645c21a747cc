-- The four types in full are those that the parts allow. Assumes nothing.
use mathlib.Core.Path.{◌≡◌, refl, sym, ap, ap₂, ◌∙◌}
use mathlib.Core.Bool.{Bool, true, false, cond, ◌&&◌}
use mathlib.Core.List.{List, ◌++◌}
use mathlib.Core.Option.{Option, none, some, some-injective, some-ne-none}
use Prim.Native.Nat.{ℕ}
use native.Mathlib.Omega.{arith}
use lib.Dec.{eqb}
use lib.ListN.{length, take, drop}
use lib.Seq.{take_all, take-add}
use borrow.Author.Tests.{eqb-true}
use Rattle.std.proofs.Common as told
use Rattle.laws.proofs.Tests.{and_left, and_right}
use Rattle.texts.specs.Texts.{same_text, ascii}
use Rattle.texts.proofs.Texts.{same_is}
use Rattle.announcement.specs.declared.Side.{Side}
use Rattle.announcement.specs.declared.Side.TheVariants.{La, Lp}
use Rattle.announcement.specs.declared.Kind.{Kind}
use Rattle.announcement.specs.Announcement.{side_named, choice_named, tender_of, tender_named, fixed_parts, tender_type_of, type_text, FourTypes}

-- the letters of a side, and of a choice
abbrev side_letters : Side → List ℕ
side_letters La = ascii "LA"
side_letters Lp = ascii "LP"

abbrev choice_letter : Bool → List ℕ
choice_letter true = ascii "Y"
choice_letter false = ascii "N"

-- letters that name one of two name it by its own
named : {A : Type 0} (letters : A → List ℕ) (p q a : A) (s : List ℕ) → cond (same_text s (letters p)) (some p) (cond (same_text s (letters q)) (some q) none) ≡ some a → s ≡ letters a
named {A} letters p q a s = go (same_text s (letters p)) refl (same_text s (letters q)) refl
  where
    go : (x : Bool) → same_text s (letters p) ≡ x → (y : Bool) → same_text s (letters q) ≡ y → cond x (some p) (cond y (some q) none) ≡ some a → s ≡ letters a
    go true e y f h = same_is s (letters p) e ∙ ap letters (some-injective p a h)
    go false e true f h = same_is s (letters q) f ∙ ap letters (some-injective q a h)
    go false e false f h = absurd (some-ne-none a (sym h))

-- what a kind says, where it is a tender
abbrev side_in : told.Option Kind → Option Side
side_in (told.Some k) = some k.side
side_in told.None = none

abbrev choice_in : told.Option Kind → Option Bool
choice_in (told.Some k) = some k.choice
choice_in told.None = none

-- a tender has both its parts named
both : (x : Option Side) (y : Option Bool) (side : Side) (choice : Bool) → tender_named x y ≡ tender_of side choice → (x ≡ some side) × (y ≡ some choice)
both none y side choice h = absurd (some-ne-none side (sym (ap side_in h)))
both (some a) none side choice h = absurd (some-ne-none side (sym (ap side_in h)))
both (some a) (some b) side choice h = (ap side_in h, ap choice_in h)

abbrev join : List ℕ → List ℕ → List ℕ
join s t = s ++ t

-- a text of 18 bytes is its parts, joined
in_parts : (s : List ℕ) → length s ≡ 18 → s ≡ take 6 s ++ take 2 (drop 6 s) ++ take 3 (drop 8 s) ++ take 1 (drop 11 s) ++ take 6 (drop 12 s)
in_parts s l =
    sym (take_all 18 s (omega arith))
    ∙ take-add 12 6 s
    ∙ ap (λ (p : List ℕ). p ++ take 6 (drop 12 s)) (take-add 11 1 s ∙ ap (λ (p : List ℕ). p ++ take 1 (drop 11 s)) (take-add 8 3 s ∙ ap (λ (p : List ℕ). p ++ take 3 (drop 8 s)) (take-add 6 2 s)))

-- the parts of each type, joined, are its text
parts_joined : (side : Side) (choice : Bool) → ascii "NC/FD/" ++ side_letters side ++ ascii "/R/" ++ choice_letter choice ++ ascii "/VR/MR" ≡ type_text side choice
parts_joined La true = refl
parts_joined La false = refl
parts_joined Lp true = refl
parts_joined Lp false = refl

-- each text announces its tender
announces : (side : Side) (choice : Bool) → tender_type_of (type_text side choice) ≡ tender_of side choice
unfolding tender_type_of same_text
announces La true = refl
announces La false = refl
announces Lp true = refl
announces Lp false = refl

-- a text whose fixed parts stand and whose named parts name these is theirs
from_parts : (s : List ℕ) (side : Side) (choice : Bool) → eqb (length s) 18 && fixed_parts s ≡ true → tender_named (side_named (take 2 (drop 6 s))) (choice_named (take 1 (drop 11 s))) ≡ tender_of side choice → s ≡ type_text side choice
from_parts s side choice stand h =
    let fixed = and_right (eqb (length s) 18) (fixed_parts s) stand in
    let first = same_text (take 6 s) (ascii "NC/FD/") in
    let second = same_text (take 3 (drop 8 s)) (ascii "/R/") in
    let third = same_text (take 6 (drop 12 s)) (ascii "/VR/MR") in
    let firsts = and_left (first && second) third fixed in
    let parts = both (side_named (take 2 (drop 6 s))) (choice_named (take 1 (drop 11 s))) side choice h in
    let first_is = same_is (take 6 s) (ascii "NC/FD/") (and_left first second firsts) in
    let side_is = named side_letters La Lp side (take 2 (drop 6 s)) parts.0 in
    let second_is = same_is (take 3 (drop 8 s)) (ascii "/R/") (and_right first second firsts) in
    let choice_is = named choice_letter true false choice (take 1 (drop 11 s)) parts.1 in
    let third_is = same_is (take 6 (drop 12 s)) (ascii "/VR/MR") (and_right (first && second) third fixed) in
    in_parts s (eqb-true (length s) 18 (and_left (eqb (length s) 18) (fixed_parts s) stand))
    ∙ ap₂ join (ap₂ join (ap₂ join (ap₂ join first_is side_is) second_is) choice_is) third_is
    ∙ parts_joined side choice

-- and no other text does
no_other : (side : Side) (choice : Bool) (s : List ℕ) → tender_type_of s ≡ tender_of side choice → s ≡ type_text side choice
unfolding tender_type_of
no_other side choice s = go (eqb (length s) 18 && fixed_parts s) refl
  where
    go : (x : Bool) → eqb (length s) 18 && fixed_parts s ≡ x → cond x (tender_named (side_named (take 2 (drop 6 s))) (choice_named (take 1 (drop 11 s)))) told.None ≡ tender_of side choice → s ≡ type_text side choice
    go true e h = from_parts s side choice e h
    go false e h = absurd (some-ne-none side (sym (ap side_in h)))

pub four_types : FourTypes
four_types side choice = (announces side choice, no_other side choice)
