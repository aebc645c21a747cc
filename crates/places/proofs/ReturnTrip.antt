-- Places written read back, and well-formed places read, written from their numbers, are the same bytes. Assumes nothing.
use mathlib.Core.Path.{◌≡◌, refl, sym, ap, ◌∙◌}
use mathlib.Core.Bool.{Bool, true, false, cond, ◌&&◌, false≢true}
use mathlib.Core.List.{List, [], ◌∷◌, ◌++◌, map}
use Prim.Native.Nat.{ℕ, zero, suc, ◌*◌, ◌^◌}
use native.Mathlib.Omega.{arith}
use lib.Dec.{eqb}
use lib.ListN.{length, take, drop, get_or, replicate, length-append, length-drop, take-append-drop}
use lib.Seq.{append_snoc, get_or_at, take_at, drop_at, take_all, split_at, length-take-le}
use borrow.Author.Tests.{eqb-true, lt-ltb, ltb-true}
use Rattle.laws.proofs.Tests.{and_left, and_right}
use Rattle.digits.specs.Decimal.{all_digits, number_of, digits}
use Rattle.digits.proofs.Reading.{number_is, number_below}
use Rattle.digits.proofs.Writing.{length_digits, written-digits, written-number, number-written}
use Rattle.places.specs.declared.Rate.{Rate}
use Rattle.places.specs.declared.Amount.{Amount}
use Rattle.places.specs.declared.Place.{Place}
use Rattle.places.specs.Bids.{slash, formed_place, malformed, is_place, place_of, places_in, columns, all_formed, place_text, places_text, fits, places_fit}
use Rattle.places.proofs.Writing.{length-place}

-- the parts of a place written
module _ (r : Rate) (a : Amount) where
  text-slash : get_or (place_text r a) 8 0 ≡ slash
  unfolding place_text
  text-slash = ap (λ (l : List ℕ). get_or l 8 0) (append_snoc (digits 8 r.0) slash (digits 15 a.0)) ∙ get_or_at (digits 8 r.0) slash (digits 15 a.0) 0 8 (length_digits 8 r.0)

  text-rate : take 8 (place_text r a) ≡ digits 8 r.0
  unfolding place_text
  text-rate = ap (take 8) (append_snoc (digits 8 r.0) slash (digits 15 a.0)) ∙ take_at (digits 8 r.0) (slash ∷ digits 15 a.0) 8 (length_digits 8 r.0)

  text-amount : take 15 (drop 9 (place_text r a)) ≡ digits 15 a.0
  unfolding place_text
  text-amount =
      let n : length (digits 8 r.0 ++ (slash ∷ [])) ≡ 9 = simp (length-append, length_digits) in
      let m : length (digits 15 a.0) ≡ 15 = length_digits 15 a.0 in
      ap (take 15) (drop_at (digits 8 r.0 ++ (slash ∷ [])) (digits 15 a.0) 9 n) ∙ take_all 15 (digits 15 a.0) (omega arith)

  text_is_place : is_place (place_text r a) ≡ true
  unfolding is_place
  text_is_place = rw (text-slash, text-rate, text-amount, written-digits, written-digits)

  -- a place written reads back
  place_back : fits 8 r.0 ≡ true → fits 15 a.0 ≡ true → place_of (place_text r a) ≡ formed_place r.0 a.0
  unfolding place_of
  place_back h k =
      rw (text_is_place, text-rate, text-amount, written-number 8 r.0 (ltb-true r.0 (10 ^ 8) h), written-number 15 a.0 (ltb-true a.0 (10 ^ 15) k))

-- places written read back: each is well formed and has its rate and amount
pub record Back (n : ℕ) (rs : List Rate) (qs : List Amount) (ps : List Place) : Type 0 where
  pub formed : map (λ (p : Place). p.formed) ps ≡ replicate n true
  pub rates : map (λ (p : Place). p.rate) ps ≡ rs
  pub amounts : map (λ (p : Place). p.amount) ps ≡ qs

back_of : (n : ℕ) (rates : List Rate) (amounts : List Amount) → length rates ≡ n → length amounts ≡ n → places_fit rates amounts ≡ true → Back n rates amounts (places_in n (places_text rates amounts))
unfolding places_in places_text places_fit
back_of zero [] [] h k f = record { formed = refl; rates = refl; amounts = refl }
back_of zero (r ∷ rates) amounts h k f = absurd (let z : ⊥ = omega arith in z)
back_of zero [] (a ∷ amounts) h k f = absurd (let z : ⊥ = omega arith in z)
back_of (suc n) [] amounts h k f = absurd (let z : ⊥ = omega arith in z)
back_of (suc n) (r ∷ rates) [] h k f = absurd (let z : ⊥ = omega arith in z)
back_of (suc n) (r ∷ rates) (a ∷ amounts) h k f =
    let w = and_left (fits 8 r.0 && fits 15 a.0) (places_fit rates amounts) f in
    let e = place_back r a (and_left (fits 8 r.0) (fits 15 a.0) w) (and_right (fits 8 r.0) (fits 15 a.0) w) in
    let b = back_of n rates amounts (omega arith) (omega arith) (and_right (fits 8 r.0 && fits 15 a.0) (places_fit rates amounts) f) in
    let t = take_at (place_text r a) (places_text rates amounts) 24 (length-place r a) in
    let d = drop_at (place_text r a) (places_text rates amounts) 24 (length-place r a) in
    record { formed = rw (t, d, e, b.formed); rates = rw (t, d, e, b.rates); amounts = rw (t, d, e, b.amounts) }

pub places_back : (n : ℕ) (rates : List Rate) (amounts : List Amount) → length rates ≡ n → length amounts ≡ n → places_fit rates amounts ≡ true
    → columns (places_in n (places_text rates amounts)) ≡ record { formed = replicate n true; rates = rates; amounts = amounts }
places_back n rates amounts h k f =
    let b = back_of n rates amounts h k f in
    λ i. record { formed = b.formed i; rates = b.rates i; amounts = b.amounts i }

-- a well-formed place read, written from its numbers
formed_is : (s : List ℕ) → (place_of s).formed ≡ true → is_place s ≡ true
unfolding place_of
formed_is s h = go (is_place s) refl
  where
    go : (t : Bool) → is_place s ≡ t → is_place s ≡ true
    go true e = e
    go false e = absurd (false≢true (sym (ap (λ (b : Bool). (cond b (formed_place (number_of (take 8 s)) (number_of (take 15 (drop 9 s)))) malformed).formed) e) ∙ h))

module _ (s : List ℕ) (l : length s ≡ 24) (h : is_place s ≡ true) where
  slashed : get_or s 8 0 ≡ slash
  unfolding is_place
  slashed = eqb-true (get_or s 8 0) slash (and_left (eqb (get_or s 8 0) slash) (all_digits (take 8 s)) (and_left (eqb (get_or s 8 0) slash && all_digits (take 8 s)) (all_digits (take 15 (drop 9 s))) h))

  rate-digits : all_digits (take 8 s) ≡ true
  unfolding is_place
  rate-digits = and_right (eqb (get_or s 8 0) slash) (all_digits (take 8 s)) (and_left (eqb (get_or s 8 0) slash && all_digits (take 8 s)) (all_digits (take 15 (drop 9 s))) h)

  amount-digits : all_digits (take 15 (drop 9 s)) ≡ true
  unfolding is_place
  amount-digits = and_right (eqb (get_or s 8 0) slash && all_digits (take 8 s)) (all_digits (take 15 (drop 9 s))) h

  rate-length : length (take 8 s) ≡ 8
  rate-length = length-take-le 8 s (omega arith)

  amount-length : length (take 15 (drop 9 s)) ≡ 15
  amount-length = length-take-le 15 (drop 9 s) (simp length-drop (omega arith))

  place-written : place_text (place_of s).rate (place_of s).amount ≡ s
  unfolding place_of place_text
  place-written =
      let n : length (drop 9 s) ≡ 15 = length-drop 9 s ∙ omega arith in
      let w = take_all 15 (drop 9 s) (omega arith) in
      rw
      (h, number-written 8 (number_of (take 8 s)) (take 8 s) rate-length (number_is (take 8 s) rate-digits), number-written 15 (number_of (take 15 (drop 9 s))) (take 15 (drop 9 s)) amount-length (number_is (take 15 (drop 9 s)) amount-digits), w, ← slashed)
      (append_snoc (take 8 s) (get_or s 8 0) (drop 9 s) ∙ sym (split_at s 8 0 (omega arith)))

  place-fits : fits 8 (place_of s).rate.0 && fits 15 (place_of s).amount.0 ≡ true
  unfolding place_of
  place-fits =
      rw (h, lt-ltb (number_of (take 8 s)) (10 ^ 8) (number_below 8 (take 8 s) rate-length rate-digits), lt-ltb (number_of (take 15 (drop 9 s))) (10 ^ 15) (number_below 15 (take 15 (drop 9 s)) amount-length amount-digits))

-- well-formed places read, written from their numbers, are the same bytes; and their numbers fit
abbrev formed_in : ℕ → List ℕ → Bool
formed_in n s = all_formed (map (λ (p : Place). p.formed) (places_in n s))

abbrev rates_in : ℕ → List ℕ → List Rate
rates_in n s = map (λ (p : Place). p.rate) (places_in n s)

abbrev amounts_in : ℕ → List ℕ → List Amount
amounts_in n s = map (λ (p : Place). p.amount) (places_in n s)

first-place : (n : ℕ) (s : List ℕ) → formed_in (suc n) s ≡ true → is_place (take 24 s) ≡ true
unfolding places_in all_formed
first-place n s f = formed_is (take 24 s) (and_left (place_of (take 24 s)).formed (formed_in n (drop 24 s)) f)

rest_places : (n : ℕ) (s : List ℕ) → formed_in (suc n) s ≡ true → formed_in n (drop 24 s) ≡ true
unfolding places_in all_formed
rest_places n s f = and_right (place_of (take 24 s)).formed (formed_in n (drop 24 s)) f

pub places-written : (n : ℕ) (s : List ℕ) → length s ≡ 24 * n → formed_in n s ≡ true → places_text (rates_in n s) (amounts_in n s) ≡ s
unfolding places_in places_text
places-written zero [] l f = refl
places-written zero (b ∷ s) l f = absurd (let z : ⊥ = omega arith in z)
places-written (suc n) s l f =
    let d : length (drop 24 s) ≡ 24 * n = length-drop 24 s ∙ omega arith in
    rw (place-written (take 24 s) (length-take-le 24 s (omega arith)) (first-place n s f), places-written n (drop 24 s) d (rest_places n s f)) (take-append-drop 24 s)

pub places_fit_lem : (n : ℕ) (s : List ℕ) → length s ≡ 24 * n → formed_in n s ≡ true → places_fit (rates_in n s) (amounts_in n s) ≡ true
unfolding places_in places_fit
places_fit_lem zero s l f = refl
places_fit_lem (suc n) s l f =
    let d : length (drop 24 s) ≡ 24 * n = length-drop 24 s ∙ omega arith in
    rw (place-fits (take 24 s) (length-take-le 24 s (omega arith)) (first-place n s f), places_fit_lem n (drop 24 s) d (rest_places n s f))
