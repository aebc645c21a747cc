-- Laws of places written. Assumes nothing.
use mathlib.Core.Path.{◌≡◌, refl, sym, ap, ◌∙◌}
use mathlib.Core.Bool.{Bool, true, ◌&&◌, and_assoc, and-true}
use mathlib.Core.List.{List, [], ◌∷◌, ◌++◌, append_assoc, append-nil}
use Prim.Native.Nat.{ℕ, zero, suc, ◌+◌, ◌*◌, ◌/◌, ◌%◌, ◌≤◌, ◌<◌}
use native.Mathlib.Nat.{not-suc-le-zero, le_of_suc-le-suc}
use native.Mathlib.Numerals.{add-one}
use native.Mathlib.Omega.{arith}
use lib.Dec.{ltb}
use lib.ListN.{length, take, drop, get_or, length-append, drop_of_length-le}
use lib.Seq.{drop-cons}
use borrow.Author.Tests.{ltb-true}
use Rattle.laws.proofs.Tests.{and_left, and_right}
use Rattle.digits.specs.Decimal.{digits}
use Rattle.digits.proofs.Writing.{length_digits}
use Rattle.words.proofs.Text.{last_eight}
use Rattle.places.specs.declared.Rate.{Rate}
use Rattle.places.specs.declared.Amount.{Amount}
use Rattle.places.specs.Bids.{slash, place_text, places_text, places_fit}

pub length-place : (r : Rate) (a : Amount) → length (place_text r a) ≡ 24
unfolding place_text
length-place r a = simp (length-append, length_digits)

-- a place as its three words
pub place-words : (r : Rate) (a : Amount) → digits 8 r.0 ++ (slash ∷ digits 7 (a.0 / 100000000)) ++ digits 8 (a.0 % 100000000) ≡ place_text r a
unfolding place_text
place-words r a =
    let rate = digits 8 r.0 in
    let top = digits 7 (a.0 / 100000000) in
    let e : top ++ digits 8 (a.0 % 100000000) ≡ digits 15 a.0 = last_eight 15 a.0 (omega arith) in
    append_assoc rate (slash ∷ top) (digits 8 (a.0 % 100000000)) ∙ ap (λ (t : List ℕ). rate ++ (slash ∷ t)) e ∙ sym (append_assoc rate (slash ∷ []) (digits 15 a.0))

pub length-places : (n : ℕ) (rates : List Rate) (amounts : List Amount) → length rates ≡ n → length amounts ≡ n → length (places_text rates amounts) ≡ 24 * n
unfolding places_text
length-places n [] amounts h k = omega arith
length-places n (r ∷ rates) [] h k = absurd (let z : ⊥ = omega arith in z)
length-places zero (r ∷ rates) (a ∷ amounts) h k = absurd (let z : ⊥ = omega arith in z)
length-places (suc n) (r ∷ rates) (a ∷ amounts) h k = simp (length-append, length-place, length-places n rates amounts (omega arith) (omega arith)) (omega arith)

-- one more place
text_suc : (rates : List Rate) (amounts : List Amount) (k : ℕ) (d : Rate) (e : Amount) → k < length rates → k < length amounts
    → places_text (take k rates) (take k amounts) ++ place_text (get_or rates k d) (get_or amounts k e) ≡ places_text (take (suc k) rates) (take (suc k) amounts)
unfolding places_text
text_suc [] amounts k d e h l = absurd (not-suc-le-zero h)
text_suc (r ∷ rates) [] k d e h l = absurd (not-suc-le-zero l)
text_suc (r ∷ rates) (a ∷ amounts) zero d e h l = sym (append-nil (place_text r a))
text_suc (r ∷ rates) (a ∷ amounts) (suc k) d e h l =
    append_assoc (place_text r a) (places_text (take k rates) (take k amounts)) (place_text (get_or rates k d) (get_or amounts k e))
    ∙ ap (λ (t : List ℕ). place_text r a ++ t) (text_suc rates amounts k d e (le_of_suc-le-suc h) (le_of_suc-le-suc l))

pub text_more : (rates : List Rate) (amounts : List Amount) (k : ℕ) (d : Rate) (e : Amount) → k < length rates → k < length amounts
    → places_text (take k rates) (take k amounts) ++ place_text (get_or rates k d) (get_or amounts k e) ≡ places_text (take (k + 1) rates) (take (k + 1) amounts)
text_more rates amounts k d e h l = rw add-one (text_suc rates amounts k d e h l)

-- the loop over the test of the widths: one more place, and the end
pub fit_more : (ok : Bool) (rates : List Rate) (amounts : List Amount) (k : ℕ) (d : Rate) (e : Amount) → k < length rates → k < length amounts
    → ((ok && (ltb (get_or rates k d).0 100000000 && ltb (get_or amounts k e).0 1000000000000000)) && places_fit (drop (k + 1) rates) (drop (k + 1) amounts)) ≡ (ok && places_fit (drop k rates) (drop k amounts))
unfolding places_fit
fit_more ok rates amounts k d e h l =
    let x = ltb (get_or rates k d).0 100000000 in
    let y = ltb (get_or amounts k e).0 1000000000000000 in
    let z = places_fit (drop (suc k) rates) (drop (suc k) amounts) in
    rw (drop-cons rates k d h, drop-cons amounts k e l, add-one) (and_assoc ok (x && y) z)

pub fit_end : (ok : Bool) (rates : List Rate) (amounts : List Amount) (k : ℕ) → length rates ≤ k → (ok && places_fit (drop k rates) (drop k amounts)) ≡ ok
unfolding places_fit
fit_end ok rates amounts k h = rw (drop_of_length-le rates h) (and-true ok)

-- places that fit, fit one by one
fit_after : (rates : List Rate) (amounts : List Amount) (k : ℕ) → places_fit rates amounts ≡ true → places_fit (drop k rates) (drop k amounts) ≡ true
unfolding places_fit
fit_after rates amounts zero h = h
fit_after [] amounts (suc k) h = refl
fit_after (r ∷ rates) [] (suc k) h = go (drop k rates)
  where
    go : (rs : List Rate) → places_fit rs [] ≡ true
    go [] = refl
    go (q ∷ qs) = refl
fit_after (r ∷ rates) (a ∷ amounts) (suc k) h = fit_after rates amounts k (and_right (ltb r.0 100000000 && ltb a.0 1000000000000000) (places_fit rates amounts) h)

pub fit_at : (rates : List Rate) (amounts : List Amount) (k : ℕ) (d : Rate) (e : Amount) → k < length rates → k < length amounts → places_fit rates amounts ≡ true
    → ((get_or rates k d).0 < 100000000) × ((get_or amounts k e).0 < 1000000000000000)
unfolding places_fit
fit_at rates amounts k d e h l f =
    let x = ltb (get_or rates k d).0 100000000 in
    let y = ltb (get_or amounts k e).0 1000000000000000 in
    let g = and_left (x && y) (places_fit (drop (suc k) rates) (drop (suc k) amounts)) (rw (drop-cons rates k d h, drop-cons amounts k e l) at (fit_after rates amounts k f)) in
    (ltb-true (get_or rates k d).0 100000000 (and_left x y g), ltb-true (get_or amounts k e).0 1000000000000000 (and_right x y g))
