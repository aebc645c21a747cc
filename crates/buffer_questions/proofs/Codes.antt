-- Laws of the codes of a tender and their limits: that the codes rise, and what is told of both. Assumes nothing.
use mathlib.Core.Path.{◌≡◌, refl, sym, ap, ◌∙◌}
use mathlib.Core.Bool.{Bool, true, false, ◌&&◌, and_assoc, and-true, false≢true}
use mathlib.Core.List.{List, [], ◌∷◌, ◌++◌}
use Prim.Native.Nat.{ℕ, zero, suc, ◌+◌, ◌-◌, ◌≤◌, ◌<◌}
use native.Mathlib.Omega.{arith}
use lib.Dec.{ltb}
use lib.ListN.{length, take, drop, get_or, length-drop}
use lib.Seq.{take-take, length-take-le}
use borrow.Author.Tests.{ltb-true, lt-ltb}
use Rattle.laws.proofs.Tests.{and_left, and_right, same_test}
use Rattle.output.specs.Output.{Wrote}
use Rattle.output.proofs.Output.{from_start}
use Rattle.rules.specs.Opening.{rising}
use Rattle.book.specs.Viewed.{limits_in}
use Rattle.book.proofs.Empty.{up_to64_stays, zeros_after}
use Rattle.buffer.specs.Words.{tender_words, part, book_in}
use Rattle.buffer.proofs.Words.{Known}
use Rattle.buffer_opening.proofs.Opened.{zeros}
use Rattle.buffer_questions.specs.Told.{counted_numbers}

rise_suc : (l : List ℕ) (k : ℕ) → suc k < length l → rising (take (suc k) l) && ltb (get_or l k 0) (get_or l (suc k) 0) ≡ rising (take (suc (suc k)) l)
unfolding rising
rise_suc [] k h = absurd (let z : ◌≡◌ {A = ℕ} 0 1 = omega arith in omega arith)
rise_suc (a ∷ []) k h = absurd (let z : ◌≡◌ {A = ℕ} 0 1 = omega arith in omega arith)
rise_suc (a ∷ b ∷ l) zero h = sym (and-true (ltb a b))
rise_suc (a ∷ b ∷ l) (suc k) h =
    and_assoc (ltb a b) (rising (b ∷ take k l)) (ltb (get_or (b ∷ l) k 0) (get_or (b ∷ l) (suc k) 0)) ∙ ap (λ (t : Bool). ltb a b && t) (rise_suc (b ∷ l) k (omega arith))

-- one more code, and whether it is above the one before it
pub rise_more : (l : List ℕ) (k : ℕ) → 0 < k → k < length l → rising (take k l) ≡ true → ltb (get_or l (k - 1) 0) (get_or l k 0) ≡ rising (take (k + 1) l)
rise_more l k p h r =
    let e : k ≡ suc (k - 1) = omega arith in
    let n : suc (suc (k - 1)) ≡ k + 1 = omega arith in
    let a : ltb (get_or l (k - 1) 0) (get_or l k 0) ≡ rising (take k l) && ltb (get_or l (k - 1) 0) (get_or l k 0) = ap (λ (t : Bool). t && ltb (get_or l (k - 1) 0) (get_or l k 0)) (sym r) in
    a ∙ ap (λ (j : ℕ). rising (take j l) && ltb (get_or l (k - 1) 0) (get_or l j 0)) e ∙ rise_suc l (k - 1) (omega arith) ∙ ap (λ (j : ℕ). rising (take j l)) n

-- two more codes that rise
pub rise_two : (l : List ℕ) (k : ℕ) → 0 < k → k + 1 < length l → rising (take k l) ≡ true → get_or l (k - 1) 0 < get_or l k 0 → get_or l k 0 < get_or l (k + 1) 0 → rising (take (k + 2) l) ≡ true
rise_two l k p h r a b =
    let one = sym (rise_more l k p (omega arith) r) ∙ lt-ltb (get_or l (k - 1) 0) (get_or l k 0) a in
    let e : k ≡ k + 1 - 1 = omega arith in
    let n : k + 1 + 1 ≡ k + 2 = omega arith in
    ap (λ (j : ℕ). rising (take j l)) (sym n)
    ∙ sym (rise_more l (k + 1) (omega arith) (omega arith) one)
    ∙ ap (λ (j : ℕ). ltb (get_or l j 0) (get_or l (k + 1) 0)) (sym e)
    ∙ lt-ltb (get_or l k 0) (get_or l (k + 1) 0) b

-- of codes that rise, each is above the one before it
rises_suc : (l : List ℕ) (n k : ℕ) → suc k < n → n ≤ length l → rising (take n l) ≡ true → get_or l k 0 < get_or l (suc k) 0
unfolding rising
rises_suc l zero k h m r = absurd (let z : ◌≡◌ {A = ℕ} 0 1 = omega arith in omega arith)
rises_suc l (suc zero) k h m r = absurd (let z : ◌≡◌ {A = ℕ} 0 1 = omega arith in omega arith)
rises_suc [] (suc (suc n)) k h m r = absurd (let z : ◌≡◌ {A = ℕ} 0 1 = omega arith in omega arith)
rises_suc (a ∷ []) (suc (suc n)) k h m r = absurd (let z : ◌≡◌ {A = ℕ} 0 1 = omega arith in omega arith)
rises_suc (a ∷ b ∷ l) (suc (suc n)) zero h m r = ltb-true a b (and_left (ltb a b) (rising (b ∷ take n l)) r)
rises_suc (a ∷ b ∷ l) (suc (suc n)) (suc k) h m r = rises_suc (b ∷ l) (suc n) k (omega arith) (omega arith) (and_right (ltb a b) (rising (b ∷ take n l)) r)

-- so that they do not where one is not
pub no_rise : (l : List ℕ) (n k : ℕ) → 0 < k → k < n → n ≤ length l → get_or l k 0 ≤ get_or l (k - 1) 0 → false ≡ rising (take n l)
no_rise l n k p h m f =
    let e : suc (k - 1) ≡ k = omega arith in
    let at : rising (take n l) ≡ true → get_or l (k - 1) 0 < get_or l k 0 = λ r. rw e at (rises_suc l n (k - 1) (omega arith) m r) in
    same_test false (rising (take n l)) (λ x. absurd (false≢true x)) (λ r. absurd (let b = at r in let z : ◌≡◌ {A = ℕ} 0 1 = omega (arith, b, f) in omega arith))

-- one code rises
pub rise_one : (l : List ℕ) → rising (take 1 l) ≡ true
unfolding rising
rise_one [] = refl
rise_one (a ∷ l) = refl

-- an array of 65 zeros in which the number of codes and a word for each of them are written
pub column_told : (ws : List ℕ) (from : ℕ) {after : List ℕ} {end : ℕ} → Known ws → from + 64 ≤ tender_words → Wrote (zeros 65) 0 ((get_or ws 2 0 ∷ []) ++ take (from + get_or ws 2 0 - from) (drop from ws)) after end
    → after ≡ counted_numbers (take (get_or ws 2 0) (part from 64 ws))
unfolding counted_numbers
column_told ws from k room w =
    let n = get_or ws 2 0 in
    let few : n ≤ 64 = omega (arith, k.few-codes) in
    let e : from + n - from ≡ n = omega arith in
    let column = take (from + n - from) (drop from ws) in
    let first : column ≡ take n (part from 64 ws) = ap (λ (j : ℕ). take j (drop from ws)) e ∙ sym (take-take n 64 (drop from ws) few) in
    let long : length column ≡ n = length-take-le (from + n - from) (drop from ws) (omega (arith, length-drop from ws, k.long, few, room)) ∙ e in
    w.bytes
    ∙ from_start (zeros 65) ((n ∷ []) ++ column)
    ∙ ap (λ (j : ℕ). j ∷ (column ++ drop (length column) (zeros 64))) (sym long)
    ∙ ap (λ (l : List ℕ). length column ∷ (column ++ l)) (zeros_after (length column) 64 (omega (arith, long, few)))
    ∙ ap counted_numbers first

-- the limits of the tender are the first of their part
pub limits_are : (ws : List ℕ) → Known ws → limits_in (book_in ws) ≡ take (get_or ws 2 0) (part 1496 64 ws)
unfolding book_in
limits_are ws k = ap (λ (n : ℕ). take n (part 1496 64 ws)) (up_to64_stays (get_or ws 2 0) (omega (arith, k.few-codes)))
