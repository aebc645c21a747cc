-- The words of a newly opened tender, read back. Assumes nothing.
use mathlib.Core.Path.{◌≡◌, refl, sym, ap, ap₂, ◌∙◌}
use mathlib.Core.Bool.{true}
use mathlib.Core.List.{List, [], ◌∷◌, ◌++◌, map, append_assoc}
use Prim.Native.Nat.{ℕ, zero, suc, ◌+◌, ◌-◌, ◌≤◌, ◌<◌}
use native.Mathlib.Omega.{arith}
use lib.Dec.{ltb}
use lib.ListN.{length, take, drop, get_or, replicate, length-append, length-replicate, replicate-append-replicate}
use lib.Seq.{take_all, take_at, drop_at, get_or-append-add}
use borrow.Author.Tests.{lt-ltb, le-leb}
use Rattle.announcement.specs.declared.Side.{Side}
use Rattle.announcement.specs.declared.Side.TheVariants.{La, Lp}
use Rattle.rules.specs.Opening.{Admission, rising}
use Rattle.rules.specs.Receiving.{new_book}
use Rattle.book.specs.Viewed.{rate_of, amount_of, viewed, limits_in}
use Rattle.book.proofs.Empty.{empty_book, viewed_empty, new_whole, up_to64_stays, zeros_after}
use Rattle.terms.specs.declared.Terms.{Terms}
use Rattle.buffer.specs.Words.{tender_words, form_number, part, byte_in, low32, stored_rate, side_in, side_number, terms_in, book_in, is_tender, terms_numbers}
use Rattle.buffer.proofs.Words.{terms_from, terms_from_lem}
use Rattle.buffer_opening.specs.Opening.{Narrow, opened_numbers}
use Rattle.buffer_opening.proofs.Writing.{length-terms}

-- a part that stands between two others
part_of : (a b c : List ℕ) (at n : ℕ) → length a ≡ at → length b ≡ n → part at n (a ++ (b ++ c)) ≡ b
part_of a b c at n p q = ap (take n) (drop_at a (b ++ c) at p) ∙ take_at b c n q

regroup : (a b c d e : List ℕ) → a ++ b ++ (c ++ d) ++ e ≡ a ++ (b ++ c ++ (d ++ e))
regroup a b c d e = simp append_assoc

abbrev pub zeros : ℕ → List ℕ
zeros n = replicate n 0

zeros_join : (n k : ℕ) → zeros n ++ zeros k ≡ zeros (n + k)
zeros_join n k = replicate-append-replicate n k 0

-- a part that stands in zeros
zeros_part : (a rest : List ℕ) (at i n k : ℕ) → length a ≡ at → i + n ≤ k → part (at + i) n (a ++ (zeros k ++ rest)) ≡ zeros n
zeros_part a rest at i n k p h =
    let e : i + n + (k - i - n) ≡ k = omega arith in
    let z : zeros k ≡ zeros i ++ zeros n ++ zeros (k - i - n) = ap zeros (sym e) ∙ sym (ap (λ (l : List ℕ). l ++ zeros (k - i - n)) (zeros_join i n) ∙ zeros_join (i + n) (k - i - n)) in
    let apart : a ++ (zeros i ++ zeros n ++ zeros (k - i - n) ++ rest) ≡ a ++ zeros i ++ (zeros n ++ (zeros (k - i - n) ++ rest)) = simp append_assoc in
    ap (λ (l : List ℕ). part (at + i) n (a ++ (l ++ rest))) z
    ∙ ap (part (at + i) n) apart
    ∙ part_of (a ++ zeros i) (zeros n) (zeros (k - i - n) ++ rest) (at + i) n (length-append a (zeros i) ∙ omega (arith, p, length-replicate {A = ℕ} i 0)) (length-replicate n 0)

map-replicate : {A B : Type 0} (f : A → B) (n : ℕ) (x : A) → map f (replicate n x) ≡ replicate n (f x)
map-replicate f zero x = refl
map-replicate {A} {B} f (suc n) x = ap (λ (l : List B). f x ∷ l) (map-replicate f n x)

side_back : (s : Side) → side_in (side_number s) ≡ s
unfolding side_in
side_back La = refl
side_back Lp = refl

-- that many words leave eleven for the identifier
pub identifier_long : (t : Terms) (a : Admission) → length a.codes ≤ 64 → length a.limits ≤ 64 → length (opened_numbers t a) ≡ tender_words → length t.identifier ≡ 11
unfolding opened_numbers terms_numbers
identifier_long t a few few-limits h =
    let l = length-replicate {A = ℕ} (1472 - length a.codes) 0 in
    let r = length-replicate {A = ℕ} (64 - length a.limits) 0 in
    let k = simp length-append at h in
    omega (arith, l, r, k)

module _ (t : Terms) (narrow : Narrow t) (long : length t.identifier ≡ 11) where
  -- the terms of their numbers
  terms_back : terms_from (terms_numbers t) ≡ t
  unfolding terms_from terms_numbers
  terms_back =
      let ten = side_number t.side ∷ t.execution ∷ t.cutoff ∷ t.most ∷ t.offered.0 ∷ t.minimum.0 ∷ t.increment.0 ∷ t.maximum.0 ∷ t.allocation.0 ∷ t.limit.0 ∷ [] in
      let at : (k : ℕ) → get_or (t.identifier ++ ten) (11 + k) 0 ≡ get_or ten k 0 = λ k. ap (λ (n : ℕ). get_or (t.identifier ++ ten) (n + k) 0) (sym long) ∙ get_or-append-add t.identifier ten k 0 in
      let bytes : map byte_in (take 11 (t.identifier ++ ten)) ≡ t.identifier = ap (map byte_in) (take_at t.identifier ten 11 long) ∙ narrow.identifier-bytes in
      let side : side_in (get_or (t.identifier ++ ten) 11 0) ≡ t.side = ap side_in (at 0) ∙ side_back t.side in
      let limit : low32 (get_or (t.identifier ++ ten) 20 0) ≡ t.limit.0 = ap low32 (at 9) ∙ narrow.limit_bits in
      λ i. record {
        identifier = bytes i;
        side = side i;
        execution = at 1 i;
        cutoff = at 2 i;
        most = at 3 i;
        offered = amount_of (at 4 i);
        minimum = amount_of (at 5 i);
        increment = amount_of (at 6 i);
        maximum = amount_of (at 7 i);
        allocation = amount_of (at 8 i);
        limit = rate_of (limit i);
      }

  -- the words before the limits, and any words past them
  module _ (codes rest : List ℕ) (few : length codes ≤ 64) where
    abbrev head : List ℕ
    head = (form_number ∷ 0 ∷ length codes ∷ []) ++ terms_numbers t

    abbrev first : List ℕ
    first = head ++ codes ++ zeros (1472 - length codes)

    -- the 64 words of the codes
    abbrev kept : List ℕ
    kept = codes ++ zeros (64 - length codes)

    terms-first : terms_in (first ++ rest) ≡ t
    terms-first =
        let free = codes ++ (zeros (1472 - length codes) ++ rest) in
        let apart : first ++ rest ≡ (form_number ∷ 0 ∷ length codes ∷ []) ++ (terms_numbers t ++ free) = simp append_assoc in
        terms_from_lem (first ++ rest) ∙ ap terms_from (ap (part 3 21) apart ∙ part_of (form_number ∷ 0 ∷ length codes ∷ []) (terms_numbers t) free 3 21 refl (length-terms t long)) ∙ terms_back

    -- the terms end at word 24, the codes at word 88
    apart : first ++ rest ≡ head ++ (kept ++ (zeros 1408 ++ rest))
    apart =
        let e : 64 - length codes + 1408 ≡ 1472 - length codes = omega arith in
        let z : zeros (64 - length codes) ++ zeros 1408 ≡ zeros (1472 - length codes) = zeros_join (64 - length codes) 1408 ∙ ap zeros e in
        ap (λ (l : List ℕ). head ++ codes ++ l ++ rest) (sym z) ∙ regroup head codes (zeros (64 - length codes)) (zeros 1408) rest

    head_long : length head ≡ 24
    head_long = length-append (form_number ∷ 0 ∷ length codes ∷ []) (terms_numbers t) ∙ omega (arith, length-terms t long)

    first_long : length first ≡ 1496
    first_long =
        length-append (head ++ codes) (zeros (1472 - length codes))
        ∙ (let l = length-append head codes in omega (arith, l, head_long, few, length-replicate {A = ℕ} (1472 - length codes) 0))

    kept_long : length kept ≡ 64
    kept_long = length-append codes (zeros (64 - length codes)) ∙ omega (arith, length-replicate {A = ℕ} (64 - length codes) 0)

    codes-first : part 24 64 (first ++ rest) ≡ kept
    codes-first = ap (part 24 64) apart ∙ part_of head kept (zeros 1408 ++ rest) 24 64 head_long kept_long

    -- past the codes are zeros
    nothing : (i n : ℕ) → i + n ≤ 1408 → part (88 + i) n (first ++ rest) ≡ zeros n
    nothing i n h =
        let e : head ++ (kept ++ (zeros 1408 ++ rest)) ≡ head ++ kept ++ (zeros 1408 ++ rest) = sym (append_assoc head kept (zeros 1408 ++ rest)) in
        ap (part (88 + i) n) (apart ∙ e) ∙ zeros_part (head ++ kept) rest 88 i n 1408 (length-append head kept ∙ omega (arith, head_long, kept_long)) h

  module _ (a : Admission) (rest : List ℕ) (few : length a.codes ≤ 64) (counted : length a.limits ≡ length a.codes) where
    abbrev codes : List ℕ
    codes = a.codes

    abbrev opened : List ℕ
    opened = opened_numbers t a ++ rest

    -- the 64 words of the limits, and what stands past the words before them
    abbrev limited : List ℕ
    limited = a.limits ++ zeros (64 - length a.limits)

    abbrev past : List ℕ
    past = limited ++ rest

    parted : opened ≡ first codes past few ++ past
    unfolding opened_numbers
    parted = append_assoc (first codes past few) limited rest

    limited_long : length limited ≡ 64
    limited_long = length-append a.limits (zeros (64 - length a.limits)) ∙ omega (arith, length-replicate {A = ℕ} (64 - length a.limits) 0, few, counted)

    pub terms-read : terms_in opened ≡ t
    terms-read = ap terms_in parted ∙ terms-first codes past few

    codes-part : part 24 64 opened ≡ kept codes past few
    codes-part = ap (part 24 64) parted ∙ codes-first codes past few

    limits-part : part 1496 64 opened ≡ limited
    limits-part = ap (part 1496 64) parted ∙ part_of (first codes past few) limited rest 1496 64 (first_long codes past few) limited_long

    empty_part : (i n : ℕ) → i + n ≤ 1408 → part (88 + i) n opened ≡ zeros n
    empty_part i n h = ap (part (88 + i) n) parted ∙ nothing codes past few i n h

    pub book-read : book_in opened ≡ empty_book (kept codes past few) (length codes) limited
    unfolding book_in opened_numbers
    book-read =
        let held = empty_part 0 64 (omega arith) in
        let has = ap (map (ltb 0)) (empty_part 64 64 (omega arith)) ∙ map-replicate (ltb 0) 64 0 in
        let rates = ap (map stored_rate) (empty_part 128 640 (omega arith)) ∙ map-replicate stored_rate 640 0 in
        let amounts = ap (map amount_of) (empty_part 768 640 (omega arith)) ∙ map-replicate amount_of 640 0 in
        λ i. record { codes = codes-part i; n = length codes; limits = limits-part i; held = held i; has = has i; rates = rates i; amounts = amounts i }

    pub entries-read : viewed (book_in opened) ≡ new_book codes
    entries-read =
        let n = length codes in
        let stored : kept codes past few ≡ take n codes ++ drop n (zeros 64) = sym (ap₂ (λ (x y : List ℕ). x ++ y) (take_all n codes (omega arith)) (zeros_after n 64 few)) in
        ap viewed book-read ∙ viewed_empty codes (kept codes past few) (zeros 64) limited n n (sym (up_to64_stays n few)) (length-replicate {A = ℕ} 64 0) refl stored ∙ new_whole codes few

    -- the limits of the tender are those that it was opened with
    pub limits-read : limits_in (book_in opened) ≡ a.limits
    limits-read =
        ap limits_in book-read
        ∙ ap (λ (n : ℕ). take n limited) (up_to64_stays (length codes) few)
        ∙ take_at a.limits (zeros (64 - length a.limits)) (length codes) counted

    opened_long : length (opened_numbers t a) ≡ tender_words
    unfolding opened_numbers
    opened_long = length-append (first codes past few) limited ∙ omega (arith, first_long codes past few, limited_long)

    pub is_tender_lem : 0 < length codes → rising codes ≡ true → is_tender opened ≡ true
    unfolding is_tender opened_numbers
    is_tender_lem some rises =
        let whole : tender_words ≤ length opened = let l = length-append (opened_numbers t a) rest in omega (arith, l, opened_long) in
        let admitted : take (length codes) (part 24 64 opened) ≡ codes = ap (take (length codes)) codes-part ∙ take_at codes (zeros (64 - length codes)) (length codes) refl in
        rw (le-leb tender_words (length opened) whole, lt-ltb 0 (length codes) some, lt-ltb (length codes) 65 (omega (arith, few))) (ap rising admitted ∙ rises)
