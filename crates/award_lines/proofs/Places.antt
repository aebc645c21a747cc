-- The lines of the awards by index, as the code writes them, are those of the book's entries. Assumes nothing.
use mathlib.Core.Path.{◌≡◌, refl, sym, ap, ap₂, ◌∙◌}
use mathlib.Core.List.{List, [], ◌∷◌, ◌++◌, map, map-append, append-nil, append_assoc}
use Prim.Native.Nat.{ℕ, zero, suc, ◌+◌, ◌*◌, ◌/◌, ◌%◌, ◌≤◌}
use native.Mathlib.Nat.{zero-add, add-zero, suc-add, add-suc}
use native.Mathlib.Omega.{arith}
use lib.ListN.{length, get_or, drop, length-append, length-map, get_or-map}
use lib.Seq.{drop-cons, drop-drop, drop_at, get_or-drop}
use Rattle.rules.specs.Allotment.{Bid}
use Rattle.rules.specs.Calls.{bids_in_book}
use Rattle.bids.specs.Columns.{bids_from, bids_of}
use Rattle.bids.proofs.Columns.{length-bids}
use Rattle.book.specs.declared.Book.{Book}
use Rattle.book.specs.Viewed.{entry_at, entries_from, up_to64, viewed, codes_in}
use Rattle.buffer.specs.Words.{low32}
use Rattle.log_rules.specs.Lines.{place_lines, award_lines}
use Rattle.award_lines.specs.Places.{line_if_any}

abbrev rate_of : Bid → ℕ
rate_of b = b.rate

-- the rates of bids that stand side by side with amounts
rates_back : (rates amounts : List ℕ) → length (bids_of rates amounts) ≡ length rates → map rate_of (bids_of rates amounts) ≡ rates
unfolding bids_of
rates_back [] amounts h = refl
rates_back (r ∷ rates) [] h = absurd (let z : ◌≡◌ {A = ℕ} 0 1 = omega arith in omega arith)
rates_back (r ∷ rates) (a ∷ amounts) h = ap (λ (l : List ℕ). r ∷ l) (rates_back rates amounts (omega arith))

-- each entry of a book has ten bids
ten : (b : Book) (i : ℕ) → length (bids_from b.rates b.amounts (10 * i) 10) ≡ 10
ten b i = length-bids b.rates b.amounts (10 * i) 10

-- as many codes as entries, and ten times as many bids
length-codes : (b : Book) (i d : ℕ) → length (codes_in (entries_from b i d)) ≡ d
unfolding entries_from codes_in
length-codes b i zero = refl
length-codes b i (suc d) = ap suc (length-codes b (suc i) d)

pub length_in_book : (b : Book) (i d : ℕ) → length (bids_in_book (entries_from b i d)) ≡ 10 * d
unfolding entries_from entry_at bids_in_book
length_in_book b i zero = refl
length_in_book b i (suc d) =
    length-append (bids_from b.rates b.amounts (10 * i) 10) (bids_in_book (entries_from b (suc i) d)) ∙ omega (arith, ten b i, length_in_book b (suc i) d)

-- what a list holds from an index on: the element there, and the rest
element_at : (l : List ℕ) (n x : ℕ) (m : List ℕ) → drop n l ≡ x ∷ m → (get_or l n 0 ≡ x) × (drop (suc n) l ≡ m)
element_at l n x m e = (
  ap (λ (k : ℕ). get_or l k 0) (sym (add-zero n)) ∙ sym (get_or-drop n l 0 0) ∙ ap (λ (k : List ℕ). get_or k 0 0) e,
  ap (λ (k : ℕ). drop k l) next ∙ sym (drop-drop 1 n l) ∙ ap (drop 1) e,
)
  where
    next : suc n ≡ n + 1
    next = omega arith

-- the line of the award at an index, if it is above zero
unfoldable pub line_at : List ℕ → List ℕ → List ℕ → ℕ → List ℕ
line_at codes rates awards i = line_if_any (get_or codes (i / 10) 0) (i % 10 + 1) (get_or rates i 0) (get_or awards i 0)

-- the same where the rate is that of a word
pub line_narrowed : (codes words awards : List ℕ) (i rate : ℕ) → rate ≡ low32 (get_or words i 0) → line_if_any (get_or codes (i / 10) 0) (i % 10 + 1) rate (get_or awards i 0) ≡ line_at codes (map low32 words) awards i
unfolding line_at
line_narrowed codes words awards i rate e = ap (λ (r : ℕ). line_if_any (get_or codes (i / 10) 0) (i % 10 + 1) r (get_or awards i 0)) (e ∙ sym (get_or-map low32 words i 0))

-- the lines of d awards from index i on
unfoldable pub lines_from : List ℕ → List ℕ → List ℕ → ℕ → ℕ → List ℕ
lines_from codes rates awards i zero = []
lines_from codes rates awards i (suc d) = line_at codes rates awards i ++ lines_from codes rates awards (suc i) d

module _ (codes rates awards : List ℕ) where
  lines_add : (i d e : ℕ) → lines_from codes rates awards i (d + e) ≡ lines_from codes rates awards i d ++ lines_from codes rates awards (i + d) e
  unfolding lines_from
  lines_add i zero e = rw (zero-add, add-zero)
  lines_add i (suc d) e =
      rw (suc-add, add-suc, ← suc-add)
      (rw (lines_add (suc i) d e)
      (sym (append_assoc (line_at codes rates awards i) (lines_from codes rates awards (suc i) d) (lines_from codes rates awards (suc i + d) e))))

  -- one more award
  pub lines_more : (i : ℕ) → lines_from codes rates awards 0 i ++ line_at codes rates awards i ≡ lines_from codes rates awards 0 (i + 1)
  unfolding lines_from
  lines_more i = sym (lines_add 0 i 1 ∙ rw (zero-add, append-nil))

  -- the lines of an entry's places from the one at index k on
  place_lines_lem : (i k n : ℕ) (bs : List Bid) (others : List ℕ) → k + length bs ≡ 10 → n ≡ 10 * i + k → n + length bs ≤ length awards
      → drop n rates ≡ map rate_of bs ++ others
      → place_lines (get_or codes i 0) (suc k) bs (drop n awards) ≡ lines_from codes rates awards n (length bs)
  unfolding place_lines lines_from line_at
  place_lines_lem i k n [] others whole at room same = refl
  place_lines_lem i k n (b ∷ bs) others whole at room same =
      ap (place_lines (get_or codes i 0) (suc k) (b ∷ bs)) (drop-cons awards n 0 (omega arith))
      ∙ ap₂ (λ (x y : List ℕ). x ++ y) line (place_lines_lem i (suc k) (suc n) bs others (omega arith) (omega arith) (omega arith) rate.1)
    where
      entry : n / 10 ≡ i
      entry = omega arith

      place : n % 10 + 1 ≡ suc k
      place = omega arith

      rate : (get_or rates n 0 ≡ b.rate) × (drop (suc n) rates ≡ map rate_of bs ++ others)
      rate = element_at rates n b.rate (map rate_of bs ++ others) same

      line : line_if_any (get_or codes i 0) (suc k) b.rate (get_or awards n 0) ≡ line_at codes rates awards n
      line = rw (entry, place, rate.0)

  -- the lines of d entries from index i on
  entry-lines : (b : Book) (i d : ℕ) → 10 * i + 10 * d ≤ length awards → drop i codes ≡ codes_in (entries_from b i d)
      → drop (10 * i) rates ≡ map rate_of (bids_in_book (entries_from b i d))
      → award_lines (entries_from b i d) (drop (10 * i) awards) ≡ lines_from codes rates awards (10 * i) (10 * d)
  unfolding award_lines entries_from entry_at lines_from codes_in bids_in_book
  entry-lines b i zero room same alike = refl
  entry-lines b i (suc d) room same alike =
      ap₂ (λ (x y : List ℕ). x ++ y)
      (ap (λ (c : ℕ). place_lines c 1 bids (drop (10 * i) awards)) (sym code.0)
      ∙ place_lines_lem i 0 (10 * i) bids (map rate_of others) (omega (arith, whole)) (omega arith) (omega (arith, whole)) both
      ∙ ap (lines_from codes rates awards (10 * i)) whole)
      (ap (award_lines (entries_from b (suc i) d)) (past awards)
      ∙ entry-lines b (suc i) d (omega arith) code.1 (sym (past rates) ∙ ap (drop (length bids)) both ∙ past_these)
      ∙ ap (λ (n : ℕ). lines_from codes rates awards n (10 * d)) next)
      ∙ sym (lines_add (10 * i) 10 (10 * d))
      ∙ ap (lines_from codes rates awards (10 * i)) more
    where
      bids : List Bid
      bids = bids_from b.rates b.amounts (10 * i) 10

      others : List Bid
      others = bids_in_book (entries_from b (suc i) d)

      whole : length bids ≡ 10
      whole = ten b i

      next : 10 * suc i ≡ 10 * i + 10
      next = omega arith

      more : 10 + 10 * d ≡ 10 * suc d
      more = omega arith

      past : (l : List ℕ) → drop (length bids) (drop (10 * i) l) ≡ drop (10 * suc i) l
      past l = rw (whole, next) (drop-drop 10 (10 * i) l)

      code : (get_or codes i 0 ≡ get_or b.codes i 0) × (drop (suc i) codes ≡ codes_in (entries_from b (suc i) d))
      code = element_at codes i (get_or b.codes i 0) (codes_in (entries_from b (suc i) d)) same

      both : drop (10 * i) rates ≡ map rate_of bids ++ map rate_of others
      both = alike ∙ map-append rate_of bids others

      past_these : drop (length bids) (map rate_of bids ++ map rate_of others) ≡ map rate_of others
      past_these = drop_at (map rate_of bids) (map rate_of others) (length bids) (length-map bids rate_of)

  -- the lines of all awards, where codes and rates are those of a book
  pub lines-viewed : (b : Book) (amounts : List ℕ) (i : ℕ) → length rates ≡ 10 * length codes → length awards ≡ 10 * length codes → i ≡ length awards
      → codes_in (viewed b) ≡ codes → bids_of rates amounts ≡ bids_in_book (viewed b)
      → lines_from codes rates awards 0 i ≡ award_lines (viewed b) awards
  unfolding viewed
  lines-viewed b amounts i as-rates as-awards end same alike =
      ap (lines_from codes rates awards 0) all
      ∙ sym (entry-lines b 0 (up_to64 b.n) (omega (arith, all, end)) (sym same) (sym (rates_back rates amounts (omega (arith, as-rates, count, bids))) ∙ ap (map rate_of) alike))
    where
      count : length codes ≡ up_to64 b.n
      count = ap length (sym same) ∙ length-codes b 0 (up_to64 b.n)

      bids : length (bids_of rates amounts) ≡ 10 * up_to64 b.n
      bids = ap length alike ∙ length_in_book b 0 (up_to64 b.n)

      all : i ≡ 10 * up_to64 b.n
      all = omega (arith, end, as-awards, count)
