-- The places of the arrays are the bids of the entries, in book order, as numbers too. Assumes nothing.
use mathlib.Core.Path.{◌≡◌, refl, sym, ap, ap₂, ◌∙◌}
use mathlib.Core.List.{List, [], ◌∷◌, ◌++◌, map}
use Prim.Native.Nat.{ℕ, zero, suc, ◌+◌, ◌*◌, ◌≤◌}
use native.Mathlib.Omega.{arith}
use lib.ListN.{length, get_or, take, drop}
use lib.Seq.{drop-cons}
use Rattle.places.specs.declared.Rate.{Rate}
use Rattle.places.specs.declared.Amount.{Amount}
use Rattle.rules.specs.Allotment.{Bid}
use Rattle.rules.specs.Calls.{bids_in_book}
use Rattle.bids.specs.Columns.{bids_from, bids_of, cents}
use Rattle.bids.proofs.Columns.{bids_add, bids_shifted}
use Rattle.book.specs.declared.Book.{Book}
use Rattle.book.specs.Viewed.{hundred_thousandths, entry_at, entries_from, up_to64, viewed, codes_in}
use Rattle.book.proofs.Empty.{up_to64_small}

bids-nothing : (rs : List Rate) (xs : List Amount) (i : ℕ) → bids_from rs xs i (10 * zero) ≡ []
unfolding bids_from
bids-nothing rs xs i = refl

bids-entries : (b : Book) (i d : ℕ) → bids_in_book (entries_from b i d) ≡ bids_from b.rates b.amounts (10 * i) (10 * d)
unfolding bids_in_book entries_from entry_at
bids-entries b i zero = sym (bids-nothing b.rates b.amounts (10 * i))
bids-entries b i (suc d) =
    ap (λ l. bids_from b.rates b.amounts (10 * i) 10 ++ l) (bids-entries b (suc i) d)
    ∙ ap (λ (x : ℕ). bids_from b.rates b.amounts (10 * i) 10 ++ bids_from b.rates b.amounts x (10 * d)) next
    ∙ sym (bids_add b.rates b.amounts (10 * i) 10 (10 * d))
    ∙ ap (bids_from b.rates b.amounts (10 * i)) more
  where
    next : 10 * suc i ≡ 10 * i + 10
    next = omega arith

    more : 10 + 10 * d ≡ 10 * suc d
    more = omega arith

-- the bids of the entries are the first places of the arrays
bids-viewed : (b : Book) → bids_in_book (viewed b) ≡ bids_from b.rates b.amounts 0 (10 * up_to64 b.n)
unfolding viewed
bids-viewed b = bids-entries b 0 (up_to64 b.n)

codes-first : (b : Book) (i d : ℕ) → i + d ≤ length b.codes → codes_in (entries_from b i d) ≡ take d (drop i b.codes)
unfolding codes_in entries_from entry_at
codes-first b i zero r = refl
codes-first b i (suc d) r = ap (λ (l : List ℕ). get_or b.codes i 0 ∷ l) (codes-first b (suc i) d (omega arith)) ∙ sym (ap (take (suc d)) (drop-cons b.codes i 0 (omega arith)))

-- the codes of a book's entries are its first ones
pub codes-viewed : (b : Book) → length b.codes ≡ 64 → codes_in (viewed b) ≡ take (up_to64 b.n) b.codes
unfolding viewed
codes-viewed b h = codes-first b 0 (up_to64 b.n) (omega (arith, h, (up_to64_small b.n).0))

-- the first n places as rates and amounts side by side
side_by_side : (n : ℕ) (rs : List Rate) (xs : List Amount) → n ≤ length rs → n ≤ length xs → bids_of (take n (map hundred_thousandths rs)) (take n (map cents xs)) ≡ bids_from rs xs 0 n
unfolding bids_of bids_from
side_by_side zero rs xs h k = refl
side_by_side (suc n) [] xs h k = absurd (let z : ◌≡◌ {A = ℕ} 0 1 = omega arith in omega arith)
side_by_side (suc n) (r ∷ rs) [] h k = absurd (let z : ◌≡◌ {A = ℕ} 0 1 = omega arith in omega arith)
side_by_side (suc n) (r ∷ rs) (x ∷ xs) h k = ap (λ (l : List Bid). record { rate = r.0; amount = x.0 } ∷ l) (side_by_side n rs xs (omega arith) (omega arith) ∙ sym (bids_shifted r rs x xs 0 n))

-- the bids of a book are the first places of its rates and amounts as numbers
pub bids-numbered : (b : Book) → length b.rates ≡ 640 → length b.amounts ≡ 640
    → bids_of (take (10 * up_to64 b.n) (map hundred_thousandths b.rates)) (take (10 * up_to64 b.n) (map cents b.amounts)) ≡ bids_in_book (viewed b)
bids-numbered b hr hx =
    let s = (up_to64_small b.n).0 in
    side_by_side (10 * up_to64 b.n) b.rates b.amounts (omega (arith, s, hr)) (omega (arith, s, hx)) ∙ sym (bids-viewed b)

-- a list there and back is what it was
pub there_and_back : {A B : Type 0} (back : B → A) (there : A → B) → ((x : A) → back (there x) ≡ x) → (l : List A) → map back (map there l) ≡ l
there_and_back back there h [] = refl
there_and_back {A} back there h (x ∷ l) = ap₂ (λ (y : A) (ys : List A). y ∷ ys) (h x) (there_and_back back there h l)
