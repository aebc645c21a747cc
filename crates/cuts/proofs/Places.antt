-- The cut book place by place: the ten places of a limit, and one of them. Assumes nothing.
use mathlib.Core.Path.{◌≡◌, refl, sym, ap, ap₂, ◌∙◌}
use mathlib.Core.Bool.{Bool, true, false, cond, not, ◌&&◌, false≢true}
use mathlib.Core.List.{List, [], ◌∷◌, ◌++◌, append-nil, append_assoc}
use Prim.Native.Nat.{ℕ, zero, suc, ◌+◌, ◌-◌, ◌*◌, ◌/◌, ◌≤◌, ◌<◌}
use native.Mathlib.Omega.{arith}
use lib.Dec.{eqb}
use lib.ListN.{length, take, drop, get_or, set, length-drop, get_or-append}
use lib.Seq.{length-take-le, drop-drop, get_or-append-add}
use Rattle.announcement.specs.declared.Side.{Side}
use Rattle.announcement.specs.declared.Side.TheVariants.{La, Lp}
use Rattle.laws.proofs.Arrays.{fill_more}
use Rattle.laws.proofs.Tests.{and_left, and_right}
use Rattle.rules.specs.Allotment.{Bid, no_bid, filled, Offer, is_in, total}
use Rattle.rules.specs.Cuts.{invests, is_capped, cut_above, left_of_cap, cut_bid, cut_from, cut_bids, cut_book}
use Rattle.rules.proofs.Cuts.{length-bids}
use Rattle.bids.specs.Columns.{bids_of}
use Rattle.bids.proofs.SideBySide.{set_of}
use Rattle.cuts.specs.Walked.{walked}
use Rattle.cuts.proofs.Walked.{left_is}

-- the places of the limit at k
abbrev pub ten_at : ℕ → List Bid → List Bid
ten_at k bs = take 10 (drop (10 * k) bs)

-- a place of the cut book is one of its limit's
pub in_book : (o : Offer) (limits : List ℕ) (bs : List Bid) (k j : ℕ) → 10 * length limits ≤ length bs → k < length limits → j < 10
    → get_or (cut_book o limits bs) (10 * k + j) no_bid ≡ get_or (cut_bids o (get_or limits k 0) (ten_at k bs)) j no_bid
unfolding cut_book
in_book o [] bs k j h g f = absurd (omega arith)
in_book o (cap ∷ limits) bs zero j h g f =
    let ten = length-bids o cap (take 10 bs) ∙ length-take-le 10 bs (omega arith) in
    ap (λ (n : ℕ). get_or (cut_bids o cap (take 10 bs) ++ cut_book o limits (drop 10 bs)) n no_bid) (let e : 10 * 0 + j ≡ j = omega arith in e)
    ∙ get_or-append (cut_bids o cap (take 10 bs)) (cut_book o limits (drop 10 bs)) no_bid j (omega arith)
in_book o (cap ∷ limits) bs (suc k) j h g f =
    let head = cut_bids o cap (take 10 bs) in
    let ten : length head ≡ 10 = length-bids o cap (take 10 bs) ∙ length-take-le 10 bs (omega arith) in
    ap (λ (n : ℕ). get_or (head ++ cut_book o limits (drop 10 bs)) n no_bid) (let e : 10 * suc k + j ≡ length head + (10 * k + j) = omega (arith, ten) in e)
    ∙ get_or-append-add head (cut_book o limits (drop 10 bs)) (10 * k + j) no_bid
    ∙ in_book o limits (drop 10 bs) k j (omega (arith, length-drop 10 bs)) (omega arith) f
    ∙ ap (λ (l : List Bid). get_or (cut_bids o (get_or limits k 0) (take 10 l)) j no_bid) (drop-drop (10 * k) 10 bs ∙ ap (λ (n : ℕ). drop n bs) (let e : 10 + 10 * k ≡ 10 * suc k = omega arith in e))

-- a place of one counterparty's cut bids
cut_at : (o : Offer) (cap : ℕ) (bs before rest : List Bid) (k : ℕ) → get_or (cut_from o cap bs before rest) k no_bid ≡ cut_bid o cap bs (before ++ take k rest) (get_or rest k no_bid)
unfolding cut_from cut_bid is_in filled
cut_at o cap bs before [] k = refl
cut_at o cap bs before (b ∷ rest) zero = ap (λ (l : List Bid). cut_bid o cap bs l b) (sym (append-nil before))
cut_at o cap bs before (b ∷ rest) (suc k) =
    cut_at o cap bs (before ++ (b ∷ [])) rest k ∙ ap (λ (l : List Bid). cut_bid o cap bs l (get_or rest k no_bid)) (append_assoc before (b ∷ []) (take k rest))

pub place_is : (o : Offer) (cap : ℕ) (bs : List Bid) (i : ℕ)
    → get_or (cut_bids o cap bs) i no_bid ≡ cond (is_capped o cap) (cut_bid o cap bs (take i bs) (get_or bs i no_bid)) (get_or bs i no_bid)
unfolding cut_bids
place_is o cap bs i = go (is_capped o cap)
  where
    go : (t : Bool) → get_or (cond t (cut_from o cap bs [] bs) bs) i no_bid ≡ cond t (cut_bid o cap bs (take i bs) (get_or bs i no_bid)) (get_or bs i no_bid)
    go true = cut_at o cap bs [] bs i
    go false = refl

-- the bid at i, cut among the ten places of its limit, is that of the cut book
pub part_in_book : (o : Offer) (limits : List ℕ) (bs part : List Bid) (i : ℕ) → part ≡ ten_at (i / 10) bs → 10 * length limits ≡ length bs → i < length bs
    → get_or (cut_bids o (get_or limits (i / 10) 0) part) (i - 10 * (i / 10)) no_bid ≡ get_or (cut_book o limits bs) i no_bid
part_in_book o limits bs part i is ten h =
    let j = i - 10 * (i / 10) in
    ap (λ (l : List Bid). get_or (cut_bids o (get_or limits (i / 10) 0) l) j no_bid) is
    ∙ sym (in_book o limits bs (i / 10) j (omega arith) (omega arith) (omega arith))
    ∙ ap (λ (n : ℕ). get_or (cut_book o limits bs) n no_bid) (let e : 10 * (i / 10) + j ≡ i = omega arith in e)

pub length-ten : (k : ℕ) (bs : List Bid) → 10 * k + 10 ≤ length bs → length (ten_at k bs) ≡ 10
length-ten k bs h = length-take-le 10 (drop (10 * k) bs) (omega (arith, length-drop (10 * k) bs))

-- their total is within the whole
take_le : (n : ℕ) (bs : List Bid) → total (take n bs) ≤ total bs
unfolding total
take_le zero bs = omega arith
take_le (suc n) [] = omega arith
take_le (suc n) (b ∷ bs) = omega (arith, take_le n bs)

drop_le : (n : ℕ) (bs : List Bid) → total (drop n bs) ≤ total bs
unfolding total
drop_le zero bs = omega arith
drop_le (suc n) [] = omega arith
drop_le (suc n) (b ∷ bs) = omega (arith, drop_le n bs)

pub ten_le : (k : ℕ) (bs : List Bid) → total (ten_at k bs) ≤ total bs
ten_le k bs = omega (arith, take_le 10 (drop (10 * k) bs), drop_le (10 * k) bs)

-- a bid that a limit cuts, and one that none does
invests_lp : (d : Side) → invests d ≡ true → d ≡ Lp
unfolding invests
invests_lp La h = absurd (false≢true h)
invests_lp Lp h = refl

capped_lp : (o : Offer) (cap : ℕ) → is_capped o cap ≡ true → o.side ≡ Lp
unfolding is_capped
capped_lp o cap h = invests_lp o.side (and_left (invests o.side) (not (eqb cap 0)) h)

module _ (o : Offer) (cap : ℕ) (bs : List Bid) (i : ℕ) (b : Bid) (is : b ≡ get_or bs i no_bid) where
  place : get_or (cut_bids o cap bs) i no_bid ≡ cond (is_capped o cap) (cut_bid o cap bs (take i bs) b) b
  place = place_is o cap bs i ∙ ap (λ (x : Bid). cond (is_capped o cap) (cut_bid o cap bs (take i bs) x) x) (sym is)

  pub cut_is : (is_capped o cap && is_in o b) ≡ true → cut_above (cap - walked b.rate i 0 bs) b ≡ get_or (cut_bids o cap bs) i no_bid
  unfolding cut_bid
  cut_is h =
      let capped = and_left (is_capped o cap) (is_in o b) h in
      let inside = and_right (is_capped o cap) (is_in o b) h in
      ap (λ (n : ℕ). cut_above n b) (left_is o cap bs i b (capped_lp o cap capped) inside)
      ∙ sym (ap₂ (λ (s t : Bool). cond s (cond t (cut_above (left_of_cap o cap bs (take i bs) b) b) b) b) capped inside)
      ∙ sym place

  pub uncut_is : (is_capped o cap && is_in o b) ≡ false → b ≡ get_or (cut_bids o cap bs) i no_bid
  unfolding cut_bid
  uncut_is h = sym (go (is_capped o cap) (is_in o b) h) ∙ sym place
    where
      go : (s t : Bool) → (s && t) ≡ false → cond s (cond t (cut_above (left_of_cap o cap bs (take i bs) b) b) b) b ≡ b
      go true true k = absurd (false≢true (sym k))
      go true false k = refl
      go false t k = refl

-- one more bid of the cut book stored in both columns
pub cut_more : (cut old : List Bid) (rates amounts : List ℕ) (i : ℕ) (b : Bid) → length rates ≡ length amounts → i < length cut → i < length old → b ≡ get_or cut i no_bid
    → bids_of rates amounts ≡ take i cut ++ drop i old → bids_of (set rates i b.rate) (set amounts i b.amount) ≡ take (i + 1) cut ++ drop (i + 1) old
cut_more cut old rates amounts i b lengths h k e now = set_of rates amounts i b.rate b.amount lengths ∙ fill_more cut old (bids_of rates amounts) i b no_bid h k e now
