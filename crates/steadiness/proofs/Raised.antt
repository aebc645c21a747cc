-- One bid of a list raised by d: the totals by rate, what each rate gets, and the cents that are left of it. Assumes nothing.
use mathlib.Core.Path.{◌≡◌, refl, sym, ap, ◌∙◌}
use mathlib.Core.Bool.{Bool, true, false, not, cond, ◌&&◌, and-false}
use mathlib.Core.List.{List, []}
use Prim.Native.Nat.{ℕ, ◌+◌, ◌-◌, ◌≤◌, ◌<◌, min}
use native.Mathlib.Nat.{add-zero}
use native.Mathlib.Omega.{arith}
use lib.Dec.{eqb}
use lib.ListN.{get_or, set}
use lib.Seq.{set-get_or}
use Rattle.rules.specs.Allotment.{Bid, no_bid, filled, Offer, better_rate, is_in, is_better, is_equal, keep, total, total_better, total_equal}
use Rattle.rules.proofs.Filled.{filled_above}
use Rattle.rules.proofs.Rates.{not_itself}
use Rattle.rules.proofs.Sum.{equal-rate}
use Rattle.steadiness.specs.Steadiness.{raised, raised_at}
use Rattle.steadiness.proofs.Floors.{Falls, own_share_rises_little, falls_elsewhere, falls_here}
use Rattle.steadiness.proofs.Sums.{sum_where, total_where, where_at, where_one}
use Rattle.steadiness.proofs.ProRata.{pro_rata, shares_of, allotted_at}

-- a bid at a rate is not at a better one
equal_not_better : (o : Offer) (r : ℕ) (b : Bid) → is_equal o r b ≡ true → is_better o r b ≡ false
unfolding is_better
equal_not_better o r b h =
    ap (λ (s : ℕ). is_in o b && better_rate o.side s r) (equal-rate o [] r b h)
    ∙ ap (λ (t : Bool). is_in o b && t) (not_itself o.side r)
    ∙ and-false (is_in o b)

-- an empty place is in no total
none_better : (o : Offer) (r : ℕ) → is_better o r no_bid ≡ false
unfolding is_better is_in filled
none_better o r = refl

pub none_equal : (o : Offer) (r : ℕ) → is_equal o r no_bid ≡ false
unfolding is_equal is_in filled
none_equal o r = refl

-- a bid of the list at a rate is in the rate's total
pub in_total : (o : Offer) (bs : List Bid) (r k : ℕ) (x : Bid) → get_or bs k no_bid ≡ x → is_equal o r x ≡ true → x.amount ≤ total_equal o bs r
unfolding total_equal
in_total o bs r k x e h =
    omega (
      arith,
      where_one (is_equal o r) (none_equal o r) (λ b. b.amount) bs k (ap (is_equal o r) e ∙ h),
      ap {B = ℕ} (λ (b : Bid). b.amount) e,
      total_where (is_equal o r) bs,
    )

-- a bid above zero is where it was when it is raised
module _ (o : Offer) (b : Bid) (d : ℕ) (some : 0 < b.amount) where
  raised_in : is_in o (raised d b) ≡ is_in o b
  unfolding is_in
  raised_in =
      ap (λ (t : Bool). t && not (better_rate o.side o.limit b.rate))
      (filled_above (raised d b) (omega arith) ∙ sym (filled_above b some))

  raised_better : (r : ℕ) → is_better o r (raised d b) ≡ is_better o r b
  unfolding is_better
  raised_better r = ap (λ (t : Bool). t && better_rate o.side b.rate r) raised_in

  pub raised-equal : (r : ℕ) → is_equal o r (raised d b) ≡ is_equal o r b
  unfolding is_equal
  raised-equal r = ap (λ (t : Bool). t && eqb b.rate r) raised_in

cond_le : (t : Bool) (d : ℕ) → cond t d 0 ≤ d
cond_le true d = omega arith
cond_le false d = omega arith

module _ (o : Offer) (bs : List Bid) (place d : ℕ) (some : 0 < (get_or bs place no_bid).amount) where
  abbrev b : Bid
  b = get_or bs place no_bid

  abbrev second : List Bid
  second = raised_at place d bs

  -- the bids other than the one raised, each in its place
  abbrev others : List Bid
  others = set bs place no_bid

  -- a test that no empty place passes, and the raised bid where it did before: its sums over both lists
  module _ (p : Bid → Bool) (none : p no_bid ≡ false) (same : p (raised d b) ≡ p b) where
    sum_first : (f : Bid → ℕ) → sum_where p f bs ≡ cond (p b) (f b) 0 + sum_where p f others
    sum_first f = ap (sum_where p f) (sym (set-get_or bs place no_bid)) ∙ where_at p none f bs place b some

    sum_second : (f : Bid → ℕ) → sum_where p f second ≡ cond (p b) (f (raised d b)) 0 + sum_where p f others
    sum_second f = where_at p none f bs place (raised d b) some ∙ ap (λ (t : Bool). cond t (f (raised d b)) 0 + sum_where p f others) same

    total_moves : (t : Bool) → p b ≡ t → total (keep p second) ≡ total (keep p bs) + cond t d 0
    total_moves t h =
        let first = total_where p bs ∙ sum_first (λ x. x.amount) in
        let then = total_where p second ∙ sum_second (λ x. x.amount) in
        go t (rw h at first) (rw h at then)
      where
        go : (t : Bool)
            → total (keep p bs) ≡ cond t b.amount 0 + sum_where p (λ x. x.amount) others
            → total (keep p second) ≡ cond t (b.amount + d) 0 + sum_where p (λ x. x.amount) others
            → total (keep p second) ≡ total (keep p bs) + cond t d 0
        go true x y = omega arith
        go false x y = omega arith

  module _ (r : ℕ) where
    better_moves : (t : Bool) → is_better o r b ≡ t → total_better o second r ≡ total_better o bs r + cond t d 0
    unfolding total_better
    better_moves = total_moves (is_better o r) (none_better o r) (raised_better o b d some r)

    equal_moves : (t : Bool) → is_equal o r b ≡ t → total_equal o second r ≡ total_equal o bs r + cond t d 0
    unfolding total_equal
    equal_moves = total_moves (is_equal o r) (none_equal o r) (raised-equal o b d some r)

    -- the raised bid is above zero, so that it is not at a rate without any amount
    pub still_nothing : total_equal o bs r ≡ 0 → total_equal o second r ≡ 0
    still_nothing none = go (is_equal o r b) refl
      where
        go : (t : Bool) → is_equal o r b ≡ t → total_equal o second r ≡ 0
        go true h = absurd (omega (arith, in_total o bs r place b refl h))
        go false h = omega (arith, equal_moves false h)

    -- from u₁ of e₁ in the first list to u₂ of e₂ in the second: the exact shares of the others fall, by at most d; and where they fall by d or more
    -- together and rounded down, no fewer cents are left
    pub record Moves (u₁ u₂ e₁ e₂ : ℕ) : Type 0 where
      pub falls : Falls d u₁ u₂ e₁ e₂
      pub cents : shares_of o r u₂ e₂ others + d ≤ shares_of o r u₁ e₁ others → u₁ - shares_of o r u₁ e₁ bs ≤ u₂ - shares_of o r u₂ e₂ second

    shares-first : (t : Bool) → is_equal o r b ≡ t → (u e : ℕ) → shares_of o r u e bs ≡ cond t (pro_rata u e b) 0 + shares_of o r u e others
    shares-first t h u e = rw h at (sum_first (is_equal o r) (none_equal o r) (raised-equal o b d some r) (pro_rata u e))

    shares_second : (t : Bool) → is_equal o r b ≡ t → (u e : ℕ)
        → shares_of o r u e second ≡ cond t (pro_rata u e (raised d b)) 0 + shares_of o r u e others
    shares_second t h u e = rw h at (sum_second (is_equal o r) (none_equal o r) (raised-equal o b d some r) (pro_rata u e))

    -- the raised bid is at the rate, to which better ones leave m
    here : is_equal o r b ≡ true → (m e : ℕ) → 0 < e → Moves (min m e) (min m (e + d)) e (e + d)
    here h m e pos =
        let f = falls_here d m e pos in
        let own = own_share_rises_little f b.amount (omega arith) in
        record { falls = f; cents = λ k. omega (arith, own, shares-first true h (min m e) e, shares_second true h (min m (e + d)) (e + d)) }

    -- it is at another, or out
    elsewhere : is_equal o r b ≡ false → (u₁ u₂ e : ℕ) → 0 < e → u₂ ≤ u₁ → u₁ ≤ u₂ + d → Moves u₁ u₂ e e
    elsewhere h u₁ u₂ e pos low high =
        record {
          falls = falls_elsewhere d u₁ u₂ e pos low high;
          cents = λ k. omega (arith, shares-first false h u₁ e, shares_second false h u₂ e);
        }

    pub moves : 0 < total_equal o bs r → Moves (allotted_at o bs r) (allotted_at o second r) (total_equal o bs r) (total_equal o second r)
    moves pos = go (is_equal o r b) refl
      where
        go : (t : Bool) → is_equal o r b ≡ t → Moves (allotted_at o bs r) (allotted_at o second r) (total_equal o bs r) (total_equal o second r)
        go true h =
            rw (equal_moves true h, better_moves false (equal_not_better o r b h), add-zero)
            (here h (o.offered - total_better o bs r) (total_equal o bs r) pos)
        go false h =
            let more = better_moves (is_better o r b) refl in
            let little = cond_le (is_better o r b) d in
            rw (equal_moves false h, add-zero)
            (elsewhere h _ _ (total_equal o bs r) pos (omega (arith, more)) (omega (arith, more, little)))
