-- The award of a bid: what it is served, and a cent where some are left. Assumes nothing.
use mathlib.Core.Path.{◌≡◌, refl, sym, ap, ap₂, ◌∙◌, subst}
use mathlib.Core.Bool.{Bool, true, false, ◌&&◌, cond, false≢true}
use mathlib.Core.List.{List, [], ◌∷◌, Memᴰ}
use Prim.Native.Nat.{ℕ, ◌+◌, ◌-◌, ◌*◌, ◌/◌, ◌≤◌}
use native.Mathlib.Nat.{div-le_of_le-mul, mul-le-mul_left, mul_comm}
use native.Mathlib.Omega.{arith}
use lib.Dec.{leb, ltb, eqb}
use lib.ListN.{length}
use borrow.Author.Tests.{ltb-true, ltb-false, leb-false, lt-ltb, le-ltb, eq-eqb, ne_eqb}
use Rattle.announcement.specs.declared.Side.{Side}
use Rattle.rules.specs.Allotment.{Bid, Offer, better_rate, is_in, is_equal, keep, total_better, total_equal, share, shares, cents_left, cent, award}
use Rattle.rules.proofs.Division.{share_is}
use Rattle.rules.proofs.Rates.{not_itself, same-rate}
use Rattle.rules.proofs.Sum.{equal_in, equal-rate, award_out}
use Rattle.awards.specs.LastRate.{shared_out, served, served_all, shared_at, cents_at, served_in, cents_in, LastRate}

-- a better or worse rate is another one
better_other : (d : Side) (x r : ℕ) → better_rate d x r ≡ true → eqb x r ≡ false
better_other d x r h = ne_eqb x r (λ e. false≢true (sym (not_itself d r) ∙ subst (λ (y : ℕ). better_rate d y r ≡ true) e h))

worse_other : (d : Side) (x r : ℕ) → better_rate d r x ≡ true → eqb x r ≡ false
worse_other d x r h = ne_eqb x r (λ e. false≢true (sym (not_itself d r) ∙ subst (λ (y : ℕ). better_rate d r y ≡ true) e h))

-- fewer than l are gone: some are left
more_left : (n l : ℕ) → ltb n l ≡ ltb 0 (l - n)
more_left n l = go (ltb n l) refl
  where
    go : (t : Bool) → ltb n l ≡ t → t ≡ ltb 0 (l - n)
    go true e = sym (lt-ltb 0 (l - n) (omega (arith, ltb-true)))
    go false e = sym (le-ltb 0 (l - n) (omega (arith, ltb-false)))

pub none_left : (n : ℕ) → ltb 0 (0 - n) ≡ false
none_left n = le-ltb 0 (0 - n) (omega arith)

-- no bid is served more than its amount
shared_le : (q b e a : ℕ) → shared_out q b e a ≤ a
unfolding shared_out
shared_le q b e a = go (leb (b + e) q) (leb q b) refl
  where
    go : (s t : Bool) → leb (b + e) q ≡ s → cond s a (cond t 0 (a * (q - b) / e)) ≤ a
    go true t h = omega arith
    go false true h = omega arith
    go false false h =
        let m : q - b ≤ e = omega (arith, leb-false) in
        div-le_of_le-mul e {m = a * (q - b)} {n = a} (omega (arith, mul-le-mul_left a m, mul_comm a e))

pub served_le : (o : Offer) (r b e : ℕ) (x : Bid) → served o r b e x ≤ x.amount
unfolding served
served_le o r b e x = go (is_in o x) (better_rate o.side x.rate r) (better_rate o.side r x.rate)
  where
    go : (i s t : Bool) → cond i (cond s x.amount (cond t 0 (shared_out o.offered b e x.amount))) 0 ≤ x.amount
    go true true t = omega arith
    go true false true = omega arith
    go true false false = shared_le o.offered b e x.amount
    go false s t = omega arith

module _ (o : Offer) (bs : List Bid) (r : ℕ) where
  -- the totals at better rates and at this one
  abbrev better : ℕ
  better = total_better o bs r

  abbrev equal : ℕ
  equal = total_equal o bs r

  -- what a bid is served where r is the last rate, the cents left apart
  abbrev pub bid_served : Bid → ℕ
  bid_served x = served o r (total_better o bs r) (total_equal o bs r) x

  -- what a bid at the last rate is served
  served-equal : (x : Bid) → is_equal o r x ≡ true → bid_served x ≡ shared_out o.offered better equal x.amount
  unfolding served
  served-equal x h =
      let e = equal-rate o bs r x h in
      rw (
        equal_in o bs r x h,
        ap (λ (y : ℕ). better_rate o.side y r) e ∙ not_itself o.side r,
        ap (λ (y : ℕ). better_rate o.side r y) e ∙ not_itself o.side r,
      )

  -- where there is something to share, all served there are the shares
  shared_is : leb (better + equal) o.offered ≡ false → leb o.offered better ≡ false → (xs : List Bid)
      → shared_at o r better equal xs ≡ shares o bs r (keep (is_equal o r) xs)
  unfolding shared_at shares keep shared_out
  shared_is s t [] = refl
  shared_is s t (x ∷ xs) = go (is_equal o r x) refl (shared_is s t xs)
    where
      here : is_equal o r x ≡ true → bid_served x ≡ share o bs r x.amount
      here h = served-equal x h ∙ rw (s, t) (sym (share_is o bs r x.amount))

      go : (l : Bool) → is_equal o r x ≡ l → shared_at o r better equal xs ≡ shares o bs r (keep (is_equal o r) xs)
          → cond l (bid_served x) 0 + shared_at o r better equal xs
          ≡ shares o bs r (cond l (x ∷ keep (is_equal o r) xs) (keep (is_equal o r) xs))
      go true h ih = omega (arith, here h)
      go false h ih = omega arith

  -- the award of a bid at the last rate
  award-equal : (before : List Bid) (x : Bid) → is_equal o r x ≡ true
      → award o bs before x ≡ bid_served x + cond (ltb 0 (cents_in o bs r - length (keep (is_equal o r) before))) 1 0
  unfolding award shared_out cents_at cent cents_left
  award-equal before x h =
      at_rate ∙ go (leb (better + equal) o.offered) refl (leb o.offered better) refl
      ∙ ap (λ (v : ℕ). v + cond (ltb 0 (cents_in o bs r - length (keep (is_equal o r) before))) 1 0) (sym (served-equal x h))
    where
      awarded : ℕ
      awarded =
          cond (leb (better + equal) o.offered) x.amount
          (cond (leb o.offered better) 0 (share o bs r x.amount + cent (length (keep (is_equal o r) before)) (cents_left o bs r)))

      at_rate : award o bs before x ≡ awarded
      at_rate = rw (equal_in o bs r x h, equal-rate o bs r x h)

      go : (s : Bool) → leb (better + equal) o.offered ≡ s → (t : Bool) → leb o.offered better ≡ t
          → awarded ≡ shared_out o.offered better equal x.amount + cond (ltb 0 (cents_in o bs r - length (keep (is_equal o r) before))) 1 0
      go true es t et = rw (es, none_left (length (keep (is_equal o r) before))) (omega arith)
      go false es true et = rw (es, et, none_left (length (keep (is_equal o r) before))) (omega arith)
      go false es false et =
          rw (
            es,
            et,
            shared_is es et bs,
            share_is,
            more_left (length (keep (is_equal o r) before)) ((o.offered - better) - shares o bs r (keep (is_equal o r) bs)),
          )

  -- the award of a bid at any rate
  pub bid-award : LastRate o bs r → (before : List Bid) (x : Bid) → Memᴰ x bs
      → award o bs before x ≡ bid_served x + cond (is_equal o r x && ltb 0 (cents_in o bs r - length (keep (is_equal o r) before))) 1 0
  unfolding served is_equal
  bid-award last before x m = go (is_in o x) refl (better_rate o.side x.rate r) refl (better_rate o.side r x.rate) refl
    where
      go : (i : Bool) → is_in o x ≡ i → (s : Bool) → better_rate o.side x.rate r ≡ s → (t : Bool) → better_rate o.side r x.rate ≡ t
          → award o bs before x ≡ bid_served x + cond (is_equal o r x && ltb 0 (cents_in o bs r - length (keep (is_equal o r) before))) 1 0
      go false i s es t et = award_out o bs before x i ∙ rw i
      go true i true es t et = (last before x m i).0 es ∙ rw (i, es, better_other o.side x.rate r es) (omega arith)
      go true i false es true et = (last before x m i).1 et ∙ rw (i, es, et, worse_other o.side x.rate r et)
      go true i false es false et =
          let e : is_equal o r x ≡ true = rw (i, eq-eqb x.rate r (same-rate o.side x.rate r es et)) in
          award-equal before x e ∙ ap (λ (t : Bool). bid_served x + cond (t && ltb 0 (cents_in o bs r - length (keep (is_equal o r) before))) 1 0) (sym e)

  -- what all are served and the cents left, from totals known by equations
  pub served_are : (b e : ℕ) (xs : List ℕ) → b ≡ total_better o bs r → e ≡ total_equal o bs r → xs ≡ served_all o r b e bs → xs ≡ served_in o bs r
  served_are b e xs p q h = h ∙ ap₂ (λ (x y : ℕ). served_all o r x y bs) p q

  pub cents_are : (b e shared n : ℕ) → b ≡ total_better o bs r → e ≡ total_equal o bs r → shared ≡ shared_at o r b e bs
      → n ≡ cents_at o.offered b e shared → n ≡ cents_in o bs r
  cents_are b e shared n p q h k =
      k ∙ ap (cents_at o.offered b e) h ∙ ap₂ (λ (x y : ℕ). cents_at o.offered x y (shared_at o r x y bs)) p q
