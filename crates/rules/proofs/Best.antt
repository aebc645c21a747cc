-- `best_rate` gives the one rate of a list than which no other of the list is better, and so does the marginal rate among the rates that reach Q.
-- Assumes nothing.
use mathlib.Core.Path.{◌≡◌, refl, ◌∙◌, ap, subst}
use mathlib.Core.Logic.{◌⊎◌, inl, inr}
use mathlib.Core.Bool.{Bool, true, false, cond}
use mathlib.Core.Option.{Option, none, some}
use mathlib.Core.List.Memᴰ
use mathlib.Core.List.{List, [], ◌∷◌, Memᴰ}
use Prim.Native.Nat.{ℕ}
use Rattle.announcement.specs.declared.Side.{Side}
use Rattle.rules.specs.Allotment.{Bid, Offer, better_rate, keep, reaches, best_of, best_rate, marginal_rate}
use Rattle.rules.proofs.Rates.{not_itself, not_both, same-rate, not_better}

-- one of the rates of the list, and none of them is better; none only where the list is empty
abbrev pub IsBest : Side → List Bid → Option ℕ → Type 0
IsBest d bs none = (b : Bid) → Memᴰ b bs → ⊥
IsBest d bs (some r) = ((b : Bid) × Memᴰ b bs × (b.rate ≡ r)) × ((b : Bid) → Memᴰ b bs → better_rate d b.rate r ≡ false)

pub is_best : (d : Side) (bs : List Bid) → IsBest d bs (best_rate d bs)
unfolding best_rate best_of
is_best d [] = λ b m. Memᴰ.not-nil m
is_best d (x ∷ bs) = go (best_rate d bs) (is_best d bs)
  where
    same : (b : Bid) (r : ℕ) → b ≡ x → better_rate d x.rate r ≡ false → better_rate d b.rate r ≡ false
    same b r e h = ap {B = Bool} (λ (y : Bid). better_rate d y.rate r) e ∙ h

    go₁ : (s : ℕ) (t : Bool) → better_rate d s x.rate ≡ t → IsBest d bs (some s) → IsBest d (x ∷ bs) (cond t (some s) (some x.rate))
    go₁ s true e h = ((h.0.0, Memᴰ.tail h.0.1, h.0.2), λ b m. all b (Memᴰ.cases_cons m))
      where
        all : (b : Bid) → (b ≡ x) ⊎ Memᴰ b bs → better_rate d b.rate s ≡ false
        all b (inl q) = same b s q (not_both d s x.rate e)
        all b (inr m) = h.1 b m
    go₁ s false e h = ((x, Memᴰ.head refl, refl), λ b m. all b (Memᴰ.cases_cons m))
      where
        all : (b : Bid) → (b ≡ x) ⊎ Memᴰ b bs → better_rate d b.rate x.rate ≡ false
        all b (inl q) = same b x.rate q (not_itself d x.rate)
        all b (inr m) = not_better d b.rate s x.rate (h.1 b m) e

    go : (l : Option ℕ) → IsBest d bs l → IsBest d (x ∷ bs) (best_of d x.rate l)
    go none h = ((x, Memᴰ.head refl, refl), λ b m. all b (Memᴰ.cases_cons m))
      where
        all : (b : Bid) → (b ≡ x) ⊎ Memᴰ b bs → better_rate d b.rate x.rate ≡ false
        all b (inl q) = same b x.rate q (not_itself d x.rate)
        all b (inr m) = absurd (h b m)
    go (some s) h = go₁ s (better_rate d s x.rate) refl h

-- no other rate is best
pub best_unique : (d : Side) (bs : List Bid) (r : ℕ) (l : Option ℕ) → IsBest d bs (some r) → IsBest d bs l → l ≡ some r
best_unique d bs r none h k = absurd (k h.0.0 h.0.1)
best_unique d bs r (some s) h k =
    ap {B = Option ℕ} some
    (same-rate d s r
    (subst (λ (x : ℕ). better_rate d x r ≡ false) k.0.2 (h.1 k.0.0 k.0.1))
    (subst (λ (x : ℕ). better_rate d x s ≡ false) h.0.2 (k.1 h.0.0 h.0.1)))

pub best_none : (d : Side) (bs : List Bid) (l : Option ℕ) → ((b : Bid) → Memᴰ b bs → ⊥) → IsBest d bs l → l ≡ none
best_none d bs none h k = refl
best_none d bs (some s) h k = absurd (h k.0.0 k.0.1)

-- the best rate of the bids in at which the running total reaches Q
pub is_marginal : (o : Offer) (bs : List Bid) → IsBest o.side (keep (reaches o bs) bs) (marginal_rate o bs)
unfolding marginal_rate
is_marginal o bs = is_best o.side (keep (reaches o bs) bs)
