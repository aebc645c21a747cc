-- Awards and marginal rate (document 01, 'Closing and allotting'). Totals are taken over the whole book by a test on rates. Assumes nothing.
use Rattle.std.specs.Prelude.{Bool, true, cond, not, ◌&&◌, List, [], ◌∷◌, ◌++◌, ℕ, zero, suc, ◌+◌, ◌-◌, ◌*◌, ◌/◌, ◌%◌, ◌^◌, leb, ltb, eqb, length}
use Rattle.std.proofs.Math.Option.{Option, none, some}
use Rattle.announcement.specs.declared.Side.{Side}
use Rattle.announcement.specs.declared.Side.TheVariants.{La, Lp}

-- a place of a message or of the book
pub record Bid : Type 0 where
  pub rate : ℕ
  pub amount : ℕ

abbrev pub no_bid : Bid
no_bid = record { rate = 0; amount = 0 }

-- 'A place is filled if its rate or amount is not zero; only filled places are bids.'
unfoldable pub filled : Bid → Bool
filled b = not (eqb b.rate 0 && eqb b.amount 0)

-- what allotting takes from the announcement: the side, the limit rate and Q, 'the amount offered'
pub record Offer : Type 0 where
  pub side : Side
  pub limit : ℕ
  pub offered : ℕ

-- 'In LP (the Treasury invests) the highest rate is best ..; in LA (it collects) the lowest is best'
unfoldable pub better_rate : Side → ℕ → ℕ → Bool
better_rate La r s = ltb r s
better_rate Lp r s = ltb s r

-- 'bids below the limit rate are out', in LA 'bids above are out': a bid is in unless the limit rate is better than its own
unfoldable pub is_in : Offer → Bid → Bool
is_in o b = filled b && not (better_rate o.side o.limit b.rate)

-- the bids in at rates better than r, and those at r
unfoldable pub is_better : Offer → ℕ → Bid → Bool
is_better o r b = is_in o b && better_rate o.side b.rate r

unfoldable pub is_equal : Offer → ℕ → Bid → Bool
is_equal o r b = is_in o b && eqb b.rate r

-- those of a list that pass a test
unfoldable pub keep {ℓ} : {A : Type ℓ} → (A → Bool) → List A → List A
keep p [] = []
keep p (x ∷ xs) = cond (p x) (x ∷ keep p xs) (keep p xs)

unfoldable pub total : List Bid → ℕ
total [] = 0
total (b ∷ bs) = b.amount + total bs

-- 'B the total at better rates, E the total at its own rate'
unfoldable pub total_better : Offer → List Bid → ℕ → ℕ
total_better o bs r = total (keep (is_better o r) bs)

unfoldable pub total_equal : Offer → List Bid → ℕ → ℕ
total_equal o bs r = total (keep (is_equal o r) bs)

-- 'one for each binary digit of a (a = 0: none)': the digits are dropped lowest first, at most d of them
unfoldable pub binary_length_within : ℕ → ℕ → ℕ
binary_length_within zero a = zero
binary_length_within (suc d) zero = zero
binary_length_within (suc d) (suc a) = suc (binary_length_within d (suc a / 2))

unfoldable pub binary_length : ℕ → ℕ
binary_length a = binary_length_within a a

-- 'the number that a's first k binary digits make, highest first'
unfoldable pub first_digits : ℕ → ℕ → ℕ
first_digits a k = a / 2 ^ (binary_length a - k)

pub record Division : Type 0 where
  pub quotient : ℕ
  pub remainder : ℕ
  pub count : ℕ

-- 'at count k quotient and remainder are those of [that number] times (Q − B), divided by E'; m is Q − B and e is E
unfoldable pub division_at : ℕ → ℕ → ℕ → ℕ → Division
division_at a m e k = record { quotient = first_digits a k * m / e; remainder = first_digits a k * m % e; count = k }

-- 'the division's result is what the last round gives'
unfoldable pub division : ℕ → ℕ → ℕ → Division
division a m e = division_at a m e (binary_length a)

-- 'its share is a times (Q − B), divided by E, rounded down'
unfoldable pub share : Offer → List Bid → ℕ → ℕ → ℕ
share o bs r a = (division a (o.offered - total_better o bs r) (total_equal o bs r)).quotient

unfoldable pub shares : Offer → List Bid → ℕ → List Bid → ℕ
shares o bs r [] = 0
shares o bs r (b ∷ rest) = share o bs r b.amount + shares o bs r rest

-- 'Cents left at that rate'
unfoldable pub cents_left : Offer → List Bid → ℕ → ℕ
cents_left o bs r = (o.offered - total_better o bs r) - shares o bs r (keep (is_equal o r) bs)

-- '.. go one each to its bids in book order': a bid gets one if fewer bids of its rate stand before it than cents are left
unfoldable pub cent : ℕ → ℕ → ℕ
cent before cents = cond (ltb before cents) 1 0

-- 'Bids out get 0. .. If B + E ≤ Q its award is a; if B ≥ Q it is 0; otherwise its share' and its cent; the places before it in book order are
-- `before`
unfoldable pub award : Offer → List Bid → List Bid → Bid → ℕ
award o bs before b =
    cond (not (is_in o b)) 0
    (cond (leb (total_better o bs b.rate + total_equal o bs b.rate) o.offered) b.amount
    (cond (leb o.offered (total_better o bs b.rate)) 0
    (share o bs b.rate b.amount + cent (length (keep (is_equal o b.rate) before)) (cents_left o bs b.rate))))

unfoldable pub awards_from : Offer → List Bid → List Bid → List Bid → List ℕ
awards_from o bs before [] = []
awards_from o bs before (b ∷ rest) = award o bs before b ∷ awards_from o bs (before ++ (b ∷ [])) rest

-- 'the awards, .. places in book order'
unfoldable pub awards : Offer → List Bid → List ℕ
awards o bs = awards_from o bs [] bs

unfoldable pub sum : List ℕ → ℕ
sum [] = 0
sum (n ∷ ns) = n + sum ns

-- 'The marginal rate is the first rate, best first, at which the running total of the bids in reaches Q, or none': the best of the rates at
-- which better rates and this one together reach it
unfoldable pub reaches : Offer → List Bid → Bid → Bool
reaches o bs b = is_in o b && leb o.offered (total_better o bs b.rate + total_equal o bs b.rate)

unfoldable pub best_of : Side → ℕ → Option ℕ → Option ℕ
best_of d r none = some r
best_of d r (some s) = cond (better_rate d s r) (some s) (some r)

unfoldable pub best_rate : Side → List Bid → Option ℕ
best_rate d [] = none
best_rate d (b ∷ bs) = best_of d b.rate (best_rate d bs)

unfoldable pub marginal_rate : Offer → List Bid → Option ℕ
marginal_rate o bs = best_rate o.side (keep (reaches o bs) bs)

-- 'all .. bids within the limit rate'
unfoldable pub total_in : Offer → List Bid → ℕ
total_in o bs = total (keep (is_in o) bs)

-- the same marginal rate by a walk over rates, best first, with a running total: a bid in past the rate walked to
unfoldable pub past_rate : Side → Option ℕ → ℕ → Bool
past_rate d none s = true
past_rate d (some r) s = better_rate d r s

unfoldable pub is_past : Offer → Option ℕ → Bid → Bool
is_past o at b = is_in o b && past_rate o.side at b.rate

-- the walk at the next rate: it ends there, or goes on with that rate's total added
unfoldable pub walk_to : Offer → List Bid → ℕ → Option ℕ → (ℕ → ℕ → Option ℕ) → Option ℕ
walk_to o bs running none further = none
walk_to o bs running (some r) further = cond (leb o.offered (running + total_equal o bs r)) (some r) (further r (running + total_equal o bs r))

-- at most `steps` rates from a rate and the running total there
unfoldable pub walk : Offer → List Bid → ℕ → Option ℕ → ℕ → Option ℕ
walk o bs zero at running = none
walk o bs (suc steps) at running = walk_to o bs running (best_rate o.side (keep (is_past o at) bs)) (λ r s. walk o bs steps (some r) s)
