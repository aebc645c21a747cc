-- Awards dropped one after another. Assumes nothing.
use mathlib.Core.Path.{◌≡◌, sym, ap, ap₂, ◌∙◌}
use mathlib.Core.List.{List}
use Prim.Native.Nat.{ℕ, suc, ◌+◌, ◌-◌, ◌≤◌, ◌<◌}
use native.Mathlib.Numerals.{add-one}
use native.Mathlib.Omega.{arith}
use lib.ListN.{length, get_or, set, drop, drop_of_length-le}
use lib.Seq.{drop-cons}
use Rattle.rules.specs.Allotment.{keep, sum}
use Rattle.smallest_award.specs.SmallestAward.{given_award, given_awards, dropped_cents}
use Rattle.smallest_award.proofs.SmallestAward.{dropped_next, given_and_dropped, length-given}
use Rattle.smallest_award.proofs.Given.{given_at}
use Rattle.awards.proofs.Loops.{FilledTo, filled_next, filled_more, filled-all}

-- the loop: the first awards are given, and the cents dropped of them and of the others are the whole
pub record DroppedTo (m : ℕ) (old cur : List ℕ) (dropped i : ℕ) : Type 0 where
  pub filled : FilledTo (given_awards m old) old cur i
  pub counted : dropped + dropped_cents m (drop i old) ≡ dropped_cents m old

module _ (m : ℕ) (old cur : List ℕ) (dropped i : ℕ) (d : DroppedTo m old cur dropped i) where
  same_length : length old ≡ length (given_awards m old)
  same_length = sym (length-given m old)

  pub award_at : i < length old → get_or cur i 0 ≡ get_or old i 0
  award_at h = filled_next (given_awards m old) old cur i same_length d.filled (omega (arith, same_length))

  next_dropped : i < length old → given_award m (get_or old i 0) + dropped_cents m (drop i old) ≡ get_or old i 0 + dropped_cents m (drop (i + 1) old)
  next_dropped h =
      ap (λ (l : List ℕ). given_award m (get_or old i 0) + dropped_cents m l) (drop-cons old i 0 h)
      ∙ dropped_next m (get_or old i 0) (drop (suc i) old)
      ∙ ap (λ (k : ℕ). get_or old i 0 + dropped_cents m (drop k old)) (sym (add-one i))

  -- the cents dropped stay within the awards
  pub dropped_within : i < length old → (award given : ℕ) → award ≡ get_or cur i 0 → given ≡ given_award m award → given ≤ award → dropped + (award - given) ≤ sum old
  dropped_within h award given a g l =
      let is = a ∙ award_at h in
      omega (arith, next_dropped h, d.counted, given_and_dropped m old, is, g ∙ ap (given_award m) is)

  pub dropped_more : i < length old → (award given : ℕ) → award ≡ get_or cur i 0 → given ≡ given_award m award → given ≤ award
      → DroppedTo m old (set cur i given) (dropped + (award - given)) (i + 1)
  dropped_more h award given a g l =
      let is = a ∙ award_at h in
      record {
        filled = filled_more (given_awards m old) old cur i same_length d.filled (omega (arith, same_length)) given (g ∙ ap (given_award m) is ∙ sym (given_at m old i));
        counted = omega (arith, next_dropped h, d.counted, is, g ∙ ap (given_award m) is);
      }

  pub dropped_all : length old ≤ i → ◌≡◌ {A = ℕ × List ℕ} (dropped, cur) (dropped_cents m old, given_awards m old)
  unfolding dropped_cents keep sum
  dropped_all h =
      let none_left = ap (dropped_cents m) (drop_of_length-le old h) in
      ap₂ (λ (n : ℕ) (l : List ℕ). (n, l)) (omega (arith, d.counted, none_left)) (filled-all (given_awards m old) old cur i same_length d.filled (omega (arith, same_length)))
