-- `places::internal::read_places` meets its contract. The loop's invariant: the first k entries of each array are those of the first k places. Assumes nothing.
use mathlib.Core.Path.{◌≡◌, refl, ◌∙◌, ap}
use mathlib.Core.List.{map}
use Prim.Native.Nat.{ℕ, ◌+◌, ◌*◌, ◌-◌}
use native.Mathlib.Omega.{arith}
use lib.ListN.{take, drop}
use mathlib.Core.Bool.{false}
use lib.ListN.{replicate}
use Rattle.places.specs.declared.Place.{Place}
use Rattle.places.specs.Bids.{place_of, places_in, places_of}
use Rattle.places.proofs.Reading.{column_more, column_all}
use Rattle.places.proofs.internal.read_places.Goals as goal

pub loop-k-init : goal.loop-k-init
loop-k-init c = (refl, refl, refl)

pub loop-k-preserved : goal.loop-k-preserved
loop-k-preserved c =
    let s = c.args.s.now in
    let l = c.loop-k in
    let p = c.read_sooner-p.result in
    let n : 24 * l.k + 24 - 24 * l.k ≡ 24 = omega arith in
    let e : p ≡ place_of (take 24 (drop (24 * l.k) s)) = c.read_sooner-p.ensures ∙ ap (λ (j : ℕ). place_of (take j (drop (24 * l.k) s))) n in (
      column_more (λ (q : Place). q.formed) 10 s (replicate 10 false) refl l.formed l.k p (omega arith) e l.invariant.0,
      column_more (λ (q : Place). q.rate) 10 s (replicate 10 (record { 0 = 0 })) refl l.rates l.k p (omega arith) e l.invariant.1,
      column_more (λ (q : Place). q.amount) 10 s (replicate 10 (record { 0 = 0 })) refl l.amounts l.k p (omega arith) e l.invariant.2,
    )

pub returns : goal.returns
unfolding places_of
returns c =
    let s = c.args.s.now in
    let l = c.loop-k in
    let k : l.k ≡ 10 = omega arith in
    let f : l.formed ≡ map (λ (p : Place). p.formed) (places_in 10 s) = rw k at l.invariant.0 ∙ column_all (λ (q : Place). q.formed) 10 s (replicate 10 false) refl in
    let r : l.rates ≡ map (λ (p : Place). p.rate) (places_in 10 s) = rw k at l.invariant.1 ∙ column_all (λ (q : Place). q.rate) 10 s (replicate 10 (record { 0 = 0 })) refl in
    let a : l.amounts ≡ map (λ (p : Place). p.amount) (places_in 10 s) = rw k at l.invariant.2 ∙ column_all (λ (q : Place). q.amount) 10 s (replicate 10 (record { 0 = 0 })) refl in
    rw (f, r, a)
