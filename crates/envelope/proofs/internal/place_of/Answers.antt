-- `envelope::internal::place_of` meets its contract. Assumes nothing.
use mathlib.Core.Path.{ap, ◌∙◌}
use Prim.Native.Nat.{ℕ, ◌+◌, ◌*◌}
use Rattle.places.specs.Bids.{place_of}
use Rattle.envelope.proofs.Fields6G1.{at_least_339, place_is}
use Rattle.envelope.proofs.internal.place_of.Goals as goal

pub bids_start-requires : goal.bids_start-requires
bids_start-requires c = at_least_339 c.args.m.now c.requires.m_value

pub slice_bounds-read_place-end : goal.slice_bounds-read_place-end
slice_bounds-read_place-end c =
    let start = c in
    let k = start.args.k in
    (place_is start.args.m.now start.requires.m_value k (c.bids_start.result + 24 * k) start.requires.k_bound (ap (λ (n : ℕ). n + 24 * k) c.bids_start.ensures)).0

pub returns : goal.returns
returns c =
    let start = c in
    let k = start.args.k in
    let at = c.bids_start in
    c.read_place.ensures ∙ ap place_of (place_is start.args.m.now start.requires.m_value k (at.result + 24 * k) start.requires.k_bound (ap (λ (n : ℕ). n + 24 * k) at.ensures)).1
