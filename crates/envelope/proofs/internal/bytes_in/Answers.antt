-- `envelope::internal::bytes_in` meets its contract. Assumes nothing.
use mathlib.Core.Path.{◌≡◌}
use Prim.Native.Nat.{◌+◌, ◌-◌, ◌≤◌}
use native.Mathlib.Omega.{arith}
use lib.ListN.{length, take, drop}
use Rattle.layout.proofs.ReturnTrip.{field-read}
use Rattle.envelope.specs.Application.{entry_of, layout6_g1, position, bytes_of}
use Rattle.envelope.proofs.Fields6G1.{placed, part_is}
use Rattle.envelope.proofs.internal.bytes_in.Goals as goal

pub overflow_add-result : goal.overflow_add-result
overflow_add-result c =
    let part : (c.start_of-at.result + c.width_of-n.result ≤ length c.args.m.now) × (take (c.start_of-at.result + c.width_of-n.result - c.start_of-at.result) (drop c.start_of-at.result c.args.m.now) ≡ bytes_of c.args.f c.args.m.now) = let start = c in
    part_is start.args.m.now start.requires start.args.f c.start_of-at.result c.width_of-n.result c.start_of-at.ensures c.width_of-n.ensures in
    omega (arith, part.0)

pub slice_bounds-result-end : goal.slice_bounds-result-end
slice_bounds-result-end c =
    let part : (c.start_of-at.result + c.width_of-n.result ≤ length c.args.m.now) × (take (c.start_of-at.result + c.width_of-n.result - c.start_of-at.result) (drop c.start_of-at.result c.args.m.now) ≡ bytes_of c.args.f c.args.m.now) = let start = c in
    part_is start.args.m.now start.requires start.args.f c.start_of-at.result c.width_of-n.result c.start_of-at.ensures c.width_of-n.ensures in
    part.0

pub returns : goal.returns
returns c =
    let part : (c.start_of-at.result + c.width_of-n.result ≤ length c.args.m.now) × (take (c.start_of-at.result + c.width_of-n.result - c.start_of-at.result) (drop c.start_of-at.result c.args.m.now) ≡ bytes_of c.args.f c.args.m.now) = let start = c in
    part_is start.args.m.now start.requires start.args.f c.start_of-at.result c.width_of-n.result c.start_of-at.ensures c.width_of-n.ensures in
    let start = c in
    field-read layout6_g1 start.args.m.now start.requires (position start.args.f) (entry_of start.args.f) (placed start.args.f) part.1
