-- `numbers::internal::put_starts` meets its contract. Assumes nothing.
use Rattle.output.proofs.Output.{said}
use Rattle.numbers.proofs.Parts.{starts_are}
use Rattle.numbers.proofs.internal.put_starts.Goals as goal

pub returns : goal.returns
returns c =
    let start = c in
    let kind = c.start_of-kind in
    let identifier = c.start_of-identifier in
    let name = c.start_of-name in
    let w = c.put_three.ensures in
    (said (starts_are start.args.m.now start.requires.0 kind.result identifier.result name.result kind.ensures identifier.ensures name.ensures) w, w.past)
