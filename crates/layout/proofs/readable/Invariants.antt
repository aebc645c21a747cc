-- `layout::readable` meets its contract. The loop's invariant: what is left of the message is readable as what is left of the layout, just where the whole is. Assumes nothing.
use Rattle.std.proofs.Common.{◌≡◌, ◌≤◌, length, drop}
use Rattle.layout.specs.Fields.{readable, layout_of}
use Rattle.layout.proofs.readable.Given as goal

abbrev pub invariant-loop-field : goal.invariant-loop-field
invariant-loop-field l =
    (l.field-iterator.size ≡ 3) × (l.at ≤ length l.m) × (readable (layout_of l.layout) l.m ≡ readable (layout_of l.field-iterator.rest.now) (drop l.at l.m))
