-- `places::internal::is_empty` meets its contract: three words of zero are the place of two zeros. Assumes nothing.
use mathlib.Core.Path.{sym}
use Rattle.places.proofs.Reading.{zero_place}
use Rattle.places.proofs.internal.is_empty.Goals as goal

pub returns : goal.returns
returns c =
    λ z. let start = c in
    let r = c.lowered in
    let h = c.after_slash in
    let l = c.lowered-2 in
    sym (zero_place start.args.s.now start.requires r.result h.result l.result r.ensures h.ensures l.ensures z)
