-- `replies::internal::put_idc` meets its contract. Assumes nothing.
use mathlib.Core.List.{flatten}
use native.Mathlib.Omega.{arith}
use Rattle.output.proofs.Output.{said}
use Rattle.errors.specs.Listed.{idc_table}
use Rattle.replies.proofs.Texts.{idcs, idc_at, length_idc}
use Rattle.replies.proofs.internal.put_idc.Goals as goal

pub returns : goal.returns
unfolding idc_table idcs flatten
returns c =
    let w = c.put.ensures in
    let r = c.row-start in
    let code = c.args.code in
    let v = said (idc_at code r.result r.ensures.0 r.ensures.1) w in
    (v, omega (arith, v.past, length_idc code))
