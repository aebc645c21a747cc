-- `division::internal::left` meets its contract. Assumes nothing.
use Rattle.std.proofs.Common.{◌*◌, cond, leb, ap, ◌∙◌}
use Rattle.division.proofs.Rounds.{left_is}
use Rattle.division.proofs.internal.left.Goals as goal

pub returns : goal.returns
returns c =
    let start = c in
    let a = start.args in
    let once = c.wrapping_sub_u64-once in
    let twice = c.wrapping_sub_u64-twice in
    c.chosen-2.ensures ∙ ap (cond (leb (2 * a.e) a.t) twice.result) c.chosen.ensures
    ∙ left_is a.t a.e once.result twice.result start.requires.t_bound start.requires.e_bound once.type_inv twice.type_inv once.ensures.value twice.ensures.value
