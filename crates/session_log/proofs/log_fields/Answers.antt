-- `session_log::log_fields` meets its contract: the lines that are written are those of the run. Assumes nothing.
use mathlib.Core.Path.{sym, subst}
use Prim.Native.Nat.{ℕ}
use native.Mathlib.Nat.{sub-zero}
use lib.ListN.{take}
use Rattle.session_log.specs.Turns.{Lines}
use Rattle.session_log.proofs.Turns.{lines-written}
use Rattle.session_log.proofs.log_fields.Goals as goal

pub write_lines-written-requires : goal.write_lines-written-requires
write_lines-written-requires g c =
    let taken = c.take_fields-next in
    let a = c.args in
    subst (λ (k : ℕ). Lines a.t a.codes.now a.words.now taken.result taken.new.codes taken.new.words a.input.now (take k taken.new.lines)) (sym (sub-zero taken.result.length)) (lines-written taken.ensures.turn)
