-- `session_log::tell_ending` meets its contract: the line that is written is that of what is left. Assumes nothing.
use Rattle.session_log.proofs.Turns.{ending-written}
use Rattle.session_log.proofs.tell_ending.Goals as goal

pub write_ending-requires : goal.write_ending-requires
write_ending-requires g c =
    ending-written c.args.t c.args.input.now c.left_at-at.result c.count_up.result c.count_up-offset.result c.put_ending-n.result c.put_ending-n.new.space _
    c.left_at-at.ensures c.count_up.ensures c.count_up-offset.ensures c.put_ending-n.ensures.0
