-- `session_log::read_more` meets its contract: the read goes behind what was moved to the start. Assumes nothing.
use mathlib.Core.Path.{◌≡◌, refl, ap, subst, sym, ◌∙◌}
use Prim.Native.Nat.{ℕ, ◌-◌, ◌≤◌}
use native.Mathlib.Omega.{arith}
use borrow.Author.Tests.{ltb-true}
use borrow.Rule.Slice.PartMut.{put_mid, same_len_mid, take_put}
use lib.ListN.{length, take}
use lib.Seq.{length-take-le}
use Rattle.std.specs.Io.KnownBytes.{Consumes}
use Rattle.session_log.specs.Turns.{waiting}
use Rattle.session_log.proofs.Turns.{read_behind, at_most_read, waiting-length}
use Rattle.session_log.proofs.Draws.{got_is, drawn_by, not_failed, met_end}
use Rattle.session_log.proofs.read_more.Goals as goal

pub returns-clause-turn : goal.returns-clause-turn
returns-clause-turn g c =
    let t = c.args.t in
    let left = t.to - t.from in
    let d = c.move_to_start.new.input in
    let behind = c.read-answer.new.buf in
    let n = c.unwrap_or-n.result in
    let inside = c.requires.inside in
    let moved = c.move_to_start.auto.input in
    let room : left ≤ length d = omega (arith, inside, moved) in
    let whole = put_mid left (length d - left) d behind in
    let size = c.read-answer.auto.buf in
    let same : length whole ≡ length d = same_len_mid left (length d - left) d behind size in
    let most = at_most_read c.read-answer.result behind n c.read-answer.ensures.bound c.unwrap_or-n.ensures in
    read_behind t _ c.args.input.now d whole n c.count_up-before.ensures c.requires c.move_to_start.ensures
    (take_put left (length d - left) d behind room)
    (omega (arith, room, same, size, most))
    (refl, refl, refl, refl, refl)

pub returns-clause-draws : goal.returns-clause-draws
returns-clause-draws g c =
    let t = c.args.t in
    let left = t.to - t.from in
    let d = c.move_to_start.new.input in
    let behind = c.read-answer.new.buf in
    let answer = c.read-answer.result in
    let n = c.unwrap_or-n.result in
    let is = c.unwrap_or-n.ensures in
    let why = c.read_failed-failed.ensures.why in
    let old = g.R.Read.remaining c.args.reader.now in
    let new = g.R.Read.remaining c.read-answer.new.self in
    let inside = c.requires.inside in
    let moved = c.move_to_start.auto.input in
    let size = c.read-answer.auto.buf in
    let room : left ≤ length d = omega (arith, inside, moved) in
    let most = at_most_read answer behind n c.read-answer.ensures.bound is in
    let got = got_is (waiting t c.args.input.now) d behind left n (waiting-length c.requires) room most in
    record {
      drawn = subst (Consumes old new) (sym got) (drawn_by answer old new behind n is c.read-answer.ensures.bytes);
      goes_on = λ m.
          let some = ltb-true 0 n m in
          let count = ap length got ∙ length-take-le n behind most in
          (not_failed answer c.read_failed-failed.result n why is m, omega (arith, some, count));
      at_end = λ m f.
          let end = met_end answer c.read_failed-failed.result old new behind n why is c.read-answer.ensures.bytes m f in
          (got ∙ ap (λ (k : ℕ). take k behind) end.0, λ free. end.1 (omega (arith, free, moved, size)));
    }
