-- `journal::internal::run_in` meets its contract. The loop's invariant: the fields up to an index are taken and their lines written. Assumes nothing.
-- the call, and the loop and the turn that a later place looks back to
use mathlib.Core.Path.{◌≡◌, sym, ap, ◌∙◌}
use mathlib.Core.Bool.{Bool, true, false, ◌&&◌, not}
use Prim.Native.Nat.{◌+◌, ◌-◌, ◌≤◌, ◌<◌}
use native.Mathlib.Omega.{arith}
use lib.Dec.{leb}
use lib.ListN.{length, drop, length-drop}
use borrow.Author.Tests.{leb-true, not-true}
use Rattle.laws.proofs.Tests.{and_left, and_right}
use Rattle.log_rules.specs.Steps.{holds_field}
use Rattle.log_rules.proofs.Walks.{held-head}
use Rattle.steps.specs.Viewed.{viewed}
use Rattle.journal.proofs.Running.{ends_at}
use Rattle.journal.proofs.Logging.{wrote-within, field-taken, none_logged, room-left, one_logged}
use Rattle.journal.proofs.internal.run_in.Goals as goal

pub loop-standing-init : goal.loop-standing-init
loop-standing-init c =
    let start = c in
    none_logged start.args.input.now start.args.space.now _ start.args.codes.now start.args.words.now start.requires.given start.requires.codes_len.0 start.requires.codes_len.1

pub holds_field-requires : goal.holds_field-requires
holds_field-requires c = c.loop-standing.invariant.within

pub overflow_sub-room : goal.overflow_sub-room
overflow_sub-room c = c.loop-standing.invariant.room

pub overflow_add-end : goal.overflow_add-end
overflow_add-end c =
    let found : Bool = c.holds_field.result in
    let over : Bool = c.loop-standing.standing.ended in
    let going : (found && not over && leb 23040 (length c.args.space.now - c.loop-standing.length)) ≡ true = c.loop-standing-test.true in
    let field_there : holds_field (drop c.loop-standing.at c.args.input.now) ≡ true = sym c.holds_field.ensures ∙ and_left found (not over) (and_left (found && not over) _ going) in
    let headed : c.loop-standing.at + 3 ≤ length c.args.input.now = let l = c.loop-standing in
    let x = c.args.input.now in
    let h = held-head (drop l.at x) field_there in
    let d = length-drop l.at x in
    omega (arith, h, d) in
    let slice_short : length c.args.input.now < 18446744073709551616 = omega arith in
    let input_short : length c.args.input.now < 18446744073709551616 = slice_short in
    let h = headed in let k = input_short in omega (arith, h, k)

pub length_at-requires : goal.length_at-requires
length_at-requires c =
    let found : Bool = c.holds_field.result in
    let over : Bool = c.loop-standing.standing.ended in
    let going : (found && not over && leb 23040 (length c.args.space.now - c.loop-standing.length)) ≡ true = c.loop-standing-test.true in
    let field_there : holds_field (drop c.loop-standing.at c.args.input.now) ≡ true = sym c.holds_field.ensures ∙ and_left found (not over) (and_left (found && not over) _ going) in
    let headed : c.loop-standing.at + 3 ≤ length c.args.input.now = let l = c.loop-standing in
    let x = c.args.input.now in
    let h = held-head (drop l.at x) field_there in
    let d = length-drop l.at x in
    omega (arith, h, d) in
    headed

pub overflow_add-end-in-loop-standing : goal.overflow_add-end-in-loop-standing
overflow_add-end-in-loop-standing c =
    let found : Bool = c.holds_field.result in
    let over : Bool = c.loop-standing.standing.ended in
    let going : (found && not over && leb 23040 (length c.args.space.now - c.loop-standing.length)) ≡ true = c.loop-standing-test.true in
    let field_there : holds_field (drop c.loop-standing.at c.args.input.now) ≡ true = sym c.holds_field.ensures ∙ and_left found (not over) (and_left (found && not over) _ going) in
    let ends : c.loop-standing.at + 3 + c.length_at.result ≤ length c.args.input.now = ends_at c.args.input.now c.loop-standing.at c.length_at.result c.length_at.ensures.0 field_there in
    let slice_short : length c.args.input.now < 18446744073709551616 = omega arith in
    let input_short : length c.args.input.now < 18446744073709551616 = slice_short in
    let h = ends in let k = input_short in omega (arith, h, k)

pub bounds-input-at : goal.bounds-input-at
bounds-input-at c =
    let found : Bool = c.holds_field.result in
    let over : Bool = c.loop-standing.standing.ended in
    let going : (found && not over && leb 23040 (length c.args.space.now - c.loop-standing.length)) ≡ true = c.loop-standing-test.true in
    let field_there : holds_field (drop c.loop-standing.at c.args.input.now) ≡ true = sym c.holds_field.ensures ∙ and_left found (not over) (and_left (found && not over) _ going) in
    let ends : c.loop-standing.at + 3 + c.length_at.result ≤ length c.args.input.now = ends_at c.args.input.now c.loop-standing.at c.length_at.result c.length_at.ensures.0 field_there in
    let h = ends in omega (arith, h)

pub overflow_add-at : goal.overflow_add-at
overflow_add-at c =
    let found : Bool = c.holds_field.result in
    let over : Bool = c.loop-standing.standing.ended in
    let going : (found && not over && leb 23040 (length c.args.space.now - c.loop-standing.length)) ≡ true = c.loop-standing-test.true in
    let field_there : holds_field (drop c.loop-standing.at c.args.input.now) ≡ true = sym c.holds_field.ensures ∙ and_left found (not over) (and_left (found && not over) _ going) in
    let ends : c.loop-standing.at + 3 + c.length_at.result ≤ length c.args.input.now = ends_at c.args.input.now c.loop-standing.at c.length_at.result c.length_at.ensures.0 field_there in
    let slice_short : length c.args.input.now < 18446744073709551616 = omega arith in
    let input_short : length c.args.input.now < 18446744073709551616 = slice_short in
    let h = ends in let k = input_short in omega (arith, h, k)

pub slice_bounds-step-count : goal.slice_bounds-step-count
slice_bounds-step-count c =
    let found : Bool = c.holds_field.result in
    let over : Bool = c.loop-standing.standing.ended in
    let going : (found && not over && leb 23040 (length c.args.space.now - c.loop-standing.length)) ≡ true = c.loop-standing-test.true in
    let field_there : holds_field (drop c.loop-standing.at c.args.input.now) ≡ true = sym c.holds_field.ensures ∙ and_left found (not over) (and_left (found && not over) _ going) in
    let ends : c.loop-standing.at + 3 + c.length_at.result ≤ length c.args.input.now = ends_at c.args.input.now c.loop-standing.at c.length_at.result c.length_at.ensures.0 field_there in
    let h = ends in omega (arith, h)

pub slice_bounds-step-start : goal.slice_bounds-step-start
slice_bounds-step-start c =
    let found : Bool = c.holds_field.result in
    let over : Bool = c.loop-standing.standing.ended in
    let going : (found && not over && leb 23040 (length c.args.space.now - c.loop-standing.length)) ≡ true = c.loop-standing-test.true in
    let field_there : holds_field (drop c.loop-standing.at c.args.input.now) ≡ true = sym c.holds_field.ensures ∙ and_left found (not over) (and_left (found && not over) _ going) in
    let ends : c.loop-standing.at + 3 + c.length_at.result ≤ length c.args.input.now = ends_at c.args.input.now c.loop-standing.at c.length_at.result c.length_at.ensures.0 field_there in
    let h = ends in omega (arith, h)

pub slice_bounds-step-end : goal.slice_bounds-step-end
slice_bounds-step-end c =
    let found : Bool = c.holds_field.result in
    let over : Bool = c.loop-standing.standing.ended in
    let going : (found && not over && leb 23040 (length c.args.space.now - c.loop-standing.length)) ≡ true = c.loop-standing-test.true in
    let field_there : holds_field (drop c.loop-standing.at c.args.input.now) ≡ true = sym c.holds_field.ensures ∙ and_left found (not over) (and_left (found && not over) _ going) in
    let ends : c.loop-standing.at + 3 + c.length_at.result ≤ length c.args.input.now = ends_at c.args.input.now c.loop-standing.at c.length_at.result c.length_at.ensures.0 field_there in
    let h = ends in omega (arith, h)

pub slice_bounds-step-count-in-loop-standing : goal.slice_bounds-step-count-in-loop-standing
slice_bounds-step-count-in-loop-standing c = c.loop-standing.invariant.room

pub slice_bounds-step-start-in-loop-standing : goal.slice_bounds-step-start-in-loop-standing
slice_bounds-step-start-in-loop-standing c = let r = c.loop-standing.invariant.room in omega (arith, r)

pub slice_bounds-step-end-in-loop-standing : goal.slice_bounds-step-end-in-loop-standing
slice_bounds-step-end-in-loop-standing c = let r = c.loop-standing.invariant.same in omega (arith, r)

pub step-taken-requires : goal.step-taken-requires
step-taken-requires c =
    let found : Bool = c.holds_field.result in
    let over : Bool = c.loop-standing.standing.ended in
    let going : (found && not over && leb 23040 (length c.args.space.now - c.loop-standing.length)) ≡ true = c.loop-standing-test.true in
    let unended : c.loop-standing.standing.ended ≡ false = not-true over (and_right found (not over) (and_left (found && not over) _ going)) in
    let roomy : 23040 ≤ length c.args.space.now - c.loop-standing.length = leb-true 23040 (length c.args.space.now - c.loop-standing.length) (and_right (found && not over) _ going) in
    let t = c in
    let i = t.loop-standing.invariant in
    let left = room-left i in
    let r = roomy in
    record { ready = record { unended = unended; given = i.given }; codes_len = (i.codes-length, i.words-length, omega (arith, left, r)) }

pub overflow_add-length : goal.overflow_add-length
overflow_add-length c =
    let space_short_lem : length c.args.space.now < 18446744073709551616 = omega arith in
    let w = c.step-taken in
    let l = c.loop-standing in
    let h = wrote-within _ _ _ w.result.length w.ensures.lines w.auto.space in
    let r = room-left l.invariant in
    let o = l.invariant.room in
    let k = space_short_lem in
    omega (arith, h, r, o, k)

pub loop-standing-smaller : goal.loop-standing-smaller
loop-standing-smaller c =
    let found : Bool = c.holds_field.result in
    let over : Bool = c.loop-standing.standing.ended in
    let going : (found && not over && leb 23040 (length c.args.space.now - c.loop-standing.length)) ≡ true = c.loop-standing-test.true in
    let field_there : holds_field (drop c.loop-standing.at c.args.input.now) ≡ true = sym c.holds_field.ensures ∙ and_left found (not over) (and_left (found && not over) _ going) in
    let ends : c.loop-standing.at + 3 + c.length_at.result ≤ length c.args.input.now = ends_at c.args.input.now c.loop-standing.at c.length_at.result c.length_at.ensures.0 field_there in
    let h = ends in omega (arith, h)

pub loop-standing-preserved : goal.loop-standing-preserved
loop-standing-preserved c =
    let found : Bool = c.holds_field.result in
    let over : Bool = c.loop-standing.standing.ended in
    let going : (found && not over && leb 23040 (length c.args.space.now - c.loop-standing.length)) ≡ true = c.loop-standing-test.true in
    let field_there : holds_field (drop c.loop-standing.at c.args.input.now) ≡ true = sym c.holds_field.ensures ∙ and_left found (not over) (and_left (found && not over) _ going) in
    let unended : c.loop-standing.standing.ended ≡ false = not-true over (and_right found (not over) (and_left (found && not over) _ going)) in
    let ends : c.loop-standing.at + 3 + c.length_at.result ≤ length c.args.input.now = ends_at c.args.input.now c.loop-standing.at c.length_at.result c.length_at.ensures.0 field_there in
    let w = c.step-taken in
    let head = c in
    let t = head in
    let l = t.loop-standing in
    let n = head.length_at in
    let r = w.result in
    one_logged l.invariant r.standing w.new.codes w.new.words (l.at + 3 + n.result) r.length w.new.space
    (field-taken t.args.input.now l.at n.result n.ensures.0 (viewed l.standing l.codes l.words) _ _ w.new.codes w.new.words r field_there unended w.ensures)
    w.auto.space ends w.ensures.given w.auto.codes w.auto.words

pub shape_of-codes : goal.shape_of-codes
shape_of-codes c = c.loop-standing.invariant.codes-length ∙ sym c.requires.codes_len.0

pub shape_of-words : goal.shape_of-words
shape_of-words c = c.loop-standing.invariant.words-length ∙ sym c.requires.codes_len.1

pub shape_of-space : goal.shape_of-space
shape_of-space c = c.loop-standing.invariant.same

pub returns : goal.returns
returns c =
    let l = c.loop-standing in
    let space = c.args.space.now in
    record {
      runs = l.invariant.runs;
      within = l.invariant.within;
      room = l.invariant.room;
      all = ap (λ (b : Bool). b && not l.standing.ended && leb 23040 (length space - l.length)) (sym c.holds_field.ensures) ∙ c.loop-standing-test.false;
      given = l.invariant.given;
      codes-length = l.invariant.codes-length;
      words-length = l.invariant.words-length;
    }
