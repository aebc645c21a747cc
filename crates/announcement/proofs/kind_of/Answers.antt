-- `announcement::kind_of` meets its contract. Assumes nothing.
use borrow.Author.Tests.{eq-eqb, ne_eqb, not-true, not-false}
use mathlib.Core.Path.{sym, ◌∙◌}
use lib.ListN.{length}
use Rattle.announcement.specs.Announcement.{tender_type_of}
use Rattle.announcement.proofs.kind_of.Goals as goal

pub returns-then-s-ne18 : goal.returns-then-s-ne18
unfolding tender_type_of
returns-then-s-ne18 c = rw (ne_eqb (length c.args.s.now) 18 c.if-s-ne18.true)

pub returns-then-not-fixed_parts_stand : goal.returns-then-not-fixed_parts_stand
unfolding tender_type_of
returns-then-not-fixed_parts_stand c = rw (eq-eqb (length c.args.s.now) 18 c.if-s-ne18.false, sym c.fixed_parts_stand.ensures ∙ not-true _ c.if-not-fixed_parts_stand.true-raw)

pub returns : goal.returns
unfolding tender_type_of
returns c = rw (eq-eqb (length c.args.s.now) 18 c.if-s-ne18.false, sym c.fixed_parts_stand.ensures ∙ not-false _ c.if-not-fixed_parts_stand.false-raw) c.tender_named.ensures
