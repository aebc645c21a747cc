-- `envelope::application::is_identifier` meets its contract. Assumes nothing.
use borrow.Author.Tests.{eq-eqb, ne_eqb}
use lib.ListN.{length}
use Rattle.envelope.specs.Application.{is_identifier}
use Rattle.envelope.proofs.application.is_identifier.Goals as goal

pub returns-then-s-eq11 : goal.returns-then-s-eq11
unfolding is_identifier
returns-then-s-eq11 c = rw (eq-eqb (length c.args.s.now) 11 c.if-s-eq11.true, c.all_digits.ensures, c.all_digits-then-s-eq11.ensures)

pub returns-else-s-eq11 : goal.returns-else-s-eq11
unfolding is_identifier
returns-else-s-eq11 c = rw (ne_eqb (length c.args.s.now) 11 c.if-s-eq11.false)
