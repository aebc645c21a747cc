-- `endings::text::hex_digit` meets its contract. Assumes nothing.
use mathlib.Core.Path.{refl, sym}
use borrow.Author.Tests.{lt-ltb, le-ltb}
use Rattle.endings.proofs.text.hex_digit.Goals as goal

pub returns-then-d-lt10 : goal.returns-then-d-lt10
returns-then-d-lt10 c = sym (rw (lt-ltb _ 10 c.if-d-lt10.true) refl)

pub returns-else-d-lt10 : goal.returns-else-d-lt10
returns-else-d-lt10 c = sym (rw (le-ltb _ 10 c.if-d-lt10.false) refl)
