-- `envelope::internal::contents_if` meets its contract. Assumes nothing.
use Rattle.envelope.proofs.internal.contents_if.Goals as goal

pub contents-requires : goal.contents-requires
contents-requires c = c.requires c.if-there.true

pub returns-then-there : goal.returns-then-there
returns-then-there c = rw c.if-there.true c.contents.ensures

pub returns-else-there : goal.returns-else-there
returns-else-there c = rw c.if-there.false
