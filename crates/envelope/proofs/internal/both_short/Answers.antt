-- `envelope::internal::both_short` meets its contract. Assumes nothing.
use Rattle.envelope.proofs.Fields6G1.{short_test}
use Rattle.envelope.proofs.internal.both_short.Goals as goal

pub returns : goal.returns
returns c = short_test c.args.m.now c.requires
