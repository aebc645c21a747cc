-- `envelope::application::texts_fit` meets its contract. Assumes nothing.
use Rattle.envelope.specs.Application.{texts_fit}
use Rattle.envelope.proofs.application.texts_fit.Goals as goal

pub returns : goal.returns
unfolding texts_fit
returns c = rw c.is_identifier.ensures
