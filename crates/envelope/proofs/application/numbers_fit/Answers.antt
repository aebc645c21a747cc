-- `envelope::application::numbers_fit` meets its contract. Assumes nothing.
use Rattle.envelope.specs.Application.{numbers_fit}
use Rattle.envelope.proofs.application.numbers_fit.Goals as goal

pub returns : goal.returns
unfolding numbers_fit
returns c = rw (c.address_fits.ensures, c.address_fits-2.ensures, c.places_fit.ensures)
