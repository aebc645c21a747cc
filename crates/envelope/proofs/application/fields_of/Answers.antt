-- `envelope::application::fields_of` meets its contract. Assumes nothing.
use mathlib.Core.Path.{ap, ◌∙◌}
use Rattle.places.specs.Bids.{places_of}
use Rattle.envelope.specs.Application.{fields_of}
use Rattle.envelope.proofs.application.fields_of.Goals as goal

pub returns : goal.returns
unfolding fields_of
returns c =
    let sender = c.sender_of-sender.ensures in
    let recipient = c.recipient_of-recipient.ensures in
    let cro = c.cro_of-cro.ensures in
    let date = c.date_of-date.ensures in
    let time = c.time_of-time.ensures in
    let check = c.check_of-check.ensures in
    let places = c.read_places-places.ensures ∙ ap places_of c.bytes_in.ensures.0 in
    λ i. record { sender = sender i; recipient = recipient i; cro = cro i; date = date i; time = time i; check = check i; places = places i }
