-- `announcement::references_of` meets its contract. Assumes nothing.
use Rattle.announcement.specs.Announcement.{references_of}
use Rattle.announcement.proofs.references_of.Goals as goal

pub returns : goal.returns
unfolding references_of
returns c =
    let sender = c.digits_in-sender.ensures in
    let recipient = c.digits_in-recipient.ensures in
    let cro = c.digits_in-cro.ensures in
    let date = c.digits_in-date.ensures in
    let time = c.digits_in-time.ensures in
    λ i. record { sender = sender i; recipient = recipient i; cro = cro i; date = date i; time = time i }
