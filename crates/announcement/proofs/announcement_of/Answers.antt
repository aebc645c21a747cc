-- `announcement::announcement_of` meets its contract. Assumes nothing.
use mathlib.Core.Path.{ap, ◌∙◌}
use Rattle.envelope.specs.Application.{is_identifier}
use Rattle.announcement.specs.Announcement.{tender_type_of, characteristics_of, announcement_of}
use Rattle.announcement.proofs.announcement_of.Goals as goal

pub returns : goal.returns
unfolding announcement_of
returns c =
    let references = c.references_of-references.ensures in
    let identified = c.is_identifier-identified.ensures ∙ ap is_identifier c.bytes_in.ensures.0 in
    let kind = c.kind_of-kind.ensures ∙ ap tender_type_of c.bytes_in-2.ensures.0 in
    let characteristics = c.characteristics_of-characteristics.ensures ∙ ap characteristics_of c.bytes_in-3.ensures.0 in
    let spot = c.digits_in-spot.ensures in
    let forward = c.digits_in-forward.ensures in
    let cutoff = c.digits_in-cutoff.ensures in
    λ i. record { references = references i; identified = identified i; kind = kind i; characteristics = characteristics i; spot = spot i; forward = forward i; cutoff = cutoff i }
