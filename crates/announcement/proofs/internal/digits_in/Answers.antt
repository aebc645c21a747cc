-- `announcement::internal::digits_in` meets its contract. Assumes nothing.
use mathlib.Core.Path.{ap, ◌∙◌}
use lib.ListN.{length}
use Rattle.digits.specs.Decimal.{digits_of}
use Rattle.layout.proofs.ReturnTrip.{at_most_lem}
use Rattle.announcement.specs.Announcement.{entry_of}
use Rattle.announcement.proofs.internal.digits_in.Goals as goal

pub number-requires : goal.number-requires
number-requires c = at_most_lem 19 (entry_of c.args.f).lengths (length c.bytes_in.result.now) c.requires.f_value c.bytes_in.ensures.1

pub returns : goal.returns
returns c = c.number.ensures ∙ ap digits_of c.bytes_in.ensures.0
