-- `book::new_book` meets its contract. Assumes nothing.
use mathlib.Core.Path.{ap, ap₂, ◌∙◌}
use lib.ListN.{length, take}
use Rattle.book.specs.Viewed.{up_to64}
use Rattle.book.proofs.Empty.{up_to64_small, up_to64_stays, limits_kept, codes_kept}
use Rattle.book.proofs.new_book.Goals as goal

pub returns : goal.returns
returns c =
    let codes = c.args.codes.now in (
      codes_kept codes _ _ _ c.up_to_64.ensures c.keep_first.ensures,
      ap₂ take (ap up_to64 c.up_to_64.ensures ∙ up_to64_stays (up_to64 (length codes)) (up_to64_small (length codes)).0) (c.keep_first-2.ensures ∙ limits_kept c.args.limits.now),
    )
