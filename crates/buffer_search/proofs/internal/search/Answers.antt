-- `buffer_search::internal::search` meets its contract. Assumes nothing.
use Rattle.buffer_search.proofs.Search.{search_found, search_past, search_other}
use Rattle.buffer_search.proofs.internal.search.Goals.{else-at-codes-via-then-at-codes+else-codes-at, else-at-codes-via-else-at-codes}
use Rattle.buffer_search.proofs.internal.search.Goals as goal

pub returns-then-codes-at : goal.returns-then-codes-at
returns-then-codes-at c = search_found c.args.codes.now c.requires c.args.code c.below-at.result c.below-at.ensures c.if-at-codes.true c.if-codes-at.true

pub returns-else-at-codes : goal.returns-else-at-codes
returns-else-at-codes c =
    elim c.else-at-codes.branch [
      | else-at-codes-via-then-at-codes+else-codes-at w ↦ search_other c.args.codes.now c.requires c.args.code c.below-at.result c.below-at.ensures w.if-at-codes.true w.if-codes-at.false
      | else-at-codes-via-else-at-codes w ↦ search_past c.args.codes.now c.requires c.args.code c.below-at.result c.below-at.ensures w.if-at-codes.false
    ]
