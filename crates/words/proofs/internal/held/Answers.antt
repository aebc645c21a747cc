-- `words::internal::held` meets its contract. Assumes nothing.
use Rattle.std.proofs.Common.{sym, ap, ◌∙◌}
use Rattle.std.proofs.Common.{Some}
use Rattle.digits.proofs.Reading.{number_is, none_is}
use Rattle.words.proofs.internal.held.Goals as goal

pub value-requires : goal.value-requires
value-requires c = sym c.all_small.ensures ∙ c.if-all_small.true

pub returns-then-all_small : goal.returns-then-all_small
returns-then-all_small c =
    λ s l.
    let d = sym l.small ∙ sym c.all_small.ensures ∙ c.if-all_small.true in
    ap Some (c.value.ensures ∙ l.number d) ∙ sym (number_is s d)

pub returns-else-all_small : goal.returns-else-all_small
returns-else-all_small c = λ s l. sym (none_is s (sym l.small ∙ sym c.all_small.ensures ∙ c.if-all_small.false))
