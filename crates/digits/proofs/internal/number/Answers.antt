-- `digits::internal::number` meets its contract. Assumes nothing.
use mathlib.Core.Path.{sym, ap, ◌∙◌}
use Rattle.std.proofs.Common.{Some}
use Rattle.digits.proofs.Reading.{number_is, none_is}
use Rattle.digits.proofs.internal.number.Goals as goal

pub value-requires : goal.value-requires
value-requires c = record { s_len_bound = c.requires; s_value = sym c.all_digits.ensures ∙ c.if-all_digits.true }

pub returns-then-all_digits : goal.returns-then-all_digits
returns-then-all_digits c = ap Some c.value.ensures ∙ sym (number_is c.args.s.now (sym c.all_digits.ensures ∙ c.if-all_digits.true))

pub returns-else-all_digits : goal.returns-else-all_digits
returns-else-all_digits c = sym (none_is c.args.s.now (sym c.all_digits.ensures ∙ c.if-all_digits.false))
