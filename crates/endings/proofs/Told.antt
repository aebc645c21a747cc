-- The sessions end as said beside them: antt computes every row. Assumes nothing.
use Rattle.texts.specs.Texts.{same_text}
use Rattle.layout.specs.Fields.{field}
use Rattle.digits.specs.Decimal.{all_digits, number_from, digits_of, digits}
use Rattle.log_rules.specs.Steps.{groups, admitted_in, holds_field}
use Rattle.endings.specs.Endings.{ends_log, left_after, no_zeros, decimal, missing_text, length_text, tag_text, field_text, why_text, ending_text}
use Rattle.endings.specs.Told.{if_left, line_of, all_told, told, endings, EndingsTold}

pub endings-told : EndingsTold
unfolding same_text field all_digits number_from digits_of digits groups admitted_in holds_field ends_log left_after no_zeros decimal missing_text length_text tag_text field_text why_text ending_text if_left line_of all_told told endings
endings-told = tt
