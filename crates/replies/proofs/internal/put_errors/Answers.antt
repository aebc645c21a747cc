-- `replies::internal::put_errors` meets its contract. Assumes nothing.
use mathlib.Core.Path.{ap, ◌∙◌}
use mathlib.Core.List.{map}
use native.Mathlib.Omega.{arith}
use Rattle.output.proofs.Output.{said}
use Rattle.rules.specs.Replies.{error_texts}
use Rattle.errors.specs.Listed.{named}
use Rattle.replies.proofs.internal.put_errors.Goals as goal

pub returns : goal.returns
returns c =
    let texts = c.put_texts in
    (said (ap error_texts (ap (map named) c.as_slice.ensures.first ∙ c.shown-few.ensures.0)) texts.ensures.0, omega (arith, texts.ensures.1))
