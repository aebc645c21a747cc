-- `replies::internal::put_returned` meets its contract: message, banner and errors, chained. Assumes nothing.
use mathlib.Core.Path.{ap, ◌∙◌}
use mathlib.Core.List.{List, ◌++◌, map}
use Prim.Native.Nat.{zero-le}
use native.Mathlib.Omega.{arith}
use Rattle.output.proofs.Output.{said, then}
use Rattle.layout.specs.Fields.{field}
use Rattle.texts.specs.Texts.{ascii}
use Rattle.rules.specs.Receiving.{Error}
use Rattle.rules.specs.Replies.{error_texts, returned_message}
use Rattle.errors.specs.Listed.{named}
use Rattle.replies.proofs.Texts.{errors-field}
use Rattle.replies.proofs.internal.put_returned.Goals as goal

pub returns : goal.returns
unfolding returned_message
returns c =
    let few = c.as_slice in
    let x = c.args.m.now ++ field 0x98 (ascii "*** MESSAGGIO ERRATO ***") in
    said (errors-field x few.result.now c.shown-few.result.n (few.ensures.len (omega arith)) (omega arith) ∙ ap (λ (es : List Error). x ++ field 0x98 (error_texts es)) (ap (map named) few.ensures.first ∙ c.shown-few.ensures.0))
    (then zero-le (then zero-le (then zero-le c.put-banner.ensures c.put_field-list.ensures.0) c.put_head-start.ensures) c.put_texts.ensures.0)
