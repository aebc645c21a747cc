-- `checks::internal::other_recipient` meets its contract. Assumes nothing.
use mathlib.Core.Path.{ap, ◌∙◌}
use mathlib.Core.Logic.{⊎_elim}
use mathlib.Core.Bool.{not}
use mathlib.Core.List.{List}
use Prim.Native.Nat.{ℕ}
use native.Mathlib.Omega.{arith}
use lib.ListN.{take}
use Rattle.texts.specs.Texts.{ascii, same_text}
use Rattle.checks.proofs.internal.other_recipient.Goals as goal

pub slice_bounds-same-end : goal.slice_bounds-same-end
slice_bounds-same-end c = ⊎_elim (λ e. omega arith) (λ e. omega arith) c.bytes_in-recipient.ensures.1

pub returns : goal.returns
returns c = ap not (c.same.ensures ∙ ap (λ (s : List ℕ). same_text (take 5 s) (ascii "01000")) c.bytes_in-recipient.ensures.0)
