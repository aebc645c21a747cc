-- `buffer_questions::internal::tell_terms` meets its contract. Assumes nothing.
use mathlib.Core.Path.{◌≡◌, sym, ap, ◌∙◌}
use mathlib.Core.List.{List}
use Prim.Native.Nat.{ℕ}
use native.Mathlib.Omega.{arith}
use lib.ListN.{length, replicate}
use Rattle.numbers.specs.Numbers.{in_array}
use Rattle.numbers.proofs.Arrays.{written_only}
use Rattle.buffer.specs.Words.{terms_numbers}
use Rattle.buffer_questions.proofs.internal.tell_terms.Goals as goal

pub returns : goal.returns
returns c =
    let a = c.args in
    let t = c.terms_in.result in
    let w = c.put_terms.ensures in
    let long : length (terms_numbers t) ≡ 21 = omega (arith, w.0.past, w.1) in
    let all = written_only (terms_numbers t) (replicate 21 0) (sym long) w.0 ∙ ap terms_numbers c.terms_in.ensures in
    c.put_first.ensures ∙ ap (λ (l : List ℕ). in_array l a.told.now) all
