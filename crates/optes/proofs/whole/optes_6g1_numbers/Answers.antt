-- `optes::whole::optes_6g1_numbers` meets its contract. Assumes nothing.
use borrow.Author.Tests.{not-true, not-false}
use mathlib.Core.Path.{◌≡◌, refl, sym, ap, ◌∙◌}
use mathlib.Core.Bool.{true}
use mathlib.Core.List.{List}
use Prim.Native.Nat.{ℕ}
use native.Mathlib.Omega.{arith}
use lib.ListN.{replicate}
use Rattle.layout.specs.Fields.{readable}
use Rattle.envelope.specs.Application.{layout6_g1}
use Rattle.numbers.specs.Numbers.{in_array}
use Rattle.optes.specs.Interface.{answered}
use Rattle.numbers.proofs.Arrays.{numbers_only}
use Rattle.optes.proofs.Interface.{numbers-unreadable, numbers-given, numbers-all}
use Rattle.optes.proofs.whole.optes_6g1_numbers.Goals as goal

pub returns-then-not-is_6g1 : goal.returns-then-not-is_6g1
returns-then-not-is_6g1 c =
    let a = c.args in
    sym (ap answered (numbers-unreadable a.m.now a.numbers.now (sym c.is_6g1.ensures ∙ not-true c.is_6g1.result c.if-not-is_6g1.true-raw)))

pub put_all-requires : goal.put_all-requires
put_all-requires c =
    let readable_there : readable layout6_g1 c.args.m.now ≡ true = sym c.is_6g1.ensures ∙ not-false c.is_6g1.result c.if-not-is_6g1.false-raw in
    (readable_there, omega arith)

pub returns-then-numbers-lt51 : goal.returns-then-numbers-lt51
returns-then-numbers-lt51 c =
    let readable_there : readable layout6_g1 c.args.m.now ≡ true = sym c.is_6g1.ensures ∙ not-false c.is_6g1.result c.if-not-is_6g1.false-raw in
    let a = c.args in
    let numbers = a.numbers.now in
    let all = numbers_only a.m.now (replicate 51 1) refl c.put_all.ensures in
    ap (λ (l : List ℕ). (0, l)) (c.put_first.ensures ∙ ap (λ (l : List ℕ). in_array l numbers) all) ∙ sym (ap answered (numbers-given a.m.now numbers readable_there))

pub put_all-requires-2 : goal.put_all-requires-2
put_all-requires-2 c =
    let readable_there : readable layout6_g1 c.args.m.now ≡ true = sym c.is_6g1.ensures ∙ not-false c.is_6g1.result c.if-not-is_6g1.false-raw in
    (readable_there, omega arith)

pub returns : goal.returns
returns c =
    let readable_there : readable layout6_g1 c.args.m.now ≡ true = sym c.is_6g1.ensures ∙ not-false c.is_6g1.result c.if-not-is_6g1.false-raw in
    let a = c.args in
    sym (ap answered (numbers-all a.m.now a.numbers.now _ _ readable_there (omega arith) c.put_all-2.ensures))
