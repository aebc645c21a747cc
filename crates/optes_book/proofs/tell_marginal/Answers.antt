-- `optes_book::tell_marginal` meets its contract. Assumes nothing.
use mathlib.Core.Path.{sym, ap, ◌∙◌}
use Rattle.places.specs.declared.Rate.{Rate}
use Rattle.std.specs.Prelude.{Option}
use Rattle.marginal.specs.Ranks.{rate_in}
use Rattle.numbers.specs.Numbers.{in_array}
use Rattle.optes_book.specs.Interface.{marginal_numbers}
use Rattle.optes_book.proofs.tell_marginal.Goals as goal

pub returns-in-Some : goal.returns-in-Some
returns-in-Some c =
    let m = c in
    let a = m.args in
    c.put_first.ensures ∙ ap (λ (x : Option Rate). in_array (marginal_numbers (rate_in x)) a.told.now) (sym m.in-Some.is)

pub returns-in-None : goal.returns-in-None
returns-in-None c =
    let m = c in
    let a = m.args in
    c.put_first-in-None.ensures ∙ ap (λ (x : Option Rate). in_array (marginal_numbers (rate_in x)) a.told.now) (sym m.in-None.is)
