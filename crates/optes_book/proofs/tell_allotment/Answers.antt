-- `optes_book::tell_allotment` meets its contract: refused or told. Assumes nothing.
use Rattle.optes_book.proofs.tell_allotment.Goals as goal

pub returns-in-Ok : goal.returns-in-Ok
returns-in-Ok c = rw c.in-Ok.is (λ i. (0, c.put_first.ensures i, c.tell_marginal.ensures i))

pub returns-in-Err : goal.returns-in-Err
returns-in-Err c = let a = c.args in rw c.in-Err.is (λ i. (c.number_of.ensures i, a.awards.now, a.told.now))
