-- `tender::Tender::allot` meets its contract. Assumes nothing.
use Rattle.std.specs.Prelude.{Ok, Err}
use mathlib.Core.Path.{refl}
use Rattle.tender.proofs.Allotting.{allots}
use Rattle.tender.proofs.Tender.allot.Goals as goal

pub returns-in-Ok : goal.returns-in-Ok
returns-in-Ok c = allots c.args.self c.requires c.not_closed.result (Ok c.in-Ok.allotment) c.in-Ok.ensures c.not_closed.ensures c.in_state.result c.in_state.ensures

pub returns-in-Err : goal.returns-in-Err
returns-in-Err c = allots c.args.self c.requires c.not_closed.result (Err c.in-Err.refusal) c.in-Err.ensures c.not_closed.ensures c.args.self refl
