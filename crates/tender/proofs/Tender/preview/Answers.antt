-- `tender::Tender::preview` meets its contract. Assumes nothing.
use Rattle.std.specs.Prelude.{Ok, Err}
use Rattle.tender.proofs.Allotting.{previews}
use Rattle.tender.proofs.Tender.preview.Goals as goal

pub returns-in-Ok : goal.returns-in-Ok
returns-in-Ok c = previews c.args.self c.requires c.ended_refusal.result (Ok c.in-Ok.previewed) c.in-Ok.ensures c.ended_refusal.ensures

pub returns-in-Err : goal.returns-in-Err
returns-in-Err c = previews c.args.self c.requires c.ended_refusal.result (Err c.in-Err.refusal) c.in-Err.ensures c.ended_refusal.ensures
