-- `terms::well_formed` meets its contract. Assumes nothing.
use mathlib.Core.Path.{ap, ◌∙◌}
use Rattle.std.proofs.Common.{is_some}
use Rattle.terms.proofs.Forming.{unformed, formed_with}
use Rattle.terms.proofs.well_formed.Goals as goal

pub returns-in_err-c-clause-whether : goal.returns-in_err-c-clause-whether
returns-in_err-c-clause-whether c = ap is_some c.from_residual.ensures ∙ unformed c.args.a c.in_err-c.was

pub returns-then-references_formed-a-clause-whether : goal.returns-then-references_formed-a-clause-whether
returns-then-references_formed-a-clause-whether c =
    formed_with c.args.a c.in_ok-c.c c.references_formed.result c.dates_formed.result _ c.in_ok-c.was c.references_formed.ensures c.dates_formed.ensures c.if-references_formed-a.true

pub returns-else-references_formed-a-clause-whether : goal.returns-else-references_formed-a-clause-whether
returns-else-references_formed-a-clause-whether c =
    formed_with c.args.a c.in_ok-c.c c.references_formed.result c.dates_formed.result _ c.in_ok-c.was c.references_formed.ensures c.dates_formed.ensures c.if-references_formed-a.false
