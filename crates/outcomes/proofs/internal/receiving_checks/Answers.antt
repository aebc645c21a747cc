-- `outcomes::internal::receiving_checks` meets its contract. Assumes nothing.
use borrow.Author.Rules.{rules}
use Rattle.std.specs.Prelude.{Err}
use mathlib.Core.Path.{◌≡◌, refl}
use Rattle.refusals.specs.declared.Refusal.TheVariants as refusal
use Rattle.outcomes.proofs.Checking.{checks_first, checks_unreadable, checks_read}
use Rattle.outcomes.proofs.internal.receiving_checks.Goals as goal

pub returns-in_err-not_receiving : goal.returns-in_err-not_receiving
returns-in_err-not_receiving c =
    let a = c.args in
    let f = c.in_err-not_receiving.field-0.0 in
    let told : c.from_residual.result ≡ Err f = search rules in
    rw told (checks_first a.state a.m.now a.date a.time a.room f c.in_err-not_receiving.ensures)

pub returns-in_err-read : goal.returns-in_err-read
returns-in_err-read c =
    let a = c.args in
    let told : c.from_residual-in_err-read.result ≡ Err refusal.Unreadable = search rules in
    rw told
    (checks_unreadable a.state a.m.now a.date a.time a.room c.in_ok-not_receiving.ensures c.read.result c.read.ensures refusal.Unreadable c.in_err-read.field-0.0 refl c.in_err-read.was)

pub returns : goal.returns
returns c =
    let a = c.args in
    checks_read a.state a.m.now a.date a.time a.room c.in_ok-not_receiving.ensures c.read.result c.read.ensures _ c.in_ok-read.was
