-- `replies::internal::row` meets its contract: an arm for each code, and the one for no code. Assumes nothing.
use borrow.Author.Tests.{ne_eqb}
use mathlib.Core.Path.{refl}
use lib.Dec.{lit<}
use Rattle.layout.specs.Fields.{one_of}
use Rattle.errors.specs.Listed.{idc_table}
use Rattle.replies.specs.Texts.{row_in}
use Rattle.replies.proofs.internal.row.Goals as goal

pub returns-in-900 : goal.returns-in-900
unfolding row_in idc_table one_of
returns-in-900 c = (rw c.in-900.is refl, lit< tt)

pub returns-in-309 : goal.returns-in-309
unfolding row_in idc_table one_of
returns-in-309 c = (rw c.in-309.is refl, lit< tt)

pub returns-in-300 : goal.returns-in-300
unfolding row_in idc_table one_of
returns-in-300 c = (rw c.in-300.is refl, lit< tt)

pub returns-in-599 : goal.returns-in-599
unfolding row_in idc_table one_of
returns-in-599 c = (rw c.in-599.is refl, lit< tt)

pub returns-in-521 : goal.returns-in-521
unfolding row_in idc_table one_of
returns-in-521 c = (rw c.in-521.is refl, lit< tt)

pub returns-in-502 : goal.returns-in-502
unfolding row_in idc_table one_of
returns-in-502 c = (rw c.in-502.is refl, lit< tt)

pub returns-in-522 : goal.returns-in-522
unfolding row_in idc_table one_of
returns-in-522 c = (rw c.in-522.is refl, lit< tt)

pub returns-in-503 : goal.returns-in-503
unfolding row_in idc_table one_of
returns-in-503 c = (rw c.in-503.is refl, lit< tt)

pub returns-in-302 : goal.returns-in-302
unfolding row_in idc_table one_of
returns-in-302 c = (rw c.in-302.is refl, lit< tt)

pub returns-in-908 : goal.returns-in-908
unfolding row_in idc_table one_of
returns-in-908 c = (rw c.in-908.is refl, lit< tt)

pub returns-in-303 : goal.returns-in-303
unfolding row_in idc_table one_of
returns-in-303 c = (rw c.in-303.is refl, lit< tt)

pub returns-in-901 : goal.returns-in-901
unfolding row_in idc_table one_of
returns-in-901 c = (rw c.in-901.is refl, lit< tt)

pub returns-in-902 : goal.returns-in-902
unfolding row_in idc_table one_of
returns-in-902 c = (rw c.in-902.is refl, lit< tt)

pub returns-in-903 : goal.returns-in-903
unfolding row_in idc_table one_of
returns-in-903 c = (rw c.in-903.is refl, lit< tt)

pub returns-in-904 : goal.returns-in-904
unfolding row_in idc_table one_of
returns-in-904 c = (rw c.in-904.is refl, lit< tt)

pub returns-in-905 : goal.returns-in-905
unfolding row_in idc_table one_of
returns-in-905 c = (rw c.in-905.is refl, lit< tt)

pub returns-in-906 : goal.returns-in-906
unfolding row_in idc_table one_of
returns-in-906 c = (rw c.in-906.is refl, lit< tt)

pub returns-in-907 : goal.returns-in-907
unfolding row_in idc_table one_of
returns-in-907 c = (rw c.in-907.is refl, lit< tt)

pub returns-in-301 : goal.returns-in-301
unfolding row_in idc_table one_of
returns-in-301 c = (rw c.in-301.is refl, lit< tt)

pub returns-in_default : goal.returns-in_default
unfolding row_in idc_table one_of
returns-in_default c =
    let x = c.args.code in
    let r = c.in_default.in_default-own.rest in (
      rw (ne_eqb x 900 r.0.0.0.0.0.0.0.0.0.0.0.0.0.0.0.0.0.0.1, ne_eqb x 309 r.0.0.0.0.0.0.0.0.0.0.0.0.0.0.0.0.0.1, ne_eqb x 300 r.0.0.0.0.0.0.0.0.0.0.0.0.0.0.0.0.1, ne_eqb x 599 r.0.0.0.0.0.0.0.0.0.0.0.0.0.0.0.1, ne_eqb x 521 r.0.0.0.0.0.0.0.0.0.0.0.0.0.0.1, ne_eqb x 502 r.0.0.0.0.0.0.0.0.0.0.0.0.0.1, ne_eqb x 522 r.0.0.0.0.0.0.0.0.0.0.0.0.1, ne_eqb x 503 r.0.0.0.0.0.0.0.0.0.0.0.1, ne_eqb x 302 r.0.0.0.0.0.0.0.0.0.0.1, ne_eqb x 908 r.0.0.0.0.0.0.0.0.0.1, ne_eqb x 303 r.0.0.0.0.0.0.0.0.1, ne_eqb x 901 r.0.0.0.0.0.0.0.1, ne_eqb x 902 r.0.0.0.0.0.0.1, ne_eqb x 903 r.0.0.0.0.0.1, ne_eqb x 904 r.0.0.0.0.1, ne_eqb x 905 r.0.0.0.1, ne_eqb x 906 r.0.0.1, ne_eqb x 907 r.0.1, ne_eqb x 301 r.1) refl,
      lit< tt,
    )
