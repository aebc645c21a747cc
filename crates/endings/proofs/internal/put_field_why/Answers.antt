-- `endings::internal::put_field_why` meets its contract. Assumes nothing.
use mathlib.Core.Path.{refl, sym}
use native.Mathlib.Omega.{arith}
use borrow.Author.Tests.{ne_eqb}
use Rattle.output.proofs.Output.{said}
use Rattle.endings.specs.Endings.{field_text}
use Rattle.endings.proofs.internal.put_field_why.Goals as goal

pub returns-in-160 : goal.returns-in-160
unfolding field_text
returns-in-160 c =
    let text = c.put in
    (said (sym (rw c.in-160.is refl)) text.ensures, omega (arith, text.ensures.past))

pub returns-in-162 : goal.returns-in-162
unfolding field_text
returns-in-162 c =
    let text = c.put_length in
    (said (sym (rw c.in-162.is refl)) text.ensures.0, text.ensures.1)

pub returns-in-163 : goal.returns-in-163
unfolding field_text
returns-in-163 c =
    let text = c.put_length-in-163 in
    (said (sym (rw c.in-163.is refl)) text.ensures.0, text.ensures.1)

pub returns-in-164 : goal.returns-in-164
unfolding field_text
returns-in-164 c =
    let text = c.put_length-in-164 in
    (said (sym (rw c.in-164.is refl)) text.ensures.0, text.ensures.1)

pub returns-in-165 : goal.returns-in-165
unfolding field_text
returns-in-165 c =
    let text = c.put_length-in-165 in
    (said (sym (rw c.in-165.is refl)) text.ensures.0, text.ensures.1)

pub returns-in_default : goal.returns-in_default
unfolding field_text
returns-in_default c =
    let text = c.put_tag in
    let tag = c.args.tag in
    let rest = c.in_default.in_default-own.rest in
    (said (sym (rw (ne_eqb tag 160 rest.0.0.0.0.1, ne_eqb tag 162 rest.0.0.0.1, ne_eqb tag 163 rest.0.0.1, ne_eqb tag 164 rest.0.1, ne_eqb tag 165 rest.1) refl)) text.ensures.0, text.ensures.1)
