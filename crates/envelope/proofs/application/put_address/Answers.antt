-- `envelope::application::put_address` meets its contract: the head covers the digits before the code, and the rest follows it. Assumes nothing.
use mathlib.Core.Path.{◌≡◌, refl, ap, ◌∙◌}
use mathlib.Core.List.{List, ◌++◌, append_assoc}
use Prim.Native.Nat.{ℕ}
use native.Mathlib.Omega.{arith}
use lib.ListN.{drop}
use Rattle.output.proofs.Output.{then, said}
use Rattle.digits.specs.Decimal.{digits}
use Rattle.layout.specs.Fields.{head}
use Rattle.addresses.specs.Addresses.{address_text, address_length, code_in}
use Rattle.addresses.proofs.Writing.{code_below, code-first, five_or_more}
use Rattle.envelope.proofs.Writing.{short_digits, address_field}
use Rattle.envelope.proofs.application.put_address.Goals as goal

pub put_eight-end-requires : goal.put_eight-end-requires
put_eight-end-requires c =
    let start = c in
    let a = start.args.a in
    let l = five_or_more a start.requires.0 in
    let b = code_below a start.requires.0 in
    (omega (arith, start.requires.1), omega (arith, c.code_of.ensures))

pub returns : goal.returns
returns c =
    let rest = c in
    let first = rest in
    let eight = first in
    let start = eight in
    let a = start.args in
    let n = code_in a.a in
    let h = head a.tag (address_length a.a) in
    let t = drop 5 (address_text a.a) in
    let l = five_or_more a.a start.requires.0 in
    let code = said (ap (digits 8) eight.code_of.ensures) eight.put_eight-end.ensures.0 in
    let over = said (ap (head a.tag) first.address_length.ensures) first.put_head.ensures in
    let e : h ++ digits 5 n ++ t ≡ h ++ address_text a.a = append_assoc h (digits 5 n) t ∙ ap (λ (s : List ℕ). h ++ s) (code-first a.a start.requires.0) in (
      said (e ∙ address_field a.tag a.a) (then (omega arith) (short_digits a.space.now a.at 5 n a.at h refl (omega arith) (omega arith) (omega (arith, start.requires.1)) refl code over) rest.put_after_code.ensures.0),
      omega (arith, eight.put_eight-end.ensures.1, rest.put_after_code.ensures.1),
    )
