-- `reception::internal::put_reply` meets its contract. Assumes nothing.
use borrow.Author.Rules.{rules}
use mathlib.Core.Path.{◌≡◌, sym, ap, ap₂, subst, ◌∙◌}
use mathlib.Core.List.{List}
use Prim.Native.Nat.{ℕ}
use native.Mathlib.Omega.{arith}
use lib.ListN.{length}
use borrow.Author.Tests.{eqb-true}
use Rattle.std.proofs.lemmas.Bool.{eqb-false}
use Rattle.output.specs.Output.{Wrote}
use Rattle.output.proofs.Output.{said}
use Rattle.texts.specs.Texts.{ascii}
use Rattle.envelope.proofs.Promise.{longest_message, sender_length}
use Rattle.rules.specs.Receiving.{Error}
use Rattle.rules.specs.Replies.{confirmation}
use Rattle.rules.specs.Calls.{reply}
use Rattle.errors.specs.Listed.{listed}
use Rattle.reception.proofs.Listing.{listed_none, empty_told, reply_some}
use Rattle.reception.proofs.internal.put_reply.Goals as goal

pub put_returned-requires : goal.put_returned-requires
put_returned-requires c =
    let some = eqb-false c.args.e.n 0 (sym c.is_empty.ensures ∙ c.if-not-is_empty.true) in
    let l = longest_message c.args.m.now c.requires.m_value in
    (omega (arith, some), c.requires.n_bound.0, omega (arith, l, c.requires.n_bound.1))

pub returns-then-not-is_empty : goal.returns-then-not-is_empty
returns-then-not-is_empty c =
    let a = c.args in
    let sixteen : length a.e.codes ≡ 16 = search rules in
    let some = sym (empty_told a.e.codes a.e.n (omega (arith, sixteen))) ∙ sym c.is_empty.ensures ∙ c.if-not-is_empty.true in
    subst (λ (text : List ℕ). Wrote a.space.now 0 text c.put_returned.new.space c.put_returned.result) (sym (reply_some (listed a.e) a.t.identifier a.m.now a.time some)) c.put_returned.ensures

pub put_confirmation-requires : goal.put_confirmation-requires
put_confirmation-requires c =
    let eleven : length c.args.t.identifier ≡ 11 = search rules in
    let m = c.args.m.now in
    let sender = ap length c.bytes_in.ensures.0 in
    let within = (sender_length m c.requires.m_value).1 in
    omega (arith, sender, within, c.bytes_in-2.ensures.1, eleven, c.requires.n_bound.1)

pub returns : goal.returns
unfolding reply
returns c =
    let a = c.args in
    let empty : a.e.n ≡ 0 = eqb-true a.e.n 0 (sym c.is_empty.ensures ∙ c.if-not-is_empty.false) in
    let none = listed_none a.e.codes a.e.n (omega arith) in
    let text = ap₂ (λ (x y : List ℕ). confirmation (ascii "6G2") x y a.time a.t.identifier) c.bytes_in.ensures.0 c.bytes_in-2.ensures.0 in
    said (text ∙ ap (λ (es : List Error). reply es a.t.identifier a.m.now a.time) (sym none)) c.put_confirmation.ensures
