-- `in_place::internal::leave_in` meets its contract: nothing is held, or the time, the flag, the rates and the amounts are stored. Assumes nothing.
use mathlib.Core.Path.{◌≡◌, sym, ap, subst, ◌∙◌}
use mathlib.Core.List.{List, map}
use Prim.Native.Nat.{ℕ, ◌+◌, ◌*◌, ◌≤◌}
use native.Mathlib.Omega.{arith}
use lib.ListN.{length, length-map, length-set}
use lib.Seq.{sets}
use borrow.Author.Tests.{not-true, not-false}
use Rattle.laws.proofs.Arrays.{length_mapped}
use Rattle.places.specs.declared.Rate.{Rate}
use Rattle.bids.specs.Columns.{cents}
use Rattle.book.specs.Viewed.{hundred_thousandths}
use Rattle.numbers.proofs.Arrays.{wrote_sets, wrote_same}
use Rattle.buffer.specs.Words.{tender_words, low32, holding}
use Rattle.buffer.proofs.Words.{known}
use Rattle.in_place.specs.InPlace.{LeavesIn}
use Rattle.in_place.proofs.Fitting.{rates_fit}
use Rattle.in_place.proofs.Leaving.{leaves_nothing, leaves_held}
use borrow.Author.Rules.{rules}
use Rattle.in_place.proofs.internal.leave_in.Goals as goal

pub returns-then-not-is_held : goal.returns-then-not-is_held
returns-then-not-is_held c =
    let start = c in
    leaves_nothing start.args.words.now start.requires.0 start.args.o (sym c.is_held.ensures ∙ not-true _ c.if-not-is_held.true-raw)

pub bounds-words-a : goal.bounds-words-a
bounds-words-a c =
    let long : tender_words ≤ length c.args.words.now = (known c.args.words.now c.requires.0).long in
    let h = long in omega (arith, h)

pub bounds-words-a-2 : goal.bounds-words-a-2
bounds-words-a-2 c =
    let long : tender_words ≤ length c.args.words.now = (known c.args.words.now c.requires.0).long in
    let start = c in
    let a = start.args.o.accepted in
    let h = long in
    let b = start.requires.1 in
    omega (arith, h, b, length-set start.args.words.now (88 + a.at) a.time)

pub put_each-requires-clause-room : goal.put_each-requires-clause-room
put_each-requires-clause-room c =
    let long = (known c.args.words.now c.requires.0).long in
    let ten : length c.args.o.accepted.rates ≡ 10 = search (rules, length_mapped) in
    omega (arith, c.requires.1, long, ten, length-set {A = ℕ})

pub put_each-requires-2-clause-room : goal.put_each-requires-2-clause-room
put_each-requires-2-clause-room c =
    let long = (known c.args.words.now c.requires.0).long in
    let tens : length c.args.o.accepted.amounts ≡ 10 = search (rules, length_mapped) in
    omega (arith, c.requires.1, long, tens, c.put_each.auto.words, length-set {A = ℕ})

pub returns : goal.returns
unfolding holding
returns c =
    let ws = c.args.words.now in
    let o = c.args.o in
    let a = o.accepted in
    let long = (known ws c.requires.0).long in
    let ten : length c.args.o.accepted.rates ≡ 10 = search (rules, length_mapped) in
    let tens : length c.args.o.accepted.amounts ≡ 10 = search (rules, length_mapped) in
    let whole = c.put_each.ensures.wrote hundred_thousandths (λ r n e. search rules) in
    let cut = c.put_each.ensures.wrote (λ (r : Rate). low32 (hundred_thousandths r)) (λ r n e. search rules) in
    let same = wrote_same (omega (arith, c.requires.1, long, length-set {A = ℕ})) cut whole in
    let rates = wrote_sets (omega (arith, c.requires.1, long, ten, length-set {A = ℕ}, length-map a.rates hundred_thousandths)) whole in
    let amounts = wrote_sets (omega (arith, c.requires.1, long, tens, c.put_each.auto.words, length-set {A = ℕ}, length-map a.amounts cents)) (c.put_each-2.ensures.wrote cents (λ x n e. search rules)) in
    let stored = amounts ∙ ap (λ (ns : List ℕ). sets ns (856 + 10 * a.at) (map cents a.amounts)) rates in
    subst (LeavesIn ws o) (sym stored)
    (leaves_held ws c.requires.0 o (sym c.is_held.ensures ∙ not-false _ c.if-not-is_held.false-raw) c.requires.1 ten tens (rates_fit a.rates same))
