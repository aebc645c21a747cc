-- `tender::outcome_of` meets its contract: refused, or judged where the code stands in the book. Assumes nothing.
use Rattle.std.specs.Prelude.{Err}
use mathlib.Core.Path.{◌≡◌, refl, sym, ap, ◌∙◌}
use Prim.Native.Nat.{ℕ}
use lib.ListN.{length}
use Rattle.laws.proofs.Arrays.{length_mapped}
use Rattle.book.specs.Viewed.{viewed, find_from, taken_at}
use Rattle.book.proofs.Joining.{index_below}
use Rattle.outcomes.proofs.Outcomes.{comes-refused, comes_judged}
use borrow.Author.Rules.{rules}
use Rattle.tender.proofs.outcome_of.Goals as goal

pub returns-in_err-fields : goal.returns-in_err-fields
returns-in_err-fields c =
    let a = c.args in
    let f = c.in_err-fields.field-0.0 in
    let told : c.from_residual.result ≡ Err f = search rules in
    rw told (comes-refused a.t.state a.t.terms a.t.book a.m.now a.date a.time a.room f c.in_err-fields.ensures)

pub slice_bounds-find_in-end : goal.slice_bounds-find_in-end
slice_bounds-find_in-end c =
    let codes_long : length c.args.t.book.codes ≡ 64 = search rules in
    sym codes_long

pub find_in-found-requires : goal.find_in-found-requires
find_in-found-requires c =
    let codes_long : length c.args.t.book.codes ≡ 64 = search rules in
    codes_long

pub slice_bounds-takes_at-end : goal.slice_bounds-takes_at-end
slice_bounds-takes_at-end c =
    let held_long : length c.args.t.book.held ≡ 64 = search rules in
    sym held_long

pub slice_bounds-takes_at-end-2 : goal.slice_bounds-takes_at-end-2
slice_bounds-takes_at-end-2 c =
    let has_long : length c.args.t.book.has ≡ 64 = search (rules, length_mapped) in
    sym has_long

pub takes_at-taken-requires : goal.takes_at-taken-requires
takes_at-taken-requires c =
    let held_long : length c.args.t.book.held ≡ 64 = search rules in
    let has_long : length c.args.t.book.has ≡ 64 = search (rules, length_mapped) in
    let f = c in
    let start = f in
    (held_long, has_long, index_below start.args.t.book f.code_of.result f.find_in-found.result (f.find_in-found.ensures start.args.t.book refl refl))

pub judged-requires : goal.judged-requires
judged-requires c =
    let e = c.in_ok-fields.ensures in
    record { m_value = e.readable-told refl; f_value = e.fields_are; time_value = e.clock_valid refl }

pub returns : goal.returns
returns c =
    let a = c.args in
    let b = a.t.book in
    let found = c.find_in-found.ensures b refl refl ∙ ap (λ (code : ℕ). find_from (viewed b) code 0) c.code_of.ensures in
    let taken = c.takes_at-taken.ensures b refl refl ∙ ap (taken_at b c.find_in-found.result) c.unwrap_or-sent.ensures in
    comes_judged a.t.state a.t.terms b a.m.now a.date a.time a.room c.in_ok-fields.fields c.in_ok-fields.ensures c.find_in-found.result c.takes_at-taken.result
    (record { rises = c.requires.rises; found_is = found; taken_is = taken }) c.judged.result c.judged.ensures
