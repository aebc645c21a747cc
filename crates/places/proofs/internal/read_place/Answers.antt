-- `places::internal::read_place` meets its contract. Assumes nothing.
use mathlib.Core.Path.{◌≡◌, sym, ◌∙◌}
use mathlib.Core.Bool.{true}
use Prim.Native.Nat.{◌%◌}
use lib.Dec.{eqb}
use Rattle.words.specs.Words.{low_bytes, all_small}
use Rattle.places.specs.Bids.{is_place}
use Rattle.places.proofs.Reading.{last_three, formed_is, words-place, malformed_is}
use Rattle.places.proofs.internal.read_place.Goals as goal

pub formed_place-requires : goal.formed_place-requires
formed_place-requires c =
    let three = last_three (eqb (c.after_slash-high.result % 256) 0) (all_small (low_bytes 8 c.lowered-rate.result)) (all_small (low_bytes 8 c.after_slash-high.result)) (all_small (low_bytes 8 c.lowered-low.result)) (sym c.is_formed.ensures ∙ c.if-is_formed.true) in
    record { rate_value = three.0; high_value = three.1.0; low_value = three.1.1 }

pub returns-then-is_formed : goal.returns-then-is_formed
returns-then-is_formed c =
    let s = c.args.s.now in
    let r = c.lowered-rate in
    let h = c.after_slash-high in
    let l = c.lowered-low in
    let i : is_place s ≡ true = sym (formed_is s r.result h.result l.result r.ensures h.ensures l.ensures) ∙ sym c.is_formed.ensures ∙ c.if-is_formed.true in
    c.formed_place.ensures ∙ words-place s c.requires i r.result h.result l.result r.ensures h.ensures l.ensures

pub returns-else-is_formed : goal.returns-else-is_formed
returns-else-is_formed c =
    let s = c.args.s.now in
    let r = c.lowered-rate in
    let h = c.after_slash-high in
    let l = c.lowered-low in
    malformed_is s (sym (formed_is s r.result h.result l.result r.ensures h.ensures l.ensures) ∙ sym c.is_formed.ensures ∙ c.if-is_formed.false)
