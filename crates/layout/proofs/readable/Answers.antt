-- `layout::readable` meets its contract. The loop's invariant: what is left of the message is readable as what is left of the layout, just where the whole is. Assumes nothing.
use mathlib.Core.Path.{◌≡◌, sym, ap, ◌∙◌}
use mathlib.Core.Bool.{true}
use mathlib.Core.List.{List, ◌∷◌, ◌++◌}
use Prim.Native.Nat.{ℕ}
use native.Mathlib.Omega.{arith}
use lib.ListN.{length, drop, get_or}
use Rattle.layout.specs.Fields.{FieldEntry, entry, starts, layout_of}
use Rattle.layout.proofs.Fields.{layout_more, layout_end, readable_no, readable_more, readable_end, fits_at}
use Rattle.layout.proofs.readable.Goals as goal

-- the field of the layout in three bytes
abbrev entry_in : List ℕ → FieldEntry
entry_in f = entry (get_or f 0 0) (get_or f 1 0) (get_or f 2 0)

pub loop-field-init : goal.loop-field-init
loop-field-init c = (cc, omega arith, rw (c.into_iter-field-iterator.ensures.into_iter_gives, c.chunks_exact-field-items.ensures.rest))

pub length_at-requires : goal.length_at-requires
length_at-requires c = omega (arith, fits_at (entry_in c.in-Some.field.now) c.args.m.now c.loop-field.at (sym c.starts_at.ensures ∙ c.if-not-starts_at.false))

pub overflow_add-at-in-loop-field : goal.overflow_add-at-in-loop-field
overflow_add-at-in-loop-field c = omega (arith, c.length_at.ensures, fits_at (entry_in c.in-Some.field.now) c.args.m.now c.loop-field.at (sym c.starts_at.ensures ∙ c.if-not-starts_at.false))

-- what is left of the layout begins with a field, or holds none
more : (rest field left : List ℕ) → rest ≡ field ++ left → length field ≡ 3 → layout_of rest ≡ entry_in field ∷ layout_of left
more rest field left e three = ap layout_of e ∙ layout_more field left three

pub returns-then-not-starts_at : goal.returns-then-not-starts_at
returns-then-not-starts_at c =
    let l = c.loop-field in
    let field = c.in-Some.field.now in
    let left = c.next.new.self.rest.now in
    sym
    (l.invariant.2
    ∙ rw (more l.field-iterator.rest.now field left c.in-Some.ensures.steps.1.0 (c.in-Some.ensures.steps.1.1 ∙ l.invariant.0))
    (readable_no (entry_in field) (layout_of left) (drop l.at c.args.m.now) (sym c.starts_at.ensures ∙ c.if-not-starts_at.true)))

pub loop-field-preserved : goal.loop-field-preserved
loop-field-preserved c =
    let l = c.loop-field in
    let m = c.args.m.now in
    let field = c.in-Some.field.now in
    let left = c.next.new.self.rest.now in
    let starts : starts (entry_in field) (drop l.at m) ≡ true = sym c.starts_at.ensures ∙ c.if-not-starts_at.false in (
      c.in-Some.ensures.steps.0 ∙ l.invariant.0,
      omega (arith, c.length_at.ensures, fits_at (entry_in field) m l.at starts),
      l.invariant.2
          ∙ rw (more l.field-iterator.rest.now field left c.in-Some.ensures.steps.1.0 (c.in-Some.ensures.steps.1.1 ∙ l.invariant.0))
          (readable_more (entry_in field) (layout_of left) m l.at c.length_at.result c.length_at.ensures.0 starts),
    )

pub returns : goal.returns
returns c =
    let l = c.loop-field in
    readable_end c.args.m.now l.at (omega arith) ∙ sym (l.invariant.2 ∙ rw (layout_end l.field-iterator.rest.now (omega (arith, c.in-None.ensures.steps.1.0, l.invariant.0))))
