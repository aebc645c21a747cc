-- `book::internal::find_in` meets its contract. Assumes nothing.
use mathlib.Core.Path.{sym, ap, ap₂, ◌∙◌}
use Prim.Native.Nat.{ℕ}
use lib.Dec.{eqb}
use lib.ListN.{length, take}
use lib.Seq.{length-take-le}
use native.Mathlib.Omega.{arith}
use Rattle.std.specs.List.{position_from}
use Rattle.std.proofs.lemmas.Iterator.Adapters.{position_from-zero}
use Rattle.book.specs.Viewed.{up_to64, viewed}
use Rattle.book.proofs.Empty.{up_to64_small}
use Rattle.book.proofs.Finding.{find_codes}
use Rattle.book.proofs.Order.{codes-viewed}
use Rattle.book.proofs.internal.find_in.Goals as goal

pub slice_bounds-position_of-end : goal.slice_bounds-position_of-end
slice_bounds-position_of-end c = sym (length-take-le c.up_to_64.result c.args.codes.now (omega (arith, c.up_to_64.ensures, (up_to64_small c.args.n).0, c.requires)))

pub returns : goal.returns
returns c =
    λ b h k. let code = c.args.code in
    let admitted = ap₂ take (c.up_to_64.ensures ∙ ap up_to64 (sym k)) (sym h) ∙ sym (codes-viewed b (ap length h ∙ c.requires)) in
    c.position_of.ensures
    ∙ position_from-zero (λ (x : ℕ). eqb x code) _
    ∙ ap (position_from (λ (x : ℕ). eqb x code) 0) admitted
    ∙ find_codes (viewed b) code 0
