-- `errors::internal::with` meets its contract. Assumes nothing.
use borrow.Author.Rules.{rules}
use mathlib.Core.Path.{◌≡◌, refl, sym, ap}
use mathlib.Core.List.{List, [], ◌∷◌, ◌++◌, map, append-nil}
use Prim.Native.Nat.{ℕ, ◌<◌}
use native.Mathlib.Numerals.{add-one}
use lib.ListN.{length, take}
use lib.Seq.{take-suc-set}
use Rattle.rules.specs.Receiving.{Error, when}
use Rattle.errors.specs.Listed.{named}
use Rattle.errors.proofs.internal.with.Goals as goal

-- one code more is one error more
one_more : (codes : List ℕ) (code : ℕ) → map named (codes ++ (code ∷ [])) ≡ map named codes ++ (named code ∷ [])
one_more [] code = refl
one_more (c ∷ codes) code = ap (λ (es : List Error). named c ∷ es) (one_more codes code)

pub returns-then-bad : goal.returns-then-bad
unfolding when
returns-then-bad c =
    let e = c.args.e in
    let h : e.n < length e.codes = search rules in
    (rw (c.if-bad.true, add-one, take-suc-set e.codes e.n c.args.code h) (one_more (take e.n e.codes) c.args.code), search rules)

pub returns : goal.returns
unfolding when
returns c = (rw c.if-bad.false (sym (append-nil _)), search rules)
