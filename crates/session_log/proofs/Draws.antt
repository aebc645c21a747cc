-- What a read gave and what is told of it: the bytes that a turn got, the error, and the end of the input. Assumes nothing.
use mathlib.Core.Path.{◌≡◌, sym, ap, ap₂, subst, ◌∙◌}
use mathlib.Core.Bool.{true, false, true≢false}
use mathlib.Core.List.{List, [], ◌++◌}
use Prim.Native.Nat.{ℕ, ◌+◌, ◌-◌, ◌≤◌, ◌<◌}
use native.Mathlib.Omega.{arith}
use borrow.Author.Tests.{ltb-true, ltb-false}
use borrow.Rule.Slice.PartMut.{put_mid, post_of}
use lib.Dec.{ltb}
use lib.ListN.{length, take, drop}
use lib.Seq.{length-take-le, take-append-add, take-append-le, drop-append_seam}
use Rattle.std.specs.Prelude.{Option, None, Some, Result, Ok, Err, is_some}
use Rattle.std.specs.Result.{result_unwrap_or, result_err}
use Rattle.std.specs.Io.KnownBytes.{Keeps, Consumes, IsAtEnd, ReadConsumes}

-- behind what waited, which is w, stand the bytes of the read
pub got_is : (w d behind : List ℕ) (left n : ℕ) → length w ≡ left → left ≤ length d → n ≤ length behind
    → drop (length w) (take (left + n - 0) (drop 0 (put_mid left (length d - left) d behind))) ≡ take n behind
got_is w d behind left n l room most =
    let first = take left d in
    let post = post_of left (length d - left) d in
    let f : length first ≡ left = length-take-le left d room in
    let e : left + n - 0 ≡ length first + n = omega (arith, f) in
    ap₂ (λ (i : ℕ) (s : List ℕ). drop i s) (l ∙ sym f) (ap (λ (k : ℕ). take k (first ++ (behind ++ post))) e ∙ take-append-add first (behind ++ post) n)
    ∙ drop-append_seam first (take n (behind ++ post))
    ∙ take-append-le n behind post most

kept_draws : (old new : Option (List ℕ)) → Keeps old new → Consumes old new []
kept_draws None new k = tt
kept_draws (Some xs) None k = absurd k
kept_draws (Some xs) (Some ys) k = sym k

-- a read that failed drew nothing
pub drawn_by : {E : Type 0} (answer : Result ℕ E) (old new : Option (List ℕ)) (behind : List ℕ) (n : ℕ) → n ≡ result_unwrap_or answer 0 → ReadConsumes old new answer behind → Consumes old new (take n behind)
drawn_by (Ok k) old new behind n e p = subst (λ (i : ℕ). Consumes old new (take i behind)) (sym e) p.0
drawn_by (Err x) old new behind n e p = subst (λ (i : ℕ). Consumes old new (take i behind)) (sym e) (kept_draws old new p)

-- a read that gave bytes did not fail
pub not_failed : {E : Type 0} (answer : Result ℕ E) (failed : Option E) (n : ℕ) → failed ≡ result_err answer → n ≡ result_unwrap_or answer 0 → ltb 0 n ≡ true → failed ≡ None
not_failed (Ok k) failed n f e m = f
not_failed (Err x) failed n f e m =
    let some = ltb-true 0 n m in
    absurd (omega (arith, e, some))

-- a read that did not fail and gave nothing, though it had room, met the end
pub met_end : {E : Type 0} (answer : Result ℕ E) (failed : Option E) (old new : Option (List ℕ)) (behind : List ℕ) (n : ℕ)
    → failed ≡ result_err answer → n ≡ result_unwrap_or answer 0 → ReadConsumes old new answer behind → ltb 0 n ≡ false → failed ≡ None → (n ≡ 0) × (0 < length behind → IsAtEnd new)
met_end (Ok k) failed old new behind n f e p m g =
    let none = ltb-false 0 n m in
    (omega (arith, none), p.1 (omega (arith, e, none)))
met_end (Err x) failed old new behind n f e p m g = absurd (true≢false (ap is_some (sym f ∙ g)))
