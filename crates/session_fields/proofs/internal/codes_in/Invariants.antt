-- `session_fields::internal::codes_in` meets its contract. The loop's invariant: the first i codes are stored. Assumes nothing.
use mathlib.Core.Path.{◌≡◌}
use lib.ListN.{length, take}
use Rattle.session_fields.specs.Codes.{codes_from}
use Rattle.session_fields.proofs.internal.codes_in.Given as goal

abbrev pub invariant-loop-i : goal.invariant-loop-i
invariant-loop-i l = (length l.codes ≡ 65) × (take l.i l.codes ≡ codes_from l.i l.s)
