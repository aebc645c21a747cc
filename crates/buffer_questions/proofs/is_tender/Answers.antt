-- `buffer_questions::is_tender` meets its contract. Assumes nothing.
use mathlib.Core.Path.{ap, ◌∙◌}
use mathlib.Core.Bool.{Bool, ◌&&◌}
use native.Mathlib.Omega.{arith}
use lib.Dec.{eqb, ltb}
use lib.ListN.{get_or}
use Rattle.buffer.specs.Words.{form_number}
use Rattle.buffer.proofs.Words.{known}
use Rattle.buffer_questions.proofs.Tender.{no_tender_lem, tests_left}
use Rattle.buffer_questions.proofs.is_tender.Goals as goal

pub returns-then-words-lt1560 : goal.returns-then-words-lt1560
returns-then-words-lt1560 c = let ws = c.args.words.now in no_tender_lem ws (λ h. omega (arith, (known ws h).long))

pub returns-then-n-eq0 : goal.returns-then-n-eq0
returns-then-n-eq0 c = let ws = c.args.words.now in no_tender_lem ws (λ h. omega (arith, (known ws h).some_codes))

pub returns-then-n-gt64 : goal.returns-then-n-gt64
returns-then-n-gt64 c = let ws = c.args.words.now in no_tender_lem ws (λ h. omega (arith, (known ws h).few-codes))

pub returns : goal.returns
returns c =
    let ws = c.args.words.now in
    ap (λ (t : Bool). eqb (get_or ws 0 0) form_number && ltb (get_or ws 1 0) 4 && t) c.codes_rise.ensures ∙ tests_left ws (omega arith) (omega arith) (omega arith)
