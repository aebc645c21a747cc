-- The log field by field: the state after each and the lines that it gives (document 01, 'The Friday log'). Assumes nothing.
use Rattle.std.specs.Prelude.{Bool, true, false, cond, not, ◌&&◌, List, [], ◌∷◌, ◌++◌, ℕ, zero, suc, ◌+◌, ◌/◌, ◌%◌, eqb, leb, ltb, length, take, drop, get_or, replicate}
use Rattle.std.proofs.Math.Option.{Option, none, some}
use Rattle.digits.specs.Decimal.{Digits}
use Rattle.std.specs.Prelude.{Some, None}
use Rattle.digits.specs.Decimal.{all_digits, digits_of, number_in}
use Rattle.layout.specs.Fields.{length_at}
use Rattle.rules.specs.Opening.{uncapped}
use Rattle.rules.specs.Receiving.{Reception}
use Rattle.rules.specs.Calls.{Tender, Answer, confirmed, returned, refused, reply_space, Allotted, open_tender, receive, close, allot, revoke}
use Rattle.log_rules.specs.Lines.{confirmed_line, returned_line, refused_line, award_lines}

-- whether the log has ended, the codes that the last A0 admits, and the tender of the last accepted A1, if there was one
pub record Log : Type 0 where
  pub ended : Bool
  pub codes : List ℕ
  pub tender : Option Tender

-- 'before any A0, an empty list'
abbrev pub start : Log
start = record { ended = false; codes = []; tender = none }

-- the state after a field, and its lines
abbrev pub Step : Type 0
Step = Log × List ℕ

-- '.. ends the log'
abbrev pub ending : Log → Step
ending l = (record { ended = true; codes = l.codes; tender = l.tender }, [])

-- 'Before an accepted A1, A2 to A5 are skipped.'
abbrev pub on_tender : Log → (Tender → Tender × List ℕ) → Step
on_tender l call = elim l.tender [ none ↦ (l, []) | some t ↦ (record { ended = false; codes = l.codes; tender = some (call t).0 }, (call t).1) ]

-- 'A0 admitted codes, five digits each': so many groups of five, or none where one is not digits
abbrev pub and_code : Digits → Option (List ℕ) → Option (List ℕ)
and_code None codes = none
and_code (Some c) none = none
and_code (Some c) (some codes) = some (c ∷ codes)

unfoldable pub groups : ℕ → List ℕ → Option (List ℕ)
groups zero s = some []
groups (suc n) s = and_code (digits_of (take 5 s)) (groups n (drop 5 s))

-- '.. an A0 not in groups of five digits ends the log'
unfoldable pub admitted_in : List ℕ → Option (List ℕ)
admitted_in s = cond (eqb (length s % 5) 0) (groups (length s / 5) s) none

unfoldable pub admission_step : Log → List ℕ → Step
admission_step l s = elim (admitted_in s) [ none ↦ ending l | some codes ↦ (record { ended = false; codes = codes; tender = l.tender }, []) ]

-- 'An accepted A1 starts a new tender with the last A0 ..; a refused one keeps the old.'
abbrev pub opened_step : Log → Option ℕ × Tender → Step
opened_step l (none, t) = (record { ended = false; codes = l.codes; tender = some t }, [])
opened_step l (some n, t) = (l, refused_line n)

-- 'the log program passes zeros' for the limits
unfoldable pub announcement_step : Log → List ℕ → Step
announcement_step l s = opened_step l (open_tender s (uncapped l.codes))

-- 'A2 reception (date, time, message)'; 'A clock that is not digits counts as invalid': 00000000 is no date
abbrev pub date_in : List ℕ → List ℕ
date_in s = take 8 s

abbrev pub time_in : List ℕ → List ℕ
time_in s = take 6 (drop 8 s)

unfoldable pub date_of : List ℕ → ℕ
date_of s = cond (all_digits (take 14 s)) (number_in (digits_of (date_in s))) 0

unfoldable pub time_of : List ℕ → ℕ
time_of s = number_in (digits_of (time_in s))

-- a reception has space enough for any reply
unfoldable pub reception_in : List ℕ → Reception
reception_in s = record { message = drop 14 s; date = date_of s; time = time_of s; space = replicate reply_space 0 }

unfoldable pub answer_line : Answer → List ℕ → List ℕ
answer_line (confirmed n) s = confirmed_line (date_in s) (time_in s) (drop 14 s)
answer_line (returned es n) s = returned_line (date_in s) (time_in s) (drop 14 s) es
answer_line (refused n) s = refused_line n

abbrev pub received : List ℕ → Tender → Tender × List ℕ
received s t = ((receive t (reception_in s)).1, answer_line (receive t (reception_in s)).0 s)

unfoldable pub reception_step : Log → List ℕ → Step
reception_step l s = cond (ltb (length s) 14) (ending l) (on_tender l (received s))

-- 'Accepted A1, A3 and A4 print nothing.'
abbrev pub refusal : Option ℕ → List ℕ
refusal none = []
refusal (some n) = refused_line n

-- 'A3 closing (date, time)'
abbrev pub closed : List ℕ → Tender → Tender × List ℕ
closed s t = ((close t (date_of s) (time_of s)).1, refusal (close t (date_of s) (time_of s)).0)

unfoldable pub closing_step : Log → List ℕ → Step
closing_step l s = cond (eqb (length s) 14) (on_tender l (closed s)) (ending l)

-- 'A4 revocation'
abbrev pub revoked : Tender → Tender × List ℕ
revoked t = ((revoke t).1, refusal (revoke t).0)

unfoldable pub revocation_step : Log → List ℕ → Step
revocation_step l s = cond (eqb (length s) 0) (on_tender l revoked) (ending l)

-- 'A5 allotment'
abbrev pub awards_line : Option ℕ × Tender × Allotted → List ℕ
awards_line (none, t, a) = award_lines t.book a.awards
awards_line (some n, t, a) = refused_line n

abbrev pub allotted : Tender → Tender × List ℕ
allotted t = ((allot t).1, awards_line (allot t))

unfoldable pub allotting_step : Log → List ℕ → Step
allotting_step l s = cond (eqb (length s) 0) (on_tender l allotted) (ending l)

-- one field: its tag and contents; after its end the log stays as it is
unfoldable pub step : Log → ℕ → List ℕ → Step
step l tag s =
    cond l.ended (l, [])
    (cond (eqb tag 0xA0) (admission_step l s)
    (cond (eqb tag 0xA1) (announcement_step l s)
    (cond (eqb tag 0xA2) (reception_step l s)
    (cond (eqb tag 0xA3) (closing_step l s)
    (cond (eqb tag 0xA4) (revocation_step l s)
    (cond (eqb tag 0xA5) (allotting_step l s)
    (ending l)))))))

-- the first field of a byte string, where it holds one whole
abbrev pub tag_of : List ℕ → ℕ
tag_of s = get_or s 0 0

abbrev pub content_of : List ℕ → List ℕ
content_of s = take (length_at s) (drop 3 s)

abbrev pub after_field : List ℕ → List ℕ
after_field s = drop (3 + length_at s) s

unfoldable pub holds_field : List ℕ → Bool
holds_field s = leb 3 (length s) && leb (3 + length_at s) (length s)

-- 'Input that breaks the envelope .. ends the log': at most d fields, walked from a state on
unfoldable pub walked : ℕ → Log → List ℕ → List ℕ
walked zero l s = []
walked (suc d) l s =
    cond (holds_field s && not l.ended)
    ((step l (tag_of s) (content_of s)).1 ++ walked d (step l (tag_of s) (content_of s)).0 (after_field s))
    []

-- the log of a byte string from a state on: it has no more fields than bytes
abbrev pub log_from : Log → List ℕ → List ℕ
log_from l s = walked (length s) l s

-- the log of a byte string
unfoldable pub log_of : List ℕ → List ℕ
log_of s = log_from start s
