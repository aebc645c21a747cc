-- Document 01's worked session and further ones, with their logs, as one table. Assumes nothing.
use Rattle.std.specs.Prelude.{Bool, true, ◌&&◌, List, [], ◌∷◌, ◌++◌, ℕ, T}
use Prim.Native.String.{String}
use Rattle.digits.specs.Decimal.{digits}
use Rattle.layout.specs.Fields.{field}
use Rattle.texts.specs.Texts.{same_text, ascii}
use Rattle.envelope.specs.declared.application.Field.TheVariants.{Sender}
use Rattle.rules.specs.Messages.{◌is◌, announcement, Pairs, message, message_with}
use Rattle.log_rules.specs.Lines.{line_end}
use Rattle.log_rules.specs.Steps.{log_of}

-- a reception on the execution date
unfoldable pub received_at : ℕ → List ℕ → List ℕ
received_at time m = field 0xA2 (ascii "12032012" ++ digits 6 time ++ m)

-- 'four receptions with reference times 102900, 103100, 103400 and 102000, then closing and allotment'; 'The bids were 60000, 50000 and 40000'
unfoldable pub session : List ℕ
session =
    field 0xA0 (ascii "900019000290003")
    ++ field 0xA1 announcement
    ++ received_at 103000 (message 90002 102900 ((150000, 60000) ∷ []))
    ++ received_at 103101 (message 90001 103100 ((120000, 50000) ∷ []))
    ++ received_at 103500 (message 90003 103400 ((120000, 40000) ∷ []))
    ++ received_at 104000 (message 90002 102000 ((150000, 60000) ∷ []))
    ++ field 0xA3 (ascii "12032012110001")
    ++ field 0xA5 []

unfoldable pub printed : List ℕ
printed =
    ascii "C 12032012 103000 90002" ++ line_end
    ++ (ascii "C 12032012 103101 90001" ++ line_end)
    ++ (ascii "C 12032012 103500 90003" ++ line_end)
    ++ (ascii "R 12032012 104000 90002 601 - 302" ++ line_end)
    ++ (ascii "W 90001 01 00120000 000000000022223" ++ line_end)
    ++ (ascii "W 90002 01 00150000 000000000060000" ++ line_end)
    ++ (ascii "W 90003 01 00120000 000000000017777" ++ line_end)

-- the log of some fields, and what it must be
unfoldable pub all_printed : List (List ℕ × List ℕ) → Bool
all_printed [] = true
all_printed (r ∷ rs) = same_text (log_of r.0) r.1 && all_printed rs

unfoldable pub refused_with : List ℕ → List ℕ
refused_with number = ascii "R ----- " ++ number ++ line_end

-- a tender opened for the three codes, or for one, and an application to it
unfoldable pub opening_fields : List ℕ
opening_fields = field 0xA0 (ascii "900019000290003") ++ field 0xA1 announcement

unfoldable pub application_by : ℕ → List ℕ
application_by code = received_at 103000 (message code 102900 ((120000, 10000) ∷ []))

unfoldable pub confirmed_as : List ℕ → List ℕ
confirmed_as code = ascii "C 12032012 103000 " ++ code ++ line_end

-- an application from a branch at a reference time, and branches of one code at work: the second is late with the time of the first, then
-- its bid replaces the other's; a branch that is none of a code
unfoldable pub application_from : String → ℕ → Pairs → List ℕ
application_from sender time ps = received_at 103000 (message_with (Sender is sender ∷ []) 90001 time ps)

unfoldable pub branches : List ℕ
branches =
    opening_fields
    ++ application_from "90001/00117/AB" 102900 ((120000, 10000) ∷ [])
    ++ application_from "90001/00118/CD" 102900 ((130000, 20000) ∷ [])
    ++ application_from "90001/00118/CD" 102901 ((130000, 20000) ∷ [])
    ++ application_from "9000A/00118/CD" 102902 ((130000, 20000) ∷ [])
    ++ field 0xA3 (ascii "12032012110001")
    ++ field 0xA5 []

-- 'code is the sender's first five bytes'
unfoldable pub branches_printed : List ℕ
branches_printed =
    confirmed_as (ascii "90001")
    ++ (ascii "R 12032012 103000 90001 601 - 302" ++ line_end)
    ++ confirmed_as (ascii "90001")
    ++ (ascii "R 12032012 103000 9000A 040 - 309" ++ line_end)
    ++ (ascii "W 90001 01 00130000 000000000020000" ++ line_end)

-- sessions and their logs
unfoldable pub sessions : List (List ℕ × List ℕ)
sessions =
    (session, printed)
    ∷ (branches, branches_printed)
    -- before an accepted A1 fields are skipped, and a refused A1 is none
    ∷ (application_by 90001 ++ field 0xA3 (ascii "12032012110001") ++ field 0xA4 [] ++ field 0xA5 [] ++ field 0xA1 [], refused_with (ascii "01"))
    ∷ (field 0xA1 [] ++ field 0xA5 [], refused_with (ascii "01"))
    ∷ (field 0xA1 announcement ++ application_by 90001, refused_with (ascii "07"))
    -- a refused A1 keeps the old tender
    ∷ (opening_fields ++ field 0xA1 [] ++ application_by 90001, refused_with (ascii "01") ++ confirmed_as (ascii "90001"))
    -- an A0 waits for the next A1
    ∷ (opening_fields ++ field 0xA0 (ascii "90009") ++ application_by 90001 ++ field 0xA1 announcement ++ application_by 90009, confirmed_as (ascii "90001") ++ confirmed_as (ascii "90009"))
    -- fields of another length end the log, before an accepted A1 too
    ∷ (field 0xA2 (ascii "1203201210300") ++ field 0xA1 [], [])
    ∷ (field 0xA3 (ascii "120320121100010") ++ field 0xA1 [], [])
    ∷ (field 0xA4 (ascii "0") ++ field 0xA1 [], [])
    ∷ (field 0xA5 (ascii "0") ++ field 0xA1 [], [])
    -- so do another tag, an A0 that is not groups of five digits, and a field that is cut off
    ∷ (field 0xA6 [] ++ field 0xA1 [], [])
    ∷ (field 0xA0 (ascii "900010") ++ field 0xA1 [], [])
    ∷ (field 0xA0 (ascii "9000A") ++ field 0xA1 [], [])
    ∷ (field 0xA1 [] ++ (0xA1 ∷ 0 ∷ 1 ∷ []), refused_with (ascii "01"))
    ∷ (field 0xA1 [] ++ (0xA1 ∷ 0 ∷ []), refused_with (ascii "01"))
    -- clocks: not digits, no date, and the cut-off second
    ∷ (opening_fields ++ field 0xA3 (ascii "1203201211000A") ++ field 0xA3 (ascii "30022012110001") ++ field 0xA3 (ascii "12032012110000"), refused_with (ascii "10") ++ refused_with (ascii "10") ++ refused_with (ascii "13"))
    -- an empty message; allotting an open tender; twice revoked
    ∷ (opening_fields ++ field 0xA2 (ascii "12032012103000"), refused_with (ascii "12"))
    ∷ (opening_fields ++ field 0xA5 [] ++ field 0xA4 [] ++ field 0xA4 [] ++ field 0xA5 [], refused_with (ascii "14") ++ refused_with (ascii "08") ++ refused_with (ascii "08"))
    ∷ []

abbrev pub SessionsPrinted : Type 0
SessionsPrinted = T (all_printed sessions)
