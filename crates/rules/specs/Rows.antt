-- A row for each refusal, error and reply of document 01, as one table; the tender is that of the marked cases. Assumes nothing.
use Rattle.std.specs.Prelude.{cond, List, [], ◌∷◌, ◌++◌, map, ℕ, ◌+◌, T, eqb, length, drop, replicate, set, take}
use Rattle.std.proofs.Math.Option.{none}
use Prim.Native.String.{String}
use Rattle.texts.specs.Texts.{ascii}
use Rattle.addresses.specs.declared.Address.{Address}
use Rattle.addresses.specs.declared.Address.TheVariants.{Malformed, Code, Branch}
use Rattle.envelope.specs.declared.application.Field.{Field}
use Rattle.envelope.specs.declared.application.Field.TheVariants.{MessageType, Sender, Recipient, Cro, Date, Time, Check, Identifier, Bids}
use Rattle.envelope.specs.declared.application.Application.{Application}
use Rattle.envelope.specs.Application.{position, reading_refused, writing_refused, write}
use Rattle.rules.specs.Allotment.{total}
use Rattle.rules.specs.Receiving.{Reception, Submission, submission, Entry, errors}
use Rattle.rules.specs.Replies.{error_texts}
use Rattle.rules.specs.Calls.{State, Open, Closed, Announced, Revoked, Tender, in_state, Answer, confirmed, returned, refused, reply_space, open_tender, receiving_refused, receive, closing_refused, close, allotting_refused, in640, allot, preview_refused, preview, revoking_refused, revoke}
use Rattle.rules.specs.Events.{Event, receive_event, close_event, allotEvent, revokeEvent, after_events}
use Rattle.rules.specs.Messages.{◌is◌, Most, Maximum, announcement_with, announcement, admission, terms, Pairs, numbers_between, numbers, message, message_with, zero_places, reception}
use Rattle.rules.specs.Marked.{code, rate, amount, Row, row, all_hold, list_of, tender_after}
use Rattle.rules.specs.OpeningRows.{opening_rows, opening_order_rows, literal6_g0, term_rows}

-- an application to the tender of the marked cases, and the same with some texts altered
unfoldable pub application : List ℕ
application = message 90001 102900 ((120000, 10000) ∷ [])

abbrev pub application_with : List (Field × List ℕ) → List ℕ
application_with fields = message_with fields 90001 102900 ((120000, 10000) ∷ [])

-- ten places, the first of them with a blank for its slash
abbrev pub malformed_place : Field × List ℕ
malformed_place = (Bids, ascii "00120000 000000000010000" ++ zero_places 9)

unfoldable pub opened : Tender
opened = (open_tender announcement admission).1

-- a tender that takes ten bids of a message, and one that takes one bid and no more than 20000 in all
unfoldable pub wide : Tender
wide = (open_tender (announcement_with [] (Most is "10" ∷ [])) admission).1

unfoldable pub narrow : Tender
narrow = (open_tender (announcement_with [] (Most is "01" ∷ Maximum is "000000000020000" ∷ [])) admission).1

-- the tender closed, with one bid of so many eurocents in its book
unfoldable pub closed_with : ℕ → Tender
closed_with n =
    record {
      terms = terms;
      state = Closed;
      book = record { code = 90001; held = none; bids = record { rate = 120000; amount = n } ∷ [] } ∷ [];
    }

-- the refusal of a reception, with the clock and the space given
unfoldable pub receiving : Tender → List ℕ → ℕ → ℕ → ℕ → List ℕ
receiving t m date time space = list_of (receiving_refused t (record { message = m; date = date; time = time; space = replicate space 0 }))

abbrev pub closing : Tender → ℕ → ℕ → List ℕ
closing t date time = list_of (closing_refused t date time)

abbrev pub allotting : Tender → List ℕ
allotting t = list_of (allotting_refused t)

abbrev pub previewing : Tender → List ℕ
previewing t = list_of (preview_refused t)

abbrev pub revoking : Tender → List ℕ
revoking t = list_of (revoking_refused t)

unfoldable pub state_rows : List Row
state_rows =
    row 8 (receiving (in_state Revoked opened) [] 0 0 0) (8 ∷ [])
    ∷ row 9 (receiving (in_state Closed opened) [] 0 0 0) (9 ∷ [])
    ∷ row 9 (receiving (in_state Announced opened) [] 0 0 0) (9 ∷ [])
    ∷ row 10 (receiving opened [] 31042012 103000 0) (10 ∷ [])
    ∷ row 10 (receiving opened [] 12032012 240000 0) (10 ∷ [])
    ∷ row 11 (receiving opened [] 12032012 103000 435) (11 ∷ [])
    ∷ row 11 (receiving opened application 12032012 103000 435) (11 ∷ [])
    ∷ row 11 (receiving opened application 12032012 103000 436) []
    ∷ row 12 (receiving opened [] 12032012 103000 reply_space) (12 ∷ [])
    ∷ row 12 (receiving opened announcement 12032012 103000 reply_space) (12 ∷ [])
    ∷ row 12 (receiving opened application 12032012 103000 reply_space) []
    ∷ row 8 (closing (in_state Revoked opened) 0 0) (8 ∷ [])
    ∷ row 9 (closing (in_state Closed opened) 0 0) (9 ∷ [])
    ∷ row 9 (closing (in_state Announced opened) 0 0) (9 ∷ [])
    ∷ row 10 (closing opened 12032012 240000) (10 ∷ [])
    -- a clock that is invalid and before the cut-off
    ∷ row 10 (closing opened 12032012 106000) (10 ∷ [])
    ∷ row 10 (closing opened 30022012 103000) (10 ∷ [])
    ∷ row 13 (closing opened 12032012 110000) (13 ∷ [])
    ∷ row 13 (closing opened 11032012 235959) (13 ∷ [])
    ∷ row 13 (closing opened 12032012 110001) []
    ∷ row 13 (closing opened 13032012 0) []
    -- states and condition 16 at once
    ∷ row 8 (allotting (in_state Revoked (closed_with 1000000000000000000))) (8 ∷ [])
    ∷ row 14 (allotting opened) (14 ∷ [])
    ∷ row 15 (allotting (in_state Announced (closed_with 1000000000000000000))) (15 ∷ [])
    ∷ row 16 (allotting (closed_with 1000000000000000000)) (16 ∷ [])
    ∷ row 16 (allotting (closed_with 999999999999999999)) []
    ∷ row 0 (allotting (close opened 12032012 110001).1) []
    ∷ row 15 (allotting (allot (close opened 12032012 110001).1).1) (15 ∷ [])
    ∷ row 8 (revoking (revoke opened).1) (8 ∷ [])
    ∷ row 15 (revoking (in_state Announced opened)) (15 ∷ [])
    -- a refused allotment gives 640 zeros; an accepted one zeros after the awards
    ∷ row 14 (allot opened).2.awards (replicate 640 0)
    ∷ row 14 (list_of (allot opened).2.marginal) []
    ∷ row 640 (in640 (10000 ∷ 5 ∷ [])) (10000 ∷ 5 ∷ replicate 638 0)
    ∷ row 0 (revoking opened) []
    ∷ row 0 (revoking (in_state Closed opened)) []
    -- a preview: states and condition 16 at once; refused it gives 640 zeros
    ∷ row 8 (previewing (in_state Revoked (closed_with 1000000000000000000))) (8 ∷ [])
    ∷ row 15 (previewing (in_state Announced (closed_with 1000000000000000000))) (15 ∷ [])
    ∷ row 16 (previewing (in_state Open (closed_with 1000000000000000000))) (16 ∷ [])
    ∷ row 16 (previewing (closed_with 1000000000000000000)) (16 ∷ [])
    ∷ row 16 (previewing (in_state Open (closed_with 999999999999999999))) []
    ∷ row 0 (previewing opened) []
    ∷ row 0 (previewing (in_state Closed opened)) []
    ∷ row 15 (preview (in_state Announced opened)).2.awards (replicate 640 0)
    ∷ row 15 (list_of (preview (in_state Announced opened)).2.marginal) []
    -- a refused opening gives a tender on which every call is refused
    ∷ row 8 (closing (open_tender [] admission).1 12032012 110001) (8 ∷ [])
    ∷ []

-- where a tender stands after events, and the amounts in the first place of each entry
abbrev pub state_number : State → ℕ
state_number Open = 0
state_number Closed = 1
state_number Announced = 2
state_number Revoked = 3

unfoldable pub afterwards : List Event → List ℕ
afterwards es =
    let t : Tender = after_events opened es in
    state_number t.state ∷ map (λ (e : Entry). total e.bids) t.book

unfoldable pub event_rows : List Row
event_rows =
    row 0 (afterwards []) (0 ∷ 0 ∷ 0 ∷ 0 ∷ [])
    ∷ row 0 (afterwards (receive_event (reception 103000 application) ∷ close_event 12032012 110000 ∷ [])) (0 ∷ 10000 ∷ 0 ∷ 0 ∷ [])
    ∷ row 0 (afterwards (receive_event (reception 103000 application) ∷ close_event 12032012 110001 ∷ [])) (1 ∷ 10000 ∷ 0 ∷ 0 ∷ [])
    ∷ row 0 (afterwards (receive_event (reception 103000 application) ∷ close_event 12032012 110001 ∷ allotEvent ∷ [])) (2 ∷ 10000 ∷ 0 ∷ 0 ∷ [])
    -- a refused event leaves the tender
    ∷ row 0 (afterwards (close_event 12032012 110001 ∷ receive_event (reception 103000 application) ∷ allotEvent ∷ revokeEvent ∷ [])) (2 ∷ 0 ∷ 0 ∷ 0 ∷ [])
    ∷ row 0 (afterwards (revokeEvent ∷ receive_event (reception 103000 application) ∷ [])) (3 ∷ 0 ∷ 0 ∷ 0 ∷ [])
    ∷ []

-- an answer as numbers: what it is, its length, the codes of its errors
unfoldable pub answer : Answer → List ℕ
answer (confirmed n) = 0 ∷ n ∷ []
answer (returned es n) = 1 ∷ n ∷ map code es
answer (refused n) = 2 ∷ n ∷ []

abbrev pub bytes_in_reply : Answer → ℕ
bytes_in_reply (confirmed n) = n
bytes_in_reply (returned es n) = n
bytes_in_reply (refused n) = 0

-- the text of the second 098 in the reply to a message: the message, 27 bytes of the first 098 and 3 of its own head stand before it;
-- a confirmation has none
unfoldable pub second098 : ℕ → Tender → List ℕ → List ℕ
second098 time t m =
    let a : Answer × Tender × List ℕ = receive t (reception time m) in
    drop (length m + 30) (take (bytes_in_reply a.0) a.2)

abbrev pub second098_with : List (Field × List ℕ) → List ℕ
second098_with fields = second098 103000 opened (application_with fields)

abbrev pub second098_of_bids : Tender → Pairs → List ℕ
second098_of_bids t ps = second098 103000 t (message 90001 102900 ps)

-- the text of every error code
unfoldable pub error_rows : List Row
error_rows =
    row 900 (second098_with (MessageType is "6G2" ∷ [])) (ascii "001 - 900")
    ∷ row 309 (second098_with (Sender is "9 001" ∷ [])) (ascii "040 - 309")
    ∷ row 300 (second098_with (Sender is "90004" ∷ [])) (ascii "040 - 300")
    ∷ row 300 (second098_with (Sender is "89999" ∷ [])) (ascii "040 - 300")
    ∷ row 599 (second098_with (Recipient is "11000" ∷ [])) (ascii "050 - 599")
    ∷ row 521 (second098_with (Cro is "0000000000:" ∷ [])) (ascii "020 - 521")
    ∷ row 502 (second098_with (Date is "42032012" ∷ [])) (ascii "D31 - 502")
    ∷ row 502 (second098_with (Date is "12 32012" ∷ [])) (ascii "D31 - 502")
    ∷ row 522 (second098_with (Date is "13032012" ∷ [])) (ascii "D31 - 522")
    ∷ row 522 (second098_with (Date is "11032012" ∷ [])) (ascii "D31 - 522")
    ∷ row 503 (second098_with (Time is "302900" ∷ [])) (ascii "601 - 503")
    ∷ row 908 (second098_with (Check is "/0000" ∷ [])) (ascii "010 - 908")
    ∷ row 303 (second098_with (Identifier is "T/2012/0002" ∷ [])) (ascii "6G0 - 303")
    ∷ row 901 (second098_with (malformed_place ∷ [])) (ascii "6G6 - 901")
    ∷ row 901 (second098_with ((Bids, zero_places 9 ++ ascii "00000000/00000000000000 ") ∷ [])) (ascii "6G6 - 901")
    ∷ row 902 (second098_of_bids opened ((0, 0) ∷ (120000, 10000) ∷ [])) (ascii "6G6 - 902")
    ∷ row 903 (second098_of_bids narrow ((120000, 10000) ∷ (130000, 10000) ∷ [])) (ascii "6G6 - 903")
    ∷ row 903 (second098_of_bids narrow ((120000, 10000) ∷ [])) []
    ∷ row 903 (second098_of_bids wide (replicate 10 (120000, 10000))) []
    ∷ row 904 (second098_of_bids opened ((120500, 10000) ∷ [])) (ascii "6G6 - 904")
    ∷ row 905 (second098_of_bids opened ((120000, 9999) ∷ [])) (ascii "6G6 - 905")
    ∷ row 905 (second098_of_bids opened ((120000, 0) ∷ [])) (ascii "6G6 - 905")
    ∷ row 906 (second098_of_bids opened ((120000, 25000) ∷ [])) (ascii "6G6 - 906")
    ∷ row 906 (second098_of_bids opened ((1000, 25000) ∷ [])) (ascii "6G6 - 906")
    ∷ row 907 (second098_of_bids narrow ((120000, 30000) ∷ [])) (ascii "6G6 - 907")
    ∷ row 907 (second098_of_bids narrow ((120000, 20000) ∷ [])) []
    ∷ row 301 (second098 110001 opened application) (ascii "6G5 - 301")
    ∷ row 302 (second098 103100 (tender_after (reception 103000 application ∷ [])) application) (ascii "601 - 302")
    -- 905 in one place, 904 and 906 in another
    ∷ row 0 (second098_of_bids opened ((0, 9999) ∷ (120500, 25000) ∷ [])) (ascii "6G6 - 904/6G6 - 905/6G6 - 906")
    ∷ row 0 (second098_of_bids narrow ((0, 0) ∷ (120000, 10000) ∷ (120000, 20000) ∷ [])) (ascii "6G6 - 902/6G6 - 903/6G6 - 907")
    ∷ []

-- 'collected in this order': all errors of a reception, more than a reply shows
unfoldable pub collected : Tender → Reception → List ℕ
collected t r = error_texts (errors t.terms r)

-- a text in each field, and a place, that is malformed or wrong
unfoldable pub malformed_fields : List ℕ
malformed_fields =
    application_with
    (MessageType is "6G2"
    ∷ Sender is "9 001"
    ∷ Recipient is "11000"
    ∷ Cro is "0000000000:"
    ∷ Date is "42032012"
    ∷ Time is "302900"
    ∷ Check is "/0000"
    ∷ Identifier is "T/2012/0002"
    ∷ malformed_place
    ∷ [])

-- a sender and a date that are well formed and others, and bids with every error
unfoldable pub other_fields : List ℕ
other_fields = message_with (MessageType is "6G2" ∷ Sender is "90004" ∷ Date is "13032012" ∷ Time is "302900" ∷ []) 90001 102900 ((0, 0) ∷ (120500, 9999) ∷ (120000, 25000) ∷ [])

unfoldable pub error_order_rows : List Row
error_order_rows =
    row 0 (collected opened (reception 110001 malformed_fields)) (ascii "001 - 900/040 - 309/050 - 599/020 - 521/D31 - 502/601 - 503/010 - 908/6G0 - 303/6G6 - 901/6G5 - 301")
    ∷ row 0 (collected narrow (reception 110001 other_fields)) (ascii "001 - 900/040 - 300/D31 - 522/601 - 503/6G6 - 902/6G6 - 903/6G6 - 904/6G6 - 905/6G6 - 906/6G6 - 907/6G5 - 301")
    -- received on an earlier date is in time, on a later one not
    ∷ row 301 (collected opened (record { message = application; date = 11032012; time = 235959; space = [] })) []
    ∷ row 301 (collected opened (record { message = application; date = 13032012; time = 0; space = [] })) (ascii "6G5 - 301")
    ∷ []

-- six errors, or the first five of them: type, recipient, CRO, check digit, identifier and a place
abbrev pub five_texts : List (Field × List ℕ)
five_texts = MessageType is "6G2" ∷ Recipient is "11000" ∷ Cro is "0000000000:" ∷ Check is "/0000" ∷ Identifier is "T/2012/0002" ∷ []

unfoldable pub five_errors : List ℕ
five_errors = application_with five_texts

unfoldable pub six_errors : List ℕ
six_errors = application_with (malformed_place ∷ five_texts)

-- the first 098 and the head of the second
unfoldable pub returned_with : ℕ → List ℕ
returned_with n = (0x98 ∷ 0 ∷ 24 ∷ []) ++ ascii "*** MESSAGGIO ERRATO ***" ++ (0x98 ∷ 0 ∷ n ∷ [])

unfoldable pub reply_rows : List Row
reply_rows =
    -- a confirmation of 59 bytes, and the rest of the space as it was
    row 59 (answer (receive opened (reception 103000 application)).0) (0 ∷ 59 ∷ [])
    ∷ row 59 (receive opened (reception 103000 application)).2
    ((1 ∷ 0 ∷ 3 ∷ []) ++ ascii "6G2" ++ (4 ∷ 0 ∷ 5 ∷ []) ++ ascii "01000" ++ (5 ∷ 0 ∷ 5 ∷ []) ++ ascii "90001" ++ (0x22 ∷ 0 ∷ 11 ∷ []) ++ ascii "00000000001"
    ++ (0x60 ∷ 0 ∷ 6 ∷ []) ++ ascii "103000" ++ (0x70 ∷ 0 ∷ 11 ∷ []) ++ ascii "T/2012/0001" ++ replicate 377 0)
    -- one error: 339 and 27 and 12 bytes
    ∷ row 98 (answer (receive opened (reception 103000 (application_with (MessageType is "6G2" ∷ [])))).0) (1 ∷ 378 ∷ 900 ∷ [])
    ∷ row 98 (receive opened (reception 103000 (application_with (MessageType is "6G2" ∷ [])))).2
    (application_with (MessageType is "6G2" ∷ []) ++ returned_with 9 ++ ascii "001 - 900" ++ replicate 58 0)
    -- five errors: all five; six: the fifth is 999 - 999
    ∷ row 98 (receive opened (reception 103000 five_errors)).2 (five_errors ++ returned_with 49 ++ ascii "001 - 900/050 - 599/020 - 521/010 - 908/6G0 - 303" ++ replicate 18 0)
    ∷ row 999 (answer (receive opened (reception 103000 six_errors)).0) (1 ∷ 418 ∷ 900 ∷ 599 ∷ 521 ∷ 908 ∷ 303 ∷ 901 ∷ [])
    ∷ row 999 (receive opened (reception 103000 six_errors)).2 (six_errors ++ returned_with 49 ++ ascii "001 - 900/050 - 599/020 - 521/010 - 908/999 - 999" ++ replicate 18 0)
    -- a refused reception leaves the space
    ∷ row 12 (answer (receive opened (reception 103000 [])).0) (2 ∷ 12 ∷ [])
    ∷ row 12 (receive opened (reception 103000 [])).2 (replicate reply_space 0)
    ∷ []

-- an application byte by byte, each tag and length a number
unfoldable pub literal6_g1 : List ℕ
literal6_g1 =
    (0x01 ∷ 0 ∷ 3 ∷ []) ++ ascii "6G1"
    ++ (0x04 ∷ 0 ∷ 5 ∷ []) ++ ascii "90001"
    ++ (0x05 ∷ 0 ∷ 5 ∷ []) ++ ascii "01000"
    ++ (0x02 ∷ 0 ∷ 11 ∷ []) ++ ascii "00000000001"
    ++ (0x31 ∷ 0 ∷ 8 ∷ []) ++ ascii "12032012"
    ++ (0x60 ∷ 0 ∷ 6 ∷ []) ++ ascii "102900"
    ++ (0x10 ∷ 0 ∷ 5 ∷ []) ++ ascii "00000"
    ++ (0x70 ∷ 0 ∷ 11 ∷ []) ++ ascii "T/2012/0001"
    ++ (0x76 ∷ 0 ∷ 240 ∷ []) ++ ascii "00120000/000000000010000" ++ zero_places 9
    ++ (0x7f ∷ 0 ∷ 15 ∷ []) ++ ascii "CONTACT NAME   "

-- what is held of a message: its sender, reference time, rates and amounts
unfoldable pub submitted_numbers : Submission → List ℕ
submitted_numbers s = s.code ∷ s.time ∷ map rate s.bids ++ map amount s.bids

-- a bid to the tender whose announcement stands byte by byte: its minimum is 20000, its increment 3000, its maximum 80000
abbrev pub literal098 : Pairs → List ℕ
literal098 ps = second098 103000 (open_tender literal6_g0 admission).1 (message_with (Identifier is "T/2012/0042" ∷ []) 90001 102900 ps)

unfoldable pub literal_rows : List Row
literal_rows =
    row 339 literal6_g1 application
    ∷ row 339 (list_of (reading_refused literal6_g1)) []
    ∷ row 339 (answer (receive opened (reception 103000 literal6_g1)).0) (0 ∷ 59 ∷ [])
    ∷ row 339 (submitted_numbers (submission terms (reception 103000 literal6_g1))) (90001 ∷ 102900 ∷ 120000 ∷ replicate 9 0 ++ (10000 ∷ replicate 9 0))
    ∷ row 225 (literal098 ((120000, 26000) ∷ (121000, 20000) ∷ [])) []
    ∷ row 225 (literal098 ((120000, 17000) ∷ [])) (ascii "6G6 - 905")
    ∷ row 225 (literal098 ((120000, 24000) ∷ [])) (ascii "6G6 - 906")
    ∷ row 225 (literal098 ((120000, 41000) ∷ (121000, 41000) ∷ [])) (ascii "6G6 - 907")
    ∷ []

-- the numbers of the application, one of them altered
unfoldable pub numbers_with : Field → ℕ → Application
numbers_with f n =
    let a : Application = numbers 90001 102900 ((120000, 10000) ∷ []) in
    let given : Field → ℕ → ℕ = λ g m. cond (eqb (position f) (position g)) n m in
    record {
      sender = Code (given Sender 90001);
      recipient = Code (given Recipient 1000);
      cro = given Cro a.cro;
      date = given Date a.date;
      time = given Time a.time;
      check = given Check a.check;
      rates = a.rates;
      amounts = a.amounts;
    }

-- the refusal of writing, in a space of so many bytes
abbrev pub writing : Application → ℕ → List ℕ
writing a space = list_of (writing_refused a (ascii "6G1") (ascii "T/2012/0001") (ascii "CONTACT NAME   ") (replicate space 7))

abbrev pub writing_texts : List ℕ → List ℕ → List ℕ → List ℕ
writing_texts kind identifier name = list_of (writing_refused (numbers_with Sender 90001) kind identifier name (replicate 339 7))

abbrev pub after_writing : Application → ℕ → List ℕ
after_writing a space = (write a (ascii "6G1") (ascii "T/2012/0001") (ascii "CONTACT NAME   ") (replicate space 7)).1

unfoldable pub writing_rows : List Row
writing_rows =
    row 12 (list_of (reading_refused announcement)) (12 ∷ [])
    ∷ row 17 (writing (numbers_with Sender 100000) 339) (17 ∷ [])
    ∷ row 17 (writing (numbers_with Sender 99999) 339) []
    ∷ row 17 (writing (numbers_with Recipient 100000) 339) (17 ∷ [])
    ∷ row 17 (writing (numbers_with Cro 100000000000) 339) (17 ∷ [])
    ∷ row 17 (writing (numbers_with Date 100000000) 339) (17 ∷ [])
    ∷ row 17 (writing (numbers_with Time 1000000) 339) (17 ∷ [])
    ∷ row 17 (writing (numbers_with Check 100000) 339) (17 ∷ [])
    ∷ row 17 (writing (numbers 90001 102900 ((100000000, 10000) ∷ [])) 339) (17 ∷ [])
    ∷ row 17 (writing (numbers 90001 102900 ((120000, 1000000000000000) ∷ [])) 339) (17 ∷ [])
    ∷ row 17 (writing_texts (ascii "6G") (ascii "T/2012/0001") (ascii "CONTACT NAME   ")) (17 ∷ [])
    ∷ row 17 (writing_texts (ascii "6G1") (ascii "t/2012/0001") (ascii "CONTACT NAME   ")) (17 ∷ [])
    ∷ row 17 (writing_texts (ascii "6G1") (ascii "T/2012/0001") (ascii "CONTACT NAME")) (17 ∷ [])
    ∷ row 17 (writing (numbers_with Sender 100000) 338) (17 ∷ [])
    ∷ row 18 (writing (numbers_with Sender 90001) 338) (18 ∷ [])
    ∷ row 18 (writing (numbers_with Sender 90001) 339) []
    ∷ row 18 (after_writing (numbers_with Sender 90001) 338) (replicate 338 7)
    ∷ row 339 (after_writing (numbers_with Sender 90001) 341) (literal6_g1 ++ (7 ∷ 7 ∷ []))
    ∷ []

-- an application between branches of the sender and of the recipient, byte by byte, and the same by the layout
unfoldable pub literal_between : List ℕ
literal_between =
    take 6 literal6_g1
    ++ (0x04 ∷ 0 ∷ 14 ∷ []) ++ ascii "90001/00117/AB"
    ++ (0x05 ∷ 0 ∷ 14 ∷ []) ++ ascii "01000/00002/C "
    ++ drop 22 literal6_g1

abbrev pub long_sender : Field × List ℕ
long_sender = Sender is "90001/00117/AB"

abbrev pub long_recipient : Field × List ℕ
long_recipient = Recipient is "01000/00002/C "

-- its numbers and letters
abbrev pub sender_branch : Address
sender_branch = Branch 90001 117 65 66

abbrev pub recipient_branch : Address
recipient_branch = Branch 1000 2 67 32

abbrev pub between : Address → Address → Application
between from to = numbers_between from to 102900 ((120000, 10000) ∷ [])

-- what an application with some texts altered is answered
abbrev pub answer_given : Tender → List (Field × List ℕ) → List ℕ
answer_given t fields = answer (receive t (reception 103100 (application_with fields))).0

-- the tender after an application of the same reference time from a sender
abbrev pub after_sender : String → Tender
after_sender sender = tender_after (reception 103000 (application_with (Sender is sender ∷ [])) ∷ [])

unfoldable pub address_rows : List Row
address_rows =
    -- a long sender: digits and slashes in place, any two characters after them
    row 309 (answer_given opened (Sender is "90001/00117/ /" ∷ [])) (0 ∷ 68 ∷ [])
    ∷ row 309 (second098_with (Sender is "9000A/00117/AB" ∷ [])) (ascii "040 - 309")
    ∷ row 309 (second098_with (Sender is "90001/0011:/AB" ∷ [])) (ascii "040 - 309")
    ∷ row 309 (second098_with (Sender is "90001-00117/AB" ∷ [])) (ascii "040 - 309")
    ∷ row 309 (second098_with (Sender is "90001/00117-AB" ∷ [])) (ascii "040 - 309")
    -- its code is not admitted, though its second five are a code that is; 309 hides 300
    ∷ row 300 (second098_with (Sender is "90004/90001/AB" ∷ [])) (ascii "040 - 300")
    ∷ row 309 (second098_with (Sender is "90004/9000A/AB" ∷ [])) (ascii "040 - 309")
    -- of a long recipient the first five tell, whatever follows
    ∷ row 599 (answer_given opened (long_recipient ∷ [])) (0 ∷ 59 ∷ [])
    ∷ row 599 (answer_given opened (Recipient is "01000xxxxxxxxx" ∷ [])) (0 ∷ 59 ∷ [])
    ∷ row 599 (second098_with (Recipient is "01001/00000/AA" ∷ [])) (ascii "050 - 599")
    -- branches of one code are one counterparty
    ∷ row 302 (answer_given (after_sender "90001/00117/AB") (Sender is "90001/00118/CD" ∷ [])) (1 ∷ 387 ∷ 302 ∷ [])
    ∷ row 302 (answer_given (after_sender "90001") (Sender is "90001/00117/AB" ∷ [])) (1 ∷ 387 ∷ 302 ∷ [])
    ∷ row 302 (answer_given (after_sender "90001/00117/AB") (Sender is "90001" ∷ [])) (1 ∷ 378 ∷ 302 ∷ [])
    ∷ row 302 (answer_given (after_sender "90001/00117/AB") (Sender is "90002/00117/AB" ∷ [])) (0 ∷ 68 ∷ [])
    -- a confirmation of 68 bytes: 050 is the sender whole, 040 stays short
    ∷ row 357 (answer (receive opened (reception 103000 literal_between)).0) (0 ∷ 68 ∷ [])
    ∷ row 357 (receive opened (reception 103000 literal_between)).2
    ((1 ∷ 0 ∷ 3 ∷ []) ++ ascii "6G2" ++ (4 ∷ 0 ∷ 5 ∷ []) ++ ascii "01000" ++ (5 ∷ 0 ∷ 14 ∷ []) ++ ascii "90001/00117/AB" ++ (0x22 ∷ 0 ∷ 11 ∷ []) ++ ascii "00000000001"
    ++ (0x60 ∷ 0 ∷ 6 ∷ []) ++ ascii "103000" ++ (0x70 ∷ 0 ∷ 11 ∷ []) ++ ascii "T/2012/0001" ++ replicate 368 0)
    ∷ row 357 (submitted_numbers (submission terms (reception 103000 literal_between))) (90001 ∷ 102900 ∷ 120000 ∷ replicate 9 0 ++ (10000 ∷ replicate 9 0))
    -- the longest reply: 357 and 27 and 52 bytes
    ∷ row 357 (answer_given opened (malformed_place ∷ five_texts ++ (long_sender ∷ Recipient is "11000/00002/C " ∷ []))) (1 ∷ 436 ∷ 900 ∷ 599 ∷ 521 ∷ 908 ∷ 303 ∷ 901 ∷ [])
    -- a head that says another length than the field has
    ∷ row 12 (receiving opened (set (application_with (long_sender ∷ [])) 8 5) 12032012 103000 reply_space) (12 ∷ [])
    ∷ row 12 (receiving opened (set application 8 14) 12032012 103000 reply_space) (12 ∷ [])
    ∷ row 12 (receiving opened (set application 16 14) 12032012 103000 reply_space) (12 ∷ [])
    ∷ []

-- writing: each address by itself of either form
unfoldable pub address_writing_rows : List Row
address_writing_rows =
    row 357 literal_between (application_with (long_sender ∷ long_recipient ∷ []))
    ∷ row 357 (after_writing (between sender_branch recipient_branch) 359) (literal_between ++ (7 ∷ 7 ∷ []))
    ∷ row 17 (writing (between (Branch 90001 100000 65 66) recipient_branch) 357) (17 ∷ [])
    ∷ row 17 (writing (between (Branch 100000 117 65 66) recipient_branch) 357) (17 ∷ [])
    ∷ row 17 (writing (between sender_branch (Branch 1000 100000 67 32)) 356) (17 ∷ [])
    ∷ row 17 (writing (between Malformed recipient_branch) 357) (17 ∷ [])
    ∷ row 18 (writing (between sender_branch recipient_branch) 356) (18 ∷ [])
    ∷ row 18 (writing (between sender_branch recipient_branch) 357) []
    ∷ row 18 (writing (between sender_branch (Code 1000)) 347) (18 ∷ [])
    ∷ row 18 (writing (between sender_branch (Code 1000)) 348) []
    ∷ row 18 (writing (between (Code 90001) recipient_branch) 347) (18 ∷ [])
    ∷ row 18 (writing (between (Code 90001) recipient_branch) 348) []
    ∷ row 18 (writing (between (Code 90001) (Code 1000)) 338) (18 ∷ [])
    ∷ row 18 (writing (between (Code 90001) (Code 1000)) 339) []
    ∷ []

-- the theorem: every row holds
abbrev pub RowsHold : Type 0
RowsHold = T (all_hold (opening_rows ++ opening_order_rows ++ term_rows ++ state_rows ++ event_rows ++ error_rows ++ error_order_rows ++ reply_rows ++ literal_rows ++ writing_rows ++ address_rows ++ address_writing_rows))
