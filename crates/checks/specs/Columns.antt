-- The two groups in which the code collects errors: of the fields before the places, and of the ten places that it holds in columns. Assumes nothing.
use Rattle.std.specs.Prelude.{◌≡◌, Bool, not, cond, List, [], ◌∷◌, ◌++◌, ℕ, ◌≤◌, eqb, take}
use Rattle.texts.specs.Texts.{ascii, same_text}
use Rattle.digits.specs.Decimal.{is_number}
use Rattle.addresses.specs.Addresses.{code_in}
use Rattle.places.specs.Bids.{all_formed}
use Rattle.places.specs.declared.Places.{Places}
use Rattle.envelope.specs.declared.application.Field.TheVariants.{MessageType, Recipient, Identifier}
use Rattle.envelope.specs.declared.application.Fields.{Fields}
use Rattle.envelope.specs.Application.{bytes_of}
use Rattle.rules.specs.Opening as rules
use Rattle.rules.specs.Opening.{Admission, nobody, is_time, any}
use Rattle.rules.specs.Receiving.{Reception, Error, when, sender_errors, date_errors, bid_errors, errors}
use Rattle.bids.specs.Columns.{bids_from}
use Rattle.errors.specs.declared.Errors.{Errors}
use Rattle.errors.specs.Listed.{listed}
use Rattle.terms.specs.declared.Terms.{Terms}
use Rattle.terms.specs.Viewed.{viewed}

-- '6G6-901 a place malformed; if none is: 902 ..'; which codes are admitted is not asked
unfoldable pub column_errors : Terms → Places → List Error
column_errors t p = cond (all_formed p.formed) (bid_errors (viewed t nobody) (bids_from p.rates p.amounts 0 10)) ((ascii "6G6", 901) ∷ [])

-- '001-900 .. 6G0-303'
unfoldable pub head_errors : rules.Terms → List ℕ → Fields → List Error
head_errors t m f =
    when (not (same_text (bytes_of MessageType m) (ascii "6G1"))) (ascii "001", 900)
    ++ sender_errors t.admission.codes f.sender
    ++ when (not (same_text (take 5 (bytes_of Recipient m)) (ascii "01000"))) (ascii "050", 599)
    ++ when (not (is_number f.cro)) (ascii "020", 521)
    ++ date_errors t.execution f.date
    ++ when (not (is_time f.time)) (ascii "601", 503)
    ++ when (not (is_number f.check)) (ascii "010", 908)
    ++ when (not (same_text (bytes_of Identifier m) t.identifier)) (ascii "6G0", 303)

-- a message received at a date and time, with space for a reply
abbrev pub reception_of : List ℕ → ℕ → ℕ → List ℕ → Reception
reception_of m day second space = record { message = m; date = day; time = second; space = space }

-- whether the sender is admitted was asked before
abbrev pub Admits : Admission → Fields → Bool → Type 0
Admits a f admitted = admitted ≡ any (eqb (code_in f.sender)) a.codes

-- the errors of the fields before the places, whatever the admission is to which the sender belongs or not; at most eight
abbrev pub HeadErrors : Terms → List ℕ → Fields → Bool → Errors → Type 0
HeadErrors t m f admitted e = ((a : Admission) → Admits a f admitted → listed e ≡ head_errors (viewed t a) m f) × (e.n ≤ 8)

-- all errors of a message received on a day and at a second, in the same way; at most fifteen
abbrev pub AllErrors : Terms → List ℕ → Fields → Bool → ℕ → ℕ → Errors → Type 0
AllErrors t m f admitted day second e =
    ((a : Admission) (space : List ℕ) → Admits a f admitted → listed e ≡ errors (viewed t a) (reception_of m day second space)) × (e.n ≤ 15)
