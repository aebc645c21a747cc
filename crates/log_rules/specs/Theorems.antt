-- What is proved of the log. Assumes nothing.
use Rattle.std.specs.Prelude.{◌≡◌, cond, List, [], ◌∷◌, ◌++◌, ℕ, zero, suc, length, take}
use Rattle.std.proofs.Math.Option.{Option, none, some}
use Rattle.rules.specs.Opening.{uncapped}
use Rattle.rules.specs.Calls.{Tender, open_tender}
use Rattle.rules.specs.Events.{Kept}
use Rattle.log_rules.specs.Steps.{Log, start, step, tag_of, content_of, after_field, holds_field, log_of}

-- the fields of a byte string, until it breaks or ends: at most d
unfoldable pub fields_in : ℕ → List ℕ → List (ℕ × List ℕ)
fields_in zero s = []
fields_in (suc d) s = cond (holds_field s) ((tag_of s, content_of s) ∷ fields_in d (after_field s)) []

-- the lines of fields, stepped one after the other
unfoldable pub stepped : Log → List (ℕ × List ℕ) → List ℕ
stepped l [] = []
stepped l (f ∷ fs) = (step l f.0 f.1).1 ++ stepped (step l f.0 f.1).0 fs

-- stepping field by field gives the log
abbrev pub FieldByField : Type 0
FieldByField = (s : List ℕ) → stepped start (fields_in (length s) s) ≡ log_of s

-- what holds of every tender that calls give holds of the tender of a log, and each field leaves it so
abbrev pub KeptTender : Option Tender → Type 0
KeptTender none = Unit
KeptTender (some t) = Kept t

abbrev pub StepsKeep : Type 0
StepsKeep = (l : Log) (tag : ℕ) (s : List ℕ) → KeptTender l.tender → KeptTender (step l tag s).0.tender

-- of the codes that are admitted the first 65 tell all that opening asks
abbrev pub First65Tell : Type 0
First65Tell = (m codes : List ℕ) → open_tender m (uncapped (take 65 codes)) ≡ open_tender m (uncapped codes)
