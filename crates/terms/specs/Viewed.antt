-- The refusals and terms of the code as those of the rules, and the parts in which the code tests an announcement. Assumes nothing.
use Rattle.std.specs.Prelude.{◌≡◌, Bool, true, ◌&&◌, List, [], ◌∷◌, ℕ, ◌+◌, leb, Result, Ok, Err, IfOk}
use Rattle.std.proofs.Math.Option.{Option, none, some}
use Rattle.calendar.specs.Calendar.{valid_date}
use Rattle.digits.specs.Decimal.{is_number, number_in}
use Rattle.envelope.specs.Refusals.{first_holding}
use Rattle.announcement.specs.declared.References.{References}
use Rattle.announcement.specs.declared.Announcement.{Announcement}
use Rattle.announcement.specs.Announcement.{characteristics_in, dates_ordered}
use Rattle.rules.specs.Opening as rules
use Rattle.rules.specs.Opening.{Admission, is_date, is_time, bad_codes, limits_miscounted, limit_too_long, opening_refused, terms_of}
use Rattle.terms.specs.declared.Terms as declared
use Rattle.terms.specs.declared.OpenRefusal.{OpenRefusal}
use Rattle.terms.specs.declared.OpenRefusal.TheVariants.{NotAnnouncement, OtherOrigin, Malformed, UnknownType, Impossible, Disordered, BadCodes, LimitsMiscounted, LimitTooLong}

-- the paper's number for each refusal
abbrev pub open_number : OpenRefusal → ℕ
open_number NotAnnouncement = 1
open_number OtherOrigin = 2
open_number Malformed = 3
open_number UnknownType = 4
open_number Impossible = 5
open_number Disordered = 6
open_number BadCodes = 7
open_number LimitsMiscounted = 19
open_number LimitTooLong = 20

-- the paper's number for the refusal in an answer, or none
abbrev pub open_refusal : {A : Type 0} → Result A OpenRefusal → Option ℕ
open_refusal (Ok x) = none
open_refusal (Err r) = some (open_number r)

-- the terms of the code, with the admission that the book tells, as the terms of the rules
abbrev pub viewed : declared.Terms → Admission → rules.Terms
viewed t a =
    record {
      identifier = t.identifier;
      side = t.side;
      execution = t.execution;
      cut_off = t.cutoff;
      most = t.most;
      offered = t.offered.0;
      minimum = t.minimum.0;
      increment = t.increment.0;
      maximum = t.maximum.0;
      allocation = t.allocation.0;
      limit = t.limit.0;
      admission = a;
    }

-- what opening promises of its answer: the refusal of the rules, or the terms
pub record OpensTerms (m : List ℕ) (a : Admission) (r : Result declared.Terms OpenRefusal) : Type 0 where
  pub number : open_refusal r ≡ opening_refused m a
  pub terms : IfOk r (λ t. viewed t a ≡ terms_of m a)

-- the parts of condition 3
unfoldable pub references_formed : References → Bool
references_formed r = is_number r.recipient && is_number r.cro && is_date r.date && is_time r.time

unfoldable pub dates_formed : Announcement → Bool
dates_formed a = valid_date (characteristics_in a.characteristics).execution && is_date a.spot && is_date a.forward && is_time a.cutoff

-- what condition 6 asks
unfoldable pub dates_in_order : Announcement → Bool
dates_in_order a = dates_ordered (number_in a.references.date) (characteristics_in a.characteristics).execution (number_in a.spot) (number_in a.forward)

-- codes of which the first is at least a number, each later one is above the one before it, and none is over 99999
unfoldable pub rises_from : ℕ → List ℕ → Bool
rises_from least [] = true
rises_from least (c ∷ codes) = leb least c && leb c 99999 && rises_from (c + 1) codes

-- conditions 7, 19 and 20, which look at the admitted list alone
unfoldable pub admission_refused : Admission → Option ℕ
admission_refused a = first_holding ((7, bad_codes a.codes) ∷ (19, limits_miscounted a) ∷ (20, limit_too_long a.limits) ∷ [])
