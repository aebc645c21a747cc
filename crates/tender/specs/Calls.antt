-- What each call on a tender promises: one equation with the rules, the very tender that came in where nothing changes it, and a tender that may be
-- handed to the next call. Assumes nothing.
use Rattle.std.specs.Prelude.{◌≡◌, List, ℕ}
use Rattle.std.proofs.Math.Option.{Option}
use Rattle.envelope.specs.Refusals.{unless_refused}
use Rattle.rules.specs.Opening.{Admission}
use Rattle.rules.specs.Calls as rules
use Rattle.terms.specs.Viewed.{open_refusal}
use Rattle.refusals.specs.Conditions.{refusal_number}
use Rattle.outcomes.specs.Answers.{answer_of, unless_confirmed, Answers}
use Rattle.tender.specs.declared.Tender.{Tender}
use Rattle.tender.specs.declared.Opened.{Opened}
use Rattle.tender.specs.declared.Received.{Received}
use Rattle.tender.specs.declared.Changed.{Changed}
use Rattle.tender.specs.declared.Allotted.{Allotted}
use Rattle.tender.specs.Viewed.{viewed, Given, allotted_in}

pub record Opens (m : List ℕ) (a : Admission) (r : Opened) : Type 0 where
  pub equal : (open_refusal r.answer, viewed r.tender) ≡ rules.open_tender m a
  pub given : Given r.tender

-- the reply space is `after` the call
pub record Receives (t : Tender) (expected : rules.Answer × rules.Tender × List ℕ) (r : Received) (after : List ℕ) : Type 0 where
  pub answers : Answers expected r.answer (viewed r.tender) after
  pub unchanged : r.tender ≡ unless_confirmed (answer_of r.answer) t r.tender
  pub given : Given r.tender

-- closing and revoking
pub record Changes (t : Tender) (expected : Option ℕ × rules.Tender) (r : Changed) : Type 0 where
  pub equal : (refusal_number r.answer, viewed r.tender) ≡ expected
  pub unchanged : r.tender ≡ unless_refused (refusal_number r.answer) t r.tender
  pub given : Given r.tender

pub record Allots (t : Tender) (r : Allotted) : Type 0 where
  pub equal : (refusal_number r.answer, viewed r.tender, allotted_in r) ≡ rules.allot (viewed t)
  pub unchanged : r.tender ≡ unless_refused (refusal_number r.answer) t r.tender
  pub given : Given r.tender

-- a preview gives back the very tender that came in
pub record Previews (t : Tender) (r : Allotted) : Type 0 where
  pub equal : (refusal_number r.answer, viewed r.tender, allotted_in r) ≡ rules.preview (viewed t)
  pub unchanged : r.tender ≡ t
  pub given : Given r.tender
