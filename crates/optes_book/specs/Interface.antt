-- What each call from C promises: its result, every word, byte and number after it, for all words. 100, first of all, where the words hold no tender.
-- Assumes nothing.
use Rattle.std.specs.Prelude.{◌≡◌, true, cond, List, [], ◌∷◌, ◌++◌, map, ℕ, ◌-◌, leb, length, drop, set, replicate}
use Rattle.std.proofs.Math.Option.{Option, none, some}
use Rattle.envelope.specs.Refusals.{unless_refused, or_zero}
use Rattle.rules.specs.Opening.{Admission, opening_refused, terms_of}
use Rattle.rules.specs.Receiving.{Error}
use Rattle.rules.specs.Calls as rules
use Rattle.checks.specs.Columns.{reception_of}
use Rattle.numbers.specs.Numbers.{in_array}
use Rattle.outcomes.specs.Answers.{unless_confirmed}
use Rattle.buffer.specs.Words.{tender_words, tender_in, is_tender, terms_in, terms_numbers}
use Rattle.buffer_opening.specs.Opening.{held, opened_numbers}
use Rattle.buffer_questions.specs.Told.{counted_numbers, entry_of, held_numbers}
use Rattle.in_place.specs.InPlace.{accepted_in, holding_of}

-- where the words hold no tender
abbrev pub if_tender : {A : Type 0} → List ℕ → A → A → A
if_tender ws told untold = cond (is_tender ws) told untold

-- opening asks for room alone, since it writes every word; not refused, the words are the tender of the rules
pub record Opens (ws m : List ℕ) (a : Admission) (r : ℕ) (after : List ℕ) : Type 0 where
  pub equal :
      ◌≡◌ {A = ℕ × List ℕ} (r, after)
      (cond (leb tender_words (length ws)) (or_zero (opening_refused m a), unless_refused (opening_refused m a) ws (opened_numbers (held (terms_of m a)) a ++ drop tender_words ws)) (100, ws))
  pub tender : leb tender_words (length ws) ≡ true → opening_refused m a ≡ none → tender_in after ≡ (rules.open_tender m a).1
  pub given : leb tender_words (length ws) ≡ true → opening_refused m a ≡ none → is_tender after ≡ true

-- the number of an answer
abbrev pub answer_number : rules.Answer → ℕ
answer_number (rules.confirmed n) = 0
answer_number (rules.returned es n) = 0
answer_number (rules.refused k) = k

-- what is told of a reception: 18 numbers, the length of the reply, how many errors, their codes, and zeros up to sixteen codes
abbrev pub code_of : Error → ℕ
code_of e = e.1

unfoldable pub answer_numbers : ℕ → List Error → List ℕ
answer_numbers n es = n ∷ length es ∷ (map code_of es ++ replicate (16 - length es) 0)

abbrev pub told_of : rules.Answer → List ℕ → List ℕ
told_of (rules.confirmed n) told = in_array (answer_numbers n []) told
told_of (rules.returned es n) told = in_array (answer_numbers n es) told
told_of (rules.refused k) told = told

-- receiving: the words, the reply space and the numbers told, as they are after it
abbrev pub received_in : List ℕ → List ℕ → ℕ → ℕ → List ℕ → rules.Answer × rules.Tender × List ℕ
received_in ws m date time space = rules.receive (tender_in ws) (reception_of m date time space)

pub record Receives (ws m : List ℕ) (date time : ℕ) (space told : List ℕ) (r : ℕ) (after space₂ told₂ : List ℕ) : Type 0 where
  pub equal :
      ◌≡◌ {A = ℕ × List ℕ × List ℕ × List ℕ} (r, after, space₂, told₂)
      (if_tender ws
      (let x = received_in ws m date time space in
      (answer_number x.0, unless_confirmed x.0 ws (holding_of ws (accepted_in ws m)), x.2, told_of x.0 told))
      (100, ws, space, told))
  pub tender : is_tender ws ≡ true → tender_in after ≡ (received_in ws m date time space).1
  pub given : is_tender ws ≡ true → is_tender after ≡ true

-- closing and revoking: the word of the state changes, or none does
pub record Changes (ws : List ℕ) (expected : Option ℕ × rules.Tender) (state r : ℕ) (after : List ℕ) : Type 0 where
  pub equal : ◌≡◌ {A = ℕ × List ℕ} (r, after) (if_tender ws (or_zero expected.0, unless_refused expected.0 ws (set ws 1 state)) (100, ws))
  pub tender : is_tender ws ≡ true → tender_in after ≡ expected.1
  pub given : is_tender ws ≡ true → is_tender after ≡ true

-- what is told of an allotment, unless it is refused: the awards of 640 places, and whether there is a marginal rate and which
abbrev pub marginal_numbers : Option ℕ → List ℕ
marginal_numbers none = 0 ∷ 0 ∷ []
marginal_numbers (some r) = 1 ∷ r ∷ []

abbrev pub awards_told : Option ℕ → rules.Allotted → List ℕ → List ℕ
awards_told refusal given awards = unless_refused refusal awards (in_array given.awards awards)

abbrev pub marginal_told : Option ℕ → rules.Allotted → List ℕ → List ℕ
marginal_told refusal given told = unless_refused refusal told (in_array (marginal_numbers given.marginal) told)

-- allotting: as closing and revoking, and what is told
pub record Allots (ws awards told : List ℕ) (r : ℕ) (after awards₂ told₂ : List ℕ) : Type 0 where
  pub equal :
      ◌≡◌ {A = ℕ × List ℕ × List ℕ × List ℕ} (r, after, awards₂, told₂)
      (if_tender ws
      (let x = rules.allot (tender_in ws) in
      (or_zero x.0, unless_refused x.0 ws (set ws 1 2), awards_told x.0 x.2 awards, marginal_told x.0 x.2 told))
      (100, ws, awards, told))
  pub tender : is_tender ws ≡ true → tender_in after ≡ (rules.allot (tender_in ws)).1
  pub given : is_tender ws ≡ true → is_tender after ≡ true

-- a preview: the same is told, and the words are lent to be read alone
abbrev pub Previews : List ℕ → List ℕ → List ℕ → ℕ → List ℕ → List ℕ → Type 0
Previews ws awards told r awards₂ told₂ =
    ◌≡◌ {A = ℕ × List ℕ × List ℕ} (r, awards₂, told₂)
    (if_tender ws (let x = rules.preview (tender_in ws) in (or_zero x.0, awards_told x.0 x.2 awards, marginal_told x.0 x.2 told)) (100, awards, told))

-- the questions: where the tender stands, what was announced, who is admitted, up to which limits, what is held for a code
abbrev pub state_number : rules.State → ℕ
state_number rules.Open = 0
state_number rules.Closed = 1
state_number rules.Announced = 2
state_number rules.Revoked = 3

abbrev pub TellsState : List ℕ → ℕ → Type 0
TellsState ws r = r ≡ if_tender ws (state_number (tender_in ws).state) 100

-- numbers told of a tender
abbrev pub Tells : List ℕ → List ℕ → List ℕ → ℕ → List ℕ → Type 0
Tells ws numbers told r told₂ = ◌≡◌ {A = ℕ × List ℕ} (r, told₂) (if_tender ws (0, in_array numbers told) (100, told))

abbrev pub TellsTerms : List ℕ → List ℕ → ℕ → List ℕ → Type 0
TellsTerms ws told r told₂ = Tells ws (terms_numbers (terms_in ws)) told r told₂

abbrev pub TellsCodes : List ℕ → List ℕ → ℕ → List ℕ → Type 0
TellsCodes ws told r told₂ = Tells ws (counted_numbers (tender_in ws).terms.admission.codes) told r told₂

abbrev pub TellsLimits : List ℕ → List ℕ → ℕ → List ℕ → Type 0
TellsLimits ws told r told₂ = Tells ws (counted_numbers (tender_in ws).terms.admission.limits) told r told₂

abbrev pub TellsHeld : List ℕ → ℕ → List ℕ → ℕ → List ℕ → Type 0
TellsHeld ws code told r told₂ = Tells ws (held_numbers (entry_of (tender_in ws).book code)) told r told₂
