-- What opening a tender in the words of a buffer gives. Assumes nothing.
use Rattle.std.specs.Prelude.{◌≡◌, true, List, [], ◌∷◌, ◌++◌, map, ℕ, ◌-◌, length, drop, replicate, Result}
use Rattle.std.proofs.Math.Option.{none}
use Rattle.envelope.specs.Refusals.{unless_refused}
use Rattle.rules.specs.Opening as opening
use Rattle.rules.specs.Opening.{Admission, opening_refused, terms_of}
use Rattle.rules.specs.Calls as rules
use Rattle.terms.specs.declared.Terms.{Terms}
use Rattle.terms.specs.declared.OpenRefusal.{OpenRefusal}
use Rattle.terms.specs.Viewed.{open_refusal}
use Rattle.book.specs.Viewed.{rate_of, amount_of}
use Rattle.buffer.specs.Words.{tender_words, form_number, byte_in, low32, tender_in, is_tender, terms_numbers}

-- terms that are read back from words as they were written
pub record Narrow (t : Terms) : Type 0 where
  pub identifier-bytes : map byte_in t.identifier ≡ t.identifier
  pub limit_bits : low32 t.limit.0 ≡ t.limit.0

-- the terms of the rules as the code holds them
abbrev pub held : opening.Terms → Terms
held t =
    record {
      identifier = t.identifier;
      side = t.side;
      execution = t.execution;
      cutoff = t.cut_off;
      most = t.most;
      offered = amount_of t.offered;
      minimum = amount_of t.minimum;
      increment = amount_of t.increment;
      maximum = amount_of t.maximum;
      allocation = amount_of t.allocation;
      limit = rate_of t.limit;
    }

-- the words of a newly opened tender: its form, the state open, how many codes, terms, codes, zeros, for it holds nothing, and the limits
unfoldable pub opened_numbers : Terms → Admission → List ℕ
opened_numbers t a =
    (form_number ∷ 0 ∷ length a.codes ∷ [])
    ++ terms_numbers t
    ++ a.codes
    ++ replicate (1472 - length a.codes) 0
    ++ (a.limits ++ replicate (64 - length a.limits) 0)

-- opening in words ws: the answer r, and the words after it
pub record OpensIn (ws m : List ℕ) (a : Admission) (r : Result (Unit {0}) OpenRefusal) (after : List ℕ) : Type 0 where
  -- document 01's number of the refusal, or none
  pub number : open_refusal r ≡ opening_refused m a
  -- every word: those that came in where opening is refused, else the numbers of the new tender and the words past them
  pub words : after ≡ unless_refused (opening_refused m a) ws (opened_numbers (held (terms_of m a)) a ++ drop tender_words ws)
  -- the words past the tender stay
  pub past : drop tender_words after ≡ drop tender_words ws
  -- not refused, the words are the tender of the rules, and may be handed to the next call
  pub tender : opening_refused m a ≡ none → tender_in after ≡ (rules.open_tender m a).1
  pub given : opening_refused m a ≡ none → is_tender after ≡ true
