-- What a reception leaves in the words: what is accepted, or every word as it was. Assumes nothing.
use Rattle.std.specs.Prelude.{Ok}
use mathlib.Core.Path.{◌≡◌, refl, sym, ap, ap₂, ◌∙◌}
use mathlib.Core.Bool.{Bool, true, false, cond}
use mathlib.Core.List.{List, [], ◌∷◌, map}
use Prim.Native.Nat.{ℕ, ◌<◌}
use lib.ListN.{length}
use Rattle.bids.specs.Columns.{bids_from}
use Rattle.book.specs.Viewed.{hundred_thousandths, viewed, replaced}
use Rattle.rules.specs.Receiving.{Error, is_empty}
use Rattle.rules.specs.Calls as rules
use Rattle.rules.specs.Calls.{answer_to}
use Rattle.errors.specs.Listed.{listed}
use Rattle.reception.proofs.Listing.{empty_told}
use Rattle.outcomes.specs.declared.internal.Accepted.{Accepted}
use Rattle.outcomes.specs.Answers.{unless_confirmed, answer_of}
use Rattle.outcomes.specs.declared.internal.Outcome.{Outcome}
use Rattle.outcomes.specs.Outcomes.{is_held}
use Rattle.buffer.specs.Words.{stored_rate, book_in, tender_in, is_tender}
use Rattle.buffer.proofs.Words.{known}
use Rattle.buffer.proofs.Holding.{tender-held, holding-given}
use Rattle.in_place.specs.InPlace.{accepted_in, holding_of, LeavesIn}

module _ (ws : List ℕ) (given : is_tender ws ≡ true) (o : Outcome) where
  -- the tender that is left, by whether the message is held
  abbrev next : Bool → rules.Tender
  next held =
      record {
        terms = (tender_in ws).terms;
        state = (tender_in ws).state;
        book = cond held (replaced (viewed (book_in ws)) o.accepted.at o.accepted.time (bids_from o.accepted.rates o.accepted.amounts 0 10)) (viewed (book_in ws));
      }

  pub leaves_nothing : is_held o ≡ false → LeavesIn ws o ws
  leaves_nothing told =
      record {
        tender_is = sym (ap next told);
        numbers = sym (ap (λ (b : Bool). cond b (holding_of ws o.accepted) ws) told);
        given = given;
      }

  pub leaves_held : is_held o ≡ true → o.accepted.at < 64 → length o.accepted.rates ≡ 10 → length o.accepted.amounts ≡ 10 → map stored_rate (map hundred_thousandths o.accepted.rates) ≡ o.accepted.rates
      → LeavesIn ws o (holding_of ws o.accepted)
  leaves_held told below ten tens fits =
      let k = known ws given in
      let a = o.accepted in
      record {
        tender_is = tender-held ws k.long a.at a.time a.rates a.amounts below ten tens fits ∙ sym (ap next told);
        numbers = sym (ap (λ (b : Bool). cond b (holding_of ws o.accepted) ws) told);
        given = holding-given ws k.long a.at a.time a.rates a.amounts below ten tens k;
      }

-- a message is held where it has no errors
held-told : (o : Outcome) → 0 < length o.errors.codes → is_held o ≡ is_empty (listed o.errors)
held-told o full = empty_told o.errors.codes o.errors.n full

-- and then confirmed
confirmed-told : (es : List Error) (n : ℕ) (old new : List ℕ) → cond (is_empty es) new old ≡ unless_confirmed (answer_to es n) old new
unfolding is_empty answer_to
confirmed-told [] n old new = refl
confirmed-told (e ∷ es) n old new = refl

-- the words after a reception that is not refused
pub numbers-left : (ws m after : List ℕ) (o : Outcome) (n : ℕ) → 0 < length o.errors.codes → o.accepted ≡ accepted_in ws m → after ≡ cond (is_held o) (holding_of ws o.accepted) ws
    → after ≡ unless_confirmed (answer_of (Ok (record { errors = o.errors; length = n }))) ws (holding_of ws (accepted_in ws m))
numbers-left ws m after o n full accepts left =
    left
    ∙ ap₂ (λ (b : Bool) (a : Accepted). cond b (holding_of ws a) ws) (held-told o full) accepts
    ∙ confirmed-told (listed o.errors) n ws (holding_of ws (accepted_in ws m))
