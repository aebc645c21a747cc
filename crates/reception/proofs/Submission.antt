-- What a message received leaves, in the three cases of the code: with errors of its own, accepted, or too late for what is held. Assumes nothing.
use mathlib.Core.Path.{◌≡◌, refl, sym, ap, ap₂, ◌∙◌}
use mathlib.Core.Bool.{Bool, true, false, ◌&&◌, not, false≢true}
use mathlib.Core.List.{List, [], ◌∷◌, map}
use Prim.Native.Nat.{ℕ}
use Rattle.calendar.specs.Calendar.{valid_date, valid_time}
use Rattle.digits.specs.Decimal.{number_in}
use Rattle.addresses.specs.Addresses.{code_in}
use Rattle.layout.specs.Fields.{readable}
use Rattle.texts.specs.Texts.{ascii}
use Rattle.places.specs.Bids
use Rattle.envelope.specs.declared.application.Field.TheVariants.{Bids}
use Rattle.envelope.specs.declared.application.Fields.{Fields}
use Rattle.envelope.specs.Application.{layout6_g1, bytes_of, fields_of}
use Rattle.rules.specs.Opening.{Terms, any}
use Rattle.rules.specs.Receiving.{Reception, Error, Entry, Submission, errors, is_empty, is_sound, submission, bids_in, message_bids, takes, hold, when, returned_errors}
use Rattle.rules.specs.Calls.{book_after}
use Rattle.bids.specs.Columns.{bids_from}
use Rattle.bids.proofs.Columns.{bids-ten}
use Rattle.book.specs.Viewed.{sound_from, accepted}
use Rattle.reception.specs.Submission.{submitted}

bids_of_lem : (m : List ℕ) → bids_from (fields_of m).places.rates (fields_of m).places.amounts 0 10 ≡ message_bids m
unfolding fields_of Bids.places_of bids_in
bids_of_lem m = bids-ten (bytes_of Bids m)

-- what the code takes from the fields of a message
pub taken_from : (m : List ℕ) (f : Fields) (code time : ℕ) → f ≡ fields_of m → code ≡ code_in f.sender → time ≡ number_in f.time
    → sound_from (code_in (fields_of m).sender) (number_in (fields_of m).time) (message_bids m) ≡ sound_from code time (bids_from f.places.rates f.places.amounts 0 10)
taken_from m f code time e c h =
    ap (sound_from (code_in (fields_of m).sender) (number_in (fields_of m).time)) (sym (bids_of_lem m))
    ∙ ap (λ (g : Fields). sound_from (code_in g.sender) (number_in g.time) (bids_from g.places.rates g.places.amounts 0 10)) (sym e)
    ∙ ap₂ (λ (x y : ℕ). sound_from x y (bids_from f.places.rates f.places.amounts 0 10)) (sym c) (sym h)

module _ (t : Terms) (book : List Entry) (r : Reception) where
  book-kept : (es : List Error) → is_empty es ≡ false → book_after es t book r ≡ book
  unfolding book_after is_empty
  book-kept [] h = absurd (false≢true (sym h))
  book-kept (e ∷ es) h = refl

  pub submitted-returned : (es : List Error) → es ≡ errors t r → is_empty es ≡ false → ◌≡◌ {A = List Error × List Entry} (es, book) (submitted t book r)
  unfolding returned_errors
  submitted-returned es e h =
      let f : is_empty (errors t r) ≡ false = ap is_empty (sym e) ∙ h in
      let p : es ≡ returned_errors t book r = e ∙ sym (rw f refl) in
      λ i. (p i, (sym (book-kept es h) ∙ ap (λ (l : List Error). book_after l t book r) p) i)

  -- a sound message is what the code takes it for
  pub submission_is : readable layout6_g1 r.message ≡ true → (valid_date r.date && valid_time r.time) ≡ true → is_empty (errors t r) ≡ true
      → submission t r ≡ sound_from (code_in (fields_of r.message).sender) (number_in (fields_of r.message).time) (message_bids r.message)
  unfolding submission is_sound
  submission_is a b c = ap (λ (x : Bool). record { sound = x; code = code_in (fields_of r.message).sender; time = number_in (fields_of r.message).time; bids = message_bids r.message }) (rw (a, b, c) refl)

  module _ (s : Submission) (q : submission t r ≡ s) (f : is_empty (errors t r) ≡ true) where
    returned_is : returned_errors t book r ≡ when (not (any (takes s) book)) (ascii "601", 302)
    unfolding returned_errors
    returned_is = rw f (ap (λ (x : Submission). when (not (any (takes x) book)) (ascii "601", 302)) q)

    pub submitted-accepted : (next : List Entry) → ◌≡◌ {A = Bool × List Entry} (true, next) (accepted s book) → ◌≡◌ {A = List Error × List Entry} ([], next) (submitted t book r)
    unfolding when book_after
    submitted-accepted next h =
        let p : [] ≡ returned_errors t book r = sym (returned_is ∙ ap (λ (x : Bool × List Entry). when (not x.0) (ascii "601", 302)) (sym h)) in
        let n : next ≡ map (hold (submission t r)) book = ap (λ (x : Bool × List Entry). x.1) h ∙ ap (λ (x : Submission). map (hold x) book) (sym q) in
        λ i. (p i, (n ∙ ap (λ (l : List Error). book_after l t book r) p) i)

    pub submitted_late : (next : List Entry) → ◌≡◌ {A = Bool × List Entry} (false, next) (accepted s book) → ◌≡◌ {A = List Error × List Entry} ((ascii "601", 302) ∷ [], book) (submitted t book r)
    unfolding when book_after
    submitted_late next h =
        let p : (ascii "601", 302) ∷ [] ≡ returned_errors t book r = sym (returned_is ∙ ap (λ (x : Bool × List Entry). when (not x.0) (ascii "601", 302)) (sym h)) in
        λ i. (p i, ap (λ (l : List Error). book_after l t book r) p i)
