-- What a message without errors of its own leaves: held where its code stands, or too late for what is held there. Assumes nothing.
use mathlib.Core.Path.{◌≡◌, refl, sym, ap, ap₂, ◌∙◌}
use mathlib.Core.Bool.{Bool, true, false, cond, not, ◌&&◌, false≢true}
use mathlib.Core.List.{List, [], ◌∷◌, ◌++◌, append-nil}
use Prim.Native.Nat.{ℕ, ◌<◌}
use lib.Dec.{eqb}
use lib.ListN.{length}
use Rattle.std.specs.Prelude.{Option, Some, None}
use Rattle.texts.specs.Texts.{ascii}
use Rattle.rules.specs.Allotment.{Bid}
use Rattle.rules.specs.Opening.{Terms, rising}
use Rattle.rules.specs.Receiving.{Reception, Error, Entry, errors, is_empty, is_after, submission, when}
use Rattle.errors.specs.declared.Errors.{Errors}
use Rattle.errors.specs.Listed.{listed}
use Rattle.book.specs.declared.Book.{Book}
use Rattle.book.specs.Viewed.{held_at, viewed, find_from, index_of, replaced, codes_in, sound_from}
use Rattle.book.proofs.Joining.{accepted-found, accepted_late, accepted_absent}
use Rattle.reception.specs.Submission.{submitted, Stands}
use Rattle.reception.proofs.Listing.{empty_told}
use Rattle.reception.proofs.Submission.{submitted-returned, submitted-accepted, submitted_late}

empty_is : {A : Type 0} (l : List A) → is_empty l ≡ true → l ≡ []
unfolding is_empty
empty_is [] h = refl
empty_is (x ∷ l) h = absurd (false≢true h)

module _ (t : Terms) (b : Book) (r : Reception) (code time : ℕ) (bids : List Bid)
    (q : submission t r ≡ sound_from code time bids) (sound : is_empty (errors t r) ≡ true) (e : Errors) (full : 0 < length e.codes) where
  abbrev left : ℕ → List Error → Bool → List Error × List Entry
  left at es empty = (es, cond empty (replaced (viewed b) at time bids) (viewed b))

  -- the errors tell whether the message is held
  told : (at : ℕ) (es : List Error) → listed e ≡ es → left at (listed e) (eqb e.n 0) ≡ left at es (is_empty es)
  told at es h = λ i. left at (h i) ((empty_told e.codes e.n full ∙ ap is_empty h) i)

  judged_found : rising (codes_in (viewed b)) ≡ true → (at : ℕ) → find_from (viewed b) code 0 ≡ Some at
      → (taken : Bool) → taken ≡ is_after time (held_at b at) → listed e ≡ when (not taken) (ascii "601", 302)
      → left at (listed e) (eqb e.n 0) ≡ submitted t (viewed b) r
  unfolding when is_empty
  judged_found rises at found true h l =
      told at [] l
      ∙ submitted-accepted t (viewed b) r (sound_from code time bids) q sound (replaced (viewed b) at time bids) (accepted-found b (sound_from code time bids) at rises refl found (replaced (viewed b) at time bids) (sym h) refl)
  judged_found rises at found false h l =
      told at ((ascii "601", 302) ∷ []) l
      ∙ submitted_late t (viewed b) r (sound_from code time bids) q sound (viewed b) (accepted_late b (sound_from code time bids) at rises refl found (sym h))

  judged_absent : (at : ℕ) → find_from (viewed b) code 0 ≡ None → listed e ≡ when true (ascii "601", 302) → left at (listed e) (eqb e.n 0) ≡ submitted t (viewed b) r
  unfolding when is_empty
  judged_absent at absent l =
      told at ((ascii "601", 302) ∷ []) l
      ∙ submitted_late t (viewed b) r (sound_from code time bids) q sound (viewed b) (accepted_absent b (sound_from code time bids) absent)

  -- without errors of its own
  judged_sound : (found : Option ℕ) (taken : Bool) → Stands b code time found taken → listed e ≡ when (not taken) (ascii "601", 302) → left (index_of found) (listed e) (eqb e.n 0) ≡ submitted t (viewed b) r
  judged_sound (Some at) taken s l = judged_found s.rises at (sym s.found_is) taken s.taken_is l
  judged_sound None taken s l = judged_absent 0 (sym s.found_is) (l ∙ ap (λ (x : Bool). when (not x) (ascii "601", 302)) s.taken_is)

-- with errors of its own or without
pub judged : (t : Terms) (b : Book) (r : Reception) (code time : ℕ) (bids : List Bid) (e : Errors) → 0 < length e.codes
    → (found : Option ℕ) (taken : Bool) → Stands b code time found taken
    → (own : Errors) → 0 < length own.codes → listed own ≡ errors t r → (is_empty (errors t r) ≡ true → submission t r ≡ sound_from code time bids)
    → listed e ≡ listed own ++ when (eqb own.n 0 && not taken) (ascii "601", 302)
    → ◌≡◌ {A = List Error × List Entry} (listed e, cond (eqb e.n 0) (replaced (viewed b) (index_of found) time bids) (viewed b)) (submitted t (viewed b) r)
unfolding when
judged t b r code time bids e full found taken s own whole is q l = go (is_empty (errors t r)) refl
  where
    last : eqb own.n 0 ≡ is_empty (errors t r)
    last = empty_told own.codes own.n whole ∙ ap is_empty is

    go : (x : Bool) → is_empty (errors t r) ≡ x
        → ◌≡◌ {A = List Error × List Entry} (listed e, cond (eqb e.n 0) (replaced (viewed b) (index_of found) time bids) (viewed b)) (submitted t (viewed b) r)
    go true h =
        judged_sound t b r code time bids (q h) h e full found taken s
        (l ∙ ap₂ (λ (es : List Error) (x : Bool). es ++ when (x && not taken) (ascii "601", 302)) (is ∙ empty_is (errors t r) h) (last ∙ h))
    go false h =
        let only : listed e ≡ errors t r = l ∙ ap₂ (λ (es : List Error) (x : Bool). es ++ when (x && not taken) (ascii "601", 302)) is (last ∙ h) ∙ append-nil (errors t r) in
        ap (λ (x : Bool). (listed e, cond x (replaced (viewed b) (index_of found) time bids) (viewed b))) (empty_told e.codes e.n full ∙ ap is_empty only ∙ h)
        ∙ submitted-returned t (viewed b) r (listed e) only (ap is_empty only ∙ h)
