-- What the code finds, takes and holds is what the rules say of the entries, where codes rise. Assumes nothing.
use mathlib.Core.Path.{◌≡◌, refl, sym, ap, ap₂, ◌∙◌}
use mathlib.Core.Bool.{Bool, true, false, cond, ◌&&◌, ◌||◌, false≢true}
use mathlib.Core.List.{List, [], ◌∷◌, map}
use Prim.Native.Nat.{ℕ, zero, suc, ◌+◌, ◌≤◌, ◌<◌}
use native.Mathlib.Omega.{arith}
use native.Mathlib.Nat.{zero-add, add-zero}
use lib.Dec.{eqb, ltb}
use lib.ListN.{length}
use borrow.Author.Tests.{ltb-true, eqb-true, eqb-false, eq-eqb, ne_eqb}
use Rattle.std.specs.Prelude.{Option, Some, None}
use Rattle.laws.proofs.Tests.{and_left, and_right, or_left, or_right}
use Rattle.rules.specs.Opening.{any, rising}
use Rattle.rules.specs.Allotment.{Bid}
use Rattle.rules.specs.Receiving.{Submission, Entry, new_entry, new_book, is_after, is_from, takes, hold}
use Rattle.book.specs.declared.Book.{Book}
use Rattle.book.specs.Viewed.{held_at, entry_at, entries_from, up_to64, viewed, find_from, is_at, index_of, replaced, codes_in, held_in, accepted}
use Rattle.book.proofs.Empty.{up_to64_small}

-- what a search can answer
at_same : (i k : ℕ) → Some i ≡ Some k → i ≡ k
at_same i k e = ap index_of e

at_absent : (i : ℕ) → None ≡ Some i → ⊥
at_absent i e = false≢true (ap is_at e)

-- the index found is one of the entries
found_within : (es : List Entry) (c i k : ℕ) → find_from es c i ≡ Some k → (i ≤ k) × (k < i + length es)
unfolding find_from
found_within [] c i k e = absurd (at_absent k e)
found_within (e ∷ es) c i k f = go (eqb e.code c) f (found_within es c (suc i) k)
  where
    go : (t : Bool) → cond t (Some i) (find_from es c (suc i)) ≡ Some k → (find_from es c (suc i) ≡ Some k → (suc i ≤ k) × (k < suc i + length es)) → (i ≤ k) × (k < i + length (e ∷ es))
    go true g rest = let h = at_same i k g in (omega arith, omega arith)
    go false g rest = let h = rest g in (omega (arith, h.0), omega (arith, h.1))

-- where no entry takes a message, nothing changes
none_taken : (s : Submission) (es : List Entry) → any (takes s) es ≡ false → map (hold s) es ≡ es
unfolding any hold
none_taken s [] h = refl
none_taken s (e ∷ es) h =
    ap₂ (λ (x : Entry) (xs : List Entry). x ∷ xs) (rw (or_left (takes s e) (any (takes s) es) h)) (none_taken s es (or_right (takes s e) (any (takes s) es) h))

and-false : (i : Bool) → (i && false) ≡ false
and-false true = refl
and-false false = refl

other_takes : (s : Submission) (e : Entry) → eqb s.code e.code ≡ false → takes s e ≡ false
unfolding takes is_from
other_takes s e h = ap (λ (t : Bool). s.sound && t && is_after s.time e.held) h ∙ ap (λ (t : Bool). t && is_after s.time e.held) (and-false s.sound)

-- entries with larger codes do not take it
above_takes : (s : Submission) (c : ℕ) (es : List Entry) → rising (c ∷ codes_in es) ≡ true → s.code ≤ c → any (takes s) es ≡ false
unfolding any codes_in rising
above_takes s c [] r h = refl
above_takes s c (e ∷ es) r h =
    ap₂ (λ (x y : Bool). x || y) (other_takes s e (ne_eqb s.code e.code (λ q. omega (arith, less, q)))) (above_takes s e.code es (and_right (ltb c e.code) (rising (e.code ∷ codes_in es)) r) (omega (arith, less)))
  where
    less : c < e.code
    less = ltb-true c e.code (and_left (ltb c e.code) (rising (e.code ∷ codes_in es)) r)

-- where a code is absent, no entry takes its message
absent_takes : (s : Submission) (es : List Entry) (i : ℕ) → find_from es s.code i ≡ None → any (takes s) es ≡ false
unfolding any find_from
absent_takes s [] i f = refl
absent_takes s (e ∷ es) i f = go (eqb e.code s.code) refl f (absent_takes s es (suc i))
  where
    go : (t : Bool) → eqb e.code s.code ≡ t → cond t (Some i) (find_from es s.code (suc i)) ≡ None → (find_from es s.code (suc i) ≡ None → any (takes s) es ≡ false) → (takes s e || any (takes s) es) ≡ false
    go true q g rest = absurd (at_absent i (sym g))
    go false q g rest = ap₂ (λ (x y : Bool). x || y) (other_takes s e (ne_eqb s.code e.code (λ h. eqb-false e.code s.code q (sym h)))) (rest g)

rising_rest : (e : Entry) (es : List Entry) → rising (codes_in (e ∷ es)) ≡ true → rising (codes_in es) ≡ true
unfolding codes_in rising
rising_rest e [] r = refl
rising_rest e (d ∷ es) r = and_right (ltb e.code d.code) (rising (d.code ∷ codes_in es)) r

module _ (s : Submission) (sound : s.sound ≡ true) where
  own_takes : (e : Entry) → e.code ≡ s.code → takes s e ≡ is_after s.time e.held
  unfolding takes is_from
  own_takes e h = rw (sound, eq-eqb s.code e.code (sym h))

  -- some entry takes the message exactly if the one found does
  takes_at : (es : List Entry) (i k m : ℕ) → rising (codes_in es) ≡ true → find_from es s.code i ≡ Some k → k ≡ i + m → any (takes s) es ≡ is_after s.time (held_in es m)
  unfolding any find_from codes_in held_in
  takes_at [] i k m r f h = absurd (at_absent k f)
  takes_at (e ∷ es) i k m r f h = go (eqb e.code s.code) refl f m h (λ x g p. takes_at es (suc i) k x (rising_rest e es r) g p)
    where
      or-false : (t : Bool) → (t || false) ≡ t
      or-false true = refl
      or-false false = refl

      go : (t : Bool) → eqb e.code s.code ≡ t → cond t (Some i) (find_from es s.code (suc i)) ≡ Some k → (m : ℕ) → k ≡ i + m
          → ((x : ℕ) → find_from es s.code (suc i) ≡ Some k → k ≡ suc i + x → any (takes s) es ≡ is_after s.time (held_in es x))
          → (takes s e || any (takes s) es) ≡ is_after s.time (held_in (e ∷ es) m)
      go true q g zero h rest =
          let same = eqb-true e.code s.code q in
          ap₂ (λ (x y : Bool). x || y) (own_takes e same) (above_takes s e.code es r (omega (arith, same))) ∙ or-false (is_after s.time e.held)
      go true q g (suc m) h rest = let same = at_same i k g in absurd (let z : ◌≡◌ {A = ℕ} 0 1 = omega arith in omega arith)
      go false q g zero h rest = let w = (found_within es s.code (suc i) k g).0 in absurd (let z : ◌≡◌ {A = ℕ} 0 1 = omega arith in omega arith)
      go false q g (suc m) h rest =
          ap₂ (λ (x y : Bool). x || y) (other_takes s e (ne_eqb s.code e.code (λ p. eqb-false e.code s.code q (sym p)))) (rest m g (omega arith))

  -- where the entry found takes the message, it alone is replaced
  holds_at : (es : List Entry) (i k m : ℕ) → rising (codes_in es) ≡ true → find_from es s.code i ≡ Some k → k ≡ i + m → is_after s.time (held_in es m) ≡ true
      → replaced es m s.time s.bids ≡ map (hold s) es
  unfolding find_from codes_in held_in replaced hold
  holds_at [] i k m r f h a = absurd (at_absent k f)
  holds_at (e ∷ es) i k m r f h a = go (eqb e.code s.code) refl f m h a (λ x g p y. holds_at es (suc i) k x (rising_rest e es r) g p y)
    where
      go : (t : Bool) → eqb e.code s.code ≡ t → cond t (Some i) (find_from es s.code (suc i)) ≡ Some k → (m : ℕ) → k ≡ i + m → is_after s.time (held_in (e ∷ es) m) ≡ true
          → ((x : ℕ) → find_from es s.code (suc i) ≡ Some k → k ≡ suc i + x → is_after s.time (held_in es x) ≡ true → replaced es x s.time s.bids ≡ map (hold s) es)
          → replaced (e ∷ es) m s.time s.bids ≡ map (hold s) (e ∷ es)
      go true q g zero h a rest =
          let same = eqb-true e.code s.code q in
          ap₂ (λ (x : Entry) (xs : List Entry). x ∷ xs) (rw (own_takes e same ∙ a)) (sym (none_taken s es (above_takes s e.code es r (omega (arith, same)))))
      go true q g (suc m) h a rest = let same = at_same i k g in absurd (let z : ◌≡◌ {A = ℕ} 0 1 = omega arith in omega arith)
      go false q g zero h a rest = let w = (found_within es s.code (suc i) k g).0 in absurd (let z : ◌≡◌ {A = ℕ} 0 1 = omega arith in omega arith)
      go false q g (suc m) h a rest =
          ap₂ (λ (x : Entry) (xs : List Entry). x ∷ xs) (rw (other_takes s e (ne_eqb s.code e.code (λ p. eqb-false e.code s.code q (sym p))))) (rest m g (omega arith) a)

length-entries : (b : Book) (i d : ℕ) → length (entries_from b i d) ≡ d
unfolding entries_from
length-entries b i zero = refl
length-entries b i (suc d) = ap suc (length-entries b (suc i) d)

held-entries : (b : Book) (i d k : ℕ) → k < d → held_in (entries_from b i d) k ≡ held_at b (i + k)
unfolding entries_from held_in entry_at
held-entries b i zero k h = absurd (let z : ◌≡◌ {A = ℕ} 0 1 = omega arith in omega arith)
held-entries b i (suc d) zero h = rw add-zero
held-entries b i (suc d) (suc k) h = held-entries b (suc i) d k (omega arith) ∙ ap (held_at b) next
  where
    next : suc i + k ≡ i + suc k
    next = omega arith

-- an index found is in the arrays, whatever they hold
pub found_below : (b : Book) (c i : ℕ) → find_from (viewed b) c 0 ≡ Some i → (i < up_to64 b.n) × (i < 64)
unfolding viewed
found_below b c i f =
    let w = (found_within (entries_from b 0 (up_to64 b.n)) c 0 i f).1 in
    let l = length-entries b 0 (up_to64 b.n) in
    let s = (up_to64_small b.n).0 in
    (omega arith, omega arith)

pub index_below : (b : Book) (c : ℕ) (found : Option ℕ) → found ≡ find_from (viewed b) c 0 → index_of found < 64
index_below b c (Some i) e = (found_below b c i (sym e)).1
index_below b c None e = omega arith

module _ (b : Book) (s : Submission) (i : ℕ) (r : rising (codes_in (viewed b)) ≡ true) (sound : s.sound ≡ true) (f : find_from (viewed b) s.code 0 ≡ Some i) where
  held-viewed : held_in (viewed b) i ≡ held_at b i
  unfolding viewed
  held-viewed = held-entries b 0 (up_to64 b.n) i (found_below b s.code i f).0 ∙ ap (held_at b) (zero-add i)

  -- some entry takes the message exactly if its time is after what is held at the index found
  pub takes-found : any (takes s) (viewed b) ≡ is_after s.time (held_at b i)
  takes-found = takes_at s sound (viewed b) 0 i i r f (sym (zero-add i)) ∙ ap (is_after s.time) held-viewed

  -- if it is, the entry there is replaced
  pub hold-found : is_after s.time (held_at b i) ≡ true → replaced (viewed b) i s.time s.bids ≡ map (hold s) (viewed b)
  hold-found a = holds_at s sound (viewed b) 0 i i r f (sym (zero-add i)) (ap (is_after s.time) held-viewed ∙ a)

  -- if it is not, nothing changes
  pub late_found : is_after s.time (held_at b i) ≡ false → map (hold s) (viewed b) ≡ viewed b
  late_found a = none_taken s (viewed b) (takes-found ∙ a)

  -- what the code answers then
  pub accepted-found : (es : List Entry) → is_after s.time (held_at b i) ≡ true → es ≡ replaced (viewed b) i s.time s.bids → (true, es) ≡ accepted s (viewed b)
  accepted-found es a e = ap₂ (λ (x : Bool) (l : List Entry). (x, l)) (sym (takes-found ∙ a)) (e ∙ hold-found a)

  pub accepted_late : is_after s.time (held_at b i) ≡ false → (false, viewed b) ≡ accepted s (viewed b)
  accepted_late a = ap₂ (λ (x : Bool) (l : List Entry). (x, l)) (sym (takes-found ∙ a)) (sym (late_found a))

-- no entry takes the message of a code that is not found, and nothing changes
pub takes_absent : (b : Book) (s : Submission) → find_from (viewed b) s.code 0 ≡ None → any (takes s) (viewed b) ≡ false
takes_absent b s f = absent_takes s (viewed b) 0 f

pub hold_absent : (b : Book) (s : Submission) → find_from (viewed b) s.code 0 ≡ None → map (hold s) (viewed b) ≡ viewed b
hold_absent b s f = none_taken s (viewed b) (takes_absent b s f)

pub accepted_absent : (b : Book) (s : Submission) → find_from (viewed b) s.code 0 ≡ None → (false, viewed b) ≡ accepted s (viewed b)
accepted_absent b s f = ap₂ (λ (x : Bool) (l : List Entry). (x, l)) (sym (takes_absent b s f)) (sym (hold_absent b s f))

-- the codes of a new book, and that they stay
pub new_codes : (codes : List ℕ) → codes_in (new_book codes) ≡ codes
unfolding codes_in new_book new_entry
new_codes [] = refl
new_codes (c ∷ codes) = ap {B = List ℕ} (λ l. c ∷ l) (new_codes codes)

pub replaced-codes : (es : List Entry) (i t : ℕ) (bids : List Bid) → codes_in (replaced es i t bids) ≡ codes_in es
unfolding codes_in replaced
replaced-codes [] i t bids = refl
replaced-codes (e ∷ es) zero t bids = refl
replaced-codes (e ∷ es) (suc i) t bids = ap {B = List ℕ} (λ l. e.code ∷ l) (replaced-codes es i t bids)
