-- The minimum of an opened tender is above zero, and no bid of a message that is taken is below it. Assumes nothing.
use mathlib.Core.Path.{◌≡◌, refl, sym, ap, ◌∙◌}
use mathlib.Core.Bool.{Bool, true, false, cond, not, ◌&&◌, ◌||◌, false≢true}
use mathlib.Core.List.Memᴰ
use mathlib.Core.List.{List, [], ◌∷◌, Memᴰ}
use mathlib.Core.Option.{none}
use Prim.Native.Nat.{ℕ, zero, suc, ◌≤◌, ◌<◌}
use native.Mathlib.Omega.{arith}
use lib.Dec.{eqb, ltb}
use lib.ListN.{length, length-append}
use borrow.Author.Tests.{ltb-false}
use Rattle.laws.proofs.Tests.{and_left, and_right, or_left, or_right}
use Rattle.announcement.specs.declared.Characteristics.{Characteristics}
use Rattle.calendar.specs.Calendar.{valid_date, valid_time}
use Rattle.layout.specs.Fields.{readable}
use Rattle.places.specs.declared.Place.{Place}
use Rattle.places.specs.Bids.{places_in}
use Rattle.texts.specs.Texts.{ascii}
use Rattle.envelope.specs.declared.application.Field.TheVariants.{Bids}
use Rattle.envelope.specs.Application.{layout6_g1, bytes_of}
use Rattle.rules.specs.Allotment.{Bid, filled}
use Rattle.rules.specs.Opening.{Admission, Terms, any, not_announcement, other_origin, malformed_announcement, unknown_type, impossible, impossible_numbers, opening_refused, characteristics_told, terms_of}
use Rattle.rules.specs.Receiving.{Reception, Error, Submission, Entry, bids_in, when, small_bid, bid_errors, place_errors, errors, is_empty, is_sound, submission, is_from, is_after, takes}
use Rattle.rules.proofs.Opening.{next_condition}
use Rattle.rules.proofs.Book.{is_sound_lem}

-- '5. .. minimum .. is zero' does not hold of an accepted opening
above_zero : (n : ℕ) → eqb n 0 ≡ false → 0 < n
above_zero zero h = absurd (false≢true (sym h))
above_zero (suc n) h = omega arith

possible_minimum : (c : Characteristics) → impossible c ≡ false → 0 < c.minimum.0
unfolding impossible
possible_minimum c h =
    let before = eqb c.most 0 || ltb 10 c.most || eqb c.offered.0 0 in
    let zero_minimum = eqb c.minimum.0 0 in
    let zero_increment = eqb c.increment.0 0 in
    let Told-Below = not (eqb c.maximum.0 0) && ltb c.maximum.0 c.minimum.0 in
    above_zero c.minimum.0
    (or_right before zero_minimum (or_left (before || zero_minimum) zero_increment (or_left (before || zero_minimum || zero_increment) Told-Below h)))

pub minimum_above_zero : (m : List ℕ) (a : Admission) → opening_refused m a ≡ none → 0 < (terms_of m a).minimum
unfolding opening_refused terms_of impossible_numbers
minimum_above_zero m a h =
    let c1 = next_condition 1 (not_announcement m) _ h in
    let c2 = next_condition 2 (other_origin m) _ c1.1 in
    let c3 = next_condition 3 (malformed_announcement m) _ c2.1 in
    let c4 = next_condition 4 (unknown_type m) _ c3.1 in
    let c5 = next_condition 5 (impossible_numbers m) _ c4.1 in
    possible_minimum (characteristics_told m) c5.0

-- lists of errors that are empty
none_listed : (es : List Error) → is_empty es ≡ true → length es ≡ 0
unfolding is_empty
none_listed [] h = refl
none_listed (e ∷ es) h = absurd (false≢true h)

not_listed : (b : Bool) (e : Error) → length (when b e) ≤ 0 → b ≡ false
unfolding when
not_listed true e h = absurd (omega arith)
not_listed false e h = refl

-- '905 a filled place's amount below the minimum' is no error of a message without errors
abbrev small : Terms → List Bid → List Error
small t bs = when (any (small_bid t.minimum) bs) (ascii "6G6", 905)

small_among : (t : Terms) (bs : List Bid) → length (small t bs) ≤ length (bid_errors t bs)
unfolding bid_errors
small_among t bs = simp length-append (omega arith)

bids_among : (t : Terms) (s : List ℕ) → length (place_errors t s) ≡ 0 → length (bid_errors t (bids_in s)) ≡ 0
unfolding place_errors
bids_among t s = go (any (λ (p : Place). not p.formed) (places_in 10 s))
  where
    go : (x : Bool) → length (cond x ((ascii "6G6", 901) ∷ []) (bid_errors t (bids_in s))) ≡ 0 → length (bid_errors t (bids_in s)) ≡ 0
    go true h = absurd (omega arith)
    go false h = h

places_among : (t : Terms) (r : Reception) → length (place_errors t (bytes_of Bids r.message)) ≤ length (errors t r)
unfolding errors
places_among t r = simp length-append (omega arith)

no_small_bid : (t : Terms) (r : Reception) → is_empty (errors t r) ≡ true → any (small_bid t.minimum) (bids_in (bytes_of Bids r.message)) ≡ false
no_small_bid t r h = not_listed (any (small_bid t.minimum) bs) (ascii "6G6", 905) (omega (arith, small_among t bs, well))
  where
    bs : List Bid
    bs = bids_in (bytes_of Bids r.message)

    well : length (bid_errors t bs) ≡ 0
    well = bids_among t (bytes_of Bids r.message) (omega (arith, places_among t r, none_listed (errors t r) h))

-- so each of its filled places has at least the minimum
not_any : (p : Bid → Bool) (bs : List Bid) → any p bs ≡ false → (b : Bid) → Memᴰ b bs → p b ≡ false
unfolding any
not_any p [] h b k = absurd (Memᴰ.not-nil k)
not_any p (x ∷ bs) h b (Memᴰ.head e) = ap p e ∙ or_left (p x) (any p bs) h
not_any p (x ∷ bs) h b (Memᴰ.tail k) = not_any p bs (or_right (p x) (any p bs) h) b k

not_small : (minimum : ℕ) (b : Bid) → small_bid minimum b ≡ false → filled b ≡ true → minimum ≤ b.amount
unfolding small_bid
not_small minimum b h f = ltb-false b.amount minimum (sym (ap (λ (x : Bool). x && ltb b.amount minimum) f) ∙ h)

sound-errors : (t : Terms) (r : Reception) → (submission t r).sound ≡ true → is_empty (errors t r) ≡ true
unfolding submission is_sound
sound-errors t r h = and_right (readable layout6_g1 r.message && (valid_date r.date && valid_time r.time)) (is_empty (errors t r)) h

taken-sound : (s : Submission) (e : Entry) → takes s e ≡ true → s.sound ≡ true
unfolding takes
taken-sound s e h = is_sound_lem e.code s (and_left (is_from e.code s) (is_after s.time e.held) h)

pub taken_at_least_minimum : (t : Terms) (r : Reception) (e : Entry) → takes (submission t r) e ≡ true
    → (b : Bid) → Memᴰ b (submission t r).bids → filled b ≡ true → t.minimum ≤ b.amount
unfolding submission
taken_at_least_minimum t r e h b k =
    not_small t.minimum b
    (not_any (small_bid t.minimum) (bids_in (bytes_of Bids r.message)) (no_small_bid t r (sound-errors t r (taken-sound (submission t r) e h))) b k)
