-- Laws of a written 6G1. Assumes nothing.
use mathlib.Core.Path.{◌≡◌, refl, sym, ap, ◌∙◌}
use mathlib.Core.Bool.{true, ◌&&◌}
use mathlib.Core.List.{List, ◌++◌, append_assoc, append-nil}
use Prim.Native.Nat.{ℕ, ◌+◌, ◌-◌, ◌<◌, ◌≤◌}
use native.Mathlib.Omega.{arith}
use lib.Dec.{eqb}
use lib.ListN.{length, take, drop, get_or, length-append}
use borrow.Author.Tests.{eqb-true, ltb-true}
use Rattle.laws.proofs.Tests.{and_left, and_right}
use Rattle.output.specs.Output.{overlay, Wrote}
use Rattle.output.proofs.Output.{covered}
use Rattle.digits.specs.Decimal.{all_digits, digits}
use Rattle.digits.proofs.Writing.{length_digits, digits_last}
use Rattle.layout.specs.Fields.{head, field, encoded}
use Rattle.layout.proofs.ReturnTrip.{sizes, length-encoded}
use Rattle.addresses.specs.declared.Address.{Address}
use Rattle.addresses.specs.Addresses.{address_text, address_length, address_fits}
use Rattle.addresses.proofs.ReturnTrip.{length_address}
use Rattle.places.specs.declared.Rate.{Rate}
use Rattle.places.specs.declared.Amount.{Amount}
use Rattle.places.specs.Bids.{slash, fits, places_fit, places_text}
use Rattle.places.proofs.Writing.{length-places}
use Rattle.envelope.specs.declared.application.Application.{Application}
use Rattle.envelope.specs.Application.{layout6_g1, is_identifier, numbers_fit, texts_fit, texts, written}
use Rattle.envelope.specs.Writing.{first_fields, last_fields}

-- a head and digits are a field
pub number-field : (tag w n : ℕ) → head tag w ++ digits w n ≡ field tag (digits w n)
unfolding field
number-field tag w n = rw length_digits

-- eight digits that end with five to eight, and three bytes over those that are too many
pub short_digits : (d : List ℕ) (at w n from : ℕ) (s : List ℕ) {d₁ d₂ : List ℕ} {e₁ e₂ : ℕ} → length s ≡ 3 → 5 ≤ w → w ≤ 8 → at + 3 + w ≤ length d → from + 5 ≡ at + w → Wrote d from (digits 8 n) d₁ e₁ → Wrote d₁ at s d₂ e₂ → Wrote d at (s ++ digits w n) d₂ e₁
short_digits d at w n from s z h l m f eight first =
    let t = digits 8 n in
    let k : from ≡ at + (w - 5) = omega arith in
    let j : length s - (w - 5) ≡ 8 - w = omega arith in
    let i : 8 - w + w ≡ 8 = omega arith in
    let o : length t ≡ 8 = length_digits 8 n in
    let last : drop (8 - w) t ≡ digits w n = ap (λ (x : ℕ). drop (8 - w) (digits x n)) (sym i) ∙ digits_last (8 - w) w n in
    let text : s ++ drop (length s - (w - 5)) t ≡ s ++ digits w n = ap (λ (x : ℕ). s ++ drop x t) j ∙ ap (λ (x : List ℕ). s ++ x) last in
    let q : length (s ++ digits w n) ≡ 3 + w = length-append s (digits w n) ∙ omega (arith, length_digits w n) in
    record {
      bytes = first.bytes ∙ ap (λ (x : List ℕ). overlay x at s) (eight.bytes ∙ ap (λ (x : ℕ). overlay d x t) k) ∙ covered d at (w - 5) s t (omega arith) (omega arith) (omega arith) ∙ ap (overlay d at) text;
      past = eight.past ∙ omega arith;
    }

-- a head and an address are a field
pub address_field : (tag : ℕ) (a : Address) → head tag (address_length a) ++ address_text a ≡ field tag (address_text a)
unfolding field
address_field tag a = rw (length_address a)

-- a head and ten places are a field
pub bids-field : (tag : ℕ) (rates : List Rate) (amounts : List Amount) → length rates ≡ 10 → length amounts ≡ 10 → head tag 240 ++ places_text rates amounts ≡ field tag (places_text rates amounts)
unfolding field
bids-field tag rates amounts h k = rw (length-places 10 rates amounts h k)

-- the two parts are the whole
pub both_parts : (a : Application) (kind identifier name : List ℕ) → first_fields a kind ++ last_fields a identifier name ≡ written a kind identifier name
unfolding first_fields last_fields written encoded layout6_g1
both_parts a kind identifier name = simp (append_assoc, append-nil)

-- how long a written 6G1 is
module _ (a : Application) (kind identifier name : List ℕ) (lk : length kind ≡ 3) (li : length identifier ≡ 11) (ln : length name ≡ 15) (lr : length a.rates ≡ 10) (la : length a.amounts ≡ 10) where
  pub length-written : length (written a kind identifier name) ≡ 329 + address_length a.sender + address_length a.recipient
  unfolding written layout6_g1 sizes
  length-written =
      length-encoded layout6_g1 (texts a kind identifier name) refl
      ∙ simp (length_digits, length_address, length-places 10 a.rates a.amounts lr la, lk, li, ln) (omega arith)

-- the lengths of texts that fit
module _ (kind identifier name : List ℕ) (h : texts_fit kind identifier name ≡ true) where
  pub length_kind : length kind ≡ 3
  unfolding texts_fit
  length_kind = eqb-true (length kind) 3 (and_left (eqb (length kind) 3) (is_identifier identifier) (and_left (eqb (length kind) 3 && is_identifier identifier) (eqb (length name) 15) h))

  pub identifier-fits : is_identifier identifier ≡ true
  unfolding texts_fit
  identifier-fits = and_right (eqb (length kind) 3) (is_identifier identifier) (and_left (eqb (length kind) 3 && is_identifier identifier) (eqb (length name) 15) h)

  pub length-identifier : length identifier ≡ 11
  unfolding is_identifier
  length-identifier = eqb-true (length identifier) 11 (and_left (eqb (length identifier) 11) (eqb (get_or identifier 0 0) 84 && eqb (get_or identifier 1 0) slash && all_digits (take 4 (drop 2 identifier)) && eqb (get_or identifier 6 0) slash && all_digits (take 4 (drop 7 identifier))) identifier-fits)

  pub length_name : length name ≡ 15
  unfolding texts_fit
  length_name = eqb-true (length name) 15 (and_right (eqb (length kind) 3 && is_identifier identifier) (eqb (length name) 15) h)

-- what each number of an application that fits is below
pub record Fit (a : Application) : Type 0 where
  pub sender : address_fits a.sender ≡ true
  pub recipient : address_fits a.recipient ≡ true
  pub date : a.date < 100000000
  pub time : a.time < 1000000
  pub check : a.check < 100000
  pub places : places_fit a.rates a.amounts ≡ true

pub all_fit : (a : Application) → numbers_fit a ≡ true → Fit a
unfolding numbers_fit
all_fit a h =
    let s = address_fits a.sender in
    let r = address_fits a.recipient in
    let five = and_left (s && r && fits 11 a.cro && fits 8 a.date && fits 6 a.time && fits 5 a.check) (places_fit a.rates a.amounts) h in
    let four = and_left (s && r && fits 11 a.cro && fits 8 a.date && fits 6 a.time) (fits 5 a.check) five in
    let three = and_left (s && r && fits 11 a.cro && fits 8 a.date) (fits 6 a.time) four in
    let two = and_left (s && r && fits 11 a.cro) (fits 8 a.date) three in
    let both = and_left (s && r) (fits 11 a.cro) two in
    record {
      sender = and_left s r both;
      recipient = and_right s r both;
      date = ltb-true a.date 100000000 (and_right (s && r && fits 11 a.cro) (fits 8 a.date) three);
      time = ltb-true a.time 1000000 (and_right (s && r && fits 11 a.cro && fits 8 a.date) (fits 6 a.time) four);
      check = ltb-true a.check 100000 (and_right (s && r && fits 11 a.cro && fits 8 a.date && fits 6 a.time) (fits 5 a.check) five);
      places = and_right (s && r && fits 11 a.cro && fits 8 a.date && fits 6 a.time && fits 5 a.check) (places_fit a.rates a.amounts) h;
    }
