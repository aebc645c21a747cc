-- What allotting comes to: refused whatever the bids, refused by condition 16, or awarded. Assumes nothing.
use Rattle.std.specs.Prelude.{Result, Err}
use Rattle.std.specs.Prelude as prelude
use mathlib.Core.Path.{◌≡◌, refl, sym, ap, ◌∙◌}
use mathlib.Core.Bool.{Bool, true, false, cond}
use mathlib.Core.List.{List, [], ◌∷◌, ◌++◌}
use mathlib.Core.Option.{Option, none, some}
use Prim.Native.Nat.{ℕ}
use lib.Dec.{ltb}
use Rattle.envelope.specs.Refusals.{first_holding, unless_refused}
use Rattle.places.specs.declared.Rate.{Rate}
use Rattle.rules.specs.Allotment.{Bid, total}
use Rattle.rules.specs.Opening.{offer_of}
use Rattle.rules.specs.Calls.{Tender, is_revoked, is_open, is_announced, bids_exceed, allotting_refused, preview_refused, bids_in_book, awards_given, marginal_given}
use Rattle.offer.specs.Viewed.{most_bids}
use Rattle.allotment.specs.Allotted.{allotted_to}
use Rattle.allotment.proofs.Given.{allotted-given}
use Rattle.refusals.specs.declared.Refusal.{Refusal}
use Rattle.refusals.specs.Conditions.{number_of, refusal_number, not_closed, ended}
use Rattle.outcomes.specs.Allotting.{awarded_to, or_exceeding, marginal_in, AllotsBids}

-- condition 16 after others
exceeding_last : (xs : List (ℕ × Bool)) (t : Tender) → or_exceeding (first_holding xs) t ≡ first_holding (xs ++ ((16, bids_exceed t) ∷ []))
unfolding first_holding
exceeding_last [] t = refl
exceeding_last (x ∷ xs) t = go x.1 (exceeding_last xs t)
  where
    go : (b : Bool) → or_exceeding (first_holding xs) t ≡ first_holding (xs ++ ((16, bids_exceed t) ∷ []))
        → or_exceeding (cond b (some x.0) (first_holding xs)) t ≡ cond b (some x.0) (first_holding (xs ++ ((16, bids_exceed t) ∷ [])))
    go true rest = refl
    go false rest = rest

pub allotting_refused_lem : (t : Tender) → or_exceeding (not_closed t.state) t ≡ allotting_refused t
unfolding allotting_refused
allotting_refused_lem t = exceeding_last ((8, is_revoked t.state) ∷ (14, is_open t.state) ∷ (15, is_announced t.state) ∷ []) t

pub preview_refused_lem : (t : Tender) → or_exceeding (ended t.state) t ≡ preview_refused t
unfolding preview_refused
preview_refused_lem t = exceeding_last ((8, is_revoked t.state) ∷ (15, is_announced t.state) ∷ []) t

module _ (t : Tender) (space : List ℕ) where
  -- refused whatever the bids
  pub allots_not : (f : Refusal) → AllotsBids (some (number_of f)) t space (Err f) space
  allots_not f = record { number = refl; awarded = refl }

  -- refused by condition 16, or not
  pub allots-bids : (r : Result (prelude.Option Rate) Refusal) (limits : List ℕ) (bs : List Bid) (exceeds : Bool) (after : List ℕ) → bs ≡ bids_in_book t.book → limits ≡ t.terms.admission.limits
      → refusal_number r ≡ first_holding ((16, exceeds) ∷ []) → ◌≡◌ {A = Bool × Option ℕ × List ℕ} (exceeds, marginal_in r, after) (allotted_to (offer_of t.terms) limits bs space) → AllotsBids none t space r after
  unfolding first_holding bids_exceed
  allots-bids r limits bs exceeds after all capped n a = go (ltb most_bids (total bs)) refl
    where
      given : (b : Bool) → ltb most_bids (total bs) ≡ b
          → ◌≡◌ {A = Bool × Option ℕ × List ℕ} (exceeds, marginal_in r, after) (cond b (true, none, space) (false, marginal_given t.terms bs, awards_given t.terms bs))
      given b q = a ∙ ap (λ (l : List ℕ). allotted_to (offer_of t.terms) l bs space) capped ∙ allotted-given t.terms bs space ∙ ap (λ (y : Bool). cond {A = Bool × Option ℕ × List ℕ} y (true, none, space) (false, marginal_given t.terms bs, awards_given t.terms bs)) q

      asked : (b : Bool) → ltb most_bids (total bs) ≡ b → or_exceeding none t ≡ cond b (some 16) none
      asked b q = ap (λ (y : Bool). cond {A = Option ℕ} y (some 16) none) (ap (λ (l : List Bid). ltb most_bids (total l)) (sym all) ∙ q)

      told : (b : Bool) → exceeds ≡ b → refusal_number r ≡ cond b (some 16) none
      told b p = n ∙ ap (λ (y : Bool). cond {A = Option ℕ} y (some 16) none) p

      go : (b : Bool) → ltb most_bids (total bs) ≡ b → AllotsBids none t space r after
      go true q =
          let g = given true q in
          let number = told true (ap (λ (y : Bool × Option ℕ × List ℕ). y.0) g) in
          record {
            number = number ∙ sym (asked true q);
            awarded = ap (λ (y : Bool × Option ℕ × List ℕ). (y.1, y.2)) g ∙ sym (ap (λ (l : Option ℕ). unless_refused l (none, space) (awarded_to t)) number);
          }
      go false q =
          let g = given false q in
          let number = told false (ap (λ (y : Bool × Option ℕ × List ℕ). y.0) g) in
          record {
            number = number ∙ sym (asked false q);
            awarded =
                ap (λ (y : Bool × Option ℕ × List ℕ). (y.1, y.2)) g
                ∙ ap (λ (l : List Bid). (marginal_given t.terms l, awards_given t.terms l)) all
                ∙ sym (ap (λ (l : Option ℕ). unless_refused l (none, space) (awarded_to t)) number);
          }
