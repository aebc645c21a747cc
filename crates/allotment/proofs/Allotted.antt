-- The allotment where condition 16 refuses and where it does not, with limits that cut and with none. Assumes nothing.
use mathlib.Core.Path.{◌≡◌, refl, sym, ap₂, ◌∙◌, subst}
use mathlib.Core.Bool.{Bool, true, false}
use mathlib.Core.List.{List}
use mathlib.Core.Option.{Option, none}
use Rattle.std.specs.Prelude as prelude
use Prim.Native.Nat.{ℕ}
use lib.Dec.{ltb}
use Rattle.rules.specs.Allotment.{Bid, Offer, total}
use Rattle.rules.specs.Cuts.{is_capped, cut_book}
use Rattle.rules.specs.Opening.{any}
use Rattle.credit_limits.proofs.Capped.{none_capped_stay}
use Rattle.places.specs.declared.Rate.{Rate}
use Rattle.marginal.specs.Ranks.{rate_in}
use Rattle.offer.specs.Viewed.{most_bids}
use Rattle.allotment.specs.Allotted.{Taken, allotted_to}

module _ (o : Offer) (limits : List ℕ) (bs : List Bid) (before : List ℕ) where
  pub refused : ltb most_bids (total bs) ≡ true → ◌≡◌ {A = Bool × Option ℕ × List ℕ} (true, none, before) (allotted_to o limits bs before)
  unfolding allotted_to
  refused h = sym (rw h refl)

  module _ (r : prelude.Option Rate) (after : List ℕ) (within : ltb most_bids (total bs) ≡ false) where
    pub cut : Taken o (cut_book o limits bs) r after → ◌≡◌ {A = Bool × Option ℕ × List ℕ} (false, rate_in r, after) (allotted_to o limits bs before)
    unfolding allotted_to
    cut t =
        ap₂ (λ (n : Option ℕ) (l : List ℕ). (false, n, l)) t.marginal_is t.awards_are
        ∙ sym (rw within refl)

    pub uncut : any (is_capped o) limits ≡ false → Taken o bs r after → ◌≡◌ {A = Bool × Option ℕ × List ℕ} (false, rate_in r, after) (allotted_to o limits bs before)
    uncut none-capped t = cut (subst (λ (l : List Bid). Taken o l r after) (sym (none_capped_stay o limits bs none-capped)) t)
