-- Rates that fit their 32 bits are read from words as they were stored. Assumes nothing.
use mathlib.Core.Path.{◌≡◌, refl, ap, ◌∙◌}
use mathlib.Core.List.{List, [], ◌∷◌, map}
use Rattle.book.proofs.Order.{there_and_back}
use Rattle.places.specs.declared.Rate.{Rate}
use Rattle.book.specs.Viewed.{hundred_thousandths, rate_of}
use Rattle.buffer.specs.Words.{low32, stored_rate}

-- the same numbers are written where they are cut to their last 32 bits, so the rates are read back
pub rates_fit : (rs : List Rate) → map (λ (r : Rate). low32 (hundred_thousandths r)) rs ≡ map hundred_thousandths rs → map stored_rate (map hundred_thousandths rs) ≡ rs
rates_fit rs h = cut rs ∙ ap (map rate_of) h ∙ there_and_back rate_of hundred_thousandths (λ r. refl) rs
  where
    cut : (rs : List Rate) → map stored_rate (map hundred_thousandths rs) ≡ map rate_of (map (λ (r : Rate). low32 (hundred_thousandths r)) rs)
    cut [] = refl
    cut (r ∷ rs) = ap (λ (xs : List Rate). stored_rate (hundred_thousandths r) ∷ xs) (cut rs)
