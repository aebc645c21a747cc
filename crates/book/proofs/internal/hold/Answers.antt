-- `book::internal::hold` meets its contract. Assumes nothing.
use borrow.Author.Rules.{rules}
use mathlib.Core.Path.{◌≡◌, refl}
use lib.ListN.{length}
use Rattle.laws.proofs.Arrays.{length_mapped}
use Rattle.book.proofs.Storing.{Sized, viewed_lent}
use Rattle.book.proofs.internal.hold.Goals as goal

pub returns : goal.returns
returns c =
    let a = c.args in
    let b = a.b in
    let rates_length : length b.rates ≡ 640 = search (rules, length_mapped) in
    let amounts_length : length b.amounts ≡ 640 = search (rules, length_mapped) in
    let held-length : length b.held ≡ 64 = search rules in
    let has_length : length b.has ≡ 64 = search (rules, length_mapped) in
    let sized : Sized b = record { codes-length = search rules; held-length = held-length; has_length = has_length; rates_length = rates_length; amounts_length = amounts_length } in
    let new_rates_length : length a.rates ≡ 10 = search rules in
    let new_amounts_length : length a.amounts ≡ 10 = search rules in
    (viewed_lent b sized a.at a.time a.rates a.amounts c.requires new_rates_length new_amounts_length _ _ c.copy_from_slice.ensures.after c.copy_from_slice-2.ensures.after, refl)
