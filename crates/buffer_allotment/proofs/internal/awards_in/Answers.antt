-- `buffer_allotment::internal::awards_in` meets its contract. Assumes nothing.
use mathlib.Core.Path.{◌≡◌, sym, ap, subst, ◌∙◌}
use mathlib.Core.List.{List, ◌++◌}
use Prim.Native.Nat.{ℕ, ◌*◌, ◌-◌, ◌≤◌}
use native.Mathlib.Omega.{arith}
use lib.ListN.{length, take, drop, get_or, replicate, length-replicate}
use lib.Seq.{length-take-le}
use Rattle.book.proofs.Empty.{up_to64_small}
use Rattle.terms.specs.declared.Terms.{Terms}
use Rattle.refusals.specs.Conditions.{refusal_number}
use Rattle.outcomes.specs.Outcomes.{viewed_of}
use Rattle.outcomes.specs.Allotting.{AllotsBids}
use Rattle.outcomes.proofs.Awarding.{lent_length, allots-places}
use Rattle.buffer.specs.Words.{tender_words, part, state_in, book_in, tender_in}
use Rattle.buffer.proofs.Parts.{part_length}
use Rattle.buffer.proofs.Words.{known}
use Rattle.buffer_allotment.specs.Allotted.{AllotsWords}
use Rattle.buffer_allotment.proofs.Lent.{part_lent, bids_lent, limits_lent}
use borrow.Author.Rules.{rules}
use Rattle.buffer_allotment.proofs.internal.awards_in.Goals as goal

pub bounds-words-2 : goal.bounds-words-2
bounds-words-2 c =
    let long : tender_words ≤ length c.args.words.now = (known c.args.words.now c.requires.0).long in
    let h = long in omega (arith, h)

pub overflow_mul-end : goal.overflow_mul-end
overflow_mul-end c =
    let few-codes : c.up_to_64-n.result ≤ 64 = omega (arith, c.up_to_64-n.ensures, (up_to64_small (get_or c.args.words.now 2 0)).0) in
    let few : 10 * c.up_to_64-n.result ≤ 640 = let e = few-codes in omega (arith, e) in
    let e = few in omega (arith, e)

pub rates_in-rates-requires : goal.rates_in-rates-requires
rates_in-rates-requires c =
    let long : tender_words ≤ length c.args.words.now = (known c.args.words.now c.requires.0).long in
    let few-codes : c.up_to_64-n.result ≤ 64 = omega (arith, c.up_to_64-n.ensures, (up_to64_small (get_or c.args.words.now 2 0)).0) in
    let few : 10 * c.up_to_64-n.result ≤ 640 = let e = few-codes in omega (arith, e) in
    (long, few)

pub terms_in-terms-requires : goal.terms_in-terms-requires
terms_in-terms-requires c =
    let long : tender_words ≤ length c.args.words.now = (known c.args.words.now c.requires.0).long in
    long

pub overflow_add-n : goal.overflow_add-n
overflow_add-n c =
    let few-codes : c.up_to_64-n.result ≤ 64 = omega (arith, c.up_to_64-n.ensures, (up_to64_small (get_or c.args.words.now 2 0)).0) in
    let e = few-codes in omega (arith, e)

pub slice_bounds-allot_bids-end : goal.slice_bounds-allot_bids-end
slice_bounds-allot_bids-end c =
    let long : tender_words ≤ length c.args.words.now = (known c.args.words.now c.requires.0).long in
    let few-codes : c.up_to_64-n.result ≤ 64 = omega (arith, c.up_to_64-n.ensures, (up_to64_small (get_or c.args.words.now 2 0)).0) in
    let u = c in
    let e = few-codes in
    let h = long in
    omega (arith, e, h)

pub slice_bounds-allot_bids-end-2 : goal.slice_bounds-allot_bids-end-2
slice_bounds-allot_bids-end-2 c =
    let few-codes : c.up_to_64-n.result ≤ 64 = omega (arith, c.up_to_64-n.ensures, (up_to64_small (get_or c.args.words.now 2 0)).0) in
    let few : 10 * c.up_to_64-n.result ≤ 640 = let e = few-codes in omega (arith, e) in
    let rates_long : length c.rates_in-rates.result ≡ 640 = search rules in
    let k = c in
    let e = few in
    let r = rates_long in
    omega (arith, e, r)

pub overflow_add-end : goal.overflow_add-end
overflow_add-end c =
    let few-codes : c.up_to_64-n.result ≤ 64 = omega (arith, c.up_to_64-n.ensures, (up_to64_small (get_or c.args.words.now 2 0)).0) in
    let few : 10 * c.up_to_64-n.result ≤ 640 = let e = few-codes in omega (arith, e) in
    let e = few in omega (arith, e)

pub slice_bounds-allot_bids-end-3 : goal.slice_bounds-allot_bids-end-3
slice_bounds-allot_bids-end-3 c =
    let long : tender_words ≤ length c.args.words.now = (known c.args.words.now c.requires.0).long in
    let few-codes : c.up_to_64-n.result ≤ 64 = omega (arith, c.up_to_64-n.ensures, (up_to64_small (get_or c.args.words.now 2 0)).0) in
    let few : 10 * c.up_to_64-n.result ≤ 640 = let e = few-codes in omega (arith, e) in
    let u = c in
    let e = few in
    let h = long in
    omega (arith, e, h)

pub slice_bounds-allot_bids-end-4 : goal.slice_bounds-allot_bids-end-4
slice_bounds-allot_bids-end-4 c =
    let few-codes : c.up_to_64-n.result ≤ 64 = omega (arith, c.up_to_64-n.ensures, (up_to64_small (get_or c.args.words.now 2 0)).0) in
    let few : 10 * c.up_to_64-n.result ≤ 640 = let e = few-codes in omega (arith, e) in
    let zeros : length c.args.awards.now ≡ 640 = ap length c.requires.1 ∙ length-replicate {A = ℕ} 640 0 in
    let u = c in
    let e = few in
    let z = zeros in
    omega (arith, e, z)

pub allot_bids-requires : goal.allot_bids-requires
allot_bids-requires c =
    let long : tender_words ≤ length c.args.words.now = (known c.args.words.now c.requires.0).long in
    let few-codes : c.up_to_64-n.result ≤ 64 = omega (arith, c.up_to_64-n.ensures, (up_to64_small (get_or c.args.words.now 2 0)).0) in
    let few : 10 * c.up_to_64-n.result ≤ 640 = let e = few-codes in omega (arith, e) in
    let rates_long : length c.rates_in-rates.result ≡ 640 = search rules in
    let zeros : length c.args.awards.now ≡ 640 = ap length c.requires.1 ∙ length-replicate {A = ℕ} 640 0 in
    let k = c in
    let u = k in
    let codes = u.up_to_64-n.result in
    let n = 10 * codes in
    let ws = u.args.words.now in
    let e = few in
    let f = few-codes in
    let h = long in
    let r = rates_long in
    let z = zeros in
    let rates = lent_length k.rates_in-rates.result n (omega (arith, e, r)) in
    let amounts = ap length (part_lent ws 856 640 n e) ∙ length-take-le n (part 856 640 ws) (omega (arith, e, part_length ws 856 640 (omega (arith, h)))) in
    let limits = ap length (part_lent ws 1496 64 codes f) ∙ length-take-le codes (part 1496 64 ws) (omega (arith, f, part_length ws 1496 64 (omega (arith, h)))) in
    let awards = lent_length u.args.awards.now n (omega (arith, e, z)) in
    record { rates_len = (omega (arith, rates, amounts), omega (arith, amounts, awards), omega (arith, amounts, e)); limits_value = omega (arith, limits, amounts) }

pub returns : goal.returns
returns c =
    let ws = c.args.words.now in
    let n = c.up_to_64-n.result in
    let long : tender_words ≤ length ws = (known ws c.requires.0).long in
    let few-codes : n ≤ 64 = omega (arith, c.up_to_64-n.ensures, (up_to64_small (get_or ws 2 0)).0) in
    let few : 10 * n ≤ 640 = omega (arith, few-codes) in
    let zeros : length c.args.awards.now ≡ 640 = ap length c.requires.1 ∙ length-replicate {A = ℕ} 640 0 in
    let first = refusal_number c.args.first in
    let r = c.allot_bids.result in
    let awarded = c.allot_bids.new.awards in
    let s = state_in (get_or ws 1 0) in
    let bids : AllotsBids first (tender_in ws) (take (10 * n - 0) (replicate 640 0)) r awarded =
    subst (λ (l : List ℕ). AllotsBids first (tender_in ws) (take (10 * n - 0) l) r awarded) c.requires.1
    (subst (λ (x : Terms). AllotsBids first (viewed_of s x (book_in ws)) (take (10 * n - 0) c.args.awards.now) r awarded) c.terms_in-terms.ensures
    (c.allot_bids.ensures s (book_in ws) (bids_lent ws n c.rates_in-rates.result long c.up_to_64-n.ensures few c.rates_in-rates.ensures) (limits_lent ws n c.up_to_64-n.ensures few-codes))) in
    subst (λ (l : List ℕ). AllotsWords ws c.args.first r (awarded ++ drop (10 * n - 0) l)) (sym c.requires.1)
    (allots-places first (tender_in ws) r (10 * n) awarded few (c.allot_bids.auto.awards ∙ lent_length c.args.awards.now (10 * n) (omega (arith, few, zeros))) bids)
