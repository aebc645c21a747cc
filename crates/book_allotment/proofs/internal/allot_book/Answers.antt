-- `book_allotment::internal::allot_book` meets its contract. Assumes nothing.
use Rattle.std.specs.Prelude.{Ok, Err}
use mathlib.Core.Path.{◌≡◌, refl, sym, ap, ap₂, subst, ◌∙◌}
use mathlib.Core.List.{List, ◌++◌, map}
use mathlib.Core.Option.{none}
use Prim.Native.Nat.{ℕ, ◌*◌, ◌-◌, ◌≤◌}
use native.Mathlib.Nat.{sub-zero}
use native.Mathlib.Omega.{arith}
use lib.ListN.{length, take, drop, replicate, length-replicate}
use Rattle.laws.proofs.Arrays.{length_mapped}
use Rattle.bids.specs.Columns.{bids_of, cents}
use Rattle.rules.specs.Calls.{bids_in_book}
use Rattle.book.specs.declared.Book.{Book}
use Rattle.book.specs.Viewed as book
use Rattle.book.proofs.Empty.{up_to64_small}
use Rattle.book.proofs.Order.{bids-numbered, there_and_back}
use Rattle.marginal.specs.Ranks.{rate_in}
use Rattle.refusals.specs.Conditions.{refusal_number}
use Rattle.outcomes.specs.Outcomes.{viewed_of}
use Rattle.outcomes.specs.Allotting.{AllotsPlaces}
use Rattle.outcomes.proofs.Awarding.{lent_length, allots-places}
use borrow.Author.Rules.{rules}
use Rattle.book_allotment.proofs.internal.allot_book.Goals as goal

-- what is lent of a book: its bids, and the limits of its codes
bids_lent : (b : Book) (n : ℕ) (rates amounts : List ℕ) → n ≡ book.up_to64 b.n → rates ≡ map book.hundred_thousandths b.rates → amounts ≡ map cents b.amounts → length b.rates ≡ 640
    → length b.amounts ≡ 640 → bids_of (take (10 * n - 0) rates) (take (10 * n - 0) amounts) ≡ bids_in_book (book.viewed b)
bids_lent b n rates amounts e r a rates_long amounts_long =
    ap₂ (λ (x y : List ℕ). bids_of (take (10 * n - 0) x) (take (10 * n - 0) y)) r a
    ∙ ap (λ (k : ℕ). bids_of (take k (map book.hundred_thousandths b.rates)) (take k (map cents b.amounts))) (sub-zero (10 * n) ∙ ap (λ (k : ℕ). 10 * k) e)
    ∙ bids-numbered b rates_long amounts_long

limits_lent : (b : Book) (n : ℕ) → n ≡ book.up_to64 b.n → take (n - 0) b.limits ≡ book.limits_in b
limits_lent b n e = ap (λ (k : ℕ). take k b.limits) (sub-zero n ∙ e)

pub overflow_mul-end : goal.overflow_mul-end
overflow_mul-end c =
    let few-codes : c.up_to_64-n.result ≤ 64 = omega (arith, c.up_to_64-n.ensures, (up_to64_small c.args.book.n).0) in
    let few : 10 * c.up_to_64-n.result ≤ 640 = let e = few-codes in omega (arith, e) in
    let e = few in omega (arith, e)

pub slice_bounds-allot_bids-end : goal.slice_bounds-allot_bids-end
slice_bounds-allot_bids-end c =
    let few-codes : c.up_to_64-n.result ≤ 64 = omega (arith, c.up_to_64-n.ensures, (up_to64_small c.args.book.n).0) in
    let limits_long : length c.args.book.limits ≡ 64 = search rules in
    let u = c in
    let e = few-codes in
    let l = limits_long in
    omega (arith, e, l)

pub slice_bounds-allot_bids-end-2 : goal.slice_bounds-allot_bids-end-2
slice_bounds-allot_bids-end-2 c =
    let few-codes : c.up_to_64-n.result ≤ 64 = omega (arith, c.up_to_64-n.ensures, (up_to64_small c.args.book.n).0) in
    let few : 10 * c.up_to_64-n.result ≤ 640 = let e = few-codes in omega (arith, e) in
    let rates_long : length c.numbers_of-rates.result ≡ 640 = search rules in
    let u = c in
    let e = few in
    let r = rates_long in
    omega (arith, e, r)

pub slice_bounds-allot_bids-end-3 : goal.slice_bounds-allot_bids-end-3
slice_bounds-allot_bids-end-3 c =
    let few-codes : c.up_to_64-n.result ≤ 64 = omega (arith, c.up_to_64-n.ensures, (up_to64_small c.args.book.n).0) in
    let few : 10 * c.up_to_64-n.result ≤ 640 = let e = few-codes in omega (arith, e) in
    let amounts_long : length c.cents_of-amounts.result ≡ 640 = search rules in
    let u = c in
    let e = few in
    let r = amounts_long in
    omega (arith, e, r)

pub slice_bounds-cents-end : goal.slice_bounds-cents-end
slice_bounds-cents-end c =
    let few-codes : c.up_to_64-n.result ≤ 64 = omega (arith, c.up_to_64-n.ensures, (up_to64_small c.args.book.n).0) in
    let few : 10 * c.up_to_64-n.result ≤ 640 = let e = few-codes in omega (arith, e) in
    let e = few in
    omega (arith, e, length-replicate {A = ℕ} 640 0)

pub allot_bids-requires : goal.allot_bids-requires
allot_bids-requires c =
    let few-codes : c.up_to_64-n.result ≤ 64 = omega (arith, c.up_to_64-n.ensures, (up_to64_small c.args.book.n).0) in
    let few : 10 * c.up_to_64-n.result ≤ 640 = let e = few-codes in omega (arith, e) in
    let rates_long : length c.numbers_of-rates.result ≡ 640 = search rules in
    let amounts_long : length c.cents_of-amounts.result ≡ 640 = search rules in
    let limits_long : length c.args.book.limits ≡ 64 = search rules in
    let u = c in
    let k = u in
    let codes = u.up_to_64-n.result in
    let n = 10 * codes in
    let e = few in
    let limits = lent_length u.args.book.limits codes (let l = limits_long in let f = few-codes in omega (arith, f, l)) in
    let rates = lent_length k.numbers_of-rates.result n (let r = rates_long in omega (arith, e, r)) in
    let amounts = lent_length k.cents_of-amounts.result n (let r = amounts_long in omega (arith, e, r)) in
    let cents = lent_length (replicate 640 0) n (omega (arith, e, length-replicate {A = ℕ} 640 0)) in
    record { rates_len = (omega (arith, rates, amounts), omega (arith, amounts, cents), omega (arith, amounts, e)); limits_value = omega (arith, limits, amounts) }

pub returns-in_err-marginal : goal.returns-in_err-marginal
returns-in_err-marginal c =
    let book_rates : length c.args.book.rates ≡ 640 = search (rules, length_mapped) in
    let book_amounts : length c.args.book.amounts ≡ 640 = search (rules, length_mapped) in
    let args = c.args in
    let n = c.up_to_64-n in
    let told : c.from_residual.result ≡ Err c.in_err-marginal.field-0.0 = search rules in
    λ state. let allots = c.in_err-marginal.ensures state args.book (bids_lent args.book n.result _ _ n.ensures c.numbers_of-rates.ensures c.cents_of-amounts.ensures book_rates book_amounts) (limits_lent args.book n.result n.ensures) in
    rw told (record { number = allots.number; awarded = refl })

pub returns : goal.returns
returns c =
    let few-codes : c.up_to_64-n.result ≤ 64 = omega (arith, c.up_to_64-n.ensures, (up_to64_small c.args.book.n).0) in
    let few : 10 * c.up_to_64-n.result ≤ 640 = let e = few-codes in omega (arith, e) in
    let book_rates : length c.args.book.rates ≡ 640 = search (rules, length_mapped) in
    let book_amounts : length c.args.book.amounts ≡ 640 = search (rules, length_mapped) in
    let args = c.args in
    let n = c.up_to_64-n in
    let a = c.allot_bids in
    let part = a.new.awards in
    let lent = 10 * n.result in
    let whole = part ++ drop (lent - 0) (replicate 640 0) in
    let long = a.auto.awards ∙ lent_length (replicate 640 0) lent (let e = few in omega (arith, e, length-replicate {A = ℕ} 640 0)) in
    let back : map cents c.amounts_of.result ≡ whole = ap (map cents) c.amounts_of.ensures ∙ there_and_back cents book.amount_of (λ v. refl) whole in
    λ state. let allots = c.in_ok-marginal.ensures state args.book (bids_lent args.book n.result _ _ n.ensures c.numbers_of-rates.ensures c.cents_of-amounts.ensures book_rates book_amounts) (limits_lent args.book n.result n.ensures) in
    subst (λ (l : List ℕ). AllotsPlaces (refusal_number args.first) (viewed_of state args.terms args.book) none (record { awards = l; marginal = rate_in c.in_ok-marginal.marginal })) (sym back)
    (allots-places (refusal_number args.first) (viewed_of state args.terms args.book) (Ok c.in_ok-marginal.marginal) lent part few long allots)
