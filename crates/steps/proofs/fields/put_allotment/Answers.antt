-- `steps::fields::put_allotment` meets its contract. Assumes nothing.
use Rattle.std.specs.Prelude.{Ok, Err}
use mathlib.Core.Path.{◌≡◌, sym, ap, ◌∙◌}
use Prim.Native.Nat.{ℕ, ◌*◌, ◌-◌}
use native.Mathlib.Omega.{arith}
use lib.ListN.{length, take, drop, get_or, length-replicate, take-append-drop}
use Rattle.output.proofs.Output.{said, length_part}
use Rattle.outcomes.proofs.Awarding.{lent_length}
use Rattle.buffer.specs.Words.{book_in}
use Rattle.buffer.proofs.Words.{Known, known}
use Rattle.log_rules.specs.Lines.{refused_line}
use Rattle.steps.proofs.Awarding.{tender-allotted, lines_are, lines-awarded, codes_there, bids_there, bids-count}
use Rattle.steps.proofs.fields.put_allotment.Goals as goal

pub bounds-words-2 : goal.bounds-words-2
bounds-words-2 c =
    let after : Known c.allot_in.new.words = known c.allot_in.new.words c.allot_in.ensures.given in
    let h = after.long in omega (arith, h)

pub overflow_add-n : goal.overflow_add-n
overflow_add-n c =
    let after : Known c.allot_in.new.words = known c.allot_in.new.words c.allot_in.ensures.given in
    let h = after.few-codes in omega (arith, h)

pub slice_bounds-put_awards-end : goal.slice_bounds-put_awards-end
slice_bounds-put_awards-end c =
    let after : Known c.allot_in.new.words = known c.allot_in.new.words c.allot_in.ensures.given in
    let k = after in omega (arith, k.few-codes, k.long)

pub overflow_mul-n : goal.overflow_mul-n
overflow_mul-n c =
    let after : Known c.allot_in.new.words = known c.allot_in.new.words c.allot_in.ensures.given in
    let h = after.few-codes in omega (arith, h)

pub overflow_add-n-2 : goal.overflow_add-n-2
overflow_add-n-2 c =
    let after : Known c.allot_in.new.words = known c.allot_in.new.words c.allot_in.ensures.given in
    let h = after.few-codes in omega (arith, h)

pub slice_bounds-put_awards-end-2 : goal.slice_bounds-put_awards-end-2
slice_bounds-put_awards-end-2 c =
    let after : Known c.allot_in.new.words = known c.allot_in.new.words c.allot_in.ensures.given in
    let k = after in omega (arith, k.few-codes, k.long)

pub overflow_mul-n-2 : goal.overflow_mul-n-2
overflow_mul-n-2 c =
    let after : Known c.allot_in.new.words = known c.allot_in.new.words c.allot_in.ensures.given in
    let h = after.few-codes in omega (arith, h)

pub slice_bounds-put_awards-end-3 : goal.slice_bounds-put_awards-end-3
slice_bounds-put_awards-end-3 c =
    let after : Known c.allot_in.new.words = known c.allot_in.new.words c.allot_in.ensures.given in
    let awards_long : length c.allot_in.new.awards ≡ 640 = c.allot_in.auto.awards ∙ length-replicate {A = ℕ} 640 0 in
    let k = after in omega (arith, k.few-codes, awards_long)

pub put_awards-requires : goal.put_awards-requires
put_awards-requires c =
    let after : Known c.allot_in.new.words = known c.allot_in.new.words c.allot_in.ensures.given in
    let awards_long : length c.allot_in.new.awards ≡ 640 = c.allot_in.auto.awards ∙ length-replicate {A = ℕ} 640 0 in
    let r = c in
    let k = after in
    let ws = r.allot_in.new.words in
    let n = get_or ws 2 0 in
    let f = k.few-codes in
    let l = k.long in
    let codes = length_part ws 24 n (omega (arith, f, l)) in
    let rates = length_part ws 216 (10 * n) (omega (arith, f, l)) in
    let awards = lent_length r.allot_in.new.awards (10 * n) (omega (arith, f, awards_long)) in
    record { rates_len = rates ∙ sym (ap (λ (i : ℕ). 10 * i) codes); awards_len = awards ∙ sym (ap (λ (i : ℕ). 10 * i) codes); awards_in_bounds = omega (arith, awards, f, c.requires.1) }

pub returns-in-Err : goal.returns-in-Err
returns-in-Err c =
    let a = c.allot_in in
    let ws = c.args.words.now in
    let e = c.in-Err.ensures in
    record {
      tender_is = tender-allotted ws (Err c.in-Err.r) a.new.words a.new.awards e;
      lines = said (ap refused_line c.number_of.ensures ∙ lines_are ws (Err c.in-Err.r) a.new.words a.new.awards e) c.put_refused.ensures;
      given = e.given;
    }

pub returns : goal.returns
returns c =
    let a = c.allot_in in
    let ws = c.args.words.now in
    let next = a.new.words in
    let m = c.in_default.field-0 in
    let e = c.in_default.ensures in
    let given = e.given in
    let after : Known next = known next given in
    let awards_long : length a.new.awards ≡ 640 = a.auto.awards ∙ length-replicate {A = ℕ} 640 0 in
    let n = get_or next 2 0 in
    let xs = take (10 * n - 0) a.new.awards in
    let f = after.few-codes in
    let awards = lent_length a.new.awards (10 * n) (omega (arith, f, awards_long)) in
    record {
      tender_is = tender-allotted ws (Ok m) next a.new.awards e;
      lines =
          said (lines-awarded ws m next a.new.awards e xs (drop (10 * n - 0) a.new.awards) (take-append-drop (10 * n - 0) a.new.awards) (omega (arith, awards, bids-count next given)))
          (c.put_awards.ensures (book_in next) _ (codes_there next given) (bids_there next given));
      given = given;
    }
