-- `buffer_search::internal::find` meets its contract: the codes of the book are those that are searched. Assumes nothing.
use mathlib.Core.Path.{◌≡◌, sym, ap, ◌∙◌}
use mathlib.Core.List.{List}
use Prim.Native.Nat.{ℕ, ◌+◌, ◌-◌}
use native.Mathlib.Omega.{arith}
use lib.ListN.{take, drop, get_or}
use lib.Seq.{take-take}
use Rattle.rules.specs.Opening.{rising}
use Rattle.book.specs.Viewed.{viewed, codes_in}
use Rattle.buffer.specs.Words.{book_in}
use Rattle.buffer.proofs.Words.{Known, known, codes_are, codes_rise}
use Rattle.buffer_search.specs.Search.{find_in}
use Rattle.buffer_search.proofs.Search.{find_codes}
use Rattle.buffer_search.proofs.internal.find.Goals as goal

-- the codes that are lent are those of the book
lent : (ws : List ℕ) → Known ws → take (24 + get_or ws 2 0 - 24) (drop 24 ws) ≡ codes_in (viewed (book_in ws))
lent ws k =
    let n : 24 + get_or ws 2 0 - 24 ≡ get_or ws 2 0 = omega arith in
    ap (λ (m : ℕ). take m (drop 24 ws)) n ∙ sym (take-take (get_or ws 2 0) 64 (drop 24 ws) (omega (arith, k.few-codes))) ∙ sym (codes_are ws k)

pub bounds-words-2 : goal.bounds-words-2
bounds-words-2 c =
    let knows : Known c.args.words.now = known c.args.words.now c.requires in
    let k = knows in omega (arith, k.long)

pub overflow_add-n : goal.overflow_add-n
overflow_add-n c =
    let knows : Known c.args.words.now = known c.args.words.now c.requires in
    let k = knows in omega (arith, k.few-codes)

pub slice_bounds-search-end : goal.slice_bounds-search-end
slice_bounds-search-end c =
    let knows : Known c.args.words.now = known c.args.words.now c.requires in
    let k = knows in omega (arith, k.few-codes, k.long)

pub search-requires : goal.search-requires
search-requires c =
    let knows : Known c.args.words.now = known c.args.words.now c.requires in
    let start = c in
    let ws = start.args.words.now in
    ap rising (lent ws knows) ∙ codes_rise ws knows

pub returns : goal.returns
returns c =
    let knows : Known c.args.words.now = known c.args.words.now c.requires in
    let start = c in
    let ws = start.args.words.now in
    c.search.ensures ∙ ap (λ (l : List ℕ). find_in l start.args.code 0) (lent ws knows) ∙ sym (find_codes (viewed (book_in ws)) start.args.code 0)
