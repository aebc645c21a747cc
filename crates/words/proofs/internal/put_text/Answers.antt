-- `words::internal::put_text` meets its contract: two words, of which the second may meet the first. Assumes nothing.
use Rattle.std.proofs.Common.{◌-◌, length, drop, ◌∙◌, arith, length-drop, take_all}
use Rattle.words.proofs.Text.{first_and_last}
use Rattle.words.proofs.internal.put_text.Goals as goal

pub returns : goal.returns
returns c =
    let last = c.before.before in
    let first = last.before.before.before.before.before.before in
    let start = first.before.before.before.before.before.before in
    let a = start.args in
    let s = a.text.now in
    let n = length-drop (length s - 8) s in
    first_and_last a.space.now a.at s start.requires.0 start.requires.1 start.requires.2 first.eight_bytes.ensures (last.eight_bytes-2.ensures ∙ take_all (length s - (length s - 8)) (drop (length s - 8) s) (omega arith)) first.put_word.ensures.0 last.put_word-2.ensures.0
