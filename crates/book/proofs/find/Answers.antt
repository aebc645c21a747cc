-- `book::find` meets its contract. Assumes nothing.
use mathlib.Core.Path.{refl}
use Rattle.book.proofs.find.Goals as goal

pub returns : goal.returns
returns c = c.find_in.ensures c.args.b refl refl
