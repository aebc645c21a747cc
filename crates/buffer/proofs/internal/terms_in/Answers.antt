-- `buffer::internal::terms_in` meets its contract. Assumes nothing.
use mathlib.Core.Path.{ap₂}
use mathlib.Core.List.{List}
use Prim.Native.Nat.{ℕ}
use lib.ListN.{get_or}
use Rattle.announcement.specs.declared.Side.{Side}
use Rattle.book.specs.Viewed.{rate_of, amount_of}
use Rattle.buffer.specs.Words.{terms_in}
use Rattle.buffer.proofs.internal.terms_in.Goals as goal

pub returns : goal.returns
unfolding terms_in
returns c =
    let s = c in
    let i = s in
    let ws = i.args.words.now in
    ap₂ (λ (identifier : List ℕ) (x : Side × ℕ). record {
      identifier = identifier;
      side = x.0;
      execution = get_or ws 15 0;
      cutoff = get_or ws 16 0;
      most = get_or ws 17 0;
      offered = amount_of (get_or ws 18 0);
      minimum = amount_of (get_or ws 19 0);
      increment = amount_of (get_or ws 20 0);
      maximum = amount_of (get_or ws 21 0);
      allocation = amount_of (get_or ws 22 0);
      limit = rate_of x.1;
    }) i.identifier_in.ensures (λ t. (s.side_of.ensures t, c.narrow.ensures t))
