-- What a space holds after a write. Assumes nothing.
use Rattle.std.specs.Prelude.{◌≡◌, List, ◌++◌, ℕ, ◌+◌, length, take, drop}

-- the space with a text written over it from an index on; all other bytes stay
unfoldable pub overlay : List ℕ → ℕ → List ℕ → List ℕ
overlay space at text = take at space ++ text ++ drop (at + length text) space

-- the text was written from the index at: after is what the space holds then, and end the index past the text
pub record Wrote (space : List ℕ) (at : ℕ) (text after : List ℕ) (end : ℕ) : Type 0 where
  pub bytes : after ≡ overlay space at text
  pub past : end ≡ at + length text
