-- Numbers in the bytes of a file: one byte, or two with the high byte first.
-- A byte past the end counts as 0, so that a place can be asked about before the length is known to suffice.
use Rattle.std.specs.Prelude.{ℕ, ◌+◌, ◌*◌, List, slice_index}

abbrev pub byte_at : List ℕ → ℕ → ℕ
byte_at bytes at = slice_index bytes at

abbrev pub word_at : List ℕ → ℕ → ℕ
word_at bytes at = byte_at bytes at * 256 + byte_at bytes (at + 1)
