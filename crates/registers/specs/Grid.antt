-- A grid's rows as a set of facts: a row for each predicate and first id, in it a bit for each second id.
-- Row p * 128 + a has the facts of the predicate p with the first id a.
use Rattle.std.specs.Prelude.{ℕ, ◌+◌, ◌*◌, ◌/◌, ◌%◌, ◌^◌, Bool, ◌&&◌, List, ◌==◌, slice_index}
use Rattle.registers.specs.Facts.{Facts, in_bounds, one, sum_below}
use Rattle.registers.specs.Meaning.{Meaning}

-- bit b of a row
unfoldable pub bit_of : ℕ → ℕ → Bool
bit_of w b = w / 2 ^ b % 2 == 1

-- how many of a row's 128 bits are set
unfoldable pub bits_of : ℕ → ℕ
bits_of w = sum_below 128 (λ b. one (bit_of w b))

unfoldable pub grid_facts : List ℕ → Facts
grid_facts rows = λ p a b. in_bounds p a b && bit_of (slice_index rows (p * 128 + a)) b

unfoldable pub grid_meaning : List ℕ → ℕ → Meaning
grid_meaning rows limit = record { facts = grid_facts rows; limit = limit }
