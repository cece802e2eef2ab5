-- What a list that is one item over and over has at each place, and past its end by default.
use Rattle.std.proofs.Common.{◌≡◌, ℕ, List, get_or, replicate, arith}
use native.Mathlib.Decide.{dec_lt}
use lib.ListN.{length-replicate}
use Rattle.std.proofs.lemmas.List.{get_or-replicate, get_or_past}

pub filled : {A : Type 0} (xs : List A) (n : ℕ) (a : A) → xs ≡ replicate n a → (i : ℕ) → get_or xs i a ≡ a
filled xs n a e i = elim (dec_lt i n) [
  | yes l ↦ rw e (get_or-replicate n i a a l)
  | no m ↦ rw e (get_or_past (replicate n a) i a (let g = length-replicate n a in omega arith))
]
