use Rattle.std.proofs.Common.{◌≡◌, ℕ, ◌+◌, Bool, drop}
use Rattle.goals.specs.Tokens.{run_of}
use Rattle.goals.proofs.token.run_of.Given as goal

abbrev pub invariant-loop-count : goal.invariant-loop-count
invariant-loop-count g l = goal.F-IsAlwaysCallable g l.passes × ((t : ℕ → Bool) → ((b : ℕ) (r : Bool) → goal.F-post g l.passes b r → r ≡ t b) → run_of t l.bytes ≡ l.count + run_of t (drop l.count l.bytes))
