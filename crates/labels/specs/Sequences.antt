-- Timed sequences: an endless list of states, each a set of facts with its hour; the hours never fall.
-- State i has the facts `state i` and the hour `hour i`, and several states may share an hour.
use Rattle.std.specs.Prelude.{ℕ, zero, suc, ◌+◌, ◌≤◌, List, [], ◌∷◌}
use Rattle.labels.specs.Facts.{Facts}

abbrev pub NeverFalls : (ℕ → ℕ) → Type 0
NeverFalls hour = (i : ℕ) → hour i ≤ hour (suc i)

-- copies of one set of facts, each an hour after the one before
abbrev pub copies : Facts → ℕ → Facts
copies s i = s

abbrev pub hourly : ℕ → ℕ → ℕ
hourly first i = first + i

-- an endless list behind a list
abbrev pub behind : {A : Type 0} → List A → (ℕ → A) → ℕ → A
behind [] f i = f i
behind (x ∷ xs) f zero = x
behind (x ∷ xs) f (suc i) = behind xs f i
