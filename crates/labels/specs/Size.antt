-- The distinct labels of a list, and the size of a label.
-- A label is as large as it has distinct parts, itself included.
use Rattle.std.specs.Prelude.{ℕ, Bool, false, cond, ◌||◌, List, [], ◌∷◌, length}
use Rattle.labels.specs.Labels.{Label, parts}
use Rattle.labels.specs.Same.{same}

-- is the label in the list?
abbrev pub member : Label → List Label → Bool
member l [] = false
member l (x ∷ xs) = same l x || member l xs

-- the distinct labels of a list
unfoldable pub distinct : List Label → List Label
distinct [] = []
distinct (x ∷ xs) = let rest : List Label = distinct xs in cond (member x rest) rest (x ∷ rest)

unfoldable pub size : Label → ℕ
size l = length (distinct (parts l))
