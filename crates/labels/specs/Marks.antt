-- Marking the parts of one label in a table, and copying what is marked into another.
-- Marks go from the label's own part down; copies go from the first part up.
use Rattle.std.specs.Prelude.{◌≡◌, ℕ, zero, suc, ◌<◌, ◌≤◌, Bool, true, false, T, List, [], ◌∷◌, length, get_or, slice_index, slice_index_or, slice_set}
use Rattle.labels.specs.declared.part.Part.{Part}
use Rattle.labels.specs.declared.part.Part.TheVariants.{True, False, Pending, Not, And, Or}
use Rattle.labels.specs.Labels.{Label, parts}
use Rattle.labels.specs.Size.{member}
use Rattle.labels.specs.Table.{label_at, names}

-- the own parts of a part marked too
abbrev pub marked : Part → List Bool → List Bool
marked True marks = marks
marked False marks = marks
marked (Pending n b e) marks = marks
marked (Not x) marks = slice_set marks x true
marked (And x y) marks = slice_set (slice_set marks x true) y true
marked (Or x y) marks = slice_set (slice_set marks x true) y true

-- only parts of the root's label are marked, the root is, and from a place on each marked part has its own parts marked
pub record Marking (table : List Part) (root from : ℕ) (marks : List Bool) : Type 0 where
  pub inside : (j : ℕ) → slice_index_or marks j false ≡ true → j ≤ root
  pub sound : (j : ℕ) → slice_index_or marks j false ≡ true → T (member (label_at table j) (parts (label_at table root)))
  pub top : get_or marks root false ≡ true
  pub closed : (j : ℕ) → from ≤ j → slice_index_or marks j false ≡ true → (x : ℕ) → T (names x (slice_index_or table j True)) → slice_index_or marks x false ≡ true

-- the marked labels below n
unfoldable pub kept : List Part → List Bool → ℕ → List Label
kept table marks zero = []
kept table marks (suc n) = elim (slice_index_or marks n false) [ true ↦ label_at table n ∷ kept table marks n | false ↦ kept table marks n ]

-- each marked part below n has a copy
abbrev pub Copied : List Part → List Bool → List ℕ → List Part → ℕ → Type 0
Copied table marks to new n =
    (j : ℕ) → j < n → slice_index_or marks j false ≡ true → (slice_index to j < length new) × (label_at new (slice_index to j) ≡ label_at table j)
