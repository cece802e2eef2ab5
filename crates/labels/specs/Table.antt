-- A label kept as a table of parts, each behind its own parts, and the label of each part.
-- A part names its own parts by their numbers in the table; no part stands in it twice.
use Rattle.std.specs.Prelude.{◌≡◌, ℕ, zero, suc, ◌<◌, Bool, true, false, ◌&&◌, ◌||◌, T, List, [], ◌∷◌, length, ◌==◌, ◌≢◌, nat_lt, slice_index_or}
use Rattle.labels.specs.declared.part.Part.{Part}
use Rattle.labels.specs.declared.part.Part.TheVariants.{True, False, Pending, Not, And, Or}
use Rattle.labels.specs.Labels.{Label, true_label, false_label, pending, not_label, and_label, or_label, parts}
use Rattle.labels.specs.Size.{member}

-- the label of a part, from those of its own parts
abbrev pub composed : (ℕ → Label) → Part → Label
composed label True = true_label
composed label False = false_label
composed label (Pending n b e) = pending n b e
composed label (Not x) = not_label (label x)
composed label (And x y) = and_label (label x) (label y)
composed label (Or x y) = or_label (label x) (label y)

-- the labels of the parts below n
unfoldable pub label_below : List Part → ℕ → ℕ → Label
label_below table zero k = true_label
label_below table (suc n) k =
    elim (k == n) [ true ↦ composed (label_below table n) (slice_index_or table n True) | false ↦ label_below table n k ]

-- the label of part k
unfoldable pub label_at : List Part → ℕ → Label
label_at table k = label_below table (suc k) k

-- the labels of the first n parts, the last of them first
unfoldable pub first_rows : List Part → ℕ → List Label
first_rows table zero = []
first_rows table (suc n) = label_at table n ∷ first_rows table n

-- the labels of all parts
unfoldable pub rows : List Part → List Label
rows table = first_rows table (length table)

-- do the own parts of a part stand below k?
abbrev pub before : ℕ → Part → Bool
before k True = true
before k False = true
before k (Pending n b e) = true
before k (Not x) = nat_lt x k
before k (And x y) = nat_lt x k && nat_lt y k
before k (Or x y) = nat_lt x k && nat_lt y k

-- each part stands behind its own
abbrev pub InOrder : List Part → Type 0
InOrder table = (k : ℕ) → k < length table → before k (slice_index_or table k True) ≡ true

-- no part stands twice
abbrev pub NoTwins : List Part → Type 0
NoTwins table = (j k : ℕ) → j < k → k < length table → slice_index_or table j True ≢ slice_index_or table k True

-- does the part name k?
abbrev pub names : ℕ → Part → Bool
names k True = false
names k False = false
names k (Pending n b e) = false
names k (Not x) = k == x
names k (And x y) = k == x || k == y
names k (Or x y) = k == x || k == y

-- every part but the last is named by a later one
abbrev pub Compact : List Part → Type 0
Compact table =
    (k : ℕ) → suc k < length table →
    ¬ ((j : ℕ) → k < j → j < length table → ¬ (T (names k (slice_index_or table j True))))

-- every part of a table is a part of the label at its root
abbrev pub OnlyParts : List Part → ℕ → Type 0
OnlyParts table root = (k : ℕ) → k < length table → member (label_at table k) (parts (label_at table root)) ≡ true
