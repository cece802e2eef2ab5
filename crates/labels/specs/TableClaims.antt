-- What tables and lists of labels tell: a label's size by its table, a step's work by the distinct results.
-- They let code count entries in place of labels, each part once.
use Rattle.std.specs.Prelude.{◌≡◌, ℕ, suc, ◌<◌, ◌≤◌, T, ◌↔◌, List, [], ◌∷◌, length}
use Rattle.goals.specs.declared.goal.Node.{Node}
use Rattle.labels.specs.declared.part.Part.{Part}
use Rattle.labels.specs.Facts.{Facts}
use Rattle.labels.specs.Labels.{Label, parts}
use Rattle.labels.specs.Same.{same}
use Rattle.labels.specs.Size.{member, distinct, size}
use Rattle.labels.specs.Work.{all_parts, each_results, work}
use Rattle.labels.specs.Table.{label_at, rows, InOrder, NoTwins, Compact}
use Rattle.labels.specs.Growth.{Grew, Over}

-- every label of the first list is in the second
abbrev pub Subset : List Label → List Label → Type 0
Subset xs ys = (l : Label) → T (member l xs) → T (member l ys)

-- no label stands twice
abbrev pub Unique : List Label → Type 0
Unique [] = Unit {0}
Unique (x ∷ xs) = (¬ (T (member x xs))) × Unique xs

-- a list that has some labels of another, each once, is no longer than that one has distinct labels;
-- it is just as long if it has them all
abbrev pub UniqueListsCount : Type 0
UniqueListsCount =
    (xs ys : List Label) → Unique ys → Subset ys xs →
    (length ys ≤ length (distinct xs)) × (Subset xs ys → length ys ≡ length (distinct xs))

-- the test for the same label says just whether they are equal
abbrev pub SameMeansEqual : Type 0
SameMeansEqual = (q r : Label) → T (same q r) ↔ (q ≡ r)

-- equal labels stand at one place of a table
abbrev pub LabelsStandOnce : Type 0
LabelsStandOnce =
    (table : List Part) → InOrder table → NoTwins table →
    (j k : ℕ) → j < length table → k < length table → label_at table j ≡ label_at table k → j ≡ k

-- a table of parts of one of its labels is as long as that label is large;
-- a compact table is one of parts of its last label
abbrev pub TablesTellSize : Type 0
TablesTellSize =
    (table : List Part) → InOrder table → NoTwins table → (root : ℕ) → root < length table →
    (Subset (rows table) (parts (label_at table root)) → length table ≡ size (label_at table root))
    × (length table ≡ suc root → Compact table → length table ≡ size (label_at table root))

-- the work of a step depends only on the set of the label's parts: a list that has their results with the parts of these,
-- each once, is as long as the work is large, and no longer while it has some of them
abbrev pub WorkGoesByParts : Type 0
WorkGoesByParts =
    (N : ℕ) (s : Facts) (D : ℕ) (table : List Node) (l : Label) (ps ys : List Label) →
    Subset ps (parts l) → Subset (parts l) ps → Unique ys → Subset ys (all_parts (each_results N s D table ps)) →
    (length ys ≤ length (work N s D table l))
    × (Subset (all_parts (each_results N s D table ps)) ys → length ys ≡ length (work N s D table l))

-- a table that has grown from nothing by one label is as long as that label is large, and it passes a limit only if the label does
abbrev pub GrowthTellsSize : Type 0
GrowthTellsSize =
    (l : Label) →
    ((limit : ℕ) → Over limit [] (l ∷ []) → limit < size l)
    × ((new : List Part) → InOrder new → NoTwins new → Grew [] new (l ∷ []) → length new ≡ size l)

-- a table that has grown from nothing by the results for each label of another, where these are the parts of one of them,
-- is as long as the work of that label's step is large, and it passes a limit only if the work does
abbrev pub GrowthTellsWork : Type 0
GrowthTellsWork =
    (N : ℕ) (s : Facts) (D : ℕ) (nodes : List Node) (table : List Part) (root : ℕ) →
    InOrder table → root < length table → Subset (rows table) (parts (label_at table root)) →
    ((limit : ℕ) → Over limit [] (each_results N s D nodes (rows table)) → limit < length (work N s D nodes (label_at table root)))
    × ((new : List Part) → InOrder new → NoTwins new → Grew [] new (each_results N s D nodes (rows table)) →
    length new ≡ length (work N s D nodes (label_at table root)))
