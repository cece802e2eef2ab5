-- Progress and idling of a label part by part through its table: what a part gives, from what its own parts gave.
-- A list `to` says where the progress of each part stands in another table.
use Rattle.std.specs.Prelude.{◌≡◌, ℕ, ◌<◌, Bool, true, false, not, ◌&&◌, ◌||◌, List, [], ◌∷◌, length, Ok, Err, Result, slice_index}
use Rattle.goals.specs.declared.goal.Node.{Node}
use Rattle.labels.specs.declared.part.Part.{Part}
use Rattle.labels.specs.declared.part.Part.TheVariants.{True, False, Pending, Not, And, Or}
use Rattle.labels.specs.Facts.{Facts}
use Rattle.labels.specs.Goals.{with_ends, goal_of_node}
use Rattle.labels.specs.Labels.{Label, true_label, false_label}
use Rattle.labels.specs.Joining.{negate, conjoin, disjoin}
use Rattle.labels.specs.Progress.{progress, progressed}
use Rattle.labels.specs.Work.{results, each_results}
use Rattle.labels.specs.Idling.{idles}
use Rattle.labels.specs.Table.{label_at, rows}
use Rattle.labels.specs.Growth.{Grew, Over}

-- a part whose own parts have moved
abbrev pub moved : List ℕ → Part → Part
moved to True = True
moved to False = False
moved to (Pending n b e) = Pending n b e
moved to (Not x) = Not (slice_index to x)
moved to (And x y) = And (slice_index to x) (slice_index to y)
moved to (Or x y) = Or (slice_index to x) (slice_index to y)

module _ (N : ℕ) (s : Facts) (D : ℕ) (nodes : List Node) where
  abbrev pub part_progress : (ℕ → Label) → Part → Label
  part_progress gave True = true_label
  part_progress gave False = false_label
  part_progress gave (Pending n b e) = progress N s D (with_ends e (goal_of_node nodes n)) b
  part_progress gave (Not x) = negate (gave x)
  part_progress gave (And x y) = conjoin (gave x) (gave y)
  part_progress gave (Or x y) = disjoin (gave x) (gave y)

  -- the results of the rules for a part
  abbrev pub part_results : (ℕ → Label) → Part → List Label
  part_results gave True = true_label ∷ []
  part_results gave False = false_label ∷ []
  part_results gave (Pending n b e) = results N s D (with_ends e (goal_of_node nodes n)) b
  part_results gave (Not x) = negate (gave x) ∷ []
  part_results gave (And x y) = conjoin (gave x) (gave y) ∷ []
  part_results gave (Or x y) = disjoin (gave x) (gave y) ∷ []

  -- the progress of each part below n stands in the new table
  abbrev pub ProgressedTo : List Part → List ℕ → List Part → ℕ → Type 0
  ProgressedTo table to new n =
      (j : ℕ) → j < n → (slice_index to j < length new) × (label_at new (slice_index to j) ≡ progressed N s D nodes (label_at table j))

  -- the table has grown by the results for every part, and has the progress of each
  pub record AllProgressed (table : List Part) (to : List ℕ) (old new : List Part) : Type 0 where
    pub grew : Grew old new (each_results N s D nodes (rows table))
    pub placed : ProgressedTo table to new (length table)

  -- what a call that progresses every part answers: that, or that the limit is passed
  abbrev pub ProgressedAll : {E : Type 0} → ℕ → List Part → List ℕ → List Part → List Part → Result (Unit {0}) E → Type 0
  ProgressedAll limit table to old new (Ok u) = AllProgressed table to old new
  ProgressedAll limit table to old new (Err e) = Over limit old (each_results N s D nodes (rows table))

abbrev pub part_idles : ℕ → Facts → List Node → (ℕ → Bool) → Part → Bool
part_idles N s nodes gave True = true
part_idles N s nodes gave False = false
part_idles N s nodes gave (Pending n b e) = idles N s (with_ends e (goal_of_node nodes n)) b
part_idles N s nodes gave (Not x) = not (gave x)
part_idles N s nodes gave (And x y) = gave x && gave y
part_idles N s nodes gave (Or x y) = gave x || gave y
