-- What working out a step answers, before the label is changed: the new label in a table of its own, or which limit is passed.
-- The work may have up to 4,096 labels, the new label up to 512 parts.
use Rattle.std.specs.Prelude.{◌≡◌, ℕ, ◌<◌, ◌≤◌, List, length, Ok, Err, Result}
use Rattle.goals.specs.declared.goal.Node.{Node}
use Rattle.labels.specs.declared.part.Part.{Part}
use Rattle.labels.specs.declared.refusal.LabelRefusal.{LabelRefusal}
use Rattle.labels.specs.declared.refusal.LabelRefusal.TheVariants.{OtherJob, TooMuchWork, TooLong}
use Rattle.labels.specs.Facts.{Facts}
use Rattle.labels.specs.Labels.{Label}
use Rattle.labels.specs.Size.{size}
use Rattle.labels.specs.Progress.{progressed}
use Rattle.labels.specs.Work.{work}
use Rattle.labels.specs.Table.{label_at, OnlyParts}

module _ (N : ℕ) (s : Facts) (D : ℕ) (nodes : List Node) (l : Label) where
  pub record WorkedOut (new : List Part) (i : ℕ) : Type 0 where
    pub work_fits : length (work N s D nodes l) ≤ 4096
    pub size_fits : size (progressed N s D nodes l) ≤ 512
    pub within : i < length new
    pub is : label_at new i ≡ progressed N s D nodes l
    pub only : OnlyParts new i

  abbrev pub Worked : List Part → Result ℕ LabelRefusal → Type 0
  Worked new (Ok i) = WorkedOut new i
  Worked new (Err OtherJob) = ⊥
  Worked new (Err TooMuchWork) = 4096 < length (work N s D nodes l)
  Worked new (Err TooLong) = (length (work N s D nodes l) ≤ 4096) × (512 < size (progressed N s D nodes l))
