-- How a table of parts grows: it keeps what it has, and gains some labels with their parts and nothing else.
-- A limit is passed where the labels of a table, with those to be gained and their parts, are more than it allows.
use Rattle.std.specs.Prelude.{◌≡◌, ℕ, ◌<◌, ◌≤◌, T, List, [], ◌∷◌, ◌++◌, length, Ok, Err, Result, slice_index_or}
use Rattle.labels.specs.declared.part.Part.{Part}
use Rattle.labels.specs.declared.part.Part.TheVariants.{True}
use Rattle.labels.specs.Labels.{Label}
use Rattle.labels.specs.Size.{member, distinct}
use Rattle.labels.specs.Work.{all_parts}
use Rattle.labels.specs.Table.{label_at, rows}

pub record Grew (old new : List Part) (more : List Label) : Type 0 where
  pub longer : length old ≤ length new
  pub kept : (k : ℕ) → k < length old → slice_index_or new k True ≡ slice_index_or old k True
  pub only : (l : Label) → T (member l (rows new)) → T (member l (rows old ++ all_parts more))
  pub all : (l : Label) → T (member l (rows old ++ all_parts more)) → T (member l (rows new))

-- a table has grown, and has a label at i
pub record Made (old new : List Part) (label : Label) (more : List Label) (i : ℕ) : Type 0 where
  pub grew : Grew old new more
  pub within : i < length new
  pub is : label_at new i ≡ label

pub record Over (limit : ℕ) (table : List Part) (more : List Label) : Type 0 where
  pub over : limit < length (distinct (rows table ++ all_parts more))

-- what a call that adds a label to a table answers: where the label stands, or that the limit is passed
abbrev pub Outcome : {E : Type 0} → ℕ → List Part → List Part → Label → List Label → Result ℕ E → Type 0
Outcome limit old new label more (Ok i) = Made old new label more i
Outcome limit old new label more (Err e) = Over limit old more

-- what a call that adds just one label answers
abbrev pub Added : {E : Type 0} → ℕ → List Part → List Part → Label → Result ℕ E → Type 0
Added limit old new label answer = Outcome limit old new label (label ∷ []) answer
