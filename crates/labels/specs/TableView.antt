-- A table of parts in memory: its parts, their labels, and what a call that adds labels to it answers.
-- Such a call tells where the label stands, or that the table's limit would be passed.
use Rattle.std.specs.Prelude.{ℕ, ◌<◌, List, length, vec_items, Result}
use Rattle.labels.specs.declared.part.Part.{Part}
use Rattle.labels.specs.declared.table.Table.{Table}
use Rattle.labels.specs.Labels.{Label}
use Rattle.labels.specs.Table.{label_at}
use Rattle.labels.specs.Growth.{Outcome, Added}

abbrev pub parts_in : {limit : ℕ} → Table limit → List Part
parts_in table = vec_items table.items

abbrev pub label_in : {limit : ℕ} → Table limit → ℕ → Label
label_in table place = label_at (parts_in table) place

-- there is a part at the place
abbrev pub Stands : {limit : ℕ} → Table limit → ℕ → Type 0
Stands table place = place < length (parts_in table)

-- a table gains some labels, one of them to be told
abbrev pub Gains : {E : Type 0} {limit : ℕ} → Table limit → Table limit → Label → List Label → Result ℕ E → Type 0
Gains {limit = limit} old new label more answer = Outcome limit (parts_in old) (parts_in new) label more answer

-- a table gains one label
abbrev pub Adds : {E : Type 0} {limit : ℕ} → Table limit → Table limit → Label → Result ℕ E → Type 0
Adds {limit = limit} old new label answer = Added limit (parts_in old) (parts_in new) label answer
