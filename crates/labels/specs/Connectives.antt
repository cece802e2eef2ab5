-- The simplified joining by a connective, and the label from which a quantifier joins by it.
-- "For all" joins by "and" from TRUE, "there is" by "or" from FALSE.
use Rattle.std.specs.Prelude.{ℕ}
use Rattle.labels.specs.declared.connective.Connective.{Connective}
use Rattle.labels.specs.declared.connective.Connective.TheVariants.{And, Or}
use Rattle.labels.specs.declared.part.Part.{Part}
use Rattle.labels.specs.declared.part.Part.TheVariants.{True, False, And as AndPart, Or as OrPart}
use Rattle.labels.specs.Labels.{Label, true_label, false_label}
use Rattle.labels.specs.Joining.{conjoin, disjoin}

abbrev pub join_by : Connective → Label → Label → Label
join_by And = conjoin
join_by Or = disjoin

abbrev pub start_of : Connective → Label
start_of And = true_label
start_of Or = false_label

-- the part that is the result wherever it is joined, the part that a joining leaves out, and the part that joins two others
abbrev pub absorbing_part : Connective → Part
absorbing_part And = False
absorbing_part Or = True

abbrev pub neutral_part : Connective → Part
neutral_part And = True
neutral_part Or = False

abbrev pub joined_part : Connective → ℕ → ℕ → Part
joined_part And i j = AndPart i j
joined_part Or i j = OrPart i j
