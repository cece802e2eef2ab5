-- Ends in order in a label: no lower end of a pending part above its upper end.
-- The idling theorem asks for it; the opening label has it where the table has, and progress keeps it.
use Rattle.std.specs.Prelude.{Bool}
use Rattle.goals.specs.NodeTable.{ordered}
use Rattle.labels.specs.Labels.{Label, every_pending}

abbrev pub ordered_label : Label → Bool
ordered_label l = every_pending (λ n b e. ordered e) l
