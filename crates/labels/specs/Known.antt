-- Labels that a job knows: each pending part names one of its nodes and binds ids of which it has so many.
-- Only numbers and ids count; the kind of the node does not.
use Rattle.std.specs.Prelude.{ℕ, Bool, true, ◌&&◌, nat_lt}
use Rattle.goals.specs.declared.goal.Ends.{Ends}
use Rattle.labels.specs.declared.binding.Binding.{Binding}
use Rattle.labels.specs.declared.part.Part.{Part}
use Rattle.labels.specs.declared.part.Part.TheVariants.{True, False, Pending, Not, And, Or}
use Rattle.labels.specs.Labels.{Label, every_pending}

-- are both ids below N?
abbrev pub ids_below : ℕ → Binding → Bool
ids_below N b = nat_lt b.outer N && nat_lt b.inner N

-- does a job of so many nodes and N ids know the label?
abbrev pub known : ℕ → ℕ → Label → Bool
known nodes N l = every_pending (λ n b e. nat_lt n nodes && ids_below N b) l

-- does a part of a table pass a test of pending parts?
abbrev pub passes : (ℕ → Binding → Ends → Bool) → Part → Bool
passes test True = true
passes test False = true
passes test (Pending n b e) = test n b e
passes test (Not x) = true
passes test (And x y) = true
passes test (Or x y) = true

abbrev pub known_part : ℕ → ℕ → Part → Bool
known_part nodes N p = passes (λ n b e. nat_lt n nodes && ids_below N b) p
