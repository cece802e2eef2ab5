-- Sets of facts, bindings of the two variables, and what a set of facts says of an atom under a binding.
-- A set of facts answers for each predicate and two ids; an unused place holds the id 0.
use Rattle.std.specs.Prelude.{ℕ, Bool, ◌==◌}
use Rattle.goals.specs.declared.goal.Variable.{Variable}
use Rattle.goals.specs.declared.goal.Variable.TheVariants.{Outer, Inner}
use Rattle.goals.specs.declared.goal.Term.{Term}
use Rattle.goals.specs.declared.goal.Term.TheVariants.{Id, Bound}
use Rattle.goals.specs.declared.goal.Atom.{Atom}
use Rattle.labels.specs.declared.binding.Binding.{Binding}

abbrev pub Facts : Type 0
Facts = ℕ → ℕ → ℕ → Bool

abbrev pub unbound : Binding
unbound = record { outer = 0; inner = 0 }

abbrev pub bind : Variable → ℕ → Binding → Binding
bind Outer x b = record { outer = x; inner = b.inner }
bind Inner x b = record { outer = b.outer; inner = x }

-- the id that a term stands for
abbrev pub value : Binding → Term → ℕ
value b (Id x) = x
value b (Bound Outer) = b.outer
value b (Bound Inner) = b.inner

-- is the atom a fact of the set?
abbrev pub fact : Facts → Binding → Atom → Bool
fact s b a = s a.predicate (value b a.first) (value b a.second)

-- do two terms stand for one id?
abbrev pub alike : Binding → Term → Term → Bool
alike b t u = value b t == value b u
