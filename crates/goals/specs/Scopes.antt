-- Which variables are in use at a place of a goal text, and how deep in brackets it stands.
-- The first quantifier binds the outer variable, the second the inner one; no third may stand inside them.
use Rattle.std.specs.Prelude.{ℕ, suc, Bool, true, false, cond, ◌||◌, Some, None, Option, ◌==◌}
use Rattle.goals.specs.declared.goal.Variable.{Variable}
use Rattle.goals.specs.declared.goal.Variable.TheVariants.{Outer, Inner}
use Rattle.goals.specs.declared.scope.Letters.{Letters}
use Rattle.goals.specs.declared.scope.Letters.TheVariants.{Free, One, Two}
use Rattle.goals.specs.declared.scope.Scope.{Scope}
use Rattle.goals.specs.Syntax.{Prefix, unary, timed, quantified}

-- the variable that a letter stands for
abbrev pub variable_of : Letters → ℕ → Option Variable
variable_of Free v = None
variable_of (One a) v = cond (a == v) (Some Outer) None
variable_of (Two a b) v = cond (a == v) (Some Outer) (cond (b == v) (Some Inner) None)

abbrev pub in_use : Letters → ℕ → Bool
in_use Free v = false
in_use (One a) v = a == v
in_use (Two a b) v = a == v || b == v

-- the letters in use behind a quantifier with this one
abbrev pub bind : Letters → ℕ → Letters
bind Free v = One v
bind (One a) v = Two a v
bind (Two a b) v = Two a b

-- the variable that a quantifier binds
abbrev pub newest : Letters → Variable
newest Free = Outer
newest (One a) = Inner
newest (Two a b) = Inner

-- one quantifier more may stand here
abbrev pub has_room : Letters → Bool
has_room Free = true
has_room (One a) = true
has_room (Two a b) = false

abbrev pub outermost : Scope
outermost = record { letters = Free; depth = 0 }

abbrev pub deeper : Scope → Scope
deeper s = record { letters = s.letters; depth = suc s.depth }

abbrev pub binding : Scope → ℕ → Scope
binding s v = record { letters = bind s.letters v; depth = s.depth }

-- the scope of the item behind a prefix
abbrev pub inside : Scope → Prefix → Scope
inside s (unary u) = s
inside s (timed m e) = s
inside s (quantified q v t) = binding s v
