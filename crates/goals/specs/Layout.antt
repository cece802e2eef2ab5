-- A tree's nodes in the order in which the reader makes them: each after its parts, the left part first.
-- The root stands last.
use Rattle.std.specs.Prelude.{ℕ, ◌+◌, List, [], ◌∷◌, ◌++◌}
use Rattle.goals.specs.declared.goal.Node.{Node}
use Rattle.goals.specs.declared.goal.Node.TheVariants.{True, Test, Equal, Not, And, Or, Next, Until, ForAll, Exists}
use Rattle.goals.specs.Tree.{Tree, always, test, equal, not, next, and, or, until, for_all, exists}

-- how many nodes stand below the root
abbrev pub below : Tree → ℕ
below always = 0
below (test a) = 0
below (equal x y) = 0
below (not t) = 1 + below t
below (next t) = 1 + below t
below (and t u) = (1 + below t) + (1 + below u)
below (or t u) = (1 + below t) + (1 + below u)
below (until e t u) = (1 + below t) + (1 + below u)
below (for_all v a t) = 1 + below t
below (exists v a t) = 1 + below t

abbrev pub size : Tree → ℕ
size t = 1 + below t

-- the nodes of a tree, the first of which has the number b
abbrev pub laid : Tree → ℕ → List Node
laid always b = True ∷ []
laid (test a) b = Test a ∷ []
laid (equal x y) b = Equal x y ∷ []
laid (not t) b = laid t b ++ Not (b + below t) ∷ []
laid (next t) b = laid t b ++ Next (b + below t) ∷ []
laid (and t u) b = laid t b ++ (laid u (b + size t) ++ And (b + below t) (b + size t + below u) ∷ [])
laid (or t u) b = laid t b ++ (laid u (b + size t) ++ Or (b + below t) (b + size t + below u) ∷ [])
laid (until e t u) b = laid t b ++ (laid u (b + size t) ++ Until e (b + below t) (b + size t + below u) ∷ [])
laid (for_all v a t) b = laid t b ++ ForAll v a (b + below t) ∷ []
laid (exists v a t) b = laid t b ++ Exists v a (b + below t) ∷ []
