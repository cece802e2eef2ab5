-- Goals as trees of numbered nodes, and the tree of each node of a table.
-- A node of a table names its parts by their numbers, which are smaller than its own.
use Rattle.std.specs.Prelude.{ℕ, zero, suc, true, false, List, length, Some, None, ◌==◌, slice_index_or}
use Rattle.goals.specs.declared.goal.Variable.{Variable}
use Rattle.goals.specs.declared.goal.Term.{Term}
use Rattle.goals.specs.declared.goal.Atom.{Atom}
use Rattle.goals.specs.declared.goal.Ends.{Ends}
use Rattle.goals.specs.declared.goal.Node.{Node}
use Rattle.goals.specs.declared.goal.Node.TheVariants.{True, Test, Equal, Not, And, Or, Next, Until, ForAll, Exists}

-- each node begins with its number
pub data Goal : Type 0 where
  top : ℕ → Goal
  test : ℕ → Atom → Goal
  equal : ℕ → Term → Term → Goal
  neg : ℕ → Goal → Goal
  conj disj : ℕ → Goal → Goal → Goal
  next : ℕ → Goal → Goal
  until : ℕ → Ends → Goal → Goal → Goal
  for_all exists : ℕ → Variable → Atom → Goal → Goal

abbrev pub number : Goal → ℕ
number (top k) = k
number (test k a) = k
number (equal k t u) = k
number (neg k φ) = k
number (conj k φ ψ) = k
number (disj k φ ψ) = k
number (next k φ) = k
number (until k e φ ψ) = k
number (for_all k v a φ) = k
number (exists k v a φ) = k

-- the ends [m,n]
abbrev pub ends : ℕ → ℕ → Ends
ends m n = record { lower = record { hours = m }; upper = Some (record { hours = n }) }

-- the ends [m,*]
abbrev pub endless : ℕ → Ends
endless m = record { lower = record { hours = m }; upper = None }

-- a node's own ends, 0 unless it is an until
abbrev pub own_ends : Goal → Ends
own_ends (top k) = ends 0 0
own_ends (test k a) = ends 0 0
own_ends (equal k t u) = ends 0 0
own_ends (neg k φ) = ends 0 0
own_ends (conj k φ ψ) = ends 0 0
own_ends (disj k φ ψ) = ends 0 0
own_ends (next k φ) = ends 0 0
own_ends (until k e φ ψ) = e
own_ends (for_all k v a φ) = ends 0 0
own_ends (exists k v a φ) = ends 0 0

-- the same of a node of a table
abbrev pub node_ends : Node → Ends
node_ends True = ends 0 0
node_ends (Test a) = ends 0 0
node_ends (Equal t u) = ends 0 0
node_ends (Not x) = ends 0 0
node_ends (And x y) = ends 0 0
node_ends (Or x y) = ends 0 0
node_ends (Next x) = ends 0 0
node_ends (Until e x y) = e
node_ends (ForAll v a x) = ends 0 0
node_ends (Exists v a x) = ends 0 0

-- a node with other ends, which matter to an until only
abbrev pub with_ends : Ends → Goal → Goal
with_ends e (top k) = top k
with_ends e (test k a) = test k a
with_ends e (equal k t u) = equal k t u
with_ends e (neg k φ) = neg k φ
with_ends e (conj k φ ψ) = conj k φ ψ
with_ends e (disj k φ ψ) = disj k φ ψ
with_ends e (next k φ) = next k φ
with_ends e (until k own φ ψ) = until k e φ ψ
with_ends e (for_all k v a φ) = for_all k v a φ
with_ends e (exists k v a φ) = exists k v a φ

-- the tree of a node numbered k, from the trees of its parts
abbrev pub built : (ℕ → Goal) → ℕ → Node → Goal
built part k True = top k
built part k (Test a) = test k a
built part k (Equal t u) = equal k t u
built part k (Not x) = neg k (part x)
built part k (And x y) = conj k (part x) (part y)
built part k (Or x y) = disj k (part x) (part y)
built part k (Next x) = next k (part x)
built part k (Until e x y) = until k e (part x) (part y)
built part k (ForAll v a x) = for_all k v a (part x)
built part k (Exists v a x) = exists k v a (part x)

-- the trees of the nodes below n; any other number, which no node of a rising table names, is read as T behind the table
unfoldable pub goal_below : List Node → ℕ → ℕ → Goal
goal_below table zero k = top (length table)
goal_below table (suc n) k =
    elim (k == n) [ true ↦ built (goal_below table n) n (slice_index_or table n True) | false ↦ goal_below table n k ]

-- the tree of node k
unfoldable pub goal_of_node : List Node → ℕ → Goal
goal_of_node table k = goal_below table (suc k) k
