-- Tables of goal nodes: each node stands behind its parts, and the ends of each until are in order.
-- A node names its parts by their numbers, which are smaller than its own.
use Rattle.std.specs.Prelude.{◌≡◌, ℕ, ◌<◌, Bool, true, List, length, Some, None, Option, nat_le, slice_index_or}
use Rattle.std.specs.Coded.{×_prop, Unit-prop, le_prop}
use Rattle.goals.specs.declared.time.Span.{Span}
use Rattle.goals.specs.declared.goal.Ends.{Ends}
use Rattle.goals.specs.declared.goal.Node.{Node}
use Rattle.goals.specs.declared.goal.Node.TheVariants.{True, Test, Equal, Not, And, Or, Next, Until, ForAll, Exists}

-- the parts of a node have numbers below k
abbrev pub PartsBelow : ℕ → Node → Type 0
PartsBelow k True = Unit {0}
PartsBelow k (Test a) = Unit {0}
PartsBelow k (Equal t u) = Unit {0}
PartsBelow k (Not x) = x < k
PartsBelow k (And x y) = (x < k) × (y < k)
PartsBelow k (Or x y) = (x < k) × (y < k)
PartsBelow k (Next x) = x < k
PartsBelow k (Until e x y) = (x < k) × (y < k)
PartsBelow k (ForAll v a x) = x < k
PartsBelow k (Exists v a x) = x < k

-- a node has at most one proof of it
pub PartsBelow-prop : (k : ℕ) (n : Node) → IsProp (PartsBelow k n)
PartsBelow-prop k True = Unit-prop
PartsBelow-prop k (Test a) = Unit-prop
PartsBelow-prop k (Equal t u) = Unit-prop
PartsBelow-prop k (Not x) = le_prop
PartsBelow-prop k (And x y) = ×_prop le_prop le_prop
PartsBelow-prop k (Or x y) = ×_prop le_prop le_prop
PartsBelow-prop k (Next x) = le_prop
PartsBelow-prop k (Until e x y) = ×_prop le_prop le_prop
PartsBelow-prop k (ForAll v a x) = le_prop
PartsBelow-prop k (Exists v a x) = le_prop

-- each node of a table stands behind its parts
abbrev pub Rising : List Node → Type 0
Rising table = (k : ℕ) → k < length table → PartsBelow k (slice_index_or table k True)

-- does an upper end allow the span?
abbrev pub reaches : Option Span → ℕ → Bool
reaches (Some n) span = nat_le span n.hours
reaches None span = true

-- is no lower end above its upper end?
abbrev pub ordered : Ends → Bool
ordered e = reaches e.upper e.lower.hours

abbrev pub ordered_node : Node → Bool
ordered_node True = true
ordered_node (Test a) = true
ordered_node (Equal t u) = true
ordered_node (Not x) = true
ordered_node (And x y) = true
ordered_node (Or x y) = true
ordered_node (Next x) = true
ordered_node (Until e x y) = ordered e
ordered_node (ForAll v a x) = true
ordered_node (Exists v a x) = true

-- the ends of each until of a table are in order
abbrev pub OrderedTable : List Node → Type 0
OrderedTable table = (k : ℕ) → k < length table → ordered_node (slice_index_or table k True) ≡ true
