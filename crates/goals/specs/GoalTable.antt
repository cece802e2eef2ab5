-- How a table of nodes stands for a tree: it unfolds from its root, each node naming its parts by smaller numbers.
-- How the nodes are numbered is left free; each number is one place of the tree.
use Rattle.std.specs.Prelude.{◌≡◌, ℕ, ◌+◌, ◌<◌, Bool, true, cond, ◌&&◌, List, [], ◌∷◌, ◌++◌, length, ◌==◌, nat_lt, slice_index_or}
use Rattle.goals.specs.declared.goal.Node.{Node}
use Rattle.goals.specs.declared.goal.Node.TheVariants.{True, Test, Equal, Not, And, Or, Next, Until, ForAll, Exists}
use Rattle.goals.specs.Tree.{Tree, always, test, equal, not, next, and, or, until, for_all, exists}

-- the parts of the node k have smaller numbers
abbrev pub parts_below : ℕ → Node → Bool
parts_below k True = true
parts_below k (Test a) = true
parts_below k (Equal x y) = true
parts_below k (Not a) = nat_lt a k
parts_below k (And a b) = nat_lt a k && nat_lt b k
parts_below k (Or a b) = nat_lt a k && nat_lt b k
parts_below k (Next a) = nat_lt a k
parts_below k (Until e a b) = nat_lt a k && nat_lt b k
parts_below k (ForAll v t a) = nat_lt a k
parts_below k (Exists v t a) = nat_lt a k

abbrev pub Holds : List Node → ℕ → Node → Type 0
Holds ns i n = (i < length ns) × (slice_index_or ns i True ≡ n)

-- the tree unfolds from the node i
abbrev pub Unfolds : List Node → ℕ → Tree → Type 0
Unfolds ns i always = Holds ns i True
Unfolds ns i (test a) = Holds ns i (Test a)
Unfolds ns i (equal x y) = Holds ns i (Equal x y)
Unfolds ns i (not t) = (a : ℕ) × Holds ns i (Not a) × (a < i) × Unfolds ns a t
Unfolds ns i (next t) = (a : ℕ) × Holds ns i (Next a) × (a < i) × Unfolds ns a t
Unfolds ns i (and t u) = (a : ℕ) × (b : ℕ) × Holds ns i (And a b) × (a < i) × (b < i) × Unfolds ns a t × Unfolds ns b u
Unfolds ns i (or t u) = (a : ℕ) × (b : ℕ) × Holds ns i (Or a b) × (a < i) × (b < i) × Unfolds ns a t × Unfolds ns b u
Unfolds ns i (until e t u) = (a : ℕ) × (b : ℕ) × Holds ns i (Until e a b) × (a < i) × (b < i) × Unfolds ns a t × Unfolds ns b u
Unfolds ns i (for_all v x t) = (a : ℕ) × Holds ns i (ForAll v x a) × (a < i) × Unfolds ns a t
Unfolds ns i (exists v x t) = (a : ℕ) × Holds ns i (Exists v x a) × (a < i) × Unfolds ns a t

-- the numbers at the places of a tree that unfolds from i
abbrev pub numbers : (ns : List Node) (i : ℕ) (t : Tree) → Unfolds ns i t → List ℕ
numbers ns i always h = i ∷ []
numbers ns i (test a) h = i ∷ []
numbers ns i (equal x y) h = i ∷ []
numbers ns i (not t) h = i ∷ numbers ns h.0 t h.3
numbers ns i (next t) h = i ∷ numbers ns h.0 t h.3
numbers ns i (and t u) h = i ∷ (numbers ns h.0 t h.5 ++ numbers ns h.1 u h.6)
numbers ns i (or t u) h = i ∷ (numbers ns h.0 t h.5 ++ numbers ns h.1 u h.6)
numbers ns i (until e t u) h = i ∷ (numbers ns h.0 t h.5 ++ numbers ns h.1 u h.6)
numbers ns i (for_all v x t) h = i ∷ numbers ns h.0 t h.3
numbers ns i (exists v x t) h = i ∷ numbers ns h.0 t h.3

-- how often a number stands in a list
abbrev pub occurs : ℕ → List ℕ → ℕ
occurs k [] = 0
occurs k (x ∷ xs) = cond (k == x) 1 0 + occurs k xs
