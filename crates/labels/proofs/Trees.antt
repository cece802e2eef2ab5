-- The trees of a table: each node finds its parts, and is found by its number.
use Rattle.std.proofs.Common.{◌≡◌, ℕ, zero, suc, ◌<◌, ◌≤◌, Bool, true, false, eqb, List, length, get_or, sym, refl, ap, ◌∙◌, subst, ap₂, arith, eqb-true}
use native.Mathlib.Decide.{dec_lt}
use borrow.Author.Tests.{eqb-false}
use Rattle.std.proofs.lemmas.List.{get_or_past}
use Rattle.goals.specs.declared.goal.Ends.{Ends}
use Rattle.goals.specs.declared.goal.Node.{Node}
use Rattle.goals.specs.declared.goal.Node.TheVariants.{True, Test, Equal, Not, And, Or, Next, Until, ForAll, Exists}
use Rattle.goals.specs.NodeTable.{PartsBelow, Rising}
use Rattle.labels.specs.declared.binding.Binding.{Binding}
use Rattle.labels.specs.Goals.{Goal, top, test, equal, neg, conj, disj, next, until, for_all, exists, number, ends, own_ends, node_ends, with_ends, built, goal_below, goal_of_node}
use Rattle.labels.specs.Labels.{pending, waiting}

-- the step at a number: its own node, or what stands below it
pick : (n k : ℕ) (own : Goal) (other : Goal) (c : Bool) → eqb k n ≡ c →
    (k ≡ n → elim c as (λ x. Goal) [ true ↦ own | false ↦ other ] ≡ own)
    × ((k ≡ n → ⊥) → elim c as (λ x. Goal) [ true ↦ own | false ↦ other ] ≡ other)
pick n k own other true e = ((λ p. refl), λ d. absurd (d (eqb-true k n e)))
pick n k own other false e = ((λ p. absurd (eqb-false k n e p)), λ d. refl)

module _ (table : List Node) where
  below-kept : (n k : ℕ) → k < n → goal_below table (suc n) k ≡ goal_below table n k
  unfolding goal_below
  below-kept n k lt = (pick n k _ _ (eqb k n) refl).1 (λ e. omega arith)

  -- a node's tree, from those of the nodes below it
  pub tree : (k : ℕ) → goal_of_node table k ≡ built (goal_below table k) k (get_or table k True)
  unfolding goal_below goal_of_node
  tree k = (pick k k _ _ (eqb k k) refl).0 refl

  pub below : (n k : ℕ) → k < n → goal_below table n k ≡ goal_of_node table k
  unfolding goal_of_node
  below zero k lt = absurd (omega arith)
  below (suc n) k lt = elim (dec_lt k n) [
    | yes l ↦ below-kept n k l ∙ below n k l
    | no m ↦ let e : n ≡ k = omega arith in ap (λ (j : ℕ). goal_below table (suc j) k) e
  ]

  not-below : (n k : ℕ) → n ≤ k → goal_below table n k ≡ top (length table)
  unfolding goal_below
  not-below zero k le = refl
  not-below (suc n) k le = (pick n k _ _ (eqb k n) refl).1 (λ e. omega arith) ∙ not-below n k (omega arith)

  -- what stands behind the table is true
  pub behind_table : (k : ℕ) → length table ≤ k → goal_of_node table k ≡ top k
  behind_table k le = tree k ∙ ap (built (goal_below table k) k) (get_or_past table k True le)

  -- what holds of the tree of each node, if of each node that its parts' trees have it
  pub by_parts : (P : Goal → Type 0) → P (top (length table)) →
      ((k : ℕ) → ((x : ℕ) → P (goal_below table k x)) → P (built (goal_below table k) k (get_or table k True))) →
      (k : ℕ) → P (goal_of_node table k)
  by_parts P last more k = go (suc k) k (omega arith)
    where
      part : (n : ℕ) → ((k : ℕ) → k < n → P (goal_of_node table k)) → (x : ℕ) → P (goal_below table n x)
      part n ih x = elim (dec_lt x n) [
        | yes l ↦ subst P (sym (below n x l)) (ih x l)
        | no m ↦ subst P (sym (not-below n x (omega arith))) last
      ]

      go : (n k : ℕ) → k < n → P (goal_of_node table k)
      go zero k lt = absurd (omega arith)
      go (suc n) k lt = subst P (sym (tree k)) (more k (part k (λ x l. go n x (omega arith))))

built_agree : (f g : ℕ → Goal) (k : ℕ) (nd : Node) → PartsBelow k nd → ((x : ℕ) → x < k → f x ≡ g x) → built f k nd ≡ built g k nd
built_agree f g k True p e = refl
built_agree f g k (Test a) p e = refl
built_agree f g k (Equal t u) p e = refl
built_agree f g k (Not x) p e = ap (neg k) (e x p)
built_agree f g k (And x y) p e = ap₂ (conj k) (e x p.0) (e y p.1)
built_agree f g k (Or x y) p e = ap₂ (disj k) (e x p.0) (e y p.1)
built_agree f g k (Next x) p e = ap (next k) (e x p)
built_agree f g k (Until w x y) p e = ap₂ (until k w) (e x p.0) (e y p.1)
built_agree f g k (ForAll v a x) p e = ap (for_all k v a) (e x p)
built_agree f g k (Exists v a x) p e = ap (exists k v a) (e x p)

-- a node that stands behind its parts is built from their trees
pub tree_of : (table : List Node) (k : ℕ) (nd : Node) → get_or table k True ≡ nd → PartsBelow k nd →
    goal_of_node table k ≡ built (goal_of_node table) k nd
tree_of table k nd e p =
    tree table k
    ∙ (ap (built (goal_below table k) k) e
    ∙ built_agree (goal_below table k) (goal_of_node table) k nd p (λ x l. below table k x l))

-- the same of a node that was read, and is this one
pub tree-read : (table : List Node) (k : ℕ) {got : Node} (nd : Node) → got ≡ get_or table k True → PartsBelow k got → got ≡ nd →
    goal_of_node table k ≡ built (goal_of_node table) k nd
tree-read table k nd v p e = tree_of table k nd (sym v ∙ e) (subst (PartsBelow k) e p)

pub rising-tree : (table : List Node) → Rising table → (k : ℕ) → k < length table →
    goal_of_node table k ≡ built (goal_of_node table) k (get_or table k True)
rising-tree table rising k lt = tree_of table k (get_or table k True) refl (rising k lt)

-- each node of a goal is found by its number
unfoldable pub Placed : (ℕ → Goal) → Goal → Type 0
Placed node (top k) = node k ≡ top k
Placed node (test k a) = node k ≡ test k a
Placed node (equal k t u) = node k ≡ equal k t u
Placed node (neg k φ) = (node k ≡ neg k φ) × Placed node φ
Placed node (conj k φ ψ) = (node k ≡ conj k φ ψ) × Placed node φ × Placed node ψ
Placed node (disj k φ ψ) = (node k ≡ disj k φ ψ) × Placed node φ × Placed node ψ
Placed node (next k φ) = (node k ≡ next k φ) × Placed node φ
Placed node (until k e φ ψ) = ((f : Ends) → with_ends f (node k) ≡ until k f φ ψ) × Placed node φ × Placed node ψ
Placed node (for_all k v a φ) = (node k ≡ for_all k v a φ) × Placed node φ
Placed node (exists k v a φ) = (node k ≡ exists k v a φ) × Placed node φ

built-placed : (node part : ℕ → Goal) (k : ℕ) (nd : Node) → node k ≡ built part k nd → ((x : ℕ) → Placed node (part x)) →
    Placed node (built part k nd)
unfolding Placed
built-placed node part k True e ih = e
built-placed node part k (Test a) e ih = e
built-placed node part k (Equal t u) e ih = e
built-placed node part k (Not x) e ih = (e, ih x)
built-placed node part k (And x y) e ih = (e, ih x, ih y)
built-placed node part k (Or x y) e ih = (e, ih x, ih y)
built-placed node part k (Next x) e ih = (e, ih x)
built-placed node part k (Until w x y) e ih = ((λ f. ap (with_ends f) e), ih x, ih y)
built-placed node part k (ForAll v a x) e ih = (e, ih x)
built-placed node part k (Exists v a x) e ih = (e, ih x)

pub placed : (table : List Node) (k : ℕ) → Placed (goal_of_node table) (goal_of_node table k)
unfolding Placed
placed table = by_parts table (Placed (goal_of_node table)) (behind_table table (length table) (omega arith))
    (λ k ih. built-placed (goal_of_node table) (goal_below table k) k (get_or table k True) (tree table k) ih)

-- a node with its own ends is itself, and so is found
pub found : (node : ℕ → Goal) (φ : Goal) → Placed node φ → with_ends (own_ends φ) (node (number φ)) ≡ φ
unfolding Placed
found node (top k) p = ap (with_ends (ends 0 0)) p
found node (test k a) p = ap (with_ends (ends 0 0)) p
found node (equal k t u) p = ap (with_ends (ends 0 0)) p
found node (neg k φ) p = ap (with_ends (ends 0 0)) p.0
found node (conj k φ ψ) p = ap (with_ends (ends 0 0)) p.0
found node (disj k φ ψ) p = ap (with_ends (ends 0 0)) p.0
found node (next k φ) p = ap (with_ends (ends 0 0)) p.0
found node (until k e φ ψ) p = p.0 e
found node (for_all k v a φ) p = ap (with_ends (ends 0 0)) p.0
found node (exists k v a φ) p = ap (with_ends (ends 0 0)) p.0

pub placed-with : (node : ℕ → Goal) (e : Ends) (φ : Goal) → Placed node φ → Placed node (with_ends e φ)
unfolding Placed
placed-with node e (top k) p = p
placed-with node e (test k a) p = p
placed-with node e (equal k t u) p = p
placed-with node e (neg k φ) p = p
placed-with node e (conj k φ ψ) p = p
placed-with node e (disj k φ ψ) p = p
placed-with node e (next k φ) p = p
placed-with node e (until k own φ ψ) p = p
placed-with node e (for_all k v a φ) p = p
placed-with node e (exists k v a φ) p = p

pub number-built : (part : ℕ → Goal) (k : ℕ) (nd : Node) → number (built part k nd) ≡ k
number-built part k True = refl
number-built part k (Test a) = refl
number-built part k (Equal t u) = refl
number-built part k (Not x) = refl
number-built part k (And x y) = refl
number-built part k (Or x y) = refl
number-built part k (Next x) = refl
number-built part k (Until e x y) = refl
number-built part k (ForAll v a x) = refl
number-built part k (Exists v a x) = refl

-- a node of a table bears its number
pub number_at : (table : List Node) (k : ℕ) → number (goal_of_node table k) ≡ k
number_at table k = ap number (tree table k) ∙ number-built (goal_below table k) k (get_or table k True)

ends-built : (part : ℕ → Goal) (k : ℕ) (nd : Node) → own_ends (built part k nd) ≡ node_ends nd
ends-built part k True = refl
ends-built part k (Test a) = refl
ends-built part k (Equal t u) = refl
ends-built part k (Not x) = refl
ends-built part k (And x y) = refl
ends-built part k (Or x y) = refl
ends-built part k (Next x) = refl
ends-built part k (Until e x y) = refl
ends-built part k (ForAll v a x) = refl
ends-built part k (Exists v a x) = refl

-- a node of a table, pending with its own ends
pub waiting-at : (table : List Node) (k : ℕ) (b : Binding) → waiting (goal_of_node table k) b ≡ pending k b (node_ends (get_or table k True))
waiting-at table k b =
    ap₂ (λ n e. pending n b e) (number_at table k)
    (ap own_ends (tree table k) ∙ ends-built (goal_below table k) k (get_or table k True))
