-- Ends in order: a table's trees have them, the opening label has them, and progress keeps them.
use Rattle.std.proofs.Common.{◌≡◌, ℕ, ◌-◌, true, List, length, get_or, Some, None, Option, refl, ap, arith, le-leb, leb-true}
use native.Mathlib.Decide.{dec_lt}
use Rattle.std.proofs.lemmas.List.{get_or_past}
use Rattle.goals.specs.declared.time.Span.{Span}
use Rattle.goals.specs.declared.goal.Ends.{Ends}
use Rattle.goals.specs.declared.goal.Node.{Node}
use Rattle.goals.specs.declared.goal.Node.TheVariants.{True, Test, Equal, Not, And, Or, Next, Until, ForAll, Exists}
use Rattle.goals.specs.NodeTable.{reaches, ordered, ordered_node, OrderedTable}
use Rattle.labels.specs.declared.binding.Binding.{Binding}
use Rattle.labels.specs.Facts.{Facts, unbound, bind}
use Rattle.labels.specs.Goals.{Goal, top, test, equal, neg, conj, disj, next, until, for_all, exists, own_ends, with_ends, built, goal_below, goal_of_node}
use Rattle.labels.specs.Labels.{Label, waiting, every_pending}
use Rattle.labels.specs.Progress.{upper_less, progressed}
use Rattle.labels.specs.Order.{ordered_label}
use Rattle.labels.specs.Claims.{EndsStayInOrder}
use Rattle.labels.proofs.Trees.{by_parts}
use Rattle.labels.proofs.Pending.{Fine, every-progressed}

-- every until of a goal has its ends in order
unfoldable pub OrderedGoal : Goal → Type 0
OrderedGoal (top k) = Unit {0}
OrderedGoal (test k a) = Unit {0}
OrderedGoal (equal k t u) = Unit {0}
OrderedGoal (neg k φ) = OrderedGoal φ
OrderedGoal (conj k φ ψ) = OrderedGoal φ × OrderedGoal ψ
OrderedGoal (disj k φ ψ) = OrderedGoal φ × OrderedGoal ψ
OrderedGoal (next k φ) = OrderedGoal φ
OrderedGoal (until k e φ ψ) = (ordered e ≡ true) × OrderedGoal φ × OrderedGoal ψ
OrderedGoal (for_all k v a φ) = OrderedGoal φ
OrderedGoal (exists k v a φ) = OrderedGoal φ

built-ordered : (part : ℕ → Goal) (k : ℕ) (nd : Node) → ordered_node nd ≡ true → ((x : ℕ) → OrderedGoal (part x)) →
    OrderedGoal (built part k nd)
unfolding OrderedGoal
built-ordered part k True o ih = tt
built-ordered part k (Test a) o ih = tt
built-ordered part k (Equal t u) o ih = tt
built-ordered part k (Not x) o ih = ih x
built-ordered part k (And x y) o ih = (ih x, ih y)
built-ordered part k (Or x y) o ih = (ih x, ih y)
built-ordered part k (Next x) o ih = ih x
built-ordered part k (Until e x y) o ih = (o, ih x, ih y)
built-ordered part k (ForAll v a x) o ih = ih x
built-ordered part k (Exists v a x) o ih = ih x

node-ordered : (table : List Node) → OrderedTable table → (k : ℕ) → ordered_node (get_or table k True) ≡ true
node-ordered table order k = elim (dec_lt k (length table)) [
  | yes l ↦ order k l
  | no m ↦ ap ordered_node (get_or_past table k True (omega arith))
]

pub tree-ordered : (table : List Node) → OrderedTable table → (k : ℕ) → OrderedGoal (goal_of_node table k)
unfolding OrderedGoal
tree-ordered table order =
    by_parts table OrderedGoal tt
    (λ k ih. built-ordered (goal_below table k) k (get_or table k True) (node-ordered table order k) ih)

pub with-ordered : (e : Ends) → ordered e ≡ true → (φ : Goal) → OrderedGoal φ → OrderedGoal (with_ends e φ)
unfolding OrderedGoal
with-ordered e h (top k) o = o
with-ordered e h (test k a) o = o
with-ordered e h (equal k t u) o = o
with-ordered e h (neg k φ) o = o
with-ordered e h (conj k φ ψ) o = o
with-ordered e h (disj k φ ψ) o = o
with-ordered e h (next k φ) o = o
with-ordered e h (until k own φ ψ) o = (h, o.1, o.2)
with-ordered e h (for_all k v a φ) o = o
with-ordered e h (exists k v a φ) o = o

own-ordered : (φ : Goal) → OrderedGoal φ → ordered (own_ends φ) ≡ true
unfolding OrderedGoal
own-ordered (top k) o = refl
own-ordered (test k a) o = refl
own-ordered (equal k t u) o = refl
own-ordered (neg k φ) o = refl
own-ordered (conj k φ ψ) o = refl
own-ordered (disj k φ ψ) o = refl
own-ordered (next k φ) o = refl
own-ordered (until k e φ ψ) o = o.0
own-ordered (for_all k v a φ) o = refl
own-ordered (exists k v a φ) o = refl

pub waiting-ordered : (φ : Goal) (b : Binding) → OrderedGoal φ → ordered_label (waiting φ b) ≡ true
unfolding every_pending
waiting-ordered φ b o = own-ordered φ o

later-ordered : (D lo : ℕ) (u : Option Span) → reaches u lo ≡ true → reaches (upper_less D u) (lo - D) ≡ true
later-ordered D lo (Some n) o = let h = leb-true lo n.hours o in le-leb (lo - D) (n.hours - D) (omega arith)
later-ordered D lo None o = refl

module _ (N : ℕ) (s : Facts) (D : ℕ) where
  fine_ordered : (φ : Goal) → OrderedGoal φ → (b : Binding) → Fine (λ n c e. ordered e) N s D φ b
  unfolding OrderedGoal Fine
  fine_ordered (top k) o b = tt
  fine_ordered (test k a) o b = tt
  fine_ordered (equal k t u) o b = tt
  fine_ordered (neg k φ) o b = fine_ordered φ o b
  fine_ordered (conj k φ ψ) o b = (fine_ordered φ o.0 b, fine_ordered ψ o.1 b)
  fine_ordered (disj k φ ψ) o b = (fine_ordered φ o.0 b, fine_ordered ψ o.1 b)
  fine_ordered (next k φ) o b = own-ordered φ o
  fine_ordered (until k e φ ψ) o b =
      (later-ordered D e.lower.hours e.upper o.0, fine_ordered φ o.1 b, fine_ordered ψ o.2 b)
  fine_ordered (for_all k v a φ) o b = λ x lt. fine_ordered φ o (bind v x b)
  fine_ordered (exists k v a φ) o b = λ x lt. fine_ordered φ o (bind v x b)

  pub progressed-ordered : (table : List Node) → OrderedTable table → (l : Label) →
      ordered_label l ≡ true → ordered_label (progressed N s D table l) ≡ true
  progressed-ordered table order l o =
      every-progressed (λ n c e. ordered e) N s D table
      (λ n b e h. fine_ordered (with_ends e (goal_of_node table n)) (with-ordered e h (goal_of_node table n) (tree-ordered table order n)) b) l o

pub stay_in_order : EndsStayInOrder
stay_in_order N table order = (
  (λ root. waiting-ordered (goal_of_node table root) unbound (tree-ordered table order root)),
  (λ s D l o. progressed-ordered N s D table order l o),
)
