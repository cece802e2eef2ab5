-- A job knows its opening labels, and the progress of every label that it knows.
use Rattle.std.proofs.Common.{◌≡◌, ℕ, zero, suc, ◌<◌, Bool, true, ◌&&◌, ltb, List, length, get_or, sym, subst, arith, ltb-true, lt-ltb}
use Rattle.std.proofs.lemmas.Bool.{and_parts, and_from}
use Rattle.goals.specs.declared.goal.Variable.{Variable}
use Rattle.goals.specs.declared.goal.Variable.TheVariants.{Outer, Inner}
use Rattle.goals.specs.declared.goal.Ends.{Ends}
use Rattle.goals.specs.declared.goal.Node.{Node}
use Rattle.goals.specs.declared.goal.Node.TheVariants.{True, Test, Equal, Not, And, Or, Next, Until, ForAll, Exists}
use Rattle.goals.specs.NodeTable.{PartsBelow, Rising}
use Rattle.labels.specs.declared.binding.Binding.{Binding}
use Rattle.labels.specs.Facts.{Facts, unbound, bind}
use Rattle.labels.specs.Goals.{Goal, top, test, equal, neg, conj, disj, next, until, for_all, exists, number, own_ends, with_ends, built, goal_of_node}
use Rattle.labels.specs.Labels.{every_pending}
use Rattle.labels.specs.Progress.{later}
use Rattle.labels.specs.Known.{ids_below}
use Rattle.labels.specs.Claims.{LabelsStayKnown}
use Rattle.labels.proofs.Trees.{rising-tree}
use Rattle.labels.proofs.Pending.{Fine, every-progressed}

-- every node of a goal has a number below n
unfoldable pub NumbersBelow : ℕ → Goal → Type 0
NumbersBelow n (top k) = k < n
NumbersBelow n (test k a) = k < n
NumbersBelow n (equal k t u) = k < n
NumbersBelow n (neg k φ) = (k < n) × NumbersBelow n φ
NumbersBelow n (conj k φ ψ) = (k < n) × NumbersBelow n φ × NumbersBelow n ψ
NumbersBelow n (disj k φ ψ) = (k < n) × NumbersBelow n φ × NumbersBelow n ψ
NumbersBelow n (next k φ) = (k < n) × NumbersBelow n φ
NumbersBelow n (until k e φ ψ) = (k < n) × NumbersBelow n φ × NumbersBelow n ψ
NumbersBelow n (for_all k v a φ) = (k < n) × NumbersBelow n φ
NumbersBelow n (exists k v a φ) = (k < n) × NumbersBelow n φ

built-below : (n : ℕ) (part : ℕ → Goal) (k : ℕ) (nd : Node) → k < n → PartsBelow k nd →
    ((x : ℕ) → x < k → NumbersBelow n (part x)) → NumbersBelow n (built part k nd)
unfolding NumbersBelow
built-below n part k True kn p ih = kn
built-below n part k (Test a) kn p ih = kn
built-below n part k (Equal t u) kn p ih = kn
built-below n part k (Not x) kn p ih = (kn, ih x p)
built-below n part k (And x y) kn p ih = (kn, ih x p.0, ih y p.1)
built-below n part k (Or x y) kn p ih = (kn, ih x p.0, ih y p.1)
built-below n part k (Next x) kn p ih = (kn, ih x p)
built-below n part k (Until e x y) kn p ih = (kn, ih x p.0, ih y p.1)
built-below n part k (ForAll v a x) kn p ih = (kn, ih x p)
built-below n part k (Exists v a x) kn p ih = (kn, ih x p)

tree-below : (table : List Node) → Rising table → (n k : ℕ) → k < n → k < length table → NumbersBelow (length table) (goal_of_node table k)
tree-below table rising zero k kn kl = absurd (omega arith)
tree-below table rising (suc n) k kn kl =
    subst (NumbersBelow (length table)) (sym (rising-tree table rising k kl))
    (built-below (length table) (goal_of_node table) k (get_or table k True) kl (rising k kl)
    (λ x xk. tree-below table rising n x (omega arith) (omega arith)))

number-below : (n : ℕ) (φ : Goal) → NumbersBelow n φ → number φ < n
unfolding NumbersBelow
number-below n (top k) p = p
number-below n (test k a) p = p
number-below n (equal k t u) p = p
number-below n (neg k φ) p = p.0
number-below n (conj k φ ψ) p = p.0
number-below n (disj k φ ψ) p = p.0
number-below n (next k φ) p = p.0
number-below n (until k e φ ψ) p = p.0
number-below n (for_all k v a φ) p = p.0
number-below n (exists k v a φ) p = p.0

with-below : (n : ℕ) (e : Ends) (φ : Goal) → NumbersBelow n φ → NumbersBelow n (with_ends e φ)
unfolding NumbersBelow
with-below n e (top k) p = p
with-below n e (test k a) p = p
with-below n e (equal k t u) p = p
with-below n e (neg k φ) p = p
with-below n e (conj k φ ψ) p = p
with-below n e (disj k φ ψ) p = p
with-below n e (next k φ) p = p
with-below n e (until k own φ ψ) p = p
with-below n e (for_all k v a φ) p = p
with-below n e (exists k v a φ) p = p

bind-below : (N : ℕ) (v : Variable) (x : ℕ) (b : Binding) → x < N → ids_below N b ≡ true → ids_below N (bind v x b) ≡ true
bind-below N Outer x b lt i = and_from (ltb x N) (ltb b.inner N) (lt-ltb x N lt) (and_parts (ltb b.outer N) (ltb b.inner N) i).1
bind-below N Inner x b lt i = and_from (ltb b.outer N) (ltb x N) (and_parts (ltb b.outer N) (ltb b.inner N) i).0 (lt-ltb x N lt)

module _ (nodes N : ℕ) where
  abbrev ok : ℕ → Binding → Ends → Bool
  ok n b e = ltb n nodes && ids_below N b

  ok_from : (n : ℕ) (b : Binding) (e : Ends) → n < nodes → ids_below N b ≡ true → ok n b e ≡ true
  ok_from n b e lt i = and_from (ltb n nodes) (ids_below N b) (lt-ltb n nodes lt) i

  fine_below : (s : Facts) (D : ℕ) (φ : Goal) → NumbersBelow nodes φ → (b : Binding) → ids_below N b ≡ true → Fine ok N s D φ b
  unfolding NumbersBelow Fine
  fine_below s D (top k) p b i = tt
  fine_below s D (test k a) p b i = tt
  fine_below s D (equal k t u) p b i = tt
  fine_below s D (neg k φ) p b i = fine_below s D φ p.1 b i
  fine_below s D (conj k φ ψ) p b i = (fine_below s D φ p.1 b i, fine_below s D ψ p.2 b i)
  fine_below s D (disj k φ ψ) p b i = (fine_below s D φ p.1 b i, fine_below s D ψ p.2 b i)
  fine_below s D (next k φ) p b i = ok_from (number φ) b (own_ends φ) (number-below nodes φ p.1) i
  fine_below s D (until k e φ ψ) p b i =
      (ok_from k b (later D e) p.0 i, fine_below s D φ p.1 b i, fine_below s D ψ p.2 b i)
  fine_below s D (for_all k v a φ) p b i = λ x lt. fine_below s D φ p.1 (bind v x b) (bind-below N v x b lt i)
  fine_below s D (exists k v a φ) p b i = λ x lt. fine_below s D φ p.1 (bind v x b) (bind-below N v x b lt i)

pub stay_known : LabelsStayKnown
unfolding every_pending
stay_known N table pos rising = (
  (λ root rl. ok_from (length table) N (number (goal_of_node table root)) unbound (own_ends (goal_of_node table root))
      (number-below (length table) (goal_of_node table root) (tree-below table rising (suc root) root (omega arith) rl))
      (and_from (ltb 0 N) (ltb 0 N) (lt-ltb 0 N pos) (lt-ltb 0 N pos))),
  (λ s D l o.
      every-progressed (ok (length table) N) N s D table
      (λ n b e h.
      let p = and_parts (ltb n (length table)) (ids_below N b) h in
      let nl : n < length table = ltb-true n (length table) p.0 in
      fine_below (length table) N s D (with_ends e (goal_of_node table n))
      (with-below (length table) e (goal_of_node table n) (tree-below table rising (suc n) n (omega arith) nl)) b p.1)
      l o),
)
