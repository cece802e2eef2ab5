-- Trees are laid into the table, part by part.
use Rattle.std.proofs.Common.{◌≡◌, ℕ, ◌+◌, ◌-◌, ◌<◌, ◌≤◌, List, [], ◌∷◌, ◌++◌, length, sym, refl, ap, ◌∙◌, subst, ap₂, append_assoc, append-nil, le_refl, add-zero, arith, length-append}
use Rattle.goals.specs.declared.goal.Ends.{Ends}
use Rattle.goals.specs.declared.goal.Node.{Node}
use Rattle.goals.specs.declared.goal.Node.TheVariants as node
use Rattle.goals.specs.declared.scope.Scope.{Scope}
use Rattle.goals.specs.declared.progress.Progress.{Progress}
use Rattle.goals.specs.declared.progress.Prefix.{Prefix}
use Rattle.goals.specs.declared.progress.Prefix.TheVariants as prefix
use Rattle.goals.specs.declared.progress.Joint.{Joint}
use Rattle.goals.specs.Vocabulary.{Vocabulary}
use Rattle.goals.specs.Syntax as syntax
use Rattle.goals.specs.Conditions.{prefix_nodes, joint_nodes}
use Rattle.goals.specs.Tree.{Tree, always, test, equal, not, next, and, or, until, for_all, exists, atom_of, ends_of, prefix_tree, joint_tree}
use Rattle.goals.specs.Scopes.{newest, bind}
use Rattle.goals.specs.Layout.{laid, below, size}
use Rattle.goals.specs.Promises.{left, items, Added, Closed, closed, meant, opened, JointRead, joint_meant, joint_opened, joint_node, Made}
use Rattle.goals.proofs.Moves.{added-left, closed-left}

pub length-laid : (t : Tree) (b : ℕ) → length (laid t b) ≡ size t
length-laid always b = refl
length-laid (test a) b = refl
length-laid (equal x y) b = refl
length-laid (not t) b = length-append (laid t b) _ ∙ (let e = length-laid t b in omega (arith, e))
length-laid (next t) b = length-append (laid t b) _ ∙ (let e = length-laid t b in omega (arith, e))
length-laid (and t u) b = length-append (laid t b) _ ∙ (let d = length-append (laid u (b + size t)) (node.And (b + below t) (b + size t + below u) ∷ []) in let e = length-laid t b in let f = length-laid u (b + size t) in omega (arith, d, e, f))
length-laid (or t u) b = length-append (laid t b) _ ∙ (let d = length-append (laid u (b + size t)) (node.Or (b + below t) (b + size t + below u) ∷ []) in let e = length-laid t b in let f = length-laid u (b + size t) in omega (arith, d, e, f))
length-laid (until x t u) b = length-append (laid t b) _ ∙ (let d = length-append (laid u (b + size t)) (node.Until x (b + below t) (b + size t + below u) ∷ []) in let e = length-laid t b in let f = length-laid u (b + size t) in omega (arith, d, e, f))
length-laid (for_all v a t) b = length-append (laid t b) _ ∙ (let e = length-laid t b in omega (arith, e))
length-laid (exists v a t) b = length-append (laid t b) _ ∙ (let e = length-laid t b in omega (arith, e))

pub longer : {p q : Progress} {i : ℕ} {t : Tree} → Made p q i t → length (items q) ≡ length (items p) + size t
longer {p} {q} {i} {t} m = ap length m.grows ∙ length-append (items p) (laid t (length (items p))) ∙ ap (λ n. length (items p) + n) (length-laid t (length (items p)))

-- the left part of two is there, and the node over both is counted
pub record LeftMade (p q : Progress) (i : ℕ) (t : Tree) : Type 0 where
  pub grows : items q ≡ items p ++ laid t (length (items p))
  pub number : i ≡ length (items p) + below t
  pub count_is : q.count ≡ p.count + size t + 1
  pub further : left q < left p

pub record AfterMade (p q : Progress) : Type 0 where
  pub nodes_same : items q ≡ items p
  pub count_same : q.count ≡ p.count
  pub low : left q ≤ left p

module _ {p q u v z : Progress} {i j l : ℕ} {t w : Tree} (x : Tree) (N : ℕ → ℕ → Node) where
  pub made-two : ((b : ℕ) → laid x b ≡ laid t b ++ (laid w (b + size t) ++ N (b + below t) (b + size t + below w) ∷ [])) → below x ≡ size t + size w → LeftMade p q i t → Made q u j w → AfterMade u v → Added v z (N i j) l → Made p z l x
  made-two e b m r s a =
      let n = length (items p) in
      let k : length (items q) ≡ n + size t = ap length m.grows ∙ length-append (items p) (laid t n) ∙ ap (λ y. n + y) (length-laid t n) in
      let f : length (items u) ≡ length (items q) + size w = longer r in
      record {
        grows =
            a.grows ∙ ap (λ y. y ++ N i j ∷ []) (s.nodes_same ∙ r.grows ∙ ap₂ (λ y g. y ++ laid w g) m.grows k)
            ∙ append_assoc (items p ++ laid t n) (laid w (n + size t)) (N i j ∷ []) ∙ append_assoc (items p) (laid t n) (laid w (n + size t) ++ N i j ∷ [])
            ∙ ap₂ (λ y g. items p ++ (laid t n ++ (laid w (n + size t) ++ N y g ∷ []))) m.number (r.number ∙ ap (λ y. y + below w) k)
            ∙ ap (λ y. items p ++ y) (sym (e n));
        number = let c = a.number in let d = ap length s.nodes_same in omega (arith, c, d, f, k, b);
        count_is = let c = a.count_same in let d = s.count_same in let g = r.count_is in let h = m.count_is in omega (arith, c, d, g, h, b);
        further = let c = added-left a in let d = s.low in let g = r.further in let h = m.further in omega (arith, c, d, g, h);
      }

-- lists of nodes
one-shape : (A : List Node) (t : Tree) (N : ℕ → Node) (n : ℕ) → (A ++ []) ++ (laid t (n + 0) ++ N (n + 0 + below t) ∷ []) ≡ A ++ (laid t n ++ N (n + below t) ∷ [])
one-shape A t N n = ap₂ (λ a k. a ++ (laid t k ++ N (k + below t) ∷ [])) (append-nil A) (add-zero n)

eventual_shape : (A : List Node) (t : Tree) (e : Ends) (n : ℕ) → (A ++ node.True ∷ []) ++ (laid t (n + 1) ++ node.Until e n (n + 1 + below t) ∷ []) ≡ A ++ laid (until e always t) n
eventual_shape A t e n = append_assoc A (node.True ∷ []) (laid t (n + 1) ++ node.Until e n (n + 1 + below t) ∷ []) ∙ ap (λ k. A ++ node.True ∷ (laid t (n + 1) ++ node.Until e k (n + 1 + below t) ∷ [])) (sym (add-zero n))

three : (L : List Node) (x y z : Node) → L ++ (x ∷ y ∷ z ∷ []) ≡ ((L ++ x ∷ []) ++ y ∷ []) ++ z ∷ []
three L x y z = sym (append_assoc (L ++ x ∷ []) (y ∷ []) (z ∷ []) ∙ append_assoc L (x ∷ []) (y ∷ z ∷ []))

always-shape : (A : List Node) (t : Tree) (e : Ends) (n : ℕ) → (A ++ node.True ∷ []) ++ (laid t (n + 1) ++ (node.Not (n + 1 + below t) ∷ node.Until e n (n + 1 + size t) ∷ node.Not (n + 1 + size t + 1) ∷ [])) ≡ A ++ laid (not (until e always (not t))) n
always-shape A t e n =
    append_assoc A (node.True ∷ []) _
    ∙ ap (λ l. A ++ node.True ∷ l) (three (laid t (n + 1)) (node.Not (n + 1 + below t)) (node.Until e n (n + 1 + size t)) (node.Not (n + 1 + size t + 1)))
    ∙ ap₂ (λ k m. A ++ node.True ∷ (((laid t (n + 1) ++ node.Not (n + 1 + below t) ∷ []) ++ node.Until e k (n + 1 + size t) ∷ []) ++ node.Not m ∷ [])) (sym (add-zero n)) (omega arith)

-- the nodes of a prefix
module _ {p q u z : Progress} {j l : ℕ} {t : Tree} (r : Made q u j t) (c : left q < left p) where
  module _ (x : Prefix) (d : Closed u z x j l) where
    shape : (v : Tree) (front : List Node) → items q ≡ items p ++ front → q.count ≡ p.count + (size v - size t) → size t ≤ size v → length (closed x j (length (items u))) + (length front + size t) ≡ size v
        → (items p ++ front) ++ (laid t (length (items p) + length front) ++ closed x (length (items p) + length front + below t) (length (items p) + length front + size t)) ≡ items p ++ laid v (length (items p)) → Made p z l v
    shape v front g n h s e =
        let k : length (items q) ≡ length (items p) + length front = ap length g ∙ length-append (items p) front in
        let f : length (items u) ≡ length (items q) + size t = longer r in
        let grows-u : items u ≡ (items p ++ front) ++ laid t (length (items p) + length front) = r.grows ∙ ap₂ (λ y i. y ++ laid t i) g k in
        let num : j ≡ length (items p) + length front + below t = r.number ∙ ap (λ y. y + below t) k in
        let base : length (items u) ≡ length (items p) + length front + size t = f ∙ ap (λ y. y + size t) k in
        let grown : items z ≡ items p ++ laid v (length (items p)) =
        d.grows ∙ ap (λ y. y ++ closed x j (length (items u))) grows-u
        ∙ append_assoc (items p ++ front) (laid t (length (items p) + length front)) (closed x j (length (items u)))
        ∙ ap₂ (λ y i. (items p ++ front) ++ (laid t (length (items p) + length front) ++ closed x y i)) num base ∙ e
        in
        let long : length (items z) ≡ length (items p) + size v = ap length grown ∙ length-append (items p) (laid v (length (items p))) ∙ ap (λ y. length (items p) + y) (length-laid v (length (items p))) in
        record {
          grows = grown;
          number = let a = d.last in omega (arith, a, long);
          count_is = let a = d.count_same in let b = r.count_is in omega (arith, a, b, n, h);
          further = let a = closed-left d in let b = r.further in omega (arith, a, b, c);
        }

  pub made-prefix : (V : Vocabulary) (s : Scope) (y : syntax.Prefix) → Closed u z (meant V s y (length (items p))) j l → items q ≡ items p ++ opened y → q.count ≡ p.count + prefix_nodes y → Made p z l (prefix_tree V s y t)
  made-prefix V s (syntax.unary syntax.not) d g n = shape prefix.Not d (not t) [] g (omega (arith, n)) (omega arith) (omega arith) (one-shape (items p) t (λ k. node.Not k) (length (items p)))
  made-prefix V s (syntax.unary syntax.next) d g n = shape prefix.Next d (next t) [] g (omega (arith, n)) (omega arith) (omega arith) (one-shape (items p) t (λ k. node.Next k) (length (items p)))
  made-prefix V s (syntax.timed syntax.eventually e) d g n = shape (prefix.Eventually (ends_of e) (length (items p))) d (until (ends_of e) always t) (node.True ∷ []) g (omega (arith, n)) (omega arith) (omega arith) (eventual_shape (items p) t (ends_of e) (length (items p)))
  made-prefix V s (syntax.timed syntax.henceforth e) d g n = shape (prefix.Always (ends_of e) (length (items p))) d (not (until (ends_of e) always (not t))) (node.True ∷ []) g (omega (arith, n)) (omega arith) (omega arith) (always-shape (items p) t (ends_of e) (length (items p)))
  made-prefix V s (syntax.quantified syntax.for_all v b) d g n = shape _ d (for_all _ _ t) [] g (omega (arith, n)) (omega arith) (omega arith) (one-shape (items p) t (λ k. node.ForAll (newest s.letters) (atom_of V (bind s.letters v) b) k) (length (items p)))
  made-prefix V s (syntax.quantified syntax.exists v b) d g n = shape _ d (exists _ _ t) [] g (omega (arith, n)) (omega arith) (omega arith) (one-shape (items p) t (λ k. node.Exists (newest s.letters) (atom_of V (bind s.letters v) b) k) (length (items p)))

-- the nodes of a bracket
after-not : {p q u : Progress} {i : ℕ} {t : Tree} (m : Made p q i t) (n : ℕ) → items u ≡ items q ++ node.Not i ∷ [] → n ≡ length (items q) → u.count ≡ q.count + 2 → left u < left q → LeftMade p u n (not t)
after-not {p} {q} {u} {i} {t} m n g e c f = record {
  grows = g ∙ ap (λ y. y ++ node.Not i ∷ []) m.grows ∙ append_assoc (items p) (laid t (length (items p))) (node.Not i ∷ []) ∙ ap (λ k. items p ++ (laid t (length (items p)) ++ node.Not k ∷ [])) m.number;
  number = let a = longer m in omega (arith, e, a);
  count_is = let a = m.count_is in omega (arith, c, a);
  further = let a = m.further in omega (arith, a, f);
}

after_one : {p q u : Progress} {i : ℕ} {t : Tree} (m : Made p q i t) → items u ≡ items q → u.count ≡ q.count + 1 → left u < left q → LeftMade p u i t
after_one m g c f = record {
  grows = g ∙ m.grows;
  number = m.number;
  count_is = let a = m.count_is in omega (arith, c, a);
  further = let a = m.further in omega (arith, a, f);
}

pub made-both : {p q q1 u z : Progress} {i j l : ℕ} {t w : Tree} → Made p q i t → items q1 ≡ items q → q1.count ≡ q.count + 1 → left q1 < left q → Made q1 u j w → Added u z (node.And i j) l → Made p z l (and t w)
made-both {u = u} m g c f r a = made-two (and _ _) (λ x y. node.And x y) (λ b. refl) refl (after_one m g c f) r (record { nodes_same = refl; count_same = refl; low = le_refl (left u) }) a

pub made-either : {p q q1 u z : Progress} {i j l : ℕ} {t w : Tree} → Made p q i t → items q1 ≡ items q → q1.count ≡ q.count + 1 → left q1 < left q → Made q1 u j w → Added u z (node.Or i j) l → Made p z l (or t w)
made-either {u = u} m g c f r a = made-two (or _ _) (λ x y. node.Or x y) (λ b. refl) refl (after_one m g c f) r (record { nodes_same = refl; count_same = refl; low = le_refl (left u) }) a

module _ {p q q1 u v z : Progress} {i j l : ℕ} {t w : Tree} (V : Vocabulary) (m : Made p q i t) (r : Made q1 u j w) (s : AfterMade u v) (f : left q1 < left q) where
  by-joint : (y : syntax.Joint) → items q1 ≡ items q ++ joint_opened y i → q1.count ≡ q.count + joint_nodes y → Added v z (joint_node (joint_meant y i (length (items q))) j) l → Made p z l (joint_tree V y t w)
  by-joint (syntax.until e) g c a = made-two (until (ends_of e) t w) (λ x y. node.Until (ends_of e) x y) (λ b. refl) refl (after_one m (g ∙ append-nil (items q)) c f) r s a
  by-joint syntax.implies g c a = made-two (or (not t) w) (λ x y. node.Or x y) (λ b. refl) refl (after-not m (length (items q)) g refl c f) r s a

pub made_pair : {V : Vocabulary} {p q q1 u v z : Progress} {i j l : ℕ} {t w : Tree} {x : Joint} (m : Made p q i t) (d : JointRead V i q q1 x) → Made q1 u j w → AfterMade u v → Added v z (joint_node x j) l → Made p z l (joint_tree V d.written t w)
made_pair {V} {q = q} {v = v} {z = z} {i = i} {j = j} {l = l} m d r s a =
    by-joint V m r s d.further d.written d.grows d.count_is (subst (λ y. Added v z (joint_node y j) l) d.joint_is a)
