-- What holds of each node of a table with its number.
use Rattle.std.proofs.Common.{◌≡◌, ℕ, zero, suc, ◌+◌, ◌<◌, Bool, true, ◌&&◌, ltb, List, [], ◌∷◌, ◌++◌, length, get_or, sym, refl, ap, ◌∙◌, add-zero, arith, ltb-true, lt-ltb}
use Rattle.std.proofs.lemmas.Bool.{and_parts, and_from}
use Rattle.goals.specs.declared.goal.Node.{Node}
use Rattle.goals.specs.declared.goal.Node.TheVariants as node
use Rattle.goals.specs.Tree.{Tree, always, test, equal, not, next, and, or, until, for_all, exists}
use Rattle.goals.specs.Layout.{laid, below, size}
use Rattle.goals.specs.NodeTable.{PartsBelow, ordered, ordered_node}
use Rattle.goals.specs.GoalTable.{parts_below}
use Rattle.goals.proofs.Making.{length-laid}

two-below : (a b k : ℕ) → (ltb a k && ltb b k) ≡ true → (a < k) × (b < k)
two-below a b k h = let p = and_parts (ltb a k) (ltb b k) h in (ltb-true a k p.0, ltb-true b k p.1)

pub parts_from : (k : ℕ) (n : Node) → parts_below k n ≡ true → PartsBelow k n
parts_from k node.True h = tt
parts_from k (node.Test a) h = tt
parts_from k (node.Equal x y) h = tt
parts_from k (node.Not a) h = ltb-true a k h
parts_from k (node.And a b) h = two-below a b k h
parts_from k (node.Or a b) h = two-below a b k h
parts_from k (node.Next a) h = ltb-true a k h
parts_from k (node.Until e a b) h = two-below a b k h
parts_from k (node.ForAll v t a) h = ltb-true a k h
parts_from k (node.Exists v t a) h = ltb-true a k h

-- a test of each node with its number, the first of which is b
abbrev pub all_from : (ℕ → Node → Bool) → ℕ → List Node → Bool
all_from P b [] = true
all_from P b (n ∷ ns) = P b n && all_from P (suc b) ns

pub all-at : (P : ℕ → Node → Bool) (b : ℕ) (ns : List Node) (k : ℕ) → all_from P b ns ≡ true → k < length ns → P (b + k) (get_or ns k node.True) ≡ true
all-at P b [] k h l = absurd (omega arith)
all-at P b (n ∷ ns) zero h l = ap (λ i. P i n) (add-zero b) ∙ (and_parts (P b n) (all_from P (suc b) ns) h).0
all-at P b (n ∷ ns) (suc k) h l = ap (λ i. P i (get_or ns k node.True)) (let e : b + suc k ≡ suc b + k = omega arith in e) ∙ all-at P (suc b) ns k (and_parts (P b n) (all_from P (suc b) ns) h).1 (omega arith)

pub all_append : (P : ℕ → Node → Bool) (b : ℕ) (xs ys : List Node) → all_from P b xs ≡ true → all_from P (b + length xs) ys ≡ true → all_from P b (xs ++ ys) ≡ true
all_append P b [] ys h g = ap (λ i. all_from P i ys) (sym (add-zero b)) ∙ g
all_append P b (x ∷ xs) ys h g =
    and_from (P b x) (all_from P (suc b) (xs ++ ys)) (and_parts (P b x) (all_from P (suc b) xs) h).0
    (all_append P (suc b) xs ys (and_parts (P b x) (all_from P (suc b) xs) h).1 (ap (λ i. all_from P i ys) (let e : suc b + length xs ≡ b + suc (length xs) = omega arith in e) ∙ g))

-- the nodes of a tree
module _ (P : ℕ → Node → Bool) where
  all_one : (t : Tree) (b : ℕ) (n : Node) → all_from P b (laid t b) ≡ true → P (b + size t) n ≡ true → all_from P b (laid t b ++ n ∷ []) ≡ true
  all_one t b n h g = all_append P b (laid t b) (n ∷ []) h (and_from (P (b + length (laid t b)) n) true (ap (λ i. P (b + i) n) (length-laid t b) ∙ g) refl)

  all_two : (t u : Tree) (b : ℕ) (n : Node) → all_from P b (laid t b) ≡ true → all_from P (b + size t) (laid u (b + size t)) ≡ true → P (b + size t + size u) n ≡ true → all_from P b (laid t b ++ (laid u (b + size t) ++ n ∷ [])) ≡ true
  all_two t u b n h g k =
      all_append P b (laid t b) (laid u (b + size t) ++ n ∷ []) h
      (ap (λ i. all_from P (b + i) (laid u (b + size t) ++ n ∷ [])) (length-laid t b) ∙ all_one u (b + size t) n g k)

below_two : (a b k : ℕ) → a < k → b < k → (ltb a k && ltb b k) ≡ true
below_two a b k h g = and_from (ltb a k) (ltb b k) (lt-ltb a k h) (lt-ltb b k g)

pub laid-ordered : (t : Tree) (b : ℕ) → all_from parts_below b (laid t b) ≡ true
laid-ordered always b = refl
laid-ordered (test a) b = refl
laid-ordered (equal x y) b = refl
laid-ordered (not t) b = all_one parts_below t b _ (laid-ordered t b) (lt-ltb (b + below t) (b + size t) (omega arith))
laid-ordered (next t) b = all_one parts_below t b _ (laid-ordered t b) (lt-ltb (b + below t) (b + size t) (omega arith))
laid-ordered (for_all v a t) b = all_one parts_below t b _ (laid-ordered t b) (lt-ltb (b + below t) (b + size t) (omega arith))
laid-ordered (exists v a t) b = all_one parts_below t b _ (laid-ordered t b) (lt-ltb (b + below t) (b + size t) (omega arith))
laid-ordered (and t u) b = all_two parts_below t u b _ (laid-ordered t b) (laid-ordered u (b + size t)) (below_two (b + below t) (b + size t + below u) (b + size t + size u) (omega arith) (omega arith))
laid-ordered (or t u) b = all_two parts_below t u b _ (laid-ordered t b) (laid-ordered u (b + size t)) (below_two (b + below t) (b + size t + below u) (b + size t + size u) (omega arith) (omega arith))
laid-ordered (until e t u) b = all_two parts_below t u b _ (laid-ordered t b) (laid-ordered u (b + size t)) (below_two (b + below t) (b + size t + below u) (b + size t + size u) (omega arith) (omega arith))

-- the ends in a tree rise
abbrev pub tree_rises : Tree → Bool
tree_rises always = true
tree_rises (test a) = true
tree_rises (equal x y) = true
tree_rises (not t) = tree_rises t
tree_rises (next t) = tree_rises t
tree_rises (and t u) = tree_rises t && tree_rises u
tree_rises (or t u) = tree_rises t && tree_rises u
tree_rises (until e t u) = ordered e && (tree_rises t && tree_rises u)
tree_rises (for_all v a t) = tree_rises t
tree_rises (exists v a t) = tree_rises t

pub laid_rises : (t : Tree) (b : ℕ) → tree_rises t ≡ true → all_from (λ k n. ordered_node n) b (laid t b) ≡ true
laid_rises always b h = refl
laid_rises (test a) b h = refl
laid_rises (equal x y) b h = refl
laid_rises (not t) b h = all_one (λ k n. ordered_node n) t b _ (laid_rises t b h) refl
laid_rises (next t) b h = all_one (λ k n. ordered_node n) t b _ (laid_rises t b h) refl
laid_rises (for_all v a t) b h = all_one (λ k n. ordered_node n) t b _ (laid_rises t b h) refl
laid_rises (exists v a t) b h = all_one (λ k n. ordered_node n) t b _ (laid_rises t b h) refl
laid_rises (and t u) b h = let g = and_parts (tree_rises t) (tree_rises u) h in all_two (λ k n. ordered_node n) t u b _ (laid_rises t b g.0) (laid_rises u (b + size t) g.1) refl
laid_rises (or t u) b h = let g = and_parts (tree_rises t) (tree_rises u) h in all_two (λ k n. ordered_node n) t u b _ (laid_rises t b g.0) (laid_rises u (b + size t) g.1) refl
laid_rises (until e t u) b h =
    let f = and_parts (ordered e) (tree_rises t && tree_rises u) h in
    let g = and_parts (tree_rises t) (tree_rises u) f.1 in
    all_two (λ k n. ordered_node n) t u b _ (laid_rises t b g.0) (laid_rises u (b + size t) g.1) f.0
