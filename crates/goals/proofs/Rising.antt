-- The ends of a goal that was read rise.
use Rattle.std.proofs.Common.{◌≡◌, ℕ, ◌<◌, true, ◌&&◌, leb, List, length, get_or, refl, ap, ◌∙◌, subst}
use Rattle.std.proofs.lemmas.Bool.{and_parts, and_from}
use Rattle.goals.specs.declared.scope.Scope.{Scope}
use Rattle.goals.specs.declared.goal.Node.{Node}
use Rattle.goals.specs.declared.goal.Node.TheVariants as node
use Rattle.goals.specs.Tokens.{value}
use Rattle.goals.specs.Vocabulary.{Vocabulary}
use Rattle.goals.specs.Syntax as syntax
use Rattle.goals.specs.Scopes.{inside, deeper}
use Rattle.goals.specs.Conditions.{ranged_interval, ranged_prefix, ranged_joint, ranged-formula, ranged-clause, ranged-item}
use Rattle.goals.specs.Tree.{Tree, ends_of, simple_tree, prefix_tree, joint_tree, formula-tree, clause-tree, item-tree}
use Rattle.goals.specs.Layout.{laid}
use Rattle.goals.specs.NodeTable.{ordered, ordered_node}
use Rattle.goals.proofs.Ordered.{all-at, tree_rises, laid_rises}

module _ (V : Vocabulary) where
  interval_rises : (e : syntax.Interval) → ranged_interval V e ≡ true → ordered (ends_of e) ≡ true
  interval_rises syntax.unwritten h = refl
  interval_rises (syntax.from_to lo hi) h = (and_parts (leb (value hi) 10000) (leb (value lo) (value hi)) (and_parts (leb (value lo) 10000) (leb (value hi) 10000 && leb (value lo) (value hi)) h).1).1
  interval_rises (syntax.from_on lo) h = refl

  simple_rises : (s : Scope) (x : syntax.Simple) → tree_rises (simple_tree V s x) ≡ true
  simple_rises s syntax.truth = refl
  simple_rises s (syntax.test t) = refl
  simple_rises s (syntax.equal x y) = refl

  prefix_rises : (s : Scope) (x : syntax.Prefix) (t : Tree) → ranged_prefix V x ≡ true → tree_rises t ≡ true → tree_rises (prefix_tree V s x t) ≡ true
  prefix_rises s (syntax.unary syntax.not) t h g = g
  prefix_rises s (syntax.unary syntax.next) t h g = g
  prefix_rises s (syntax.timed syntax.eventually e) t h g = and_from (ordered (ends_of e)) (tree_rises t) (interval_rises e h) g
  prefix_rises s (syntax.timed syntax.henceforth e) t h g = and_from (ordered (ends_of e)) (tree_rises t) (interval_rises e h) g
  prefix_rises s (syntax.quantified syntax.for_all v b) t h g = g
  prefix_rises s (syntax.quantified syntax.exists v b) t h g = g

  joint_rises : (j : syntax.Joint) (t u : Tree) → ranged_joint V j ≡ true → tree_rises t ≡ true → tree_rises u ≡ true → tree_rises (joint_tree V j t u) ≡ true
  joint_rises (syntax.until e) t u h f g = and_from (ordered (ends_of e)) (tree_rises t && tree_rises u) (interval_rises e h) (and_from (tree_rises t) (tree_rises u) f g)
  joint_rises syntax.implies t u h f g = and_from (tree_rises t) (tree_rises u) f g

  mutual
    unfolding ranged-formula ranged-clause ranged-item formula-tree clause-tree item-tree

    pub formula_rises : (s : Scope) (f : syntax.Formula) → ranged-formula V f ≡ true → tree_rises (formula-tree V s f) ≡ true
    formula_rises s (syntax.one_clause c) h = clause_rises s c h
    formula_rises s (syntax.either f c) h = let p = and_parts (ranged-formula V f) (ranged-clause V c) h in and_from _ _ (formula_rises s f p.0) (clause_rises s c p.1)

    clause_rises : (s : Scope) (c : syntax.Clause) → ranged-clause V c ≡ true → tree_rises (clause-tree V s c) ≡ true
    clause_rises s (syntax.one_item i) h = item_rises s i h
    clause_rises s (syntax.both c i) h = let p = and_parts (ranged-clause V c) (ranged-item V i) h in and_from _ _ (clause_rises s c p.0) (item_rises s i p.1)

    item_rises : (s : Scope) (i : syntax.Item) → ranged-item V i ≡ true → tree_rises (item-tree V s i) ≡ true
    item_rises s (syntax.simple x) h = simple_rises s x
    item_rises s (syntax.prefixed x i) h = let p = and_parts (ranged_prefix V x) (ranged-item V i) h in prefix_rises s x (item-tree V (inside s x) i) p.0 (item_rises (inside s x) i p.1)
    item_rises s (syntax.group f) h = formula_rises (deeper s) f h
    item_rises s (syntax.pair a j b) h =
        let p = and_parts (ranged-formula V a) (ranged_joint V j && ranged-formula V b) h in
        let q = and_parts (ranged_joint V j) (ranged-formula V b) p.1 in
        joint_rises j (formula-tree V (deeper s) a) (formula-tree V (deeper s) b) q.0 (formula_rises (deeper s) a p.0) (formula_rises (deeper s) b q.1)

pub nodes_rise : (ns : List Node) (t : Tree) → ns ≡ laid t 0 → tree_rises t ≡ true → (k : ℕ) → k < length ns → ordered_node (get_or ns k node.True) ≡ true
nodes_rise ns t e h k l = ap (λ m. ordered_node (get_or m k node.True)) e ∙ all-at (λ i n. ordered_node n) 0 (laid t 0) k (laid_rises t 0 h) (subst (λ m. k < length m) e l)
