-- Idling is truth over the copies of one set of facts.
use Rattle.std.proofs.Common.{◌≡◌, ℕ, zero, suc, ◌+◌, ◌-◌, ◌<◌, ◌≤◌, Bool, true, false, cond, not, ◌&&◌, ◌||◌, T, eqb, ◌↔◌, List, Some, None, Option, sym, refl, subst, arith, eqb-true, leb-true}
use native.Mathlib.Decide.{dec_lt}
use mathlib.Core.Logic.Iff
use borrow.Author.Tests.{eqb-false}
use Rattle.std.proofs.lemmas.Bool.{and_parts}
use Rattle.goals.specs.declared.time.Span.{Span}
use Rattle.goals.specs.declared.goal.Ends.{Ends}
use Rattle.goals.specs.declared.goal.Node.{Node}
use Rattle.goals.specs.NodeTable.{reaches, ordered, OrderedTable}
use Rattle.labels.specs.declared.binding.Binding.{Binding}
use Rattle.labels.specs.Facts.{Facts, bind, fact}
use Rattle.labels.specs.Goals.{Goal, top, test, equal, neg, conj, disj, next, until, for_all, exists, with_ends, goal_of_node}
use Rattle.labels.specs.Labels.{Label, true_label, false_label, pending, not_label, and_label, or_label, every_pending}
use Rattle.labels.specs.Idling.{every, some, idles, idling}
use Rattle.labels.specs.Sequences.{copies, hourly}
use Rattle.labels.specs.Truth.{AtMost, Within, Until, GoalTrue, LabelTrue}
use Rattle.labels.specs.Order.{ordered_label}
use Rattle.labels.specs.Claims.{IdlingIsTruthOnCopies}
use Rattle.labels.proofs.Logic.{iff_or, T_stable, not_T, and_T, or_T}
use Rattle.labels.proofs.Order.{OrderedGoal, tree-ordered, with-ordered}

module _ (range item : ℕ → Bool) where
  every_T : (n : ℕ) → T (every range item n) ↔ ((x : ℕ) → x < n → T (range x) → T (item x))
  every_T zero = (λ u x lt t. absurd (omega arith), λ f. tt)
  every_T (suc n) =
      let a = and_T (every range item n) (not (range n) || item n) in
      let o = or_T (not (range n)) (item n) in
      let ih = every_T n in (
        (λ h x lt t. elim (dec_lt x n) [
          | yes l ↦ ih.0 (a.0 h).0 x l t
          | no m ↦
              let e : x ≡ n = omega arith in
              subst (λ (y : ℕ). T (item y)) (sym e)
              (T_stable (item n) (λ z. o.0 (a.0 h).1
              ((λ w. (not_T (range n)).0 w (subst (λ (y : ℕ). T (range y)) e t)), z)))
        ]),
        (λ f. a.1 (
          ih.1 (λ x lt t. f x (omega arith) t),
          o.1 (λ p. p.0 ((not_T (range n)).1 (λ t. p.1 (f n (omega arith) t)))),
        )),
      )

  some_T : (n : ℕ) → T (some range item n) ↔ (¬ ((x : ℕ) → x < n → T (range x) → ¬ (T (item x))))
  some_T zero = (λ z f. z, λ f. f (λ x lt t h. absurd (omega arith)))
  some_T (suc n) =
      let o = or_T (some range item n) (range n && item n) in
      let a = and_T (range n) (item n) in
      let ih = some_T n in (
        (λ h f. o.0 h ((λ r. ih.0 r (λ x lt t. f x (omega arith) t)), (λ k. f n (omega arith) (a.0 k).0 (a.0 k).1))),
        (λ f. o.1 (λ p. f (λ x lt t k. elim (dec_lt x n) [
          | yes l ↦ p.0 (ih.1 (λ g. g x l t k))
          | no m ↦
              let e : x ≡ n = omega arith in
              p.1 (a.1 (subst (λ (y : ℕ). T (range y)) e t, subst (λ (y : ℕ). T (item y)) e k))
        ]))),
      )

at_most_lower : (u : Option Span) (lo span : ℕ) → reaches u lo ≡ true → span ≡ lo → AtMost u span
at_most_lower (Some n) lo span o e = let h = leb-true lo n.hours o in omega arith
at_most_lower None lo span o e = tt

-- an until over copies whose parts are true at every copy or at none
module _ (first : ℕ) (e : Ends) (order : ordered e ≡ true) (p q : Bool) (P Q : ℕ → Type 0)
    (f : (i : ℕ) → T p ↔ P i) (g : (i : ℕ) → T q ↔ Q i) (i : ℕ) where
  abbrev lo : ℕ
  lo = e.lower.hours

  within-lower : (d : ℕ) → d ≡ lo → Within e d
  within-lower d x = (omega arith, at_most_lower e.upper lo d order x)

  until-copies : (c : Bool) → eqb e.lower.hours 0 ≡ c → T (cond c q (p && q)) ↔ Until (hourly first) e P Q i
  until-copies true z =
      let w : e.lower.hours ≡ 0 = eqb-true e.lower.hours 0 z in (
        (λ t none. none i (omega arith) (within-lower ((first + i) - (first + i)) (omega arith)) ((g i).0 t)
            (λ k ik ki. absurd (omega arith))),
        (λ u. T_stable q (λ n. u (λ j le w qj ps. n ((g j).1 qj)))),
      )
  until-copies false z =
      let pos : (e.lower.hours ≡ 0) → ⊥ = eqb-false e.lower.hours 0 z in (
        (λ t none. none (i + lo) (omega arith) (within-lower ((first + (i + lo)) - (first + i)) (omega arith))
            ((g (i + lo)).0 ((and_T p q).0 t).1) (λ k ik kj. (f k).0 ((and_T p q).0 t).0)),
        (λ u. (and_T p q).1 (
          T_stable p (λ n. u (λ j le w qj ps.
              let l : e.lower.hours ≤ (first + j) - (first + i) = w.0 in
              n ((f i).1 (ps i (omega arith) (omega arith))))),
          T_stable q (λ n. u (λ j le w qj ps. n ((g j).1 qj))),
        )),
      )

module _ (N : ℕ) (s : Facts) (first : ℕ) where
  abbrev Is : Goal → Binding → ℕ → Type 0
  Is = GoalTrue N (copies s) (hourly first)

  idles_true : (φ : Goal) → OrderedGoal φ → (b : Binding) (i : ℕ) → T (idles N s φ b) ↔ Is φ b i
  unfolding GoalTrue idles OrderedGoal
  idles_true (top k) o b i = Iff.rfl
  idles_true (test k a) o b i = Iff.rfl
  idles_true (equal k t u) o b i = Iff.rfl
  idles_true (neg k φ) o b i = Iff.trans (not_T (idles N s φ b)) (Iff.not (idles_true φ o b i))
  idles_true (conj k φ ψ) o b i =
      Iff.trans (and_T (idles N s φ b) (idles N s ψ b)) (Iff.and (idles_true φ o.0 b i) (idles_true ψ o.1 b i))
  idles_true (disj k φ ψ) o b i =
      Iff.trans (or_T (idles N s φ b) (idles N s ψ b)) (iff_or (idles_true φ o.0 b i) (idles_true ψ o.1 b i))
  idles_true (next k φ) o b i = idles_true φ o b (suc i)
  idles_true (until k e φ ψ) o b i =
      until-copies first e o.0 (idles N s φ b) (idles N s ψ b) (Is φ b) (Is ψ b)
      (idles_true φ o.1 b) (idles_true ψ o.2 b) i (eqb e.lower.hours 0) refl
  idles_true (for_all k v a φ) o b i =
      let h = every_T (λ x. fact s (bind v x b) a) (λ x. idles N s φ (bind v x b)) N in (
        (λ t x lt u. (idles_true φ o (bind v x b) i).0 (h.0 t x lt u)),
        (λ f. h.1 (λ x lt u. (idles_true φ o (bind v x b) i).1 (f x lt u))),
      )
  idles_true (exists k v a φ) o b i =
      let h = some_T (λ x. fact s (bind v x b) a) (λ x. idles N s φ (bind v x b)) N in (
        (λ t none. h.0 t (λ x lt u w. none x lt u ((idles_true φ o (bind v x b) i).0 w))),
        (λ f. h.1 (λ none. f (λ x lt u w. none x lt u ((idles_true φ o (bind v x b) i).1 w)))),
      )

  module _ (table : List Node) (order : OrderedTable table) where
    idling_true : (l : Label) → ordered_label l ≡ true → (i : ℕ) →
        T (idling N s table l) ↔ LabelTrue N (copies s) (hourly first) table l i
    unfolding LabelTrue idling every_pending
    idling_true true_label o i = Iff.rfl
    idling_true false_label o i = Iff.rfl
    idling_true (pending n b e) o i =
        idles_true (with_ends e (goal_of_node table n)) (with-ordered e o (goal_of_node table n) (tree-ordered table order n)) b i
    idling_true (not_label q) o i = Iff.trans (not_T (idling N s table q)) (Iff.not (idling_true q o i))
    idling_true (and_label q r) o i =
        let h = and_parts (ordered_label q) (ordered_label r) o in
        Iff.trans (and_T (idling N s table q) (idling N s table r)) (Iff.and (idling_true q h.0 i) (idling_true r h.1 i))
    idling_true (or_label q r) o i =
        let h = and_parts (ordered_label q) (ordered_label r) o in
        Iff.trans (or_T (idling N s table q) (idling N s table r)) (iff_or (idling_true q h.0 i) (idling_true r h.1 i))

pub idling-is_truth : IdlingIsTruthOnCopies
idling-is_truth N table order s l o first = idling_true N s first table order l o 0
