-- A label is true at a state exactly when its progress is true at the next.
use Rattle.std.proofs.Common.{◌≡◌, ℕ, suc, ◌-◌, Bool, true, false, cond, T, ltb, ◌↔◌, List, sym, refl, ltb-false, ltb-true}
use mathlib.Core.Logic.Iff
use Rattle.goals.specs.declared.goal.Ends.{Ends}
use Rattle.goals.specs.declared.goal.Node.{Node}
use Rattle.labels.specs.declared.binding.Binding.{Binding}
use Rattle.labels.specs.Facts.{Facts, bind, fact, alike}
use Rattle.labels.specs.Goals.{Goal, top, test, equal, neg, conj, disj, next, until, for_all, exists, with_ends, goal_of_node}
use Rattle.labels.specs.Labels.{Label, true_label, false_label, pending, not_label, and_label, or_label, waiting}
use Rattle.labels.specs.Joining.{conjoin, disjoin}
use Rattle.labels.specs.Progress.{passed, later, rest, settled, progress, progressed}
use Rattle.labels.specs.Sequences.{NeverFalls}
use Rattle.labels.specs.Truth.{Until, GoalTrue, LabelTrue}
use Rattle.labels.specs.Claims.{Progression}
use Rattle.labels.proofs.Logic.{iff_or, iff_at}
use Rattle.labels.proofs.TwoValued.{goal_stable}
use Rattle.labels.proofs.Joining.{negate_true, conjoin_true, disjoin_true, each_true, some_true}
use Rattle.labels.proofs.Trees.{Placed, placed, found, placed-with}
use Rattle.labels.proofs.Untils.{Later, until-after, until_now, until-rest, until-passed}

module _ (N : ℕ) (table : List Node) (state : ℕ → Facts) (hour : ℕ → ℕ) where
  abbrev At : Label → ℕ → Type 0
  At = LabelTrue N state hour table

  abbrev Is : Goal → Binding → ℕ → Type 0
  Is = GoalTrue N state hour

  settled_true : (c : Bool) (j : ℕ) → T c ↔ At (settled c) j
  unfolding LabelTrue
  settled_true true j = Iff.rfl
  settled_true false j = Iff.rfl

  pub waiting_true : (φ : Goal) → Placed (goal_of_node table) φ → (b : Binding) (j : ℕ) →
      GoalTrue N state hour φ b j ↔ LabelTrue N state hour table (waiting φ b) j
  unfolding LabelTrue
  waiting_true φ p b j = iff_at (λ (χ : Goal). Is χ b j) (sym (found (goal_of_node table) φ p))

  module _ (timed : NeverFalls hour) (i : ℕ) where
    abbrev D : ℕ
    D = hour (suc i) - hour i

    abbrev by : Goal → Binding → Label
    by = progress N (state i) D

    -- what is left of an until that is found by its number, and the until from the progress of its parts
    module _ (k : ℕ) (e : Ends) (φ ψ : Goal) (b : Binding)
        (here : (f : Ends) → with_ends f (goal_of_node table k) ≡ until k f φ ψ) where
      left-true : (f : Ends) (j : ℕ) → Until hour f (Is φ b) (Is ψ b) j ↔ At (pending k b f) j
      unfolding LabelTrue GoalTrue
      left-true f j = iff_at (λ (χ : Goal). Is χ b j) (sym (here f))

      rest-true : (c : Bool) → passed D e.upper ≡ c →
          Later hour e (Is φ b) (Is ψ b) i ↔ At (cond c false_label (pending k b (later D e))) (suc i)
      unfolding LabelTrue
      rest-true true h = (until-passed hour timed e (Is φ b) (Is ψ b) i h, λ z. absurd z)
      rest-true false h =
          Iff.trans (until-rest hour timed e (Is φ b) (Is ψ b) i h) (left-true (later D e) (suc i))

      until-by : (c : Bool) (p q : Label) → ltb 0 e.lower.hours ≡ c →
          Is φ b i ↔ At p (suc i) → Is ψ b i ↔ At q (suc i) →
          Until hour e (Is φ b) (Is ψ b) i
          ↔ At (elim c [ true ↦ conjoin p (rest D k b e) | false ↦ disjoin q (conjoin p (rest D k b e)) ]) (suc i)
      until-by c p q h f g = go c h
        where
          r : Label
          r = rest D k b e

          both : (Is φ b i × Later hour e (Is φ b) (Is ψ b) i) ↔ At (conjoin p (rest D k b e)) (suc i)
          both =
              Iff.trans (Iff.and f (rest-true (passed D e.upper) refl))
              (Iff.symm (conjoin_true N state hour table (suc i) p (rest D k b e)))

          go : (c : Bool) → ltb 0 e.lower.hours ≡ c →
              Until hour e (Is φ b) (Is ψ b) i
              ↔ At (elim c [ true ↦ conjoin p (rest D k b e) | false ↦ disjoin q (conjoin p (rest D k b e)) ]) (suc i)
          go true h =
              Iff.trans
              (until-after hour e (Is φ b) (Is ψ b) i (ltb-true 0 e.lower.hours h) (goal_stable N state hour φ b i)) both
          go false h =
              Iff.trans (until_now hour e (Is φ b) (Is ψ b) i (ltb-false 0 e.lower.hours h))
              (Iff.trans (iff_or g both)
              (Iff.symm (disjoin_true N state hour table (suc i) q (conjoin p (rest D k b e)))))

    goal-progress : (φ : Goal) → Placed (goal_of_node table) φ → (b : Binding) → Is φ b i ↔ At (by φ b) (suc i)
    unfolding GoalTrue progress Placed
    goal-progress (top k) p b = settled_true true (suc i)
    goal-progress (test k a) p b = settled_true (fact (state i) b a) (suc i)
    goal-progress (equal k t u) p b = settled_true (alike b t u) (suc i)
    goal-progress (neg k φ) p b =
        Iff.trans (Iff.not (goal-progress φ p.1 b)) (Iff.symm (negate_true N state hour table (suc i) (by φ b)))
    goal-progress (conj k φ ψ) p b =
        Iff.trans (Iff.and (goal-progress φ p.1 b) (goal-progress ψ p.2 b))
        (Iff.symm (conjoin_true N state hour table (suc i) (by φ b) (by ψ b)))
    goal-progress (disj k φ ψ) p b =
        Iff.trans (iff_or (goal-progress φ p.1 b) (goal-progress ψ p.2 b))
        (Iff.symm (disjoin_true N state hour table (suc i) (by φ b) (by ψ b)))
    goal-progress (next k φ) p b = waiting_true φ p.1 b (suc i)
    goal-progress (until k e φ ψ) p b =
        until-by k e φ ψ b p.0 (ltb 0 e.lower.hours) (by φ b) (by ψ b) refl
        (goal-progress φ p.1 b) (goal-progress ψ p.2 b)
    goal-progress (for_all k v a φ) p b =
        let h = each_true N state hour table (suc i) (λ x. fact (state i) (bind v x b) a) (λ x. by φ (bind v x b)) N in (
          (λ f. h.1 (λ x lt t. (goal-progress φ p.1 (bind v x b)).0 (f x lt t))),
          (λ g x lt t. (goal-progress φ p.1 (bind v x b)).1 (h.0 g x lt t)),
        )
    goal-progress (exists k v a φ) p b =
        let h = some_true N state hour table (suc i) (λ x. fact (state i) (bind v x b) a) (λ x. by φ (bind v x b)) N in (
          (λ f. h.1 (λ none. f (λ x lt t u. none x lt t ((goal-progress φ p.1 (bind v x b)).0 u)))),
          (λ g none. h.0 g (λ x lt t u. none x lt t ((goal-progress φ p.1 (bind v x b)).1 u))),
        )

    label-progress : (l : Label) → At l i ↔ At (progressed N (state i) D table l) (suc i)
    unfolding LabelTrue progressed
    label-progress true_label = Iff.rfl
    label-progress false_label = Iff.rfl
    label-progress (pending n b e) =
        goal-progress (with_ends e (goal_of_node table n)) (placed-with (goal_of_node table) e (goal_of_node table n) (placed table n)) b
    label-progress (not_label q) =
        Iff.trans (Iff.not (label-progress q))
        (Iff.symm (negate_true N state hour table (suc i) (progressed N (state i) D table q)))
    label-progress (and_label q r) =
        Iff.trans (Iff.and (label-progress q) (label-progress r))
        (Iff.symm (conjoin_true N state hour table (suc i) (progressed N (state i) D table q) (progressed N (state i) D table r)))
    label-progress (or_label q r) =
        Iff.trans (iff_or (label-progress q) (label-progress r))
        (Iff.symm (disjoin_true N state hour table (suc i) (progressed N (state i) D table q) (progressed N (state i) D table r)))

pub progression : Progression
progression N table state hour timed i l = label-progress N table state hour timed i l
