-- The label of a run stands for the goal, and idling at its end judges its model.
use Rattle.std.proofs.Common.{◌≡◌, ℕ, zero, suc, ◌-◌, ◌<◌, ◌≤◌, true, ◌↔◌, List, [], ◌∷◌, ◌++◌, sym, refl, subst, arith}
use mathlib.Core.Logic.Iff
use Rattle.goals.specs.declared.goal.Ends.{Ends}
use Rattle.goals.specs.declared.goal.Node.{Node}
use Rattle.goals.specs.NodeTable.{OrderedTable}
use Rattle.labels.specs.declared.binding.Binding.{Binding}
use Rattle.labels.specs.Facts.{Facts, unbound, bind}
use Rattle.labels.specs.Goals.{Goal, top, test, equal, neg, conj, disj, next, until, for_all, exists, with_ends, goal_of_node}
use Rattle.labels.specs.Labels.{Label, true_label, false_label, pending, not_label, and_label, or_label}
use Rattle.labels.specs.Progress.{progressed}
use Rattle.labels.specs.Sequences.{NeverFalls, copies, hourly, behind}
use Rattle.labels.specs.Truth.{Within, Until, GoalTrue, LabelTrue}
use Rattle.labels.specs.Order.{ordered_label}
use Rattle.labels.specs.Ledger.{Ledger, Step, opening, stepped, run}
use Rattle.labels.specs.Claims.{LabelStandsForGoal, RunsAreTimed, IdlingJudgesTheModel}
use Rattle.labels.proofs.Logic.{iff_or, iff_at}
use Rattle.labels.proofs.Trees.{placed}
use Rattle.labels.proofs.Progression.{waiting_true, progression}
use Rattle.labels.proofs.Order.{tree-ordered, waiting-ordered, progressed-ordered}
use Rattle.labels.proofs.Idling.{idling-is_truth}

-- one state in front
abbrev front : {A : Type 0} → A → (ℕ → A) → ℕ → A
front x f = behind (x ∷ []) f

-- a state in front moves every other one place on
module _ (N : ℕ) (s : Facts) (h : ℕ) (state : ℕ → Facts) (hour : ℕ → ℕ) where
  abbrev On : Goal → Binding → ℕ → Type 0
  On = GoalTrue N (front s state) (front h hour)

  abbrev Is : Goal → Binding → ℕ → Type 0
  Is = GoalTrue N state hour

  module _ (e : Ends) (P Q P' Q' : ℕ → Type 0) (f : (j : ℕ) → P (suc j) ↔ P' j) (g : (j : ℕ) → Q (suc j) ↔ Q' j) (i : ℕ) where
    down : ((j : ℕ) → i ≤ j → Within e (hour j - hour i) → Q' j → ¬ ((k : ℕ) → i ≤ k → k < j → P' k)) →
        (j : ℕ) → suc i ≤ j → Within e (front h hour j - front h hour (suc i)) → Q j → ¬ ((k : ℕ) → suc i ≤ k → k < j → P k)
    down none zero le w q ps = absurd (omega arith)
    down none (suc j) le w q ps =
        none j (omega arith) w ((g j).0 q) (λ k ik kj. (f k).0 (ps (suc k) (omega arith) (omega arith)))

    between : (j : ℕ) → ((k : ℕ) → i ≤ k → k < j → P' k) → (k : ℕ) → suc i ≤ k → k < suc j → P k
    between j ps zero le lt = absurd (omega arith)
    between j ps (suc k) le lt = (f k).1 (ps k (omega arith) (omega arith))

    shift_until : Until (front h hour) e P Q (suc i) ↔ Until hour e P' Q' i
    shift_until = (
      (λ u none. u (down none)),
      (λ u none. u (λ j le w q ps. none (suc j) (omega arith) w ((g j).1 q) (between j ps))),
    )

  shift : (φ : Goal) (b : Binding) (i : ℕ) → On φ b (suc i) ↔ Is φ b i
  unfolding GoalTrue
  shift (top k) b i = Iff.rfl
  shift (test k a) b i = Iff.rfl
  shift (equal k t u) b i = Iff.rfl
  shift (neg k φ) b i = Iff.not (shift φ b i)
  shift (conj k φ ψ) b i = Iff.and (shift φ b i) (shift ψ b i)
  shift (disj k φ ψ) b i = iff_or (shift φ b i) (shift ψ b i)
  shift (next k φ) b i = shift φ b (suc i)
  shift (until k e φ ψ) b i = shift_until e (On φ b) (On ψ b) (Is φ b) (Is ψ b) (shift φ b) (shift ψ b) i
  shift (for_all k v a φ) b i =
      ((λ f x lt t. (shift φ (bind v x b) i).0 (f x lt t)), (λ f x lt t. (shift φ (bind v x b) i).1 (f x lt t)))
  shift (exists k v a φ) b i = (
    (λ f none. f (λ x lt t u. none x lt t ((shift φ (bind v x b) i).0 u))),
    (λ f none. f (λ x lt t u. none x lt t ((shift φ (bind v x b) i).1 u))),
  )

  label_shift : (table : List Node) (l : Label) (i : ℕ) →
      LabelTrue N (front s state) (front h hour) table l (suc i) ↔ LabelTrue N state hour table l i
  unfolding LabelTrue
  label_shift table true_label i = Iff.rfl
  label_shift table false_label i = Iff.rfl
  label_shift table (pending n b e) i = shift (with_ends e (goal_of_node table n)) b i
  label_shift table (not_label q) i = Iff.not (label_shift table q i)
  label_shift table (and_label q r) i = Iff.and (label_shift table q i) (label_shift table r i)
  label_shift table (or_label q r) i = iff_or (label_shift table q i) (label_shift table r i)

behind-end : {A : Type 0} (xs : List A) (x : A) (f : ℕ → A) (i : ℕ) → behind (xs ++ (x ∷ [])) f i ≡ behind xs (front x f) i
behind-end [] x f i = refl
behind-end (y ∷ xs) x f zero = refl
behind-end (y ∷ xs) x f (suc i) = behind-end xs x f i

front-timed : (h : ℕ) (hour : ℕ → ℕ) → NeverFalls hour → h ≤ hour 0 → NeverFalls (front h hour)
front-timed h hour timed le zero = le
front-timed h hour timed le (suc i) = timed i

module _ (N : ℕ) (table : List Node) (root : ℕ) where
  -- the label of a ledger stands for the goal
  abbrev Right : Ledger → Type 0
  Right L =
      (state : ℕ → Facts) (hour : ℕ → ℕ) → NeverFalls hour → state 0 ≡ L.facts → hour 0 ≡ L.hour →
      GoalTrue N (behind L.passed_facts state) (behind L.passed_hours hour) (goal_of_node table root) unbound 0
      ↔ LabelTrue N state hour table L.label 0

  right_step : (L : Ledger) (step : Step) → Right L → Right (stepped N table L step)
  unfolding stepped
  right_step L step right state hour timed fs hs =
      let t : NeverFalls (front L.hour hour) = front-timed L.hour hour timed (omega arith) in
      let e : hour 0 - L.hour ≡ step.span = omega arith in
      Iff.trans
      (iff_at (λ (σ : ℕ → Facts). GoalTrue N σ (behind (L.passed_hours ++ (L.hour ∷ [])) hour) (goal_of_node table root) unbound 0)
      (λ i k. behind-end L.passed_facts L.facts state k i))
      (Iff.trans
      (iff_at (λ (η : ℕ → ℕ). GoalTrue N (behind L.passed_facts (front L.facts state)) η (goal_of_node table root) unbound 0)
      (λ i k. behind-end L.passed_hours L.hour hour k i))
      (Iff.trans (right (front L.facts state) (front L.hour hour) t refl refl)
      (Iff.trans (progression N table (front L.facts state) (front L.hour hour) t 0 L.label)
      (Iff.trans (label_shift N L.facts L.hour state hour table (progressed N L.facts (hour 0 - L.hour) table L.label) 0)
      (iff_at (λ (d : ℕ). LabelTrue N state hour table (progressed N L.facts d table L.label) 0) e)))))

  right_run : (steps : List Step) (L : Ledger) → Right L → Right (run N table steps L)
  unfolding run
  right_run [] L right = right
  right_run (step ∷ steps) L right = right_run steps (stepped N table L step) (right_step L step right)

  right_opening : (s : Facts) → Right (opening table root s)
  unfolding opening
  right_opening s state hour timed fs hs = waiting_true N table state hour (goal_of_node table root) (placed table root) unbound 0

  module _ (order : OrderedTable table) where
    ordered-run : (steps : List Step) (L : Ledger) → ordered_label L.label ≡ true → ordered_label (run N table steps L).label ≡ true
    unfolding run stepped
    ordered-run [] L o = o
    ordered-run (step ∷ steps) L o =
        ordered-run steps (stepped N table L step) (progressed-ordered N L.facts step.span table order L.label o)

    ordered-opening : (s : Facts) → ordered_label (opening table root s).label ≡ true
    unfolding opening
    ordered-opening s = waiting-ordered (goal_of_node table root) unbound (tree-ordered table order root)

-- the hours of a run never fall
module _ (N : ℕ) (table : List Node) where
  abbrev Timed : Ledger → Type 0
  Timed L = (hour : ℕ → ℕ) → NeverFalls hour → hour 0 ≡ L.hour → NeverFalls (behind L.passed_hours hour)

  timed-step : (L : Ledger) (step : Step) → Timed L → Timed (stepped N table L step)
  unfolding stepped
  timed-step L step timed hour never hs =
      subst NeverFalls (λ i k. sym (behind-end L.passed_hours L.hour hour k) i)
      (timed (front L.hour hour) (front-timed L.hour hour never (omega arith)) refl)

  timed-run : (steps : List Step) (L : Ledger) → Timed L → Timed (run N table steps L)
  unfolding run
  timed-run [] L timed = timed
  timed-run (step ∷ steps) L timed = timed-run steps (stepped N table L step) (timed-step L step timed)

  timed-opening : (root : ℕ) (s : Facts) → Timed (opening table root s)
  unfolding opening
  timed-opening root s hour never hs = never

  -- one step more at the end of a run
  pub run_more : (steps : List Step) (step : Step) (L : Ledger) →
      run N table (steps ++ (step ∷ [])) L ≡ stepped N table (run N table steps L) step
  unfolding run
  run_more [] step L = refl
  run_more (first ∷ steps) step L = run_more steps step (stepped N table L first)

pub runs-timed : RunsAreTimed
runs-timed N table root s steps = timed-run N table steps (opening table root s) (timed-opening N table root s)

pub label-stands : LabelStandsForGoal
label-stands N table root s steps = right_run N table root steps (opening table root s) (right_opening N table root s)

pub judges_model : IdlingJudgesTheModel
judges_model N table order root s steps =
    let L : Ledger = run N table steps (opening table root s) in
    Iff.trans
    (idling-is_truth N table order L.facts L.label
    (ordered-run N table root order steps (opening table root s) (ordered-opening N table root order s)) L.hour)
    (Iff.symm (label-stands N table root s steps (copies L.facts) (hourly L.hour) (λ i. omega arith) refl (omega arith)))
