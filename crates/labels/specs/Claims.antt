-- The theorems about labels over time, as statements.
-- N is the number of ids, and a label's pending parts name the nodes of a table.
use Rattle.std.specs.Prelude.{◌≡◌, ℕ, suc, ◌-◌, ◌<◌, true, T, ◌↔◌, List, length}
use Rattle.goals.specs.declared.goal.Node.{Node}
use Rattle.goals.specs.NodeTable.{Rising, OrderedTable}
use Rattle.labels.specs.declared.binding.Binding.{Binding}
use Rattle.labels.specs.Facts.{Facts, unbound}
use Rattle.labels.specs.Goals.{Goal, goal_of_node}
use Rattle.labels.specs.Labels.{Label, not_label, and_label, or_label, waiting}
use Rattle.labels.specs.Joining.{negate, conjoin, disjoin}
use Rattle.labels.specs.Progress.{progressed}
use Rattle.labels.specs.Idling.{idling}
use Rattle.labels.specs.Sequences.{NeverFalls, copies, hourly, behind}
use Rattle.labels.specs.Truth.{GoalTrue, LabelTrue}
use Rattle.labels.specs.Order.{ordered_label}
use Rattle.labels.specs.Known.{known}
use Rattle.labels.specs.Ledger.{Ledger, Step, opening, run}

-- what is not untrue is true
abbrev pub TruthIsTwoValued : Type 0
TruthIsTwoValued =
    (N : ℕ) (table : List Node) (state : ℕ → Facts) (hour : ℕ → ℕ) (i : ℕ) →
    ((φ : Goal) (b : Binding) → ¬ (¬ (GoalTrue N state hour φ b i)) → GoalTrue N state hour φ b i)
    × ((l : Label) → ¬ (¬ (LabelTrue N state hour table l i)) → LabelTrue N state hour table l i)

-- simplifying never changes what a label means
abbrev pub SimplifyingKeepsMeaning : Type 0
SimplifyingKeepsMeaning =
    (N : ℕ) (table : List Node) (state : ℕ → Facts) (hour : ℕ → ℕ) (i : ℕ) →
    ((q : Label) → LabelTrue N state hour table (negate q) i ↔ LabelTrue N state hour table (not_label q) i)
    × ((q r : Label) → LabelTrue N state hour table (conjoin q r) i ↔ LabelTrue N state hour table (and_label q r) i)
    × ((q r : Label) → LabelTrue N state hour table (disjoin q r) i ↔ LabelTrue N state hour table (or_label q r) i)

-- a label is true at state i exactly when its progress by the facts of i over the span to i + 1 is true at i + 1
abbrev pub Progression : Type 0
Progression =
    (N : ℕ) (table : List Node) (state : ℕ → Facts) (hour : ℕ → ℕ) → NeverFalls hour → (i : ℕ) (l : Label) →
    LabelTrue N state hour table l i
    ↔ LabelTrue N state hour table (progressed N (state i) (hour (suc i) - hour i) table l) (suc i)

-- idling keeps a label at a set of facts exactly when it is true at the first of endless copies of the set, one hour apart
abbrev pub IdlingIsTruthOnCopies : Type 0
IdlingIsTruthOnCopies =
    (N : ℕ) (table : List Node) → OrderedTable table → (s : Facts) (l : Label) → ordered_label l ≡ true → (first : ℕ) →
    T (idling N s table l) ↔ LabelTrue N (copies s) (hourly first) table l 0

-- every label that a run comes to has its ends in order
abbrev pub EndsStayInOrder : Type 0
EndsStayInOrder =
    (N : ℕ) (table : List Node) → OrderedTable table →
    ((root : ℕ) → ordered_label (waiting (goal_of_node table root) unbound) ≡ true)
    × ((s : Facts) (D : ℕ) (l : Label) → ordered_label l ≡ true → ordered_label (progressed N s D table l) ≡ true)

-- a job knows the opening label of each of its nodes, and every label that it progresses to from one that it knows
abbrev pub LabelsStayKnown : Type 0
LabelsStayKnown =
    (N : ℕ) (table : List Node) → 0 < N → Rising table →
    ((root : ℕ) → root < length table → known (length table) N (waiting (goal_of_node table root) unbound) ≡ true)
    × ((s : Facts) (D : ℕ) (l : Label) → known (length table) N l ≡ true → known (length table) N (progressed N s D table l) ≡ true)

-- after any steps, the states passed and any timed sequence behind them that begins with the present facts and hour
-- keep the goal exactly when that sequence alone keeps the label
abbrev pub LabelStandsForGoal : Type 0
LabelStandsForGoal =
    (N : ℕ) (table : List Node) (root : ℕ) (s : Facts) (steps : List Step) →
    let L : Ledger = run N table steps (opening table root s) in
    (state : ℕ → Facts) (hour : ℕ → ℕ) → NeverFalls hour → state 0 ≡ L.facts → hour 0 ≡ L.hour →
    GoalTrue N (behind L.passed_facts state) (behind L.passed_hours hour) (goal_of_node table root) unbound 0
    ↔ LabelTrue N state hour table L.label 0

-- the states passed, with such a sequence behind them, are a timed sequence too
abbrev pub RunsAreTimed : Type 0
RunsAreTimed =
    (N : ℕ) (table : List Node) (root : ℕ) (s : Facts) (steps : List Step) →
    let L : Ledger = run N table steps (opening table root s) in
    (hour : ℕ → ℕ) → NeverFalls hour → hour 0 ≡ L.hour → NeverFalls (behind L.passed_hours hour)

-- idling now keeps the label exactly when the run's model, its states and then copies of the last, keeps the goal
abbrev pub IdlingJudgesTheModel : Type 0
IdlingJudgesTheModel =
    (N : ℕ) (table : List Node) → OrderedTable table → (root : ℕ) (s : Facts) (steps : List Step) →
    let L : Ledger = run N table steps (opening table root s) in
    T (idling N L.facts table L.label)
    ↔ GoalTrue N (behind L.passed_facts (copies L.facts)) (behind L.passed_hours (hourly L.hour))
    (goal_of_node table root) unbound 0
