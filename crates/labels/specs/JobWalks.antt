-- What the code answers that progresses or judges nodes and parts by a job, the facts of a register and a span.
-- Each call gives what the definitions say of the node or part that it is passed.
use Rattle.std.specs.Prelude.{ℕ, Bool, false, List, ◌∷◌, ◌++◌, Result, slice_index, slice_index_or}
use Rattle.registers.specs.Meaning.{Meaning}
use Rattle.goals.specs.declared.time.Span.{Span}
use Rattle.goals.specs.declared.job.Job.{Job}
use Rattle.goals.specs.JobView.{ids_of, nodes_of}
use Rattle.labels.specs.declared.binding.Binding.{Binding}
use Rattle.labels.specs.declared.part.Part.{Part}
use Rattle.labels.specs.declared.refusal.LabelRefusal.{LabelRefusal}
use Rattle.labels.specs.declared.table.Table.{Table}
use Rattle.labels.specs.declared.walk.Pair.{Pair}
use Rattle.labels.specs.declared.walk.Wait.{Wait}
use Rattle.labels.specs.declared.walk.Range.{Range}
use Rattle.labels.specs.Facts.{bind, fact}
use Rattle.labels.specs.Goals.{Goal, until, goal_of_node}
use Rattle.labels.specs.Labels.{Label}
use Rattle.labels.specs.Joining.{negate}
use Rattle.labels.specs.Connectives.{join_by}
use Rattle.labels.specs.Progress.{progress}
use Rattle.labels.specs.Work.{results}
use Rattle.labels.specs.Idling.{some, agrees, idles, idling}
use Rattle.labels.specs.Held.{facts_of}
use Rattle.labels.specs.Walks.{joined_to, results_to}
use Rattle.labels.specs.Partwise.{part_progress, part_results, part_idles, ProgressedAll}
use Rattle.labels.specs.Worked.{Worked}
use Rattle.labels.specs.TableView.{parts_in, label_in, Gains}

-- the goal of a node of a job, and of an until with its ends
abbrev pub node_of : Job → ℕ → Goal
node_of job number = goal_of_node (nodes_of job) number

abbrev pub wait_of : Job → Wait → Goal
wait_of job w = until w.node w.ends (node_of job w.hold) (node_of job w.reach)

module _ (job : Job) (m : Meaning) (D : Span) where
  abbrev pub progress_at : Goal → Binding → Label
  progress_at φ b = progress (ids_of job) (facts_of m) D.hours φ b

  abbrev pub results_at : Goal → Binding → List Label
  results_at φ b = results (ids_of job) (facts_of m) D.hours φ b

  -- a node
  abbrev pub Walks : {E : Type 0} {limit : ℕ} → Table limit → Table limit → Goal → Binding → Result ℕ E → Type 0
  Walks old new φ b answer = Gains old new (progress_at φ b) (results_at φ b) answer

  -- a node, negated
  abbrev pub not_at : ℕ → Binding → Label
  not_at number b = negate (progress_at (node_of job number) b)

  abbrev pub WalksNot : {E : Type 0} {limit : ℕ} → Table limit → Table limit → ℕ → Binding → Result ℕ E → Type 0
  WalksNot old new number b answer = Gains old new (not_at number b) (not_at number b ∷ results_at (node_of job number) b) answer

  -- two nodes, joined
  abbrev pub pair_at : Pair → Binding → Label
  pair_at p b = join_by p.by (progress_at (node_of job p.left) b) (progress_at (node_of job p.right) b)

  abbrev pub WalksPair : {E : Type 0} {limit : ℕ} → Table limit → Table limit → Pair → Binding → Result ℕ E → Type 0
  WalksPair old new p b answer =
      Gains old new (pair_at p b) (pair_at p b ∷ (results_at (node_of job p.left) b ++ results_at (node_of job p.right) b)) answer

  -- a quantifier, over all ids
  abbrev pub WalksRange : {E : Type 0} {limit : ℕ} → Table limit → Table limit → Range → Binding → Result ℕ E → Type 0
  WalksRange old new r b answer =
      Gains old new
      (joined_to (ids_of job) (facts_of m) D.hours r.by r.variable r.bound (node_of job r.body) b (ids_of job))
      (results_to (ids_of job) (facts_of m) D.hours r.by r.variable r.bound (node_of job r.body) b (ids_of job))
      answer

  -- a part, where the progress of its own parts stands at places of the table
  abbrev pub WalksPart : {E : Type 0} {limit : ℕ} → Table limit → Table limit → Part → List ℕ → Result ℕ E → Type 0
  WalksPart old new p to answer =
      Gains old new
      (part_progress (ids_of job) (facts_of m) D.hours (nodes_of job) (λ x. label_in old (slice_index to x)) p)
      (part_results (ids_of job) (facts_of m) D.hours (nodes_of job) (λ x. label_in old (slice_index to x)) p)
      answer

  -- every part of a table
  abbrev pub WalksAll : {E : Type 0} {limit below : ℕ} → Table limit → Table limit → Table below → List ℕ → Result (Unit {0}) E → Type 0
  WalksAll {limit = limit} old new source to answer =
      ProgressedAll (ids_of job) (facts_of m) D.hours (nodes_of job) limit (parts_in source) to (parts_in old) (parts_in new) answer

  -- a whole label, into a table of its own
  abbrev pub WorksOut : {limit : ℕ} → Label → Table limit → Result ℕ LabelRefusal → Type 0
  WorksOut l new answer = Worked (ids_of job) (facts_of m) D.hours (nodes_of job) l (parts_in new) answer

module _ (job : Job) (m : Meaning) where
  -- does idling keep a node, a part, a label?
  abbrev pub keeps : Goal → Binding → Bool
  keeps φ b = idles (ids_of job) (facts_of m) φ b

  abbrev pub keeps_part : List Bool → Part → Bool
  keeps_part gave p = part_idles (ids_of job) (facts_of m) (nodes_of job) (λ x. slice_index_or gave x false) p

  abbrev pub keeps_label : Label → Bool
  keeps_label l = idling (ids_of job) (facts_of m) (nodes_of job) l

  -- is there an id in range for which idling keeps the body, or does not, as wanted?
  abbrev pub keeps_any : Bool → Range → Binding → Bool
  keeps_any wanted r b =
      some (λ x. fact (facts_of m) (bind r.variable x b) r.bound)
      (λ x. agrees wanted (keeps (node_of job r.body) (bind r.variable x b))) (ids_of job)
