-- The label that a table in memory stands for, and what each call on it answers and leaves.
-- A label is progressed by a job, the facts of a register and a span; a refusal leaves it as it was.
use Rattle.std.specs.Prelude.{ℕ, Bool, cond, not, length, is_ok, Ok, Err, vec_items, Result, nat_lt}
use Rattle.registers.specs.Meaning.{Meaning}
use Rattle.goals.specs.declared.time.Span.{Span}
use Rattle.goals.specs.declared.job.Job.{Job}
use Rattle.goals.specs.JobView.{ids_of, nodes_of, root_of}
use Rattle.labels.specs.declared.label.Label.{Label as LabelTable}
use Rattle.labels.specs.declared.refusal.LabelRefusal.{LabelRefusal}
use Rattle.labels.specs.declared.refusal.LabelRefusal.TheVariants.{OtherJob, TooMuchWork, TooLong}
use Rattle.labels.specs.declared.state.LabelState.{LabelState}
use Rattle.labels.specs.declared.state.LabelState.TheVariants.{True, False, Open}
use Rattle.labels.specs.Facts.{unbound}
use Rattle.labels.specs.Goals.{goal_of_node}
use Rattle.labels.specs.Labels.{Label, true_label, false_label, pending, not_label, and_label, or_label, waiting}
use Rattle.labels.specs.Size.{size}
use Rattle.labels.specs.Progress.{progressed}
use Rattle.labels.specs.Work.{work}
use Rattle.labels.specs.Idling.{idling}
use Rattle.labels.specs.Known.{known}
use Rattle.labels.specs.Table.{label_at}
use Rattle.labels.specs.Held.{facts_of}

unfoldable pub label_of : LabelTable → Label
label_of l = label_at (vec_items l.table.items) l.root

abbrev pub state_of : Label → LabelState
state_of true_label = True
state_of false_label = False
state_of (pending n b e) = Open
state_of (not_label q) = Open
state_of (and_label q r) = Open
state_of (or_label q r) = Open

-- the goal's root pending with its own ends
unfoldable pub opening_of : Job → Label
opening_of job = waiting (goal_of_node (nodes_of job) (root_of job)) unbound

-- does each pending part name a node and ids of the job?
unfoldable pub known_to : Job → Label → Bool
known_to job l = known (length (nodes_of job)) (ids_of job) l

unfoldable pub progress_of : Job → Meaning → Span → Label → Label
progress_of job m D l = progressed (ids_of job) (facts_of m) D.hours (nodes_of job) l

-- how many distinct labels the step works out
unfoldable pub work_of : Job → Meaning → Span → Label → ℕ
work_of job m D l = length (work (ids_of job) (facts_of m) D.hours (nodes_of job) l)

unfoldable pub progress_answer : Job → Meaning → Span → Label → Result (Unit {0}) LabelRefusal
progress_answer job m D l =
    cond (not (known_to job l)) (Err OtherJob)
    (cond (nat_lt 4096 (work_of job m D l)) (Err TooMuchWork)
    (cond (nat_lt 512 (size (progress_of job m D l))) (Err TooLong) (Ok tt)))

-- the label after a call of progress
unfoldable pub after_progress : Job → Meaning → Span → Label → Label
after_progress job m D l = cond (is_ok (progress_answer job m D l)) (progress_of job m D l) l

-- does holding the facts for ever keep the label?
unfoldable pub idling_answer : Job → Meaning → Label → Result Bool LabelRefusal
idling_answer job m l = cond (known_to job l) (Ok (idling (ids_of job) (facts_of m) (nodes_of job) l)) (Err OtherJob)
