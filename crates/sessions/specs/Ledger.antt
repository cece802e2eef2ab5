-- The ledger of a session: the states passed, the present facts and hour, and the label.
-- It is fed a job, what the opening register means, and the steps and looks alone: it sees no cuts.
use Rattle.std.specs.Prelude.{ℕ, ◌+◌, cond, List, [], ◌∷◌, ◌++◌, length, Some, None, Ok, Err, Option, Result}
use Rattle.registers.specs.Meaning.{Meaning}
use Rattle.goals.specs.declared.job.Job.{Job}
use Rattle.goals.specs.declared.operation.Operation.{Operation}
use Rattle.labels.specs.Facts.{Facts}
use Rattle.labels.specs.Labels.{Label}
use Rattle.labels.specs.Held.{facts_of}
use Rattle.labels.specs.LabelCalls.{opening_of, progress_of}
use Rattle.sessions.specs.declared.step.Arguments.{Arguments}
use Rattle.sessions.specs.declared.step.Step.{Step}
use Rattle.sessions.specs.declared.refusal.StepRefusal.{StepRefusal}
use Rattle.sessions.specs.declared.call.Call.{Call}
use Rattle.sessions.specs.declared.call.Call as call
use Rattle.sessions.specs.Steps.{facts_after}
use Rattle.sessions.specs.State.{World, is_false}
use Rattle.sessions.specs.Checks.{checked}

pub record Ledger : Type 0 where
  pub passed_facts : List Facts
  pub passed_hours : List ℕ
  pub present : Meaning
  pub hour : ℕ
  pub label : Label

-- no state is passed, the facts are the opening ones, the hour is 0, and the label is the opening one
abbrev pub opening : Job → Meaning → Ledger
opening job m = record { passed_facts = []; passed_hours = []; present = m; hour = 0; label = opening_of job }

-- how many states were passed
abbrev pub count : Ledger → ℕ
count L = length L.passed_hours

-- the checks of a step, at a ledger
abbrev pub checked_by : Job → Ledger → Step → Result Operation StepRefusal
checked_by job L step = checked job (count L) L.label L.present step

-- a step that no check refuses adds the present facts and hour to the states passed, and the label progresses by those
-- facts; then the facts lose its takes and gain its puts, and the hour grows by its span
abbrev pub entered : Job → Ledger → Arguments → Result Operation StepRefusal → Ledger
entered job L a (Err r) = L
entered job L a (Ok o) =
    record {
      passed_facts = L.passed_facts ++ facts_of L.present ∷ [];
      passed_hours = L.passed_hours ++ L.hour ∷ [];
      present = facts_after L.present o a;
      hour = L.hour + o.span.hours;
      label = progress_of job L.present o.span L.label;
    }

-- looks change nothing
abbrev pub entered_call : Job → Ledger → Call → Ledger
entered_call job L (call.TheVariants.Step step) = entered job L step.arguments (checked_by job L step)
entered_call job L call.TheVariants.Look = L

unfoldable pub ledger_from : Job → Ledger → List Call → Ledger
ledger_from job L [] = L
ledger_from job L (x ∷ xs) = ledger_from job (entered_call job L x) xs

unfoldable pub ledger : Job → Meaning → List Call → Ledger
ledger job m calls = ledger_from job (opening job m) calls

-- the label that a call leads to, if it is a step that is accepted
abbrev pub new_label : Job → Ledger → Result Operation StepRefusal → List Label
new_label job L (Err r) = []
new_label job L (Ok o) = progress_of job L.present o.span L.label ∷ []

abbrev pub new_labels : Job → Ledger → Call → List Label
new_labels job L (call.TheVariants.Step step) = new_label job L (checked_by job L step)
new_labels job L call.TheVariants.Look = []

-- the label after each accepted step of a list of calls
unfoldable pub labels_from : Job → Ledger → List Call → List Label
labels_from job L [] = []
labels_from job L (x ∷ xs) = new_labels job L x ++ labels_from job (entered_call job L x) xs

-- the first FALSE of a list of labels, counted from n
unfoldable pub first_false : ℕ → List Label → Option ℕ
first_false n [] = None
first_false n (l ∷ ls) = cond (is_false l) (Some n) (first_false (n + 1) ls)

-- the first step whose label is FALSE, the steps counted from 1
unfoldable pub broken_step : Job → Meaning → List Call → Option ℕ
broken_step job m calls = first_false 1 (labels_from job (opening job m) calls)

-- what stands by a ledger: its number counts the states passed
abbrev pub world_by : Ledger → Option ℕ → World
world_by L broken =
    record { state = record { number = count L; hour = L.hour; label = L.label; broken = broken }; facts = L.present }

-- what stands after a list of calls
abbrev pub standing : Job → Meaning → List Call → World
standing job m calls = world_by (ledger job m calls) (broken_step job m calls)
