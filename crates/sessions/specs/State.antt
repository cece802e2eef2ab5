-- A session by what it means (its number, hour, label and broken step), and with the facts that stand.
-- Opening makes the goal's root pending with its own ends, at number and hour 0; an accepted step leads on from there.
use Rattle.std.specs.Prelude.{ℕ, ◌+◌, Bool, true, false, cond, Some, None, Option}
use Rattle.registers.specs.Meaning.{Meaning}
use Rattle.goals.specs.declared.job.Job.{Job}
use Rattle.goals.specs.declared.operation.Operation.{Operation}
use Rattle.labels.specs.declared.state.LabelState.{LabelState}
use Rattle.labels.specs.declared.state.LabelState.TheVariants.{True, False, Open}
use Rattle.labels.specs.Labels.{Label}
use Rattle.labels.specs.LabelCalls.{state_of, opening_of, progress_of}
use Rattle.sessions.specs.declared.step.Arguments.{Arguments}
use Rattle.sessions.specs.Steps.{facts_after}

pub record State : Type 0 where
  pub number : ℕ
  pub hour : ℕ
  pub label : Label
  pub broken : Option ℕ

-- a session with what its register means
pub record World : Type 0 where
  pub state : State
  pub facts : Meaning

abbrev pub is_false_state : LabelState → Bool
is_false_state True = false
is_false_state False = true
is_false_state Open = false

abbrev pub is_false : Label → Bool
is_false l = is_false_state (state_of l)

abbrev pub opened_state : Job → State
opened_state job = record { number = 0; hour = 0; label = opening_of job; broken = None }

abbrev pub opened : Job → Meaning → World
opened job m = record { state = opened_state job; facts = m }

-- the first step whose label is FALSE stays the broken one
abbrev pub broken_by : Option ℕ → ℕ → LabelState → Option ℕ
broken_by (Some k) n s = Some k
broken_by None n s = cond (is_false_state s) (Some n) None

abbrev pub broken_after : Option ℕ → ℕ → Label → Option ℕ
broken_after b n l = broken_by b n (state_of l)

-- a state one step on, by the step's span and its label
abbrev pub step_on : State → ℕ → Label → State
step_on s span l =
    record { number = s.number + 1; hour = s.hour + span; label = l; broken = broken_after s.broken (s.number + 1) l }

-- an accepted step
abbrev pub advanced : Job → World → Arguments → Operation → World
advanced job w a o =
    record {
      state = step_on w.state o.span.hours (progress_of job w.facts o.span w.state.label);
      facts = facts_after w.facts o a;
    }
