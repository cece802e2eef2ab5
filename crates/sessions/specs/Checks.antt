-- The checks of a step, in their order: 10, 11, 12, 13 with the first need that fails, 14, 9, 15, 16.
-- What none of them refuses is accepted, and gives the step's operation.
use Rattle.std.specs.Prelude.{◌≡◌, ℕ, ◌<◌, ◌≤◌, Bool, true, false, cond, not, ◌↔◌, List, Some, None, Ok, Err, Option, Result, MatchOption, nat_le, nat_lt}
use Rattle.std.specs.List.{slice_get}
use Rattle.registers.specs.Meaning.{Meaning, size_of, limit_of, all_allowed}
use Rattle.goals.specs.declared.job.Job.{Job}
use Rattle.goals.specs.declared.operation.Entry.{Entry}
use Rattle.goals.specs.declared.operation.Operation.{Operation}
use Rattle.goals.specs.Entries.{entries_of}
use Rattle.goals.specs.JobView.{ids_of, operations_in}
use Rattle.labels.specs.Labels.{Label}
use Rattle.labels.specs.Size.{size}
use Rattle.labels.specs.LabelCalls.{known_to, progress_of, work_of}
use Rattle.sessions.specs.declared.step.Arguments.{Arguments}
use Rattle.sessions.specs.declared.step.Step.{Step}
use Rattle.sessions.specs.declared.refusal.StepRefusal.{StepRefusal}
use Rattle.sessions.specs.declared.refusal.StepRefusal.TheVariants.{OtherJob, NoOperation, BadArgument, Need, TooManySteps, Full, TooMuchWork, TooLong}
use Rattle.sessions.specs.Steps.{ground_all, arguments_fit, need_holds, first_failing, facts_after}

-- refused where the test says so, else as the later checks say
abbrev pub refuse_if : Bool → StepRefusal → Result Operation StepRefusal → Result Operation StepRefusal
refuse_if test refusal later = cond test (Err refusal) later

abbrev pub refuse_need : Option ℕ → Result Operation StepRefusal → Result Operation StepRefusal
refuse_need (Some k) later = Err (Need k)
refuse_need None later = later

-- 15, 16
abbrev pub checked_label : Job → Label → Meaning → Operation → Result Operation StepRefusal
checked_label job l m o =
    refuse_if (nat_lt 4096 (work_of job m o.span l)) TooMuchWork
    (refuse_if (nat_lt 512 (size (progress_of job m o.span l))) TooLong
    (Ok o))

-- 14, 9, then the label
abbrev pub checked_limits : Job → ℕ → Label → Meaning → Arguments → Operation → Result Operation StepRefusal
checked_limits job number l m a o =
    refuse_if (nat_le 4096 number) TooManySteps
    (refuse_if (nat_lt (limit_of m) (size_of (facts_after m o a))) Full
    (checked_label job l m o))

-- 12, 13, then the limits
unfoldable pub checked_operation : Job → ℕ → Label → Meaning → Arguments → Operation → Result Operation StepRefusal
checked_operation job number l m a o =
    refuse_if (not (arguments_fit (ids_of job) o.parameters a)) BadArgument
    (refuse_need (first_failing m a o.needs) (checked_limits job number l m a o))

-- 11, then the rest
abbrev pub checked_number : Job → ℕ → Label → Meaning → Arguments → Option Operation → Result Operation StepRefusal
checked_number job number l m a None = Err NoOperation
checked_number job number l m a (Some o) = checked_operation job number l m a o

-- a step after so many steps, at a label and the facts that stand
unfoldable pub checked : Job → ℕ → Label → Meaning → Step → Result Operation StepRefusal
checked job number l m step =
    refuse_if (not (known_to job l)) OtherJob
    (checked_number job number l m step.arguments (slice_get (operations_in job) step.operation))

-- the conditions under which a step is accepted, with its operation
pub record Acceptable (job : Job) (number : ℕ) (l : Label) (m : Meaning) (step : Step) (o : Operation) : Type 0 where
  pub own_job : known_to job l ≡ true
  pub operation : slice_get (operations_in job) step.operation ≡ Some o
  pub arguments : arguments_fit (ids_of job) o.parameters step.arguments ≡ true
  pub needs : (k : ℕ) (e : Entry) → slice_get (entries_of o.needs) k ≡ Some e → need_holds m step.arguments e ≡ true
  pub few_steps : number < 4096
  pub room : size_of (facts_after m o step.arguments) ≤ limit_of m
  pub little_work : work_of job m o.span l ≤ 4096
  pub short : size (progress_of job m o.span l) ≤ 512

-- a step is accepted exactly under these conditions: what no number of the table names is accepted
abbrev pub StepsAreAccepted : Type 0
StepsAreAccepted =
    (job : Job) (number : ℕ) (l : Label) (m : Meaning) (step : Step) (o : Operation) →
    (checked job number l m step ≡ Ok o) ↔ Acceptable job number l m step o

-- a step refused for a need names the first of its operation's needs that does not hold
pub record FirstNeed (m : Meaning) (a : Arguments) (needs : List Entry) (k : ℕ) : Type 0 where
  pub here : MatchOption (slice_get needs k) ⊥ (λ e. need_holds m a e ≡ false)
  pub before : (j : ℕ) → j < k → MatchOption (slice_get needs j) ⊥ (λ e. need_holds m a e ≡ true)

abbrev pub FirstNeedIsNamed : Type 0
FirstNeedIsNamed =
    (job : Job) (number : ℕ) (l : Label) (m : Meaning) (step : Step) (k : ℕ) → checked job number l m step ≡ Err (Need k) →
    MatchOption (slice_get (operations_in job) step.operation) ⊥ (λ o. FirstNeed m step.arguments (entries_of o.needs) k)

-- where only the label can still refuse a step, and what is known then
pub record Ready (job : Job) (number : ℕ) (l : Label) (m : Meaning) (step : Step) (o : Operation) : Type 0 where
  pub comes : checked job number l m step ≡ checked_label job l m o
  pub own_job : known_to job l ≡ true
  pub bounds : all_allowed (ground_all step.arguments o.puts) ≡ true
  pub room : size_of (facts_after m o step.arguments) ≤ limit_of m
  pub few_steps : number < 4096
  pub short_span : o.span.hours ≤ 1000
