-- The law of a session's calls, from opening to closing, in terms of timed sequences and the ledger.
-- A model of the accepted steps is their states, then copies of the last for ever, one hour apart.
use Rattle.std.specs.Prelude.{◌≡◌, ℕ, true, ◌↔◌, List, ◌∷◌, ◌++◌, length, Some}
use Rattle.std.specs.List.{slice_get}
use Rattle.registers.specs.Meaning.{Meaning}
use Rattle.goals.specs.declared.job.Job.{Job}
use Rattle.goals.specs.JobView.{ids_of, nodes_of, root_of, SoundJob}
use Rattle.labels.specs.Facts.{Facts, unbound}
use Rattle.labels.specs.Goals.{goal_of_node}
use Rattle.labels.specs.Labels.{Label}
use Rattle.labels.specs.Held.{facts_of}
use Rattle.labels.specs.LabelCalls.{known_to}
use Rattle.labels.specs.Sequences.{NeverFalls, copies, hourly, behind}
use Rattle.labels.specs.Truth.{GoalTrue, LabelTrue}
use Rattle.sessions.specs.declared.verdict.Judgement.TheVariants.{Kept, NotKept}
use Rattle.sessions.specs.declared.verdict.Verdict.{Verdict}
use Rattle.sessions.specs.declared.call.Line.{Line}
use Rattle.sessions.specs.State.{State, World, opened}
use Rattle.sessions.specs.Answers.{calls_in, answer_to, verdict_of}
use Rattle.sessions.specs.Ledger.{Ledger, count, ledger, broken_step, standing}
use Rattle.sessions.specs.Pieces.{Part, state_after, parts_after, Joined, all_lines, last_facts, Uncut}

-- a timed sequence keeps the job's goal
abbrev pub KeepsGoal : Job → (ℕ → Facts) → (ℕ → ℕ) → Type 0
KeepsGoal job state hour = GoalTrue (ids_of job) state hour (goal_of_node (nodes_of job) (root_of job)) unbound 0

-- a timed sequence keeps a label
abbrev pub KeepsLabel : Job → Label → (ℕ → Facts) → (ℕ → ℕ) → Type 0
KeepsLabel job l state hour = LabelTrue (ids_of job) state hour (nodes_of job) l 0

-- the states passed, and then the model's copies of the present facts, keep the goal
abbrev pub ModelKeeps : Job → Ledger → Type 0
ModelKeeps job L =
    KeepsGoal job (behind L.passed_facts (copies (facts_of L.present))) (behind L.passed_hours (hourly L.hour))

-- any timed sequence that begins with the present facts at the present hour: put behind the states passed it is a timed
-- sequence, and keeps the goal exactly when alone it keeps the label
pub record StandsFor (job : Job) (L : Ledger) (l : Label) : Type 0 where
  pub timed : (hour : ℕ → ℕ) → NeverFalls hour → hour 0 ≡ L.hour → NeverFalls (behind L.passed_hours hour)
  pub keeps : (state : ℕ → Facts) (hour : ℕ → ℕ) → NeverFalls hour → state 0 ≡ facts_of L.present → hour 0 ≡ L.hour →
      KeepsGoal job (behind L.passed_facts state) (behind L.passed_hours hour) ↔ KeepsLabel job l state hour

-- the law of a list of calls, opened over a register that means m: the calls before and after they were answered, what
-- stands at the end, and the verdict
pub record Law (job : Job) (m : Meaning) (before after : List Line) (last : World) (verdict : Verdict) : Type 0 where
  -- each call was answered as the table of refusals says, at what the calls before it came to
  pub answers : (xs : List Line) (x : Line) (ys : List Line) → before ≡ xs ++ x ∷ ys →
      slice_get after (length xs) ≡ Some (record { call = x.call; answer = Some (answer_to job (standing job m (calls_in xs)) x.call) })
  pub as_many : length after ≡ length before
  -- the session and the register stand as the ledger says
  pub label : last.state.label ≡ (ledger job m (calls_in before)).label
  pub facts : last.facts ≡ (ledger job m (calls_in before)).present
  pub hour : last.state.hour ≡ (ledger job m (calls_in before)).hour
  pub number : last.state.number ≡ count (ledger job m (calls_in before))
  pub broken : last.state.broken ≡ broken_step job m (calls_in before)
  -- the label stands for the goal
  pub stands : StandsFor job (ledger job m (calls_in before)) last.state.label
  -- the job knows its own session's label, so that no call is refused with 10
  pub own : known_to job last.state.label ≡ true
  -- the verdict judges the model
  pub kept : (verdict.judgement ≡ Kept) ↔ ModelKeeps job (ledger job m (calls_in before))
  pub not_kept : (verdict.judgement ≡ NotKept) ↔ (¬ (ModelKeeps job (ledger job m (calls_in before))))
  pub first_broken : verdict.broken ≡ broken_step job m (calls_in before)

-- what stands at the end over the last piece's register
abbrev pub closing_world : State → Part → List Part → World
closing_world s q qs = record { state = s; facts = last_facts q.facts qs }

-- what stands when pieces were run, over the last register
abbrev pub last_world : Job → World → List Part → World
last_world job w ps =
    record { state = state_after job w.state ps; facts = last_facts w.facts (parts_after job w.state ps) }

-- however a list of calls is cut, over registers of whatever makes that begin with what stands there, the law holds of it
abbrev pub RunsKeepTheLaw : Type 0
RunsKeepTheLaw =
    (job : Job) → SoundJob (ids_of job) (nodes_of job) (root_of job) → (m : Meaning) (ps : List Part) → Joined job (opened job m) ps →
    Law job m (all_lines ps) (all_lines (parts_after job (opened job m).state ps)) (last_world job (opened job m) ps)
    (verdict_of job (last_world job (opened job m) ps))

-- and it gives what the calls in one list give
abbrev pub CuttingChangesNothing : Type 0
CuttingChangesNothing =
    (job : Job) (w : World) (ps : List Part) → Joined job w ps →
    Uncut job w ps (parts_after job w.state ps) (last_world job w ps) (verdict_of job (last_world job w ps))
