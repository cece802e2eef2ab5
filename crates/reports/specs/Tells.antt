-- What the last line of a report tells of a schedule, in terms of its model and the ledger of its steps.
-- The model of a schedule is its states, then copies of the last for ever, one hour apart.
use Rattle.std.specs.Prelude.{◌≡◌, ℕ, ◌↔◌, List, [], ◌∷◌, map, Some, None, Ok}
use Rattle.registers.specs.Meaning.{Meaning}
use Rattle.goals.specs.declared.job.Job.{Job}
use Rattle.goals.specs.declared.operation.Operation.{Operation}
use Rattle.sessions.specs.declared.step.Step.{Step}
use Rattle.sessions.specs.declared.call.Call.{Call}
use Rattle.sessions.specs.declared.call.Call as call
use Rattle.sessions.specs.State.{World, opened, advanced}
use Rattle.sessions.specs.Answers.{checked_at}
use Rattle.sessions.specs.Ledger.{ledger, broken_step}
use Rattle.sessions.specs.Laws.{ModelKeeps}
use Rattle.reports.specs.declared.ending.Ending.{Ending}
use Rattle.reports.specs.declared.ending.Ending.TheVariants.{Kept, NotKept, Broken}

abbrev pub step_calls : List Step → List Call
step_calls steps = map (λ (s : Step). call.TheVariants.Step s) steps

-- no step is refused, each at what the steps before it came to
unfoldable pub Accepted : Job → World → List Step → Type 0
Accepted job w [] = Unit {0}
Accepted job w (step ∷ steps) =
    (o : Operation) × (checked_at job w step ≡ Ok o) × Accepted job (advanced job w step.arguments o) steps

-- a schedule on a job, from a register that means m, and how its report ends
pub record Tells (job : Job) (m : Meaning) (steps : List Step) (ending : Ending) : Type 0 where
  -- `kept`: every step is accepted, and the model keeps the goal
  pub kept : (ending ≡ Kept) ↔ (Accepted job (opened job m) steps × ModelKeeps job (ledger job m (step_calls steps)))
  -- `broken k`: every step is accepted, and step k is the first whose label in the ledger is FALSE; the model does not keep the goal then
  pub broken : (k : ℕ) → (ending ≡ Broken k) ↔ (Accepted job (opened job m) steps × (broken_step job m (step_calls steps) ≡ Some k))
  pub lost : (k : ℕ) → broken_step job m (step_calls steps) ≡ Some k → ¬ (ModelKeeps job (ledger job m (step_calls steps)))
  -- `not kept`: every step is accepted, no label in the ledger is FALSE, and the model does not keep the goal
  pub not_kept : (ending ≡ NotKept)
      ↔ (Accepted job (opened job m) steps × (broken_step job m (step_calls steps) ≡ None) × (¬ (ModelKeeps job (ledger job m (step_calls steps)))))
