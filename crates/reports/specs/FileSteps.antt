-- The steps of an edition file, and the calls that a report makes: a look at the opening, then each step with a look behind it.
use Rattle.std.specs.Prelude.{ℕ, zero, suc, ◌+◌, List, [], ◌∷◌, None}
use Rattle.goals.specs.Bytes.{byte_at}
use Rattle.goals.specs.Frame.{frame_of}
use Rattle.sessions.specs.declared.step.Step.{Step}
use Rattle.sessions.specs.declared.call.Call.{Call}
use Rattle.sessions.specs.declared.call.Call as call
use Rattle.sessions.specs.declared.call.Line.{Line}

-- the four bytes at a place: the operation and three arguments
abbrev pub step_at : List ℕ → ℕ → Step
step_at file at =
    record {
      operation = byte_at file at;
      arguments = record { first = byte_at file (at + 1); second = byte_at file (at + 2); third = byte_at file (at + 3) };
    }

-- n steps, one behind the other
unfoldable pub steps_from : List ℕ → ℕ → ℕ → List Step
steps_from file zero at = []
steps_from file (suc n) at = step_at file at ∷ steps_from file n (at + 4)

-- the steps of a file, as many as it counts, from where its frame says that they begin
abbrev pub steps_in : List ℕ → List Step
steps_in file = steps_from file (frame_of file).steps (frame_of file).steps_at

-- a call that is not answered yet
abbrev pub unanswered : Call → Line
unanswered x = record { call = x; answer = None }

-- each step with a look behind it
unfoldable pub step_lines : List Step → List Line
step_lines [] = []
step_lines (step ∷ steps) = unanswered (call.TheVariants.Step step) ∷ (unanswered call.TheVariants.Look ∷ step_lines steps)

abbrev pub report_lines : List Step → List Line
report_lines steps = unanswered call.TheVariants.Look ∷ step_lines steps
