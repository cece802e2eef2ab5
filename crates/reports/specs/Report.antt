-- The report of a schedule: a line for the opening and for each accepted step up to the first refusal, then how it ends.
-- A refused step ends the report with its number; else the report ends with the broken step, if there is one, or the verdict.
use Rattle.std.specs.Prelude.{ℕ, List, [], ◌∷◌, ◌++◌, Ok, Err}
use Rattle.registers.specs.Meaning.{Meaning}
use Rattle.goals.specs.declared.job.Job.{Job}
use Rattle.sessions.specs.declared.step.Step.{Step}
use Rattle.sessions.specs.State.{World, opened, advanced}
use Rattle.sessions.specs.Answers.{checked_at, verdict_of}
use Rattle.reports.specs.declared.ending.Ending.{Ending}
use Rattle.reports.specs.declared.ending.Ending.TheVariants.{Refused}
use Rattle.reports.specs.declared.ending.ReportRefusal as refusal
use Rattle.reports.specs.Lines.{line_of, verdict_ending, ending_line}

-- the lines of the steps that are accepted, up to the first that is refused
unfoldable pub lines_from : Job → World → List Step → List ℕ
lines_from job w [] = []
lines_from job w (step ∷ steps) =
    elim (checked_at job w step) [
      | Ok o ↦ line_of (advanced job w step.arguments o) ++ lines_from job (advanced job w step.arguments o) steps
      | Err r ↦ []
    ]

-- how the report ends
unfoldable pub ending_from : Job → World → List Step → Ending
ending_from job w [] = verdict_ending w.state.broken (verdict_of job w).judgement
ending_from job w (step ∷ steps) =
    elim (checked_at job w step) [
      | Ok o ↦ ending_from job (advanced job w step.arguments o) steps
      | Err r ↦ Refused (refusal.TheVariants.Step r)
    ]

-- the report of a job's steps over a register that means m
unfoldable pub report : Job → Meaning → List Step → List ℕ
report job m steps =
    line_of (opened job m) ++ (lines_from job (opened job m) steps ++ ending_line (ending_from job (opened job m) steps))
