-- The report of a schedule, as bytes: a line for the opening and for each step, then the verdict.
-- A refusal ends the report with its number; every line ends with a line feed.
-- No contract names these definitions. What the library call `report` promises is told by the definitions of the crate `reports`.
use Rattle.std.specs.Prelude.{ℕ, List, [], ◌∷◌, ◌++◌, Some, None, Ok, Err, codes, decimal, Option}
use Rattle.registers.specs.Meaning.{Meaning}
use Rattle.goals.specs.declared.job.Job.{Job}
use Rattle.labels.specs.declared.state.LabelState.{LabelState}
use Rattle.labels.specs.declared.state.LabelState.TheVariants.{True, False, Open}
use Rattle.labels.specs.Size.{size}
use Rattle.labels.specs.LabelCalls.{state_of}
use Rattle.sessions.specs.declared.step.Step.{Step}
use Rattle.sessions.specs.declared.verdict.Judgement.{Judgement}
use Rattle.sessions.specs.declared.verdict.Judgement.TheVariants.{Kept, NotKept, OtherJob}
use Rattle.sessions.specs.Refusals.{step_number}
use Rattle.sessions.specs.State.{World, opened, advanced}
use Rattle.sessions.specs.Answers.{checked_at, verdict_of}

abbrev pub line_feed : List ℕ
line_feed = 10 ∷ []

abbrev pub truth_word : LabelState → List ℕ
truth_word True = codes "true"
truth_word False = codes "false"
truth_word Open = codes "open"

-- number, hour, label size, and whether the label is true, false or open
abbrev pub line_of : World → List ℕ
line_of w =
    decimal w.state.number ++ (codes " "
    ++ (decimal w.state.hour ++ (codes " "
    ++ (decimal (size w.state.label) ++ (codes " "
    ++ (truth_word (state_of w.state.label) ++ line_feed))))))

abbrev pub refused_line : ℕ → List ℕ
refused_line n = codes "refused " ++ (decimal n ++ line_feed)

abbrev pub judgement_line : Judgement → List ℕ
judgement_line Kept = codes "kept" ++ line_feed
judgement_line NotKept = codes "not kept" ++ line_feed
judgement_line OtherJob = refused_line 10

-- a broken step is named whatever the judgement
abbrev pub ending_line : Option ℕ → Judgement → List ℕ
ending_line (Some k) j = codes "broken " ++ (decimal k ++ line_feed)
ending_line None j = judgement_line j

-- the lines of the steps, and the last line
unfoldable pub report_from : Job → World → List Step → List ℕ
report_from job w [] = ending_line w.state.broken (verdict_of job w).judgement
report_from job w (step ∷ steps) =
    elim (checked_at job w step) [
      | Ok o ↦ line_of (advanced job w step.arguments o) ++ report_from job (advanced job w step.arguments o) steps
      | Err r ↦ refused_line (step_number r)
    ]

-- the report of a job's steps over a register that means m
unfoldable pub report : Job → Meaning → List Step → List ℕ
report job m steps = line_of (opened job m) ++ report_from job (opened job m) steps
