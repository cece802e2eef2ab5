-- The number of each refusal that can end a report, by the numbers of the file's, a step's and a look's refusals.
use Rattle.std.specs.Prelude.{ℕ}
use Rattle.goals.specs.FaultNumbers.{fill_number}
use Rattle.sessions.specs.Refusals.{step_number, look_number}
use Rattle.reports.specs.declared.ending.ReportRefusal.{ReportRefusal}
use Rattle.reports.specs.declared.ending.ReportRefusal.TheVariants.{File, Step, Look}

abbrev pub refusal_number : ReportRefusal → ℕ
refusal_number (File fault) = fill_number fault
refusal_number (Step r) = step_number r
refusal_number (Look r) = look_number r
