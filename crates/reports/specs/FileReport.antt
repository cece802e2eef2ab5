-- The report of an edition file over a register: the report of its steps, once the register is filled, or the refusal of the filling.
use Rattle.std.specs.Prelude.{◌≡◌, ℕ, List, Ok, Err, Result}
use Rattle.registers.specs.Meaning.{Meaning}
use Rattle.goals.specs.declared.job.Job.{Job}
use Rattle.goals.specs.declared.fill_fault.FillFault.{FillFault}
use Rattle.goals.specs.JobReading.{FillSays}
use Rattle.sessions.specs.State.{opened}
use Rattle.reports.specs.declared.ending.Ending.TheVariants.{Refused}
use Rattle.reports.specs.declared.ending.ReportRefusal.TheVariants.{File}
use Rattle.reports.specs.Lines.{ending_line}
use Rattle.reports.specs.FileSteps.{steps_in}
use Rattle.reports.specs.Report.{report, ending_from}
use Rattle.reports.specs.Tells.{Tells}

-- the report of a file by what filling a register from it came to, and by what the register means then
abbrev pub file_report : List ℕ → Meaning → Result Job FillFault → List ℕ
file_report file filled (Ok job) = report job filled (steps_in file)
file_report file filled (Err fault) = ending_line (Refused (File fault))

-- what the last line tells, where the file is not refused
abbrev pub TellsOf : List ℕ → Meaning → Result Job FillFault → Type 0
TellsOf file filled (Ok job) = Tells job filled (steps_in file) (ending_from job (opened job filled) (steps_in file))
TellsOf file filled (Err fault) = Unit {0}

-- the bytes are the report of the file over a register that meant m: there is a reading of the file, the only one but for
-- the numbers of the goal's nodes and the operation named in a refusal with 2, and these are its report
pub record Reports (m : Meaning) (file bytes : List ℕ) : Type 0 where
  pub outcome : Result Job FillFault
  pub filled : Meaning
  pub reading : FillSays m filled file outcome
  pub written : bytes ≡ file_report file filled outcome
  pub tells : TellsOf file filled outcome
