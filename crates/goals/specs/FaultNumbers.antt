-- The number of each refusal of a file, its catalogue, its goal text and a filling, and the place that goes with it.
-- Every promise that speaks of such a number or place takes it from here.
use Rattle.std.specs.Prelude.{ℕ, ◌+◌, Some, None, Option}
use Rattle.registers.specs.Numbers as registers
use Rattle.goals.specs.declared.goal_fault.GoalFault.{GoalFault}
use Rattle.goals.specs.declared.goal_fault.GoalFault.TheVariants.{TooLong, Follow, Unknown, Range, Limit}
use Rattle.goals.specs.GoalFaults.{fault_number}
use Rattle.goals.specs.declared.catalogue_fault.CatalogueFault.{CatalogueFault}
use Rattle.goals.specs.declared.catalogue_fault.CatalogueFault.TheVariants.{Shape, Operation}
use Rattle.goals.specs.declared.job_fault.JobFault.{JobFault}
use Rattle.goals.specs.declared.job_fault.JobFault.TheVariants.{Catalogue, Goal}
use Rattle.goals.specs.declared.file_fault.FrameFault.{FrameFault}
use Rattle.goals.specs.declared.file_fault.FrameFault.TheVariants.{Mark, Length}
use Rattle.goals.specs.declared.file_fault.FileFault.{FileFault}
use Rattle.goals.specs.declared.file_fault.FileFault.TheVariants.{Frame, Job}
use Rattle.goals.specs.declared.fill_fault.FillFault.{FillFault}
use Rattle.goals.specs.declared.fill_fault.FillFault.TheVariants.{File, Register}

abbrev pub catalogue_number : CatalogueFault → ℕ
catalogue_number Shape = 1
catalogue_number (Operation k) = 2

abbrev pub job_number : JobFault → ℕ
job_number (Catalogue e) = catalogue_number e
job_number (Goal e) = fault_number e

abbrev pub frame_number : FrameFault → ℕ
frame_number Mark = 18
frame_number (Length p) = 19

abbrev pub file_number : FileFault → ℕ
file_number (Frame e) = frame_number e
file_number (Job e goal_start) = job_number e

abbrev pub fill_number : FillFault → ℕ
fill_number (File e) = file_number e
fill_number (Register r) = registers.number_of r

-- the place in the text
abbrev pub place_in_text : GoalFault → Option ℕ
place_in_text TooLong = None
place_in_text (Follow p) = Some p
place_in_text (Unknown p) = Some p
place_in_text (Range p) = Some p
place_in_text (Limit p) = Some p

-- a place in a text that begins at another place
abbrev pub moved : ℕ → Option ℕ → Option ℕ
moved by None = None
moved by (Some p) = Some (by + p)

-- the place in the file, where the fault has one
abbrev pub place_in_file : FileFault → Option ℕ
place_in_file (Frame Mark) = None
place_in_file (Frame (Length p)) = Some p
place_in_file (Job (Catalogue e) goal_start) = None
place_in_file (Job (Goal e) goal_start) = moved goal_start (place_in_text e)
