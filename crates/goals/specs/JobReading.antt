-- What reading a job from a file comes to, and what filling a register from it does.
-- A file is tested for its frame (18, then 19), its catalogue (1, then 2) and its goal (3, then 4 to 7 from left to right); a filling then for its facts (8, then 9).
use Rattle.std.specs.Prelude.{◌≡◌, ℕ, true, false, List, Ok, Err, Result}
use Rattle.registers.specs.Meaning.{Meaning, including_all}
use Rattle.goals.specs.declared.frame.Frame.{Frame}
use Rattle.goals.specs.declared.job.Job as code
use Rattle.goals.specs.declared.catalogue_fault.CatalogueFault.TheVariants.{Shape, Operation}
use Rattle.goals.specs.declared.job_fault.JobFault.{JobFault}
use Rattle.goals.specs.declared.job_fault.JobFault.TheVariants.{Catalogue, Goal}
use Rattle.goals.specs.declared.file_fault.FileFault.{FileFault}
use Rattle.goals.specs.declared.file_fault.FileFault.TheVariants.{Frame as BadFrame, Job as BadJob}
use Rattle.goals.specs.declared.fill_fault.FillFault.{FillFault}
use Rattle.goals.specs.declared.fill_fault.FillFault.TheVariants.{File, Register}
use Rattle.goals.specs.declared.read_job.FramedJob.{FramedJob}
use Rattle.goals.specs.Frame.{framed}
use Rattle.goals.specs.Filling.{facts_of, facts_answer}
use Rattle.goals.specs.CatalogueMeaning.{predicates_of, operations_of, shape_sound, AtFault}
use Rattle.goals.specs.CatalogueReading.{Spelled}
use Rattle.goals.specs.Syntax.{Formula}
use Rattle.goals.specs.Reading.{read}
use Rattle.goals.specs.GoalFaults.{told}
use Rattle.goals.specs.GoalClaims.{GoalRead}
use Rattle.goals.specs.JobText.{goal_text, words_of, goal_outcome, operations_sound}

-- the catalogue is the file's, and the goal is what its text reads as
pub record JobRead (file : List ℕ) (f : Frame) (j : code.Job) : Type 0 where
  pub spelled : Spelled file f j.catalogue
  pub goal : GoalRead (words_of file f) (goal_text file f) j.goal

-- why a framed file has no job
abbrev pub FramedFault : List ℕ → Frame → JobFault → Type 0
FramedFault file f (Catalogue Shape) = shape_sound file f ≡ false
FramedFault file f (Catalogue (Operation k)) = (shape_sound file f ≡ true) × AtFault f.ids (predicates_of file f) (operations_of file f) k
FramedFault file f (Goal g) = (shape_sound file f ≡ true) × (operations_sound file f ≡ true) × (goal_outcome file f ≡ told g)

abbrev pub FramedSays : List ℕ → Frame → Result code.Job JobFault → Type 0
FramedSays file f (Ok j) = JobRead file f j
FramedSays file f (Err e) = FramedFault file f e

-- why a file has no job; a fault of its job comes with the place in the file at which the goal text begins
abbrev pub FaultOfFile : List ℕ → FileFault → Type 0
FaultOfFile file (BadFrame e) = Err e ≡ framed file
FaultOfFile file (BadJob e goal_start) = (f : Frame) × (Ok f ≡ framed file) × (goal_start ≡ f.goal_at) × FramedFault file f e

abbrev pub BothSays : List ℕ → Result FramedJob FileFault → Type 0
BothSays file (Ok b) = (b.file.bytes.now ≡ file) × (Ok b.file.frame ≡ framed file) × JobRead file b.file.frame b.job
BothSays file (Err e) = FaultOfFile file e

abbrev pub JobSays : List ℕ → Result code.Job FileFault → Type 0
JobSays file (Ok j) = (f : Frame) × (Ok f ≡ framed file) × JobRead file f j
JobSays file (Err e) = FaultOfFile file e

-- nothing is at fault in a framed file before its facts
pub record FreeOfFaults (file : List ℕ) (f : Frame) : Type 0 where
  pub shape : shape_sound file f ≡ true
  pub operations : operations_sound file f ≡ true
  pub formula : Formula
  pub goal : goal_outcome file f ≡ read formula

-- a filling: the file's fault; or else what its facts are answered; accepted, every fact of the file is in afterwards, and refused, nothing has changed
abbrev pub FillSays : Meaning → Meaning → List ℕ → Result code.Job FillFault → Type 0
FillSays m n file (Ok j) = (f : Frame) × (Ok f ≡ framed file) × JobRead file f j × (facts_answer m file f ≡ Ok tt) × (n ≡ including_all m (facts_of file f))
FillSays m n file (Err (File e)) = FaultOfFile file e × (n ≡ m)
FillSays m n file (Err (Register r)) =
    (f : Frame) × (Ok f ≡ framed file) × FreeOfFaults file f × (facts_answer m file f ≡ Err r) × (n ≡ m)
