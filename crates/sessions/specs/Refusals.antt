-- The number of each refusal of a step and of a look.
-- Every promise that speaks of such a number takes it from here; a need's refusal also names the need.
use Rattle.std.specs.Prelude.{ℕ}
use Rattle.sessions.specs.declared.refusal.StepRefusal.{StepRefusal}
use Rattle.sessions.specs.declared.refusal.StepRefusal.TheVariants.{OtherJob, NoOperation, BadArgument, Need, TooManySteps, Full, TooMuchWork, TooLong}
use Rattle.sessions.specs.declared.refusal.LookRefusal.{LookRefusal}
use Rattle.sessions.specs.declared.refusal.LookRefusal as look

abbrev pub step_number : StepRefusal → ℕ
step_number OtherJob = 10
step_number NoOperation = 11
step_number BadArgument = 12
step_number (Need k) = 13
step_number TooManySteps = 14
step_number Full = 9
step_number TooMuchWork = 15
step_number TooLong = 16

abbrev pub look_number : LookRefusal → ℕ
look_number look.TheVariants.OtherJob = 10
