-- The number of each refusal of a label's progress or judgement.
-- Every promise that speaks of a refusal's number takes it from here.
use Rattle.std.specs.Prelude.{ℕ}
use Rattle.labels.specs.declared.refusal.LabelRefusal.{LabelRefusal}
use Rattle.labels.specs.declared.refusal.LabelRefusal.TheVariants.{OtherJob, TooMuchWork, TooLong}

abbrev pub number_of : LabelRefusal → ℕ
number_of OtherJob = 10
number_of TooMuchWork = 15
number_of TooLong = 16
