-- The number of each refusal of a register.
-- Every promise that speaks of a refusal's number takes it from here.
use Rattle.std.specs.Prelude.{ℕ}
use Rattle.registers.specs.declared.refusal.Refusal.{Refusal}
use Rattle.registers.specs.declared.refusal.Refusal.TheVariants.{OutOfBounds, Full}

abbrev pub number_of : Refusal → ℕ
number_of OutOfBounds = 8
number_of Full = 9
