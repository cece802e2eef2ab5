-- The number and the place of a refused goal text.
-- 3 is a text over 2,048 bytes, which has no place; 4 a token or the end that can't follow; 5 an unknown word; 6 a number out of range; 7 too much.
use Rattle.std.specs.Prelude.{ℕ}
use Rattle.goals.specs.declared.goal_fault.GoalFault.{GoalFault}
use Rattle.goals.specs.declared.goal_fault.GoalFault.TheVariants.{TooLong, Follow, Unknown, Range, Limit}
use Rattle.goals.specs.Reading.{Outcome, fault}

abbrev pub fault_number : GoalFault → ℕ
fault_number TooLong = 3
fault_number (Follow p) = 4
fault_number (Unknown p) = 5
fault_number (Range p) = 6
fault_number (Limit p) = 7

abbrev pub fault_place : GoalFault → ℕ
fault_place TooLong = 0
fault_place (Follow p) = p
fault_place (Unknown p) = p
fault_place (Range p) = p
fault_place (Limit p) = p

abbrev pub told : GoalFault → Outcome
told x = fault (fault_number x) (fault_place x)
