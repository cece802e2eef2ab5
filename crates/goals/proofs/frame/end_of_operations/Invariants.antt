use Rattle.std.proofs.Common.{◌≡◌, ◌+◌, ◌-◌, ◌*◌, ◌≤◌}
use Rattle.goals.specs.Frame.{operations_end}
use Rattle.goals.proofs.frame.end_of_operations.Given as goal

-- what is left to walk ends where the whole does
abbrev pub invariant-loop : goal.invariant-loop
invariant-loop l = (operations_end l.file l.count l.start ≡ operations_end l.file (l.count - l.counter) l.at) × (l.at ≤ l.start + 2301 * l.counter)
