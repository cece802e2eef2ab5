use Rattle.std.proofs.Common.{◌≡◌, ◌+◌, ◌-◌, ◌*◌, ◌≤◌}
use Rattle.goals.specs.Frame.{predicates_end}
use Rattle.goals.proofs.frame.end_of_predicates.Given as goal

-- what is left to walk ends where the whole does
abbrev pub invariant-loop : goal.invariant-loop
invariant-loop l = (predicates_end l.file l.count 14 ≡ predicates_end l.file (l.count - l.counter) l.at) × (l.at ≤ 14 + 257 * l.counter)
