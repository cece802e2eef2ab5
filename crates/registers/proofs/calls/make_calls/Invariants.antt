use Rattle.std.proofs.Common.{◌≡◌, ◌++◌, take, drop}
use Rattle.registers.specs.Calls.{answered, after_lines}
use Rattle.registers.proofs.calls.make_calls.Given as goal

abbrev pub invariant-loop-line : goal.invariant-loop-line
invariant-loop-line g l =
    (answered (g.R.Register.meaning l.initial.register) l.fn.lines ≡ take l.line-index l.line-items ++ answered (g.R.Register.meaning l.register) (drop l.line-index l.line-items))
    × (after_lines (g.R.Register.meaning l.initial.register) l.fn.lines ≡ after_lines (g.R.Register.meaning l.register) (drop l.line-index l.line-items))
