use Rattle.std.proofs.Common.{◌≡◌, drop}
use Rattle.sessions.specs.Steps.{excluding_all}
use Rattle.sessions.proofs.change.take_each.Given as goal

-- what is left to take decides
abbrev pub invariant-loop-fact : goal.invariant-loop-fact
invariant-loop-fact g l =
    excluding_all (g.R.Register.meaning l.register) (drop l.fact-iterator.next (g.L.FactList.listed l.fact-iterator.list.now))
    ≡ excluding_all (g.R.Register.meaning l.initial.register) (g.L.FactList.listed l.fn.takes)
