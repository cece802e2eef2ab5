use Rattle.std.proofs.Common.{◌≡◌, ◌+◌, ◌≤◌, drop, take}
use Rattle.registers.specs.Meaning.{size_of}
use Rattle.sessions.specs.Steps.{excluding_all}
use Rattle.sessions.proofs.change.count_held.Given as goal

abbrev pub invariant-loop-k : goal.invariant-loop-k
invariant-loop-k g l =
    (drop l.k-iterator.count (g.L.FactList.listed l.takes) ≡ drop l.k-iterator.iter.next (g.L.FactList.listed l.k-iterator.iter.list.now))
    × (size_of (excluding_all (g.R.Register.meaning l.register) (take l.k-iterator.count (g.L.FactList.listed l.takes))) + l.held
    ≡ size_of (g.R.Register.meaning l.register))
    × (l.held ≤ l.k-iterator.count)
