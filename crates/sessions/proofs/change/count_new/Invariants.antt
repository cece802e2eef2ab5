use Rattle.std.proofs.Common.{◌≡◌, ◌+◌, ◌≤◌, drop, take}
use Rattle.registers.specs.Meaning.{size_of, including_all}
use Rattle.sessions.specs.Steps.{excluding_all}
use Rattle.sessions.proofs.change.count_new.Given as goal

abbrev pub invariant-loop-k : goal.invariant-loop-k
invariant-loop-k g l =
    (drop l.k-iterator.count (g.L.FactList.listed l.puts) ≡ drop l.k-iterator.iter.next (g.L.FactList.listed l.k-iterator.iter.list.now))
    × (size_of (excluding_all (g.R.Register.meaning l.register) (g.S.FactList.listed l.takes)) + l.new
    ≡ size_of (including_all (excluding_all (g.R.Register.meaning l.register) (g.S.FactList.listed l.takes)) (take l.k-iterator.count (g.L.FactList.listed l.puts))))
    × (l.new ≤ l.k-iterator.count)
