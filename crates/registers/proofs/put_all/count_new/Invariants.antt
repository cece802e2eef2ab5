use Rattle.std.proofs.Common.{◌≡◌, ◌+◌, ◌≤◌, drop, take}
use Rattle.registers.specs.Meaning.{size_of, including_all}
use Rattle.registers.proofs.put_all.count_new.Given as goal

abbrev pub invariant-loop-k : goal.invariant-loop-k
invariant-loop-k g l =
    (drop l.k-iterator.count (g.L.FactList.listed l.list) ≡ drop l.k-iterator.iter.next (g.L.FactList.listed l.k-iterator.iter.list.now))
    × (size_of (g.R.Register.meaning l.register) + l.new
    ≡ size_of (including_all (g.R.Register.meaning l.register) (take l.k-iterator.count (g.L.FactList.listed l.list))))
    × (l.new ≤ l.k-iterator.count)
