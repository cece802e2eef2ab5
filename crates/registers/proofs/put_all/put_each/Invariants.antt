use Rattle.std.proofs.Common.{◌≡◌, true, drop}
use Rattle.registers.specs.Meaning.{including_all, all_allowed}
use Rattle.registers.proofs.put_all.put_each.Given as goal

abbrev pub invariant-loop-fact : goal.invariant-loop-fact
invariant-loop-fact g l =
    (including_all (g.R.Register.meaning l.register) (drop l.fact-iterator.next (g.L.FactList.listed l.fact-iterator.list.now))
    ≡ including_all (g.R.Register.meaning l.initial.register) (g.L.FactList.listed l.fn.list))
    × (all_allowed (drop l.fact-iterator.next (g.L.FactList.listed l.fact-iterator.list.now)) ≡ true)
