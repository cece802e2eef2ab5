use Rattle.std.proofs.Common.{arith}
use Rattle.registers.proofs.ListLaws.{first-at_index}
use Rattle.registers.proofs.fact_list.FactIterIterator.next.Goals as goal

pub returns-clause-steps : goal.returns-clause-steps
returns-clause-steps g c =
    first-at_index _ c.args.self.now.next c.get-fact.result c.get-fact.ensures (omega (arith, c.if-self.false, c.requires))
