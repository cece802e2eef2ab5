use Rattle.std.proofs.Common.{refl, arith}
use Rattle.registers.specs.Records.{listed}
use Rattle.registers.proofs.Counts.{count_none}
use Rattle.registers.proofs.RecordSteps.{list_bounded, list_empty}
use Rattle.registers.proofs.record_list.RecordList.new.Goals as goal

pub invariant_of-result : goal.invariant_of-result
unfolding listed
invariant_of-result c = record { few = omega arith; apart = count_none; bounded = list_bounded c.args.table.now 0 (omega arith) count_none }

pub returns : goal.returns
returns c = record { meaning = list_empty c.args.table.now; kept = refl }
