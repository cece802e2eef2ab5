use Rattle.std.proofs.Common.{arith}
use Rattle.std.proofs.lemmas.Fmt.{length-decimal-le}
use Rattle.std.proofs.lemmas.Grind.{common_steps}
use Rattle.reports.proofs.text.Text.push_field.Goals as goal

pub push_number-requires : goal.push_number-requires
push_number-requires c = grind (arith, length-decimal-le 20)

pub push_bytes-requires : goal.push_bytes-requires
push_bytes-requires c = grind (arith, common_steps, length-decimal-le 20)

pub returns-clause-short : goal.returns-clause-short
returns-clause-short c = grind (arith, common_steps, length-decimal-le 20)
