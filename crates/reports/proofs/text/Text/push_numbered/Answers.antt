use Rattle.std.proofs.Common.{arith}
use Rattle.std.proofs.lemmas.Grind.{common_steps}
use Rattle.std.proofs.lemmas.Fmt.{length-decimal-le}
use Rattle.reports.proofs.text.Text.push_numbered.Goals as goal

pub push_number-requires : goal.push_number-requires
push_number-requires c = grind (arith, common_steps, length-decimal-le 20)

pub push_bytes-requires-2 : goal.push_bytes-requires-2
push_bytes-requires-2 c = grind (arith, common_steps, length-decimal-le 20)
