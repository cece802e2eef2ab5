use Rattle.std.proofs.Common.{arith}
use Rattle.std.proofs.lemmas.Grind.{common_steps}
use Rattle.std.proofs.lemmas.Fmt.{decimal_digit, decimal_step}
use Rattle.reports.proofs.text.Text.+push_number.Goals as goal

pub push_number-requires : goal.push_number-requires
push_number-requires t c = grind (arith, common_steps, decimal_step)

pub push_bytes-requires : goal.push_bytes-requires
push_bytes-requires t c = grind (arith, common_steps, decimal_digit, decimal_step)

pub returns : goal.returns
returns t c = grind (arith, common_steps, decimal_digit, decimal_step)
