use Rattle.std.proofs.Common.{is_some, ap, ◌∙◌}
use Rattle.registers.proofs.ListLaws.{any-position}
use Rattle.goals.proofs.read_catalogue.is_taken.Goals as goal

pub returns : goal.returns
returns c = c.is_some.ensures ∙ (ap is_some c.number_of.ensures ∙ any-position _ c.args.predicates.now)
