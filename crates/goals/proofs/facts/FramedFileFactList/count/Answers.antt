use Rattle.std.proofs.Common.{sym, ◌∙◌}
use Rattle.goals.proofs.FillSteps.{facts-count}
use Rattle.goals.proofs.facts.FramedFileFactList.count.Goals as goal

pub returns : goal.returns
returns c = c.from.ensures ∙ sym (facts-count _ _ _)
