use Rattle.std.proofs.Common.{Some, ap, ◌∙◌, arith}
use Rattle.goals.proofs.FillSteps.{fact-there, fact_past}
use Rattle.goals.proofs.facts.FramedFileFactList.get.Goals as goal

pub returns-then-index-from : goal.returns-then-index-from
returns-then-index-from c =
    ap Some c.fact_at.ensures ∙ fact-there c.args.self.now.bytes.now c.args.self.now.frame.facts c.args.self.now.frame.facts_at c.args.index (omega (arith, c.from.ensures))

pub returns-else-index-from : goal.returns-else-index-from
returns-else-index-from c =
    fact_past c.args.self.now.bytes.now c.args.self.now.frame.facts c.args.self.now.frame.facts_at c.args.index (omega (arith, c.from.ensures))
