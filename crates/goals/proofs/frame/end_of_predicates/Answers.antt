use Rattle.std.proofs.Common.{rules}
use Rattle.goals.proofs.FrameSteps.{predicates-more, predicates-all}
use Rattle.goals.proofs.frame.end_of_predicates.Goals as goal

pub loop-preserved : goal.loop-preserved
loop-preserved c = search (rules, predicates-more)

pub returns-clause-value : goal.returns-clause-value
returns-clause-value c = search (rules, predicates-all)
