use Rattle.std.proofs.Common.{rules}
use Rattle.goals.proofs.FrameSteps.{operations-more, operations-all}
use Rattle.goals.proofs.frame.end_of_operations.Goals as goal

pub loop-preserved : goal.loop-preserved
loop-preserved c = search (rules, operations-more)

pub returns-clause-value : goal.returns-clause-value
returns-clause-value c = search (rules, operations-all)
