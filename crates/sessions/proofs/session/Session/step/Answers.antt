use Rattle.std.proofs.Common.{arith}
use Rattle.std.proofs.lemmas.Grind.{common_steps}
use Rattle.labels.specs.LabelCalls.{progress_answer, after_progress}
use Rattle.sessions.proofs.session.Session.step.Goals as goal

pub returns-in_err-progress-clause-answer : goal.returns-in_err-progress-clause-answer
unfolding progress_answer after_progress
returns-in_err-progress-clause-answer g c = grind (arith, common_steps)

pub returns-in_err-progress-clause-after : goal.returns-in_err-progress-clause-after
unfolding progress_answer after_progress
returns-in_err-progress-clause-after g c = grind (arith, common_steps)

pub returns-clause-answer : goal.returns-clause-answer
unfolding progress_answer after_progress
returns-clause-answer g c = grind (arith, common_steps)

pub returns-clause-after : goal.returns-clause-after
unfolding progress_answer after_progress
returns-clause-after g c = grind (arith, common_steps)
