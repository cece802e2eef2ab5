use Rattle.std.proofs.Common.{arith}
use Rattle.std.proofs.lemmas.Grind.{common_steps}
use Rattle.labels.specs.LabelCalls.{idling_answer}
use Rattle.sessions.specs.Answers.{idles_by}
use Rattle.sessions.proofs.session.life.judge.Goals as goal

pub returns-in-Err : goal.returns-in-Err
unfolding idling_answer idles_by
returns-in-Err g c = grind (arith, common_steps, c.in-Err.ensures.answer)

pub returns-in-Ok-true : goal.returns-in-Ok-true
unfolding idling_answer idles_by
returns-in-Ok-true g c = grind (arith, common_steps)

pub returns-in-Ok-false : goal.returns-in-Ok-false
unfolding idling_answer idles_by
returns-in-Ok-false g c = grind (arith, common_steps)
