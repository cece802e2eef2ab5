use Rattle.std.proofs.Common.{arith}
use Rattle.std.proofs.lemmas.Grind.{common_steps}
use Rattle.labels.specs.LabelCalls.{idling_answer}
use Rattle.sessions.specs.Answers.{idles_by}
use Rattle.sessions.proofs.session.Session.look.Goals as goal

pub returns-in_err-idles : goal.returns-in_err-idles
unfolding idling_answer idles_by
returns-in_err-idles g c = grind (arith, common_steps)

pub returns : goal.returns
unfolding idling_answer idles_by
returns g c = grind (arith, common_steps)
