use Rattle.std.proofs.Common.{◌<◌, ◌≤◌, length, sym, ◌∙◌, arith}
use Rattle.sessions.specs.SessionView.{world}
use Rattle.sessions.proofs.Turns.{after_turn, answered_turn, after-end, answered-end}
use Rattle.sessions.proofs.answer.answer_each.Goals as goal

pub loop-line-preserved : goal.loop-line-preserved
loop-line-preserved g c =
    let ls = c.loop-line.lines in
    let w = world c.loop-line.session (g.R.Register.meaning c.loop-line.register) in
    let v = world c.answer-answer.new.session (g.R.Register.meaning c.answer-answer.new.register) in
    let told = c.answer-answer.ensures in
    let lt : c.loop-line.line-index < length ls = omega arith in
    record {
      after = c.loop-line.invariant.after ∙ after_turn c.args.job.now ls c.loop-line.line-index _ lt w v _ told.after;
      lines = c.loop-line.invariant.lines ∙ answered_turn c.args.job.now ls c.loop-line.line-index _ lt w v _ told.answer told.after;
    }

pub returns : goal.returns
returns g c =
    let ls = c.loop-line.lines in
    let w = world c.loop-line.session (g.R.Register.meaning c.loop-line.register) in
    let le : length ls ≤ c.loop-line.line-index = omega arith in
    record {
      lines = sym (c.loop-line.invariant.lines ∙ answered-end c.args.job.now w ls c.loop-line.line-index le);
      after = sym (c.loop-line.invariant.after ∙ after-end c.args.job.now w ls c.loop-line.line-index le);
    }
