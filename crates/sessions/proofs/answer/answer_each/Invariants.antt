use Rattle.std.proofs.Common.{◌≡◌, ◌++◌, take, drop}
use Rattle.sessions.specs.Answers.{calls_in, after_calls, answered}
use Rattle.sessions.specs.SessionView.{world}
use Rattle.sessions.proofs.answer.answer_each.Given as goal

-- the calls left lead where all of them did, and complete the answers
abbrev pub invariant-loop-line : goal.invariant-loop-line
invariant-loop-line g l =
    record {
      after : after_calls l.job (world l.initial.session (g.R.Register.meaning l.initial.register)) (calls_in l.initial.lines)
          ≡ after_calls l.job (world l.session (g.R.Register.meaning l.register)) (calls_in (drop l.line-index l.lines));
      lines : answered l.job (world l.initial.session (g.R.Register.meaning l.initial.register)) l.initial.lines
          ≡ take l.line-index l.lines ++ answered l.job (world l.session (g.R.Register.meaning l.register)) (drop l.line-index l.lines);
    }
