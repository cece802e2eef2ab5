use Rattle.std.proofs.Common.{Ok, Err, Result, ◌∙◌}
use Rattle.goals.specs.declared.goal.Term.{Term}
use Rattle.goals.specs.declared.goal_fault.GoalFault.{GoalFault}
use Rattle.goals.specs.declared.scope.Scope.{Scope}
use Rattle.goals.specs.declared.progress.Progress.{Progress}
use Rattle.goals.specs.Vocabulary.{Vocabulary}
use Rattle.goals.specs.Reading.{asks}
use Rattle.goals.specs.Promises.{vocabulary, SecondSays, OperandSays, SignRead}
use Rattle.goals.proofs.Terms.{broke, told_as, expected, unexpected, second-read}
use Rattle.goals.proofs.words.Reader.second.Goals as goal

pub returns-in_err-expect : goal.returns-in_err-expect
returns-in_err-expect c =
    let x = c.in_err-expect.ensures in
    broke (SecondSays (vocabulary c.args.self.now.words) c.args.self.now.scope c.args.s.now _) _ c.from_residual.result c.from_residual.ensures.1
    (λ a e. told_as x.0 (unexpected (vocabulary c.args.self.now.words) c.args.s.now 44 (asks a) x.1))

both_ways : (V : Vocabulary) (s : Scope) (p q u : Progress) (r : Result Term GoalFault) → SignRead p q 44 → OperandSays V s q u r → SecondSays V s p u r
both_ways V s p q u (Ok t) c o = second-read c o
both_ways V s p q u (Err x) c o = λ a e. expected V c (asks a) ∙ o a e

pub returns : goal.returns
returns c = both_ways _ _ _ _ _ c.operand.result c.in_ok-expect.ensures c.operand.ensures
