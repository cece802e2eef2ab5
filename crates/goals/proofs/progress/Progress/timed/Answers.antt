use Rattle.goals.specs.Promises.{TimedSays}
use Rattle.goals.proofs.Terms.{broke, told_as}
use Rattle.goals.proofs.Prefixes.{timed-over, timed-fault, timed-read}
use Rattle.goals.proofs.progress.Progress.timed.Goals as goal

pub returns-in_err-take : goal.returns-in_err-take
returns-in_err-take c =
    let x = c.in_err-take.ensures in
    λ V m e h. broke (TimedSays V m c.args.self.now _) _ c.from_residual.result c.from_residual.ensures.1 (λ k. told_as x.0 (timed-over V m h c.args.nodes e x.1 k))

pub returns-in_err-ends : goal.returns-in_err-ends
returns-in_err-ends c =
    λ V m e h. broke (TimedSays V m c.args.self.now _) _ c.from_residual-in_err-ends.result c.from_residual-in_err-ends.ensures.1
    (timed-fault V m h e c.in_ok-take.ensures c.add-truth.ensures _ (c.in_err-ends.ensures V))

pub returns : goal.returns
returns c = λ V m e h. timed-read V m h e c.in_ok-take.ensures c.add-truth.ensures (c.in_ok-ends.ensures V)
