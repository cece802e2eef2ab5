use Rattle.std.proofs.Common.{sym, ap, ◌∙◌}
use Rattle.goals.specs.declared.token.Sign.TheVariants as sign
use Rattle.goals.specs.Seen.{tokens_in}
use Rattle.goals.specs.Reading.{run, after, open_at}
use Rattle.goals.specs.Promises.{head_sign, JointSays}
use Rattle.goals.proofs.Moves.{sign_at}
use Rattle.goals.proofs.Terms.{broke, told_as}
use Rattle.goals.proofs.Prefixes.{no_joint, until-over, until-fault, until-read, implies-over, implies-read}
use Rattle.goals.proofs.progress.Progress.joint.Goals as goal

pub returns-in_err-take : goal.returns-in_err-take
returns-in_err-take c =
    let h = sign_at c.args.self.now c.requires.here sign.Until (sym c.if-is.ensures) in
    let x = c.in_err-take.ensures in
    λ V. broke (JointSays V c.args.first c.args.self.now _) _ c.from_residual.result c.from_residual.ensures.1 (λ d o k. told_as x.0 (until-over V h x.1 d o k))

pub returns-in_err-ends : goal.returns-in_err-ends
returns-in_err-ends c =
    let h = sign_at c.args.self.now c.requires.here sign.Until (sym c.if-is.ensures) in
    λ V. broke (JointSays V c.args.first c.args.self.now _) _ c.from_residual-in_err-ends.result c.from_residual-in_err-ends.ensures.1 (until-fault V h c.in_ok-take.ensures _ (c.in_err-ends.ensures V))

pub returns-then-is : goal.returns-then-is
returns-then-is c =
    let h = sign_at c.args.self.now c.requires.here sign.Until (sym c.if-is.ensures) in
    λ V. until-read V h c.in_ok-take.ensures c.args.first (c.in_ok-ends.ensures V)

pub returns-in_err-take-2 : goal.returns-in_err-take-2
returns-in_err-take-2 c =
    let h = sign_at c.args.self.now c.requires.here sign.Implies (sym c.if-is-2.ensures) in
    let x = c.in_err-take-2.ensures in
    λ V. broke (JointSays V c.args.first c.args.self.now _) _ c.from_residual-in_err-take-2.result c.from_residual-in_err-take-2.ensures.1 (λ d o k. told_as x.0 (implies-over V h x.1 d o k))

pub returns-then-is-2 : goal.returns-then-is-2
returns-then-is-2 c =
    let h = sign_at c.args.self.now c.requires.here sign.Implies (sym c.if-is-2.ensures) in
    λ V. implies-read V h c.in_ok-take-2.ensures c.add.ensures

pub returns : goal.returns
returns c =
    let p = c.args.self.now in
    let t = c.args.token in
    let there = c.requires.here.there in
    λ V d o k. ap (run V p.count (after d o (open_at k))) there
    ∙ no_joint V p.count d o k t.kind t.place (tokens_in t.rest) (λ e. c.requires.no_and (ap head_sign there ∙ e)) (λ e. c.requires.no_or (ap head_sign there ∙ e)) (λ e. c.requires.no_close (ap head_sign there ∙ e)) (sym c.if-is.ensures) (sym c.if-is-2.ensures)
