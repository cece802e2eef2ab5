use Rattle.std.proofs.Common.{sym, ap, ◌∙◌}
use Rattle.goals.specs.declared.token.Sign.TheVariants as sign
use Rattle.goals.specs.Seen.{tokens_in}
use Rattle.goals.specs.Reading.{run, equals}
use Rattle.goals.specs.Promises.{vocabulary, EquationSays}
use Rattle.goals.proofs.Moves.{sign_at}
use Rattle.goals.proofs.Terms.{broke, told_as}
use Rattle.goals.proofs.Prefixes.{no_equation, equation-over, equation-fault, equation-read}
use Rattle.goals.proofs.words.Reader.equation.Goals as goal

pub returns-then-not-is : goal.returns-then-not-is
returns-then-not-is c =
    let V = vocabulary c.args.self.now.words in
    let p = c.args.s.now in
    let n = c.next_token-token in
    λ x k e. ap (run V p.count (equals x k)) n.ensures.there ∙ no_equation V p.count x k n.result.kind n.result.place (tokens_in n.result.rest) (sym c.if-not-is.ensures)

pub returns-in_err-take : goal.returns-in_err-take
returns-in_err-take c =
    let V = vocabulary c.args.self.now.words in
    let h = sign_at c.args.s.now c.next_token-token.ensures sign.Equal (sym c.if-not-is.ensures) in
    let y = c.in_err-take.ensures in
    broke (EquationSays V c.args.self.now.scope c.args.left c.args.s.now _) _ c.from_residual.result c.from_residual.ensures.1
    (λ x k e. told_as y.0 (equation-over V h y.1 x k))

pub returns-in_err-right : goal.returns-in_err-right
returns-in_err-right c =
    let V = vocabulary c.args.self.now.words in
    let h = sign_at c.args.s.now c.next_token-token.ensures sign.Equal (sym c.if-not-is.ensures) in
    broke (EquationSays V c.args.self.now.scope c.args.left c.args.s.now _) _ c.from_residual-in_err-right.result c.from_residual-in_err-right.ensures.1
    (equation-fault V h c.in_ok-take.ensures _ c.args.self.now.scope c.in_err-right.ensures)

pub returns : goal.returns
returns c =
    let V = vocabulary c.args.self.now.words in
    let h = sign_at c.args.s.now c.next_token-token.ensures sign.Equal (sym c.if-not-is.ensures) in
    equation-read V h c.in_ok-take.ensures c.in_ok-right.ensures c.add.ensures
