use Rattle.std.proofs.Common.{true, sym, refl, le_refl}
use Rattle.goals.specs.declared.token.Sign.TheVariants as sign
use Rattle.goals.specs.Syntax as syntax
use Rattle.goals.specs.Promises.{left, tokens, EndsSays}
use Rattle.goals.proofs.Moves.{sign_at, not_at}
use Rattle.goals.proofs.Terms.{broke, told_as}
use Rattle.goals.proofs.Endings.{no_ends, lower-fault, comma_fault, upper-fault, close-fault, ends_read}
use Rattle.goals.proofs.progress.Progress.ends.Goals as goal

pub returns-then-not-is : goal.returns-then-not-is
returns-then-not-is c =
    let p = c.args.self.now in
    let other = not_at p c.next_token-token.ensures sign.OpenEnds (sym c.if-not-is.ensures) in
    λ V. record {
      interval = syntax.unwritten;
      value_is = refl;
      runs = λ m. no_ends V true p.count m (tokens p) other;
      nodes_same = refl;
      count_same = refl;
      low = le_refl (left p);
    }

pub returns-in_err-hours : goal.returns-in_err-hours
returns-in_err-hours c =
    let h = sign_at c.args.self.now c.next_token-token.ensures sign.OpenEnds (sym c.if-not-is.ensures) in
    λ V. broke (EndsSays V c.args.self.now _) _ c.from_residual.result c.from_residual.ensures.1 (lower-fault V h c.pass.ensures _ (c.in_err-hours.ensures V))

pub returns-in_err-expect : goal.returns-in_err-expect
returns-in_err-expect c =
    let h = sign_at c.args.self.now c.next_token-token.ensures sign.OpenEnds (sym c.if-not-is.ensures) in
    let x = c.in_err-expect.ensures in
    λ V. broke (EndsSays V c.args.self.now _) _ c.from_residual-in_err-expect.result c.from_residual-in_err-expect.ensures.1 (λ m. told_as x.0 (comma_fault V h c.pass.ensures (c.in_ok-hours.ensures V) x.1 m))

pub returns-in_err-upper : goal.returns-in_err-upper
returns-in_err-upper c =
    let h = sign_at c.args.self.now c.next_token-token.ensures sign.OpenEnds (sym c.if-not-is.ensures) in
    λ V. broke (EndsSays V c.args.self.now _) _ c.from_residual-in_err-upper.result c.from_residual-in_err-upper.ensures.1 (upper-fault V h c.pass.ensures (c.in_ok-hours.ensures V) c.in_ok-expect.ensures _ (c.in_err-upper.ensures V))

pub returns-in_err-expect-2 : goal.returns-in_err-expect-2
returns-in_err-expect-2 c =
    let h = sign_at c.args.self.now c.next_token-token.ensures sign.OpenEnds (sym c.if-not-is.ensures) in
    let x = c.in_err-expect-2.ensures in
    λ V. broke (EndsSays V c.args.self.now _) _ c.from_residual-in_err-expect-2.result c.from_residual-in_err-expect-2.ensures.1 (λ m. told_as x.0 (close-fault V h c.pass.ensures (c.in_ok-hours.ensures V) c.in_ok-expect.ensures (c.in_ok-upper.ensures V) x.1 m))

pub returns : goal.returns
returns c =
    let h = sign_at c.args.self.now c.next_token-token.ensures sign.OpenEnds (sym c.if-not-is.ensures) in
    λ V. ends_read V h c.pass.ensures (c.in_ok-hours.ensures V) c.in_ok-expect.ensures (c.in_ok-upper.ensures V) c.in_ok-expect-2.ensures
