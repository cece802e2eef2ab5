use Rattle.std.proofs.Common.{Some, sym, refl, ap, ◌∙◌, inl, inr, ⊎_elim, arith}
use Rattle.goals.specs.declared.token.Sign.TheVariants as sign
use Rattle.goals.specs.Tokens.{digits, value}
use Rattle.goals.specs.Seen.{tokens_in}
use Rattle.goals.specs.Syntax as syntax
use Rattle.goals.specs.Tree.{span}
use Rattle.goals.specs.Reading.{run, upper}
use Rattle.goals.proofs.Moves.{here, sign_at, still-passed}
use Rattle.goals.proofs.Endings.{small, large, upper-step, upper_fail, star_step, no_upper}
use Rattle.goals.proofs.progress.Progress.upper.Goals as goal

pub returns-then-is : goal.returns-then-is
returns-then-is c =
    let h = sign_at c.args.self.now c.next_token-token.ensures sign.Star (sym c.if-is.ensures) in
    λ V. record { interval = syntax.from_on; value_is = λ lo. refl; runs = λ m lo e. star_step V h c.pass.ensures m lo; still = still-passed h c.pass.ensures }

pub returns-in_default : goal.returns-in_default
returns-in_default c =
    let p = c.args.self.now in
    let n = c.next_token-token in
    λ V m lo e. ap (run V p.count (upper m lo)) n.ensures.there ∙ no_upper V p.count m lo n.result.kind n.result.place (tokens_in n.result.rest) (sym c.if-is.ensures) c.in_default.not-Number

pub returns-then-hours-gt-MOST_HOURS : goal.returns-then-hours-gt-MOST_HOURS
returns-then-hours-gt-MOST_HOURS c =
    let d = c.in-Number.digits.now in
    let i = c.number_of-hours.ensures in
    let h = here c.args.self.now c.next_token-token.ensures c.in-Number.is (digits d) (λ p s. refl) in
    λ V m lo e. upper_fail V h m lo
    (⊎_elim (λ l. inl (large c.number_of-hours.result d i l)) (λ l. inr (let v = small c.number_of-hours.result d i l.0 in let k = l.1 in omega (arith, v, k, e))) c.then-hours-gt-MOST_HOURS.either)

pub returns : goal.returns
returns c =
    let d = c.in-Number.digits.now in
    let h = here c.args.self.now c.next_token-token.ensures c.in-Number.is (digits d) (λ p s. refl) in
    let v = small c.number_of-hours.result d c.number_of-hours.ensures c.if-hours-gt-MOST_HOURS.false in
    let a = c.if-hours-gt-MOST_HOURS.false in
    let b = c.if-hours-lower.false in
    λ V. record {
      interval = λ lo. syntax.from_to lo d;
      value_is = λ lo. ap (λ k. record { lower = span (value lo); upper = Some (record { hours = k }) }) v;
      runs = λ m lo e. upper-step V h (omega (arith, v, a)) c.pass-2.ensures m lo (omega (arith, v, b, e));
      still = still-passed h c.pass-2.ensures;
    }
