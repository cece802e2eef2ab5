use Rattle.std.proofs.Common.{refl, ap, ◌∙◌, arith}
use Rattle.goals.specs.Tokens.{digits}
use Rattle.goals.specs.Seen.{tokens_in}
use Rattle.goals.specs.Reading.{run, lower}
use Rattle.goals.proofs.Moves.{here, still-passed}
use Rattle.goals.proofs.Endings.{small, large, lower-step, lower_fail, no_lower}
use Rattle.goals.proofs.progress.Progress.lower.Goals as goal

pub returns-in_default : goal.returns-in_default
returns-in_default c =
    let p = c.args.self.now in
    let n = c.next_token-token in
    λ V m. ap (run V p.count (lower m)) n.ensures.there ∙ no_lower V p.count m n.result.kind n.result.place (tokens_in n.result.rest) c.in_default.not-Number

pub returns-then-hours-gt-MOST_HOURS : goal.returns-then-hours-gt-MOST_HOURS
returns-then-hours-gt-MOST_HOURS c =
    let d = c.in-Number.digits.now in
    let h = here c.args.self.now c.next_token-token.ensures c.in-Number.is (digits d) (λ p s. refl) in
    λ V. lower_fail V h (large c.number_of-hours.result d c.number_of-hours.ensures c.if-hours-gt-MOST_HOURS.true)

pub returns : goal.returns
returns c =
    let d = c.in-Number.digits.now in
    let h = here c.args.self.now c.next_token-token.ensures c.in-Number.is (digits d) (λ p s. refl) in
    let v = small c.number_of-hours.result d c.number_of-hours.ensures c.if-hours-gt-MOST_HOURS.false in
    λ V. record { digits_read = d; value_is = v; runs = lower-step V h (let l = c.if-hours-gt-MOST_HOURS.false in omega (arith, v, l)) c.pass.ensures; still = still-passed h c.pass.ensures }
