use Rattle.std.proofs.Common.{refl, ap, ◌∙◌}
use Rattle.goals.specs.Tokens.{variable, digits}
use Rattle.goals.specs.Seen.{tokens_in}
use Rattle.goals.specs.Syntax as syntax
use Rattle.goals.specs.Reading.{run, asks}
use Rattle.goals.specs.Promises.{OperandSays, vocabulary}
use Rattle.goals.proofs.Moves.{here, still-passed}
use Rattle.goals.proofs.Terms.{broke, told_as, variable-step, variable_fail, id-step, id_fail, no_term}
use Rattle.goals.proofs.words.Reader.operand.Goals as goal
use Rattle.goals.proofs.words.Reader.operand.Goals.{in-Variable+in_ok-term-in-Variable, in-Number+in_ok-term-in-Number}

pub returns-in_err-term-in-Variable : goal.returns-in_err-term-in-Variable
returns-in_err-term-in-Variable c =
    let V = vocabulary c.args.self.now.words in
    let h = here c.args.s.now c.next_token-token.ensures c.in-Variable.is (variable c.in-Variable.letter) (λ p s. refl) in
    let x = c.in_err-term-in-Variable.ensures in
    broke (OperandSays V c.args.self.now.scope c.args.s.now _) _ c.from_residual.result c.from_residual.ensures.1
    (λ a e. told_as x.1 (variable_fail V h c.args.self.now.scope x.0 a e))

pub returns-in_err-term-in-Number : goal.returns-in_err-term-in-Number
returns-in_err-term-in-Number c =
    let V = vocabulary c.args.self.now.words in
    let h = here c.args.s.now c.next_token-token.ensures c.in-Number.is (digits c.in-Number.digits.now) (λ p s. refl) in
    let x = c.in_err-term-in-Number.ensures in
    broke (OperandSays V c.args.self.now.scope c.args.s.now _) _ c.from_residual-in_err-term-in-Number.result c.from_residual-in_err-term-in-Number.ensures.1
    (λ a e. told_as x.1 (id_fail V h x.0 a))

pub returns-in_default : goal.returns-in_default
returns-in_default c =
    let V = vocabulary c.args.self.now.words in
    let p = c.args.s.now in
    let n = c.next_token-token in
    λ a e. ap (run V p.count (asks a)) n.ensures.there ∙ no_term V p.count a n.result.kind n.result.place (tokens_in n.result.rest) c.in_default.not-Variable c.in_default.not-Number

pub returns : goal.returns
returns c =
    let V = vocabulary c.args.self.now.words in
    let p = c.args.s.now in
    let n = c.next_token-token.ensures in
    elim c.match-token.branch [
      | in-Variable+in_ok-term-in-Variable w ↦
          let v = w.in-Variable.letter in
          let h = here p n w.in-Variable.is (variable v) (λ p s. refl) in
          let x = w.in_ok-term-in-Variable.ensures in
          record { operand = syntax.variable v; value_is = w.term-is ∙ x.1; runs = variable-step V h c.args.self.now.scope x.0 c.pass.ensures; still = still-passed h c.pass.ensures }
      | in-Number+in_ok-term-in-Number w ↦
          let d = w.in-Number.digits.now in
          let h = here p n w.in-Number.is (digits d) (λ p s. refl) in
          let x = w.in_ok-term-in-Number.ensures in
          record { operand = syntax.id d; value_is = w.term-is ∙ x.1; runs = λ a e. id-step V h x.0 c.pass.ensures a; still = still-passed h c.pass.ensures }
    ]
