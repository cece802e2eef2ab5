use Rattle.std.proofs.Common.{refl, sym, ap, ◌∙◌, subst}
use Rattle.std.specs.Option.{is_some}
use Rattle.goals.specs.Tokens.{variable}
use Rattle.goals.specs.Seen.{tokens_in}
use Rattle.goals.specs.Reading.{run, binds}
use Rattle.goals.specs.Scopes.{newest}
use Rattle.goals.specs.Promises.{vocabulary, BoundSays, TestRead, is_bound}
use Rattle.std.proofs.lemmas.Bool.{or_left, or_right, or_from}
use Rattle.goals.proofs.Moves.{here}
use Rattle.goals.proofs.Terms.{broke, told_as}
use Rattle.goals.proofs.Prefixes.{no_variable, use_found, binds_fail, colon_fault, name-fault, test-fault, lacking, bound-read}
use Rattle.goals.proofs.words.Reader.bound.Goals as goal
use Rattle.goals.proofs.words.Reader.bound.Goals.{then-stands_for-via-then-stands_for, then-stands_for-via-else-stands_for+then-stands_for-2}

pub returns-in_default : goal.returns-in_default
returns-in_default c =
    let V = vocabulary c.args.self.now.words in
    let p = c.args.s.now in
    let n = c.next_token-token in
    λ x k e. ap (run V p.count (binds x k)) n.ensures.there
    ∙ no_variable V p.count x k n.result.kind n.result.place (tokens_in n.result.rest) c.in_default.not-Variable

pub test-requires-clause-here : goal.test-requires-clause-here
test-requires-clause-here c =
    let h = c.in_ok-named.ensures (vocabulary c.args.self.now.words) in
    record { there = h.there; further = h.further }

pub returns-then-is_some : goal.returns-then-is_some
returns-then-is_some c =
    let V = vocabulary c.args.self.now.words in
    let n = c.next_token-token in
    let v = c.in-Variable.letter in
    let h = here c.args.s.now n.ensures c.in-Variable.is (variable v) (λ p s. refl) in
    binds_fail V h c.args.self.now.scope (use_found c.args.self.now.scope.letters v ∙ ap is_some (sym c.find.ensures) ∙ sym c.if-is_some.ensures)

pub returns-in_err-expect : goal.returns-in_err-expect
returns-in_err-expect c =
    let V = vocabulary c.args.self.now.words in
    let n = c.next_token-token in
    let v = c.in-Variable.letter in
    let h = here c.args.s.now n.ensures c.in-Variable.is (variable v) (λ p s. refl) in
    let f = use_found c.args.self.now.scope.letters v ∙ ap is_some (sym c.find.ensures) ∙ sym c.if-is_some.ensures in
    let x = c.in_err-expect.ensures in
    broke (BoundSays V c.args.self.now.scope c.args.s.now _) _ c.from_residual.result c.from_residual.ensures.1
    (λ y k e. told_as x.0 (colon_fault V h c.args.self.now.scope c.pass.ensures f x.1 y k e))

pub returns-in_err-named : goal.returns-in_err-named
returns-in_err-named c =
    let V = vocabulary c.args.self.now.words in
    let n = c.next_token-token in
    let v = c.in-Variable.letter in
    let h = here c.args.s.now n.ensures c.in-Variable.is (variable v) (λ p s. refl) in
    let f = use_found c.args.self.now.scope.letters v ∙ ap is_some (sym c.find.ensures) ∙ sym c.if-is_some.ensures in
    broke (BoundSays V c.args.self.now.scope c.args.s.now _) _ c.from_residual-in_err-named.result c.from_residual-in_err-named.ensures.1
    (name-fault V h c.args.self.now.scope c.pass.ensures f c.in_ok-expect.ensures _ (c.in_err-named.ensures V))

pub returns-in_err-atom : goal.returns-in_err-atom
returns-in_err-atom c =
    let V = vocabulary c.args.self.now.words in
    let n = c.next_token-token in
    let v = c.in-Variable.letter in
    let h = here c.args.s.now n.ensures c.in-Variable.is (variable v) (λ p s. refl) in
    let f = use_found c.args.self.now.scope.letters v ∙ ap is_some (sym c.find.ensures) ∙ sym c.if-is_some.ensures in
    let b = c.binding.ensures in
    broke (BoundSays V c.args.self.now.scope c.args.s.now _) _ c.from_residual-in_err-atom.result c.from_residual-in_err-atom.ensures.1
    (test-fault V h c.args.self.now.scope c.pass.ensures f c.in_ok-expect.ensures _ (λ r d e. c.in_err-atom.ensures r (d ∙ sym b) e))

pub returns-then-stands_for : goal.returns-then-stands_for
returns-then-stands_for c =
    let V = vocabulary c.args.self.now.words in
    let n = c.next_token-token in
    let v = c.in-Variable.letter in
    let h = here c.args.s.now n.ensures c.in-Variable.is (variable v) (λ p s. refl) in
    let f = use_found c.args.self.now.scope.letters v ∙ ap is_some (sym c.find.ensures) ∙ sym c.if-is_some.ensures in
    let a = c.in_ok-atom.atom in
    let t = subst (λ z. TestRead V z 0 c.in_ok-named.named.token.place c.expect.new.self c.test.new.s a) c.binding.ensures c.in_ok-atom.ensures in
    let v = c.next-variable.ensures in
    bound-read V h c.args.self.now.scope c.pass.ensures f c.in_ok-expect.ensures t c.requires
    (elim c.then-stands_for.branch [
      | then-stands_for-via-then-stands_for w ↦ or_left (is_bound (newest c.args.self.now.scope.letters) a.first) (is_bound (newest c.args.self.now.scope.letters) a.second) (ap (λ z. is_bound z a.first) (sym v) ∙ sym w.if-stands_for.ensures)
      | then-stands_for-via-else-stands_for+then-stands_for-2 w ↦ or_right (is_bound (newest c.args.self.now.scope.letters) a.first) (is_bound (newest c.args.self.now.scope.letters) a.second) (ap (λ z. is_bound z a.second) (sym v) ∙ sym w.if-stands_for-2.ensures)
    ])

pub returns : goal.returns
returns c =
    let V = vocabulary c.args.self.now.words in
    let n = c.next_token-token in
    let v = c.in-Variable.letter in
    let h = here c.args.s.now n.ensures c.in-Variable.is (variable v) (λ p s. refl) in
    let f = use_found c.args.self.now.scope.letters v ∙ ap is_some (sym c.find.ensures) ∙ sym c.if-is_some.ensures in
    let a = c.in_ok-atom.atom in
    let t = subst (λ z. TestRead V z 0 c.in_ok-named.named.token.place c.expect.new.self c.test.new.s a) c.binding.ensures c.in_ok-atom.ensures in
    let v = c.next-variable.ensures in
    lacking V h c.args.self.now.scope c.pass.ensures f c.in_ok-expect.ensures t c.requires
    (or_from (is_bound (newest c.args.self.now.scope.letters) a.first) (is_bound (newest c.args.self.now.scope.letters) a.second) (ap (λ z. is_bound z a.first) (sym v) ∙ sym c.if-stands_for.ensures) (ap (λ z. is_bound z a.second) (sym v) ∙ sym c.if-stands_for-2.ensures))
