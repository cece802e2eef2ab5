use Rattle.std.proofs.Common.{◌≡◌, ℕ, true, Ok, Err, Result, sym}
use borrow.Author.Tests.{not-true, not-false}
use Rattle.goals.specs.declared.goal_fault.GoalFault.{GoalFault}
use Rattle.goals.specs.declared.scope.Scope.{Scope}
use Rattle.goals.specs.declared.rest.Rest.{Rest}
use Rattle.goals.specs.declared.progress.Progress.{Progress}
use Rattle.goals.specs.declared.progress.Bound as code
use Rattle.goals.specs.Vocabulary.{Vocabulary}
use Rattle.goals.specs.Syntax as syntax
use Rattle.goals.specs.Grammar.{quantifier_mark}
use Rattle.goals.specs.Tokens.{mark}
use Rattle.goals.specs.Scopes.{has_room}
use Rattle.goals.specs.Promises.{vocabulary, QuantifiedSays, BoundSays, Here, Passed}
use Rattle.goals.proofs.Terms.{broke, told_as}
use Rattle.goals.proofs.Prefixes.{crowded, quantified-over, quantified-fault, quantified-read}
use Rattle.goals.proofs.words.Reader.quantified.Goals as goal

pub returns-then-are_full : goal.returns-then-are_full
returns-then-are_full c = λ x h. crowded (vocabulary c.args.self.now.words) x h c.args.self.now.scope (not-true (has_room c.args.self.now.scope.letters) (sym c.if-are_full.ensures))

pub returns-in_err-take : goal.returns-in_err-take
returns-in_err-take c =
    let y = c.in_err-take.ensures in
    let r = not-false (has_room c.args.self.now.scope.letters) (sym c.if-are_full.ensures) in
    λ x h. broke (QuantifiedSays (vocabulary c.args.self.now.words) c.args.self.now.scope x c.args.s.now _) _ c.from_residual.result c.from_residual.ensures.1
    (λ k e. told_as y.0 (quantified-over (vocabulary c.args.self.now.words) x h c.args.self.now.scope r y.1 k e))

either_way : (V : Vocabulary) (s : Scope) (x : syntax.Quantifier) (place : ℕ) (behind : Rest) (p q u : Progress) (r : Result code.Bound GoalFault) → Here p (mark (quantifier_mark x)) place behind → has_room s.letters ≡ true → Passed p q 1 behind → BoundSays V s q u r → QuantifiedSays V s x p u r
either_way V s x place behind p q u (Ok b) h room d o = quantified-read V x h s room d o
either_way V s x place behind p q u (Err y) h room d o = quantified-fault V x h s room d y o

pub returns : goal.returns
returns c = λ x h. either_way _ _ x _ _ _ _ _ c.bound.result h (not-false (has_room c.args.self.now.scope.letters) (sym c.if-are_full.ensures)) c.in_ok-take.ensures c.bound.ensures
