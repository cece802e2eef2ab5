-- The first need that fails, need by need; the facts that entries name, one by one.
use Rattle.std.proofs.Common.{◌≡◌, ℕ, ◌+◌, Bool, true, false, cond, not, List, [], ◌∷◌, Some, refl, ap, ◌∙◌}
use Rattle.std.specs.List.{position_from}
use Rattle.registers.specs.Meaning.{Meaning}
use Rattle.goals.specs.declared.operation.Entry.{Entry}
use Rattle.sessions.specs.declared.step.Arguments.{Arguments}
use Rattle.sessions.specs.Steps.{need_holds, failing_from}

-- the first need that fails the test is the first that does not hold
pub failing-position : (m : Meaning) (a : Arguments) (n : ℕ) (es : List Entry) → position_from (λ e. not (need_holds m a e)) n es ≡ failing_from m a n es
unfolding failing_from
failing-position m a n [] = refl
failing-position m a n (e ∷ es) = swapped (need_holds m a e) ∙ ap (λ t. cond (need_holds m a e) t (Some n)) (failing-position m a (n + 1) es) where
  swapped : (b : Bool) → cond (not b) (Some n) (position_from (λ e. not (need_holds m a e)) (n + 1) es) ≡ cond b (position_from (λ e. not (need_holds m a e)) (n + 1) es) (Some n)
  swapped true = refl
  swapped false = refl
