-- What a reader's loop keeps: whatever stood at the start of the table, what the loop began with has grown to what it has now.
use Rattle.std.proofs.Common.{◌≡◌, ℕ, ◌≤◌, Option}
use Rattle.goals.specs.declared.scope.Scope.{Scope}
use Rattle.goals.specs.declared.progress.Progress.{Progress}
use Rattle.goals.specs.Vocabulary.{Vocabulary}
use Rattle.goals.specs.Syntax as syntax
use Rattle.goals.specs.Tree.{clause-tree, formula-tree}
use Rattle.goals.specs.Reading.{Around, scope_around, after, joined_or}
use Rattle.goals.specs.Promises.{left, tokens, from, head_sign, Made}

pub record ClauseNow (V : Vocabulary) (s : Scope) (o p q : Progress) (c : syntax.Clause) (j : ℕ) : Type 0 where
  pub clause : syntax.Clause
  pub made : Made o q j (clause-tree V s clause)
  pub runs : (b : Option syntax.Formula) (f : Around) → scope_around f ≡ s → from V p (after c b f) ≡ from V q (after clause b f)

pub record ClauseGoing (V : Vocabulary) (s : Scope) (p q : Progress) (i j : ℕ) : Type 0 where
  pub carries : (o : Progress) (c : syntax.Clause) → Made o p i (clause-tree V s c) → ClauseNow V s o p q c j
  pub low : left q ≤ left p

pub record FormulaNow (V : Vocabulary) (s : Scope) (o p q : Progress) (c : syntax.Clause) (b : Option syntax.Formula) (j : ℕ) : Type 0 where
  pub last : syntax.Clause
  pub before : Option syntax.Formula
  pub made : Made o q j (formula-tree V s (joined_or before last))
  pub runs : (f : Around) → scope_around f ≡ s → from V p (after c b f) ≡ from V q (after last before f)

pub record FormulaGoing (V : Vocabulary) (s : Scope) (p q : Progress) (i j : ℕ) : Type 0 where
  pub carries : (o : Progress) (c : syntax.Clause) (b : Option syntax.Formula) → Made o p i (formula-tree V s (joined_or b c)) → FormulaNow V s o p q c b j
  pub no_and : head_sign (tokens q) ≡ 38 → ⊥
  pub low : left q ≤ left p
