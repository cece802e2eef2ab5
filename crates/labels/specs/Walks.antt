-- What the code that progresses a goal node answers: where the progress stands in the table, grown by the results.
-- A quantifier goes over the ids from the first on, with a running result.
use Rattle.std.specs.Prelude.{ℕ, List, Result}
use Rattle.goals.specs.declared.goal.Variable.{Variable}
use Rattle.goals.specs.declared.goal.Atom.{Atom}
use Rattle.labels.specs.declared.binding.Binding.{Binding}
use Rattle.labels.specs.declared.connective.Connective.{Connective}
use Rattle.labels.specs.declared.part.Part.{Part}
use Rattle.labels.specs.Facts.{Facts, bind, fact}
use Rattle.labels.specs.Goals.{Goal}
use Rattle.labels.specs.Labels.{Label}
use Rattle.labels.specs.Joining.{joined}
use Rattle.labels.specs.Connectives.{join_by, start_of}
use Rattle.labels.specs.Progress.{progress}
use Rattle.labels.specs.Work.{running, results}
use Rattle.labels.specs.Growth.{Outcome}

module _ (N : ℕ) (s : Facts) (D : ℕ) where
  abbrev pub Walked : {E : Type 0} → ℕ → List Part → List Part → Goal → Binding → Result ℕ E → Type 0
  Walked limit old new φ b answer = Outcome limit old new (progress N s D φ b) (results N s D φ b) answer

  -- a quantifier's running result over the ids below n, and its results for them
  module _ (by : Connective) (v : Variable) (a : Atom) (φ : Goal) (b : Binding) where
    abbrev pub joined_to : ℕ → Label
    joined_to n = joined (join_by by) (start_of by) (λ x. fact s (bind v x b) a) (λ x. progress N s D φ (bind v x b)) n

    abbrev pub results_to : ℕ → List Label
    results_to n =
        running (join_by by) (start_of by) (λ x. fact s (bind v x b) a) (λ x. progress N s D φ (bind v x b))
        (λ x. results N s D φ (bind v x b)) n
