-- A run of steps by its ledger: the states passed, the present facts and hour, and the label.
-- A step is told by the facts after it and its span; it progresses the label by the facts before it.
use Rattle.std.specs.Prelude.{ℕ, ◌+◌, List, [], ◌∷◌, ◌++◌}
use Rattle.goals.specs.declared.goal.Node.{Node}
use Rattle.labels.specs.Facts.{Facts, unbound}
use Rattle.labels.specs.Goals.{goal_of_node}
use Rattle.labels.specs.Labels.{Label, waiting}
use Rattle.labels.specs.Progress.{progressed}

pub record Ledger : Type 0 where
  pub passed_facts : List Facts
  pub passed_hours : List ℕ
  pub facts : Facts
  pub hour : ℕ
  pub label : Label

pub record Step : Type 0 where
  pub after : Facts
  pub span : ℕ

-- the goal's root pending with its own ends, at hour 0
unfoldable pub opening : List Node → ℕ → Facts → Ledger
opening table root s =
    record {
      passed_facts = [];
      passed_hours = [];
      facts = s;
      hour = 0;
      label = waiting (goal_of_node table root) unbound;
    }

module _ (N : ℕ) (table : List Node) where
  unfoldable pub stepped : Ledger → Step → Ledger
  stepped L step =
      record {
        passed_facts = L.passed_facts ++ (L.facts ∷ []);
        passed_hours = L.passed_hours ++ (L.hour ∷ []);
        facts = step.after;
        hour = L.hour + step.span;
        label = progressed N L.facts step.span table L.label;
      }

  unfoldable pub run : List Step → Ledger → Ledger
  run [] L = L
  run (step ∷ steps) L = run steps (stepped L step)
