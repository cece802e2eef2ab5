-- What a label's progress and its judgement by idling mean over timed sequences.
-- Truth at a state is that of the definitions of truth, for the job's ids and nodes.
use Rattle.std.specs.Prelude.{◌≡◌, ℕ, suc, ◌-◌, Bool, T, ◌↔◌}
use Rattle.registers.specs.Meaning.{Meaning}
use Rattle.goals.specs.declared.time.Span.{Span}
use Rattle.goals.specs.declared.job.Job.{Job}
use Rattle.goals.specs.JobView.{ids_of, nodes_of}
use Rattle.labels.specs.Facts.{Facts}
use Rattle.labels.specs.Labels.{Label}
use Rattle.labels.specs.Sequences.{NeverFalls, copies, hourly}
use Rattle.labels.specs.Truth.{LabelTrue}
use Rattle.labels.specs.Held.{facts_of}

-- wherever a timed sequence has the register's facts and the span to its next state,
-- the label is true there exactly when the next label is true at the next state
abbrev pub Carries : Job → Meaning → Span → Label → Label → Type 0
Carries job m D l later =
    (state : ℕ → Facts) (hour : ℕ → ℕ) → NeverFalls hour → (i : ℕ) → state i ≡ facts_of m → hour (suc i) - hour i ≡ D.hours →
    LabelTrue (ids_of job) state hour (nodes_of job) l i ↔ LabelTrue (ids_of job) state hour (nodes_of job) later (suc i)

-- the answer says whether the label is true on endless copies of the facts, one hour apart
abbrev pub Judges : Job → Meaning → Label → Bool → Type 0
Judges job m l answer =
    (first : ℕ) → T answer ↔ LabelTrue (ids_of job) (copies (facts_of m)) (hourly first) (nodes_of job) l 0
