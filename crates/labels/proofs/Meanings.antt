-- The theorems of progression and idling for the calls on a label.
use Rattle.std.proofs.Common.{◌≡◌, ℕ, suc, ◌-◌, Bool, true, T, ◌↔◌, sym, subst}
use Rattle.registers.specs.Meaning.{Meaning}
use Rattle.goals.specs.declared.time.Span.{Span}
use Rattle.goals.specs.declared.job.Job.{Job}
use Rattle.goals.specs.JobView.{ids_of, nodes_of, root_of, SoundJob}
use Rattle.labels.specs.Facts.{Facts}
use Rattle.labels.specs.Labels.{Label}
use Rattle.labels.specs.Progress.{progressed}
use Rattle.labels.specs.Idling.{idling}
use Rattle.labels.specs.Sequences.{copies, hourly}
use Rattle.labels.specs.Truth.{LabelTrue}
use Rattle.labels.specs.Order.{ordered_label}
use Rattle.labels.specs.Held.{facts_of}
use Rattle.labels.specs.LabelCalls.{opening_of, progress_of}
use Rattle.labels.specs.LabelTruth.{Carries, Judges}
use Rattle.labels.proofs.Progression.{progression}
use Rattle.labels.proofs.Idling.{idling-is_truth}
use Rattle.labels.proofs.Order.{stay_in_order}

pub carries : (job : Job) (m : Meaning) (D : Span) (l : Label) → Carries job m D l (progress_of job m D l)
unfolding progress_of
carries job m D l state hour falls i es eh =
    let True-at : Label → ℕ → Type 0 = LabelTrue (ids_of job) state hour (nodes_of job) in
    subst (λ (d : ℕ). True-at l i ↔ True-at (progressed (ids_of job) (facts_of m) d (nodes_of job) l) (suc i)) eh
    (subst (λ (s : Facts). True-at l i ↔ True-at (progressed (ids_of job) s (hour (suc i) - hour i) (nodes_of job) l) (suc i)) es
    (progression (ids_of job) (nodes_of job) state hour falls i l))

module _ (job : Job) (sound : SoundJob (ids_of job) (nodes_of job) (root_of job)) where
  pub judges : (m : Meaning) (l : Label) → ordered_label l ≡ true → (b : Bool) → b ≡ idling (ids_of job) (facts_of m) (nodes_of job) l → Judges job m l b
  judges m l o b e first =
      subst (λ (c : Bool). T c ↔ LabelTrue (ids_of job) (copies (facts_of m)) (hourly first) (nodes_of job) l 0) (sym e)
      (idling-is_truth (ids_of job) (nodes_of job) sound.ordered (facts_of m) l o first)

  pub opening-ordered : ordered_label (opening_of job) ≡ true
  unfolding opening_of
  opening-ordered = (stay_in_order (ids_of job) (nodes_of job) sound.ordered).0 (root_of job)

  pub progress-ordered : (m : Meaning) (D : Span) (l : Label) → ordered_label l ≡ true → ordered_label (progress_of job m D l) ≡ true
  unfolding progress_of
  progress-ordered m D l o = (stay_in_order (ids_of job) (nodes_of job) sound.ordered).1 (facts_of m) D.hours l o
