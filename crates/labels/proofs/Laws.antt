-- Laws of labels for the crates above: what a job's calls are by the definitions of progress, work and idling,
-- and that a job knows its opening label and what it progresses to. They cite these, and not the definitions' texts.
use Rattle.std.proofs.Common.{◌≡◌, Bool, true, false, cond, length, is_ok, refl}
use Rattle.registers.specs.Meaning.{Meaning}
use Rattle.goals.specs.declared.time.Span.{Span}
use Rattle.goals.specs.declared.job.Job.{Job}
use Rattle.goals.specs.JobView.{ids_of, nodes_of, root_of, SoundJob}
use Rattle.labels.specs.Facts.{Facts}
use Rattle.labels.specs.Labels.{Label}
use Rattle.labels.specs.Progress.{progressed}
use Rattle.labels.specs.Work.{work}
use Rattle.labels.specs.Known.{known}
use Rattle.labels.specs.Ledger.{opening}
use Rattle.labels.specs.Held.{facts_of}
use Rattle.labels.specs.LabelCalls.{opening_of, known_to, progress_of, work_of, progress_answer, after_progress}
use Rattle.labels.proofs.Knowing.{stay_known}

-- the opening label is the ledger's
pub opening-is : (job : Job) (s : Facts) → opening_of job ≡ (opening (nodes_of job) (root_of job) s).label
unfolding opening_of opening
opening-is job s = refl

pub known_is : (job : Job) (l : Label) → known_to job l ≡ known (length (nodes_of job)) (ids_of job) l
unfolding known_to
known_is job l = refl

module _ (job : Job) (m : Meaning) (D : Span) (l : Label) where
  pub progress-is : progress_of job m D l ≡ progressed (ids_of job) (facts_of m) D.hours (nodes_of job) l
  unfolding progress_of
  progress-is = refl

  pub work-is : work_of job m D l ≡ length (work (ids_of job) (facts_of m) D.hours (nodes_of job) l)
  unfolding work_of
  work-is = refl

module _ (job : Job) (sound : SoundJob (ids_of job) (nodes_of job) (root_of job)) where
  pub opening-known : known_to job (opening_of job) ≡ true
  unfolding known_to opening_of
  opening-known = (stay_known (ids_of job) (nodes_of job) sound.some_ids sound.rising).0 (root_of job) sound.inside

  pub progress-known : (m : Meaning) (D : Span) (l : Label) → known_to job l ≡ true → known_to job (progress_of job m D l) ≡ true
  unfolding known_to progress_of
  progress-known m D l h =
      (stay_known (ids_of job) (nodes_of job) sound.some_ids sound.rising).1 (facts_of m) D.hours l h

  -- a call of progress leaves a label that the job knows, accepted or refused
  pub after-known : (m : Meaning) (D : Span) (l : Label) → known_to job l ≡ true → known_to job (after_progress job m D l) ≡ true
  unfolding after_progress
  after-known m D l h = go (is_ok (progress_answer job m D l))
    where
      go : (c : Bool) → known_to job (cond c (progress_of job m D l) l) ≡ true
      go true = progress-known m D l h
      go false = h
