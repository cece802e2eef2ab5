-- The answer of progress, case by case, and the label that it leaves.
use Rattle.std.proofs.Common.{◌≡◌, ℕ, Bool, true, false, cond, not, ltb, List, is_ok, Ok, Err, Result, sym, refl, ap, le-ltb, lt-ltb}
use Rattle.registers.specs.Meaning.{Meaning}
use Rattle.goals.specs.declared.time.Span.{Span}
use Rattle.goals.specs.declared.job.Job.{Job}
use Rattle.goals.specs.JobView.{ids_of, nodes_of}
use Rattle.labels.specs.declared.part.Part.{Part}
use Rattle.labels.specs.declared.refusal.LabelRefusal.{LabelRefusal}
use Rattle.labels.specs.declared.refusal.LabelRefusal.TheVariants.{OtherJob, TooMuchWork, TooLong}
use Rattle.labels.specs.Labels.{Label}
use Rattle.labels.specs.Size.{size}
use Rattle.labels.specs.Idling.{idling}
use Rattle.labels.specs.Table.{label_at}
use Rattle.labels.specs.Held.{facts_of}
use Rattle.labels.specs.Worked.{Worked, WorkedOut}
use Rattle.labels.specs.LabelCalls.{known_to, progress_of, work_of, progress_answer, after_progress, idling_answer}

module _ (job : Job) (m : Meaning) (D : Span) (l : Label) where
  abbrev tests : Bool → Bool → Bool → Result (Unit {0}) LabelRefusal
  tests a b c = cond (not a) (Err OtherJob) (cond b (Err TooMuchWork) (cond c (Err TooLong) (Ok tt)))

  at-tests : {a b c : Bool} → known_to job l ≡ a → ltb 4096 (work_of job m D l) ≡ b → ltb 512 (size (progress_of job m D l)) ≡ c →
      tests a b c ≡ progress_answer job m D l
  unfolding progress_answer
  at-tests x y z = λ i. tests (sym x i) (sym y i) (sym z i)

  pub other_job : known_to job l ≡ false → Err OtherJob ≡ progress_answer job m D l
  other_job e = at-tests e refl refl

  pub left_alone : (e : LabelRefusal) → Err e ≡ progress_answer job m D l → l ≡ after_progress job m D l
  unfolding after_progress
  left_alone e r = ap (λ (x : Result (Unit {0}) LabelRefusal). cond (is_ok x) (progress_of job m D l) l) r

  pub changed : Ok tt ≡ progress_answer job m D l → progress_of job m D l ≡ after_progress job m D l
  unfolding after_progress
  changed r = ap (λ (x : Result (Unit {0}) LabelRefusal). cond (is_ok x) (progress_of job m D l) l) r

  module _ (known : known_to job l ≡ true) (new : List Part) where
    pub work-refused : (e : LabelRefusal) → Worked (ids_of job) (facts_of m) D.hours (nodes_of job) l new (Err e) → Err e ≡ progress_answer job m D l
    unfolding progress_of work_of
    work-refused OtherJob w = absurd w
    work-refused TooMuchWork w = at-tests known (lt-ltb 4096 (work_of job m D l) w) refl
    work-refused TooLong w =
        at-tests known (le-ltb 4096 (work_of job m D l) w.0) (lt-ltb 512 (size (progress_of job m D l)) w.1)

    pub work_accepted : (i : ℕ) → WorkedOut (ids_of job) (facts_of m) D.hours (nodes_of job) l new i → Ok tt ≡ progress_answer job m D l
    unfolding progress_of work_of
    work_accepted i w =
        at-tests known (le-ltb 4096 (work_of job m D l) w.work_fits) (le-ltb 512 (size (progress_of job m D l)) w.size_fits)

    pub new-label : (i : ℕ) → WorkedOut (ids_of job) (facts_of m) D.hours (nodes_of job) l new i → label_at new i ≡ progress_of job m D l
    unfolding progress_of
    new-label i w = w.is

-- the judgement of idling
module _ (job : Job) (m : Meaning) (l : Label) where
  abbrev judged : Bool → Result Bool LabelRefusal
  judged c = cond c (Ok (idling (ids_of job) (facts_of m) (nodes_of job) l)) (Err OtherJob)

  pub idling_other : known_to job l ≡ false → Err OtherJob ≡ idling_answer job m l
  unfolding idling_answer
  idling_other e = ap judged (sym e)

  pub idling-known : known_to job l ≡ true → Ok (idling (ids_of job) (facts_of m) (nodes_of job) l) ≡ idling_answer job m l
  unfolding idling_answer
  idling-known e = ap judged (sym e)
