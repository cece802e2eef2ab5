-- The accepted steps of a list of calls as a run of labels, and the law of a session's calls from the claims about labels.
use Rattle.std.proofs.Common.{◌≡◌, ℕ, Bool, true, cond, T, ◌↔◌, List, [], ◌∷◌, ◌++◌, length, Some, Ok, Err, Result, sym, refl, ap, ◌∙◌, subst, arith}
use mathlib.Core.Logic.Iff
use Rattle.std.specs.List.{slice_get}
use Rattle.registers.specs.Meaning.{Meaning}
use Rattle.goals.specs.declared.job.Job.{Job}
use Rattle.goals.specs.declared.operation.Operation.{Operation}
use Rattle.goals.specs.JobView.{ids_of, nodes_of, root_of, SoundJob}
use Rattle.labels.specs.Held.{facts_of}
use Rattle.labels.specs.LabelCalls.{opening_of, known_to, progress_of}
use Rattle.labels.specs.Idling.{idling}
use Rattle.labels.specs.Sequences.{NeverFalls, copies, hourly, behind}
use Rattle.labels.specs.Ledger as plain
use Rattle.labels.specs.Ledger.{run, stepped}
use Rattle.labels.specs.Claims.{LabelsStayKnown, LabelStandsForGoal, RunsAreTimed, IdlingJudgesTheModel}
use Rattle.sessions.specs.declared.step.Arguments.{Arguments}
use Rattle.sessions.specs.declared.refusal.StepRefusal.{StepRefusal}
use Rattle.sessions.specs.declared.verdict.Judgement.{Judgement}
use Rattle.sessions.specs.declared.verdict.Judgement.TheVariants.{Kept, NotKept, OtherJob}
use Rattle.sessions.specs.declared.verdict.Verdict.{Verdict}
use Rattle.sessions.specs.declared.call.Call.{Call}
use Rattle.sessions.specs.declared.call.Call as call
use Rattle.sessions.specs.declared.call.Line.{Line}
use Rattle.sessions.specs.Steps.{facts_after}
use Rattle.sessions.specs.State.{World, opened}
use Rattle.sessions.specs.Answers.{after_calls, answered, answer_to, calls_in, idles_by, idles_at, judgement_of, verdict_of}
use Rattle.sessions.specs.Ledger.{Ledger, opening, checked_by, entered, entered_call, ledger_from, ledger, standing}
use Rattle.sessions.specs.Laws.{KeepsGoal, KeepsLabel, ModelKeeps, StandsFor, Law}
use Rattle.sessions.proofs.Ledgers.{session_stands, answered-at, answered-length}

-- what a verdict tells where the job knows the label
kept-tells : (r : Judgement) (k i : Bool) → k ≡ true → r ≡ cond k (cond i Kept NotKept) OtherJob → (r ≡ Kept) ↔ T i
kept-tells r k i h e = (λ x. grind arith, λ t. grind arith)

not_kept-tells : (r : Judgement) (k i : Bool) → k ≡ true → r ≡ cond k (cond i Kept NotKept) OtherJob → (r ≡ NotKept) ↔ (¬ (T i))
not_kept-tells r k i h e = (λ x. grind arith, λ t. grind arith)

-- what the labels promise
pub record Promised : Type 0 where
  pub stands : LabelStandsForGoal
  pub timed : RunsAreTimed
  pub judges : IdlingJudgesTheModel
  pub known : LabelsStayKnown

-- a ledger without its limit
abbrev bare : Ledger → plain.Ledger
bare L =
    record {
      passed_facts = L.passed_facts;
      passed_hours = L.passed_hours;
      facts = facts_of L.present;
      hour = L.hour;
      label = L.label;
    }

run-append : (N : ℕ) (table : List _) (xs ys : List plain.Step) (L : plain.Ledger) → run N table (xs ++ ys) L ≡ run N table ys (run N table xs L)
unfolding run
run-append N table [] ys L = refl
run-append N table (x ∷ xs) ys L = run-append N table xs ys (stepped N table L x)

module _ (job : Job) where
  -- an accepted step as the labels see it: the facts after it and its span
  abbrev taken : Ledger → Arguments → Result Operation StepRefusal → List plain.Step
  taken L a (Err r) = []
  taken L a (Ok o) = record { after = facts_of (facts_after L.present o a); span = o.span.hours } ∷ []

  abbrev taken_by : Ledger → Call → List plain.Step
  taken_by L (call.TheVariants.Step step) = taken L step.arguments (checked_by job L step)
  taken_by L call.TheVariants.Look = []

  steps : Ledger → List Call → List plain.Step
  steps L [] = []
  steps L (x ∷ xs) = taken_by L x ++ steps (entered_call job L x) xs

  bare_step : (L : Ledger) (a : Arguments) (r : Result Operation StepRefusal) → bare (entered job L a r) ≡ run (ids_of job) (nodes_of job) (taken L a r) (bare L)
  unfolding run stepped progress_of
  bare_step L a (Err e) = refl
  bare_step L a (Ok o) = refl

  bare_call : (L : Ledger) (x : Call) → bare (entered_call job L x) ≡ run (ids_of job) (nodes_of job) (taken_by L x) (bare L)
  unfolding run
  bare_call L (call.TheVariants.Step step) = bare_step L step.arguments (checked_by job L step)
  bare_call L call.TheVariants.Look = refl

  bare-calls : (L : Ledger) (xs : List Call) → bare (ledger_from job L xs) ≡ run (ids_of job) (nodes_of job) (steps L xs) (bare L)
  unfolding run ledger_from steps
  bare-calls L [] = refl
  bare-calls L (x ∷ xs) =
      bare-calls (entered_call job L x) xs
      ∙ (ap (run (ids_of job) (nodes_of job) (steps (entered_call job L x) xs)) (bare_call L x)
      ∙ sym (run-append (ids_of job) (nodes_of job) (taken_by L x) (steps (entered_call job L x) xs) (bare L)))

  -- the ledger of a list of calls is the labels' ledger of its accepted steps
  bare-ledger : (m : Meaning) (xs : List Call) →
      bare (ledger job m xs) ≡ run (ids_of job) (nodes_of job) (steps (opening job m) xs) (plain.opening (nodes_of job) (root_of job) (facts_of m))
  unfolding ledger opening_of plain.opening
  bare-ledger m xs = bare-calls (opening job m) xs

  module _ (promised : Promised) (sound : SoundJob (ids_of job) (nodes_of job) (root_of job)) where
    stands_for_lem : (m : Meaning) (xs : List Call) → StandsFor job (ledger job m xs) (ledger job m xs).label
    stands_for_lem m xs =
        let e = sym (bare-ledger m xs) in
        let ss = steps (opening job m) xs in
        record {
          timed = λ hour.
              subst (λ (L : plain.Ledger). NeverFalls hour → hour 0 ≡ L.hour → NeverFalls (behind L.passed_hours hour)) e
              (promised.timed (ids_of job) (nodes_of job) (root_of job) (facts_of m) ss hour);
          keeps = λ state hour.
              subst (λ (L : plain.Ledger). NeverFalls hour → state 0 ≡ L.facts → hour 0 ≡ L.hour →
              KeepsGoal job (behind L.passed_facts state) (behind L.passed_hours hour) ↔ KeepsLabel job L.label state hour) e
              (promised.stands (ids_of job) (nodes_of job) (root_of job) (facts_of m) ss state hour);
        }

    judges : (m : Meaning) (xs : List Call) → T (idles_at job (standing job m xs)) ↔ ModelKeeps job (ledger job m xs)
    unfolding idles_by
    judges m xs =
        subst (λ (L : plain.Ledger). T (idling (ids_of job) L.facts (nodes_of job) L.label)
        ↔ KeepsGoal job (behind L.passed_facts (copies L.facts)) (behind L.passed_hours (hourly L.hour))) (sym (bare-ledger m xs))
        (promised.judges (ids_of job) (nodes_of job) sound.ordered (root_of job) (facts_of m) (steps (opening job m) xs))

    -- the job knows every label that it comes to
    known_step : (L : Ledger) (a : Arguments) (r : Result Operation StepRefusal) → known_to job L.label ≡ true → known_to job (entered job L a r).label ≡ true
    unfolding progress_of known_to
    known_step L a (Err e) h = h
    known_step L a (Ok o) h =
        (promised.known (ids_of job) (nodes_of job) sound.some_ids sound.rising).1 (facts_of L.present) o.span.hours L.label h

    known_call : (L : Ledger) (x : Call) → known_to job L.label ≡ true → known_to job (entered_call job L x).label ≡ true
    known_call L (call.TheVariants.Step step) h = known_step L step.arguments (checked_by job L step) h
    known_call L call.TheVariants.Look h = h

    known-calls : (L : Ledger) (xs : List Call) → known_to job L.label ≡ true → known_to job (ledger_from job L xs).label ≡ true
    unfolding ledger_from
    known-calls L [] h = h
    known-calls L (x ∷ xs) h = known-calls (entered_call job L x) xs (known_call L x h)

    known-ledger : (m : Meaning) (xs : List Call) → known_to job (ledger job m xs).label ≡ true
    unfolding ledger opening_of known_to
    known-ledger m xs =
        known-calls (opening job m) xs
        ((promised.known (ids_of job) (nodes_of job) sound.some_ids sound.rising).0 (root_of job) sound.inside)

    -- a run of calls, its end and its verdict keep the law
    pub law-of : (m : Meaning) (before after : List Line) (last : World) (verdict : Verdict) →
        after ≡ answered job (opened job m) before → last ≡ after_calls job (opened job m) (calls_in before) → verdict ≡ verdict_of job last →
        Law job m before after last verdict
    law-of m before after last verdict ea el ev =
        let xs = calls_in before in
        let e : last ≡ standing job m xs = el ∙ session_stands job m xs in
        let el : last.state.label ≡ (ledger job m xs).label = ap (λ (w : World). w.state.label) e in
        let j : verdict.judgement ≡ judgement_of job (standing job m xs) =
        ap (λ (v : Verdict). v.judgement) ev ∙ ap (judgement_of job) e in
        record {
          answers = λ ys y zs eb.
              ap (λ t. slice_get t (length ys)) (ea ∙ ap (answered job (opened job m)) eb)
              ∙ (answered-at job (opened job m) ys y zs
              ∙ ap (λ w. Some (record { call = y.call; answer = Some (answer_to job w y.call) })) (session_stands job m (calls_in ys)));
          as_many = ap length ea ∙ answered-length job (opened job m) before;
          label = el;
          facts = ap (λ (w : World). w.facts) e;
          hour = ap (λ (w : World). w.state.hour) e;
          number = ap (λ (w : World). w.state.number) e;
          broken = ap (λ (w : World). w.state.broken) e;
          stands = subst (StandsFor job (ledger job m xs)) (sym el) (stands_for_lem m xs);
          own = ap (known_to job) el ∙ known-ledger m xs;
          kept = Iff.trans (kept-tells _ _ _ (known-ledger m xs) j) (judges m xs);
          not_kept = Iff.trans (not_kept-tells _ _ _ (known-ledger m xs) j) (Iff.not (judges m xs));
          first_broken = ap (λ (v : Verdict). v.broken) ev ∙ ap (λ (w : World). w.state.broken) e;
        }
