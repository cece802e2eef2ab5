-- A step is accepted exactly where no check refuses it, and a refusal for a need names the first that fails.
use Rattle.std.proofs.Common.{◌≡◌, ℕ, zero, suc, ◌+◌, ◌<◌, Bool, true, false, cond, not, List, [], ◌∷◌, Some, None, Ok, Err, Option, Result, sym, refl, ap, ◌∙◌, subst, arith, MatchOption}
use Rattle.std.proofs.lemmas.Bool.Decides.{nat_tests}
use Rattle.std.specs.List.{slice_get}
use Rattle.registers.specs.Meaning.{Meaning}
use Rattle.goals.specs.declared.job.Job.{Job}
use Rattle.goals.specs.declared.operation.Entry.{Entry}
use Rattle.goals.specs.declared.operation.Operation.{Operation}
use Rattle.goals.specs.Entries.{entries_of}
use Rattle.goals.specs.JobView.{ids_of, operations_in}
use Rattle.labels.specs.Labels.{Label}
use Rattle.labels.specs.LabelCalls.{known_to}
use Rattle.sessions.specs.declared.step.Arguments.{Arguments}
use Rattle.sessions.specs.declared.step.Step.{Step}
use Rattle.sessions.specs.declared.refusal.StepRefusal.{StepRefusal}
use Rattle.sessions.specs.declared.refusal.StepRefusal.TheVariants.{BadArgument, Need}
use Rattle.sessions.specs.Steps.{arguments_fit, need_holds, failing_from, first_failing}
use Rattle.sessions.specs.Checks.{refuse_if, checked_operation, checked, Acceptable, StepsAreAccepted, FirstNeed, FirstNeedIsNamed}

module _ (m : Meaning) (a : Arguments) where
  -- all needs of a list hold
  abbrev AllHold : List Entry → Type 0
  AllHold es = (k : ℕ) (e : Entry) → slice_get es k ≡ Some e → need_holds m a e ≡ true

  none_more : (n : ℕ) (x : Entry) (es : List Entry) → (failing_from m a (n + 1) es ≡ None → AllHold es) →
      (b : Bool) → need_holds m a x ≡ b → cond b (failing_from m a (n + 1) es) (Some n) ≡ None → AllHold (x ∷ es)
  none_more n x es ih true ex h zero e at = let same : x ≡ e = cc in subst (λ y. need_holds m a y ≡ true) same ex
  none_more n x es ih true ex h (suc k) e at = ih h k e at
  none_more n x es ih false ex h k e at = absurd (cc)

  none_fails : (n : ℕ) (es : List Entry) → failing_from m a n es ≡ None → AllHold es
  unfolding failing_from
  none_fails n [] h = λ k e at. absurd (cc)
  none_fails n (x ∷ es) h = none_more n x es (none_fails (n + 1) es) (need_holds m a x) refl h

  all_hold : (n : ℕ) (es : List Entry) → AllHold es → failing_from m a n es ≡ None
  unfolding failing_from
  all_hold n [] h = refl
  all_hold n (x ∷ es) h =
      ap (λ b. cond b (failing_from m a (n + 1) es) (Some n)) (h 0 x refl) ∙ all_hold (n + 1) es (λ k e at. h (suc k) e at)

  -- the first that fails, counted from n
  abbrev FirstFrom : ℕ → List Entry → ℕ → Type 0
  FirstFrom n es k = (i : ℕ) × (k ≡ n + i) × FirstNeed m a es i

  first_more : (n : ℕ) (x : Entry) (es : List Entry) (k : ℕ) → (failing_from m a (n + 1) es ≡ Some k → FirstFrom (n + 1) es k) →
      (b : Bool) → need_holds m a x ≡ b → cond b (failing_from m a (n + 1) es) (Some n) ≡ Some k → FirstFrom n (x ∷ es) k
  first_more n x es k ih true ex h =
      let f = ih h in
      let i = f.0 in (
        suc i,
        omega (arith, f.1),
        record {
          here = f.2.here;
          before = λ j. elim j as (λ v. v < suc i → MatchOption (slice_get (x ∷ es) v) ⊥ (λ e. need_holds m a e ≡ true)) [
            | zero ↦ λ lt. ex
            | suc t ↦ λ lt. f.2.before t (omega arith)
          ];
        },
      )
  first_more n x es k ih false ex h =
      let e : n ≡ k = cc in
      (0, omega arith, record { here = ex; before = λ j lt. absurd (omega arith) })

  first_fails : (n : ℕ) (es : List Entry) (k : ℕ) → failing_from m a n es ≡ Some k → FirstFrom n es k
  unfolding failing_from
  first_fails n [] k h = absurd (cc)
  first_fails n (x ∷ es) k h = first_more n x es k (first_fails (n + 1) es k) (need_holds m a x) refl h

  first_of : (es : List Entry) (k : ℕ) → failing_from m a 0 es ≡ Some k → FirstNeed m a es k
  first_of es k h =
      let f = first_fails 0 es k h in
      let e : f.0 ≡ k = omega (arith, f.1) in
      subst (FirstNeed m a es) e f.2

not_refused : (b : Bool) (r : StepRefusal) (later : Result Operation StepRefusal) (o : Operation) → refuse_if (not b) r later ≡ Ok o → b ≡ true
not_refused true r later o e = refl
not_refused false r later o e = absurd (cc)

module _ (job : Job) (number : ℕ) (l : Label) (m : Meaning) (step : Step) where
  -- an operation that the checks come to is asked whether the arguments fit it
  comes_to : (o : Operation) → known_to job l ≡ true → slice_get (operations_in job) step.operation ≡ Some o →
      checked job number l m step ≡ checked_operation job number l m step.arguments o
  unfolding checked
  comes_to o k at = rw (k, at) refl

  fits : (o : Operation) → checked_operation job number l m step.arguments o ≡ Ok o → arguments_fit (ids_of job) o.parameters step.arguments ≡ true
  unfolding checked_operation
  fits o e = not_refused _ BadArgument _ o e

  acceptable : (o : Operation) → checked job number l m step ≡ Ok o → Acceptable job number l m step o
  unfolding checked checked_operation
  acceptable o e =
      let k : known_to job l ≡ true = grind (arith, nat_tests) in
      let at : slice_get (operations_in job) step.operation ≡ Some o = grind (arith, nat_tests) in
      record {
        own_job = k;
        operation = at;
        arguments = fits o (sym (comes_to o k at) ∙ e);
        needs = none_fails m step.arguments 0 (entries_of o.needs) (grind (arith, nat_tests));
        few_steps = grind (arith, nat_tests);
        room = grind (arith, nat_tests);
        little_work = grind (arith, nat_tests);
        short = grind (arith, nat_tests);
      }

  accepted : (o : Operation) → Acceptable job number l m step o → checked job number l m step ≡ Ok o
  unfolding checked checked_operation
  accepted o c =
      let hold = all_hold m step.arguments 0 (entries_of o.needs) c.needs in
      grind (arith, nat_tests)

  -- a refusal for a need comes from the needs of the step's operation
  need_found : (k : ℕ) (x : Option Operation) → checked job number l m step ≡ Err (Need k) → slice_get (operations_in job) step.operation ≡ x →
      MatchOption x ⊥ (λ o. first_failing m step.arguments o.needs ≡ Some k)
  unfolding checked checked_operation
  need_found k None e at = grind (arith, nat_tests)
  need_found k (Some o) e at = grind (arith, nat_tests)

pub steps_accepted : StepsAreAccepted
steps_accepted job number l m step o = (acceptable job number l m step o, accepted job number l m step o)

named : (m : Meaning) (a : Arguments) (k : ℕ) (x : Option Operation) → MatchOption x ⊥ (λ o. first_failing m a o.needs ≡ Some k) →
    MatchOption x ⊥ (λ o. FirstNeed m a (entries_of o.needs) k)
named m a k None h = h
named m a k (Some o) h = first_of m a (entries_of o.needs) k h

pub need_is-named : FirstNeedIsNamed
need_is-named job number l m step k e =
    named m step.arguments k _ (need_found job number l m step k (slice_get (operations_in job) step.operation) e refl)
