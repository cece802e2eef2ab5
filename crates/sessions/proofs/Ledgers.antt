-- After any calls a session and its register stand as the ledger says, and each call was answered by what stood before it.
use Rattle.std.proofs.Common.{◌≡◌, ℕ, suc, ◌+◌, true, false, cond, List, [], ◌∷◌, ◌++◌, length, Some, None, Ok, Err, Option, Result, sym, refl, ap, ◌∙◌, arith, length-append}
use Rattle.std.specs.List.{slice_get}
use Rattle.std.specs.Option.{option_or}
use Rattle.registers.specs.Meaning.{Meaning}
use Rattle.goals.specs.declared.job.Job.{Job}
use Rattle.goals.specs.declared.operation.Operation.{Operation}
use Rattle.labels.specs.Labels.{Label}
use Rattle.labels.specs.LabelCalls.{progress_of}
use Rattle.sessions.specs.declared.step.Arguments.{Arguments}
use Rattle.sessions.specs.declared.refusal.StepRefusal.{StepRefusal}
use Rattle.sessions.specs.declared.call.Call.{Call}
use Rattle.sessions.specs.declared.call.Call as call
use Rattle.sessions.specs.declared.call.Line.{Line}
use Rattle.sessions.specs.Steps.{facts_after}
use Rattle.sessions.specs.State.{World, is_false, broken_after, opened}
use Rattle.sessions.specs.Answers.{step_after, after_call, after_calls, answered, answer_to, calls_in}
use Rattle.sessions.specs.Ledger.{Ledger, opening, count, checked_by, entered, entered_call, ledger_from, ledger, new_label, new_labels, labels_from, first_false, broken_step, world_by, standing}

or-none : (b : Option ℕ) → b ≡ option_or b None
or-none (Some k) = refl
or-none None = refl

or_assoc : (a b c : Option ℕ) → option_or (option_or a b) c ≡ option_or a (option_or b c)
or_assoc (Some k) b c = refl
or_assoc None b c = refl

false_append : (n : ℕ) (xs ys : List Label) → first_false n (xs ++ ys) ≡ option_or (first_false n xs) (first_false (n + length xs) ys)
unfolding first_false
false_append n [] ys = let e : n ≡ n + 0 = omega arith in ap (λ k. first_false k ys) e
false_append n (x ∷ xs) ys =
    let e : n + 1 + length xs ≡ n + length (x ∷ xs) = omega arith in
    elim (is_false x) as (λ v. cond v (Some n) (first_false (n + 1) (xs ++ ys)) ≡ option_or (cond v (Some n) (first_false (n + 1) xs)) (first_false (n + length (x ∷ xs)) ys)) [
      | true ↦ refl
      | false ↦ false_append (n + 1) xs ys ∙ ap (λ k. option_or (first_false (n + 1) xs) (first_false k ys)) e
    ]

one_more : {A : Type 0} (xs : List A) (x : A) → length xs + 1 ≡ length (xs ++ x ∷ [])
one_more xs x = omega (arith, length-append xs (x ∷ []))

broken_once : (b : Option ℕ) (n : ℕ) (l : Label) → broken_after b n l ≡ option_or b (first_false n (l ∷ []))
unfolding first_false
broken_once (Some k) n l = refl
broken_once None n l = refl

module _ (job : Job) where
  world-step : (L : Ledger) (b : Option ℕ) (a : Arguments) (r : Result Operation StepRefusal) →
      step_after job (world_by L b) a r ≡ world_by (entered job L a r) (option_or b (first_false (count L + 1) (new_label job L r)))
  unfolding first_false
  world-step L b a (Err e) = ap (world_by L) (or-none b)
  world-step L b a (Ok o) =
      let p = one_more L.passed_hours L.hour in
      let q = broken_once b (count L + 1) (progress_of job L.present o.span L.label) in
      λ i. record {
        state =
            record {
              number = p i;
              hour = L.hour + o.span.hours;
              label = progress_of job L.present o.span L.label;
              broken = q i;
            };
        facts = facts_after L.present o a;
      }

  world_call : (L : Ledger) (b : Option ℕ) (x : Call) →
      after_call job (world_by L b) x ≡ world_by (entered_call job L x) (option_or b (first_false (count L + 1) (new_labels job L x)))
  unfolding first_false
  world_call L b (call.TheVariants.Step step) = world-step L b step.arguments (checked_by job L step)
  world_call L b call.TheVariants.Look = ap (world_by L) (or-none b)

  count-step : (L : Ledger) (a : Arguments) (r : Result Operation StepRefusal) → count (entered job L a r) ≡ count L + length (new_label job L r)
  count-step L a (Err e) = omega arith
  count-step L a (Ok o) = sym (one_more L.passed_hours L.hour)

  count_call : (L : Ledger) (x : Call) → count (entered_call job L x) ≡ count L + length (new_labels job L x)
  count_call L (call.TheVariants.Step step) = count-step L step.arguments (checked_by job L step)
  count_call L call.TheVariants.Look = omega arith

  world-calls : (L : Ledger) (b : Option ℕ) (xs : List Call) →
      after_calls job (world_by L b) xs ≡ world_by (ledger_from job L xs) (option_or b (first_false (count L + 1) (labels_from job L xs)))
  unfolding after_calls ledger_from labels_from first_false
  world-calls L b [] = ap (world_by L) (or-none b)
  world-calls L b (x ∷ xs) =
      let L' = entered_call job L x in
      let n = count L + 1 in
      let e : count L' + 1 ≡ n + length (new_labels job L x) = omega (arith, count_call L x) in
      let later = labels_from job L' xs in
      ap (λ w. after_calls job w xs) (world_call L b x)
      ∙ (world-calls L' (option_or b (first_false n (new_labels job L x))) xs
      ∙ ap (world_by (ledger_from job L' xs))
      (or_assoc b (first_false n (new_labels job L x)) (first_false (count L' + 1) later)
      ∙ (ap (λ k. option_or b (option_or (first_false n (new_labels job L x)) (first_false k later))) e
      ∙ ap (option_or b) (sym (false_append n (new_labels job L x) later)))))

  -- a session that was opened stands as its ledger says
  pub session_stands : (m : Meaning) (xs : List Call) → after_calls job (opened job m) xs ≡ standing job m xs
  unfolding ledger broken_step
  session_stands m xs = world-calls (opening job m) None xs

  -- a call in the middle of a list, at what the calls before it came to
  pub answered-at : (w : World) (xs : List Line) (x : Line) (ys : List Line) →
      slice_get (answered job w (xs ++ x ∷ ys)) (length xs)
      ≡ Some (record { call = x.call; answer = Some (answer_to job (after_calls job w (calls_in xs)) x.call) })
  unfolding answered after_calls
  answered-at w [] x ys = refl
  answered-at w (y ∷ xs) x ys = answered-at (after_call job w y.call) xs x ys

  pub answered-length : (w : World) (xs : List Line) → length (answered job w xs) ≡ length xs
  unfolding answered
  answered-length w [] = refl
  answered-length w (x ∷ xs) = ap (λ n. suc n) (answered-length (after_call job w x.call) xs)
