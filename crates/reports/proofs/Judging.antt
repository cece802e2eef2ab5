-- What a report ends with tells of the model and of the first FALSE label.
use Rattle.std.proofs.Common.{◌≡◌, ℕ, true, ◌⊎◌, ◌↔◌, List, [], ◌∷◌, ◌++◌, Some, None, Ok, Err, Option, Result, sym, refl, ap, ◌∙◌, subst, inl, inr, ⊎_elim, append-nil, arith}
use Rattle.registers.specs.Meaning.{Meaning}
use Rattle.goals.specs.declared.time.Span.{Span}
use Rattle.goals.specs.declared.job.Job.{Job}
use Rattle.goals.specs.declared.operation.Operation.{Operation}
use Rattle.labels.specs.Labels.{Label, false_label}
use Rattle.labels.specs.Progress.{progressed}
use Rattle.labels.specs.Idling.{idling}
use Rattle.labels.specs.LabelCalls.{progress_of}
use Rattle.sessions.specs.declared.step.Step.{Step}
use Rattle.sessions.specs.declared.step.Arguments.{Arguments}
use Rattle.sessions.specs.declared.refusal.StepRefusal.{StepRefusal}
use Rattle.sessions.specs.declared.verdict.Judgement.{Judgement}
use Rattle.sessions.specs.declared.verdict.Judgement as judgement
use Rattle.sessions.specs.declared.verdict.Verdict.{Verdict}
use Rattle.sessions.specs.declared.call.Call.{Call}
use Rattle.sessions.specs.declared.call.Call as call
use Rattle.sessions.specs.declared.call.Line.{Line}
use Rattle.sessions.specs.State.{World, opened, advanced, is_false, broken_after}
use Rattle.sessions.specs.Answers.{checked_at, step_after, after_call, after_calls, calls_in, idles_by, judgement_by, verdict_of}
use Rattle.sessions.specs.Ledger.{Ledger, opening, ledger_from, ledger, entered_call, labels_from, new_labels, first_false, broken_step}
use Rattle.sessions.specs.Pieces.{Joined, all_lines}
use Rattle.sessions.specs.Laws.{ModelKeeps, Law}
use Rattle.reports.specs.declared.ending.Ending.{Ending}
use Rattle.reports.specs.declared.ending.Ending.TheVariants.{Kept, NotKept, Broken, Refused}
use Rattle.reports.specs.declared.ending.ReportRefusal.{ReportRefusal}
use Rattle.reports.specs.declared.ending.ReportRefusal as refusal
use Rattle.reports.specs.Lines.{judgement_ending, verdict_ending}
use Rattle.reports.specs.Report.{ending_from}
use Rattle.reports.specs.FileSteps.{step_lines, report_lines}
use Rattle.reports.specs.Tells.{step_calls, Accepted, Tells}
use Rattle.reports.proofs.Telling.{ending_at, Answered}

-- a label that is told FALSE is FALSE
false_is : (l : Label) → is_false l ≡ true → l ≡ false_label
false_is l h = grind arith

-- looks change neither the ledger nor its labels
ledger-steps : (job : Job) (L : Ledger) (ss : List Step) → ledger_from job L (calls_in (step_lines ss)) ≡ ledger_from job L (step_calls ss)
unfolding ledger_from step_lines
ledger-steps job L [] = refl
ledger-steps job L (s ∷ ss) = ledger-steps job (entered_call job L (call.TheVariants.Step s)) ss

labels_steps : (job : Job) (L : Ledger) (ss : List Step) → labels_from job L (calls_in (step_lines ss)) ≡ labels_from job L (step_calls ss)
unfolding labels_from step_lines
labels_steps job L [] = refl
labels_steps job L (s ∷ ss) =
    ap (λ t. new_labels job L (call.TheVariants.Step s) ++ t) (labels_steps job (entered_call job L (call.TheVariants.Step s)) ss)

ledger-same : (job : Job) (m : Meaning) (ss : List Step) → ledger job m (calls_in (report_lines ss)) ≡ ledger job m (step_calls ss)
unfolding ledger ledger_from
ledger-same job m ss = ledger-steps job (opening job m) ss

broken-same : (job : Job) (m : Meaning) (ss : List Step) → broken_step job m (calls_in (report_lines ss)) ≡ broken_step job m (step_calls ss)
unfolding broken_step labels_from
broken-same job m ss = ap (first_false 1) (labels_steps job (opening job m) ss)

module _ (job : Job) where
  -- once a step is broken, the label is and stays FALSE
  abbrev Lost : World → Type 0
  Lost w = (k : ℕ) → w.state.broken ≡ Some k → w.state.label ≡ false_label

  stays_false : (m : Meaning) (D : Span) (l : Label) → l ≡ false_label → progress_of job m D l ≡ false_label
  unfolding progress_of progressed
  stays_false m D l e = ap (progress_of job m D) e

  lost-by : (b : Option ℕ) (n k : ℕ) (l : Label) (was : (j : ℕ) → b ≡ Some j → l ≡ false_label) → broken_after b n l ≡ Some k → l ≡ false_label
  lost-by b n k l was e = grind (arith, false_is)

  lost-step : (w : World) (a : Arguments) (r : Result Operation StepRefusal) → Lost w → Lost (step_after job w a r)
  lost-step w a (Err e) h k f = h k f
  lost-step w a (Ok o) h k e =
      lost-by w.state.broken _ k (progress_of job w.facts o.span w.state.label)
      (λ j f. stays_false w.facts o.span w.state.label (h j f)) e

  lost_call : (w : World) (x : Call) → Lost w → Lost (after_call job w x)
  lost_call w (call.TheVariants.Step s) h = lost-step w s.arguments (checked_at job w s) h
  lost_call w call.TheVariants.Look h = h

  lost-calls : (xs : List Call) (w : World) → Lost w → Lost (after_calls job w xs)
  unfolding after_calls
  lost-calls [] w h = h
  lost-calls (x ∷ xs) w h = lost-calls xs (after_call job w x) (lost_call w x h)

  lost-opened : (m : Meaning) → Lost (opened job m)
  lost-opened m k e = absurd (cc)

  -- a FALSE label is not kept
  false_judged : (m : Meaning) (l : Label) → l ≡ false_label → judgement_by job m l ≡ judgement.TheVariants.Kept → ⊥
  unfolding idles_by idling
  false_judged m l e h = grind arith

  -- either every step is accepted, and the report ends with the verdict; or one is refused
  abbrev ByVerdict : World → List Step → Type 0
  ByVerdict w ss = Accepted job w ss × (ending_from job w ss ≡ ending_at job (after_calls job w (calls_in (step_lines ss))))

  abbrev ByRefusal : World → List Step → Type 0
  ByRefusal w ss = (n : ReportRefusal) × (ending_from job w ss ≡ Refused n) × (Accepted job w ss → ⊥)

  ends_by : (w : World) (s : Step) (ss : List Step) (r : Result Operation StepRefusal) → checked_at job w s ≡ r →
      ((o : Operation) → ByVerdict (advanced job w s.arguments o) ss ⊎ ByRefusal (advanced job w s.arguments o) ss) →
      ByVerdict w (s ∷ ss) ⊎ ByRefusal w (s ∷ ss)
  unfolding Accepted ending_from after_calls step_lines
  ends_by w s ss (Err r) e rest = inr (refusal.TheVariants.Step r, rw (e, ending_from) refl, λ acc. let f = acc.1 in cc)
  ends_by w s ss (Ok o) e rest =
      ⊎_elim
      (λ (v : ByVerdict (advanced job w s.arguments o) ss). inl ((o, e, v.0), rw (e, ending_from, after_calls) v.1))
      (λ (v : ByRefusal (advanced job w s.arguments o) ss). inr (
        v.0,
        rw (e, ending_from) v.1,
        λ acc.
            let same : acc.0 ≡ o = let f = acc.1 in cc in
            v.2 (subst (λ (x : Operation). Accepted job (advanced job w s.arguments x) ss) same acc.2),
      ))
      (rest o)

  ends-either : (ss : List Step) (w : World) → ByVerdict w ss ⊎ ByRefusal w ss
  unfolding Accepted ending_from after_calls step_lines
  ends-either [] w = inl (tt, refl)
  ends-either (s ∷ ss) w = ends_by w s ss (checked_at job w s) refl (λ o. ends-either ss (advanced job w s.arguments o))

-- what an ending by a verdict tells of the verdict
ending_kept : (b : Option ℕ) (j : Judgement) → verdict_ending b j ≡ Kept → (b ≡ None) × (j ≡ judgement.TheVariants.Kept)
ending_kept b j e = (grind arith, grind arith)

ending_not_kept : (b : Option ℕ) (j : Judgement) → verdict_ending b j ≡ NotKept → (b ≡ None) × (j ≡ judgement.TheVariants.NotKept)
ending_not_kept b j e = (grind arith, grind arith)

ending_broken : (k : ℕ) (b : Option ℕ) (j : Judgement) → verdict_ending b j ≡ Broken k → b ≡ Some k
ending_broken k b j e = grind arith

none_or_some : (b : Option ℕ) → (b ≡ None) ⊎ ((k : ℕ) × (b ≡ Some k))
none_or_some None = inl refl
none_or_some (Some k) = inr (k, refl)

-- the run of a report, with all that its law says
module _ (job : Job) (m : Meaning) (ss : List Step) (after : List Line) (last : World) (verdict : Verdict)
    (law : Law job m (report_lines ss) after last verdict)
    (closed : verdict ≡ verdict_of job (after_calls job (opened job m) (calls_in (report_lines ss)))) where
  end : World
  end = after_calls job (opened job m) (calls_in (step_lines ss))

  L : Ledger
  L = ledger job m (step_calls ss)

  by_end : verdict ≡ verdict_of job end
  unfolding end after_calls
  by_end = closed

  keeps : (verdict.judgement ≡ judgement.TheVariants.Kept) ↔ ModelKeeps job L
  unfolding L
  keeps = subst (λ (t : Ledger). (verdict.judgement ≡ judgement.TheVariants.Kept) ↔ ModelKeeps job t) (ledger-same job m ss) law.kept

  fails : (verdict.judgement ≡ judgement.TheVariants.NotKept) ↔ (¬ (ModelKeeps job L))
  unfolding L
  fails = subst (λ (t : Ledger). (verdict.judgement ≡ judgement.TheVariants.NotKept) ↔ (¬ (ModelKeeps job t))) (ledger-same job m ss) law.not_kept

  first : verdict.broken ≡ broken_step job m (step_calls ss)
  first = law.first_broken ∙ broken-same job m ss

  -- a broken schedule is not kept
  never_both : (k : ℕ) → verdict.broken ≡ Some k → verdict.judgement ≡ judgement.TheVariants.Kept → ⊥
  unfolding end
  never_both k eb ej =
      let b : end.state.broken ≡ Some k = sym (ap (λ (v : Verdict). v.broken) by_end) ∙ eb in
      let f : end.state.label ≡ false_label = lost-calls job (calls_in (step_lines ss)) (opened job m) (lost-opened job m) k b in
      false_judged job end.facts end.state.label f (sym (ap (λ (v : Verdict). v.judgement) by_end) ∙ ej)

  -- the ending of an accepted schedule, by its verdict
  abbrev ByOwn : Type 0
  ByOwn = Accepted job (opened job m) ss × (ending_from job (opened job m) ss ≡ verdict_ending verdict.broken verdict.judgement)

  either : ByOwn ⊎ ByRefusal job (opened job m) ss
  unfolding end
  either =
      ⊎_elim
      (λ (v : ByVerdict job (opened job m) ss).
      inl (v.0, v.1 ∙ sym (ap (λ (t : Verdict). verdict_ending t.broken t.judgement) by_end)))
      (λ (v : ByRefusal job (opened job m) ss). inr v)
      (ends-either job ss (opened job m))

  clash : {A : Type 0} (e : Ending) (n : ReportRefusal) → Refused n ≡ e → (e ≡ Kept) ⊎ ((e ≡ NotKept) ⊎ ((k : ℕ) × (e ≡ Broken k))) → A
  clash e n h (inl p) = absurd (cc)
  clash e n h (inr (inl p)) = absurd (cc)
  clash e n h (inr (inr p)) = let q = p.1 in absurd (cc)

  -- an ending that is no refusal comes with every step accepted, by the verdict
  owned : {A : Type 0} → (e : Ending) → (e ≡ Kept) ⊎ ((e ≡ NotKept) ⊎ ((k : ℕ) × (e ≡ Broken k))) → ending_from job (opened job m) ss ≡ e →
      (Accepted job (opened job m) ss → verdict_ending verdict.broken verdict.judgement ≡ e → A) → A
  owned e kind h go =
      ⊎_elim
      (λ (v : ByOwn). go v.0 (sym v.1 ∙ h))
      (λ (v : ByRefusal job (opened job m) ss). clash e v.0 (sym v.1 ∙ h) kind)
      either

  -- an accepted schedule ends by its verdict
  accepted : {A : Type 0} → Accepted job (opened job m) ss → (ending_from job (opened job m) ss ≡ verdict_ending verdict.broken verdict.judgement → A) → A
  accepted acc go = ⊎_elim (λ (v : ByOwn). go v.1) (λ (v : ByRefusal job (opened job m) ss). absurd (v.2 acc)) either

  unbroken : verdict.judgement ≡ judgement.TheVariants.Kept → verdict.broken ≡ None
  unbroken ej =
      ⊎_elim
      (λ (e : verdict.broken ≡ None). e)
      (λ (p : (k : ℕ) × (verdict.broken ≡ Some k)). absurd (never_both p.0 p.1 ej))
      (none_or_some verdict.broken)

  pub tells-of : Tells job m ss (ending_from job (opened job m) ss)
  unfolding L
  tells-of =
      record {
        kept = (
          (λ h. owned Kept (inl refl) h (λ acc e. (acc, keeps.0 (ending_kept verdict.broken verdict.judgement e).1))),
          (λ p. accepted p.0
              (λ e. let j = keeps.1 p.1 in e ∙ (ap (λ b. verdict_ending b verdict.judgement) (unbroken j) ∙ ap judgement_ending j))),
        );
        broken = λ k. (
          (λ h. owned (Broken k) (inr (inr (k, refl))) h (λ acc e. (acc, sym first ∙ ending_broken k verdict.broken verdict.judgement e))),
          (λ p. accepted p.0 (λ e. e ∙ ap (λ b. verdict_ending b verdict.judgement) (first ∙ p.1))),
        );
        lost = λ k e h. never_both k (first ∙ e) (keeps.1 h);
        not_kept = (
          (λ h. owned NotKept (inr (inl refl)) h
              (λ acc e. let q = ending_not_kept verdict.broken verdict.judgement e in (acc, sym first ∙ q.0, fails.0 q.1))),
          (λ p. accepted p.0
              (λ e. e ∙ (ap (λ b. verdict_ending b verdict.judgement) (first ∙ p.1) ∙ ap judgement_ending (fails.1 p.2)))),
        );
      }

-- a run in one piece
pub one-law : (job : Job) (m n : Meaning) (ss : List Step) (before after : List Line) (last : World) (verdict : Verdict) → before ≡ report_lines ss → Answered job m before after verdict →
    (Joined job (opened job m) (record { facts = m; lines = before } ∷ []) →
    Law job m (all_lines (record { facts = m; lines = before } ∷ [])) (all_lines (record { facts = n; lines = after } ∷ [])) last verdict) →
    Tells job m ss (ending_from job (opened job m) ss)
unfolding Joined all_lines
one-law job m n ss before after last verdict eb run law =
    tells-of job m ss (after ++ []) last verdict
    (subst (λ (t : List Line). Law job m t (after ++ []) last verdict) (append-nil before ∙ eb) (law (refl, tt)))
    (run.closed ∙ ap (λ t. verdict_of job (after_calls job (opened job m) (calls_in t))) eb)
