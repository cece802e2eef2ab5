-- The text of a schedule's answers is its report.
use Rattle.std.proofs.Common.{◌≡◌, ℕ, true, List, [], ◌∷◌, ◌++◌, length, Some, Ok, Err, Result, sym, refl, ap, ◌∙◌, append_assoc, append-nil}
use Rattle.registers.specs.Meaning.{Meaning}
use Rattle.goals.specs.declared.time.Span.{Span}
use Rattle.goals.specs.declared.job.Job.{Job}
use Rattle.goals.specs.declared.operation.Operation.{Operation}
use Rattle.goals.specs.JobView.{ids_of, nodes_of, root_of, Sound}
use Rattle.labels.specs.Labels.{Label}
use Rattle.labels.specs.Held.{facts_of}
use Rattle.labels.specs.LabelCalls.{known_to, progress_of, opening_of}
use Rattle.labels.specs.Claims.{LabelsStayKnown}
use Rattle.sessions.specs.declared.step.Step.{Step}
use Rattle.sessions.specs.declared.refusal.StepRefusal.{StepRefusal}
use Rattle.sessions.specs.declared.verdict.Verdict.{Verdict}
use Rattle.sessions.specs.declared.call.Call as call
use Rattle.sessions.specs.declared.call.Answer.TheVariants.{Stepped}
use Rattle.sessions.specs.declared.call.Line.{Line}
use Rattle.sessions.specs.State.{World, opened, advanced}
use Rattle.sessions.specs.Answers.{checked_at, step_answer, step_after, calls_in, after_calls, answered, verdict_of}
use Rattle.sessions.specs.Pieces.{Joined, all_lines, Uncut}
use Rattle.sessions.proofs.Ledgers.{answered-length}
use Rattle.reports.specs.declared.ending.Ending.{Ending}
use Rattle.reports.specs.declared.ending.Ending.TheVariants.{Refused}
use Rattle.reports.specs.declared.ending.ReportRefusal.{ReportRefusal}
use Rattle.reports.specs.declared.ending.ReportRefusal as refusals
use Rattle.reports.specs.Lines.{line_of, verdict_ending, ending_line}
use Rattle.reports.specs.Report.{lines_from, ending_from, report}
use Rattle.reports.specs.FileSteps.{unanswered, step_lines, report_lines}
use Rattle.reports.specs.Told.{told_text, told_end, ending_by}

-- the ending by a verdict
abbrev pub ending_at : Job → World → Ending
ending_at job w = verdict_ending (verdict_of job w).broken (verdict_of job w).judgement

module _ (job : Job) (known : LabelsStayKnown) (sound : Sound job) where
  stays : (m : Meaning) (D : Span) (l : Label) → known_to job l ≡ true → known_to job (progress_of job m D l) ≡ true
  unfolding progress_of known_to
  stays m D l h = (known (ids_of job) (nodes_of job) sound.some_ids sound.rising).1 (facts_of m) D.hours l h

  begins : (m : Meaning) → known_to job (opened job m).state.label ≡ true
  unfolding opening_of known_to
  begins m = (known (ids_of job) (nodes_of job) sound.some_ids sound.rising).0 (root_of job) sound.inside

  -- a look, where the job knows the label
  look_told : (w : World) (ls : List Line) → known_to job w.state.label ≡ true →
      told_text (answered job w (unanswered call.TheVariants.Look ∷ ls)) ≡ line_of w ++ told_text (answered job w ls)
  unfolding answered told_text
  look_told w ls h = rw (h, told_text) refl

  look_ends : (w : World) (ls : List Line) → known_to job w.state.label ≡ true →
      told_end (answered job w (unanswered call.TheVariants.Look ∷ ls)) ≡ told_end (answered job w ls)
  unfolding answered told_end
  look_ends w ls h = rw (h, told_end) refl

  -- a step and the look behind it, by what its checks come to
  text_by : (w : World) (s : Step) (ss : List Step) (r : Result Operation StepRefusal) → known_to job w.state.label ≡ true →
      ((o : Operation) → told_text (answered job (advanced job w s.arguments o) (step_lines ss)) ≡ lines_from job (advanced job w s.arguments o) ss) →
      told_text (record { call = call.TheVariants.Step s; answer = Some (Stepped (step_answer r)) } ∷ answered job (step_after job w s.arguments r) (unanswered call.TheVariants.Look ∷ step_lines ss))
      ≡ (elim r [
        | Ok o ↦ line_of (advanced job w s.arguments o) ++ lines_from job (advanced job w s.arguments o) ss
        | Err e ↦ []
      ])
  unfolding told_text
  text_by w s ss (Err e) h rest = refl
  text_by w s ss (Ok o) h rest =
      look_told (advanced job w s.arguments o) (step_lines ss) (stays w.facts o.span w.state.label h)
      ∙ ap (λ t. line_of (advanced job w s.arguments o) ++ t) (rest o)

  text_told : (ss : List Step) (w : World) → known_to job w.state.label ≡ true → told_text (answered job w (step_lines ss)) ≡ lines_from job w ss
  unfolding answered told_text lines_from step_lines
  text_told [] w h = refl
  text_told (s ∷ ss) w h =
      text_by w s ss (checked_at job w s) h
      (λ o. text_told ss (advanced job w s.arguments o) (stays w.facts o.span w.state.label h))

  end_by : (w : World) (s : Step) (ss : List Step) (r : Result Operation StepRefusal) → known_to job w.state.label ≡ true →
      ((o : Operation) →
      ending_by (told_end (answered job (advanced job w s.arguments o) (step_lines ss))) (ending_at job (after_calls job (advanced job w s.arguments o) (calls_in (step_lines ss))))
      ≡ ending_from job (advanced job w s.arguments o) ss) →
      ending_by (told_end (record { call = call.TheVariants.Step s; answer = Some (Stepped (step_answer r)) } ∷ answered job (step_after job w s.arguments r) (unanswered call.TheVariants.Look ∷ step_lines ss)))
      (ending_at job (after_calls job (step_after job w s.arguments r) (calls_in (step_lines ss))))
      ≡ (elim r [ Ok o ↦ ending_from job (advanced job w s.arguments o) ss | Err e ↦ Refused (refusals.TheVariants.Step e) ])
  unfolding told_end
  end_by w s ss (Err e) h rest = refl
  end_by w s ss (Ok o) h rest =
      let v = advanced job w s.arguments o in
      ap (λ t. ending_by t (ending_at job (after_calls job v (calls_in (step_lines ss)))))
      (look_ends v (step_lines ss) (stays w.facts o.span w.state.label h))
      ∙ rest o

  end-told : (ss : List Step) (w : World) → known_to job w.state.label ≡ true →
      ending_by (told_end (answered job w (step_lines ss))) (ending_at job (after_calls job w (calls_in (step_lines ss)))) ≡ ending_from job w ss
  unfolding answered told_end ending_from step_lines after_calls
  end-told [] w h = refl
  end-told (s ∷ ss) w h =
      end_by w s ss (checked_at job w s) h
      (λ o. end-told ss (advanced job w s.arguments o) (stays w.facts o.span w.state.label h))

  -- the report of a schedule is the text of its answers up to the first refusal, and the ending
  pub report-told : (m : Meaning) (ss : List Step) (lines : List Line) (verdict : Verdict) →
      lines ≡ answered job (opened job m) (report_lines ss) → verdict ≡ verdict_of job (after_calls job (opened job m) (calls_in (report_lines ss))) →
      told_text lines ++ ending_line (ending_by (told_end lines) (verdict_ending verdict.broken verdict.judgement)) ≡ report job m ss
  unfolding report after_calls
  report-told m ss lines verdict el ev =
      let w = opened job m in
      let h = begins m in
      let text : told_text lines ≡ line_of w ++ lines_from job w ss =
      ap told_text el ∙ (look_told w (step_lines ss) h ∙ ap (λ t. line_of w ++ t) (text_told ss w h)) in
      let end : ending_by (told_end lines) (verdict_ending verdict.broken verdict.judgement) ≡ ending_from job w ss =
      ap (λ t. ending_by (told_end t) (verdict_ending verdict.broken verdict.judgement)) el
      ∙ (ap (λ (v : Verdict). ending_by (told_end (answered job w (report_lines ss))) (verdict_ending v.broken v.judgement)) ev
      ∙ (ap (λ t. ending_by t (ending_at job (after_calls job w (calls_in (step_lines ss))))) (look_ends w (step_lines ss) h) ∙ end-told ss w h)) in
      ap (λ t. t ++ ending_line (ending_by (told_end lines) (verdict_ending verdict.broken verdict.judgement))) text
      ∙ (ap (λ e. (line_of w ++ lines_from job w ss) ++ ending_line e) end
      ∙ append_assoc (line_of w) (lines_from job w ss) (ending_line (ending_from job w ss)))

-- a run in one piece
pub record Answered (job : Job) (m : Meaning) (before after : List Line) (verdict : Verdict) : Type 0 where
  pub lines : after ≡ answered job (opened job m) before
  pub as_many : length after ≡ length before
  pub closed : verdict ≡ verdict_of job (after_calls job (opened job m) (calls_in before))

pub one_piece : (job : Job) (m n : Meaning) (before after : List Line) (last : World) (verdict : Verdict) →
    (Joined job (opened job m) (record { facts = m; lines = before } ∷ []) →
    Uncut job (opened job m) (record { facts = m; lines = before } ∷ []) (record { facts = n; lines = after } ∷ []) last verdict) →
    Answered job m before after verdict
unfolding Joined all_lines
one_piece job m n before after last verdict cut =
    let uncut = cut (refl, tt) in
    let same : all_lines (record { facts = m; lines = before } ∷ []) ≡ before = append-nil before in
    let lines : after ≡ answered job (opened job m) before = sym (append-nil after) ∙ (uncut.answers ∙ ap (answered job (opened job m)) same) in
    record {
      lines = lines;
      as_many = ap length lines ∙ answered-length job (opened job m) before;
      closed = uncut.closed ∙ ap (λ t. verdict_of job (after_calls job (opened job m) (calls_in t))) same;
    }

-- what was written is the report
pub report-written : (job : Job) → LabelsStayKnown → Sound job → (m : Meaning) (ss : List Step) (before after : List Line) (verdict : Verdict) (ending : Ending) (t₀ t₁ t₂ : List ℕ) →
    before ≡ report_lines ss → Answered job m before after verdict → t₀ ≡ [] → t₁ ≡ t₀ ++ told_text after →
    ending ≡ ending_by (told_end after) (verdict_ending verdict.broken verdict.judgement) → t₂ ≡ t₁ ++ ending_line ending → t₂ ≡ report job m ss
report-written job known sound m ss before after verdict ending t₀ t₁ t₂ eb run none e₁ ee e₂ =
    e₂
    ∙ (ap (λ t. t ++ ending_line ending) (e₁ ∙ ap (λ t. t ++ told_text after) none)
    ∙ (ap (λ e. told_text after ++ ending_line e) ee
    ∙ report-told job known sound m ss after verdict (run.lines ∙ ap (answered job (opened job m)) eb)
    (run.closed ∙ ap (λ t. verdict_of job (after_calls job (opened job m) (calls_in t))) eb)))

-- the ending by the verdict, or by the first refusal
pub ends_well : (u : Unit {0}) (r : Result (Unit {0}) ReportRefusal) (ending last verdict : Ending) → Ok u ≡ r → last ≡ verdict → ending ≡ last → ending ≡ ending_by r verdict
ends_well u r ending last verdict er ev ee = ee ∙ (ev ∙ ap (λ t. ending_by t verdict) er)

pub ends-refused : (e : ReportRefusal) (r : Result (Unit {0}) ReportRefusal) (ending verdict : Ending) → Err e ≡ r → ending ≡ Refused e → ending ≡ ending_by r verdict
ends-refused e r ending verdict er ee = ee ∙ ap (λ t. ending_by t verdict) er
