use Rattle.std.proofs.Common.{◌≡◌, List, ◌++◌, length, vec_items, ap, ◌∙◌, arith}
use Rattle.goals.specs.JobView.{sound}
use Rattle.sessions.specs.declared.call.Line.{Line}
use Rattle.reports.specs.Lines.{verdict_ending}
use Rattle.reports.specs.Told.{told_text, told_end, ending_by}
use Rattle.reports.specs.FileSteps.{steps_in}
use Rattle.reports.proofs.Telling.{one_piece, report-written, ends_well, ends-refused}
use Rattle.reports.proofs.Judging.{one-law}
use Rattle.reports.proofs.report.report_steps.Goals as goal
use Rattle.reports.proofs.report.report_steps.Goals.{in-Ok, in-Err}

pub push_answers-requires : goal.push_answers-requires
push_answers-requires g c =
    let run = one_piece c.args.job.now (g.R.Register.meaning c.args.register.now) _ (vec_items c.add_calls.new.lines) (vec_items c.run_schedule-closing.new.pieces.lines) _ _ c.run_schedule-closing.ensures.cut in
    omega (arith, ap length c.requires.empty, c.as_slice.ensures.len, c.add_calls.ensures.few, run.as_many, c.add_calls.new.lines.ok.0, c.run_schedule-closing.new.pieces.lines.ok.0)

pub returns : goal.returns
returns g c =
    let job = c.args.job.now in
    let m = g.R.Register.meaning c.args.register.now in
    let after = vec_items c.run_schedule-closing.new.pieces.lines in
    let verdict = c.run_schedule-closing.result.verdict in
    let run = one_piece job m _ (vec_items c.add_calls.new.lines) after _ verdict c.run_schedule-closing.ensures.cut in
    let same = c.as_slice.ensures.value in
    let ending : c.match-push_answers.ending ≡ ending_by (told_end after) (verdict_ending verdict.broken verdict.judgement) =
    elim c.match-push_answers.branch [
      | in-Ok w ↦ ends_well _ (told_end after) _ _ _ (w.in-Ok.ensures.end ∙ ap told_end same) w.from-ending.ensures w.ending-is
      | in-Err w ↦ ends-refused w.in-Err.refusal (told_end after) _ _ (w.in-Err.ensures.end ∙ ap told_end same) w.ending-is
    ] in
    record {
      text =
          report-written job c.labels_stay_known.ensures (sound c.args.job.now) m (steps_in c.args.file.now) (vec_items c.add_calls.new.lines) after verdict
          c.match-push_answers.ending c.args.text.now c.push_answers.new.self _
          c.add_calls.ensures.items run c.requires.empty
          (c.push_answers.ensures.items ∙ ap (λ (t : List Line). c.args.text.now ++ told_text t) same) ending c.push_ending.ensures;
      tells = one-law job m _ (steps_in c.args.file.now) (vec_items c.add_calls.new.lines) after _ verdict c.add_calls.ensures.items run c.run_schedule-closing.ensures.law;
    }
