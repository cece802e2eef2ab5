use Rattle.std.proofs.Common.{◌++◌, Ok, Err, ap, ◌∙◌}
use Rattle.reports.specs.declared.ending.Ending.TheVariants.{Refused}
use Rattle.reports.specs.Lines.{ending_line}
use Rattle.reports.proofs.report.report.Goals as goal
use Rattle.reports.proofs.report.report.Goals.{in-Ok, in-Err}

pub returns : goal.returns
returns g c =
    elim c.match-fill.branch [
      | in-Ok w ↦
          record {
            outcome = Ok w.in-Ok.job;
            filled = g.R.Register.meaning c.fill.new.register;
            reading = w.in-Ok.ensures;
            written = c.into_bytes.ensures ∙ (w.text-is ∙ w.report_steps.ensures.text);
            tells = w.report_steps.ensures.tells;
          }
      | in-Err w ↦
          record {
            outcome = Err w.in-Err.fault;
            filled = g.R.Register.meaning c.fill.new.register;
            reading = w.in-Err.ensures;
            written =
                c.into_bytes.ensures
                ∙ (w.text-is
                ∙ (w.push_ending.ensures
                ∙ (ap (λ t. t ++ ending_line (Refused w.into.result)) c.args.room.blank ∙ ap (λ r. ending_line (Refused r)) w.into.ensures)));
            tells = tt;
          }
    ]
