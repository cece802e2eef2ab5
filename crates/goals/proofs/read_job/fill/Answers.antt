use Rattle.std.proofs.Common.{sym, ap, ◌∙◌}
use Rattle.std.proofs.lemmas.Result.{err_from_is_err_and}
use Rattle.goals.specs.Filling.{facts_answer}
use Rattle.goals.proofs.JobSteps.{shape-of-file, operations-of-file}
use Rattle.goals.proofs.read_job.fill.Goals as goal

pub returns-in_err-put_facts : goal.returns-in_err-put_facts
returns-in_err-put_facts g c =
    let m = g.R.Register.meaning c.args.register.now in
    let file = c.args.file.now in
    let f = c.in_ok-file.field-0.file.frame in
    let b = c.in_ok-file.ensures in
    let p = err_from_is_err_and c.from_residual-in_err-put_facts.result c.from_residual-in_err-put_facts.ensures.1 in
    rw (p.1, p.2) (
      f,
      b.1,
      record {
        shape = shape-of-file file f c.in_ok-file.field-0.job.catalogue b.2.spelled;
        operations = operations-of-file file f c.in_ok-file.field-0.job.catalogue b.2.spelled;
        formula = b.2.goal.formula;
        goal = b.2.goal.outcome;
      },
      ap (λ t. facts_answer m t f) (sym b.0) ∙ sym c.in_err-put_facts.ensures.answer,
      c.in_err-put_facts.ensures.after,
    )
