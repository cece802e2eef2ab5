use Rattle.std.proofs.Common.{sym, refl, ◌∙◌}
use Rattle.goals.proofs.FillSteps.{facts_undeclared, facts-put, facts-after}
use Rattle.goals.proofs.put_facts.put_facts.Goals as goal

pub returns-then-not-all_declared : goal.returns-then-not-all_declared
returns-then-not-all_declared g c =
    record {
      answer = facts_undeclared (g.R.Register.meaning c.args.register.now) c.args.file.bytes.now c.args.file.frame (sym c.if-not-all_declared.ensures);
      after = refl;
    }

pub returns : goal.returns
returns g c =
    let m = g.R.Register.meaning c.args.register.now in
    let file = c.args.file.bytes.now in
    let frame = c.args.file.frame in
    record {
      answer = c.put_all.ensures.answer ∙ facts-put m file frame (sym c.if-not-all_declared.ensures);
      after = c.put_all.ensures.after ∙ facts-after m file frame c.put_all.result c.put_all.ensures.answer;
    }
