use Rattle.std.proofs.Common.{false, get_or, Ok, sym, ap, ◌∙◌}
use Rattle.goals.specs.JobView.{sound}
use Rattle.labels.specs.LabelCalls.{label_of}
use Rattle.labels.proofs.Meanings.{judges}
use Rattle.labels.proofs.Answering.{idling_other, idling-known}
use Rattle.labels.proofs.label.Label.idles.Goals as goal

pub returns-then-not-is_known : goal.returns-then-not-is_known
returns-then-not-is_known g c = record {
  answer = idling_other c.args.job.now (g.R.Register.meaning c.args.register.now) (label_of c.args.self.now)
      (sym c.is_known.ensures ∙ c.if-not-is_known.true);
  truth = tt;
}

pub returns : goal.returns
unfolding label_of
returns g c =
    let job = c.args.job.now in
    let m = g.R.Register.meaning c.args.register.now in
    let l = c.args.self.now in
    let is = c.every_part.ensures l.root l.inside in
    record {
      answer = ap Ok is ∙ idling-known job m (label_of l) (sym c.is_known.ensures ∙ c.if-not-is_known.false);
      truth = judges job (sound c.args.job.now) m (label_of l) l.ordered (get_or c.every_part.new.gave l.root false) is;
    }
