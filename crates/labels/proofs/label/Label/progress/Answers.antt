use Rattle.std.proofs.Common.{◌≡◌, ◌<◌, true, length, Err, vec_items, sym, ap, ◌∙◌, subst}
use Rattle.std.proofs.lemmas.Result.{err_from_is_err_and, IfOk-from_err}
use Rattle.goals.specs.JobView.{sound}
use Rattle.labels.specs.declared.refusal.LabelRefusal.{LabelRefusal}
use Rattle.labels.specs.declared.refusal.LabelRefusal.TheVariants.{OtherJob}
use Rattle.labels.specs.declared.table.Table.{Table}
use Rattle.labels.specs.Order.{ordered_label}
use Rattle.labels.specs.Table.{label_at, OnlyParts}
use Rattle.labels.specs.LabelCalls.{label_of}
use Rattle.labels.specs.LabelTruth.{Carries}
use Rattle.labels.proofs.Meanings.{carries, progress-ordered}
use Rattle.labels.proofs.Answering.{other_job, left_alone, changed, work-refused, work_accepted, new-label}
use Rattle.labels.proofs.label.Label.progress.Goals as goal

pub returns-then-not-is_known : goal.returns-then-not-is_known
returns-then-not-is_known g c =
    let m = g.R.Register.meaning c.args.register.now in
    let l = label_of c.args.self.now in
    let e = other_job c.args.job.now m c.args.span l (sym c.is_known.ensures ∙ c.if-not-is_known.true) in
    record { answer = e; after = left_alone c.args.job.now m c.args.span l OtherJob e; truth = tt }

pub returns-in_err-root : goal.returns-in_err-root
returns-in_err-root g c =
    let m = g.R.Register.meaning c.args.register.now in
    let l = label_of c.args.self.now in
    let pr = err_from_is_err_and c.from_residual.result c.from_residual.ensures.1 in
    let known = sym c.is_known.ensures ∙ c.if-not-is_known.false in
    let refusal : LabelRefusal = c.in_err-root.field-0.0 in
    let e = work-refused c.args.job.now m c.args.span l known (vec_items c.work_out.new.workspace.fresh.items) refusal
    c.in_err-root.ensures in
    record { answer = pr.1 ∙ (ap Err pr.2 ∙ e); after = left_alone c.args.job.now m c.args.span l refusal e; truth = IfOk-from_err c.from_residual.result _ c.from_residual.ensures.0 }

pub returns : goal.returns
unfolding label_of
returns g c =
    let job = c.args.job.now in
    let m = g.R.Register.meaning c.args.register.now in
    let D = c.args.span in
    let l = label_of c.args.self.now in
    let known = sym c.is_known.ensures ∙ c.if-not-is_known.false in
    let root = c.in_ok-root.root in
    let new = vec_items c.work_out.new.workspace.fresh.items in
    let e = work_accepted job m D l known new root c.in_ok-root.ensures in
    let is = ap (λ (tb : Table 512). label_at (vec_items tb.items) root) c.swap.ensures.x_after
    ∙ new-label job m D l known new root c.in_ok-root.ensures in
    record { answer = e; after = is ∙ changed job m D l e; truth = subst (Carries job m D l) (sym is) (carries job m D l) }

pub invariant_of-self : goal.invariant_of-self
unfolding label_of
invariant_of-self g c =
    let job = c.args.job.now in
    let m = g.R.Register.meaning c.args.register.now in
    let D = c.args.span in
    let l = label_of c.args.self.now in
    let known = sym c.is_known.ensures ∙ c.if-not-is_known.false in
    let root = c.in_ok-root.root in
    let fresh = c.work_out.new.workspace.fresh in
    let w = c.in_ok-root.ensures in
    let is = new-label job m D l known (vec_items fresh.items) root w in
    let Fine : Table 512 → Type 0 = λ tb.
    (root < length (vec_items tb.items)) × OnlyParts (vec_items tb.items) root
    × (ordered_label (label_at (vec_items tb.items) root) ≡ true) in
    let fine = subst Fine (sym c.swap.ensures.x_after)
    (w.within, w.only, ap ordered_label is ∙ progress-ordered job (sound c.args.job.now) m D l c.args.self.now.ordered) in
    record { inside = fine.0; only = fine.1; ordered = fine.2 }
