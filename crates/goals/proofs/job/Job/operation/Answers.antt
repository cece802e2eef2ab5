use Rattle.std.proofs.Common.{length, get_or, IfSome, ltb, sym, ap, ◌∙◌, subst, ◌≡◌}
use Rattle.goals.specs.EntryBounds.{Inside}
use Rattle.goals.specs.JobView.{ids_of}
use Rattle.goals.proofs.BoundSteps.{inside-got}
use Rattle.goals.proofs.job.Job.operation.Goals as goal

pub returns-clause-inside : goal.returns-clause-inside
unfolding ids_of
returns-clause-inside c =
    let job = c.args.self.now in
    let e = c.deref.ensures.value in
    subst (λ r. IfSome r (λ o. Inside job.catalogue.ids o)) (sym c.copied.ensures)
    (inside-got job.catalogue.ids job.catalogue.operations.items c.args.number c.get.result job.catalogue.bounds
    (c.get.ensures.lookup.0 ∙ ap (λ xs. ltb c.args.number (length xs)) e)
    (subst (λ xs. IfSome c.get.result (λ x. x.now ≡ get_or xs c.args.number x.now)) e c.get.ensures.lookup.1))
