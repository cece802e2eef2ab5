use Rattle.std.proofs.Common.{vec_items, sym, ap}
use Rattle.labels.specs.declared.part.Part.TheVariants.{True, False}
use Rattle.labels.specs.LabelCalls.{label_of, state_of}
use Rattle.labels.proofs.Places.{label-at}
use Rattle.labels.proofs.Labelled.{open_at}
use Rattle.labels.proofs.label.Label.state.Goals as goal

pub returns-in-True : goal.returns-in-True
unfolding label_of
returns-in-True c =
    let l = c.args.self.now in
    ap state_of (sym (label-at (vec_items l.table.items) l.table.order l.root l.inside True (sym c.in-True.ensures)))

pub returns-in-False : goal.returns-in-False
unfolding label_of
returns-in-False c =
    let l = c.args.self.now in
    ap state_of (sym (label-at (vec_items l.table.items) l.table.order l.root l.inside False (sym c.in-False.ensures)))

pub returns-in_default : goal.returns-in_default
unfolding label_of
returns-in_default c =
    let l = c.args.self.now in
    open_at (vec_items l.table.items) l.table.order l.root l.inside c.part.result (sym c.part.ensures)
    c.in_default.not-True c.in_default.not-False
