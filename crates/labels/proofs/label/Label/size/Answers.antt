use Rattle.std.proofs.Common.{vec_items, ◌∙◌}
use Rattle.labels.specs.LabelCalls.{label_of}
use Rattle.labels.proofs.Labelled.{size_is}
use Rattle.labels.proofs.label.Label.size.Goals as goal

pub returns : goal.returns
unfolding label_of
returns c =
    let l = c.args.self.now in
    c.len.ensures ∙ size_is (vec_items l.table.items) l.table.order l.table.twins l.root l.inside l.only
