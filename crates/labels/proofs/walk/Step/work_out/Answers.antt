use Rattle.std.proofs.Common.{◌≡◌, ℕ, ◌≤◌, List, [], length, vec_items, vec_len, rules, arith}
use Rattle.std.proofs.lemmas.Result.{err_from_is_err_and}
use Rattle.goals.specs.declared.goal.Node.{Node}
use Rattle.goals.specs.JobView.{ids_of, nodes_of}
use Rattle.labels.specs.declared.part.Part.{Part}
use Rattle.labels.specs.declared.refusal.LabelRefusal.TheVariants.{TooMuchWork, TooLong}
use Rattle.labels.specs.Facts.{Facts}
use Rattle.labels.specs.Held.{facts_of}
use Rattle.labels.specs.Partwise.{AllProgressed}
use Rattle.labels.specs.LabelCalls.{label_of}
use Rattle.labels.proofs.Working.{named, too_much, all_done, worked}
use Rattle.labels.proofs.walk.Step.work_out.Goals as goal
use Rattle.labels.proofs.walk.Step.work_out.Goals.{In_ok-map_err}

pub returns-in_err-map_err : goal.returns-in_err-map_err
unfolding label_of
returns-in_err-map_err g c =
    let N : ℕ = ids_of c.args.self.now.job.now in
    let S : Facts = facts_of (g.R.Register.meaning c.args.self.now.register.now) in
    let D : ℕ = c.args.self.now.span.hours in
    let nodes : List Node = nodes_of c.args.self.now.job.now in
    let l = c.args.label.now in
    let t : List Part = vec_items l.table.items in
    let pr = err_from_is_err_and c.from_residual.result c.from_residual.ensures.1 in
    rw (pr.1, pr.2)
    (too_much N S D nodes t l.table.order l.root l.inside l.only c.every_part.result c.map_err.result c.in_err-map_err.field-0.0 c.every_part.new.to
    (vec_items c.clear.new.self.items) (vec_items c.every_part.new.table.items) (vec_items c.args.workspace.now.fresh.items)
    (named TooMuchWork c.every_part.result c.map_err.result (λ e r l. search rules) c.map_err.ensures.cases) c.in_err-map_err.was c.every_part.ensures c.clear.ensures)

-- every part has been progressed into the first table
done : (g : _) (c : In_ok-map_err g) →
    AllProgressed (ids_of c.args.self.now.job.now) (facts_of (g.R.Register.meaning c.args.self.now.register.now)) c.args.self.now.span.hours
    (nodes_of c.args.self.now.job.now) (vec_items c.args.label.now.table.items) c.every_part.new.to [] (vec_items c.every_part.new.table.items)
done g c =
    let l = c.args.label.now in
    all_done (ids_of c.args.self.now.job.now) (facts_of (g.R.Register.meaning c.args.self.now.register.now)) c.args.self.now.span.hours
    (nodes_of c.args.self.now.job.now) (vec_items l.table.items) l.table.order l.root l.inside l.only c.every_part.result c.map_err.result
    c.in_ok-map_err.field-0 c.every_part.new.to (vec_items c.clear.new.self.items) (vec_items c.every_part.new.table.items)
    (named TooMuchWork c.every_part.result c.map_err.result (λ e r l. search rules) c.map_err.ensures.cases) c.in_ok-map_err.was c.every_part.ensures c.clear.ensures

few : (g : _) (c : In_ok-map_err g) → length (vec_items c.every_part.new.table.items) ≤ 4096
few g c =
    let v : vec_len c.every_part.new.table.items ≡ length (vec_items c.every_part.new.table.items) = c.every_part.new.table.items.ok.0 in
    let w : vec_len c.every_part.new.table.items ≤ 4096 = c.every_part.new.table.few in
    omega arith

pub mark-requires : goal.mark-requires
mark-requires g c =
    let all = done g (goal.at.mark-requires g c).In_ok-map_err in
    let short = few g (goal.at.mark-requires g c).In_ok-map_err in
    let l = c.args.label.now in
    let marks : length c.as_mut_slice-marks.result.now ≡ vec_len c.args.workspace.now.marks = c.as_mut_slice-marks.ensures.len in
    let beside : vec_len c.args.workspace.now.marks ≡ 4096 = c.args.workspace.now.beside in
    record { within = (all.placed l.root l.inside).0; room = omega arith }

pub copy-requires : goal.copy-requires
copy-requires g c =
    let all = done g (goal.at.copy-requires g c).In_ok-map_err in
    let short = few g (goal.at.copy-requires g c).In_ok-map_err in
    let l = c.args.label.now in
    let marks : length c.as_mut_slice-marks.result.now ≡ vec_len c.args.workspace.now.marks = c.as_mut_slice-marks.ensures.len in
    let beside : vec_len c.args.workspace.now.marks ≡ 4096 = c.args.workspace.now.beside in
    let places : length c.as_mut_slice-places.result.now ≡ vec_len c.args.workspace.now.places = c.as_mut_slice-places.ensures.len in
    let long : vec_len c.args.workspace.now.places ≡ 4096 = c.args.workspace.now.long in
    record { within = (all.placed l.root l.inside).0; marks = c.mark.ensures; wide = omega arith; room = omega arith }

pub returns : goal.returns
unfolding label_of
returns g c =
    let all = done g (goal.at.returns g c).In_ok-map_err in
    let short = few g (goal.at.returns g c).In_ok-map_err in
    let l = c.args.label.now in
    let v : vec_len c.copy.new.table.items ≡ length (vec_items c.copy.new.table.items) = c.copy.new.table.items.ok.0 in
    let w : vec_len c.copy.new.table.items ≤ 512 = c.copy.new.table.few in
    worked (ids_of c.args.self.now.job.now) (facts_of (g.R.Register.meaning c.args.self.now.register.now)) c.args.self.now.span.hours
    (nodes_of c.args.self.now.job.now) (vec_items l.table.items) l.table.order l.root l.inside l.only
    (vec_items c.every_part.new.table.items) c.every_part.new.to all c.every_part.new.table.order c.every_part.new.table.twins short
    c.copy.result c.map_err-2.result (vec_items c.clear-2.new.self.items) (vec_items c.copy.new.table.items) c.copy.new.table.order c.copy.new.table.twins (omega arith)
    (named TooLong c.copy.result c.map_err-2.result (λ e r l. search rules) c.map_err-2.ensures.cases) c.copy.ensures c.clear-2.ensures
