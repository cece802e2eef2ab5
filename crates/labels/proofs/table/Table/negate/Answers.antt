use Rattle.std.proofs.Common.{◌≡◌, ℕ, ◌<◌, List, length, get_or, vec_items, sym, ap, ◌∙◌, arith, ltb-true}
use Rattle.labels.specs.declared.part.Part.{Part}
use Rattle.labels.specs.declared.part.Part.TheVariants.{True, False, Not}
use Rattle.labels.specs.Joining.{negate}
use Rattle.labels.specs.Table.{label_at, before}
use Rattle.labels.proofs.Growing.{stands}
use Rattle.labels.proofs.Calls.{at_label}
use Rattle.labels.proofs.Places.{label-at, negate_true, negate_false, negate-not, negate-at}
use Rattle.labels.proofs.table.Table.negate.Goals as goal

pub returns-in-True : goal.returns-in-True
returns-in-True g c =
    let t : List Part = vec_items c.args.self.now.items in
    let i : ℕ = c.args.place in
    let e = label-at t c.args.self.now.order i c.requires True (sym c.in-True.ensures) in
    at_label g.row.LIMIT t (vec_items c.add.new.self.items) c.add.result
    (negate_true (label_at t i) e) c.add.ensures

pub returns-in-False : goal.returns-in-False
returns-in-False g c =
    let t : List Part = vec_items c.args.self.now.items in
    let i : ℕ = c.args.place in
    let e = label-at t c.args.self.now.order i c.requires False (sym c.in-False.ensures) in
    at_label g.row.LIMIT t (vec_items c.add-in-False.new.self.items) c.add-in-False.result
    (negate_false (label_at t i) e) c.add-in-False.ensures

pub returns-in-Not : goal.returns-in-Not
returns-in-Not g c =
    let t : List Part = vec_items c.args.self.now.items in
    let i : ℕ = c.args.place in
    let x : ℕ = c.in-Not.x in
    let here : Not x ≡ get_or t i True = c.in-Not.ensures in
    let e = label-at t c.args.self.now.order i c.requires (Not x) (sym here) in
    let lt : i < length t = c.requires in
    let below : x < i = ltb-true x i (ap (before i) here ∙ c.args.self.now.order i lt) in
    stands t c.args.self.now.order (negate (label_at t i)) x (omega arith) (negate-not (label_at t i) (label_at t x) e)

pub returns-in_default : goal.returns-in_default
returns-in_default g c =
    let t : List Part = vec_items c.args.self.now.items in
    let i : ℕ = c.args.place in
    let e = negate-at t c.args.self.now.order i c.requires c.part.result (sym c.part.ensures)
    c.in_default.not-True c.in_default.not-False c.in_default.not-Not in
    at_label g.row.LIMIT t (vec_items c.add-in_default.new.self.items) c.add-in_default.result
    (sym e) c.add-in_default.ensures
