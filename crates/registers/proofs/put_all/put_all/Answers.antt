use Rattle.std.proofs.Common.{sym, ◌∙◌}
use Rattle.registers.proofs.ListLaws.{all_outside, all_full, all_room}
use Rattle.registers.proofs.put_all.put_all.Goals as goal

pub returns-then-not-all_in_bounds : goal.returns-then-not-all_in_bounds
returns-then-not-all_in_bounds g c =
    let p = all_outside (g.R.Register.meaning c.args.register.now) (g.L.FactList.listed c.args.list.now) (sym c.if-not-all_in_bounds.ensures) in
    record { answer = p.answer; after = p.after }

pub returns-then-not-has_room : goal.returns-then-not-has_room
returns-then-not-has_room g c =
    let p = all_full (g.R.Register.meaning c.args.register.now) (g.L.FactList.listed c.args.list.now) (sym c.if-not-all_in_bounds.ensures) (sym c.if-not-has_room.ensures) in
    record { answer = p.answer; after = p.after }

pub returns : goal.returns
returns g c =
    let p = all_room (g.R.Register.meaning c.args.register.now) (g.L.FactList.listed c.args.list.now) (sym c.if-not-all_in_bounds.ensures) (sym c.if-not-has_room.ensures) in
    record { answer = p.answer; after = c.put_each.ensures ∙ p.after }
