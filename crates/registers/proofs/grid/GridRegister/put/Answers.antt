use Rattle.std.proofs.Common.{ltb, sym, ◌∙◌, arith}
use Rattle.std.proofs.lemmas.Bool.{and_parts, leb-true}
use Rattle.registers.specs.Lawfulness.{grid_lawful}
use Rattle.registers.proofs.Laws.{put_outside, put_held, put_full, put-room}
use Rattle.registers.proofs.GridSteps.{grid_has, grid_size, grid_limit, grid_more, grid_room}
use Rattle.registers.proofs.grid.GridRegister.put.Goals as goal

pub returns-then-not-in_bounds : goal.returns-then-not-in_bounds
returns-then-not-in_bounds c =
    let p = put_outside _ c.args.fact (sym c.if-not-in_bounds.ensures) in
    record { answer = p.answer; after = p.after; lawful = grid_lawful _ _ c.args.self.now.few }

pub returns-then-has : goal.returns-then-has
returns-then-has c =
    let p = put_held _ c.args.fact (sym c.if-not-in_bounds.ensures) (sym (grid_has _ _ c.args.fact) ∙ sym c.if-has.ensures) in
    record { answer = p.answer; after = p.after; lawful = grid_lawful _ _ c.args.self.now.few }

pub returns-then-is_full : goal.returns-then-is_full
returns-then-is_full c =
    let l = leb-true _ _ (and_parts (ltb c.args.self.now.limit 262144) _ (sym c.if-is_full.ensures)).1 in
    let p = put_full _ c.args.fact (sym c.if-not-in_bounds.ensures) (sym (grid_has _ _ c.args.fact) ∙ sym c.if-has.ensures)
    (omega (arith, l, grid_size c.args.self.now.rows.items c.args.self.now.limit, grid_limit c.args.self.now.rows.items c.args.self.now.limit)) in
    record { answer = p.answer; after = p.after; lawful = grid_lawful _ _ c.args.self.now.few }

pub invariant_of-self : goal.invariant_of-self
invariant_of-self c =
    let l = grid_room c.args.self.now.rows.items c.args.self.now.limit c.args.fact c.args.self.now.cut
    (sym c.if-not-in_bounds.ensures) (sym c.if-has.ensures) (sym c.if-is_full.ensures) in
    let m = grid_more _ c.args.self.now.limit c.args.fact c.row_of-at.result _ c.with_bit-row.result
    (sym c.if-not-in_bounds.ensures) c.row_of-at.ensures (sym c.args.self.now.rows.ok.0 ∙ c.args.self.now.whole)
    c.index.ensures (sym c.if-has.ensures) l c.with_bit-row.ensures in
    record { whole = c.args.self.now.whole; cut = c.args.self.now.cut; few = m.few }

pub returns : goal.returns
returns c =
    let l = grid_room c.args.self.now.rows.items c.args.self.now.limit c.args.fact c.args.self.now.cut
    (sym c.if-not-in_bounds.ensures) (sym c.if-has.ensures) (sym c.if-is_full.ensures) in
    let m = grid_more _ c.args.self.now.limit c.args.fact c.row_of-at.result _ c.with_bit-row.result
    (sym c.if-not-in_bounds.ensures) c.row_of-at.ensures (sym c.args.self.now.rows.ok.0 ∙ c.args.self.now.whole)
    c.index.ensures (sym c.if-has.ensures) l c.with_bit-row.ensures in
    let p = put-room _ c.args.fact (sym c.if-not-in_bounds.ensures)
    (omega (arith, l, grid_size c.args.self.now.rows.items c.args.self.now.limit, grid_limit c.args.self.now.rows.items c.args.self.now.limit)) in
    record { answer = p.answer; after = m.after ∙ p.after; lawful = grid_lawful _ _ c.args.self.now.few }
