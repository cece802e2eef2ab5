use Rattle.std.proofs.Common.{◌≡◌, true, sym, ◌∙◌, arith}
use Rattle.registers.specs.Meaning.{allowed}
use Rattle.registers.specs.Lawfulness.{grid_lawful}
use Rattle.registers.proofs.Laws.{take_absent, take-excluding}
use Rattle.registers.proofs.GridSteps.{bounds-parts, grid_has, grid_inside, grid_place, grid_at, grid_fewer}
use Rattle.registers.proofs.grid.GridRegister.take.Goals as goal

pub index-requires : goal.index-requires
index-requires c =
    let a : allowed c.args.fact ≡ true = grid_inside _ c.args.fact (sym c.if-has.ensures) in
    let l = grid_place _ c.args.fact.predicate c.args.fact.first c.args.fact.second c.row_of-at.result a c.row_of-at.ensures (sym c.args.self.now.rows.ok.0 ∙ c.args.self.now.whole) in
    omega (arith, l, c.args.self.now.rows.ok.0)

pub without_bit-row-requires : goal.without_bit-row-requires
without_bit-row-requires c =
    let a : allowed c.args.fact ≡ true = grid_inside _ c.args.fact (sym c.if-has.ensures) in
    record {
      b_bound = (bounds-parts c.args.fact.predicate c.args.fact.first c.args.fact.second a).2;
      b_value = grid_at _ c.args.fact.predicate c.args.fact.first c.args.fact.second _ _ a c.row_of-at.ensures (sym c.args.self.now.rows.ok.0 ∙ c.args.self.now.whole) c.index.ensures ∙ sym c.if-has.ensures;
    }

pub index_mut-requires : goal.index_mut-requires
index_mut-requires c =
    let a : allowed c.args.fact ≡ true = grid_inside _ c.args.fact (sym c.if-has.ensures) in
    let l = grid_place _ c.args.fact.predicate c.args.fact.first c.args.fact.second c.row_of-at.result a c.row_of-at.ensures (sym c.args.self.now.rows.ok.0 ∙ c.args.self.now.whole) in
    omega (arith, l, c.args.self.now.rows.ok.0)

pub invariant_of-self : goal.invariant_of-self
invariant_of-self c =
    let m = grid_fewer _ c.args.self.now.limit c.args.fact c.row_of-at.result _ c.without_bit-row.result
    (grid_inside _ c.args.fact (sym c.if-has.ensures)) c.row_of-at.ensures (sym c.args.self.now.rows.ok.0 ∙ c.args.self.now.whole)
    c.index.ensures c.args.self.now.few c.without_bit-row.ensures in
    record { whole = c.args.self.now.whole; cut = c.args.self.now.cut; few = m.few }

pub returns-then-has : goal.returns-then-has
returns-then-has c =
    let m = grid_fewer _ c.args.self.now.limit c.args.fact c.row_of-at.result _ c.without_bit-row.result
    (grid_inside _ c.args.fact (sym c.if-has.ensures)) c.row_of-at.ensures (sym c.args.self.now.rows.ok.0 ∙ c.args.self.now.whole)
    c.index.ensures c.args.self.now.few c.without_bit-row.ensures in
    record { after = m.after ∙ take-excluding _ c.args.fact; lawful = grid_lawful _ _ c.args.self.now.few }

pub returns-else-has : goal.returns-else-has
returns-else-has c =
    record { after = take_absent _ c.args.fact (sym (grid_has _ _ c.args.fact) ∙ sym c.if-has.ensures); lawful = grid_lawful _ _ c.args.self.now.few }
