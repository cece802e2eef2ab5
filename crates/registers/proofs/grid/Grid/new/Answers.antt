use Rattle.std.proofs.Common.{ap, ◌∙◌, arith}
use Rattle.registers.specs.Facts.{count_of}
use Rattle.registers.specs.Meaning.{empty_of}
use Rattle.registers.specs.Grid.{grid_facts, grid_meaning}
use Rattle.registers.proofs.GridSteps.{grid_empty, grid_empty-count}
use Rattle.registers.proofs.grid.Grid.new.Goals as goal

pub invariant_of-result : goal.invariant_of-result
invariant_of-result c =
    let e = c.in_ok-rows.ensures.items_if_clones_equal (λ y h. h) in
    let k = ap (λ t. count_of (grid_facts t)) e ∙ grid_empty-count 2048 in
    record { whole = c.in_ok-rows.ensures.len; cut = omega arith; few = omega (arith, k) }

pub returns : goal.returns
returns c =
    ap (λ t. grid_meaning t c.min.result) (c.in_ok-rows.ensures.items_if_clones_equal (λ y h. h))
    ∙ (grid_empty 2048 c.min.result ∙ ap empty_of c.min.ensures)
