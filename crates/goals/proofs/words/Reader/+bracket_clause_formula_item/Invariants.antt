use Rattle.std.proofs.Common.{◌+◌, ◌*◌}
use Rattle.goals.specs.Promises.{vocabulary, left}
use Rattle.goals.proofs.Going.{ClauseGoing, FormulaGoing}
use Rattle.goals.proofs.words.Reader.+bracket_clause_formula_item.Given as goal

abbrev pub decreases-bracket : goal.decreases-bracket
decreases-bracket l = 4 * left l.s.now + 3

abbrev pub decreases-clause : goal.decreases-clause
decreases-clause l = 4 * left l.s.now + 1

abbrev pub decreases-formula : goal.decreases-formula
decreases-formula l = 4 * left l.s.now + 2

abbrev pub decreases-item : goal.decreases-item
decreases-item l = 4 * left l.s.now

abbrev pub invariant-clause-loop-token : goal.invariant-clause-loop-token
invariant-clause-loop-token l = ClauseGoing (vocabulary l.self.words) l.self.scope l.initial.s l.s l.initial.left l.left

abbrev pub decreases-clause-loop-token : goal.decreases-clause-loop-token
decreases-clause-loop-token l = left l.s

abbrev pub invariant-formula-loop-token : goal.invariant-formula-loop-token
invariant-formula-loop-token l = FormulaGoing (vocabulary l.self.words) l.self.scope l.initial.s l.s l.initial.left l.left

abbrev pub decreases-formula-loop-token : goal.decreases-formula-loop-token
decreases-formula-loop-token l = left l.s
