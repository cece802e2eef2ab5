-- What a parse tree may have wrong beyond its grammar: unknown words (5), numbers out of range (6), too much of something (7).
-- Each is told of the tree, of the scope that it stands in and of the catalogue's words.
use Rattle.std.specs.Prelude.{ℕ, ◌+◌, Bool, true, false, not, ◌&&◌, ◌||◌, ◌==◌, nat_le, nat_lt}
use Rattle.goals.specs.declared.scope.Scope.{Scope}
use Rattle.goals.specs.Tokens.{value}
use Rattle.goals.specs.Vocabulary.{Vocabulary, is_known}
use Rattle.goals.specs.Syntax as syntax
use Rattle.goals.specs.Syntax.{Operand, variable, id, Test, bare, of_one, of_two, Interval, unwritten, from_to, from_on, Simple, Modal, eventually, henceforth, Prefix, unary, timed, quantified, Joint, until, implies, Formula, one_clause, either, Clause, one_item, both, Item, simple, prefixed, group, pair}
use Rattle.goals.specs.Scopes.{in_use, has_room, binding, inside, deeper}

abbrev pub names : ℕ → Operand → Bool
names v (variable u) = v == u
names v (id d) = false

-- a bound has its variable among its terms
abbrev pub mentions : ℕ → Test → Bool
mentions v (bare b) = false
mentions v (of_one b x) = names v x
mentions v (of_two b x y) = names v x || names v y

module _ (V : Vocabulary) where
  -- 5: each name is a predicate's, each variable is in use where it stands, none is bound twice, each bound has its variable
  abbrev pub known_operand : Scope → Operand → Bool
  known_operand s (variable v) = in_use s.letters v
  known_operand s (id d) = true

  abbrev pub known_test : Scope → Test → Bool
  known_test s (bare b) = is_known (V.lookup b)
  known_test s (of_one b x) = is_known (V.lookup b) && known_operand s x
  known_test s (of_two b x y) = is_known (V.lookup b) && (known_operand s x && known_operand s y)

  abbrev pub known_simple : Scope → Simple → Bool
  known_simple s syntax.truth = true
  known_simple s (syntax.test t) = known_test s t
  known_simple s (syntax.equal x y) = known_operand s x && known_operand s y

  abbrev pub known_prefix : Scope → Prefix → Bool
  known_prefix s (unary u) = true
  known_prefix s (timed m e) = true
  known_prefix s (quantified q v t) = not (in_use s.letters v) && (known_test (binding s v) t && mentions v t)

  unfoldable mutual
    pub known-formula : Scope → Formula → Bool
    known-formula s (one_clause c) = known-clause s c
    known-formula s (either f c) = known-formula s f && known-clause s c

    pub known-clause : Scope → Clause → Bool
    known-clause s (one_item i) = known-item s i
    known-clause s (both c i) = known-clause s c && known-item s i

    pub known-item : Scope → Item → Bool
    known-item s (simple x) = known_simple s x
    known-item s (prefixed x i) = known_prefix s x && known-item (inside s x) i
    known-item s (group f) = known-formula (deeper s) f
    known-item s (pair a j b) = known-formula (deeper s) a && known-formula (deeper s) b

  -- 6: each id is below the number of ids, no end is over 10,000, no upper end is below its lower end
  abbrev pub ranged_operand : Operand → Bool
  ranged_operand (variable v) = true
  ranged_operand (id d) = nat_lt (value d) V.ids

  abbrev pub ranged_test : Test → Bool
  ranged_test (bare b) = true
  ranged_test (of_one b x) = ranged_operand x
  ranged_test (of_two b x y) = ranged_operand x && ranged_operand y

  abbrev pub ranged_interval : Interval → Bool
  ranged_interval unwritten = true
  ranged_interval (from_to lo hi) = nat_le (value lo) 10000 && (nat_le (value hi) 10000 && nat_le (value lo) (value hi))
  ranged_interval (from_on lo) = nat_le (value lo) 10000

  abbrev pub ranged_simple : Simple → Bool
  ranged_simple syntax.truth = true
  ranged_simple (syntax.test t) = ranged_test t
  ranged_simple (syntax.equal x y) = ranged_operand x && ranged_operand y

  abbrev pub ranged_prefix : Prefix → Bool
  ranged_prefix (unary u) = true
  ranged_prefix (timed m e) = ranged_interval e
  ranged_prefix (quantified q v t) = ranged_test t

  abbrev pub ranged_joint : Joint → Bool
  ranged_joint (until e) = ranged_interval e
  ranged_joint implies = true

  unfoldable mutual
    pub ranged-formula : Formula → Bool
    ranged-formula (one_clause c) = ranged-clause c
    ranged-formula (either f c) = ranged-formula f && ranged-clause c

    pub ranged-clause : Clause → Bool
    ranged-clause (one_item i) = ranged-item i
    ranged-clause (both c i) = ranged-clause c && ranged-item i

    pub ranged-item : Item → Bool
    ranged-item (simple x) = ranged_simple x
    ranged-item (prefixed x i) = ranged_prefix x && ranged-item i
    ranged-item (group f) = ranged-formula f
    ranged-item (pair a j b) = ranged-formula a && (ranged_joint j && ranged-formula b)

-- 7: no bracket opens inside sixteen others, no quantifier stands inside two others
abbrev pub shallow_prefix : Scope → Prefix → Bool
shallow_prefix s (unary u) = true
shallow_prefix s (timed m e) = true
shallow_prefix s (quantified q v t) = has_room s.letters

unfoldable mutual
  pub shallow-formula : Scope → Formula → Bool
  shallow-formula s (one_clause c) = shallow-clause s c
  shallow-formula s (either f c) = shallow-formula s f && shallow-clause s c

  pub shallow-clause : Scope → Clause → Bool
  shallow-clause s (one_item i) = shallow-item s i
  shallow-clause s (both c i) = shallow-clause s c && shallow-item s i

  pub shallow-item : Scope → Item → Bool
  shallow-item s (simple x) = true
  shallow-item s (prefixed x i) = shallow_prefix s x && shallow-item (inside s x) i
  shallow-item s (group f) = nat_lt s.depth 16 && shallow-formula (deeper s) f
  shallow-item s (pair a j b) = nat_lt s.depth 16 && (shallow-formula (deeper s) a && shallow-formula (deeper s) b)

-- 7 too: how many nodes the tokens count for, which may be 128 at most
abbrev pub prefix_nodes : Prefix → ℕ
prefix_nodes (unary u) = 1
prefix_nodes (timed eventually e) = 2
prefix_nodes (timed henceforth e) = 4
prefix_nodes (quantified q v t) = 1

abbrev pub joint_nodes : Joint → ℕ
joint_nodes (until e) = 1
joint_nodes implies = 2

unfoldable mutual
  pub formula_nodes : Formula → ℕ
  formula_nodes (one_clause c) = clause_nodes c
  formula_nodes (either f c) = formula_nodes f + (1 + clause_nodes c)

  pub clause_nodes : Clause → ℕ
  clause_nodes (one_item i) = item_nodes i
  clause_nodes (both c i) = clause_nodes c + (1 + item_nodes i)

  pub item_nodes : Item → ℕ
  item_nodes (simple x) = 1
  item_nodes (prefixed x i) = prefix_nodes x + item_nodes i
  item_nodes (group f) = formula_nodes f
  item_nodes (pair a j b) = formula_nodes a + (joint_nodes j + formula_nodes b)
