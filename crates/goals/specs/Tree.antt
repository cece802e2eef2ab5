-- The tree that a goal text stands for: `F`, `G` and `>` are written out, names and variables are looked up.
-- `F` is true-until, `G` is not true-until-not, `a > b` is `!a | b`; ends that are not written are from 0 on.
use Rattle.std.specs.Prelude.{ℕ, Some, None, Option}
use Rattle.goals.specs.declared.time.Span.{Span}
use Rattle.goals.specs.declared.goal.Variable.{Variable}
use Rattle.goals.specs.declared.goal.Term.{Term}
use Rattle.goals.specs.declared.goal.Term.TheVariants.{Id, Bound}
use Rattle.goals.specs.declared.goal.Atom.{Atom}
use Rattle.goals.specs.declared.goal.Ends.{Ends}
use Rattle.goals.specs.declared.scope.Letters.{Letters}
use Rattle.goals.specs.declared.scope.Scope.{Scope}
use Rattle.goals.specs.Tokens.{value}
use Rattle.goals.specs.Vocabulary.{Vocabulary, number}
use Rattle.goals.specs.Syntax as syntax
use Rattle.goals.specs.Syntax.{Operand, Test, bare, of_one, of_two, Interval, unwritten, from_to, from_on, Simple, Unary, Modal, eventually, henceforth, Quantifier, Prefix, unary, timed, quantified, Joint, Formula, one_clause, either, Clause, one_item, both, Item, simple, prefixed, group, pair}
use Rattle.goals.specs.Scopes.{variable_of, newest, binding, inside, deeper}

pub data Tree : Type 0 where
  always : Tree
  test : Atom → Tree
  equal : Term → Term → Tree
  not next : Tree → Tree
  and or : Tree → Tree → Tree
  until : Ends → Tree → Tree → Tree
  for_all exists : Variable → Atom → Tree → Tree

abbrev pub term_by : Option Variable → Term
term_by None = Id 0
term_by (Some v) = Bound v

abbrev pub term_of : Letters → Operand → Term
term_of ls (syntax.variable v) = term_by (variable_of ls v)
term_of ls (syntax.id d) = Id (value d)

-- an unused term is the id 0
abbrev pub atom_of : Vocabulary → Letters → Test → Atom
atom_of V ls (bare b) = record { predicate = number (V.lookup b); first = Id 0; second = Id 0 }
atom_of V ls (of_one b x) = record { predicate = number (V.lookup b); first = term_of ls x; second = Id 0 }
atom_of V ls (of_two b x y) = record { predicate = number (V.lookup b); first = term_of ls x; second = term_of ls y }

abbrev pub span : ℕ → Span
span n = record { hours = n }

abbrev pub ends_of : Interval → Ends
ends_of unwritten = record { lower = span 0; upper = None }
ends_of (from_to lo hi) = record { lower = span (value lo); upper = Some (span (value hi)) }
ends_of (from_on lo) = record { lower = span (value lo); upper = None }

module _ (V : Vocabulary) where
  abbrev pub simple_tree : Scope → Simple → Tree
  simple_tree s syntax.truth = always
  simple_tree s (syntax.test t) = test (atom_of V s.letters t)
  simple_tree s (syntax.equal x y) = equal (term_of s.letters x) (term_of s.letters y)

  abbrev pub unary_tree : Unary → Tree → Tree
  unary_tree syntax.not t = not t
  unary_tree syntax.next t = next t

  abbrev pub timed_tree : Modal → Ends → Tree → Tree
  timed_tree eventually e t = until e always t
  timed_tree henceforth e t = not (until e always (not t))

  abbrev pub quantified_tree : Quantifier → Variable → Atom → Tree → Tree
  quantified_tree syntax.for_all v a t = for_all v a t
  quantified_tree syntax.exists v a t = exists v a t

  abbrev pub prefix_tree : Scope → Prefix → Tree → Tree
  prefix_tree s (unary u) t = unary_tree u t
  prefix_tree s (timed m e) t = timed_tree m (ends_of e) t
  prefix_tree s (quantified q v b) t = quantified_tree q (newest s.letters) (atom_of V (binding s v).letters b) t

  abbrev pub joint_tree : Joint → Tree → Tree → Tree
  joint_tree (syntax.until e) t u = until (ends_of e) t u
  joint_tree syntax.implies t u = or (not t) u

  unfoldable mutual
    pub formula-tree : Scope → Formula → Tree
    formula-tree s (one_clause c) = clause-tree s c
    formula-tree s (either f c) = or (formula-tree s f) (clause-tree s c)

    pub clause-tree : Scope → Clause → Tree
    clause-tree s (one_item i) = item-tree s i
    clause-tree s (both c i) = and (clause-tree s c) (item-tree s i)

    pub item-tree : Scope → Item → Tree
    item-tree s (simple x) = simple_tree s x
    item-tree s (prefixed x i) = prefix_tree s x (item-tree (inside s x) i)
    item-tree s (group f) = formula-tree (deeper s) f
    item-tree s (pair a j b) = joint_tree j (formula-tree (deeper s) a) (formula-tree (deeper s) b)
