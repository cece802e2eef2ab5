-- What the reader's inner functions promise: the stage that they begin at leads to the stage that they end at, wherever it stands.
-- They add a tree's nodes to the table, and count as many.
use Rattle.std.specs.Prelude.{◌≡◌, ℕ, ◌+◌, ◌<◌, ◌≤◌, Bool, true, false, cond, ◌||◌, List, [], ◌∷◌, ◌++◌, length, None, Ok, Err, vec_items, Option, Result, ◌≢◌, nat_lt}
use Rattle.goals.specs.declared.time.Span.{Span}
use Rattle.goals.specs.declared.goal.Variable.{Variable}
use Rattle.goals.specs.declared.goal.Variable.TheVariants.{Outer, Inner}
use Rattle.goals.specs.declared.goal.Term.{Term}
use Rattle.goals.specs.declared.goal.Term.TheVariants.{Id, Bound}
use Rattle.goals.specs.declared.goal.Atom.{Atom}
use Rattle.goals.specs.declared.goal.Ends.{Ends}
use Rattle.goals.specs.declared.goal.Node.{Node}
use Rattle.goals.specs.declared.goal.Node.TheVariants as node
use Rattle.goals.specs.declared.goal_fault.GoalFault.{GoalFault}
use Rattle.goals.specs.declared.goal_fault.GoalFault.TheVariants.{Follow, Unknown, Range, Limit}
use Rattle.goals.specs.declared.scope.Letters.{Letters}
use Rattle.goals.specs.declared.scope.Scope.{Scope}
use Rattle.goals.specs.declared.words.Words.{Words}
use Rattle.goals.specs.declared.words.Called.{Called}
use Rattle.goals.specs.declared.progress.Progress.{Progress}
use Rattle.goals.specs.declared.progress.Prefix.{Prefix}
use Rattle.goals.specs.declared.progress.Prefix.TheVariants as prefix
use Rattle.goals.specs.declared.progress.Joint.{Joint}
use Rattle.goals.specs.declared.progress.Joint.TheVariants as joint
use Rattle.goals.specs.declared.progress.Bound as code
use Rattle.goals.specs.declared.progress.Opening.{Opening}
use Rattle.goals.specs.declared.progress.Timed.{Timed}
use Rattle.goals.specs.declared.rest.Rest.{Rest}
use Rattle.goals.specs.Seen.{tokens_in}
use Rattle.goals.specs.Tokens.{Tok, mark, word, variable, digits, bad, Source, end, next, value}
use Rattle.goals.specs.Vocabulary.{Vocabulary, vocabulary_of}
use Rattle.goals.specs.Syntax as syntax
use Rattle.goals.specs.Scopes.{in_use, bind, newest, inside}
use Rattle.goals.specs.Tree.{Tree, term_of, atom_of, span, ends_of, formula-tree, clause-tree, item-tree}
use Rattle.goals.specs.Conditions.{prefix_nodes, joint_nodes}
use Rattle.goals.specs.Reading.{Around, open_at, right_of, Place, at, under, scope_at, scope_around, Role, alone, bound, role_scope, role_holds, Asker, asker_scope, Opener, resume, Stage, wants, after, expects, asks, equals, binds, bounds, opens, lower, upper, joined_or, complete, tested, given, Outcome, fault, run}
use Rattle.goals.specs.GoalFaults.{told}
use Rattle.goals.specs.Layout.{laid, below, size}

abbrev pub vocabulary : Words → Vocabulary
vocabulary W = vocabulary_of W.ids W.predicates.now

abbrev pub tokens : Progress → Source
tokens p = tokens_in p.rest

-- how many bytes are left
abbrev pub left : Progress → ℕ
left p = length p.rest.bytes.now

abbrev pub items : Progress → List Node
items p = vec_items p.nodes

-- what comes of reading on from here at a stage
abbrev pub from : Vocabulary → Progress → Stage → Outcome
from V p g = run V p.count g (tokens p)

-- a token was passed that counts for so many nodes
pub record Passed (p q : Progress) (nodes : ℕ) (behind : Rest) : Type 0 where
  pub rest_is : q.rest ≡ behind
  pub count_is : q.count ≡ p.count + nodes
  pub nodes_same : items q ≡ items p

abbrev pub TakeSays : Progress → Progress → ℕ → ℕ → Rest → Result (Unit {0}) GoalFault → Type 0
TakeSays p q nodes place behind (Ok u) = Passed p q nodes behind
TakeSays p q nodes place behind (Err x) = (x ≡ Limit place) × (128 < p.count + nodes)

-- one node more, with the number i
pub record Added (p q : Progress) (n : Node) (i : ℕ) : Type 0 where
  pub number : i ≡ length (items p)
  pub grows : items q ≡ items p ++ n ∷ []
  pub rest_same : q.rest ≡ p.rest
  pub count_same : q.count ≡ p.count

-- a token stands here, and the text goes on behind it
pub record Here (p : Progress) (x : Tok) (place : ℕ) (behind : Rest) : Type 0 where
  pub there : tokens p ≡ next x place (tokens_in behind)
  pub further : length behind.bytes.now < left p

-- the sign that stands first, or 0
abbrev pub head_sign : Source → ℕ
head_sign (end p) = 0
head_sign (next (word b) p s) = 0
head_sign (next (variable v) p s) = 0
head_sign (next (digits d) p s) = 0
head_sign (next (mark c) p s) = c
head_sign (next bad p s) = 0

abbrev pub head_place : Source → ℕ
head_place (end p) = p
head_place (next x p s) = p

-- tokens were read, and no node was made or counted
pub record Still (p q : Progress) : Type 0 where
  pub nodes_same : items q ≡ items p
  pub count_same : q.count ≡ p.count
  pub further : left q < left p

-- a sign was there, or another token or the end
pub record SignRead (p q : Progress) (c : ℕ) : Type 0 where
  pub place : ℕ
  pub there : tokens p ≡ next (mark c) place (tokens q)
  pub still : Still p q

abbrev pub SignSays : Progress → Progress → ℕ → Result (Unit {0}) GoalFault → Type 0
SignSays p q c (Ok u) = SignRead p q c
SignSays p q c (Err x) = (x ≡ Follow (head_place (tokens p))) × (head_sign (tokens p) ≢ c)

-- a variable by its letter, and an id by its digits
abbrev pub VariableSays : Letters → ℕ → ℕ → Result Term GoalFault → Type 0
VariableSays ls v p (Ok t) = (in_use ls v ≡ true) × (t ≡ term_of ls (syntax.variable v))
VariableSays ls v p (Err x) = (in_use ls v ≡ false) × (x ≡ Unknown p)

abbrev pub IdSays : ℕ → List ℕ → ℕ → Result Term GoalFault → Type 0
IdSays n d p (Ok t) = (nat_lt (value d) n ≡ true) × (t ≡ Id (value d))
IdSays n d p (Err x) = (nat_lt (value d) n ≡ false) × (x ≡ Range p)

pub record OperandRead (V : Vocabulary) (s : Scope) (p q : Progress) (t : Term) : Type 0 where
  pub operand : syntax.Operand
  pub value_is : t ≡ term_of s.letters operand
  pub runs : (a : Asker) → asker_scope a ≡ s → from V p (asks a) ≡ from V q (given a operand)
  pub still : Still p q

abbrev pub OperandSays : Vocabulary → Scope → Progress → Progress → Result Term GoalFault → Type 0
OperandSays V s p q (Ok t) = OperandRead V s p q t
OperandSays V s p q (Err x) = (a : Asker) → asker_scope a ≡ s → from V p (asks a) ≡ told x

-- a comma and a second term
pub record SecondRead (V : Vocabulary) (s : Scope) (p q : Progress) (t : Term) : Type 0 where
  pub operand : syntax.Operand
  pub value_is : t ≡ term_of s.letters operand
  pub runs : (a : Asker) → asker_scope a ≡ s → from V p (expects 44 (asks a)) ≡ from V q (given a operand)
  pub still : Still p q

abbrev pub SecondSays : Vocabulary → Scope → Progress → Progress → Result Term GoalFault → Type 0
SecondSays V s p q (Ok t) = SecondRead V s p q t
SecondSays V s p q (Err x) = (a : Asker) → asker_scope a ≡ s → from V p (expects 44 (asks a)) ≡ told x

-- where a test may begin, and the nodes that its name counts for
abbrev pub test_stage : Role → Stage
test_stage (alone k) = wants k
test_stage (bound q v k) = bounds q v k

abbrev pub role_nodes : Role → ℕ
role_nodes (alone k) = 1
role_nodes (bound q v k) = 0

-- a name stands here
abbrev pub NameHere : Progress → Called → Type 0
NameHere p c = Here p (word c.name.now) c.token.place c.token.rest

pub record TestRead (V : Vocabulary) (s : Scope) (nodes place : ℕ) (p q : Progress) (a : Atom) : Type 0 where
  pub test : syntax.Test
  pub value_is : a ≡ atom_of V s.letters test
  pub runs : (r : Role) → role_scope r ≡ s → role_nodes r ≡ nodes → from V p (test_stage r) ≡ cond (role_holds r test) (from V q (tested r test)) (fault 5 place)
  pub nodes_same : items q ≡ items p
  pub count_is : q.count ≡ p.count + nodes
  pub further : left q < left p

abbrev pub TestSays : Vocabulary → Scope → ℕ → ℕ → Progress → Progress → Result Atom GoalFault → Type 0
TestSays V s nodes place p q (Ok a) = TestRead V s nodes place p q a
TestSays V s nodes place p q (Err x) = (r : Role) → role_scope r ≡ s → role_nodes r ≡ nodes → from V p (test_stage r) ≡ told x

-- the lower end, and the upper
pub record LowerRead (V : Vocabulary) (p q : Progress) (n : ℕ) : Type 0 where
  pub digits_read : List ℕ
  pub value_is : n ≡ value digits_read
  pub runs : (m : Opener) → from V p (lower m) ≡ from V q (expects 44 (upper m digits_read))
  pub still : Still p q

abbrev pub LowerSays : Vocabulary → Progress → Progress → Result ℕ GoalFault → Type 0
LowerSays V p q (Ok n) = LowerRead V p q n
LowerSays V p q (Err x) = (m : Opener) → from V p (lower m) ≡ told x

pub record UpperRead (V : Vocabulary) (n : ℕ) (p q : Progress) (u : Option Span) : Type 0 where
  pub interval : List ℕ → syntax.Interval
  pub value_is : (lo : List ℕ) → record { lower = span (value lo); upper = u } ≡ ends_of (interval lo)
  pub runs : (m : Opener) (lo : List ℕ) → n ≡ value lo → from V p (upper m lo) ≡ from V q (expects 93 (wants (resume m (interval lo))))
  pub still : Still p q

abbrev pub UpperSays : Vocabulary → ℕ → Progress → Progress → Result (Option Span) GoalFault → Type 0
UpperSays V n p q (Ok u) = UpperRead V n p q u
UpperSays V n p q (Err x) = (m : Opener) (lo : List ℕ) → n ≡ value lo → from V p (upper m lo) ≡ told x

pub record EndsRead (V : Vocabulary) (p q : Progress) (e : Ends) : Type 0 where
  pub interval : syntax.Interval
  pub value_is : e ≡ ends_of interval
  pub runs : (m : Opener) → from V p (opens m) ≡ from V q (wants (resume m interval))
  pub nodes_same : items q ≡ items p
  pub count_same : q.count ≡ p.count
  pub low : left q ≤ left p

abbrev pub EndsSays : Vocabulary → Progress → Progress → Result Ends GoalFault → Type 0
EndsSays V p q (Ok e) = EndsRead V p q e
EndsSays V p q (Err x) = (m : Opener) → from V p (opens m) ≡ told x

-- whether a term is a variable
abbrev pub same_variable : Variable → Variable → Bool
same_variable Outer Outer = true
same_variable Outer Inner = false
same_variable Inner Outer = false
same_variable Inner Inner = true

abbrev pub is_bound : Variable → Term → Bool
is_bound v (Id n) = false
is_bound v (Bound u) = same_variable u v

abbrev pub has_bound : Variable → Atom → Bool
has_bound v a = is_bound v a.first || is_bound v a.second

pub record BoundRead (V : Vocabulary) (s : Scope) (p q : Progress) (b : code.Bound) : Type 0 where
  pub test : syntax.Test
  pub value_is : b.atom ≡ atom_of V (bind s.letters b.letter) test
  pub runs : (x : syntax.Quantifier) (k : Place) → scope_at k ≡ s → from V p (binds x k) ≡ from V q (wants (under (syntax.quantified x b.letter test) k))
  pub still : Still p q

abbrev pub BoundSays : Vocabulary → Scope → Progress → Progress → Result code.Bound GoalFault → Type 0
BoundSays V s p q (Ok b) = BoundRead V s p q b
BoundSays V s p q (Err x) = (y : syntax.Quantifier) (k : Place) → scope_at k ≡ s → from V p (binds y k) ≡ told x

-- a name is wanted for a bound
pub record CalledHere (r : Rest) (c : Called) : Type 0 where
  pub there : tokens_in r ≡ next (word c.name.now) c.token.place (tokens_in c.token.rest)
  pub further : length c.token.rest.bytes.now < length r.bytes.now

abbrev pub CalledSays : Vocabulary → Rest → Result Called GoalFault → Type 0
CalledSays V r (Ok c) = CalledHere r c
CalledSays V r (Err x) = (n : ℕ) (y : syntax.Quantifier) (v : ℕ) (k : Place) → run V n (bounds y v k) (tokens_in r) ≡ told x

-- F or G with its ends
pub record TimedRead (V : Vocabulary) (m : syntax.Modal) (p q : Progress) (t : Timed) : Type 0 where
  pub interval : syntax.Interval
  pub value_is : t.ends ≡ ends_of interval
  pub number : t.truth ≡ length (items p)
  pub grows : items q ≡ items p ++ node.True ∷ []
  pub count_is : q.count ≡ p.count + prefix_nodes (syntax.timed m interval)
  pub runs : (k : Place) → from V p (wants k) ≡ from V q (wants (under (syntax.timed m interval) k))
  pub further : left q < left p

abbrev pub TimedSays : Vocabulary → syntax.Modal → Progress → Progress → Result Timed GoalFault → Type 0
TimedSays V m p q (Ok t) = TimedRead V m p q t
TimedSays V m p q (Err x) = (k : Place) → from V p (wants k) ≡ told x

-- A or E with its variable and its bound
pub record QuantifiedRead (V : Vocabulary) (s : Scope) (x : syntax.Quantifier) (p q : Progress) (b : code.Bound) : Type 0 where
  pub test : syntax.Test
  pub value_is : b.atom ≡ atom_of V (bind s.letters b.letter) test
  pub nodes_same : items q ≡ items p
  pub count_is : q.count ≡ p.count + 1
  pub runs : (k : Place) → scope_at k ≡ s → from V p (wants k) ≡ from V q (wants (under (syntax.quantified x b.letter test) k))
  pub further : left q < left p

abbrev pub QuantifiedSays : Vocabulary → Scope → syntax.Quantifier → Progress → Progress → Result code.Bound GoalFault → Type 0
QuantifiedSays V s x p q (Ok b) = QuantifiedRead V s x p q b
QuantifiedSays V s x p q (Err y) = (k : Place) → scope_at k ≡ s → from V p (wants k) ≡ told y

-- a prefix in code: what it means, the nodes made as it is read, and those behind its item
module _ (V : Vocabulary) (s : Scope) where
  abbrev pub unary_meant : syntax.Unary → Prefix
  unary_meant syntax.not = prefix.Not
  unary_meant syntax.next = prefix.Next

  abbrev pub timed_meant : syntax.Modal → Ends → ℕ → Prefix
  timed_meant syntax.eventually e n = prefix.Eventually e n
  timed_meant syntax.henceforth e n = prefix.Always e n

  abbrev pub quantified_meant : syntax.Quantifier → Variable → Atom → Prefix
  quantified_meant syntax.for_all v a = prefix.ForAll v a
  quantified_meant syntax.exists v a = prefix.Exists v a

  abbrev pub meant : syntax.Prefix → ℕ → Prefix
  meant (syntax.unary u) n = unary_meant u
  meant (syntax.timed m e) n = timed_meant m (ends_of e) n
  meant (syntax.quantified x v t) n = quantified_meant x (newest s.letters) (atom_of V (bind s.letters v) t)

abbrev pub opened : syntax.Prefix → List Node
opened (syntax.unary u) = []
opened (syntax.timed m e) = node.True ∷ []
opened (syntax.quantified x v t) = []

-- the nodes made behind the item with the number i, where the first has the number n
abbrev pub closed : Prefix → ℕ → ℕ → List Node
closed prefix.Not i n = node.Not i ∷ []
closed prefix.Next i n = node.Next i ∷ []
closed (prefix.Eventually e t) i n = node.Until e t i ∷ []
closed (prefix.Always e t) i n = node.Not i ∷ node.Until e t n ∷ node.Not (n + 1) ∷ []
closed (prefix.ForAll v a) i n = node.ForAll v a i ∷ []
closed (prefix.Exists v a) i n = node.Exists v a i ∷ []

abbrev pub closing_size : Prefix → ℕ
closing_size prefix.Not = 1
closing_size prefix.Next = 1
closing_size (prefix.Eventually e t) = 1
closing_size (prefix.Always e t) = 3
closing_size (prefix.ForAll v a) = 1
closing_size (prefix.Exists v a) = 1

pub record Closed (p q : Progress) (x : Prefix) (i j : ℕ) : Type 0 where
  pub grows : items q ≡ items p ++ closed x i (length (items p))
  pub last : j + 1 ≡ length (items q)
  pub rest_same : q.rest ≡ p.rest
  pub count_same : q.count ≡ p.count

pub record PrefixRead (V : Vocabulary) (s : Scope) (p q : Progress) (o : Opening) : Type 0 where
  pub written : syntax.Prefix
  pub prefix_is : o.prefix ≡ meant V s written (length (items p))
  pub scope_is : o.scope ≡ inside s written
  pub grows : items q ≡ items p ++ opened written
  pub count_is : q.count ≡ p.count + prefix_nodes written
  pub runs : (k : Place) → scope_at k ≡ s → from V p (wants k) ≡ from V q (wants (under written k))
  pub further : left q < left p

abbrev pub PrefixSays : Vocabulary → Scope → Progress → Progress → Result Opening GoalFault → Type 0
PrefixSays V s p q (Ok o) = PrefixRead V s p q o
PrefixSays V s p q (Err x) = (k : Place) → scope_at k ≡ s → from V p (wants k) ≡ told x

-- a joint in code, behind a first formula with the number i
abbrev pub joint_meant : syntax.Joint → ℕ → ℕ → Joint
joint_meant (syntax.until e) i n = joint.Until (ends_of e) i
joint_meant syntax.implies i n = joint.Or n

abbrev pub joint_opened : syntax.Joint → ℕ → List Node
joint_opened (syntax.until e) i = []
joint_opened syntax.implies i = node.Not i ∷ []

abbrev pub joint_node : Joint → ℕ → Node
joint_node (joint.Until e i) j = node.Until e i j
joint_node (joint.Or i) j = node.Or i j

pub record JointRead (V : Vocabulary) (i : ℕ) (p q : Progress) (x : Joint) : Type 0 where
  pub written : syntax.Joint
  pub joint_is : x ≡ joint_meant written i (length (items p))
  pub grows : items q ≡ items p ++ joint_opened written i
  pub count_is : q.count ≡ p.count + joint_nodes written
  pub runs : (c : syntax.Clause) (o : Option syntax.Formula) (k : Place) → from V p (after c o (open_at k)) ≡ from V q (wants (at None None (right_of (joined_or o c) written k)))
  pub further : left q < left p

abbrev pub JointSays : Vocabulary → ℕ → Progress → Progress → Result Joint GoalFault → Type 0
JointSays V i p q (Ok x) = JointRead V i p q x
JointSays V i p q (Err x) = (c : syntax.Clause) (o : Option syntax.Formula) (k : Place) → from V p (after c o (open_at k)) ≡ told x

-- a tree's nodes were added, and as many counted; i is the root's number
pub record Made (p q : Progress) (i : ℕ) (t : Tree) : Type 0 where
  pub grows : items q ≡ items p ++ laid t (length (items p))
  pub number : i ≡ length (items p) + below t
  pub count_is : q.count ≡ p.count + size t
  pub further : left q < left p

-- an item, from a stage that depends on where it stands
pub record ItemRead (V : Vocabulary) (s : Scope) (g : Place → Stage) (p q : Progress) (i : ℕ) : Type 0 where
  pub item : syntax.Item
  pub made : Made p q i (item-tree V s item)
  pub runs : (k : Place) → scope_at k ≡ s → from V p (g k) ≡ from V q (complete item k)

abbrev pub ItemSays : Vocabulary → Scope → (Place → Stage) → Progress → Progress → Result ℕ GoalFault → Type 0
ItemSays V s g p q (Ok i) = ItemRead V s g p q i
ItemSays V s g p q (Err x) = (k : Place) → scope_at k ≡ s → from V p (g k) ≡ told x

-- behind an opening bracket
abbrev pub bracketed : Place → Stage
bracketed k = wants (at None None (open_at k))

-- the right side of an equation, behind its left side
abbrev pub EquationSays : Vocabulary → Scope → Term → Progress → Progress → Result ℕ GoalFault → Type 0
EquationSays V s t p q (Ok i) = (x : syntax.Operand) → t ≡ term_of s.letters x → ItemRead V s (λ k. equals x k) p q i
EquationSays V s t p q (Err y) = (x : syntax.Operand) (k : Place) → scope_at k ≡ s → from V p (equals x k) ≡ told y

pub record ClauseRead (V : Vocabulary) (s : Scope) (p q : Progress) (i : ℕ) : Type 0 where
  pub clause : syntax.Clause
  pub made : Made p q i (clause-tree V s clause)
  pub runs : (o : Option syntax.Formula) (f : Around) → scope_around f ≡ s → from V p (wants (at None o f)) ≡ from V q (after clause o f)
  pub no_and : head_sign (tokens q) ≡ 38 → ⊥

abbrev pub ClauseSays : Vocabulary → Scope → Progress → Progress → Result ℕ GoalFault → Type 0
ClauseSays V s p q (Ok i) = ClauseRead V s p q i
ClauseSays V s p q (Err x) = (o : Option syntax.Formula) (f : Around) → scope_around f ≡ s → from V p (wants (at None o f)) ≡ told x

pub record FormulaRead (V : Vocabulary) (s : Scope) (p q : Progress) (i : ℕ) : Type 0 where
  pub last : syntax.Clause
  pub before : Option syntax.Formula
  pub made : Made p q i (formula-tree V s (joined_or before last))
  pub runs : (f : Around) → scope_around f ≡ s → from V p (wants (at None None f)) ≡ from V q (after last before f)
  pub no_and : head_sign (tokens q) ≡ 38 → ⊥
  pub no_or : head_sign (tokens q) ≡ 124 → ⊥

abbrev pub FormulaSays : Vocabulary → Scope → Progress → Progress → Result ℕ GoalFault → Type 0
FormulaSays V s p q (Ok i) = FormulaRead V s p q i
FormulaSays V s p q (Err x) = (f : Around) → scope_around f ≡ s → from V p (wants (at None None f)) ≡ told x
