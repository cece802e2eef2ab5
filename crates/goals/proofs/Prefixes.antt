-- How what stands before an item is read, over plain values.
use Rattle.std.proofs.Common.{◌≡◌, ℕ, ◌+◌, ◌<◌, Bool, true, false, cond, not, ◌||◌, eqb, List, [], ◌∷◌, ◌++◌, length, Some, None, Option, sym, refl, ap, ◌∙◌, ap₂, append-nil, arith, Bor, eqb-true, ne_eqb}
use mathlib.Core.Bool.{or-false}
use borrow.Author.Tests.{eqb-false}
use Rattle.std.specs.Option.{is_some}
use Rattle.std.proofs.lemmas.Bool.{cond-true, cond-false, both_ways}
use Rattle.goals.specs.declared.goal.Variable.{Variable}
use Rattle.goals.specs.declared.goal.Variable.TheVariants.{Outer, Inner}
use Rattle.goals.specs.declared.goal.Atom.{Atom}
use Rattle.goals.specs.declared.goal.Ends.{Ends}
use Rattle.goals.specs.declared.goal.Node.TheVariants as node
use Rattle.goals.specs.declared.goal_fault.GoalFault.{GoalFault}
use Rattle.goals.specs.declared.scope.Letters.{Letters}
use Rattle.goals.specs.declared.scope.Letters.TheVariants.{Free, One, Two}
use Rattle.goals.specs.declared.scope.Scope.{Scope}
use Rattle.goals.specs.declared.rest.Rest.{Rest}
use Rattle.goals.specs.declared.token.Kind.{Kind}
use Rattle.goals.specs.declared.token.Kind.TheVariants as kind
use Rattle.goals.specs.declared.token.Sign.{Sign}
use Rattle.goals.specs.declared.token.Sign.TheVariants as sign
use Rattle.goals.specs.declared.progress.Progress.{Progress}
use Rattle.goals.specs.declared.progress.Bound as code
use Rattle.goals.specs.declared.progress.Timed.{Timed}
use Rattle.goals.specs.Tokens.{variable, mark, Source, next}
use Rattle.goals.specs.Vocabulary.{Vocabulary}
use Rattle.goals.specs.Syntax as syntax
use Rattle.goals.specs.Grammar.{unary_mark, modal_mark, quantifier_mark}
use Rattle.goals.specs.Layout.{laid, below}
use Rattle.goals.specs.declared.goal.Node.{Node}
use Rattle.goals.specs.declared.goal.Term.{Term}
use Rattle.goals.specs.declared.progress.Joint.TheVariants as joint
use Rattle.goals.specs.Scopes.{variable_of, in_use, bind, newest, has_room, binding}
use Rattle.goals.specs.Conditions.{names, mentions, prefix_nodes}
use Rattle.goals.specs.Seen.{tokens_in, seen, mark_of, is_sign}
use Rattle.goals.specs.Tree.{Tree, term_of, term_by, atom_of, item-tree}
use Rattle.goals.specs.Reading.{Place, at, under, open_at, right_of, joined_or, scope_at, wants, after, equals, asks, right_side, complete, of_until, expects, opens, binds, bounds, of_modal, Opener, Asker, asker_scope, Role, bound, role_scope, may, followed, move, fault, walk, run}
use Rattle.goals.specs.GoalFaults.{told}
use Rattle.goals.specs.Promises.{left, tokens, items, from, Passed, Added, Here, SignRead, head_sign, head_place, is_bound, has_bound, test_stage, role_nodes, TestRead, EndsRead, BoundRead, TimedRead, QuantifiedRead, unary_meant, timed_meant, quantified_meant, PrefixRead, JointRead, Made, OperandRead, ItemRead}
use Rattle.goals.proofs.Moves.{passed-left, added-left, step, fail, overrun, still-then, still-passed}
use Rattle.goals.proofs.Terms.{expected, unexpected}

-- a letter in use
-- a letter is in use exactly if a variable is found for it
pub use_found : (ls : Letters) (v : ℕ) → in_use ls v ≡ is_some (variable_of ls v)
use_found Free v = refl
use_found (One a) v = pick (eqb a v)
  where
    pick : (x : Bool) → x ≡ is_some (cond x (Some Outer) None)
    pick true = refl
    pick false = refl
use_found (Two a b) v = pick (eqb a v) (eqb b v)
  where
    pick : (x y : Bool) → (x || y) ≡ is_some (cond x (Some Outer) (cond y (Some Inner) None))
    pick true y = refl
    pick false true = refl
    pick false false = refl

-- a bound has its variable exactly if one of its terms stands for it
module _ (ls : Letters) (v : ℕ) (room : has_room ls ≡ true) (fresh : in_use ls v ≡ false) where
  operand-names : (x : syntax.Operand) → names v x ≡ is_bound (newest ls) (term_of (bind ls v) x)
  operand-names (syntax.id d) = refl
  operand-names (syntax.variable u) = go ls room fresh
    where
      first : (b : Bool) → b ≡ is_bound Outer (term_by (cond b (Some Outer) None))
      first true = refl
      first false = refl

      second : (a : ℕ) (x y : Bool) → eqb a u ≡ x → eqb v u ≡ y → eqb a v ≡ false → y ≡ is_bound Inner (term_by (cond x (Some Outer) (cond y (Some Inner) None)))
      second a true true p q r = absurd (eqb-false a v r (eqb-true a u p ∙ sym (eqb-true v u q)))
      second a true false p q r = refl
      second a false true p q r = refl
      second a false false p q r = refl

      go : (l : Letters) → has_room l ≡ true → in_use l v ≡ false → eqb v u ≡ is_bound (newest l) (term_by (variable_of (bind l v) u))
      go Free h f = first (eqb v u)
      go (One a) h f = second a (eqb a u) (eqb v u) refl refl f
      go (Two a b) h f = absurd (both_ways false refl h)

  pub test-mentions : (V : Vocabulary) (t : syntax.Test) → mentions v t ≡ has_bound (newest ls) (atom_of V (bind ls v) t)
  test-mentions V (syntax.bare b) = refl
  test-mentions V (syntax.of_one b x) = operand-names x ∙ sym (or-false (is_bound (newest ls) (term_of (bind ls v) x)))
  test-mentions V (syntax.of_two b x y) = ap₂ (λ i j. i || j) (operand-names x) (operand-names y)

-- a quantifier's variable
module _ (V : Vocabulary) {p : Progress} {v place : ℕ} {behind : Rest} (here : Here p (variable v) place behind) (s : Scope) where
  fresh_at : (k : Place) (b : Bool) → scope_at k ≡ s → in_use s.letters v ≡ b → not (in_use (scope_at k).letters v) ≡ not b
  fresh_at k b e h = ap (λ z. not (in_use z.letters v)) e ∙ ap not h

  pub binds_fail : in_use s.letters v ≡ true → (x : syntax.Quantifier) (k : Place) → scope_at k ≡ s → from V p (binds x k) ≡ fault 5 place
  unfolding move
  binds_fail h x k e = fail here V (binds x k) refl (fresh_at k true e h)

  module _ {q : Progress} (passed : Passed p q 0 behind) (fresh : in_use s.letters v ≡ false) where
    to_colon : (x : syntax.Quantifier) (k : Place) → scope_at k ≡ s → from V p (binds x k) ≡ from V q (expects 58 (bounds x v k))
    unfolding move
    to_colon x k e = step here V (binds x k) refl (fresh_at k false e fresh) passed

    pub colon_fault : (head_sign (tokens q) ≡ 58 → ⊥) → (x : syntax.Quantifier) (k : Place) → scope_at k ≡ s → from V p (binds x k) ≡ fault 4 (head_place (tokens q))
    colon_fault h x k e = to_colon x k e ∙ unexpected V q 58 (bounds x v k) h

    module _ {u : Progress} (colon : SignRead q u 58) where
      to-name : (x : syntax.Quantifier) (k : Place) → scope_at k ≡ s → from V p (binds x k) ≡ from V u (bounds x v k)
      to-name x k e = to_colon x k e ∙ expected V colon (bounds x v k)

      pub name-fault : (y : GoalFault) → ((n : ℕ) (x : syntax.Quantifier) (i : ℕ) (k : Place) → run V n (bounds x i k) (tokens u) ≡ told y) → (x : syntax.Quantifier) (k : Place) → scope_at k ≡ s → from V p (binds x k) ≡ told y
      name-fault y h x k e = to-name x k e ∙ h u.count x v k

      pub test-fault : (y : GoalFault) → ((r : Role) → role_scope r ≡ binding s v → role_nodes r ≡ 0 → from V u (test_stage r) ≡ told y) → (x : syntax.Quantifier) (k : Place) → scope_at k ≡ s → from V p (binds x k) ≡ told y
      test-fault y h x k e = to-name x k e ∙ h (bound x v k) (ap (λ z. binding z v) e) refl

      module _ {w : Progress} {i : ℕ} {a : Atom} (r : TestRead V (binding s v) 0 i u w a) (room : has_room s.letters ≡ true) where
        to_end : (x : syntax.Quantifier) (k : Place) → scope_at k ≡ s → from V p (binds x k) ≡ cond (mentions v r.test) (from V w (wants (under (syntax.quantified x v r.test) k))) (fault 5 i)
        to_end x k e = to-name x k e ∙ r.runs (bound x v k) (ap (λ z. binding z v) e) refl

        shown : mentions v r.test ≡ has_bound (newest s.letters) a
        shown = test-mentions s.letters v room fresh V r.test ∙ ap (has_bound (newest s.letters)) (sym r.value_is)

        pub lacking : has_bound (newest s.letters) a ≡ false → (x : syntax.Quantifier) (k : Place) → scope_at k ≡ s → from V p (binds x k) ≡ fault 5 i
        lacking h x k e = to_end x k e ∙ cond-false (mentions v r.test) _ _ (shown ∙ h)

        pub bound-read : has_bound (newest s.letters) a ≡ true → BoundRead V s p w (record { letter = v; atom = a })
        bound-read h = record {
          test = r.test;
          value_is = r.value_is;
          runs = λ x k e. to_end x k e ∙ cond-true (mentions v r.test) _ _ (shown ∙ h);
          still =
              let one = still-then (still-passed here passed) colon.still in
              record {
                nodes_same = r.nodes_same ∙ one.nodes_same;
                count_same = let i = r.count_is in let j = one.count_same in omega (arith, i, j);
                further = let i = r.further in let j = one.further in omega (arith, i, j);
              };
        }

-- F and G
modal_row : (V : Vocabulary) (m : syntax.Modal) (k : Place) (place : ℕ) → move V (wants k) (mark (modal_mark m)) place ≡ may true 4 place (prefix_nodes (syntax.timed m syntax.unwritten)) (opens (of_modal m k))
unfolding move
modal_row V syntax.eventually k place = refl
modal_row V syntax.henceforth k place = refl

module _ (V : Vocabulary) {p : Progress} (m : syntax.Modal) {place : ℕ} {behind : Rest} (here : Here p (mark (modal_mark m)) place behind) where
  pub timed-over : (nodes : ℕ) → prefix_nodes (syntax.timed m syntax.unwritten) ≡ nodes → 128 < p.count + nodes → (k : Place) → from V p (wants k) ≡ fault 7 place
  timed-over nodes e h k = overrun here V (wants k) (modal_row V m k place) refl (omega (arith, e, h))

  module _ {q u : Progress} {nodes i : ℕ} (e : prefix_nodes (syntax.timed m syntax.unwritten) ≡ nodes) (passed : Passed p q nodes behind) (added : Added q u node.True i) where
    to_opens : (k : Place) → from V p (wants k) ≡ from V u (opens (of_modal m k))
    to_opens k =
        step here V (wants k) (modal_row V m k place ∙ ap (λ n. may true 4 place n (opens (of_modal m k))) e) refl passed
        ∙ ap₂ (λ n a. run V n (opens (of_modal m k)) (tokens_in a)) (sym added.count_same) (sym added.rest_same)

    pub timed-fault : (y : GoalFault) → ((o : Opener) → from V u (opens o) ≡ told y) → (k : Place) → from V p (wants k) ≡ told y
    timed-fault y h k = to_opens k ∙ h (of_modal m k)

    pub timed-read : {z : Progress} {d : Ends} → EndsRead V u z d → TimedRead V m p z (record { ends = d; truth = i })
    timed-read {z} {d} r = record {
      interval = r.interval;
      value_is = r.value_is;
      number = added.number ∙ ap length passed.nodes_same;
      grows = r.nodes_same ∙ added.grows ∙ ap (λ l. l ++ node.True ∷ []) passed.nodes_same;
      count_is = let a = r.count_same in let b = added.count_same in let c = passed.count_is in let f : prefix_nodes (syntax.timed m r.interval) ≡ nodes = same_nodes m r.interval ∙ e in omega (arith, a, b, c, f);
      runs = λ k. to_opens k ∙ r.runs (of_modal m k);
      further = let a = r.low in let b = added-left added in let c = passed-left passed in let f = here.further in omega (arith, a, b, c, f);
    }
      where
        same_nodes : (x : syntax.Modal) (j : syntax.Interval) → prefix_nodes (syntax.timed x j) ≡ prefix_nodes (syntax.timed x syntax.unwritten)
        same_nodes syntax.eventually j = refl
        same_nodes syntax.henceforth j = refl

-- A and E
quantifier_row : (V : Vocabulary) (x : syntax.Quantifier) (k : Place) (place : ℕ) → move V (wants k) (mark (quantifier_mark x)) place ≡ may (has_room (scope_at k).letters) 7 place 1 (binds x k)
unfolding move
quantifier_row V syntax.for_all k place = refl
quantifier_row V syntax.exists k place = refl

module _ (V : Vocabulary) {p : Progress} (x : syntax.Quantifier) {place : ℕ} {behind : Rest} (here : Here p (mark (quantifier_mark x)) place behind) (s : Scope) where
  pub crowded : has_room s.letters ≡ false → (k : Place) → scope_at k ≡ s → from V p (wants k) ≡ fault 7 place
  crowded h k e = fail here V (wants k) (quantifier_row V x k place) (ap (λ z. has_room z.letters) e ∙ h)

  module _ (room : has_room s.letters ≡ true) where
    pub quantified-over : 128 < p.count + 1 → (k : Place) → scope_at k ≡ s → from V p (wants k) ≡ fault 7 place
    quantified-over h k e = overrun here V (wants k) (quantifier_row V x k place) (ap (λ z. has_room z.letters) e ∙ room) h

    module _ {q : Progress} (passed : Passed p q 1 behind) where
      to-binds : (k : Place) → scope_at k ≡ s → from V p (wants k) ≡ from V q (binds x k)
      to-binds k e = step here V (wants k) (quantifier_row V x k place) (ap (λ z. has_room z.letters) e ∙ room) passed

      pub quantified-fault : (y : GoalFault) → ((i : syntax.Quantifier) (k : Place) → scope_at k ≡ s → from V q (binds i k) ≡ told y) → (k : Place) → scope_at k ≡ s → from V p (wants k) ≡ told y
      quantified-fault y h k e = to-binds k e ∙ h x k e

      pub quantified-read : {z : Progress} {b : code.Bound} → BoundRead V s q z b → QuantifiedRead V s x p z b
      quantified-read r = record {
        test = r.test;
        value_is = r.value_is;
        nodes_same = r.still.nodes_same ∙ passed.nodes_same;
        count_is = let a = r.still.count_same in let b = passed.count_is in omega (arith, a, b);
        runs = λ k e. to-binds k e ∙ r.runs x k e;
        further = let a = r.still.further in let b = passed-left passed in let c = here.further in omega (arith, a, b, c);
      }

-- a token that is no name, and one that is no variable
pub no_name : (V : Vocabulary) (n : ℕ) (x : syntax.Quantifier) (i : ℕ) (k : Place) (t : Kind) (p : ℕ) (s : Source) → ((b : Bor (List ℕ)) → t ≡ kind.Name b → ⊥) → run V n (bounds x i k) (seen t p s) ≡ fault 4 p
unfolding walk move
no_name V n x i k (kind.Name b) p s h = absurd (h b refl)
no_name V n x i k (kind.Variable v) p s h = refl
no_name V n x i k (kind.Number d) p s h = refl
no_name V n x i k (kind.Sign g) p s h = refl
no_name V n x i k kind.Bad p s h = refl
no_name V n x i k kind.End p s h = refl

pub no_variable : (V : Vocabulary) (n : ℕ) (x : syntax.Quantifier) (k : Place) (t : Kind) (p : ℕ) (s : Source) → ((v : ℕ) → t ≡ kind.Variable v → ⊥) → run V n (binds x k) (seen t p s) ≡ fault 4 p
unfolding walk move
no_variable V n x k (kind.Name b) p s h = refl
no_variable V n x k (kind.Variable v) p s h = absurd (h v refl)
no_variable V n x k (kind.Number d) p s h = refl
no_variable V n x k (kind.Sign g) p s h = refl
no_variable V n x k kind.Bad p s h = refl
no_variable V n x k kind.End p s h = refl

-- a token that begins no item
pub no_prefix : (V : Vocabulary) (n : ℕ) (k : Place) (g : Sign) (p : ℕ) (s : Source) → (g ≡ sign.True → ⊥) → (g ≡ sign.Open → ⊥) → (g ≡ sign.Not → ⊥) → (g ≡ sign.Next → ⊥) → (g ≡ sign.Eventually → ⊥) → (g ≡ sign.Always → ⊥) → (g ≡ sign.ForAll → ⊥) → (g ≡ sign.Exists → ⊥) → run V n (wants k) (next (mark (mark_of g)) p s) ≡ fault 4 p
unfolding walk move
no_prefix V n k sign.True p s a1 a2 a3 a4 a5 a6 a7 a8 = absurd (a1 refl)
no_prefix V n k sign.Not p s a1 a2 a3 a4 a5 a6 a7 a8 = absurd (a3 refl)
no_prefix V n k sign.Next p s a1 a2 a3 a4 a5 a6 a7 a8 = absurd (a4 refl)
no_prefix V n k sign.Eventually p s a1 a2 a3 a4 a5 a6 a7 a8 = absurd (a5 refl)
no_prefix V n k sign.Always p s a1 a2 a3 a4 a5 a6 a7 a8 = absurd (a6 refl)
no_prefix V n k sign.ForAll p s a1 a2 a3 a4 a5 a6 a7 a8 = absurd (a7 refl)
no_prefix V n k sign.Exists p s a1 a2 a3 a4 a5 a6 a7 a8 = absurd (a8 refl)
no_prefix V n k sign.Open p s a1 a2 a3 a4 a5 a6 a7 a8 = absurd (a2 refl)
no_prefix V n k sign.Close p s a1 a2 a3 a4 a5 a6 a7 a8 = refl
no_prefix V n k sign.OpenEnds p s a1 a2 a3 a4 a5 a6 a7 a8 = refl
no_prefix V n k sign.CloseEnds p s a1 a2 a3 a4 a5 a6 a7 a8 = refl
no_prefix V n k sign.Comma p s a1 a2 a3 a4 a5 a6 a7 a8 = refl
no_prefix V n k sign.Star p s a1 a2 a3 a4 a5 a6 a7 a8 = refl
no_prefix V n k sign.Colon p s a1 a2 a3 a4 a5 a6 a7 a8 = refl
no_prefix V n k sign.Equal p s a1 a2 a3 a4 a5 a6 a7 a8 = refl
no_prefix V n k sign.And p s a1 a2 a3 a4 a5 a6 a7 a8 = refl
no_prefix V n k sign.Or p s a1 a2 a3 a4 a5 a6 a7 a8 = refl
no_prefix V n k sign.Until p s a1 a2 a3 a4 a5 a6 a7 a8 = refl
no_prefix V n k sign.Implies p s a1 a2 a3 a4 a5 a6 a7 a8 = refl

pub no_item : (V : Vocabulary) (n : ℕ) (k : Place) (t : Kind) (p : ℕ) (s : Source) → ((b : Bor (List ℕ)) → t ≡ kind.Name b → ⊥) → ((v : ℕ) → t ≡ kind.Variable v → ⊥) → ((d : Bor (List ℕ)) → t ≡ kind.Number d → ⊥) → ((g : Sign) → t ≡ kind.Sign g → ⊥) → run V n (wants k) (seen t p s) ≡ fault 4 p
unfolding walk move
no_item V n k (kind.Name b) p s a1 a2 a3 a4 = absurd (a1 b refl)
no_item V n k (kind.Variable v) p s a1 a2 a3 a4 = absurd (a2 v refl)
no_item V n k (kind.Number d) p s a1 a2 a3 a4 = absurd (a3 d refl)
no_item V n k (kind.Sign g) p s a1 a2 a3 a4 = absurd (a4 g refl)
no_item V n k kind.Bad p s a1 a2 a3 a4 = refl
no_item V n k kind.End p s a1 a2 a3 a4 = refl

-- a token that joins nothing to a bracket's first formula
pub no_joint : (V : Vocabulary) (n : ℕ) (c : syntax.Clause) (o : Option syntax.Formula) (k : Place) (t : Kind) (p : ℕ) (s : Source) → (head_sign (seen t p s) ≡ 38 → ⊥) → (head_sign (seen t p s) ≡ 124 → ⊥) → (head_sign (seen t p s) ≡ 41 → ⊥) → is_sign t sign.Until ≡ false → is_sign t sign.Implies ≡ false → run V n (after c o (open_at k)) (seen t p s) ≡ fault 4 p
unfolding walk move
no_joint V n c o k (kind.Name b) p s h1 h2 h3 h4 h5 = refl
no_joint V n c o k (kind.Variable v) p s h1 h2 h3 h4 h5 = refl
no_joint V n c o k (kind.Number d) p s h1 h2 h3 h4 h5 = refl
no_joint V n c o k (kind.Sign g) p s h1 h2 h3 h4 h5 =
    let b = mark_of g in
    ap (λ x. followed true x n p (λ i h. run V i h s))
    (cond-false (eqb b 38) _ _ (ne_eqb b 38 h1) ∙ cond-false (eqb b 124) _ _ (ne_eqb b 124 h2) ∙ cond-false (eqb b 41) _ _ (ne_eqb b 41 h3) ∙ cond-false (eqb b 85) _ _ h4 ∙ cond-false (eqb b 62) _ _ h5)
no_joint V n c o k kind.Bad p s h1 h2 h3 h4 h5 = refl
no_joint V n c o k kind.End p s h1 h2 h3 h4 h5 = refl

pub no_equation : (V : Vocabulary) (n : ℕ) (x : syntax.Operand) (k : Place) (t : Kind) (p : ℕ) (s : Source) → is_sign t sign.Equal ≡ false → run V n (equals x k) (seen t p s) ≡ fault 4 p
unfolding walk move
no_equation V n x k (kind.Name b) p s h = refl
no_equation V n x k (kind.Variable v) p s h = refl
no_equation V n x k (kind.Number d) p s h = refl
no_equation V n x k (kind.Sign g) p s h = ap (λ y. followed true y n p (λ i h. run V i h s)) (cond-false (eqb (mark_of g) 61) _ _ h)
no_equation V n x k kind.Bad p s h = refl
no_equation V n x k kind.End p s h = refl

-- ! and X
unary_row : (V : Vocabulary) (u : syntax.Unary) (k : Place) (place : ℕ) → move V (wants k) (mark (unary_mark u)) place ≡ may true 4 place 1 (wants (under (syntax.unary u) k))
unfolding move
unary_row V syntax.not k place = refl
unary_row V syntax.next k place = refl

module _ (V : Vocabulary) {p : Progress} (u : syntax.Unary) {place : ℕ} {behind : Rest} (here : Here p (mark (unary_mark u)) place behind) where
  pub unary-over : 128 < p.count + 1 → (k : Place) → from V p (wants k) ≡ fault 7 place
  unary-over h k = overrun here V (wants k) (unary_row V u k place) refl h

  pub unary_read : {q : Progress} (s : Scope) → Passed p q 1 behind → PrefixRead V s p q (record { prefix = unary_meant V s u; scope = s })
  unary_read s passed = record {
    written = syntax.unary u;
    prefix_is = refl;
    scope_is = refl;
    grows = passed.nodes_same ∙ sym (append-nil (items p));
    count_is = passed.count_is;
    runs = λ k e. step here V (wants k) (unary_row V u k place) refl passed;
    further = let a = here.further in let b = passed-left passed in omega (arith, a, b);
  }

pub timed-prefix : {V : Vocabulary} {m : syntax.Modal} {p q : Progress} {t : Timed} (s : Scope) → TimedRead V m p q t → PrefixRead V s p q (record { prefix = timed_meant V s m t.ends t.truth; scope = s })
timed-prefix {V} {m} {p} {q} {t} s r = record {
  written = syntax.timed m r.interval;
  prefix_is = ap₂ (timed_meant V s m) r.value_is r.number;
  scope_is = refl;
  grows = r.grows;
  count_is = r.count_is;
  runs = λ k e. r.runs k;
  further = r.further;
}

pub quantified-prefix : {V : Vocabulary} {s : Scope} {x : syntax.Quantifier} {p q : Progress} {b : code.Bound} (v : Variable) (t : Scope) → v ≡ newest s.letters → t ≡ binding s b.letter → QuantifiedRead V s x p q b → PrefixRead V s p q (record { prefix = quantified_meant V s x v b.atom; scope = t })
quantified-prefix {V} {s} {x} {p} {q} {b} v t e d r = record {
  written = syntax.quantified x b.letter r.test;
  prefix_is = ap₂ (quantified_meant V s x) e r.value_is;
  scope_is = d;
  grows = r.nodes_same ∙ sym (append-nil (items p));
  count_is = r.count_is;
  runs = r.runs;
  further = r.further;
}

-- U and >
module _ (V : Vocabulary) {p : Progress} {place : ℕ} {behind : Rest} (here : Here p (mark 85) place behind) where
  pub until-over : 128 < p.count + 1 → (c : syntax.Clause) (o : Option syntax.Formula) (k : Place) → from V p (after c o (open_at k)) ≡ fault 7 place
  unfolding move
  until-over h c o k = overrun here V (after c o (open_at k)) refl refl h

  module _ {q : Progress} (passed : Passed p q 1 behind) where
    until-step : (c : syntax.Clause) (o : Option syntax.Formula) (k : Place) → from V p (after c o (open_at k)) ≡ from V q (opens (of_until (joined_or o c) k))
    unfolding move
    until-step c o k = step here V (after c o (open_at k)) refl refl passed

    pub until-fault : (y : GoalFault) → ((m : Opener) → from V q (opens m) ≡ told y) → (c : syntax.Clause) (o : Option syntax.Formula) (k : Place) → from V p (after c o (open_at k)) ≡ told y
    until-fault y h c o k = until-step c o k ∙ h (of_until (joined_or o c) k)

    pub until-read : {u : Progress} {e : Ends} (i : ℕ) → EndsRead V q u e → JointRead V i p u (joint.Until e i)
    until-read i r = record {
      written = syntax.until r.interval;
      joint_is = ap (λ e. joint.Until e i) r.value_is;
      grows = r.nodes_same ∙ passed.nodes_same ∙ sym (append-nil (items p));
      count_is = let a = r.count_same in let b = passed.count_is in omega (arith, a, b);
      runs = λ c o k. until-step c o k ∙ r.runs (of_until (joined_or o c) k);
      further = let a = r.low in let b = passed-left passed in let d = here.further in omega (arith, a, b, d);
    }

module _ (V : Vocabulary) {p : Progress} {place : ℕ} {behind : Rest} (here : Here p (mark 62) place behind) where
  pub implies-over : 128 < p.count + 2 → (c : syntax.Clause) (o : Option syntax.Formula) (k : Place) → from V p (after c o (open_at k)) ≡ fault 7 place
  unfolding move
  implies-over h c o k = overrun here V (after c o (open_at k)) refl refl h

  pub implies-read : {q u : Progress} {i j : ℕ} → Passed p q 2 behind → Added q u (node.Not i) j → JointRead V i p u (joint.Or j)
  unfolding move
  implies-read {q} {u} {i} {j} passed added = record {
    written = syntax.implies;
    joint_is = ap joint.Or (added.number ∙ ap length passed.nodes_same);
    grows = added.grows ∙ ap (λ l. l ++ node.Not i ∷ []) passed.nodes_same;
    count_is = added.count_same ∙ passed.count_is;
    runs = λ c o k. step here V (after c o (open_at k)) refl refl passed
        ∙ ap₂ (λ n a. run V n (wants (at None None (right_of (joined_or o c) syntax.implies k))) (tokens_in a)) (sym added.count_same) (sym added.rest_same);
    further = let a = added-left added in let b = passed-left passed in let d = here.further in omega (arith, a, b, d);
  }

-- a node without parts
pub made_leaf : (p q u : Progress) (n : Node) (i : ℕ) (t : Tree) → items q ≡ items p → q.count ≡ p.count + 1 → left q < left p → Added q u n i → laid t (length (items p)) ≡ n ∷ [] → below t ≡ 0 → Made p u i t
made_leaf p q u n i t same count far added e b = record {
  grows = added.grows ∙ ap₂ (λ l m. l ++ m) same (sym e);
  number = let a = added.number ∙ ap length same in omega (arith, a, b);
  count_is = let a = added.count_same in omega (arith, a, b, count);
  further = let a = added-left added in omega (arith, a, far);
}

-- an equation
module _ (V : Vocabulary) {p : Progress} {place : ℕ} {behind : Rest} (here : Here p (mark 61) place behind) where
  pub equation-over : 128 < p.count + 1 → (x : syntax.Operand) (k : Place) → from V p (equals x k) ≡ fault 7 place
  unfolding move
  equation-over h x k = overrun here V (equals x k) refl refl h

  module _ {q : Progress} (passed : Passed p q 1 behind) where
    equation-step : (x : syntax.Operand) (k : Place) → from V p (equals x k) ≡ from V q (asks (right_side x k))
    unfolding move
    equation-step x k = step here V (equals x k) refl refl passed

    pub equation-fault : (y : GoalFault) (s : Scope) → ((a : Asker) → asker_scope a ≡ s → from V q (asks a) ≡ told y) → (x : syntax.Operand) (k : Place) → scope_at k ≡ s → from V p (equals x k) ≡ told y
    equation-fault y s h x k e = equation-step x k ∙ h (right_side x k) e

    pub equation-read : {u z : Progress} {s : Scope} {t l : Term} {i : ℕ} → OperandRead V s q u t → Added u z (node.Equal l t) i → (x : syntax.Operand) → l ≡ term_of s.letters x → ItemRead V s (λ k. equals x k) p z i
    unfolding item-tree
    equation-read {u} {z} {s} {t} {l} {i} r added x e = record {
      item = syntax.simple (syntax.equal x r.operand);
      made =
          made_leaf p u z (node.Equal l t) i _ (r.still.nodes_same ∙ passed.nodes_same)
          (let a = r.still.count_same in let b = passed.count_is in omega (arith, a, b))
          (let a = r.still.further in let b = passed-left passed in let d = here.further in omega (arith, a, b, d)) added
          (ap₂ (λ a b. node.Equal a b ∷ []) (sym e) (sym r.value_is)) refl;
      runs = λ k d. equation-step x k ∙ r.runs (right_side x k) d
          ∙ ap₂ (λ n a. run V n (complete (syntax.simple (syntax.equal x r.operand)) k) (tokens_in a)) (sym added.count_same) (sym added.rest_same);
    }
