-- What each way through the formula, clause, item and bracket readers says, over plain values.
use Rattle.std.proofs.Common.{◌≡◌, ℕ, ◌+◌, ◌<◌, ◌≤◌, true, false, eqb, ltb, List, [], ◌∷◌, ◌++◌, length, Some, None, Ok, Err, vec_len, Option, Result, sym, refl, ap, ◌∙◌, subst, ap₂, arith, length-append, le-ltb, lt-ltb, ne_eqb}
use Rattle.std.proofs.lemmas.Bool.{cond-false}
use Rattle.goals.specs.declared.goal.Atom.{Atom}
use Rattle.goals.specs.declared.goal.Term.{Term}
use Rattle.goals.specs.declared.goal.Node.TheVariants as node
use Rattle.goals.specs.declared.goal_fault.GoalFault.{GoalFault}
use Rattle.goals.specs.declared.scope.Scope.{Scope}
use Rattle.goals.specs.declared.rest.Rest.{Rest}
use Rattle.goals.specs.declared.progress.Progress.{Progress}
use Rattle.goals.specs.Seen.{tokens_in}
use Rattle.goals.specs.declared.progress.Opening.{Opening}
use Rattle.goals.specs.declared.progress.Joint.{Joint}
use Rattle.goals.specs.Tokens.{word, variable, digits, mark, bad, Source, end, next, value}
use Rattle.goals.specs.Vocabulary.{Vocabulary}
use Rattle.goals.specs.Syntax as syntax
use Rattle.goals.specs.Scopes.{in_use, inside, deeper}
use Rattle.goals.specs.Conditions.{prefix_nodes, joint_nodes}
use Rattle.goals.specs.Tree.{Tree, term_of, item-tree, clause-tree, formula-tree}
use Rattle.goals.specs.Layout.{laid, below}
use Rattle.goals.specs.Reading.{Around, open_at, right_of, Place, at, under, scope_at, scope_around, alone, Stage, wants, after, equals, joined_or, complete, followed, move, fault, walk, run}
use Rattle.goals.specs.GoalFaults.{told}
use Rattle.goals.specs.Promises.{left, tokens, items, from, Passed, Added, Here, SignRead, head_sign, head_place, bracketed, TestRead, EquationSays, Closed, closing_size, meant, opened, PrefixRead, JointRead, joint_opened, joint_node, Made, ItemRead, ItemSays, ClauseRead, FormulaRead}
use Rattle.goals.proofs.Going.{ClauseNow, ClauseGoing, FormulaNow, FormulaGoing}
use Rattle.goals.proofs.Adding.{long}
use Rattle.goals.proofs.Moves.{passed-left, added-left, step, fail, overrun, sign_step}
use Rattle.goals.proofs.Prefixes.{made_leaf}
use Rattle.goals.proofs.Making.{longer, made-prefix, made-both, made-either, made_pair}

-- the same stage where only the count and the place have other names
moved : (p q : Progress) (V : Vocabulary) (g : Stage) → q.count ≡ p.count → q.rest ≡ p.rest → from V p g ≡ from V q g
moved p q V g c a = ap₂ (λ n i. run V n g (tokens_in i)) (sym c) (sym a)

-- `&`
module _ (V : Vocabulary) {q : Progress} {place : ℕ} {behind : Rest} (here : Here q (mark 38) place behind) where
  pub and-over : 128 < q.count + 1 → (c : syntax.Clause) (o : Option syntax.Formula) (f : Around) → from V q (after c o f) ≡ fault 7 place
  unfolding move
  and-over h c o f = overrun here V (after c o f) refl refl h

  pub and_step : {u : Progress} → Passed q u 1 behind → (c : syntax.Clause) (o : Option syntax.Formula) (f : Around) → from V q (after c o f) ≡ from V u (wants (at (Some c) o f))
  unfolding move
  and_step passed c o f = step here V (after c o f) refl refl passed

-- `|`
module _ (V : Vocabulary) {q : Progress} {place : ℕ} {behind : Rest} (here : Here q (mark 124) place behind) where
  pub or-over : 128 < q.count + 1 → (c : syntax.Clause) (o : Option syntax.Formula) (f : Around) → from V q (after c o f) ≡ fault 7 place
  unfolding move
  or-over h c o f = overrun here V (after c o f) refl refl h

  pub or_step : {u : Progress} → Passed q u 1 behind → (c : syntax.Clause) (o : Option syntax.Formula) (f : Around) → from V q (after c o f) ≡ from V u (wants (at None (Some (joined_or o c)) f))
  unfolding move
  or_step passed c o f = step here V (after c o f) refl refl passed

-- clauses
module _ {V : Vocabulary} {s : Scope} {p0 p q : Progress} {i j : ℕ} (r : ItemRead V s wants p0 p i) (g : ClauseGoing V s p q i j) where
  now_clause : ClauseNow V s p0 p q (syntax.one_item r.item) j
  unfolding clause-tree
  now_clause = g.carries p0 (syntax.one_item r.item) r.made

  pub clause_done : (head_sign (tokens q) ≡ 38 → ⊥) → ClauseRead V s p0 q j
  clause_done h = record { clause = now_clause.clause; made = now_clause.made; runs = λ o f e. r.runs (at None o f) e ∙ now_clause.runs o f e; no_and = h }

  pub clause_back : (x : GoalFault) → ((c : syntax.Clause) (o : Option syntax.Formula) (f : Around) → scope_around f ≡ s → from V q (after c o f) ≡ told x) → (o : Option syntax.Formula) (f : Around) → scope_around f ≡ s → from V p0 (wants (at None o f)) ≡ told x
  clause_back x h o f e = r.runs (at None o f) e ∙ now_clause.runs o f e ∙ h now_clause.clause o f e

pub clause_again : {V : Vocabulary} {s : Scope} {p q q1 q2 u : Progress} {i j b l place : ℕ} {behind : Rest} → ClauseGoing V s p q i j → Here q (mark 38) place behind → Passed q q1 1 behind → ItemRead V s wants q1 q2 b → Added q2 u (node.And j b) l → ClauseGoing V s p u i l
unfolding clause-tree
clause_again {V} {s} {p} {q} {q1} {q2} {u} {i} {j} {b} {l} g h d r a = let far : left q1 < left q = let x = h.further in let y = passed-left d in omega (arith, x, y) in record {
  carries = λ o c m.
      let now = g.carries o c m in
      record {
        clause = syntax.both now.clause r.item;
        made = made-both now.made d.nodes_same d.count_is far r.made a;
        runs = λ k f e. now.runs k f e ∙ and_step V h d now.clause k f ∙ r.runs (at (Some now.clause) k f) e ∙ moved q2 u V (after (syntax.both now.clause r.item) k f) a.count_same a.rest_same;
      };
  low = let x = g.low in let y = r.made.further in let z = added-left a in omega (arith, x, y, z, far);
}

-- formulas
module _ {V : Vocabulary} {s : Scope} {p0 p q : Progress} {i j : ℕ} (r : ClauseRead V s p0 p i) (g : FormulaGoing V s p q i j) where
  now_formula : FormulaNow V s p0 p q r.clause None j
  unfolding formula-tree
  now_formula = g.carries p0 r.clause None r.made

  pub formula_done : (head_sign (tokens q) ≡ 124 → ⊥) → FormulaRead V s p0 q j
  formula_done h = record { last = now_formula.last; before = now_formula.before; made = now_formula.made; runs = λ f e. r.runs None f e ∙ now_formula.runs f e; no_and = g.no_and; no_or = h }

  pub formula_back : (x : GoalFault) → ((c : syntax.Clause) (o : Option syntax.Formula) (f : Around) → scope_around f ≡ s → from V q (after c o f) ≡ told x) → (f : Around) → scope_around f ≡ s → from V p0 (wants (at None None f)) ≡ told x
  formula_back x h f e = r.runs None f e ∙ now_formula.runs f e ∙ h now_formula.last now_formula.before f e

pub formula_again : {V : Vocabulary} {s : Scope} {p q q1 q2 u : Progress} {i j b l place : ℕ} {behind : Rest} → FormulaGoing V s p q i j → Here q (mark 124) place behind → Passed q q1 1 behind → ClauseRead V s q1 q2 b → Added q2 u (node.Or j b) l → FormulaGoing V s p u i l
unfolding formula-tree
formula_again {V} {s} {p} {q} {q1} {q2} {u} {i} {j} {b} {l} g h d r a = let far : left q1 < left q = let x = h.further in let y = passed-left d in omega (arith, x, y) in record {
  carries = λ o c k m.
      let now = g.carries o c k m in
      record {
        last = r.clause;
        before = Some (joined_or now.before now.last);
        made = made-either now.made d.nodes_same d.count_is far r.made a;
        runs = λ f e. now.runs f e ∙ or_step V h d now.last now.before f ∙ r.runs (Some (joined_or now.before now.last)) f e ∙ moved q2 u V (after r.clause (Some (joined_or now.before now.last)) f) a.count_same a.rest_same;
      };
  no_and = λ e. r.no_and (ap (λ k. head_sign (tokens_in k)) (sym a.rest_same) ∙ e);
  low = let x = g.low in let y = r.made.further in let z = added-left a in omega (arith, x, y, z, far);
}

-- room for one node more behind a part
pub room_after : {q q1 u : Progress} {b : ℕ} {t : Tree} {n : Rest} → Passed q q1 1 n → Made q1 u b t → vec_len u.nodes < u.count
room_after {q} {q1} {u} d m =
    let f = q.fits in
    let a = long q in
    let b = ap length d.nodes_same in
    let c = d.count_is in
    let e = longer m in
    let g = m.count_is in
    let h = long u in
    omega (arith, f, a, b, c, e, g, h)

-- items without a prefix
pub true_over : (V : Vocabulary) {p : Progress} {place : ℕ} {behind : Rest} → Here p (mark 84) place behind → 128 < p.count + 1 → (k : Place) → from V p (wants k) ≡ fault 7 place
unfolding move
true_over V here h k = overrun here V (wants k) refl refl h

pub item_true : (V : Vocabulary) {p q u : Progress} {place : ℕ} {behind : Rest} {i : ℕ} (s : Scope) → Here p (mark 84) place behind → Passed p q 1 behind → Added q u node.True i → ItemRead V s wants p u i
unfolding move item-tree
item_true V {p} {q} {u} {place} {behind} {i} s here d a = record {
  item = syntax.simple syntax.truth;
  made = made_leaf p q u node.True i _ d.nodes_same d.count_is (let x = here.further in let y = passed-left d in omega (arith, x, y)) a refl refl;
  runs = λ k e. step here V (wants k) refl refl d ∙ moved q u V (complete (syntax.simple syntax.truth) k) a.count_same a.rest_same;
}

pub item-test : {V : Vocabulary} {s : Scope} {p q u : Progress} {place i : ℕ} {x : Atom} → TestRead V s 1 place p q x → Added q u (node.Test x) i → ItemRead V s wants p u i
unfolding item-tree
item-test {V} {s} {p} {q} {u} {place} {i} {x} r a = record {
  item = syntax.simple (syntax.test r.test);
  made = made_leaf p q u (node.Test x) i _ r.nodes_same r.count_is r.further a (ap (λ y. node.Test y ∷ []) (sym r.value_is)) refl;
  runs = λ k e. r.runs (alone k) e refl ∙ moved q u V (complete (syntax.simple (syntax.test r.test)) k) a.count_same a.rest_same;
}

-- an item from a stage that one free token leads to
pub item-behind : (V : Vocabulary) (s : Scope) (g h : Place → Stage) (p q u : Progress) (r : Result ℕ GoalFault) → items q ≡ items p → q.count ≡ p.count → left q < left p → ((k : Place) → scope_at k ≡ s → from V p (g k) ≡ from V q (h k)) → ItemSays V s h q u r → ItemSays V s g p u r
item-behind V s g h p q u (Ok i) n c f e r = record {
  item = r.item;
  made =
      let m = r.made in
      record {
        grows = m.grows ∙ ap₂ (λ a b. a ++ laid (item-tree V s r.item) b) n (ap length n);
        number = m.number ∙ ap (λ l. length l + below (item-tree V s r.item)) n;
        count_is = let x = m.count_is in omega (arith, x, c);
        further = let x = m.further in omega (arith, x, f);
      };
  runs = λ k d. e k d ∙ r.runs k d;
}
item-behind V s g h p q u (Err x) n c f e r = λ k d. e k d ∙ r k d

module _ (V : Vocabulary) {p : Progress} {place : ℕ} {behind : Rest} (s : Scope) where
  pub letter_fail : {v : ℕ} → Here p (variable v) place behind → in_use s.letters v ≡ false → (k : Place) → scope_at k ≡ s → from V p (wants k) ≡ fault 5 place
  unfolding move
  letter_fail {v} here h k e = fail here V (wants k) refl (ap (λ z. in_use z.letters v) e ∙ h)

  pub letter-step : {v : ℕ} {q : Progress} → Here p (variable v) place behind → in_use s.letters v ≡ true → Passed p q 0 behind → (k : Place) → scope_at k ≡ s → from V p (wants k) ≡ from V q (equals (syntax.variable v) k)
  unfolding move
  letter-step {v} here h d k e = step here V (wants k) refl (ap (λ z. in_use z.letters v) e ∙ h) d

  pub number_fail : {d : List ℕ} → Here p (digits d) place behind → ltb (value d) V.ids ≡ false → (k : Place) → from V p (wants k) ≡ fault 6 place
  unfolding move
  number_fail here h k = fail here V (wants k) refl h

  pub number_step : {d : List ℕ} {q : Progress} → Here p (digits d) place behind → ltb (value d) V.ids ≡ true → Passed p q 0 behind → (k : Place) → from V p (wants k) ≡ from V q (equals (syntax.id d) k)
  unfolding move
  number_step here h d k = step here V (wants k) refl h d

  pub open_fail : Here p (mark 40) place behind → 16 ≤ s.depth → (k : Place) → scope_at k ≡ s → from V p (wants k) ≡ fault 7 place
  unfolding move
  open_fail here h k e = fail here V (wants k) refl (ap (λ z. ltb z.depth 16) e ∙ le-ltb s.depth 16 h)

  pub open_step : {q : Progress} → Here p (mark 40) place behind → s.depth < 16 → Passed p q 0 behind → (k : Place) → scope_at k ≡ s → from V p (wants k) ≡ from V q (bracketed k)
  unfolding move
  open_step here h d k e = step here V (wants k) refl (ap (λ z. ltb z.depth 16) e ∙ lt-ltb s.depth 16 h) d

pub equation-item : (V : Vocabulary) (s : Scope) (t : Term) (x : syntax.Operand) (p q : Progress) (r : Result ℕ GoalFault) → t ≡ term_of s.letters x → EquationSays V s t p q r → ItemSays V s (λ k. equals x k) p q r
equation-item V s t x p q (Ok i) e h = h x e
equation-item V s t x p q (Err y) e h = h x

-- a fault behind a prefix is the fault of the whole
pub prefix-fault : {V : Vocabulary} {s : Scope} {p q : Progress} {o : Opening} → PrefixRead V s p q o → (x : GoalFault) →
    ((k : Place) → scope_at k ≡ o.scope → from V q (wants k) ≡ told x) → (k : Place) → scope_at k ≡ s → from V p (wants k) ≡ told x
prefix-fault r x h k e = r.runs k e ∙ h (under r.written k) (ap (λ z. inside z r.written) e ∙ sym r.scope_is)

prefix-size : (V : Vocabulary) (s : Scope) (y : syntax.Prefix) (n : ℕ) → closing_size (meant V s y n) + length (opened y) ≡ prefix_nodes y
prefix-size V s (syntax.unary syntax.not) n = refl
prefix-size V s (syntax.unary syntax.next) n = refl
prefix-size V s (syntax.timed syntax.eventually e) n = refl
prefix-size V s (syntax.timed syntax.henceforth e) n = refl
prefix-size V s (syntax.quantified syntax.for_all v t) n = refl
prefix-size V s (syntax.quantified syntax.exists v t) n = refl

pub prefix-room : {V : Vocabulary} {s : Scope} {p q u : Progress} {o : Opening} {i : ℕ} {t : Tree} → PrefixRead V s p q o → Made q u i t → vec_len u.nodes + closing_size o.prefix ≤ u.count
prefix-room {V} {s} {p} {q} {u} {o} {i} {t} r m =
    let a = ap closing_size r.prefix_is in
    let b = prefix-size V s r.written (length (items p)) in
    let c = ap length r.grows ∙ length-append (items p) (opened r.written) in
    let d = r.count_is in
    let e = longer m in
    let f = m.count_is in
    let g = p.fits in
    let h = long p in
    let k = long u in
    omega (arith, a, b, c, d, e, f, g, h, k)

pub item-prefixed : {V : Vocabulary} {s : Scope} {p q u z : Progress} {o : Opening} {i l : ℕ} → PrefixRead V s p q o → ItemRead V o.scope wants q u i → Closed u z o.prefix i l → ItemRead V s wants p z l
unfolding item-tree
item-prefixed {V} {s} {p} {q} {u} {z} {o} {i} {l} r m c = record {
  item = syntax.prefixed r.written m.item;
  made =
      made-prefix (subst (λ y. Made q u i (item-tree V y m.item)) r.scope_is m.made) r.further V s r.written
      (subst (λ y. Closed u z y i l) r.prefix_is c) r.grows r.count_is;
  runs = λ k e. r.runs k e ∙ m.runs (under r.written k) (ap (λ y. inside y r.written) e ∙ sym r.scope_is) ∙ moved u z V (complete (syntax.prefixed r.written m.item) k) c.count_same c.rest_same;
}

-- a bracket's second formula wants its closing bracket
unclosed : (V : Vocabulary) (n : ℕ) (c : syntax.Clause) (o : Option syntax.Formula) (a : syntax.Formula) (y : syntax.Joint) (k : Place) (z : Source) → (head_sign z ≡ 38 → ⊥) → (head_sign z ≡ 124 → ⊥) → (head_sign z ≡ 41 → ⊥) → run V n (after c o (right_of a y k)) z ≡ fault 4 (head_place z)
unfolding walk move
unclosed V n c o a y k (end p) h1 h2 h3 = refl
unclosed V n c o a y k (next (word b) p z) h1 h2 h3 = refl
unclosed V n c o a y k (next (variable v) p z) h1 h2 h3 = refl
unclosed V n c o a y k (next (digits b) p z) h1 h2 h3 = refl
unclosed V n c o a y k (next (mark b) p z) h1 h2 h3 =
    ap (λ x. followed true x n p (λ i g. run V i g z)) (cond-false (eqb b 38) _ _ (ne_eqb b 38 h1) ∙ cond-false (eqb b 124) _ _ (ne_eqb b 124 h2) ∙ cond-false (eqb b 41) _ _ (ne_eqb b 41 h3))
unclosed V n c o a y k (next bad p z) h1 h2 h3 = refl

-- brackets
pub first-fault : (V : Vocabulary) (s t : Scope) (p : Progress) → t ≡ deeper s → (x : GoalFault) → ((f : Around) → scope_around f ≡ t → from V p (wants (at None None f)) ≡ told x) → (k : Place) → scope_at k ≡ s → from V p (bracketed k) ≡ told x
first-fault V s t p d x h k e = h (open_at k) (ap deeper e ∙ sym d)

module _ {V : Vocabulary} {s t : Scope} {p q : Progress} {i : ℕ} (d : t ≡ deeper s) (r : FormulaRead V t p q i) where
  to_after : (k : Place) → scope_at k ≡ s → from V p (bracketed k) ≡ from V q (after r.last r.before (open_at k))
  to_after k e = r.runs (open_at k) (ap deeper e ∙ sym d)

  pub item-group : {u : Progress} {place : ℕ} {behind : Rest} → Here q (mark 41) place behind → Passed q u 0 behind → ItemRead V s bracketed p u i
  unfolding move item-tree
  item-group {u} here passed = record {
    item = syntax.group (joined_or r.before r.last);
    made =
        let m = subst (λ y. Made p q i (formula-tree V y (joined_or r.before r.last))) d r.made in
        record {
          grows = passed.nodes_same ∙ m.grows;
          number = m.number;
          count_is = let x = m.count_is in let y = passed.count_is in omega (arith, x, y);
          further = let x = m.further in let y = passed-left passed in let z = here.further in omega (arith, x, y, z);
        };
    runs = λ k e. to_after k e ∙ step here V (after r.last r.before (open_at k)) refl refl passed;
  }

  pub joint-fault : (x : GoalFault) → ((c : syntax.Clause) (o : Option syntax.Formula) (k : Place) → from V q (after c o (open_at k)) ≡ told x) → (k : Place) → scope_at k ≡ s → from V p (bracketed k) ≡ told x
  joint-fault x h k e = to_after k e ∙ h r.last r.before k

  module _ {q1 : Progress} {x : Joint} (j : JointRead V i q q1 x) where
    to_second : (k : Place) → scope_at k ≡ s → from V p (bracketed k) ≡ from V q1 (wants (at None None (right_of (joined_or r.before r.last) j.written k)))
    to_second k e = to_after k e ∙ j.runs r.last r.before k

    pub second-fault : (y : GoalFault) → ((f : Around) → scope_around f ≡ t → from V q1 (wants (at None None f)) ≡ told y) → (k : Place) → scope_at k ≡ s → from V p (bracketed k) ≡ told y
    second-fault y h k e = to_second k e ∙ h (right_of (joined_or r.before r.last) j.written k) (ap deeper e ∙ sym d)

    module _ {q2 : Progress} {l : ℕ} (m : FormulaRead V t q1 q2 l) where
      to-close : (k : Place) → scope_at k ≡ s → from V p (bracketed k) ≡ from V q2 (after m.last m.before (right_of (joined_or r.before r.last) j.written k))
      to-close k e = to_second k e ∙ m.runs (right_of (joined_or r.before r.last) j.written k) (ap deeper e ∙ sym d)

      pub close-fault : (head_sign (tokens q2) ≡ 41 → ⊥) → (k : Place) → scope_at k ≡ s → from V p (bracketed k) ≡ fault 4 (head_place (tokens q2))
      close-fault h k e = to-close k e ∙ unclosed V q2.count m.last m.before (joined_or r.before r.last) j.written k (tokens q2) m.no_and m.no_or h

      module _ {q3 : Progress} (c : SignRead q2 q3 41) where
        pub pair-room : vec_len q3.nodes < q3.count
        pair-room =
            let a = joint-size j.written in
            let b = ap length j.grows ∙ length-append (items q) (joint_opened j.written i) in
            let e = j.count_is in
            let f = longer m.made in
            let g = m.made.count_is in
            let h = q.fits in
            let k = long q in
            let n = long q3 in
            let o = ap length c.still.nodes_same in
            let u = c.still.count_same in
            omega (arith, a, b, e, f, g, h, k, n, o, u)
          where
            joint-size : (y : syntax.Joint) → 1 + length (joint_opened y i) ≡ joint_nodes y
            joint-size (syntax.until e) = refl
            joint-size syntax.implies = refl

        pub item-pair : {u : Progress} {n : ℕ} → Added q3 u (joint_node x l) n → ItemRead V s bracketed p u n
        unfolding move item-tree
        item-pair {u} {n} a = let low : left q3 ≤ left q2 = let z = c.still.further in omega (arith, z) in record {
          item = syntax.pair (joined_or r.before r.last) j.written (joined_or m.before m.last);
          made =
              made_pair (subst (λ y. Made p q i (formula-tree V y (joined_or r.before r.last))) d r.made) j
              (subst (λ y. Made q1 q2 l (formula-tree V y (joined_or m.before m.last))) d m.made)
              (record { nodes_same = c.still.nodes_same; count_same = c.still.count_same; low = low }) a;
          runs = λ k e. to-close k e ∙ sign_step c V (after m.last m.before (right_of (joined_or r.before r.last) j.written k)) refl refl
              ∙ moved q3 u V (complete (syntax.pair (joined_or r.before r.last) j.written (joined_or m.before m.last)) k) a.count_same a.rest_same;
        }
