-- Along a derivation the reading goes on exactly as long as the conditions hold and the nodes are few; else it stops with 5, 6 or 7.
-- By the grammar alone it always goes on.
use Rattle.std.proofs.Common.{◌≡◌, ℕ, ◌+◌, ◌<◌, ◌≤◌, Bool, true, false, not, ◌&&◌, ltb, leb, ◌⊎◌, List, Some, None, Option, sym, refl, ap, ◌∙◌, subst, ap₂, inl, inr, ⊎_elim, add-zero, add_assoc, arith, le-leb}
use mathlib.Core.Bool.{and-true, and_assoc}
use borrow.Author.Tests.{lt-leb}
use Rattle.std.proofs.lemmas.Bool.{cases_lt, and_parts, and_from, both_ways, cond-true, cond-false}
use Rattle.goals.specs.Tokens as token
use Rattle.goals.specs.Tokens.{Tok, word, digits, mark, Source, end, next}
use Rattle.goals.specs.Vocabulary.{Vocabulary, Places, none, one, two, is_known, places}
use Rattle.goals.specs.Syntax as syntax
use Rattle.goals.specs.Grammar.{operand_token, unary_mark, modal_mark, quantifier_mark, IsInterval, is_unwritten, is_from_to, is_from_on, IsTest, is_bare, is_of_one, is_of_two, IsSimple, is_truth, is_test, is_equal, IsPrefix, is_unary, is_timed, is_quantified, IsJoint, is_until, is_implies, IsFormula, is-clause, is-either, IsClause, is-item, is-both, IsItem, is-simple, is-prefixed, is-group, is-pair}
use Rattle.goals.specs.Conditions.{known_operand, known_test, known_simple, known_prefix, known-formula, known-clause, known-item, ranged_operand, ranged_test, ranged_interval, ranged_simple, ranged_prefix, ranged_joint, ranged-formula, ranged-clause, ranged-item, shallow_prefix, shallow-formula, shallow-clause, shallow-item, prefix_nodes, joint_nodes, formula_nodes, clause_nodes, item_nodes}
use Rattle.goals.specs.Scopes.{in_use, has_room}
use Rattle.goals.specs.Reading.{Around, open_at, right_of, Place, at, under, scope_at, scope_around, Role, alone, bound, role_scope, role_holds, Asker, right_side, argument, asker_scope, only, first, second, Opener, of_modal, of_until, resume, Stage, wants, after, expects, equals, asks, closes, binds, bounds, opens, lower, upper, joined_or, complete, tested, given, may, named, move, Outcome, fault, followed, walk}
use Rattle.goals.specs.Promises.{head_sign, test_stage, role_nodes}
use Rattle.goals.proofs.Endings.{no_ends}

abbrev pub Faulted : Outcome → Type 0
Faulted o = (c : ℕ) × (p : ℕ) × (o ≡ fault c p) × (4 < c)

-- either a fact holds and the reading goes on, or it doesn't and the reading stops
abbrev pub Goes : Type 0 → Outcome → Outcome → Type 0
Goes P o u = (P × (o ≡ u)) ⊎ ((P → ⊥) × Faulted o)

goes_as : {P Q : Type 0} {o u : Outcome} → (P → Q) → (Q → P) → Goes P o u → Goes Q o u
goes_as f g h = ⊎_elim (λ x. inl (f x.0, x.1)) (λ x. inr ((λ q. x.0 (g q)), x.1)) h

abbrev pub Meets : Bool → Bool → Bool → Bool → ℕ → ℕ → Type 0
Meets strict k r h n m = strict ≡ true → (k ≡ true) × (r ≡ true) × (h ≡ true) × (n + m ≤ 128)

abbrev Passes : Bool → Bool → ℕ → ℕ → Type 0
Passes strict b n m = strict ≡ true → (b ≡ true) × (n + m ≤ 128)

module _ (V : Vocabulary) (strict : Bool) where
  -- the words, the numbers and the depths are as they should be, and the nodes are few
  pub record Reads (k r h : Bool) (n m : ℕ) (o : Outcome) (g : Stage) (s : Source) : Type 0 where
    pub goes : Goes (Meets strict k r h n m) o (walk V strict (n + m) g s)

  -- one token
  token_goes : (g : Stage) (x : Tok) (p : ℕ) (s : Source) (b : Bool) (c y m : ℕ) (h : Stage) (n : ℕ) → move V g x p ≡ may b c y m h → (b ≡ false → 4 < c) → Goes (Passes strict b n m) (walk V strict n g (next x p s)) (walk V strict (n + m) h s)
  unfolding walk
  token_goes g x p s b c y m h n e d = pick strict b refl d
    where
      shown : (t : Bool) → walk V t n g (next x p s) ≡ followed t (may b c y m h) n p (λ i j. walk V t i j s)
      shown t = ap (λ v. followed t v n p (λ i j. walk V t i j s)) e

      pick : (t u : Bool) → b ≡ u → (u ≡ false → 4 < c) → Goes (t ≡ true → (u ≡ true) × (n + m ≤ 128)) (walk V t n g (next x p s)) (walk V t (n + m) h s)
      pick false u q f = inl ((λ z. absurd (both_ways false refl z)), shown false)
      pick true true q f =
          ⊎_elim
          (λ l. inl ((λ z. (refl, omega (arith, l))), shown true ∙ cond-true b _ _ q ∙ cond-true (leb (n + m) 128) _ _ (le-leb (n + m) 128 (omega (arith, l)))))
          (λ l. inr ((λ z. let w = z refl in let v = w.1 in omega (arith, l, v)), (7, p, shown true ∙ cond-true b _ _ q ∙ cond-false (leb (n + m) 128) _ _ (lt-leb (n + m) 128 (omega (arith, l))), omega arith))) (cases_lt (n + m) 129)
      pick true false q f = inr ((λ z. both_ways false refl (z refl).0), (c, y, shown true ∙ cond-false b _ _ q, f refl))

  module _ (g : Stage) (x : Tok) (p : ℕ) (s : Source) where
    free : (m : ℕ) (h : Stage) (n : ℕ) → move V g x p ≡ may true 4 p m h → Reads true true true n m (walk V strict n g (next x p s)) h s
    free m h n e = record { goes = goes_as (λ f z. let w = f z in (refl, refl, refl, w.1)) (λ f z. let w = f z in (refl, w.3)) (token_goes g x p s true 4 p m h n e (λ z. absurd (both_ways true z refl))) }

    five : (b : Bool) (y m : ℕ) (h : Stage) (n : ℕ) → move V g x p ≡ may b 5 y m h → Reads b true true n m (walk V strict n g (next x p s)) h s
    five b y m h n e = record { goes = goes_as (λ f z. let w = f z in (w.0, refl, refl, w.1)) (λ f z. let w = f z in (w.0, w.3)) (token_goes g x p s b 5 y m h n e (λ z. omega arith)) }

    six : (b : Bool) (y m : ℕ) (h : Stage) (n : ℕ) → move V g x p ≡ may b 6 y m h → Reads true b true n m (walk V strict n g (next x p s)) h s
    six b y m h n e = record { goes = goes_as (λ f z. let w = f z in (refl, w.0, refl, w.1)) (λ f z. let w = f z in (w.1, w.3)) (token_goes g x p s b 6 y m h n e (λ z. omega arith)) }

    seven : (b : Bool) (y m : ℕ) (h : Stage) (n : ℕ) → move V g x p ≡ may b 7 y m h → Reads true true b n m (walk V strict n g (next x p s)) h s
    seven b y m h n e = record { goes = goes_as (λ f z. let w = f z in (refl, refl, w.0, w.1)) (λ f z. let w = f z in (w.2, w.3)) (token_goes g x p s b 7 y m h n e (λ z. omega arith)) }

  -- one after the other
  follow : {k1 r1 h1 k2 r2 h2 : Bool} {n m1 m2 : ℕ} {o : Outcome} {g u : Stage} {s t : Source} → Reads k1 r1 h1 n m1 o g s → Reads k2 r2 h2 (n + m1) m2 (walk V strict (n + m1) g s) u t → Reads (k1 && k2) (r1 && r2) (h1 && h2) n (m1 + m2) o u t
  follow {k1} {r1} {h1} {k2} {r2} {h2} {n} {m1} {m2} {o} {g} {u} {s} {t} a b =
      record {
        goes =
            ⊎_elim
            (λ x. ⊎_elim
            (λ y. inl ((λ z. let v = x.0 z in let w = y.0 z in (and_from k1 k2 v.0 w.0, and_from r1 r2 v.1 w.1, and_from h1 h2 v.2 w.2, let q = w.3 in omega (arith, q))), x.1 ∙ y.1 ∙ ap (λ i. walk V strict i u t) (add_assoc n m1 m2)))
            (λ y. inr ((λ f. y.0 (λ z. let w = f z in ((and_parts k1 k2 w.0).1, (and_parts r1 r2 w.1).1, (and_parts h1 h2 w.2).1, let q = w.3 in omega (arith, q)))), (y.1.0, y.1.1, x.1 ∙ y.1.2, y.1.3))) b.goes)
            (λ x. inr ((λ f. x.0 (λ z. let w = f z in ((and_parts k1 k2 w.0).0, (and_parts r1 r2 w.1).0, (and_parts h1 h2 w.2).0, let q = w.3 in omega (arith, q)))), x.1)) a.goes;
      }

  reshape : {k r h k' r' h' : Bool} {n m m' : ℕ} {o : Outcome} {g : Stage} {s : Source} → k ≡ k' → r ≡ r' → h ≡ h' → m ≡ m' → Reads k r h n m o g s → Reads k' r' h' n m' o g s
  reshape {k} {r} {h} {k'} {r'} {h'} {n} {m} {m'} {o} {g} {s} a b c d x =
      subst (λ i. Reads k' r' h' n i o g s) d (subst (λ i. Reads k' r' i n m o g s) c (subst (λ i. Reads k' i h n m o g s) b (subst (λ i. Reads i r h n m o g s) a x)))

  to_stage : {k r h : Bool} {n m : ℕ} {o : Outcome} {g u : Stage} {s : Source} → g ≡ u → Reads k r h n m o g s → Reads k r h n m o u s
  to_stage {k} {r} {h} {n} {m} {o} {g} {u} {s} e x = subst (λ i. Reads k r h n m o i s) e x

  -- terms and tests
  operand-reads : (x : syntax.Operand) (p : ℕ) (s : Source) (a : Asker) (n : ℕ) → Reads (known_operand V (asker_scope a) x) (ranged_operand V x) true n 0 (walk V strict n (asks a) (next (operand_token x) p s)) (given a x) s
  unfolding move
  operand-reads (syntax.variable v) p s a n = five (asks a) (token.variable v) p s _ p 0 _ n refl
  operand-reads (syntax.id d) p s a n = six (asks a) (digits d) p s _ p 0 _ n refl

  left_reads : (x : syntax.Operand) (p : ℕ) (s : Source) (k : Place) (n : ℕ) → Reads (known_operand V (scope_at k) x) (ranged_operand V x) true n 0 (walk V strict n (wants k) (next (operand_token x) p s)) (equals x k) s
  unfolding move
  left_reads (syntax.variable v) p s k n = five (wants k) (token.variable v) p s _ p 0 _ n refl
  left_reads (syntax.id d) p s k n = six (wants k) (digits d) p s _ p 0 _ n refl

  name-move : (r : Role) (b : List ℕ) (p : ℕ) (l : Places) → places (V.lookup b) ≡ l → move V (test_stage r) (word b) p ≡ named r b p (role_nodes r) (V.lookup b) l
  unfolding move
  name-move (alone k) b p l e = ap (named (alone k) b p 1 (V.lookup b)) e
  name-move (bound q v k) b p l e = ap (named (bound q v k) b p 0 (V.lookup b)) e

  test-reads : {t : syntax.Test} {s u : Source} → IsTest V t s u → (r : Role) (n : ℕ) → Reads (known_test V (role_scope r) t && role_holds r t) (ranged_test V t) true n (role_nodes r) (walk V strict n (test_stage r) s) (tested r t) u
  unfolding move
  test-reads (is_bare {b} {r = u} {p} e) r n = five (test_stage r) (word b) p u _ p (role_nodes r) _ n (name-move r b p none e)
  test-reads (is_of_one {b} {x} {r = u} {p1} {p2} {p3} {p4} e) r n =
      reshape (sym (and_assoc (is_known (V.lookup b)) (known_operand V (role_scope r) x) (role_holds r (syntax.of_one b x)))) (and-true (ranged_operand V x)) refl (add-zero (role_nodes r))
      (follow (five (test_stage r) (word b) p1 _ _ p1 (role_nodes r) _ n (name-move r b p1 one e))
      (follow (free (expects 40 _) (mark 40) p2 _ 0 (asks (argument r p1 (only b))) _ refl)
      (follow (operand-reads x p3 _ (argument r p1 (only b)) _)
      (five (closes r (syntax.of_one b x) p1) (mark 41) p4 u (role_holds r (syntax.of_one b x)) p1 0 (tested r (syntax.of_one b x)) _ refl))))
  test-reads (is_of_two {b} {x} {y} {r = u} {p1} {p2} {p3} {p4} {p5} {p6} e) r n =
      reshape
      (ap (λ i. is_known (V.lookup b) && i) (sym (and_assoc (known_operand V (role_scope r) x) (known_operand V (role_scope r) y) (role_holds r (syntax.of_two b x y)))) ∙ sym (and_assoc (is_known (V.lookup b)) (known_operand V (role_scope r) x && known_operand V (role_scope r) y) (role_holds r (syntax.of_two b x y))))
      (ap (λ i. ranged_operand V x && i) (and-true (ranged_operand V y))) refl (add-zero (role_nodes r))
      (follow (five (test_stage r) (word b) p1 _ _ p1 (role_nodes r) _ n (name-move r b p1 two e))
      (follow (free (expects 40 _) (mark 40) p2 _ 0 (asks (argument r p1 (first b))) _ refl)
      (follow (operand-reads x p3 _ (argument r p1 (first b)) _)
      (follow (free (expects 44 _) (mark 44) p4 _ 0 (asks (argument r p1 (second b x))) _ refl)
      (follow (operand-reads y p5 _ (argument r p1 (second b x)) _)
      (five (closes r (syntax.of_two b x y) p1) (mark 41) p6 u (role_holds r (syntax.of_two b x y)) p1 0 (tested r (syntax.of_two b x y)) _ refl))))))

  simple-reads : {x : syntax.Simple} {s u : Source} → IsSimple V x s u → (k : Place) (n : ℕ) → Reads (known_simple V (scope_at k) x) (ranged_simple V x) true n 1 (walk V strict n (wants k) s) (complete (syntax.simple x) k) u
  unfolding move
  simple-reads (is_truth {r = u} {p}) k n = free (wants k) (mark 84) p u 1 _ n refl
  simple-reads (is_test {t} d) k n = reshape (and-true (known_test V (scope_at k) t)) refl refl refl (test-reads d (alone k) n)
  simple-reads (is_equal {x} {y} {r = u} {p1} {p2} {p3}) k n =
      follow (left_reads x p1 _ k n) (follow (free (equals x k) (mark 61) p2 _ 1 (asks (right_side x k)) _ refl) (operand-reads y p3 u (right_side x k) _))

  onto : {k r h : Bool} {n m : ℕ} {o : Outcome} {g : Stage} {s : Source} (u : Stage) (t : Source) → Reads k r h n m o g s → walk V strict (n + m) g s ≡ walk V strict (n + m) u t → Reads k r h n m o u t
  onto u t x e = record { goes = ⊎_elim (λ y. inl (y.0, y.1 ∙ e)) inr x.goes }

  -- intervals
  interval-reads : {e : syntax.Interval} {s u : Source} → IsInterval e s u → (head_sign u ≡ 91 → ⊥) → (l : Opener) {k r h : Bool} {n m : ℕ} {o : Outcome} → Reads k r h n m o (opens l) s → Reads k (r && ranged_interval V e) h n m o (wants (resume l e)) u
  unfolding move
  interval-reads (is_unwritten {r = u}) d l {k} {r} {h} {n} {m} x = reshape refl (sym (and-true r)) refl refl (onto (wants (resume l syntax.unwritten)) u x (no_ends V strict (n + m) l u d))
  interval-reads (is_from_to {lo} {hi} {r = u} {p1} {p2} {p3} {p4} {p5}) d l {k} {r} {h} {n} {m} x =
      reshape (and-true k) (ap (λ i. r && (leb (token.value lo) 10000 && i)) (and-true (leb (token.value hi) 10000 && leb (token.value lo) (token.value hi)))) (and-true h) (add-zero m)
      (follow x
      (follow (free (opens l) (mark 91) p1 _ 0 (lower l) _ refl)
      (follow (six (lower l) (digits lo) p2 _ _ p2 0 (expects 44 (upper l lo)) _ refl)
      (follow (free (expects 44 (upper l lo)) (mark 44) p3 _ 0 (upper l lo) _ refl)
      (follow (six (upper l lo) (digits hi) p4 _ _ p4 0 (expects 93 (wants (resume l (syntax.from_to lo hi)))) _ refl) (free (expects 93 (wants (resume l (syntax.from_to lo hi)))) (mark 93) p5 u 0 (wants (resume l (syntax.from_to lo hi))) _ refl))))))
  interval-reads (is_from_on {lo} {r = u} {p1} {p2} {p3} {p4} {p5}) d l {k} {r} {h} {n} {m} x =
      reshape (and-true k) (ap (λ i. r && i) (and-true (leb (token.value lo) 10000))) (and-true h) (add-zero m)
      (follow x
      (follow (free (opens l) (mark 91) p1 _ 0 (lower l) _ refl)
      (follow (six (lower l) (digits lo) p2 _ _ p2 0 (expects 44 (upper l lo)) _ refl)
      (follow (free (expects 44 (upper l lo)) (mark 44) p3 _ 0 (upper l lo) _ refl)
      (follow (free (upper l lo) (mark 42) p4 _ 0 (expects 93 (wants (resume l (syntax.from_on lo)))) _ refl) (free (expects 93 (wants (resume l (syntax.from_on lo)))) (mark 93) p5 u 0 (wants (resume l (syntax.from_on lo))) _ refl))))))

  -- prefixes and joints
  unary_row : (x : syntax.Unary) (k : Place) (p : ℕ) → move V (wants k) (mark (unary_mark x)) p ≡ may true 4 p 1 (wants (under (syntax.unary x) k))
  unfolding move
  unary_row syntax.not k p = refl
  unary_row syntax.next k p = refl

  modal_row : (x : syntax.Modal) (e : syntax.Interval) (k : Place) (p : ℕ) → move V (wants k) (mark (modal_mark x)) p ≡ may true 4 p (prefix_nodes (syntax.timed x e)) (opens (of_modal x k))
  unfolding move
  modal_row syntax.eventually e k p = refl
  modal_row syntax.henceforth e k p = refl

  quantifier_row : (x : syntax.Quantifier) (k : Place) (p : ℕ) → move V (wants k) (mark (quantifier_mark x)) p ≡ may (has_room (scope_at k).letters) 7 p 1 (binds x k)
  unfolding move
  quantifier_row syntax.for_all k p = refl
  quantifier_row syntax.exists k p = refl

  prefix-reads : {x : syntax.Prefix} {s u : Source} → IsPrefix V x s u → (head_sign u ≡ 91 → ⊥) → (k : Place) (n : ℕ) → Reads (known_prefix V (scope_at k) x) (ranged_prefix V x) (shallow_prefix (scope_at k) x) n (prefix_nodes x) (walk V strict n (wants k) s) (wants (under x k)) u
  unfolding move
  prefix-reads (is_unary {u = y} {r} {p}) d k n = free (wants k) (mark (unary_mark y)) p r 1 _ n (unary_row y k p)
  prefix-reads (is_timed {m} {e} {s} {r} {p} i) d k n = interval-reads i d (of_modal m k) (free (wants k) (mark (modal_mark m)) p s (prefix_nodes (syntax.timed m e)) (opens (of_modal m k)) n (modal_row m e k p))
  prefix-reads (is_quantified {q} {v} {t} {s} {r} {p1} {p2} {p3} i) d k n =
      reshape refl refl (and-true (has_room (scope_at k).letters)) refl
      (follow (seven (wants k) (mark (quantifier_mark q)) p1 _ (has_room (scope_at k).letters) p1 1 (binds q k) n (quantifier_row q k p1))
      (follow (five (binds q k) (token.variable v) p2 _ (not (in_use (scope_at k).letters v)) p2 0 (expects 58 (bounds q v k)) _ refl)
      (follow (free (expects 58 (bounds q v k)) (mark 58) p3 s 0 (bounds q v k) _ refl) (test-reads i (bound q v k) _))))

  joint-reads : {j : syntax.Joint} {s u : Source} → IsJoint V j s u → (head_sign u ≡ 91 → ⊥) → (c : syntax.Clause) (o : Option syntax.Formula) (k : Place) (n : ℕ) → Reads true (ranged_joint V j) true n (joint_nodes j) (walk V strict n (after c o (open_at k)) s) (wants (at None None (right_of (joined_or o c) j k))) u
  unfolding move
  joint-reads (is_until {e} {s} {r} {p} i) d c o k n = interval-reads i d (of_until (joined_or o c) k) (free (after c o (open_at k)) (mark 85) p s 1 (opens (of_until (joined_or o c) k)) n refl)
  joint-reads (is_implies {r} {p}) d c o k n = free (after c o (open_at k)) (mark 62) p r 2 _ n refl

  -- an item does not begin with ends
  operand_head : (x : syntax.Operand) (p : ℕ) (s : Source) → head_sign (next (operand_token x) p s) ≡ 91 → ⊥
  operand_head (syntax.variable v) p s e = omega arith
  operand_head (syntax.id d) p s e = omega arith

  simple_head : {x : syntax.Simple} {s u : Source} → IsSimple V x s u → head_sign s ≡ 91 → ⊥
  simple_head is_truth e = omega arith
  simple_head (is_test (is_bare d)) e = omega arith
  simple_head (is_test (is_of_one d)) e = omega arith
  simple_head (is_test (is_of_two d)) e = omega arith
  simple_head (is_equal {x}) e = operand_head x _ _ e

  prefix_head : {x : syntax.Prefix} {s u : Source} → IsPrefix V x s u → head_sign s ≡ 91 → ⊥
  prefix_head (is_unary {u = syntax.not}) e = omega arith
  prefix_head (is_unary {u = syntax.next}) e = omega arith
  prefix_head (is_timed {m = syntax.eventually} i) e = omega arith
  prefix_head (is_timed {m = syntax.henceforth} i) e = omega arith
  prefix_head (is_quantified {q = syntax.for_all} i) e = omega arith
  prefix_head (is_quantified {q = syntax.exists} i) e = omega arith

  mutual
    pub formula_head : {f : syntax.Formula} {s u : Source} → IsFormula V f s u → head_sign s ≡ 91 → ⊥
    formula_head (is-clause c) e = clause_head c e
    formula_head (is-either f c) e = formula_head f e

    pub clause_head : {c : syntax.Clause} {s u : Source} → IsClause V c s u → head_sign s ≡ 91 → ⊥
    clause_head (is-item i) e = item_head i e
    clause_head (is-both c i) e = clause_head c e

    pub item_head : {i : syntax.Item} {s u : Source} → IsItem V i s u → head_sign s ≡ 91 → ⊥
    item_head (is-simple x) e = simple_head x e
    item_head (is-prefixed x i) e = prefix_head x e
    item_head (is-group f) e = omega arith
    item_head (is-pair a j b) e = omega arith

  -- a formula is read: its last clause and what stands left of it
  pub record Formed (f : syntax.Formula) (a : Around) (n : ℕ) (s u : Source) : Type 0 where
    pub last : syntax.Clause
    pub before : Option syntax.Formula
    pub whole : joined_or before last ≡ f
    pub reads : Reads (known-formula V (scope_around a) f) (ranged-formula V f) (shallow-formula (scope_around a) f) n (formula_nodes f) (walk V strict n (wants (at None None a)) s) (after last before a) u

  mutual
    unfolding move known-item known-clause known-formula ranged-item ranged-clause ranged-formula shallow-item shallow-clause shallow-formula item_nodes clause_nodes formula_nodes

    pub item-reads : {i : syntax.Item} {s u : Source} → IsItem V i s u → (k : Place) (n : ℕ) → Reads (known-item V (scope_at k) i) (ranged-item V i) (shallow-item (scope_at k) i) n (item_nodes i) (walk V strict n (wants k) s) (complete i k) u
    item-reads (is-simple x) k n = simple-reads x k n
    item-reads (is-prefixed {x} {i} x' i') k n = follow (prefix-reads x' (item_head i') k n) (item-reads i' (under x k) _)
    item-reads (is-group {f} {s} {r} {p} {q} d) k n =
        let m = formula-reads d (open_at k) (n + 0) in
        to_stage (ap (λ y. complete (syntax.group y) k) m.whole)
        (reshape (and-true (known-formula V (scope_around (open_at k)) f)) (and-true (ranged-formula V f)) (ap (λ y. ltb (scope_at k).depth 16 && y) (and-true (shallow-formula (scope_around (open_at k)) f))) (omega arith)
        (follow (seven (wants k) (mark 40) p s (ltb (scope_at k).depth 16) p 0 (wants (at None None (open_at k))) n refl)
        (follow m.reads (free (after m.last m.before (open_at k)) (mark 41) q r 0 (complete (syntax.group (joined_or m.before m.last)) k) _ refl))))
    item-reads (is-pair {a} {b} {j} {s} {u} {v} {r} {p} {q} d y e) k n =
        let m = formula-reads d (open_at k) (n + 0) in
        let w = formula-reads e (right_of (joined_or m.before m.last) j k) (n + 0 + formula_nodes a + joint_nodes j) in
        to_stage (ap₂ (λ x z. complete (syntax.pair x j z) k) m.whole w.whole)
        (reshape
        (ap (λ x. known-formula V (scope_around (open_at k)) a && x) (and-true (known-formula V (scope_around (open_at k)) b)))
        (ap (λ x. ranged-formula V a && (ranged_joint V j && x)) (and-true (ranged-formula V b)))
        (ap (λ x. ltb (scope_at k).depth 16 && (shallow-formula (scope_around (open_at k)) a && x)) (and-true (shallow-formula (scope_around (open_at k)) b))) (omega arith)
        (follow (seven (wants k) (mark 40) p s (ltb (scope_at k).depth 16) p 0 (wants (at None None (open_at k))) n refl)
        (follow m.reads
        (follow (joint-reads y (formula_head e) m.last m.before k _)
        (follow w.reads (free (after w.last w.before (right_of (joined_or m.before m.last) j k)) (mark 41) q r 0 (complete (syntax.pair (joined_or m.before m.last) j (joined_or w.before w.last)) k) _ refl))))))

    pub clause-reads : {c : syntax.Clause} {s u : Source} → IsClause V c s u → (o : Option syntax.Formula) (f : Around) (n : ℕ) → Reads (known-clause V (scope_around f) c) (ranged-clause V c) (shallow-clause (scope_around f) c) n (clause_nodes c) (walk V strict n (wants (at None o f)) s) (after c o f) u
    clause-reads (is-item i) o f n = item-reads i (at None o f) n
    clause-reads (is-both {c} {i} {s} {u} {r} {p} d y) o f n =
        follow (clause-reads d o f n) (follow (free (after c o f) (mark 38) p u 1 (wants (at (Some c) o f)) _ refl) (item-reads y (at (Some c) o f) _))

    pub formula-reads : {f : syntax.Formula} {s u : Source} → IsFormula V f s u → (a : Around) (n : ℕ) → Formed f a n s u
    formula-reads (is-clause {c} d) a n = record { last = c; before = None; whole = refl; reads = clause-reads d None a n }
    formula-reads (is-either {f} {c} {s} {u} {r} {p} d y) a n =
        let m = formula-reads d a n in
        record {
          last = c;
          before = Some (joined_or m.before m.last);
          whole = ap (λ x. syntax.either x c) m.whole;
          reads = follow m.reads (follow (free (after m.last m.before a) (mark 124) p u 1 (wants (at None (Some (joined_or m.before m.last)) a)) _ refl) (clause-reads y (Some (joined_or m.before m.last)) a _));
        }
