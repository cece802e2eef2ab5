-- What is read, the grammar derives: a stage says what the tokens before it are parts of.
use Rattle.std.proofs.Common.{◌≡◌, ℕ, ◌<◌, Bool, true, false, cond, eqb, List, [], ◌∷◌, Some, None, Option, sym, refl, ap, ◌∙◌, subst, arith, eqb-true}
use Rattle.std.proofs.lemmas.Bool.{both_ways}
use Rattle.goals.specs.Tokens as token
use Rattle.goals.specs.Tokens.{Tok, word, digits, mark, bad, Source, end, next}
use Rattle.goals.specs.Vocabulary.{Vocabulary, Found, Places, none, one, two, places}
use Rattle.goals.specs.Syntax as syntax
use Rattle.goals.specs.Grammar.{operand_token, modal_mark, quantifier_mark, IsInterval, is_unwritten, is_from_to, is_from_on, IsTest, is_bare, is_of_one, is_of_two, IsSimple, is_truth, is_test, is_equal, IsPrefix, is_unary, is_timed, is_quantified, IsJoint, is_until, is_implies, IsFormula, is-clause, is-either, IsClause, is-item, is-both, IsItem, is-simple, is-prefixed, is-group, is-pair}
use Rattle.goals.specs.Reading.{Around, top, open_at, right_of, Place, at, under, Role, alone, bound, role_holds, Asker, right_side, Opener, of_modal, of_until, resume, Stage, wants, after, expects, equals, asks, closes, binds, bounds, opens, lower, upper, joined_and, joined_or, complete, tested, given, Moved, cannot, may, among, closing, following, starting, named, move}

module _ (V : Vocabulary) where
  -- what stands left of an "and" that goes on at s, and of an "or"
  pub data OkAnd : Option syntax.Clause → Source → Source → Type 0 where
    no_and : {s : Source} → OkAnd None s s
    some_and : {c : syntax.Clause} {u s : Source} {p : ℕ} → IsClause V c u (next (mark 38) p s) → OkAnd (Some c) u s

  pub data OkOr : Option syntax.Formula → Source → Source → Type 0 where
    no_or : {s : Source} → OkOr None s s
    some_or : {f : syntax.Formula} {u s : Source} {p : ℕ} → IsFormula V f u (next (mark 124) p s) → OkOr (Some f) u s

  mutual
    -- in the whole w, a formula or an item may begin at s
    pub data OkAround : Around → Source → Source → Type 0 where
      at_top : {w : Source} → OkAround top w w
      in-open : {k : Place} {w s : Source} {p : ℕ} → OkPlace k w (next (mark 40) p s) → OkAround (open_at k) w s
      in_right : {a : syntax.Formula} {j : syntax.Joint} {k : Place} {w u v s : Source} {p : ℕ} → OkPlace k w (next (mark 40) p u) → IsFormula V a u v → IsJoint V j v s → OkAround (right_of a j k) w s

    pub data OkPlace : Place → Source → Source → Type 0 where
      an_item : {a : Option syntax.Clause} {o : Option syntax.Formula} {f : Around} {w v u s : Source} → OkAnd a u s → OkOr o v u → OkAround f w v → OkPlace (at a o f) w s
      in-prefix : {x : syntax.Prefix} {k : Place} {w s u : Source} → OkPlace k w s → IsPrefix V x s u → OkPlace (under x k) w u

  -- a test may begin at s; ends may stand at s
  pub data OkRole : Role → Source → Source → Type 0 where
    ok_alone : {k : Place} {w s : Source} → OkPlace k w s → OkRole (alone k) w s
    ok_bound : {q : syntax.Quantifier} {v : ℕ} {k : Place} {w s : Source} {p1 p2 p3 : ℕ} → OkPlace k w (next (mark (quantifier_mark q)) p1 (next (token.variable v) p2 (next (mark 58) p3 s))) → OkRole (bound q v k) w s

  pub data OkOpener : Opener → Source → Source → Type 0 where
    ok_modal : {m : syntax.Modal} {k : Place} {w s : Source} {p : ℕ} → OkPlace k w (next (mark (modal_mark m)) p s) → OkOpener (of_modal m k) w s
    ok_until : {a : syntax.Formula} {k : Place} {w u s : Source} {p q : ℕ} → OkPlace k w (next (mark 40) p u) → IsFormula V a u (next (mark 85) q s) → OkOpener (of_until a k) w s

  pub data OkStage : Stage → Source → Source → Type 0 where
    ok_wants : {k : Place} {w s : Source} → OkPlace k w s → OkStage (wants k) w s
    ok_after : {c : syntax.Clause} {o : Option syntax.Formula} {f : Around} {w v u s : Source} → IsClause V c u s → OkOr o v u → OkAround f w v → OkStage (after c o f) w s
    ok_expects : {c : ℕ} {g : Stage} {w s : Source} → ((p : ℕ) (u : Source) → s ≡ next (mark c) p u → OkStage g w u) → OkStage (expects c g) w s
    ok_equals : {x : syntax.Operand} {k : Place} {w s : Source} → ((p : ℕ) (u : Source) → s ≡ next (mark 61) p u → OkStage (asks (right_side x k)) w u) → OkStage (equals x k) w s
    ok_asks : {a : Asker} {w s : Source} → ((x : syntax.Operand) (p : ℕ) (u : Source) → s ≡ next (operand_token x) p u → OkStage (given a x) w u) → OkStage (asks a) w s
    ok_closes : {r : Role} {t : syntax.Test} {i : ℕ} {w s : Source} → ((p : ℕ) (u : Source) → s ≡ next (mark 41) p u → OkStage (tested r t) w u) → OkStage (closes r t i) w s
    ok_binds : {q : syntax.Quantifier} {k : Place} {w s : Source} → ((v p : ℕ) (u : Source) → s ≡ next (token.variable v) p u → OkStage (expects 58 (bounds q v k)) w u) → OkStage (binds q k) w s
    ok_bounds : {q : syntax.Quantifier} {v : ℕ} {k : Place} {w s : Source} → OkRole (bound q v k) w s → OkStage (bounds q v k) w s
    ok_opens : {m : Opener} {w s : Source} → OkOpener m w s → OkStage (opens m) w s
    ok_lower : {m : Opener} {w s : Source} → ((d : List ℕ) (p : ℕ) (u : Source) → s ≡ next (digits d) p u → OkStage (expects 44 (upper m d)) w u) → OkStage (lower m) w s
    ok_upper : {m : Opener} {lo : List ℕ} {w s : Source} → ((d : List ℕ) (p : ℕ) (u : Source) → s ≡ next (digits d) p u → OkStage (expects 93 (wants (resume m (syntax.from_to lo d)))) w u) → ((p : ℕ) (u : Source) → s ≡ next (mark 42) p u → OkStage (expects 93 (wants (resume m (syntax.from_on lo)))) w u) → OkStage (upper m lo) w s

  pub joins_and : {a : Option syntax.Clause} {i : syntax.Item} {u s r : Source} → OkAnd a u s → IsItem V i s r → IsClause V (joined_and a i) u r
  joins_and no_and i = is-item i
  joins_and (some_and c) i = is-both c i

  pub joins_or : {o : Option syntax.Formula} {c : syntax.Clause} {v u r : Source} → OkOr o v u → IsClause V c u r → IsFormula V (joined_or o c) v r
  joins_or no_or c = is-clause c
  joins_or (some_or f) c = is-either f c

  pub completed : {k : Place} {w s : Source} → OkPlace k w s → {i : syntax.Item} {r : Source} → IsItem V i s r → OkStage (complete i k) w r
  completed (an_item a o f) i = ok_after (joins_and a i) o f
  completed (in-prefix k x) i = completed k (is-prefixed x i)

  pub starts : {f : Around} {w s : Source} → OkAround f w s → OkStage (wants (at None None f)) w s
  starts f = ok_wants (an_item no_and no_or f)

  pub tests : {r : Role} {w s u : Source} {t : syntax.Test} → OkRole r w s → IsTest V t s u → OkStage (tested r t) w u
  tests (ok_alone k) t = completed k (is-simple (is_test t))
  tests (ok_bound k) t = ok_wants (in-prefix k (is_quantified t))

  pub resumes : {m : Opener} {w s u : Source} {e : syntax.Interval} → OkOpener m w s → IsInterval e s u → OkPlace (resume m e) w u
  resumes (ok_modal k) i = in-prefix k (is_timed i)
  resumes (ok_until k f) i = an_item no_and no_or (in_right k f (is_until i))

  -- where a token leads, and that it is refused with no number up to 4 for what it asks
  abbrev pub OkMoved : Moved → Source → Source → Type 0
  OkMoved cannot w s = Unit {0}
  OkMoved (may b c q m g) w s = OkStage g w s × (b ≡ false → 4 < c)

  never : {c : ℕ} → true ≡ false → 4 < c
  never e = absurd (both_ways true e refl)

  abbrev Each : ℕ → Source → Source → List (ℕ × Moved) → Type 0
  Each c w s [] = Unit {0}
  Each c w s (x ∷ xs) = (c ≡ x.0 → OkMoved x.1 w s) × Each c w s xs

  among-ok : (c : ℕ) (w s : Source) (xs : List (ℕ × Moved)) → Each c w s xs → OkMoved (among c xs) w s
  among-ok c w s [] h = tt
  among-ok c w s (x ∷ xs) h = pick (eqb c x.0) refl (among-ok c w s xs h.1)
    where
      pick : (b : Bool) → eqb c x.0 ≡ b → OkMoved (among c xs) w s → OkMoved (cond b x.1 (among c xs)) w s
      pick true e r = h.0 (eqb-true c x.0 e)
      pick false e r = r

  named_ok : {r : Role} {b : List ℕ} {p : ℕ} {w s : Source} (n : ℕ) (f : Found) (l : Places) → places (V.lookup b) ≡ l → OkRole r w (next (word b) p s) → OkMoved (named r b p n f l) w s
  named_ok n f none e h = (tests h (is_bare e), λ z. omega arith)
  named_ok {r} {b} {p} {w} {s} n f one e h = (
    ok_expects (λ p2 u2 e2. ok_asks (λ x p3 u3 e3. ok_closes (λ p4 u4 e4.
        tests h (subst (λ z. IsTest V (syntax.of_one b x) (next (word b) p z) u4) (sym (e2 ∙ ap (next (mark 40) p2) (e3 ∙ ap (next (operand_token x) p3) e4))) (is_of_one e))))),
    λ z. omega arith,
  )
  named_ok {r} {b} {p} {w} {s} n f two e h = (
    ok_expects (λ p2 u2 e2. ok_asks (λ x p3 u3 e3. ok_expects (λ p4 u4 e4. ok_asks (λ y p5 u5 e5. ok_closes (λ p6 u6 e6.
        tests h (subst (λ z. IsTest V (syntax.of_two b x y) (next (word b) p z) u6) (sym (e2 ∙ ap (next (mark 40) p2) (e3 ∙ ap (next (operand_token x) p3) (e4 ∙ ap (next (mark 44) p4) (e5 ∙ ap (next (operand_token y) p5) e6))))) (is_of_two e))))))),
    λ z. omega arith,
  )

  equal-ok : {k : Place} {w s : Source} {p : ℕ} (x : syntax.Operand) → OkPlace k w (next (operand_token x) p s) → OkStage (equals x k) w s
  equal-ok {k} {w} {s} {p} x h =
      ok_equals (λ p2 u2 e2. ok_asks (λ y p3 u3 e3. completed h (is-simple (subst (λ z. IsSimple V (syntax.equal x y) (next (operand_token x) p z) u3) (sym (e2 ∙ ap (next (mark 61) p2) e3)) is_equal))))

  binds-ok : {k : Place} {w s : Source} {p : ℕ} (q : syntax.Quantifier) → OkPlace k w (next (mark (quantifier_mark q)) p s) → OkStage (binds q k) w s
  binds-ok {k} {w} {s} {p} q h =
      ok_binds (λ v p2 u2 e2. ok_expects (λ p3 u3 e3. ok_bounds (ok_bound (subst (λ z. OkPlace k w (next (mark (quantifier_mark q)) p z)) (e2 ∙ ap (next (token.variable v) p2) e3) h))))

  -- the signs that begin an item
  start-rows : {k : Place} {w s : Source} {p c : ℕ} → OkPlace k w (next (mark c) p s) → Each c w s (starting p k)
  start-rows {k} {w} {s} {p} {c} h =
      let at_sign : (d : ℕ) → c ≡ d → OkPlace k w (next (mark d) p s) = λ d e. subst (λ z. OkPlace k w (next (mark z) p s)) e h in (
        λ e. (completed (at_sign 84 e) (is-simple is_truth), never),
        (
          (λ e. (ok_wants (in-prefix (at_sign 33 e) is_unary), never)),
          (
            (λ e. (ok_wants (in-prefix (at_sign 88 e) is_unary), never)),
            (
              (λ e. (ok_opens (ok_modal (at_sign 70 e)), never)),
              (
                (λ e. (ok_opens (ok_modal (at_sign 71 e)), never)),
                (
                  (λ e. (binds-ok syntax.for_all (at_sign 65 e), λ z. omega arith)),
                  (
                    (λ e. (binds-ok syntax.exists (at_sign 69 e), λ z. omega arith)),
                    ((λ e. (starts (in-open (at_sign 40 e)), λ z. omega arith)), tt),
                  ),
                ),
              ),
            ),
          ),
        ),
      )

  begin_ok : {k : Place} {w s : Source} {p : ℕ} (x : Tok) → OkPlace k w (next x p s) → OkMoved (move V (wants k) x p) w s
  unfolding move
  begin_ok (word b) h = named_ok 1 (V.lookup b) (places (V.lookup b)) refl (ok_alone h)
  begin_ok (token.variable v) h = (equal-ok (syntax.variable v) h, λ z. omega arith)
  begin_ok (digits d) h = (equal-ok (syntax.id d) h, λ z. omega arith)
  begin_ok {k} {w} {s} {p} (mark c) h = among-ok c w s (starting p k) (start-rows h)
  begin_ok bad h = tt

  closing-rows : {f : Around} {y : syntax.Formula} {w v s : Source} {p c : ℕ} → IsFormula V y v (next (mark c) p s) → OkAround f w v → Each c w s (closing p y f)
  closing-rows d at_top = tt
  closing-rows {y = y} {v = v} {s = s} {p = p} {c = c} d (in-open k) =
      let at_sign : (e : ℕ) → c ≡ e → IsFormula V y v (next (mark e) p s) = λ e q. subst (λ z. IsFormula V y v (next (mark z) p s)) q d in
      (λ q. (completed k (is-group (at_sign 41 q)), never), ((λ q. (ok_opens (ok_until k (at_sign 85 q)), never)), ((λ q. (starts (in_right k (at_sign 62 q) is_implies), never)), tt)))
  closing-rows {y = y} {v = v} {s = s} {p = p} {c = c} d (in_right k a j) =
      let at_sign : (e : ℕ) → c ≡ e → IsFormula V y v (next (mark e) p s) = λ e q. subst (λ z. IsFormula V y v (next (mark z) p s)) q d in
      (λ q. (completed k (is-pair a j (at_sign 41 q)), never), tt)

  following-rows : {b : syntax.Clause} {o : Option syntax.Formula} {f : Around} {w v u s : Source} {p c : ℕ} → IsClause V b u (next (mark c) p s) → OkOr o v u → OkAround f w v → Each c w s (following p b o f)
  following-rows {b} {u = u} {s = s} {p = p} {c = c} d o f =
      let at_sign : (e : ℕ) → c ≡ e → IsClause V b u (next (mark e) p s) = λ e q. subst (λ z. IsClause V b u (next (mark z) p s)) q d in
      (λ q. (ok_wants (an_item (some_and (at_sign 38 q)) o f), never), ((λ q. (ok_wants (an_item no_and (some_or (joins_or o (at_sign 124 q))) f), never)), closing-rows (joins_or o d) f))

  -- one token keeps the description
  pub keeps : {g : Stage} {w s : Source} (x : Tok) (p : ℕ) → OkStage g w (next x p s) → OkMoved (move V g x p) w s
  unfolding move
  keeps x p (ok_wants h) = begin_ok x h
  keeps (word b) p (ok_after d o f) = tt
  keeps (token.variable v) p (ok_after d o f) = tt
  keeps (digits b) p (ok_after d o f) = tt
  keeps {g = after c o f} {w = w} {s = s} (mark b) p (ok_after d k a) = among-ok b w s (following p c o f) (following-rows d k a)
  keeps bad p (ok_after d o f) = tt
  keeps (word b) p (ok_expects h) = tt
  keeps (token.variable v) p (ok_expects h) = tt
  keeps (digits b) p (ok_expects h) = tt
  keeps {g = expects c g} {w = w} {s = s} (mark b) p (ok_expects h) = among-ok b w s ((c, may true 4 p 0 g) ∷ []) ((λ e. (h p s (ap (λ z. next (mark z) p s) e), never)), tt)
  keeps bad p (ok_expects h) = tt
  keeps (word b) p (ok_equals h) = tt
  keeps (token.variable v) p (ok_equals h) = tt
  keeps (digits b) p (ok_equals h) = tt
  keeps {g = equals x k} {w = w} {s = s} (mark b) p (ok_equals h) = among-ok b w s ((61, may true 4 p 1 (asks (right_side x k))) ∷ []) ((λ e. (h p s (ap (λ z. next (mark z) p s) e), never)), tt)
  keeps bad p (ok_equals h) = tt
  keeps (word b) p (ok_asks h) = tt
  keeps {w = w} {s = s} (token.variable v) p (ok_asks h) = (h (syntax.variable v) p s refl, λ z. omega arith)
  keeps {w = w} {s = s} (digits b) p (ok_asks h) = (h (syntax.id b) p s refl, λ z. omega arith)
  keeps (mark b) p (ok_asks h) = tt
  keeps bad p (ok_asks h) = tt
  keeps (word b) p (ok_closes h) = tt
  keeps (token.variable v) p (ok_closes h) = tt
  keeps (digits b) p (ok_closes h) = tt
  keeps {g = closes r t i} {w = w} {s = s} (mark b) p (ok_closes h) = among-ok b w s ((41, may (role_holds r t) 5 i 0 (tested r t)) ∷ []) ((λ e. (h p s (ap (λ z. next (mark z) p s) e), λ z. omega arith)), tt)
  keeps bad p (ok_closes h) = tt
  keeps (word b) p (ok_binds h) = tt
  keeps {s = s} (token.variable v) p (ok_binds h) = (h v p s refl, λ z. omega arith)
  keeps (digits b) p (ok_binds h) = tt
  keeps (mark b) p (ok_binds h) = tt
  keeps bad p (ok_binds h) = tt
  keeps (word b) p (ok_bounds h) = named_ok 0 (V.lookup b) (places (V.lookup b)) refl h
  keeps (token.variable v) p (ok_bounds h) = tt
  keeps (digits b) p (ok_bounds h) = tt
  keeps (mark b) p (ok_bounds h) = tt
  keeps bad p (ok_bounds h) = tt
  keeps (word b) p (ok_opens h) = begin_ok (word b) (resumes h is_unwritten)
  keeps (token.variable v) p (ok_opens h) = begin_ok (token.variable v) (resumes h is_unwritten)
  keeps (digits b) p (ok_opens h) = begin_ok (digits b) (resumes h is_unwritten)
  keeps {g = opens m} {w = w} {s = s} (mark b) p (ok_opens h) =
      among-ok b w s ((91, may true 4 p 0 (lower m)) ∷ starting p (resume m syntax.unwritten)) (
        (λ e. (
          ok_lower (λ lo p2 u2 e2. ok_expects (λ p3 u3 e3. ok_upper
              (λ hi p4 u4 e4. ok_expects (λ p5 u5 e5. ok_wants (resumes h (subst (λ z. IsInterval (syntax.from_to lo hi) z u5) (sym (ap (λ z. next (mark z) p s) e ∙ ap (next (mark 91) p) (e2 ∙ ap (next (digits lo) p2) (e3 ∙ ap (next (mark 44) p3) (e4 ∙ ap (next (digits hi) p4) e5))))) is_from_to))))
              (λ p4 u4 e4. ok_expects (λ p5 u5 e5. ok_wants (resumes h (subst (λ z. IsInterval (syntax.from_on lo) z u5) (sym (ap (λ z. next (mark z) p s) e ∙ ap (next (mark 91) p) (e2 ∙ ap (next (digits lo) p2) (e3 ∙ ap (next (mark 44) p3) (e4 ∙ ap (next (mark 42) p4) e5))))) is_from_on)))))),
          never,
        )),
        start-rows (resumes h is_unwritten),
      )
  keeps bad p (ok_opens h) = tt
  keeps (word b) p (ok_lower h) = tt
  keeps (token.variable v) p (ok_lower h) = tt
  keeps {s = s} (digits b) p (ok_lower h) = (h b p s refl, λ z. omega arith)
  keeps (mark b) p (ok_lower h) = tt
  keeps bad p (ok_lower h) = tt
  keeps (word b) p (ok_upper h k) = tt
  keeps (token.variable v) p (ok_upper h k) = tt
  keeps {s = s} (digits b) p (ok_upper h k) = (h b p s refl, λ z. omega arith)
  keeps {g = upper m lo} {w = w} {s = s} (mark b) p (ok_upper h k) = among-ok b w s ((42, may true 4 p 0 (expects 93 (wants (resume m (syntax.from_on lo))))) ∷ []) ((λ e. (k p s (ap (λ z. next (mark z) p s) e), never)), tt)
  keeps bad p (ok_upper h k) = tt
