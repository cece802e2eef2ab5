-- How terms and tests are read, over plain values.
use Rattle.std.proofs.Common.{◌≡◌, ℕ, zero, suc, ◌+◌, ◌<◌, ◌≤◌, Bool, true, false, cond, eqb, ltb, List, IsErrAnd, Ok, Err, Result, sym, refl, ap, ◌∙◌, subst, ap₂, arith, Bor, eq-eqb}
use Rattle.std.proofs.lemmas.Bool.{cond-true}
use Rattle.goals.specs.declared.goal.Term.{Term}
use Rattle.goals.specs.declared.goal.Term.TheVariants.{Id}
use Rattle.goals.specs.declared.goal_fault.GoalFault.{GoalFault}
use Rattle.goals.specs.declared.scope.Scope.{Scope}
use Rattle.goals.specs.declared.rest.Rest.{Rest}
use Rattle.goals.specs.declared.token.Kind.{Kind}
use Rattle.goals.specs.declared.token.Kind.TheVariants as kind
use Rattle.goals.specs.declared.progress.Progress.{Progress}
use Rattle.goals.specs.Tokens.{word, variable, digits, Source, value}
use Rattle.goals.specs.Vocabulary.{Vocabulary, Found, missing, found, Places, none, one, two, places, places_of, number}
use Rattle.goals.specs.Syntax as syntax
use Rattle.goals.specs.Scopes.{in_use}
use Rattle.goals.specs.Seen.{seen}
use Rattle.goals.specs.Reading.{Stage, wants, expects, asks, closes, Asker, argument, asker_scope, Role, alone, bound, role_scope, role_holds, Pending, only, first, second, tested, given, may, named, move, Outcome, fault, walk, run}
use Rattle.goals.specs.GoalFaults.{told}
use Rattle.goals.specs.Promises.{left, tokens, items, from, Passed, Still, Here, SignRead, head_sign, head_place, OperandRead, SecondRead, TestRead, test_stage, role_nodes}
use Rattle.goals.proofs.Moves.{passed-left, lone, step, fail, overrun, sign_step, sign_fail, still-then}

-- what a `?` hands on
pub broke : {A : Type 0} (P : Result A GoalFault → Type 0) (x : GoalFault) (r : Result A GoalFault) → IsErrAnd r (λ y. y ≡ x) → P (Err x) → P r
broke P x (Err y) e h = subst (λ z. P (Err z)) (sym e) h
broke P x (Ok a) e h = absurd e

pub told_as : {x y : GoalFault} {o : Outcome} → x ≡ y → o ≡ told y → o ≡ told x
told_as e h = h ∙ ap told (sym e)

-- a term
module _ (V : Vocabulary) {p : Progress} {place : ℕ} {behind : Rest} where
  pub variable-step : {q : Progress} {v : ℕ} → Here p (variable v) place behind → (s : Scope) → in_use s.letters v ≡ true → Passed p q 0 behind → (a : Asker) → asker_scope a ≡ s → from V p (asks a) ≡ from V q (given a (syntax.variable v))
  unfolding move
  variable-step {q} {v} t s u d a e = step t V (asks a) refl (ap (λ z. in_use z.letters v) e ∙ u) d

  pub variable_fail : {v : ℕ} → Here p (variable v) place behind → (s : Scope) → in_use s.letters v ≡ false → (a : Asker) → asker_scope a ≡ s → from V p (asks a) ≡ fault 5 place
  unfolding move
  variable_fail {v} t s u a e = fail t V (asks a) refl (ap (λ z. in_use z.letters v) e ∙ u)

  pub id-step : {q : Progress} {d : List ℕ} → Here p (digits d) place behind → ltb (value d) V.ids ≡ true → Passed p q 0 behind → (a : Asker) → from V p (asks a) ≡ from V q (given a (syntax.id d))
  unfolding move
  id-step t u d a = step t V (asks a) refl u d

  pub id_fail : {d : List ℕ} → Here p (digits d) place behind → ltb (value d) V.ids ≡ false → (a : Asker) → from V p (asks a) ≡ fault 6 place
  unfolding move
  id_fail t u a = fail t V (asks a) refl u

-- a token that is no term
pub no_term : (V : Vocabulary) (n : ℕ) (a : Asker) (t : Kind) (p : ℕ) (s : Source) → ((v : ℕ) → t ≡ kind.Variable v → ⊥) → ((d : Bor (List ℕ)) → t ≡ kind.Number d → ⊥) → run V n (asks a) (seen t p s) ≡ fault 4 p
unfolding walk move
no_term V n a (kind.Name b) p s h g = refl
no_term V n a (kind.Variable v) p s h g = absurd (h v refl)
no_term V n a (kind.Number d) p s h g = absurd (g d refl)
no_term V n a (kind.Sign x) p s h g = refl
no_term V n a kind.Bad p s h g = refl
no_term V n a kind.End p s h g = refl

-- a sign that is wanted
pub expected : (V : Vocabulary) {p q : Progress} {c : ℕ} (r : SignRead p q c) (g : Stage) → from V p (expects c g) ≡ from V q g
unfolding move
expected V {p} {q} {c} r g = sign_step r V (expects c g) (cond-true (eqb c c) _ _ (eq-eqb c c refl)) refl

pub unexpected : (V : Vocabulary) (p : Progress) (c : ℕ) (g : Stage) → (head_sign (tokens p) ≡ c → ⊥) → from V p (expects c g) ≡ fault 4 (head_place (tokens p))
unfolding move
unexpected V p c g h = lone V p.count (expects c g) c (λ i. may true 4 i 0 g) (λ x i. refl) (λ i. refl) (tokens p) h

pub unclosed : (V : Vocabulary) (p : Progress) (r : Role) (t : syntax.Test) (i : ℕ) → (head_sign (tokens p) ≡ 41 → ⊥) → from V p (closes r t i) ≡ fault 4 (head_place (tokens p))
unfolding move
unclosed V p r t i h = lone V p.count (closes r t i) 41 (λ j. may (role_holds r t) 5 i 0 (tested r t)) (λ x j. refl) (λ j. refl) (tokens p) h

-- a second term
pub second-read : {V : Vocabulary} {s : Scope} {p q u : Progress} {t : Term} → SignRead p q 44 → OperandRead V s q u t → SecondRead V s p u t
second-read {V} a b = record {
  operand = b.operand;
  value_is = b.value_is;
  runs = λ k e. expected V a (asks k) ∙ b.runs k e;
  still = still-then a.still b.still;
}

-- the closing bracket of a test
pub closing-step : (V : Vocabulary) {p q : Progress} (r : Role) (t : syntax.Test) (i : ℕ) → SignRead p q 41 → from V p (closes r t i) ≡ cond (role_holds r t) (from V q (tested r t)) (fault 5 i)
unfolding move
closing-step V {p} {q} r t i d = pick (role_holds r t) refl
  where
    pick : (b : Bool) → role_holds r t ≡ b → from V p (closes r t i) ≡ cond b (from V q (tested r t)) (fault 5 i)
    pick true e = sign_step d V (closes r t i) refl e
    pick false e = sign_fail d V (closes r t i) refl e

-- a test's name
name-move : (V : Vocabulary) (b : List ℕ) (place nodes : ℕ) (f : Found) → V.lookup b ≡ f → (r : Role) → role_nodes r ≡ nodes → move V (test_stage r) (word b) place ≡ named r b place nodes f (places f)
unfolding move
name-move V b place nodes f means (alone k) e = ap₂ (λ n x. named (alone k) b place n x (places x)) e means
name-move V b place nodes f means (bound q v k) e = ap₂ (λ n x. named (bound q v k) b place n x (places x)) e means

module _ (V : Vocabulary) {p : Progress} {b : List ℕ} {place : ℕ} {behind : Rest} (here : Here p (word b) place behind) where
  pub name_unknown : V.lookup b ≡ missing → (r : Role) → from V p (test_stage r) ≡ fault 5 place
  name_unknown means r = fail here V (test_stage r) (name-move V b place (role_nodes r) missing means r refl) refl

  pub name-over : (nodes i : ℕ) (f : Places) → V.lookup b ≡ found i f → 128 < p.count + nodes → (r : Role) → role_nodes r ≡ nodes → from V p (test_stage r) ≡ fault 7 place
  name-over nodes i none means over (alone k) e = overrun here V (wants k) (name-move V b place nodes (found i none) means (alone k) e) refl over
  name-over nodes i none means over (bound q v k) e = let h : p.count ≤ 128 = p.few in absurd (omega (arith, e, over, h))
  name-over nodes i one means over r e = overrun here V (test_stage r) (name-move V b place nodes (found i one) means r e) refl over
  name-over nodes i two means over r e = overrun here V (test_stage r) (name-move V b place nodes (found i two) means r e) refl over

  module _ {q : Progress} {nodes : ℕ} (passed : Passed p q nodes behind) (i : ℕ) where
    pub name-bare : V.lookup b ≡ found i none → (r : Role) → role_nodes r ≡ nodes → from V p (test_stage r) ≡ cond (role_holds r (syntax.bare b)) (from V q (tested r (syntax.bare b))) (fault 5 place)
    name-bare means r e = pick (role_holds r (syntax.bare b)) refl
      where
        pick : (h : Bool) → role_holds r (syntax.bare b) ≡ h → from V p (test_stage r) ≡ cond h (from V q (tested r (syntax.bare b))) (fault 5 place)
        pick true h = step here V (test_stage r) (name-move V b place nodes (found i none) means r e) h passed
        pick false h = fail here V (test_stage r) (name-move V b place nodes (found i none) means r e) h

    pub name-one : V.lookup b ≡ found i one → (r : Role) → role_nodes r ≡ nodes → from V p (test_stage r) ≡ from V q (expects 40 (asks (argument r place (only b))))
    name-one means r e = step here V (test_stage r) (name-move V b place nodes (found i one) means r e) refl passed

    pub name-two : V.lookup b ≡ found i two → (r : Role) → role_nodes r ≡ nodes → from V p (test_stage r) ≡ from V q (expects 40 (asks (argument r place (first b))))
    name-two means r e = step here V (test_stage r) (name-move V b place nodes (found i two) means r e) refl passed

-- a test's terms
abbrev pending : List ℕ → Places → Pending
pending b none = only b
pending b one = only b
pending b two = first b

pub places-two : (n : ℕ) → (n ≡ 0 → ⊥) → (n ≡ 1 → ⊥) → places_of n ≡ two
places-two zero h g = absurd (h refl)
places-two (suc zero) h g = absurd (g refl)
places-two (suc (suc n)) h g = refl

module _ (V : Vocabulary) {p q : Progress} {b : List ℕ} {place : ℕ} {behind : Rest} {nodes : ℕ} (here : Here p (word b) place behind) (passed : Passed p q nodes behind) (i n : ℕ) (means : V.lookup b ≡ found i (places_of n)) where
  name-some : (n ≡ 0 → ⊥) → (r : Role) → role_nodes r ≡ nodes → from V p (test_stage r) ≡ from V q (expects 40 (asks (argument r place (pending b (places_of n)))))
  name-some h r e = pick n h means
    where
      pick : (k : ℕ) → (k ≡ 0 → ⊥) → V.lookup b ≡ found i (places_of k) → from V p (test_stage r) ≡ from V q (expects 40 (asks (argument r place (pending b (places_of k)))))
      pick zero d m = absurd (d refl)
      pick (suc zero) d m = name-one V here passed i m r e
      pick (suc (suc k)) d m = name-two V here passed i m r e

  module _ (some : n ≡ 0 → ⊥) where
    pub open_fault : (r : Role) → role_nodes r ≡ nodes → (head_sign (tokens q) ≡ 40 → ⊥) → from V p (test_stage r) ≡ fault 4 (head_place (tokens q))
    open_fault r e h = name-some some r e ∙ unexpected V q 40 (asks (argument r place (pending b (places_of n)))) h

    module _ {u : Progress} (opened : SignRead q u 40) where
      to-first : (r : Role) → role_nodes r ≡ nodes → from V p (test_stage r) ≡ from V u (asks (argument r place (pending b (places_of n))))
      to-first r e = name-some some r e ∙ expected V opened (asks (argument r place (pending b (places_of n))))

      pub first-fault : (s : Scope) (x : GoalFault) → ((a : Asker) → asker_scope a ≡ s → from V u (asks a) ≡ told x) → (r : Role) → role_scope r ≡ s → role_nodes r ≡ nodes → from V p (test_stage r) ≡ told x
      first-fault s x h r d e = to-first r e ∙ h (argument r place (pending b (places_of n))) d

      module _ {s : Scope} {v : Progress} {t : Term} (one-read : OperandRead V s u v t) where
        to-close : places_of n ≡ one → (r : Role) → role_scope r ≡ s → role_nodes r ≡ nodes → from V p (test_stage r) ≡ from V v (closes r (syntax.of_one b one-read.operand) place)
        to-close o r d e = to-first r e ∙ one-read.runs (argument r place (pending b (places_of n))) d ∙ ap (λ l. from V v (given (argument r place (pending b l)) one-read.operand)) o

        pub close-fault : places_of n ≡ one → (head_sign (tokens v) ≡ 41 → ⊥) → (r : Role) → role_scope r ≡ s → role_nodes r ≡ nodes → from V p (test_stage r) ≡ fault 4 (head_place (tokens v))
        close-fault o h r d e = to-close o r d e ∙ unclosed V v r (syntax.of_one b one-read.operand) place h

        count-args : {z : Progress} → Still v z → (items z ≡ items p) × (z.count ≡ p.count + nodes) × (left z < left p)
        count-args {z} last =
            let a = passed.count_is in
            let c = opened.still.count_same in
            let d = one-read.still.count_same in
            let e = last.count_same in
            let f = here.further in
            let g = passed-left passed in
            let h = opened.still.further in
            let k = one-read.still.further in
            let l = last.further in
            (last.nodes_same ∙ one-read.still.nodes_same ∙ opened.still.nodes_same ∙ passed.nodes_same, omega (arith, a, c, d, e), omega (arith, f, g, h, k, l))

        pub test-one : {z : Progress} → places_of n ≡ one → SignRead v z 41 → TestRead V s nodes place p z (record { predicate = i; first = t; second = Id 0 })
        test-one {z} o c =
            let k = count-args c.still in
            record {
              test = syntax.of_one b one-read.operand;
              value_is = ap₂ (λ x y. record { predicate = number x; first = y; second = Id 0 }) (sym means) one-read.value_is;
              runs = λ r d e. to-close o r d e ∙ closing-step V r (syntax.of_one b one-read.operand) place c;
              nodes_same = k.0;
              count_is = k.1;
              further = k.2;
            }

        to_second : places_of n ≡ two → (r : Role) → role_scope r ≡ s → role_nodes r ≡ nodes → from V p (test_stage r) ≡ from V v (expects 44 (asks (argument r place (second b one-read.operand))))
        to_second o r d e = to-first r e ∙ one-read.runs (argument r place (pending b (places_of n))) d ∙ ap (λ l. from V v (given (argument r place (pending b l)) one-read.operand)) o

        pub second-fault : places_of n ≡ two → (x : GoalFault) → ((a : Asker) → asker_scope a ≡ s → from V v (expects 44 (asks a)) ≡ told x) → (r : Role) → role_scope r ≡ s → role_nodes r ≡ nodes → from V p (test_stage r) ≡ told x
        second-fault o x h r d e = to_second o r d e ∙ h (argument r place (second b one-read.operand)) d

        module _ {w : Progress} {t2 : Term} (two-read : SecondRead V s v w t2) where
          to-close-two : places_of n ≡ two → (r : Role) → role_scope r ≡ s → role_nodes r ≡ nodes → from V p (test_stage r) ≡ from V w (closes r (syntax.of_two b one-read.operand two-read.operand) place)
          to-close-two o r d e = to_second o r d e ∙ two-read.runs (argument r place (second b one-read.operand)) d

          pub close-two-fault : places_of n ≡ two → (head_sign (tokens w) ≡ 41 → ⊥) → (r : Role) → role_scope r ≡ s → role_nodes r ≡ nodes → from V p (test_stage r) ≡ fault 4 (head_place (tokens w))
          close-two-fault o h r d e = to-close-two o r d e ∙ unclosed V w r (syntax.of_two b one-read.operand two-read.operand) place h

          pub test-two : {z : Progress} → places_of n ≡ two → SignRead w z 41 → TestRead V s nodes place p z (record { predicate = i; first = t; second = t2 })
          test-two {z} o c =
              let k = count-args (still-then two-read.still c.still) in
              record {
                test = syntax.of_two b one-read.operand two-read.operand;
                value_is = ap (λ x. record { predicate = number x; first = t; second = t2 }) (sym means) ∙ ap₂ (λ x y. record { predicate = number (V.lookup b); first = x; second = y }) one-read.value_is two-read.value_is;
                runs = λ r d e. to-close-two o r d e ∙ closing-step V r (syntax.of_two b one-read.operand two-read.operand) place c;
                nodes_same = k.0;
                count_is = k.1;
                further = k.2;
              }

  pub test-bare : n ≡ 0 → (s : Scope) → TestRead V s nodes place p q (record { predicate = i; first = Id 0; second = Id 0 })
  test-bare z s =
      let m = means ∙ ap (λ k. found i (places_of k)) z in
      record {
        test = syntax.bare b;
        value_is = ap (λ x. record { predicate = number x; first = Id 0; second = Id 0 }) (sym m);
        runs = λ r d e. name-bare V here passed i m r e;
        nodes_same = passed.nodes_same;
        count_is = passed.count_is;
        further = let x = here.further in let y = passed-left passed in omega (arith, x, y);
      }
