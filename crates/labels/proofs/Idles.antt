-- Idling in code: the answers of a quantifier, id by id.
use Rattle.std.proofs.Common.{◌≡◌, ℕ, zero, suc, ◌+◌, ◌<◌, Bool, true, false, cond, not, ◌&&◌, ◌||◌, eqb, sym, refl, ap, ◌∙◌, subst, ap₂, add-one, arith, eq-eqb, ne_eqb}
use native.Mathlib.Decide.{dec_lt}
use mathlib.Core.Bool.{beq}
use Rattle.goals.specs.declared.goal.Variable.{Variable}
use Rattle.goals.specs.declared.goal.Term.{Term}
use Rattle.goals.specs.declared.goal.Atom.{Atom}
use Rattle.goals.specs.declared.goal.Ends.{Ends}
use Rattle.labels.specs.declared.binding.Binding.{Binding}
use Rattle.labels.specs.Facts.{Facts, bind, fact, alike}
use Rattle.labels.specs.Goals.{Goal, top, test, equal, neg, conj, disj, next, until, for_all, exists}
use Rattle.labels.specs.Idling.{every, some, agrees, idles}

pub same-agrees : (answer wanted : Bool) → beq answer wanted ≡ agrees wanted answer
same-agrees true true = refl
same-agrees true false = refl
same-agrees false true = refl
same-agrees false false = refl

module _ (range item : ℕ → Bool) where
  some_right : (a b c : Bool) → b ≡ true → c ≡ true → a || (b && c) ≡ true
  some_right true b c e f = refl
  some_right false b c e f = ap₂ ◌&&◌ e f

  some_left : (a b : Bool) → a ≡ true → a || b ≡ true
  some_left a b e = ap (λ (x : Bool). x || b) e

  -- one id is enough
  pub some-here : (k n : ℕ) → k < n → range k ≡ true → item k ≡ true → true ≡ some range item n
  some-here k zero lt r i = absurd (omega arith)
  some-here k (suc n) lt r i = elim (dec_lt k n) [
    | yes l ↦ sym (some_left (some range item n) (range n && item n) (sym (some-here k n l r i)))
    | no m ↦
        let e : k ≡ n = omega arith in
        sym (some_right (some range item n) (range n) (item n) (subst (λ (j : ℕ). range j ≡ true) e r) (subst (λ (j : ℕ). item j ≡ true) e i))
  ]

  out : (a b c : Bool) → a ≡ false → b ≡ false → a || (b && c) ≡ false
  out a b c e f = (λ i. e i || (f i && c))

  miss : (a b c : Bool) → a ≡ false → c ≡ false → a || (b && c) ≡ false
  miss a true c e f = (λ i. e i || f i)
  miss a false c e f = (λ i. e i || false)

  pub some_out : (k : ℕ) → some range item k ≡ false → range k ≡ false → some range item (k + 1) ≡ false
  some_out k e r = ap (some range item) (add-one k) ∙ out (some range item k) (range k) (item k) e r

  pub some_miss : (k : ℕ) → some range item k ≡ false → item k ≡ false → some range item (k + 1) ≡ false
  some_miss k e i = ap (some range item) (add-one k) ∙ miss (some range item k) (range k) (item k) e i

  turned : (a b r i : Bool) → not a ≡ b → not (a || (r && not i)) ≡ b && (not r || i)
  turned true b true true e = (λ j. e j && true)
  turned true b true false e = (λ j. e j && false)
  turned true b false true e = (λ j. e j && true)
  turned true b false false e = (λ j. e j && true)
  turned false b true true e = (λ j. e j && true)
  turned false b true false e = (λ j. e j && false)
  turned false b false true e = (λ j. e j && true)
  turned false b false false e = (λ j. e j && true)

  -- an item is true for each id in range if it is untrue for none
  pub none_untrue : (n : ℕ) → not (some range (λ x. not (item x)) n) ≡ every range item n
  none_untrue zero = refl
  none_untrue (suc n) = turned (some range (λ x. not (item x)) n) (every range item n) (range n) (item n) (none_untrue n)

-- the rules of idling, as the code follows them
module _ (N : ℕ) (s : Facts) (k : ℕ) (b : Binding) where
  pub idle_top : true ≡ idles N s (top k) b
  unfolding idles
  idle_top = refl

  pub idle_test : (a : Atom) (r : Bool) → r ≡ fact s b a → r ≡ idles N s (test k a) b
  unfolding idles
  idle_test a r e = e

  pub idle_equal : (t u : Term) (r : Bool) → r ≡ alike b t u → r ≡ idles N s (equal k t u) b
  unfolding idles
  idle_equal t u r e = e

  pub idle_next : (φ : Goal) (r : Bool) → r ≡ idles N s φ b → r ≡ idles N s (next k φ) b
  unfolding idles
  idle_next φ r e = e

  pub idle_not : (φ : Goal) (r : Bool) → r ≡ idles N s φ b → not r ≡ idles N s (neg k φ) b
  unfolding idles
  idle_not φ r e = ap not e

  module _ (φ ψ : Goal) (r : Bool) (e : r ≡ idles N s φ b) where
    pub idle_and_no : r ≡ false → false ≡ idles N s (conj k φ ψ) b
    unfolding idles
    idle_and_no f = λ i. (sym f ∙ e) i && idles N s ψ b

    pub idle_and_yes : r ≡ true → (q : Bool) → q ≡ idles N s ψ b → q ≡ idles N s (conj k φ ψ) b
    unfolding idles
    idle_and_yes f q h = λ i. (sym f ∙ e) i && h i

    pub idle_or_yes : r ≡ true → true ≡ idles N s (disj k φ ψ) b
    unfolding idles
    idle_or_yes f = λ i. (sym f ∙ e) i || idles N s ψ b

    pub idle_or_no : r ≡ false → (q : Bool) → q ≡ idles N s ψ b → q ≡ idles N s (disj k φ ψ) b
    unfolding idles
    idle_or_no f q h = λ i. (sym f ∙ e) i || h i

  module _ (w : Ends) (φ ψ : Goal) where
    abbrev rule : Bool → Bool
    rule c = cond c (idles N s ψ b) (idles N s φ b && idles N s ψ b)

    at-rule : (c : Bool) → eqb w.lower.hours 0 ≡ c → rule c ≡ idles N s (until k w φ ψ) b
    unfolding idles
    at-rule c e = ap rule (sym e)

    pub idle_until_now : w.lower.hours ≡ 0 → (q : Bool) → q ≡ idles N s ψ b → q ≡ idles N s (until k w φ ψ) b
    idle_until_now z q h = h ∙ at-rule true (eq-eqb w.lower.hours 0 z)

    module _ (late : w.lower.hours ≡ 0 → ⊥) (r : Bool) (e : r ≡ idles N s φ b) where
      pub idle-until-no : r ≡ false → false ≡ idles N s (until k w φ ψ) b
      idle-until-no f = (λ i. (sym f ∙ e) i && idles N s ψ b) ∙ at-rule false (ne_eqb w.lower.hours 0 late)

      pub idle-until-yes : r ≡ true → (q : Bool) → q ≡ idles N s ψ b → q ≡ idles N s (until k w φ ψ) b
      idle-until-yes f q h = (λ i. (sym f ∙ e) i && h i) ∙ at-rule false (ne_eqb w.lower.hours 0 late)

  module _ (v : Variable) (a : Atom) (φ : Goal) (r : Bool) where
    pub idle_all : r ≡ some (λ x. fact s (bind v x b) a) (λ x. agrees false (idles N s φ (bind v x b))) N → not r ≡ idles N s (for_all k v a φ) b
    unfolding idles
    idle_all e = ap not e ∙ none_untrue (λ x. fact s (bind v x b) a) (λ x. idles N s φ (bind v x b)) N

    pub idle_exists : r ≡ some (λ x. fact s (bind v x b) a) (λ x. agrees true (idles N s φ (bind v x b))) N → r ≡ idles N s (exists k v a φ) b
    unfolding idles
    idle_exists e = e
