-- The simplified joinings mean what they join.
use Rattle.std.proofs.Common.{◌≡◌, ℕ, zero, suc, ◌<◌, Bool, true, false, cond, ◌||◌, T, ◌↔◌, List, sym, refl, subst, arith}
use native.Mathlib.Decide.{dec_lt}
use mathlib.Core.Logic.Iff
use Rattle.goals.specs.declared.goal.Node.{Node}
use Rattle.labels.specs.Facts.{Facts}
use Rattle.labels.specs.Labels.{Label, true_label, false_label, pending, not_label, and_label, or_label}
use Rattle.labels.specs.Same.{same}
use Rattle.labels.specs.Joining.{negate, conjoin, disjoin, joined}
use Rattle.labels.specs.Truth.{Neither, LabelTrue}
use Rattle.labels.specs.Claims.{SimplifyingKeepsMeaning}
use Rattle.labels.proofs.Logic.{to_T, no_T}
use Rattle.labels.proofs.Same.{same-is}
use Rattle.labels.proofs.TwoValued.{label_stable}

module _ (N : ℕ) (state : ℕ → Facts) (hour : ℕ → ℕ) (table : List Node) (i : ℕ) where
  abbrev At : Label → Type 0
  At l = LabelTrue N state hour table l i

  at_true : At true_label
  unfolding LabelTrue
  at_true = tt

  not_false : ¬ (At false_label)
  unfolding LabelTrue
  not_false z = z

  stable : (l : Label) → ¬ (¬ (At l)) → At l
  stable l = label_stable N state hour table l i

  pub negate_true : (q : Label) → LabelTrue N state hour table (negate q) i ↔ (¬ (LabelTrue N state hour table q i))
  unfolding LabelTrue negate
  negate_true true_label = (λ z u. z, λ f. f tt)
  negate_true false_label = (λ u z. z, λ f. tt)
  negate_true (pending n b e) = Iff.rfl
  negate_true (not_label q) = (λ h n. n h, stable q)
  negate_true (and_label q r) = Iff.rfl
  negate_true (or_label q r) = Iff.rfl

  conjoin_cases : (q r : Label) (c d e f g : Bool) →
      same q false_label ≡ c → same r false_label ≡ d → same q true_label ≡ e → same r true_label ≡ f → same q r ≡ g →
      At (cond (c || d) false_label (cond e r (cond (f || g) q (and_label q r)))) ↔ (At q × At r)
  unfolding LabelTrue
  conjoin_cases q r true d e f g a b x y z = (λ h. absurd h, λ p. subst At (same-is q false_label a) p.0)
  conjoin_cases q r false true e f g a b x y z = (λ h. absurd h, λ p. subst At (same-is r false_label b) p.1)
  conjoin_cases q r false false true f g a b x y z = (λ h. (subst At (sym (same-is q true_label x)) tt, h), λ p. p.1)
  conjoin_cases q r false false false true g a b x y z = (λ h. (h, subst At (sym (same-is r true_label y)) tt), λ p. p.0)
  conjoin_cases q r false false false false true a b x y z = (λ h. (h, subst At (same-is q r z) h), λ p. p.0)
  conjoin_cases q r false false false false false a b x y z = Iff.rfl

  pub conjoin_true : (q r : Label) →
      LabelTrue N state hour table (conjoin q r) i ↔ (LabelTrue N state hour table q i × LabelTrue N state hour table r i)
  unfolding conjoin
  conjoin_true q r =
      conjoin_cases q r (same q false_label) (same r false_label) (same q true_label) (same r true_label) (same q r) refl refl refl refl refl

  disjoin_cases : (q r : Label) (c d e f g : Bool) →
      same q true_label ≡ c → same r true_label ≡ d → same q false_label ≡ e → same r false_label ≡ f → same q r ≡ g →
      At (cond (c || d) true_label (cond e r (cond (f || g) q (or_label q r)))) ↔ (¬ (Neither (At q) (At r)))
  unfolding LabelTrue
  disjoin_cases q r true d e f g a b x y z = (λ u n. n.0 (subst At (sym (same-is q true_label a)) tt), λ o. tt)
  disjoin_cases q r false true e f g a b x y z = (λ u n. n.1 (subst At (sym (same-is r true_label b)) tt), λ o. tt)
  disjoin_cases q r false false true f g a b x y z =
      (λ h n. n.1 h, λ o. stable r (λ n. o (λ h. subst At (same-is q false_label x) h, n)))
  disjoin_cases q r false false false true g a b x y z =
      (λ h n. n.0 h, λ o. stable q (λ n. o (n, λ h. subst At (same-is r false_label y) h)))
  disjoin_cases q r false false false false true a b x y z =
      (λ h n. n.0 h, λ o. stable q (λ n. o (n, λ h. n (subst At (sym (same-is q r z)) h))))
  disjoin_cases q r false false false false false a b x y z = Iff.rfl

  pub disjoin_true : (q r : Label) →
      LabelTrue N state hour table (disjoin q r) i
      ↔ (¬ (Neither (LabelTrue N state hour table q i) (LabelTrue N state hour table r i)))
  unfolding disjoin
  disjoin_true q r =
      disjoin_cases q r (same q true_label) (same r true_label) (same q false_label) (same r false_label) (same q r) refl refl refl refl refl

  module _ (range : ℕ → Bool) (item : ℕ → Label) where
    abbrev Each : ℕ → Type 0
    Each n = (x : ℕ) → x < n → T (range x) → At (item x)

    abbrev None : ℕ → Type 0
    None n = (x : ℕ) → x < n → T (range x) → ¬ (At (item x))

    -- the last id, or one before it
    last : (n x : ℕ) → x < suc n → ¬ (x < n) → x ≡ n
    last n x lt no_less = omega arith

    each_more : (n : ℕ) (c : Bool) (run : Label) → range n ≡ c → At run ↔ Each n →
        At (elim c [ true ↦ conjoin run (item n) | false ↦ run ]) ↔ Each (suc n)
    each_more n true run e ih = (
      (λ h x lt t. elim (dec_lt x n) [
        | yes l ↦ ih.0 ((conjoin_true run (item n)).0 h).0 x l t
        | no m ↦ subst (λ (y : ℕ). At (item y)) (sym (last n x lt m)) ((conjoin_true run (item n)).0 h).1
      ]),
      (λ f. (conjoin_true run (item n)).1 (ih.1 (λ x lt t. f x (omega arith) t), f n (omega arith) (to_T e))),
    )
    each_more n false run e ih = (
      (λ h x lt t. elim (dec_lt x n) [
        | yes l ↦ ih.0 h x l t
        | no m ↦ absurd (no_T e (subst (λ (y : ℕ). T (range y)) (last n x lt m) t))
      ]),
      (λ f. ih.1 (λ x lt t. f x (omega arith) t)),
    )

    pub each_true : (n : ℕ) →
        LabelTrue N state hour table (joined conjoin true_label range item n) i
        ↔ ((x : ℕ) → x < n → T (range x) → LabelTrue N state hour table (item x) i)
    unfolding joined
    each_true zero = (λ u x lt t. absurd (omega arith), λ f. at_true)
    each_true (suc n) = each_more n (range n) (joined conjoin true_label range item n) refl (each_true n)

    some_more : (n : ℕ) (c : Bool) (run : Label) → range n ≡ c → At run ↔ (¬ (None n)) →
        At (elim c [ true ↦ disjoin run (item n) | false ↦ run ]) ↔ (¬ (None (suc n)))
    some_more n true run e ih = (
      (λ h f. (disjoin_true run (item n)).0 h
          ((λ r. ih.0 r (λ x lt t. f x (omega arith) t)), f n (omega arith) (to_T e))),
      (λ f. (disjoin_true run (item n)).1 (λ p. f (λ x lt t k. elim (dec_lt x n) [
        | yes l ↦ p.0 (ih.1 (λ g. g x l t k))
        | no m ↦ p.1 (subst (λ (y : ℕ). At (item y)) (last n x lt m) k)
      ]))),
    )
    some_more n false run e ih = (
      (λ h f. ih.0 h (λ x lt t. f x (omega arith) t)),
      (λ f. ih.1 (λ g. f (λ x lt t k. elim (dec_lt x n) [
        | yes l ↦ g x l t k
        | no m ↦ no_T e (subst (λ (y : ℕ). T (range y)) (last n x lt m) t)
      ]))),
    )

    pub some_true : (n : ℕ) →
        LabelTrue N state hour table (joined disjoin false_label range item n) i
        ↔ (¬ ((x : ℕ) → x < n → T (range x) → ¬ (LabelTrue N state hour table (item x) i)))
    unfolding joined
    some_true zero = ((λ z f. not_false z), λ f. absurd (f (λ x lt t h. absurd (omega arith))))
    some_true (suc n) = some_more n (range n) (joined disjoin false_label range item n) refl (some_true n)

pub simplifying : SimplifyingKeepsMeaning
unfolding LabelTrue
simplifying N table state hour i =
    (negate_true N state hour table i, conjoin_true N state hour table i, disjoin_true N state hour table i)
