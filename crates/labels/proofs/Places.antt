-- What the part at a place of a table tells of its label: whether it is TRUE or FALSE, and its "not".
use Rattle.std.proofs.Common.{◌≡◌, ℕ, ◌<◌, true, false, List, length, get_or, sym, refl, ap, ◌∙◌}
use mathlib.Core.Bool.{false≢true}
use Rattle.labels.specs.declared.part.Part.{Part}
use Rattle.labels.specs.declared.part.Part.TheVariants.{True, False, Pending, Not, And, Or}
use Rattle.labels.specs.Labels.{Label, true_label, false_label, not_label}
use Rattle.labels.specs.Same.{same}
use Rattle.labels.specs.Joining.{negate}
use Rattle.labels.specs.Table.{composed, label_at, InOrder, NoTwins}
use Rattle.labels.proofs.Same.{same_true, same_false}
use Rattle.labels.proofs.Rows.{label_of, one_place}

true_composed : (f : ℕ → Label) (p : Part) → ¬ (p ≡ True) → same (composed f p) true_label ≡ false
unfolding same
true_composed f True d = absurd (d refl)
true_composed f False d = refl
true_composed f (Pending n b e) d = refl
true_composed f (Not x) d = refl
true_composed f (And x y) d = refl
true_composed f (Or x y) d = refl

false_composed : (f : ℕ → Label) (p : Part) → ¬ (p ≡ False) → same (composed f p) false_label ≡ false
unfolding same
false_composed f True d = refl
false_composed f False d = absurd (d refl)
false_composed f (Pending n b e) d = refl
false_composed f (Not x) d = refl
false_composed f (And x y) d = refl
false_composed f (Or x y) d = refl

negate-composed : (f : ℕ → Label) (p : Part) → ¬ (p ≡ True) → ¬ (p ≡ False) → ((x : ℕ) → ¬ (p ≡ Not x)) →
    negate (composed f p) ≡ not_label (composed f p)
unfolding negate
negate-composed f True t u v = absurd (t refl)
negate-composed f False t u v = absurd (u refl)
negate-composed f (Pending n b e) t u v = refl
negate-composed f (Not x) t u v = absurd (v x refl)
negate-composed f (And x y) t u v = refl
negate-composed f (Or x y) t u v = refl

pub negate_true : (q : Label) → q ≡ true_label → false_label ≡ negate q
unfolding negate
negate_true q e = ap negate (sym e)

pub negate_false : (q : Label) → q ≡ false_label → true_label ≡ negate q
unfolding negate
negate_false q e = ap negate (sym e)

pub negate-not : (q r : Label) → q ≡ not_label r → r ≡ negate q
unfolding negate
negate-not q r e = ap negate (sym e)

module _ (table : List Part) (order : InOrder table) (i : ℕ) (lt : i < length table) (p : Part) (here : get_or table i True ≡ p) where
  pub label-at : label_at table i ≡ composed (label_at table) p
  label-at = label_of table order i lt ∙ ap (composed (label_at table)) here

  pub not_true_at : ¬ (p ≡ True) → same (label_at table i) true_label ≡ false
  not_true_at d = ap (λ (l : Label). same l true_label) label-at ∙ true_composed (label_at table) p d

  pub not_false_at : ¬ (p ≡ False) → same (label_at table i) false_label ≡ false
  not_false_at d = ap (λ (l : Label). same l false_label) label-at ∙ false_composed (label_at table) p d

  pub not_true : ¬ (p ≡ True) → ¬ (label_at table i ≡ true_label)
  not_true d e = false≢true (sym (not_true_at d) ∙ same_true (label_at table i) true_label e)

  pub not_false : ¬ (p ≡ False) → ¬ (label_at table i ≡ false_label)
  not_false d e = false≢true (sym (not_false_at d) ∙ same_true (label_at table i) false_label e)

  pub negate-at : ¬ (p ≡ True) → ¬ (p ≡ False) → ((x : ℕ) → ¬ (p ≡ Not x)) → negate (label_at table i) ≡ not_label (label_at table i)
  negate-at t u v = ap negate label-at ∙ (negate-composed (label_at table) p t u v ∙ ap not_label (sym label-at))

-- at one place stands one label, at two places two
module _ (table : List Part) (order : InOrder table) (twins : NoTwins table) (i j : ℕ) where
  pub same_place : i ≡ j → same (label_at table i) (label_at table j) ≡ true
  same_place e = same_true (label_at table i) (label_at table j) (ap (label_at table) e)

  pub other_place : i < length table → j < length table → ¬ (i ≡ j) → same (label_at table i) (label_at table j) ≡ false
  other_place il jl d = same_false (label_at table i) (label_at table j) (λ e. d (one_place table order twins i j il jl e))
