-- The test for the same label finds exactly equal labels.
use native.Mathlib.Decide.{ℕ_discrete}
use Rattle.std.proofs.Common.{◌≡◌, Bool, true, false, T, sym, refl, ap, ◌∙◌}
use Rattle.labels.specs.Labels.{Label, label-discrete}
use Rattle.labels.specs.Same.{same, binding_discrete, ends_discrete}
use Rattle.labels.proofs.Logic.{to_T, is_true}

pub same-sound : (q r : Label) → T (same q r) → q ≡ r
unfolding same
same-sound q r t = go (label-discrete ℕ_discrete binding_discrete ends_discrete q r) t
  where
    go : (d : Dec (q ≡ r)) → T (elim d as (λ x. Bool) [ yes p ↦ true | no n ↦ false ]) → q ≡ r
    go (yes p) t = p
    go (no n) t = absurd t

pub same_refl : (q : Label) → T (same q q)
unfolding same
same_refl q = go (label-discrete ℕ_discrete binding_discrete ends_discrete q q)
  where
    go : (d : Dec (q ≡ q)) → T (elim d as (λ x. Bool) [ yes p ↦ true | no n ↦ false ])
    go (yes p) = tt
    go (no n) = n refl

pub same-is : (q r : Label) → same q r ≡ true → q ≡ r
same-is q r e = same-sound q r (to_T e)

pub same_true : (q r : Label) → q ≡ r → same q r ≡ true
same_true q r e = ap (same q) (sym e) ∙ is_true (same q q) (same_refl q)

pub same_false : (q r : Label) → ¬ (q ≡ r) → same q r ≡ false
same_false q r d = go (same q r) refl
  where
    go : (c : Bool) → same q r ≡ c → c ≡ false
    go true e = absurd (d (same-is q r e))
    go false e = refl
