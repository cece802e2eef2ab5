-- The rules of the simplified joinings at two places of a table, from the parts that stand there.
use Rattle.std.proofs.Common.{◌≡◌, ℕ, ◌<◌, List, length, get_or, sym, refl, ap, ◌∙◌}
use Rattle.labels.specs.declared.connective.Connective.{Connective}
use Rattle.labels.specs.declared.connective.Connective.TheVariants.{And, Or}
use Rattle.labels.specs.declared.part.Part.{Part}
use Rattle.labels.specs.declared.part.Part.TheVariants.{True}
use Rattle.labels.specs.Labels.{Label}
use Rattle.labels.specs.Connectives.{join_by, start_of, absorbing_part, neutral_part, joined_part}
use Rattle.labels.specs.Table.{composed, label_at, InOrder, NoTwins}
use Rattle.labels.proofs.Rows.{one_place}
use Rattle.labels.proofs.Places.{label-at, not_true, not_false}
use Rattle.labels.proofs.Rules.{absorbing, joined_label, join_left_absorbing, join_right_absorbing, join_left_neutral, join_right_neutral, join_same, join_apart}

absorbing-is : (by : Connective) (f : ℕ → Label) → composed f (absorbing_part by) ≡ absorbing by
absorbing-is And f = refl
absorbing-is Or f = refl

pub neutral-is : (by : Connective) (f : ℕ → Label) → composed f (neutral_part by) ≡ start_of by
neutral-is And f = refl
neutral-is Or f = refl

joined-is : (by : Connective) (f : ℕ → Label) (i j : ℕ) → composed f (joined_part by i j) ≡ joined_label by (f i) (f j)
joined-is And f i j = refl
joined-is Or f i j = refl

module _ (by : Connective) (t : List Part) (order : InOrder t) where
  at_absorbing : (i : ℕ) → i < length t → get_or t i True ≡ absorbing_part by → label_at t i ≡ absorbing by
  at_absorbing i lt e = label-at t order i lt (absorbing_part by) e ∙ absorbing-is by (label_at t)

  at_neutral : (i : ℕ) → i < length t → get_or t i True ≡ neutral_part by → label_at t i ≡ start_of by
  at_neutral i lt e = label-at t order i lt (neutral_part by) e ∙ neutral-is by (label_at t)

not_absorbing : (by : Connective) (t : List Part) → InOrder t → (i : ℕ) → i < length t → ¬ (get_or t i True ≡ absorbing_part by) → ¬ (label_at t i ≡ absorbing by)
not_absorbing And t order i lt d = not_false t order i lt (get_or t i True) refl d
not_absorbing Or t order i lt d = not_true t order i lt (get_or t i True) refl d

not_neutral : (by : Connective) (t : List Part) → InOrder t → (i : ℕ) → i < length t → ¬ (get_or t i True ≡ neutral_part by) → ¬ (label_at t i ≡ start_of by)
not_neutral And t order i lt d = not_true t order i lt (get_or t i True) refl d
not_neutral Or t order i lt d = not_false t order i lt (get_or t i True) refl d

module _ (by : Connective) (t : List Part) (order : InOrder t) (i j : ℕ) (il : i < length t) (jl : j < length t) where
  pub left_absorbs : get_or t i True ≡ absorbing_part by → label_at t i ≡ join_by by (label_at t i) (label_at t j)
  left_absorbs e = let a = at_absorbing by t order i il e in a ∙ sym (join_left_absorbing by (label_at t i) (label_at t j) a)

  pub right_absorbs : get_or t j True ≡ absorbing_part by → label_at t j ≡ join_by by (label_at t i) (label_at t j)
  right_absorbs e = let a = at_absorbing by t order j jl e in a ∙ sym (join_right_absorbing by (label_at t i) (label_at t j) a)

  pub left_leaves : get_or t i True ≡ neutral_part by → label_at t j ≡ join_by by (label_at t i) (label_at t j)
  left_leaves e = sym (join_left_neutral by (label_at t i) (label_at t j) (at_neutral by t order i il e))

  pub right_leaves : get_or t j True ≡ neutral_part by → label_at t i ≡ join_by by (label_at t i) (label_at t j)
  right_leaves e = sym (join_right_neutral by (label_at t i) (label_at t j) (at_neutral by t order j jl e))

  pub one_label : i ≡ j → label_at t i ≡ join_by by (label_at t i) (label_at t j)
  one_label e = sym (join_same by (label_at t i) (label_at t j) (ap (label_at t) e))

  pub two_labels : NoTwins t → ¬ (get_or t i True ≡ absorbing_part by) → ¬ (get_or t j True ≡ absorbing_part by) →
      ¬ (get_or t i True ≡ neutral_part by) → ¬ (get_or t j True ≡ neutral_part by) → ¬ (i ≡ j) →
      composed (label_at t) (joined_part by i j) ≡ join_by by (label_at t i) (label_at t j)
  two_labels twins x y z w d =
      joined-is by (label_at t) i j
      ∙ sym (join_apart by (label_at t i) (label_at t j) (not_absorbing by t order i il x) (not_absorbing by t order j jl y)
      (not_neutral by t order i il z) (not_neutral by t order j jl w) (λ s. d (one_place t order twins i j il jl s)))
