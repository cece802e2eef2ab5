-- Lists without repetition, and how many distinct labels a list has.
use Rattle.std.proofs.Common.{◌≡◌, ◌<◌, ◌≤◌, Bool, true, false, cond, ◌||◌, T, ◌⊎◌, List, [], ◌∷◌, length, sym, refl, ◌∙◌, subst, inl, inr, arith}
use Rattle.labels.specs.Labels.{Label}
use Rattle.labels.specs.Same.{same}
use Rattle.labels.specs.Size.{member, distinct}
use Rattle.labels.specs.TableClaims.{Subset, Unique, UniqueListsCount, SameMeansEqual}
use Rattle.labels.proofs.Logic.{to_T, no_T}
use Rattle.labels.proofs.Same.{same-sound, same_refl}
use Rattle.labels.proofs.Members.{in_head, in_tail, in_cons, in_at}

without : Label → List Label → List Label
without y [] = []
without y (z ∷ zs) = elim (same y z) [ true ↦ without y zs | false ↦ z ∷ without y zs ]

without_fewer : (y : Label) (zs : List Label) → length (without y zs) ≤ length zs
unfolding without
without_fewer y [] = omega arith
without_fewer y (z ∷ zs) = go (same y z) (without_fewer y zs)
  where
    go : (c : Bool) → length (without y zs) ≤ length zs →
        length {A = Label} (elim c [ true ↦ without y zs | false ↦ z ∷ without y zs ]) ≤ length (z ∷ zs)
    go true h = omega arith
    go false h = omega arith

without_shorter : (y : Label) (zs : List Label) → T (member y zs) → length (without y zs) < length zs
unfolding without
without_shorter y [] t = absurd t
without_shorter y (z ∷ zs) t = go (same y z) (without_fewer y zs) (without_shorter y zs) t
  where
    go : (c : Bool) → length (without y zs) ≤ length zs →
        (T (member y zs) → length (without y zs) < length zs) → T (c || member y zs) →
        length {A = Label} (elim c [ true ↦ without y zs | false ↦ z ∷ without y zs ]) < length (z ∷ zs)
    go true h ih t = omega arith
    go false h ih t = let g = ih t in omega arith

without_keeps : (y l : Label) → ¬ (l ≡ y) → (zs : List Label) → T (member l zs) → T (member l (without y zs))
unfolding without
without_keeps y l n [] t = t
without_keeps y l n (z ∷ zs) t = go (same y z) refl (in_cons l z zs t) (without_keeps y l n zs)
  where
    go : (c : Bool) → same y z ≡ c → (l ≡ z) ⊎ T (member l zs) → (T (member l zs) → T (member l (without y zs))) →
        T (member l (elim c [ true ↦ without y zs | false ↦ z ∷ without y zs ]))
    go true e (inl p) ih = absurd (n (p ∙ sym (same-sound y z (to_T e))))
    go true e (inr u) ih = ih u
    go false e (inl p) ih = in_at (z ∷ without y zs) (sym p) (in_head z (without y zs))
    go false e (inr u) ih = in_tail l z (without y zs) (ih u)

-- a list without repetition is no longer than one that has all its labels
pub no_longer : (ys zs : List Label) → Unique ys → Subset ys zs → length ys ≤ length zs
no_longer [] zs u w = omega arith
no_longer (y ∷ ys) zs u w =
    let h = no_longer ys (without y zs) u.1
    (λ l t. without_keeps y l (λ e. u.0 (in_at ys e t)) zs (w l (in_tail l y ys t))) in
    let g = without_shorter y zs (w y (in_head y ys)) in
    omega arith

pub distinct_unique : (xs : List Label) → Unique (distinct xs)
unfolding distinct
distinct_unique [] = tt
distinct_unique (x ∷ xs) = go (member x (distinct xs)) refl (distinct_unique xs)
  where
    go : (c : Bool) → member x (distinct xs) ≡ c → Unique (distinct xs) → Unique (cond c (distinct xs) (x ∷ distinct xs))
    go true e u = u
    go false e u = (no_T e, u)

pub distinct-has : (xs : List Label) → Subset xs (distinct xs)
unfolding distinct
distinct-has [] l t = t
distinct-has (x ∷ xs) l t = go (member x (distinct xs)) refl (in_cons l x xs t) (distinct-has xs l)
  where
    go : (c : Bool) → member x (distinct xs) ≡ c → (l ≡ x) ⊎ T (member l xs) → (T (member l xs) → T (member l (distinct xs))) →
        T (member l (cond c (distinct xs) (x ∷ distinct xs)))
    go true e (inl p) ih = in_at (distinct xs) (sym p) (to_T e)
    go true e (inr u) ih = ih u
    go false e (inl p) ih = in_at (x ∷ distinct xs) (sym p) (in_head x (distinct xs))
    go false e (inr u) ih = in_tail l x (distinct xs) (ih u)

pub distinct-only : (xs : List Label) → Subset (distinct xs) xs
unfolding distinct
distinct-only [] l t = t
distinct-only (x ∷ xs) l t = go (member x (distinct xs)) (distinct-only xs l) t
  where
    go : (c : Bool) → (T (member l (distinct xs)) → T (member l xs)) →
        T (member l (cond c (distinct xs) (x ∷ distinct xs))) → T (member l (x ∷ xs))
    go true ih t = in_tail l x xs (ih t)
    go false ih t = elim (in_cons l x (distinct xs) t) [
      | inl p ↦ in_at (x ∷ xs) (sym p) (in_head x xs)
      | inr u ↦ in_tail l x xs (ih u)
    ]

pub counted : UniqueListsCount
counted xs ys u w = (
  no_longer ys (distinct xs) u (λ l t. distinct-has xs l (w l t)),
  (λ v.
      let a = no_longer ys (distinct xs) u (λ l t. distinct-has xs l (w l t)) in
      let b = no_longer (distinct xs) ys (distinct_unique xs) (λ l t. v l (distinct-only xs l t)) in
      omega arith),
)

-- more labels have no fewer distinct ones
pub distinct_fewer : (xs ys : List Label) → Subset xs ys → length (distinct xs) ≤ length (distinct ys)
distinct_fewer xs ys w = (counted ys (distinct xs) (distinct_unique xs) (λ l t. w l (distinct-only xs l t))).0

pub same_means_equal_lem : SameMeansEqual
same_means_equal_lem q r = (same-sound q r, λ e. subst (λ (l : Label). T (same q l)) e (same_refl q))
