-- Members of lists of labels, and of lists gathered from the members of a list.
use Rattle.std.proofs.Common.{◌≡◌, T, ◌⊎◌, List, [], ◌∷◌, ◌++◌, sym, refl, subst, inl, inr}
use Rattle.labels.specs.Labels.{Label, true_label, false_label, pending, not_label, and_label, or_label, parts}
use Rattle.labels.specs.Same.{same}
use Rattle.labels.specs.Size.{member}
use Rattle.labels.specs.Work.{all_parts}
use Rattle.labels.specs.TableClaims.{Subset}
use Rattle.labels.proofs.Logic.{or_left, or_right, or_cases}
use Rattle.labels.proofs.Same.{same-sound, same_refl}

pub in_head : (l : Label) (xs : List Label) → T (member l (l ∷ xs))
in_head l xs = or_left (same l l) (member l xs) (same_refl l)

pub in_tail : (l x : Label) (xs : List Label) → T (member l xs) → T (member l (x ∷ xs))
in_tail l x xs t = or_right (same l x) (member l xs) t

pub in_cons : (l x : Label) (xs : List Label) → T (member l (x ∷ xs)) → (l ≡ x) ⊎ T (member l xs)
in_cons l x xs t = elim (or_cases (same l x) (member l xs) t) [ inl s ↦ inl (same-sound l x s) | inr u ↦ inr u ]

pub in_one : (l x : Label) → T (member l (x ∷ [])) → l ≡ x
in_one l x t = elim (in_cons l x [] t) [ inl e ↦ e | inr z ↦ absurd z ]

pub in_at : {x y : Label} (xs : List Label) → x ≡ y → T (member x xs) → T (member y xs)
in_at xs e t = subst (λ (z : Label). T (member z xs)) e t

pub in_left : (l : Label) (xs ys : List Label) → T (member l xs) → T (member l (xs ++ ys))
in_left l [] ys t = absurd t
in_left l (x ∷ xs) ys t = elim (or_cases (same l x) (member l xs) t) [
  | inl s ↦ or_left (same l x) (member l (xs ++ ys)) s
  | inr u ↦ or_right (same l x) (member l (xs ++ ys)) (in_left l xs ys u)
]

pub in_right : (l : Label) (xs ys : List Label) → T (member l ys) → T (member l (xs ++ ys))
in_right l [] ys t = t
in_right l (x ∷ xs) ys t = or_right (same l x) (member l (xs ++ ys)) (in_right l xs ys t)

pub in_cases : (l : Label) (xs ys : List Label) → T (member l (xs ++ ys)) → T (member l xs) ⊎ T (member l ys)
in_cases l [] ys t = inr t
in_cases l (x ∷ xs) ys t = elim (or_cases (same l x) (member l (xs ++ ys)) t) [
  | inl s ↦ inl (or_left (same l x) (member l xs) s)
  | inr s ↦ elim (in_cases l xs ys s) [
    | inl u ↦ inl (or_right (same l x) (member l xs) u)
    | inr u ↦ inr u
  ]
]

-- lists gathered from the members of a list go by its members
module _ (f : Label → List Label) (gather : List Label → List Label)
    (nil : gather [] ≡ []) (cons : (q : Label) (qs : List Label) → gather (q ∷ qs) ≡ f q ++ gather qs) where
  pub comes-from : (qs : List Label) (x : Label) → T (member x (gather qs)) → (q : Label) × T (member q qs) × T (member x (f q))
  comes-from [] x t = absurd (subst (λ (xs : List Label). T (member x xs)) nil t)
  comes-from (q ∷ qs) x t =
      elim (in_cases x (f q) (gather qs) (subst (λ (xs : List Label). T (member x xs)) (cons q qs) t)) [
        | inl u ↦ (q, in_head q qs, u)
        | inr u ↦ let h = comes-from qs x u in (h.0, in_tail h.0 q qs h.1, h.2)
      ]

  pub goes_into : (qs : List Label) (q x : Label) → T (member q qs) → T (member x (f q)) → T (member x (gather qs))
  goes_into [] q x t u = absurd t
  goes_into (p ∷ qs) q x t u = subst (λ (xs : List Label). T (member x xs)) (sym (cons p qs))
      (elim (in_cons q p qs t) [
        | inl e ↦ in_left x (f p) (gather qs) (subst (λ (y : Label). T (member x (f y))) e u)
        | inr s ↦ in_right x (f p) (gather qs) (goes_into qs q x s u)
      ])

  pub gathered : (ps qs : List Label) → Subset ps qs → Subset (gather ps) (gather qs)
  gathered ps qs w x t = let h = comes-from ps x t in goes_into qs h.0 x (w h.0 h.1) h.2

pub all_parts_subset : (xs ys : List Label) → Subset xs ys → Subset (all_parts xs) (all_parts ys)
unfolding all_parts
all_parts_subset = gathered parts all_parts refl (λ q qs. refl)

-- a label is a part of itself
pub own-part : (l : Label) → T (member l (parts l))
unfolding parts
own-part true_label = in_head true_label []
own-part false_label = in_head false_label []
own-part (pending n b e) = in_head (pending n b e) []
own-part (not_label q) = in_head (not_label q) (parts q)
own-part (and_label q r) = in_head (and_label q r) (parts q ++ parts r)
own-part (or_label q r) = in_head (or_label q r) (parts q ++ parts r)

-- parts of parts are parts
pub part-of-part : (x y l : Label) → T (member x (parts y)) → T (member y (parts l)) → T (member x (parts l))
unfolding parts
part-of-part x y true_label s t = subst (λ (z : Label). T (member x (parts z))) (in_one y true_label t) s
part-of-part x y false_label s t = subst (λ (z : Label). T (member x (parts z))) (in_one y false_label t) s
part-of-part x y (pending n b e) s t = subst (λ (z : Label). T (member x (parts z))) (in_one y (pending n b e) t) s
part-of-part x y (not_label q) s t = elim (in_cons y (not_label q) (parts q) t) [
  | inl e ↦ subst (λ (z : Label). T (member x (parts z))) e s
  | inr u ↦ in_tail x (not_label q) (parts q) (part-of-part x y q s u)
]
part-of-part x y (and_label q r) s t = elim (in_cons y (and_label q r) (parts q ++ parts r) t) [
  | inl e ↦ subst (λ (z : Label). T (member x (parts z))) e s
  | inr u ↦ in_tail x (and_label q r) (parts q ++ parts r) (elim (in_cases y (parts q) (parts r) u) [
    | inl v ↦ in_left x (parts q) (parts r) (part-of-part x y q s v)
    | inr v ↦ in_right x (parts q) (parts r) (part-of-part x y r s v)
  ])
]
part-of-part x y (or_label q r) s t = elim (in_cons y (or_label q r) (parts q ++ parts r) t) [
  | inl e ↦ subst (λ (z : Label). T (member x (parts z))) e s
  | inr u ↦ in_tail x (or_label q r) (parts q ++ parts r) (elim (in_cases y (parts q) (parts r) u) [
    | inl v ↦ in_left x (parts q) (parts r) (part-of-part x y q s v)
    | inr v ↦ in_right x (parts q) (parts r) (part-of-part x y r s v)
  ])
]
