-- The labels of a table of parts: each is composed of those of its own parts, and equal labels stand at one place.
use Rattle.std.proofs.Common.{◌≡◌, ℕ, zero, suc, ◌+◌, ◌<◌, ◌≤◌, Bool, true, false, ◌&&◌, T, eqb, ltb, List, ◌∷◌, ◌++◌, length, get_or, sym, refl, ap, ◌∙◌, subst, ap₂, inl, inr, arith, eqb→eq, ltb-true, eqb-true}
use native.Mathlib.Decide.{dec_lt}
use borrow.Author.Tests.{eqb-false}
use Rattle.std.proofs.lemmas.Bool.{and_parts}
use Rattle.labels.specs.declared.part.Part.{Part}
use Rattle.labels.specs.declared.part.Part.TheVariants.{True, False, Pending, Not, And, Or}
use Rattle.labels.specs.Labels.{Label, true_label, false_label, pending, not_label, and_label, or_label, parts}
use Rattle.labels.specs.Size.{member, size}
use Rattle.labels.specs.Table.{composed, label_below, label_at, first_rows, rows, before, InOrder, NoTwins, names, Compact}
use Rattle.labels.specs.TableClaims.{Subset, Unique, LabelsStandOnce, TablesTellSize}
use Rattle.labels.proofs.Logic.{T_stable, or_cases}
use Rattle.labels.proofs.Members.{in_head, in_tail, in_cons, in_one, in_at, in_left, in_right, in_cases, own-part, part-of-part}
use Rattle.labels.proofs.Counting.{counted}

pub both_below : (x y k : ℕ) → ltb x k && ltb y k ≡ true → (x < k) × (y < k)
both_below x y k e = let h = and_parts (ltb x k) (ltb y k) e in (ltb-true x k h.0, ltb-true y k h.1)

pub composed_agree : (f g : ℕ → Label) (k : ℕ) (p : Part) → before k p ≡ true → ((x : ℕ) → x < k → f x ≡ g x) → composed f p ≡ composed g p
composed_agree f g k True b e = refl
composed_agree f g k False b e = refl
composed_agree f g k (Pending n c w) b e = refl
composed_agree f g k (Not x) b e = ap not_label (e x (ltb-true x k b))
composed_agree f g k (And x y) b e = let h = both_below x y k b in ap₂ and_label (e x h.0) (e y h.1)
composed_agree f g k (Or x y) b e = let h = both_below x y k b in ap₂ or_label (e x h.0) (e y h.1)

-- the step at a number: its own part, or what stands below it
pick : (n k : ℕ) (own other : Label) (c : Bool) → eqb k n ≡ c →
    (k ≡ n → elim c as (λ x. Label) [ true ↦ own | false ↦ other ] ≡ own)
    × ((k ≡ n → ⊥) → elim c as (λ x. Label) [ true ↦ own | false ↦ other ] ≡ other)
pick n k own other true e = ((λ p. refl), λ d. absurd (d (eqb-true k n e)))
pick n k own other false e = ((λ p. absurd (eqb-false k n e p)), λ d. refl)

module _ (table : List Part) where
  below-kept : (n k : ℕ) → k < n → label_below table (suc n) k ≡ label_below table n k
  unfolding label_below
  below-kept n k lt = (pick n k _ _ (eqb k n) refl).1 (λ e. omega arith)

  newest : (k : ℕ) → label_at table k ≡ composed (label_below table k) (get_or table k True)
  unfolding label_below label_at
  newest k = (pick k k _ _ (eqb k k) refl).0 refl

  below : (n k : ℕ) → k < n → label_below table n k ≡ label_at table k
  unfolding label_at
  below zero k lt = absurd (omega arith)
  below (suc n) k lt = elim (dec_lt k n) [
    | yes l ↦ below-kept n k l ∙ below n k l
    | no m ↦ let e : n ≡ k = omega arith in ap (λ (j : ℕ). label_below table (suc j) k) e
  ]

  row_in : (n k : ℕ) → k < n → T (member (label_at table k) (first_rows table n))
  unfolding first_rows
  row_in zero k lt = absurd (omega arith)
  row_in (suc n) k lt = elim (dec_lt k n) [
    | yes l ↦ in_tail (label_at table k) (label_at table n) (first_rows table n) (row_in n k l)
    | no m ↦ let e : n ≡ k = omega arith in
        in_at (label_at table n ∷ first_rows table n) (ap (label_at table) e) (in_head (label_at table n) (first_rows table n))
  ]

  pub row_out : (n : ℕ) (l : Label) → T (member l (first_rows table n)) → (k : ℕ) × (k < n) × (l ≡ label_at table k)
  unfolding first_rows
  row_out zero l t = absurd t
  row_out (suc n) l t = elim (in_cons l (label_at table n) (first_rows table n) t) [
    | inl e ↦ (n, omega arith, e)
    | inr u ↦ let h = row_out n l u in (h.0, omega (arith, h.1), h.2)
  ]

  rows-length : (n : ℕ) → length (first_rows table n) ≡ n
  unfolding first_rows
  rows-length zero = refl
  rows-length (suc n) = ap suc (rows-length n)

pub has_row : (table : List Part) (k : ℕ) → k < length table → T (member (label_at table k) (rows table))
unfolding rows
has_row table k lt = row_in table (length table) k lt

pub row_is : (table : List Part) (l : Label) → T (member l (rows table)) → (k : ℕ) × (k < length table) × (l ≡ label_at table k)
unfolding rows
row_is table l t = row_out table (length table) l t

pub rows_many : (table : List Part) → length (rows table) ≡ length table
unfolding rows
rows_many table = rows-length table (length table)

-- what stands below n decides the labels below n
below_agree : (t u : List Part) (n k : ℕ) → ((j : ℕ) → j < n → get_or u j True ≡ get_or t j True) → label_below u n k ≡ label_below t n k
unfolding label_below
below_agree t u zero k h = refl
below_agree t u (suc n) k h = go (λ k. below_agree t u n k (λ j l. h j (omega arith))) (eqb k n)
  where
    go : ((k : ℕ) → label_below u n k ≡ label_below t n k) → (c : Bool) →
        ◌≡◌ {A = Label} (elim c [ true ↦ composed (label_below u n) (get_or u n True) | false ↦ label_below u n k ])
        (elim c [ true ↦ composed (label_below t n) (get_or t n True) | false ↦ label_below t n k ])
    go ih true = ap₂ composed (λ i j. ih j i) (h n (omega arith))
    go ih false = ih k

-- a longer table keeps its labels
pub label_kept : (t u : List Part) → ((j : ℕ) → j < length t → get_or u j True ≡ get_or t j True) →
    (k : ℕ) → k < length t → label_at u k ≡ label_at t k
unfolding label_at
label_kept t u h k lt = below_agree t u (suc k) k (λ j l. h j (omega arith))

-- equal labels come from equal parts, if equal labels below them come from equal numbers
module _ (f : ℕ → Label) (j k : ℕ) where
  pub apart : (d e : Part) → before j d ≡ true → before k e ≡ true →
      ((x y : ℕ) → x < j → y < k → f x ≡ f y → x ≡ y) → composed f d ≡ composed f e → d ≡ e
  apart True True a b h p = refl
  apart True False a b h p = let z : ◌≡◌ {A = ℕ} 0 1 = cc in absurd (omega arith)
  apart True (Pending n c w) a b h p = let z : ◌≡◌ {A = ℕ} 0 1 = cc in absurd (omega arith)
  apart True (Not x) a b h p = let z : ◌≡◌ {A = ℕ} 0 1 = cc in absurd (omega arith)
  apart True (And x y) a b h p = let z : ◌≡◌ {A = ℕ} 0 1 = cc in absurd (omega arith)
  apart True (Or x y) a b h p = let z : ◌≡◌ {A = ℕ} 0 1 = cc in absurd (omega arith)
  apart False True a b h p = let z : ◌≡◌ {A = ℕ} 0 1 = cc in absurd (omega arith)
  apart False False a b h p = refl
  apart False (Pending n c w) a b h p = let z : ◌≡◌ {A = ℕ} 0 1 = cc in absurd (omega arith)
  apart False (Not x) a b h p = let z : ◌≡◌ {A = ℕ} 0 1 = cc in absurd (omega arith)
  apart False (And x y) a b h p = let z : ◌≡◌ {A = ℕ} 0 1 = cc in absurd (omega arith)
  apart False (Or x y) a b h p = let z : ◌≡◌ {A = ℕ} 0 1 = cc in absurd (omega arith)
  apart (Pending n c w) True a b h p = let z : ◌≡◌ {A = ℕ} 0 1 = cc in absurd (omega arith)
  apart (Pending n c w) False a b h p = let z : ◌≡◌ {A = ℕ} 0 1 = cc in absurd (omega arith)
  apart (Pending n c w) (Pending m d v) a b h p =
      let e₁ : n ≡ m = cc in let e₂ : c ≡ d = cc in let e₃ : w ≡ v = cc in cc
  apart (Pending n c w) (Not x) a b h p = let z : ◌≡◌ {A = ℕ} 0 1 = cc in absurd (omega arith)
  apart (Pending n c w) (And x y) a b h p = let z : ◌≡◌ {A = ℕ} 0 1 = cc in absurd (omega arith)
  apart (Pending n c w) (Or x y) a b h p = let z : ◌≡◌ {A = ℕ} 0 1 = cc in absurd (omega arith)
  apart (Not u) True a b h p = let z : ◌≡◌ {A = ℕ} 0 1 = cc in absurd (omega arith)
  apart (Not u) False a b h p = let z : ◌≡◌ {A = ℕ} 0 1 = cc in absurd (omega arith)
  apart (Not u) (Pending n c w) a b h p = let z : ◌≡◌ {A = ℕ} 0 1 = cc in absurd (omega arith)
  apart (Not u) (Not x) a b h p = let q : f u ≡ f x = cc in ap Not (h u x (ltb-true u j a) (ltb-true x k b) q)
  apart (Not u) (And x y) a b h p = let z : ◌≡◌ {A = ℕ} 0 1 = cc in absurd (omega arith)
  apart (Not u) (Or x y) a b h p = let z : ◌≡◌ {A = ℕ} 0 1 = cc in absurd (omega arith)
  apart (And u v) True a b h p = let z : ◌≡◌ {A = ℕ} 0 1 = cc in absurd (omega arith)
  apart (And u v) False a b h p = let z : ◌≡◌ {A = ℕ} 0 1 = cc in absurd (omega arith)
  apart (And u v) (Pending n c w) a b h p = let z : ◌≡◌ {A = ℕ} 0 1 = cc in absurd (omega arith)
  apart (And u v) (Not x) a b h p = let z : ◌≡◌ {A = ℕ} 0 1 = cc in absurd (omega arith)
  apart (And u v) (And x y) a b h p =
      let q : f u ≡ f x = cc in let r : f v ≡ f y = cc in
      let s = both_below u v j a in let t = both_below x y k b in ap₂ And (h u x s.0 t.0 q) (h v y s.1 t.1 r)
  apart (And u v) (Or x y) a b h p = let z : ◌≡◌ {A = ℕ} 0 1 = cc in absurd (omega arith)
  apart (Or u v) True a b h p = let z : ◌≡◌ {A = ℕ} 0 1 = cc in absurd (omega arith)
  apart (Or u v) False a b h p = let z : ◌≡◌ {A = ℕ} 0 1 = cc in absurd (omega arith)
  apart (Or u v) (Pending n c w) a b h p = let z : ◌≡◌ {A = ℕ} 0 1 = cc in absurd (omega arith)
  apart (Or u v) (Not x) a b h p = let z : ◌≡◌ {A = ℕ} 0 1 = cc in absurd (omega arith)
  apart (Or u v) (And x y) a b h p = let z : ◌≡◌ {A = ℕ} 0 1 = cc in absurd (omega arith)
  apart (Or u v) (Or x y) a b h p =
      let q : f u ≡ f x = cc in let r : f v ≡ f y = cc in
      let s = both_below u v j a in let t = both_below x y k b in ap₂ Or (h u x s.0 t.0 q) (h v y s.1 t.1 r)

-- a part that names k has the label of k among the parts of its label
pub named-part : (f : ℕ → Label) (k : ℕ) (p : Part) → T (names k p) → T (member (f k) (parts (composed f p)))
unfolding parts
named-part f k True t = absurd t
named-part f k False t = absurd t
named-part f k (Pending n b e) t = absurd t
named-part f k (Not x) t =
    in_tail (f k) (not_label (f x)) (parts (f x))
    (subst (λ (y : ℕ). T (member (f k) (parts (f y)))) (eqb→eq k x t) (own-part (f k)))
named-part f k (And x y) t =
    in_tail (f k) (and_label (f x) (f y)) (parts (f x) ++ parts (f y)) (elim (or_cases (eqb k x) (eqb k y) t) [
      | inl u ↦ in_left (f k) (parts (f x)) (parts (f y))
          (subst (λ (z : ℕ). T (member (f k) (parts (f z)))) (eqb→eq k x u) (own-part (f k)))
      | inr u ↦ in_right (f k) (parts (f x)) (parts (f y))
          (subst (λ (z : ℕ). T (member (f k) (parts (f z)))) (eqb→eq k y u) (own-part (f k)))
    ])
named-part f k (Or x y) t =
    in_tail (f k) (or_label (f x) (f y)) (parts (f x) ++ parts (f y)) (elim (or_cases (eqb k x) (eqb k y) t) [
      | inl u ↦ in_left (f k) (parts (f x)) (parts (f y))
          (subst (λ (z : ℕ). T (member (f k) (parts (f z)))) (eqb→eq k x u) (own-part (f k)))
      | inr u ↦ in_right (f k) (parts (f x)) (parts (f y))
          (subst (λ (z : ℕ). T (member (f k) (parts (f z)))) (eqb→eq k y u) (own-part (f k)))
    ])

-- the parts of a composed label: itself, and those of the labels that its part names
part_cases : (f : ℕ → Label) (k : ℕ) (p : Part) → before k p ≡ true → (l : Label) → T (member l (parts (composed f p))) →
    (P : Type 0) → (l ≡ composed f p → P) → ((x : ℕ) → x < k → T (member l (parts (f x))) → P) → P
unfolding parts
part_cases f k True b l t P own part = own (in_one l true_label t)
part_cases f k False b l t P own part = own (in_one l false_label t)
part_cases f k (Pending n c w) b l t P own part = own (in_one l (pending n c w) t)
part_cases f k (Not x) b l t P own part = elim (in_cons l (not_label (f x)) (parts (f x)) t) [
  | inl e ↦ own e
  | inr u ↦ part x (ltb-true x k b) u
]
part_cases f k (And x y) b l t P own part =
    let h = both_below x y k b in
    elim (in_cons l (and_label (f x) (f y)) (parts (f x) ++ parts (f y)) t) [
      | inl e ↦ own e
      | inr u ↦ elim (in_cases l (parts (f x)) (parts (f y)) u) [ inl v ↦ part x h.0 v | inr v ↦ part y h.1 v ]
    ]
part_cases f k (Or x y) b l t P own part =
    let h = both_below x y k b in
    elim (in_cons l (or_label (f x) (f y)) (parts (f x) ++ parts (f y)) t) [
      | inl e ↦ own e
      | inr u ↦ elim (in_cases l (parts (f x)) (parts (f y)) u) [ inl v ↦ part x h.0 v | inr v ↦ part y h.1 v ]
    ]

module _ (table : List Part) (order : InOrder table) where
  -- the label of a part is composed of those of its own parts
  pub label_of : (k : ℕ) → k < length table → label_at table k ≡ composed (label_at table) (get_or table k True)
  label_of k lt =
      newest table k
      ∙ composed_agree (label_below table k) (label_at table) k (get_or table k True) (order k lt) (λ x l. below table k x l)

  closed : (n k : ℕ) → k < n → k < length table → Subset (parts (label_at table k)) (rows table)
  closed zero k kn kl l t = absurd (omega arith)
  closed (suc n) k kn kl l t =
      part_cases (label_at table) k (get_or table k True) (order k kl) l
      (subst (λ (z : Label). T (member l (parts z))) (label_of k kl) t) (T (member l (rows table)))
      (λ e. in_at (rows table) (label_of k kl ∙ sym e) (has_row table k kl))
      (λ x xk u. closed n x (omega arith) (omega arith) l u)

  -- a table has all parts of its labels
  pub has_parts : (k : ℕ) → k < length table → Subset (parts (label_at table k)) (rows table)
  has_parts k kl = closed (suc k) k (omega arith) kl

  module _ (twins : NoTwins table) where
    one : (n j k : ℕ) → j < n → j < length table → k < length table → label_at table j ≡ label_at table k → j ≡ k
    one zero j k lt jl kl e = absurd (omega arith)
    one (suc n) j k lt jl kl e =
        let equal : get_or table j True ≡ get_or table k True =
        apart (label_at table) j k (get_or table j True) (get_or table k True) (order j jl) (order k kl)
        (λ x y xl yl q. one n x y (omega arith) (omega arith) (omega arith) q)
        (sym (label_of j jl) ∙ (e ∙ label_of k kl)) in
        elim (dec_lt j k) [
          | yes l ↦ absurd (twins j k l kl equal)
          | no m ↦ elim (dec_lt k j) [ yes l ↦ absurd (twins k j l jl (sym equal)) | no m' ↦ omega arith ]
        ]

    pub one_place : (j k : ℕ) → j < length table → k < length table → label_at table j ≡ label_at table k → j ≡ k
    one_place j k jl kl e = one (suc j) j k (omega arith) jl kl e

    unique_to : (n : ℕ) → n ≤ length table → Unique (first_rows table n)
    unfolding first_rows
    unique_to zero le = tt
    unique_to (suc n) le = (
      (λ t. let h = row_out table n (label_at table n) t in
          let e : n ≡ h.0 = one_place n h.0 le (omega (arith, h.1)) h.2 in absurd (omega (arith, h.1, e))),
      unique_to n (omega arith),
    )

    pub rows_unique : Unique (rows table)
    unfolding rows
    rows_unique = unique_to (length table) (omega arith)

    -- a part that does not stand in a table has a label that it lacks
    pub new-label : (p : Part) → before (length table) p ≡ true → ((k : ℕ) → k < length table → get_or table k True ≡ p → ⊥) →
        ¬ (T (member (composed (label_at table) p) (rows table)))
    new-label p b none t =
        let h = row_is table (composed (label_at table) p) t in
        let kl : h.0 < length table = h.1 in
        none h.0 kl (sym (apart (label_at table) (length table) h.0 p (get_or table h.0 True) b (order h.0 kl)
        (λ x y xl yl q. one_place x y xl (omega arith) q) (h.2 ∙ label_of h.0 kl)))

    module _ (root : ℕ) (rl : root < length table) where
      tell : Subset (rows table) (parts (label_at table root)) → length table ≡ size (label_at table root)
      unfolding size
      tell w =
          sym (rows_many table) ∙ (counted (parts (label_at table root)) (rows table) rows_unique w).1 (has_parts root rl)

      -- in a compact table every part is reached from the last
      module _ (last : length table ≡ suc root) (compact : Compact table) where
        reach : (d k : ℕ) → root < k + d → k < length table → T (member (label_at table k) (parts (label_at table root)))
        reach zero k h kl = absurd (omega arith)
        reach (suc d) k h kl = elim (dec_lt k root) [
          | yes l ↦
              T_stable (member (label_at table k) (parts (label_at table root))) (λ n. compact k (omega arith) (λ j a b t.
              n (part-of-part (label_at table k) (label_at table j) (label_at table root)
              (subst (λ (z : Label). T (member (label_at table k) (parts z))) (sym (label_of j b))
              (named-part (label_at table) k (get_or table j True) t))
              (reach d j (omega arith) b))))
          | no m ↦
              let e : root ≡ k = omega arith in
              subst (λ (j : ℕ). T (member (label_at table j) (parts (label_at table root)))) e (own-part (label_at table root))
        ]

        reached : Subset (rows table) (parts (label_at table root))
        reached l t =
            let h = row_is table l t in
            in_at (parts (label_at table root)) (sym h.2) (reach (suc root) h.0 (omega arith) h.1)

pub stand_once : LabelsStandOnce
stand_once table order twins = one_place table order twins

pub tell_size_lem : TablesTellSize
tell_size_lem table order twins root rl = (
  tell table order twins root rl,
  (λ last compact. tell table order twins root rl (reached table order twins root rl last compact)),
)
