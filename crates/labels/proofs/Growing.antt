-- A table grows step by step, by a part at its end; what it grows by goes by the set of labels alone.
use Rattle.std.proofs.Common.{◌≡◌, ℕ, suc, ◌<◌, ◌≤◌, true, T, ◌⊎◌, List, [], ◌∷◌, ◌++◌, length, get_or, sym, refl, ap, ◌∙◌, subst, inl, inr, arith}
use native.Mathlib.Decide.{dec_lt}
use Rattle.std.proofs.lemmas.List.{length_push, get_or_push, get_or_append_left}
use Rattle.labels.specs.declared.part.Part.{Part}
use Rattle.labels.specs.declared.part.Part.TheVariants.{True}
use Rattle.labels.specs.Labels.{Label, parts}
use Rattle.labels.specs.Size.{member, distinct, size}
use Rattle.labels.specs.Work.{all_parts, each_results, work}
use Rattle.labels.specs.Table.{composed, label_at, first_rows, rows, before, InOrder, NoTwins}
use Rattle.labels.specs.Growth.{Grew, Made, Over}
use Rattle.labels.specs.TableClaims.{Subset, GrowthTellsSize, GrowthTellsWork}
use Rattle.labels.proofs.Members.{in_cons, in_at, in_left, in_right, in_cases, all_parts_subset, own-part}
use Rattle.labels.proofs.Counting.{counted, distinct_fewer}
use Rattle.labels.proofs.Rows.{has_row, row_is, rows_many, label_kept, label_of, has_parts, composed_agree, rows_unique, new-label}
use Rattle.labels.proofs.Works.{results_subset}

-- the parts of the labels of two lists
parts_left : (a b : List Label) → Subset (all_parts a) (all_parts (a ++ b))
parts_left a b = all_parts_subset a (a ++ b) (λ l t. in_left l a b t)

parts_right : (a b : List Label) → Subset (all_parts b) (all_parts (a ++ b))
parts_right a b = all_parts_subset b (a ++ b) (λ l t. in_right l a b t)

parts_cases : (a b : List Label) (l : Label) → T (member l (all_parts (a ++ b))) → T (member l (all_parts a)) ⊎ T (member l (all_parts b))
unfolding all_parts
parts_cases [] b l t = inr t
parts_cases (x ∷ a) b l t = elim (in_cases l (parts x) (all_parts (a ++ b)) t) [
  | inl u ↦ inl (in_left l (parts x) (all_parts a) u)
  | inr u ↦ elim (parts_cases a b l u) [
    | inl v ↦ inl (in_right l (parts x) (all_parts a) v)
    | inr v ↦ inr v
  ]
]

parts_none : (l : Label) → ¬ (T (member l (all_parts [])))
unfolding all_parts
parts_none l t = t

-- the parts of one label
pub parts-one : (q l : Label) → T (member l (all_parts (q ∷ []))) → T (member l (parts q))
unfolding all_parts
parts-one q l t = elim (in_cases l (parts q) [] t) [ inl u ↦ u | inr z ↦ absurd z ]

pub one-parts : (q l : Label) → T (member l (parts q)) → T (member l (all_parts (q ∷ [])))
unfolding all_parts
one-parts q l t = in_left l (parts q) [] t

pub grew_none : (t : List Part) → Grew t t []
grew_none t = record {
  longer = omega arith;
  kept = λ k lt. refl;
  only = λ l u. in_left l (rows t) (all_parts []) u;
  all = λ l u. elim (in_cases l (rows t) (all_parts []) u) [ inl v ↦ v | inr v ↦ absurd (parts_none l v) ];
}

pub grew_then : {t u v : List Part} {a b : List Label} → Grew t u a → Grew u v b → Grew t v (a ++ b)
grew_then {t} {u} {v} {a} {b} g h = record {
  longer = let x = g.longer in let y = h.longer in omega arith;
  kept = λ k lt. let x = g.longer in h.kept k (omega arith) ∙ g.kept k lt;
  only = λ l m. elim (in_cases l (rows u) (all_parts b) (h.only l m)) [
    | inl n ↦ elim (in_cases l (rows t) (all_parts a) (g.only l n)) [
      | inl o ↦ in_left l (rows t) (all_parts (a ++ b)) o
      | inr o ↦ in_right l (rows t) (all_parts (a ++ b)) (parts_left a b l o)
    ]
    | inr n ↦ in_right l (rows t) (all_parts (a ++ b)) (parts_right a b l n)
  ];
  all = λ l m. h.all l (elim (in_cases l (rows t) (all_parts (a ++ b)) m) [
    | inl n ↦ in_left l (rows u) (all_parts b) (g.all l (in_left l (rows t) (all_parts a) n))
    | inr n ↦ elim (parts_cases a b l n) [
      | inl o ↦ in_left l (rows u) (all_parts b) (g.all l (in_right l (rows t) (all_parts a) o))
      | inr o ↦ in_right l (rows u) (all_parts b) o
    ]
  ]);
}

in_more : (xs a b : List Label) → Subset a b → Subset (xs ++ all_parts a) (xs ++ all_parts b)
in_more xs a b w l m = elim (in_cases l xs (all_parts a) m) [
  | inl n ↦ in_left l xs (all_parts b) n
  | inr n ↦ in_right l xs (all_parts b) (all_parts_subset a b w l n)
]

pub grew_same : {t u : List Part} {a : List Label} (b : List Label) → Subset a b → Subset b a → Grew t u a → Grew t u b
grew_same {t} {u} {a} b w v g = record {
  longer = g.longer;
  kept = g.kept;
  only = λ l m. in_more (rows t) a b w l (g.only l m);
  all = λ l m. g.all l (in_more (rows t) b a v l m);
}

-- a table that has grown keeps its labels
pub grew-label : {t u : List Part} {a : List Label} → Grew t u a → (k : ℕ) → k < length t → label_at u k ≡ label_at t k
grew-label {t} {u} {a} g k lt = label_kept t u g.kept k lt

pub over-same : {limit : ℕ} {t : List Part} {a : List Label} (b : List Label) → Subset a b → Over limit t a → Over limit t b
over-same {limit} {t} {a} b w o =
    let f = distinct_fewer (rows t ++ all_parts a) (rows t ++ all_parts b) (in_more (rows t) a b w) in
    record { over = omega (arith, o.over) }

-- more labels behind those that are too many
pub over_first : {limit : ℕ} {t : List Part} {a : List Label} (b : List Label) → Over limit t a → Over limit t (a ++ b)
over_first {limit} {t} {a} b o = over-same (a ++ b) (λ l m. in_left l a b m) o

pub over-then : {limit : ℕ} {t u : List Part} {a : List Label} (b : List Label) → Grew t u a → Over limit u b → Over limit t (a ++ b)
over-then {limit} {t} {u} {a} b g o =
    let f = distinct_fewer (rows u ++ all_parts b) (rows t ++ all_parts (a ++ b)) (λ l m.
    elim (in_cases l (rows u) (all_parts b) m) [
      | inl n ↦ elim (in_cases l (rows t) (all_parts a) (g.only l n)) [
        | inl p ↦ in_left l (rows t) (all_parts (a ++ b)) p
        | inr p ↦ in_right l (rows t) (all_parts (a ++ b)) (parts_left a b l p)
      ]
      | inr n ↦ in_right l (rows t) (all_parts (a ++ b)) (parts_right a b l n)
    ]) in
    record { over = omega (arith, o.over) }

-- a label that stands in a table adds nothing
pub stands : (t : List Part) → InOrder t → (q : Label) (i : ℕ) → i < length t → label_at t i ≡ q → Made t t q (q ∷ []) i
stands t order q i lt e = record {
  grew = record {
    longer = omega arith;
    kept = λ k l. refl;
    only = λ l m. in_left l (rows t) (all_parts (q ∷ [])) m;
    all = λ l m. elim (in_cases l (rows t) (all_parts (q ∷ [])) m) [
      | inl n ↦ n
      | inr n ↦ has_parts t order i lt l (subst (λ (x : Label). T (member l (parts x))) (sym e) (parts-one q l n))
    ];
  };
  within = lt;
  is = e;
}

-- a part that stands in a table
pub found : (t : List Part) → InOrder t → (p : Part) (i : ℕ) → i < length t → get_or t i True ≡ p →
    Made t t (composed (label_at t) p) (composed (label_at t) p ∷ []) i
found t order p i lt e = stands t order (composed (label_at t) p) i lt (label_of t order i lt ∙ ap (composed (label_at t)) e)

-- a part that does not stand in a table: the table is full, or gets it at its end
module _ (t : List Part) (order : InOrder t) (twins : NoTwins t) (p : Part) (b : before (length t) p ≡ true)
    (none : (k : ℕ) → k < length t → get_or t k True ≡ p → ⊥) where
  pub full : (limit : ℕ) → limit ≤ length t → Over limit t (composed (label_at t) p ∷ [])
  full limit le =
      let q : Label = composed (label_at t) p in
      let c = counted (rows t ++ all_parts (q ∷ [])) (q ∷ rows t) (new-label t order twins p b none, rows_unique t order twins)
      (λ l m. elim (in_cons l q (rows t) m) [
        | inl s ↦ in_right l (rows t) (all_parts (q ∷ [])) (one-parts q l (in_at (parts q) (sym s) (own-part q)))
        | inr s ↦ in_left l (rows t) (all_parts (q ∷ [])) s
      ]) in
      let n = rows_many t in
      record { over = omega (arith, c.0) }

  longer : length (t ++ p ∷ []) ≡ suc (length t)
  longer = length_push t p ∙ omega arith

  old_part : (k : ℕ) → k < length t → get_or (t ++ p ∷ []) k True ≡ get_or t k True
  old_part k lt = get_or_append_left t (p ∷ []) True k lt

  new-part : get_or (t ++ p ∷ []) (length t) True ≡ p
  new-part = get_or_push t p True (length t) refl

  pub pushed_order : InOrder (t ++ p ∷ [])
  pushed_order k lt = let e = longer in elim (dec_lt k (length t)) [
    | yes l ↦ ap (before k) (old_part k l) ∙ order k l
    | no m ↦ let f : k ≡ length t = omega arith in
        subst (λ (j : ℕ). before j (get_or (t ++ p ∷ []) j True) ≡ true) (sym f) (ap (before (length t)) new-part ∙ b)
  ]

  pub pushed_twins : NoTwins (t ++ p ∷ [])
  pushed_twins j k jk kl s = let e = longer in elim (dec_lt k (length t)) [
    | yes l ↦ twins j k jk l (sym (old_part j (omega arith)) ∙ (s ∙ old_part k l))
    | no m ↦ let f : k ≡ length t = omega arith in
        none j (omega arith) (sym (old_part j (omega arith)) ∙ (s ∙ (ap (λ (i : ℕ). get_or (t ++ p ∷ []) i True) f ∙ new-part)))
  ]

  pub pushed : Made t (t ++ p ∷ []) (composed (label_at t) p) (composed (label_at t) p ∷ []) (length t)
  pushed =
      let q : Label = composed (label_at t) p in
      let u : List Part = t ++ p ∷ [] in
      let e : length u ≡ suc (length t) = longer in
      let is : label_at u (length t) ≡ q =
      label_of u pushed_order (length t) (omega arith)
      ∙ (ap (composed (label_at u)) new-part
      ∙ composed_agree (label_at u) (label_at t) (length t) p b (λ c l. label_kept t u old_part c l)) in
      record {
        grew = record {
          longer = omega arith;
          kept = old_part;
          only = λ l m. let h = row_is u l m in elim (dec_lt h.0 (length t)) [
            | yes lt ↦ in_left l (rows t) (all_parts (q ∷ []))
                (in_at (rows t) (sym (h.2 ∙ label_kept t u old_part h.0 lt)) (has_row t h.0 lt))
            | no ge ↦ let f : h.0 ≡ length t = omega (arith, h.1) in
                in_right l (rows t) (all_parts (q ∷ [])) (one-parts q l
                (in_at (parts q) (sym (h.2 ∙ (ap (label_at u) f ∙ is))) (own-part q)))
          ];
          all = λ l m. elim (in_cases l (rows t) (all_parts (q ∷ [])) m) [
            | inl n ↦
                let h = row_is t l n in
                in_at (rows u) (label_kept t u old_part h.0 h.1 ∙ sym h.2) (has_row u h.0 (omega (arith, h.1)))
            | inr n ↦ has_parts u pushed_order (length t) (omega arith) l
                (subst (λ (x : Label). T (member l (parts x))) (sym is) (parts-one q l n))
          ];
        };
        within = omega arith;
        is = is;
      }

-- from an empty table
pub no_rows : (l : Label) → ¬ (T (member l (rows [])))
unfolding rows first_rows
no_rows l t = t

from_nothing : (a xs : List Label) → Subset (all_parts a) xs → Subset xs (all_parts a) →
    ((limit : ℕ) → Over limit [] a → limit < length (distinct xs))
    × ((new : List Part) → InOrder new → NoTwins new → Grew [] new a → length new ≡ length (distinct xs))
from_nothing a xs f g =
    let drop : Subset (rows [] ++ all_parts a) xs =
    λ l s. elim (in_cases l (rows []) (all_parts a) s) [ inl z ↦ absurd (no_rows l z) | inr u ↦ f l u ] in
    let back : Subset xs (rows [] ++ all_parts a) = λ l s. in_right l (rows []) (all_parts a) (g l s) in (
      (λ limit o. let h = distinct_fewer (rows [] ++ all_parts a) xs drop in omega (arith, o.over)),
      (λ new order twins gr.
          let c = counted xs (rows new) (rows_unique new order twins) (λ l s. drop l (gr.only l s)) in
          sym (rows_many new) ∙ c.1 (λ l s. gr.all l (back l s))),
    )

pub growth_tells-size : GrowthTellsSize
unfolding size
growth_tells-size q = from_nothing (q ∷ []) (parts q) (parts-one q) (one-parts q)

pub growth_tells-work : GrowthTellsWork
unfolding work
growth_tells-work N s D nodes t root order rl within =
    from_nothing (each_results N s D nodes (rows t)) (all_parts (each_results N s D nodes (parts (label_at t root))))
    (results_subset N s D nodes (rows t) (parts (label_at t root)) within)
    (results_subset N s D nodes (parts (label_at t root)) (rows t) (has_parts t order root rl))
