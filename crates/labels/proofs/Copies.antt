-- Marking what a label is made of, from its own part down, and copying what is marked, from the first part up.
use Rattle.std.proofs.Common.{◌≡◌, ℕ, zero, suc, ◌+◌, ◌<◌, ◌≤◌, Bool, true, false, ◌||◌, T, eqb, ltb, ◌⊎◌, List, [], ◌∷◌, ◌++◌, length, get_or, set, sym, refl, ap, ◌∙◌, subst, ap₂, inl, inr, add-one, arith, eqb→eq, ltb-true, lt-ltb}
use native.Mathlib.Decide.{dec_lt}
use mathlib.Core.Bool.{false≢true}
use lib.Dec.{eqb_refl}
use Rattle.std.proofs.lemmas.List.{length-set, get_or-set_same, get_or-set_other}
use Rattle.std.proofs.lemmas.Bool.{and_from}
use Rattle.labels.specs.declared.part.Part.{Part}
use Rattle.labels.specs.declared.part.Part.TheVariants.{True, False, Pending, Not, And, Or}
use Rattle.labels.specs.Labels.{Label, not_label, and_label, or_label, parts}
use Rattle.labels.specs.Size.{member}
use Rattle.labels.specs.Work.{all_parts}
use Rattle.labels.specs.Table.{composed, label_at, rows, before, InOrder, names}
use Rattle.labels.specs.Growth.{Grew, Made, Over}
use Rattle.labels.specs.Partwise.{moved}
use Rattle.labels.specs.Marks.{marked, Marking, kept, Copied}
use Rattle.labels.specs.TableClaims.{Subset}
use Rattle.labels.proofs.Logic.{or_left, or_right, or_cases}
use Rattle.labels.proofs.Members.{in_left, in_right, in_cases, all_parts_subset, own-part, part-of-part}
use Rattle.labels.proofs.Counting.{distinct_fewer}
use Rattle.labels.proofs.Rows.{both_below, label_of, named-part}
use Rattle.labels.proofs.Growing.{one-parts, grew_none, grew_then, grew_same, grew-label, over-then}
use Rattle.labels.proofs.Calls.{last-first, first-last}

-- marks after a write
module _ (marks : List Bool) where
  mark-new : (x j : ℕ) → x < length marks → j ≡ x → get_or (set marks x true) j false ≡ true
  mark-new x j lt e = ap (λ (i : ℕ). get_or (set marks x true) i false) e ∙ get_or-set_same marks x true false lt

  mark-keeps : (x j : ℕ) → x < length marks → get_or marks j false ≡ true → get_or (set marks x true) j false ≡ true
  mark-keeps x j lt e = elim (dec_lt j x) [
    | yes l ↦ get_or-set_other marks x j true false (λ f. omega arith) ∙ e
    | no m ↦ elim (dec_lt x j) [
      | yes l ↦ get_or-set_other marks x j true false (λ f. omega arith) ∙ e
      | no n ↦ mark-new x j lt (omega arith)
    ]
  ]

  mark-only : (x j : ℕ) → get_or (set marks x true) j false ≡ true → (get_or marks j false ≡ true) ⊎ (j ≡ x)
  mark-only x j e = elim (dec_lt j x) [
    | yes l ↦ inl (sym (get_or-set_other marks x j true false (λ f. omega arith)) ∙ e)
    | no m ↦ elim (dec_lt x j) [
      | yes l ↦ inl (sym (get_or-set_other marks x j true false (λ f. omega arith)) ∙ e)
      | no n ↦ inr (omega arith)
    ]
  ]

names-one : (j x : ℕ) → j ≡ x → T (eqb j x)
names-one j x e = subst (λ (i : ℕ). T (eqb j i)) e (eqb_refl j)

-- the marks of two own parts
module _ (marks : List Bool) (x y j : ℕ) where
  two-keeps : x < length marks → y < length marks → get_or marks j false ≡ true → get_or (set (set marks x true) y true) j false ≡ true
  two-keeps xl yl e =
      let n = length-set marks x true in
      mark-keeps (set marks x true) y j (omega arith) (mark-keeps marks x j xl e)

  two-new : x < length marks → y < length marks → T (eqb j x || eqb j y) → get_or (set (set marks x true) y true) j false ≡ true
  two-new xl yl t =
      let n = length-set marks x true in
      elim (or_cases (eqb j x) (eqb j y) t) [
        | inl u ↦ mark-keeps (set marks x true) y j (omega arith) (mark-new marks x j xl (eqb→eq j x u))
        | inr u ↦ mark-new (set marks x true) y j (omega arith) (eqb→eq j y u)
      ]

  two-only : get_or (set (set marks x true) y true) j false ≡ true → (get_or marks j false ≡ true) ⊎ T (eqb j x || eqb j y)
  two-only e = elim (mark-only (set marks x true) y j e) [
    | inl f ↦ elim (mark-only marks x j f) [
      | inl h ↦ inl h
      | inr h ↦ inr (or_left (eqb j x) (eqb j y) (names-one j x h))
    ]
    | inr f ↦ inr (or_right (eqb j x) (eqb j y) (names-one j y f))
  ]

module _ (marks : List Bool) (k : ℕ) (kl : k ≤ length marks) where
  marked-keeps : (p : Part) → before k p ≡ true → (j : ℕ) → get_or marks j false ≡ true → get_or (marked p marks) j false ≡ true
  marked-keeps True b j e = e
  marked-keeps False b j e = e
  marked-keeps (Pending n c w) b j e = e
  marked-keeps (Not x) b j e = let h = ltb-true x k b in mark-keeps marks x j (omega arith) e
  marked-keeps (And x y) b j e = let h = both_below x y k b in two-keeps marks x y j (omega (arith, h.0)) (omega (arith, h.1)) e
  marked-keeps (Or x y) b j e = let h = both_below x y k b in two-keeps marks x y j (omega (arith, h.0)) (omega (arith, h.1)) e

  marked-new : (p : Part) → before k p ≡ true → (j : ℕ) → T (names j p) → get_or (marked p marks) j false ≡ true
  marked-new True b j t = absurd t
  marked-new False b j t = absurd t
  marked-new (Pending n c w) b j t = absurd t
  marked-new (Not x) b j t = let h = ltb-true x k b in mark-new marks x j (omega arith) (eqb→eq j x t)
  marked-new (And x y) b j t = let h = both_below x y k b in two-new marks x y j (omega (arith, h.0)) (omega (arith, h.1)) t
  marked-new (Or x y) b j t = let h = both_below x y k b in two-new marks x y j (omega (arith, h.0)) (omega (arith, h.1)) t

marked-only : (marks : List Bool) (p : Part) (j : ℕ) → get_or (marked p marks) j false ≡ true → (get_or marks j false ≡ true) ⊎ T (names j p)
marked-only marks True j e = inl e
marked-only marks False j e = inl e
marked-only marks (Pending n c w) j e = inl e
marked-only marks (Not x) j e = elim (mark-only marks x j e) [ inl f ↦ inl f | inr f ↦ inr (names-one j x f) ]
marked-only marks (And x y) j e = two-only marks x y j e
marked-only marks (Or x y) j e = two-only marks x y j e

named-below : (k x : ℕ) (p : Part) → before k p ≡ true → T (names x p) → x < k
named-below k x True b t = absurd t
named-below k x False b t = absurd t
named-below k x (Pending n c w) b t = absurd t
named-below k x (Not y) b t = let h = ltb-true y k b in let e = eqb→eq x y t in omega arith
named-below k x (And y z) b t =
    let h = both_below y z k b in
    elim (or_cases (eqb x y) (eqb x z) t)
    [ inl u ↦ let e = eqb→eq x y u in omega (arith, h.0) | inr u ↦ let e = eqb→eq x z u in omega (arith, h.1) ]
named-below k x (Or y z) b t =
    let h = both_below y z k b in
    elim (or_cases (eqb x y) (eqb x z) t)
    [ inl u ↦ let e = eqb→eq x y u in omega (arith, h.0) | inr u ↦ let e = eqb→eq x z u in omega (arith, h.1) ]

-- what the copies of own parts make of a part
module _ (to : List ℕ) (f g : ℕ → Label) (n : ℕ) where
  abbrev Copies : Part → Type 0
  Copies p = (x : ℕ) → T (names x p) → (get_or to x 0 < n) × (g (get_or to x 0) ≡ f x)

  copies_early : (p : Part) → Copies p → before n (moved to p) ≡ true
  copies_early True h = refl
  copies_early False h = refl
  copies_early (Pending m c w) h = refl
  copies_early (Not x) h = lt-ltb (get_or to x 0) n (h x (names-one x x refl)).0
  copies_early (And x y) h =
      and_from (ltb (get_or to x 0) n) (ltb (get_or to y 0) n)
      (lt-ltb (get_or to x 0) n (h x (or_left (eqb x x) (eqb x y) (names-one x x refl))).0)
      (lt-ltb (get_or to y 0) n (h y (or_right (eqb y x) (eqb y y) (names-one y y refl))).0)
  copies_early (Or x y) h =
      and_from (ltb (get_or to x 0) n) (ltb (get_or to y 0) n)
      (lt-ltb (get_or to x 0) n (h x (or_left (eqb x x) (eqb x y) (names-one x x refl))).0)
      (lt-ltb (get_or to y 0) n (h y (or_right (eqb y x) (eqb y y) (names-one y y refl))).0)

  copies-label : (p : Part) → Copies p → composed g (moved to p) ≡ composed f p
  copies-label True h = refl
  copies-label False h = refl
  copies-label (Pending m c w) h = refl
  copies-label (Not x) h = ap not_label (h x (names-one x x refl)).1
  copies-label (And x y) h =
      ap₂ and_label (h x (or_left (eqb x x) (eqb x y) (names-one x x refl))).1 (h y (or_right (eqb y x) (eqb y y) (names-one y y refl))).1
  copies-label (Or x y) h =
      ap₂ or_label (h x (or_left (eqb x x) (eqb x y) (names-one x x refl))).1 (h y (or_right (eqb y x) (eqb y y) (names-one y y refl))).1

module _ (t : List Part) (order : InOrder t) (root : ℕ) (rl : root < length t) where
  pub mark-root : (marks : List Bool) → root < length marks → ((j : ℕ) → get_or marks j false ≡ false) →
      Marking t root (suc root) (set marks root true)
  mark-root marks lt none = record {
    inside = λ j e. let f = only j e in omega arith;
    sound = λ j e. subst (λ (i : ℕ). T (member (label_at t i) (parts (label_at t root)))) (sym (only j e)) (own-part (label_at t root));
    top = mark-new marks root root lt refl;
    closed = λ j le e. let f = only j e in absurd (omega arith);
  }
    where
      only : (j : ℕ) → get_or (set marks root true) j false ≡ true → j ≡ root
      only j e = elim (mark-only marks root j e) [ inl f ↦ absurd (false≢true (sym (none j) ∙ f)) | inr f ↦ f ]

  pub mark_skip : (marks : List Bool) (k : ℕ) → get_or marks k false ≡ false → Marking t root (suc k) marks → Marking t root k marks
  mark_skip marks k e m = record {
    inside = m.inside;
    sound = m.sound;
    top = m.top;
    closed = λ j le f. elim (dec_lt k j) [
      | yes l ↦ m.closed j l f
      | no x ↦ let h : j ≡ k = omega arith in absurd (false≢true (sym e ∙ (ap (λ (i : ℕ). get_or marks i false) (sym h) ∙ f)))
    ];
  }

  pub mark-more : (marks : List Bool) (k : ℕ) → k ≤ root → root < length marks → get_or marks k false ≡ true →
      (p : Part) → get_or t k True ≡ p → Marking t root (suc k) marks → Marking t root k (marked p marks)
  mark-more marks k kr ml e p here m =
      let b : before k p ≡ true = ap (before k) (sym here) ∙ order k (omega arith) in
      let is : label_at t k ≡ composed (label_at t) p = label_of t order k (omega arith) ∙ ap (composed (label_at t)) here in
      record {
        inside = λ j f. elim (marked-only marks p j f) [
          | inl h ↦ m.inside j h
          | inr h ↦ let l = named-below k j p b h in omega arith
        ];
        sound = λ j f. elim (marked-only marks p j f) [
          | inl h ↦ m.sound j h
          | inr h ↦ part-of-part (label_at t j) (label_at t k) (label_at t root)
              (subst (λ (l : Label). T (member (label_at t j) (parts l))) (sym is) (named-part (label_at t) j p h)) (m.sound k e)
        ];
        top = marked-keeps marks k (omega arith) p b root m.top;
        closed = λ j le f x c. elim (dec_lt k j) [
          | yes l ↦ elim (marked-only marks p j f) [
            | inl h ↦ marked-keeps marks k (omega arith) p b x (m.closed j l h x c)
            | inr h ↦ let q = named-below k j p b h in absurd (omega arith)
          ]
          | no n ↦ let h : j ≡ k = omega arith in
              marked-new marks k (omega arith) p b x (subst (λ (y : Part). T (names x y)) (ap (λ (i : ℕ). get_or t i True) h ∙ here) c)
        ];
      }

  -- copying
  module _ (marks : List Bool) (marking : Marking t root 0 marks) where
    kept_step : (n : ℕ) (c : Bool) → get_or marks n false ≡ c →
        elim c as (λ x. List Label) [ true ↦ label_at t n ∷ kept t marks n | false ↦ kept t marks n ] ≡ kept t marks (n + 1)
    unfolding kept
    kept_step n c e =
        ap (λ (b : Bool). elim b as (λ x. List Label) [ true ↦ label_at t n ∷ kept t marks n | false ↦ kept t marks n ]) (sym e)
        ∙ ap (kept t marks) (sym (add-one n))

    kept_in : (n : ℕ) → Subset (all_parts (kept t marks n)) (parts (label_at t root))
    unfolding kept all_parts
    kept_in zero l s = absurd s
    kept_in (suc n) l s = go (get_or marks n false) refl (kept_in n l) s
      where
        go : (b : Bool) → get_or marks n false ≡ b → (T (member l (all_parts (kept t marks n))) → T (member l (parts (label_at t root)))) →
            T (member l (all_parts (elim b [ true ↦ label_at t n ∷ kept t marks n | false ↦ kept t marks n ]))) → T (member l (parts (label_at t root)))
        go true e ih s = elim (in_cases l (parts (label_at t n)) (all_parts (kept t marks n)) s) [
          | inl u ↦ part-of-part l (label_at t n) (label_at t root) u (marking.sound n e)
          | inr u ↦ ih u
        ]
        go false e ih s = ih s

    -- the copy of the part at k
    module _ (to : List ℕ) (d : List Part) (k : ℕ) (kr : k ≤ root) (copied : Copied t marks to d k) (e : get_or marks k false ≡ true)
        (p : Part) (here : get_or t k True ≡ p) where
      own-copied : Copies to (label_at t) (label_at d) (length d) p
      own-copied x c =
          copied x (named-below k x p (ap (before k) (sym here) ∙ order k (omega arith)) c)
          (marking.closed k (omega arith) e x (subst (λ (y : Part). T (names x y)) (sym here) c))

      pub copy-early : before (length d) (moved to p) ≡ true
      copy-early = copies_early to (label_at t) (label_at d) (length d) p own-copied

      pub copy-label : composed (label_at d) (moved to p) ≡ label_at t k
      copy-label =
          copies-label to (label_at t) (label_at d) (length d) p own-copied
          ∙ sym (label_of t order k (omega arith) ∙ ap (composed (label_at t)) here)

    -- what is marked, with its parts, are the parts of the root's label
    with_rows : (xs a b : List Label) → Subset (all_parts a) (all_parts b) → Subset (xs ++ all_parts a) (xs ++ all_parts b)
    with_rows xs a b w l m = elim (in_cases l xs (all_parts a) m) [
      | inl n ↦ in_left l xs (all_parts b) n
      | inr n ↦ in_right l xs (all_parts b) (w l n)
    ]

    to_root : (n : ℕ) → Subset (all_parts (kept t marks n)) (all_parts (label_at t root ∷ []))
    to_root n l s = one-parts (label_at t root) l (kept_in n l s)

    from-root : Subset (all_parts (label_at t root ∷ [])) (all_parts (kept t marks (root + 1)))
    from-root l s =
        subst (λ (ls : List Label). T (member l (all_parts ls))) (kept_step root true marking.top)
        (all_parts_subset (label_at t root ∷ []) (label_at t root ∷ kept t marks root) (λ m u. in_left m (label_at t root ∷ []) (kept t marks root) u) l s)

    pub copy-over : {limit : ℕ} {d₀ d : List Part} (k : ℕ) → get_or marks k false ≡ true → Grew d₀ d (kept t marks k) →
        Over limit d (label_at t k ∷ []) → Over limit d₀ (label_at t root ∷ [])
    copy-over {limit} {d₀} {d} k e g o =
        let a : List Label = kept t marks k ++ (label_at t k ∷ []) in
        let h : Over limit d₀ a = over-then (label_at t k ∷ []) g o in
        let f = distinct_fewer (rows d₀ ++ all_parts a) (rows d₀ ++ all_parts (label_at t root ∷ []))
        (with_rows (rows d₀) a (label_at t root ∷ []) (λ l s.
        to_root (k + 1) l (subst (λ (ls : List Label). T (member l (all_parts ls))) (kept_step k true e)
        (all_parts_subset a (label_at t k ∷ kept t marks k) (last-first (kept t marks k) (label_at t k)).sub l s)))) in
        record { over = omega (arith, h.over) }

    pub copy_more : {d₀ d d' : List Part} (to : List ℕ) (k i : ℕ) → get_or marks k false ≡ true → k < length to →
        Grew d₀ d (kept t marks k) → Copied t marks to d k → Made d d' (label_at t k) (label_at t k ∷ []) i →
        Grew d₀ d' (kept t marks (k + 1)) × Copied t marks (set to k i) d' (k + 1)
    copy_more {d₀} {d} {d'} to k i e tl g c m = (
      subst (Grew d₀ d') (kept_step k true e)
          (grew_same (label_at t k ∷ kept t marks k) (last-first (kept t marks k) (label_at t k)).sub
          (first-last (kept t marks k) (label_at t k)).sub (grew_then g m.grew)),
      λ j jl f. elim (dec_lt j k) [
        | yes l ↦
            let h = c j l f in
            let lt : get_or to j 0 < length d = h.0 in
            let same_place : get_or (set to k i) j 0 ≡ get_or to j 0 = get_or-set_other to k j i 0 (λ q. omega arith) in
            let longer = m.grew.longer in
            (omega arith, ap (label_at d') same_place ∙ (grew-label m.grew (get_or to j 0) lt ∙ h.1))
        | no n ↦
            let q : j ≡ k = omega arith in
            let new : get_or (set to k i) j 0 ≡ i = ap (λ (x : ℕ). get_or (set to k i) x 0) q ∙ get_or-set_same to k i 0 tl in
            let w = m.within in
            (omega arith, ap (label_at d') new ∙ (m.is ∙ ap (label_at t) (sym q)))
      ],
    )

    -- the same with what a call told that added the copy of the part at k
    pub copy-one : {d₀ d u : List Part} (to : List ℕ) (k : ℕ) → k ≤ root → k < length to → get_or marks k false ≡ true →
        Grew d₀ d (kept t marks k) → Copied t marks to d k → (p q : Part) → p ≡ get_or t k True → q ≡ moved to p →
        (i : ℕ) → Made d u (composed (label_at d) q) (composed (label_at d) q ∷ []) i →
        Grew d₀ u (kept t marks (k + 1)) × Copied t marks (set to k i) u (k + 1)
    copy-one {d₀} {d} {u} to k kr tl e g c p q here is i m =
        let label-is : composed (label_at d) q ≡ label_at t k = ap (composed (label_at d)) is ∙ copy-label to d k kr c e p (sym here) in
        copy_more to k i e tl g c (subst (λ (l : Label). Made d u l (l ∷ []) i) label-is m)

    pub copy_skip : {d₀ d : List Part} (to : List ℕ) (k : ℕ) → get_or marks k false ≡ false → Grew d₀ d (kept t marks k) → Copied t marks to d k →
        Grew d₀ d (kept t marks (k + 1)) × Copied t marks to d (k + 1)
    copy_skip {d₀} {d} to k e g c = (
      subst (Grew d₀ d) (kept_step k false e) g,
      λ j jl f. elim (dec_lt j k) [
        | yes l ↦ c j l f
        | no n ↦ let q : j ≡ k = omega arith in absurd (false≢true (sym e ∙ (ap (λ (i : ℕ). get_or marks i false) (sym q) ∙ f)))
      ],
    )

    pub copy-all : {d₀ d : List Part} (to : List ℕ) (n : ℕ) → n ≡ root + 1 → Grew d₀ d (kept t marks n) → Copied t marks to d n →
        Made d₀ d (label_at t root) (label_at t root ∷ []) (get_or to root 0)
    copy-all {d₀} {d} to n e g c =
        let h = c root (omega arith) marking.top in
        let g' : Grew d₀ d (kept t marks (root + 1)) = subst (λ (x : ℕ). Grew d₀ d (kept t marks x)) e g in
        record {
          grew = record {
            longer = g'.longer;
            kept = g'.kept;
            only = λ l s. with_rows (rows d₀) (kept t marks (root + 1)) (label_at t root ∷ []) (to_root (root + 1)) l (g'.only l s);
            all = λ l s. g'.all l (with_rows (rows d₀) (label_at t root ∷ []) (kept t marks (root + 1)) from-root l s);
          };
          within = h.0;
          is = h.1;
        }

    pub copy-none : (d : List Part) → Grew d d (kept t marks 0)
    unfolding kept
    copy-none d = grew_none d
