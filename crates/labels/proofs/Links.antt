-- The chains of a table, as a part is looked for and as one is pushed.
use Rattle.std.proofs.Common.{◌≡◌, ℕ, suc, ◌<◌, ◌≤◌, ◌≢◌, List, [], ◌∷◌, ◌++◌, length, Some, None, Option, get_or, set, sym, refl, ap, ◌∙◌, subst, arith, length-append, get_or-set_other, get_or-set_same}
use native.Mathlib.Decide.{dec_lt}
use lib.ListN.{get_or-append}
use lib.Seq.{get_or-append_seam}
use Rattle.labels.specs.declared.part.Part.{Part}
use Rattle.labels.specs.declared.part.Part.TheVariants.{True}
use Rattle.labels.specs.Chains.{bucket, bucket_at, reach, Latest, Linked, Heads, Falls}

-- a link that goes to a part before `at`, or nowhere
pub goes_before : (o : Option ℕ) (at : ℕ) → ((k : ℕ) → o ≡ Some k → k < at) → reach o ≤ at
goes_before (Some k) at f = f k refl
goes_before None at f = omega arith

-- none of the parts before `at` is the one looked for, once the one there is not
pub walk_on : (t : List Part) (next : List (Option ℕ)) (p : Part) (at : ℕ) → Linked t next →
    ((k : ℕ) → k < length t → get_or t k True ≡ p → k < suc at) → (at < length t) → (bucket_at t at ≡ bucket p) →
    (get_or t at True ≡ p → ⊥) →
    (k : ℕ) → k < length t → get_or t k True ≡ p → k < reach (get_or next at None)
walk_on t next p at linked inv lt b not k kl e = elim (dec_lt k at) [
  | yes l ↦ linked at k (l, lt, ap bucket e ∙ sym b)
  | no m ↦ let i = inv k kl e in let f : k ≡ at = omega arith in absurd (not (subst (λ (j : ℕ). get_or t j True ≡ p) f e))
]

module _ (t : List Part) (heads next : List (Option ℕ)) (p : Part) (n : ℕ) (many : n ≡ length t)
    (wide : bucket p < length heads) (beside : length next ≡ length t)
    (latest : Latest t heads) (linked : Linked t next) (known : Heads t heads) (falls : Falls t next) where
  longer : length (t ++ p ∷ []) ≡ suc (length t)
  longer = length-append t (p ∷ []) ∙ omega arith

  old_part : (k : ℕ) → k < length t → bucket_at (t ++ p ∷ []) k ≡ bucket_at t k
  old_part k lt = ap bucket (get_or-append t (p ∷ []) True k lt)

  new-part : (k : ℕ) → k ≡ length t → bucket_at (t ++ p ∷ []) k ≡ bucket p
  new-part k e = ap bucket (ap (λ (i : ℕ). get_or (t ++ p ∷ []) i True) e ∙ get_or-append_seam t p [] True)

  head_here : (b : ℕ) → b ≡ bucket p → get_or (set heads (bucket p) (Some n)) b None ≡ Some (length t)
  head_here b e = ap (λ (i : ℕ). get_or (set heads (bucket p) (Some n)) i None) e ∙ (get_or-set_same heads (bucket p) (Some n) None wide ∙ ap Some many)

  head_there : (b : ℕ) → b ≢ bucket p → get_or (set heads (bucket p) (Some n)) b None ≡ get_or heads b None
  head_there b ne = get_or-set_other heads (bucket p) b (Some n) None ne

  head_least : (b m : ℕ) → m ≤ reach (get_or heads b None) → m ≤ suc (length t) → m ≤ reach (get_or (set heads (bucket p) (Some n)) b None)
  head_least b m old le = elim (dec_lt b (bucket p)) [
    | yes l ↦ let e = ap reach (head_there b (λ e. omega arith)) in omega arith
    | no x ↦ elim (dec_lt (bucket p) b) [
      | yes l ↦ let e = ap reach (head_there b (λ e. omega arith)) in omega arith
      | no y ↦ let e = ap reach (head_here b (omega arith)) in omega arith
    ]
  ]

  pub pushed_latest : Latest (t ++ p ∷ []) (set heads (bucket p) (Some n))
  pushed_latest k kl = let e = longer in elim (dec_lt k (length t)) [
    | yes l ↦ let f = old_part k l in
        subst (λ (b : ℕ). k < reach (get_or (set heads (bucket p) (Some n)) b None)) (sym f) (head_least (bucket_at t k) (suc k) (latest k l) (omega arith))
    | no m ↦ let f : k ≡ length t = omega arith in
        let g = ap reach (head_here (bucket_at (t ++ p ∷ []) k) (new-part k f)) in omega arith
  ]

  pub pushed_linked : Linked (t ++ p ∷ []) (next ++ get_or heads (bucket p) None ∷ [])
  pushed_linked j k h = let e = longer in
      let kj : k < j = h.0 in let jl : j < length (t ++ p ∷ []) = h.1 in
      let ko = old_part k (omega arith) in
      elim (dec_lt j (length t)) [
        | yes l ↦
            let a = linked j k (kj, l, sym ko ∙ (h.2 ∙ old_part j l)) in
            let b = ap reach (get_or-append next (get_or heads (bucket p) None ∷ []) None j (omega arith)) in omega arith
        | no m ↦ let f : j ≡ length t = omega arith in
            let kb : bucket_at t k ≡ bucket p = sym ko ∙ (h.2 ∙ new-part j f) in
            let a : k < reach (get_or heads (bucket p) None) = subst (λ (b : ℕ). k < reach (get_or heads b None)) kb (latest k (omega arith)) in
            let b : get_or (next ++ get_or heads (bucket p) None ∷ []) j None ≡ get_or heads (bucket p) None =
            ap (λ (i : ℕ). get_or (next ++ get_or heads (bucket p) None ∷ []) i None) (f ∙ sym beside) ∙ get_or-append_seam next (get_or heads (bucket p) None) [] None in
            let c = ap reach b in omega arith
      ]

  pub pushed_known : Heads (t ++ p ∷ []) (set heads (bucket p) (Some n))
  pushed_known b k q = let e = longer in elim (dec_lt b (bucket p)) [
    | yes l ↦ old (λ e. omega arith)
    | no x ↦ elim (dec_lt (bucket p) b) [
      | yes l ↦ old (λ e. omega arith)
      | no y ↦ let f : b ≡ bucket p = omega arith in
          let g = head_here b f in let kn : k ≡ length t = cc in (omega arith, new-part k kn ∙ sym f)
    ]
  ]
    where
      old : b ≢ bucket p → (k < length (t ++ p ∷ [])) × (bucket_at (t ++ p ∷ []) k ≡ b)
      old ne = let e = longer in let h = known b k (sym (head_there b ne) ∙ q) in
          let lt : k < length t = h.0 in (omega arith, old_part k lt ∙ h.1)

  pub pushed_falls : Falls (t ++ p ∷ []) (next ++ get_or heads (bucket p) None ∷ [])
  pushed_falls j k h = let e = longer in
      let jl : j < length (t ++ p ∷ []) = h.0 in
      elim (dec_lt j (length t)) [
        | yes l ↦
            let b = get_or-append next (get_or heads (bucket p) None ∷ []) None j (omega arith) in
            let a = falls j k (l, sym b ∙ h.1) in
            let lt : k < j = a.0 in
            (lt, old_part k (omega arith) ∙ (a.1 ∙ sym (old_part j l)))
        | no m ↦ let f : j ≡ length t = omega arith in
            let b : get_or (next ++ get_or heads (bucket p) None ∷ []) j None ≡ get_or heads (bucket p) None =
            ap (λ (i : ℕ). get_or (next ++ get_or heads (bucket p) None ∷ []) i None) (f ∙ sym beside) ∙ get_or-append_seam next (get_or heads (bucket p) None) [] None in
            let a = known (bucket p) k (sym b ∙ h.1) in
            let lt : k < length t = a.0 in
            (omega arith, old_part k lt ∙ (a.1 ∙ sym (new-part j f)))
      ]

  pub Index : List Part → List (Option ℕ) → ℕ → Type 0
  Index t' next' h = Latest t' (set heads h (Some n)) × Linked t' next' × Heads t' (set heads h (Some n)) × Falls t' next'

  pub index_pushed : (t' : List Part) (next' : List (Option ℕ)) (h : ℕ) (last : Option ℕ) → t' ≡ t ++ p ∷ [] → next' ≡ next ++ last ∷ [] →
      h ≡ bucket p → last ≡ get_or heads h None →
      Latest t' (set heads h (Some n)) × Linked t' next' × Heads t' (set heads h (Some n)) × Falls t' next'
  unfolding Index
  index_pushed t' next' h last et en eh el =
      let last' : Option ℕ = get_or heads (bucket p) None in
      let en' : next' ≡ next ++ last' ∷ [] = en ∙ ap (λ (x : Option ℕ). next ++ x ∷ []) (el ∙ ap (λ (i : ℕ). get_or heads i None) eh) in
      subst (λ (u : List Part). Index u next' h) (sym et)
      (subst (λ (v : List (Option ℕ)). Index (t ++ p ∷ []) v h) (sym en')
      (subst (λ (j : ℕ). Index (t ++ p ∷ []) (next ++ last' ∷ []) j) (sym eh)
      (pushed_latest, pushed_linked, pushed_known, pushed_falls)))
