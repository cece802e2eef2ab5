-- A label's parts progressed one after another into another table, and idling part by part.
use Rattle.std.proofs.Common.{◌≡◌, ℕ, ◌+◌, ◌<◌, ◌≤◌, Bool, true, not, ◌&&◌, ◌||◌, T, ltb, List, [], ◌∷◌, ◌++◌, length, get_or, set, Err, Result, sym, refl, ap, ◌∙◌, subst, ap₂, add-one, arith, ltb-true, lt-ltb}
use native.Mathlib.Decide.{dec_lt}
use Rattle.std.proofs.lemmas.List.{get_or-set_same, get_or-set_other}
use Rattle.std.proofs.lemmas.Bool.{and_from}
use Rattle.goals.specs.declared.goal.Node.{Node}
use Rattle.labels.specs.declared.part.Part.{Part}
use Rattle.labels.specs.declared.part.Part.TheVariants.{True, False, Pending, Not, And, Or}
use Rattle.labels.specs.Facts.{Facts}
use Rattle.labels.specs.Labels.{Label}
use Rattle.labels.specs.Size.{member}
use Rattle.labels.specs.Joining.{negate, conjoin, disjoin}
use Rattle.labels.specs.Progress.{progressed}
use Rattle.labels.specs.Work.{own_results, each_results}
use Rattle.labels.specs.Idling.{idling}
use Rattle.labels.specs.Table.{composed, label_at, first_rows, rows, before, InOrder}
use Rattle.labels.specs.Growth.{Grew, Made, Over}
use Rattle.labels.specs.Partwise.{moved, part_progress, part_results, ProgressedTo, ProgressedAll, part_idles}
use Rattle.labels.specs.TableClaims.{Subset}
use Rattle.labels.proofs.Members.{in_at, gathered}
use Rattle.labels.proofs.Rows.{both_below, has_row, row_out, label_of}
use Rattle.labels.proofs.Growing.{grew_none, grew_then, grew_same, grew-label, over-same, over-then}
use Rattle.labels.proofs.Calls.{Sub, sub-append, sub_left, sub_right, sub_same}

rows_more : (t : List Part) (n : ℕ) → label_at t n ∷ first_rows t n ≡ first_rows t (n + 1)
unfolding first_rows
rows_more t n = ap (first_rows t) (sym (add-one n))

rows_upto : (t : List Part) (n : ℕ) → n ≤ length t → Subset (first_rows t n) (rows t)
rows_upto t n le l s =
    let h = row_out t n l s in
    let lt : h.0 < n = h.1 in
    in_at (rows t) (sym h.2) (has_row t h.0 (omega arith))

-- two lists in either order
swapped : (a b : List Label) → Sub (a ++ b) (b ++ a)
swapped a b = sub-append (sub_right b sub_same) (sub_left a sub_same)

moved_early : (to : List ℕ) (k n : ℕ) (p : Part) → before k p ≡ true → ((x : ℕ) → x < k → get_or to x 0 < n) → before n (moved to p) ≡ true
moved_early to k n True b h = refl
moved_early to k n False b h = refl
moved_early to k n (Pending m c e) b h = refl
moved_early to k n (Not x) b h = lt-ltb (get_or to x 0) n (h x (ltb-true x k b))
moved_early to k n (And x y) b h =
    let w = both_below x y k b in
    and_from (ltb (get_or to x 0) n) (ltb (get_or to y 0) n) (lt-ltb (get_or to x 0) n (h x w.0)) (lt-ltb (get_or to y 0) n (h y w.1))
moved_early to k n (Or x y) b h =
    let w = both_below x y k b in
    and_from (ltb (get_or to x 0) n) (ltb (get_or to y 0) n) (lt-ltb (get_or to x 0) n (h x w.0)) (lt-ltb (get_or to y 0) n (h y w.1))

module _ (N : ℕ) (s : Facts) (D : ℕ) (nodes : List Node) where
  progress-composed : (f g : ℕ → Label) (k : ℕ) (p : Part) → before k p ≡ true → ((x : ℕ) → x < k → g x ≡ progressed N s D nodes (f x)) →
      part_progress N s D nodes g p ≡ progressed N s D nodes (composed f p)
  unfolding progressed
  progress-composed f g k True b h = refl
  progress-composed f g k False b h = refl
  progress-composed f g k (Pending n c e) b h = refl
  progress-composed f g k (Not x) b h = ap negate (h x (ltb-true x k b))
  progress-composed f g k (And x y) b h = let w = both_below x y k b in ap₂ conjoin (h x w.0) (h y w.1)
  progress-composed f g k (Or x y) b h = let w = both_below x y k b in ap₂ disjoin (h x w.0) (h y w.1)

  results-composed : (f g : ℕ → Label) (k : ℕ) (p : Part) → before k p ≡ true → ((x : ℕ) → x < k → g x ≡ progressed N s D nodes (f x)) →
      part_results N s D nodes g p ≡ own_results N s D nodes (composed f p)
  unfolding progressed own_results
  results-composed f g k True b h = refl
  results-composed f g k False b h = refl
  results-composed f g k (Pending n c e) b h = refl
  results-composed f g k (Not x) b h = ap (λ (l : Label). negate l ∷ []) (h x (ltb-true x k b))
  results-composed f g k (And x y) b h = let w = both_below x y k b in ap₂ (λ l m. conjoin l m ∷ []) (h x w.0) (h y w.1)
  results-composed f g k (Or x y) b h = let w = both_below x y k b in ap₂ (λ l m. disjoin l m ∷ []) (h x w.0) (h y w.1)

  abbrev each : List Label → List Label
  each ls = each_results N s D nodes ls

  each_more : (ps qs : List Label) → Subset ps qs → Subset (each ps) (each qs)
  unfolding each_results
  each_more = gathered (own_results N s D nodes) each refl (λ q rest. refl)

  module _ (t : List Part) (order : InOrder t) where
    -- the part at k, where the progress of those below it stands in d
    module _ (to : List ℕ) (d : List Part) (k : ℕ) (kl : k < length t) (done : ProgressedTo N s D nodes t to d k)
        (p : Part) (here : get_or t k True ≡ p) where
      abbrev gave : ℕ → Label
      gave x = label_at d (get_or to x 0)

      in_place : before k p ≡ true
      in_place = ap (before k) (sym here) ∙ order k kl

      is-composed : label_at t k ≡ composed (label_at t) p
      is-composed = label_of t order k kl ∙ ap (composed (label_at t)) here

      pub part-early : before (length d) (moved to p) ≡ true
      part-early = moved_early to k (length d) p in_place (λ x l. (done x l).0)

      pub part-progress-is : part_progress N s D nodes (λ x. label_at d (get_or to x 0)) p ≡ progressed N s D nodes (label_at t k)
      part-progress-is =
          progress-composed (label_at t) gave k p in_place (λ x l. (done x l).1) ∙ ap (progressed N s D nodes) (sym is-composed)

      pub part-results-are : part_results N s D nodes (λ x. label_at d (get_or to x 0)) p ≡ own_results N s D nodes (label_at t k)
      part-results-are =
          results-composed (label_at t) gave k p in_place (λ x l. (done x l).1) ∙ ap (own_results N s D nodes) (sym is-composed)

      own_first : each (label_at t k ∷ first_rows t k) ≡ own_results N s D nodes (label_at t k) ++ each (first_rows t k)
      unfolding each_results
      own_first = refl

      -- a part too many
      pub parts-over : {limit : ℕ} {d₀ : List Part} → Grew d₀ d (each_results N s D nodes (first_rows t k)) →
          Over limit d (part_results N s D nodes (λ x. label_at d (get_or to x 0)) p) → Over limit d₀ (each_results N s D nodes (rows t))
      parts-over {limit} {d₀} g o =
          let own : List Label = own_results N s D nodes (label_at t k) in
          over-same (each (rows t))
          (λ l h. each_more (label_at t k ∷ first_rows t k) (rows t)
          (λ m u. rows_upto t (k + 1) (omega arith) m (subst (λ (ls : List Label). T (member m ls)) (rows_more t k) u)) l
          (subst (λ (ls : List Label). T (member l ls)) (sym own_first) ((swapped (each (first_rows t k)) own).sub l h)))
          (over-then own g (subst (Over limit d) part-results-are o))

      -- one part more
      pub parts_more : {d₀ d' : List Part} (i : ℕ) → k < length to → Grew d₀ d (each_results N s D nodes (first_rows t k)) →
          Made d d' (part_progress N s D nodes (λ x. label_at d (get_or to x 0)) p) (part_results N s D nodes (λ x. label_at d (get_or to x 0)) p) i →
          Grew d₀ d' (each_results N s D nodes (first_rows t (k + 1))) × ProgressedTo N s D nodes t (set to k i) d' (k + 1)
      parts_more {d₀} {d'} i tl g m =
          let own : List Label = own_results N s D nodes (label_at t k) in
          let before : List Label = each (first_rows t k) in
          let g' : Grew d d' own = subst (Grew d d') part-results-are m.grew in (
            subst (λ (ls : List Label). Grew d₀ d' (each ls)) (rows_more t k)
                (subst (Grew d₀ d') (sym own_first)
                (grew_same (own ++ before) (swapped before own).sub (swapped own before).sub (grew_then g g'))),
            λ j jl. elim (dec_lt j k) [
              | yes l ↦
                  let h = done j l in
                  let lt : get_or to j 0 < length d = h.0 in
                  let kept : get_or (set to k i) j 0 ≡ get_or to j 0 = get_or-set_other to k j i 0 (λ q. omega arith) in
                  let longer = m.grew.longer in
                  (omega arith, ap (label_at d') kept ∙ (grew-label m.grew (get_or to j 0) lt ∙ h.1))
              | no n ↦
                  let q : j ≡ k = omega arith in
                  let new : get_or (set to k i) j 0 ≡ i = ap (λ (x : ℕ). get_or (set to k i) x 0) q ∙ get_or-set_same to k i 0 tl in
                  let w = m.within in
                  (omega arith, ap (label_at d') new ∙ (m.is ∙ (part-progress-is ∙ ap (λ (x : ℕ). progressed N s D nodes (label_at t x)) (sym q))))
            ],
          )

    pub parts_none : (d : List Part) → Grew d d (each_results N s D nodes (first_rows t 0))
    unfolding first_rows each_results
    parts_none d = grew_none d

    pub parts_all : {d₀ d : List Part} (n : ℕ) → n ≡ length t → Grew d₀ d (each_results N s D nodes (first_rows t n)) →
        Grew d₀ d (each_results N s D nodes (rows t))
    unfolding rows
    parts_all {d₀} {d} n e g = subst (λ (x : ℕ). Grew d₀ d (each (first_rows t x))) e g

  -- the exit where the limit is passed
  pub all_stop : {E : Type 0} {limit : ℕ} {old : List Part} (t : List Part) (to : List ℕ) (new : List Part) (r : Result (Unit {0}) E) (y : E) → r ≡ Err y →
      Over limit old (each_results N s D nodes (rows t)) → ProgressedAll N s D nodes limit t to old new r
  all_stop {E} {limit} {old} t to new r y e o =
      subst (λ (x : Result (Unit {0}) E). ProgressedAll N s D nodes limit t to old new x) (sym e) o

-- idling of a part, from that of its own parts
module _ (N : ℕ) (s : Facts) (nodes : List Node) where
  idles-composed : (f : ℕ → Label) (g : ℕ → Bool) (k : ℕ) (p : Part) → before k p ≡ true → ((x : ℕ) → x < k → g x ≡ idling N s nodes (f x)) →
      part_idles N s nodes g p ≡ idling N s nodes (composed f p)
  unfolding idling
  idles-composed f g k True b h = refl
  idles-composed f g k False b h = refl
  idles-composed f g k (Pending n c e) b h = refl
  idles-composed f g k (Not x) b h = ap not (h x (ltb-true x k b))
  idles-composed f g k (And x y) b h = let w = both_below x y k b in ap₂ ◌&&◌ (h x w.0) (h y w.1)
  idles-composed f g k (Or x y) b h = let w = both_below x y k b in ap₂ ◌||◌ (h x w.0) (h y w.1)

  pub part_idles-is : (t : List Part) → InOrder t → (g : ℕ → Bool) (k : ℕ) → k < length t →
      ((x : ℕ) → x < k → g x ≡ idling N s nodes (label_at t x)) → (p : Part) → get_or t k True ≡ p →
      part_idles N s nodes g p ≡ idling N s nodes (label_at t k)
  part_idles-is t order g k kl h p here =
      idles-composed (label_at t) g k p (ap (before k) (sym here) ∙ order k kl) h
      ∙ ap (idling N s nodes) (sym (label_of t order k kl ∙ ap (composed (label_at t)) here))
