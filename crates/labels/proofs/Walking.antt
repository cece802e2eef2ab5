-- The walk over goal nodes, arm by arm: from what the calls answer to what the walk does.
use Rattle.std.proofs.Common.{◌≡◌, ℕ, ◌+◌, ◌<◌, ◌≤◌, Bool, true, false, ltb, List, [], ◌∷◌, ◌++◌, Err, Result, sym, refl, ap, ◌∙◌, subst, add-one, le-ltb, lt-ltb}
use Rattle.goals.specs.declared.goal.Variable.{Variable}
use Rattle.goals.specs.declared.goal.Term.{Term}
use Rattle.goals.specs.declared.goal.Atom.{Atom}
use Rattle.goals.specs.declared.goal.Ends.{Ends}
use Rattle.goals.specs.declared.goal.Node.{Node}
use Rattle.goals.specs.declared.goal.Node.TheVariants.{True, Test, Equal, Not, And, Or, Next, Until, ForAll, Exists}
use Rattle.labels.specs.declared.binding.Binding.{Binding}
use Rattle.labels.specs.declared.connective.Connective.{Connective}
use Rattle.labels.specs.declared.connective.Connective.TheVariants.{And as ByAnd, Or as ByOr}
use Rattle.labels.specs.declared.part.Part.{Part}
use Rattle.labels.specs.Facts.{Facts, bind, fact, alike}
use Rattle.labels.specs.Goals.{Goal, top, test, equal, neg, conj, disj, next, until, for_all, exists, with_ends, built}
use Rattle.labels.specs.Labels.{Label, waiting}
use Rattle.labels.specs.Joining.{negate, conjoin, disjoin}
use Rattle.labels.specs.Connectives.{join_by, start_of}
use Rattle.labels.specs.Progress.{rest, settled, progress}
use Rattle.labels.specs.Work.{results}
use Rattle.labels.specs.Table.{label_at, InOrder}
use Rattle.labels.specs.Growth.{Made, Over, Outcome, Added}
use Rattle.labels.specs.Walks.{Walked, joined_to, results_to}
use Rattle.labels.proofs.Growing.{stands}
use Rattle.labels.proofs.Calls.{at_label, sub-append, sub_tail, sub_left, sub_right, sub_same, over-sub, over-after, until-first-over, until-rest-over, until-both-over, until-waits, until-second-over, until-ends, start_in, turn_none, turn_skip, turn_item-over, turn-join-over, turn_more, turns_end, turns_over}

-- the exit where the limit is passed
pub stop : {E : Type 0} {limit : ℕ} {t : List Part} (u : List Part) (q : Label) (more : List Label) (r : Result ℕ E) (y : E) → r ≡ Err y →
    Over limit t more → Outcome limit t u q more r
stop {E} {limit} {t} u q more r y e o = subst (λ (x : Result ℕ E). Outcome limit t u q more x) (sym e) o

-- a part negated
pub not-over : (p : Label) (a : List Label) {limit : ℕ} {t : List Part} → Over limit t a → Over limit t (negate p ∷ a)
not-over p a o = over-sub (negate p ∷ a) (sub_tail sub_same) o

-- two parts joined
module _ (join : Label → Label → Label) (p q : Label) (a b : List Label) where
  pub left_over : {limit : ℕ} {t : List Part} → Over limit t a → Over limit t (join p q ∷ (a ++ b))
  left_over o = over-sub (join p q ∷ (a ++ b)) (sub_tail (sub_left b sub_same)) o

  pub right_over : {limit : ℕ} {t u : List Part} {i : ℕ} → Made t u p a i → Over limit u b → Over limit t (join p q ∷ (a ++ b))
  right_over m o =
      over-after (join p q ∷ (a ++ b)) m.grew (sub-append (sub_tail (sub_left b sub_same)) (sub_tail (sub_right a sub_same))) o

module _ (N : ℕ) (s : Facts) (D : ℕ) where
  pub at-goal : {E : Type 0} (limit : ℕ) (t u : List Part) {φ ψ : Goal} (b : Binding) (r : Result ℕ E) → φ ≡ ψ →
      Walked N s D limit t u φ b r → Walked N s D limit t u ψ b r
  at-goal limit t u b r e m = subst (λ (φ : Goal). Walked N s D limit t u φ b r) e m

  module _ {E : Type 0} (limit : ℕ) (t u : List Part) (k : ℕ) (b : Binding) (r : Result ℕ E) where
    pub walk_top : Added limit t u (settled true) r → Walked N s D limit t u (top k) b r
    unfolding progress results
    walk_top m = m

    pub walk-test : (a : Atom) (v : Bool) → v ≡ fact s b a → Added limit t u (settled v) r → Walked N s D limit t u (test k a) b r
    unfolding progress results
    walk-test a v e m = at_label limit t u r (ap settled e) m

    pub walk-equal : (x y : Term) (v : Bool) → v ≡ alike b x y → Added limit t u (settled v) r → Walked N s D limit t u (equal k x y) b r
    unfolding progress results
    walk-equal x y v e m = at_label limit t u r (ap settled e) m

    pub walk-next : (φ : Goal) → Added limit t u (waiting φ b) r → Walked N s D limit t u (next k φ) b r
    unfolding progress results
    walk-next φ m = m

    pub walk-not : (φ : Goal) →
        Outcome limit t u (negate (progress N s D φ b)) (negate (progress N s D φ b) ∷ results N s D φ b) r →
        Walked N s D limit t u (neg k φ) b r
    unfolding progress results
    walk-not φ m = m

    pub walk-and : (φ ψ : Goal) →
        Outcome limit t u (conjoin (progress N s D φ b) (progress N s D ψ b))
        (conjoin (progress N s D φ b) (progress N s D ψ b) ∷ (results N s D φ b ++ results N s D ψ b)) r →
        Walked N s D limit t u (conj k φ ψ) b r
    unfolding progress results
    walk-and φ ψ m = m

    pub walk-or : (φ ψ : Goal) →
        Outcome limit t u (disjoin (progress N s D φ b) (progress N s D ψ b))
        (disjoin (progress N s D φ b) (progress N s D ψ b) ∷ (results N s D φ b ++ results N s D ψ b)) r →
        Walked N s D limit t u (disj k φ ψ) b r
    unfolding progress results
    walk-or φ ψ m = m

    pub walk-all : (v : Variable) (a : Atom) (φ : Goal) →
        Outcome limit t u (joined_to N s D ByAnd v a φ b N) (results_to N s D ByAnd v a φ b N) r →
        Walked N s D limit t u (for_all k v a φ) b r
    unfolding progress results
    walk-all v a φ m = m

    pub walk-exists : (v : Variable) (a : Atom) (φ : Goal) →
        Outcome limit t u (joined_to N s D ByOr v a φ b N) (results_to N s D ByOr v a φ b N) r →
        Walked N s D limit t u (exists k v a φ) b r
    unfolding progress results
    walk-exists v a φ m = m

  -- an until
  module _ (k : ℕ) (e : Ends) (φ ψ : Goal) (b : Binding) where
    abbrev whole : Label
    whole = progress N s D (until k e φ ψ) b

    abbrev first : Label
    first = progress N s D φ b

    abbrev both : Label
    both = conjoin first (rest D k b e)

    abbrev second : Bool → List Label
    second c = elim c [ true ↦ [] | false ↦ results N s D ψ b ]

    abbrev late : Bool
    late = ltb 0 e.lower.hours

    abbrev ended : Bool → Label
    ended c = elim c [ true ↦ both | false ↦ disjoin (progress N s D ψ b) both ]

    whole_is : whole ≡ ended late
    unfolding progress
    whole_is = refl

    results_are : results N s D (until k e φ ψ) b ≡ whole ∷ (rest D k b e ∷ (both ∷ (results N s D φ b ++ second late)))
    unfolding results
    results_are = refl

    pub hold_over : {limit : ℕ} {t : List Part} → Over limit t (results N s D φ b) → Over limit t (results N s D (until k e φ ψ) b)
    hold_over {limit} {t} o =
        subst (Over limit t) (sym results_are) (until-first-over whole (rest D k b e) both (results N s D φ b) (second late) o)

    pub rest_over : {limit : ℕ} {t u : List Part} {i : ℕ} → Made t u (progress N s D φ b) (results N s D φ b) i →
        Over limit u (rest D k b e ∷ []) → Over limit t (results N s D (until k e φ ψ) b)
    rest_over {limit} {t} m o =
        subst (Over limit t) (sym results_are)
        (until-rest-over whole (rest D k b e) both (results N s D φ b) (second late) m o)

    module _ {t u v : List Part} (i j : ℕ) (m : Made t u (progress N s D φ b) (results N s D φ b) i)
        (n : Made u v (rest D k b e) (rest D k b e ∷ []) j) where
      pub both-over : {limit : ℕ} → Over limit v (conjoin (label_at v i) (label_at v j) ∷ []) →
          Over limit t (results N s D (until k e φ ψ) b)
      both-over {limit} o =
          subst (Over limit t) (sym results_are)
          (until-both-over whole (rest D k b e) both (results N s D φ b) (second late) i j m n refl o)

      module _ {w : List Part} (h : ℕ) (o : Made v w (conjoin (label_at v i) (label_at v j)) (conjoin (label_at v i) (label_at v j) ∷ []) h) where
        pub waits : 0 < e.lower.hours → Made t w (progress N s D (until k e φ ψ) b) (results N s D (until k e φ ψ) b) h
        waits lt =
            let is : late ≡ true = lt-ltb 0 e.lower.hours lt in
            subst (λ (ls : List Label). Made t w whole ls h) (sym results_are)
            (until-waits whole (rest D k b e) both (results N s D φ b) (second late) i j m n refl h o (whole_is ∙ ap ended is) (ap second is))

        module _ (le : e.lower.hours ≤ 0) where
          early : late ≡ false
          early = le-ltb 0 e.lower.hours le

          pub reach-over : {limit : ℕ} → Over limit w (results N s D ψ b) → Over limit t (results N s D (until k e φ ψ) b)
          reach-over {limit} ov =
              subst (Over limit t) (sym results_are)
              (until-second-over whole (rest D k b e) both (results N s D φ b) (second late) i j m n refl h o
              (subst (Over limit w) (sym (ap second early)) ov))

          pub reaches-it : {E : Type 0} (limit : ℕ) {x : List Part} (y : List Part) (i' : ℕ) (r : Result ℕ E) →
              Made w x (progress N s D ψ b) (results N s D ψ b) i' →
              Added limit x y (disjoin (label_at x i') (label_at x h)) r → Walked N s D limit t y (until k e φ ψ) b r
          reaches-it {E} limit {x} y i' r m' ad =
              subst (λ (ls : List Label). Outcome limit t y whole ls r) (sym results_are)
              (until-ends whole (rest D k b e) both (results N s D φ b) (second late) i j m n refl h o limit y i' r
              (subst (λ (ls : List Label). Made w x (progress N s D ψ b) ls i') (sym (ap second early)) m')
              (sym (whole_is ∙ ap ended early))
              ad)

  -- a quantifier
  module _ (by : Connective) (v : Variable) (a : Atom) (φ : Goal) (b : Binding) where
    abbrev range : ℕ → Bool
    range x = fact s (bind v x b) a

    abbrev item : ℕ → Label
    item x = progress N s D φ (bind v x b)

    abbrev found : ℕ → List Label
    found x = results N s D φ (bind v x b)

    pub begins : {t u : List Part} {i : ℕ} → InOrder u → Made t u (start_of by) (start_of by ∷ []) i →
        Made u u (joined_to N s D by v a φ b 0) (results_to N s D by v a φ b 0) i
    begins {t} {u} {i} order m =
        turn_none (join_by by) (start_of by) range item found (stands u order (start_of by) i m.within m.is)

    module _ (n : ℕ) (w : Binding) (is : w ≡ bind v n b) {t u : List Part} (i : ℕ)
        (m : Made t u (joined_to N s D by v a φ b n) (results_to N s D by v a φ b n) i) where
      pub skips : fact s w a ≡ false → Made t u (joined_to N s D by v a φ b (n + 1)) (results_to N s D by v a φ b (n + 1)) i
      skips e =
          subst (λ (x : ℕ). Made t u (joined_to N s D by v a φ b x) (results_to N s D by v a φ b x) i) (sym (add-one n))
          (turn_skip (join_by by) (start_of by) range item found n (subst (λ (x : Binding). fact s x a ≡ false) is e) m)

      module _ (e : fact s w a ≡ true) where
        in-range : range n ≡ true
        in-range = subst (λ (x : Binding). fact s x a ≡ true) is e

        pub item-over : {limit : ℕ} → n < N → Over limit u (results N s D φ w) → Over limit t (results_to N s D by v a φ b N)
        item-over {limit} lt o =
            turn_item-over (join_by by) (start_of by) range item found n in-range i m N lt
            (subst (λ (x : Binding). Over limit u (results N s D φ x)) is o)

        module _ {x : List Part} (j : ℕ) (p : Made u x (progress N s D φ w) (results N s D φ w) j) where
          at-id : Made u x (item n) (found n) j
          at-id = subst (λ (z : Binding). Made u x (progress N s D φ z) (results N s D φ z) j) is p

          pub join-over : {limit : ℕ} → n < N → Over limit x (join_by by (label_at x i) (label_at x j) ∷ []) →
              Over limit t (results_to N s D by v a φ b N)
          join-over lt o =
              turn-join-over (join_by by) (start_of by) range item found n in-range i m j at-id N lt o

          pub joins : {y : List Part} {h : ℕ} →
              Made x y (join_by by (label_at x i) (label_at x j)) (join_by by (label_at x i) (label_at x j) ∷ []) h →
              Made t y (joined_to N s D by v a φ b (n + 1)) (results_to N s D by v a φ b (n + 1)) h
          joins {y} {h} o =
              subst (λ (z : ℕ). Made t y (joined_to N s D by v a φ b z) (results_to N s D by v a φ b z) h) (sym (add-one n))
              (turn_more (join_by by) (start_of by) range item found n in-range i m j at-id o)

    pub all_turns : (n : ℕ) → n ≡ N → {t u v' : List Part} {i j : ℕ} → Made t u (start_of by) (start_of by ∷ []) i →
        Made u v' (joined_to N s D by v a φ b n) (results_to N s D by v a φ b n) j →
        Made t v' (joined_to N s D by v a φ b N) (results_to N s D by v a φ b N) j
    all_turns n e {t} {u} {v'} {i} {j} g m =
        turns_end (join_by by) (start_of by) range item found N g
        (subst (λ (x : ℕ). Made u v' (joined_to N s D by v a φ b x) (results_to N s D by v a φ b x) j) e m)

    pub start-over : {limit : ℕ} {t : List Part} → Over limit t (start_of by ∷ []) → Over limit t (results_to N s D by v a φ b N)
    start-over o = over-sub (results_to N s D by v a φ b N) (start_in (join_by by) (start_of by) range item found N) o

    pub turn_over : {limit : ℕ} {t u : List Part} {i : ℕ} → Made t u (start_of by) (start_of by ∷ []) i →
        Over limit u (results_to N s D by v a φ b N) → Over limit t (results_to N s D by v a φ b N)
    turn_over g o = turns_over (join_by by) (start_of by) range item found N g o

-- ends matter to an until only
pub with_other : (part : ℕ → Goal) (k : ℕ) (nd : Node) (e : Ends) → ((own : Ends) (x y : ℕ) → ¬ (nd ≡ Until own x y)) →
    built part k nd ≡ with_ends e (built part k nd)
with_other part k True e d = refl
with_other part k (Test a) e d = refl
with_other part k (Equal t u) e d = refl
with_other part k (Not x) e d = refl
with_other part k (And x y) e d = refl
with_other part k (Or x y) e d = refl
with_other part k (Next x) e d = refl
with_other part k (Until own x y) e d = absurd (d own x y refl)
with_other part k (ForAll v a x) e d = refl
with_other part k (Exists v a x) e d = refl
