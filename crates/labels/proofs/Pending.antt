-- What holds of every pending part of a label: the joinings keep it, and progress does where it makes only such parts.
use Rattle.std.proofs.Common.{◌≡◌, ℕ, zero, suc, ◌<◌, Bool, true, false, cond, ◌||◌, ltb, List, refl, arith}
use Rattle.std.proofs.lemmas.Bool.{and_parts, and_from}
use Rattle.goals.specs.declared.goal.Ends.{Ends}
use Rattle.goals.specs.declared.goal.Node.{Node}
use Rattle.labels.specs.declared.binding.Binding.{Binding}
use Rattle.labels.specs.Facts.{Facts, bind, fact, alike}
use Rattle.labels.specs.Goals.{Goal, top, test, equal, neg, conj, disj, next, until, for_all, exists, number, own_ends, with_ends, goal_of_node}
use Rattle.labels.specs.Labels.{Label, true_label, false_label, pending, not_label, and_label, or_label, waiting, every_pending}
use Rattle.labels.specs.Same.{same}
use Rattle.labels.specs.Joining.{negate, conjoin, disjoin, joined}
use Rattle.labels.specs.Progress.{passed, later, rest, settled, progress, progressed}

-- one of four labels
one_of : (P : Label → Type 0) (a c d : Bool) (x q r z : Label) → P x → P q → P r → P z → P (cond a x (cond c r (cond d q z)))
one_of P true c d x q r z px pq pr pz = px
one_of P false true d x q r z px pq pr pz = pr
one_of P false false true x q r z px pq pr pz = pq
one_of P false false false x q r z px pq pr pz = pz

module _ (ok : ℕ → Binding → Ends → Bool) where
  abbrev Every : Label → Type 0
  Every l = every_pending ok l ≡ true

  every-waiting : (φ : Goal) (b : Binding) → ok (number φ) b (own_ends φ) ≡ true → Every (waiting φ b)
  unfolding every_pending
  every-waiting φ b o = o

  every-negate : (q : Label) → Every q → Every (negate q)
  unfolding negate every_pending
  every-negate true_label o = refl
  every-negate false_label o = refl
  every-negate (pending n b e) o = o
  every-negate (not_label q) o = o
  every-negate (and_label q r) o = o
  every-negate (or_label q r) o = o

  every-conjoin : (q r : Label) → Every q → Every r → Every (conjoin q r)
  unfolding conjoin every_pending
  every-conjoin q r o u =
      one_of Every (same q false_label || same r false_label) (same q true_label) (same r true_label || same q r) false_label q r (and_label q r)
      refl o u (and_from (every_pending ok q) (every_pending ok r) o u)

  every-disjoin : (q r : Label) → Every q → Every r → Every (disjoin q r)
  unfolding disjoin every_pending
  every-disjoin q r o u =
      one_of Every (same q true_label || same r true_label) (same q false_label) (same r false_label || same q r) true_label q r (or_label q r)
      refl o u (and_from (every_pending ok q) (every_pending ok r) o u)

  every-joined : (join : Label → Label → Label) → ((q r : Label) → Every q → Every r → Every (join q r)) →
      (start : Label) → Every start → (range : ℕ → Bool) (item : ℕ → Label) (n : ℕ) →
      ((x : ℕ) → x < n → Every (item x)) → Every (joined join start range item n)
  unfolding joined
  every-joined join f start o range item zero g = o
  every-joined join f start o range item (suc n) g =
      go (range n) (every-joined join f start o range item n (λ x lt. g x (omega arith)))
    where
      go : (c : Bool) → Every (joined join start range item n) →
          Every (elim c [ true ↦ join (joined join start range item n) (item n) | false ↦ joined join start range item n ])
      go true before = f (joined join start range item n) (item n) before (g n (omega arith))
      go false before = before

  every-settled : (c : Bool) → Every (settled c)
  unfolding every_pending
  every-settled true = refl
  every-settled false = refl

  every_rest : (D k : ℕ) (b : Binding) (e : Ends) → ok k b (later D e) ≡ true → Every (rest D k b e)
  unfolding every_pending
  every_rest D k b e o = go (passed D e.upper)
    where
      go : (c : Bool) → Every (cond c false_label (pending k b (later D e)))
      go true = refl
      go false = o

  module _ (N : ℕ) (s : Facts) (D : ℕ) where
    -- the parts that the progress of a node may make pending
    unfoldable pub Fine : Goal → Binding → Type 0
    Fine (top k) b = Unit {0}
    Fine (test k a) b = Unit {0}
    Fine (equal k t u) b = Unit {0}
    Fine (neg k φ) b = Fine φ b
    Fine (conj k φ ψ) b = Fine φ b × Fine ψ b
    Fine (disj k φ ψ) b = Fine φ b × Fine ψ b
    Fine (next k φ) b = ok (number φ) b (own_ends φ) ≡ true
    Fine (until k e φ ψ) b = (ok k b (later D e) ≡ true) × Fine φ b × Fine ψ b
    Fine (for_all k v a φ) b = (x : ℕ) → x < N → Fine φ (bind v x b)
    Fine (exists k v a φ) b = (x : ℕ) → x < N → Fine φ (bind v x b)

    every-until : (c : Bool) (p q r : Label) → Every p → Every q → Every r →
        Every (elim c [ true ↦ conjoin p r | false ↦ disjoin q (conjoin p r) ])
    every-until true p q r u w z = every-conjoin p r u z
    every-until false p q r u w z = every-disjoin q (conjoin p r) w (every-conjoin p r u z)

    every-progress : (φ : Goal) (b : Binding) → Fine φ b → Every (progress N s D φ b)
    unfolding Fine progress
    every-progress (top k) b o = every-settled true
    every-progress (test k a) b o = every-settled (fact s b a)
    every-progress (equal k t u) b o = every-settled (alike b t u)
    every-progress (neg k φ) b o = every-negate (progress N s D φ b) (every-progress φ b o)
    every-progress (conj k φ ψ) b o =
        every-conjoin (progress N s D φ b) (progress N s D ψ b) (every-progress φ b o.0) (every-progress ψ b o.1)
    every-progress (disj k φ ψ) b o =
        every-disjoin (progress N s D φ b) (progress N s D ψ b) (every-progress φ b o.0) (every-progress ψ b o.1)
    every-progress (next k φ) b o = every-waiting φ b o
    every-progress (until k e φ ψ) b o =
        every-until (ltb 0 e.lower.hours) (progress N s D φ b) (progress N s D ψ b) (rest D k b e)
        (every-progress φ b o.1) (every-progress ψ b o.2) (every_rest D k b e o.0)
    every-progress (for_all k v a φ) b o =
        every-joined conjoin every-conjoin true_label (every-settled true) (λ x. fact s (bind v x b) a)
        (λ x. progress N s D φ (bind v x b)) N (λ x lt. every-progress φ (bind v x b) (o x lt))
    every-progress (exists k v a φ) b o =
        every-joined disjoin every-disjoin false_label (every-settled false) (λ x. fact s (bind v x b) a)
        (λ x. progress N s D φ (bind v x b)) N (λ x lt. every-progress φ (bind v x b) (o x lt))

    pub every-progressed : (table : List Node) →
        ((n : ℕ) (b : Binding) (e : Ends) → ok n b e ≡ true → Fine (with_ends e (goal_of_node table n)) b) →
        (l : Label) → every_pending ok l ≡ true → every_pending ok (progressed N s D table l) ≡ true
    unfolding progressed every_pending
    every-progressed table fine true_label o = refl
    every-progressed table fine false_label o = refl
    every-progressed table fine (pending n b e) o = every-progress (with_ends e (goal_of_node table n)) b (fine n b e o)
    every-progressed table fine (not_label q) o = every-negate (progressed N s D table q) (every-progressed table fine q o)
    every-progressed table fine (and_label q r) o =
        let h = and_parts (every_pending ok q) (every_pending ok r) o in
        every-conjoin (progressed N s D table q) (progressed N s D table r)
        (every-progressed table fine q h.0) (every-progressed table fine r h.1)
    every-progressed table fine (or_label q r) o =
        let h = and_parts (every_pending ok q) (every_pending ok r) o in
        every-disjoin (progressed N s D table q) (progressed N s D table r)
        (every-progressed table fine q h.0) (every-progressed table fine r h.1)
