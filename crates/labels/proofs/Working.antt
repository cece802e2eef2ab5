-- What working out a step answers, from what the calls answer that fill its two tables.
use Rattle.std.proofs.Common.{◌≡◌, ℕ, ◌<◌, ◌≤◌, List, [], ◌∷◌, length, get_or, Ok, Err, Result, ap, subst, arith}
use Rattle.std.specs.Result.{MatchResult, IsErrAnd}
use Rattle.goals.specs.declared.goal.Node.{Node}
use Rattle.labels.specs.declared.part.Part.{Part}
use Rattle.labels.specs.declared.refusal.LabelRefusal.{LabelRefusal}
use Rattle.labels.specs.declared.refusal.LabelRefusal.TheVariants.{TooMuchWork, TooLong}
use Rattle.labels.specs.Facts.{Facts}
use Rattle.labels.specs.Labels.{Label}
use Rattle.labels.specs.Progress.{progressed}
use Rattle.labels.specs.Work.{each_results, work}
use Rattle.labels.specs.Table.{label_at, rows, InOrder, NoTwins, OnlyParts}
use Rattle.labels.specs.Growth.{Made, Over, Added}
use Rattle.labels.specs.Partwise.{AllProgressed, ProgressedAll}
use Rattle.labels.specs.Worked.{Worked}
use Rattle.labels.proofs.Growing.{growth_tells-size, growth_tells-work}
use Rattle.labels.proofs.Labelled.{only_grown, only_subset}

-- a call's answer, and the same with its error named
abbrev pub Named : {T E D : Type 0} → D → Result T E → Result T D → Type 0
Named d a b = MatchResult a (λ x. b ≡ Ok x) (λ e. b ≡ Err d)

pub named : {T E D : Type 0} (d : D) (a : Result T E) (b : Result T D) {P : E → D → Type 0} → ((e : E) (r : D) → P e r → r ≡ d) →
    MatchResult a (λ x. b ≡ Ok x) (λ e. IsErrAnd b (P e)) → Named d a b
named d (Ok x) b f h = h
named d (Err e) (Ok x) f h = absurd h
named d (Err e) (Err r) f h = ap Err (f e r h)

module _ (N : ℕ) (S : Facts) (D : ℕ) (nodes : List Node) (t : List Part) (order : InOrder t) (root : ℕ) (inside : root < length t) (only : OnlyParts t root) where
  -- the first table passes its limit
  pub too_much : {E : Type 0} (a : Result (Unit {0}) E) (b : Result (Unit {0}) LabelRefusal) (r : LabelRefusal) (to : List ℕ) (old u new : List Part) →
      Named TooMuchWork a b → b ≡ Err r → ProgressedAll N S D nodes 4096 t to old u a → old ≡ [] → Worked N S D nodes (label_at t root) new (Err r)
  too_much (Ok x) b r to old u new n e p z = absurd cc
  too_much (Err y) b r to old u new n e p z =
      let is : TooMuchWork ≡ r = cc in
      subst (λ (x : LabelRefusal). Worked N S D nodes (label_at t root) new (Err x)) is
      ((growth_tells-work N S D nodes t root order inside (only_subset t root only)).0 4096
      (subst (λ (x : List Part). Over 4096 x (each_results N S D nodes (rows t))) z p))

  pub all_done : {E : Type 0} (a : Result (Unit {0}) E) (b : Result (Unit {0}) LabelRefusal) (x : Unit {0}) (to : List ℕ) (old u : List Part) →
      Named TooMuchWork a b → b ≡ Ok x → ProgressedAll N S D nodes 4096 t to old u a → old ≡ [] → AllProgressed N S D nodes t to [] u
  all_done (Ok y) b x to old u n e p z = subst (λ (o : List Part). AllProgressed N S D nodes t to o u) z p
  all_done (Err y) b x to old u n e p z = absurd cc

  -- it does not: what the second table tells
  module _ (u : List Part) (to : List ℕ) (all : AllProgressed N S D nodes t to [] u) (u-order : InOrder u) (u-twins : NoTwins u) (few : length u ≤ 4096) where
    is : label_at u (get_or to root 0) ≡ progressed N S D nodes (label_at t root)
    is = (all.placed root inside).1

    fits : length (work N S D nodes (label_at t root)) ≤ 4096
    fits =
        let many : length u ≡ length (work N S D nodes (label_at t root)) =
        (growth_tells-work N S D nodes t root order inside (only_subset t root only)).1 u u-order u-twins all.grew in
        omega arith

    pub worked : {E : Type 0} (a : Result ℕ E) (b : Result ℕ LabelRefusal) (old new : List Part) → InOrder new → NoTwins new → length new ≤ 512 →
        Named TooLong a b → Added 512 old new (label_at u (get_or to root 0)) a → old ≡ [] → Worked N S D nodes (label_at t root) new b
    worked (Ok i) b old new new-order new-twins short n m z =
        let q : Label = progressed N S D nodes (label_at t root) in
        let m' : Made [] new q (q ∷ []) i =
        subst (λ (o : List Part). Made o new q (q ∷ []) i) z (subst (λ (l : Label). Made old new l (l ∷ []) i) is m) in
        let size-is = (growth_tells-size q).1 new new-order new-twins m'.grew in
        rw n (record { work_fits = fits; size_fits = omega arith; within = m'.within; is = m'.is; only = only_grown m' })
    worked (Err e) b old new new-order new-twins short n o z =
        let q : Label = progressed N S D nodes (label_at t root) in
        rw n (fits, (growth_tells-size q).0 512 (subst (λ (x : List Part). Over 512 x (q ∷ [])) z (subst (λ (l : Label). Over 512 old (l ∷ [])) is o)))
