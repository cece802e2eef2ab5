-- An until at one state, by what is left of it at the next.
use Rattle.std.proofs.Common.{◌≡◌, ℕ, zero, suc, ◌-◌, ◌<◌, ◌≤◌, true, false, ◌↔◌, Some, None, Option, sym, ap, subst, le_trans, le_of_eq, arith, ltb-false, ltb-true}
use native.Mathlib.Decide.{dec_le, dec_lt}
use Rattle.goals.specs.declared.time.Span.{Span}
use Rattle.goals.specs.declared.goal.Ends.{Ends}
use Rattle.labels.specs.Progress.{upper_less, passed, later}
use Rattle.labels.specs.Sequences.{NeverFalls}
use Rattle.labels.specs.Truth.{Neither, AtMost, Within, Until}

pub rises : (hour : ℕ → ℕ) → NeverFalls hour → (i j : ℕ) → i ≤ j → hour i ≤ hour j
rises hour timed i zero h = le_of_eq (ap hour (omega arith))
rises hour timed i (suc j) h = elim (dec_le i j) [
  | yes l ↦ le_trans (rises hour timed i j l) (timed j)
  | no m ↦ le_of_eq (ap hour (omega arith))
]

at_most_0 : (u : Option Span) (span : ℕ) → span ≡ 0 → AtMost u span
at_most_0 (Some n) span z = omega arith
at_most_0 None span z = tt

-- an until whose state j comes after state i, with the span still counted from i
abbrev pub Later : (ℕ → ℕ) → Ends → (ℕ → Type 0) → (ℕ → Type 0) → ℕ → Type 0
Later hour e P Q i =
    ¬ ((j : ℕ) → suc i ≤ j → Within e (hour j - hour i) → Q j → ¬ ((k : ℕ) → suc i ≤ k → k < j → P k))

module _ (hour : ℕ → ℕ) (e : Ends) (P Q : ℕ → Type 0) (i : ℕ) where
  widen : P i → Later hour e P Q i → Until hour e P Q i
  widen p later none =
      later (λ j le w q ps. none j (omega arith) w q (λ k ik kj. elim (dec_le (suc i) k) [
        | yes l ↦ ps k l kj
        | no m ↦ subst P (let x : i ≡ k = omega arith in x) p
      ]))

  -- with a lower end above 0, state j is not i itself
  beyond : 0 < e.lower.hours → (j : ℕ) → i ≤ j → Within e (hour j - hour i) → i < j
  beyond pos j le w = elim (dec_lt i j) [
    | yes l ↦ l
    | no m ↦
        let x : j ≡ i = omega arith in
        let y : hour j ≡ hour i = ap hour x in
        let z : e.lower.hours ≤ hour j - hour i = w.0 in
        absurd (omega arith)
  ]

  pub until-after : 0 < e.lower.hours → (¬ (¬ (P i)) → P i) → Until hour e P Q i ↔ (P i × Later hour e P Q i)
  until-after pos stable = (
    (λ u. (
      stable (λ np. u (λ j le w q ps. np (ps i (omega arith) (beyond pos j le w)))),
      (λ none. u (λ j le w q ps. none j (beyond pos j le w) w q (λ k ik kj. ps k (omega arith) kj))),
    )),
    (λ pl. widen pl.0 pl.1),
  )

  pub until_now : e.lower.hours ≤ 0 → Until hour e P Q i ↔ (¬ (Neither (Q i) (P i × Later hour e P Q i)))
  until_now z = (
    (λ u n. u (λ j le w q ps. elim (dec_lt i j) [
      | yes l ↦ n.1 (ps i (omega arith) l, λ none. none j l w q (λ k ik kj. ps k (omega arith) kj))
      | no m ↦ n.0 (subst Q (let x : j ≡ i = omega arith in x) q)
    ])),
    (λ o none. o (
      (λ q. none i (omega arith) (omega arith, at_most_0 e.upper (hour i - hour i) (omega arith)) q
          (λ k ik ki. absurd (omega arith))),
      (λ pl. widen pl.0 pl.1 none),
    )),
  )

-- the ends D hours later, at a span that is shorter by D
module _ (D span : ℕ) (room : D ≤ span) where
  upper-later : (u : Option Span) → passed D u ≡ false → AtMost (upper_less D u) (span - D) ↔ AtMost u span
  upper-later (Some n) h = let x = ltb-false n.hours D h in ((λ y. omega arith), λ y. omega arith)
  upper-later None h = ((λ y. y), λ y. y)

  upper-passed : (u : Option Span) → passed D u ≡ true → ¬ (AtMost u span)
  upper-passed (Some n) h y = let x = ltb-true n.hours D h in absurd (omega arith)
  upper-passed None h y = let x : ◌≡◌ {A = ℕ} 0 1 = cc in absurd (omega arith)

  within-later : (e : Ends) → passed D e.upper ≡ false → Within (later D e) (span - D) ↔ Within e span
  within-later e h =
      let u = upper-later e.upper h in (
        (λ w. let x : e.lower.hours - D ≤ span - D = w.0 in (omega arith, u.0 w.1)),
        (λ w. let x : e.lower.hours ≤ span = w.0 in (omega arith, u.1 w.1)),
      )

-- the rest of an until at the next state
module _ (hour : ℕ → ℕ) (timed : NeverFalls hour) (e : Ends) (P Q : ℕ → Type 0) (i : ℕ) where
  abbrev D : ℕ
  D = hour (suc i) - hour i

  step : (j : ℕ) → suc i ≤ j → (hour j - hour i) - D ≡ hour j - hour (suc i)
  step j le = let x = timed i in let y = rises hour timed (suc i) j le in omega arith

  room : (j : ℕ) → suc i ≤ j → D ≤ hour j - hour i
  room j le = let x = timed i in let y = rises hour timed (suc i) j le in omega arith

  within_step : passed D e.upper ≡ false → (j : ℕ) → suc i ≤ j →
      Within (later D e) (hour j - hour (suc i)) ↔ Within e (hour j - hour i)
  within_step h j le =
      let w = within-later D (hour j - hour i) (room j le) e h in
      let P : ℕ → Type 0 = λ d. Within (later D e) d in
      ((λ x. w.0 (subst P (sym (step j le)) x)), (λ x. subst P (step j le) (w.1 x)))

  pub until-rest : passed (hour (suc i) - hour i) e.upper ≡ false →
      Later hour e P Q i ↔ Until hour (later (hour (suc i) - hour i) e) P Q (suc i)
  until-rest h = (
    (λ l none. l (λ j le w q ps. none j le ((within_step h j le).1 w) q ps)),
    (λ u none. u (λ j le w q ps. none j le ((within_step h j le).0 w) q ps)),
  )

  pub until-passed : passed (hour (suc i) - hour i) e.upper ≡ true → ¬ (Later hour e P Q i)
  until-passed h l = l (λ j le w q ps. absurd (upper-passed D (hour j - hour i) (room j le) e.upper h w.1))
