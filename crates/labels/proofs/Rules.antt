-- The rules of the simplified joinings, one by one, and the steps of a quantifier.
use Rattle.std.proofs.Common.{◌≡◌, ℕ, zero, suc, Bool, true, false, cond, ◌||◌, List, ◌∷◌, ◌++◌, sym, refl, ap, ◌∙◌}
use Rattle.labels.specs.Labels.{Label, true_label, false_label, and_label, or_label}
use Rattle.labels.specs.Same.{same}
use Rattle.labels.specs.declared.connective.Connective.{Connective}
use Rattle.labels.specs.declared.connective.Connective.TheVariants.{And, Or}
use Rattle.labels.specs.Joining.{conjoin, disjoin, joined}
use Rattle.labels.specs.Connectives.{join_by, start_of}
use Rattle.labels.specs.Work.{running}
use Rattle.labels.proofs.Same.{same-is, same_true, same_false}

-- the label of the part that is the result wherever it is joined
abbrev pub absorbing : Connective → Label
absorbing And = false_label
absorbing Or = true_label

abbrev pub joined_label : Connective → Label → Label → Label
joined_label And q r = and_label q r
joined_label Or q r = or_label q r

-- a joining as its rules read, at the answers to its tests
join-at : (by : Connective) (q r : Label) {a b c d e : Bool} →
    same q (absorbing by) ≡ a → same r (absorbing by) ≡ b → same q (start_of by) ≡ c → same r (start_of by) ≡ d → same q r ≡ e →
    join_by by q r ≡ cond (a || b) (absorbing by) (cond c r (cond (d || e) q (joined_label by q r)))
unfolding conjoin disjoin
join-at And q r x y z w v = λ i. cond (x i || y i) false_label (cond (z i) r (cond (w i || v i) q (and_label q r)))
join-at Or q r x y z w v = λ i. cond (x i || y i) true_label (cond (z i) r (cond (w i || v i) q (or_label q r)))

not_both : (by : Connective) (q : Label) → q ≡ absorbing by → q ≡ start_of by → ⊥
not_both And q e f = cc
not_both Or q e f = cc

module _ (by : Connective) (q r : Label) where
  pub join_left_absorbing : q ≡ absorbing by → join_by by q r ≡ absorbing by
  join_left_absorbing e = join-at by q r (same_true q (absorbing by) e) refl refl refl refl

  pub join_right_absorbing : r ≡ absorbing by → join_by by q r ≡ absorbing by
  join_right_absorbing e = go (same q (absorbing by)) refl
    where
      go : (a : Bool) → same q (absorbing by) ≡ a → join_by by q r ≡ absorbing by
      go true x = join_left_absorbing (same-is q (absorbing by) x)
      go false x = join-at by q r x (same_true r (absorbing by) e) refl refl refl

  pub join_left_neutral : q ≡ start_of by → join_by by q r ≡ r
  join_left_neutral e = go (same q (absorbing by)) refl (same r (absorbing by)) refl
    where
      go : (a : Bool) → same q (absorbing by) ≡ a → (b : Bool) → same r (absorbing by) ≡ b → join_by by q r ≡ r
      go true x b y = absurd (not_both by q (same-is q (absorbing by) x) e)
      go false x true y = join-at by q r x y refl refl refl ∙ sym (same-is r (absorbing by) y)
      go false x false y = join-at by q r x y (same_true q (start_of by) e) refl refl

  pub join_right_neutral : r ≡ start_of by → join_by by q r ≡ q
  join_right_neutral e = go (same q (absorbing by)) refl (same r (absorbing by)) refl (same q (start_of by)) refl
    where
      go : (a : Bool) → same q (absorbing by) ≡ a → (b : Bool) → same r (absorbing by) ≡ b → (c : Bool) → same q (start_of by) ≡ c → join_by by q r ≡ q
      go true x b y c z = join_left_absorbing (same-is q (absorbing by) x) ∙ sym (same-is q (absorbing by) x)
      go false x true y c z = absurd (not_both by r (same-is r (absorbing by) y) e)
      go false x false y true z = join_left_neutral (same-is q (start_of by) z) ∙ (e ∙ sym (same-is q (start_of by) z))
      go false x false y false z = join-at by q r x y z (same_true r (start_of by) e) refl

  pub join_same : q ≡ r → join_by by q r ≡ q
  join_same e = go (same q (absorbing by)) refl (same q (start_of by)) refl (same r (start_of by)) refl
    where
      go : (a : Bool) → same q (absorbing by) ≡ a → (c : Bool) → same q (start_of by) ≡ c → (d : Bool) → same r (start_of by) ≡ d → join_by by q r ≡ q
      go true x c z d w = join_left_absorbing (same-is q (absorbing by) x) ∙ sym (same-is q (absorbing by) x)
      go false x true z d w = join_left_neutral (same-is q (start_of by) z) ∙ sym e
      go false x false z true w = join_right_neutral (same-is r (start_of by) w)
      go false x false z false w = join-at by q r x (ap (λ (l : Label). same l (absorbing by)) (sym e) ∙ x) z w (same_true q r e)

  pub join_apart : ¬ (q ≡ absorbing by) → ¬ (r ≡ absorbing by) → ¬ (q ≡ start_of by) → ¬ (r ≡ start_of by) → ¬ (q ≡ r) → join_by by q r ≡ joined_label by q r
  join_apart x y z w v =
      join-at by q r (same_false q (absorbing by) x) (same_false r (absorbing by) y) (same_false q (start_of by) z) (same_false r (start_of by) w) (same_false q r v)

-- one id more of a quantifier: out of range, or in it
module _ (join : Label → Label → Label) (start : Label) (range : ℕ → Bool) (item : ℕ → Label) where
  pub joined-none : joined join start range item zero ≡ start
  unfolding joined
  joined-none = refl

  pub joined_skip : (n : ℕ) → range n ≡ false → joined join start range item (suc n) ≡ joined join start range item n
  unfolding joined
  joined_skip n e =
      ap (λ (c : Bool). elim c [ true ↦ join (joined join start range item n) (item n) | false ↦ joined join start range item n ]) e

  pub joined-more : (n : ℕ) → range n ≡ true → joined join start range item (suc n) ≡ join (joined join start range item n) (item n)
  unfolding joined
  joined-more n e =
      ap (λ (c : Bool). elim c [ true ↦ join (joined join start range item n) (item n) | false ↦ joined join start range item n ]) e

  module _ (results : ℕ → List Label) where
    abbrev step : ℕ → Bool → List Label
    step n c =
        elim c [
          | true ↦ (joined join start range item (suc n) ∷ results n) ++ running join start range item results n
          | false ↦ running join start range item results n
        ]

    pub running_skip : (n : ℕ) → range n ≡ false → running join start range item results (suc n) ≡ running join start range item results n
    unfolding running
    running_skip n e = ap (step n) e

    pub running_more : (n : ℕ) → range n ≡ true →
        running join start range item results (suc n)
        ≡ (joined join start range item (suc n) ∷ results n) ++ running join start range item results n
    unfolding running
    running_more n e = ap (step n) e
