-- How the ends of an interval are read, over plain values.
use Rattle.std.proofs.Common.{◌≡◌, ℕ, ◌<◌, ◌≤◌, Bool, true, false, eqb, leb, ◌⊎◌, List, Option, refl, ap, ◌∙◌, ⊎_elim, arith, Bor, ne_eqb, le-leb}
use borrow.Author.Tests.{lt-leb}
use Rattle.std.proofs.lemmas.Bool.{cond-false, and_from, and_left, and_right}
use Rattle.goals.specs.declared.time.Span.{Span}
use Rattle.goals.specs.declared.goal_fault.GoalFault.{GoalFault}
use Rattle.goals.specs.declared.rest.Rest.{Rest}
use Rattle.goals.specs.declared.token.Kind.{Kind}
use Rattle.goals.specs.declared.token.Kind.TheVariants as kind
use Rattle.goals.specs.declared.token.Sign.TheVariants as sign
use Rattle.goals.specs.declared.progress.Progress.{Progress}
use Rattle.goals.specs.Tokens.{word, variable, digits, mark, bad, Source, end, next, value}
use Rattle.goals.specs.Vocabulary.{Vocabulary}
use Rattle.goals.specs.Syntax as syntax
use Rattle.goals.specs.Seen.{seen, mark_of, is_sign}
use Rattle.goals.specs.Tree.{span}
use Rattle.goals.specs.Meanings.{capped}
use Rattle.goals.specs.Reading.{wants, expects, opens, lower, upper, Opener, resume, followed, move, fault, walk, run}
use Rattle.goals.specs.GoalFaults.{told}
use Rattle.goals.specs.Promises.{tokens, from, Passed, Here, SignRead, head_sign, head_place, LowerRead, UpperRead, EndsRead}
use Rattle.goals.proofs.Moves.{step, fail, still-then, still-passed}
use Rattle.goals.proofs.Terms.{expected, unexpected}

-- an end that was capped
pub small : (n : ℕ) (d : List ℕ) → n ≡ capped 0 d → n ≤ 10000 → n ≡ value d
small n d e h = omega (arith, e, h)

pub large : (n : ℕ) (d : List ℕ) → n ≡ capped 0 d → 10000 < n → 10000 < value d
large n d e h = omega (arith, e, h)

module _ (V : Vocabulary) {p : Progress} {place : ℕ} {behind : Rest} {d : List ℕ} (here : Here p (digits d) place behind) where
  pub lower-step : {q : Progress} → value d ≤ 10000 → Passed p q 0 behind → (m : Opener) → from V p (lower m) ≡ from V q (expects 44 (upper m d))
  unfolding move
  lower-step h passed m = step here V (lower m) refl (le-leb (value d) 10000 h) passed

  pub lower_fail : 10000 < value d → (m : Opener) → from V p (lower m) ≡ fault 6 place
  unfolding move
  lower_fail h m = fail here V (lower m) refl (lt-leb (value d) 10000 h)

  pub upper-step : {q : Progress} → value d ≤ 10000 → Passed p q 0 behind → (m : Opener) (lo : List ℕ) → value lo ≤ value d → from V p (upper m lo) ≡ from V q (expects 93 (wants (resume m (syntax.from_to lo d))))
  unfolding move
  upper-step h passed m lo l = step here V (upper m lo) refl (and_from (leb (value d) 10000) (leb (value lo) (value d)) (le-leb (value d) 10000 h) (le-leb (value lo) (value d) l)) passed

  pub upper_fail : (m : Opener) (lo : List ℕ) → (10000 < value d) ⊎ (value d < value lo) → from V p (upper m lo) ≡ fault 6 place
  unfolding move
  upper_fail m lo h =
      fail here V (upper m lo) refl
      (⊎_elim (λ l. and_left (leb (value d) 10000) (leb (value lo) (value d)) (lt-leb (value d) 10000 l)) (λ l. and_right (leb (value d) 10000) (leb (value lo) (value d)) (lt-leb (value lo) (value d) l)) h)

pub star_step : (V : Vocabulary) {p q : Progress} {place : ℕ} {behind : Rest} → Here p (mark 42) place behind → Passed p q 0 behind → (m : Opener) (lo : List ℕ) → from V p (upper m lo) ≡ from V q (expects 93 (wants (resume m (syntax.from_on lo))))
unfolding move
star_step V here passed m lo = step here V (upper m lo) refl refl passed

-- no ends stand here
pub no_ends : (V : Vocabulary) (strict : Bool) (n : ℕ) (m : Opener) (s : Source) → (head_sign s ≡ 91 → ⊥) → walk V strict n (opens m) s ≡ walk V strict n (wants (resume m syntax.unwritten)) s
unfolding walk move
no_ends V strict n m (end p) h = refl
no_ends V strict n m (next (word b) p s) h = refl
no_ends V strict n m (next (variable v) p s) h = refl
no_ends V strict n m (next (digits d) p s) h = refl
no_ends V strict n m (next (mark c) p s) h = ap (λ x. followed strict x n p (λ i g. walk V strict i g s)) (cond-false (eqb c 91) _ _ (ne_eqb c 91 h))
no_ends V strict n m (next bad p s) h = refl

pub open_ends : (V : Vocabulary) {p q : Progress} {place : ℕ} {behind : Rest} → Here p (mark 91) place behind → Passed p q 0 behind → (m : Opener) → from V p (opens m) ≡ from V q (lower m)
unfolding move
open_ends V here passed m = step here V (opens m) refl refl passed

-- ends are written
module _ (V : Vocabulary) {p q : Progress} {place : ℕ} {behind : Rest} (here : Here p (mark 91) place behind) (passed : Passed p q 0 behind) where
  pub lower-fault : (x : GoalFault) → ((m : Opener) → from V q (lower m) ≡ told x) → (m : Opener) → from V p (opens m) ≡ told x
  lower-fault x h m = open_ends V here passed m ∙ h m

  module _ {u : Progress} {n : ℕ} (low : LowerRead V q u n) where
    to_comma : (m : Opener) → from V p (opens m) ≡ from V u (expects 44 (upper m low.digits_read))
    to_comma m = open_ends V here passed m ∙ low.runs m

    pub comma_fault : (head_sign (tokens u) ≡ 44 → ⊥) → (m : Opener) → from V p (opens m) ≡ fault 4 (head_place (tokens u))
    comma_fault h m = to_comma m ∙ unexpected V u 44 (upper m low.digits_read) h

    module _ {v : Progress} (comma : SignRead u v 44) where
      to-upper : (m : Opener) → from V p (opens m) ≡ from V v (upper m low.digits_read)
      to-upper m = to_comma m ∙ expected V comma (upper m low.digits_read)

      pub upper-fault : (x : GoalFault) → ((m : Opener) (lo : List ℕ) → n ≡ value lo → from V v (upper m lo) ≡ told x) → (m : Opener) → from V p (opens m) ≡ told x
      upper-fault x h m = to-upper m ∙ h m low.digits_read low.value_is

      module _ {w : Progress} {b : Option Span} (high : UpperRead V n v w b) where
        to-close : (m : Opener) → from V p (opens m) ≡ from V w (expects 93 (wants (resume m (high.interval low.digits_read))))
        to-close m = to-upper m ∙ high.runs m low.digits_read low.value_is

        pub close-fault : (head_sign (tokens w) ≡ 93 → ⊥) → (m : Opener) → from V p (opens m) ≡ fault 4 (head_place (tokens w))
        close-fault h m = to-close m ∙ unexpected V w 93 (wants (resume m (high.interval low.digits_read))) h

        pub ends_read : {z : Progress} → SignRead w z 93 → EndsRead V p z (record { lower = span n; upper = b })
        ends_read {z} c =
            let one = still-passed here passed in
            let all = still-then (still-then (still-then (still-then one low.still) comma.still) high.still) c.still in
            record {
              interval = high.interval low.digits_read;
              value_is = ap (λ i. record { lower = span i; upper = b }) low.value_is ∙ high.value_is low.digits_read;
              runs = λ m. to-close m ∙ expected V c (wants (resume m (high.interval low.digits_read)));
              nodes_same = all.nodes_same;
              count_same = all.count_same;
              low = let f = all.further in omega (arith, f);
            }

-- a token that is no end
pub no_lower : (V : Vocabulary) (n : ℕ) (m : Opener) (t : Kind) (p : ℕ) (s : Source) → ((d : Bor (List ℕ)) → t ≡ kind.Number d → ⊥) → run V n (lower m) (seen t p s) ≡ fault 4 p
unfolding walk move
no_lower V n m (kind.Name b) p s h = refl
no_lower V n m (kind.Variable v) p s h = refl
no_lower V n m (kind.Number d) p s h = absurd (h d refl)
no_lower V n m (kind.Sign g) p s h = refl
no_lower V n m kind.Bad p s h = refl
no_lower V n m kind.End p s h = refl

pub no_upper : (V : Vocabulary) (n : ℕ) (m : Opener) (lo : List ℕ) (t : Kind) (p : ℕ) (s : Source) → is_sign t sign.Star ≡ false → ((d : Bor (List ℕ)) → t ≡ kind.Number d → ⊥) → run V n (upper m lo) (seen t p s) ≡ fault 4 p
unfolding walk move
no_upper V n m lo (kind.Name b) p s e h = refl
no_upper V n m lo (kind.Variable v) p s e h = refl
no_upper V n m lo (kind.Number d) p s e h = absurd (h d refl)
no_upper V n m lo (kind.Sign g) p s e h = ap (λ x. followed true x n p (λ i h. run V i h s)) (cond-false (eqb (mark_of g) 42) _ _ e)
no_upper V n m lo kind.Bad p s e h = refl
no_upper V n m lo kind.End p s e h = refl
