-- Lists of records as sets of facts: one record more, one overwritten, one fewer.
use Rattle.std.proofs.Common.{◌≡◌, ℕ, zero, suc, ◌+◌, ◌<◌, ◌≤◌, Bool, true, false, cond, ◌||◌, List, [], ◌∷◌, ◌++◌, length, get_or, set, sym, refl, ap, ◌∙◌, ⊎_elim, arith}
use mathlib.Core.Path.{fun_ext}
use Rattle.std.proofs.lemmas.Bool.{cases_Bool, cond-true, cond-false, or_cases, true≢false}
use Rattle.registers.specs.Facts.{one, count_of, in_bounds, same_fact, changed}
use Rattle.registers.specs.Meaning.{allowed}
use Rattle.registers.specs.Records.{listed}
use Rattle.registers.specs.declared.fact.Fact.{Fact}
use Rattle.registers.proofs.Counts.{count-changed, count_out, count-put_le, count_none, same_at}

or-cond : (s m : Bool) → (s || m) ≡ cond s true m
or-cond true m = refl
or-cond false m = refl

abbrev pub changed_by : (ℕ → ℕ → ℕ → Bool) → Fact → Bool → (ℕ → ℕ → ℕ → Bool)
changed_by h x v = changed h x.predicate x.first x.second v

abbrev pub same_of : Fact → ℕ → ℕ → ℕ → Bool
same_of x p a b = same_fact x.predicate x.first x.second p a b

abbrev pub listed_as : List Fact → Fact → Bool
listed_as xs x = listed xs x.predicate x.first x.second

-- what holds of a fact held in two ways
pub by_points : (h k : ℕ → ℕ → ℕ → Bool) → ((p a b : ℕ) → h p a b ≡ k p a b) → h ≡ k
by_points h k e = fun_ext (λ p. fun_ext (λ a. fun_ext (λ b. e p a b)))

pub listed_cons : (x : Fact) (xs : List Fact) → listed (x ∷ xs) ≡ changed_by (listed xs) x true
unfolding listed
listed_cons x xs = by_points (listed (x ∷ xs)) (changed_by (listed xs) x true) (λ p a b. or-cond (same_of x p a b) (listed xs p a b))

or_swap : (s t m : Bool) → (s || (t || m)) ≡ (t || (s || m))
or_swap true true m = refl
or_swap true false m = refl
or_swap false t m = refl

pub listed-push : (x : Fact) (xs : List Fact) (p a b : ℕ) → listed (xs ++ x ∷ []) p a b ≡ (same_of x p a b || listed xs p a b)
unfolding listed
listed-push x [] p a b = refl
listed-push x (y ∷ ys) p a b =
    ap (λ t. same_of y p a b || t) (listed-push x ys p a b) ∙ or_swap (same_of y p a b) (same_of x p a b) (listed ys p a b)

pub listed_pushed : (x : Fact) (xs : List Fact) → listed (xs ++ x ∷ []) ≡ changed_by (listed xs) x true
listed_pushed x xs =
    by_points (listed (xs ++ x ∷ [])) (changed_by (listed xs) x true)
    (λ p a b. listed-push x xs p a b ∙ or-cond (same_of x p a b) (listed xs p a b))

-- a record overwritten by another
pub listed-set : (ys : List Fact) (i : ℕ) (x z d : Fact) (p a b : ℕ) → i < length ys → get_or ys i d ≡ x →
    (same_of x p a b || listed (set ys i z) p a b) ≡ (same_of z p a b || listed ys p a b)
unfolding listed
listed-set [] i x z d p a b l e = absurd (omega arith)
listed-set (y ∷ ys) zero x z d p a b l e =
    ap (λ t. same_of x p a b || (same_of z p a b || listed ys p a b)) e
    ∙ (or_swap (same_of x p a b) (same_of z p a b) (listed ys p a b)
    ∙ ap (λ t. same_of z p a b || (same_of t p a b || listed ys p a b)) (sym e))
listed-set (y ∷ ys) (suc i) x z d p a b l e =
    or_swap (same_of x p a b) (same_of y p a b) (listed (set ys i z) p a b)
    ∙ (ap (λ t. same_of y p a b || t) (listed-set ys i x z d p a b (omega arith) e)
    ∙ or_swap (same_of y p a b) (same_of z p a b) (listed ys p a b))

pub count_le : (xs : List Fact) → count_of (listed xs) ≤ length xs
unfolding listed
count_le [] = omega (arith, count_none)
count_le (x ∷ xs) =
    let e : count_of (listed (x ∷ xs)) ≡ count_of (changed_by (listed xs) x true) = ap count_of (listed_cons x xs) in
    omega (arith, count-put_le (listed xs) x.predicate x.first x.second, count_le xs)

-- a record that may not be held is not counted
pub count-short : (xs : List Fact) (p a b : ℕ) → in_bounds p a b ≡ false → listed xs p a b ≡ true → count_of (listed xs) < length xs
unfolding listed
count-short [] p a b f m = absurd (true≢false (sym m))
count-short (x ∷ xs) p a b f m =
    let e : count_of (listed (x ∷ xs)) ≡ count_of (changed_by (listed xs) x true) = ap count_of (listed_cons x xs) in
    ⊎_elim
    (λ (s : same_of x p a b ≡ true).
    omega (arith, count_out (listed xs) x.predicate x.first x.second true (same_at in_bounds x.predicate x.first x.second p a b s ∙ f), count_le xs))
    (λ (k : listed xs p a b ≡ true).
    omega (arith, count-put_le (listed xs) x.predicate x.first x.second, count-short xs p a b f k))
    (or_cases (same_of x p a b) (listed xs p a b) m)

pub listed-bounded : (xs : List Fact) → count_of (listed xs) ≡ length xs → (p a b : ℕ) → listed xs p a b ≡ true → in_bounds p a b ≡ true
listed-bounded xs c p a b m =
    ⊎_elim
    (λ (f : in_bounds p a b ≡ true). f)
    (λ (f : in_bounds p a b ≡ false). absurd (omega (arith, count-short xs p a b f m)))
    (cases_Bool (in_bounds p a b))

-- one record more
pub count-push : (xs : List Fact) (x : Fact) → allowed x ≡ true → listed_as xs x ≡ false →
    count_of (listed (xs ++ x ∷ [])) ≡ count_of (listed xs) + 1
count-push xs x f m =
    let e : count_of (listed (xs ++ x ∷ [])) ≡ count_of (changed_by (listed xs) x true) = ap count_of (listed_pushed x xs) in
    let k = count-changed (listed xs) x.predicate x.first x.second true f in
    let o : one (listed_as xs x) ≡ 0 = ap one m in
    omega arith

-- one record fewer
pub record Fewer (old new : List Fact) (x : Fact) : Type 0 where
  pub facts : listed new ≡ changed_by (listed old) x false
  pub count : count_of (listed new) ≡ length new

pub fewer : (old new : List Fact) (x : Fact) → ((p a b : ℕ) → (same_of x p a b || listed new p a b) ≡ listed old p a b) →
    length old ≡ length new + 1 → count_of (listed old) ≡ length old → Fewer old new x
fewer old new x e l c =
    let es : listed old ≡ changed_by (listed new) x true
    = by_points (listed old) (changed_by (listed new) x true) (λ p a b. sym (e p a b) ∙ or-cond (same_of x p a b) (listed new p a b)) in
    let ec : count_of (listed old) ≡ count_of (changed_by (listed new) x true) = ap count_of es in
    let le = count_le new in
    let f : allowed x ≡ true
    = ⊎_elim (λ (t : allowed x ≡ true). t)
    (λ (t : allowed x ≡ false). absurd (omega (arith, count_out (listed new) x.predicate x.first x.second true t)))
    (cases_Bool (allowed x)) in
    let k = count-changed (listed new) x.predicate x.first x.second true f in
    let m : listed_as new x ≡ false
    = ⊎_elim (λ (t : listed_as new x ≡ true). absurd (let o : one (listed_as new x) ≡ 1 = ap one t in omega arith))
    (λ (t : listed_as new x ≡ false). t)
    (cases_Bool (listed_as new x)) in
    let o : one (listed_as new x) ≡ 0 = ap one m in
    record {
      facts =
          by_points (listed new) (changed_by (listed old) x false)
          (λ p a b.
          ⊎_elim
          (λ (s : same_of x p a b ≡ true).
          sym (same_at (listed new) x.predicate x.first x.second p a b s)
          ∙ (m ∙ sym (cond-true (same_of x p a b) false (listed old p a b) s)))
          (λ (s : same_of x p a b ≡ false).
          sym (ap (λ t. t || listed new p a b) s)
          ∙ (e p a b ∙ sym (cond-false (same_of x p a b) false (listed old p a b) s)))
          (cases_Bool (same_of x p a b)));
      count = omega arith;
    }
