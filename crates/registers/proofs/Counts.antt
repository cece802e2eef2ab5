-- Sums over numbers below a bound, and how the count of a set moves when one fact changes.
use Rattle.std.proofs.Common.{◌≡◌, ℕ, zero, suc, ◌+◌, ◌*◌, ◌<◌, ◌≤◌, Bool, true, false, eqb, ltb, sym, refl, ap, ◌∙◌, ⊎_elim, suc-mul, arith}
use Rattle.std.proofs.lemmas.Bool.{cases_eq, cases_Bool, eq-eqb, ne_eqb, and_parts, and_left, and_right, and_from, lt-ltb, both_ways, eqb-true, ltb-true, cond-false}
use Rattle.registers.specs.Facts.{sum_below, one, count_of, in_bounds, same_fact, changed}

pub sum_same : (n : ℕ) (f g : ℕ → ℕ) → ((k : ℕ) → k < n → f k ≡ g k) → sum_below n f ≡ sum_below n g
unfolding sum_below
sum_same zero f g h = refl
sum_same (suc n) f g h =
    let e : sum_below n f ≡ sum_below n g = sum_same n f g (λ k l. h k (omega arith)) in
    let e' : f n ≡ g n = h n (omega arith) in
    omega arith

-- two functions that differ at one place alone
pub sum_change : (n i : ℕ) (f g : ℕ → ℕ) → i < n → ((k : ℕ) → (k ≡ i → ⊥) → f k ≡ g k) →
    sum_below n f + g i ≡ sum_below n g + f i
unfolding sum_below
sum_change zero i f g l h = absurd (omega arith)
sum_change (suc n) i f g l h =
    ⊎_elim
    (λ (e : n ≡ i).
    let r : sum_below n f ≡ sum_below n g = sum_same n f g (λ k lt. h k (omega arith)) in
    let a : f n ≡ f i = ap f e in
    let b : g n ≡ g i = ap g e in
    omega arith)
    (λ (ne : n ≡ i → ⊥).
    let lt : i < n = omega arith in
    let r : sum_below n f + g i ≡ sum_below n g + f i = sum_change n i f g lt h in
    let s : f n ≡ g n = h n ne in
    omega arith)
    (cases_eq n i)

pub sum-none : (n : ℕ) → sum_below n (λ k. 0) ≡ 0
unfolding sum_below
sum-none zero = refl
sum-none (suc n) = let r : sum_below n (λ k. 0) ≡ 0 = sum-none n in omega arith

pub changed-here : (h : ℕ → ℕ → ℕ → Bool) (p a b : ℕ) (v : Bool) → changed h p a b v p a b ≡ v
changed-here h p a b v = simp (eq-eqb p p refl, eq-eqb a a refl, eq-eqb b b refl)

pub changed-p : (h : ℕ → ℕ → ℕ → Bool) (p a b : ℕ) (v : Bool) (q x y : ℕ) → (q ≡ p → ⊥) → changed h p a b v q x y ≡ h q x y
changed-p h p a b v q x y ne = simp (ne_eqb p q (λ e. ne (sym e)))

pub changed_a : (h : ℕ → ℕ → ℕ → Bool) (p a b : ℕ) (v : Bool) (q x y : ℕ) → (x ≡ a → ⊥) → changed h p a b v q x y ≡ h q x y
changed_a h p a b v q x y ne = cond-false _ v (h q x y) (and_right (eqb p q) _ (and_left _ (eqb b y) (ne_eqb a x (λ e. ne (sym e)))))

pub changed_b : (h : ℕ → ℕ → ℕ → Bool) (p a b : ℕ) (v : Bool) (q x y : ℕ) → (y ≡ b → ⊥) → changed h p a b v q x y ≡ h q x y
changed_b h p a b v q x y ne = cond-false _ v (h q x y) (and_right (eqb p q) _ (and_right (eqb a x) _ (ne_eqb b y (λ e. ne (sym e)))))

-- one fact changed moves the count by that fact
pub count-changed : (h : ℕ → ℕ → ℕ → Bool) (p a b : ℕ) (v : Bool) → in_bounds p a b ≡ true →
    count_of (changed h p a b v) + one (h p a b) ≡ count_of h + one v
unfolding count_of
count-changed h p a b v f =
    let fp = and_parts (ltb p 16) _ f in
    let fab = and_parts (ltb a 128) _ fp.1 in
    let lp : p < 16 = ltb-true p 16 fp.0 in
    let la : a < 128 = ltb-true a 128 fab.0 in
    let lb : b < 128 = ltb-true b 128 fab.1 in
    let here : one (changed h p a b v p a b) ≡ one v = ap one (changed-here h p a b v) in
    let e3 : sum_below 128 (λ y. one (changed h p a b v p a y)) + one (h p a b) ≡ sum_below 128 (λ y. one (h p a y)) + one (changed h p a b v p a b)
    = sum_change 128 b (λ y. one (changed h p a b v p a y)) (λ y. one (h p a y)) lb (λ y ne. ap one (changed_b h p a b v p a y ne)) in
    let e2 : sum_below 128 (λ x. sum_below 128 (λ y. one (changed h p a b v p x y))) + sum_below 128 (λ y. one (h p a y))
    ≡ sum_below 128 (λ x. sum_below 128 (λ y. one (h p x y))) + sum_below 128 (λ y. one (changed h p a b v p a y))
    = sum_change 128 a (λ x. sum_below 128 (λ y. one (changed h p a b v p x y))) (λ x. sum_below 128 (λ y. one (h p x y))) la
    (λ x ne. sum_same 128 (λ y. one (changed h p a b v p x y)) (λ y. one (h p x y)) (λ y l. ap one (changed_a h p a b v p x y ne))) in
    let e1 : sum_below 16 (λ q. sum_below 128 (λ x. sum_below 128 (λ y. one (changed h p a b v q x y)))) + sum_below 128 (λ x. sum_below 128 (λ y. one (h p x y)))
    ≡ sum_below 16 (λ q. sum_below 128 (λ x. sum_below 128 (λ y. one (h q x y)))) + sum_below 128 (λ x. sum_below 128 (λ y. one (changed h p a b v p x y)))
    = sum_change 16 p (λ q. sum_below 128 (λ x. sum_below 128 (λ y. one (changed h p a b v q x y)))) (λ q. sum_below 128 (λ x. sum_below 128 (λ y. one (h q x y)))) lp
    (λ q ne. sum_same 128 (λ x. sum_below 128 (λ y. one (changed h p a b v q x y))) (λ x. sum_below 128 (λ y. one (h q x y)))
    (λ x l. sum_same 128 (λ y. one (changed h p a b v q x y)) (λ y. one (h q x y)) (λ y l2. ap one (changed-p h p a b v q x y ne)))) in
    omega arith

-- facts that agree wherever a fact may be have one count
pub count_same : (h k : ℕ → ℕ → ℕ → Bool) → ((p a b : ℕ) → in_bounds p a b ≡ true → h p a b ≡ k p a b) → count_of h ≡ count_of k
unfolding count_of
count_same h k e =
    sum_same 16 _ _ (λ p lp. sum_same 128 _ _ (λ a la. sum_same 128 _ _ (λ b lb. ap one (e p a b
    (and_from (ltb p 16) _ (lt-ltb p 16 lp) (and_from (ltb a 128) _ (lt-ltb a 128 la) (lt-ltb b 128 lb)))))))

pub count_none : count_of (λ p a b. false) ≡ 0
unfolding count_of
count_none =
    sum_same 16 (λ p. sum_below 128 (λ a. sum_below 128 (λ b. 0))) (λ p. 0)
    (λ p lp. sum_same 128 (λ a. sum_below 128 (λ b. 0)) (λ a. 0) (λ a la. sum-none 128) ∙ sum-none 128)
    ∙ sum-none 16

pub same_parts : (p a b q x y : ℕ) → same_fact p a b q x y ≡ true → (p ≡ q) × (a ≡ x) × (b ≡ y)
same_parts p a b q x y e =
    let h = and_parts (eqb p q) _ e in
    let k = and_parts (eqb a x) _ h.1 in
    (eqb-true p q h.0, eqb-true a x k.0, eqb-true b y k.1)

-- a function of facts has one value at facts that are the same_fact
pub same_at : {B : Type 0} (f : ℕ → ℕ → ℕ → B) (p a b q x y : ℕ) → same_fact p a b q x y ≡ true → f p a b ≡ f q x y
same_at f p a b q x y e =
    let h = same_parts p a b q x y e in
    ap (λ n. f n a b) h.0 ∙ (ap (λ n. f q n b) h.1 ∙ ap (λ n. f q x n) h.2)

-- changing a fact that may not be held leaves the count
pub count_out : (h : ℕ → ℕ → ℕ → Bool) (p a b : ℕ) (v : Bool) → in_bounds p a b ≡ false →
    count_of (changed h p a b v) ≡ count_of h
count_out h p a b v f =
    count_same (changed h p a b v) h
    (λ q x y k.
    ⊎_elim
    (λ (s : same_fact p a b q x y ≡ true). absurd (both_ways (in_bounds p a b) f (same_at in_bounds p a b q x y s ∙ k)))
    (λ (s : same_fact p a b q x y ≡ false). cond-false (same_fact p a b q x y) v (h q x y) s)
    (cases_Bool (same_fact p a b q x y)))

pub one_le : (b : Bool) → one b ≤ 1
one_le true = omega arith
one_le false = omega arith

pub count-put_le : (h : ℕ → ℕ → ℕ → Bool) (p a b : ℕ) → count_of (changed h p a b true) ≤ count_of h + 1
count-put_le h p a b =
    ⊎_elim
    (λ (f : in_bounds p a b ≡ true). omega (arith, count-changed h p a b true f))
    (λ (f : in_bounds p a b ≡ false). omega (arith, count_out h p a b true f))
    (cases_Bool (in_bounds p a b))

pub count-put_ge : (h : ℕ → ℕ → ℕ → Bool) (p a b : ℕ) → count_of h ≤ count_of (changed h p a b true)
count-put_ge h p a b =
    ⊎_elim
    (λ (f : in_bounds p a b ≡ true). omega (arith, count-changed h p a b true f, one_le (h p a b)))
    (λ (f : in_bounds p a b ≡ false). omega (arith, count_out h p a b true f))
    (cases_Bool (in_bounds p a b))

pub sum_le : (n m : ℕ) (f : ℕ → ℕ) → ((k : ℕ) → f k ≤ m) → sum_below n f ≤ n * m
unfolding sum_below
sum_le zero m f h = omega arith
sum_le (suc n) m f h = omega (arith, sum_le n m f h, h n, suc-mul n m)

-- no set has more than every fact in bounds
pub count-all : (h : ℕ → ℕ → ℕ → Bool) → count_of h ≤ 262144
unfolding count_of
count-all h =
    sum_le 16 16384 (λ p. sum_below 128 (λ a. sum_below 128 (λ b. one (h p a b))))
    (λ p. sum_le 128 128 (λ a. sum_below 128 (λ b. one (h p a b))) (λ a. sum_le 128 1 (λ b. one (h p a b)) (λ b. one_le (h p a b))))
