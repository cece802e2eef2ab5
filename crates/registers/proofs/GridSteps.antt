-- What the grid's steps come to: bits of a row, the count of all rows, one bit written.
use Rattle.std.proofs.Common.{◌≡◌, ℕ, zero, suc, ◌+◌, ◌-◌, ◌*◌, ◌/◌, ◌%◌, ◌^◌, ◌<◌, ◌≤◌, Bool, true, false, cond, ◌&&◌, eqb, ltb, leb, List, length, get_or, set, replicate, sym, refl, ap, ◌∙◌, subst, ⊎_elim, suc-mul, one-mul, pow-suc, zero-mul, div-one, add-one, one-add, arith, lit<, get_or-set_other, get_or-set_same}
use native.Mathlib.Nat.{div-eq_of_lt, zero-div, mul-mod_left, mul-div_right}
use lib.Bits.{bit_and, bit_or, bit_xor, or_zero_r, xor_zero_r}
use lib.Count.{ones, ones_step, ones-le}
use lib.ListN.{length-replicate}
use Rattle.std.proofs.lemmas.List.{get_or-replicate, get_or_default, get_or_past}
use Rattle.std.proofs.lemmas.Nat.{and_mask, pow_pos, pow-add, pow_below, shl-shr, shr-shr, or_shr, xor_shr, or_mod, xor_mod, shr_below, mod_below}
use Rattle.std.proofs.lemmas.Bool.{cases_Bool, cases_lt, cases_eq, cases_order, both_ways, cond-true, cond-false, and_parts, and_from, and_right, and_cases, eqb-true, eq-eqb, ne_eqb, ltb-true, ltb-false, leb-false, lt-ltb}
use Rattle.registers.specs.Facts.{one, sum_below, count_of, in_bounds, same_fact, changed}
use Rattle.registers.specs.Meaning.{has, size_of, limit_of, allowed, including, excluding, empty_of}
use Rattle.registers.specs.Grid.{bit_of, bits_of, grid_facts, grid_meaning}
use Rattle.registers.specs.declared.fact.Fact.{Fact}
use Rattle.registers.proofs.Counts.{count_none, count-changed, sum_same, same_at, same_parts}
use Rattle.registers.proofs.Members.{by_points}
use Rattle.registers.proofs.Laws.{meaning_eq, size_room}

-- bits of one row

pow_bit : (b k : ℕ) → 2 ^ b / 2 ^ k % 2 ≡ cond (eqb b k) 1 0
pow_bit b k =
    ⊎_elim
    (λ (e : b ≡ k).
    let d : 2 ^ k / 2 ^ k ≡ 1 = ap (λ t. t / 2 ^ k) (sym (one-mul (2 ^ k))) ∙ shl-shr 1 k in
    ap (λ t. 2 ^ t / 2 ^ k % 2) e ∙ (ap (λ t. t % 2) d ∙ sym (cond-true (eqb b k) 1 0 (eq-eqb b k e))))
    (⊎_elim
    (λ (l : b < k).
    ap (λ t. t % 2) (div-eq_of_lt (pow_below b k l)) ∙ sym (cond-false (eqb b k) 1 0 (ne_eqb b k (λ e. omega arith))))
    (λ (l : k < b).
    let d : b ≡ k + suc (b - suc k) = omega arith in
    ap (λ t. 2 ^ t / 2 ^ k % 2) d
    ∙ (ap (λ t. t / 2 ^ k % 2) (pow-add 2 k (suc (b - suc k)))
    ∙ (ap (λ t. t % 2) (mul-div_right (2 ^ suc (b - suc k)) (pow_pos k))
    ∙ (ap (λ t. t % 2) (pow-suc 2 (b - suc k))
    ∙ (mul-mod_left (2 ^ (b - suc k)) 2 ∙ sym (cond-false (eqb b k) 1 0 (ne_eqb b k (λ e. omega arith)))))))))
    (cases_order b k)

or-bit : (e : Bool) (x : ℕ) → x < 2 → eqb (bit_or x (cond e 1 0)) 1 ≡ cond e true (eqb x 1)
or-bit true zero h = refl
or-bit true (suc zero) h = refl
or-bit true (suc (suc n)) h = absurd (omega arith)
or-bit false x h = ap (λ t. eqb t 1) (or_zero_r x)

xor_bit : (e : Bool) (x : ℕ) → (e ≡ true → x ≡ 1) → eqb (bit_xor x (cond e 1 0)) 1 ≡ cond e false (eqb x 1)
xor_bit true x h = ap (λ t. eqb (bit_xor t 1) 1) (h refl)
xor_bit false x h = ap (λ t. eqb t 1) (xor_zero_r x)

pub bit-or : (w b k : ℕ) → bit_of (bit_or w (2 ^ b)) k ≡ cond (eqb b k) true (bit_of w k)
unfolding bit_of
bit-or w b k =
    ap (λ t. eqb (t % 2) 1) (or_shr w (2 ^ b) k)
    ∙ (ap (λ t. eqb t 1) (or_mod (w / 2 ^ k) (2 ^ b / 2 ^ k) 1)
    ∙ (ap (λ t. eqb (bit_or (w / 2 ^ k % 2) t) 1) (pow_bit b k)
    ∙ or-bit (eqb b k) (w / 2 ^ k % 2) (mod_below (w / 2 ^ k) 2 (lit< tt))))

pub bit_xor_lem : (w b k : ℕ) → bit_of w b ≡ true → bit_of (bit_xor w (2 ^ b)) k ≡ cond (eqb b k) false (bit_of w k)
unfolding bit_of
bit_xor_lem w b k h =
    ap (λ t. eqb (t % 2) 1) (xor_shr w (2 ^ b) k)
    ∙ (ap (λ t. eqb t 1) (xor_mod (w / 2 ^ k) (2 ^ b / 2 ^ k) 1)
    ∙ (ap (λ t. eqb (bit_xor (w / 2 ^ k % 2) t) 1) (pow_bit b k)
    ∙ xor_bit (eqb b k) (w / 2 ^ k % 2) (λ e. ap (λ t. w / 2 ^ t % 2) (sym (eqb-true b k e)) ∙ eqb-true (w / 2 ^ b % 2) 1 h)))

pub bit-and : (w b : ℕ) → eqb (bit_and (w / 2 ^ b) 1) 1 ≡ bit_of w b
unfolding bit_of
bit-and w b = ap (λ t. eqb t 1) (and_mask (w / 2 ^ b) 1)

-- sums

pub sum_cons : (n : ℕ) (f : ℕ → ℕ) → sum_below (suc n) f ≡ f 0 + sum_below n (λ k. f (suc k))
unfolding sum_below
sum_cons zero f = omega arith
sum_cons (suc n) f = let r : sum_below (suc n) f ≡ f 0 + sum_below n (λ k. f (suc k)) = sum_cons n f in omega arith

pub sum_split : (n m : ℕ) (f : ℕ → ℕ) → sum_below (n + m) f ≡ sum_below n f + sum_below m (λ k. f (n + k))
unfolding sum_below
sum_split n zero f = ap (λ t. sum_below t f) (let e : n + 0 ≡ n = omega arith in e) ∙ (let e : sum_below n f ≡ sum_below n f + 0 = omega arith in e)
sum_split n (suc m) f =
    let r : sum_below (n + m) f ≡ sum_below n f + sum_below m (λ k. f (n + k)) = sum_split n m f in
    ap (λ t. sum_below t f) (let e : n + suc m ≡ suc (n + m) = omega arith in e)
    ∙ (let e : sum_below (n + m) f + f (n + m) ≡ sum_below n f + (sum_below m (λ k. f (n + k)) + f (n + m)) = omega arith in e)

pub sum-blocks : (n m : ℕ) (f : ℕ → ℕ) → sum_below n (λ p. sum_below m (λ a. f (p * m + a))) ≡ sum_below (n * m) f
unfolding sum_below
sum-blocks zero m f = sym (ap (λ t. sum_below t f) (zero-mul m))
sum-blocks (suc n) m f =
    let r : sum_below n (λ p. sum_below m (λ a. f (p * m + a))) ≡ sum_below (n * m) f = sum-blocks n m f in
    ap (λ t. t + sum_below m (λ a. f (n * m + a))) r ∙ (sym (sum_split (n * m) m f) ∙ sym (ap (λ t. sum_below t f) (suc-mul n m)))

one_eqb : (x : ℕ) → x < 2 → one (eqb x 1) ≡ x
one_eqb zero h = refl
one_eqb (suc zero) h = refl
one_eqb (suc (suc n)) h = absurd (omega arith)

ones_sum : (k w : ℕ) → w < 2 ^ k → ones w ≡ sum_below k (λ b. w / 2 ^ b % 2)
unfolding sum_below
ones_sum zero w h = omega (arith, ones-le zero w h)
ones_sum (suc k) w h =
    let h' : w < 2 ^ (k + 1) = subst (λ t. w < 2 ^ t) (sym (add-one k)) h in
    let r : ones (w / 2) ≡ sum_below k (λ b. w / 2 / 2 ^ b % 2) = ones_sum k (w / 2) (shr_below w k 1 h') in
    let s : sum_below k (λ b. w / 2 / 2 ^ b % 2) ≡ sum_below k (λ b. w / 2 ^ suc b % 2)
    = sum_same k _ _ (λ b l. ap (λ t. t % 2) (shr-shr w 1 b) ∙ ap (λ t. w / 2 ^ t % 2) (one-add b)) in
    let z : w / 2 ^ 0 % 2 ≡ w % 2 = ap (λ t. t % 2) (div-one w) in
    ones_step w ∙ ((let e : w % 2 + ones (w / 2) ≡ w / 2 ^ 0 % 2 + sum_below k (λ b. w / 2 ^ suc b % 2) = omega arith in e) ∙ sym (sum_cons k (λ b. w / 2 ^ b % 2)))

pub bits_ones : (w : ℕ) → w < 2 ^ 128 → ones w ≡ bits_of w
unfolding bits_of bit_of
bits_ones w h = ones_sum 128 w h ∙ sum_same 128 _ _ (λ b l. sym (one_eqb (w / 2 ^ b % 2) (mod_below (w / 2 ^ b) 2 (lit< tt))))

-- the grid

pub bounds-from : (p a b : ℕ) → p < 16 → a < 128 → b < 128 → in_bounds p a b ≡ true
bounds-from p a b lp la lb = and_from (ltb p 16) _ (lt-ltb p 16 lp) (and_from (ltb a 128) _ (lt-ltb a 128 la) (lt-ltb b 128 lb))

pub bounds-parts : (p a b : ℕ) → in_bounds p a b ≡ true → (p < 16) × (a < 128) × (b < 128)
bounds-parts p a b f =
    let fp = and_parts (ltb p 16) _ f in
    let fab = and_parts (ltb a 128) _ fp.1 in
    (ltb-true p 16 fp.0, ltb-true a 128 fab.0, ltb-true b 128 fab.1)

-- one bit of one row written
pub grid_write : (rows : List ℕ) (p a b w : ℕ) (v : Bool) → in_bounds p a b ≡ true → p * 128 + a < length rows →
    ((k : ℕ) → bit_of w k ≡ cond (eqb b k) v (bit_of (get_or rows (p * 128 + a) 0) k)) →
    grid_facts (set rows (p * 128 + a) w) ≡ changed (grid_facts rows) p a b v
unfolding grid_facts
grid_write rows p a b w v f l h =
    by_points (grid_facts (set rows (p * 128 + a) w)) (changed (grid_facts rows) p a b v)
    (λ q x y.
    ⊎_elim
    (λ (g : in_bounds q x y ≡ true).
    let fp = bounds-parts p a b f in
    let gp = bounds-parts q x y g in
    ⊎_elim
    (λ (e : q * 128 + x ≡ p * 128 + a).
    let ep : p ≡ q = omega arith in
    let ea : a ≡ x = omega arith in
    ap (λ t. t && bit_of (get_or (set rows (p * 128 + a) w) (q * 128 + x) 0) y) g
    ∙ (ap (λ t. bit_of (get_or (set rows (p * 128 + a) w) t 0) y) e
    ∙ (ap (λ t. bit_of t y) (get_or-set_same rows (p * 128 + a) w 0 l)
    ∙ (h y
    ∙ (ap (λ t. cond (eqb b y) v (bit_of (get_or rows t 0) y)) (sym e)
    ∙ (ap (λ t. cond t v (bit_of (get_or rows (q * 128 + x) 0) y))
    (sym (ap (λ t. t && (eqb a x && eqb b y)) (eq-eqb p q ep) ∙ ap (λ t. t && eqb b y) (eq-eqb a x ea)))
    ∙ ap (λ t. cond (same_fact p a b q x y) v (t && bit_of (get_or rows (q * 128 + x) 0) y)) (sym g)))))))
    (λ (e : q * 128 + x ≡ p * 128 + a → ⊥).
    let ns : same_fact p a b q x y ≡ false
    = ⊎_elim
    (λ (s : same_fact p a b q x y ≡ true). absurd (let k = same_parts p a b q x y s in e (omega arith)))
    (λ (s : same_fact p a b q x y ≡ false). s)
    (cases_Bool (same_fact p a b q x y)) in
    ap (λ t. in_bounds q x y && bit_of t y) (get_or-set_other rows (p * 128 + a) (q * 128 + x) w 0 e)
    ∙ sym (cond-false (same_fact p a b q x y) v (in_bounds q x y && bit_of (get_or rows (q * 128 + x) 0) y) ns))
    (cases_eq (q * 128 + x) (p * 128 + a)))
    (λ (g : in_bounds q x y ≡ false).
    let ns : same_fact p a b q x y ≡ false
    = ⊎_elim
    (λ (s : same_fact p a b q x y ≡ true). absurd (both_ways (in_bounds q x y) g (sym (same_at in_bounds p a b q x y s) ∙ f)))
    (λ (s : same_fact p a b q x y ≡ false). s)
    (cases_Bool (same_fact p a b q x y)) in
    ap (λ t. t && bit_of (get_or (set rows (p * 128 + a) w) (q * 128 + x) 0) y) g
    ∙ (sym (ap (λ t. t && bit_of (get_or rows (q * 128 + x) 0) y) g)
    ∙ sym (cond-false (same_fact p a b q x y) v (in_bounds q x y && bit_of (get_or rows (q * 128 + x) 0) y) ns)))
    (cases_Bool (in_bounds q x y)))

pub grid_count : (rows : List ℕ) → count_of (grid_facts rows) ≡ sum_below 2048 (λ r. bits_of (get_or rows r 0))
unfolding count_of grid_facts bits_of
grid_count rows =
    sum_same 16 _ _ (λ p lp. sum_same 128 _ _ (λ a la. sum_same 128 _ _ (λ b lb.
    ap one (ap (λ t. t && bit_of (get_or rows (p * 128 + a) 0) b) (bounds-from p a b lp la lb)))))
    ∙ sum-blocks 16 128 (λ r. sum_below 128 (λ b. one (bit_of (get_or rows r 0) b)))

pub grid_has : (rows : List ℕ) (limit : ℕ) (f : Fact) → grid_facts rows f.predicate f.first f.second ≡ has (grid_meaning rows limit) f
unfolding grid_meaning has
grid_has rows limit f = refl

pub grid_size : (rows : List ℕ) (limit : ℕ) → count_of (grid_facts rows) ≡ size_of (grid_meaning rows limit)
unfolding grid_meaning size_of
grid_size rows limit = refl

pub grid_limit : (rows : List ℕ) (limit : ℕ) → limit ≡ limit_of (grid_meaning rows limit)
unfolding grid_meaning limit_of
grid_limit rows limit = refl

pub grid_place : (rows : List ℕ) (p a b at : ℕ) → in_bounds p a b ≡ true → at ≡ p * 128 + a → length rows ≡ 2048 → at < length rows
grid_place rows p a b at f e l = let k = bounds-parts p a b f in omega arith

pub grid_at : (rows : List ℕ) (p a b at w : ℕ) → in_bounds p a b ≡ true → at ≡ p * 128 + a → length rows ≡ 2048 → w ≡ get_or rows at w →
    bit_of w b ≡ grid_facts rows p a b
unfolding grid_facts
grid_at rows p a b at w f e l h =
    ap (λ t. bit_of t b) (h ∙ (get_or_default rows at w 0 (grid_place rows p a b at f e l) ∙ ap (λ n. get_or rows n 0) e))
    ∙ sym (ap (λ t. t && bit_of (get_or rows (p * 128 + a) 0) b) f)

pub grid_out : (rows : List ℕ) (p a b : ℕ) → in_bounds p a b ≡ false → grid_facts rows p a b ≡ false
unfolding grid_facts
grid_out rows p a b f = ap (λ t. t && bit_of (get_or rows (p * 128 + a) 0) b) f

pub grid_wrote : (rows : List ℕ) (p a b at old w : ℕ) (v : Bool) → in_bounds p a b ≡ true → at ≡ p * 128 + a → length rows ≡ 2048 → old ≡ get_or rows at old →
    ((k : ℕ) → bit_of w k ≡ cond (eqb b k) v (bit_of old k)) → grid_facts (set rows at w) ≡ changed (grid_facts rows) p a b v
grid_wrote rows p a b at old w v f e len o h =
    let l = grid_place rows p a b at f e len in
    let e2 : old ≡ get_or rows (p * 128 + a) 0 = o ∙ (get_or_default rows at old 0 l ∙ ap (λ n. get_or rows n 0) e) in
    ap (λ n. grid_facts (set rows n w)) e
    ∙ grid_write rows p a b w v f (subst (λ n. n < length rows) e l) (λ k. h k ∙ ap (λ t. cond (eqb b k) v (bit_of t k)) e2)

-- one row more counted
pub rows_more : (rows : List ℕ) (i n o : ℕ) → n ≡ sum_below i (λ r. bits_of (get_or rows r 0)) → o ≡ bits_of (get_or rows i 0) →
    n + o ≡ sum_below (i + 1) (λ r. bits_of (get_or rows r 0))
unfolding sum_below
rows_more rows i n o en eo =
    (let k : n + o ≡ sum_below i (λ r. bits_of (get_or rows r 0)) + bits_of (get_or rows i 0) = omega arith in k)
    ∙ sym (ap (λ t. sum_below t (λ r. bits_of (get_or rows r 0))) (add-one i))

pub rows_all : (rows : List ℕ) (i n : ℕ) → i ≡ 2048 → n ≡ sum_below i (λ r. bits_of (get_or rows r 0)) → n ≡ count_of (grid_facts rows)
rows_all rows i n e en = en ∙ (ap (λ t. sum_below t (λ r. bits_of (get_or rows r 0))) e ∙ sym (grid_count rows))

-- one fact more
pub record More (rows new : List ℕ) (limit : ℕ) (f : Fact) : Type 0 where
  pub few : count_of (grid_facts new) ≤ limit
  pub after : grid_meaning new limit ≡ including (grid_meaning rows limit) f

pub grid_more : (rows : List ℕ) (limit : ℕ) (f : Fact) (at old w : ℕ) → allowed f ≡ true → at ≡ f.predicate * 128 + f.first → length rows ≡ 2048 → old ≡ get_or rows at old →
    grid_facts rows f.predicate f.first f.second ≡ false → count_of (grid_facts rows) < limit →
    ((k : ℕ) → bit_of w k ≡ cond (eqb f.second k) true (bit_of old k)) → More rows (set rows at w) limit f
unfolding grid_meaning including
grid_more rows limit f at old w a e len o m l h =
    let g = grid_wrote rows f.predicate f.first f.second at old w true a e len o h in
    let c : count_of (grid_facts (set rows at w)) ≡ count_of (changed (grid_facts rows) f.predicate f.first f.second true) = ap count_of g in
    let k = count-changed (grid_facts rows) f.predicate f.first f.second true a in
    record { few = omega arith; after = meaning_eq _ _ limit limit g refl }

-- one fact fewer
pub record Fewer (rows new : List ℕ) (limit : ℕ) (f : Fact) : Type 0 where
  pub few : count_of (grid_facts new) ≤ limit
  pub after : grid_meaning new limit ≡ excluding (grid_meaning rows limit) f

pub grid_fewer : (rows : List ℕ) (limit : ℕ) (f : Fact) (at old w : ℕ) → allowed f ≡ true → at ≡ f.predicate * 128 + f.first → length rows ≡ 2048 → old ≡ get_or rows at old →
    count_of (grid_facts rows) ≤ limit →
    ((k : ℕ) → bit_of w k ≡ cond (eqb f.second k) false (bit_of old k)) → Fewer rows (set rows at w) limit f
unfolding grid_meaning excluding
grid_fewer rows limit f at old w a e len o l h =
    let g = grid_wrote rows f.predicate f.first f.second at old w false a e len o h in
    let c : count_of (grid_facts (set rows at w)) ≡ count_of (changed (grid_facts rows) f.predicate f.first f.second false) = ap count_of g in
    let k = count-changed (grid_facts rows) f.predicate f.first f.second false a in
    record { few = omega arith; after = meaning_eq _ _ limit limit g refl }

none-at : (f : Bool) (b : ℕ) → (f && eqb (0 / 2 ^ b % 2) 1) ≡ false
none-at f b = ap (λ t. f && eqb (t % 2) 1) (zero-div (2 ^ b)) ∙ and_right f false refl

pub grid_none : (n : ℕ) (p a b : ℕ) → grid_facts (replicate n 0) p a b ≡ false
unfolding grid_facts bit_of
grid_none n p a b =
    ⊎_elim
    (λ (l : p * 128 + a < n).
    ap (λ t. in_bounds p a b && eqb (t / 2 ^ b % 2) 1) (get_or-replicate n (p * 128 + a) 0 0 l) ∙ none-at (in_bounds p a b) b)
    (λ (l : n ≤ p * 128 + a).
    ap (λ t. in_bounds p a b && eqb (t / 2 ^ b % 2) 1) (get_or_past (replicate n 0) (p * 128 + a) 0 (simp length-replicate l)) ∙ none-at (in_bounds p a b) b)
    (cases_lt (p * 128 + a) n)

pub grid_empty : (n limit : ℕ) → grid_meaning (replicate n 0) limit ≡ empty_of limit
unfolding grid_meaning empty_of
grid_empty n limit = meaning_eq _ _ limit limit (by_points (grid_facts (replicate n 0)) (λ _ _ _. false) (grid_none n)) refl

pub grid_empty-count : (n : ℕ) → count_of (grid_facts (replicate n 0)) ≡ 0
grid_empty-count n = ap count_of (by_points (grid_facts (replicate n 0)) (λ _ _ _. false) (grid_none n)) ∙ count_none

-- a grid that is not full has room for a fact that it lacks
pub grid_room : (rows : List ℕ) (limit : ℕ) (f : Fact) → limit ≤ 262144 → allowed f ≡ true → grid_facts rows f.predicate f.first f.second ≡ false →
    (ltb limit 262144 && leb limit (count_of (grid_facts rows))) ≡ false → count_of (grid_facts rows) < limit
unfolding grid_meaning size_of has
grid_room rows limit f cut a h e =
    ⊎_elim
    (λ (k : ltb limit 262144 ≡ false).
    let l : count_of (grid_facts rows) < 262144 = size_room (grid_meaning rows limit) f a h in
    omega (arith, l, ltb-false limit 262144 k))
    (λ (k : leb limit (count_of (grid_facts rows)) ≡ false). leb-false limit (count_of (grid_facts rows)) k)
    (and_cases (ltb limit 262144) _ e)

-- only facts in bounds are held
pub grid_inside : (rows : List ℕ) (f : Fact) → grid_facts rows f.predicate f.first f.second ≡ true → allowed f ≡ true
unfolding grid_facts
grid_inside rows f h = (and_parts (allowed f) _ h).0
