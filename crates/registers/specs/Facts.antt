-- Sets of facts: which facts may be held at all, a set with one fact changed, and how many facts a set has.
-- A set is its membership test over a predicate, a first id and a second id.
use Rattle.std.specs.Prelude.{ℕ, zero, suc, ◌+◌, Bool, cond, ◌&&◌, ◌==◌, nat_lt}

abbrev pub Facts : Type 0
Facts = ℕ → ℕ → ℕ → Bool

-- a predicate below 16 and ids below 128
abbrev pub in_bounds : ℕ → ℕ → ℕ → Bool
in_bounds p a b = nat_lt p 16 && (nat_lt a 128 && nat_lt b 128)

abbrev pub same_fact : ℕ → ℕ → ℕ → ℕ → ℕ → ℕ → Bool
same_fact p a b q x y = p == q && (a == x && b == y)

-- the set in which one fact's presence is v, and every other fact's is as it was
abbrev pub changed : Facts → ℕ → ℕ → ℕ → Bool → Facts
changed s p a b v = λ q x y. cond (same_fact p a b q x y) v (s q x y)

-- the sum of f at each number below n
unfoldable pub sum_below : ℕ → (ℕ → ℕ) → ℕ
sum_below zero f = 0
sum_below (suc n) f = sum_below n f + f n

abbrev pub one : Bool → ℕ
one v = cond v 1 0

-- how many of the 16 times 128 times 128 facts in bounds a set has
unfoldable pub count_of : Facts → ℕ
count_of s = sum_below 16 (λ p. sum_below 128 (λ a. sum_below 128 (λ b. one (s p a b))))
