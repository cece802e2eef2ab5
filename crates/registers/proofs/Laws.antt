-- Laws of a register's meaning: what including and excluding a fact do to membership, size and limit,
-- and what putting comes to in each of its cases. Crates above cite these, and not the definitions' texts.
use Rattle.std.proofs.Common.{◌≡◌, ℕ, ◌+◌, ◌<◌, ◌≤◌, Bool, true, false, cond, not, ◌||◌, ltb, is_ok, Ok, Err, Result, sym, refl, ap, ◌∙◌, ⊎_elim, arith}
use Rattle.std.proofs.lemmas.Bool.{cases_Bool, cond-true, cond-false, not_from_true, not_from_false, or_left, or_right, or_from, lt-ltb, le-ltb}
use Rattle.registers.specs.declared.fact.Fact.{Fact}
use Rattle.registers.specs.declared.refusal.Refusal.{Refusal}
use Rattle.registers.specs.declared.refusal.Refusal.TheVariants.{OutOfBounds, Full}
use Rattle.registers.specs.Facts.{Facts, one}
use Rattle.registers.specs.Meaning.{Meaning, has, size_of, limit_of, allowed, including, excluding, empty_of, put_answer, after_put, after_take}
use Rattle.registers.proofs.Counts.{count-changed, count_none, count-put_le, count-put_ge, count-all, same_at}
use Rattle.registers.proofs.Members.{by_points, changed_by, same_of}

-- two meanings with the same facts and limit are equal
pub meaning_eq : (h k : Facts) (m n : ℕ) → h ≡ k → m ≡ n →
    ◌≡◌ {A = Meaning} (record { facts = h; limit = m }) (record { facts = k; limit = n })
meaning_eq h k m n p q = λ i. record { facts = p i; limit = q i }

abbrev pub is : Fact → Fact → Bool
is f g = same_of f g.predicate g.first g.second

-- membership

pub has-including : (m : Meaning) (f g : Fact) → has (including m f) g ≡ cond (is f g) true (has m g)
unfolding has including
has-including m f g = refl

pub has-excluding : (m : Meaning) (f g : Fact) → has (excluding m f) g ≡ cond (is f g) false (has m g)
unfolding has excluding
has-excluding m f g = refl

pub has-empty : (n : ℕ) (f : Fact) → has (empty_of n) f ≡ false
unfolding has empty_of
has-empty n f = refl

-- a change to what is already so changes nothing
pub changed-same : (h : Facts) (f : Fact) (v : Bool) → h f.predicate f.first f.second ≡ v → changed_by h f v ≡ h
changed-same h f v e =
    by_points (changed_by h f v) h
    (λ p a b.
    ⊎_elim
    (λ (s : same_of f p a b ≡ true).
    cond-true (same_of f p a b) v (h p a b) s ∙ (sym e ∙ same_at h f.predicate f.first f.second p a b s))
    (λ (s : same_of f p a b ≡ false). cond-false (same_of f p a b) v (h p a b) s)
    (cases_Bool (same_of f p a b)))

pub including_held : (m : Meaning) (f : Fact) → has m f ≡ true → including m f ≡ m
unfolding has including
including_held m f h = meaning_eq _ _ m.limit m.limit (changed-same m.facts f true h) refl

pub excluding_absent : (m : Meaning) (f : Fact) → has m f ≡ false → excluding m f ≡ m
unfolding has excluding
excluding_absent m f h = meaning_eq _ _ m.limit m.limit (changed-same m.facts f false h) refl

-- sizes and limits

pub limit-including : (m : Meaning) (f : Fact) → limit_of (including m f) ≡ limit_of m
unfolding limit_of including
limit-including m f = refl

pub limit-excluding : (m : Meaning) (f : Fact) → limit_of (excluding m f) ≡ limit_of m
unfolding limit_of excluding
limit-excluding m f = refl

pub size-empty : (n : ℕ) → size_of (empty_of n) ≡ 0
unfolding size_of empty_of
size-empty n = count_none

pub size-including : (m : Meaning) (f : Fact) → allowed f ≡ true → has m f ≡ false → size_of (including m f) ≡ size_of m + 1
unfolding size_of has including
size-including m f a h =
    let k = count-changed m.facts f.predicate f.first f.second true a in
    let o : one (m.facts f.predicate f.first f.second) ≡ 0 = ap one h in
    omega arith

pub size-including_le : (m : Meaning) (f : Fact) → size_of (including m f) ≤ size_of m + 1
unfolding size_of including
size-including_le m f = count-put_le m.facts f.predicate f.first f.second

pub size-including_ge : (m : Meaning) (f : Fact) → size_of m ≤ size_of (including m f)
unfolding size_of including
size-including_ge m f = count-put_ge m.facts f.predicate f.first f.second

-- no register holds more than all facts
pub size-all : (m : Meaning) → size_of m ≤ 262144
unfolding size_of
size-all m = count-all m.facts

-- a fact that may be held and is not leaves a set smaller than all of them
pub size_room : (m : Meaning) (f : Fact) → allowed f ≡ true → has m f ≡ false → size_of m < 262144
unfolding size_of including
size_room m f a h =
    let k : size_of (including m f) ≡ size_of m + 1 = size-including m f a h in
    let l : size_of (including m f) ≤ 262144 = count-all (including m f).facts in
    omega arith

-- putting, case by case

pub record Puts (m : Meaning) (f : Fact) (r : Result (Unit {0}) Refusal) (n : Meaning) : Type 0 where
  pub answer : r ≡ put_answer m f
  pub after : n ≡ after_put m f

puts : (m : Meaning) (f : Fact) (r : Result (Unit {0}) Refusal) (n : Meaning) → r ≡ put_answer m f → cond (is_ok r) (including m f) m ≡ n → Puts m f r n
unfolding after_put
puts m f r n e q = record { answer = e; after = sym q ∙ ap (λ x. cond (is_ok x) (including m f) m) e }

pub put_outside : (m : Meaning) (f : Fact) → allowed f ≡ false → Puts m f (Err OutOfBounds) m
unfolding put_answer
put_outside m f a = puts m f (Err OutOfBounds) m (sym (cond-true (not (allowed f)) _ _ (not_from_false (allowed f) a))) refl

inside : (m : Meaning) (f : Fact) → allowed f ≡ true →
    put_answer m f ≡ cond (has m f || ltb (size_of m) (limit_of m)) (Ok tt) (Err Full)
unfolding put_answer
inside m f a = cond-false (not (allowed f)) _ _ (not_from_true (allowed f) a)

pub put_held : (m : Meaning) (f : Fact) → allowed f ≡ true → has m f ≡ true → Puts m f (Ok tt) m
put_held m f a h =
    puts m f (Ok tt) m
    (sym (inside m f a ∙ cond-true (has m f || ltb (size_of m) (limit_of m)) _ _ (or_left (has m f) _ h)))
    (including_held m f h)

pub put-room : (m : Meaning) (f : Fact) → allowed f ≡ true → size_of m < limit_of m → Puts m f (Ok tt) (including m f)
put-room m f a l =
    puts m f (Ok tt) (including m f)
    (sym (inside m f a ∙ cond-true (has m f || ltb (size_of m) (limit_of m)) _ _ (or_right (has m f) _ (lt-ltb (size_of m) (limit_of m) l))))
    refl

pub put_full : (m : Meaning) (f : Fact) → allowed f ≡ true → has m f ≡ false → limit_of m ≤ size_of m → Puts m f (Err Full) m
put_full m f a h l =
    puts m f (Err Full) m
    (sym (inside m f a ∙ cond-false (has m f || ltb (size_of m) (limit_of m)) _ _ (or_from (has m f) _ h (le-ltb (size_of m) (limit_of m) l))))
    refl

-- taking

pub take_absent : (m : Meaning) (f : Fact) → has m f ≡ false → m ≡ after_take m f
unfolding after_take
take_absent m f h = sym (excluding_absent m f h)

pub take-excluding : (m : Meaning) (f : Fact) → excluding m f ≡ after_take m f
unfolding after_take
take-excluding m f = refl
