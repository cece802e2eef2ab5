-- What a register means: a set of facts and a limit, and what each call answers and leaves.
-- Crates above use the record through the definitions below, and not by its fields.
use Rattle.std.specs.Prelude.{◌≡◌, ℕ, ◌≤◌, Bool, true, false, cond, not, ◌&&◌, ◌||◌, List, [], ◌∷◌, is_ok, Ok, Err, Result, nat_lt}
use Rattle.registers.specs.declared.fact.Fact.{Fact}
use Rattle.registers.specs.declared.refusal.Refusal.{Refusal}
use Rattle.registers.specs.declared.refusal.Refusal.TheVariants.{OutOfBounds, Full}
use Rattle.registers.specs.Facts.{Facts, in_bounds, changed, count_of}

pub record Meaning : Type 0 where
  pub facts : Facts
  pub limit : ℕ

-- is the fact held?
unfoldable pub has : Meaning → Fact → Bool
has m f = m.facts f.predicate f.first f.second

-- how many facts are held
unfoldable pub size_of : Meaning → ℕ
size_of m = count_of m.facts

-- the most facts that may be held
unfoldable pub limit_of : Meaning → ℕ
limit_of m = m.limit

-- may a register hold the fact at all?
abbrev pub allowed : Fact → Bool
allowed f = in_bounds f.predicate f.first f.second

-- the meaning with the fact in, whatever the limit says
unfoldable pub including : Meaning → Fact → Meaning
including m f = record { facts = changed m.facts f.predicate f.first f.second true; limit = m.limit }

-- the meaning with the fact out
unfoldable pub excluding : Meaning → Fact → Meaning
excluding m f = record { facts = changed m.facts f.predicate f.first f.second false; limit = m.limit }

-- no facts, and a limit
unfoldable pub empty_of : ℕ → Meaning
empty_of n = record { facts = λ p a b. false; limit = n }

-- what putting a fact answers: a fact that may not be held is refused; one that is there already, or for which the
-- limit leaves room, is accepted
unfoldable pub put_answer : Meaning → Fact → Result (Unit {0}) Refusal
put_answer m f =
    cond (not (allowed f)) (Err OutOfBounds)
    (cond (has m f || nat_lt (size_of m) (limit_of m)) (Ok tt) (Err Full))

-- an accepted fact is in afterwards; a refusal changes nothing
unfoldable pub after_put : Meaning → Fact → Meaning
after_put m f = cond (is_ok (put_answer m f)) (including m f) m

-- a fact that is taken is out afterwards
unfoldable pub after_take : Meaning → Fact → Meaning
after_take m f = excluding m f

-- so of every register: no fact out of bounds is held, and the limit bounds the size
pub record Lawful (m : Meaning) : Type 0 where
  pub bounded : (f : Fact) → has m f ≡ true → allowed f ≡ true
  pub within : size_of m ≤ limit_of m

-- the meaning with every fact of a list in, whatever the limit says
unfoldable pub including_all : Meaning → List Fact → Meaning
including_all m [] = m
including_all m (f ∷ fs) = including_all (including m f) fs

-- may all facts of a list be held?
unfoldable pub all_allowed : List Fact → Bool
all_allowed [] = true
all_allowed (f ∷ fs) = allowed f && all_allowed fs

-- what putting a whole list answers: first the bounds of each fact, then the limit against the size with all of them in
unfoldable pub put_all_answer : Meaning → List Fact → Result (Unit {0}) Refusal
put_all_answer m fs =
    cond (not (all_allowed fs)) (Err OutOfBounds)
    (cond (nat_lt (limit_of m) (size_of (including_all m fs))) (Err Full) (Ok tt))

-- all facts of the list are in afterwards or, refused, none more than before
unfoldable pub after_put_all : Meaning → List Fact → Meaning
after_put_all m fs = cond (is_ok (put_all_answer m fs)) (including_all m fs) m
