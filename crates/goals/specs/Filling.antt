-- The facts of an edition file: which it lists, which of them its catalogue allows, and what putting them all answers.
use Rattle.std.specs.Prelude.{ℕ, zero, suc, ◌+◌, Bool, true, cond, ◌&&◌, List, [], ◌∷◌, Ok, Err, Result, ◌==◌, nat_le, nat_lt}
use Rattle.registers.specs.declared.fact.Fact.{Fact}
use Rattle.registers.specs.declared.refusal.Refusal.{Refusal}
use Rattle.registers.specs.declared.refusal.Refusal.TheVariants.{OutOfBounds}
use Rattle.registers.specs.Meaning.{Meaning, including_all, put_all_answer}
use Rattle.goals.specs.declared.frame.Frame.{Frame}
use Rattle.goals.specs.Bytes.{byte_at}
use Rattle.goals.specs.Frame.{predicates_end}

-- the three bytes at a place: predicate, first id, second id
abbrev pub fact_at : List ℕ → ℕ → Fact
fact_at file at = record { predicate = byte_at file at; first = byte_at file (at + 1); second = byte_at file (at + 2) }

-- n facts, one behind the other
unfoldable pub facts_from : List ℕ → ℕ → ℕ → List Fact
facts_from file zero at = []
facts_from file (suc n) at = fact_at file at ∷ facts_from file n (at + 3)

abbrev pub facts_of : List ℕ → Frame → List Fact
facts_of file f = facts_from file f.facts f.facts_at

-- how many places the file gives a predicate: the first byte of the predicate's record
abbrev pub places_of : List ℕ → ℕ → ℕ
places_of file p = byte_at file (predicates_end file p 14)

-- an id in a place: below N where the predicate has the place, 0 where it has not
abbrev pub id_fits : Bool → ℕ → ℕ → Bool
id_fits used n id = cond used (nat_lt id n) (id == 0)

-- a fact that the file's catalogue allows: its predicate is below P, and each of its ids fits its place
abbrev pub declared : List ℕ → Frame → Fact → Bool
declared file f x =
    nat_lt x.predicate f.predicates
    && (id_fits (nat_le 1 (places_of file x.predicate)) f.ids x.first
    && id_fits (nat_le 2 (places_of file x.predicate)) f.ids x.second)

unfoldable pub all_declared : List ℕ → Frame → List Fact → Bool
all_declared file f [] = true
all_declared file f (x ∷ xs) = declared file f x && all_declared file f xs

-- what putting the facts of a framed file answers: first the catalogue's bounds of each fact, then the register's, then its limit
unfoldable pub facts_answer : Meaning → List ℕ → Frame → Result (Unit {0}) Refusal
facts_answer m file f = cond (all_declared file f (facts_of file f)) (put_all_answer m (facts_of file f)) (Err OutOfBounds)

-- accepted, every fact of the file is in; refused, nothing has changed
abbrev pub after_facts : Meaning → List ℕ → Frame → Result (Unit {0}) Refusal → Meaning
after_facts m file f (Ok u) = including_all m (facts_of file f)
after_facts m file f (Err r) = m
