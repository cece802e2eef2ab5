-- The first records of a table as a set of facts, in any order.
-- A list register's limit is its table's length, cut to 4,096.
use Rattle.std.specs.Prelude.{ℕ, min, Bool, false, ◌||◌, List, [], ◌∷◌, length, take}
use Rattle.registers.specs.Facts.{Facts, same_fact}
use Rattle.registers.specs.Meaning.{Meaning}
use Rattle.registers.specs.declared.fact.Fact.{Fact}

-- do the records name the fact?
unfoldable pub listed : List Fact → Facts
listed [] = λ p a b. false
listed (x ∷ xs) = λ p a b. same_fact x.predicate x.first x.second p a b || listed xs p a b

unfoldable pub list_meaning : List Fact → ℕ → Meaning
list_meaning table len = record { facts = listed (take len table); limit = min (length table) 4096 }

-- is the record the fact?
abbrev pub is_record : Fact → Fact → Bool
is_record f x = same_fact x.predicate x.first x.second f.predicate f.first f.second
