-- Both makes of register are lawful, by what each says of its own fields.
use Rattle.std.specs.Prelude.{◌≡◌, ℕ, ◌≤◌, min, true, List, length, take}
use Rattle.std.proofs.Common.{arith}
use Rattle.std.proofs.lemmas.Bool.{and_parts}
use Rattle.registers.specs.declared.fact.Fact.{Fact}
use Rattle.registers.specs.Facts.{count_of}
use Rattle.registers.specs.Meaning.{Lawful, has, size_of, limit_of, allowed}
use Rattle.registers.specs.Grid.{grid_facts, grid_meaning}
use Rattle.registers.specs.Records.{listed, list_meaning}

-- a grid holds nothing out of bounds, whatever its rows are, and no more than its limit if they don't
pub grid_lawful : (rows : List ℕ) (limit : ℕ) → count_of (grid_facts rows) ≤ limit → Lawful (grid_meaning rows limit)
unfolding grid_meaning grid_facts has size_of limit_of
grid_lawful rows limit h = record { bounded = λ f e. (and_parts (allowed f) _ e).0; within = h }

-- a list is lawful whose records in use are facts in bounds, as many as there are of them, and no more than the limit
pub list_lawful : (table : List Fact) (len : ℕ) → len ≤ min (length table) 4096 → count_of (listed (take len table)) ≡ len →
    ((f : Fact) → listed (take len table) f.predicate f.first f.second ≡ true → allowed f ≡ true) → Lawful (list_meaning table len)
unfolding list_meaning has size_of limit_of
list_lawful table len few apart bounded = record { bounded = bounded; within = omega (arith, few, apart) }
