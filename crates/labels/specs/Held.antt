-- The set of facts that a register holds, as labels see it.
-- A register is only questioned: its meaning answers for each predicate and two ids.
use Rattle.registers.specs.Meaning.{Meaning, has}
use Rattle.labels.specs.Facts.{Facts}

abbrev pub facts_of : Meaning → Facts
facts_of m = λ p a b. has m (record { predicate = p; first = a; second = b })
