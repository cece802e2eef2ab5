-- What taking a fact out does to the size of a register's meaning.
use Rattle.std.proofs.Common.{◌≡◌, ◌+◌, true, false, ap, arith}
use Rattle.registers.specs.declared.fact.Fact.{Fact}
use Rattle.registers.specs.Facts.{one}
use Rattle.registers.specs.Meaning.{Meaning, has, size_of, allowed, excluding}
use Rattle.registers.proofs.Counts.{count-changed}

pub size-excluding : (m : Meaning) (f : Fact) → allowed f ≡ true → has m f ≡ true → size_of (excluding m f) + 1 ≡ size_of m
unfolding size_of has excluding
size-excluding m f a h =
    let k = count-changed m.facts f.predicate f.first f.second false a in
    let o : one (m.facts f.predicate f.first f.second) ≡ 1 = ap one h in
    omega arith
