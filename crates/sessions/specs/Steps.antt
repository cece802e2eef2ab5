-- A step's operation under its arguments: the facts it names, the needs that do not hold, and the facts after it.
-- The facts after a step are those before, without its takes, then with its puts.
use Rattle.std.specs.Prelude.{ℕ, ◌+◌, Bool, cond, not, ◌&&◌, List, [], ◌∷◌, map, Some, None, Option, ◌==◌, nat_lt}
use Rattle.registers.specs.declared.fact.Fact.{Fact}
use Rattle.registers.specs.Meaning.{Meaning, has, excluding, including_all}
use Rattle.goals.specs.declared.operation.EntryTerm.{EntryTerm}
use Rattle.goals.specs.declared.operation.EntryTerm.TheVariants.{Id, Parameter}
use Rattle.goals.specs.declared.operation.Entry.{Entry}
use Rattle.goals.specs.declared.operation.Entries.{Entries}
use Rattle.goals.specs.declared.operation.Operation.{Operation}
use Rattle.goals.specs.Entries.{entries_of}
use Rattle.sessions.specs.declared.step.Arguments.{Arguments}

-- the argument for a parameter, from 0
abbrev pub argument : Arguments → ℕ → ℕ
argument a k = cond (k == 0) a.first (cond (k == 1) a.second (cond (k == 2) a.third 0))

-- the id that a term stands for
abbrev pub term_id : Arguments → EntryTerm → ℕ
term_id a (Id x) = x
term_id a (Parameter k) = argument a k

-- the fact that an entry names
abbrev pub ground : Arguments → Entry → Fact
ground a e = record { predicate = e.predicate; first = term_id a e.first; second = term_id a e.second }

abbrev pub ground_all : Arguments → Entries → List Fact
ground_all a es = map (ground a) (entries_of es)

-- an argument of a parameter that the operation has is below N, any other is 0
abbrev pub argument_fits : ℕ → Bool → ℕ → Bool
argument_fits N used x = cond used (nat_lt x N) (x == 0)

abbrev pub arguments_fit : ℕ → ℕ → Arguments → Bool
arguments_fit N parameters a =
    argument_fits N (nat_lt 0 parameters) a.first
    && (argument_fits N (nat_lt 1 parameters) a.second && argument_fits N (nat_lt 2 parameters) a.third)

-- a need holds where its fact is held or, negated, is not
abbrev pub need_holds : Meaning → Arguments → Entry → Bool
need_holds m a e = cond e.negated (not (has m (ground a e))) (has m (ground a e))

-- the first of a list of needs that does not hold, counted from n
unfoldable pub failing_from : Meaning → Arguments → ℕ → List Entry → Option ℕ
failing_from m a n [] = None
failing_from m a n (e ∷ es) = cond (need_holds m a e) (failing_from m a (n + 1) es) (Some n)

abbrev pub first_failing : Meaning → Arguments → Entries → Option ℕ
first_failing m a es = failing_from m a 0 (entries_of es)

-- the meaning with every fact of a list out
unfoldable pub excluding_all : Meaning → List Fact → Meaning
excluding_all m [] = m
excluding_all m (f ∷ fs) = excluding_all (excluding m f) fs

unfoldable pub facts_after : Meaning → Operation → Arguments → Meaning
facts_after m o a = including_all (excluding_all m (ground_all a o.takes)) (ground_all a o.puts)
