-- The puts of an operation that keeps within its bounds, under arguments that fit it, may all be held.
use Rattle.std.proofs.Common.{◌≡◌, ℕ, ◌<◌, ◌≤◌, Bool, true, false, cond, eqb, ltb, List, [], ◌∷◌, map, ◌∙◌, arith}
use Rattle.std.proofs.lemmas.Bool.Decides.{nat_tests}
use Rattle.std.proofs.lemmas.Bool.{and_parts, and_from, ltb-true}
use Rattle.registers.specs.Meaning.{allowed, all_allowed}
use Rattle.registers.proofs.ListLaws.{allowed_cons, allowed-none}
use Rattle.goals.specs.declared.operation.EntryTerm.{EntryTerm}
use Rattle.goals.specs.declared.operation.EntryTerm.TheVariants.{Id, Parameter}
use Rattle.goals.specs.declared.operation.Entry.{Entry}
use Rattle.goals.specs.declared.operation.Operation.{Operation}
use Rattle.goals.specs.Entries.{entries_of}
use Rattle.goals.specs.EntryBounds.{term_inside, entry_inside, entries_inside, operation_inside, Inside}
use Rattle.sessions.specs.declared.step.Arguments.{Arguments}
use Rattle.sessions.specs.Steps.{term_id, ground, ground_all, argument_fits, arguments_fit}

module _ (N parameters : ℕ) (a : Arguments) (few : N ≤ 128) (some : 0 < N) (fit : arguments_fit N parameters a ≡ true) where
  -- an argument is below N, used or not
  argument-below : (used : Bool) (x : ℕ) → argument_fits N used x ≡ true → x < N
  argument-below used x h = grind (arith, nat_tests)

  parts : (argument_fits N (ltb 0 parameters) a.first ≡ true) × (argument_fits N (ltb 1 parameters) a.second ≡ true) × (argument_fits N (ltb 2 parameters) a.third ≡ true)
  parts =
      let p = and_parts _ _ fit in
      let q = and_parts _ _ p.1 in
      (p.0, q.0, q.1)

  pick : (b c d : Bool) → cond b a.first (cond c a.second (cond d a.third 0)) < N
  pick true c d = argument-below (ltb 0 parameters) a.first parts.0
  pick false true d = argument-below (ltb 1 parameters) a.second parts.1
  pick false false true = argument-below (ltb 2 parameters) a.third parts.2
  pick false false false = some

  term_below : (t : EntryTerm) → term_inside N parameters t ≡ true → term_id a t < N
  term_below (Id x) h = ltb-true x N h
  term_below (Parameter k) h = pick (eqb k 0) (eqb k 1) (eqb k 2)

  entry_allowed : (e : Entry) → entry_inside N parameters e ≡ true → allowed (ground a e) ≡ true
  entry_allowed e h = grind (arith, nat_tests, term_below)

  entries-allowed : (es : List Entry) → entries_inside N parameters es ≡ true → all_allowed (map (ground a) es) ≡ true
  unfolding entries_inside
  entries-allowed [] h = allowed-none
  entries-allowed (e ∷ es) h =
      let p = and_parts (entry_inside N parameters e) (entries_inside N parameters es) h in
      allowed_cons (ground a e) (map (ground a) es) ∙ and_from (allowed (ground a e)) _ (entry_allowed e p.0) (entries-allowed es p.1)

-- what a step's operation promises
pub puts-allowed : (N : ℕ) (o : Operation) (a : Arguments) → N ≤ 128 → 0 < N → Inside N o → arguments_fit N o.parameters a ≡ true → all_allowed (ground_all a o.puts) ≡ true
unfolding operation_inside
puts-allowed N o a few some inside fit = grind (arith, nat_tests, entries-allowed N o.parameters a few some fit (entries_of o.puts))

pub span-short : (N : ℕ) (o : Operation) → Inside N o → o.span.hours ≤ 1000
unfolding operation_inside
span-short N o inside = grind (arith, nat_tests)
