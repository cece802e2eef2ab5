-- A list of calls cut into pieces, each over a register of its own; the session is laid aside and taken up at every cut.
-- Cut or uncut, the answers, what stands at the end and the verdict are the same, if each piece begins with what stands there.
use Rattle.std.specs.Prelude.{◌≡◌, List, [], ◌∷◌, ◌++◌, map, length, Some}
use Rattle.std.specs.List.{slice_get}
use Rattle.registers.specs.Meaning.{Meaning}
use Rattle.goals.specs.declared.job.Job.{Job}
use Rattle.sessions.specs.declared.verdict.Verdict.{Verdict}
use Rattle.sessions.specs.declared.call.Line.{Line}
use Rattle.sessions.specs.State.{State, World}
use Rattle.sessions.specs.Answers.{calls_in, after_calls, answered, verdict_of}

-- what a piece's register means, and the calls over it
pub record Part : Type 0 where
  pub facts : Meaning
  pub lines : List Line

-- a session over a piece's register
abbrev pub taken_up : State → Part → World
taken_up s p = record { state = s; facts = p.facts }

abbrev pub after_part : Job → State → Part → World
after_part job s p = after_calls job (taken_up s p) (calls_in p.lines)

-- the session after each piece was run over its own register
abbrev pub state_after : Job → State → List Part → State
state_after job s [] = s
state_after job s (p ∷ ps) = state_after job (after_part job s p).state ps

-- the pieces afterwards: what their registers mean, and their calls with the answers
abbrev pub parts_after : Job → State → List Part → List Part
parts_after job s [] = []
parts_after job s (p ∷ ps) =
    record { facts = (after_part job s p).facts; lines = answered job (taken_up s p) p.lines }
    ∷ parts_after job (after_part job s p).state ps

-- each piece begins with a register of the facts and the limit that stand there
unfoldable pub Joined : Job → World → List Part → Type 0
Joined job w [] = Unit {0}
Joined job w (p ∷ ps) = (p.facts ≡ w.facts) × Joined job (after_calls job w (calls_in p.lines)) ps

unfoldable pub all_lines : List Part → List Line
all_lines [] = []
all_lines (p ∷ ps) = p.lines ++ all_lines ps

-- what the last register means
abbrev pub last_facts : Meaning → List Part → Meaning
last_facts m [] = m
last_facts m (p ∷ ps) = last_facts p.facts ps

-- the pieces, what stands at the end and the verdict are those of the calls in one list
pub record Uncut (job : Job) (w : World) (before after : List Part) (last : World) (verdict : Verdict) : Type 0 where
  pub answers : all_lines after ≡ answered job w (all_lines before)
  -- each piece's register means what stands where the piece ends
  pub registers : (xs : List Part) (p : Part) (ys : List Part) → before ≡ xs ++ p ∷ ys →
      slice_get (map (λ (q : Part). q.facts) after) (length xs) ≡ Some (after_calls job w (calls_in (all_lines (xs ++ p ∷ [])))).facts
  pub stands : last ≡ after_calls job w (calls_in (all_lines before))
  pub closed : verdict ≡ verdict_of job (after_calls job w (calls_in (all_lines before)))
