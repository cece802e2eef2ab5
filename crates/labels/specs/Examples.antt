-- Small worked schedules, goals and facts, and what the definitions say of them.
-- The schedules' rule: a number that a label tags is a path or a stream, or it is not drawn as a stream until the tag is wiped.
use Rattle.std.specs.Prelude.{◌≡◌, ℕ, Bool, true, false, not, ◌&&◌, ◌||◌, List, [], ◌∷◌, length, ◌==◌}
use Rattle.goals.specs.declared.goal.Variable.TheVariants.{Outer, Inner}
use Rattle.goals.specs.declared.goal.Term.{Term}
use Rattle.goals.specs.declared.goal.Term.TheVariants.{Id, Bound}
use Rattle.goals.specs.declared.goal.Atom.{Atom}
use Rattle.goals.specs.declared.goal.Node.{Node}
use Rattle.goals.specs.declared.goal.Node.TheVariants.{True, Test, Not, Or, Next, Until, ForAll}
use Rattle.labels.specs.Facts.{Facts, unbound}
use Rattle.labels.specs.Goals.{ends, endless, goal_of_node}
use Rattle.labels.specs.Labels.{Label, false_label, and_label, pending, waiting}
use Rattle.labels.specs.Size.{size}
use Rattle.labels.specs.Progress.{progressed}
use Rattle.labels.specs.Work.{work}
use Rattle.labels.specs.Idling.{idling}
use Rattle.labels.specs.Ledger.{Ledger, Step, opening, stepped}

abbrev pub is : ℕ → ℕ → ℕ → Facts
is p x y q a b = p == q && (x == a && y == b)

abbrev pub put : ℕ → ℕ → ℕ → Facts → Facts
put p x y s q a b = is p x y q a b || s q a b

abbrev pub take : ℕ → ℕ → ℕ → Facts → Facts
take p x y s q a b = not (is p x y q a b) && s q a b

abbrev pub none : Facts
none p x y = false

abbrev pub atom : ℕ → Term → Term → Atom
atom p t u = record { predicate = p; first = t; second = u }

-- the predicates label, path and stream of one place, and tag of two
abbrev pub label_is : Term → Atom
label_is t = atom 0 t (Id 0)

abbrev pub path_is : Term → Atom
path_is t = atom 1 t (Id 0)

abbrev pub stream_is : Term → Atom
stream_is t = atom 2 t (Id 0)

abbrev pub tag_is : Term → Term → Atom
tag_is t u = atom 3 t u

-- the variables ?l and ?f
abbrev pub l : Term
l = Bound Outer

abbrev pub f : Term
f = Bound Inner

-- G A ?l:label(?l) A ?f:tag(?l,?f) (path(?f)|stream(?f)|(!stream(?f) U !tag(?l,?f)))
abbrev pub footpath_rule : List Node
footpath_rule =
    True
    ∷ (Test (path_is f)
    ∷ (Test (stream_is f)
    ∷ (Or 1 2
    ∷ (Test (stream_is f)
    ∷ (Not 4
    ∷ (Test (tag_is l f)
    ∷ (Not 6
    ∷ (Until (endless 0) 5 7
    ∷ (Or 3 8
    ∷ (ForAll Inner (tag_is l f) 9
    ∷ (ForAll Outer (label_is l) 10
    ∷ (Not 11
    ∷ (Until (endless 0) 0 12
    ∷ (Not 13 ∷ []))))))))))))))

-- label 0 tags footpath 1
abbrev pub at_first : Facts
at_first = put 0 0 0 (put 1 1 0 (put 3 0 1 none))

-- the footpath is dropped, its number is drawn again as a stream, the tag is wiped
abbrev pub drop : Facts → Step
drop s = record { after = take 1 1 0 s; span = 0 }

abbrev pub draw : Facts → Step
draw s = record { after = put 2 1 0 s; span = 2 }

abbrev pub wipe : Facts → Step
wipe s = record { after = take 3 0 1 s; span = 1 }

abbrev pub step : (Facts → Step) → Ledger → Ledger
step operation L = stepped 2 footpath_rule L (operation L.facts)

abbrev pub opened : Ledger
opened = opening footpath_rule 14 at_first

abbrev pub dropped : Ledger
dropped = step drop opened

abbrev pub redrawn : Ledger
redrawn = step draw dropped

abbrev pub redrawn_wiped : Ledger
redrawn_wiped = step wipe redrawn

abbrev pub wiped : Ledger
wiped = step wipe dropped

abbrev pub wiped_redrawn : Ledger
wiped_redrawn = step draw wiped

abbrev pub size_of : Ledger → ℕ
size_of L = size L.label

abbrev pub operation_work : Ledger → (Facts → Step) → ℕ
operation_work L operation = length (work 2 L.facts (operation L.facts).span footpath_rule L.label)

abbrev pub kept : Ledger → Bool
kept L = idling 2 L.facts footpath_rule L.label

pub record FootpathSchedules : Type 0 where
  -- the number is drawn again while its tag still stands, and the step after that breaks the rule
  pub reused_early_sizes :
      ◌≡◌ {A = List ℕ} (size_of opened ∷ (size_of dropped ∷ (size_of redrawn ∷ (size_of redrawn_wiped ∷ []))))
      (1 ∷ (2 ∷ (5 ∷ (1 ∷ []))))
  pub reused_early_hours :
      ◌≡◌ {A = List ℕ} (opened.hour ∷ (dropped.hour ∷ (redrawn.hour ∷ (redrawn_wiped.hour ∷ []))))
      (0 ∷ (0 ∷ (2 ∷ (3 ∷ []))))
  pub reused_early_works :
      ◌≡◌ {A = List ℕ} (operation_work opened drop ∷ (operation_work dropped draw ∷ (operation_work redrawn wipe ∷ []))) (5 ∷ (7 ∷ (4 ∷ [])))
  pub reused_early_broken : redrawn_wiped.label ≡ false_label
  -- the tag is wiped first
  pub wiped_first_sizes :
      ◌≡◌ {A = List ℕ} (size_of opened ∷ (size_of dropped ∷ (size_of wiped ∷ (size_of wiped_redrawn ∷ []))))
      (1 ∷ (2 ∷ (5 ∷ (2 ∷ []))))
  pub wiped_first_kept : kept wiped_redrawn ≡ true
  -- the tag is never wiped
  pub never_wiped_not_kept : kept redrawn ≡ false

-- with p predicate 0 and q predicate 1, of no place: T, p, q, F[0,10] p, F[5,7] p, (p U q), (p U[2,4] q)
abbrev pub p : Atom
p = atom 0 (Id 0) (Id 0)

abbrev pub q : Atom
q = atom 1 (Id 0) (Id 0)

abbrev pub waits : List Node
waits =
    True
    ∷ (Test p
    ∷ (Test q
    ∷ (Until (ends 0 10) 0 1
    ∷ (Until (ends 5 7) 0 1
    ∷ (Until (endless 0) 1 2
    ∷ (Until (ends 2 4) 1 2 ∷ []))))))

abbrev pub with_p : Facts
with_p = put 0 0 0 none

abbrev pub with_q : Facts
with_q = put 1 0 0 none

abbrev pub goal : ℕ → Label
goal k = waiting (goal_of_node waits k) unbound

pub record WindowsAndUntils : Type 0 where
  pub window_just_open : progressed 2 none 10 waits (goal 3) ≡ pending 3 unbound (ends 0 0)
  pub window_passed : progressed 2 none 11 waits (goal 3) ≡ false_label
  pub window_nears : progressed 2 with_p 6 waits (goal 4) ≡ pending 4 unbound (ends 0 1)
  pub window_idles_true : idling 2 with_p waits (goal 4) ≡ true
  pub until_at_once_idles_true : idling 2 with_q waits (goal 5) ≡ true
  pub until_after_a_wait_idles_false : idling 2 with_q waits (goal 6) ≡ false

-- A ?l:p(?l) X q(?l), with p and q of one place and p of both ids
abbrev pub each_next : List Node
each_next = Test (atom 1 l (Id 0)) ∷ (Next 0 ∷ (ForAll Outer (atom 0 l (Id 0)) 1 ∷ []))

abbrev pub with_both : Facts
with_both = put 0 0 0 (put 0 1 0 none)

abbrev pub waits_for : ℕ → Label
waits_for x = pending 0 (record { outer = x; inner = 0 }) (ends 0 0)

pub record QuantifierJoins : Type 0 where
  pub in_rising_order : progressed 2 with_both 1 each_next (waiting (goal_of_node each_next 2) unbound) ≡ and_label (waits_for 0) (waits_for 1)
  -- the start, two parts and their joining
  pub start_is_work : ◌≡◌ {A = ℕ} (length (work 2 with_both 1 each_next (waiting (goal_of_node each_next 2) unbound))) 4

-- the worked examples as one group
abbrev pub WorkedExamples : Type 0
WorkedExamples = FootpathSchedules × WindowsAndUntils × QuantifierJoins
