-- The words that a goal text may use: how many ids there are, and which names are predicates.
-- A name means the first predicate that bears it.
use Rattle.std.specs.Prelude.{ℕ, zero, suc, min, Bool, true, false, cond, List, [], ◌∷◌, take}
use Rattle.std.specs.Str.{bytes_eq}
use Rattle.goals.specs.declared.predicate.Predicate.{Predicate}

-- how many terms a predicate takes
pub data Places : Type 0 where
  none one two : Places

-- what a name means: nothing, or a predicate's number and its places
pub data Found : Type 0 where
  missing : Found
  found : ℕ → Places → Found

pub record Vocabulary : Type 0 where
  pub ids : ℕ
  pub lookup : List ℕ → Found

-- no predicate has more than two places
abbrev pub places_of : ℕ → Places
places_of zero = none
places_of (suc zero) = one
places_of (suc (suc n)) = two

abbrev pub name_of : Predicate → List ℕ
name_of p = take (min p.length 16) p.name

-- the first predicate with this name, where the first of the list has the number i
unfoldable pub find_from : ℕ → List Predicate → List ℕ → Found
find_from i [] b = missing
find_from i (p ∷ ps) b = cond (bytes_eq (name_of p) b) (found i (places_of p.places)) (find_from (suc i) ps b)

-- a predicate's number is a byte
abbrev pub vocabulary_of : ℕ → List Predicate → Vocabulary
vocabulary_of n ps = record { ids = n; lookup = find_from 0 (take 256 ps) }

abbrev pub is_known : Found → Bool
is_known missing = false
is_known (found i n) = true

-- a name that is unknown stands alone
abbrev pub places : Found → Places
places missing = none
places (found i n) = n

abbrev pub number : Found → ℕ
number missing = 0
number (found i n) = i
