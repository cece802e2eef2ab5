-- What the reader's own values stand for: what a name was found to mean, and a number that stops growing at 65,535.
-- No id and no interval end that may stand in a goal is as great as that.
use Rattle.std.specs.Prelude.{ℕ, min, List, Some, None, Option}
use Rattle.goals.specs.declared.predicate.Sense.{Sense}
use Rattle.goals.specs.Tokens.{value_from}
use Rattle.goals.specs.Vocabulary.{Found, missing, found, places_of}

abbrev pub meaning : Option Sense → Found
meaning None = missing
meaning (Some x) = found x.predicate (places_of x.places)

abbrev pub capped : ℕ → List ℕ → ℕ
capped n ds = min (value_from n ds) 65535
