-- What reading a goal text promises: the outcome is the defined one, and the table unfolds into its tree.
-- The theorems say what the defined outcome means, in terms of the grammar and of the conditions.
use Rattle.std.specs.Prelude.{◌≡◌, ℕ, ◌<◌, ◌≤◌, true, List, [], ◌∷◌, length, Ok, Err, vec_items, Result}
use Rattle.goals.specs.declared.goal.Goal.{Goal}
use Rattle.goals.specs.declared.goal_fault.GoalFault.{GoalFault}
use Rattle.goals.specs.Tokens.{Tok, Source, end, next, lexed}
use Rattle.goals.specs.Vocabulary.{Vocabulary}
use Rattle.goals.specs.Syntax.{Formula}
use Rattle.goals.specs.Grammar.{IsFormula}
use Rattle.goals.specs.Scopes.{outermost}
use Rattle.goals.specs.Tree.{Tree, formula-tree}
use Rattle.goals.specs.Conditions.{known-formula, ranged-formula, shallow-formula, formula_nodes}
use Rattle.goals.specs.Reading.{read, fault, reads}
use Rattle.goals.specs.GoalFaults.{told}
use Rattle.goals.specs.GoalTable.{Unfolds, numbers, occurs}

abbrev pub tree_of : Vocabulary → Formula → Tree
tree_of V f = formula-tree V outermost f

-- the goal that was read
pub record GoalRead (V : Vocabulary) (text : List ℕ) (g : Goal) : Type 0 where
  pub formula : Formula
  pub outcome : reads V text ≡ read formula
  pub unfolds : Unfolds (vec_items g.nodes) g.root (tree_of V formula)
  pub one_place : (k : ℕ) → k < length (vec_items g.nodes) → occurs k (numbers (vec_items g.nodes) g.root (tree_of V formula) unfolds) ≡ 1

abbrev pub GoalSays : Vocabulary → List ℕ → Result Goal GoalFault → Type 0
GoalSays V text (Ok g) = GoalRead V text g
GoalSays V text (Err x) = reads V text ≡ told x

-- the grammar derives the parse tree from all the tokens
abbrev pub Derives : Vocabulary → Source → Formula → Type 0
Derives V w f = (p : ℕ) × IsFormula V f w (end p)

-- it derives the tree from the text, and none of 3, 5, 6 and 7 applies
pub record Allowed (V : Vocabulary) (text : List ℕ) (f : Formula) : Type 0 where
  pub short : length text ≤ 2048
  pub derived : Derives V (lexed text 0) f
  pub known : known-formula V outermost f ≡ true
  pub ranged : ranged-formula V f ≡ true
  pub shallow : shallow-formula outermost f ≡ true
  pub few : formula_nodes f ≤ 128

abbrev pub Accepts : Vocabulary → List ℕ → Tree → Type 0
Accepts V text t = (f : Formula) × (reads V text ≡ read f) × (tree_of V f ≡ t)

abbrev pub Allows : Vocabulary → List ℕ → Tree → Type 0
Allows V text t = (f : Formula) × Allowed V text f × (tree_of V f ≡ t)

-- a text is accepted with a tree exactly if the grammar derives it and no condition is met
abbrev pub Exactly : Type 0
Exactly = (V : Vocabulary) (text : List ℕ) (t : Tree) → (Accepts V text t → Allows V text t) × (Allows V text t → Accepts V text t)

-- two derivations of one text have the same parse tree, and so the same tree
abbrev pub OnlyReading : Type 0
OnlyReading = (V : Vocabulary) (w : Source) (f g : Formula) → Derives V w f → Derives V w g → f ≡ g

pub record Placed : Type 0 where
  pub tok : Tok
  pub place : ℕ

-- some tokens, and then others
abbrev pub then : List Placed → Source → Source
then [] s = s
then (x ∷ xs) s = next x.tok x.place (then xs s)

abbrev pub Grammatical : Vocabulary → Source → Type 0
Grammatical V w = (f : Formula) × Derives V w f

-- the tokens begin some text of the grammar
abbrev pub Begins : Vocabulary → List Placed → Type 0
Begins V xs = (s : Source) × Grammatical V (then xs s)

-- the first token of the rest, or the end, stands at the place p, and no text of the grammar goes on with it
abbrev pub CannotFollow : Vocabulary → List Placed → Source → ℕ → Type 0
CannotFollow V xs (end q) p = (q ≡ p) × (Grammatical V (then xs (end q)) → ⊥)
CannotFollow V xs (next x q u) p = (q ≡ p) × ((s : Source) → Grammatical V (then xs (next x q s)) → ⊥)

pub record Misplaced (V : Vocabulary) (w : Source) (p : ℕ) : Type 0 where
  pub before : List Placed
  pub rest : Source
  pub whole : w ≡ then before rest
  pub begins : Begins V before
  pub stops : CannotFollow V before rest p

-- 4 tells the place of the first token, or of the end, that can't follow
abbrev pub RightPlace : Type 0
RightPlace = (V : Vocabulary) (text : List ℕ) (p : ℕ) → reads V text ≡ fault 4 p → Misplaced V (lexed text 0) p
