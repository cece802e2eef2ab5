-- Reading from left to right: at each stage a token can follow or not, asks something of the catalogue, and counts for nodes.
-- The first fault met is given: 4 where the token can't follow, else 5, 6 or 7 by what it asks, else 7 where its nodes pass 128.
use Rattle.std.specs.Prelude.{ℕ, ◌+◌, Bool, true, false, cond, not, ◌&&◌, List, [], ◌∷◌, length, Some, None, Option, ◌==◌, nat_le, nat_lt}
use Rattle.goals.specs.declared.scope.Scope.{Scope}
use Rattle.goals.specs.Tokens.{Tok, word, variable, digits, mark, bad, Source, end, next, lexed, value}
use Rattle.goals.specs.Vocabulary.{Vocabulary, Found, Places, none, one, two, is_known, places}
use Rattle.goals.specs.Syntax as syntax
use Rattle.goals.specs.Syntax.{Operand, Test, bare, of_one, of_two, Interval, unwritten, from_to, from_on, Modal, eventually, henceforth, Quantifier, Prefix, unary, timed, quantified, Joint, Formula, one_clause, either, Clause, one_item, both, Item, simple, prefixed, group, pair}
use Rattle.goals.specs.Scopes.{in_use, has_room, outermost, deeper, binding, inside}
use Rattle.goals.specs.Conditions.{mentions}

mutual
  -- where a formula stands: it is the whole, or the first or the second one in a bracket
  pub data Around : Type 0 where
    top : Around
    open_at : Place → Around
    right_of : Formula → Joint → Place → Around

  -- where an item stands: behind what is left of it in its clause and its formula, or behind a prefix
  pub data Place : Type 0 where
    at : Option Clause → Option Formula → Around → Place
    under : Prefix → Place → Place

abbrev mutual
  pub scope_around : Around → Scope
  scope_around top = outermost
  scope_around (open_at k) = deeper (scope_at k)
  scope_around (right_of a j k) = deeper (scope_at k)

  pub scope_at : Place → Scope
  scope_at (at a o f) = scope_around f
  scope_at (under x k) = inside (scope_at k) x

-- what a test is for: it is an item, or a quantifier's bound
pub data Role : Type 0 where
  alone : Place → Role
  bound : Quantifier → ℕ → Place → Role

abbrev pub role_scope : Role → Scope
role_scope (alone k) = scope_at k
role_scope (bound q v k) = binding (scope_at k) v

abbrev pub role_holds : Role → Test → Bool
role_holds (alone k) t = true
role_holds (bound q v k) t = mentions v t

-- a test whose name stands at a place, with the terms that it has so far
pub data Pending : Type 0 where
  only first : List ℕ → Pending
  second : List ℕ → Operand → Pending

-- what wants a term: the right side of an equation, or a test
pub data Asker : Type 0 where
  right_side : Operand → Place → Asker
  argument : Role → ℕ → Pending → Asker

abbrev pub asker_scope : Asker → Scope
asker_scope (right_side x k) = scope_at k
asker_scope (argument r p t) = role_scope r

-- what may have ends: F, G or U
pub data Opener : Type 0 where
  of_modal : Modal → Place → Opener
  of_until : Formula → Place → Opener

abbrev pub resume : Opener → Interval → Place
resume (of_modal m k) e = under (timed m e) k
resume (of_until a k) e = at None None (right_of a (syntax.until e) k)

pub data Stage : Type 0 where
  -- an item is wanted, or stands at the end of a clause
  wants : Place → Stage
  after : Clause → Option Formula → Around → Stage
  -- a sign is wanted, and then a stage goes on
  expects : ℕ → Stage → Stage
  -- the left side of an equation stands here; a term is wanted; a test wants its closing bracket
  equals : Operand → Place → Stage
  asks : Asker → Stage
  closes : Role → Test → ℕ → Stage
  -- a quantifier wants its variable, then its bound
  binds : Quantifier → Place → Stage
  bounds : Quantifier → ℕ → Place → Stage
  -- ends may stand here; the lower end is wanted; the upper
  opens : Opener → Stage
  lower : Opener → Stage
  upper : Opener → List ℕ → Stage

abbrev pub joined_and : Option Clause → Item → Clause
joined_and None i = one_item i
joined_and (Some c) i = both c i

abbrev pub joined_or : Option Formula → Clause → Formula
joined_or None c = one_clause c
joined_or (Some f) c = either f c

-- an item is complete
abbrev pub complete : Item → Place → Stage
complete i (at a o f) = after (joined_and a i) o f
complete i (under x k) = complete (prefixed x i) k

-- a test is complete
abbrev pub tested : Role → Test → Stage
tested (alone k) t = complete (simple (syntax.test t)) k
tested (bound q v k) t = wants (under (quantified q v t) k)

-- a term is given
abbrev pub given : Asker → Operand → Stage
given (right_side x k) y = complete (simple (syntax.equal x y)) k
given (argument r p (only b)) y = closes r (of_one b y) p
given (argument r p (first b)) y = expects 44 (asks (argument r p (second b y)))
given (argument r p (second b x)) y = closes r (of_two b x y) p

-- a token can't follow, or it may: if what it asks holds, else at fault with a number and a place; it counts for so many nodes
pub data Moved : Type 0 where
  cannot : Moved
  may : Bool → ℕ → ℕ → ℕ → Stage → Moved

abbrev pub among : ℕ → List (ℕ × Moved) → Moved
among c [] = cannot
among c (x ∷ xs) = cond (c == x.0) x.1 (among c xs)

abbrev pub signed : Tok → List (ℕ × Moved) → Moved
signed (word b) xs = cannot
signed (variable v) xs = cannot
signed (digits d) xs = cannot
signed (mark c) xs = among c xs
signed bad xs = cannot

-- behind a formula in brackets or as a whole
abbrev pub closing : ℕ → Formula → Around → List (ℕ × Moved)
closing p f top = []
closing p f (open_at k) = (41, may true 4 p 0 (complete (group f) k)) ∷ (85, may true 4 p 1 (opens (of_until f k))) ∷ (62, may true 4 p 2 (wants (at None None (right_of f syntax.implies k)))) ∷ []
closing p f (right_of a j k) = (41, may true 4 p 0 (complete (pair a j f) k)) ∷ []

abbrev pub following : ℕ → Clause → Option Formula → Around → List (ℕ × Moved)
following p c o f = (38, may true 4 p 1 (wants (at (Some c) o f))) ∷ (124, may true 4 p 1 (wants (at None (Some (joined_or o c)) f))) ∷ closing p (joined_or o c) f

-- the signs that begin an item
abbrev pub starting : ℕ → Place → List (ℕ × Moved)
starting p k =
    (84, may true 4 p 1 (complete (simple syntax.truth) k))
    ∷ (33, may true 4 p 1 (wants (under (unary syntax.not) k)))
    ∷ (88, may true 4 p 1 (wants (under (unary syntax.next) k)))
    ∷ (70, may true 4 p 2 (opens (of_modal eventually k)))
    ∷ (71, may true 4 p 4 (opens (of_modal henceforth k)))
    ∷ (65, may (has_room (scope_at k).letters) 7 p 1 (binds syntax.for_all k))
    ∷ (69, may (has_room (scope_at k).letters) 7 p 1 (binds syntax.exists k))
    ∷ (40, may (nat_lt (scope_at k).depth 16) 7 p 0 (wants (at None None (open_at k))))
    ∷ []

-- a name, by what it means
abbrev pub named : Role → List ℕ → ℕ → ℕ → Found → Places → Moved
named r b p n f none = may (is_known f && role_holds r (bare b)) 5 p n (tested r (bare b))
named r b p n f one = may (is_known f) 5 p n (expects 40 (asks (argument r p (only b))))
named r b p n f two = may (is_known f) 5 p n (expects 40 (asks (argument r p (first b))))

module _ (V : Vocabulary) where
  abbrev pub name : Role → List ℕ → ℕ → ℕ → Moved
  name r b p n = named r b p n (V.lookup b) (places (V.lookup b))

  -- an item begins
  abbrev pub begins : Place → Tok → ℕ → Moved
  begins k (word b) p = name (alone k) b p 1
  begins k (variable v) p = may (in_use (scope_at k).letters v) 5 p 0 (equals (syntax.variable v) k)
  begins k (digits d) p = may (nat_lt (value d) V.ids) 6 p 0 (equals (syntax.id d) k)
  begins k (mark c) p = among c (starting p k)
  begins k bad p = cannot

  abbrev pub opening : Opener → Tok → ℕ → Moved
  opening m (word b) p = begins (resume m unwritten) (word b) p
  opening m (variable v) p = begins (resume m unwritten) (variable v) p
  opening m (digits d) p = begins (resume m unwritten) (digits d) p
  opening m (mark c) p = among c ((91, may true 4 p 0 (lower m)) ∷ starting p (resume m unwritten))
  opening m bad p = cannot

  abbrev pub answered : Asker → Tok → ℕ → Moved
  answered a (word b) p = cannot
  answered a (variable v) p = may (in_use (asker_scope a).letters v) 5 p 0 (given a (syntax.variable v))
  answered a (digits d) p = may (nat_lt (value d) V.ids) 6 p 0 (given a (syntax.id d))
  answered a (mark c) p = cannot
  answered a bad p = cannot

  abbrev pub binding_by : Quantifier → Place → Tok → ℕ → Moved
  binding_by q k (word b) p = cannot
  binding_by q k (variable v) p = may (not (in_use (scope_at k).letters v)) 5 p 0 (expects 58 (bounds q v k))
  binding_by q k (digits d) p = cannot
  binding_by q k (mark c) p = cannot
  binding_by q k bad p = cannot

  abbrev pub bounding : Role → Tok → ℕ → Moved
  bounding r (word b) p = name r b p 0
  bounding r (variable v) p = cannot
  bounding r (digits d) p = cannot
  bounding r (mark c) p = cannot
  bounding r bad p = cannot

  abbrev pub lowering : Opener → Tok → ℕ → Moved
  lowering m (word b) p = cannot
  lowering m (variable v) p = cannot
  lowering m (digits lo) p = may (nat_le (value lo) 10000) 6 p 0 (expects 44 (upper m lo))
  lowering m (mark c) p = cannot
  lowering m bad p = cannot

  abbrev pub uppering : Opener → List ℕ → Tok → ℕ → Moved
  uppering m lo (word b) p = cannot
  uppering m lo (variable v) p = cannot
  uppering m lo (digits hi) p = may (nat_le (value hi) 10000 && nat_le (value lo) (value hi)) 6 p 0 (expects 93 (wants (resume m (from_to lo hi))))
  uppering m lo (mark c) p = among c ((42, may true 4 p 0 (expects 93 (wants (resume m (from_on lo))))) ∷ [])
  uppering m lo bad p = cannot

  -- what a token at the place p does at a stage
  unfoldable pub move : Stage → Tok → ℕ → Moved
  move (wants k) x p = begins k x p
  move (after c o f) x p = signed x (following p c o f)
  move (expects c g) x p = signed x ((c, may true 4 p 0 g) ∷ [])
  move (equals y k) x p = signed x ((61, may true 4 p 1 (asks (right_side y k))) ∷ [])
  move (asks a) x p = answered a x p
  move (closes r t q) x p = signed x ((41, may (role_holds r t) 5 q 0 (tested r t)) ∷ [])
  move (binds q k) x p = binding_by q k x p
  move (bounds q v k) x p = bounding (bound q v k) x p
  move (opens m) x p = opening m x p
  move (lower m) x p = lowering m x p
  move (upper m lo) x p = uppering m lo x p

-- a whole parse tree, or a fault with its number and place
pub data Outcome : Type 0 where
  read : Formula → Outcome
  fault : ℕ → ℕ → Outcome

abbrev pub ended_around : Formula → Around → ℕ → Outcome
ended_around f top p = read f
ended_around f (open_at k) p = fault 4 p
ended_around f (right_of a j k) p = fault 4 p

-- the end comes at a stage
abbrev pub ended : Stage → ℕ → Outcome
ended (wants k) p = fault 4 p
ended (after c o f) p = ended_around (joined_or o c) f p
ended (expects c g) p = fault 4 p
ended (equals y k) p = fault 4 p
ended (asks a) p = fault 4 p
ended (closes r t q) p = fault 4 p
ended (binds q k) p = fault 4 p
ended (bounds q v k) p = fault 4 p
ended (opens m) p = fault 4 p
ended (lower m) p = fault 4 p
ended (upper m lo) p = fault 4 p

-- a token is followed; with nothing asked of it, it is by the grammar alone
abbrev pub followed : Bool → Moved → ℕ → ℕ → (ℕ → Stage → Outcome) → Outcome
followed strict cannot n p go = fault 4 p
followed false (may ok c q cost g) n p go = go (n + cost) g
followed true (may ok c q cost g) n p go = cond ok (cond (nat_le (n + cost) 128) (go (n + cost) g) (fault 7 p)) (fault c q)

module _ (V : Vocabulary) where
  -- what comes of reading on at a stage, with n nodes counted
  unfoldable pub walk : Bool → ℕ → Stage → Source → Outcome
  walk strict n g (end p) = ended g p
  walk strict n g (next x p s) = followed strict (move V g x p) n p (λ i h. walk strict i h s)

  abbrev pub run : ℕ → Stage → Source → Outcome
  run n g s = walk true n g s

abbrev pub start : Stage
start = wants (at None None top)

-- a text of at most 2,048 bytes is read
abbrev pub reads : Vocabulary → List ℕ → Outcome
reads V text = cond (nat_le (length text) 2048) (run V 0 start (lexed text 0)) (fault 3 0)
