-- The grammar of goal texts: which tokens, up to which rest, are a formula, a clause or an item, and what their parse tree is.
-- Of the catalogue it needs to know only how many places a name has.
use Rattle.std.specs.Prelude.{◌≡◌, ℕ, List}
use Rattle.goals.specs.Tokens as token
use Rattle.goals.specs.Tokens.{Tok, word, digits, mark, Source, end, next}
use Rattle.goals.specs.Vocabulary.{Vocabulary, none, one, two, places}
use Rattle.goals.specs.Syntax.{Operand, variable, id, Test, bare, of_one, of_two, Interval, unwritten, from_to, from_on, Simple, truth, test, equal, Unary, not, Modal, eventually, henceforth, Quantifier, for_all, exists, Prefix, unary, timed, quantified, Joint, until, implies, Formula, one_clause, either, Clause, one_item, both, Item, simple, prefixed, group, pair}
use Rattle.goals.specs.Syntax as syntax

abbrev pub operand_token : Operand → Tok
operand_token (variable v) = token.variable v
operand_token (id d) = digits d

-- ! and X
abbrev pub unary_mark : Unary → ℕ
unary_mark not = 33
unary_mark syntax.next = 88

-- F and G
abbrev pub modal_mark : Modal → ℕ
modal_mark eventually = 70
modal_mark henceforth = 71

-- A and E
abbrev pub quantifier_mark : Quantifier → ℕ
quantifier_mark for_all = 65
quantifier_mark exists = 69

-- [ number , number ] or [ number , * ] or nothing
pub data IsInterval : Interval → Source → Source → Type 0 where
  is_unwritten : {r : Source} → IsInterval unwritten r r
  is_from_to : {lo hi : List ℕ} {r : Source} {p1 p2 p3 p4 p5 : ℕ} → IsInterval (from_to lo hi) (next (mark 91) p1 (next (digits lo) p2 (next (mark 44) p3 (next (digits hi) p4 (next (mark 93) p5 r))))) r
  is_from_on : {lo : List ℕ} {r : Source} {p1 p2 p3 p4 p5 : ℕ} → IsInterval (from_on lo) (next (mark 91) p1 (next (digits lo) p2 (next (mark 44) p3 (next (mark 42) p4 (next (mark 93) p5 r))))) r

module _ (V : Vocabulary) where
  -- a name, then as many terms as it has places, in brackets with a comma
  pub data IsTest : Test → Source → Source → Type 0 where
    is_bare : {b : List ℕ} {r : Source} {p : ℕ} → places (V.lookup b) ≡ none → IsTest (bare b) (next (word b) p r) r
    is_of_one : {b : List ℕ} {x : Operand} {r : Source} {p1 p2 p3 p4 : ℕ} → places (V.lookup b) ≡ one → IsTest (of_one b x) (next (word b) p1 (next (mark 40) p2 (next (operand_token x) p3 (next (mark 41) p4 r)))) r
    is_of_two : {b : List ℕ} {x y : Operand} {r : Source} {p1 p2 p3 p4 p5 p6 : ℕ} → places (V.lookup b) ≡ two
        → IsTest (of_two b x y) (next (word b) p1 (next (mark 40) p2 (next (operand_token x) p3 (next (mark 44) p4 (next (operand_token y) p5 (next (mark 41) p6 r)))))) r

  -- T, a test, or term = term
  pub data IsSimple : Simple → Source → Source → Type 0 where
    is_truth : {r : Source} {p : ℕ} → IsSimple truth (next (mark 84) p r) r
    is_test : {t : Test} {s r : Source} → IsTest t s r → IsSimple (test t) s r
    is_equal : {x y : Operand} {r : Source} {p1 p2 p3 : ℕ} → IsSimple (equal x y) (next (operand_token x) p1 (next (mark 61) p2 (next (operand_token y) p3 r))) r

  -- ! or X, F or G with its ends, A or E with variable : test
  pub data IsPrefix : Prefix → Source → Source → Type 0 where
    is_unary : {u : Unary} {r : Source} {p : ℕ} → IsPrefix (unary u) (next (mark (unary_mark u)) p r) r
    is_timed : {m : Modal} {e : Interval} {s r : Source} {p : ℕ} → IsInterval e s r → IsPrefix (timed m e) (next (mark (modal_mark m)) p s) r
    is_quantified : {q : Quantifier} {v : ℕ} {t : Test} {s r : Source} {p1 p2 p3 : ℕ} → IsTest t s r → IsPrefix (quantified q v t) (next (mark (quantifier_mark q)) p1 (next (token.variable v) p2 (next (mark 58) p3 s))) r

  -- U with its ends, or >
  pub data IsJoint : Joint → Source → Source → Type 0 where
    is_until : {e : Interval} {s r : Source} {p : ℕ} → IsInterval e s r → IsJoint (until e) (next (mark 85) p s) r
    is_implies : {r : Source} {p : ℕ} → IsJoint implies (next (mark 62) p r) r

  mutual
    pub data IsFormula : Formula → Source → Source → Type 0 where
      is-clause : {c : Clause} {s r : Source} → IsClause c s r → IsFormula (one_clause c) s r
      is-either : {f : Formula} {c : Clause} {s u r : Source} {p : ℕ} → IsFormula f s (next (mark 124) p u) → IsClause c u r → IsFormula (either f c) s r

    pub data IsClause : Clause → Source → Source → Type 0 where
      is-item : {i : Item} {s r : Source} → IsItem i s r → IsClause (one_item i) s r
      is-both : {c : Clause} {i : Item} {s u r : Source} {p : ℕ} → IsClause c s (next (mark 38) p u) → IsItem i u r → IsClause (both c i) s r

    pub data IsItem : Item → Source → Source → Type 0 where
      is-simple : {x : Simple} {s r : Source} → IsSimple x s r → IsItem (simple x) s r
      is-prefixed : {x : Prefix} {i : Item} {s u r : Source} → IsPrefix x s u → IsItem i u r → IsItem (prefixed x i) s r
      is-group : {f : Formula} {s r : Source} {p q : ℕ} → IsFormula f s (next (mark 41) q r) → IsItem (group f) (next (mark 40) p s) r
      is-pair : {a b : Formula} {j : Joint} {s u v r : Source} {p q : ℕ} → IsFormula a s u → IsJoint j u v → IsFormula b v (next (mark 41) q r) → IsItem (pair a j b) (next (mark 40) p s) r
