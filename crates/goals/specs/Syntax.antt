-- The parse tree of a goal text: every sign as it was written.
-- Names and variables stand as their letters, ids and interval ends as their digits.
use Rattle.std.specs.Prelude.{ℕ, List}

pub data Operand : Type 0 where
  variable : ℕ → Operand
  id : List ℕ → Operand

pub data Test : Type 0 where
  bare : List ℕ → Test
  of_one : List ℕ → Operand → Test
  of_two : List ℕ → Operand → Operand → Test

pub data Interval : Type 0 where
  unwritten : Interval
  from_to : List ℕ → List ℕ → Interval
  from_on : List ℕ → Interval

pub data Simple : Type 0 where
  truth : Simple
  test : Test → Simple
  equal : Operand → Operand → Simple

pub data Unary : Type 0 where
  not next : Unary

pub data Modal : Type 0 where
  eventually henceforth : Modal

pub data Quantifier : Type 0 where
  for_all exists : Quantifier

-- what may stand before an item
pub data Prefix : Type 0 where
  unary : Unary → Prefix
  timed : Modal → Interval → Prefix
  quantified : Quantifier → ℕ → Test → Prefix

-- what may join two formulas in brackets
pub data Joint : Type 0 where
  until : Interval → Joint
  implies : Joint

mutual
  pub data Formula : Type 0 where
    one_clause : Clause → Formula
    either : Formula → Clause → Formula

  pub data Clause : Type 0 where
    one_item : Item → Clause
    both : Clause → Item → Clause

  pub data Item : Type 0 where
    simple : Simple → Item
    prefixed : Prefix → Item → Item
    group : Formula → Item
    pair : Formula → Joint → Formula → Item
