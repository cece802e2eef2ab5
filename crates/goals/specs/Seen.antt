-- What a token of the reader stands for: a token of the text with its place, or the end.
-- A sign is told by its character.
use Rattle.std.specs.Prelude.{◌≡◌, ℕ, suc, ◌+◌, ◌≤◌, Bool, false, ◌==◌, List, [], ◌∷◌, length, take}
use Rattle.goals.specs.declared.rest.Rest.{Rest}
use Rattle.goals.specs.declared.token.Sign.{Sign}
use Rattle.goals.specs.declared.token.Sign.TheVariants as sign
use Rattle.goals.specs.declared.token.Kind.{Kind}
use Rattle.goals.specs.declared.token.Kind.TheVariants as kind
use Rattle.goals.specs.declared.token.Token.{Token}
use Rattle.goals.specs.Tokens.{Tok, Source, end, next, word, variable, digits, mark, bad, member, signs, more, token_of, lex}

-- the tokens of what is left of a text
abbrev pub tokens_in : Rest → Source
tokens_in r = lex 0 r.place r.bytes.now

-- a sign's character
abbrev pub mark_of : Sign → ℕ
mark_of sign.True = 84
mark_of sign.Not = 33
mark_of sign.Next = 88
mark_of sign.Eventually = 70
mark_of sign.Always = 71
mark_of sign.ForAll = 65
mark_of sign.Exists = 69
mark_of sign.Open = 40
mark_of sign.Close = 41
mark_of sign.OpenEnds = 91
mark_of sign.CloseEnds = 93
mark_of sign.Comma = 44
mark_of sign.Star = 42
mark_of sign.Colon = 58
mark_of sign.Equal = 61
mark_of sign.And = 38
mark_of sign.Or = 124
mark_of sign.Until = 85
mark_of sign.Implies = 62

-- a character that is no sign
abbrev pub NoSign : ℕ → Type 0
NoSign c = member c signs ≡ false

-- the tokens that begin with one of this kind
abbrev pub seen : Kind → ℕ → Source → Source
seen (kind.Name b) p s = next (word b.now) p s
seen (kind.Variable v) p s = next (variable v) p s
seen (kind.Number d) p s = next (digits d.now) p s
seen (kind.Sign g) p s = next (mark (mark_of g)) p s
seen kind.Bad p s = next bad p s
seen kind.End p s = end p

-- a kind stands for a token of the text
abbrev pub Shows : Kind → Tok → Type 0
Shows k x = (p : ℕ) (s : Source) → seen k p s ≡ next x p s

-- a token of this kind stands first, where no blank does, and so many bytes belong to it
abbrev pub Leads : List ℕ → Kind → ℕ → Type 0
Leads [] k n = (k ≡ kind.End) × (n ≡ 0)
Leads (b ∷ bs) k n = (n ≡ suc (more b bs)) × Shows k (token_of b (take (more b bs) bs))

-- whether a kind is this sign
abbrev pub is_sign : Kind → Sign → Bool
is_sign (kind.Name b) g = false
is_sign (kind.Variable v) g = false
is_sign (kind.Number d) g = false
is_sign (kind.Sign own) g = mark_of own == mark_of g
is_sign kind.Bad g = false
is_sign kind.End g = false

-- whether a token was there, or the end
abbrev pub used : Source → ℕ
used (end p) = 0
used (next x p s) = 1

-- the token that stands first in what is left of a text, and what is left behind it
pub record TokenAt (r : Rest) (t : Token) : Type 0 where
  pub there : tokens_in r ≡ seen t.kind t.place (tokens_in t.rest)
  pub further : length t.rest.bytes.now + used (tokens_in r) ≤ length r.bytes.now
