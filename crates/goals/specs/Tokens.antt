-- The tokens of a goal text, each with its place, and last the place of the end.
-- Small letters in a row are one token, and so are digits, and letters after a question mark; blanks stand between tokens.
use Rattle.std.specs.Prelude.{ℕ, zero, suc, ◌+◌, ◌-◌, ◌*◌, Bool, false, cond, ◌&&◌, ◌||◌, List, [], ◌∷◌, length, take, drop, ◌==◌, nat_le}

-- a name, a variable by its letter, a number by its digits, a sign by its character, or what is none of these
pub data Tok : Type 0 where
  word : List ℕ → Tok
  variable : ℕ → Tok
  digits : List ℕ → Tok
  mark : ℕ → Tok
  bad : Tok

pub data Source : Type 0 where
  end : ℕ → Source
  next : Tok → ℕ → Source → Source

abbrev pub is_letter : ℕ → Bool
is_letter b = nat_le 97 b && nat_le b 122

abbrev pub is_digit : ℕ → Bool
is_digit b = nat_le 48 b && nat_le b 57

-- a space or a line feed
abbrev pub is_blank : ℕ → Bool
is_blank b = b == 32 || b == 10

abbrev pub member : ℕ → List ℕ → Bool
member b [] = false
member b (x ∷ xs) = b == x || member b xs

-- T ! X F G A E ( ) [ ] , * : = & | U >
abbrev pub signs : List ℕ
signs = 84 ∷ 33 ∷ 88 ∷ 70 ∷ 71 ∷ 65 ∷ 69 ∷ 40 ∷ 41 ∷ 91 ∷ 93 ∷ 44 ∷ 42 ∷ 58 ∷ 61 ∷ 38 ∷ 124 ∷ 85 ∷ 62 ∷ []

-- how many of the bytes at the front pass a test
abbrev pub run_of : (ℕ → Bool) → List ℕ → ℕ
run_of t [] = 0
run_of t (b ∷ bs) = cond (t b) (suc (run_of t bs)) 0

-- a name has at most 16 letters
abbrev pub name_token : List ℕ → Tok
name_token b = cond (nat_le (length b) 16) (word b) bad

-- a number has no leading zero
abbrev pub number_token : ℕ → List ℕ → Tok
number_token b [] = digits (b ∷ [])
number_token b (c ∷ cs) = cond (b == 48) bad (digits (b ∷ c ∷ cs))

-- a variable has one letter
abbrev pub variable_token : List ℕ → Tok
variable_token [] = bad
variable_token (v ∷ []) = variable v
variable_token (v ∷ u ∷ us) = bad

abbrev pub sign_token : ℕ → Tok
sign_token b = cond (member b signs) (mark b) bad

-- how many bytes more belong to the token that begins with b, where bs follow it
abbrev pub more : ℕ → List ℕ → ℕ
more b bs = cond (is_letter b) (run_of is_letter bs) (cond (is_digit b) (run_of is_digit bs) (cond (b == 63) (run_of is_letter bs) 0))

-- the token of the byte b and those that belong to it
abbrev pub token_of : ℕ → List ℕ → Tok
token_of b bs = cond (is_letter b) (name_token (b ∷ bs)) (cond (is_digit b) (number_token b bs) (cond (b == 63) (variable_token bs) (sign_token b)))

-- the tokens of the bytes bs, the first of which stands at the place p and the first k of which are passed over
unfoldable pub lex : ℕ → ℕ → List ℕ → Source
lex k p [] = end p
lex zero p (b ∷ bs) = cond (is_blank b) (lex 0 (suc p) bs) (next (token_of b (take (more b bs) bs)) p (lex (more b bs) (suc p) bs))
lex (suc k) p (b ∷ bs) = lex k (suc p) bs

-- the tokens of a text from a place on
abbrev pub lexed : List ℕ → ℕ → Source
lexed text p = lex 0 p (drop p text)

-- the number that digits write
abbrev pub value_from : ℕ → List ℕ → ℕ
value_from n [] = n
value_from n (d ∷ ds) = value_from (n * 10 + (d - 48)) ds

abbrev pub value : List ℕ → ℕ
value ds = value_from 0 ds
