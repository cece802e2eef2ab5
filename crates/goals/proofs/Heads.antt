-- What the kind of a token says of the sign that stands first.
use Rattle.std.proofs.Common.{◌≡◌, ℕ, true, false, refl, ap, arith, eqb-true}
use borrow.Author.Tests.{eqb-false}
use Rattle.std.proofs.lemmas.Bool.{both_ways}
use Rattle.goals.specs.declared.token.Sign.{Sign}
use Rattle.goals.specs.declared.token.Sign.TheVariants as sign
use Rattle.goals.specs.declared.token.Kind.{Kind}
use Rattle.goals.specs.declared.token.Kind.TheVariants as kind
use Rattle.goals.specs.Tokens.{mark, Source, next}
use Rattle.goals.specs.Seen.{seen, mark_of, is_sign, Shows}
use Rattle.goals.specs.Promises.{head_sign}

marked : (g : Sign) → 0 ≡ mark_of g → ⊥
marked sign.True e = omega arith
marked sign.Not e = omega arith
marked sign.Next e = omega arith
marked sign.Eventually e = omega arith
marked sign.Always e = omega arith
marked sign.ForAll e = omega arith
marked sign.Exists e = omega arith
marked sign.Open e = omega arith
marked sign.Close e = omega arith
marked sign.OpenEnds e = omega arith
marked sign.CloseEnds e = omega arith
marked sign.Comma e = omega arith
marked sign.Star e = omega arith
marked sign.Colon e = omega arith
marked sign.Equal e = omega arith
marked sign.And e = omega arith
marked sign.Or e = omega arith
marked sign.Until e = omega arith
marked sign.Implies e = omega arith

-- another sign stands first, or none
pub other_sign : (k : Kind) (g : Sign) (p : ℕ) (s : Source) → is_sign k g ≡ false → head_sign (seen k p s) ≡ mark_of g → ⊥
other_sign (kind.Name b) g p s h e = marked g e
other_sign (kind.Variable v) g p s h e = marked g e
other_sign (kind.Number d) g p s h e = marked g e
other_sign (kind.Sign own) g p s h e = eqb-false (mark_of own) (mark_of g) h e
other_sign kind.Bad g p s h e = marked g e
other_sign kind.End g p s h e = marked g e

pub shows_sign : (k : Kind) (g : Sign) → is_sign k g ≡ true → Shows k (mark (mark_of g))
shows_sign (kind.Name b) g h p s = absurd (both_ways false refl h)
shows_sign (kind.Variable v) g h p s = absurd (both_ways false refl h)
shows_sign (kind.Number d) g h p s = absurd (both_ways false refl h)
shows_sign (kind.Sign own) g h p s = ap (λ c. next (mark c) p s) (eqb-true (mark_of own) (mark_of g) h)
shows_sign kind.Bad g h p s = absurd (both_ways false refl h)
shows_sign kind.End g h p s = absurd (both_ways false refl h)
