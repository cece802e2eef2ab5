use Rattle.std.proofs.Common.{◌≡◌, ℕ, sym, refl, ap, ◌∙◌, subst}
use Rattle.goals.specs.declared.progress.Progress.{Progress}
use Rattle.goals.specs.declared.rest.Rest.{Rest}
use Rattle.goals.specs.declared.token.Sign.{Sign}
use Rattle.goals.specs.declared.token.Sign.TheVariants as sign
use Rattle.goals.specs.Tokens.{mark}
use Rattle.goals.specs.Seen.{tokens_in, mark_of}
use Rattle.goals.specs.Syntax as syntax
use Rattle.goals.specs.Reading.{run, wants}
use Rattle.goals.specs.Promises.{vocabulary, Here, PrefixSays, PrefixRead}
use Rattle.goals.proofs.Terms.{broke, told_as}
use Rattle.goals.proofs.Prefixes.{no_prefix, unary-over, unary_read, timed-prefix, quantified-prefix}
use Rattle.goals.proofs.words.Reader.prefix.Goals as goal

-- the sign that is at hand
sign_here : (p : Progress) (place : ℕ) (rest : Rest) (g s : Sign) → Here p (mark (mark_of g)) place rest → g ≡ s → Here p (mark (mark_of s)) place rest
sign_here p place rest g s v f = subst (λ x. Here p (mark (mark_of x)) place rest) f v

pub returns-in_err-take-in-Not : goal.returns-in_err-take-in-Not
returns-in_err-take-in-Not c =
    let V = vocabulary c.args.self.now.words in
    let h = sign_here c.args.s.now c.args.token.place c.args.token.rest c.args.sign sign.Not c.requires.here c.in-Not.is in
    let x = c.in_err-take-in-Not.ensures in
    broke (PrefixSays V c.args.self.now.scope c.args.s.now _) _ c.from_residual.result c.from_residual.ensures.1 (λ k e. told_as x.0 (unary-over V syntax.not h x.1 k))

pub returns-in_ok-take-in-Not : goal.returns-in_ok-take-in-Not
returns-in_ok-take-in-Not c =
    let h = sign_here c.args.s.now c.args.token.place c.args.token.rest c.args.sign sign.Not c.requires.here c.in-Not.is in
    subst (PrefixRead (vocabulary c.args.self.now.words) c.args.self.now.scope c.args.s.now _) (sym c.opening.ensures) (unary_read (vocabulary c.args.self.now.words) syntax.not h c.args.self.now.scope c.in_ok-take-in-Not.ensures)

pub returns-in_err-take-in-Next : goal.returns-in_err-take-in-Next
returns-in_err-take-in-Next c =
    let V = vocabulary c.args.self.now.words in
    let h = sign_here c.args.s.now c.args.token.place c.args.token.rest c.args.sign sign.Next c.requires.here c.in-Next.is in
    let x = c.in_err-take-in-Next.ensures in
    broke (PrefixSays V c.args.self.now.scope c.args.s.now _) _ c.from_residual-in_err-take-in-Next.result c.from_residual-in_err-take-in-Next.ensures.1 (λ k e. told_as x.0 (unary-over V syntax.next h x.1 k))

pub returns-in_ok-take-in-Next : goal.returns-in_ok-take-in-Next
returns-in_ok-take-in-Next c =
    let h = sign_here c.args.s.now c.args.token.place c.args.token.rest c.args.sign sign.Next c.requires.here c.in-Next.is in
    subst (PrefixRead (vocabulary c.args.self.now.words) c.args.self.now.scope c.args.s.now _) (sym c.opening-in-Next.ensures) (unary_read (vocabulary c.args.self.now.words) syntax.next h c.args.self.now.scope c.in_ok-take-in-Next.ensures)

pub returns-in_err-t-in-Eventually : goal.returns-in_err-t-in-Eventually
returns-in_err-t-in-Eventually c =
    let V = vocabulary c.args.self.now.words in
    let h = sign_here c.args.s.now c.args.token.place c.args.token.rest c.args.sign sign.Eventually c.requires.here c.in-Eventually.is in
    broke (PrefixSays V c.args.self.now.scope c.args.s.now _) _ c.from_residual-in_err-t-in-Eventually.result c.from_residual-in_err-t-in-Eventually.ensures.1 (λ k e. c.in_err-t-in-Eventually.ensures V syntax.eventually refl h k)

pub returns-in_ok-t-in-Eventually : goal.returns-in_ok-t-in-Eventually
returns-in_ok-t-in-Eventually c =
    let h = sign_here c.args.s.now c.args.token.place c.args.token.rest c.args.sign sign.Eventually c.requires.here c.in-Eventually.is in
    subst (PrefixRead (vocabulary c.args.self.now.words) c.args.self.now.scope c.args.s.now _) (sym c.opening-in-Eventually.ensures) (timed-prefix c.args.self.now.scope (c.in_ok-t-in-Eventually.ensures (vocabulary c.args.self.now.words) syntax.eventually refl h))

pub returns-in_err-t-in-Always : goal.returns-in_err-t-in-Always
returns-in_err-t-in-Always c =
    let V = vocabulary c.args.self.now.words in
    let h = sign_here c.args.s.now c.args.token.place c.args.token.rest c.args.sign sign.Always c.requires.here c.in-Always.is in
    broke (PrefixSays V c.args.self.now.scope c.args.s.now _) _ c.from_residual-in_err-t-in-Always.result c.from_residual-in_err-t-in-Always.ensures.1 (λ k e. c.in_err-t-in-Always.ensures V syntax.henceforth refl h k)

pub returns-in_ok-t-in-Always : goal.returns-in_ok-t-in-Always
returns-in_ok-t-in-Always c =
    let h = sign_here c.args.s.now c.args.token.place c.args.token.rest c.args.sign sign.Always c.requires.here c.in-Always.is in
    subst (PrefixRead (vocabulary c.args.self.now.words) c.args.self.now.scope c.args.s.now _) (sym c.opening-in-Always.ensures) (timed-prefix c.args.self.now.scope (c.in_ok-t-in-Always.ensures (vocabulary c.args.self.now.words) syntax.henceforth refl h))

pub returns-in_err-b-in-ForAll : goal.returns-in_err-b-in-ForAll
returns-in_err-b-in-ForAll c =
    let V = vocabulary c.args.self.now.words in
    let h = sign_here c.args.s.now c.args.token.place c.args.token.rest c.args.sign sign.ForAll c.requires.here c.in-ForAll.is in
    broke (PrefixSays V c.args.self.now.scope c.args.s.now _) _ c.from_residual-in_err-b-in-ForAll.result c.from_residual-in_err-b-in-ForAll.ensures.1 (λ k e. c.in_err-b-in-ForAll.ensures syntax.for_all h k e)

pub returns-in_ok-b-in-ForAll : goal.returns-in_ok-b-in-ForAll
returns-in_ok-b-in-ForAll c =
    let h = sign_here c.args.s.now c.args.token.place c.args.token.rest c.args.sign sign.ForAll c.requires.here c.in-ForAll.is in
    subst (PrefixRead (vocabulary c.args.self.now.words) c.args.self.now.scope c.args.s.now _) (sym c.opening-in-ForAll.ensures) (quantified-prefix c.next.result c.binding.result c.next.ensures c.binding.ensures (c.in_ok-b-in-ForAll.ensures syntax.for_all h))

pub returns-in_err-b-in-Exists : goal.returns-in_err-b-in-Exists
returns-in_err-b-in-Exists c =
    let V = vocabulary c.args.self.now.words in
    let h = sign_here c.args.s.now c.args.token.place c.args.token.rest c.args.sign sign.Exists c.requires.here c.in-Exists.is in
    broke (PrefixSays V c.args.self.now.scope c.args.s.now _) _ c.from_residual-in_err-b-in-Exists.result c.from_residual-in_err-b-in-Exists.ensures.1 (λ k e. c.in_err-b-in-Exists.ensures syntax.exists h k e)

pub returns-in_ok-b-in-Exists : goal.returns-in_ok-b-in-Exists
returns-in_ok-b-in-Exists c =
    let h = sign_here c.args.s.now c.args.token.place c.args.token.rest c.args.sign sign.Exists c.requires.here c.in-Exists.is in
    subst (PrefixRead (vocabulary c.args.self.now.words) c.args.self.now.scope c.args.s.now _) (sym c.opening-in-Exists.ensures) (quantified-prefix c.next-in-Exists.result c.binding-in-Exists.result c.next-in-Exists.ensures c.binding-in-Exists.ensures (c.in_ok-b-in-Exists.ensures syntax.exists h))

pub returns-in_default : goal.returns-in_default
returns-in_default c =
    let V = vocabulary c.args.self.now.words in
    let p = c.args.s.now in
    let t = c.args.token in
    λ k e. ap (run V p.count (wants k)) c.requires.here.there
    ∙ no_prefix V p.count k c.args.sign t.place (tokens_in t.rest) c.requires.no_truth c.requires.no_bracket c.in_default.not-Not c.in_default.not-Next c.in_default.not-Eventually c.in_default.not-Always c.in_default.not-ForAll c.in_default.not-Exists
