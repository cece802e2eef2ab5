use Rattle.std.proofs.Common.{◌≡◌, Some, sym, refl, ap, ◌∙◌, subst, arith}
use Rattle.goals.specs.declared.progress.Progress.{Progress}
use Rattle.goals.specs.declared.token.Kind.TheVariants as kind
use Rattle.goals.specs.declared.token.Sign.{Sign}
use Rattle.goals.specs.declared.token.Sign.TheVariants as sign
use Rattle.goals.specs.declared.token.Token.{Token}
use Rattle.goals.specs.Tokens.{mark, variable, digits}
use Rattle.goals.specs.Seen.{TokenAt, mark_of, tokens_in}
use Rattle.goals.specs.Syntax as syntax
use Rattle.goals.specs.Reading.{run, wants, at, equals, alone, joined_or}
use Rattle.goals.specs.Promises.{vocabulary, Added, Here, bracketed, ItemSays, ClauseSays, FormulaSays}
use Rattle.goals.proofs.Moves.{here, sign_at, not_at, passed-left}
use Rattle.goals.proofs.Terms.{broke, told_as}
use Rattle.goals.proofs.Prefixes.{no_item}
use Rattle.goals.proofs.Ring.{and-over, and_step, or-over, or_step, clause_done, clause_back, clause_again, formula_done, formula_back, formula_again, room_after, true_over, item_true, item-test, item-behind, letter_fail, letter-step, number_fail, number_step, open_fail, open_step, equation-item, prefix-room, item-prefixed, item-group, second-fault, close-fault, pair-room, item-pair}
use Rattle.goals.proofs.words.Reader.+bracket_clause_formula_item.Goals as goal

-- the sign that begins an item
sign_here : (p : Progress) {t : Token} → TokenAt p.rest t → (g s : Sign) → t.kind ≡ kind.Sign g → g ≡ s → Here p (mark (mark_of s)) t.place t.rest
sign_here p v g s e f = here p v (e ∙ ap kind.Sign f) (mark (mark_of s)) (λ q z. refl)

pub clause-add-left-requires : goal.clause-add-left-requires
clause-add-left-requires t c =
    let V = vocabulary c.args.self.now.words in
    let s = c.args.self.now.scope in
    let p = c.args.s.now in
    room_after c.in_ok-take.ensures c.in_ok-right.ensures.made

pub clause-loop-token-preserved : goal.clause-loop-token-preserved
clause-loop-token-preserved t c =
    let V = vocabulary c.args.self.now.words in
    let s = c.args.self.now.scope in
    let p = c.args.s.now in
    let n = c.next_token-token in
    let h = sign_at c.loop-token.s n.ensures sign.And (sym c.if-not-is.ensures) in
    clause_again c.loop-token.invariant h c.in_ok-take.ensures c.in_ok-right.ensures c.add-left.ensures

pub clause-returns-in_err-right : goal.clause-returns-in_err-right
clause-returns-in_err-right t c =
    let V = vocabulary c.args.self.now.words in
    let s = c.args.self.now.scope in
    let p = c.args.s.now in
    let n = c.next_token-token in
    let h = sign_at c.loop-token.s n.ensures sign.And (sym c.if-not-is.ensures) in
    broke (ClauseSays V s p _) _ c.from_residual-in_err-right.result c.from_residual-in_err-right.ensures.1
    (clause_back c.in_ok-left.ensures c.loop-token.invariant _ (λ d o f e. and_step V h c.in_ok-take.ensures d o f ∙ c.in_err-right.ensures (at (Some d) o f) e))

pub clause-returns-in_err-take : goal.clause-returns-in_err-take
clause-returns-in_err-take t c =
    let V = vocabulary c.args.self.now.words in
    let s = c.args.self.now.scope in
    let p = c.args.s.now in
    let n = c.next_token-token in
    let h = sign_at c.loop-token.s n.ensures sign.And (sym c.if-not-is.ensures) in
    let y = c.in_err-take.ensures in
    broke (ClauseSays V s p _) _ c.from_residual-in_err-take.result c.from_residual-in_err-take.ensures.1
    (clause_back c.in_ok-left.ensures c.loop-token.invariant _ (λ d o f e. told_as y.0 (and-over V h y.1 d o f)))

pub clause-returns-then-not-is : goal.clause-returns-then-not-is
clause-returns-then-not-is t c =
    let V = vocabulary c.args.self.now.words in
    let s = c.args.self.now.scope in
    let p = c.args.s.now in
    let n = c.next_token-token in
    clause_done c.in_ok-left.ensures c.loop-token.invariant (not_at c.loop-token.s n.ensures sign.And (sym c.if-not-is.ensures))

pub formula-add-left-requires : goal.formula-add-left-requires
formula-add-left-requires t c =
    let V = vocabulary c.args.self.now.words in
    let s = c.args.self.now.scope in
    let p = c.args.s.now in
    room_after c.in_ok-take.ensures c.in_ok-right.ensures.made

pub formula-loop-token-preserved : goal.formula-loop-token-preserved
formula-loop-token-preserved t c =
    let V = vocabulary c.args.self.now.words in
    let s = c.args.self.now.scope in
    let p = c.args.s.now in
    let n = c.next_token-token in
    let h = sign_at c.loop-token.s n.ensures sign.Or (sym c.if-not-is.ensures) in
    formula_again c.loop-token.invariant h c.in_ok-take.ensures c.in_ok-right.ensures c.add-left.ensures

pub formula-returns-in_err-right : goal.formula-returns-in_err-right
formula-returns-in_err-right t c =
    let V = vocabulary c.args.self.now.words in
    let s = c.args.self.now.scope in
    let p = c.args.s.now in
    let n = c.next_token-token in
    let h = sign_at c.loop-token.s n.ensures sign.Or (sym c.if-not-is.ensures) in
    broke (FormulaSays V s p _) _ c.from_residual-in_err-right.result c.from_residual-in_err-right.ensures.1
    (formula_back c.in_ok-left.ensures c.loop-token.invariant _ (λ d o f e. or_step V h c.in_ok-take.ensures d o f ∙ c.in_err-right.ensures (Some (joined_or o d)) f e))

pub formula-returns-in_err-take : goal.formula-returns-in_err-take
formula-returns-in_err-take t c =
    let V = vocabulary c.args.self.now.words in
    let s = c.args.self.now.scope in
    let p = c.args.s.now in
    let n = c.next_token-token in
    let h = sign_at c.loop-token.s n.ensures sign.Or (sym c.if-not-is.ensures) in
    let y = c.in_err-take.ensures in
    broke (FormulaSays V s p _) _ c.from_residual-in_err-take.result c.from_residual-in_err-take.ensures.1
    (formula_back c.in_ok-left.ensures c.loop-token.invariant _ (λ d o f e. told_as y.0 (or-over V h y.1 d o f)))

pub formula-returns-then-not-is : goal.formula-returns-then-not-is
formula-returns-then-not-is t c =
    let V = vocabulary c.args.self.now.words in
    let s = c.args.self.now.scope in
    let p = c.args.s.now in
    let n = c.next_token-token in
    formula_done c.in_ok-left.ensures c.loop-token.invariant (not_at c.loop-token.s n.ensures sign.Or (sym c.if-not-is.ensures))

pub item-close-requires : goal.item-close-requires
item-close-requires t c =
    let V = vocabulary c.args.self.now.words in
    let s = c.args.self.now.scope in
    let p = c.args.s.now in
    prefix-room c.in_ok-opening-in_default-sign.ensures c.in_ok-part-in_default-sign.ensures.made

pub item-returns-in-Open : goal.item-returns-in-Open
item-returns-in-Open t c =
    let V = vocabulary c.args.self.now.words in
    let s = c.args.self.now.scope in
    let p = c.args.s.now in
    let n = c.next_token-token in
    let h = sign_here p n.ensures c.in-Sign.sign sign.Open c.in-Sign.is c.in-Open.is in
    open_fail V s h c.if-self-ge-MOST_DEPTH.true

pub item-returns-in-Open-2 : goal.item-returns-in-Open-2
item-returns-in-Open-2 t c =
    let V = vocabulary c.args.self.now.words in
    let s = c.args.self.now.scope in
    let p = c.args.s.now in
    let n = c.next_token-token in
    let h = sign_here p n.ensures c.in-Sign.sign sign.Open c.in-Sign.is c.in-Open.is in
    let d = c.pass-in-Open-2.ensures in
    item-behind V s wants bracketed p c.pass-in-Open-2.new.self _ c.bracket.result d.nodes_same (let a = d.count_is in omega (arith, a)) (let a = passed-left d in let b = h.further in omega (arith, a, b)) (open_step V s h c.if-self-ge-MOST_DEPTH.false d) c.bracket.ensures

pub item-returns-in_err-take-in-True : goal.item-returns-in_err-take-in-True
item-returns-in_err-take-in-True t c =
    let V = vocabulary c.args.self.now.words in
    let s = c.args.self.now.scope in
    let p = c.args.s.now in
    let n = c.next_token-token in
    let h = sign_here p n.ensures c.in-Sign.sign sign.True c.in-Sign.is c.in-True.is in
    let y = c.in_err-take-in-True.ensures in
    broke (ItemSays V s wants p _) _ c.from_residual-in_err-take-in-True.result c.from_residual-in_err-take-in-True.ensures.1
    (λ k e. told_as y.0 (true_over V h y.1 k))

pub item-returns-in_ok-take-in-True : goal.item-returns-in_ok-take-in-True
item-returns-in_ok-take-in-True t c =
    let V = vocabulary c.args.self.now.words in
    let s = c.args.self.now.scope in
    let p = c.args.s.now in
    let n = c.next_token-token in
    let h = sign_here p n.ensures c.in-Sign.sign sign.True c.in-Sign.is c.in-True.is in
    item_true V s h c.in_ok-take-in-True.ensures c.add-in-True.ensures

pub item-returns-in_err-atom-in-Name : goal.item-returns-in_err-atom-in-Name
item-returns-in_err-atom-in-Name t c =
    let V = vocabulary c.args.self.now.words in
    let s = c.args.self.now.scope in
    let p = c.args.s.now in
    broke (ItemSays V s wants p _) _ c.from_residual.result c.from_residual.ensures.1
    (λ k e. c.in_err-atom-in-Name.ensures (alone k) e refl)

pub item-returns-in_ok-atom-in-Name : goal.item-returns-in_ok-atom-in-Name
item-returns-in_ok-atom-in-Name t c =
    let V = vocabulary c.args.self.now.words in
    let s = c.args.self.now.scope in
    let p = c.args.s.now in
    item-test c.in_ok-atom-in-Name.ensures c.add.ensures

pub item-returns-in_err-left-in-Variable : goal.item-returns-in_err-left-in-Variable
item-returns-in_err-left-in-Variable t c =
    let V = vocabulary c.args.self.now.words in
    let s = c.args.self.now.scope in
    let p = c.args.s.now in
    let n = c.next_token-token in
    let h = here p n.ensures c.in-Variable.is (variable c.in-Variable.letter) (λ q z. refl) in
    let y = c.in_err-left-in-Variable.ensures in
    broke (ItemSays V s wants p _) _ c.from_residual-in_err-left-in-Variable.result c.from_residual-in_err-left-in-Variable.ensures.1
    (λ k e. told_as y.1 (letter_fail V s h y.0 k e))

pub item-returns-in_err-left-in-Number : goal.item-returns-in_err-left-in-Number
item-returns-in_err-left-in-Number t c =
    let V = vocabulary c.args.self.now.words in
    let s = c.args.self.now.scope in
    let p = c.args.s.now in
    let n = c.next_token-token in
    let h = here p n.ensures c.in-Number.is (digits c.in-Number.digits.now) (λ q z. refl) in
    let y = c.in_err-left-in-Number.ensures in
    broke (ItemSays V s wants p _) _ c.from_residual-in_err-left-in-Number.result c.from_residual-in_err-left-in-Number.ensures.1
    (λ k e. told_as y.1 (number_fail V s h y.0 k))

pub item-returns-in_ok-left-in-Variable : goal.item-returns-in_ok-left-in-Variable
item-returns-in_ok-left-in-Variable t c =
    let V = vocabulary c.args.self.now.words in
    let s = c.args.self.now.scope in
    let p = c.args.s.now in
    let n = c.next_token-token in
    let h = here p n.ensures c.in-Variable.is (variable c.in-Variable.letter) (λ q z. refl) in
    let y = c.in_ok-left-in-Variable.ensures in
    let d = c.pass.ensures in
    let x = syntax.variable c.in-Variable.letter in
    item-behind V s wants (λ k. equals x k) p c.pass.new.self _ c.equation.result d.nodes_same (let a = d.count_is in omega (arith, a)) (let a = passed-left d in let b = h.further in omega (arith, a, b)) (letter-step V s h y.0 d) (equation-item V s _ x _ _ c.equation.result y.1 c.equation.ensures)

pub item-returns-in_ok-left-in-Number : goal.item-returns-in_ok-left-in-Number
item-returns-in_ok-left-in-Number t c =
    let V = vocabulary c.args.self.now.words in
    let s = c.args.self.now.scope in
    let p = c.args.s.now in
    let n = c.next_token-token in
    let h = here p n.ensures c.in-Number.is (digits c.in-Number.digits.now) (λ q z. refl) in
    let y = c.in_ok-left-in-Number.ensures in
    let d = c.pass-in-Number.ensures in
    let x = syntax.id c.in-Number.digits.now in
    item-behind V s wants (λ k. equals x k) p c.pass-in-Number.new.self _ c.equation-in-Number.result d.nodes_same (let a = d.count_is in omega (arith, a)) (let a = passed-left d in let b = h.further in omega (arith, a, b)) (λ k e. number_step V s h y.0 d k) (equation-item V s _ x _ _ c.equation-in-Number.result y.1 c.equation-in-Number.ensures)

pub item-returns-in_ok-part-in_default-sign : goal.item-returns-in_ok-part-in_default-sign
item-returns-in_ok-part-in_default-sign t c =
    let V = vocabulary c.args.self.now.words in
    let s = c.args.self.now.scope in
    let p = c.args.s.now in
    item-prefixed c.in_ok-opening-in_default-sign.ensures c.in_ok-part-in_default-sign.ensures c.close.ensures

pub bracket-add-requires : goal.bracket-add-requires
bracket-add-requires t c =
    let V = vocabulary c.args.self.now.words in
    let s = c.args.self.now.scope in
    let p = c.args.s.now in
    let d = c.deeper.ensures in
    pair-room d c.in_ok-first.ensures (c.in_ok-joint.ensures V) c.in_ok-second.ensures c.in_ok-expect.ensures

pub bracket-returns : goal.bracket-returns
bracket-returns t c =
    let V = vocabulary c.args.self.now.words in
    let s = c.args.self.now.scope in
    let p = c.args.s.now in
    let d = c.deeper.ensures in
    item-pair d c.in_ok-first.ensures (c.in_ok-joint.ensures V) c.in_ok-second.ensures c.in_ok-expect.ensures (subst (λ y. Added c.expect.new.self c.add.new.self y c.add.result) c.node.ensures c.add.ensures)

pub bracket-returns-in_err-expect : goal.bracket-returns-in_err-expect
bracket-returns-in_err-expect t c =
    let V = vocabulary c.args.self.now.words in
    let s = c.args.self.now.scope in
    let p = c.args.s.now in
    let d = c.deeper.ensures in
    let y = c.in_err-expect.ensures in
    broke (ItemSays V s bracketed p _) _ c.from_residual-in_err-expect.result c.from_residual-in_err-expect.ensures.1
    (λ k e. told_as y.0 (close-fault d c.in_ok-first.ensures (c.in_ok-joint.ensures V) c.in_ok-second.ensures y.1 k e))

pub bracket-returns-in_err-second : goal.bracket-returns-in_err-second
bracket-returns-in_err-second t c =
    let V = vocabulary c.args.self.now.words in
    let s = c.args.self.now.scope in
    let p = c.args.s.now in
    let d = c.deeper.ensures in
    broke (ItemSays V s bracketed p _) _ c.from_residual-in_err-second.result c.from_residual-in_err-second.ensures.1
    (second-fault d c.in_ok-first.ensures (c.in_ok-joint.ensures V) _ c.in_err-second.ensures)

pub bracket-returns-then-is : goal.bracket-returns-then-is
bracket-returns-then-is t c =
    let V = vocabulary c.args.self.now.words in
    let s = c.args.self.now.scope in
    let p = c.args.s.now in
    let d = c.deeper.ensures in
    let n = c.next_token-token in
    let h = sign_at c.formula.new.s n.ensures sign.Close (sym c.if-is.ensures) in
    item-group d c.in_ok-first.ensures h c.pass.ensures

pub bracket-formula-requires-2 : goal.bracket-formula-requires-2
bracket-formula-requires-2 t c =
    let a = c.in_ok-first.ensures.made.further in
    let b = (c.in_ok-joint.ensures (vocabulary c.args.self.now.words)).further in
    omega (arith, a, b)

pub item-returns-in_default : goal.item-returns-in_default
item-returns-in_default t c =
    let V = vocabulary c.args.self.now.words in
    let p = c.args.s.now in
    let n = c.next_token-token in
    λ k e. ap (run V p.count (wants k)) n.ensures.there ∙ no_item V p.count k n.result.kind n.result.place (tokens_in n.result.rest) c.in_default.not-Name c.in_default.not-Variable c.in_default.not-Number c.in_default.not-Sign
