-- A whole text.
use Rattle.std.proofs.Common.{◌≡◌, ℕ, ◌+◌, ◌<◌, ◌≤◌, true, eqb, leb, List, [], ◌∷◌, ◌++◌, length, get_or, vec_len, Option, sym, refl, ap, ◌∙◌, subst, ap₂, zero-add, arith, ne_eqb, le-leb}
use borrow.Author.Tests.{lt-leb}
use Rattle.std.proofs.lemmas.Bool.{cond-true, cond-false}
use Rattle.goals.specs.declared.goal.Node.{Node}
use Rattle.goals.specs.declared.goal.Node.TheVariants as node
use Rattle.goals.specs.declared.token.Kind.{Kind}
use Rattle.goals.specs.declared.token.Kind.TheVariants as kind
use Rattle.goals.specs.declared.progress.Progress.{Progress}
use Rattle.goals.specs.Tokens.{Source, end, lexed}
use Rattle.goals.specs.Vocabulary.{Vocabulary}
use Rattle.goals.specs.Syntax as syntax
use Rattle.goals.specs.Seen.{seen, mark_of}
use Rattle.goals.specs.Tree.{Tree}
use Rattle.goals.specs.Layout.{laid, below}
use Rattle.goals.specs.Reading.{top, after, joined_or, read, fault, start, followed, walk, move, run, reads}
use Rattle.goals.specs.GoalTable.{parts_below}
use Rattle.goals.proofs.Making.{length-laid}
use Rattle.goals.proofs.Ordered.{all-at, laid-ordered}
use Rattle.goals.specs.Promises.{items, head_sign, Made}

pub reads_short : (V : Vocabulary) (text : List ℕ) → length text ≤ 2048 → reads V text ≡ run V 0 start (lexed text 0)
reads_short V text h = cond-true (leb (length text) 2048) _ _ (le-leb (length text) 2048 h)

pub reads-long : (V : Vocabulary) (text : List ℕ) → 2048 < length text → reads V text ≡ fault 3 0
reads-long V text h = cond-false (leb (length text) 2048) _ _ (lt-leb (length text) 2048 h)

pub ends-here : (V : Vocabulary) (n : ℕ) (c : syntax.Clause) (o : Option syntax.Formula) (p : ℕ) → run V n (after c o top) (end p) ≡ read (joined_or o c)
unfolding walk
ends-here V n c o p = refl

empty_list : {A : Type 0} (l : List A) → length l ≡ 0 → l ≡ []
empty_list [] e = refl
empty_list (x ∷ l) e = absurd (omega (arith, e))

-- the table of a goal is its tree's nodes alone
pub from_empty : {p q : Progress} {i : ℕ} {t : Tree} → Made p q i t → vec_len p.nodes ≡ 0 → (items q ≡ laid t 0) × (i ≡ below t)
from_empty {p} {q} {i} {t} m e =
    let n : items p ≡ [] = empty_list (items p) (let a = p.nodes.ok.0 in omega (arith, a, e)) in
    (m.grows ∙ ap (λ l. l ++ laid t (length l)) n, m.number ∙ ap (λ l. length l + below t) n ∙ zero-add (below t))

pub parts-of : (ns : List Node) (t : Tree) → ns ≡ laid t 0 → (k : ℕ) → k < length ns → parts_below k (get_or ns k node.True) ≡ true
parts-of ns t e k l =
    ap₂ (λ i m. parts_below i (get_or m k node.True)) (sym (zero-add k)) e ∙ all-at parts_below 0 (laid t 0) k (laid-ordered t 0) (subst (λ m. k < length m) e l)

pub root-of : (p : Progress) (t : Tree) (i : ℕ) → items p ≡ laid t 0 → i ≡ below t → i < length (items p)
root-of p t i e d = let b = ap length e ∙ length-laid t 0 in omega (arith, b, d)

pub few-of : (p : Progress) → length (items p) ≤ 128
few-of p = let a = p.nodes.ok.0 in let b = p.fits in let c = p.few in omega (arith, a, b, c)

-- a token that can't stand behind the whole
pub no_end : (V : Vocabulary) (n : ℕ) (c : syntax.Clause) (o : Option syntax.Formula) (t : Kind) (p : ℕ) (s : Source) → (head_sign (seen t p s) ≡ 38 → ⊥) → (head_sign (seen t p s) ≡ 124 → ⊥) → (t ≡ kind.End → ⊥) → run V n (after c o top) (seen t p s) ≡ fault 4 p
unfolding walk move
no_end V n c o (kind.Name b) p s h1 h2 h3 = refl
no_end V n c o (kind.Variable v) p s h1 h2 h3 = refl
no_end V n c o (kind.Number d) p s h1 h2 h3 = refl
no_end V n c o (kind.Sign g) p s h1 h2 h3 =
    let b = mark_of g in
    ap (λ x. followed true x n p (λ i h. run V i h s)) (cond-false (eqb b 38) _ _ (ne_eqb b 38 h1) ∙ cond-false (eqb b 124) _ _ (ne_eqb b 124 h2))
no_end V n c o kind.Bad p s h1 h2 h3 = refl
no_end V n c o kind.End p s h1 h2 h3 = absurd (h3 refl)
