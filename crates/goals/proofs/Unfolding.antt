-- A tree that was laid into a table unfolds from its root, and each number is one place of it.
use Rattle.std.proofs.Common.{◌≡◌, ℕ, ◌+◌, ◌<◌, ◌≤◌, cond, eqb, ltb, leb, List, [], ◌∷◌, ◌++◌, length, sym, refl, ap, ◌∙◌, subst, ap₂, ⊎_elim, append_assoc, append-nil, add-zero, add_assoc, zero-add, arith, length-append, le-ltb, lt-ltb, eq-eqb, ne_eqb, le-leb}
use lib.Seq.{get_or-append_seam}
use borrow.Author.Tests.{lt-leb}
use Rattle.std.proofs.lemmas.Bool.{cases_lt, cases_eq}
use Rattle.goals.specs.declared.goal.Node.{Node}
use Rattle.goals.specs.declared.goal.Node.TheVariants as node
use Rattle.goals.specs.Tree.{Tree, always, test, equal, not, next, and, or, until, for_all, exists}
use Rattle.goals.specs.Layout.{laid, below, size}
use Rattle.goals.specs.GoalTable.{Holds, Unfolds, numbers, occurs}
use Rattle.goals.proofs.Making.{length-laid}

holds_at : (table xs : List Node) (n : Node) (ys : List Node) (i : ℕ) → table ≡ xs ++ n ∷ ys → i ≡ length xs → Holds table i n
holds_at table xs n ys i e d =
    subst (λ l. Holds l i n) (sym e) (subst (λ k. Holds (xs ++ n ∷ ys) k n) (sym d) (let l = length-append xs (n ∷ ys) in omega (arith, l), get_or-append_seam xs n ys node.True))

-- 1 where k is one of the n numbers from b on, else 0
unfoldable pub inrange : ℕ → ℕ → ℕ → ℕ
inrange k b n = cond (leb b k) (cond (ltb k (b + n)) 1 0) 0

in_yes : (k b n : ℕ) → b ≤ k → k < b + n → inrange k b n ≡ 1
unfolding inrange
in_yes k b n h g = ap₂ {C = ℕ} (λ x y. cond x (cond y 1 0) 0) (le-leb b k h) (lt-ltb k (b + n) g)

in_low : (k b n : ℕ) → k < b → inrange k b n ≡ 0
unfolding inrange
in_low k b n h = ap {B = ℕ} (λ x. cond x (cond (ltb k (b + n)) 1 0) 0) (lt-leb b k h)

in_high : (k b n : ℕ) → b + n ≤ k → inrange k b n ≡ 0
unfolding inrange
in_high k b n h = ap₂ {C = ℕ} (λ x y. cond x (cond y 1 0) 0) (le-leb b k (omega arith)) (le-ltb k (b + n) h)

hit : (k j : ℕ) → k ≡ j → ◌≡◌ {A = ℕ} (cond (eqb k j) 1 0) 1
hit k j e = ap {B = ℕ} (λ b. cond b 1 0) (eq-eqb k j e)

miss : (k j : ℕ) → (k ≡ j → ⊥) → ◌≡◌ {A = ℕ} (cond (eqb k j) 1 0) 0
miss k j e = ap {B = ℕ} (λ b. cond b 1 0) (ne_eqb k j e)

one_more : (k b n i : ℕ) → i ≡ b + n → cond (eqb k i) 1 0 + inrange k b n ≡ inrange k b (1 + n)
one_more k b n i e =
    ⊎_elim (λ l. let x = miss k i (λ q. omega (arith, q, l, e)) in let y = in_low k b n l in let z = in_low k b (1 + n) l in omega (arith, x, y, z))
    (λ l. ⊎_elim
    (λ g. let x = miss k i (λ q. omega (arith, q, g, e)) in let y = in_yes k b n l g in let z = in_yes k b (1 + n) l (omega (arith, g)) in omega (arith, x, y, z))
    (λ g. ⊎_elim
    (λ q. let x = hit k i q in let y = in_high k b n g in let z = in_yes k b (1 + n) l (omega (arith, q, e)) in omega (arith, x, y, z))
    (λ q. let x = miss k i q in let y = in_high k b n g in let z = in_high k b (1 + n) (let w : k ≡ i → ⊥ = q in beyond k b n i e g w) in omega (arith, x, y, z)) (cases_eq k i)) (cases_lt k (b + n))) (cases_lt k b)
  where
    beyond : (k b n i : ℕ) → i ≡ b + n → b + n ≤ k → (k ≡ i → ⊥) → b + (1 + n) ≤ k
    beyond k b n i e g w = ⊎_elim (λ l. absurd (w (omega (arith, e, g, l)))) (λ l. l) (cases_lt k (b + (1 + n)))

joined : (k b m n : ℕ) → inrange k b m + inrange k (b + m) n ≡ inrange k b (m + n)
joined k b m n =
    ⊎_elim (λ l. let x = in_low k b m l in let y = in_low k (b + m) n (omega (arith, l)) in let z = in_low k b (m + n) l in omega (arith, x, y, z))
    (λ l. ⊎_elim
    (λ g. let x = in_yes k b m l g in let y = in_low k (b + m) n g in let z = in_yes k b (m + n) l (omega (arith, g)) in omega (arith, x, y, z))
    (λ g. ⊎_elim
    (λ q. let x = in_high k b m g in let y = in_yes k (b + m) n g q in let z = in_yes k b (m + n) l (omega (arith, q)) in omega (arith, x, y, z))
    (λ q. let x = in_high k b m g in let y = in_high k (b + m) n q in let z = in_high k b (m + n) (omega (arith, q)) in omega (arith, x, y, z)) (cases_lt k (b + m + n))) (cases_lt k (b + m))) (cases_lt k b)

occurs-append : (k : ℕ) (xs ys : List ℕ) → occurs k (xs ++ ys) ≡ occurs k xs + occurs k ys
occurs-append k [] ys = sym (zero-add (occurs k ys))
occurs-append k (x ∷ xs) ys = ap (λ n. cond (eqb k x) 1 0 + n) (occurs-append k xs ys) ∙ sym (add_assoc (cond (eqb k x) 1 0) (occurs k xs) (occurs k ys))

-- a tree unfolds, and takes the numbers from b on
pub record LaidOut (table : List Node) (t : Tree) (b : ℕ) : Type 0 where
  pub unfolds : Unfolds table (b + below t) t
  pub counts : (k : ℕ) → occurs k (numbers table (b + below t) t unfolds) ≡ inrange k b (size t)

leaf : (k b i : ℕ) → i ≡ b + 0 → occurs k (i ∷ []) ≡ inrange k b (1 + 0)
leaf k b i e = let x = one_more k b 0 i e in let y = none k b in omega (arith, x, y)
  where
    none : (k b : ℕ) → inrange k b 0 ≡ 0
    none k b = ⊎_elim (λ l. in_low k b 0 l) (λ l. in_high k b 0 (omega (arith, l))) (cases_lt k b)

over-one : (k b i : ℕ) (t : Tree) (xs : List ℕ) → i ≡ b + (1 + below t) → occurs k xs ≡ inrange k b (size t) → occurs k (i ∷ xs) ≡ inrange k b (1 + size t)
over-one k b i t xs e h = ap (λ n. cond (eqb k i) 1 0 + n) h ∙ one_more k b (size t) i e

over-two : (k b i : ℕ) (t u : Tree) (xs ys : List ℕ) → i ≡ b + (size t + size u) → occurs k xs ≡ inrange k b (size t) → occurs k ys ≡ inrange k (b + size t) (size u) → occurs k (i ∷ (xs ++ ys)) ≡ inrange k b (1 + (size t + size u))
over-two k b i t u xs ys e h g =
    ap (λ n. cond (eqb k i) 1 0 + n) (occurs-append k xs ys ∙ ap₂ (λ m n. m + n) h g ∙ joined k b (size t) (size u)) ∙ one_more k b (size t + size u) i e

module _ (table : List Node) where
  -- one part
  module _ (t : Tree) (ns more : List Node) (n : Node) (e : table ≡ ns ++ ((laid t (length ns) ++ n ∷ []) ++ more)) where
    inner_one : table ≡ ns ++ (laid t (length ns) ++ (n ∷ more))
    inner_one = e ∙ ap (λ l. ns ++ l) (append_assoc (laid t (length ns)) (n ∷ []) more)

    root-one : Holds table (length ns + (1 + below t)) n
    root-one =
        holds_at table (ns ++ laid t (length ns)) n more _ (inner_one ∙ sym (append_assoc ns (laid t (length ns)) (n ∷ more)))
        (let a = length-append ns (laid t (length ns)) in let b = length-laid t (length ns) in omega (arith, a, b))

  -- two parts
  module _ (t u : Tree) (ns more : List Node) (n : Node) (e : table ≡ ns ++ ((laid t (length ns) ++ (laid u (length ns + size t) ++ n ∷ [])) ++ more)) where
    inner_left : table ≡ ns ++ (laid t (length ns) ++ ((laid u (length ns + size t) ++ n ∷ []) ++ more))
    inner_left = e ∙ ap (λ l. ns ++ l) (append_assoc (laid t (length ns)) (laid u (length ns + size t) ++ n ∷ []) more)

    long_left : length (ns ++ laid t (length ns)) ≡ length ns + size t
    long_left = length-append ns (laid t (length ns)) ∙ ap (λ k. length ns + k) (length-laid t (length ns))

    inner_right : table ≡ (ns ++ laid t (length ns)) ++ (laid u (length (ns ++ laid t (length ns))) ++ (n ∷ more))
    inner_right =
        inner_left ∙ sym (append_assoc ns (laid t (length ns)) ((laid u (length ns + size t) ++ n ∷ []) ++ more))
        ∙ ap (λ l. (ns ++ laid t (length ns)) ++ l) (append_assoc (laid u (length ns + size t)) (n ∷ []) more ∙ ap (λ k. laid u k ++ (n ∷ more)) (sym long_left))

    root-two : Holds table (length ns + (size t + size u)) n
    root-two =
        holds_at table ((ns ++ laid t (length ns)) ++ laid u (length (ns ++ laid t (length ns)))) n more _
        (inner_right ∙ sym (append_assoc (ns ++ laid t (length ns)) (laid u (length (ns ++ laid t (length ns)))) (n ∷ more)))
        (let a = length-append (ns ++ laid t (length ns)) (laid u (length (ns ++ laid t (length ns)))) in let b = length-laid u (length (ns ++ laid t (length ns))) in let c = long_left in omega (arith, a, b, c))

  pub laid_out : (t : Tree) (ns more : List Node) → table ≡ ns ++ (laid t (length ns) ++ more) → LaidOut table t (length ns)
  laid_out always ns more e = record { unfolds = holds_at table ns node.True more _ e (add-zero (length ns)); counts = λ k. leaf k (length ns) _ refl }
  laid_out (test a) ns more e = record { unfolds = holds_at table ns (node.Test a) more _ e (add-zero (length ns)); counts = λ k. leaf k (length ns) _ refl }
  laid_out (equal x y) ns more e = record { unfolds = holds_at table ns (node.Equal x y) more _ e (add-zero (length ns)); counts = λ k. leaf k (length ns) _ refl }
  laid_out (not t) ns more e =
      let r = laid_out t ns (node.Not (length ns + below t) ∷ more) (inner_one t ns more (node.Not (length ns + below t)) e) in
      record { unfolds = (length ns + below t, root-one t ns more (node.Not (length ns + below t)) e, omega arith, r.unfolds); counts = λ k. over-one k (length ns) _ t _ refl (r.counts k) }
  laid_out (next t) ns more e =
      let r = laid_out t ns (node.Next (length ns + below t) ∷ more) (inner_one t ns more (node.Next (length ns + below t)) e) in
      record { unfolds = (length ns + below t, root-one t ns more (node.Next (length ns + below t)) e, omega arith, r.unfolds); counts = λ k. over-one k (length ns) _ t _ refl (r.counts k) }
  laid_out (for_all v a t) ns more e =
      let r = laid_out t ns (node.ForAll v a (length ns + below t) ∷ more) (inner_one t ns more (node.ForAll v a (length ns + below t)) e) in
      record { unfolds = (length ns + below t, root-one t ns more (node.ForAll v a (length ns + below t)) e, omega arith, r.unfolds); counts = λ k. over-one k (length ns) _ t _ refl (r.counts k) }
  laid_out (exists v a t) ns more e =
      let r = laid_out t ns (node.Exists v a (length ns + below t) ∷ more) (inner_one t ns more (node.Exists v a (length ns + below t)) e) in
      record { unfolds = (length ns + below t, root-one t ns more (node.Exists v a (length ns + below t)) e, omega arith, r.unfolds); counts = λ k. over-one k (length ns) _ t _ refl (r.counts k) }
  laid_out (and t u) ns more e =
      let n = node.And (length ns + below t) (length ns + size t + below u) in
      let r = laid_out t ns ((laid u (length ns + size t) ++ n ∷ []) ++ more) (inner_left t u ns more n e) in
      let q = subst (LaidOut table u) (long_left t u ns more n e) (laid_out u (ns ++ laid t (length ns)) (n ∷ more) (inner_right t u ns more n e)) in
      record { unfolds = (length ns + below t, length ns + size t + below u, root-two t u ns more n e, omega arith, omega arith, r.unfolds, q.unfolds); counts = λ k. over-two k (length ns) _ t u _ _ refl (r.counts k) (q.counts k) }
  laid_out (or t u) ns more e =
      let n = node.Or (length ns + below t) (length ns + size t + below u) in
      let r = laid_out t ns ((laid u (length ns + size t) ++ n ∷ []) ++ more) (inner_left t u ns more n e) in
      let q = subst (LaidOut table u) (long_left t u ns more n e) (laid_out u (ns ++ laid t (length ns)) (n ∷ more) (inner_right t u ns more n e)) in
      record { unfolds = (length ns + below t, length ns + size t + below u, root-two t u ns more n e, omega arith, omega arith, r.unfolds, q.unfolds); counts = λ k. over-two k (length ns) _ t u _ _ refl (r.counts k) (q.counts k) }
  laid_out (until x t u) ns more e =
      let n = node.Until x (length ns + below t) (length ns + size t + below u) in
      let r = laid_out t ns ((laid u (length ns + size t) ++ n ∷ []) ++ more) (inner_left t u ns more n e) in
      let q = subst (LaidOut table u) (long_left t u ns more n e) (laid_out u (ns ++ laid t (length ns)) (n ∷ more) (inner_right t u ns more n e)) in
      record { unfolds = (length ns + below t, length ns + size t + below u, root-two t u ns more n e, omega arith, omega arith, r.unfolds, q.unfolds); counts = λ k. over-two k (length ns) _ t u _ _ refl (r.counts k) (q.counts k) }

-- the whole table
pub whole : (table : List Node) (t : Tree) (i : ℕ) → table ≡ laid t 0 → i ≡ below t → (h : Unfolds table i t) × ((k : ℕ) → k < length table → occurs k (numbers table i t h) ≡ 1)
whole table t i e d =
    let r = laid_out table t [] [] (e ∙ sym (append-nil (laid t 0))) in
    subst (λ j. (h : Unfolds table j t) × ((k : ℕ) → k < length table → occurs k (numbers table j t h) ≡ 1)) (zero-add (below t) ∙ sym d)
    (r.unfolds, λ k l. r.counts k ∙ in_yes k 0 (size t) (omega arith) (let a = ap length e ∙ length-laid t 0 in omega (arith, a, l)))
