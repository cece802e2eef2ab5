-- A label by its table: it has no other parts, so the table tells its size, its state and whether a job knows it.
use Rattle.std.proofs.Common.{◌≡◌, ℕ, zero, suc, ◌<◌, Bool, true, false, T, List, [], ◌∷◌, ◌++◌, length, get_or, sym, refl, ap, ◌∙◌, subst, inl, inr, arith, ltb-true, MatchBool}
use Rattle.std.specs.List.{AllWithin, HoldsAt}
use Rattle.std.proofs.lemmas.Bool.{and_parts, and_from, cases_Bool}
use Rattle.goals.specs.declared.goal.Ends.{Ends}
use Rattle.labels.specs.declared.binding.Binding.{Binding}
use Rattle.labels.specs.declared.part.Part.{Part}
use Rattle.labels.specs.declared.part.Part.TheVariants.{True, False, Pending, Not, And, Or}
use Rattle.labels.specs.declared.state.LabelState.TheVariants.{Open}
use Rattle.labels.specs.Labels.{Label, true_label, false_label, pending, not_label, and_label, or_label, parts, every_pending}
use Rattle.labels.specs.Size.{member, distinct, size}
use Rattle.labels.specs.Work.{all_parts}
use Rattle.labels.specs.Known.{passes}
use Rattle.labels.specs.Table.{composed, label_at, rows, before, InOrder, NoTwins, OnlyParts}
use Rattle.labels.specs.Growth.{Made, Over}
use Rattle.labels.specs.TableClaims.{Subset}
use Rattle.labels.specs.LabelCalls.{state_of}
use Rattle.labels.proofs.Logic.{to_T, is_true}
use Rattle.labels.proofs.Members.{in_one, in_cons, in_cases, in_at}
use Rattle.labels.proofs.Rows.{both_below, has_row, row_is, label_of, tell_size_lem}
use Rattle.labels.proofs.Growing.{no_rows, parts-one, growth_tells-size}

pub none-is-empty : (t : List Part) → length t ≡ 0 → t ≡ []
none-is-empty [] e = refl
none-is-empty (p ∷ t) e = absurd (omega arith)

-- a table grown from nothing by one label has only its parts
pub only_grown : {new : List Part} {q : Label} {i : ℕ} → Made [] new q (q ∷ []) i → OnlyParts new i
only_grown {new} {q} {i} m k lt =
    is_true (member (label_at new k) (parts (label_at new i)))
    (subst (λ (z : Label). T (member (label_at new k) (parts z))) (sym m.is)
    (elim (in_cases (label_at new k) (rows []) (all_parts (q ∷ [])) (m.grew.only (label_at new k) (has_row new k lt))) [
      | inl z ↦ absurd (no_rows (label_at new k) z)
      | inr u ↦ parts-one q (label_at new k) u
    ]))

pub only_subset : (t : List Part) (root : ℕ) → OnlyParts t root → Subset (rows t) (parts (label_at t root))
only_subset t root only l m =
    let h = row_is t l m in
    in_at (parts (label_at t root)) (sym h.2) (to_T (only h.0 h.1))

pub size_is : (t : List Part) → InOrder t → NoTwins t → (root : ℕ) → root < length t → OnlyParts t root → length t ≡ size (label_at t root)
size_is t order twins root rl only = (tell_size_lem t order twins root rl).0 (only_subset t root only)

-- one pending part has room
pub one-fits : (n : ℕ) (b : Binding) (e : Ends) → ¬ (Over 512 [] (pending n b e ∷ []))
unfolding size distinct parts
one-fits n b e o =
    let h = (growth_tells-size (pending n b e)).0 512 o in
    let one : size (pending n b e) ≡ 1 = refl in
    omega arith

state_open : (f : ℕ → Label) (p : Part) → ¬ (p ≡ True) → ¬ (p ≡ False) → Open ≡ state_of (composed f p)
state_open f True t u = absurd (t refl)
state_open f False t u = absurd (u refl)
state_open f (Pending n b e) t u = refl
state_open f (Not x) t u = refl
state_open f (And x y) t u = refl
state_open f (Or x y) t u = refl

pub open_at : (t : List Part) → InOrder t → (root : ℕ) → root < length t → (p : Part) → get_or t root True ≡ p → ¬ (p ≡ True) → ¬ (p ≡ False) →
    Open ≡ state_of (label_at t root)
open_at t order root rl p here d e =
    state_open (label_at t) p d e ∙ ap state_of (sym (label_of t order root rl ∙ ap (composed (label_at t)) here))

-- a test of pending parts
module _ (test : ℕ → Binding → Ends → Bool) where
  passed-part : (n : ℕ) (b : Binding) (e : Ends) (l : Label) → T (member (pending n b e) (parts l)) → every_pending test l ≡ true → test n b e ≡ true
  unfolding parts every_pending
  passed-part n b e true_label t h = let q = in_one (pending n b e) true_label t in let z : ◌≡◌ {A = ℕ} 0 1 = cc in absurd (omega arith)
  passed-part n b e false_label t h = let q = in_one (pending n b e) false_label t in let z : ◌≡◌ {A = ℕ} 0 1 = cc in absurd (omega arith)
  passed-part n b e (pending m c f) t h =
      let q = in_one (pending n b e) (pending m c f) t in
      let e₁ : n ≡ m = cc in let e₂ : b ≡ c = cc in let e₃ : e ≡ f = cc in (λ i. test (e₁ i) (e₂ i) (e₃ i)) ∙ h
  passed-part n b e (not_label q) t h = elim (in_cons (pending n b e) (not_label q) (parts q) t) [
    | inl p ↦ let z : ◌≡◌ {A = ℕ} 0 1 = cc in absurd (omega arith)
    | inr u ↦ passed-part n b e q u h
  ]
  passed-part n b e (and_label q r) t h = elim (in_cons (pending n b e) (and_label q r) (parts q ++ parts r) t) [
    | inl p ↦ let z : ◌≡◌ {A = ℕ} 0 1 = cc in absurd (omega arith)
    | inr u ↦
        let w = and_parts (every_pending test q) (every_pending test r) h in
        elim (in_cases (pending n b e) (parts q) (parts r) u) [ inl v ↦ passed-part n b e q v w.0 | inr v ↦ passed-part n b e r v w.1 ]
  ]
  passed-part n b e (or_label q r) t h = elim (in_cons (pending n b e) (or_label q r) (parts q ++ parts r) t) [
    | inl p ↦ let z : ◌≡◌ {A = ℕ} 0 1 = cc in absurd (omega arith)
    | inr u ↦
        let w = and_parts (every_pending test q) (every_pending test r) h in
        elim (in_cases (pending n b e) (parts q) (parts r) u) [ inl v ↦ passed-part n b e q v w.0 | inr v ↦ passed-part n b e r v w.1 ]
  ]

  passes-composed : (f : ℕ → Label) (k : ℕ) (p : Part) → before k p ≡ true → ((x : ℕ) → x < k → every_pending test (f x) ≡ true) →
      passes test p ≡ true → every_pending test (composed f p) ≡ true
  unfolding every_pending
  passes-composed f k True b h o = refl
  passes-composed f k False b h o = refl
  passes-composed f k (Pending n c e) b h o = o
  passes-composed f k (Not x) b h o = h x (ltb-true x k b)
  passes-composed f k (And x y) b h o =
      let w = both_below x y k b in and_from (every_pending test (f x)) (every_pending test (f y)) (h x w.0) (h y w.1)
  passes-composed f k (Or x y) b h o =
      let w = both_below x y k b in and_from (every_pending test (f x)) (every_pending test (f y)) (h x w.0) (h y w.1)

  fails_composed : (f : ℕ → Label) (p : Part) (l : Label) → passes test p ≡ false → T (member (composed f p) (parts l)) → every_pending test l ≡ true → ⊥
  fails_composed f True l o t h = let z : ◌≡◌ {A = ℕ} 0 1 = cc in omega arith
  fails_composed f False l o t h = let z : ◌≡◌ {A = ℕ} 0 1 = cc in omega arith
  fails_composed f (Pending n c e) l o t h = let q = passed-part n c e l t h in let z : ◌≡◌ {A = ℕ} 0 1 = cc in omega arith
  fails_composed f (Not x) l o t h = let z : ◌≡◌ {A = ℕ} 0 1 = cc in omega arith
  fails_composed f (And x y) l o t h = let z : ◌≡◌ {A = ℕ} 0 1 = cc in omega arith
  fails_composed f (Or x y) l o t h = let z : ◌≡◌ {A = ℕ} 0 1 = cc in omega arith

  module _ (t : List Part) (order : InOrder t) where
    -- all parts of a table pass
    pub all_pass : ((k : ℕ) → k < length t → passes test (get_or t k True) ≡ true) → (k : ℕ) → k < length t → every_pending test (label_at t k) ≡ true
    all_pass ok k kl = go (suc k) k (omega arith) kl
      where
        go : (n k : ℕ) → k < n → k < length t → every_pending test (label_at t k) ≡ true
        go zero k lt kl = absurd (omega arith)
        go (suc n) k lt kl =
            ap (every_pending test) (label_of t order k kl)
            ∙ passes-composed (label_at t) k (get_or t k True) (order k kl) (λ x l. go n x (omega arith) (omega arith)) (ok k kl)

    -- one part does not
    pub one_fails : (root k : ℕ) → k < length t → OnlyParts t root → passes test (get_or t k True) ≡ false → false ≡ every_pending test (label_at t root)
    one_fails root k kl only o = elim (cases_Bool (every_pending test (label_at t root))) [
      | inl h ↦ absurd (fails_composed (label_at t) (get_or t k True) (label_at t root) o
          (subst (λ (z : Label). T (member z (parts (label_at t root)))) (label_of t order k kl) (to_T (only k kl))) h)
      | inr h ↦ sym h
    ]

    -- a call's answer whether all parts of a table pass
    pub all_told : (root : ℕ) → root < length t → OnlyParts t root → (r : Bool) →
        MatchBool r (AllWithin (λ p. passes test p ≡ true) t 0 (length t)) ((k : ℕ) × (k < length t) × HoldsAt (λ p. passes test p ≡ false) t k) →
        r ≡ every_pending test (label_at t root)
    all_told root inside only true h = sym (all_pass (λ k kl. h k True (omega arith) kl) root inside)
    all_told root inside only false h = one_fails root h.0 h.1 only (h.2 True)
