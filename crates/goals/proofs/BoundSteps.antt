-- How the tests of bounds grow with the lists that are read, and what they say of one item.
use Rattle.std.proofs.Common.{◌≡◌, ℕ, zero, suc, ◌+◌, ◌<◌, ◌≤◌, true, List, [], ◌∷◌, ◌++◌, length, get_or, take, set, Option, Some, None, IfSome, is_some, ltb, Bor, sym, refl, ap, ◌∙◌, arith, Bool, rules}
use Rattle.std.specs.List.{slice_get, list_all}
use Rattle.std.specs.Option.{option_copied}
use Rattle.std.proofs.lemmas.Bool.{and_parts, and_from, ltb-true}
use Rattle.std.proofs.lemmas.List.Folds.{list_all-append}
use Rattle.std.proofs.lemmas.Bool.Decides.{nat_tests}
use Rattle.std.proofs.lemmas.List.{take_more_set}
use Rattle.std.proofs.lemmas.Option.{slice_get-get_or}
use Rattle.goals.specs.declared.operation.Operation.{Operation}
use Rattle.goals.specs.declared.operation.Entry.{Entry}
use Rattle.goals.specs.CatalogueRules.{sound_counts}
use Rattle.goals.specs.EntryBounds.{entry_inside, entries_inside, operation_inside, operations_inside, Inside}

-- a test that all of a list pass, with one more
pub all-push : {A : Type 0} (test : A → Bool) (xs : List A) (x : A) → list_all test xs ≡ true → test x ≡ true → list_all test (xs ++ x ∷ []) ≡ true
all-push test xs x h g = list_all-append test xs (x ∷ []) ∙ and_from _ _ h (and_from _ _ g refl)

-- the entries below a place and the one written there
pub inside-more : (ids parameters : ℕ) (es : List Entry) (k : ℕ) (e : Entry) → k < length es → entries_inside ids parameters (take k es) ≡ true → entry_inside ids parameters e ≡ true
    → entries_inside ids parameters (take (k + 1) (set es k e)) ≡ true
unfolding entries_inside
inside-more ids parameters es k e lt h g =
    ap (entries_inside ids parameters) (take_more_set es k e lt) ∙ all-push (entry_inside ids parameters) (take k es) e h g

-- each operation of a list that keeps within the bounds does
pub inside-at : (ids : ℕ) (os : List Operation) (k : ℕ) (o : Operation) → operations_inside ids os ≡ true → slice_get os k ≡ Some o → Inside ids o
inside-at ids [] k o h e = let z : ◌≡◌ {A = ℕ} 0 1 = cc in absurd (omega arith)
inside-at ids (x ∷ os) zero o h e = search rules
inside-at ids (x ∷ os) (suc k) o h e = inside-at ids os k o (and_parts (operation_inside ids x) (operations_inside ids os) h).1 e

pub inside-got : (ids : ℕ) (os : List Operation) (k : ℕ) (r : Option (Bor Operation)) → operations_inside ids os ≡ true →
    is_some r ≡ ltb k (length os) → IfSome r (λ x. x.now ≡ get_or os k x.now) → IfSome (option_copied r) (λ o. Inside ids o)
inside-got ids os k None h i e = tt
inside-got ids os k (Some x) h i e =
    inside-at ids os k x.now h (slice_get-get_or os k x.now (ltb-true k (length os) (sym i)) ∙ ap Some (sym e))

-- counts within the limits, as inequalities
pub counts_in_limits_lem : (ids predicates operations : ℕ) → sound_counts ids predicates operations ≡ true → (0 < ids) × (predicates ≤ 16) × (operations ≤ 64)
counts_in_limits_lem ids predicates operations h = grind (arith, nat_tests)
