-- Equivalences and negations, and tests as facts.
use Rattle.std.proofs.Common.{◌≡◌, Bool, true, false, not, ◌&&◌, ◌||◌, T, ◌⊎◌, ◌↔◌, sym, refl, subst, inl, inr}
use mathlib.Core.Logic.Iff
use Rattle.labels.specs.Truth.{Neither}

pub iff_or : {A B C D : Type 0} → A ↔ C → B ↔ D → (¬ (Neither A B)) ↔ (¬ (Neither C D))
iff_or f g = Iff.not (Iff.and (Iff.not f) (Iff.not g))

-- a statement at one of two equal values
pub iff_at : {A : Type 0} (P : A → Type 0) {x y : A} → x ≡ y → P x ↔ P y
iff_at P e = (subst P e, subst P (sym e))

pub not_stable : {A : Type 0} → ¬ (¬ (¬ A)) → ¬ A
not_stable h a = h (λ n. n a)

pub T_stable : (c : Bool) → ¬ (¬ (T c)) → T c
T_stable true h = tt
T_stable false h = h (λ n. n)

pub to_T : {c : Bool} → c ≡ true → T c
to_T e = subst T (sym e) tt

pub no_T : {c : Bool} → c ≡ false → ¬ (T c)
no_T e t = subst T e t

pub is_true : (c : Bool) → T c → c ≡ true
is_true true t = refl
is_true false t = absurd t

pub not_T : (a : Bool) → T (not a) ↔ (¬ (T a))
not_T true = (λ z u. z, λ f. f tt)
not_T false = (λ u z. z, λ f. tt)

pub and_T : (a b : Bool) → T (a && b) ↔ (T a × T b)
and_T true b = (λ t. (tt, t), λ p. p.1)
and_T false b = (λ z. absurd z, λ p. p.0)

pub or_T : (a b : Bool) → T (a || b) ↔ (¬ (Neither (T a) (T b)))
or_T true b = (λ t n. n.0 tt, λ o. tt)
or_T false b = (λ t n. n.1 t, λ o. T_stable b (λ n. o (λ z. z, n)))

pub or_left : (a b : Bool) → T a → T (a || b)
or_left true b t = tt
or_left false b t = absurd t

pub or_right : (a b : Bool) → T b → T (a || b)
or_right true b t = tt
or_right false b t = t

pub or_cases : (a b : Bool) → T (a || b) → T a ⊎ T b
or_cases true b t = inl tt
or_cases false b t = inr t
