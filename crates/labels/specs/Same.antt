-- When two labels are the same: where they are equal, which is decided for bindings and ends and from there for labels.
-- A decision of type `Discrete A` answers, of any two values of A, yes with their equality or no with its refutation.
use Rattle.std.proofs.Math.Decide.{ℕ_discrete}
use Rattle.std.specs.Prelude.{Bool, true, false, Some, None, Option, refl}
use mathlib.Core.HLevel.{Discrete}
use Rattle.std.proofs.Common.{sym, ap, subst}
use Rattle.goals.specs.declared.time.Span.{Span}
use Rattle.goals.specs.declared.goal.Ends.{Ends}
use Rattle.labels.specs.declared.binding.Binding.{Binding}
use Rattle.labels.specs.Labels.{Label, label-discrete}

-- C is decided where it says just that A and B
abbrev pub decide_both : {A B C : Type 0} → (A → B → C) → (C → A) → (C → B) → Dec A → Dec B → Dec C
decide_both make left right (yes a) (yes b) = yes (make a b)
decide_both make left right (yes a) (no n) = no (λ c. n (right c))
decide_both make left right (no n) other = no (λ c. n (left c))

abbrev pub binding_discrete : Discrete Binding
binding_discrete b c =
    decide_both (λ p q i. record { outer = p i; inner = q i }) (ap (λ (x : Binding). x.outer)) (ap (λ (x : Binding). x.inner))
    (ℕ_discrete b.outer c.outer) (ℕ_discrete b.inner c.inner)

abbrev pub span_discrete : Discrete Span
span_discrete m n =
    elim (ℕ_discrete m.hours n.hours)
    [ yes p ↦ yes (λ i. record { hours = p i }) | no d ↦ no (λ p. d (ap (λ (x : Span). x.hours) p)) ]

-- an upper end that is there, and its span
abbrev pub bounded : Option Span → Type 0
bounded (Some n) = Unit {0}
bounded None = ⊥

abbrev pub bound_or : Span → Option Span → Span
bound_or m (Some n) = n
bound_or m None = m

abbrev pub upper_discrete : Discrete (Option Span)
upper_discrete (Some m) (Some n) =
    elim (span_discrete m n)
    [ yes p ↦ yes (ap {B = Option Span} Some p) | no d ↦ no (λ p. d (ap (bound_or m) p)) ]
upper_discrete (Some m) None = no (λ p. subst bounded p tt)
upper_discrete None (Some n) = no (λ p. subst bounded (sym p) tt)
upper_discrete None None = yes refl

abbrev pub ends_discrete : Discrete Ends
ends_discrete e f =
    decide_both (λ p q i. record { lower = p i; upper = q i }) (ap (λ (x : Ends). x.lower)) (ap (λ (x : Ends). x.upper))
    (span_discrete e.lower f.lower) (upper_discrete e.upper f.upper)

-- are two labels the same?
unfoldable pub same : Label → Label → Bool
unfolding ℕ_discrete
same q r =
    elim (label-discrete ℕ_discrete binding_discrete ends_discrete q r) [ yes p ↦ true | no d ↦ false ]
