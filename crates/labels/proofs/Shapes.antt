-- Pairs, untils and quantifiers that were made of a node: what holds of the one made holds of its fields.
use Rattle.std.proofs.Common.{◌≡◌, ℕ, Bool, Result, ap, ◌∙◌, subst}
use Rattle.registers.specs.Meaning.{Meaning}
use Rattle.goals.specs.declared.time.Span.{Span}
use Rattle.goals.specs.declared.job.Job.{Job}
use Rattle.labels.specs.declared.binding.Binding.{Binding}
use Rattle.labels.specs.declared.table.Table.{Table}
use Rattle.labels.specs.declared.walk.Pair.{Pair}
use Rattle.labels.specs.declared.walk.Wait.{Wait}
use Rattle.labels.specs.declared.walk.Range.{Range}
use Rattle.labels.specs.JobWalks.{wait_of, Walks, WalksPair, WalksRange, keeps, keeps_any}

module _ (job : Job) (m : Meaning) (D : Span) {E : Type 0} {limit : ℕ} (old new : Table limit) (b : Binding) (r : Result ℕ E) where
  pub at_pair : {p q : Pair} → p ≡ q → WalksPair job m D old new p b r → WalksPair job m D old new q b r
  at_pair e o = subst (λ (p : Pair). WalksPair job m D old new p b r) e o

  pub at_wait : {w v : Wait} → w ≡ v → Walks job m D old new (wait_of job w) b r → Walks job m D old new (wait_of job v) b r
  at_wait e o = subst (λ (w : Wait). Walks job m D old new (wait_of job w) b r) e o

  pub at-range : {p q : Range} → p ≡ q → WalksRange job m D old new p b r → WalksRange job m D old new q b r
  at-range e o = subst (λ (p : Range). WalksRange job m D old new p b r) e o

module _ (job : Job) (m : Meaning) (b : Binding) {r : Bool} where
  pub keeps_wait : {w v : Wait} → w ≡ v → r ≡ keeps job m (wait_of job w) b → r ≡ keeps job m (wait_of job v) b
  keeps_wait e h = h ∙ ap (λ (w : Wait). keeps job m (wait_of job w) b) e

  pub keeps-range : (wanted : Bool) {p q : Range} → p ≡ q → r ≡ keeps_any job m wanted p b → r ≡ keeps_any job m wanted q b
  keeps-range wanted e h = h ∙ ap (λ (p : Range). keeps_any job m wanted p b) e
