-- What the crates above see of a job: how many ids there are, its operations, the table of its goal's nodes and the number of the root.
-- They use a job by these and by what holds of every job, and not by its fields.
use Rattle.std.specs.Prelude.{ℕ, List, vec_items}
use Rattle.goals.specs.declared.goal.Node.{Node}
use Rattle.goals.specs.declared.operation.Operation.{Operation}
use Rattle.goals.specs.declared.predicate.Predicate.{Predicate}
use Rattle.goals.specs.declared.job.Job.{Job}
pub use Rattle.goals.specs.SoundJob.{SoundJob}

-- ids are the numbers below this
unfoldable pub ids_of : Job → ℕ
ids_of job = job.catalogue.ids

unfoldable pub predicates_in : Job → List Predicate
predicates_in job = vec_items job.catalogue.predicates

unfoldable pub operations_in : Job → List Operation
operations_in job = vec_items job.catalogue.operations

unfoldable pub nodes_of : Job → List Node
nodes_of job = vec_items job.goal.nodes

unfoldable pub root_of : Job → ℕ
root_of job = job.goal.root

abbrev pub Sound : Job → Type 0
Sound job = SoundJob (ids_of job) (nodes_of job) (root_of job)

-- so of every job
pub sound : (job : Job) → Sound job
unfolding ids_of nodes_of root_of
sound job = job.sound
