-- What reading a catalogue from a framed file comes to: the catalogue that the file spells out, or the fault.
-- Where operations are at fault, the one that is named is one of them.
use Rattle.std.specs.Prelude.{◌≡◌, ℕ, true, false, List, map, Ok, Err, vec_items, Result}
use Rattle.goals.specs.declared.frame.Frame.{Frame}
use Rattle.goals.specs.declared.catalogue.Catalogue.{Catalogue}
use Rattle.goals.specs.declared.catalogue_fault.CatalogueFault.{CatalogueFault}
use Rattle.goals.specs.declared.catalogue_fault.CatalogueFault.TheVariants.{Shape, Operation}
use Rattle.goals.specs.CatalogueMeaning.{predicates_of, operations_of, shape_sound, AtFault}
use Rattle.goals.specs.Entries.{predicate_text, operation_text}

-- the catalogue, written out again, is that of the file
pub record Spelled (file : List ℕ) (f : Frame) (c : Catalogue) : Type 0 where
  pub ids_same : c.ids ≡ f.ids
  pub predicates_same : map predicate_text (vec_items c.predicates) ≡ predicates_of file f
  pub operations_same : map operation_text (vec_items c.operations) ≡ operations_of file f

abbrev pub CatalogueSays : List ℕ → Frame → Result Catalogue CatalogueFault → Type 0
CatalogueSays file f (Ok c) = Spelled file f c
CatalogueSays file f (Err Shape) = shape_sound file f ≡ false
CatalogueSays file f (Err (Operation k)) = (shape_sound file f ≡ true) × AtFault f.ids (predicates_of file f) (operations_of file f) k
