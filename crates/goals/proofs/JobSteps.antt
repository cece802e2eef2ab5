-- From a framed file to its job: where the goal text lies, and that the catalogue's words are the file's.
use Rattle.std.proofs.Common.{◌≡◌, ℕ, zero, suc, ◌+◌, ◌-◌, ◌*◌, ◌≤◌, true, cond, List, [], ◌∷◌, map, length, take, drop, Ok, vec_items, vec_len, sym, refl, ap, ◌∙◌, subst, ap₂, arith, rules}
use mathlib.Core.Path.{fun_ext}
use Rattle.std.specs.Str.{bytes_eq}
use Rattle.std.proofs.lemmas.List.{take_all, length-map}
use Rattle.std.proofs.lemmas.Bool.{and_from}
use Rattle.goals.specs.declared.frame.Frame.{Frame}
use Rattle.goals.specs.declared.predicate.Predicate.{Predicate}
use Rattle.goals.specs.declared.catalogue.Catalogue.{Catalogue}
use Rattle.goals.specs.Bytes.{byte_at}
use Rattle.goals.specs.Frame.{framed, frame_of, operations_end}
use Rattle.goals.specs.CatalogueRules.{sound_counts, sound_predicates}
use Rattle.goals.specs.CatalogueMeaning.{shape_sound}
use Rattle.goals.specs.CatalogueReading.{Spelled}
use Rattle.goals.specs.Entries.{predicate_text}
use Rattle.goals.specs.Vocabulary.{find_from, vocabulary_of, name_of, found, places_of}
use Rattle.goals.specs.JobText.{goal_text, find_text, words_from, words_of, operations_sound}
use Rattle.goals.proofs.FrameSteps.{accepted, sections}
use Rattle.goals.proofs.PredicateSteps.{slice_bytes, predicates-count}
use Rattle.goals.proofs.OperationSteps.{operations-count}

-- places

operations_on : (file : List ℕ) (n at : ℕ) → at ≤ operations_end file n at
unfolding operations_end
operations_on file zero at = omega arith
operations_on file (suc n) at = omega (arith, operations_on file n (at + 6 + 3 * (byte_at file (at + 3) + byte_at file (at + 4) + byte_at file (at + 5))))

operations-first : (file : List ℕ) → (frame_of file).operations_at ≤ (frame_of file).facts_at
unfolding frame_of
operations-first file = operations_on file (byte_at file 7) (frame_of file).operations_at

goal-span : (file : List ℕ) → (frame_of file).steps_at ≡ (frame_of file).goal_at + (frame_of file).goal_length
unfolding frame_of
goal-span file = refl

pub record Inside (file : List ℕ) (f : Frame) : Type 0 where
  pub operations_near : f.operations_at ≤ 40000
  pub goal_first : f.goal_at ≤ f.steps_at
  pub goal_end : f.steps_at ≤ length file
  pub goal_long : f.steps_at ≡ f.goal_at + f.goal_length

inside_of : (file : List ℕ) → (frame_of file).end ≡ length file → length file ≤ 40000 → Inside file (frame_of file)
inside_of file e l =
    let s = sections file in
    let o = operations-first file in
    let g = goal-span file in
    record {
      operations_near = omega (arith, s.0, s.1, s.2, o, e, l);
      goal_first = s.1;
      goal_end = omega (arith, s.2, e);
      goal_long = g;
    }

pub inside : (file : List ℕ) (f : Frame) → Ok f ≡ framed file → Inside file f
inside file f e =
    let a = accepted file f e in
    subst (Inside file) (sym a.frame) (inside_of file (ap (λ g. g.end) (sym a.frame) ∙ a.whole) a.short)

pub goal_slice : (file : List ℕ) (f : Frame) → Inside file f → take (f.steps_at - f.goal_at) (drop f.goal_at file) ≡ goal_text file f
goal_slice file f i =
    ap (λ n. take n (drop f.goal_at file)) (let e : f.steps_at - f.goal_at ≡ f.goal_length = omega (arith, i.goal_long) in e)
    ∙ slice_bytes file f.goal_length f.goal_at (omega (arith, i.goal_long, i.goal_end))

-- the words of a catalogue are those of its text

find-same : (i : ℕ) (ps : List Predicate) (b : List ℕ) → find_from i ps b ≡ find_text i (map predicate_text ps) b
unfolding find_from find_text
find-same i [] b = refl
find-same i (p ∷ ps) b = ap (cond (bytes_eq (name_of p) b) (found i (places_of p.places))) (find-same (suc i) ps b)

pub words_same : (n : ℕ) (ps : List Predicate) → length ps ≤ 256 → vocabulary_of n ps ≡ words_from n (map predicate_text ps)
words_same n ps l =
    let e = fun_ext (λ b. ap (λ q. find_from 0 q b) (take_all 256 ps l) ∙ find-same 0 ps b) in
    λ i. record { ids = n; lookup = e i }

-- a catalogue has few predicates
pub few-predicates : (c : Catalogue) → length (vec_items c.predicates) ≤ 256
few-predicates c = search rules

-- what a spelled-out catalogue says of the file
module _ (file : List ℕ) (f : Frame) (c : Catalogue) (s : Spelled file f c) where
  pub words_from-file : vocabulary_of c.ids (vec_items c.predicates) ≡ words_of file f
  words_from-file =
      words_same c.ids (vec_items c.predicates) (few-predicates c)
      ∙ ap₂ words_from s.ids_same s.predicates_same

  counted_predicates : vec_len c.predicates ≡ f.predicates
  counted_predicates = grind (arith, length-map, predicates-count)

  counted_operations : vec_len c.operations ≡ f.operations
  counted_operations = grind (arith, length-map, operations-count)

  pub shape-of-file : shape_sound file f ≡ true
  shape-of-file =
      and_from _ _
      ((λ i. sound_counts (sym s.ids_same i) (sym counted_predicates i) (sym counted_operations i)) ∙ c.counts)
      (ap (sound_predicates []) (sym s.predicates_same) ∙ c.names)

  pub operations-of-file : operations_sound file f ≡ true
  operations-of-file = search rules
