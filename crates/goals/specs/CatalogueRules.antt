-- The rules of a catalogue: which counts, predicates, names, operations and entries are allowed.
-- What breaks a rule of counts, predicates or names is refused with 1, what breaks one of an operation with 2.
use Rattle.std.specs.Prelude.{ℕ, ◌-◌, Bool, true, false, cond, not, ◌&&◌, List, [], ◌∷◌, ◌++◌, length, ◌==◌, nat_le, nat_lt, slice_index_or}
use Rattle.std.specs.List.{list_all, list_any}
use Rattle.std.specs.Str.{bytes_eq}
use Rattle.goals.specs.Tokens.{is_letter}
use Rattle.goals.specs.Sections.{PredicateText, EntryText, OperationText}

-- 1 to 128 ids, 1 to 16 predicates, at most 64 operations
abbrev pub sound_counts : ℕ → ℕ → ℕ → Bool
sound_counts ids predicates operations =
    (nat_le 1 ids && nat_le ids 128) && ((nat_le 1 predicates && nat_le predicates 16) && nat_le operations 64)

abbrev pub all_letters : List ℕ → Bool
all_letters bs = list_all is_letter bs

-- a name is 1 to 16 small letters
abbrev pub sound_name : List ℕ → Bool
sound_name name = nat_le 1 (length name) && (nat_le (length name) 16 && all_letters name)

abbrev pub sound_predicate : PredicateText → Bool
sound_predicate p = nat_le p.places 2 && sound_name p.name

-- does one of the predicates have the name?
abbrev pub taken : List ℕ → List PredicateText → Bool
taken name ps = list_any (λ p. bytes_eq p.name name) ps

-- each predicate is sound, and has no name that one before it has
unfoldable pub sound_predicates : List PredicateText → List PredicateText → Bool
sound_predicates before [] = true
sound_predicates before (p ∷ ps) = sound_predicate p && (not (taken p.name before) && sound_predicates (before ++ p ∷ []) ps)

-- how many places the predicate with a number has
abbrev pub places_in : List PredicateText → ℕ → ℕ
places_in ps k = (slice_index_or ps k (record { places = 0; name = [] })).places

-- a term byte: an id below N, or 128 to 130 for a parameter that the operation has; 0 where the predicate has no such place
abbrev pub sound_term : Bool → ℕ → ℕ → ℕ → Bool
sound_term used ids parameters b =
    cond used (cond (nat_lt b 128) (nat_lt b ids) (nat_le b 130 && nat_lt (b - 128) parameters)) (b == 0)

-- the predicate's number in an entry: 128 added to a need's predicate negates the need
abbrev pub predicate_number : Bool → ℕ → ℕ
predicate_number need b = cond (need && nat_le 128 b) (b - 128) b

abbrev pub sound_entry : Bool → ℕ → List PredicateText → ℕ → EntryText → Bool
sound_entry need ids ps parameters e =
    nat_lt (predicate_number need e.predicate) (length ps)
    && (sound_term (nat_le 1 (places_in ps (predicate_number need e.predicate))) ids parameters e.first
    && sound_term (nat_le 2 (places_in ps (predicate_number need e.predicate))) ids parameters e.second)

abbrev pub sound_each : Bool → ℕ → List PredicateText → ℕ → List EntryText → Bool
sound_each need ids ps parameters es = list_all (sound_entry need ids ps parameters) es

-- at most six entries of a kind
abbrev pub sound_entries : Bool → ℕ → List PredicateText → ℕ → List EntryText → Bool
sound_entries need ids ps parameters es = nat_le (length es) 6 && sound_each need ids ps parameters es

-- 0 to 3 parameters, a span of 0 to 1,000 hours, and sound needs, takes and puts
unfoldable pub sound_operation : ℕ → List PredicateText → OperationText → Bool
sound_operation ids ps o =
    nat_le o.parameters 3
    && (nat_le o.span 1000
    && (sound_entries true ids ps o.parameters o.needs
    && (sound_entries false ids ps o.parameters o.takes
    && sound_entries false ids ps o.parameters o.puts)))
