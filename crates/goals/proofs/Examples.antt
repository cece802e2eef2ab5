-- Some texts and how they read.
use Rattle.std.proofs.Common.{◌≡◌, ℕ, [], ◌∷◌, None, codes, refl}
use Rattle.goals.specs.declared.goal.Variable.TheVariants.{Outer, Inner}
use Rattle.goals.specs.declared.goal.Term.TheVariants.{Id, Bound}
use Rattle.goals.specs.Tokens.{lex}
use Rattle.goals.specs.Vocabulary.{Vocabulary, vocabulary_of, find_from}
use Rattle.goals.specs.Scopes.{outermost}
use Rattle.goals.specs.Tree.{Tree, always, test, not, or, until, for_all, formula-tree, span}
use Rattle.goals.specs.Reading.{Outcome, read, fault, reads, walk, move}

abbrev words : Vocabulary
words = vocabulary_of 2 (record { places = 1; name = codes "label"; length = 5 } ∷ record { places = 1; name = codes "path"; length = 4 } ∷ record { places = 1; name = codes "stream"; length = 6 } ∷ record { places = 2; name = codes "tag"; length = 3 } ∷ record { places = 0; name = codes "p"; length = 1 } ∷ [])

data Result : Type 0 where
  tree : Tree → Result
  refused : ℕ → ℕ → Result

abbrev shown : Outcome → Result
shown (read f) = tree (formula-tree words outermost f)
shown (fault c p) = refused c p

worked : shown (reads words (codes "G A ?l:label(?l) A ?f:tag(?l,?f) (path(?f)|stream(?f)|(!stream(?f) U !tag(?l,?f)))"))
    ≡ tree (not (until (record { lower = span 0; upper = None }) always (not
    (for_all Outer (record { predicate = 0; first = Bound Outer; second = Id 0 })
    (for_all Inner (record { predicate = 3; first = Bound Outer; second = Bound Inner })
    (or (or (test (record { predicate = 1; first = Bound Inner; second = Id 0 })) (test (record { predicate = 2; first = Bound Inner; second = Id 0 })))
    (until (record { lower = span 0; upper = None }) (not (test (record { predicate = 2; first = Bound Inner; second = Id 0 }))) (not (test (record { predicate = 3; first = Bound Outer; second = Bound Inner }))))))))))
unfolding lex walk move formula-tree find_from
worked = refl

dangling : shown (reads words (codes "p & ")) ≡ refused 4 4
unfolding lex walk move formula-tree find_from
dangling = refl

unbound : shown (reads words (codes "path(?x)")) ≡ refused 5 5
unfolding lex walk move formula-tree find_from
unbound = refl

high : shown (reads words (codes "path(7)")) ≡ refused 6 5
unfolding lex walk move formula-tree find_from
high = refl

ends : shown (reads words (codes "F[5,3] p")) ≡ refused 6 4
unfolding lex walk move formula-tree find_from
ends = refl

lacks : shown (reads words (codes "A ?x:p T")) ≡ refused 5 5
unfolding lex walk move formula-tree find_from
lacks = refl

lacks_late : shown (reads words (codes "A ?x:path(1) T")) ≡ refused 5 5
unfolding lex walk move formula-tree find_from
lacks_late = refl

third : shown (reads words (codes "A ?x:path(?x) E ?y:path(?y) A ?z:path(?z) T")) ≡ refused 7 28
unfolding lex walk move formula-tree find_from
third = refl
