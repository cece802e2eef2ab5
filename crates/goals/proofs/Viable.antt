-- Where a reading stops with 4: the tokens before begin a text of the grammar, and none goes on as this one does.
use Rattle.std.proofs.Common.{◌≡◌, ℕ, ◌+◌, Bool, true, false, cond, leb, List, [], ◌∷◌, length, sym, refl, ap, ◌∙◌, subst, ⊎_elim, arith}
use Rattle.std.proofs.lemmas.Bool.{cases_lt}
use Rattle.goals.specs.Tokens as token
use Rattle.goals.specs.Tokens.{Tok, word, digits, mark, bad, Source, end, next, lexed}
use Rattle.goals.specs.Vocabulary.{Vocabulary, Found, Places, none, one, two, places}
use Rattle.goals.specs.Syntax as syntax
use Rattle.goals.specs.Syntax.{Formula}
use Rattle.goals.specs.Grammar.{IsFormula, IsItem, is-simple, is_truth, is-group, is-pair, is-prefixed, is_unwritten}
use Rattle.goals.specs.Reading.{Around, top, open_at, right_of, Place, at, under, Role, alone, bound, Asker, right_side, argument, only, first, second, Opener, resume, Stage, wants, after, expects, equals, asks, closes, binds, bounds, opens, lower, upper, complete, tested, Moved, cannot, may, named, move, read, fault, ended, followed, walk, run, start}
use Rattle.goals.specs.GoalClaims.{Placed, then, Grammatical, CannotFollow, Misplaced, RightPlace}
use Rattle.goals.proofs.Whole.{reads_short, reads-long}
use Rattle.goals.proofs.Sound.{OkAround, at_top, in-open, in_right, OkPlace, an_item, in-prefix, OkStage, ok_wants, ok_after, ok_expects, ok_equals, ok_asks, ok_closes, ok_binds, ok_opens, ok_lower, ok_upper, OkMoved, joins_and, joins_or, starts, keeps, resumes}
use Rattle.goals.proofs.Theorems.{grammar_reads}

read-fault : {c p : ℕ} {f : Formula} {A : Type 0} → read f ≡ fault c p → A
read-fault {c} {p} {f} e = let z : ◌≡◌ {A = ℕ} 0 1 = cc in absurd (omega arith)

fault_place : (c q p : ℕ) → fault c q ≡ fault 4 p → (c ≡ 4) × (q ≡ p)
fault_place c q p e = (cc, cc)

-- tokens that complete what was begun
abbrev zero_digits : List ℕ
zero_digits = 48 ∷ []

abbrev letter : List ℕ
letter = 97 ∷ []

abbrev mutual
  closing_around : Around → Source
  closing_around top = end 0
  closing_around (open_at k) = next (mark 41) 0 (closing-place k)
  closing_around (right_of a j k) = next (mark 41) 0 (closing-place k)

  closing-place : Place → Source
  closing-place (at a o f) = closing_around f
  closing-place (under x k) = closing-place k

abbrev closing_role : Role → Source
closing_role (alone k) = closing-place k
closing_role (bound q v k) = next (mark 84) 0 (closing-place k)

abbrev closing_asker : Asker → Source
closing_asker (right_side x k) = next (digits zero_digits) 0 (closing-place k)
closing_asker (argument r p (only b)) = next (digits zero_digits) 0 (next (mark 41) 0 (closing_role r))
closing_asker (argument r p (first b)) = next (digits zero_digits) 0 (next (mark 44) 0 (next (digits zero_digits) 0 (next (mark 41) 0 (closing_role r))))
closing_asker (argument r p (second b x)) = next (digits zero_digits) 0 (next (mark 41) 0 (closing_role r))

abbrev closing_args : Role → Places → Source
closing_args r none = closing_role r
closing_args r one = next (mark 40) 0 (closing_asker (argument r 0 (only letter)))
closing_args r two = next (mark 40) 0 (closing_asker (argument r 0 (first letter)))

module _ (V : Vocabulary) where
  abbrev closing_stage : Stage → Source
  closing_stage (wants k) = next (mark 84) 0 (closing-place k)
  closing_stage (after c o f) = closing_around f
  closing_stage (expects c g) = next (mark c) 0 (closing_stage g)
  closing_stage (equals x k) = next (mark 61) 0 (closing_asker (right_side x k))
  closing_stage (asks a) = closing_asker a
  closing_stage (closes r t i) = next (mark 41) 0 (closing_role r)
  closing_stage (binds q k) = next (token.variable 97) 0 (next (mark 58) 0 (next (word letter) 0 (closing_args (bound q 97 k) (places (V.lookup letter)))))
  closing_stage (bounds q v k) = next (word letter) 0 (closing_args (bound q v k) (places (V.lookup letter)))
  closing_stage (opens m) = next (mark 84) 0 (closing-place (resume m syntax.unwritten))
  closing_stage (lower m) = next (digits zero_digits) 0 (next (mark 44) 0 (next (mark 42) 0 (next (mark 93) 0 (next (mark 84) 0 (closing-place (resume m (syntax.from_on zero_digits)))))))
  closing_stage (upper m lo) = next (mark 42) 0 (next (mark 93) 0 (next (mark 84) 0 (closing-place (resume m (syntax.from_on lo)))))

  mutual
    close_around : {f : Around} {w v : Source} → OkAround V f w v → {y : Formula} → IsFormula V y v (closing_around f) → Grammatical V w
    close_around at_top {y} d = (y, (0, d))
    close_around (in-open h) d = close-place h (is-group d)
    close_around (in_right h a j) d = close-place h (is-pair a j d)

    close-place : {k : Place} {w s : Source} → OkPlace V k w s → {i : syntax.Item} → IsItem V i s (closing-place k) → Grammatical V w
    close-place (an_item a o f) i = close_around f (joins_or V o (joins_and V a i))
    close-place (in-prefix h x) i = close-place h (is-prefixed x i)

  fin_wants : {k : Place} {w : Source} → OkStage V (wants k) w (next (mark 84) 0 (closing-place k)) → Grammatical V w
  fin_wants (ok_wants h) = close-place h (is-simple is_truth)

  fin_item : (k : Place) (i : syntax.Item) {w : Source} → OkStage V (complete i k) w (closing-place k) → Grammatical V w
  fin_item (at a o f) i (ok_after d l k) = close_around k (joins_or V l d)
  fin_item (under x k) i h = fin_item k (syntax.prefixed x i) h

  fin_role : (r : Role) (t : syntax.Test) {w : Source} → OkStage V (tested r t) w (closing_role r) → Grammatical V w
  fin_role (alone k) t h = fin_item k (syntax.simple (syntax.test t)) h
  fin_role (bound q v k) t h = fin_wants h

  fin_closes : {r : Role} {t : syntax.Test} {i : ℕ} {w : Source} → OkStage V (closes r t i) w (next (mark 41) 0 (closing_role r)) → Grammatical V w
  fin_closes {r} {t} (ok_closes h) = fin_role r t (h 0 (closing_role r) refl)

  opened : {c : ℕ} {g : Stage} {w s : Source} → OkStage V (expects c g) w (next (mark c) 0 s) → OkStage V g w s
  opened {s = s} (ok_expects h) = h 0 s refl

  fin_asker : (a : Asker) {w : Source} → OkStage V (asks a) w (closing_asker a) → Grammatical V w
  fin_asker (right_side x k) (ok_asks h) = fin_item k (syntax.simple (syntax.equal x (syntax.id zero_digits))) (h (syntax.id zero_digits) 0 (closing-place k) refl)
  fin_asker (argument r p (only b)) (ok_asks h) = fin_closes (h (syntax.id zero_digits) 0 (next (mark 41) 0 (closing_role r)) refl)
  fin_asker (argument r p (second b x)) (ok_asks h) = fin_closes (h (syntax.id zero_digits) 0 (next (mark 41) 0 (closing_role r)) refl)
  fin_asker (argument r p (first b)) (ok_asks h) =
      last (opened (h (syntax.id zero_digits) 0 (next (mark 44) 0 (next (digits zero_digits) 0 (next (mark 41) 0 (closing_role r)))) refl))
    where
      last : {x : syntax.Operand} {w : Source} → OkStage V (asks (argument r p (second b x))) w (next (digits zero_digits) 0 (next (mark 41) 0 (closing_role r))) → Grammatical V w
      last (ok_asks g) = fin_closes (g (syntax.id zero_digits) 0 (next (mark 41) 0 (closing_role r)) refl)

  fin_named : (r : Role) (n : ℕ) (f : Found) (l : Places) {w : Source} → OkMoved V (named r letter 0 n f l) w (closing_args r l) → Grammatical V w
  fin_named r n f none h = fin_role r (syntax.bare letter) h.0
  fin_named r n f one h = fin_asker (argument r 0 (only letter)) (opened h.0)
  fin_named r n f two h = fin_asker (argument r 0 (first letter)) (opened h.0)

  fin_bounds : {q : syntax.Quantifier} {v : ℕ} {k : Place} {w : Source} → OkStage V (bounds q v k) w (next (word letter) 0 (closing_args (bound q v k) (places (V.lookup letter)))) → Grammatical V w
  unfolding move
  fin_bounds {q} {v} {k} h = fin_named (bound q v k) 0 (V.lookup letter) (places (V.lookup letter)) (keeps V (word letter) 0 h)

  fin_upper : {m : Opener} {lo : List ℕ} {w : Source} → OkStage V (upper m lo) w (next (mark 42) 0 (next (mark 93) 0 (next (mark 84) 0 (closing-place (resume m (syntax.from_on lo)))))) → Grammatical V w
  fin_upper {m} {lo} (ok_upper h k) = fin_wants (opened (k 0 (next (mark 93) 0 (next (mark 84) 0 (closing-place (resume m (syntax.from_on lo))))) refl))

  finish : (g : Stage) (w : Source) → OkStage V g w (closing_stage g) → Grammatical V w
  finish (wants k) w h = fin_wants h
  finish (after c o f) w (ok_after d l k) = close_around k (joins_or V l d)
  finish (expects c g) w h = finish g w (opened h)
  finish (equals x k) w (ok_equals h) = fin_asker (right_side x k) (h 0 (closing_asker (right_side x k)) refl)
  finish (asks a) w h = fin_asker a h
  finish (closes r t i) w h = fin_closes h
  finish (binds q k) w (ok_binds h) = fin_bounds (opened (h 97 0 (next (mark 58) 0 (next (word letter) 0 (closing_args (bound q 97 k) (places (V.lookup letter))))) refl))
  finish (bounds q v k) w h = fin_bounds h
  finish (opens m) w (ok_opens h) = fin_wants (ok_wants (resumes V h is_unwritten))
  finish (lower m) w (ok_lower h) =
      fin_upper (opened (h zero_digits 0 (next (mark 44) 0 (next (mark 42) 0 (next (mark 93) 0 (next (mark 84) 0 (closing-place (resume m (syntax.from_on zero_digits))))))) refl))
  finish (upper m lo) w h = fin_upper h

  -- where the reading stops at a token that can't follow
  abbrev Blocks : Stage → Source → ℕ → Type 0
  Blocks g (end q) p = (q ≡ p) × (ended g q ≡ fault 4 q)
  Blocks g (next x q u) p = (q ≡ p) × (move V g x q ≡ cannot)

  record Stuck (n : ℕ) (g : Stage) (s : Source) (p : ℕ) : Type 0 where
    before : List Placed
    rest : Source
    count : ℕ
    stage : Stage
    whole : s ≡ then before rest
    same_run : (u : Source) → walk V false n g (then before u) ≡ walk V false count stage u
    same_ok : (v u : Source) → OkStage V g v (then before u) → OkStage V stage v u
    blocks : Blocks stage rest p

  end-blocks : (g : Stage) (q p : ℕ) → ended g q ≡ fault 4 p → Blocks g (end q) p
  end-blocks (wants k) q p e = ((fault_place 4 q p e).1, refl)
  end-blocks (after c o top) q p e = read-fault e
  end-blocks (after c o (open_at k)) q p e = ((fault_place 4 q p e).1, refl)
  end-blocks (after c o (right_of a j k)) q p e = ((fault_place 4 q p e).1, refl)
  end-blocks (expects c g) q p e = ((fault_place 4 q p e).1, refl)
  end-blocks (equals x k) q p e = ((fault_place 4 q p e).1, refl)
  end-blocks (asks a) q p e = ((fault_place 4 q p e).1, refl)
  end-blocks (closes r t i) q p e = ((fault_place 4 q p e).1, refl)
  end-blocks (binds x k) q p e = ((fault_place 4 q p e).1, refl)
  end-blocks (bounds x v k) q p e = ((fault_place 4 q p e).1, refl)
  end-blocks (opens m) q p e = ((fault_place 4 q p e).1, refl)
  end-blocks (lower m) q p e = ((fault_place 4 q p e).1, refl)
  end-blocks (upper m lo) q p e = ((fault_place 4 q p e).1, refl)

  on_token : (n : ℕ) (g : Stage) (x : Tok) (q : ℕ) (u : Source) (b : Bool) (c y m : ℕ) (h : Stage) → move V g x q ≡ may b c y m h → walk V false n g (next x q u) ≡ walk V false (n + m) h u
  unfolding walk
  on_token n g x q u b c y m h e = ap (λ v. followed false v n q (λ i j. walk V false i j u)) e

  stuck_on : (n : ℕ) (g : Stage) (x : Tok) (q : ℕ) (w s : Source) (p : ℕ) (v : Moved) → move V g x q ≡ v → OkMoved V v w s
      → ((i : ℕ) (j : Stage) → OkStage V j w s → run V i j s ≡ fault 4 p → Stuck i j s p) → followed true v n q (λ i j. run V i j s) ≡ fault 4 p → Stuck n g (next x q s) p
  stuck_on n g x q w s p cannot e ok rec h =
      record { before = []; rest = next x q s; count = n; stage = g; whole = refl; same_run = λ u. refl; same_ok = λ v u k. k; blocks = ((fault_place 4 q p h).1, e) }
  stuck_on n g x q w s p (may b c y m j) e ok rec h = pick b (leb (n + m) 128) refl h
    where
      pick : (a d : Bool) → b ≡ a → cond a (cond d (run V (n + m) j s) (fault 7 q)) (fault c y) ≡ fault 4 p → Stuck n g (next x q s) p
      pick true true z f =
          let r = rec (n + m) j ok.0 f in
          record {
            before = record { tok = x; place = q } ∷ r.before;
            rest = r.rest;
            count = r.count;
            stage = r.stage;
            whole = ap (next x q) r.whole;
            same_run = λ u. on_token n g x q (then r.before u) b c y m j e ∙ r.same_run u;
            same_ok = λ v u k. r.same_ok v u (subst (λ i. OkMoved V i v (then r.before u)) e (keeps V x q k)).0;
            blocks = r.blocks;
          }
      pick true false z f = let k : ◌≡◌ {A = ℕ} 7 4 = (fault_place 7 q p f).0 in absurd (omega (arith, k))
      pick false d z f = let k = (fault_place c y p f).0 in let l = ok.1 z in absurd (omega (arith, k, l))

  stuck : (n : ℕ) (g : Stage) (w s : Source) (p : ℕ) → OkStage V g w s → run V n g s ≡ fault 4 p → Stuck n g s p
  unfolding walk
  stuck n g w (end q) p ok e = record { before = []; rest = end q; count = n; stage = g; whole = refl; same_run = λ u. refl; same_ok = λ v u k. k; blocks = end-blocks g q p e }
  stuck n g w (next x q s) p ok e = stuck_on n g x q w s p (move V g x q) refl (keeps V x q ok) (λ i j. stuck i j w s p) e

  halts : (n : ℕ) (g : Stage) (x : Tok) (q : ℕ) (u : Source) → move V g x q ≡ cannot → walk V false n g (next x q u) ≡ fault 4 q
  unfolding walk
  halts n g x q u e = ap (λ v. followed false v n q (λ i j. walk V false i j u)) e

  stops_at : (n : ℕ) (g : Stage) (q : ℕ) → ended g q ≡ fault 4 q → walk V false n g (end q) ≡ fault 4 q
  unfolding walk
  stops_at n g q e = e

  no_grammar : (w : Source) (q : ℕ) → walk V false 0 start w ≡ fault 4 q → Grammatical V w → ⊥
  no_grammar w q h d = read-fault (sym (grammar_reads V w d.0 d.1) ∙ h)

  blocked : (before : List Placed) (rest : Source) (n : ℕ) (g : Stage) (p : ℕ) → ((u : Source) → walk V false 0 start (then before u) ≡ walk V false n g u) → Blocks g rest p → CannotFollow V before rest p
  blocked before (end q) n g p same b = (b.0, no_grammar (then before (end q)) q (same (end q) ∙ stops_at n g q b.1))
  blocked before (next x q u) n g p same b = (b.0, λ s. no_grammar (then before (next x q s)) q (same (next x q s) ∙ halts n g x q s b.1))

  misplaced : (w : Source) (p : ℕ) → run V 0 start w ≡ fault 4 p → Misplaced V w p
  misplaced w p e =
      let r = stuck 0 start w w p (starts V at_top) e in
      let s = closing_stage r.stage in
      record {
        before = r.before;
        rest = r.rest;
        whole = r.whole;
        begins = (s, finish r.stage (then r.before s) (r.same_ok (then r.before s) s (starts V at_top)));
        stops = blocked r.before r.rest r.count r.stage p r.same_run r.blocks;
      }

pub right_place : RightPlace
right_place V text p e =
    ⊎_elim (λ l. misplaced V (lexed text 0) p (sym (reads_short V text (omega (arith, l))) ∙ e))
    (λ l. let k : ◌≡◌ {A = ℕ} 3 4 = (fault_place 3 0 p (sym (reads-long V text (omega (arith, l))) ∙ e)).0 in absurd (omega (arith, k))) (cases_lt (length text) 2049)
