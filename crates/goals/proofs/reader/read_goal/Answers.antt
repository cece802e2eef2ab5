use Rattle.std.proofs.Common.{◌≡◌, refl, ap, ◌∙◌}
use Rattle.goals.specs.Seen.{seen, tokens_in}
use Rattle.goals.specs.Scopes.{outermost}
use Rattle.goals.specs.Reading.{top, after, run, read, reads, joined_or}
use Rattle.goals.specs.GoalClaims.{GoalSays, tree_of}
use Rattle.goals.specs.Vocabulary.{vocabulary_of}
use Rattle.goals.specs.Promises.{head_sign, items}
use Rattle.goals.proofs.Terms.{broke}
use Rattle.goals.proofs.Unfolding.{whole}
use Rattle.goals.proofs.Whole.{reads_short, reads-long, ends-here, from_empty, parts-of, root-of, few-of, no_end}
use Rattle.goals.proofs.Rising.{formula_rises, nodes_rise}
use Rattle.goals.proofs.Theorems.{exactly, only-reading, read-ranged}
use Rattle.goals.proofs.Viable.{right_place}
use Rattle.goals.proofs.reader.read_goal.Goals as goal

pub returns-then-text-gt-MOST_BYTES : goal.returns-then-text-gt-MOST_BYTES
returns-then-text-gt-MOST_BYTES c =
    record {
      value = reads-long (vocabulary_of c.args.ids c.args.predicates.now) c.args.text.now c.if-text-gt-MOST_BYTES.true;
      exactly = exactly;
      one = only-reading;
      placing = right_place;
    }

pub returns-in_err-root : goal.returns-in_err-root
returns-in_err-root c =
    let V = vocabulary_of c.args.ids c.args.predicates.now in
    record {
      value =
          broke (GoalSays V c.args.text.now) _ c.from_residual.result c.from_residual.ensures.1
          (reads_short V c.args.text.now c.if-text-gt-MOST_BYTES.false ∙ c.in_err-root.ensures top refl);
      exactly = exactly;
      one = only-reading;
      placing = right_place;
    }

pub returns-in_default : goal.returns-in_default
returns-in_default c =
    let V = vocabulary_of c.args.ids c.args.predicates.now in
    let f = c.in_ok-root.ensures in
    let q = c.formula.new.s in
    let n = c.next_token-token in
    let v = n.ensures.there in
    record {
      value =
          reads_short V c.args.text.now c.if-text-gt-MOST_BYTES.false ∙ f.runs top refl ∙ ap (run V q.count (after f.last f.before top)) v
          ∙ no_end V q.count f.last f.before n.result.kind n.result.place (tokens_in n.result.rest) (λ e. f.no_and (ap head_sign v ∙ e)) (λ e. f.no_or (ap head_sign v ∙ e)) c.in_default.not-End;
      exactly = exactly;
      one = only-reading;
      placing = right_place;
    }

-- the outcome where the end was met
outcome : (c : goal.In-End) → reads (vocabulary_of c.args.ids c.args.predicates.now) c.args.text.now ≡ read (joined_or c.in_ok-root.ensures.before c.in_ok-root.ensures.last)
outcome c =
    let V = vocabulary_of c.args.ids c.args.predicates.now in
    let f = c.in_ok-root.ensures in
    let q = c.formula.new.s in
    let n = c.next_token-token in
    let v = n.ensures.there ∙ ap (λ x. seen x n.result.place (tokens_in n.result.rest)) c.in-End.is in
    reads_short V c.args.text.now c.if-text-gt-MOST_BYTES.false ∙ f.runs top refl ∙ ap (run V q.count (after f.last f.before top)) v ∙ ends-here V q.count f.last f.before n.result.place

pub invariant_of-result : goal.invariant_of-result
invariant_of-result c =
    let V = vocabulary_of c.args.ids c.args.predicates.now in
    let f = c.in_ok-root.ensures in
    let y = joined_or f.before f.last in
    let m = from_empty f.made c.args.room.empty in
    let ns = items c.formula.new.s in
    record {
      rising = parts-of ns (tree_of V y) m.0;
      ordered = nodes_rise ns (tree_of V y) m.0 (formula_rises V outermost y (read-ranged V c.args.text.now y (outcome c)));
      rooted = root-of c.formula.new.s (tree_of V y) c.in_ok-root.root m.0 m.1;
      few = few-of c.formula.new.s;
    }

pub returns : goal.returns
returns c =
    let V = vocabulary_of c.args.ids c.args.predicates.now in
    let f = c.in_ok-root.ensures in
    let q = c.formula.new.s in
    let n = c.next_token-token in
    let v = n.ensures.there ∙ ap (λ x. seen x n.result.place (tokens_in n.result.rest)) c.in-End.is in
    let m = from_empty f.made c.args.room.empty in
    let w = whole (items q) (tree_of V (joined_or f.before f.last)) c.in_ok-root.root m.0 m.1 in
    record {
      value = record {
        formula = joined_or f.before f.last;
        outcome = reads_short V c.args.text.now c.if-text-gt-MOST_BYTES.false ∙ f.runs top refl ∙ ap (run V q.count (after f.last f.before top)) v ∙ ends-here V q.count f.last f.before n.result.place;
        unfolds = w.0;
        one_place = w.1;
      };
      exactly = exactly;
      one = only-reading;
      placing = right_place;
    }
