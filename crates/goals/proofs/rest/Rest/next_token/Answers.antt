use Rattle.std.proofs.Common.{rules, length, drop, sym, ap, ◌∙◌, arith, length-drop}
use Rattle.goals.specs.Tokens.{is_blank}
use Rattle.goals.specs.Seen.{used}
use Rattle.goals.proofs.Lexing.{behind_blanks, run_stops, leads, leads-within}
use Rattle.goals.proofs.rest.Rest.next_token.Goals as goal

pub behind-requires : goal.behind-requires
behind-requires c = leads-within c.behind-here.result.bytes.now _ _ c.first_of-length.ensures

pub returns : goal.returns
returns c =
    let w = c.args.self in
    let v = c.behind-here.result in
    let u = c.behind.result in
    let blanks = c.run_of-blanks.ensures.value is_blank (λ b r h. search rules) in
    let bytes = c.behind-here.ensures.bytes in
    let before = behind_blanks w.place w.bytes.now c.run_of-blanks.result v.place v.bytes.now blanks c.behind-here.ensures.place bytes in
    let token =
    leads v.place v.bytes.now _ _ u.place u.bytes.now (λ b bs e. run_stops is_blank w.bytes.now b bs (ap (λ n. drop n w.bytes.now) (sym blanks) ∙ sym bytes ∙ e)) c.first_of-length.ensures c.behind.ensures.place c.behind.ensures.bytes
    in
    record {
      there = before ∙ token.0;
      further =
          let e = ap used before in
          let k = ap length bytes ∙ length-drop c.run_of-blanks.result w.bytes.now in
          let l = token.1 in
          omega (arith, e, k, l);
    }
