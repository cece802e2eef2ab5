use Rattle.std.proofs.Common.{rules, ◌≤◌, refl, arith}
use Rattle.goals.specs.Tokens.{is_letter, is_digit}
use Rattle.goals.proofs.Lexing.{leads_name, leads_number, leads_variable}
use Rattle.goals.proofs.token.Kind.first_of.Goals as goal

pub returns-in-97-to-122 : goal.returns-in-97-to-122
returns-in-97-to-122 c =
    let low : 97 ≤ c.in-Some.first.now = omega arith in
    let high : c.in-Some.first.now ≤ 122 = omega arith in
    leads_name c.in-Some.first.now c.in-Some.behind.now c.args.bytes.now c.name.result c.in-Some.ensures.cases.0 _ low high (c.run_of-length-in-97-to-122.ensures.value is_letter (λ b r h. search rules)) c.name.ensures

pub returns-in-48-to-57 : goal.returns-in-48-to-57
returns-in-48-to-57 c =
    let low : 48 ≤ c.in-Some.first.now = omega arith in
    let high : c.in-Some.first.now ≤ 57 = omega arith in
    leads_number c.in-Some.first.now c.in-Some.behind.now c.args.bytes.now c.number.result c.in-Some.ensures.cases.0 _ low high (c.run_of-length-in-48-to-57.ensures.value is_digit (λ b r h. search rules)) c.number.ensures

pub returns-in-63 : goal.returns-in-63
returns-in-63 c =
    leads_variable c.in-Some.first.now c.in-Some.behind.now c.args.bytes.now c.variable.result c.in-Some.ensures.cases.0 _ c.run_of-length.result c.in-63.is refl
    (c.run_of-length.ensures.value is_letter (λ b r h. search rules)) c.variable.ensures
