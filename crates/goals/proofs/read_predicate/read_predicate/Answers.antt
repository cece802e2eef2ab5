use Rattle.std.proofs.Common.{◌≡◌, ℕ, ◌+◌, ◌≤◌, List, ◌++◌, length, take, min, ap, ◌∙◌, arith}
use Rattle.std.proofs.lemmas.List.{take-append-le, take_all}
use Rattle.goals.specs.Bytes.{byte_at}
use Rattle.goals.specs.Sections.{predicate_at, bytes_at}
use Rattle.std.proofs.lemmas.Bool.Decides.{nat_tests}
use Rattle.goals.proofs.PredicateSteps.{bytes_count, predicate_back, letters_past, range-bytes}
use Rattle.goals.proofs.read_predicate.read_predicate.Goals as goal

pub returns-then-not-in_limits : goal.returns-then-not-in_limits
returns-then-not-in_limits c = grind (arith, bytes_count)

pub returns-in_err-letters : goal.returns-in_err-letters
returns-in_err-letters c = rw c.from_residual.ensures (grind (arith, nat_tests, bytes_count, letters_past))

pub returns-then-not-are_letters : goal.returns-then-not-are_letters
returns-then-not-are_letters c = grind (arith, bytes_count, range-bytes)

-- the name in use is what was written in front
name_written : (xs ys : List ℕ) (n : ℕ) → length xs ≡ n → n ≤ 16 → take (min n 16) (xs ++ ys) ≡ xs
name_written xs ys n e l = take-append-le (min n 16) xs ys (omega arith) ∙ take_all (min n 16) xs (omega arith)

pub returns : goal.returns
returns c =
    let few : c.from-length.result ≤ 16 = grind (arith, nat_tests) in
    let read = c.in_ok-letters.ensures.lookup.0 in
    let same : c.from-length.result ≡ byte_at c.args.file.now (c.args.at + 1) = c.from-length.ensures ∙ c.byte_at.ensures in (
      predicate_back (predicate_at c.args.file.now c.args.at) c.byte_at-places.result _ c.byte_at-places.ensures
          (name_written c.copy_from_slice.new.self _ c.from-length.result (omega (arith, ap length c.copy_from_slice.ensures.after, read.3)) few
          ∙ c.copy_from_slice.ensures.after
          ∙ read.2
          ∙ range-bytes c.args.file.now c.from-length.result (c.args.at + 2) read.1
          ∙ ap (λ m. bytes_at c.args.file.now m (c.args.at + 2)) same),
      grind (arith, bytes_count, range-bytes),
      few,
      same,
    )
