use Rattle.std.proofs.Common.{ap}
use Rattle.goals.specs.Vocabulary.{places_of}
use Rattle.goals.specs.Promises.{vocabulary, TestSays}
use Rattle.goals.proofs.Terms.{broke, told_as, name_unknown, name-over, places-two, open_fault, first-fault, close-fault, test-one, second-fault, close-two-fault, test-two, test-bare}
use Rattle.goals.proofs.words.Reader.test.Goals as goal

pub returns-in_default : goal.returns-in_default
returns-in_default c = λ r d e. name_unknown (vocabulary c.args.self.now.words) c.requires.here c.in_default.ensures r

pub returns-in_err-take : goal.returns-in_err-take
returns-in_err-take c =
    let x = c.in_err-take.ensures in
    broke (TestSays (vocabulary c.args.self.now.words) c.args.self.now.scope c.args.nodes c.args.called.token.place c.args.s.now _) _ c.from_residual.result c.from_residual.ensures.1
    (λ r d e. told_as x.0 (name-over (vocabulary c.args.self.now.words) c.requires.here c.args.nodes c.in-Some.sense.predicate (places_of c.in-Some.sense.places) c.in-Some.ensures x.1 r e))

pub returns-then-sense-eq0 : goal.returns-then-sense-eq0
returns-then-sense-eq0 c = test-bare (vocabulary c.args.self.now.words) c.requires.here c.in_ok-take.ensures _ c.in-Some.sense.places c.in-Some.ensures c.if-sense-eq0.true c.args.self.now.scope

pub returns-in_err-expect : goal.returns-in_err-expect
returns-in_err-expect c =
    let x = c.in_err-expect.ensures in
    broke (TestSays (vocabulary c.args.self.now.words) c.args.self.now.scope c.args.nodes c.args.called.token.place c.args.s.now _) _ c.from_residual-in_err-expect.result c.from_residual-in_err-expect.ensures.1
    (λ r d e. told_as x.0 (open_fault (vocabulary c.args.self.now.words) c.requires.here c.in_ok-take.ensures _ c.in-Some.sense.places c.in-Some.ensures c.if-sense-eq0.false r e x.1))

pub returns-in_err-first : goal.returns-in_err-first
returns-in_err-first c =
    broke (TestSays (vocabulary c.args.self.now.words) c.args.self.now.scope c.args.nodes c.args.called.token.place c.args.s.now _) _ c.from_residual-in_err-first.result c.from_residual-in_err-first.ensures.1
    (first-fault (vocabulary c.args.self.now.words) c.requires.here c.in_ok-take.ensures _ c.in-Some.sense.places c.in-Some.ensures c.if-sense-eq0.false c.in_ok-expect.ensures _ _ c.in_err-first.ensures)

pub returns-in_err-expect-2 : goal.returns-in_err-expect-2
returns-in_err-expect-2 c =
    let x = c.in_err-expect-2.ensures in
    broke (TestSays (vocabulary c.args.self.now.words) c.args.self.now.scope c.args.nodes c.args.called.token.place c.args.s.now _) _ c.from_residual-in_err-expect-2.result c.from_residual-in_err-expect-2.ensures.1
    (λ r d e. told_as x.0 (close-fault (vocabulary c.args.self.now.words) c.requires.here c.in_ok-take.ensures _ c.in-Some.sense.places c.in-Some.ensures c.if-sense-eq0.false c.in_ok-expect.ensures c.in_ok-first.ensures (ap places_of c.if-sense-eq1.true) x.1 r d e))

pub returns-then-sense-eq1 : goal.returns-then-sense-eq1
returns-then-sense-eq1 c =
    test-one (vocabulary c.args.self.now.words) c.requires.here c.in_ok-take.ensures _ c.in-Some.sense.places c.in-Some.ensures c.if-sense-eq0.false c.in_ok-expect.ensures c.in_ok-first.ensures (ap places_of c.if-sense-eq1.true) c.in_ok-expect-2.ensures

pub returns-in_err-second : goal.returns-in_err-second
returns-in_err-second c =
    broke (TestSays (vocabulary c.args.self.now.words) c.args.self.now.scope c.args.nodes c.args.called.token.place c.args.s.now _) _ c.from_residual-in_err-second.result c.from_residual-in_err-second.ensures.1
    (second-fault (vocabulary c.args.self.now.words) c.requires.here c.in_ok-take.ensures _ c.in-Some.sense.places c.in-Some.ensures c.if-sense-eq0.false c.in_ok-expect.ensures c.in_ok-first.ensures (places-two _ c.if-sense-eq0.false c.if-sense-eq1.false) _ c.in_err-second.ensures)

pub returns-in_err-expect-3 : goal.returns-in_err-expect-3
returns-in_err-expect-3 c =
    let x = c.in_err-expect-3.ensures in
    broke (TestSays (vocabulary c.args.self.now.words) c.args.self.now.scope c.args.nodes c.args.called.token.place c.args.s.now _) _ c.from_residual-in_err-expect-3.result c.from_residual-in_err-expect-3.ensures.1
    (λ r d e. told_as x.0 (close-two-fault (vocabulary c.args.self.now.words) c.requires.here c.in_ok-take.ensures _ c.in-Some.sense.places c.in-Some.ensures c.if-sense-eq0.false c.in_ok-expect.ensures c.in_ok-first.ensures c.in_ok-second.ensures (places-two _ c.if-sense-eq0.false c.if-sense-eq1.false) x.1 r d e))

pub returns : goal.returns
returns c =
    test-two (vocabulary c.args.self.now.words) c.requires.here c.in_ok-take.ensures _ c.in-Some.sense.places c.in-Some.ensures c.if-sense-eq0.false c.in_ok-expect.ensures c.in_ok-first.ensures c.in_ok-second.ensures (places-two _ c.if-sense-eq0.false c.if-sense-eq1.false) c.in_ok-expect-3.ensures
