-- Each step of the code is one of the machine.
use Rattle.std.proofs.Common.{◌∙◌, [], refl, sym}
use Rattle.adj_parse_expression.specs.PartialCondition.{test_algebra}
use Rattle.adj_parse_expression.specs.Waits.{waiting_of}
use Rattle.adj_parse_expression.proofs.ConditionReads.{test_goes_on, test_ended, test_refused, test_ends, with_rest}
use Rattle.adj_parse_expression.proofs.Runs.{AreSlices-rest}
use Rattle.adj_parse_expression.proofs.StackLemmas.{stacked-nil}
use Rattle.adj_parse_expression.proofs.conditions.read.Goals as goal

pub loop-token-init : goal.loop-token-init
loop-token-init c = record { so_far = rw (c.new-waits.ensures.items, stacked-nil waiting_of [] refl) refl; slices = c.requires.slices }

pub returns-then-not-is_end-clause-front : goal.returns-then-not-is_end-clause-front
returns-then-not-is_end-clause-front c =
    let stuck = rw c.in-Stuck.is at c.in_ok-next.ensures in
    test_refused (test_algebra c.args.limit) c.args.text.now _ c.loop-token.rest.now _ c.in-Some.token.now c.in-Some.behind.now _ (sym c.is_end.ensures ∙ c.if-not-is_end.true) c.in-Some.ensures.cases.0 stuck.0 stuck.1 c.loop-token.invariant.so_far

pub returns-in-Stuck-clause-front : goal.returns-in-Stuck-clause-front
returns-in-Stuck-clause-front c =
    let stuck = rw c.in-Stuck.is at c.in_ok-next.ensures in
    with_rest c.args.text.now _ _ c.loop-token.rest.now c.before-in-Stuck.ensures.same c.before-in-Stuck.ensures.behind
    ∙ test_ended (test_algebra c.args.limit) c.args.text.now _ c.loop-token.rest.now _ c.in-Some.token.now c.in-Some.behind.now _ (sym c.is_end.ensures ∙ c.if-not-is_end.false) c.in-Some.ensures.cases.0 stuck.0 stuck.1 c.loop-token.invariant.so_far

pub returns-clause-front : goal.returns-clause-front
returns-clause-front c =
    with_rest c.args.text.now _ _ c.loop-token.rest.now (c.before-2.ensures.same ∙ c.in_ok-found.ensures) c.before-2.ensures.behind
    ∙ test_ends (test_algebra c.args.limit) c.args.text.now _ c.loop-token.rest.now _ c.in_default.ensures.cases c.loop-token.invariant.so_far

pub loop-token-preserved : goal.loop-token-preserved
loop-token-preserved c =
    let on = rw c.in-On.is at c.in_ok-next.ensures in
    record {
      so_far = test_goes_on (test_algebra c.args.limit) c.args.text.now _ c.loop-token.rest.now _ c.in-Some.token.now c.in-Some.behind.now _ c.in-Some.ensures.cases.0 on c.loop-token.invariant.so_far;
      slices = AreSlices-rest c.args.text.now c.loop-token.rest.now c.in-Some.behind.now c.in-Some.token.now c.in-Some.ensures.cases.0 c.loop-token.invariant.slices;
    }
