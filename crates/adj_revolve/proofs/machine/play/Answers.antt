use Rattle.std.proofs.Common.{arith, ◌∙◌, ap, refl, Err, length}
use Rattle.adj_revolve.specs.Machine.{start_state}
use Rattle.adj_revolve.specs.declared.machine.Action.TheVariants.{Store}
use Rattle.adj_revolve.specs.Playing.{state_of}
use Rattle.adj_revolve.proofs.PlayLemmas.{played_next, failed_here, failed_end, played_all, played_least, fails_apart, fails_only}
use Rattle.adj_revolve.proofs.machine.play.Goals as goal

-- the action that is not allowed is where the list fails
pub returns-then-not-allows-clause-fails : goal.returns-then-not-allows-clause-fails
returns-then-not-allows-clause-fails c i =
    let here = failed_here c.args.snapshots (start_state c.args.steps) c.args.actions.now c.loop-i.i (state_of c.loop-i.machine) c.loop-i.cost (Store 0) c.loop-i-test.true (λ a. cc (c.if-not-allows.ensures.1 a)) c.loop-i.invariant.played in
    let only = fails_only c.args.snapshots (start_state c.args.steps) c.args.actions.now c.loop-i.i here i in
    ((λ e. only.0 (cc e)), (λ f. ap Err (only.1 f)))

pub returns-then-not-allows-clause-plays : goal.returns-then-not-allows-clause-plays
returns-then-not-allows-clause-plays c =
    let here = failed_here c.args.snapshots (start_state c.args.steps) c.args.actions.now c.loop-i.i (state_of c.loop-i.machine) c.loop-i.cost (Store 0) c.loop-i-test.true (λ a. cc (c.if-not-allows.ensures.1 a)) c.loop-i.invariant.played in
    ((λ e. absurd (cc e)), (λ h. absurd (fails_apart c.args.snapshots (start_state c.args.steps) c.args.actions.now c.loop-i.i here h)))

pub loop-i-preserved : goal.loop-i-preserved
loop-i-preserved c = record {
  played = played_next c.args.snapshots (start_state c.args.steps) c.args.actions.now c.loop-i.i (state_of c.loop-i.machine) (state_of c.act.new.self) c.loop-i.cost c.from-cost.result (Store 0) c.loop-i-test.true (c.if-not-allows.ensures.0 refl) c.act.ensures (c.from-cost.ensures ∙ c.cost_of.ensures) c.loop-i.invariant.played;
  fits = omega arith;
}

-- a list that plays fails nowhere
pub returns-then-machine-eq0-clause-fails : goal.returns-then-machine-eq0-clause-fails
returns-then-machine-eq0-clause-fails c i =
    let all = played_all c.args.snapshots (start_state c.args.steps) c.args.actions.now c.loop-i.i (state_of c.loop-i.machine) c.loop-i.cost c.loop-i-test.false c.if-machine-eq0.true c.loop-i.invariant.played in
    ((λ e. absurd (cc e)), (λ f. absurd (fails_apart c.args.snapshots (start_state c.args.steps) c.args.actions.now i f all.0)))

pub returns-then-machine-eq0-clause-least : goal.returns-then-machine-eq0-clause-least
returns-then-machine-eq0-clause-least c =
    played_least c.args.steps c.args.snapshots c.args.actions.now c.loop-i.i (state_of c.loop-i.machine) c.loop-i.cost c.requires.some c.loop-i-test.false c.if-machine-eq0.true c.loop-i.invariant.played

-- a list that leaves steps fails at its end
pub returns-else-machine-eq0-clause-fails : goal.returns-else-machine-eq0-clause-fails
returns-else-machine-eq0-clause-fails c i =
    let here = failed_end c.args.snapshots (start_state c.args.steps) c.args.actions.now c.loop-i.i (state_of c.loop-i.machine) c.loop-i.cost (omega arith) c.if-machine-eq0.false c.loop-i.invariant.played in
    let only = fails_only c.args.snapshots (start_state c.args.steps) c.args.actions.now (length c.args.actions.now) here i in
    ((λ e. only.0 (cc e)), (λ f. ap Err (only.1 f)))

pub returns-else-machine-eq0-clause-plays : goal.returns-else-machine-eq0-clause-plays
returns-else-machine-eq0-clause-plays c =
    let here = failed_end c.args.snapshots (start_state c.args.steps) c.args.actions.now c.loop-i.i (state_of c.loop-i.machine) c.loop-i.cost (omega arith) c.if-machine-eq0.false c.loop-i.invariant.played in
    ((λ e. absurd (cc e)), (λ h. absurd (fails_apart c.args.snapshots (start_state c.args.steps) c.args.actions.now (length c.args.actions.now) here h)))
