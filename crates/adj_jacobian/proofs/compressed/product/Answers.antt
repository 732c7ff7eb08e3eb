use Rattle.std.proofs.Common.{◌≡◌, [], Some, map, subst}
use Rattle.std.specs.Prelude.{Err}
use Rattle.adj_tree.specs.View.{procedures_of}
use Rattle.def_meaning.specs.Numbers.{duals}
use Rattle.def_meaning.specs.Units.{run_unit}
use Rattle.def_jacobian.specs.Groups.{seed}
use Rattle.def_jacobian.specs.Inputs.{tangents}
use Rattle.def_jacobian.specs.Patterns.{pattern_run, dual_run}
use Rattle.law_jacobian.proofs.Runs.{ends_as_dual}
use Rattle.adj_interp.specs.Concludes.{slot_seen}
use Rattle.adj_interp.specs.Dually.{DualDone, DualEnds}
use Rattle.adj_jacobian.specs.Ends.{task_on}
use Rattle.adj_jacobian.proofs.Dualing.{are_tangents, dual_input, seeded, product_told, product_stops}
use Rattle.adj_jacobian.proofs.compressed.product.Goals as goal

pub run_dual-requires-clause-tangents : goal.run_dual-requires-clause-tangents
run_dual-requires-clause-tangents c =
    let vars = c.args.head.now.vars in
    let t = seed c.args.grouping.now.group c.args.group in
    let e : map slot_seen c.in_ok-tangents.tangents ≡ tangents t vars (map slot_seen c.args.input) =
    seeded t vars c.args.sparsity.now.cols c.in_ok-tangents.tangents c.as_slice.result.now c.args.input c.as_slice.ensures.members (c.in_ok-tangents.ensures vars) c.requires.columns in
    are_tangents t vars c.args.input c.in_ok-tangents.tangents e

pub returns-in-Ok : goal.returns-in-Ok
returns-in-Ok c = λ u here.
    let ps = procedures_of c.args.program.now.program in
    let vars = c.args.head.now.vars in
    let t = seed c.args.grouping.now.group c.args.group in
    let e : map slot_seen c.in_ok-tangents.tangents ≡ tangents t vars (map slot_seen c.args.input) =
    seeded t vars c.args.sparsity.now.cols c.in_ok-tangents.tangents c.as_slice.result.now c.args.input c.as_slice.ensures.members (c.in_ok-tangents.ensures vars) c.requires.columns in
    product_told (dual_run (task_on ps u vars (map slot_seen c.args.input) c.args.budget) t) c.in-Ok._values c.in-Ok.tangents
    (subst (λ vs. DualDone (run_unit duals ps u vs [] (Some 0) c.args.budget) c.in-Ok._values c.in-Ok.tangents) (dual_input t vars c.args.input c.in_ok-tangents.tangents e) (c.in-Ok.ensures.ends u here))

pub returns-in-Err : goal.returns-in-Err
returns-in-Err c = λ u here.
    let ps = procedures_of c.args.program.now.program in
    let vars = c.args.head.now.vars in
    let t = seed c.args.grouping.now.group c.args.group in
    let p = task_on ps u vars (map slot_seen c.args.input) c.args.budget in
    let e : map slot_seen c.in_ok-tangents.tangents ≡ tangents t vars (map slot_seen c.args.input) =
    seeded t vars c.args.sparsity.now.cols c.in_ok-tangents.tangents c.as_slice.result.now c.args.input c.as_slice.ensures.members (c.in_ok-tangents.ensures vars) c.requires.columns in
    product_stops (dual_run p t) (pattern_run p) c.in-Err.stop (ends_as_dual p t)
    (subst (λ vs. DualEnds (run_unit duals ps u vs [] (Some 0) c.args.budget) (Err c.in-Err.stop)) (dual_input t vars c.args.input c.in_ok-tangents.tangents e) (c.in-Err.ensures.ends u here))
