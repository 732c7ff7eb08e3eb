use Rattle.std.proofs.Common.{◌<◌, map, arith}
use Rattle.adj_tree.specs.View.{procedures_of}
use Rattle.def_jacobian.specs.Patterns.{pattern_run}
use Rattle.adj_interp.specs.Concludes.{slot_seen}
use Rattle.adj_jacobian_groups.specs.View.{place_of, rows_of}
use Rattle.adj_jacobian.specs.Ends.{task_on}
use Rattle.adj_jacobian.proofs.Rowing.{built_first, built_next, built_whole}
use Rattle.adj_jacobian.proofs.patterns.rows_by_blocks.Goals as goal

pub loop-block-init : goal.loop-block-init
loop-block-init c = λ u at.
    let p = task_on (procedures_of c.args.program.now.program) u c.args.head.now.vars (map slot_seen c.args.input.now) c.args.budget in
    built_first c.args.total (map place_of c.args.cells.now) (pattern_run p) (rows_of c.in_ok-rows.rows.items) c.in_ok-rows.ensures

pub next_rows-requires-clause-within : goal.next_rows-requires-clause-within
next_rows-requires-clause-within c =
    let test = c.loop-block-test.true in
    let lt : c.loop-block.block < c.blocks_for-block-end.result = omega (arith, test) in
    c.blocks_for-block-end.ensures.within c.loop-block.block lt

pub loop-block-preserved : goal.loop-block-preserved
loop-block-preserved c = λ u at.
    let p = task_on (procedures_of c.args.program.now.program) u c.args.head.now.vars (map slot_seen c.args.input.now) c.args.budget in
    let k = c.loop-block.block in
    let test = c.loop-block-test.true in
    let lt : k < c.blocks_for-block-end.result = omega (arith, test) in
    built_next k c.args.total (map place_of c.args.cells.now) (pattern_run p) (rows_of c.loop-block.rows.items) (rows_of c.in_ok-rows-2.rows.items)
    (c.blocks_for-block-end.ensures.within k lt) (c.loop-block.invariant u at) (c.in_ok-rows-2.ensures u at)

pub returns : goal.returns
returns c = λ u at.
    let p = task_on (procedures_of c.args.program.now.program) u c.args.head.now.vars (map slot_seen c.args.input.now) c.args.budget in
    let k = c.loop-block.block in
    let test = c.loop-block-test.false in
    let past = c.loop-block.auto.block-end in
    let all = c.blocks_for-block-end.ensures.all in
    built_whole k c.args.total (map place_of c.args.cells.now) (pattern_run p) (rows_of c.loop-block.rows.items) (omega (arith, test, past, all)) (c.loop-block.invariant u at)
