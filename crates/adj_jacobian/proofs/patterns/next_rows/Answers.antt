use Rattle.std.proofs.Common.{map, ap, ◌∙◌}
use Rattle.adj_tree.specs.View.{procedures_of}
use Rattle.def_jacobian.specs.Patterns.{pattern_run}
use Rattle.adj_interp.specs.Concludes.{slot_seen}
use Rattle.adj_interp.specs.Inputs.{entry_seen}
use Rattle.adj_jacobian_groups.specs.View.{rows_of}
use Rattle.adj_jacobian.specs.Parts.{with_block}
use Rattle.adj_jacobian.specs.Ends.{task_on}
use Rattle.adj_jacobian.proofs.Rowing.{rows_told}
use Rattle.adj_jacobian.proofs.patterns.next_rows.Goals as goal

pub returns : goal.returns
returns c = λ u here.
    let p = task_on (procedures_of c.args.program.now.program) u c.args.head.now.vars (map slot_seen c.args.input.now) c.args.budget in
    rows_told c.args.block c.args.total (pattern_run p) (map entry_seen c.in_ok-slots.slots.items) (rows_of c.args.rows.items) (rows_of c.in_ok-new.new.items)
    (c.in_ok-slots.ensures u here)
    (c.in_ok-new.ensures ∙ ap (λ ss. map (with_block c.args.block c.args.total (map entry_seen ss)) (rows_of c.args.rows.items)) c.as_slice.ensures.value)
