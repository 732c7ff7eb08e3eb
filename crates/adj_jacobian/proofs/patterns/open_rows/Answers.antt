use Rattle.std.proofs.Common.{map, length, sym, ap, ◌∙◌, eqb-true}
use Rattle.adj_tree.specs.View.{procedures_of}
use Rattle.def_jacobian.specs.Patterns.{pattern_run}
use Rattle.adj_interp.specs.Concludes.{slot_seen}
use Rattle.adj_jacobian_groups.specs.View.{place_of, rows_of}
use Rattle.adj_jacobian.specs.Ends.{task_on}
use Rattle.adj_jacobian.proofs.Rowing.{no_rows, no_places}
use Rattle.adj_jacobian.proofs.patterns.open_rows.Goals as goal

pub returns-then-is_empty : goal.returns-then-is_empty
returns-then-is_empty c = λ u at.
    let p = task_on (procedures_of c.args.program.now.program) u c.args.head.now.vars (map slot_seen c.args.input.now) c.args.budget in
    no_rows c.args.total (map place_of c.args.cells.now) (pattern_run p) (rows_of c.new.result.items)
    (no_places c.args.cells.now (eqb-true (length c.args.cells.now) 0 (sym c.is_empty.ensures ∙ c.if-is_empty.true))) (ap rows_of c.new.ensures.items)
