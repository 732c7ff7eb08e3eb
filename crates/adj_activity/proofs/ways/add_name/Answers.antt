use Rattle.std.proofs.Common.{ap, sym, ◌∙◌}
use Rattle.std.specs.Prelude.{is_some, ◌||◌}
use Rattle.adj_tree.specs.Code.{plain}
use Rattle.adj_tree.specs.View.{term_of}
use Rattle.def_flow.specs.Ways.{is_name}
use Rattle.adj_symbols_writes.specs.Table.{value_of}
use Rattle.adj_flow.proofs.Some.{some_more}
use Rattle.adj_activity.proofs.ways.add_name.Goals as goal

pub returns-in_ok-add-in-Var : goal.returns-in_ok-add-in-Var
returns-in_ok-add-in-Var c = record {
  added = λ x. some_more x c.args.passed.now c.add.new.self c.in-Var.name 0 c.in_ok-add-in-Var.ensures.added ∙ ap (λ e. is_some (value_of x c.args.passed.now) || is_name (plain x) (term_of e)) (sym c.in-Var.is);
}
