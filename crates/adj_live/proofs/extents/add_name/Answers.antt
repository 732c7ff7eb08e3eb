use Rattle.std.proofs.Common.{ap, sym, ◌∙◌}
use Rattle.std.specs.Prelude.{is_some, ◌||◌}
use Rattle.adj_tree.specs.View.{extent_of}
use Rattle.adj_symbols_writes.specs.Table.{value_of}
use Rattle.adj_flow.proofs.Some.{some_more}
use Rattle.adj_live.specs.Extents.{is_named}
use Rattle.adj_live.proofs.Naming.{or_none}
use Rattle.adj_live.proofs.extents.add_name.Goals as goal

pub returns-in_ok-add-in-Dummy : goal.returns-in_ok-add-in-Dummy
returns-in_ok-add-in-Dummy c = record {
  added = λ x. some_more x c.args.names.now c.add.new.self c.in-Dummy.name 0 c.in_ok-add-in-Dummy.ensures.added ∙ ap (λ e. is_some (value_of x c.args.names.now) || is_named x (extent_of e)) (sym c.in-Dummy.is);
}

pub returns-in-Lit : goal.returns-in-Lit
returns-in-Lit c = record { added = λ x. or_none (is_some (value_of x c.args.names.now)) ∙ ap (λ e. is_some (value_of x c.args.names.now) || is_named x (extent_of e)) (sym c.in-Lit.is) }
