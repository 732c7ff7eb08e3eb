use Rattle.std.proofs.Common.{ap, sym, ◌∙◌}
use Rattle.std.specs.Prelude.{is_some, ◌||◌}
use Rattle.adj_tree.specs.Code.{plain}
use Rattle.adj_tree.specs.View.{term_of, terms_of}
use Rattle.def_flow.specs.Ways.{is_name, is_actual}
use Rattle.adj_symbols_writes.specs.Table.{value_of}
use Rattle.adj_activity.proofs.Passing.{or_assoc}
use Rattle.adj_activity.proofs.ways.add_names.Goals as goal

pub loop-rest-preserved : goal.loop-rest-preserved
loop-rest-preserved c x =
    ap (λ z. is_some (value_of x c.add_name.new.passed) || is_actual (plain x) (terms_of z)) c.deref-rest.ensures
    ∙ ap (λ b. b || is_actual (plain x) (terms_of c.in-More.next.value)) (c.in_ok-add_name.ensures.added x ∙ ap (λ e. is_some (value_of x c.loop-rest.passed) || is_name (plain x) (term_of e)) c.deref.ensures)
    ∙ or_assoc (is_some (value_of x c.loop-rest.passed)) (is_name (plain x) (term_of c.in-More.first.value)) (is_actual (plain x) (terms_of c.in-More.next.value))
    ∙ ap (λ z. is_some (value_of x c.loop-rest.passed) || is_actual (plain x) (terms_of z)) (sym c.in-More.is)
    ∙ c.loop-rest.invariant x
