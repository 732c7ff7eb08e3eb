use Rattle.std.proofs.Common.{◌++◌, drop, sym, ap, ◌∙◌, append-nil}
use Rattle.adj_tree.specs.View.{terms_of}
use Rattle.def_names.specs.VariableLists.{handed_in_actuals}
use Rattle.adj_symbols_writes.specs.View.{vars_seen}
use Rattle.adj_symbols_writes.proofs.Actuals.{no_handed}
use Rattle.adj_symbols_writes.proofs.variables.add_handed.Goals as goal

pub returns-in-Empty : goal.returns-in-Empty
returns-in-Empty c =
    let left = drop c.loop-is_written.is_written-index c.args.written.now in
    let made = vars_seen c.loop-is_written.out.items in
    record { added = sym (append-nil made) ∙ ap (λ z. made ++ z) (sym (no_handed left)) ∙ ap (λ z. made ++ handed_in_actuals left (terms_of z)) (sym c.in-Empty.is) ∙ c.loop-is_written.invariant }
