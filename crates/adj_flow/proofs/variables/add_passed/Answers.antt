use Rattle.std.proofs.Common.{◌++◌, drop, sym, ap, ◌∙◌, append-nil}
use Rattle.adj_tree.specs.View.{terms_of}
use Rattle.adj_symbols_writes.specs.View.{vars_seen}
use Rattle.adj_flow.specs.Passed.{passed_in}
use Rattle.adj_flow.proofs.ActualLists.{no_passed}
use Rattle.adj_flow.proofs.variables.add_passed.Goals as goal

pub returns-in-Empty : goal.returns-in-Empty
returns-in-Empty c =
    let left = drop c.loop-is_flagged.is_flagged-index c.args.flags.now in
    let made = vars_seen c.loop-is_flagged.out.items in
    record { added = sym (append-nil made) ∙ ap (λ z. made ++ z) (sym (no_passed left)) ∙ ap (λ z. made ++ passed_in left (terms_of z)) (sym c.in-Empty.is) ∙ c.loop-is_flagged.invariant }
