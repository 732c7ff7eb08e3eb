use Rattle.std.proofs.Common.{ap, sym, ◌∙◌, drop}
use Rattle.adj_tree.specs.View.{terms_of}
use Rattle.def_names.specs.WriteFaults.{hands_back_values}
use Rattle.adj_symbols.proofs.Clashing.{no_values}
use Rattle.adj_symbols.proofs.sharing.hands_back_values.Goals as goal

pub returns-in-Empty : goal.returns-in-Empty
returns-in-Empty c =
    let left = drop c.loop-is_written.is_written-index c.args.row.now in
    sym (no_values left) ∙ ap (λ z. hands_back_values left (terms_of z)) (sym c.in-Empty.is) ∙ c.loop-is_written.invariant
