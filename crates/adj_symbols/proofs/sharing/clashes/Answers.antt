use Rattle.std.proofs.Common.{ap, ◌∙◌}
use Rattle.adj_tree.specs.View.{term_of, procedure_of}
use Rattle.adj_symbols.specs.Sharing.{and_named, tests_of}
use Rattle.adj_symbols.proofs.Clashing.{tests_more}
use Rattle.adj_symbols.proofs.sharing.clashes.Goals as goal

pub returns-clause-known : goal.returns-clause-known
returns-clause-known c =
    let n = c.args.known.now in
    let x = c.in-Some.name.now in
    ap tests_of c.in_ok-add.ensures.added
    ∙ ap (λ b. tests_of (and_named n x c.args.is_written b)) c.is_whole_array-is_array.ensures
    ∙ tests_more (procedure_of c.args.caller.now) n x c.args.is_written (term_of c.args.actual.now) c.in-Some.ensures
