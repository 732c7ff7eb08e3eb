use Rattle.std.proofs.Common.{ap, ◌∙◌, ◌∷◌, ◌+◌, take, sym}
use Rattle.std.proofs.lemmas.List.{take_rest}
use Rattle.adj_tool.specs.Arguments.{pieces}
use Rattle.adj_tool.proofs.Pieces.{cut_first, uncut}
use Rattle.adj_tool.proofs.values.split_piece.Goals as goal

pub returns-in-Some-clause-pieces : goal.returns-in-Some-clause-pieces
returns-in-Some-clause-pieces c =
    let argument = c.args.argument.now in
    let h = c.in-Some.ensures in
    cut_first argument c.in-Some.end h.0 h.1 h.2 ∙ ap (λ rest. take c.in-Some.end argument ∷ pieces rest) (sym (take_rest argument (c.in-Some.end + 1)))

pub returns-in-None-clause-pieces : goal.returns-in-None-clause-pieces
returns-in-None-clause-pieces c = uncut c.args.argument.now c.in-None.ensures
