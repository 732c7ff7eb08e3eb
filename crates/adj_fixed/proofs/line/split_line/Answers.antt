use Rattle.std.proofs.Common.{ap, ◌∙◌, ◌∷◌, ◌+◌, take, sym}
use Rattle.std.proofs.lemmas.List.{take_rest}
use Rattle.def_text.specs.Line.{cut_lines}
use Rattle.def_text.proofs.Cutting.{cut_first, cut_last, cut_lines-nil}
use Rattle.adj_fixed.proofs.line.split_line.Goals as goal

pub returns-in-Some-clause-lines : goal.returns-in-Some-clause-lines
returns-in-Some-clause-lines c =
    let bytes = c.args.bytes.now in
    let h = c.in-Some.ensures in
    cut_first bytes c.in-Some.end h.0 h.1 h.2 ∙ ap (λ rest. take c.in-Some.end bytes ∷ cut_lines rest) (sym (take_rest bytes (c.in-Some.end + 1)))

pub returns-in-None-clause-lines : goal.returns-in-None-clause-lines
returns-in-None-clause-lines c = cut_last c.args.bytes.now c.requires c.in-None.ensures ∙ ap (λ rest. c.args.bytes.now ∷ rest) (sym cut_lines-nil)
