use Rattle.std.proofs.Common.{rules, FitsSigned, w64, ◌++◌, map, ap, ◌∙◌, codes}
use Rattle.std.proofs.lemmas.Int.{to_z-of_z}
use Rattle.def_sweep.specs.Tangents.{cells_of}
use Rattle.adj_data.specs.Given.{slot_seen}
use Rattle.adj_tool_answer.specs.Answer.{line_of_one}
use Rattle.adj_tool_check.specs.Checking.{flagged_lines, output_lines, products_line}
use Rattle.adj_tool_check.proofs.Walks.{joined_text}
use Rattle.adj_tool_check.proofs.checking.compared_text.Goals as goal

pub returns : goal.returns
returns c =
    let names = c.args.names.now in
    let outs = output_lines names (map slot_seen c.args.gained.outputs.now) in
    let tans = flagged_lines (codes "TAN ") c.args.outvars.now names (cells_of (map slot_seen c.args.gained.tangents.now)) in
    let adjs = flagged_lines (codes "ADJ ") c.args.vars.now names (cells_of (map slot_seen c.args.gained.adjoints.now)) in
    let both = products_line c.args.inputs c.args.outputs in
    let fits : FitsSigned w64 c.args.inputs = search rules in
    let fits_too : FitsSigned w64 c.args.outputs = search rules in
    let first = to_z-of_z w64 c.args.inputs fits in
    let second = to_z-of_z w64 c.args.outputs fits_too in
    joined_text outs tans adjs both (codes "ADVANCES ") _ (codes "\n") _ _ _ _ _ _ _ c.new-text.ensures.items c.in_ok-push_outputs.ensures c.in_ok-push_flagged.ensures c.in_ok-push_flagged-2.ensures (c.in_ok-push_products.ensures ∙ (λ i. c.push_flagged-2.new.out.items ++ products_line (first i) (second i))) c.in_ok-push_number.ensures c.in_ok-push.ensures.items
    ∙ ap (λ k. (outs ++ (tans ++ adjs)) ++ (both ++ line_of_one (codes "ADVANCES ") k)) c.from.ensures
