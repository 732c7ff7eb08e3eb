use Rattle.std.proofs.Common.{rules, FitsSigned, w64, ◌≡◌, ◌++◌, Some, map, sym, ap, ◌∙◌, slice_get, codes}
use Rattle.std.proofs.lemmas.Int.{to_z-of_z}
use Rattle.adj_tree.specs.Code.{Procedure}
use Rattle.adj_tree.specs.View.{procedure_of, procedures_of}
use Rattle.def_sweep.specs.Tangents.{cells_of, product}
use Rattle.adj_data.specs.Given.{slot_seen}
use Rattle.adj_tool_answer.specs.Answer.{line_of_one}
use Rattle.adj_tool_answer.proofs.Heads.{stands_at}
use Rattle.adj_tool_check.specs.Checking.{flagged_lines, output_lines, products_line}
use Rattle.adj_tool_check.proofs.checking.compared.Goals as goal

pub returns : goal.returns
returns c = λ p here vars outvars.
    let ps = procedures_of c.args.original.program.now.program in
    let us = c.as_slice.result.now in
    let v = c.index-as_slice-original.result in
    let same : map procedure_of us ≡ ps = ap (map procedure_of) c.as_slice.ensures.members ∙ ap procedures_of c.program.ensures.program in
    let both : Some (procedure_of v) ≡ Some p.head = sym (stands_at ps us same c.args.original.head.now.unit v c.requires.there c.index-as_slice-original.is) ∙ here in
    let is : procedure_of v ≡ p.head = cc in
    let names : c.as_slice-names.result.now ≡ p.head.dummies = c.as_slice-names.ensures.members ∙ ap (λ (w : Procedure). w.dummies) is in
    let varied : c.as_slice-vars.result.now ≡ p.vars = c.as_slice-vars.ensures.members ∙ sym vars in
    let wanted : c.as_slice-outvars.result.now ≡ p.outvars = c.as_slice-outvars.ensures.members ∙ sym outvars in
    let outs = map slot_seen c.args.gained.outputs.now in
    let tans = cells_of (map slot_seen c.args.gained.tangents.now) in
    let adjs = cells_of (map slot_seen c.args.gained.adjoints.now) in
    let fits : FitsSigned w64 c.in_ok-inputs.inputs = search rules in
    let fits_too : FitsSigned w64 c.in_ok-outputs.outputs = search rules in
    let inputs = to_z-of_z w64 c.in_ok-inputs.inputs fits ∙ c.in_ok-inputs.ensures ∙ (λ i. product (varied i) adjs (cells_of (map slot_seen (c.as_slice-2.ensures.members i)))) in
    let outputs = to_z-of_z w64 c.in_ok-outputs.outputs fits_too ∙ c.in_ok-outputs.ensures ∙ (λ i. product (wanted i) (cells_of (map slot_seen (c.as_slice-3.ensures.members i))) tans) in
    let text = c.in_ok-text.ensures ∙ (λ i. (output_lines (names i) outs ++ (flagged_lines (codes "TAN ") (wanted i) (names i) tans ++ flagged_lines (codes "ADJ ") (varied i) (names i) adjs))
    ++ (products_line (inputs i) (outputs i) ++ line_of_one (codes "ADVANCES ") c.args.gained.advances)) in
    λ i. record { status = 0; text = text i }
