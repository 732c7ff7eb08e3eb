use Rattle.std.proofs.Common.{◌∙◌, sym, ap, eqb, get_or}
use Rattle.std.proofs.lemmas.Bool.{ne_eqb, eq-eqb}
use Rattle.def_text.proofs.Beginning.{found, cut_off, differs, agrees}
use Rattle.adj_fixed.proofs.directive.begins_in_either_case.Goals as goal
use Rattle.adj_fixed.proofs.directive.begins_in_either_case.Goals.{then-i-line-via-then-i-line, then-i-line-via-else-i-line+then-to_ascii_uppercase-w}

pub returns-then-i-line : goal.returns-then-i-line
returns-then-i-line c =
    elim c.then-i-line.branch [
      | then-i-line-via-then-i-line w ↦ cut_off c.args.keyword.now c.args.line.now c.loop-i.i _ c.loop-i.invariant c.loop-i-test.true w.if-i-line.true
      | then-i-line-via-else-i-line+then-to_ascii_uppercase-w w ↦ differs c.args.keyword.now c.args.line.now c.loop-i.i _ c.loop-i.invariant c.loop-i-test.true w.if-i-line.false (ap (λ u. eqb u (get_or c.args.keyword.now c.loop-i.i 0)) (sym w.to_ascii_uppercase.ensures.value) ∙ ne_eqb _ _ w.if-to_ascii_uppercase-w.true)
    ]

pub loop-i-preserved : goal.loop-i-preserved
loop-i-preserved c = agrees c.args.keyword.now c.args.line.now c.loop-i.i _ c.loop-i.invariant c.loop-i-test.true c.if-i-line.false (ap (λ u. eqb u (get_or c.args.keyword.now c.loop-i.i 0)) (sym c.to_ascii_uppercase.ensures.value) ∙ eq-eqb _ _ c.if-to_ascii_uppercase-w.false)

pub returns : goal.returns
returns c = found c.args.keyword.now c.args.line.now c.loop-i.i _ c.loop-i.invariant c.loop-i-test.false
