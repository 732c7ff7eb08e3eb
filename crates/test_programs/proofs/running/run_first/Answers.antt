use Rattle.std.proofs.Common.{rules, ◌≡◌, map, sym, ap, subst, ◌∙◌, Some, true}
use Rattle.std.specs.Prelude.{slice_get}
use Rattle.adj_tree.specs.declared.unit.Program.{Program}
use Rattle.def_meaning.specs.Numbers.{words}
use Rattle.def_meaning.specs.Units.{fits}
use Rattle.adj_interp.specs.Concludes.{slot_seen}
use Rattle.test_programs.proofs.Fitting.{first_fits}
use Rattle.test_programs.proofs.running.run_first.Goals as goal

pub run-result-requires-clause-fits : goal.run-result-requires-clause-fits
run-result-requires-clause-fits c u at =
    let all = c.as_slice.ensures.members ∙ ap (λ (p : Program). p.units) c.program.ensures.program in
    let first : Some c.in-Some.unit.now ≡ slice_get c.as_slice.result.now 0 = search rules in
    subst (λ vs. fits words u (map slot_seen vs) ≡ true) (sym c.in_ok-input.ensures)
    (first_fits c.args.checked.now.program.units c.in-Some.unit.now u c.args.words.now (first ∙ ap (λ us. slice_get us 0) all) at (c.suits.ensures c.if-not-suits.false))
