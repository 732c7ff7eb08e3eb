use Rattle.std.proofs.Common.{rules, ◌≡◌, map, sym, ap, subst, ◌∙◌, Some, true}
use Rattle.std.specs.Prelude.{slice_get}
use Rattle.adj_tree.specs.declared.unit.Program.{Program}
use Rattle.def_meaning.specs.Numbers.{words}
use Rattle.def_meaning.specs.Units.{fits}
use Rattle.adj_interp.specs.Concludes.{slot_seen}
use Rattle.adj_interp.specs.Dually.{AreTangents}
use Rattle.test_programs.specs.Scalars.{scalar_of}
use Rattle.test_programs.proofs.Fitting.{first_fits}
use Rattle.test_programs.proofs.Pairing.{scalar_tangents}
use Rattle.test_programs.proofs.dual.run_first.Goals as goal

pub run_dual-requires-clause-fits : goal.run_dual-requires-clause-fits
run_dual-requires-clause-fits c u at =
    let all = c.as_slice.ensures.members ∙ ap (λ (p : Program). p.units) c.program.ensures.program in
    let first : Some c.in-Some.unit.now ≡ slice_get c.as_slice.result.now 0 = search rules in
    subst (λ vs. fits words u (map slot_seen vs) ≡ true) (sym c.in_ok-input.ensures)
    (first_fits c.args.checked.now.program.units c.in-Some.unit.now u c.args.words.now (first ∙ ap (λ us. slice_get us 0) all) at (c.suits.ensures c.if-not-suits.false))

pub run_dual-requires-clause-tangents : goal.run_dual-requires-clause-tangents
run_dual-requires-clause-tangents c =
    subst (λ vs. AreTangents vs c.in_ok-given.given) (sym c.in_ok-input.ensures)
    (subst (AreTangents (map scalar_of c.args.words.now)) (sym c.in_ok-given.ensures) (scalar_tangents c.args.words.now c.args.tangents.now (search rules)))
