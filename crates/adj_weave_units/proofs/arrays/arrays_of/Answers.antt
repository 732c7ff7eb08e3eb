use Rattle.std.proofs.Common.{[], List, ℕ, map, sym, subst}
use Rattle.std.proofs.lemmas.List.{drop_all}
use Rattle.adj_tree.specs.View.{declaration_of}
use Rattle.adj_weave_units.proofs.Declared.{Passed, nothing_passed, passed_on, all_passed}
use Rattle.adj_weave_units.proofs.arrays.arrays_of.Goals as goal

pub loop-decl-init : goal.loop-decl-init
loop-decl-init c =
    let all = map declaration_of c.args.unit.now.decls in
    let items = map declaration_of c.as_slice-decl-items.result.now in
    subst (λ k. Passed k c.in_ok-arrays.arrays items all) (sym c.in_ok-known.ensures.empty)
    (subst (λ a. Passed [] a items all) (sym c.in_ok-arrays.ensures.empty)
    (subst (λ ds. Passed [] [] (map declaration_of ds) all) (sym c.as_slice-decl-items.ensures.members) (nothing_passed all)))

pub loop-decl-preserved : goal.loop-decl-preserved
loop-decl-preserved c =
    passed_on c.as_slice-decl-items.result.now c.loop-decl.decl-index c.decl-item.result (map declaration_of c.args.unit.now.decls) c.loop-decl.known c.loop-decl.arrays c.pass.new.known c.pass.new.arrays c.loop-decl-test.true c.decl-item.is
    c.in_ok-pass.ensures.passed c.loop-decl.invariant

pub returns : goal.returns
returns c =
    let all = map declaration_of c.args.unit.now.decls in
    record {
      arrays = λ (x : List ℕ). all_passed c.loop-decl.known c.loop-decl.arrays all (subst (λ ds. Passed c.loop-decl.known c.loop-decl.arrays (map declaration_of ds) all) (drop_all c.loop-decl.decl-index c.as_slice-decl-items.result.now c.loop-decl-test.false) c.loop-decl.invariant) x;
    }
