use Rattle.std.proofs.Common.{true, refl, sym, ap, subst}
use Rattle.std.specs.Prelude.{◌&&◌}
use Rattle.adj_tree.specs.View.{procedures_of}
use Rattle.adj_tree.specs.declared.marks.Marks.{Marks}
use Rattle.def_names.specs.Fault.{run_rules}
use Rattle.law_emitted.specs.Checked.{IsChecked}
use Rattle.law_emitted.specs.Shadowed.{AllHaveShadows}
use Rattle.adj_flow.specs.Asked.{problem_of}
use Rattle.adj_flow.specs.Marked.{activity_of}
use Rattle.adj_weave.specs.Marked.{marks_told}
use Rattle.law_analysed.proofs.Lending.{exact_shadows}
use Rattle.law_emitted.proofs.Calling.{unsplit_may}
use Rattle.test_programs.proofs.spared.emitted.Goals as goal

pub adjoint-requires-clause-kernel : goal.adjoint-requires-clause-kernel
adjoint-requires-clause-kernel c = c.requires.checked.kernel

pub adjoint-requires-clause-shadows : goal.adjoint-requires-clause-shadows
adjoint-requires-clause-shadows c =
    let f = c.args.flow.now in
    let a = c.in_ok-activity.activity in
    let units = c.requires.flow.units in
    let t : Marks = record { activity = a; kept = record { kept = c.in_ok-flags.field-0; entry = c.in_ok-flags-2.field-0 }; saved = record { saved = c.in_ok-bits.field-0 } } in
    subst (λ qs. AllHaveShadows (marks_told f t) qs qs) units
    (exact_shadows run_rules (problem_of f c.args.head.now) (subst (λ qs. IsChecked run_rules qs) (sym units) c.requires.checked) (activity_of f a) c.in_ok-activity.ensures.activity (marks_told f t) refl (λ name. refl))

pub adjoint-requires-clause-splits : goal.adjoint-requires-clause-splits
adjoint-requires-clause-splits c =
    let f = c.args.flow.now in
    let a = c.in_ok-activity.activity in
    let t : Marks = record { activity = a; kept = record { kept = c.in_ok-flags.field-0; entry = c.in_ok-flags-2.field-0 }; saved = record { saved = c.in_ok-bits.field-0 } } in
    unsplit_may true (marks_told f t) (λ n. ap (λ b. b && (activity_of f a).adjointed n) (c.requires.unsplit n)) (procedures_of c.args.checked.now.program) (procedures_of c.args.checked.now.program)
