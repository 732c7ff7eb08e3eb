use Rattle.std.proofs.Common.{◌≡◌, [], true, false, ap, sym, subst, ◌∙◌}
use Rattle.std.specs.Prelude.{IfOk}
use Rattle.adj_tree.specs.Code.{name_eq}
use Rattle.adj_tree.specs.View.{procedure_of}
use Rattle.adj_tree.proofs.Names.{name_refl, name_same}
use Rattle.def_sweep.specs.Marked.{names_in}
use Rattle.def_sweep.specs.Declared.{unmarked}
use Rattle.def_names.proofs.Variables.{not_true}
use Rattle.def_sweep.specs.Program.{adjoint_unit_with}
use Rattle.adj_sweep_assignment.specs.View.{marks_of}
use Rattle.adj_weave.specs.Shared.{sources, marks_for, reversed_for, HaveShadows}
use Rattle.adj_weave.specs.Woven.{head_of}
use Rattle.adj_weave.proofs.Program.{cleared_have, other_adjoint, head_adjoint}
use Rattle.adj_weave.proofs.weave.emitted_adjoint.Goals as goal

pub made_unit-requires-clause-clears : goal.made_unit-requires-clause-clears
made_unit-requires-clause-clears c = (λ x h. absurd cc, λ x h. absurd cc)

pub made_unit-requires-2-clause-clears : goal.made_unit-requires-2-clause-clears
made_unit-requires-2-clause-clears c =
    let u = procedure_of c.args.part.now.unit.now in
    let a = c.args.aim.now in
    let m = marks_for c.args.shared.now in
    let alike = c.requires.part.marks in
    let shadows : (marks_of c.args.part.now.marking).shadowed ≡ m.shadowed u.name = alike.shadowed in
    let turned = c.as_slice.ensures.value ∙ c.in_ok-turned.ensures.names ∙ ap (λ xs. unmarked xs a.outvars.now) c.as_slice-dummies.ensures.members in
    let ended = c.as_slice-2.ensures.value ∙ c.in_ok-ended.ensures.names ∙ ap (λ xs. unmarked xs a.vars.now) c.as_slice-dummies.ensures.members in
    let at_turn = c.as_slice-3.ensures.value ∙ c.in_ok-at_turn.ensures.names ∙ (λ j. names_in (shadows j) (turned j)) in
    let at_end = c.as_slice-4.ensures.value ∙ c.in_ok-at_end.ensures.names ∙ (λ j. names_in (shadows j) (ended j)) in
    (subst (HaveShadows m u) (sym at_turn) (cleared_have m u a.outvars.now), subst (HaveShadows m u) (sym at_end) (cleared_have m u a.vars.now))

pub returns-then-not-equals : goal.returns-then-not-equals
returns-then-not-equals c =
    let s = c.args.shared.now in
    let a = c.args.aim.now in
    let u = procedure_of c.args.part.now.unit.now in
    let h = head_of a in
    let differ : name_eq h.name u.name ≡ false = not_true (name_eq h.name u.name) (λ e. let t : c.equals.result ≡ true = c.equals.ensures.equal.1 (name_same h.name u.name e) in let f : c.equals.result ≡ false = c.if-not-equals.true in cc) in
    let is = ap (λ ns. adjoint_unit_with (reversed_for s) (marks_for s) (sources s) ns u [] []) c.requires.ready.names ∙ other_adjoint (reversed_for s) (marks_for s) (sources s) h a.vars.now a.outvars.now u differ in
    record { unit = subst (λ z. IfOk c.made_unit.result (λ v. procedure_of v ≡ z)) is c.made_unit.ensures.unit }

pub returns : goal.returns
returns c =
    let s = c.args.shared.now in
    let a = c.args.aim.now in
    let u = procedure_of c.args.part.now.unit.now in
    let h = head_of a in
    let m = marks_for s in
    let alike = c.requires.part.marks in
    let shadows : (marks_of c.args.part.now.marking).shadowed ≡ m.shadowed u.name = alike.shadowed in
    let same : name_eq h.name u.name ≡ true = subst (λ x. name_eq h.name x ≡ true) (c.equals.ensures.equal.0 c.if-not-equals.false) (name_refl h.name) in
    let turned = c.as_slice.ensures.value ∙ c.in_ok-turned.ensures.names ∙ ap (λ xs. unmarked xs a.outvars.now) c.as_slice-dummies.ensures.members in
    let ended = c.as_slice-2.ensures.value ∙ c.in_ok-ended.ensures.names ∙ ap (λ xs. unmarked xs a.vars.now) c.as_slice-dummies.ensures.members in
    let at_turn = c.as_slice-3.ensures.value ∙ c.in_ok-at_turn.ensures.names ∙ (λ j. names_in (shadows j) (turned j)) in
    let at_end = c.as_slice-4.ensures.value ∙ c.in_ok-at_end.ensures.names ∙ (λ j. names_in (shadows j) (ended j)) in
    let is = (λ i. adjoint_unit_with (reversed_for s) m (sources s) (c.requires.ready.names i) u (at_turn i) (at_end i)) ∙ head_adjoint (reversed_for s) m (sources s) h a.vars.now a.outvars.now u same in
    record { unit = subst (λ z. IfOk c.made_unit-2.result (λ v. procedure_of v ≡ z)) is c.made_unit-2.ensures.unit }
