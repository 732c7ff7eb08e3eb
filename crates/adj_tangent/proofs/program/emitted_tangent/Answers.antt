use Rattle.std.proofs.Common.{◌≡◌, [], true, false, ap, sym, subst, ◌∙◌, if◌then◌else◌}
use Rattle.adj_tree.specs.Code.{name_eq}
use Rattle.adj_tree.specs.View.{procedure_of}
use Rattle.adj_tree.proofs.Names.{name_refl, name_same}
use Rattle.def_names.proofs.Variables.{not_true}
use Rattle.def_sweep.specs.Declared.{unmarked}
use Rattle.def_sweep.specs.Marked.{names_in}
use Rattle.def_tangent.specs.Program.{tangent_unit}
use Rattle.adj_tangent.specs.Woven.{sources, carried_for, head_of, all_units}
use Rattle.adj_tangent.proofs.program.emitted_tangent.Goals as goal

pub returns-then-not-equals : goal.returns-then-not-equals
returns-then-not-equals c =
    let s = c.args.shared.now in
    let a = c.args.aim.now in
    let u = procedure_of c.args.part.now.unit.now in
    let h = head_of a in
    let on = carried_for s in
    let differ : name_eq h.name u.name ≡ false = not_true (name_eq h.name u.name) (λ e. let t : c.equals.result ≡ true = c.equals.ensures.equal.1 (name_same h.name u.name e) in let f : c.equals.result ≡ false = c.if-not-equals.true in cc) in
    let cleared = names_in (on u.name) (unmarked u.dummies a.vars.now) in
    record {
      unit = c.in_ok-other.ensures.unit ∙ ap (λ ns. tangent_unit on (sources s) ns u []) c.requires.ready.names
          ∙ sym (ap (λ b. tangent_unit on (sources s) (all_units on (sources s) h) u (if b then cleared else [])) differ);
    }

pub returns : goal.returns
returns c =
    let s = c.args.shared.now in
    let a = c.args.aim.now in
    let u = procedure_of c.args.part.now.unit.now in
    let h = head_of a in
    let on = carried_for s in
    let is = c.requires.part in
    let same : name_eq h.name u.name ≡ true = subst (λ x. name_eq h.name x ≡ true) (c.equals.ensures.equal.0 c.if-not-equals.false) (name_refl h.name) in
    let cleared = names_in (on u.name) (unmarked u.dummies a.vars.now) in
    let others = c.as_slice.ensures.value ∙ c.in_ok-others.ensures.names ∙ ap (λ xs. unmarked xs a.vars.now) c.as_slice-dummies.ensures.members in
    let first = c.as_slice-2.ensures.value ∙ c.in_ok-at_first.ensures.names ∙ (λ j. names_in (is.carried j) (others j)) in
    record {
      unit = c.in_ok-made.ensures.unit ∙ (λ i. tangent_unit on (sources s) (c.requires.ready.names i) u (first i))
          ∙ sym (ap (λ b. tangent_unit on (sources s) (all_units on (sources s) h) u (if b then cleared else [])) same);
    }
