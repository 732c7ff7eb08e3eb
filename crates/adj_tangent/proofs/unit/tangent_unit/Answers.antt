use Rattle.std.proofs.Common.{◌≡◌, ◌++◌, map, ap, sym, subst, ◌∙◌}
use Rattle.adj_tree.specs.Code.{shadow}
use Rattle.adj_tree.specs.View.{declaration_of, procedure_of, code_of}
use Rattle.def_meaning.specs.Apart.{is_named, AreApart}
use Rattle.def_meaning.specs.Append.{◌+++◌}
use Rattle.def_meaning.specs.Rename.{rename}
use Rattle.def_names.specs.Variables.{variables}
use Rattle.def_sweep.specs.Declared.{declared_helpers}
use Rattle.def_sweep.specs.Marked.{names_in}
use Rattle.def_sweep.specs.MarkedProgram.{shadows_behind, declared_behind}
use Rattle.def_sweep.specs.Naming.{tangent_text, unit_names_for}
use Rattle.def_tangent.specs.Forward.{Plan, tangents}
use Rattle.def_tangent.specs.Program.{callee_in, helpers_used, cleared}
use Rattle.law_sweep.proofs.Variables.{variables_apart}
use Rattle.adj_naming.specs.Roles.{variable_of}
use Rattle.adj_naming.specs.Sets.{AreDifferent}
use Rattle.adj_naming.specs.Table.{table_of, named_by}
use Rattle.adj_sweep_assignment.specs.View.{marks_of}
use Rattle.adj_weave_units.proofs.Units.{shadowed_apart, arrays_are}
use Rattle.adj_tangent.specs.Plans.{active_by}
use Rattle.adj_tangent.specs.Woven.{sources, carried_for}
use Rattle.adj_tangent.proofs.Units.{ns, body, helpers_different, text_kept, unit_is}
use Rattle.adj_tangent.proofs.unit.tangent_unit.Goals as goal

pub names-requires-clause-shadowed : goal.names-requires-clause-shadowed
names-requires-clause-shadowed c =
    let u = procedure_of c.args.part.now.unit.now in
    let a = (marks_of c.args.part.now.marking).shadowed in
    let own = c.as_slice.ensures.value ∙ c.in_ok-own.ensures.names ∙ ap (names_in a) c.requires.part.variables in
    subst AreApart (sym own) (shadowed_apart a (variables u) (variables_apart u))

pub names-requires-clause-helpers : goal.names-requires-clause-helpers
names-requires-clause-helpers c =
    let u = procedure_of c.args.part.now.unit.now in
    let made = ap (map variable_of) c.as_slice-helpers.ensures.value ∙ c.in_ok-used.ensures.helpers in
    subst AreDifferent (sym made) (helpers_different (active_by c.args.part.now.marking) u.body)

pub returns : goal.returns
returns c =
    let s = c.args.shared.now in
    let g = c.args.part.now in
    let u = procedure_of g.unit.now in
    let ps = sources s in
    let on = carried_for s in
    let units = s.names.now in
    let vs = variables u in
    let at_first = c.args.at_first.now in
    let n = c.in_ok-all.all in
    let is = c.requires.part in
    let shadows = is.carried in
    let own = c.as_slice.ensures.value ∙ c.in_ok-own.ensures.names ∙ (λ j. names_in (shadows j) (is.variables j)) in
    let hs : map variable_of c.as_slice-helpers.result.now ≡ helpers_used (on u.name) u.body = ap (map variable_of) c.as_slice-helpers.ensures.value ∙ c.in_ok-used.ensures.helpers ∙ ap (λ v. helpers_used v u.body) is.active in
    let table : table_of n ≡ unit_names_for tangent_text vs units (map shadow (names_in (on u.name) vs) ++ helpers_used (on u.name) u.body) =
    c.in_ok-all.ensures.names units c.requires.shared.taken
    ∙ (λ j. unit_names_for tangent_text (is.variables j) units (map shadow (own j) ++ hs j)) in
    let code : code_of c.in_ok-body.body ≡ rename (named_by n) (body on ps c.requires.shared.checked u is.found units at_first) =
    c.in_ok-body.ensures.body (callee_in on ps) c.requires.shared.callees
    ∙ (λ j. let p : Plan = record { carried = is.active j; callees = callee_in on ps } in rename (named_by n) (cleared (arrays_are u c.in_ok-arrays.arrays c.in_ok-arrays.ensures.arrays j) u.line at_first +++ tangents p u.body)) in
    record {
      unit = unit_is on ps c.requires.shared.checked u is.found units at_first
          c.in_ok-copy.field-0 (table_of n) c.new.result (map variable_of c.as_slice-helpers.result.now) (map declaration_of c.new-2.result) (code_of c.in_ok-body.body)
          (c.in_ok-copy.ensures.same ∙ is.tangent) table
          (c.new.ensures.members ∙ c.in_ok-dummies.ensures.names ∙ (λ j. shadows_behind (shadows j) (table_of n) (c.as_slice-2.ensures.members j)))
          hs
          (ap (map declaration_of) c.new-2.ensures.members ∙ c.in_ok-decls.ensures.declarations ∙ (λ j. declared_behind (shadows j) (table_of n) u (is.variables j) ++ declared_helpers (table_of n) u.line (map variable_of c.as_slice-helpers.result.now)))
          (code ∙ text_kept on ps c.requires.shared.checked u is.found units at_first n table);
    }
