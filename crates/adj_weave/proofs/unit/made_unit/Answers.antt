use Rattle.std.proofs.Common.{◌≡◌, ◌++◌, map, ap, sym, subst, ◌∙◌}
use Rattle.std.specs.Prelude.{IfOk}
use Rattle.adj_tree.specs.Code.{shadow}
use Rattle.adj_tree.specs.View.{procedure_of, code_of}
use Rattle.def_meaning.specs.Apart.{AreApart}
use Rattle.def_meaning.specs.Rename.{rename}
use Rattle.def_names.specs.Variables.{variables}
use Rattle.def_sweep.specs.Marked.{names_in}
use Rattle.def_sweep.specs.Marking.{arrays_of, callee_in}
use Rattle.def_sweep.specs.Naming.{unit_names}
use Rattle.def_sweep.specs.Plan.{Plan}
use Rattle.def_sweep.specs.Program.{schedules_in}
use Rattle.law_sweep.proofs.Variables.{variables_apart}
use Rattle.law_emitted.proofs.Makings as law
use Rattle.adj_naming.specs.Roles.{variable_of}
use Rattle.adj_naming.specs.Sets.{AreDifferent}
use Rattle.adj_naming.specs.Table.{table_of, named_by}
use Rattle.adj_sweep_assignment.specs.View.{marks_of}
use Rattle.adj_weave.specs.Making.{its_helpers, its_code}
use Rattle.adj_weave.specs.Marked.{reads_in}
use Rattle.adj_weave.specs.Shared.{sources, marks_for, reversed_for}
use Rattle.adj_weave.proofs.Makings.{making_of, helpers_apart, clears_own, made_is, shadows_are, name_is, helpers_are, code_is}
use Rattle.adj_weave.proofs.Units.{its_table, body_same, unit_is}
use Rattle.adj_weave_units.proofs.Units.{shadowed_apart, arrays_are}
use Rattle.adj_weave.proofs.unit.made_unit.Goals as goal

pub names-requires-clause-shadowed : goal.names-requires-clause-shadowed
names-requires-clause-shadowed c =
    let u = procedure_of c.args.part.now.unit.now in
    let a = (marks_of c.shadows-shadows.result).shadowed in
    let own = c.as_slice.ensures.value ∙ c.in_ok-own.ensures.names ∙ ap (names_in a) c.requires.part.variables in
    subst AreApart (sym own) (shadowed_apart a (variables u) (variables_apart u))

pub names-requires-clause-helpers : goal.names-requires-clause-helpers
names-requires-clause-helpers c =
    let u = procedure_of c.args.part.now.unit.now in
    let s = c.args.shared.now in
    let callees = callee_in (marks_for s) (sources s) in
    let made = ap (map variable_of) c.as_slice-helpers.ensures.value ∙ c.in_ok-used.ensures.helpers (arrays_of u) callees (reads_in (sources s)) c.requires.shared.callees in
    let p : Plan = record { marks = marks_of c.marks-marks.result; arrays = arrays_of u; callees = callees } in
    subst AreDifferent (sym made) (helpers_apart (schedules_in (reversed_for s) (sources s)) p c.args.part.now.number u.body c.args.making.now)

pub returns : goal.returns
returns c =
    let s = c.args.shared.now in
    let g = c.args.part.now in
    let k = c.args.making.now in
    let u = procedure_of g.unit.now in
    let ps = sources s in
    let m = marks_for s in
    let units = s.names.now in
    let n = c.in_ok-all.all in
    let callees = callee_in m ps in
    let sb = reversed_for s in
    let sc = schedules_in sb ps in
    let law_k = making_of k in
    let clears = clears_own m u k c.requires.clears in
    let shared = c.requires.shared in
    let part = c.requires.part in
    let found = part.found in
    let shadows = c.shadows-shadows.ensures.shadows ∙ shadows_are sb m ps g part k in
    let hs : map variable_of c.as_slice-helpers.result.now ≡ law.its_helpers sb m ps u law_k =
    ap (map variable_of) c.as_slice-helpers.ensures.value ∙ c.in_ok-used.ensures.helpers (arrays_of u) callees (reads_in ps) shared.callees
    ∙ ap (λ w. let p : Plan = record { marks = w; arrays = arrays_of u; callees = callees } in its_helpers sc p g.number u.body k) c.marks-marks.ensures.marks
    ∙ helpers_are sb m ps g part k in
    let own = c.as_slice.ensures.value ∙ c.in_ok-own.ensures.names ∙ (λ j. names_in (shadows j) (part.variables j)) in
    let table : table_of n ≡ its_table sb m ps shared.checked shared.shadows shared.splits u found units law_k clears =
    c.in_ok-all.ensures.names units shared.taken
    ∙ (λ j. unit_names (part.variables j) units (map shadow (own j) ++ hs j)) in
    let body : code_of c.in_ok-body.body ≡ rename (named_by n) (law.its_code sb m ps u law_k) =
    c.in_ok-body.ensures.body callees (reads_in ps) shared.callees
    ∙ (λ j. let p : Plan = record { marks = c.marks-marks.ensures.marks j; arrays = arrays_are u c.in_ok-arrays.arrays c.in_ok-arrays.ensures.arrays j; callees = callees } in rename (named_by n) (its_code sc p g k))
    ∙ ap (rename (named_by n)) (code_is sb m ps g part k) in
    record {
      unit = subst (λ z. IfOk c.unit_under.result (λ v. procedure_of v ≡ z))
          (unit_is sb m ps shared.checked shared.shadows shared.splits u found units law_k clears (table_of n) c.name-name.result.now (marks_of c.shadows-shadows.result).shadowed g.variables.now (map variable_of c.as_slice-helpers.result.now) (code_of c.in_ok-body.body)
          table (c.name-name.ensures.name ∙ name_is sb m ps g part k) shadows part.variables hs
          (body ∙ body_same sb m ps shared.checked shared.shadows shared.splits u found units law_k clears n table)
          ∙ sym (made_is sb m ps units u k))
          c.unit_under.ensures.unit;
    }
