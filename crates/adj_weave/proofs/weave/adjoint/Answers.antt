use Rattle.std.proofs.Common.{◌≡◌, ◌∷◌, [], ◌++◌, ◌<◌, map, length, ap, sym, subst, ◌∙◌}
use Rattle.adj_tree.specs.View.{procedure_of, procedures_of}
use Rattle.def_meaning.specs.Apart.{AreApart}
use Rattle.def_sweep.specs.Declared.{unit_name, unit_at}
use Rattle.def_sweep.specs.Program.{emitted_program_with}
use Rattle.adj_sweep.specs.HelperSteps.{are_reversed}
use Rattle.adj_weave.specs.Marked.{program_marks}
use Rattle.adj_weave.specs.Named.{made_flagged}
use Rattle.adj_weave_units.proofs.Facts.{units_apart, in_form}
use Rattle.adj_weave.proofs.Known.{over_knows}
use Rattle.adj_weave.proofs.Program.{program_emitted, same_lengths, all_are}
use Rattle.adj_weave_units.proofs.Standing.{number_there, head_there}
use Rattle.adj_weave.proofs.weave.adjoint.Goals as goal

pub tabulated-requires-clause-head : goal.tabulated-requires-clause-head
tabulated-requires-clause-head c = c.requires.head

pub tabulated-requires-clause-names : goal.tabulated-requires-clause-names
tabulated-requires-clause-names c = c.as_slice-names.ensures.value ∙ c.in_ok-own.ensures.names ∙ ap (λ us. map unit_name (map procedure_of us)) c.units_of-units.ensures.units

pub tabulated-requires-clause-apart : goal.tabulated-requires-clause-apart
tabulated-requires-clause-apart c =
    let names = c.as_slice-names.ensures.value ∙ c.in_ok-own.ensures.names ∙ ap (λ us. map unit_name (map procedure_of us)) c.units_of-units.ensures.units in
    subst AreApart (sym names) (units_apart c.args.checked.now c.units_of-units.ensures.facts)

pub known_callees-requires-clause-units : goal.known_callees-requires-clause-units
known_callees-requires-clause-units c = over_knows c.args.marked (procedures_of c.args.checked.now.program) c.args.head.now.unit c.requires.flow

pub known_callees-requires-clause-names : goal.known_callees-requires-clause-names
known_callees-requires-clause-names c = c.as_slice-names.ensures.value ∙ c.in_ok-own.ensures.names ∙ ap (λ us. map unit_name (map procedure_of us)) c.units_of-units.ensures.units

pub known_callees-requires-clause-apart : goal.known_callees-requires-clause-apart
known_callees-requires-clause-apart c =
    let names = c.as_slice-names.ensures.value ∙ c.in_ok-own.ensures.names ∙ ap (λ us. map unit_name (map procedure_of us)) c.units_of-units.ensures.units in
    subst AreApart (sym names) (units_apart c.args.checked.now c.units_of-units.ensures.facts)

pub known_callees-requires-clause-made : goal.known_callees-requires-clause-made
known_callees-requires-clause-made c =
    let o = head_there c.args.checked.now.program.units c.args.head.now.unit c.requires.head in
    let told = c.in_ok-table.ensures.table (procedure_of o.0) o.1 in
    told.names

pub all_names-requires : goal.all_names-requires
all_names-requires c =
    let o = head_there c.args.checked.now.program.units c.args.head.now.unit c.requires.head in
    let many = same_lengths (are_reversed c.args.loops) (program_marks c.args.marked) (procedures_of c.args.checked.now.program) (procedure_of o.0) c.in_ok-table.table (c.in_ok-table.ensures.table (procedure_of o.0) o.1) in
    record { forths = many.forths; backs = many.backs; adjointed = many.adjointed; paired = many.paired }

pub bounds-units-number : goal.bounds-units-number
bounds-units-number c = subst (λ us. c.args.head.now.unit < length us) (sym c.units_of-units.ensures.units) c.requires.head

pub emitted-requires-clause-ready : goal.emitted-requires-clause-ready
emitted-requires-clause-ready c =
    let k = c.args.checked.now in
    let ps = procedures_of k.program in
    let number = c.args.head.now.unit in
    let h = c.index-units-number.result in
    let at : unit_at number ps ≡ procedure_of h ∷ [] = number_there c.units_of-units.result.now c.args.checked.now.program.units c.units_of-units.ensures.units number c.requires.head h c.index-units-number.is in
    let t = c.in_ok-table.table in
    let told = c.in_ok-table.ensures.table (procedure_of h) at in
    let own : c.in_ok-own.own.items ≡ map unit_name ps = c.in_ok-own.ensures.names ∙ ap (λ xs. map unit_name (map procedure_of xs)) c.units_of-units.ensures.units in
    record {
      shared = record {
        checked = in_form k c.units_of-units.ensures.facts c.requires.kernel;
        shadows = c.requires.shadows;
        splits = c.requires.splits;
        callees = c.in_ok-callees.ensures.known;
        taken = c.in_ok-taken.ensures.names;
      };
      names = c.as_slice-listed.ensures.value
          ∙ all_are (are_reversed c.args.loops) (program_marks c.args.marked) ps (procedure_of h) t told c.in_ok-all.all.items
          (c.in_ok-all.ensures.names ∙ ap (λ z. z ++ made_flagged t.found.adjointed t.found.paired t.names.adjoints.items t.names.forths.items t.names.backs.items) own);
    }

pub emitted-requires-clause-flow : goal.emitted-requires-clause-flow
emitted-requires-clause-flow c = c.requires.flow

pub emitted-requires-clause-head : goal.emitted-requires-clause-head
emitted-requires-clause-head c =
    let number = c.args.head.now.unit in
    let h = c.index-units-number.result in
    number_there c.units_of-units.result.now c.args.checked.now.program.units c.units_of-units.ensures.units number c.requires.head h c.index-units-number.is

pub emitted-requires-clause-table : goal.emitted-requires-clause-table
emitted-requires-clause-table c =
    let number = c.args.head.now.unit in
    let h = c.index-units-number.result in
    let at : unit_at number (procedures_of c.args.checked.now.program) ≡ procedure_of h ∷ [] = number_there c.units_of-units.result.now c.args.checked.now.program.units c.units_of-units.ensures.units number c.requires.head h c.index-units-number.is in
    c.in_ok-table.ensures.table (procedure_of h) at

pub returns : goal.returns
returns c =
    let ps = procedures_of c.args.checked.now.program in
    let number = c.args.head.now.unit in
    let h = c.index-units-number.result in
    let at : unit_at number ps ≡ procedure_of h ∷ [] = number_there c.units_of-units.result.now c.args.checked.now.program.units c.units_of-units.ensures.units number c.requires.head h c.index-units-number.is in
    record {
      emitted = ap (map procedure_of) c.new-units.ensures.members ∙ c.in_ok-made.ensures.units
          ∙ program_emitted (are_reversed c.args.loops) (program_marks c.args.marked) ps number (procedure_of h) c.as_slice-vars.result.now c.as_slice-outvars.result.now at
          ∙ (λ i. emitted_program_with (are_reversed c.args.loops) (program_marks c.args.marked) ps number (c.as_slice-vars.ensures.members i) (c.as_slice-outvars.ensures.members i));
    }
