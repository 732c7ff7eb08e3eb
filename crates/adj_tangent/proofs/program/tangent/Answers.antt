use Rattle.std.proofs.Common.{◌≡◌, ◌∷◌, [], ◌++◌, ◌<◌, map, length, ap, sym, subst, ◌∙◌}
use Rattle.std.proofs.lemmas.List.{length-map}
use Rattle.adj_tree.specs.Code.{Procedure}
use Rattle.adj_tree.specs.View.{procedure_of, procedures_of}
use Rattle.def_meaning.specs.Apart.{AreApart}
use Rattle.def_sweep.specs.Declared.{unit_name, unit_at}
use Rattle.def_flow.specs.Carried.{carried_by}
use Rattle.def_tangent.specs.Program as program
use Rattle.def_tangent.specs.Program.{tangent_name, takes, has_tangent, stays, tangent_program}
use Rattle.adj_weave_units.specs.Calls.{flagged}
use Rattle.adj_weave_units.proofs.Facts.{units_apart, in_form}
use Rattle.adj_weave_units.proofs.Standing.{number_there, head_there}
use Rattle.adj_tangent.specs.Flagged.{carried_told}
use Rattle.adj_tangent.proofs.Emitted.{made_flagged, program_made}
use Rattle.adj_tangent.proofs.program.tangent.Goals as goal

pub tangent_names-requires-clause-names : goal.tangent_names-requires-clause-names
tangent_names-requires-clause-names c = c.as_slice-names.ensures.value ∙ c.in_ok-own.ensures.names ∙ ap (λ us. map unit_name (map procedure_of us)) c.units_of-units.ensures.units

pub tangent_names-requires-clause-apart : goal.tangent_names-requires-clause-apart
tangent_names-requires-clause-apart c =
    let names = c.as_slice-names.ensures.value ∙ c.in_ok-own.ensures.names ∙ ap (λ us. map unit_name (map procedure_of us)) c.units_of-units.ensures.units in
    subst AreApart (sym names) (units_apart c.args.checked.now c.units_of-units.ensures.facts)

pub known_callees-requires-clause-names : goal.known_callees-requires-clause-names
known_callees-requires-clause-names c = c.as_slice-names.ensures.value ∙ c.in_ok-own.ensures.names ∙ ap (λ us. map unit_name (map procedure_of us)) c.units_of-units.ensures.units

pub known_callees-requires-clause-apart : goal.known_callees-requires-clause-apart
known_callees-requires-clause-apart c =
    let names = c.as_slice-names.ensures.value ∙ c.in_ok-own.ensures.names ∙ ap (λ us. map unit_name (map procedure_of us)) c.units_of-units.ensures.units in
    subst AreApart (sym names) (units_apart c.args.checked.now c.units_of-units.ensures.facts)

pub known_callees-requires-clause-tangents : goal.known_callees-requires-clause-tangents
known_callees-requires-clause-tangents c = c.as_slice-tangents.ensures.value ∙ c.in_ok-made.ensures.names

pub found_by_names-requires : goal.found_by_names-requires
found_by_names-requires c =
    let names = c.as_slice-names.ensures.value ∙ c.in_ok-own.ensures.names in
    let moved = names ∙ ap (λ us. map unit_name (map procedure_of us)) c.units_of-units.ensures.units in
    record {
      head = subst (λ us. c.args.head.now.unit < length us) (sym c.units_of-units.ensures.units) c.requires.head;
      names = names;
      apart = subst AreApart (sym moved) (units_apart c.args.checked.now c.units_of-units.ensures.facts);
    }

pub all_names-requires : goal.all_names-requires
all_names-requires c =
    let ps = procedures_of c.args.checked.now.program in
    let on = carried_by ps (carried_told c.args.carried) in
    let us = c.units_of-units.result.now in
    let same = c.units_of-units.ensures.units in
    let o = head_there us c.args.head.now.unit (subst (λ vs. c.args.head.now.unit < length vs) (sym same) c.requires.head) in
    let told = c.as_slice-taking.ensures.value ∙ c.in_ok-takes.ensures.takes ∙ c.in_ok-callees.ensures.takes ∙ (λ i. let qs = map procedure_of (sym same i) in map (λ (u : Procedure). takes on qs u.name) qs) in
    let made = ap length (c.as_slice-flags.ensures.members ∙ c.in_ok-found.ensures.made on (procedure_of o.0) told o.1) ∙ length-map (map procedure_of us) (λ (u : Procedure). has_tangent on (map procedure_of us) (procedure_of o.0).name u.name) in
    let named = ap length (c.as_slice-tangents.ensures.value ∙ c.in_ok-made.ensures.names) ∙ length-map ps (λ (u : Procedure). tangent_name ps u.name) in
    record { same = made ∙ ap (λ vs. length (map procedure_of vs)) same ∙ sym named }

pub bounds-units-number : goal.bounds-units-number
bounds-units-number c = subst (λ us. c.args.head.now.unit < length us) (sym c.units_of-units.ensures.units) c.requires.head

pub emitted-requires-clause-ready : goal.emitted-requires-clause-ready
emitted-requires-clause-ready c =
    let k = c.args.checked.now in
    let ps = procedures_of k.program in
    let number = c.args.head.now.unit in
    let on = carried_by ps (carried_told c.args.carried) in
    let us = c.units_of-units.result.now in
    let same = c.units_of-units.ensures.units in
    let h = c.index-units-number.result in
    let at : unit_at number ps ≡ procedure_of h ∷ [] = number_there us k.program.units same number c.requires.head h c.index-units-number.is in
    let moved : map procedure_of us ≡ ps = ap (map procedure_of) same in
    let own : c.in_ok-own.own.items ≡ map unit_name ps = c.in_ok-own.ensures.names ∙ ap (λ xs. map unit_name (map procedure_of xs)) same in
    let told = c.as_slice-taking.ensures.value ∙ c.in_ok-takes.ensures.takes ∙ c.in_ok-callees.ensures.takes ∙ (λ i. let qs = sym moved i in map (λ (u : Procedure). takes on qs u.name) qs) in
    let made = c.as_slice-flags.ensures.members ∙ c.in_ok-found.ensures.made on (procedure_of h) told (ap (unit_at number) moved ∙ at) ∙ ap (λ qs. map (λ (u : Procedure). has_tangent on qs h.name u.name) qs) moved in
    let named = c.as_slice-tangents.ensures.value ∙ c.in_ok-made.ensures.names in
    record {
      shared = record {
        checked = in_form k c.units_of-units.ensures.facts c.requires.kernel;
        callees = c.in_ok-callees.ensures.known;
        taken = c.in_ok-taken.ensures.names;
      };
      names = c.as_slice-listed.ensures.value ∙ c.in_ok-all.ensures.names ∙ (λ i. own i ++ flagged (made i) (named i)) ∙ ap (λ z. map unit_name ps ++ z) (made_flagged on ps (procedure_of h) ps);
    }

pub emitted-requires-clause-table : goal.emitted-requires-clause-table
emitted-requires-clause-table c =
    let k = c.args.checked.now in
    let ps = procedures_of k.program in
    let number = c.args.head.now.unit in
    let on = carried_by ps (carried_told c.args.carried) in
    let us = c.units_of-units.result.now in
    let same = c.units_of-units.ensures.units in
    let h = c.index-units-number.result in
    let at : unit_at number ps ≡ procedure_of h ∷ [] = number_there us k.program.units same number c.requires.head h c.index-units-number.is in
    let moved : map procedure_of us ≡ ps = ap (map procedure_of) same in
    let there = ap (unit_at number) moved ∙ at in
    let told = c.as_slice-taking.ensures.value ∙ c.in_ok-takes.ensures.takes ∙ c.in_ok-callees.ensures.takes ∙ (λ i. let qs = sym moved i in map (λ (u : Procedure). takes on qs u.name) qs) in
    record {
      tangents = c.as_slice-tangents.ensures.value ∙ c.in_ok-made.ensures.names;
      made = c.in_ok-found.ensures.made on (procedure_of h) told there ∙ ap (λ qs. map (λ (u : Procedure). has_tangent on qs h.name u.name) qs) moved;
      stays = c.in_ok-found.ensures.stays on (procedure_of h) told there ∙ ap (λ qs. map (λ (u : Procedure). stays on qs h.name u.name) qs) moved;
    }

pub returns : goal.returns
returns c =
    let ps = procedures_of c.args.checked.now.program in
    let number = c.args.head.now.unit in
    let on = carried_by ps (carried_told c.args.carried) in
    let h = c.index-units-number.result in
    let at : unit_at number ps ≡ procedure_of h ∷ [] = number_there c.units_of-units.result.now c.args.checked.now.program.units c.units_of-units.ensures.units number c.requires.head h c.index-units-number.is in
    record {
      emitted = ap (map procedure_of) c.new-units.ensures.members ∙ c.in_ok-all_made.ensures.units
          ∙ program_made on ps number (procedure_of h) c.as_slice-vars.result.now at
          ∙ ap (tangent_program on ps number) c.as_slice-vars.ensures.members;
    }
