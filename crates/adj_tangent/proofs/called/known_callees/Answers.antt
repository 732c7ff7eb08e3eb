use Rattle.std.proofs.Common.{◌≡◌, ◌∙◌, map, length, ap, sym, subst}
use Rattle.std.proofs.lemmas.List.{length-map}
use Rattle.adj_tree.specs.Code.{Procedure}
use Rattle.adj_tree.specs.View.{procedure_of, procedures_of}
use Rattle.def_meaning.specs.Apart.{AreApart}
use Rattle.def_sweep.specs.Declared.{unit_name}
use Rattle.def_tangent.specs.Program.{tangent_name}
use Rattle.adj_sets.specs.Sets.{all_added}
use Rattle.adj_naming.proofs.Added.{all_once}
use Rattle.adj_flow.specs.declared.row.Part as row
use Rattle.adj_tangent.specs.declared.plan.Callees.{Callees}
use Rattle.adj_tangent.specs.Flagged.{carried_told}
use Rattle.adj_tangent.specs.Known.{said_of}
use Rattle.adj_tangent.proofs.Known.{all_known, all_taking}
use Rattle.adj_tangent.proofs.called.known_callees.Goals as goal

pub known_units-requires : goal.known_units-requires
known_units-requires c =
    let us = c.args.checked.now.program.units in
    let ps = map procedure_of us in
    record {
      units = sym (length-map c.args.carried.now.flow.now.parts.items (λ (p : row.Part). procedure_of p.unit.now)) ∙ ap length c.requires.units ∙ length-map us procedure_of;
      named = ap length c.requires.tangents ∙ length-map ps (λ (u : Procedure). tangent_name ps u.name) ∙ length-map us procedure_of;
    }

pub returns : goal.returns
returns c =
    let on = carried_told c.args.carried.now in
    let ps = procedures_of c.args.checked.now.program in
    let set : c.add_names.new.set ≡ map unit_name ps =
    c.in_ok-add_names.ensures.added ∙ ap (λ s. all_added s c.args.names.now) c.in_ok-set.ensures.empty ∙ all_once c.args.names.now c.requires.apart ∙ c.requires.names in
    let all : Callees = record { names = c.add_names.new.set; known = c.in_ok-known.known } in
    let apart = subst AreApart c.requires.names c.requires.apart in
    let known = c.in_ok-known.ensures.known ∙ ap (said_of on 0 ps) c.requires.tangents in
    record { known = all_known on ps apart all set known; takes = all_taking on ps apart all set known }
