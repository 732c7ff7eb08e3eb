use Rattle.std.proofs.Common.{◌≡◌, ◌<◌, ◌∙◌, length, map, ap, sym, subst}
use Rattle.adj_tree.specs.Code.{Procedure}
use Rattle.adj_tree.specs.View.{procedure_of, procedures_of}
use Rattle.def_meaning.specs.Apart.{AreApart}
use Rattle.def_sweep.specs.Declared.{unit_name, unit_at}
use Rattle.def_sweep.specs.Program.{has_adjoint, has_pair, is_carried_with}
use Rattle.adj_sweep.specs.HelperSteps.{are_reversed}
use Rattle.adj_weave.specs.Marked.{program_marks}
use Rattle.adj_weave_units.specs.Calls.{numbers_from}
use Rattle.adj_weave_units.proofs.Ordered.{first_numbers}
use Rattle.adj_weave.proofs.weave.tabulated.Goals as goal

pub found_by_names-requires : goal.found_by_names-requires
found_by_names-requires c =
    let same = sym c.units_of-units.ensures.units in
    record {
      head = subst (λ us. c.args.head < length us) same c.requires.head;
      names = c.requires.names ∙ ap (λ us. map unit_name (map procedure_of us)) same;
      apart = c.requires.apart;
    }

pub returns : goal.returns
returns c =
    let ps = procedures_of c.args.checked.now.program in
    let m = program_marks c.args.marked.now in
    let moved : map procedure_of c.units_of-units.result.now ≡ ps = ap (map procedure_of) c.units_of-units.ensures.units in
    let apart : AreApart (map unit_name ps) = subst AreApart c.requires.names c.requires.apart in
    record {
      table = λ h at.
          let there = ap (unit_at c.args.head) moved ∙ at in
          record {
            names = c.in_ok-made.ensures.made;
            numbers = c.in_ok-numbers.ensures.numbers ∙ ap (numbers_from 0) moved ∙ first_numbers ps apart;
            adjointed = c.in_ok-found.ensures.adjointed h there ∙ ap (λ qs. map (λ (u : Procedure). has_adjoint m qs h u.name) qs) moved;
            paired = c.in_ok-found.ensures.paired h there ∙ ap (λ qs. map (λ (u : Procedure). has_pair m qs h u.name) qs) moved;
            carried = c.in_ok-found.ensures.carried h there ∙ ap (λ qs. map (λ (u : Procedure). is_carried_with (are_reversed c.args.loops) m qs h u.name) qs) moved;
          };
    }
