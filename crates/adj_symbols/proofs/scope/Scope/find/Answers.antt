use Rattle.std.proofs.Common.{map, ap, sym, ◌∙◌}
use Rattle.adj_tree.specs.View.{procedure_of}
use Rattle.std.specs.List.{slice_get}
use Rattle.def_meaning.specs.Written.{find_unit}
use Rattle.adj_symbols.proofs.Scopes.{found_at, number_found, found_by}
use Rattle.adj_symbols.proofs.scope.Scope.find.Goals as goal

pub returns-in-Some : goal.returns-in-Some
returns-in-Some c =
    let us = c.as_slice.result.now in
    let x = c.args.name.now in
    let same = c.as_slice.ensures.value ∙ c.self.view_is in
    record {
      found = found_by procedure_of us c.in-Some.number c.get.result (find_unit (map procedure_of c.args.self.now) x) c.get.ensures.lookup.0 c.get.ensures.lookup.1
          (ap (λ z. slice_get (map procedure_of z) c.in-Some.number) same ∙ ap (found_at (map procedure_of c.args.self.now)) c.in-Some.ensures.number ∙ number_found (map procedure_of c.args.self.now) x);
    }

pub returns-in-None : goal.returns-in-None
returns-in-None c =
    let ps = map procedure_of c.args.self.now in
    record { found = sym (number_found ps c.args.name.now) ∙ ap (found_at ps) (sym c.in-None.ensures.number) }
