use Rattle.std.proofs.Common.{ap, ◌∙◌, ◌++◌, ◌∷◌, [], map}
use Rattle.adj_tree.specs.View.{procedure_of}
use Rattle.def_names.specs.Variables.{variables}
use Rattle.def_names.specs.NameFaults.{faults_of_names}
use Rattle.def_names.proofs.Order.{sooner_mapped}
use Rattle.adj_symbols.specs.Rules.{rules_of}
use Rattle.adj_symbols.proofs.Names.{map_more}
use Rattle.adj_symbols.proofs.unit_names.add_names.Goals as goal

pub loop-outline-preserved : goal.loop-outline-preserved
loop-outline-preserved c =
    let os = c.outlines-outline-items.result.now in
    let i = c.loop-outline.outline-index in
    let o = c.outline-item.result in
    record {
      faults =
          sooner_mapped procedure_of (faults_of_names (rules_of c.args.rules) (map procedure_of c.args.scope.now)) os i o c.loop-outline.first c.add_unit_names.new.first c.loop-outline-test.true c.outline-item.is c.in_ok-add_unit_names.ensures.faults
          ∙ c.loop-outline.invariant.faults;
      found =
          map_more procedure_of variables os i o c.loop-outline.variables.items c.push.new.self.items c.loop-outline-test.true c.outline-item.is
          (c.in_ok-push.ensures.items ∙ ap (λ v. c.loop-outline.variables.items ++ v ∷ []) c.in_ok-add_unit_names.ensures.variables)
          ∙ c.loop-outline.invariant.found;
    }
