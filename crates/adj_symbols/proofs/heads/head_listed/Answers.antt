use Rattle.adj_tree.specs.View.{procedure_of}
use Rattle.def_names.specs.HeadFaults.{listed_faults}
use Rattle.def_names.proofs.Order.{sooner_then}
use Rattle.adj_symbols.proofs.heads.head_listed.Goals as goal

pub returns-clause-faults : goal.returns-clause-faults
returns-clause-faults c =
    let u = procedure_of c.args.outline.now in
    sooner_then (listed_faults u c.args.vars.now) (listed_faults u c.args.outvars.now) c.args.first.now c.add_listed.new.first c.add_listed-2.new.first c.in_ok-vars.ensures.faults c.in_ok-outvars.ensures.faults
