use Rattle.std.proofs.Common.{◌∙◌}
use Rattle.adj_tree.specs.View.{terms_of, procedure_of}
use Rattle.adj_symbols.proofs.Clashing.{at_first}
use Rattle.adj_symbols.proofs.sharing.have_clash.Goals as goal

pub returns : goal.returns
returns c = c.in_ok-found.ensures ∙ at_first (procedure_of c.args.caller.now) c.in_ok-known.known c.args.row.now (terms_of c.args.actuals.now) c.in_ok-known.ensures.none
