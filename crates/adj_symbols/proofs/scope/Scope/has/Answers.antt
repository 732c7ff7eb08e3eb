use Rattle.std.proofs.Common.{map, ap, ◌∙◌}
use Rattle.std.specs.Prelude.{is_some}
use Rattle.adj_tree.specs.View.{procedure_of}
use Rattle.adj_symbols.proofs.Scopes.{number_has}
use Rattle.adj_symbols.proofs.scope.Scope.has.Goals as goal

pub returns : goal.returns
returns c = record { has = c.is_some.ensures ∙ ap is_some c.number.ensures.number ∙ number_has 0 (map procedure_of c.args.self.now) c.args.name.now }
