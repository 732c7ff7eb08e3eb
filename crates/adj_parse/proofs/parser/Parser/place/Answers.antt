use Rattle.std.proofs.Common.{◌∙◌, sym, ap, map}
use Rattle.adj_tree.specs.View.{mark_of}
use Rattle.adj_tree.specs.CommonView.{shared_of}
use Rattle.adj_parse.specs.Unit.{followed}
use Rattle.adj_parse.specs.CurrentView.{current_of}
use Rattle.adj_parse_statement.specs.View.{form_of}
use Rattle.std.specs.Prelude.{option_map}
use Rattle.adj_parse.proofs.parser.Parser.place.Goals as goal

pub returns-in-None-clause-placed : goal.returns-in-None-clause-placed
returns-in-None-clause-placed c =
    let done = map shared_of c.args.self.now.units.items in
    let form = form_of (mark_of c.args.mark) c.args.said in
    sym (ap (λ o. followed done (option_map current_of o) c.args.line c.args.label form) (sym c.take.ensures.value ∙ c.in-None.is) ∙ c.heading.ensures c.args.label (mark_of c.args.mark) done)
