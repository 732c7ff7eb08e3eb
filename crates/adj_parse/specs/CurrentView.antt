-- CurrentView: what clauses see of the unit that is being read.
use Rattle.std.specs.Prelude.{List, map, Option, option_map}
use Rattle.adj_tree.specs.Code.{stop}
use Rattle.adj_tree.specs.View.{declaration_of}
use Rattle.adj_tree.specs.CommonView.{common_of, shared_of}
use Rattle.adj_tree.specs.declared.shared.SharedUnit.{SharedUnit}
use Rattle.adj_parse.specs.Unit as unit
use Rattle.adj_parse.specs.NestView.{nest_of}
use Rattle.adj_parse.specs.Trees.{State}
use Rattle.adj_parse.specs.declared.parser.Parser.{Parser}
use Rattle.adj_parse.specs.declared.current.Current.{Current}

abbrev pub current_of : Current → unit.Current
current_of c = record {
  unit = record {
    unit = record { line = c.line; name = c.name; dummies = c.dummies; is_none = c.none; declarations = map declaration_of c.decls.items; body = stop };
    commons = map common_of c.commons.items;
  };
  phase = c.phase;
  nest = nest_of c.nest;
}

-- the units so far
abbrev pub units_of : List SharedUnit → Option Current → unit.Units
units_of done current = record { done = map shared_of done; current = option_map current_of current }

abbrev pub state_of : Parser → State
state_of p = record { units = units_of p.units.items p.current; room = p.room }
