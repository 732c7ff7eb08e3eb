-- What clauses see of the reader's state.
use Rattle.std.specs.Prelude.{List, map, option_map}
use Rattle.def_text.specs.Lined.{Lines, Directive, Pass}
use Rattle.adj_fixed.specs.declared.lined.Lined.{Lined}
use Rattle.adj_fixed.specs.declared.lined.Directive.{Directive as CodeDirective}
use Rattle.adj_fixed.specs.declared.lined.Reader.{Reader}

abbrev pub lines_of : Lined → Lines
lines_of s = record { line = s.line; label = s.label; advice = s.advice; mark_line = s.mark_line; text = s.text.items; room = s.room }

abbrev pub all_lines : List Lined → List Lines
all_lines ss = map lines_of ss

abbrev pub directive_of : CodeDirective → Directive
directive_of d = record { advice = d.advice; line = d.line }

abbrev pub pass_of : Reader → Pass
pass_of r = record { done = all_lines r.done.items; current = option_map lines_of r.current; pending = option_map directive_of r.pending }
