-- Tables of names.
use Rattle.std.specs.Prelude.{List, [], fold}
use Rattle.def_names.specs.Variables.{Name}
use Rattle.adj_sets.specs.Sets.{with_name}

-- some names, each once
abbrev pub once : List Name → List Name
once xs = fold with_name [] xs
