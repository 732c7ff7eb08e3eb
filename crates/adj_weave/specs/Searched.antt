-- What is known where it is found which units are emitted.
use Rattle.std.specs.Prelude.{◌≡◌, List, map, length}
use Rattle.adj_tree.specs.Code.{Procedure}
use Rattle.def_meaning.specs.Apart.{AreApart}
use Rattle.def_sweep.specs.Declared.{unit_name}
use Rattle.adj_weave_units.specs.Calls.{listed_from}
use Rattle.adj_weave.specs.declared.found.Search.{Search}

-- the calls are those of these units, no two of which have one name
pub record IsSearched (s : Search) (ps : List Procedure) : Type 0 where
  pub apart : AreApart (map unit_name ps)
  pub calls : s.calls.now ≡ listed_from (map unit_name ps) 0 0 ps
  pub count : s.count ≡ length ps
