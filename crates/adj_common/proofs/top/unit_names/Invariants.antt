-- The units passed.
use Rattle.std.proofs.Common.{◌≡◌, map, take}
use Rattle.adj_tree.specs.CommonView.{shared_of}
use Rattle.def_common.specs.Members.{unit_names}
use Rattle.adj_common.proofs.top.unit_names.Given as goal

abbrev pub invariant-loop-shared : goal.invariant-loop-shared
invariant-loop-shared l = l.out.items ≡ unit_names (map shared_of (take l.shared-index l.units))
