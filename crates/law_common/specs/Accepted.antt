-- The premises of the theorem: what reading and checking a text give.
use Rattle.std.specs.Prelude.{◌≡◌, List, None}
use Rattle.def_text.specs.Written.{AreWritten}
use Rattle.def_names.specs.Fault.{Rules}
use Rattle.def_names.specs.Check.{IsSound}
use Rattle.adj_tree.specs.Common.{Shared}
use Rattle.def_common.specs.Lowering.{lowered_program}
use Rattle.def_common.specs.Refused.{layout_refusal}

-- units and their COMMON statements are such as stand in a text, there is no refusal of layouts, and the lowered program has no fault of units,
-- names, calls, chains and writes
pub record Accepted (m : Rules) (ps : List Shared) : Type 0 where
  pub written : AreWritten ps
  pub alike : layout_refusal ps ≡ None
  pub sound : IsSound m (lowered_program ps)
