-- Prefixes: how far a refused text reads.
use Rattle.std.specs.Prelude.{◌≡◌, false, List, [], ◌∷◌, ◌++◌, reverse, ◌⊎◌}
use Rattle.adj_tree.specs.declared.fault.Refusal.{Refusal}
use Rattle.def_text.specs.Form.{Statement}
use Rattle.def_text.specs.Reads.{ReadsAll}
use Rattle.def_text.specs.declared.mode.Mode.{Mode}
use Rattle.def_text.specs.declared.stated.Stated.{Stated}
use Rattle.adj_parse.specs.Order.{is_end}
use Rattle.def_refused.specs.First.{IsLeast}
use Rattle.def_refused.specs.Following.{Continues}
use Rattle.def_refused.specs.TreeFaults.{TreeFault}

-- a refused text reads up to the refused statement: those before it have a continuation that reads. Where the code is 4 or 10, those up to it have none,
-- but for the last statement of a text that ends with another one than END
pub record ReadsUpTo (mode : Mode) (stated : List Stated) (r : Refusal) : Type 0 where
  pub before : List Stated
  pub place : Stated
  pub after : List Stated
  pub whole : stated ≡ reverse before ++ place ∷ after
  pub fault : IsLeast (TreeFault mode before place after) r
  pub statements : List Statement
  pub say : ReadsAll (reverse before) statements
  pub goes_on : Continues statements
  pub ends_here : (r.code ≡ 4) ⊎ (r.code ≡ 10) → (others : List Statement) → ReadsAll (reverse (place ∷ before)) others → Continues others → (after ≡ []) × (is_end place.kind ≡ false)
