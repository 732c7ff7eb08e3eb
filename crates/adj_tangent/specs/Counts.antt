-- How many parts and temporaries terms and statements have, as the code counts them.
use Rattle.std.specs.Prelude.{◌≡◌}
use Rattle.adj_tree.specs.Code.{Term, Act, Code}
use Rattle.def_names.specs.Numbers.{Vars}
use Rattle.def_sweep.specs.Occurrences.{is_active_where}
use Rattle.def_sweep.specs.AdjointOf.{temps_in_where}
use Rattle.def_tangent.specs.TangentOf.{parts_in_where}
use Rattle.def_tangent.specs.Program.{parts_act, parts_used, temps_act, temps_used}
use Rattle.adj_tangent.specs.declared.uses.Counts.{Counts}
use Rattle.adj_tangent.specs.declared.uses.Used.{Used}

-- of a term
pub record AreCounts (on : Vars) (t : Term) (c : Counts) : Type 0 where
  pub parts : c.parts ≡ parts_in_where on t
  pub temps : c.temps ≡ temps_in_where on t
  pub active : c.active ≡ is_active_where on t

-- of a statement, and of a list
pub record UsesAct (on : Vars) (a : Act) (u : Used) : Type 0 where
  pub parts : u.parts ≡ parts_act on a
  pub temps : u.temps ≡ temps_act on a

pub record UsesList (on : Vars) (c : Code) (u : Used) : Type 0 where
  pub parts : u.parts ≡ parts_used on c
  pub temps : u.temps ≡ temps_used on c
