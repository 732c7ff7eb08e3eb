-- The scope that flags and lists of variables make.
use Rattle.std.specs.Prelude.{ℕ, List, [], map, filter, Bool, Contains, slice_index_or}
use Rattle.adj_tree.specs.Code.{Var, plain, Procedure}
use Rattle.def_flow.specs.Parts as parts
use Rattle.def_flow.specs.Standing.{Standing}
use Rattle.def_names.specs.VariableLists.{standing_in}
use Rattle.def_flow.specs.Problem.{statements_of}
use Rattle.def_flow.specs.Rules.{Scope}

-- the units that take part, with these variables
abbrev pub scope_by : List (List (List ℕ)) → (ℕ → Bool) → List Procedure → Scope
scope_by vss takes ps = record { parts = filter (λ g. takes g.number) (parts.parts ps); variables = λ g. map plain (slice_index_or vss g.number []) }

-- the variables of each unit hold its dummies and what stands in its statements
pub record HoldVariables (vss : List (List (List ℕ))) (ps : List Procedure) : Type 0 where
  pub dummies : (g : parts.Part) → Contains (parts.parts ps) g → (d : List ℕ) → Contains g.unit.dummies d → Contains (slice_index_or vss g.number []) d
  pub standing : (g : parts.Part) → Contains (parts.parts ps) g → (s : Standing) → Contains (statements_of g) s → (v : Var) → Contains (standing_in s.act) v → Contains (map plain (slice_index_or vss g.number [])) v
