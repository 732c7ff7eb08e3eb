-- What the code knows of the units that are called.
use Rattle.std.specs.Prelude.{◌≡◌, ℕ, List, map, position, Option, Some, None, slice_get, unwrap_or}
use Rattle.adj_tree.specs.Code.{plain, name_eq}
use Rattle.def_names.specs.Numbers.{Vars}
use Rattle.def_sweep.specs.Plan as sweeps
use Rattle.adj_sweep.specs.declared.callees.Dummy.{Dummy}
use Rattle.adj_sweep.specs.declared.callees.Callee.{Callee}
use Rattle.adj_sweep.specs.declared.callees.Callees.{Callees}

-- what is known of a unit at a place, if there is one
abbrev pub callee_at : Callees → Option ℕ → Callee
callee_at c None = c.other
callee_at c (Some place) = unwrap_or (slice_get c.known.items place) c.other

-- what is known of the unit of a name
abbrev pub callee_named : Callees → List ℕ → Callee
callee_named c name = callee_at c (position (name_eq name) c.names)

-- a dummy, as the sweeps of a call see it, where the unit reads these
abbrev pub seen : sweeps.Callee → Vars → List ℕ → Dummy
seen g read d = record { written = g.written (plain d); read = read (plain d); member = g.members (plain d); shadowed = g.shadowed (plain d) }

-- k is what the sweeps of a call know of the unit, which reads these
pub record Knows (k : Callee) (g : sweeps.Callee) (read : Vars) : Type 0 where
  pub adjoint : k.adjoint ≡ g.adjoint
  pub forth : k.forth ≡ g.forth
  pub back : k.back ≡ g.back
  pub dummies : k.dummies.items ≡ map (seen g read) g.dummies

-- the same of all units
abbrev pub KnowsAll : Callees → (List ℕ → sweeps.Callee) → (List ℕ → Vars) → Type 0
KnowsAll c callees reads = (name : List ℕ) → Knows (callee_named c name) (callees name) (reads name)
