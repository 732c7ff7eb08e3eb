-- What a plan of the code says: the naming of the unit, what carries a tangent, and what is known of the units that are called.
use Rattle.std.specs.Prelude.{◌≡◌, ℕ, List, [], ◌∷◌, Bool, true, false, ◌||◌, Option, Some, None, position, slice_get, if◌then◌else◌}
use Rattle.adj_tree.specs.Code.{Var, plain, shadow, name_eq, var, Terms, none, more}
use Rattle.def_names.specs.Numbers.{Vars}
use Rattle.def_sweep.specs.Marks.{active_at}
use Rattle.def_sweep.specs.MarkedAdjoint.{shadow_flags}
use Rattle.def_tangent.specs.Forward as forward
use Rattle.def_tangent.specs.Forward.{takes_some}
use Rattle.adj_naming.specs.Table.{named_by}
use Rattle.adj_sweep_assignment.specs.View.{marks_of}
use Rattle.adj_sweep_assignment.specs.declared.marking.Marking.{Marking}
use Rattle.adj_tangent.specs.declared.plan.Callee.{Callee}
use Rattle.adj_tangent.specs.declared.plan.Callees.{Callees}
use Rattle.adj_tangent.specs.declared.plan.Plan.{Plan}

-- the variables whose occurrences are active by a marking, wherever they stand
abbrev pub active_by : Marking → Vars
active_by m = active_at (marks_of m) 0

-- the variables under the names of the unit
abbrev pub naming_in : Plan → Var → Var
naming_in p = named_by p.names.now

-- the plan, where this is known of the units that are called
abbrev pub plan_of : Plan → (List ℕ → forward.Callee) → forward.Plan
plan_of p callees = record { carried = active_by p.marking.now; callees = callees }

-- whether a flag is set
abbrev pub has_some : List Bool → Bool
has_some [] = false
has_some (f ∷ fs) = f || has_some fs

-- the unit at a place, if one of its dummies carries a tangent
abbrev pub if_taking : Option Callee → Option Callee
if_taking None = None
if_taking (Some k) = if has_some k.carried then Some k else None

abbrev pub taking_at : Callees → Option ℕ → Option Callee
taking_at c None = None
taking_at c (Some place) = if_taking (slice_get c.known.items place)

-- that of a name
abbrev pub taking_of : Callees → List ℕ → Option Callee
taking_of c name = taking_at c (position (name_eq name) c.names)

-- k is what calls know of the unit, if one of its dummies carries a tangent
abbrev pub Knows : Option Callee → forward.Callee → Type 0
Knows None g = takes_some g.carried g.dummies ≡ false
Knows (Some k) g = (takes_some g.carried g.dummies ≡ true) × (k.tangent ≡ g.tangent) × (k.carried ≡ shadow_flags g.carried g.dummies)

-- the same of all units
abbrev pub KnowsAll : Callees → (List ℕ → forward.Callee) → Type 0
KnowsAll c callees = (name : List ℕ) → Knows (taking_of c name) (callees name)

-- an actual, followed by its tangent where the flag is set
abbrev pub with_tangent : Bool → List ℕ → Terms → Terms
with_tangent b a others = if b then more (var (plain a)) (more (var (shadow a)) others) else more (var (plain a)) others

abbrev pub all_with_tangents : List Bool → List (List ℕ) → Terms
all_with_tangents [] given = none
all_with_tangents (f ∷ fs) [] = none
all_with_tangents (f ∷ fs) (a ∷ given) = with_tangent f a (all_with_tangents fs given)
