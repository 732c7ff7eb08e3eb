-- A subscript of a target.
use Rattle.std.specs.Prelude.{ℕ, Bool, true, false}
use Rattle.adj_tree.specs.Code.{Var, Term, var, Code, stop}
use Rattle.def_kernel.specs.Lowered.{set_local, locals_in}

-- what stands in its place, where it is known whether it mentions the array
abbrev pub kept_apart : Bool → Var → Term → Term
kept_apart true local e = var local
kept_apart false local e = e

-- what sets the local of number j
abbrev pub before_kept : (ℕ → Var) → Bool → ℕ → ℕ → ℕ → Term → Code
before_kept local true line j m e = set_local local line j m e
before_kept local false line j m e = stop

-- how many locals are taken in it
abbrev pub locals_kept : Bool → Term → ℕ
locals_kept true e = locals_in e
locals_kept false e = 0
