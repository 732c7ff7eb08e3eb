-- The variables that a call binds: each dummy to its actual, and shadows to shadows.
use Rattle.std.specs.Prelude.{ℕ, List, [], ◌∷◌, if◌then◌else◌}
use Rattle.adj_tree.specs.Code.{Var, plain, shadow, Terms, none, more, var}
use Rattle.def_names.specs.Numbers.{Vars}

-- the unit's variables that stand for the caller's
abbrev pub Bindings : Type 0
Bindings = List (Var × Var)

-- each dummy with its actual, and their shadows where the dummy has one
abbrev pub bindings : Vars → List (List ℕ) → List (List ℕ) → Bindings
bindings shadowed [] given = []
bindings shadowed (d ∷ ds) [] = []
bindings shadowed (d ∷ ds) (a ∷ given) =
    if shadowed (plain d) then (plain d, plain a) ∷ (shadow d, shadow a) ∷ bindings shadowed ds given else (plain d, plain a) ∷ bindings shadowed ds given

-- the actuals of a call with these bindings
abbrev pub actuals_in : Bindings → Terms
actuals_in [] = none
actuals_in (b ∷ bs) = more (var b.1) (actuals_in bs)
