-- The rows of a split call, its laws, and the bodies of the two units that it calls.
use Rattle.std.specs.Prelude.{ℕ, List, [], ◌∷◌, not, ◌||◌, if◌then◌else◌}
use Rattle.adj_tree.specs.Code.{plain, Act, call, Code}
use Rattle.def_meaning.specs.Append.{◌+++◌, one}
use Rattle.def_names.specs.Numbers.{Vars}
use Rattle.def_meaning.specs.Apart.{has_name}
use Rattle.def_sweep.specs.Plan.{Callee, Plan, actuals_named, Schedules}
use Rattle.def_sweep.specs.Rows.{pushes, pops, with_shadows}
use Rattle.def_sweep.specs.Emission.{forward_with, backward_with}

-- ---- the call

-- the forward sweep calls the unit that does the call and leaves its words on the tape
abbrev pub split_forward : List ℕ → ℕ → List (List ℕ) → Code
split_forward forth line given = one line (call forth (actuals_named given))

-- the backward sweep calls the unit that takes them and turns the shadows
abbrev pub back_call : List ℕ → Callee → List (List ℕ) → Act
back_call back g given = call back (with_shadows g.shadowed g.dummies given)

abbrev pub split_backward : List ℕ → ℕ → Callee → List (List ℕ) → Code
split_backward back line g given = one line (back_call back g given)

-- ---- the two units

-- what the forward unit leaves on the tape at its end, in the order of the unit's variables: its locals, and the dummies that it writes
abbrev pub left_of : Vars → List (List ℕ) → List (List ℕ) → List (List ℕ)
left_of written ds [] = []
left_of written ds (x ∷ xs) = if not (has_name x ds) || written (plain x) then x ∷ left_of written ds xs else left_of written ds xs

-- their bodies, by a plan of the unit whose first statement has the number i
abbrev pub forth_body : Schedules → Plan → ℕ → ℕ → List (List ℕ) → Code → Code
forth_body r p i line left c = forward_with r p i 0 c +++ pushes p line left

abbrev pub back_body : Schedules → Plan → ℕ → ℕ → List (List ℕ) → Code → Code
back_body r p i line left c = pops p line left +++ backward_with r p i 0 c
