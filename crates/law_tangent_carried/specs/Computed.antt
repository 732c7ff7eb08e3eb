-- What is varied and what carries a tangent, computed: each set in some passes over its steps.
use Rattle.std.specs.Prelude.{◌≡◌, ℕ, List, map, Bool, true, ◌&&◌}
use Rattle.def_names.specs.Numbers.{Vars, everything}
use Rattle.def_sweep.specs.Callees.{nothing}
use Rattle.def_flow.specs.Problem.{Problem}
use Rattle.def_flow.specs.Flow.{Node}
use Rattle.def_flow.specs.Rules.{Scope, head_parts, part_steps, flow_steps, varied_starts, shadow_starts, shadow_steps}
use Rattle.def_flow.specs.Closure.{closure, is_closed}
use Rattle.def_flow.specs.Scopes.{same_number, scope_of}
use Rattle.law_flow.specs.Computed.{same_node, by_point}
use Rattle.def_flow.specs.Carried.{IsCarrying}

-- The set is that of shadows where all is useful and no dummy is varied at an entry: shadows begin with what is varied and useful, and are lent by
-- a dummy to its actual, and by an actual to a dummy that is varied at its entry.
abbrev pub carried_starts : Problem → Scope → (ℕ → Vars) → List Node
carried_starts k o varied = shadow_starts k o varied (λ p. everything)

abbrev pub carried_steps : Problem → Scope → List (Node × Node)
carried_steps k o = shadow_steps k o (λ p. nothing)

-- whether both sets are closed, and the sets: variables by points, and by units
pub record Carrying : Type 0 where
  pub closed : Bool
  pub varied : List Node
  pub carried : List Node

abbrev pub with_carried : List (Node × Node) → Bool → List Node → List Node → Carrying
with_carried steps b varied carried = record { closed = b && is_closed same_node steps carried; varied = varied; carried = carried }

abbrev pub with_starts : Problem → ℕ → Scope → Bool → List Node → Carrying
with_starts k n o b varied = with_carried (carried_steps k o) b varied (closure same_node (carried_steps k o) n (carried_starts k o (by_point varied)))

abbrev pub with_flow : Problem → ℕ → Scope → Bool → List (Node × Node) → List Node → Carrying
with_flow k n o b steps varied = with_starts k n o (b && is_closed same_node steps varied) varied

abbrev pub with_steps : Problem → ℕ → Scope → Bool → List (Node × Node) → Carrying
with_steps k n o b steps = with_flow k n o b steps (closure same_node steps n (varied_starts k))

abbrev pub with_scope : Problem → ℕ → Scope → Bool → Carrying
with_scope k n o b = with_steps k n o b (flow_steps k o)

abbrev pub with_parts : Problem → ℕ → List ℕ → Carrying
with_parts k n numbers = with_scope k n (scope_of k numbers) (is_closed same_number (part_steps k) numbers)

-- in so many passes
abbrev pub carrying : Problem → ℕ → Carrying
carrying k n = with_parts k n (closure same_number (part_steps k) n (map (λ g. g.number) (head_parts k)))

-- where both sets are closed they are exact
abbrev pub ComputedIsExact : Type 0
ComputedIsExact = (k : Problem) (n : ℕ) → (carrying k n).closed ≡ true → IsCarrying k (by_point (carrying k n).varied) (by_point (carrying k n).carried)
