-- What is computed is exact, where all sets are closed.
use Rattle.std.proofs.Common.{◌≡◌, ℕ, List, Bool, true, refl}
use Rattle.std.specs.Prelude.{Contains, ◌↔◌, ◌&&◌, map}
use Rattle.adj_tree.specs.Code.{Var}
use Rattle.def_names.specs.Numbers.{Vars, everything}
use Rattle.def_sweep.specs.Facts.{In}
use Rattle.def_sweep.specs.Callees.{nothing}
use Rattle.adj_reach.specs.Reached.{Reached}
use Rattle.def_flow.specs.Problem.{Problem}
use Rattle.def_flow.specs.Flow as flow
use Rattle.def_flow.specs.Flow.{Node}
use Rattle.def_flow.specs.Activity as activity
use Rattle.def_flow.specs.Rules.{Scope, Covers, head_parts, part_steps, flow_steps, varied_starts}
use Rattle.def_flow.specs.Closure.{is_in, closure, is_closed}
use Rattle.def_flow.specs.Scopes.{same_number, scope_of}
use Rattle.law_flow.specs.Computed.{same_node, by_point}
use Rattle.def_flow.proofs.Closure.{closure_exact}
use Rattle.adj_reach.proofs.Reaching.{reached_seen}
use Rattle.def_flow.proofs.NumbersSame.{numbers_same}
use Rattle.law_flow.proofs.Sameness.{nodes_same}
use Rattle.def_flow.proofs.AsLists.{AreLists, reached_known, exact_by_lists}
use Rattle.def_flow.proofs.Sets.{both}
use Rattle.def_flow.proofs.PartsListed.{scope_covers}
use Rattle.def_flow.proofs.FlowListed.{varied_lists}
use Rattle.def_flow.proofs.ShadowListed as shadows
use Rattle.def_flow.specs.Carried.{CarriesOutright, LendsTangent, CarriesTangent, IsCarrying}
use Rattle.def_flow.specs.Carried.{independent, dependent, somewhere, handed}
use Rattle.law_tangent_carried.specs.Computed.{carried_starts, carried_steps, with_starts, with_scope, carrying}

-- a set holds just what lists reach
abbrev Finds : List Node → List Node → List (Node × Node) → Type 0
Finds set starts steps = (x : Node) → (is_in same_node set x ≡ true) ↔ Reached (λ y. Contains starts y) (λ y z. Contains steps (y, z)) x

module _ (k : Problem) (o : Scope) (y : Covers k o) (set : List Node) (found : Finds set (varied_starts k) (flow_steps k o)) where
  abbrev f : ℕ → Vars
  f = by_point set

  varied_is : (p : ℕ) (v : Var) → In v (f p) ↔ flow.Varied k (p, v)
  varied_is p v = let e = exact_by_lists (varied_lists k o y) (p, v) in (λ h. e.1 ((found (p, v)).0 h), λ h. (found (p, v)).1 (e.0 h))

  -- what carries a tangent outright has a shadow outright where all is useful, and the other way round
  begun : (n : ℕ × Var) → CarriesOutright k n → activity.HasShadow k f (λ p. everything) n
  begun n (independent h c) = activity.independent h c
  begun n (dependent h c) = activity.dependent h c
  begun n (somewhere {p = p} {v = v} t i h) = activity.active t i i ((varied_is p v).1 h) refl

  begun_back : (n : ℕ × Var) → activity.HasShadow k f (λ p. everything) n → CarriesOutright k n
  begun_back n (activity.independent h c) = independent h c
  begun_back n (activity.dependent h c) = dependent h c
  begun_back n (activity.active {p = p} {v = v} t i j a b) = somewhere t i ((varied_is p v).0 a)

  lent : (n m : ℕ × Var) → LendsTangent k n m → activity.LendsShadow k (λ p. nothing) n m
  lent n m (handed t u c) = activity.handed t u c

  lent_back : (n m : ℕ × Var) → activity.LendsShadow k (λ p. nothing) n m → LendsTangent k n m
  lent_back n m (activity.handed t u c) = handed t u c
  lent_back n m (activity.passed t u c e) = absurd cc

  lists : AreLists (activity.HasShadow k f (λ p. everything)) (activity.LendsShadow k (λ p. nothing)) (shadows.IsKnown k o y f (λ p. everything) (λ p w h. (reached_known (varied_lists k o y) (p, w) ((varied_is p w).0 h)).0)) (carried_starts k o f) (carried_steps k o)
  lists =
      let one = shadows.shadow_lists k o y f (λ p. everything) (λ p w h. (reached_known (varied_lists k o y) (p, w) ((varied_is p w).0 h)).0) in
      let two = shadows.shadow_lists k o y (λ p. nothing) (λ p. everything) (λ p w h. absurd cc) in
      record { begun = one.begun; led = two.led; only_begun = one.only_begun; only_led = two.only_led }

  carried_is : (all : List Node) → Finds all (carried_starts k o f) (carried_steps k o) → (u : ℕ) (v : Var) → In v (by_point all u) ↔ CarriesTangent k (u, v)
  carried_is all fa u v =
      let e = exact_by_lists lists (u, v) in
      (λ h. reached_seen (λ z. z) begun_back lent_back (u, v) (e.1 ((fa (u, v)).0 h)), λ h. (fa (u, v)).1 (e.0 (reached_seen (λ z. z) begun lent (u, v) h)))

  carried_found : (n : ℕ) (b : Bool) → (with_starts k n o b set).closed ≡ true → IsCarrying k f (by_point (with_starts k n o b set).carried)
  carried_found n b h =
      let steps = carried_steps k o in
      let starts = carried_starts k o f in
      let c = both b (is_closed same_node steps (closure same_node steps n starts)) h in
      record { varied = varied_is; carried = carried_is (closure same_node steps n starts) (closure_exact nodes_same steps starts n c.1) }

-- where the sets of varied variables are closed, and those of what carries a tangent
module _ (k : Problem) (o : Scope) (y : Covers k o) where
  scope_found : (n : ℕ) (b : Bool) → (with_scope k n o b).closed ≡ true → IsCarrying k (by_point (with_scope k n o b).varied) (by_point (with_scope k n o b).carried)
  scope_found n b h =
      let steps = flow_steps k o in
      let set : List Node = closure same_node steps n (varied_starts k) in
      let c = both (b && is_closed same_node steps set) (is_closed same_node (carried_steps k o) (closure same_node (carried_steps k o) n (carried_starts k o (by_point set)))) h in
      let d = both b (is_closed same_node steps set) c.0 in
      carried_found k o y set (closure_exact nodes_same steps (varied_starts k) n d.1) n (b && is_closed same_node steps set) h

-- the law
pub carrying_found : (k : Problem) (n : ℕ) → (carrying k n).closed ≡ true → IsCarrying k (by_point (carrying k n).varied) (by_point (carrying k n).carried)
carrying_found k n h =
    let numbers : List ℕ = closure same_number (part_steps k) n (map (λ g. g.number) (head_parts k)) in
    let o = scope_of k numbers in
    let b = is_closed same_number (part_steps k) numbers in
    let set : List Node = closure same_node (flow_steps k o) n (varied_starts k) in
    let c = both (b && is_closed same_node (flow_steps k o) set) (is_closed same_node (carried_steps k o) (closure same_node (carried_steps k o) n (carried_starts k o (by_point set)))) h in
    let d = both b (is_closed same_node (flow_steps k o) set) c.0 in
    scope_found k o (scope_covers k numbers (closure_exact numbers_same (part_steps k) (map (λ g. g.number) (head_parts k)) n d.0)) n b h
