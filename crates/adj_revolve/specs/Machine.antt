-- The snapshot machine, and what it says of a list of actions: it knows nothing of binomial numbers.
-- (docs/SCHEDULES.md, "The machine")
use Rattle.std.specs.Prelude.{◌≡◌, ℕ, zero, suc, ◌+◌, ◌-◌, ◌<◌, ◌==◌, ◌&&◌, nat_le, nat_lt, if◌then◌else◌, List, [], ◌∷◌, length, Option, Some, None, ◌⊎◌}
use Rattle.adj_revolve.specs.declared.machine.Action.{Action}
use Rattle.adj_revolve.specs.declared.machine.Action.TheVariants.{Store, Advance, Turn, Keep, Drop}

-- the place at which the program stands, if any; the places that are stored, the last one first; how many steps are left
pub record State : Type 0 where
  pub working : Option ℕ
  pub stored : List ℕ
  pub left : ℕ

-- p is one of the places
abbrev pub IsAmong : ℕ → List ℕ → Type 0
IsAmong p [] = ⊥
IsAmong p (x ∷ xs) = (x ≡ p) ⊎ IsAmong p xs

-- the places without the first p
abbrev pub without : ℕ → List ℕ → List ℕ
without p [] = []
without p (x ∷ xs) = if x == p then xs else (x ∷ without p xs)

-- the state before l steps were turned
abbrev pub start_state : ℕ → State
start_state l = record { working = Some 0; stored = []; left = l }

-- the machine with so many slots allows the action in the state
abbrev pub Allowed : ℕ → State → Action → Type 0
Allowed slots a (Store p) = (a.working ≡ Some p) × (IsAmong p a.stored → ⊥) × (length a.stored < slots)
Allowed slots a (Advance p q) = (a.working ≡ Some p) × (p < q) × (q < a.left)
Allowed slots a (Turn p) = (a.working ≡ Some p) × (p + 1 ≡ a.left)
Allowed slots a (Keep p) = IsAmong p a.stored
Allowed slots a (Drop p) = IsAmong p a.stored

-- the state after the action
abbrev pub next_state : State → Action → State
next_state a (Store p) = record { working = a.working; stored = p ∷ a.stored; left = a.left }
next_state a (Advance p q) = record { working = Some q; stored = a.stored; left = a.left }
next_state a (Turn p) = record { working = None; stored = a.stored; left = p }
next_state a (Keep p) = record { working = Some p; stored = a.stored; left = a.left }
next_state a (Drop p) = record { working = Some p; stored = without p a.stored; left = a.left }

-- only an advance has a cost: the steps that it leads over
abbrev pub action_cost : Action → ℕ
action_cost (Store p) = 0
action_cost (Advance p q) = q - p
action_cost (Turn p) = 0
action_cost (Keep p) = 0
action_cost (Drop p) = 0

-- what a list of actions costs
abbrev pub total_cost : List Action → ℕ
total_cost [] = 0
total_cost (x ∷ xs) = action_cost x + total_cost xs

-- from the state on, the machine allows each action in turn, and no step is left at the end
abbrev pub PlaysFrom : ℕ → State → List Action → Type 0
PlaysFrom slots a [] = a.left ≡ 0
PlaysFrom slots a (x ∷ xs) = Allowed slots a x × PlaysFrom slots (next_state a x) xs

-- the list turns l steps on the machine with so many slots
abbrev pub Plays : ℕ → ℕ → List Action → Type 0
Plays l slots actions = PlaysFrom slots (start_state l) actions

-- action i is the first that is not allowed, or all are, i is how many there are, and steps are left
abbrev pub FailsFrom : ℕ → State → List Action → ℕ → Type 0
FailsFrom slots a [] i = (i ≡ 0) × (a.left ≡ 0 → ⊥)
FailsFrom slots a (x ∷ xs) zero = Allowed slots a x → ⊥
FailsFrom slots a (x ∷ xs) (suc i) = Allowed slots a x × FailsFrom slots (next_state a x) xs i

-- the list fails at i where it is to turn l steps
abbrev pub FailsAt : ℕ → ℕ → List Action → ℕ → Type 0
FailsAt l slots actions i = FailsFrom slots (start_state l) actions i

-- how many advances of the list lead over the step
abbrev pub advances_over : ℕ → List Action → ℕ
advances_over step [] = 0
advances_over step (Store p ∷ xs) = advances_over step xs
advances_over step (Advance p q ∷ xs) = (if (nat_le p step && nat_lt step q) then 1 else 0) + advances_over step xs
advances_over step (Turn p ∷ xs) = advances_over step xs
advances_over step (Keep p ∷ xs) = advances_over step xs
advances_over step (Drop p ∷ xs) = advances_over step xs
