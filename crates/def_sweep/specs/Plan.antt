-- What the sweeps of a unit follow: its marks, and what they know of its variables and of the units that it calls.
use Rattle.std.specs.Prelude.{◌≡◌, ℕ, suc, List, [], ◌∷◌, Bool, true, false, ◌||◌, ◌&&◌, Option, Some, None, if◌then◌else◌}
use Rattle.adj_tree.specs.Code.{plain, name_eq, var, Terms, none, more, Mark, unmarked, with_count, count_from, call, Code, stop, step}
use Rattle.def_names.specs.Numbers.{Vars, everything}
use Rattle.def_sweep.specs.Marks.{Marks}

-- what the sweeps of a call know of the unit that is called; its sets are over its own variables
pub record Callee : Type 0 where
  -- the name of its adjoint
  pub adjoint : List ℕ
  -- those of its forward and its backward unit, which split calls of it call
  pub forth : List ℕ
  pub back : List ℕ
  pub dummies : List (List ℕ)
  -- the dummies that it writes
  pub written : Vars
  -- the dummies that its adjoint needs at its entry
  pub members : Vars
  -- the variables that have a shadow
  pub shadowed : Vars

pub record Plan : Type 0 where
  pub marks : Marks
  -- the unit's variables that are arrays
  pub arrays : Vars
  -- the units by their names
  pub callees : List ℕ → Callee

-- the statement of this number is part of a sweep
abbrev pub is_emitted : Marks → ℕ → Bool
is_emitted m i = m.kept i || m.adjointed i

-- ---- actuals, which are names

-- the names among some actuals
abbrev pub names_of : Terms → List (List ℕ)
names_of none = []
names_of (more (var (plain a)) es) = a ∷ names_of es
names_of (more e es) = names_of es

-- names as actuals
abbrev pub actuals_named : List (List ℕ) → Terms
actuals_named [] = none
actuals_named (a ∷ given) = more (var (plain a)) (actuals_named given)

-- what stands in the second list where the name stands in the first
abbrev pub beside : List (List ℕ) → List (List ℕ) → List ℕ → Option (List ℕ)
beside [] ys z = None
beside (x ∷ xs) [] z = None
beside (x ∷ xs) (y ∷ ys) z = if name_eq z x then Some y else beside xs ys z

-- a is the actual of the dummy d
abbrev pub IsActual : List (List ℕ) → List (List ℕ) → List ℕ → List ℕ → Type 0
IsActual ds given d a = beside ds given d ≡ Some a

-- what is found, or else something
abbrev pub found_or : {A B : Type 0} → Option A → B → (A → B) → B
found_or None b f = b
found_or (Some a) b f = f a

-- the actuals that a call of the unit writes
abbrev pub writes_actual : Callee → List (List ℕ) → Vars
writes_actual g given (plain x) = found_or (beside given g.dummies x) false (λ d. g.written (plain d))
writes_actual g given v = false

-- ---- groups: the actuals of a call that are pushed before it

-- the actuals of the dummies in a set, where they are in a set themselves, in order
abbrev pub group : Vars → Vars → List (List ℕ) → List (List ℕ) → List (List ℕ)
group dummies actuals [] given = []
group dummies actuals (d ∷ ds) [] = []
group dummies actuals (d ∷ ds) (a ∷ given) = if dummies (plain d) && actuals (plain a) then a ∷ group dummies actuals ds given else group dummies actuals ds given

-- what is saved for the statements before the call: its saved actuals that it writes
abbrev pub save_group : Marks → ℕ → Callee → List (List ℕ) → List (List ℕ)
save_group m i g given = group g.written (m.saved i) g.dummies given

-- the snapshot: what the adjoint of the unit needs at its entry and the call overwrites
abbrev pub snapshot_group : Callee → List (List ℕ) → List (List ℕ)
snapshot_group g given = group (λ d. g.written d && g.members d) everything g.dummies given

-- the snapshot of a step of a marked loop that is reversed by a schedule: what the adjoint of the step unit needs at its entry or the step
-- unit reads, and the step unit writes
abbrev pub step_snapshot : Callee → Vars → List (List ℕ) → List (List ℕ)
step_snapshot g read given = group (λ d. g.written d && (g.members d || read d)) everything g.dummies given

-- ---- marked loops that are reversed by schedules

-- whether they are, and then what each unit reads, by its name
abbrev pub Schedules : Type 0
Schedules = Option (List ℕ → Vars)

abbrev pub schedules_from : Bool → (List ℕ → Vars) → Schedules
schedules_from false reads = None
schedules_from true reads = Some reads

-- how a marked loop is reversed: its turns call this unit with these actuals; what that reads, and the loop's directive, which tells how
-- many snapshots there are
pub record Step : Type 0 where
  pub name : List ℕ
  pub given : List (List ℕ)
  pub read : Vars
  pub mark : Mark

-- its number of snapshots is the value of a variable
abbrev pub is_from_variable : Mark → Bool
is_from_variable unmarked = false
is_from_variable (with_count n) = false
is_from_variable (count_from x) = true

-- the one statement of a loop's body, where that is the call of a step unit
abbrev pub step_in : (List ℕ → Vars) → Mark → Code → Option Step
step_in reads mark (step line (call name args) stop) = Some (record { name = name; given = names_of args; read = reads name; mark = mark })
step_in reads mark c = None

-- the i-th statement, a loop, is reversed by a schedule where it is marked and its step call, the statement after it, is adjointed
abbrev pub reversed_by : Schedules → (ℕ → Bool) → ℕ → Code → Mark → Option Step
reversed_by None adjointed i body mark = None
reversed_by (Some reads) adjointed i body unmarked = None
reversed_by (Some reads) adjointed i body (with_count n) = if adjointed (suc i) then step_in reads (with_count n) body else None
reversed_by (Some reads) adjointed i body (count_from x) = if adjointed (suc i) then step_in reads (count_from x) body else None

-- what is asked of a loop, by how it is reversed
abbrev pub ByStep : Option Step → Type 0 → (Step → Type 0) → Type 0
ByStep None as_others reversed = as_others
ByStep (Some s) as_others reversed = reversed s
