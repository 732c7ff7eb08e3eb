-- Programs in which calls pass slots: in each call of a unit the unit's slots follow the call's own actuals. The premises on a program with slots.
use Rattle.std.specs.Prelude.{◌≡◌, ℕ, ℤ, List, [], ◌∷◌, ◌++◌, map, length, true, false, ◌||◌, ◌==◌, Some}
use Rattle.adj_tree.specs.Code.{plain, Terms, Act, assign, choose, loop, during, call, runtime, Code, stop, step, fixed, Procedure}
use Rattle.def_meaning.specs.Apart.{has_name}
use Rattle.def_meaning.specs.Written.{find_unit, is_handed_back, handed_back}
use Rattle.def_meaning.specs.Units.{declared, shape_of, shape_fits}
use Rattle.def_names.specs.Standing.{count_of}
use Rattle.def_common.specs.Lowering.{behind}
use Rattle.def_common.specs.Members.{is_slot}

-- the slots of the unit of a name
abbrev pub SlotsOf : Type 0
SlotsOf = List ℕ → List (List ℕ)

abbrev mutual
  pub passed_act : SlotsOf → Act → Act
  passed_act sl (assign x subs e) = assign x subs e
  passed_act sl (choose c a b) = choose c (passed sl a) (passed sl b)
  passed_act sl (loop x first last by body m) = loop x first last by (passed sl body) m
  passed_act sl (during c body) = during c (passed sl body)
  passed_act sl (call name args) = call name (behind args (sl name))
  passed_act sl (runtime r) = runtime r

  -- each call passes the slots of the unit that it calls
  pub passed : SlotsOf → Code → Code
  passed sl stop = stop
  passed sl (step line a rest) = step line (passed_act sl a) (passed sl rest)

abbrev pub passed_unit : SlotsOf → Procedure → Procedure
passed_unit sl u = record u { body = passed sl u.body }

abbrev pub passed_units : SlotsOf → List Procedure → List Procedure
passed_units sl units = map (passed_unit sl) units

-- ---- what is asked of a program with slots

abbrev mutual
  pub EachCall' : (List ℕ → Terms → Type 0) → Act → Type 0
  EachCall' P (assign x subs e) = Unit {0}
  EachCall' P (choose c a b) = EachCall P a × EachCall P b
  EachCall' P (loop x first last by body m) = EachCall P body
  EachCall' P (during c body) = EachCall P body
  EachCall' P (call name args) = P name args
  EachCall' P (runtime r) = Unit {0}

  -- each call in a list is so
  pub EachCall : (List ℕ → Terms → Type 0) → Code → Type 0
  EachCall P stop = Unit {0}
  EachCall P (step line a rest) = EachCall' P a × EachCall P rest

abbrev pub AllSlots : List (List ℕ) → Type 0
AllSlots [] = Unit {0}
AllSlots (x ∷ xs) = (is_slot (plain x) ≡ true) × AllSlots xs

abbrev pub NoSlots : List (List ℕ) → Type 0
NoSlots [] = Unit {0}
NoSlots (x ∷ xs) = (is_slot (plain x) ≡ false) × NoSlots xs

-- a call in a unit with some slots has an actual for each of the called unit's own dummies; the called unit has no other slots than the unit,
-- and none of them is an actual of a dummy that it writes
abbrev pub CallFits : List Procedure → SlotsOf → SlotsOf → List (List ℕ) → List ℕ → Terms → Type 0
CallFits units own sl slots name args =
    (u : Procedure) → find_unit units name ≡ Some u →
    (count_of args ≡ length (own name)) × ((x : List ℕ) → has_name x (sl name) ≡ true → (has_name x slots ≡ true) × (is_handed_back (plain x) (handed_back units name) args ≡ false))

-- a call of a unit that is there has an actual for each of its own dummies
abbrev pub CallCounts : List Procedure → SlotsOf → List ℕ → Terms → Type 0
CallCounts units own name args = (u : Procedure) → find_unit units name ≡ Some u → count_of args ≡ length (own name)

-- the slots follow a unit's own dummies, and calls have actuals for these
pub record HasParts (units : List Procedure) (own sl : SlotsOf) : Type 0 where
  pub dummies : (name : List ℕ) (u : Procedure) → find_unit units name ≡ Some u → u.dummies ≡ own name ++ sl name
  pub owns : (name : List ℕ) → NoSlots (own name)
  pub slots : (name : List ℕ) → AllSlots (sl name)
  pub counts : (name : List ℕ) (u : Procedure) → find_unit units name ≡ Some u → EachCall (CallCounts units own) u.body

-- slots have the same literal extents in each unit, and calls fit
pub record HasSlots (units : List Procedure) (own sl : SlotsOf) (extents : List ℕ → List ℤ) : Type 0 where
  pub parts : HasParts units own sl
  pub declares : (name : List ℕ) (u : Procedure) → find_unit units name ≡ Some u → (x : List ℕ) → has_name x (sl name) ≡ true → declared u.declarations (plain x) ≡ map fixed (extents x)
  pub fit : (name : List ℕ) (u : Procedure) → find_unit units name ≡ Some u → (x : List ℕ) → has_name x (sl name) ≡ true → (length (extents x) == 0 || shape_fits (extents x) (shape_of (extents x))) ≡ true
  pub calls : (name : List ℕ) (u : Procedure) → find_unit units name ≡ Some u → EachCall (CallFits units own sl (sl name)) u.body
