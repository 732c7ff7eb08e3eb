-- What the first step needs, and what it keeps.
use Rattle.std.specs.Prelude.{◌≡◌, ℕ, suc, ◌+◌, ◌≤◌, max, List, [], ◌∷◌, Bool, true, false, ◌||◌, ◌==◌, length, Some}
use Rattle.adj_tree.specs.Code.{Var, plain, Terms, none, more, unmarked, with_count, count_from, Act, assign, choose, loop, during, call, runtime, Code, stop, step, Declaration, Procedure}
use Rattle.def_meaning.specs.Event.{Event, Enter, Begin, End, Marked}
use Rattle.def_meaning.specs.Store.{Store}
use Rattle.def_meaning.specs.Numbers.{Numbers}
use Rattle.def_meaning.specs.Written.{find_unit, writes, handed_back}
use Rattle.def_meaning.specs.Units.{declared, extents_of, shape_of, shape_fits}
use Rattle.def_meaning.specs.Read.{names_extent}
use Rattle.def_meaning.specs.Apart.{has_name}
use Rattle.law_kernel.specs.Apart.{EachCall}
use Rattle.def_kernel.specs.Kernel.{names_of, EachUnit}
use Rattle.law_kernel.specs.Fits.{PlainCode, IsFit}
use Rattle.def_kernel.specs.Stepped.{marked_in, marked_in_act, step_name, step_unit, cut}

-- the events of marked loops alone
abbrev pub marked_of : List Event → List Event
marked_of [] = []
marked_of (Enter name level height shapes ∷ es) = marked_of es
marked_of (Begin l m level height ∷ es) = marked_of es
marked_of (End level ∷ es) = marked_of es
marked_of (Marked line turns snapshots ∷ es) = Marked line turns snapshots ∷ marked_of es

-- how deep marked loops stand in one another
abbrev mutual
  pub nest_act : Act → ℕ
  nest_act (assign x subs e) = 0
  nest_act (choose c a b) = max (nest a) (nest b)
  nest_act (loop x first last by body unmarked) = nest body
  nest_act (loop x first last by body (with_count m)) = suc (nest body)
  nest_act (loop x first last by body (count_from y)) = suc (nest body)
  nest_act (during c body) = nest body
  nest_act (call name args) = 0
  nest_act (runtime r) = 0

  pub nest : Code → ℕ
  nest stop = 0
  nest (step line a rest) = max (nest_act a) (nest rest)

module _ (units : List Procedure) (taken : List (List ℕ)) (u : Procedure) where
  -- the step unit of a marked loop is there
  abbrev pub IsStepThere : ℕ → ℕ → Var → Code → Type 0
  IsStepThere k line x body = find_unit units (step_name taken u.name k) ≡ Some (step_unit taken u k line x body)

  abbrev mutual
    -- the step unit of each marked loop is there; k marked loops stand before the list
    pub StepsThereAct : ℕ → ℕ → Act → Type 0
    StepsThereAct k line (assign x subs e) = Unit {0}
    StepsThereAct k line (choose c a b) = StepsThere k a × StepsThere (k + marked_in a) b
    StepsThereAct k line (loop x first last by body unmarked) = StepsThere k body
    StepsThereAct k line (loop x first last by body (with_count m)) = IsStepThere k line x body × StepsThere (suc k) body
    StepsThereAct k line (loop x first last by body (count_from y)) = IsStepThere k line x body × StepsThere (suc k) body
    StepsThereAct k line (during c body) = StepsThere k body
    StepsThereAct k line (call name args) = Unit {0}
    StepsThereAct k line (runtime r) = Unit {0}

    pub StepsThere : ℕ → Code → Type 0
    StepsThere k stop = Unit {0}
    StepsThere k (step line a rest) = StepsThereAct k line a × StepsThere (k + marked_in_act a) rest

-- the unit of a name in the stepped program: the unit of the source with its marked loops cut, and its step units are there too
pub record IsStepFor (units : List Procedure) (name : List ℕ) (u : Procedure) : Type 0 where
  pub taken : List (List ℕ)
  pub found : find_unit units name ≡ Some (record u { body = cut taken u 0 u.body })
  pub steps : StepsThere units taken u 0 u.body

-- an array whose extents are these fits
abbrev pub fits_itself : {C : Type 0} → Numbers C → Procedure → Store C → Var → Bool
fits_itself n u s x = length (declared u.declarations x) == 0 || shape_fits (extents_of n u s x) (shape_of (extents_of n u s x))

-- the unit's store holds the words of the extents that were there at its entry
abbrev pub HoldsExtents : {C : Type 0} → List Declaration → Store C → Store C → Type 0
HoldsExtents ds entry s = (x : Var) (d : List ℕ) → names_extent d (declared ds x) ≡ true → s (plain d) 0 ≡ entry (plain d) 0

-- one actual for each dummy
abbrev pub OneFor : List (List ℕ) → Terms → Type 0
OneFor [] none = Unit {0}
OneFor [] (more e es) = ⊥
OneFor (d ∷ ds) none = ⊥
OneFor (d ∷ ds) (more e es) = OneFor ds es

-- a CALL of a unit that is there, with as many actuals as it has dummies
pub record IsMatched (units : List Procedure) (name : List ℕ) (args : Terms) : Type 0 where
  pub called : Procedure
  pub found : find_unit units name ≡ Some called
  pub count : OneFor called.dummies args

-- what a checked program gives of a unit: its extents are scalar variables of it that it doesn't write, and its local arrays have extents that fit
pub record HasExtents (C : Type 0) (units : List Procedure) (u : Procedure) : Type 0 where
  pub own : (x : Var) (d : List ℕ) → names_extent d (declared u.declarations x) ≡ true → has_name d (names_of u) ≡ true
  pub flat : (x : Var) (d : List ℕ) → names_extent d (declared u.declarations x) ≡ true → declared u.declarations (plain d) ≡ []
  pub kept : (x : Var) (d : List ℕ) → names_extent d (declared u.declarations x) ≡ true → writes (handed_back units) (plain d) u.body ≡ false
  pub locals_fit : (n : Numbers C) (s : Store C) (d : List ℕ) → has_name d u.dummies ≡ false → fits_itself n u s (plain d) ≡ true

-- what is known of a unit of the source and of the program that its marked loops are cut in
pub record StepFits (C : Type 0) (units units' : List Procedure) (most : ℕ) (name : List ℕ) (u : Procedure) : Type 0 where
  pub plainly : PlainCode u.body
  pub each : EachCall (IsMatched units) u.body
  pub extents : HasExtents C units u
  pub stepped : IsStepFor units' name u
  pub nests : nest u.body ≤ most

-- what a checked program gives for the whole kernel: its calls fit, with as many actuals as dummies, and so do its extents
pub record IsSource (C : Type 0) (units : List Procedure) : Type 0 where
  pub fit : IsFit units
  pub matched : EachUnit (λ u. EachCall (IsMatched units) u.body) units
  pub extents : EachUnit (HasExtents C units) units

-- the deepest nest of marked loops
abbrev pub deepest : List Procedure → ℕ
deepest [] = 0
deepest (u ∷ us) = max (nest u.body) (deepest us)
