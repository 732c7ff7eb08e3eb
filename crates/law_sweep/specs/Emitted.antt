-- What the adjoint of a unit is in an emitted program: its sweeps, under names of its own.
use Rattle.std.specs.Prelude.{◌≡◌, ℕ, List, [], ◌∷◌, true, Some, if◌then◌else◌}
use Rattle.adj_tree.specs.Code.{Role, Var, plain, shadow, helper, Code, stop, Procedure}
use Rattle.def_meaning.specs.Append.{◌+++◌}
use Rattle.def_meaning.specs.Written.{find_unit}
use Rattle.def_meaning.specs.Read.{is_extent}
use Rattle.def_meaning.specs.Rename.{rename}
use Rattle.def_meaning.specs.Seen.{Separates}
use Rattle.def_meaning.specs.Units.{declared}
use Rattle.def_names.specs.Numbers.{Vars}
use Rattle.def_meaning.specs.Apart.{has_name}
use Rattle.def_sweep.specs.Plan.{Callee}
use Rattle.def_sweep.specs.Bindings.{Bindings, bindings}
use Rattle.law_sweep.specs.Kernel.{AsMany}

-- the name that a variable has
abbrev pub name_of : Var → List ℕ
name_of (plain x) = x
name_of (shadow x) = x
name_of (helper r k) = []

-- the dummies are what the renaming makes of the bound variables
abbrev pub AreNamed : (Var → Var) → List (List ℕ) → Bindings → Type 0
AreNamed r [] [] = Unit {0}
AreNamed r [] (b ∷ bs) = ⊥
AreNamed r (d ∷ ds) [] = ⊥
AreNamed r (d ∷ ds) (b ∷ bs) = (r b.0 ≡ plain d) × AreNamed r ds bs

-- the declarations of an adjoint unit are those of the unit v, each followed by that of its shadow, if it has one
pub record DeclaredAlike (v unit : Procedure) (naming : Var → Var) (g : Callee) : Type 0 where
  pub plains : (x : List ℕ) → declared unit.declarations (naming (plain x)) ≡ declared v.declarations (plain x)
  pub shadows : (x : List ℕ) → declared unit.declarations (naming (shadow x)) ≡ (if g.shadowed (plain x) then declared v.declarations (plain x) else [])
  pub helpers : (r : Role) (k : ℕ) → declared unit.declarations (naming (helper r k)) ≡ []
  -- extents are dummies, which keep their names
  pub extents : (d : List ℕ) → is_extent d v.declarations ≡ true → (naming (plain d) ≡ plain d) × (has_name d g.dummies ≡ true)

-- the emitted program has the adjoint of the unit v, whose sweeps are these
pub record HasAdjoint (qs : List Procedure) (v : Procedure) (g : Callee) (forth back : Code) : Type 0 where
  pub unit : Procedure
  pub found : find_unit qs g.adjoint ≡ Some unit
  pub naming : Var → Var
  pub separates : Separates naming
  pub plainly_named : (x : Var) → naming x ≡ plain (name_of (naming x))
  -- each dummy is followed by its shadow, if it has one
  pub named : (actuals : List (List ℕ)) → AsMany g.dummies actuals → AreNamed naming unit.dummies (bindings g.shadowed g.dummies actuals)
  pub declared : DeclaredAlike v unit naming g
  pub body : unit.body ≡ rename naming (forth +++ (back +++ stop))

-- the unit of qs of a name, made from v; those of its dummies in a set are followed by their shadows; this is its code
pub record HasUnit (qs : List Procedure) (v : Procedure) (name : List ℕ) (g : Callee) (shadowed : Vars) (code : Code) : Type 0 where
  pub unit : Procedure
  pub found : find_unit qs name ≡ Some unit
  pub naming : Var → Var
  pub separates : Separates naming
  pub plainly_named : (x : Var) → naming x ≡ plain (name_of (naming x))
  pub named : (actuals : List (List ℕ)) → AsMany g.dummies actuals → AreNamed naming unit.dummies (bindings shadowed g.dummies actuals)
  pub declared : DeclaredAlike v unit naming (record g { shadowed = shadowed })
  pub body : unit.body ≡ rename naming code
