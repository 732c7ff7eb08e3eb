-- The actuals of a call, each with what is known of its dummy.
use Rattle.std.specs.Prelude.{ℕ, List, [], ◌∷◌, ◌++◌, Option, Some, None, Bool, ◌&&◌, ◌||◌, if◌then◌else◌}
use Rattle.adj_tree.specs.Code.{plain, shadow, var, Terms, none, more}
use Rattle.def_names.specs.Numbers.{Vars}
use Rattle.adj_sweep.specs.declared.callees.Dummy.{Dummy}
use Rattle.adj_sweep.specs.declared.actuals.Actual.{Actual}
use Rattle.adj_sweep.specs.declared.actuals.Group.{Group}
use Rattle.adj_sweep.specs.declared.actuals.Group.TheVariants.{Save, Snapshot, Step}

-- dummies and the names that are given for them
abbrev pub paired : List Dummy → List (List ℕ) → List Actual
paired ds [] = []
paired [] (a ∷ given) = []
paired (d ∷ ds) (a ∷ given) = record { name = a; dummy = d } ∷ paired ds given

-- the actuals with one more, where there is a dummy for it
abbrev pub with_pair : Option Dummy → List ℕ → List Actual → List Actual
with_pair None a made = made
with_pair (Some d) a made = made ++ (record { name = a; dummy = d } ∷ [])

-- whether an actual is in a group, where some variables are saved
abbrev pub is_in : Vars → Group → Actual → Bool
is_in saved Save a = a.dummy.written && saved (plain a.name)
is_in saved Snapshot a = a.dummy.written && a.dummy.member
is_in saved Step a = a.dummy.written && (a.dummy.member || a.dummy.read)

-- the names of the actuals of which a test holds
abbrev pub chosen : (Actual → Bool) → List Actual → List (List ℕ)
chosen f [] = []
chosen f (a ∷ others) = if f a then a.name ∷ chosen f others else chosen f others

-- an actual of an adjoint's call, with its shadow where its dummy has one
abbrev pub with_shadow : Actual → Terms → Terms
with_shadow a others = if a.dummy.shadowed then more (var (plain a.name)) (more (var (shadow a.name)) others) else more (var (plain a.name)) others

abbrev pub all_with_shadows : List Actual → Terms
all_with_shadows [] = none
all_with_shadows (a ∷ others) = with_shadow a (all_with_shadows others)
