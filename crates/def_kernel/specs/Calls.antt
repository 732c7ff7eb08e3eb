-- What a checked program gives of the actuals of a call.
use Rattle.std.specs.Prelude.{◌≡◌, ℕ, List, [], ◌∷◌, length, Bool, true, false, ◌||◌, ◌==◌}
use Rattle.adj_tree.specs.Code.{Var, plain, var_eq, Term, lit, var, elem, neg, bin, pow, power_of, abs, Terms, none, more, Declaration}
use Rattle.def_meaning.specs.Written.{is_place_of, is_handed_back}
use Rattle.def_meaning.specs.Units.{declared}
use Rattle.def_kernel.specs.Lowered.{other_flags}

-- whether an actual is the variable as a whole
abbrev pub is_name_of : Var → Term → Bool
is_name_of x (lit z) = false
is_name_of x (var y) = var_eq x y
is_name_of x (elem y subs) = false
is_name_of x (neg a) = false
is_name_of x (bin op a b) = false
is_name_of x (pow a k) = false
is_name_of x (power_of a b) = false
is_name_of x (abs a) = false

-- whether the variable stands as a whole among actuals
abbrev pub stands_whole : Var → Terms → Bool
stands_whole x none = false
stands_whole x (more e es) = is_name_of x e || stands_whole x es

-- no actual is handed back into a variable that an earlier actual is, whole or by an element; the flags say which dummies are written
abbrev pub AreHandedApart : List Bool → Terms → Type 0
AreHandedApart ws none = Unit {0}
AreHandedApart ws (more e es) = ((x : Var) → is_place_of x e ≡ true → is_handed_back x (other_flags ws) es ≡ false) × AreHandedApart (other_flags ws) es

-- the variable is declared as a scalar, or isn't declared
abbrev pub is_scalar : List Declaration → Var → Bool
is_scalar ds x = length (declared ds x) == 0

-- no array stands twice as a whole
abbrev pub ArraysStandOnce : List Declaration → Terms → Type 0
ArraysStandOnce ds none = Unit {0}
ArraysStandOnce ds (more e es) = ((x : Var) → is_name_of x e ≡ true → stands_whole x es ≡ true → is_scalar ds x ≡ true) × ArraysStandOnce ds es

-- what is handed back from a scalar goes into a scalar, where it goes into a whole variable: the declarations are those of the
-- unit that is called and of the unit that calls
abbrev pub ScalarsToScalars : List Declaration → List Declaration → List (List ℕ) → List Bool → Terms → Type 0
ScalarsToScalars called calling [] ws es = Unit {0}
ScalarsToScalars called calling (d ∷ ds) [] es = Unit {0}
ScalarsToScalars called calling (d ∷ ds) (w ∷ ws) none = Unit {0}
ScalarsToScalars called calling (d ∷ ds) (w ∷ ws) (more e es) =
    ((x : Var) → w ≡ true → is_name_of x e ≡ true → is_scalar called (plain d) ≡ true → is_scalar calling x ≡ true) × ScalarsToScalars called calling ds ws es
