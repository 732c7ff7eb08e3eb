-- The first step to the kernel: the body of each marked loop becomes a unit of its own, the step unit. (docs/KERNEL.md)
use Rattle.std.specs.Prelude.{ℕ, zero, suc, ◌+◌, List, [], ◌∷◌, ◌++◌, map, flat_map, Bool, false, ◌||◌, if◌then◌else◌, codes}
use Rattle.adj_tree.specs.Code.{Var, plain, var, Terms, none, more, unmarked, with_count, count_from, Act, assign, choose, loop, during, call, runtime, Code, stop, step, Declaration, Procedure}
use Rattle.def_meaning.specs.Append.{one}
use Rattle.def_meaning.specs.Units.{declared}
use Rattle.def_meaning.specs.Read.{names_extent}
use Rattle.def_meaning.specs.Apart.{has_name}
use Rattle.def_names.specs.Fresh.{digits, fresh}
use Rattle.def_kernel.specs.Kernel.{named, names_in_code, names_of, unit_name, lowered_program}

-- ---- how many marked loops there are

abbrev mutual
  pub marked_in_act : Act → ℕ
  marked_in_act (assign x subs e) = 0
  marked_in_act (choose c a b) = marked_in a + marked_in b
  marked_in_act (loop x first last by body unmarked) = marked_in body
  marked_in_act (loop x first last by body (with_count m)) = suc (marked_in body)
  marked_in_act (loop x first last by body (count_from y)) = suc (marked_in body)
  marked_in_act (during c body) = marked_in body
  marked_in_act (call name args) = 0
  marked_in_act (runtime r) = 0

  pub marked_in : Code → ℕ
  marked_in stop = 0
  marked_in (step line a rest) = marked_in_act a + marked_in rest

-- ---- the dummies of a step unit

-- each name once, where it first stands; `before` are names that stood already
abbrev pub once_each : List (List ℕ) → List (List ℕ) → List (List ℕ)
once_each before [] = []
once_each before (x ∷ xs) = if has_name x before then once_each before xs else x ∷ once_each (x ∷ before) xs

-- the variables of a unit in order: dummies, declared ones, and the others by where they first appear
abbrev pub variables_of : Procedure → List (List ℕ)
variables_of u = once_each [] (names_of u)

-- whether it is an extent of one of some variables
abbrev pub is_extent_of : List Declaration → List ℕ → List (List ℕ) → Bool
is_extent_of ds x [] = false
is_extent_of ds x (y ∷ ys) = names_extent x (declared ds (plain y)) || is_extent_of ds x ys

-- of these variables, those among the names or extents of these
abbrev pub used_among : List Declaration → List (List ℕ) → List (List ℕ) → List (List ℕ)
used_among ds names [] = []
used_among ds names (x ∷ xs) = if has_name x names || is_extent_of ds x names then x ∷ used_among ds names xs else used_among ds names xs

-- the loop's variable, every variable in the body, and every extent name of an array among these, in the order of the unit's variables
abbrev pub step_dummies : Procedure → Var → Code → List (List ℕ)
step_dummies u x body = used_among u.declarations (named x ++ names_in_code body) (variables_of u)

abbrev pub as_actuals : List (List ℕ) → Terms
as_actuals [] = none
as_actuals (x ∷ xs) = more (var (plain x)) (as_actuals xs)

-- each dummy declared, with the extents of the unit
abbrev pub step_declarations : List Declaration → ℕ → List (List ℕ) → List Declaration
step_declarations ds line [] = []
step_declarations ds line (x ∷ xs) = record { line = line; name = x; extents = declared ds (plain x) } ∷ step_declarations ds line xs

-- ---- names

-- the name that the unit of the k-th marked loop gets where it is free: `P_S1`, `P_S2` and on
abbrev pub wanted_step : List ℕ → ℕ → List ℕ
wanted_step name k = name ++ (codes "_S" ++ digits (suc k))

-- the names of the first k step units of a unit, each fresh
abbrev pub step_names : List (List ℕ) → List ℕ → ℕ → List (List ℕ)
step_names taken name zero = []
step_names taken name (suc k) = step_names taken name k ++ (fresh (wanted_step name k) (taken ++ step_names taken name k) ∷ [])

-- the name of the k-th, counted from 0
abbrev pub step_name : List (List ℕ) → List ℕ → ℕ → List ℕ
step_name taken name k = fresh (wanted_step name k) (taken ++ step_names taken name k)

-- ---- units

-- `taken` are the names of the source and of the units made before
module _ (taken : List (List ℕ)) (u : Procedure) where
  -- the call of the step unit of a marked loop with this variable and body
  abbrev pub step_call : ℕ → Var → Code → Act
  step_call k x body = call (step_name taken u.name k) (as_actuals (step_dummies u x body))

  abbrev mutual
    -- a statement whose marked loops hold the calls of their step units; k marked loops stand before it
    pub cut_act : ℕ → ℕ → Act → Act
    cut_act k line (assign x subs e) = assign x subs e
    cut_act k line (choose c a b) = choose c (cut k a) (cut (k + marked_in a) b)
    cut_act k line (loop x first last by body unmarked) = loop x first last by (cut k body) unmarked
    cut_act k line (loop x first last by body (with_count m)) = loop x first last by (one line (step_call k x body)) (with_count m)
    cut_act k line (loop x first last by body (count_from y)) = loop x first last by (one line (step_call k x body)) (count_from y)
    cut_act k line (during c body) = during c (cut k body)
    cut_act k line (call name args) = call name args
    cut_act k line (runtime r) = runtime r

    pub cut : ℕ → Code → Code
    cut k stop = stop
    cut k (step line a rest) = step line (cut_act k line a) (cut (k + marked_in_act a) rest)

  -- the step unit of a marked loop at a line
  abbrev pub step_unit : ℕ → ℕ → Var → Code → Procedure
  step_unit k line x body = record {
    line = line;
    name = step_name taken u.name k;
    dummies = step_dummies u x body;
    is_none = false;
    declarations = step_declarations u.declarations line (step_dummies u x body);
    body = cut (suc k) body;
  }

  abbrev mutual
    -- the step units of the marked loops in a statement, outer ones first
    pub step_units_in_act : ℕ → ℕ → Act → List Procedure
    step_units_in_act k line (assign x subs e) = []
    step_units_in_act k line (choose c a b) = step_units_in k a ++ step_units_in (k + marked_in a) b
    step_units_in_act k line (loop x first last by body unmarked) = step_units_in k body
    step_units_in_act k line (loop x first last by body (with_count m)) = step_unit k line x body ∷ step_units_in (suc k) body
    step_units_in_act k line (loop x first last by body (count_from y)) = step_unit k line x body ∷ step_units_in (suc k) body
    step_units_in_act k line (during c body) = step_units_in k body
    step_units_in_act k line (call name args) = []
    step_units_in_act k line (runtime r) = []

    pub step_units_in : ℕ → Code → List Procedure
    step_units_in k stop = []
    step_units_in k (step line a rest) = step_units_in_act k line a ++ step_units_in (k + marked_in_act a) rest

  -- the unit, followed by its step units
  abbrev pub stepped_unit : List Procedure
  stepped_unit = record u { body = cut 0 u.body } ∷ step_units_in 0 u.body

-- units in order, each followed by its step units
abbrev pub stepped_from : List (List ℕ) → List Procedure → List Procedure
stepped_from taken [] = []
stepped_from taken (u ∷ us) = stepped_unit taken u ++ stepped_from (taken ++ step_names taken u.name (marked_in u.body)) us

-- the names of the source: those of its units, and those of their variables
abbrev pub names_of_source : List Procedure → List (List ℕ)
names_of_source units = map unit_name units ++ flat_map names_of units

-- the first step
abbrev pub stepped_program : List Procedure → List Procedure
stepped_program units = stepped_from (names_of_source units) units

-- the kernel of a program
abbrev pub kernel_of : List Procedure → List Procedure
kernel_of units = lowered_program (stepped_program units)
