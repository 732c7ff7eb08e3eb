-- What step units are made of.
use Rattle.std.specs.Prelude.{◌≡◌, ℕ, suc, List, [], ◌∷◌, ◌++◌, map, length, ◌||◌, if◌then◌else◌}
use Rattle.adj_tree.specs.Code.{plain, unmarked, with_count, count_from, Var, Mark, Code, Extent, fixed, given, Declaration, Procedure}
use Rattle.adj_tree.specs.View.{declaration_of}
use Rattle.def_meaning.specs.Append.{one}
use Rattle.def_meaning.specs.Units.{declared}
use Rattle.def_meaning.specs.Apart.{has_name}
use Rattle.def_sweep.specs.Declared.{declaration}
use Rattle.def_kernel.specs.Stepped.{variables_of, step_names, marked_in, step_call, cut, step_unit, step_units_in}
use Rattle.adj_naming.specs.declared.declared.Declared.{Declared}
use Rattle.adj_norm.specs.declared.source.Source.{Source}

-- the names among some extents, in order
abbrev pub extents_in : List Extent → List (List ℕ)
extents_in [] = []
extents_in (fixed z ∷ es) = extents_in es
extents_in (given x ∷ es) = x ∷ extents_in es

-- those among the extents of some variables
abbrev pub all_extents_in : List Declaration → List (List ℕ) → List (List ℕ)
all_extents_in ds [] = []
all_extents_in ds (x ∷ xs) = extents_in (declared ds (plain x)) ++ all_extents_in ds xs

-- each variable has the declaration that it has first in the list
abbrev pub Declares : Declared → List Declaration → Type 0
Declares t ds = (line : ℕ) (x : List ℕ) → declaration line (map declaration_of t.firsts.items) x ≡ declaration line ds x

-- the variables of a unit, its declarations, and the first names of its step units
pub record Knows (s : Source) (taken : List (List ℕ)) (u : Procedure) : Type 0 where
  pub variables : s.variables.now ≡ variables_of u
  pub declared : Declares s.declared.now u.declarations
  pub names : s.names.now ≡ step_names taken u.name (length s.names.now)

-- the body of a loop, which is the call of its step unit where the loop is marked
abbrev pub cut_body : List (List ℕ) → Procedure → ℕ → ℕ → Var → Code → Mark → Code
cut_body taken u k line x body unmarked = cut taken u k body
cut_body taken u k line x body (with_count m) = one line (step_call taken u k x body)
cut_body taken u k line x body (count_from y) = one line (step_call taken u k x body)

-- of some names, those in one of two sets
abbrev pub kept_among : List (List ℕ) → List (List ℕ) → List (List ℕ) → List (List ℕ)
kept_among used extents [] = []
kept_among used extents (x ∷ xs) = (if has_name x used || has_name x extents then x ∷ [] else []) ++ kept_among used extents xs

-- how many marked loops are in a loop with this body, itself counted
abbrev pub marked_body : Code → Mark → ℕ
marked_body body unmarked = marked_in body
marked_body body (with_count m) = suc (marked_in body)
marked_body body (count_from y) = suc (marked_in body)

-- the step units of a loop with this body: its own where it is marked, and those in it
abbrev pub units_of_loop : List (List ℕ) → Procedure → ℕ → ℕ → Var → Code → Mark → List Procedure
units_of_loop taken u k line x body unmarked = step_units_in taken u k body
units_of_loop taken u k line x body (with_count m) = step_unit taken u k line x body ∷ step_units_in taken u (suc k) body
units_of_loop taken u k line x body (count_from y) = step_unit taken u k line x body ∷ step_units_in taken u (suc k) body
