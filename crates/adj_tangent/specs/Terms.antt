-- The tangent of a term, as the code has it.
use Rattle.std.specs.Prelude.{◌≡◌, ℕ, ◌+◌, Bool, true, false, Option, Some, None, Box}
use Rattle.std.specs.Global.{Global}
use Rattle.adj_tree.specs.Code.{Var, Term}
use Rattle.adj_tree.specs.View.{term_of}
use Rattle.adj_tree.specs.declared.expr.Expr.{Expr}
use Rattle.def_meaning.specs.Rename.{rename_term}
use Rattle.def_names.specs.Numbers.{Vars}
use Rattle.def_sweep.specs.Marked.{count_of, work_var}
use Rattle.def_sweep.specs.Occurrences.{is_active_where}
use Rattle.def_sweep.specs.AdjointOf.{temps_in_where}
use Rattle.def_tangent.specs.TangentOf.{parts_in_where, tangent_term}
use Rattle.adj_tangent.specs.declared.terms.Tangent.{Tangent}

-- the value is there where b is true, and is this term
abbrev pub IsValue : (Var → Var) → Bool → Term → Option (Box Expr Global) → Type 0
IsValue r b t None = b ≡ false
IsValue r b t (Some x) = (b ≡ true) × (term_of x.value ≡ rename_term r t)

-- the helper of the number m is the value where b is true, and has that number alone; the next temporary has the number j
pub record IsPart (r : Var → Var) (b : Bool) (m j : ℕ) (p : Tangent) : Type 0 where
  pub part : p.part ≡ m + count_of b
  pub temp : p.temp ≡ j
  pub value : IsValue r b (work_var m) p.value

-- p is the tangent of the term t, whose first part has the number k, and whose first temporary the number j
pub record IsTangent (r : Var → Var) (on : Vars) (t : Term) (k j : ℕ) (p : Tangent) : Type 0 where
  pub part : p.part ≡ k + parts_in_where on t
  pub temp : p.temp ≡ j + temps_in_where on t
  pub value : IsValue r (is_active_where on t) (tangent_term on t k) p.value
