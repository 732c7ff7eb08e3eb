-- A term that is taken apart: temporaries stand for its operands, and its adjoint has a share.
use Rattle.std.specs.Prelude.{◌≡◌, ℕ, ◌+◌}
use Rattle.adj_tree.specs.Code.{Var, Term}
use Rattle.adj_tree.specs.View.{term_of}
use Rattle.def_meaning.specs.Rename.{rename, rename_term}
use Rattle.def_names.specs.Numbers.{Vars}
use Rattle.def_sweep.specs.Marked.{code_if}
use Rattle.def_sweep.specs.Occurrences.{is_active_where}
use Rattle.def_sweep.specs.AdjointOf.{temps_in_where, shrunk_where, back_where}
use Rattle.adj_sweep_assignment.specs.declared.parts.Parts.{Parts}
use Rattle.adj_sweep_assignment.specs.Shares.{share_code}

-- p has the parts of the term t, whose first temporary has the number j
pub record IsApart (r : Var → Var) (on : Vars) (line : ℕ) (t : Term) (j : ℕ) (p : Parts) : Type 0 where
  pub next : p.next ≡ j + temps_in_where on t
  pub active : p.active ≡ is_active_where on t
  pub term : term_of p.term.value ≡ rename_term r (shrunk_where on t j)
  -- what becomes of its adjoint in the k-th work variable
  pub share : (k : ℕ) → share_code r line p.share.value k ≡ rename r (code_if (is_active_where on t) (back_where on t k j line))
