-- What the rows of a loop that is reversed by a schedule write of its step call.
use Rattle.std.specs.Prelude.{ℕ}
use Rattle.adj_tree.specs.Code.{call, Code}
use Rattle.def_meaning.specs.Append.{one}
use Rattle.def_sweep.specs.Plan.{Plan, actuals_named}
use Rattle.def_sweep.specs.Rows.{pushes, pops}
use Rattle.adj_sweep.specs.declared.actuals.Group.TheVariants as groups
use Rattle.adj_sweep.specs.declared.reversal.Step.{Step}
use Rattle.adj_sweep.specs.Actuals.{is_in, chosen, all_with_shadows}

-- what is saved before the loop, which is the i-th statement, and the snapshot of a step: pushed and popped
abbrev pub save_of : Plan → ℕ → ℕ → Step → Code
save_of p i line s = pushes p line (chosen (is_in (p.marks.saved i) groups.Save) s.actuals.now)

abbrev pub unsave_of : Plan → ℕ → ℕ → Step → Code
unsave_of p i line s = pops p line (chosen (is_in (p.marks.saved i) groups.Save) s.actuals.now)

abbrev pub keep_of : Plan → ℕ → ℕ → Step → Code
keep_of p i line s = pushes p line (chosen (is_in (p.marks.saved i) groups.Step) s.actuals.now)

abbrev pub back_of : Plan → ℕ → ℕ → Step → Code
back_of p i line s = pops p line (chosen (is_in (p.marks.saved i) groups.Step) s.actuals.now)

-- the call of the step unit, and that of its adjoint
abbrev pub plain_of : ℕ → Step → Code
plain_of line s = one line (call s.name.now (actuals_named s.given.now))

abbrev pub adjoint_of : ℕ → Step → Code
adjoint_of line s = one line (call s.adjoint.now (all_with_shadows s.actuals.now))
