-- The row of a split call.
use Rattle.std.proofs.Common.{◌≡◌, ℕ, true, List, ap, if◌then◌else◌}
use Rattle.adj_tree.specs.Code.{Terms, call}
use Rattle.def_meaning.specs.Append.{◌+++◌, one}
use Rattle.def_sweep.specs.Marked.{code_if}
use Rattle.def_sweep.specs.Plan.{Plan, Schedules, is_emitted, names_of, save_group, snapshot_group}
use Rattle.def_sweep.specs.Rows.{pushes, pops, with_shadows, adjoint_call}
use Rattle.def_sweep.specs.Emission.{forward_act_with, backward_act_with}

module _ (r : Schedules) (p : Plan) (i d line : ℕ) (name : List ℕ) (args : Terms) (split : p.marks.split i ≡ true) where
  pub split_forward : forward_act_with r p i d line (call name args) ≡ code_if (is_emitted p.marks i) (one line (call (p.callees name).forth args))
  split_forward =
      ap
      (λ c. code_if (is_emitted p.marks i)
      (if c then one line (call (p.callees name).forth args) else (pushes p line (save_group p.marks i (p.callees name) (names_of args)) +++ (code_if (p.marks.adjointed i) (pushes p line (snapshot_group (p.callees name) (names_of args))) +++ code_if (p.marks.kept i) (one line (call name args)))))) split

  pub split_backward : backward_act_with r p i d line (call name args) ≡ code_if (is_emitted p.marks i) (one line (call (p.callees name).back (with_shadows (p.callees name).shadowed (p.callees name).dummies (names_of args))))
  split_backward =
      ap
      (λ c. code_if (is_emitted p.marks i)
      (if c then one line (call (p.callees name).back (with_shadows (p.callees name).shadowed (p.callees name).dummies (names_of args)))
      else (code_if (p.marks.adjointed i) (pops p line (snapshot_group (p.callees name) (names_of args)) +++ one line (adjoint_call (p.callees name) (names_of args))) +++ pops p line (save_group p.marks i (p.callees name) (names_of args))))) split
