-- Sweeps that were written, beside those of the definitions.
use Rattle.std.specs.Prelude.{◌≡◌, ℕ}
use Rattle.adj_tree.specs.Code.{Var, Act, Code, stop}
use Rattle.adj_tree.specs.Listed.{code_turned}
use Rattle.adj_tree.specs.View.{code_of}
use Rattle.def_meaning.specs.Append.{◌+++◌}
use Rattle.def_meaning.specs.Rename.{rename}
use Rattle.def_names.specs.Numbers.{next, behind}
use Rattle.def_sweep.specs.Plan.{Plan, Schedules}
use Rattle.def_sweep.specs.Emission.{forward_act_with, forward_with, backward_act_with, backward_with}
use Rattle.adj_sweep.specs.declared.sweeps.Sweeps.{Sweeps}

-- a list from its last statement to its first, turned round
abbrev pub in_order : Code → Code
in_order c = code_turned c stop

-- the sweeps of a statement were added to those of the statements before it
pub record SweepsAct (sc : Schedules) (r : Var → Var) (p : Plan) (d line : ℕ) (a : Act) (old new : Sweeps) : Type 0 where
  pub number : new.number ≡ next old.number a
  pub forth : in_order (code_of new.forward) ≡ in_order (code_of old.forward) +++ rename r (forward_act_with sc p old.number d line a)
  pub back : code_of new.backward ≡ rename r (backward_act_with sc p old.number d line a) +++ code_of old.backward

-- the sweeps of a list whose first statement has the number i, where something comes behind the backward sweep
pub record SweepsList (sc : Schedules) (r : Var → Var) (p : Plan) (d i : ℕ) (c rest : Code) (s : Sweeps) : Type 0 where
  pub number : s.number ≡ behind i c
  pub forth : in_order (code_of s.forward) ≡ rename r (forward_with sc p i d c)
  pub back : code_of s.backward ≡ rename r (backward_with sc p i d c) +++ rest
