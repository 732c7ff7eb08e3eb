-- What is known of a unit that is called.
use Rattle.std.specs.Prelude.{ℕ, suc, Bool, true, false, not, ◌&&◌}
use Rattle.adj_tree.specs.Code.{Act, assign, choose, loop, during, call, runtime, Code, stop, step}
use Rattle.def_names.specs.Numbers.{Vars, next, behind}
use Rattle.def_sweep.specs.Marks.{Marks}
use Rattle.def_sweep.specs.Facts.{Facts}
use Rattle.def_sweep.specs.Plan.{Callee}

-- no variable
abbrev pub nothing : Vars
nothing x = false

abbrev mutual
  -- no statement of the list, at any depth, is adjointed
  pub is_plain' : Marks → ℕ → Act → Bool
  is_plain' m i (assign x subs e) = not (m.adjointed i)
  is_plain' m i (choose c a b) = not (m.adjointed i) && (is_plain m (suc i) a && is_plain m (behind (suc i) a) b)
  is_plain' m i (loop x a b c body n) = not (m.adjointed i) && is_plain m (suc i) body
  is_plain' m i (during c body) = not (m.adjointed i) && is_plain m (suc i) body
  is_plain' m i (call name args) = not (m.adjointed i)
  is_plain' m i (runtime r) = true

  pub is_plain : Marks → ℕ → Code → Bool
  is_plain m i stop = true
  is_plain m i (step line a rest) = is_plain' m i a && is_plain m (next i a) rest

-- what the laws of a call know of the unit called: what its sweeps know, its facts, its entry and its end, and what it reads
pub record CalleeFacts : Type 0 where
  pub callee : Callee
  pub facts : Facts
  pub entry : ℕ
  pub end : ℕ
  pub read : Vars
  -- no statement of it is adjointed
  pub plain_unit : Bool
