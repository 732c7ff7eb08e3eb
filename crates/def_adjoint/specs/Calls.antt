-- How many calls a chain has, where a marked DO counts for nothing: in a kernel its step call does.
use Rattle.std.specs.Prelude.{ℕ, zero, suc, max, ◌≤◌, List, Option, Some, None}
use Rattle.adj_tree.specs.Code.{Act, assign, choose, loop, during, call, runtime, Code, stop, step, Procedure}
use Rattle.def_meaning.specs.Written.{find_unit}

abbrev mutual
  -- the longest chain from a statement, where `below` says how long those from a unit are
  pub act_chain : (List ℕ → ℕ) → Act → ℕ
  act_chain below (assign x subs e) = 0
  act_chain below (choose c a b) = max (code_chain below a) (code_chain below b)
  act_chain below (loop x first last by body m) = code_chain below body
  act_chain below (during c body) = code_chain below body
  act_chain below (call name args) = below name
  act_chain below (runtime r) = 0

  pub code_chain : (List ℕ → ℕ) → Code → ℕ
  code_chain below stop = 0
  code_chain below (step line a rest) = max (act_chain below a) (code_chain below rest)

abbrev pub chain_of : (List ℕ → ℕ) → Option Procedure → ℕ
chain_of below None = 0
chain_of below (Some u) = suc (code_chain below u.body)

-- how many units the longest chain from the unit of a name has, with at most so many called within one another
abbrev pub units_within : List Procedure → ℕ → List ℕ → ℕ
units_within ps zero name = 0
units_within ps (suc k) name = chain_of (units_within ps k) (find_unit ps name)

-- no chain from the unit of a name has more than so many calls, however long one looks
abbrev pub CallsWithin : List Procedure → List ℕ → ℕ → Type 0
CallsWithin ps name calls = (k : ℕ) → units_within ps k name ≤ suc calls
