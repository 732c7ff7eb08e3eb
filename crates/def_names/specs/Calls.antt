-- Calls between units. (docs/REFUSALS.md, "Calls")
use Rattle.std.specs.Prelude.{ℕ, zero, suc, max, List, [], ◌∷◌, length, map, flat_map, Bool, true, false, ◌||◌, Option, Some, None, if◌then◌else◌}
use Rattle.std.specs.List.{list_any}
use Rattle.adj_tree.specs.Code.{name_eq, Terms, Mark, unmarked, with_count, count_from, Act, assign, choose, loop, during, call, runtime, Code, stop, step, Procedure}
use Rattle.def_meaning.specs.Written.{find_unit}
use Rattle.def_names.specs.Statements.{At, statements}
use Rattle.def_names.specs.Variables.{Name}

-- ---- the CALLs of a unit

-- a CALL: the name of the unit and the actuals
abbrev pub Call : Type 0
Call = Name × Terms

abbrev pub call_in : Act → List Call
call_in (assign x subs e) = []
call_in (choose c a b) = []
call_in (loop x first last by body m) = []
call_in (during c body) = []
call_in (call name args) = (name, args) ∷ []
call_in (runtime r) = []

-- those of a unit with their lines, in text order
abbrev pub calls : Procedure → List (At Call)
calls u = flat_map (λ s. map (λ c. (s.0, c)) (call_in s.1)) (statements u.body)

-- the CALLs of the unit of a name
abbrev pub calls_found : Option Procedure → List (At Call)
calls_found None = []
calls_found (Some u) = calls u

abbrev pub calls_from : List Procedure → Name → List (At Call)
calls_from ps name = calls_found (find_unit ps name)

-- ---- chains and cycles

-- whether at most so many calls, one within the other, lead from the unit of a name to that of another
abbrev pub leads : List Procedure → ℕ → Name → Name → Bool
leads ps zero from to = name_eq from to
leads ps (suc k) from to = name_eq from to || list_any (λ c. leads ps k (c.1).0 to) (calls_from ps from)

-- whether calls lead there: a way that meets no unit twice has fewer calls than there are units
abbrev pub calls_lead : List Procedure → Name → Name → Bool
calls_lead ps from to = leads ps (length ps) from to

abbrev pub is_marked : Mark → Bool
is_marked unmarked = false
is_marked (with_count m) = true
is_marked (count_from x) = true

-- one more where a DO is marked
abbrev pub with_mark : Mark → ℕ → ℕ
with_mark m n = if is_marked m then suc n else n

abbrev mutual
  -- how many units the longest chain has that begins with a CALL or a marked DO in a statement, where `below` says
  -- how many it has from a called unit on; a marked DO counts as one more
  pub act_chain : (Name → ℕ) → Act → ℕ
  act_chain below (assign x subs e) = 0
  act_chain below (choose c a b) = max (chain below a) (chain below b)
  act_chain below (loop x first last by body m) = with_mark m (chain below body)
  act_chain below (during c body) = chain below body
  act_chain below (call name args) = below name
  act_chain below (runtime r) = 0

  pub chain : (Name → ℕ) → Code → ℕ
  chain below stop = 0
  chain below (step line a rest) = max (act_chain below a) (chain below rest)

-- the same of a unit that is found, itself counted
abbrev pub chain_found : (Name → ℕ) → Option Procedure → ℕ
chain_found below None = 0
chain_found below (Some u) = suc (chain below u.body)

-- the same of the unit of a name, with at most so many units called within one another
abbrev pub chain_within : List Procedure → ℕ → Name → ℕ
chain_within ps zero name = 0
chain_within ps (suc k) name = chain_found (chain_within ps k) (find_unit ps name)

-- where no CALL lies on a cycle, no chain calls more units than there are
abbrev pub chain_from : List Procedure → Name → ℕ
chain_from ps name = chain_within ps (length ps) name
