-- Faults of chains of calls: cycles, and chains that are too long. (docs/REFUSALS.md, "Chains")
use Rattle.std.specs.Prelude.{suc, nat_lt, List, [], ◌∷◌, flat_map, Bool, true, false, ◌&&◌}
use Rattle.adj_tree.specs.Code.{Act, assign, choose, loop, during, call, runtime, Procedure}
use Rattle.adj_tree.specs.declared.fault.Refusal.{Refusal}
use Rattle.def_names.specs.Statements.{statements}
use Rattle.def_names.specs.Calls.{calls, calls_lead, is_marked, act_chain, chain_from}
use Rattle.def_names.specs.Fault.{Rules, fault, passed, faults_if}

-- 16: a CALL from whose unit calls lead back to the unit in which it stands
abbrev pub cycles : List Procedure → List Refusal
cycles ps = flat_map (λ u. flat_map (λ c. faults_if (calls_lead ps (c.1).0 u.name) (fault 16 c.0)) (calls u)) ps

-- a CALL, or a marked DO
abbrev pub begins_chain : Act → Bool
begins_chain (assign x subs e) = false
begins_chain (choose c a b) = false
begins_chain (loop x first last by body m) = is_marked m
begins_chain (during c body) = false
begins_chain (call name args) = true
begins_chain (runtime r) = false

-- 21: one with which a chain begins that is too long, the unit or marked DO in which it stands counted
abbrev pub long_chains : Rules → List Procedure → List Refusal
long_chains m ps = flat_map (λ u. flat_map (λ s. faults_if (begins_chain s.1 && nat_lt m.chain (suc (act_chain (chain_from ps) s.1))) (passed m.chain s.0)) (statements u.body)) ps

abbrev pub or_else : List Refusal → List Refusal → List Refusal
or_else [] others = others
or_else (r ∷ rs) others = r ∷ rs

-- the length of chains is looked at only where no CALL lies on a cycle
abbrev pub chain_faults : Rules → List Procedure → List Refusal
chain_faults m ps = or_else (cycles ps) (long_chains m ps)
