-- A program whose chains of calls are no longer than those of another one, which has no faults of chains, has none either.
use Rattle.std.proofs.Common.{◌≡◌, ℕ, zero, suc, ◌≤◌, ◌⊎◌, inl, inr, Bool, true, false, List, [], ◌∷◌, map, length, refl, sym, ap, ◌∙◌, subst, arith}
use Rattle.std.proofs.lemmas.Bool.Decides.{nat_tests}
use Rattle.std.proofs.lemmas.Bool.{or_cases}
use Rattle.std.specs.Prelude.{◌&&◌, nat_lt, flat_map, Option, Some, None}
use Rattle.std.specs.List.{list_any}
use Rattle.adj_tree.specs.Code.{name_eq, unmarked, with_count, count_from, Act, assign, choose, loop, during, call, runtime, Code, stop, step, Procedure}
use Rattle.adj_tree.specs.declared.fault.Refusal.{Refusal}
use Rattle.adj_tree.proofs.Names.{name_refl, name_same}
use Rattle.def_meaning.specs.Written.{find_unit}
use Rattle.def_names.specs.Statements.{At, statements}
use Rattle.def_names.specs.Variables.{Name}
use Rattle.def_names.specs.Calls.{Call, calls, leads, calls_lead, act_chain, chain, chain_found, chain_within, chain_from}
use Rattle.def_names.specs.Fault.{Rules, run_rules, fault, passed, faults_if}
use Rattle.def_names.specs.ChainFaults.{cycles, begins_chain, long_chains, or_else, chain_faults}
use Rattle.def_names.proofs.Faultless.{none_if}
use Rattle.def_names.proofs.Variables.{or_left, or_right}
use Rattle.law_kernel.proofs.Faultless as kernel
use Rattle.law_kernel.proofs.Holding.{HoldsIn, Holds, holding}
use Rattle.law_kernel.proofs.Shortening.{names_called, shorter}
use Rattle.law_kernel.proofs.ChainBounds.{NoWayBack, IsAmong, chain_more, longest, no_way_bounded}
use Rattle.law_sweep.proofs.UnitLists.{found_there}
use Rattle.law_emitted.proofs.Lists.{Each, each_more, each_found, none_each}
use Rattle.law_emitted.proofs.UnitFaults.{flat_none, if_none}
use Rattle.law_emitted.proofs.Chains.{low_statements}

-- ---- the names in CALLs

-- what holds of the name in each CALL
each_named : (P : Name → Type 0) (cs : List (At Call)) → Each (λ (c : At Call). P (c.1).0) cs → (x : Name) → IsAmong x (map (λ (c : At Call). (c.1).0) cs) → P x
each_named P [] h x k = absurd cc
each_named P (c ∷ cs) h x k = go (or_cases (name_eq x (c.1).0) (list_any (name_eq x) (map (λ (c : At Call). (c.1).0) cs)) k) (each_named P cs h.1 x)
  where
    go : (name_eq x (c.1).0 ≡ true) ⊎ IsAmong x (map (λ (c : At Call). (c.1).0) cs) → (IsAmong x (map (λ (c : At Call). (c.1).0) cs) → P x) → P x
    go (inl e) ih = subst P (sym (name_same x (c.1).0 e)) h.0
    go (inr e) ih = ih e

-- and the other way
named_each : (P : Name → Type 0) (cs : List (At Call)) → ((x : Name) → IsAmong x (map (λ (c : At Call). (c.1).0) cs) → P x) → Each (λ (c : At Call). P (c.1).0) cs
named_each P [] h = tt
named_each P (c ∷ cs) h = (h (c.1).0 (or_left (name_eq (c.1).0 (c.1).0) (list_any (name_eq (c.1).0) (map (λ (c : At Call). (c.1).0) cs)) (name_refl (c.1).0)), named_each P cs (λ x k. h x (or_right (name_eq x (c.1).0) (list_any (name_eq x) (map (λ (c : At Call). (c.1).0) cs)) k)))

-- ---- faults

-- the chain that begins with a statement, if one does, is no longer than a run takes
abbrev IsShort : (Name → ℕ) → Act → Type 0
IsShort f a = begins_chain a ≡ true → suc (act_chain f a) ≤ 80

-- so no chain of a list is
module _ (f : Name → ℕ) where
  mutual
    short_act : (a : Act) → IsShort f a → HoldsIn (λ line b. IsShort f b) a → suc (act_chain f a) ≤ 80
    short_act (assign x subs e) h g = omega arith
    short_act (choose c a b) h g = let p = short_list a g.0 in let q = short_list b g.1 in omega (arith, p, q)
    short_act (loop x a b c body unmarked) h g = short_list body g
    short_act (loop x a b c body (with_count n)) h g = h refl
    short_act (loop x a b c body (count_from y)) h g = h refl
    short_act (during c body) h g = short_list body g
    short_act (call name args) h g = h refl
    short_act (runtime r) h g = omega arith

    short_list : (c : Code) → Holds (λ line b. IsShort f b) c → suc (chain f c) ≤ 80
    short_list stop h = omega arith
    short_list (step line a rest) h = let p = short_act a h.0 h.1.0 in let q = short_list rest h.1.1 in omega (arith, p, q)

-- one that isn't too long by rules isn't longer than they take
within_limit : (most n : ℕ) → nat_lt most (suc n) ≡ false → suc n ≤ most
within_limit most n h = grind (arith, nat_tests)

-- and the other way
limit_kept : (n : ℕ) → suc n ≤ 80 → nat_lt 80 (suc n) ≡ false
limit_kept n h = grind (arith, nat_tests)

both_within : (b : Bool) (most n : ℕ) → most ≤ 80 → (b && nat_lt most (suc n)) ≡ false → b ≡ true → suc n ≤ 80
both_within true most n l h t = let k = within_limit most n h in omega (arith, k, l)
both_within false most n l h t = absurd cc

both_none : (xs ys : List Refusal) → or_else xs ys ≡ [] → (xs ≡ []) × (ys ≡ [])
both_none [] ys h = (refl, h)
both_none (x ∷ xs) ys h = absurd cc

-- ---- a program that has none

module _ (rules : Rules) (ps : List Procedure) (none : chain_faults rules ps ≡ []) (few : rules.chain ≤ 80) where
  no_faults : (cycles ps ≡ []) × (long_chains rules ps ≡ [])
  no_faults = both_none (cycles ps) (long_chains rules ps) none

  -- no calls lead back
  no_way : NoWayBack ps
  no_way x u f c m k = back (leads ps k c x) refl
    where
      each_call : Each (λ (c : At Call). calls_lead ps (c.1).0 u.name ≡ false) (calls u)
      each_call =
          each_more (λ (c : At Call). faults_if (calls_lead ps (c.1).0 u.name) (fault 16 c.0) ≡ []) (λ c. calls_lead ps (c.1).0 u.name ≡ false) (λ c h. none_if (calls_lead ps (c.1).0 u.name) (fault 16 c.0) h) (calls u)
          (none_each (λ (c : At Call). faults_if (calls_lead ps (c.1).0 u.name) (fault 16 c.0)) (calls u)
          (each_found (λ u. flat_map (λ (c : At Call). faults_if (calls_lead ps (c.1).0 u.name) (fault 16 c.0)) (calls u) ≡ []) ps (none_each (λ u. flat_map (λ (c : At Call). faults_if (calls_lead ps (c.1).0 u.name) (fault 16 c.0)) (calls u)) ps no_faults.0) x u f))

      never : calls_lead ps c x ≡ false
      never = ap (calls_lead ps c) (sym (found_there ps x u f).1) ∙ each_named (λ c. calls_lead ps c u.name ≡ false) (calls u) each_call c (ap (list_any (name_eq c)) (names_called u) ∙ m)

      back : (b : Bool) → leads ps k c x ≡ b → leads ps k c x ≡ false
      back true e = absurd (let z : true ≡ false = sym (shorter (length ps) ps (omega arith) k c x e) ∙ never in cc)
      back false e = e

  -- no unit's chain is too long
  all_short : Each (λ u. suc (chain (chain_from ps) u.body) ≤ 80) ps
  all_short =
      each_more (λ u. flat_map (λ (s : At Act). faults_if (begins_chain s.1 && nat_lt rules.chain (suc (act_chain (chain_from ps) s.1))) (passed rules.chain s.0)) (statements u.body) ≡ []) (λ u. suc (chain (chain_from ps) u.body) ≤ 80)
      (λ u h.
      short_list (chain_from ps) u.body
      (holding (λ line a. IsShort (chain_from ps) a) u.body
      (kernel.each_more (λ (s : At Act). faults_if (begins_chain s.1 && nat_lt rules.chain (suc (act_chain (chain_from ps) s.1))) (passed rules.chain s.0) ≡ []) (λ s. IsShort (chain_from ps) s.1)
      (λ s k. both_within (begins_chain s.1) rules.chain (act_chain (chain_from ps) s.1) few (none_if (begins_chain s.1 && nat_lt rules.chain (suc (act_chain (chain_from ps) s.1))) (passed rules.chain s.0) k)) (statements u.body)
      (kernel.none_each (λ (s : At Act). faults_if (begins_chain s.1 && nat_lt rules.chain (suc (act_chain (chain_from ps) s.1))) (passed rules.chain s.0)) (statements u.body) h)))) ps
      (none_each (λ u. flat_map (λ (s : At Act). faults_if (begins_chain s.1 && nat_lt rules.chain (suc (act_chain (chain_from ps) s.1))) (passed rules.chain s.0)) (statements u.body)) ps no_faults.1)

  -- more rounds find no longer chains
  within_from : (k : ℕ) (x : Name) → chain_within ps k x ≤ chain_within ps (length ps) x
  within_from zero x = omega arith
  within_from (suc k) x = go (find_unit ps x) refl (λ c. within_from k c)
    where
      go : (o : Option Procedure) → find_unit ps x ≡ o → ((c : Name) → chain_within ps k c ≤ chain_within ps (length ps) c) → chain_found (chain_within ps k) o ≤ chain_within ps (length ps) x
      go None e ih = omega arith
      go (Some u) e ih = let l = longest ps no_way x u e in let n = chain_more (chain_within ps k) (chain_within ps (length ps)) u.body (λ c h. ih c) in omega (arith, l, n)

  -- so none is too long
  within_short : (k : ℕ) (x : Name) → chain_within ps k x ≤ 80
  within_short zero x = omega arith
  within_short (suc k) x = go (find_unit ps x) refl
    where
      go : (o : Option Procedure) → find_unit ps x ≡ o → chain_found (chain_within ps k) o ≤ 80
      go None e = omega arith
      go (Some u) e = let l = each_found (λ u. suc (chain (chain_from ps) u.body) ≤ 80) ps all_short x u e in let n = chain_more (chain_within ps k) (chain_within ps (length ps)) u.body (λ c h. within_from k c) in omega (arith, l, n)

-- ---- a program in which no chain is too long

module _ (qs : List Procedure) where
  -- its units are found, and no chain from one is too long
  abbrev IsBounded : Procedure → Type 0
  IsBounded v = (find_unit qs v.name ≡ Some v) × ((k : ℕ) → chain_within qs k v.name ≤ 80)

  module _ (bounded : Each IsBounded qs) where
    no_cycles : cycles qs ≡ []
    no_cycles =
        flat_none (λ v. flat_map (λ (c : At Call). faults_if (calls_lead qs (c.1).0 v.name) (fault 16 c.0)) (calls v)) qs
        (each_more IsBounded (λ v. flat_map (λ (c : At Call). faults_if (calls_lead qs (c.1).0 v.name) (fault 16 c.0)) (calls v) ≡ []) of_unit qs bounded)
      where
        of_unit : (v : Procedure) → IsBounded v → flat_map (λ (c : At Call). faults_if (calls_lead qs (c.1).0 v.name) (fault 16 c.0)) (calls v) ≡ []
        of_unit v h =
            flat_none (λ (c : At Call). faults_if (calls_lead qs (c.1).0 v.name) (fault 16 c.0)) (calls v)
            (each_more (λ (c : At Call). calls_lead qs (c.1).0 v.name ≡ false) (λ c. faults_if (calls_lead qs (c.1).0 v.name) (fault 16 c.0) ≡ []) (λ c k. if_none (calls_lead qs (c.1).0 v.name) (fault 16 c.0) k) (calls v)
            (named_each (λ x. calls_lead qs x v.name ≡ false) (calls v) (λ x k. no_way_bounded qs v.name v h.0 80 h.1 x (sym (ap (list_any (name_eq x)) (names_called v)) ∙ k) (length qs))))

    none_long : long_chains run_rules qs ≡ []
    none_long =
        flat_none (λ v. flat_map (λ (s : At Act). faults_if (begins_chain s.1 && nat_lt 80 (suc (act_chain (chain_from qs) s.1))) (passed 80 s.0)) (statements v.body)) qs
        (each_more IsBounded (λ v. flat_map (λ (s : At Act). faults_if (begins_chain s.1 && nat_lt 80 (suc (act_chain (chain_from qs) s.1))) (passed 80 s.0)) (statements v.body) ≡ []) of_unit qs bounded)
      where
        no_limit : (b : Bool) (n : ℕ) → suc n ≤ 80 → (b && nat_lt 80 (suc n)) ≡ false
        no_limit true n h = limit_kept n h
        no_limit false n h = refl

        of_unit : (v : Procedure) → IsBounded v → flat_map (λ (s : At Act). faults_if (begins_chain s.1 && nat_lt 80 (suc (act_chain (chain_from qs) s.1))) (passed 80 s.0)) (statements v.body) ≡ []
        of_unit v h =
            flat_none (λ (s : At Act). faults_if (begins_chain s.1 && nat_lt 80 (suc (act_chain (chain_from qs) s.1))) (passed 80 s.0)) (statements v.body)
            (each_more (λ (s : At Act). act_chain (chain_from qs) s.1 ≤ chain (chain_from qs) v.body) (λ s. faults_if (begins_chain s.1 && nat_lt 80 (suc (act_chain (chain_from qs) s.1))) (passed 80 s.0) ≡ [])
            (λ s k. if_none (begins_chain s.1 && nat_lt 80 (suc (act_chain (chain_from qs) s.1))) (passed 80 s.0) (no_limit (begins_chain s.1) (act_chain (chain_from qs) s.1) (let l = whole in omega (arith, k, l)))) (statements v.body) (low_statements (chain_from qs) (chain (chain_from qs) v.body) v.body (omega arith)))
          where
            whole : suc (chain (chain_from qs) v.body) ≤ 80
            whole = subst (λ o. chain_found (chain_from qs) o ≤ 80) h.0 (h.1 (suc (length qs)))

    bounded_none : chain_faults run_rules qs ≡ []
    bounded_none = ap (λ cs. or_else cs (long_chains run_rules qs)) no_cycles ∙ none_long

-- ---- the one and the other

-- the unit is found, and has no longer chains than one of the other program, in any number of rounds
abbrev pub KeepsChains : List Procedure → List Procedure → Procedure → Type 0
KeepsChains ps qs v = (find_unit qs v.name ≡ Some v) × ((x : Name) × ((k : ℕ) → chain_within qs k v.name ≤ chain_within ps k x))

pub chains_kept : (rules : Rules) (ps qs : List Procedure) → chain_faults rules ps ≡ [] → rules.chain ≤ run_rules.chain → Each (KeepsChains ps qs) qs → chain_faults run_rules qs ≡ []
chains_kept rules ps qs none few kept = bounded_none qs (each_more (KeepsChains ps qs) (IsBounded qs) (λ v h. (h.0, λ k. let l = h.1.1 k in let n = within_short rules ps none few k h.1.0 in omega (arith, l, n))) qs kept)
