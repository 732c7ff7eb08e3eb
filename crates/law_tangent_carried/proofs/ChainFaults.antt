-- What is emitted has no faults of chains: no calls lead back, and no chain is longer than in the source.
use Rattle.std.proofs.Common.{◌≡◌, ℕ, zero, suc, ◌≤◌, Bool, true, false, List, [], refl, sym, ap, ◌∙◌, subst, arith, if◌then◌else◌}
use Rattle.std.specs.Prelude.{Option, Some, None}
use Rattle.adj_tree.specs.Code.{Procedure}
use Rattle.def_meaning.specs.Append.{◌+++◌}
use Rattle.def_meaning.specs.Written.{find_unit}
use Rattle.def_names.specs.Variables.{Name}
use Rattle.def_names.specs.Calls.{chain, chain_found, chain_within}
use Rattle.def_names.specs.Fault.{run_rules}
use Rattle.def_names.specs.ChainFaults.{chain_faults}
use Rattle.def_names.proofs.Sound.{sound_has_none}
use Rattle.def_sweep.specs.Marking.{arrays_of}
use Rattle.def_sweep.specs.Naming.{naming}
use Rattle.def_tangent.specs.Forward.{tangents}
use Rattle.def_tangent.specs.Program.{Carried, tangent_name, plan_in, takes, cleared, names_of_unit, has_tangent, stays, emitted_units}
use Rattle.law_meaning.specs.Common.{HaveInCommon}
use Rattle.law_sweep.specs.Source.{is_unit, CallUnits}
use Rattle.law_sweep.proofs.UnitLists.{found_there}
use Rattle.law_tangent.proofs.FoundUnits.{tangent_found}
use Rattle.law_emitted.proofs.Lists.{Each, each_more}
use Rattle.law_emitted.proofs.Callings.{Found, each_at}
use Rattle.law_emitted.proofs.CallFaults.{all_known, all_there}
use Rattle.law_emitted.proofs.Statements.{unit_found}
use Rattle.law_emitted.proofs.Chains.{renamed_chain, inside_chain}
use Rattle.law_tangent_carried.specs.Emitted.{ChainsHaveNone}
use Rattle.law_tangent_carried.proofs.EmittedUnits.{all_units, at_first, tangent_of, each_emitted, for_head}
use Rattle.law_tangent_carried.proofs.EmittedCalls.{still_common, tangent_there, goes, tangent_calls}
use Rattle.law_tangent_carried.proofs.Chains.{called, tangent_chain, cleared_chain}
use Rattle.law_emitted.proofs.KeptChains.{KeepsChains, chains_kept}

module _ (c : Carried) (ps : List Procedure) (head : Procedure) (vars : List Bool) (known : CallUnits ps ps) where
  abbrev qs : List Procedure
  qs = emitted_units c ps head vars ps

  common : HaveInCommon (stays c ps head.name) ps qs
  common = still_common c ps head vars known

  -- from units that stay, and from tangents, there are no longer chains in so many rounds than from the units in the source
  record AreLow (k : ℕ) : Type 0 where
    still : (x : Name) → stays c ps head.name x ≡ true → chain_within qs k x ≤ chain_within ps k x
    tangent : (x : Name) → has_tangent c ps head.name x ≡ true → chain_within qs k (tangent_name ps x) ≤ chain_within ps k x

  still_low : (k : ℕ) → AreLow k → (x : Name) → stays c ps head.name x ≡ true → chain_within qs (suc k) x ≤ chain_within ps (suc k) x
  still_low k low x h = subst (λ o. chain_found (chain_within qs k) o ≤ chain_within ps (suc k) x) (common.same x h) (go (find_unit ps x) refl)
    where
      go : (o : Option Procedure) → find_unit ps x ≡ o → chain_found (chain_within qs k) o ≤ chain_found (chain_within ps k) o
      go None e = omega arith
      go (Some u) e = let l = inside_chain (chain_within qs k) (chain_within ps k) (stays c ps head.name) low.still u.body (common.closed x u h e) in omega (arith, l)

  -- the body of a tangent
  made_low : (k : ℕ) → AreLow k → (u : Procedure) → find_unit ps u.name ≡ Some u → has_tangent c ps head.name u.name ≡ true → chain (chain_within qs k) (tangent_of c ps head vars u).body ≤ chain (chain_within ps k) u.body
  made_low k low u found there =
      subst (λ n. n ≤ chain (chain_within ps k) u.body) (sym (renamed_chain (chain_within qs k) (naming (names_of_unit (c u.name) (all_units c ps head vars) u)) (cleared (arrays_of u) u.line (at_first c ps head vars u) +++ tangents (plan_in c ps u.name) u.body)))
      (cleared_chain (chain_within qs k) (chain (chain_within ps k) u.body) (arrays_of u) u.line (at_first c ps head vars u) (tangents (plan_in c ps u.name) u.body)
      (let l = tangent_chain (chain_within qs k) (plan_in c ps u.name) u.body in
      let m = inside_chain (λ x. chain_within qs k (called (plan_in c ps u.name) x)) (chain_within ps k) (goes c ps head vars known) less u.body (tangent_calls c ps head vars known u.name u found there) in
      omega (arith, l, m)))
    where
      less : (x : Name) → goes c ps head vars known x ≡ true → chain_within qs k (called (plan_in c ps u.name) x) ≤ chain_within ps k x
      less x = go (takes c ps x)
        where
          go : (b : Bool) → (if b then has_tangent c ps head.name x else stays c ps head.name x) ≡ true → chain_within qs k (if b then tangent_name ps x else x) ≤ chain_within ps k x
          go true h = low.tangent x h
          go false h = low.still x h

  module _ (top : is_unit ps head.name ≡ true) where
    tangent_low : (k : ℕ) → AreLow k → (x : Name) → has_tangent c ps head.name x ≡ true → chain_within qs (suc k) (tangent_name ps x) ≤ chain_within ps (suc k) x
    tangent_low k low x there =
        subst (λ o. chain_found (chain_within qs k) o ≤ chain_within ps (suc k) x) (sym (ap (λ n. find_unit qs (tangent_name ps n)) (sym same) ∙ tangent_found c ps head vars x u.0 u.1 there))
        (subst (λ o. suc (chain (chain_within qs k) (tangent_of c ps head vars u.0).body) ≤ chain_found (chain_within ps k) o) (sym u.1) (let l = made_low k low u.0 (ap (find_unit ps) same ∙ u.1) (ap (has_tangent c ps head.name) same ∙ there) in omega (arith, l)))
      where
        u : (v : Procedure) × (find_unit ps x ≡ Some v)
        u = unit_found ps x (tangent_there c ps head vars known top x there)

        same : u.0.name ≡ x
        same = (found_there ps x u.0 u.1).1

    are_low : (k : ℕ) → AreLow k
    are_low zero = record { still = λ x h. omega arith; tangent = λ x h. omega arith }
    are_low (suc k) = let low = are_low k in record { still = still_low k low; tangent = tangent_low k low }

    all_kept : Each (Found ps) ps → Each (KeepsChains ps qs) qs
    all_kept found =
        each_emitted c ps head vars (KeepsChains ps qs) ps
        (each_more (Found ps) (λ u. stays c ps head.name u.name ≡ true → KeepsChains ps qs u) (λ u f h. (sym (common.same u.name h) ∙ f.0, (u.name, λ k. (are_low k).still u.name h))) ps found)
        (each_more (Found ps) (λ u. has_tangent c ps head.name u.name ≡ true → KeepsChains ps qs (tangent_of c ps head vars u)) (λ u f h. (tangent_found c ps head vars u.name u f.0 h, (u.name, λ k. (are_low k).tangent u.name h))) ps found)

-- the law
pub chains_have_none : ChainsHaveNone
chains_have_none rules k checked few c =
    for_head (λ qs. chain_faults run_rules qs ≡ []) c k.units k.head k.vars refl (λ u at.
    chains_kept rules k.units (emitted_units c k.units u k.vars k.units) (sound_has_none rules k.units checked.sound).chains few
    (all_kept c k.units u k.vars (all_known rules k.units checked) (found_there k.units u.name u (each_at (Found k.units) k.head k.units u (all_there rules k.units checked) at).0).0 (all_there rules k.units checked)))
