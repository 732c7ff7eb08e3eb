-- No chain of calls of an accepted program has more units than are counted where it was checked.
use Rattle.std.proofs.Common.{◌≡◌, ℕ, zero, suc, ◌≤◌, ◌⊎◌, inl, inr, Bool, true, false, List, [], ◌∷◌, map, length, refl, sym, ap, ◌∙◌, arith, subst, if◌then◌else◌}
use Rattle.std.proofs.lemmas.Bool.{or_cases}
use Rattle.std.specs.Prelude.{flat_map, Option, Some, None}
use Rattle.std.specs.List.{list_any}
use Rattle.adj_tree.specs.Code.{name_eq, Procedure}
use Rattle.adj_tree.specs.declared.fault.Refusal.{Refusal}
use Rattle.adj_tree.proofs.Names.{name_same}
use Rattle.def_meaning.specs.Written.{find_unit}
use Rattle.def_names.specs.Statements.{At}
use Rattle.def_names.specs.Variables.{Name}
use Rattle.def_names.specs.Calls.{Call, calls, leads, calls_lead, chain_found, chain_within, chain_from}
use Rattle.def_names.specs.Fault.{source_rules, fault, faults_if}
use Rattle.def_names.specs.ChainFaults.{cycles, long_chains, or_else}
use Rattle.def_names.proofs.Sound.{sound_has_none}
use Rattle.law_kernel.specs.Sound.{IsAccepted}
use Rattle.law_kernel.proofs.Faultless.{Each, each_more, each_found, none_each}
use Rattle.def_names.proofs.Faultless.{none_if}
use Rattle.law_kernel.proofs.Shortening.{names_called, shorter}
use Rattle.law_kernel.proofs.ChainBounds.{NoWayBack, chain_more, longest}
use Rattle.law_cost.specs.Spent.{ChainsAreCounted}

-- where there is none of either
first_none : (xs ys : List Refusal) → or_else xs ys ≡ [] → xs ≡ []
first_none [] ys h = refl
first_none (x ∷ xs) ys h = absurd cc

-- a unit that is found has the name
found_is : (us : List Procedure) (x : Name) (u : Procedure) → find_unit us x ≡ Some u → u.name ≡ x
found_is [] x u h = absurd cc
found_is (v ∷ us) x u h = go (name_eq v.name x) refl h (found_is us x u)
  where
    go : (b : Bool) → name_eq v.name x ≡ b → (if b then Some v else find_unit us x) ≡ Some u → (find_unit us x ≡ Some u → u.name ≡ x) → u.name ≡ x
    go true e h ih = let same : v ≡ u = cc in subst (λ w. w.name ≡ x) same (name_same v.name x e)
    go false e h ih = ih h

-- what holds of the names of calls
each_callee : (P : Name → Type 0) (cs : List (At Call)) → Each (λ (c : At Call). P (c.1).0) cs → (x : Name) → list_any (name_eq x) (map (λ (c : At Call). (c.1).0) cs) ≡ true → P x
each_callee P [] h x k = absurd cc
each_callee P (c ∷ cs) h x k = go (or_cases (name_eq x (c.1).0) (list_any (name_eq x) (map (λ (c : At Call). (c.1).0) cs)) k) (each_callee P cs h.1 x)
  where
    go : (name_eq x (c.1).0 ≡ true) ⊎ (list_any (name_eq x) (map (λ (c : At Call). (c.1).0) cs) ≡ true) → (list_any (name_eq x) (map (λ (c : At Call). (c.1).0) cs) ≡ true → P x) → P x
    go (inl e) ih = subst P (sym (name_same x (c.1).0 e)) h.0
    go (inr e) ih = ih e

module _ (ps : List Procedure) (accepted : IsAccepted ps) where
  -- no calls lead back
  pub no_way : NoWayBack ps
  no_way x u f c m k = back (leads ps k c x) refl
    where
      no_cycles : cycles ps ≡ []
      no_cycles = first_none (cycles ps) (long_chains source_rules ps) (sound_has_none source_rules ps accepted.sound).chains

      each_call : Each (λ (c : At Call). calls_lead ps (c.1).0 u.name ≡ false) (calls u)
      each_call =
          each_more (λ (c : At Call). faults_if (calls_lead ps (c.1).0 u.name) (fault 16 c.0) ≡ []) (λ c. calls_lead ps (c.1).0 u.name ≡ false) (λ c h. none_if (calls_lead ps (c.1).0 u.name) (fault 16 c.0) h) (calls u)
          (none_each (λ (c : At Call). faults_if (calls_lead ps (c.1).0 u.name) (fault 16 c.0)) (calls u)
          (each_found (λ u. flat_map (λ (c : At Call). faults_if (calls_lead ps (c.1).0 u.name) (fault 16 c.0)) (calls u) ≡ []) ps (none_each (λ u. flat_map (λ (c : At Call). faults_if (calls_lead ps (c.1).0 u.name) (fault 16 c.0)) (calls u)) ps no_cycles) x u f))

      never : calls_lead ps c x ≡ false
      never = ap (calls_lead ps c) (sym (found_is ps x u f)) ∙ each_callee (λ c. calls_lead ps c u.name ≡ false) (calls u) each_call c (ap (list_any (name_eq c)) (names_called u) ∙ m)

      back : (b : Bool) → leads ps k c x ≡ b → leads ps k c x ≡ false
      back true e = absurd (let z : true ≡ false = sym (shorter (length ps) ps (omega arith) k c x e) ∙ never in cc)
      back false e = e

  counted : (k : ℕ) (name : Name) → chain_within ps k name ≤ chain_from ps name
  counted zero name = omega arith
  counted (suc k) name = go (find_unit ps name) refl (counted k)
    where
      go : (o : Option Procedure) → find_unit ps name ≡ o → ((c : Name) → chain_within ps k c ≤ chain_from ps c) → chain_found (chain_within ps k) o ≤ chain_from ps name
      go None f ih = omega arith
      go (Some u) f ih =
          let l = chain_more (chain_within ps k) (chain_within ps (length ps)) u.body (λ c m. ih c) in
          let m = longest ps no_way name u f in
          omega (arith, l, m)

pub chains_counted : ChainsAreCounted
chains_counted ps accepted name calls few k = let l = counted ps accepted k name in omega (arith, l, few)
