-- What is emitted has no faults of chains: no calls lead back, and no chain is longer than in the source.
use Rattle.std.proofs.Common.{◌≡◌, ℕ, zero, suc, ◌≤◌, Bool, true, List, [], ◌∷◌, refl, sym, ap, ◌∙◌, subst, arith}
use Rattle.std.specs.Prelude.{Option, Some, None}
use Rattle.adj_tree.specs.Code.{Procedure}
use Rattle.def_meaning.specs.Written.{find_unit}
use Rattle.law_meaning.specs.Common.{HaveInCommon}
use Rattle.def_names.specs.Statements.{statements}
use Rattle.def_names.specs.Variables.{Name, variables}
use Rattle.def_names.specs.Calls.{chain, chain_found, chain_within}
use Rattle.def_names.specs.Fault.{Rules, run_rules}
use Rattle.def_names.specs.ChainFaults.{chain_faults}
use Rattle.def_names.proofs.Sound.{sound_has_none}
use Rattle.def_sweep.specs.Naming.{adjoint_text, naming}
use Rattle.def_sweep.specs.Declared.{unit_at}
use Rattle.def_sweep.specs.Names.{adjoint_name, forth_name, back_name}
use Rattle.def_sweep.specs.Marking.{ProgramMarks, first_statement, callee_of, callee_in}
use Rattle.def_sweep.specs.Program.{has_adjoint, has_pair, is_carried_with, all_units, left_by, forth_unit, back_unit, emitted_adjoint_with, emitted_units_with, emitted_for_with, schedules_in}
use Rattle.law_sweep.specs.Source.{CallUnits}
use Rattle.law_sweep.proofs.UnitLists.{found_there}
use Rattle.law_sweep.proofs.EmittedUnits.{adjoint_found, forth_found, back_found, carried_common}
use Rattle.law_emitted.specs.Checked.{IsChecked}
use Rattle.law_emitted.specs.Splits.{MaySplit, AllMaySplit}
use Rattle.law_emitted.specs.Emitted.{ChainsHaveNone}
use Rattle.law_emitted.proofs.Lists.{Each, each_more, each_found}
use Rattle.law_emitted.proofs.Statements.{CallHasNone, unit_found}
use Rattle.law_emitted.proofs.Callings.{Found}
use Rattle.law_emitted.proofs.Calling.{calls_less}
use Rattle.law_emitted.proofs.Carried.{AreCarriedWith, HaveAdjoint, HavePair, its_calls}
use Rattle.law_emitted.proofs.Sources.{all_calls}
use Rattle.law_emitted.proofs.Tables.{table_for}
use Rattle.law_emitted.proofs.UnitFaults.{each_made, made_name}
use Rattle.law_emitted.proofs.Makings.{Making, as_adjoint, as_forth, as_back, its_name, its_shadows, its_kept, its_plan, its_helpers, its_code, made, is_made, emitted_making, emitted_is_made, emitted_there}
use Rattle.law_emitted.proofs.CallFaults.{splits_each, all_known, all_there}
use Rattle.law_emitted.proofs.Chains.{KeptLow, AdjointLow, PairLow, Calls, renamed_chain, inside_chain, body_low, forth_low, back_low}
use Rattle.law_emitted.proofs.KeptChains.{KeepsChains, chains_kept}

-- ---- chains of what is emitted

module _ (rules : Rules) (ps : List Procedure) (checked : IsChecked rules ps) (few : rules.chain ≤ 80) (sb : Bool) (m : ProgramMarks) (may : AllMaySplit sb m ps ps) (head : Procedure) (vars outvars : List Bool) where
  abbrev known : CallUnits ps ps
  known = all_known rules ps checked

  abbrev qs : List Procedure
  qs = emitted_units_with sb m ps head vars outvars ps

  -- units that are carried, and what is made of units, have no longer chains in so many rounds
  record AreLow (k : ℕ) : Type 0 where
    carried : (x : Name) → is_carried_with sb m ps head x ≡ true → chain_within qs k x ≤ chain_within ps k x
    of_made : (x : Name) (w : Procedure) → find_unit ps x ≡ Some w → (l : Making) → is_made m ps head w l ≡ true → chain_within qs k (its_name ps w l) ≤ chain_within ps k x

  carried_low : (k : ℕ) → AreLow k → (x : Name) → is_carried_with sb m ps head x ≡ true → chain_within qs (suc k) x ≤ chain_within ps (suc k) x
  carried_low k low x h =
      subst (λ o. chain_found (chain_within qs k) o ≤ chain_within ps (suc k) x) (common.same x h) (go (find_unit ps x) refl)
    where
      common : HaveInCommon (is_carried_with sb m ps head) ps qs
      common = carried_common sb m ps head vars outvars known

      go : (o : Option Procedure) → find_unit ps x ≡ o → chain_found (chain_within qs k) o ≤ chain_found (chain_within ps k) o
      go None e = omega arith
      go (Some u) e = let l = inside_chain (chain_within qs k) (chain_within ps k) (is_carried_with sb m ps head) low.carried u.body (common.closed x u h e) in omega arith

  -- the body of what is made of a unit
  module _ (k : ℕ) (low : AreLow k) (w : Procedure) (found : find_unit ps w.name ≡ Some w) where
    abbrev f : Name → ℕ
    f = chain_within qs k

    abbrev g : Name → ℕ
    g = chain_within ps k

    adjoint_low : (x : Name) → HaveAdjoint m ps head x → f (callee_in m ps x).adjoint ≤ g x
    adjoint_low x h =
        let unit = unit_found ps x h.1 in
        let same = (found_there ps x unit.0 unit.1).1 in
        subst (λ o. f (callee_of m ps x o).adjoint ≤ g x) (sym unit.1) (low.of_made x unit.0 unit.1 (as_adjoint [] []) (ap (has_adjoint m ps head) same ∙ h.0))

    pair_low : (x : Name) → HavePair m ps head x → (f (callee_in m ps x).forth ≤ g x) × (f (callee_in m ps x).back ≤ g x)
    pair_low x h =
        let unit = unit_found ps x h.1 in
        let same = (found_there ps x unit.0 unit.1).1 in
        let there = ap (has_pair m ps head) same ∙ h.0 in
        subst (λ o. (f (callee_of m ps x o).forth ≤ g x) × (f (callee_of m ps x o).back ≤ g x)) (sym unit.1) (low.of_made x unit.0 unit.1 as_forth there, low.of_made x unit.0 unit.1 as_back there)

    calls_low : (l : Making) → is_made m ps head w l ≡ true → Calls f g (schedules_in sb ps) (its_plan m ps w l) (chain g w.body) (first_statement ps w.name) w.body
    calls_low l there =
        let p = its_plan m ps w l in
        let sc = schedules_in sb ps in
        let n = chain g w.body in
        calls_less (AreCarriedWith sb m ps head) (HaveAdjoint m ps head) (HavePair m ps head) (KeptLow f g sc p n) (AdjointLow f g sc p n) (PairLow f g sc p n) low.carried adjoint_low pair_low sc (its_kept m l) m.adjointed m.split (first_statement ps w.name) w.body
        (its_calls sb m ps head w found (each_found (λ u. Each (CallHasNone ps u) (statements u.body)) ps (all_calls rules ps checked) w.name w found) (each_found (λ u. MaySplit (schedules_in sb ps) m.adjointed m.split (first_statement ps u.name) u.body) ps (splits_each sb m ps ps may) w.name w found) l there)

    code_low : (l : Making) → is_made m ps head w l ≡ true → chain f (its_code sb m ps w l) ≤ chain g w.body
    code_low (as_adjoint at_turn at_end) there = body_low f g (schedules_in sb ps) (its_plan m ps w (as_adjoint at_turn at_end)) (chain g w.body) (first_statement ps w.name) w.line w.body at_turn at_end (omega arith) (calls_low (as_adjoint at_turn at_end) there)
    code_low as_forth there = forth_low f g (schedules_in sb ps) (its_plan m ps w as_forth) (chain g w.body) (first_statement ps w.name) w.line (left_by ps w) w.body (omega arith) (calls_low as_forth there)
    code_low as_back there = back_low f g (schedules_in sb ps) (its_plan m ps w as_back) (chain g w.body) (first_statement ps w.name) w.line (left_by ps w) w.body (omega arith) (calls_low as_back there)

    -- it is found in what is emitted under a name, and begins no longer a chain than its unit
    found_low : (l : Making) → is_made m ps head w l ≡ true → (name : Name) → find_unit qs name ≡ Some (made sb m ps (all_units m ps head) w l) → chain_within qs (suc k) name ≤ suc (chain g w.body)
    found_low l there name is =
        subst (λ o. chain_found f o ≤ suc (chain g w.body)) (sym is)
        (let low_code = code_low l there in
        let same = renamed_chain f (naming (table_for adjoint_text (variables w) (all_units m ps head) (its_shadows m w l) (its_helpers sb m ps w l))) (its_code sb m ps w l) in
        subst (λ n. suc n ≤ suc (chain g w.body)) (sym same) (omega arith))

    under_name : (l : Making) → is_made m ps head w l ≡ true → chain_within qs (suc k) (its_name ps w l) ≤ suc (chain g w.body)
    under_name (as_adjoint at_turn at_end) there =
        found_low (emitted_making m head vars outvars w) (emitted_there m ps head vars outvars w ∙ there) (adjoint_name ps w) (adjoint_found sb m ps head vars outvars w.name w found there ∙ ap Some (emitted_is_made sb m ps head vars outvars w))
    under_name as_forth there = found_low as_forth there (forth_name ps w) (forth_found sb m ps head vars outvars w.name w found there)
    under_name as_back there = found_low as_back there (back_name ps w) (back_found sb m ps head vars outvars w.name w found there)

  made_low : (k : ℕ) → AreLow k → (x : Name) (w : Procedure) → find_unit ps x ≡ Some w → (l : Making) → is_made m ps head w l ≡ true → chain_within qs (suc k) (its_name ps w l) ≤ chain_within ps (suc k) x
  made_low k low x w found l there =
      subst (λ o. chain_within qs (suc k) (its_name ps w l) ≤ chain_found (chain_within ps k) o) (sym found) (under_name k low w (ap (find_unit ps) (found_there ps x w found).1 ∙ found) l there)

  are_low : (k : ℕ) → AreLow k
  are_low zero = record { carried = λ x h. omega arith; of_made = λ x w f l h. omega arith }
  are_low (suc k) = let low = are_low k in record { carried = carried_low k low; of_made = made_low k low }

  -- so no chain from a unit is longer than one of the source
  all_kept : Each (KeepsChains ps qs) qs
  all_kept =
      each_made sb m ps head vars outvars (KeepsChains ps qs) ps
      (each_more (Found ps) (λ u. is_carried_with sb m ps head u.name ≡ true → KeepsChains ps qs u) (λ u f h. (sym (common.same u.name h) ∙ f.0, (u.name, λ k. (are_low k).carried u.name h))) ps (all_there rules ps checked))
      (each_more (Found ps) (λ u. has_adjoint m ps head u.name ≡ true → KeepsChains ps qs (emitted_adjoint_with sb m ps head vars outvars u))
      (λ u f h. (ap (find_unit qs) (made_name sb m ps head vars outvars u) ∙ adjoint_found sb m ps head vars outvars u.name u f.0 h, (u.name, λ k. subst (λ x. chain_within qs k x ≤ chain_within ps k u.name) (sym (made_name sb m ps head vars outvars u)) ((are_low k).of_made u.name u f.0 (as_adjoint [] []) h)))) ps (all_there rules ps checked))
      (each_more (Found ps) (λ u. has_pair m ps head u.name ≡ true → KeepsChains ps qs (forth_unit sb m ps (all_units m ps head) u) × KeepsChains ps qs (back_unit sb m ps (all_units m ps head) u))
      (λ u f h. ((forth_found sb m ps head vars outvars u.name u f.0 h, (u.name, λ k. (are_low k).of_made u.name u f.0 as_forth h)), (back_found sb m ps head vars outvars u.name u f.0 h, (u.name, λ k. (are_low k).of_made u.name u f.0 as_back h)))) ps (all_there rules ps checked))
    where
      common : HaveInCommon (is_carried_with sb m ps head) ps qs
      common = carried_common sb m ps head vars outvars known

  emitted_none : chain_faults run_rules qs ≡ []
  emitted_none = chains_kept rules ps qs (sound_has_none rules ps checked.sound).chains few all_kept

pub chains_have_none : ChainsHaveNone
chains_have_none rules ps checked few sb m may head vars outvars = go (unit_at head ps)
  where
    go : (us : List Procedure) → chain_faults run_rules (emitted_for_with sb m ps vars outvars us) ≡ []
    go [] = refl
    go (u ∷ us) = emitted_none rules ps checked few sb m may u vars outvars
