-- Chains of calls in a kernel are no longer than those of the program, where each marked DO counts as one.
use Rattle.std.proofs.Common.{◌≡◌, ℕ, zero, suc, ◌+◌, ◌≤◌, Bool, true, false, List, [], ◌∷◌, map, refl, ap, ◌∙◌, arith, if◌then◌else◌}
use Rattle.std.specs.Prelude.{ℤ, max, Some}
use Rattle.adj_tree.specs.Code.{name_eq, Var, Term, Terms, Test, unmarked, with_count, count_from, Act, assign, choose, loop, during, call, runtime, Code, stop, step, Procedure}
use Rattle.def_meaning.specs.Append.{◌+++◌}
use Rattle.def_meaning.specs.LeastSet.{Dummies}
use Rattle.def_meaning.specs.Written.{find_unit, handed_back}
use Rattle.def_names.specs.Variables.{Name}
use Rattle.def_names.specs.Calls.{calls, act_chain, chain, chain_from}
use Rattle.def_kernel.specs.Lowered.{locals_in_all, before, before_target, reduced_all, before_all, all_passed, before_passing_all, after_passing_all, lowered_call, lowered_act, lowered}
use Rattle.law_kernel.specs.Apart.{EachCall', EachCall}
use Rattle.def_kernel.specs.Kernel.{local_in, lowered_unit, lowered_program}
use Rattle.def_kernel.specs.Stepped.{marked_in, marked_in_act, step_name, cut_act, cut, stepped_program}
use Rattle.law_kernel.specs.StepTheorem.{IsStepThere, StepsThereAct, StepsThere, IsMatched, IsSource}
use Rattle.law_kernel.specs.Sound.{IsAccepted}
use Rattle.law_kernel.proofs.Holding.{HoldsIn, Holds, hold_before, hold_target, hold_all, hold_passings, hold_afters}
use Rattle.law_kernel.proofs.Programs.{found_in}
use Rattle.law_kernel.proofs.StepLookups.{is_step_for}
use Rattle.law_kernel.proofs.ChainBounds.{longest}
use Rattle.law_kernel.proofs.SoundPrograms.{sound_is_source}
use Rattle.def_adjoint.specs.Calls as own
use Rattle.law_cost.specs.KernelSpent.{KernelChainsAreCounted}
use Rattle.law_cost.proofs.SpentChains.{no_way}

module _ (units : List Procedure) (accepted : IsAccepted units) where
  source : IsSource ℤ units
  source = sound_is_source units accepted.written accepted.sound ℤ

  -- ---- the stepped program

  module _ (below : Name → ℕ) (of_units : (name : Name) (v : Procedure) → find_unit units name ≡ Some v → below name ≤ chain_from units name) (taken : List Name) (u : Procedure)
      (of_steps : (k line : ℕ) (x : Var) (body : Code) → EachCall (IsMatched units) body → IsStepThere (stepped_program units) taken u k line x body → StepsThere (stepped_program units) taken u (suc k) body → below (step_name taken u.name k) ≤ suc (chain (chain_from units) body)) where
    mutual
      once_act : (k line : ℕ) (a : Act) → EachCall' (IsMatched units) a → StepsThereAct (stepped_program units) taken u k line a → own.act_chain below (cut_act taken u k line a) ≤ act_chain (chain_from units) a
      once_act k line (assign x subs e) p st = omega arith
      once_act k line (choose c a b) p st = let l = once k a p.0 st.0 in let m = once (k + marked_in a) b p.1 st.1 in omega (arith, l, m)
      once_act k line (loop x first last by body unmarked) p st = once k body p st
      once_act k line (loop x first last by body (with_count m)) p st = let l = of_steps k line x body p st.0 st.1 in omega (arith, l)
      once_act k line (loop x first last by body (count_from y)) p st = let l = of_steps k line x body p st.0 st.1 in omega (arith, l)
      once_act k line (during c body) p st = once k body p st
      once_act k line (call name args) p st = of_units name p.called p.found
      once_act k line (runtime r) p st = absurd p

      -- of a list
      once : (k : ℕ) (c : Code) → EachCall (IsMatched units) c → StepsThere (stepped_program units) taken u k c → own.code_chain below (cut taken u k c) ≤ chain (chain_from units) c
      once k stop p st = omega arith
      once k (step line a rest) p st = let l = once_act k line a p.0 st.0 in let m = once (k + marked_in_act a) rest p.1 st.1 in omega (arith, l, m)

  -- calls are of units that are there
  matched : (name : Name) (v : Procedure) → find_unit units name ≡ Some v → EachCall (IsMatched units) v.body
  matched name v f = found_in (λ u. EachCall (IsMatched units) u.body) units name v f source.matched

  -- with so many units called within one another: units of the source, and step units
  abbrev UnitsOnce : ℕ → Type 0
  UnitsOnce j = (name : Name) (v : Procedure) → find_unit units name ≡ Some v → own.units_within (stepped_program units) j name ≤ chain_from units name

  abbrev StepsOnce : ℕ → Type 0
  StepsOnce j = (taken : List Name) (u : Procedure) (k line : ℕ) (x : Var) (body : Code) → EachCall (IsMatched units) body → IsStepThere (stepped_program units) taken u k line x body → StepsThere (stepped_program units) taken u (suc k) body → own.units_within (stepped_program units) j (step_name taken u.name k) ≤ suc (chain (chain_from units) body)

  both_once : (j : ℕ) → UnitsOnce j × StepsOnce j
  both_once zero = ((λ name v f. omega arith), (λ taken u k line x body p here st. omega arith))
  both_once (suc j) =
      let ih = both_once j in (
        (λ name v f.
            let s = is_step_for units name v f in
            let l = once (own.units_within (stepped_program units) j) ih.0 s.taken v (ih.1 s.taken v) 0 v.body (matched name v f) s.steps in
            let m = longest units (no_way units accepted) name v f in
            let is : own.units_within (stepped_program units) (suc j) name ≡ suc (own.code_chain (own.units_within (stepped_program units) j) (cut s.taken v 0 v.body)) = ap (own.chain_of (own.units_within (stepped_program units) j)) s.found in
            omega (arith, l, m, is)),
        (λ taken u k line x body p here st.
            let l = once (own.units_within (stepped_program units) j) ih.0 taken u (ih.1 taken u) (suc k) body p st in
            let is : own.units_within (stepped_program units) (suc j) (step_name taken u.name k) ≡ suc (own.code_chain (own.units_within (stepped_program units) j) (cut taken u (suc k) body)) = ap (own.chain_of (own.units_within (stepped_program units) j)) here in
            omega (arith, l, is)),
      )

-- ---- lowered lists have the chains of the lists

-- assignments and IFs alone
abbrev IsQuiet : ℕ → Act → Type 0
IsQuiet line (assign x subs e) = Unit {0}
IsQuiet line (choose c a b) = Unit {0}
IsQuiet line (loop x first last by body m) = ⊥
IsQuiet line (during c body) = ⊥
IsQuiet line (call name args) = ⊥
IsQuiet line (runtime r) = ⊥

module _ (f : Name → ℕ) where
  mutual
    quiet_act : (line : ℕ) (a : Act) → IsQuiet line a → HoldsIn IsQuiet a → own.act_chain f a ≡ 0
    quiet_act line (assign x subs e) q h = refl
    quiet_act line (choose c a b) q h = let p = quiet a h.0 in let r = quiet b h.1 in omega (arith, p, r)
    quiet_act line (loop x first last by body m) q h = absurd q
    quiet_act line (during c body) q h = absurd q
    quiet_act line (call name args) q h = absurd q
    quiet_act line (runtime r) q h = absurd q

    quiet : (c : Code) → Holds IsQuiet c → own.code_chain f c ≡ 0
    quiet stop h = refl
    quiet (step line a rest) h = let p = quiet_act line a h.0 h.1.0 in let r = quiet rest h.1.1 in omega (arith, p, r)

  chain_join : (c d : Code) → own.code_chain f (c +++ d) ≡ max (own.code_chain f c) (own.code_chain f d)
  chain_join stop d = omega arith
  chain_join (step line a c) d = let p = chain_join c d in omega (arith, p)

  quiet_front : (c d : Code) → Holds IsQuiet c → own.code_chain f (c +++ d) ≡ own.code_chain f d
  quiet_front c d h = let p = chain_join c d in let q = quiet c h in omega (arith, p, q)

  module _ (local : ℕ → Var) (handed : Dummies) where
    abbrev sets : (line : ℕ) (x : Var) (subs : Terms) (e : Term) → IsQuiet line (assign x subs e)
    sets line x subs e = tt

    abbrev picks : (line : ℕ) (c : Test) (a b : Code) → IsQuiet line (choose c a b)
    picks line c a b = tt

    call_chain : (line : ℕ) (name : Name) (args : Terms) → own.code_chain f (lowered_call local line (handed name) name args) ≡ f name
    call_chain line name args =
        let es = reduced_all local 0 args in
        let j = locals_in_all args in
        let names = all_passed local (locals_in_all args) (handed name) [] (reduced_all local 0 args) in
        let after = after_passing_all local line (locals_in_all args) (handed name) [] (reduced_all local 0 args) in
        let q = quiet (after_passing_all local line (locals_in_all args) (handed name) [] (reduced_all local 0 args)) (hold_afters local IsQuiet IsQuiet sets picks line (locals_in_all args) (handed name) [] (reduced_all local 0 args)) in
        let last : max (f name) (own.code_chain f (after_passing_all local line (locals_in_all args) (handed name) [] (reduced_all local 0 args))) ≡ f name = omega (arith, q) in
        quiet_front (before_all local line 0 args) (before_passing_all local line j (handed name) [] es +++ step line (call name names) after) (hold_all local IsQuiet IsQuiet sets picks line 0 args)
        ∙ quiet_front (before_passing_all local line j (handed name) [] es) (step line (call name names) after) (hold_passings local IsQuiet IsQuiet sets picks line j (handed name) [] es) ∙ last

    mutual
      lowered_chain_act : (line : ℕ) (a : Act) → own.code_chain f (lowered_act local handed line a) ≡ own.act_chain f a
      lowered_chain_act line (assign x subs e) =
          quiet_front (before_target local line x 0 _ subs) _ (hold_target local IsQuiet IsQuiet sets picks line x 0 _ subs) ∙ quiet_front (before local line _ e) _ (hold_before local IsQuiet IsQuiet sets picks line _ e)
      lowered_chain_act line (choose c a b) = let p = lowered_chain a in let q = lowered_chain b in omega (arith, p, q)
      lowered_chain_act line (loop x first last by body m) = let p = lowered_chain body in omega (arith, p)
      lowered_chain_act line (during c body) = let p = lowered_chain body in omega (arith, p)
      lowered_chain_act line (call name args) = call_chain line name args
      lowered_chain_act line (runtime r) = refl

      lowered_chain : (c : Code) → own.code_chain f (lowered local handed c) ≡ own.code_chain f c
      lowered_chain stop = refl
      lowered_chain (step line a rest) = let p = chain_join (lowered_act local handed line a) (lowered local handed rest) in let q = lowered_chain_act line a in let r = lowered_chain rest in omega (arith, p, q, r)

module _ (all : List Procedure) where
  lowered_found : (us : List Procedure) (f : Name → ℕ) (x : Name) → own.chain_of f (find_unit (map (lowered_unit all) us) x) ≡ own.chain_of f (find_unit us x)
  lowered_found [] f x = refl
  lowered_found (u ∷ us) f x = go (name_eq u.name x) (lowered_found us f x)
    where
      go : (b : Bool) → own.chain_of f (find_unit (map (lowered_unit all) us) x) ≡ own.chain_of f (find_unit us x) → own.chain_of f (if b then Some (lowered_unit all u) else find_unit (map (lowered_unit all) us) x) ≡ own.chain_of f (if b then Some u else find_unit us x)
      go true ih = ap suc (lowered_chain f (local_in all u) (handed_back all) u.body)
      go false ih = ih

  -- lowered units have the chains that they had
  within_same : (k : ℕ) (x : Name) → own.units_within (lowered_program all) k x ≡ own.units_within all k x
  within_same zero x = refl
  within_same (suc k) x = lowered_found all (own.units_within (lowered_program all) k) x ∙ ap (λ (f : Name → ℕ). own.chain_of f (find_unit all x)) (λ i y. within_same k y i)

pub kernel_chains_counted : KernelChainsAreCounted
kernel_chains_counted ps accepted name u found calls few k =
    let l = (both_once ps accepted k).0 name u found in
    let same = within_same (stepped_program ps) k name in
    omega (arith, l, same, few)
