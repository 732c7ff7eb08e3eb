-- From the statements of the program to those of its adjoint: by the weights of the kernel's.
use Rattle.std.proofs.Common.{◌≡◌, ◌≤◌, ℕ, zero, suc, ◌+◌, ◌*◌, Bool, true, false, List, [], ◌∷◌, map, refl, sym, ap, ◌∙◌, subst, arith, if◌then◌else◌}
use Rattle.std.proofs.Math.Nat.{mul-le-mul_left, mul_comm, mul_assoc}
use Rattle.std.specs.Prelude.{ℤ, length, Some, None}
use Rattle.adj_tree.specs.Code.{name_eq, Procedure}
use Rattle.adj_tree.proofs.Names.{name_same}
use Rattle.def_meaning.specs.Numbers.{words}
use Rattle.def_meaning.specs.Scene.{Outcome, Done}
use Rattle.def_meaning.specs.Written.{find_unit, handed_back}
use Rattle.def_meaning.specs.Units.{Slot, Output, fits, run_unit}
use Rattle.def_meaning.specs.Padded.{own_nodes, padded_program, padded_procedure}
use Rattle.def_names.specs.Calls.{chain_found, chain_within}
use Rattle.def_names.specs.HeadFaults.{unit_number}
use Rattle.def_sweep.specs.Tangents as slots
use Rattle.def_sweep.specs.MarkedAdjoint.{shadow_flags, joined_by}
use Rattle.def_sweep.specs.Declared.{unit_at}
use Rattle.def_sweep.specs.Names.{adjoint_name}
use Rattle.def_sweep.specs.Program.{emitted_program}
use Rattle.def_kernel.specs.Kernel.{EachUnit, local_in, lowered_unit, lowered_program}
use Rattle.law_kernel.specs.Fits.{IsFit}
use Rattle.def_kernel.specs.Stepped.{marked_in, kernel_of}
use Rattle.law_kernel.specs.Sound.{IsAccepted}
use Rattle.def_kernel.specs.Weights.{WeighsAtMost}
use Rattle.law_kernel.proofs.Costs.{lowered_means, weighed_means}
use Rattle.law_kernel.proofs.Inputs.{inputs_same}
use Rattle.law_kernel.proofs.Programs.{found_lowered}
use Rattle.law_kernel.proofs.SoundChains.{lowered_chain}
use Rattle.law_kernel.proofs.SoundPrograms.{sound_is_source}
use Rattle.law_kernel.proofs.Unmarked.{stepped_same}
use Rattle.law_kernel.proofs.WholeKernels.{stepped_fit}
use Rattle.def_adjoint.specs.CallsAtMost.{CallsAtMost}
use Rattle.law_cost.proofs.Costs.{emitted_costs}
use Rattle.law_cost.proofs.ReadBack.{read_back}
use Rattle.law_cost.specs.Spent.{EmittedSpends, BoundIsWithin}

-- ---- the bound

-- what is multiplied by the weight and the number of statements
together : (a w u : ℕ) → a * w * u ≡ a * (w * u)
together a w u = mul_assoc a w u

-- nine to each unit of weight
pub nine_each : (calls weight used price : ℕ) → price ≤ 9 * weight * used → (4 + calls) * price ≤ (36 + 9 * calls) * weight * used
nine_each calls weight used price h =
    let l = mul-le-mul_left (4 + calls) h in
    let first : (4 + calls) * (9 * weight * used) ≡ (4 + calls) * 9 * (weight * used) = ap (λ z. (4 + calls) * z) (together 9 weight used) ∙ sym (mul_assoc (4 + calls) 9 (weight * used)) in
    let nine : (4 + calls) * 9 ≡ 36 + 9 * calls = omega arith in
    let same : (4 + calls) * (9 * weight * used) ≡ (36 + 9 * calls) * weight * used = first ∙ ap (λ z. z * (weight * used)) nine ∙ sym (together (36 + 9 * calls) weight used) in
    omega (arith, l, same)

pub bound_is_within : BoundIsWithin
bound_is_within weight calls used dummies =
    let z = weight * used in
    let few : 36 + 9 * calls ≤ 40 * (calls + 2) = omega arith in
    let l = mul-le-mul_left z few in
    let left : (36 + 9 * calls) * weight * used ≡ z * (36 + 9 * calls) = together (36 + 9 * calls) weight used ∙ mul_comm (36 + 9 * calls) z in
    let turned : 40 * weight * (calls + 2) ≡ 40 * (calls + 2) * weight = mul_assoc 40 weight (calls + 2) ∙ ap (λ x. 40 * x) (mul_comm weight (calls + 2)) ∙ sym (mul_assoc 40 (calls + 2) weight) in
    let right : 40 * weight * (calls + 2) * used ≡ z * (40 * (calls + 2)) = ap (λ x. x * used) turned ∙ together (40 * (calls + 2)) weight used ∙ mul_comm (40 * (calls + 2)) z in
    omega (arith, l, left, right)

-- ---- chains of calls

module _ (all : List Procedure) where
  lowered_found : (us : List Procedure) (f : List ℕ → ℕ) (x : List ℕ) → chain_found f (find_unit (map (lowered_unit all) us) x) ≡ chain_found f (find_unit us x)
  lowered_found [] f x = refl
  lowered_found (u ∷ us) f x = go (name_eq u.name x) (lowered_found us f x)
    where
      go : (b : Bool) → chain_found f (find_unit (map (lowered_unit all) us) x) ≡ chain_found f (find_unit us x) → chain_found f (if b then Some (lowered_unit all u) else find_unit (map (lowered_unit all) us) x) ≡ chain_found f (if b then Some u else find_unit us x)
      go true ih = ap suc (lowered_chain f (local_in all u) (handed_back all) u.body)
      go false ih = ih

  -- lowered units have the chains that they had
  within_same : (k : ℕ) (x : List ℕ) → chain_within (lowered_program all) k x ≡ chain_within all k x
  within_same zero x = refl
  within_same (suc k) x = lowered_found all (chain_within (lowered_program all) k) x ∙ ap (λ (f : List ℕ → ℕ). chain_found f (find_unit all x)) (λ i y. within_same k y i)

-- ---- the program

-- the unit of a name has its number, and the name
pub record Numbered (ps : List Procedure) (name : List ℕ) (u : Procedure) : Type 0 where
  pub at : unit_at (unit_number ps name) ps ≡ u ∷ []
  pub named : u.name ≡ name

pub numbered : (ps : List Procedure) (name : List ℕ) (u : Procedure) → find_unit ps name ≡ Some u → Numbered ps name u
numbered [] name u f = absurd cc
numbered (p ∷ ps) name u f = let r = go (name_eq p.name name) refl f (numbered ps name u) in record { at = r.0; named = r.1 }
  where
    go : (b : Bool) → name_eq p.name name ≡ b → (if b then Some p else find_unit ps name) ≡ Some u → (find_unit ps name ≡ Some u → Numbered ps name u) → (unit_at (if b then 0 else suc (unit_number ps name)) (p ∷ ps) ≡ u ∷ []) × (u.name ≡ name)
    go true e f ih = let same : p ≡ u = cc in (ap (λ v. v ∷ []) same, ap (λ (v : Procedure). v.name) (sym same) ∙ name_same p.name name e)
    go false e f ih = let r = ih f in (r.at, r.named)

-- two ends of a run are one
used_same : (f : ℕ → Outcome (Output ℤ)) (a b : ℕ) (x y : Output ℤ) (p q : ℕ) → ((k : ℕ) → a ≤ k → f k ≡ Done x p) → ((k : ℕ) → b ≤ k → f k ≡ Done y q) → p ≡ q
used_same f a b x y p q h g = let e : Done x p ≡ Done y q = sym (h (a + b) (omega arith)) ∙ g (a + b) (omega arith) in cc

module _ (ps : List Procedure) (accepted : IsAccepted ps) (free : EachUnit (λ u. marked_in u.body ≡ 0) ps) (name : List ℕ) (head : Procedure) (found : find_unit ps name ≡ Some head) where
  -- the program is its own first step
  pub fit : IsFit ps
  fit = subst IsFit (stepped_same ps free) (stepped_fit ℤ ps (sound_is_source ps accepted.written accepted.sound ℤ))

  pub kernel_is : kernel_of ps ≡ lowered_program ps
  kernel_is = ap lowered_program (stepped_same ps free)

  -- and the head becomes the lowered head
  pub unit_is : (kernel : Procedure) → find_unit (kernel_of ps) name ≡ Some kernel → kernel ≡ lowered_unit ps head
  unit_is kernel becomes = let one : Some kernel ≡ Some (lowered_unit ps head) = sym becomes ∙ ap (λ ks. find_unit ks name) kernel_is ∙ found_lowered ps ps name head found in cc

  module _ (weight : ℕ) (each : EachUnit (λ u. WeighsAtMost weight u.body) ps) (input : List (Slot ℤ)) (k used : ℕ) (output : Output ℤ) (done : run_unit words ps head input [] None k ≡ Done output used) (kernel : Procedure) (becomes : find_unit (kernel_of ps) name ≡ Some kernel) where
    -- the kernel's run is done
    pub record KernelDone : Type 0 where
      pub enough : ℕ
      pub spent : ℕ
      pub gives : Output ℤ
      pub is : run_unit words (kernel_of ps) kernel input [] None enough ≡ Done gives spent

    pub kernel_done : KernelDone
    kernel_done =
        let d = (lowered_means words (record { shows = λ z. refl }) ps fit weight each name head found input [] None).done k used output done in
        let least : d.ends.enough ≤ d.ends.enough = omega arith in
        record { enough = d.ends.enough; spent = d.ends.used; gives = d.other; is = (λ i. run_unit words (kernel_is i) (unit_is kernel becomes i) input [] None d.ends.enough) ∙ d.ends.runs d.ends.enough least }

    -- with each statement of it paid at its weight it takes no more than nine times the weight for each statement
    pub weighed_few : (w : slots.Ends words (padded_program own_nodes (kernel_of ps)) (padded_procedure own_nodes kernel) input) → w.used ≤ 9 * weight * used
    weighed_few w =
        let d = (weighed_means words (record { shows = λ z. refl }) ps fit weight each name head found input [] None).done k used output done in
        let same = used_same (run_unit words (padded_program own_nodes (kernel_of ps)) (padded_procedure own_nodes kernel) input [] None) w.enough d.ends.enough w.output d.other w.used d.ends.used w.runs
        (λ i le. (λ z. run_unit words (padded_program own_nodes (kernel_is z)) (padded_procedure own_nodes (unit_is kernel becomes z)) input [] None i) ∙ d.ends.runs i le) in
        let most = d.most in
        omega (arith, same, most)

pub emitted_spends : EmittedSpends
emitted_spends ps accepted free weight each name calls chains lines w kernel becomes good unsplit vars outvars qs same head kernel2 adjoint found becomes2 is_there input shadows fit alike k used output done j spent end h =
    let ks = kernel_of ps in
    let emitted = emitted_program w.marks ks (unit_number ks name) vars outvars in
    let one : Some kernel2 ≡ Some kernel = sym becomes2 ∙ becomes in
    let same_kernel : kernel2 ≡ kernel = cc in
    let n = numbered ks name kernel becomes in
    let unit = unit_is ps accepted free name head found kernel becomes in
    let dummies : kernel.dummies ≡ head.dummies = ap (λ (v : Procedure). v.dummies) unit in
    let called = adjoint_name ks kernel in
    let there_is : find_unit qs called ≡ Some adjoint = ap (λ v. find_unit qs (adjoint_name ks v)) (sym same_kernel) ∙ is_there in
    let flags : shadow_flags (w.marks.shadowed kernel.name) kernel.dummies ≡ shadow_flags (w.marks.shadowed name) head.dummies = λ i. shadow_flags (w.marks.shadowed (n.named i)) (dummies i) in
    let joined = joined_by (shadow_flags (w.marks.shadowed kernel.name) kernel.dummies) input shadows in
    let a = read_back emitted qs same called adjoint there_is joined j spent end (ap (λ f. run_unit words qs adjoint (joined_by f input shadows) [] None j) flags ∙ h) in
    let ended = kernel_done ps accepted free name head found weight each input k used output done kernel becomes in
    let chains_there : CallsAtMost ks kernel.name calls = λ i. subst (λ x. chain_within ks i x ≤ suc calls) (sym n.named) (subst (λ us. chain_within us i name ≤ suc calls) (sym (kernel_is ps accepted free name head found)) (subst (λ m. m ≤ suc calls) (sym (within_same ps i name)) (chains i))) in
    let x = emitted_costs lines w ks (unit_number ks name) vars outvars kernel n.at good unsplit calls chains_there a.unit a.found input shadows
    (ap (λ u. fits words u input) unit ∙ inputs_same words ps head input ∙ fit) alike ended.enough ended.spent ended.gives ended.is j spent a.output a.done in
    let most = x.most in
    let few = nine_each calls weight used x.weighed.used (weighed_few ps accepted free name head found weight each input k used output done kernel becomes x.weighed) in
    let as_many : length kernel.dummies ≡ length head.dummies = ap length dummies in
    omega (arith, most, few, as_many)
