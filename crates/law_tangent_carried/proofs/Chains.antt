-- Chains of calls in the tangent of a list are those of the list, where tangents are called in place of units.
use Rattle.std.proofs.Common.{ℕ, suc, ◌≤◌, Bool, true, false, List, [], ◌∷◌, arith, if◌then◌else◌}
use Rattle.std.specs.Prelude.{pos}
use Rattle.adj_tree.specs.Code.{plain, shadow, lit, none, zero_array, Act, assign, choose, loop, during, call, runtime, Code, stop, step}
use Rattle.def_meaning.specs.Append.{◌+++◌, one}
use Rattle.def_names.specs.Variables.{Name}
use Rattle.def_names.specs.Calls.{is_marked, act_chain, chain}
use Rattle.def_names.specs.Numbers.{Vars}
use Rattle.def_sweep.specs.Bindings.{bindings, actuals_in}
use Rattle.def_sweep.specs.Plan.{names_of}
use Rattle.def_tangent.specs.Forward.{Plan, takes_some, before_act, tangent_act, tangents}
use Rattle.def_tangent.specs.Program.{cleared}
use Rattle.law_tangent.proofs.Straight.{AreAside}
use Rattle.law_tangent_carried.proofs.Before.{before_aside}

-- the unit that the tangent of a call names
abbrev pub called : Plan → Name → Name
called p x = let h = p.callees x in if takes_some h.carried h.dummies then h.tangent else x

-- f says how long chains are from called units on
module _ (f : Name → ℕ) where
  -- what stands beside the text begins none
  ahead : (n line : ℕ) (c d : Code) → AreAside line c → chain f d ≤ n → chain f (c +++ d) ≤ n
  ahead n line stop d h g = g
  ahead n line (step l (assign x subs e) c) d h g = let r = ahead n line c d h.1.1 g in omega (arith, r)
  ahead n line (step l (choose q a b) c) d h g = absurd h.1.0
  ahead n line (step l (loop x a b s body m) c) d h g = absurd h.1.0
  ahead n line (step l (during q body) c) d h g = absurd h.1.0
  ahead n line (step l (call name args) c) d h g = absurd h.1.0
  ahead n line (step l (runtime r) c) d h g = absurd h.1.0

  module _ (p : Plan) where
    abbrev from : Name → ℕ
    from x = f (called p x)

    mutual
      tangent_act_chain : (a : Act) → act_chain f (tangent_act p a) ≤ act_chain from a
      tangent_act_chain (assign x subs e) = omega arith
      tangent_act_chain (choose c a b) = let l = tangent_chain a in let m = tangent_chain b in omega (arith, l, m)
      tangent_act_chain (loop x a b c body m) = go (is_marked m) (tangent_chain body)
        where
          go : (t : Bool) → chain f (tangents p body) ≤ chain from body → (if t then suc (chain f (tangents p body)) else chain f (tangents p body)) ≤ (if t then suc (chain from body) else chain from body)
          go true l = omega (arith, l)
          go false l = l
      tangent_act_chain (during c body) = tangent_chain body
      tangent_act_chain (call name args) = go (takes_some (p.callees name).carried (p.callees name).dummies)
        where
          go : (t : Bool) → act_chain f (if t then call (p.callees name).tangent (actuals_in (bindings (p.callees name).carried (p.callees name).dummies (names_of args))) else call name args) ≤ f (if t then (p.callees name).tangent else name)
          go true = omega arith
          go false = omega arith
      tangent_act_chain (runtime r) = omega arith

      -- so they are no longer
      pub tangent_chain : (c : Code) → chain f (tangents p c) ≤ chain (λ x. f (called p x)) c
      tangent_chain stop = omega arith
      tangent_chain (step line a rest) =
          let l = tangent_act_chain a in
          let m = tangent_chain rest in
          ahead (chain from (step line a rest)) line (before_act p line a) (step line (tangent_act p a) (tangents p rest)) (before_aside p line a) (omega (arith, l, m))

  -- nor are they where tangents are cleared first
  pub cleared_chain : (n : ℕ) (arrays : Vars) (line : ℕ) (xs : List (List ℕ)) (d : Code) → chain f d ≤ n → chain f (cleared arrays line xs +++ d) ≤ n
  cleared_chain n arrays line [] d h = h
  cleared_chain n arrays line (x ∷ xs) d h = go (arrays (plain x)) (cleared_chain n arrays line xs d h)
    where
      go : (b : Bool) → chain f (cleared arrays line xs +++ d) ≤ n → chain f (((if b then one line (runtime (zero_array (shadow x))) else one line (assign (shadow x) none (lit (pos 0)))) +++ cleared arrays line xs) +++ d) ≤ n
      go true ih = omega (arith, ih)
      go false ih = omega (arith, ih)
