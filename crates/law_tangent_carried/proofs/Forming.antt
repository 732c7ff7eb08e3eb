-- The tangent of a list is formed as written code is, where the tangents of carried variables stand, and the helpers that it uses.
use Rattle.std.proofs.Common.{◌≡◌, ℕ, ◌<◌, ◌≤◌, ◌^◌, Bool, true, false, List, [], ◌∷◌, refl, arith, if◌then◌else◌}
use Rattle.std.specs.Prelude.{pos, ◌&&◌, Option, Some, None}
use Rattle.adj_tree.specs.Code.{Var, plain, shadow, helper, work, temp, lit, Terms, none, Act, assign, choose, loop, during, call, runtime, zero_array, Code, stop, step}
use Rattle.def_text.specs.Written.{IsName}
use Rattle.def_meaning.specs.Append.{◌+++◌, one}
use Rattle.def_names.specs.Standing as standing
use Rattle.def_names.specs.Reserved.{is_runtime}
use Rattle.def_names.specs.Numbers.{Vars}
use Rattle.def_sweep.specs.Marked.{code_if}
use Rattle.def_sweep.specs.Occurrences.{is_active_where}
use Rattle.def_sweep.specs.AdjointOf.{temps_in_where}
use Rattle.def_sweep.specs.Plan.{names_of}
use Rattle.def_sweep.specs.Bindings.{bindings, actuals_in}
use Rattle.law_emitted.proofs.Lists.{Each}
use Rattle.law_emitted.specs.Shadowed.{AreCarried}
use Rattle.law_emitted.proofs.Over.{OverActuals, OverCode, OverAct, Any, over_append, place_other, names_stand}
use Rattle.def_tangent.specs.TangentOf.{parts_in_where, before_assignment}
use Rattle.def_tangent.specs.Forward.{Plan, takes_some, before_act, tangent_act, tangents}
use Rattle.def_tangent.specs.Program.{parts_act, parts_used, temps_act, temps_used, cleared}
use Rattle.law_tangent_carried.proofs.Formed.{before_over}

-- what the tangents of calls take: the name of a tangent, and actuals that carry what their dummies do; and C holds of each CALL, as it is then
abbrev mutual
  pub TakesAct : (List ℕ → Terms → Type 0) → Plan → Act → Type 0
  TakesAct C p (assign x subs e) = Unit {0}
  TakesAct C p (choose c a b) = Takes C p a × Takes C p b
  TakesAct C p (loop x a b c body m) = Takes C p body
  TakesAct C p (during c body) = Takes C p body
  TakesAct C p (call name args) =
      let g = p.callees name in
      (takes_some g.carried g.dummies ≡ true → IsName g.tangent × ((is_runtime g.tangent ≡ false) × (AreCarried g.carried p.carried g.dummies (names_of args) × C g.tangent (actuals_in (bindings g.carried g.dummies (names_of args))))))
      × (takes_some g.carried g.dummies ≡ false → C name args)
  TakesAct C p (runtime r) = Unit {0}

  pub Takes : (List ℕ → Terms → Type 0) → Plan → Code → Type 0
  Takes C p stop = Unit {0}
  Takes C p (step line a rest) = TakesAct C p a × Takes C p rest

module _ (Q : Var → Option ℕ → Type 0) (A : Var → Type 0) (C : List ℕ → Terms → Type 0) (p : Plan) (works temps : ℕ) (work_stands : (k : ℕ) → 1 ≤ k → k ≤ works → Q (helper work k) (Some 0)) (temp_stands : (j : ℕ) → 1 ≤ j → j ≤ temps → Q (helper temp j) (Some 0))
    (shadow_stands : (x : List ℕ) (n : ℕ) → p.carried (plain x) ≡ true → Q (plain x) (Some n) → Q (shadow x) (Some n)) (whole_stands : (x : List ℕ) → p.carried (plain x) ≡ true → Q (plain x) None → Q (shadow x) None) where
  -- each actual, followed by its tangent where its dummy carries one
  bound_over : (on : Vars) (ds given : List (List ℕ)) → AreCarried on p.carried ds given → Each (λ a. Q (plain a) None) given → OverActuals Q A (actuals_in (bindings on ds given))
  bound_over on [] given h e = tt
  bound_over on (d ∷ ds) [] h e = tt
  bound_over on (d ∷ ds) (a ∷ given) h e = go (on (plain d)) refl (bound_over on ds given h.1 e.1)
    where
      go : (b : Bool) → on (plain d) ≡ b → OverActuals Q A (actuals_in (bindings on ds given)) → OverActuals Q A (actuals_in (if b then (plain d, plain a) ∷ (shadow d, shadow a) ∷ bindings on ds given else (plain d, plain a) ∷ bindings on ds given))
      go true k ih = (e.0, (whole_stands a (h.0 k) e.0, ih))
      go false k ih = (e.0, ih)

  before_is : (line : ℕ) (a : Act) → OverAct Q A Any a → parts_act p.carried a ≤ works → temps_act p.carried a ≤ temps → OverCode Q A C (before_act p line a)
  before_is line (assign (plain x) subs e) o parts temps_ = go (p.carried (plain x)) refl parts temps_
    where
      least : (b : Bool) → (if b then temps_in_where p.carried e else 0) ≤ temps → b ≡ true → temps_in_where p.carried e ≤ temps
      least true h t = h
      least false h t = absurd cc

      go : (b : Bool) → p.carried (plain x) ≡ b → (if b then parts_in_where p.carried e else 0) ≤ works → (if b && is_active_where p.carried e then temps_in_where p.carried e else 0) ≤ temps → OverCode Q A C (code_if b (before_assignment p.carried x subs e line))
      go true c h g = before_over p.carried Q A C works temps work_stands temp_stands shadow_stands x subs e line (place_other Q A (plain x) (shadow x) subs (λ q. shadow_stands x (standing.count_of subs) c q) o.0) o.1 h (least (is_active_where p.carried e) g)
      go false c h g = tt
  before_is line (assign (shadow x) subs e) o parts temps_ = tt
  before_is line (assign (helper r k) subs e) o parts temps_ = tt
  before_is line (choose c a b) o parts temps_ = tt
  before_is line (loop (plain x) first last by body m) o parts temps_ = go (p.carried (plain x)) refl
    where
      zero_word : 0 < 2 ^ 63
      zero_word = omega arith

      go : (b : Bool) → p.carried (plain x) ≡ b → OverCode Q A C (code_if b (one line (assign (shadow x) none (lit (pos 0)))))
      go true c = ((shadow_stands x 0 c o.0, zero_word), tt)
      go false c = tt
  before_is line (loop (shadow x) first last by body m) o parts temps_ = tt
  before_is line (loop (helper r k) first last by body m) o parts temps_ = tt
  before_is line (during c body) o parts temps_ = tt
  before_is line (call name args) o parts temps_ = tt
  before_is line (runtime r) o parts temps_ = tt

  mutual
    act_over : (a : Act) → OverAct Q A Any a → TakesAct C p a → parts_act p.carried a ≤ works → temps_act p.carried a ≤ temps → OverAct Q A C (tangent_act p a)
    act_over (assign x subs e) o t h g = o
    act_over (choose c a b) o t h g = (o.0, (list_over a o.1.0 t.0 (omega (arith, h)) (omega (arith, g)), list_over b o.1.1 t.1 (omega (arith, h)) (omega (arith, g))))
    act_over (loop x first last by body m) o t h g = (o.0, (o.1.0, (o.1.1.0, (o.1.1.1.0, (list_over body o.1.1.1.1.0 t h g, o.1.1.1.1.1)))))
    act_over (during c body) o t h g = (o.0, list_over body o.1 t h g)
    act_over (call name args) o t h g = go (takes_some (p.callees name).carried (p.callees name).dummies) t.0 t.1
      where
        go : (b : Bool) → (b ≡ true → IsName (p.callees name).tangent × ((is_runtime (p.callees name).tangent ≡ false) × (AreCarried (p.callees name).carried p.carried (p.callees name).dummies (names_of args) × C (p.callees name).tangent (actuals_in (bindings (p.callees name).carried (p.callees name).dummies (names_of args)))))) → (b ≡ false → C name args) →
            OverAct Q A C (if b then call (p.callees name).tangent (actuals_in (bindings (p.callees name).carried (p.callees name).dummies (names_of args))) else call name args)
        go true u w = let v = u refl in (v.0, (bound_over (p.callees name).carried (p.callees name).dummies (names_of args) v.1.1.0 (names_stand Q A args o.1.0), (v.1.0, v.1.1.1)))
        go false u w = (o.0, (o.1.0, (o.1.1.0, w refl)))
    act_over (runtime r) o t h g = o

    pub list_over : (c : Code) → OverCode Q A Any c → Takes C p c → parts_used p.carried c ≤ works → temps_used p.carried c ≤ temps → OverCode Q A C (tangents p c)
    list_over stop o t h g = tt
    list_over (step line a rest) o t h g =
        over_append Q A C (before_act p line a) (step line (tangent_act p a) (tangents p rest)) (before_is line a o.0 (omega (arith, h)) (omega (arith, g)))
        (act_over a o.0 t.0 (omega (arith, h)) (omega (arith, g)), list_over rest o.1 t.1 (omega (arith, h)) (omega (arith, g)))

  -- tangents that are cleared
  pub cleared_over : (arrays : Vars) (line : ℕ) (xs : List (List ℕ)) → ((x : List ℕ) → arrays (plain x) ≡ true → p.carried (plain x) ≡ true → A (shadow x)) → ((x : List ℕ) → arrays (plain x) ≡ false → Q (plain x) None → Q (plain x) (Some 0)) → Each (λ x. Q (plain x) None × (p.carried (plain x) ≡ true)) xs → OverCode Q A C (cleared arrays line xs)
  cleared_over arrays line [] whole scalar e = tt
  cleared_over arrays line (x ∷ xs) whole scalar e = go (arrays (plain x)) refl (cleared_over arrays line xs whole scalar e.1)
    where
      zero_word : 0 < 2 ^ 63
      zero_word = omega arith

      go : (b : Bool) → arrays (plain x) ≡ b → OverCode Q A C (cleared arrays line xs) → OverCode Q A C ((if b then one line (runtime (zero_array (shadow x))) else one line (assign (shadow x) none (lit (pos 0)))) +++ cleared arrays line xs)
      go true k ih = ((whole_stands x e.0.1 e.0.0, whole x k e.0.1), ih)
      go false k ih = ((shadow_stands x 0 e.0.1 (scalar x k e.0.0), zero_word), ih)
