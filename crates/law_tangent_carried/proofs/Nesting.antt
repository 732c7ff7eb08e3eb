-- A tangent is nested no deeper than what it is of.
use Rattle.std.proofs.Common.{ℕ, ◌≤◌, Bool, true, false, List, [], ◌∷◌, ◌++◌, map, sym, subst, arith, if◌then◌else◌}
use Rattle.std.specs.Prelude.{pos}
use Rattle.adj_tree.specs.Code.{plain, shadow, helper, lit, none, Act, assign, choose, loop, during, call, runtime, zero_array, Code, stop, step, name_eq, Procedure}
use Rattle.adj_tree.specs.Size.{act_depth, code_depth, IsNested}
use Rattle.def_meaning.specs.Append.{◌+++◌, one}
use Rattle.def_names.specs.Numbers.{Vars}
use Rattle.def_sweep.specs.Marked.{code_if, names_in}
use Rattle.def_sweep.specs.Naming.{naming}
use Rattle.def_sweep.specs.Declared.{unit_name, unmarked, unit_at}
use Rattle.def_sweep.specs.Plan.{names_of}
use Rattle.def_sweep.specs.Bindings.{bindings, actuals_in}
use Rattle.def_sweep.specs.Marking.{arrays_of}
use Rattle.def_tangent.specs.Forward.{Plan, takes_some, before_act, tangent_act, tangents}
use Rattle.def_tangent.specs.TangentOf.{before_assignment}
use Rattle.def_tangent.specs.Program.{Carried, plan_in, cleared, has_tangent, stays, made_names, names_of_unit, tangent_unit, emitted_units, emitted_for}
use Rattle.law_tangent.proofs.Straight.{AreAside}
use Rattle.law_tangent.proofs.Asides.{aside_before}
use Rattle.law_tangent_carried.specs.Emitted.{KeepsNesting}
use Rattle.law_emitted.proofs.Nesting.{below_append, renamed_depth}

-- what stands beside the text has no bodies
aside_flat : (n line : ℕ) (c : Code) → AreAside line c → code_depth c ≤ n
aside_flat n line stop h = omega arith
aside_flat n line (step l (assign x subs e) rest) h = let r = aside_flat n line rest h.1.1 in omega (arith, r)
aside_flat n line (step l (choose c a b) rest) h = absurd h.1.0
aside_flat n line (step l (loop x a b c body m) rest) h = absurd h.1.0
aside_flat n line (step l (during c body) rest) h = absurd h.1.0
aside_flat n line (step l (call name args) rest) h = absurd h.1.0
aside_flat n line (step l (runtime r) rest) h = absurd h.1.0

module _ (p : Plan) where
  before_flat : (n line : ℕ) (a : Act) → code_depth (before_act p line a) ≤ n
  before_flat n line (assign (plain x) subs e) = go (p.carried (plain x))
    where
      go : (b : Bool) → code_depth (code_if b (before_assignment p.carried x subs e line)) ≤ n
      go true = aside_flat n line (before_assignment p.carried x subs e line) (aside_before p.carried line x subs e)
      go false = omega arith
  before_flat n line (assign (shadow x) subs e) = omega arith
  before_flat n line (assign (helper r k) subs e) = omega arith
  before_flat n line (choose c a b) = omega arith
  before_flat n line (loop (plain x) first last by body m) = go (p.carried (plain x))
    where
      go : (b : Bool) → code_depth (code_if b (one line (assign (shadow x) none (lit (pos 0))))) ≤ n
      go true = omega arith
      go false = omega arith
  before_flat n line (loop (shadow x) first last by body m) = omega arith
  before_flat n line (loop (helper r k) first last by body m) = omega arith
  before_flat n line (during c body) = omega arith
  before_flat n line (call name args) = omega arith
  before_flat n line (runtime r) = omega arith

  mutual
    act_below : (n : ℕ) (a : Act) → act_depth a ≤ n → act_depth (tangent_act p a) ≤ n
    act_below n (assign x subs e) h = h
    act_below n (choose c a b) h =
        let f = list_below (code_depth a) a (omega arith) in
        let g = list_below (code_depth b) b (omega arith) in
        omega (arith, f, g, h)
    act_below n (loop x first last by body m) h = let f = list_below (code_depth body) body (omega arith) in omega (arith, f, h)
    act_below n (during c body) h = let f = list_below (code_depth body) body (omega arith) in omega (arith, f, h)
    act_below n (call name args) h = go (takes_some (p.callees name).carried (p.callees name).dummies)
      where
        go : (b : Bool) → act_depth (if b then call (p.callees name).tangent (actuals_in (bindings (p.callees name).carried (p.callees name).dummies (names_of args))) else call name args) ≤ n
        go true = omega arith
        go false = omega arith
    act_below n (runtime r) h = h

    list_below : (n : ℕ) (c : Code) → code_depth c ≤ n → code_depth (tangents p c) ≤ n
    list_below n stop h = h
    list_below n (step line a rest) h =
        let f = act_below n a (omega (arith, h)) in
        let g = list_below n rest (omega (arith, h)) in
        below_append n (before_act p line a) (step line (tangent_act p a) (tangents p rest)) (before_flat n line a) (omega (arith, f, g))

-- tangents that are cleared
cleared_flat : (n : ℕ) (arrays : Vars) (line : ℕ) (xs : List (List ℕ)) → code_depth (cleared arrays line xs) ≤ n
cleared_flat n arrays line [] = omega arith
cleared_flat n arrays line (x ∷ xs) = go (arrays (plain x)) (cleared_flat n arrays line xs)
  where
    go : (b : Bool) → code_depth (cleared arrays line xs) ≤ n → code_depth ((if b then one line (runtime (zero_array (shadow x))) else one line (assign (shadow x) none (lit (pos 0)))) +++ cleared arrays line xs) ≤ n
    go true ih = omega (arith, ih)
    go false ih = omega (arith, ih)

module _ (n : ℕ) (c : Carried) (ps : List Procedure) (head : Procedure) (vars : List Bool) where
  abbrev units : List (List ℕ)
  units = map unit_name ps ++ made_names c ps head.name ps

  unit_below : (u : Procedure) (at : List (List ℕ)) → code_depth u.body ≤ n → code_depth (tangent_unit c ps units u at).body ≤ n
  unit_below u at h =
      subst (λ k. k ≤ n) (sym (renamed_depth (naming (names_of_unit (c u.name) units u)) (cleared (arrays_of u) u.line at +++ tangents (plan_in c ps u.name) u.body)))
      (below_append n (cleared (arrays_of u) u.line at) (tangents (plan_in c ps u.name) u.body) (cleared_flat n (arrays_of u) u.line at) (list_below (plan_in c ps u.name) n u.body h))

  units_nested : (us : List Procedure) → IsNested n us → IsNested n (emitted_units c ps head vars us)
  units_nested [] h = tt
  units_nested (u ∷ us) h = keep (stays c ps head.name u.name) (make (has_tangent c ps head.name u.name) (units_nested us h.1))
    where
      at : List (List ℕ)
      at = if name_eq head.name u.name then names_in (c u.name) (unmarked u.dummies vars) else []

      make : (b : Bool) → IsNested n (emitted_units c ps head vars us) → IsNested n ((if b then tangent_unit c ps units u at ∷ [] else []) ++ emitted_units c ps head vars us)
      make true ih = (unit_below u at h.0, ih)
      make false ih = ih

      keep : (b : Bool) → IsNested n ((if has_tangent c ps head.name u.name then tangent_unit c ps units u at ∷ [] else []) ++ emitted_units c ps head vars us) → IsNested n ((if b then u ∷ [] else []) ++ ((if has_tangent c ps head.name u.name then tangent_unit c ps units u at ∷ [] else []) ++ emitted_units c ps head vars us))
      keep true ih = (h.0, ih)
      keep false ih = ih

-- the law
pub keeps_nesting : KeepsNesting
keeps_nesting n c ps h head vars = go (unit_at head ps)
  where
    go : (us : List Procedure) → IsNested n (emitted_for c ps vars us)
    go [] = tt
    go (u ∷ us) = units_nested n c ps u vars ps h
