-- The tangents of units follow them in the dual run, by the depth of calls.
use Rattle.std.proofs.Common.{◌≡◌, ◌≤◌, ℕ, zero, suc, Bool, true, false, List, [], ◌∷◌, map, refl, sym, ap, ◌∙◌, subst, if◌then◌else◌}
use Rattle.std.specs.Prelude.{ℤ, Some, IsTrue}
use Rattle.adj_tree.specs.Code.{Var, plain, shadow, helper, Terms, Act, assign, choose, loop, during, call, runtime, Code, stop, step, Procedure}
use Rattle.def_meaning.specs.Numbers.{words}
use Rattle.def_meaning.specs.Store.{Shape, size_of, Store}
use Rattle.def_meaning.specs.Value.{Setting}
use Rattle.def_meaning.specs.Scene.{Scene, IsMore}
use Rattle.def_meaning.specs.Run.{act, run}
use Rattle.def_meaning.specs.Written.{find_unit, handed_back}
use Rattle.def_meaning.specs.LeastSet.{Dummies}
use Rattle.def_meaning.specs.Units.{extent_in, shape_of, entry_store, calls_of}
use Rattle.law_meaning.specs.Follows.{Follows, both_more}
use Rattle.def_names.specs.Numbers.{Vars, next, behind}
use Rattle.def_names.specs.Numbering.{point_before, point_after}
use Rattle.law_sweep.specs.Pairs.{with_tangents, on_words, on_duals}
use Rattle.def_sweep.specs.Plan.{names_of, actuals_named}
use Rattle.def_sweep.specs.Callees.{nothing}
use Rattle.law_sweep.specs.Laws.{point_inside, last_point}
use Rattle.def_sweep.specs.Bindings.{bindings, actuals_in}
use Rattle.law_sweep.specs.Passing.{plainly}
use Rattle.law_sweep.proofs.Calls.{with_shadow_shapes}
use Rattle.law_sweep.proofs.CallSweeps.{names_are}
use Rattle.law_sweep.proofs.Entering.{actuals_at}
use Rattle.def_tangent.specs.Forward.{Plan, takes_some, tangent_act, tangents}
use Rattle.law_tangent.specs.Counts.{IsFew, AreFew}
use Rattle.law_tangent.specs.Bears.{SceneBears}
use Rattle.law_tangent.specs.Laws.{CalleeFlow, WayFlows, CallFlows, ActFlows, ListFlows, ActTexts, ListTexts}
use Rattle.law_tangent.specs.Units.{CallText, CallTexts, goes, plan_of, UnitFits, PlainFits}
use Rattle.law_tangent.specs.Theorem.{ShapesOf, UnitsFollow}
use Rattle.law_tangent.proofs.Bearing.{passed_bears}
use Rattle.law_tangent.proofs.Lists.{list_follows}
use Rattle.law_tangent.proofs.Entered.{shapes_of}
use Rattle.law_tangent.proofs.Calls.{tangent_call, plain_call}
use Rattle.law_meaning.proofs.Following.{follows_known}

-- ---- where nothing carries a tangent

-- the units as they are then
abbrev still_of : (List ℕ → List (List ℕ)) → List ℕ → CalleeFlow
still_of dummies name = record { callee = record { tangent = []; dummies = dummies name; carried = nothing }; entry = nothing; end = nothing }

abbrev no_flow : ℕ → Vars
no_flow p = nothing

-- where nothing has a tangent, nothing keeps one
no_way : (cut : Vars) (p q : ℕ) → WayFlows no_flow cut p q
no_way cut p q = record { varies = λ v h. absurd cc }

-- and no dummy carries one
none_takes : (ds : List (List ℕ)) → takes_some nothing ds ≡ false
none_takes [] = refl
none_takes (d ∷ ds) = none_takes ds

module _ (dummies : List ℕ → List (List ℕ)) where
  abbrev still_plan : Plan
  still_plan = record { carried = nothing; callees = λ n. (still_of dummies n).callee }

  no_call : (i : ℕ) (name : List ℕ) (given : List (List ℕ)) → CallFlows no_flow nothing i (still_of dummies name) given
  no_call i name given = record { covers = λ v h. absurd cc; enters = λ d a is h. absurd cc; leaves = λ d a is h. absurd cc; stays = λ a n h. absurd cc; carries = λ d a is h. absurd cc; entered = λ d h. absurd cc; left = λ d h. absurd cc }

  -- nothing stands before statements, and they stay
  mutual
    same_act : (a : Act) → tangent_act still_plan a ≡ a
    same_act (assign x subs e) = refl
    same_act (choose c a b) = λ i. choose c (same_code a i) (same_code b i)
    same_act (loop x first last by body m) = ap (λ z. loop x first last by z m) (same_code body)
    same_act (during c body) = ap (during c) (same_code body)
    same_act (call name args) = ap (λ t. if t then call [] (actuals_in (bindings nothing (dummies name) (names_of args))) else call name args) (none_takes (dummies name))
    same_act (runtime r) = refl

    same_code : (c : Code) → tangents still_plan c ≡ c
    same_code stop = refl
    same_code (step line (assign (plain x) subs e) rest) = ap (step line (assign (plain x) subs e)) (same_code rest)
    same_code (step line (assign (shadow x) subs e) rest) = ap (step line (assign (shadow x) subs e)) (same_code rest)
    same_code (step line (assign (helper r k) subs e) rest) = ap (step line (assign (helper r k) subs e)) (same_code rest)
    same_code (step line (choose c a b) rest) = λ i. step line (same_act (choose c a b) i) (same_code rest i)
    same_code (step line (loop (plain x) first last by body m) rest) = λ i. step line (same_act (loop (plain x) first last by body m) i) (same_code rest i)
    same_code (step line (loop (shadow x) first last by body m) rest) = λ i. step line (same_act (loop (shadow x) first last by body m) i) (same_code rest i)
    same_code (step line (loop (helper r k) first last by body m) rest) = λ i. step line (same_act (loop (helper r k) first last by body m) i) (same_code rest i)
    same_code (step line (during c body) rest) = λ i. step line (same_act (during c body) i) (same_code rest i)
    same_code (step line (call name args) rest) = λ i. step line (same_act (call name args) i) (same_code rest i)
    same_code (step line (runtime r) rest) = λ i. step line (same_act (runtime r) i) (same_code rest i)

  module _ (w : ℕ) (some : 1 ≤ w) (ps : List Procedure) (still : List ℕ → Bool) (vars : List (List ℕ)) (arrays : Vars) (handed : Dummies) where
    mutual
      no_act : (i line : ℕ) (a : Act) → ActTexts (CallTexts ps still (λ n. true) arrays dummies) vars arrays handed a → ActFlows (still_of dummies) no_flow nothing i a × IsFew w still_plan line a
      no_act i line (assign (plain x) subs e) t = (record { covers = λ v h. absurd cc; carries = λ h. absurd cc; stays = λ v h. absurd cc; goes = λ v o h. absurd cc }, some)
      no_act i line (assign (shadow x) subs e) t = absurd t
      no_act i line (assign (helper r k) subs e) t = absurd t
      no_act i line (choose c a b) t =
          let fa = no_list (point_before i) (suc i) a t.1.0 in
          let fb = no_list (point_before i) (behind (suc i) a) b t.1.1 in
          (((fa.0, no_way nothing _ _), (fb.0, no_way nothing _ _)), (fa.1, fb.1))
      no_act i line (loop (plain x) a b c body m) t =
          let fb = no_list (point_inside i) (suc i) body t.1 in
          ((record { entry = no_way _ _ _; again = no_way _ _ _; exit = no_way _ _ _ }, fb.0), (some, fb.1))
      no_act i line (loop (shadow x) a b c body m) t = absurd t
      no_act i line (loop (helper r k) a b c body m) t = absurd t
      no_act i line (during c body) t =
          let fb = no_list (point_inside i) (suc i) body t.1 in
          (((no_way nothing _ _, (no_way nothing _ _, no_way nothing _ _)), fb.0), fb.1)
      no_act i line (call name args) t = ((t.0, (t.1.0, no_call i name t.0)), tt)
      no_act i line (runtime r) t = absurd t

      no_list : (p i : ℕ) (c : Code) → ListTexts (CallTexts ps still (λ n. true) arrays dummies) vars arrays handed c → ListFlows (still_of dummies) no_flow nothing p i c × AreFew w still_plan c
      no_list p i stop t = (tt, tt)
      no_list p i (step line a rest) t =
          let fa = no_act i line a t.0 in
          let fr = no_list (point_after i) (next i a) rest t.1 in
          ((no_way nothing _ _, (fa.0, fr.0)), (fa.1, fr.1))

-- names are known by the actuals that they are
given_same : (xs ys : List (List ℕ)) → actuals_named xs ≡ actuals_named ys → xs ≡ ys
given_same xs ys e = sym (names_are xs) ∙ ap names_of e ∙ names_are ys

-- a unit's scalars are scalars in the shapes that it has
module _ (v : Procedure) (arrays : Vars) (scalars : (x : List ℕ) → arrays (plain x) ≡ false → Rattle.def_meaning.specs.Units.declared v.declarations (plain x) ≡ []) (start : Store ℤ) where
  own_scalars : (x : List ℕ) → arrays (plain x) ≡ false → size_of (shapes_of v start (plain x)) ≡ 1
  own_scalars x h = ap (λ es. size_of (shape_of (map (extent_in words start) es))) (scalars x h)

-- a scene with the store of values and tangents
abbrev from_store : Scene (ℤ × ℤ) → Store (ℤ × ℤ) → Scene (ℤ × ℤ)
from_store d z = record d { store = z }

module _ (ps qs : List Procedure) (w : ℕ) (some : 1 ≤ w) (reached called still : List ℕ → Bool) (g : List ℕ → CalleeFlow) (f : ℕ → Vars) (first entry end : List ℕ → ℕ) (vars : List ℕ → List (List ℕ)) (arrays : List ℕ → Vars)
    (units : (name : List ℕ) (v : Procedure) → find_unit ps name ≡ Some v → IsTrue (reached name) → UnitFits w ps qs reached called still g f name v (first name) (entry name) (end name) (vars name) (arrays name))
    (plains : (name : List ℕ) (v : Procedure) → find_unit ps name ≡ Some v → IsTrue (still name) → PlainFits ps qs still (λ n. (g n).callee.dummies) name v (vars name) (arrays name)) where
  abbrev dummies : List ℕ → List (List ℕ)
  dummies n = (g n).callee.dummies

  -- ---- units that stay

  abbrev StillFollows : ℕ → Type 0
  StillFollows depth =
      (name : List ℕ) (v : Procedure) → find_unit ps name ≡ Some v → IsTrue (still name) → (sh : Var → Shape) (level : ℕ) → ((x : List ℕ) → arrays name (plain x) ≡ false → size_of (sh (plain x)) ≡ 1) →
      (d : Scene (ℤ × ℤ)) (s : Scene ℤ) → SceneBears sh nothing nothing d s → (k : ℕ) → Follows (SceneBears sh nothing nothing) w 0 (run (calls_of ps depth) (on_duals (plainly sh) level) v.body d) (run (calls_of qs depth) (on_words sh level) v.body s) k

  -- what is asked of calls at a depth
  abbrev StillCalls : ℕ → Type 0
  StillCalls depth =
      (own : List ℕ) (sh : Var → Shape) (level : ℕ) → ((x : List ℕ) → arrays own (plain x) ≡ false → size_of (sh (plain x)) ≡ 1) →
      (i line : ℕ) (name : List ℕ) (given : List (List ℕ)) → CallText ps still (λ n. true) (arrays own) (dummies name) name given → (d : Scene (ℤ × ℤ)) (s : Scene ℤ) → SceneBears sh nothing nothing d s → (k : ℕ) →
      Follows (SceneBears sh nothing nothing) w 0 (calls_of ps depth (on_duals (plainly sh) level) name (actuals_named given) line d) (calls_of qs depth (on_words sh level) name (actuals_named given) line s) k

  still_by : (depth : ℕ) → StillCalls depth → StillFollows depth
  still_by depth calls name v found there sh level scalars d s b k =
      let p = plains name v found there in
      let fl = no_list dummies w some ps still (vars name) (arrays name) (handed_back ps) 0 0 v.body p.texts in
      subst (λ c. Follows (SceneBears sh nothing nothing) w 0 (run (calls_of ps depth) (on_duals (plainly sh) level) v.body d) (run (calls_of qs depth) (on_words sh level) c s) k) (same_code dummies v.body)
      (list_follows ps depth (calls_of qs depth) sh level w some (still_plan dummies) (still_of dummies) no_flow (CallTexts ps still (λ n. true) (arrays name) dummies) (vars name) (arrays name) scalars (λ o h. absurd cc)
      (λ i line n given flows t d1 s1 b1 k1.
      let is : t.0 ≡ given = given_same t.0 given (sym t.1.0) in
      subst (λ a. Follows (SceneBears sh nothing nothing) w 0 (calls_of ps depth (on_duals (plainly sh) level) n (actuals_named given) line d1) (act (calls_of qs depth) (on_words sh level) a line s1) k1) (sym (same_act dummies (call n (actuals_named given))))
      (calls name sh level scalars i line n given (subst (λ z. CallText ps still (λ n. true) (arrays name) (dummies n) n z) is t.1.1) d1 s1 b1 k1))
      0 0 v.body fl.0 p.texts fl.1 d s b k)

  still_calls : (depth : ℕ) → StillFollows depth → StillCalls (suc depth)
  still_calls depth inner own sh level scalars i line name given ct d s b k =
      let p = plains name ct.unit ct.found ct.there in
      let start = entry_store words ct.unit.dummies (actuals_at (on_words (plainly sh) level) b.values (bindings nothing (dummies name) given)) in
      subst (λ z. Follows (SceneBears sh nothing nothing) w 0 (calls_of ps (suc depth) (on_duals (plainly sh) level) name (actuals_named given) line z) (calls_of qs (suc depth) (on_words sh level) name (actuals_named given) line s) k) (ap (from_store d) (sym b.is))
      (plain_call ps qs w still (λ n. true) no_flow depth nothing (arrays own) sh level scalars (λ o h. absurd cc) i line name given (still_of dummies name) (no_call dummies i name given) ct p.same p.apart d s b.values b.tangents b.bears b.opened b.tape
      (none_takes (dummies name)) p.found (λ e h. absurd cc)
      (λ d1 s1 b1 k1. inner name ct.unit ct.found ct.there (shapes_of ct.unit start) (suc level) (own_scalars ct.unit (arrays name) p.scalars start) d1 s1 b1 k1) k)

  still_follows : (depth : ℕ) → StillFollows depth
  still_follows zero = still_by zero (λ own sh level scalars i line name given ct d s b k. both_more tt (λ j le. tt))
  still_follows (suc depth) = still_by (suc depth) (still_calls depth (still_follows depth))

  -- ---- units with tangents

  abbrev OwnFollows : ℕ → Type 0
  OwnFollows depth =
      (name : List ℕ) (v : Procedure) → find_unit ps name ≡ Some v → IsTrue (reached name) → (sh : Var → Shape) (level : ℕ) → ShapesOf (g name).callee.carried (arrays name) sh →
      (d : Scene (ℤ × ℤ)) (s : Scene ℤ) → SceneBears sh (g name).callee.carried (f (entry name)) d s → (k : ℕ) →
      Follows (SceneBears sh (g name).callee.carried (f (end name))) w 0 (run (calls_of ps depth) (on_duals (plainly sh) level) v.body d) (run (calls_of qs depth) (on_words sh level) (tangents (plan_of g name) v.body) s) k

  abbrev OwnCalls : ℕ → Type 0
  OwnCalls depth =
      (own : List ℕ) (sh : Var → Shape) (level : ℕ) → ShapesOf (g own).callee.carried (arrays own) sh →
      (i line : ℕ) (name : List ℕ) (given : List (List ℕ)) → CallFlows f (g own).callee.carried i (g name) given → CallText ps (goes g reached still) called (arrays own) (dummies name) name given →
      (d : Scene (ℤ × ℤ)) (s : Scene ℤ) → SceneBears sh (g own).callee.carried (f (point_before i)) d s → (k : ℕ) →
      Follows (SceneBears sh (g own).callee.carried (f (point_after i))) w 0 (calls_of ps depth (on_duals (plainly sh) level) name (actuals_named given) line d) (act (calls_of qs depth) (on_words sh level) (tangent_act (plan_of g own) (call name (actuals_named given))) line s) k

  own_by : (depth : ℕ) → OwnCalls depth → OwnFollows depth
  own_by depth calls name v found there sh level shapes d s b k =
      let u = units name v found there in
      let on = (g name).callee.carried in
      let last = last_point (entry name) (first name) v.body in
      follows_known w 0 (SceneBears sh on (f last)) (SceneBears sh on (f (end name))) (run (calls_of ps depth) (on_duals (plainly sh) level) v.body d) (run (calls_of qs depth) (on_words sh level) (tangents (plan_of g name) v.body) s) k
      (list_follows ps depth (calls_of qs depth) sh level w some (plan_of g name) g f (CallTexts ps (goes g reached still) called (arrays name) dummies) (vars name) (arrays name) shapes.scalars shapes.carried
      (λ i line n given flows t d1 s1 b1 k1.
      let is : t.0 ≡ given = given_same t.0 given (sym t.1.0) in
      calls name sh level shapes i line n given flows (subst (λ z. CallText ps (goes g reached still) called (arrays name) (dummies n) n z) is t.1.1) d1 s1 b1 k1)
      (entry name) (first name) v.body u.flows u.texts u.few d s b k)
      (λ d1 s1 left h r. passed_bears sh on f last (end name) u.ends d1 s1 r)

  -- the call of a unit, by whether one of its dummies carries a tangent
  own_calls : (depth : ℕ) → OwnFollows depth → OwnCalls (suc depth)
  own_calls depth inner own sh level shapes i line name given flows ct d s b k =
      subst (λ z. Follows After w 0 (calls_of ps (suc depth) nd name (actuals_named given) line z) (act (calls_of qs (suc depth)) nw (tangent_act (plan_of g own) (call name (actuals_named given))) line s) k) (ap (from_store d) (sym b.is))
      (go (takes_some gn.callee.carried gn.callee.dummies) refl ct.there)
    where
      nd : Setting (ℤ × ℤ)
      nd = on_duals (plainly sh) level

      nw : Setting ℤ
      nw = on_words sh level

      gn : CalleeFlow
      gn = g name

      After : Scene (ℤ × ℤ) → Scene ℤ → Type 0
      After = SceneBears sh (g own).callee.carried (f (point_after i))

      start : Store ℤ
      start = entry_store words ct.unit.dummies (actuals_at (on_words (plainly sh) level) b.values (bindings nothing (dummies name) given))

      carried_shapes : (x : List ℕ) → gn.callee.carried (plain x) ≡ true → with_shadow_shapes gn.callee.carried (shapes_of ct.unit start) (shadow x) ≡ shapes_of ct.unit start (plain x)
      carried_shapes x h = ap (λ t. if t then shapes_of ct.unit start (plain x) else Rattle.def_meaning.specs.Store.scalar) h

      go : (t : Bool) → takes_some gn.callee.carried gn.callee.dummies ≡ t → (if t then reached name else still name) ≡ true → Follows After w 0 (calls_of ps (suc depth) nd name (actuals_named given) line (from_store d (with_tangents b.values b.tangents)))
          (act (calls_of qs (suc depth)) nw (if t then call gn.callee.tangent (actuals_in (bindings gn.callee.carried gn.callee.dummies (names_of (actuals_named given)))) else call name (actuals_named given)) line s) k
      go true e there =
          let u = units name ct.unit ct.found there in
          subst (λ z. Follows After w 0 (calls_of ps (suc depth) nd name (actuals_named given) line (from_store d (with_tangents b.values b.tangents))) (calls_of qs (suc depth) nw gn.callee.tangent (actuals_in (bindings gn.callee.carried gn.callee.dummies z)) line s) k) (sym (names_are given))
          (tangent_call ps qs w (goes g reached still) called f depth (g own).callee.carried (arrays own) sh level shapes.scalars shapes.carried i line name given gn flows ct u.dummies u.apart d s b.values b.tangents b.bears b.opened b.tape
          (tangents (plan_of g name) ct.unit.body) (u.tangent ct.calls) (f (entry name)) (f (end name)) (λ x h. u.begins x h) (λ x h. u.finishes x h) flows.left
          (λ d1 s1 b1 k1. inner name ct.unit ct.found there (with_shadow_shapes gn.callee.carried (shapes_of ct.unit start)) (suc level) (record { scalars = own_scalars ct.unit (arrays name) u.scalars start; carried = carried_shapes }) d1 s1 b1 k1) k)
      go false e there =
          let p = plains name ct.unit ct.found there in
          plain_call ps qs w (goes g reached still) called f depth (g own).callee.carried (arrays own) sh level shapes.scalars shapes.carried i line name given gn flows ct p.same p.apart d s b.values b.tangents b.bears b.opened b.tape
          e p.found flows.left
          (λ d1 s1 b1 k1. still_follows depth name ct.unit ct.found there (shapes_of ct.unit start) (suc level) (own_scalars ct.unit (arrays name) p.scalars start) d1 s1 b1 k1) k

  no_more : (own : List ℕ) (name : List ℕ) (args : Terms) (level line : ℕ) (sh : Var → Shape) (s : Scene ℤ) (j : ℕ) → IsMore (act (calls_of qs zero) (on_words sh level) (tangent_act (plan_of g own) (call name args)) line s j)
  no_more own name args level line sh s j = go (takes_some (g name).callee.carried (g name).callee.dummies)
    where
      go : (t : Bool) → IsMore (act (calls_of qs zero) (on_words sh level) (if t then call (g name).callee.tangent (actuals_in (bindings (g name).callee.carried (g name).callee.dummies (names_of args))) else call name args) line s j)
      go true = tt
      go false = tt

  pub own_follows : (depth : ℕ) → OwnFollows depth
  own_follows zero = own_by zero (λ own sh level shapes i line name given flows ct d s b k. both_more tt (λ j le. no_more own name (actuals_named given) level line sh s j))
  own_follows (suc depth) = own_by (suc depth) (own_calls depth (own_follows depth))

-- the law
pub units_follow : UnitsFollow
units_follow ps qs w some reached called still g f first entry end vars arrays units plains depth name v found there sh level shapes d s b k = own_follows ps qs w some reached called still g f first entry end vars arrays units plains depth name v found there sh level shapes d s b k
