-- A call as the run of the unit's body: with what is handed in, and handed back.
use Rattle.std.proofs.Common.{◌≡◌, ℕ, suc, Bool, List, [], ◌∷◌, map, refl, ap, ◌∙◌, if◌then◌else◌}
use Rattle.std.specs.Prelude.{ℤ, length, Some, None, ◌==◌, ◌||◌, ◌&&◌}
use Rattle.adj_tree.specs.Code.{Var, plain, shadow, helper, Procedure}
use Rattle.def_meaning.specs.Trap.{shape_trap, schedule_trap}
use Rattle.def_meaning.specs.Numbers.{words, duals}
use Rattle.def_meaning.specs.Store.{Shape, Store}
use Rattle.def_meaning.specs.Value.{Setting}
use Rattle.def_meaning.specs.Scene.{Scene, stand, Outcome, Done, Trapped, then_do, with_value}
use Rattle.def_meaning.specs.Run.{run}
use Rattle.def_meaning.specs.Written.{find_unit, handed_back}
use Rattle.def_meaning.specs.Units.{Actual, declared, extent_in, extents_of, shape_of, shape_fits, entry_store, dummies_fit, copied_out, setting_in, entered, unit_run, call_in, calls_of}
use Rattle.law_sweep.specs.Pairs.{Words, with_tangents, on_words, on_duals}
use Rattle.def_sweep.specs.Bindings.{Bindings, actuals_in}
use Rattle.law_sweep.specs.Passing.{plainly}
use Rattle.law_sweep.proofs.Calls.{with_shadow_shapes, shadow_undeclared, helper_undeclared, extents_dual}
use Rattle.law_sweep.proofs.Entering.{actuals_at, actuals_are}

-- ---- the form of a call

module _ {C : Type 0} (units : List Procedure) (depth : ℕ) (n : Setting C) (name : List ℕ) (u : Procedure) (found : find_unit units name ≡ Some u) (bs : Bindings) (line : ℕ) (s : Scene C) where
  abbrev pub got : List (Actual C)
  got = actuals_at n s.store bs

  abbrev pub entry_of : Store C
  entry_of = entry_store n.numbers u.dummies got

  abbrev pub within : Setting C
  within = setting_in n u entry_of

  abbrev pub begin : Scene C
  begin = entered n u (record s { store = entry_of })

  abbrev pub body : ℕ → Outcome (Scene C)
  body = run (calls_of units depth) within u.body begin

  abbrev pub close : Scene C → ℕ → Outcome (Scene C)
  close s1 j = if s1.opened == 0 then Done s1 j else Trapped schedule_trap line (stand n s1)

  abbrev pub back : Scene C → ℕ → Outcome (Scene C)
  back s1 j = Done (record s { store = copied_out u.dummies (handed_back units name) got s1.store s.store; tape = s1.tape; events = s1.events }) j

  pub call_form : (k : ℕ) → calls_of units (suc depth) n name (actuals_in bs) line s k ≡ (if dummies_fit n.numbers u entry_of u.dummies got then then_do (then_do (body k) close) back else Trapped shape_trap line (stand n s))
  call_form k =
      ap (λ o. call_in (calls_of units depth) n (handed_back units name) o (actuals_in bs) line s k) found
      ∙ ap (λ g. with_value g line (stand n s) (λ got. if dummies_fit n.numbers u (entry_store n.numbers u.dummies got) u.dummies got then then_do (unit_run (calls_of units depth) n u line (record s { store = entry_store n.numbers u.dummies got }) k) (λ s1 j. Done (record s { store = copied_out u.dummies (handed_back units name) got s1.store s.store; tape = s1.tape; events = s1.events }) j) else Trapped shape_trap line (stand n s))) (actuals_are n s.store bs)

-- ---- the dual run's entry

-- the dummies fit in the dual run where they fit in its values
pub fit_dual : (u : Procedure) (sh : Var → Shape) (level : ℕ) (s s0 : Store ℤ) (y y0 : Words) (ds : List (List ℕ)) (bs : Bindings) → dummies_fit duals u (with_tangents s y) ds (actuals_at (on_duals sh level) (with_tangents s0 y0) bs) ≡ dummies_fit words u s ds (actuals_at (on_words sh level) s0 bs)
fit_dual u sh level s s0 y y0 [] bs = refl
fit_dual u sh level s s0 y y0 (d ∷ ds) [] = refl
fit_dual u sh level s s0 y y0 (d ∷ ds) (b ∷ bs) =
    λ i. (length (declared u.declarations (plain d)) == 0 || shape_fits (extents_dual u s y (plain d) i) (sh b.1)) && fit_dual u sh level s s0 y y0 ds bs i

module _ (v : Procedure) (start : Store ℤ) where
  -- the shapes of the unit's variables
  abbrev pub shapes_of : Var → Shape
  shapes_of x = shape_of (extents_of words v start x)

  shape_plain : (x : Var) → shapes_of x ≡ plainly shapes_of x
  shape_plain (plain x) = refl
  shape_plain (shadow x) = ap (λ es. shape_of (map (extent_in words start) es)) (shadow_undeclared x v.declarations)
  shape_plain (helper r k) = ap (λ es. shape_of (map (extent_in words start) es)) (helper_undeclared r k v.declarations)

  -- in the dual run it runs in the shapes of the text's variables alone
  pub inside_duals : (sh : Var → Shape) (level : ℕ) (y : Words) → setting_in (on_duals sh level) v (with_tangents start y) ≡ on_duals (plainly shapes_of) (suc level)
  inside_duals sh level y = λ i. record { numbers = duals; shape = λ x. (ap shape_of (extents_dual v start y x) ∙ shape_plain x) i; room = None; level = suc level }

  -- which are those of its tangent's
  pub inside_shadows : (c : Var → Bool) (sh : Var → Shape) (level : ℕ) (y : Words) → setting_in (on_duals sh level) v (with_tangents start y) ≡ on_duals (plainly (with_shadow_shapes c shapes_of)) (suc level)
  inside_shadows c sh level y = inside_duals sh level y ∙ (λ i. record { numbers = duals; shape = λ x. same x i; room = None; level = suc level })
    where
      same : (x : Var) → plainly shapes_of x ≡ plainly (with_shadow_shapes c shapes_of) x
      same (plain x) = refl
      same (shadow x) = refl
      same (helper r k) = refl
