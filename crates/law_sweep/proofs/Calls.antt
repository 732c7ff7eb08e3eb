-- A call whose unit is transposed by its own sweeps: what the call does.
use Rattle.std.proofs.Common.{◌≡◌, ◌<◌, ℕ, suc, Bool, true, false, List, [], ◌∷◌, map, refl, sym, ap, ◌∙◌, subst, if◌then◌else◌}
use Rattle.std.specs.Prelude.{ℤ, pos, length, ◌&&◌, ◌||◌, ◌==◌, Option, Some, None}
use Rattle.adj_tree.specs.Code.{Role, Var, plain, shadow, helper, Code, stop, Extent, fixed, given, Declaration, Procedure}
use Rattle.adj_word.specs.Pairing.{IsApart}
use Rattle.def_meaning.specs.Numbers.{words, duals}
use Rattle.def_meaning.specs.Append.{◌+++◌}
use Rattle.def_meaning.specs.Store.{Shape, size_of, scalar, Store}
use Rattle.def_meaning.specs.Value.{Setting}
use Rattle.def_meaning.specs.Scene.{Scene, Done}
use Rattle.def_meaning.specs.Written.{find_unit, is_written, writes, handed_back}
use Rattle.def_meaning.specs.Rename.{rename}
use Rattle.def_meaning.specs.Seen.{Separates, pulled_setting}
use Rattle.def_meaning.specs.Units.{declared, extent_in, extents_of, shape_of, shape_fits, entry_store, dummies_fit, setting_in, dummy_shapes, calls_of}
use Rattle.def_meaning.proofs.EntriesSeen.{own_names}
use Rattle.law_meaning.proofs.SeenCalls.{code_same}
use Rattle.def_names.specs.Numbers.{Vars}
use Rattle.def_sweep.specs.Facts.{In}
use Rattle.def_meaning.specs.Apart.{AreApart}
use Rattle.law_sweep.specs.Pairs.{Key, key_eq, Words, with_tangents, on_words, on_duals}
use Rattle.law_sweep.specs.Scenes.{Course}
use Rattle.def_sweep.specs.Plan.{beside, IsActual, actuals_named, found_or, writes_actual}
use Rattle.def_sweep.specs.Callees.{nothing, CalleeFacts}
use Rattle.def_sweep.specs.Bindings.{Bindings, bindings, actuals_in}
use Rattle.law_sweep.specs.Passing.{passed_in, passed_out, plainly}
use Rattle.law_sweep.specs.Runs.{Passes, SameOn, SameOff}
use Rattle.law_sweep.proofs.Passing.{in_plain, out_plain}
use Rattle.law_sweep.specs.Emitted.{AreNamed, name_of}
use Rattle.law_sweep.proofs.Entering.{writes_as, actuals_at, entry, entry_pulled, kept_at, CallPasses, call_passes, CallDone, call_done}
use Rattle.law_sweep.proofs.Transposed.{Transposed}
use Rattle.law_sweep.proofs.CallTangents.{tangents_in, tangents_out, shadows_out}
use Rattle.law_sweep.specs.Kernel.{AsMany}
use Rattle.law_sweep.proofs.CallDuals.{actuals_bound, dual_in, dual_out}
use Rattle.law_sweep.proofs.CallAdjoints.{AdjointCalled, adjoint_called}
use Rattle.law_sweep.proofs.CallSweeps.{PlainCalled, CallTransposed}
use Rattle.law_sweep.proofs.Handing.{CellsMeet}
use Rattle.law_sweep.specs.Steps.{ActualsAgree}
use Rattle.def_sweep.specs.Reversals.{ReversedLines}

-- the shapes in a unit's adjoint: those of its variables, and of their shadows
abbrev pub with_shadow_shapes : Vars → (Var → Shape) → Var → Shape
with_shadow_shapes shadowed sh (plain x) = sh (plain x)
with_shadow_shapes shadowed sh (shadow x) = if shadowed (plain x) then sh (plain x) else scalar
with_shadow_shapes shadowed sh (helper r k) = scalar

-- ---- a unit's names are its own

pub own_named : (ds actuals : List (List ℕ)) → AsMany ds actuals → AreNamed (λ x. x) ds (bindings nothing ds actuals)
own_named [] [] h = tt
own_named [] (a ∷ actuals) h = absurd h
own_named (d ∷ ds) [] h = absurd h
own_named (d ∷ ds) (a ∷ actuals) h = (refl, own_named ds actuals h)

-- what isn't of the text has no extents
pub shadow_undeclared : (x : List ℕ) (ds : List Declaration) → declared ds (shadow x) ≡ []
shadow_undeclared x [] = refl
shadow_undeclared x (d ∷ ds) = shadow_undeclared x ds

pub helper_undeclared : (r : Role) (k : ℕ) (ds : List Declaration) → declared ds (helper r k) ≡ []
helper_undeclared r k [] = refl
helper_undeclared r k (d ∷ ds) = helper_undeclared r k ds

-- ---- the dual run's entry

-- extents look at words alone
pub extents_dual : (u : Procedure) (s : Store ℤ) (y : Words) (x : Var) → extents_of duals u (with_tangents s y) x ≡ extents_of words u s x
extents_dual u s y x = go (declared u.declarations x)
  where
    go : (es : List Extent) → map (extent_in duals (with_tangents s y)) es ≡ map (extent_in words s) es
    go [] = refl
    go (fixed z ∷ es) = ap (λ l. z ∷ l) (go es)
    go (given d ∷ es) = ap (λ l. s (plain d) 0 ∷ l) (go es)

fit_dual : (u : Procedure) (sh : Var → Shape) (level : ℕ) (s s0 : Store ℤ) (y y0 : Words) (ds : List (List ℕ)) (bs : Bindings) → dummies_fit duals u (with_tangents s y) ds (actuals_at (on_duals sh level) (with_tangents s0 y0) bs) ≡ dummies_fit words u s ds (actuals_at (on_words sh level) s0 bs)
fit_dual u sh level s s0 y y0 [] bs = refl
fit_dual u sh level s s0 y y0 (d ∷ ds) [] = refl
fit_dual u sh level s s0 y y0 (d ∷ ds) (b ∷ bs) =
    λ i. (length (declared u.declarations (plain d)) == 0 || shape_fits (extents_dual u s y (plain d) i) (sh b.1)) && fit_dual u sh level s s0 y y0 ds bs i

-- ---- the call

-- the adjoint of a unit is in the emitted program, as its sweeps under names of its own
pub record AdjointThere (ps qs : List Procedure) (v : Procedure) (g : CalleeFacts) (F B : Code) : Type 0 where
  pub unit : Procedure
  pub found : find_unit qs g.callee.adjoint ≡ Some unit
  pub naming : Var → Var
  pub separates : Separates naming
  pub plainly_named : (x : Var) → naming x ≡ plain (name_of (naming x))
  pub body : unit.body ≡ rename naming (F +++ (B +++ stop))
  pub named : (actuals : List (List ℕ)) → AsMany g.callee.dummies actuals → AreNamed naming unit.dummies (bindings g.callee.shadowed g.callee.dummies actuals)
  -- it is entered with fitting arrays, and the shapes of its variables are those that the unit has in the program
  pub enters : (sh : Var → Shape) (level : ℕ) (actuals : List (List ℕ)) (u f : Store ℤ) → AsMany g.callee.dummies actuals → ((d a : List ℕ) → IsActual g.callee.dummies actuals d a → In (plain d) g.callee.shadowed → sh (shadow a) ≡ sh (plain a)) → ActualsAgree sh g.callee actuals g.callee.members u f →
      let start = entry_store words v.dummies (actuals_at (on_words (plainly sh) level) u (bindings nothing g.callee.dummies actuals)) in
      let bs = bindings g.callee.shadowed g.callee.dummies actuals in
      let there = entry_store words unit.dummies (actuals_at (on_words sh level) f bs) in
      dummies_fit words v start v.dummies (actuals_at (on_words (plainly sh) level) u (bindings nothing g.callee.dummies actuals)) ≡ true →
      (dummies_fit words unit there unit.dummies (actuals_at (on_words sh level) f bs) ≡ true)
      × (pulled_setting naming (setting_in (on_words sh level) unit there) ≡ on_words (with_shadow_shapes g.callee.shadowed (λ x. shape_of (extents_of words v start x))) (suc level))

module _ (ps qs : List Procedure) (depth : ℕ) (sh : Var → Shape) (level : ℕ) (xs : List Key) (apart_xs : IsApart key_eq xs) (present present' : Bool) (name : List ℕ) (v : Procedure) (found : find_unit ps name ≡ Some v) (g : CalleeFacts) (dummies : v.dummies ≡ g.callee.dummies) (wrote : (d : List ℕ) → g.callee.written (plain d) ≡ is_written ps v d) (actuals : List (List ℕ)) (members : (d a : List ℕ) → IsActual g.callee.dummies actuals d a → In (plain d) (g.facts.needed g.entry) → In (plain d) g.callee.members) (many : AsMany g.callee.dummies actuals) (apart : AreApart g.callee.dummies) (apart' : AreApart actuals) (shadow_shapes : (d a : List ℕ) → IsActual g.callee.dummies actuals d a → In (plain d) g.callee.shadowed → sh (shadow a) ≡ sh (plain a)) (F B : Code) where
  abbrev ds : List (List ℕ)
  ds = g.callee.dummies

  abbrev bs0 : Bindings
  bs0 = bindings nothing ds actuals

  abbrev at_call : Setting ℤ
  at_call = on_words (plainly sh) level

  abbrev named0 : AreNamed (λ x. x) v.dummies bs0
  named0 = subst (λ l. AreNamed (λ x. x) l bs0) (sym dummies) (own_named ds actuals many)

  module _ (kept adjointed : Bool) (line k k' : ℕ) (s s' : Scene ℤ) (done : calls_of ps (suc depth) at_call name (actuals_named actuals) line s k ≡ Done s' k') where
    abbrev u : Store ℤ
    u = s.store

    abbrev pub start : Store ℤ
    start = entry ps depth at_call name v found (λ x. x) own_names bs0 named0 u

    pub called : CallDone ps depth at_call name v found (λ x. x) own_names bs0 named0 u line k k' s s'
    called = call_done ps depth at_call name v found (λ x. x) own_names bs0 named0 u line k k' s s' refl (ap (λ es. calls_of ps (suc depth) at_call name es line s k) (actuals_bound ds actuals many) ∙ done)

    start_is : start ≡ passed_in (pos 0) bs0 u
    start_is = entry_pulled at_call (λ x. x) own_names v.dummies bs0 u named0

    -- the shapes in the unit, with those of shadows
    abbrev pub shG : Var → Shape
    shG = with_shadow_shapes g.callee.shadowed (λ x. shape_of (extents_of words v start x))

    shape_is : (x : Var) → shape_of (extents_of words v start x) ≡ plainly shG x
    shape_is (plain x) = refl
    shape_is (shadow x) = ap (λ es. shape_of (map (extent_in words start) es)) (shadow_undeclared x v.declarations)
    shape_is (helper r k) = ap (λ es. shape_of (map (extent_in words start) es)) (helper_undeclared r k v.declarations)

    -- so the unit is run in these shapes
    pub inside_words : setting_in at_call v start ≡ on_words (plainly shG) (suc level)
    inside_words = λ i. record { numbers = words; shape = λ x. shape_is x i; room = None; level = suc level }

    inside_duals : (y : Words) → setting_in (on_duals (plainly sh) level) v (with_tangents start y) ≡ on_duals (plainly shG) (suc level)
    inside_duals y = λ i. record { numbers = duals; shape = λ x. (ap shape_of (extents_dual v start y x) ∙ shape_is x) i; room = None; level = suc level }

    module _ (ys : List Key) (apart_ys : IsApart key_eq ys) (meet : CellsMeet g.callee actuals xs ys) (sizes : (d a : List ℕ) → IsActual ds actuals d a → size_of (sh (plain a)) ≡ size_of (shG (plain d))) (inert : Bool) (inert_is : g.plain_unit ≡ true → inert ≡ true)
        (lines : ReversedLines) (inner : Transposed (calls_of qs depth) lines (calls_of ps depth) shG (suc level) ys g.facts 0 present' (λ x. writes (handed_back ps) x v.body) inert g.entry g.end v.body F B start called.end.store) where
      end_is : s'.store ≡ passed_out (writes_as ps v (λ x. x)) bs0 called.end.store u
      end_is = called.store

      unwritten_dummy : (d : List ℕ) → g.callee.written (plain d) ≡ false → (y : Words) (j : ℕ) → (inner.derivative y (d, j) ≡ y (d, j)) × (inner.change y (d, j) ≡ y (d, j))
      unwritten_dummy d h y j = inner.unwritten (d, j) (sym (wrote d) ∙ h) y

      -- ---- the dual run

      module _ (home : Course) (y : Words) (t : List (ℤ × ℤ)) where
        abbrev nd : Setting (ℤ × ℤ)
        nd = on_duals (plainly sh) level

        abbrev yi : Words
        yi = tangents_in nothing ds actuals y

        abbrev start_d : Store (ℤ × ℤ)
        start_d = entry ps depth nd name v found (λ x. x) own_names bs0 named0 (with_tangents u y)

        passed_is : (let z : ℤ × ℤ = (pos 0, pos 0) in passed_in z bs0 (with_tangents u y) ≡ with_tangents start yi)
        passed_is = dual_in ds actuals u y ∙ ap (λ (f : Store ℤ). with_tangents f yi) (sym start_is)

        start_d-is : start_d ≡ with_tangents start yi
        start_d-is = entry_pulled nd (λ x. x) own_names v.dummies bs0 (with_tangents u y) named0 ∙ passed_is

        fits_d : dummies_fit duals v start_d v.dummies (actuals_at nd (with_tangents u y) bs0) ≡ true
        fits_d = ap (λ (f : Store (ℤ × ℤ)). dummies_fit duals v f v.dummies (actuals_at nd (with_tangents u y) bs0)) start_d-is ∙ fit_dual v (plainly sh) level start u yi y v.dummies bs0 ∙ called.fit

        body_d : Passes lines (calls_of ps depth) (setting_in nd v start_d) v.body (kept_at nd v (dummy_shapes (setting_in nd v start_d) v) home t) (let z : ℤ × ℤ = (pos 0, pos 0) in passed_in z bs0 (with_tangents u y)) (with_tangents called.end.store (inner.derivative yi)) t inner.loops
        body_d =
            subst (λ (f : Store (ℤ × ℤ)). Passes lines (calls_of ps depth) (setting_in nd v f) v.body (kept_at nd v (dummy_shapes (setting_in nd v start_d) v) home t) (let z : ℤ × ℤ = (pos 0, pos 0) in passed_in z bs0 (with_tangents u y)) (with_tangents called.end.store (inner.derivative yi)) t inner.loops) (sym start_d-is)
            (subst (λ n. Passes lines (calls_of ps depth) n v.body (kept_at nd v (dummy_shapes (setting_in nd v start_d) v) home t) (let z : ℤ × ℤ = (pos 0, pos 0) in passed_in z bs0 (with_tangents u y)) (with_tangents called.end.store (inner.derivative yi)) t inner.loops) (sym (inside_duals yi))
            (subst (λ (f : Store (ℤ × ℤ)). Passes lines (calls_of ps depth) (on_duals (plainly shG) (suc level)) v.body (kept_at nd v (dummy_shapes (setting_in nd v start_d) v) home t) f (with_tangents called.end.store (inner.derivative yi)) t inner.loops) (sym passed_is)
            (inner.dual (kept_at nd v (dummy_shapes (setting_in nd v start_d) v) home t) yi t)))

        pub dual_call : CallPasses lines (calls_of ps (suc depth)) nd name (actuals_named actuals) line home (with_tangents u y) (with_tangents s'.store (tangents_out nothing ds actuals inner.derivative y)) t inner.loops (map (λ d. shG (plain d)) ds)
        dual_call =
            subst (CallPasses lines (calls_of ps (suc depth)) nd name (actuals_named actuals) line home (with_tangents u y) (with_tangents s'.store (tangents_out nothing ds actuals inner.derivative y)) t inner.loops) entry_shapes
            (subst (λ es. CallPasses lines (calls_of ps (suc depth)) nd name es line home (with_tangents u y) (with_tangents s'.store (tangents_out nothing ds actuals inner.derivative y)) t inner.loops (dummy_shapes (setting_in nd v start_d) v)) (actuals_bound ds actuals many)
            (subst (λ (f : Store (ℤ × ℤ)). CallPasses lines (calls_of ps (suc depth)) nd name (actuals_in bs0) line home (with_tangents u y) f t inner.loops (dummy_shapes (setting_in nd v start_d) v))
            (dual_out ds actuals u y (writes_as ps v (λ x. x)) called.end.store inner.derivative apart apart' (λ d h j. (inner.unwritten (d, j) h yi).0)
            ∙ ap (λ (f : Store ℤ). with_tangents f (tangents_out nothing ds actuals inner.derivative y)) (sym end_is))
            (call_passes ps depth nd name v found (λ x. x) own_names bs0 named0 (with_tangents u y) lines inner.loops v.body (sym (code_same v.body)) line home t (with_tangents called.end.store (inner.derivative yi)) fits_d body_d)))
          where
            entry_shapes : dummy_shapes (setting_in nd v start_d) v ≡ map (λ d. shG (plain d)) ds
            entry_shapes = ap (λ (f : Store (ℤ × ℤ)). dummy_shapes (setting_in nd v f) v) start_d-is ∙ ap (λ (n : Setting (ℤ × ℤ)). dummy_shapes n v) (inside_duals yi) ∙ ap (map (λ d. shG (plain d))) dummies

      -- ---- the call of the adjoint

      call_off : SameOff (writes_actual g.callee actuals) u s'.store
      call_off = record { at = λ x j h. ap (λ (f : Store ℤ). f (plain x) j) end_is ∙ out_plain (writes_as ps v (λ x. x)) nothing called.end.store x j ds actuals apart' u ∙ go x j (beside actuals ds x) h }
        where
          go : (x : List ℕ) (j : ℕ) (o : Option (List ℕ)) → found_or o false (λ d. g.callee.written (plain d)) ≡ false → found_or o (u (plain x) j) (λ d. if is_written ps v d then called.end.store (plain d) j else u (plain x) j) ≡ u (plain x) j
          go x j None h = refl
          go x j (Some d) h = rw (sym (wrote d) ∙ h) refl

      -- the adjoint unit begins with the values that it needs
      agrees : (f : Store ℤ) → ActualsAgree sh g.callee actuals g.callee.members u f → SameOn shG (g.facts.needed g.entry) start (passed_in (pos 0) (bindings g.callee.shadowed ds actuals) f)
      agrees f a = record {
        at = λ x j l h.
            in_plain (pos 0) g.callee.shadowed f ds actuals x j ∙ go x j l h (beside ds actuals x) refl
            ∙ sym (ap (λ (z : Store ℤ). z (plain x) j) start_is ∙ in_plain (pos 0) nothing u ds actuals x j);
      }
        where
          go : (x : List ℕ) (j : ℕ) → j < size_of (shG (plain x)) → In (plain x) (g.facts.needed g.entry) → (o : Option (List ℕ)) → beside ds actuals x ≡ o → found_or o (pos 0) (λ a. f (plain a) j) ≡ found_or o (pos 0) (λ a. u (plain a) j)
          go x j l h None b = refl
          go x j l h (Some y) b = a.at x y b (members x y b h) j (subst (λ n. j < n) (sym (sizes x y b)) l)

      module _
          (reach : present ≡ true → adjointed ≡ true → present' ≡ true)
          (there : present ≡ true → adjointed ≡ true → AdjointThere ps qs v g F B)
          (again : present ≡ true → kept ≡ true → (base : Course) (f : Store ℤ) (t : List ℤ) → ActualsAgree sh g.callee actuals g.read u f → PlainCalled (calls_of qs (suc depth)) sh level g.callee actuals name line base u s'.store f t) where
        back : present ≡ true → adjointed ≡ true → (base : Course) (f : Store ℤ) (t : List ℤ) → ActualsAgree sh g.callee actuals g.callee.members u f → AdjointCalled (calls_of qs (suc depth)) sh level xs g.callee actuals line base f t (shadows_out g.callee.shadowed ds actuals inner.change) inner.loops
        back e ea base f t a =
            let h = there e ea in
            let n = h.enters sh level actuals u f many shadow_shapes a called.fit in
            adjoint_called qs depth sh level xs apart_xs g.callee actuals apart apart' h.unit h.found h.naming h.separates h.plainly_named (h.named actuals many) F B h.body shG ys apart_ys meet base f t line n.0 n.1 many sizes
            (g.facts.needed g.entry) (g.facts.needed g.end) (g.facts.held g.entry) (g.facts.held g.end) (λ x. writes (handed_back ps) x v.body) (λ d. sym (wrote d)) start called.end.store inner.change inner.loops (inner.sweeps (reach e ea)) (agrees f a)

        pub call_transposed : CallTransposed (calls_of qs (suc depth)) lines (calls_of ps (suc depth)) sh level xs g actuals name line kept adjointed present u s'.store
        call_transposed = record {
          derivative = inner.derivative;
          change = inner.change;
          shapes = shG;
          sizes = sizes;
          tangents = inner.matches;
          unwritten = unwritten_dummy;
          still = λ e. inner.still (inert_is e);
          loops = inner.loops;
          none_reversed = λ e. inner.none_reversed (inert_is e);
          dual = dual_call;
          off = call_off;
          again = again;
          back = back;
        }
