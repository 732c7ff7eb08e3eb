-- A call of a unit's tangent follows the call of the unit, and so does a call of a unit without tangents.
use Rattle.std.proofs.Common.{◌≡◌, ℕ, suc, ◌+◌, Bool, true, false, List, [], ◌∷◌, refl, sym, ap, ◌∙◌, subst, if◌then◌else◌}
use Rattle.std.specs.Prelude.{ℤ, pos, length, ◌==◌, ◌||◌, ◌&&◌, Option, Some, None}
use Rattle.adj_tree.specs.Code.{Role, Var, plain, shadow, helper, name_eq, Code, Procedure}
use Rattle.adj_tree.proofs.Names.{name_same}
use Rattle.adj_word.specs.Word.{wrap}
use Rattle.adj_word.proofs.Residues.{wrap-zero}
use Rattle.def_meaning.specs.Trap.{shape_trap, schedule_trap}
use Rattle.def_meaning.specs.Numbers.{words, duals}
use Rattle.def_meaning.specs.Store.{Shape, size_of, Store}
use Rattle.def_meaning.specs.Value.{Setting}
use Rattle.def_meaning.specs.Scene.{Scene, stand, Done, Trapped, then_do}
use Rattle.def_meaning.specs.Run.{run}
use Rattle.def_meaning.specs.Written.{find_unit, is_written}
use Rattle.def_meaning.specs.Seen.{pulled, pulled_setting, pulled_scene}
use Rattle.def_meaning.specs.Units.{declared, extents_of, shape_fits, dummies_fit, entry_store, setting_in, calls_of}
use Rattle.law_meaning.specs.Follows.{Runs, Follows}
use Rattle.law_meaning.proofs.Frames.{keeps_others}
use Rattle.law_meaning.proofs.Following.{follows_done, follows_trap, follows_then}
use Rattle.def_meaning.proofs.EntriesSeen.{own_names}
use Rattle.def_names.specs.Numbers.{Vars, everything}
use Rattle.def_names.specs.Numbering.{point_before, point_after}
use Rattle.def_sweep.specs.Facts.{In}
use Rattle.def_meaning.specs.Apart.{has_name}
use Rattle.law_sweep.specs.Pairs.{Words, with_tangents, on_words, on_duals}
use Rattle.def_names.proofs.Variables.{not_true, or_false}
use Rattle.def_sweep.specs.Plan.{beside, found_or, IsActual, actuals_named}
use Rattle.def_sweep.specs.Callees.{nothing}
use Rattle.def_sweep.specs.Bindings.{Bindings, bindings, actuals_in}
use Rattle.law_sweep.specs.Passing.{passed_in, plainly}
use Rattle.law_sweep.specs.Emitted.{AreNamed}
use Rattle.law_sweep.specs.Steps.{ActualsAgree}
use Rattle.law_sweep.proofs.Passing.{beside_in, beside_key, in_plain, in_shadow, in_helper}
use Rattle.law_sweep.proofs.Calls.{own_named, with_shadow_shapes}
use Rattle.law_sweep.proofs.CallDuals.{actuals_bound, dual_in}
use Rattle.law_sweep.proofs.CallTangents.{tangents_in}
use Rattle.law_sweep.proofs.Entering.{actuals_at, entry_pulled}
use Rattle.law_sweep.proofs.Declared.{fits_alike, shapes}
use Rattle.law_sweep.proofs.CallFacts.{fit_of, fit_size}
use Rattle.def_tangent.specs.Forward.{takes_some}
use Rattle.law_tangent.specs.Bears.{NoTapes, Bears, SceneBears}
use Rattle.law_tangent.specs.Laws.{CalleeFlow, CallFlows}
use Rattle.law_tangent.specs.Units.{as_shadowed, HasTangent, CallText}
use Rattle.law_tangent.proofs.Handing.{handed, handed_plain, handed_shadow, handed_none, handed_helper}
use Rattle.law_tangent.proofs.Pulled.{follows_named, follows_both_known, follows_as}
use Rattle.law_tangent.proofs.CallBears.{no_tangent, entry_bears, store_is, after_bears}
use Rattle.law_tangent.proofs.Entered.{entry_of, begin, body, close, back, call_form, fit_dual, shapes_of, inside_duals, inside_shadows}

-- where no dummy carries a tangent, none of them does
none_carried : (on : Vars) (ds : List (List ℕ)) (d : List ℕ) → takes_some on ds ≡ false → has_name d ds ≡ true → on (plain d) ≡ false
none_carried on [] d h n = absurd cc
none_carried on (e ∷ ds) d h n = go (name_eq d e) refl n (λ z. none_carried on ds d (or_false (on (plain e)) (takes_some on ds) h).1 z)
  where
    go : (b : Bool) → name_eq d e ≡ b → (b || has_name d ds) ≡ true → (has_name d ds ≡ true → on (plain d) ≡ false) → on (plain d) ≡ false
    go true m n ih = ap (λ z. on (plain z)) (name_same d e m) ∙ (or_false (on (plain e)) (takes_some on ds) h).0
    go false m n ih = ih n

-- where both runs go by one truth value, both go on or both trap
by_answer : {A B : Type 0} (w : ℕ) (R : A → B → Type 0) (b b' : Bool) → b' ≡ b → (o o1 : Runs A) (p p1 : Runs B) (k : ℕ) → (b ≡ true → Follows R w 0 o p k) → Follows R w 0 o1 p1 k → Follows R w 0 (λ j. if b then o j else o1 j) (λ j. if b' then p j else p1 j) k
by_answer w R true b' e o o1 p p1 k f g = subst (λ z. Follows R w 0 o (λ j. if z then p j else p1 j) k) (sym e) (f refl)
by_answer w R false b' e o o1 p p1 k f g = subst (λ z. Follows R w 0 o1 (λ j. if z then p j else p1 j) k) (sym e) g

module _ (ps qs : List Procedure) (w : ℕ) (reached called : List ℕ → Bool) (f : ℕ → Vars) (depth : ℕ) (on arrays : Vars) (sh : Var → Shape) (level : ℕ) (known : (o : List ℕ) → arrays (plain o) ≡ false → size_of (sh (plain o)) ≡ 1) (carried_shapes : (o : List ℕ) → on (plain o) ≡ true → sh (shadow o) ≡ sh (plain o))
    (i line : ℕ) (name : List ℕ) (given : List (List ℕ)) (g : CalleeFlow) (flows : CallFlows f on i g given) (ct : CallText ps reached called arrays g.callee.dummies name given) (dummies : ct.unit.dummies ≡ g.callee.dummies) (apart : Rattle.def_sweep.specs.Naming.AreApart g.callee.dummies)
    (d : Scene (ℤ × ℤ)) (s : Scene ℤ) (u : Store ℤ) (y : Words) (b : Bears sh on (f (point_before i)) u y s.store) (opened : s.opened ≡ d.opened) (tape : NoTapes d.tape s.tape) where
  abbrev v : Procedure
  v = ct.unit

  abbrev ds : List (List ℕ)
  ds = g.callee.dummies

  abbrev on' : Vars
  on' = g.callee.carried

  abbrev dd : Scene (ℤ × ℤ)
  dd = record d { store = with_tangents u y }

  abbrev nd : Setting (ℤ × ℤ)
  nd = on_duals (plainly sh) level

  abbrev nw : Setting ℤ
  nw = on_words sh level

  abbrev bs0 : Bindings
  bs0 = bindings nothing ds given

  named0 : AreNamed (λ x. x) v.dummies bs0
  named0 = subst (λ l. AreNamed (λ x. x) l bs0) (sym dummies) (own_named ds given ct.many)

  -- ---- the dual run's entry

  abbrev start : Store ℤ
  start = entry_store words v.dummies (actuals_at (on_words (plainly sh) level) u bs0)

  start_is : start ≡ passed_in (pos 0) bs0 u
  start_is = entry_pulled (on_words (plainly sh) level) (λ x. x) own_names v.dummies bs0 u named0

  abbrev yi : Words
  yi = tangents_in nothing ds given y

  abbrev start_d : Store (ℤ × ℤ)
  start_d = entry_of ps depth nd name v ct.found bs0 line dd

  start_d-is : start_d ≡ with_tangents start yi
  start_d-is = entry_pulled nd (λ x. x) own_names v.dummies bs0 (with_tangents u y) named0 ∙ dual_in ds given u y ∙ ap (λ (z : Store ℤ). with_tangents z yi) (sym start_is)

  abbrev begin_d : Scene (ℤ × ℤ)
  begin_d = begin ps depth nd name v ct.found bs0 line dd

  abbrev body_d : Runs (Scene (ℤ × ℤ))
  body_d = body ps depth nd name v ct.found bs0 line dd

  abbrev fit0 : Bool
  fit0 = dummies_fit words v start v.dummies (actuals_at (on_words (plainly sh) level) u bs0)

  fit_d : dummies_fit duals v start_d v.dummies (actuals_at nd (with_tangents u y) bs0) ≡ fit0
  fit_d = ap (λ (z : Store (ℤ × ℤ)). dummies_fit duals v z v.dummies (actuals_at nd (with_tangents u y) bs0)) start_d-is ∙ fit_dual v (plainly sh) level start u yi y v.dummies bs0

  abbrev own_shapes : Var → Shape
  own_shapes = shapes_of v start

  sizes : fit0 ≡ true → (e a : List ℕ) → IsActual ds given e a → size_of (sh (plain a)) ≡ size_of (own_shapes (plain e))
  sizes h e a is =
      fit_size v start (plain e) (sh (plain a)) (λ none. known a (ct.ranks e a is none))
      (fit_of v (plainly sh) level start u ds given (ap (λ l. dummies_fit words v start l (actuals_at (on_words (plainly sh) level) u bs0)) (sym dummies) ∙ h) e a is)

  -- what isn't written is as it was
  keeps_d : (d1 : Scene (ℤ × ℤ)) (k left : ℕ) → body_d k ≡ Done d1 left → (x : List ℕ) (j : ℕ) → is_written ps v x ≡ false → d1.store (plain x) j ≡ start_d (plain x) j
  keeps_d d1 k left is x j h = keeps_others ps depth (setting_in nd v start_d) v.body begin_d d1 k left is (plain x) h j

  abbrev handed_d : Scene (ℤ × ℤ) → Store (ℤ × ℤ)
  handed_d d1 = handed nd ps name v ct.found (λ x. x) own_names nothing ds given apart ct.apart named0 (with_tangents u y) d1.store

  abbrev After : Scene (ℤ × ℤ) → Scene ℤ → Type 0
  After = SceneBears sh on (f (point_after i))

  -- ---- the unit's end, and the caller after it

  -- the unit ended with these values and tangents, and the tangent with the store te; the caller's are D and W
  module _ (shG : Var → Shape) (size : (e a : List ℕ) → IsActual ds given e a → size_of (sh (plain a)) ≡ size_of (shG (plain e))) (end : Vars) (ends : (x : Var) → In x end → In x g.end) (carries_end : (e : List ℕ) → In (plain e) g.end → In (plain e) on') (d1 : Scene (ℤ × ℤ)) (s1 : Scene ℤ) (e : Store ℤ) (ye : Words) (te : Store ℤ) (is : d1.store ≡ with_tangents e ye) (ended : Bears shG on' end e ye te) (keeps : (x : List ℕ) (j : ℕ) → is_written ps v x ≡ false → d1.store (plain x) j ≡ start_d (plain x) j)
      (tapes : NoTapes d1.tape s1.tape) (W : Store ℤ) (plainW : (x : List ℕ) (j : ℕ) → W (plain x) j ≡ found_or (beside given ds x) (s.store (plain x) j) (λ c. te (plain c) j)) (shadowW : (x : List ℕ) (j : ℕ) → W (shadow x) j ≡ found_or (beside given ds x) (s.store (shadow x) j) (λ c. if on' (plain c) then te (shadow c) j else s.store (shadow x) j)) where
    plainD : (x : List ℕ) (j : ℕ) → handed_d d1 (plain x) j ≡ found_or (beside given ds x) (with_tangents u y (plain x) j) (λ c. with_tangents e ye (plain c) j)
    plainD x j =
        handed_plain nd ps name v ct.found (λ z. z) own_names nothing ds given apart ct.apart named0 (with_tangents u y) d1.store keeps x j (λ c. refl)
        ∙ ap (λ (z : Store (ℤ × ℤ)). found_or (beside given ds x) (with_tangents u y (plain x) j) (λ c. z (plain c) j)) is

    shadowD : (x : List ℕ) (j : ℕ) → (handed_d d1 (shadow x) j).1 ≡ pos 0
    shadowD x j = ap (λ a. a.1) (handed_none nd ps name v ct.found (λ z. z) own_names nothing ds given apart ct.apart named0 (with_tangents u y) d1.store (λ c. refl) x j)

    helperD : (r : Role) (k j : ℕ) → (handed_d d1 (helper r k) j).1 ≡ pos 0
    helperD r k j = ap (λ a. a.1) (handed_helper nd ps name v ct.found (λ z. z) own_names nothing ds given apart ct.apart named0 (with_tangents u y) d1.store r k j)

    abbrev us : Store ℤ
    us x j = (handed_d d1 x j).0

    abbrev ys : Words
    ys k = (handed_d d1 (plain k.0) k.1).1

    caller_bears : (d2 : Scene (ℤ × ℤ)) (s2 : Scene ℤ) → d2.store ≡ handed_d d1 → s2.store ≡ W → s2.opened ≡ d2.opened → d2.tape ≡ d1.tape → s2.tape ≡ s1.tape → After d2 s2
    caller_bears d2 s2 hd hw ho ht hs = record {
      values = us;
      tangents = ys;
      is = hd ∙ store_is sh shG on f i g given flows apart ct.apart size u y s.store b e ye te end ends ended carries_end (handed_d d1) W plainD shadowD helperD plainW shadowW;
      bears = subst (λ (z : Store ℤ). Bears sh on (f (point_after i)) us ys z) (sym hw) (after_bears sh shG on f i g given flows apart ct.apart size u y s.store b e ye te end ends ended carries_end (handed_d d1) W plainD shadowD helperD plainW shadowW);
      opened = ho;
      tape = (ht ∙ tapes.0, hs ∙ tapes.1);
    }

  -- ---- a call of the tangent

  module _ (code : Code) (h : HasTangent qs v g.callee code) (entry end : Vars) (begins : (x : Var) → In x g.entry → In x entry) (ends : (x : Var) → In x end → In x g.end) (carries_end : (e : List ℕ) → In (plain e) g.end → In (plain e) on')
      (inner : (d1 : Scene (ℤ × ℤ)) (s1 : Scene ℤ) → SceneBears (with_shadow_shapes on' own_shapes) on' entry d1 s1 → (k : ℕ) → Follows (SceneBears (with_shadow_shapes on' own_shapes) on' end) w 0 (run (calls_of ps depth) (on_duals (plainly (with_shadow_shapes on' own_shapes)) (suc level)) v.body d1) (run (calls_of qs depth) (on_words (with_shadow_shapes on' own_shapes) (suc level)) code s1) k) where
    abbrev bs : Bindings
    bs = bindings on' ds given

    abbrev shG : Var → Shape
    shG = with_shadow_shapes on' own_shapes

    named : AreNamed h.naming h.unit.dummies bs
    named = h.named given ct.many

    abbrev start_w : Store ℤ
    start_w = entry_of qs depth nw g.callee.tangent h.unit h.found bs line s

    start_w-is : pulled h.naming start_w ≡ passed_in (pos 0) bs s.store
    start_w-is = entry_pulled nw h.naming h.separates h.unit.dummies bs s.store named

    shadow_shapes : (e a : List ℕ) → IsActual ds given e a → In (plain e) on' → sh (shadow a) ≡ sh (plain a)
    shadow_shapes e a is n = carried_shapes a (flows.carries e a is n)

    agree : ActualsAgree sh (as_shadowed g.callee) given everything u s.store
    agree = record { at = λ e a is n j lt. b.plains.at a j }

    fit_w : dummies_fit words h.unit start_w h.unit.dummies (actuals_at nw s.store bs) ≡ fit0
    fit_w = fits_alike v h.unit h.naming h.separates h.plainly_named (as_shadowed g.callee) dummies h.declared (λ e n. refl) sh level given ct.many named u s.store shadow_shapes agree apart

    setting_w : pulled_setting h.naming (setting_in nw h.unit start_w) ≡ on_words shG (suc level)
    setting_w = shapes v h.unit h.naming h.separates h.plainly_named (as_shadowed g.callee) dummies h.declared (λ e n. refl) sh level given ct.many named u s.store shadow_shapes agree

    setting_d : setting_in nd v start_d ≡ on_duals (plainly shG) (suc level)
    setting_d = ap (setting_in nd v) start_d-is ∙ inside_shadows v start on' (plainly sh) level yi

    abbrev begin_w : Scene ℤ
    begin_w = begin qs depth nw g.callee.tangent h.unit h.found bs line s

    abbrev body_w : Runs (Scene ℤ)
    body_w = body qs depth nw g.callee.tangent h.unit h.found bs line s

    begin_bears : fit0 ≡ true → SceneBears shG on' entry begin_d (pulled_scene h.naming begin_w)
    begin_bears ok = record {
      values = start;
      tangents = yi;
      is = start_d-is;
      bears = subst (λ z. Bears shG on' entry z yi (pulled h.naming start_w)) (sym start_is) (subst (λ z. Bears shG on' entry (passed_in (pos 0) bs0 u) yi z) (sym start_w-is) (entry_bears sh shG on f i g given flows apart ct.apart (sizes ok) u y s.store b entry begins));
      opened = refl;
      tape = tape;
    }

    abbrev End : Scene (ℤ × ℤ) → Scene ℤ → Type 0
    End d1 s1 = SceneBears shG on' end d1 (pulled_scene h.naming s1)

    -- with what is kept
    abbrev Kept : Scene (ℤ × ℤ) → Scene ℤ → Type 0
    Kept d1 s1 = End d1 s1 × (((x : List ℕ) (j : ℕ) → is_written ps v x ≡ false → d1.store (plain x) j ≡ start_d (plain x) j) × ((x : List ℕ) (j : ℕ) → is_written qs h.unit x ≡ false → s1.store (plain x) j ≡ start_w (plain x) j))

    bodies : fit0 ≡ true → (k : ℕ) → Follows End w 0 body_d body_w k
    bodies ok k =
        subst (λ c. Follows End w 0 body_d (run (calls_of qs depth) (setting_in nw h.unit start_w) c begin_w) k) (sym h.body)
        (follows_named w 0 (SceneBears shG on' end) h.naming h.separates qs depth (setting_in nw h.unit start_w) code begin_w body_d k
        (subst (λ n. Follows (SceneBears shG on' end) w 0 (run (calls_of ps depth) n v.body begin_d) (run (calls_of qs depth) (pulled_setting h.naming (setting_in nw h.unit start_w)) code (pulled_scene h.naming begin_w)) k) (sym setting_d)
        (subst (λ n. Follows (SceneBears shG on' end) w 0 (run (calls_of ps depth) (on_duals (plainly shG) (suc level)) v.body begin_d) (run (calls_of qs depth) n code (pulled_scene h.naming begin_w)) k) (sym setting_w)
        (inner begin_d (pulled_scene h.naming begin_w) (begin_bears ok) k))))

    keeping : fit0 ≡ true → (k : ℕ) → Follows Kept w 0 body_d body_w k
    keeping ok k =
        follows_both_known w 0 End Kept body_d body_w k (bodies ok k)
        (λ d1 s1 left cost is is' r. (r, (keeps_d d1 k left is, λ x j n. keeps_others qs depth (setting_in nw h.unit start_w) h.unit.body begin_w s1 (cost + 0) 0 is' (plain x) n j)))

    closes : (d1 : Scene (ℤ × ℤ)) (s1 : Scene ℤ) (k : ℕ) → Kept d1 s1 → Follows Kept w 0 (close ps depth nd name v ct.found bs0 line dd d1) (close qs depth nw g.callee.tangent h.unit h.found bs line s s1) k
    closes d1 s1 k r =
        by_answer w Kept (d1.opened == 0) (s1.opened == 0) (ap (λ z. z == 0) r.0.opened) (λ j. Done d1 j) (λ j. Trapped schedule_trap line (stand nd d1)) (λ j. Done s1 j) (λ j. Trapped schedule_trap line (stand nw s1)) k
        (λ e. follows_done w 0 Kept d1 s1 k r) (follows_trap w 0 Kept schedule_trap schedule_trap line (stand nd d1) (stand nw s1) k)

    backs : fit0 ≡ true → (d1 : Scene (ℤ × ℤ)) (s1 : Scene ℤ) (k : ℕ) → Kept d1 s1 → Follows After w 0 (back ps depth nd name v ct.found bs0 line dd d1) (back qs depth nw g.callee.tangent h.unit h.found bs line s s1) k
    backs ok d1 s1 k r =
        let W = handed nw qs g.callee.tangent h.unit h.found h.naming h.separates on' ds given apart ct.apart named s.store s1.store in
        let d2 : Scene (ℤ × ℤ) = record dd { store = handed_d d1; tape = d1.tape; events = d1.events } in
        let s2 : Scene ℤ = record s { store = W; tape = s1.tape; events = s1.events } in
        follows_done w 0 After d2 s2 k
        (caller_bears shG (sizes ok) end ends carries_end d1 (pulled_scene h.naming s1) r.0.values r.0.tangents (pulled h.naming s1.store) r.0.is r.0.bears r.1.0 r.0.tape W
        (λ x j. handed_plain nw qs g.callee.tangent h.unit h.found h.naming h.separates on' ds given apart ct.apart named s.store s1.store r.1.1 x j (λ c. h.plainly_named (plain c)))
        (λ x j. handed_shadow nw qs g.callee.tangent h.unit h.found h.naming h.separates on' ds given apart ct.apart named s.store s1.store r.1.1 x j (λ c. h.plainly_named (shadow c)))
        d2 s2 refl refl opened refl refl)

    pub tangent_call : (k : ℕ) → Follows After w 0 (calls_of ps (suc depth) nd name (actuals_named given) line dd) (calls_of qs (suc depth) nw g.callee.tangent (actuals_in bs) line s) k
    tangent_call k =
        let cd = close ps depth nd name v ct.found bs0 line dd in
        let cw = close qs depth nw g.callee.tangent h.unit h.found bs line s in
        let bd = back ps depth nd name v ct.found bs0 line dd in
        let bw = back qs depth nw g.callee.tangent h.unit h.found bs line s in
        let fd = dummies_fit duals v start_d v.dummies (actuals_at nd (with_tangents u y) bs0) in
        let fw = dummies_fit words h.unit start_w h.unit.dummies (actuals_at nw s.store bs) in
        follows_as w 0 After
        (λ j. if fd then then_do (then_do (body_d j) cd) bd else Trapped shape_trap line (stand nd dd)) (calls_of ps (suc depth) nd name (actuals_named given) line dd)
        (λ j. if fw then then_do (then_do (body_w j) cw) bw else Trapped shape_trap line (stand nw s)) (calls_of qs (suc depth) nw g.callee.tangent (actuals_in bs) line s) k
        (λ j. ap (λ es. calls_of ps (suc depth) nd name es line dd j) (sym (actuals_bound ds given ct.many)) ∙ call_form ps depth nd name v ct.found bs0 line dd j)
        (λ j. call_form qs depth nw g.callee.tangent h.unit h.found bs line s j)
        (by_answer w After fd fw (fit_w ∙ sym fit_d) (λ j. then_do (then_do (body_d j) cd) bd) (λ j. Trapped shape_trap line (stand nd dd)) (λ j. then_do (then_do (body_w j) cw) bw) (λ j. Trapped shape_trap line (stand nw s)) k
        (λ e.
        let ok : fit0 ≡ true = sym fit_d ∙ e in
        follows_then w 0 0 Kept After (λ j. then_do (body_d j) cd) (λ j. then_do (body_w j) cw) bd bw k
        (follows_then w 0 0 Kept Kept body_d body_w cd cw k (keeping ok k) (λ d1 s1 j le r. closes d1 s1 j r))
        (λ d1 s1 j le r. backs ok d1 s1 j r))
        (follows_trap w 0 After shape_trap shape_trap line (stand nd dd) (stand nw s) k))

  -- ---- a call of a unit none of whose dummies carries a tangent

  -- the dummies fit alike in stores with the same shapes
  fit_shapes : (xs es as_ : List (List ℕ)) → dummies_fit words v start xs (actuals_at nw s.store (bindings nothing es as_)) ≡ dummies_fit words v start xs (actuals_at (on_words (plainly sh) level) u (bindings nothing es as_))
  fit_shapes [] es as_ = refl
  fit_shapes (x ∷ xs) [] as_ = refl
  fit_shapes (x ∷ xs) (e ∷ es) [] = refl
  fit_shapes (x ∷ xs) (e ∷ es) (a ∷ as_) = ap (λ r. (length (declared v.declarations (plain x)) == 0 || shape_fits (extents_of words v start (plain x)) (sh (plain a))) && r) (fit_shapes xs es as_)

  module _ (idle : takes_some on' ds ≡ false) (foundq : find_unit qs name ≡ Some v) (carries_end : (e : List ℕ) → In (plain e) g.end → In (plain e) on')
      (inner : (d1 : Scene (ℤ × ℤ)) (s1 : Scene ℤ) → SceneBears own_shapes nothing nothing d1 s1 → (k : ℕ) → Follows (SceneBears own_shapes nothing nothing) w 0 (run (calls_of ps depth) (on_duals (plainly own_shapes) (suc level)) v.body d1) (run (calls_of qs depth) (on_words own_shapes (suc level)) v.body s1) k) where
    abbrev plain_start : Store ℤ
    plain_start = entry_of qs depth nw name v foundq bs0 line s

    plain_start-is : plain_start ≡ start
    plain_start-is = λ i x j. at x j i
      where
        passed : plain_start ≡ passed_in (pos 0) bs0 s.store
        passed = entry_pulled nw (λ x. x) own_names v.dummies bs0 s.store named0

        same : (o : Option (List ℕ)) (j : ℕ) → found_or o (pos 0) (λ a. s.store (plain a) j) ≡ found_or o (pos 0) (λ a. u (plain a) j)
        same None j = refl
        same (Some a) j = b.plains.at a j

        at : (x : Var) (j : ℕ) → plain_start x j ≡ start x j
        at (plain x) j =
            ap (λ (z : Store ℤ). z (plain x) j) passed ∙ in_plain (pos 0) nothing s.store ds given x j ∙ same (beside ds given x) j
            ∙ sym (ap (λ (z : Store ℤ). z (plain x) j) start_is ∙ in_plain (pos 0) nothing u ds given x j)
        at (shadow x) j =
            ap (λ (z : Store ℤ). z (shadow x) j) passed ∙ in_shadow (pos 0) nothing s.store ds given x j
            ∙ sym (ap (λ (z : Store ℤ). z (shadow x) j) start_is ∙ in_shadow (pos 0) nothing u ds given x j)
        at (helper r k) j =
            ap (λ (z : Store ℤ). z (helper r k) j) passed ∙ in_helper (pos 0) nothing s.store ds given r k j
            ∙ sym (ap (λ (z : Store ℤ). z (helper r k) j) start_is ∙ in_helper (pos 0) nothing u ds given r k j)

    abbrev plain_begin : Scene ℤ
    plain_begin = begin qs depth nw name v foundq bs0 line s

    abbrev plain_body : Runs (Scene ℤ)
    plain_body = body qs depth nw name v foundq bs0 line s

    plain_fit : dummies_fit words v plain_start v.dummies (actuals_at nw s.store bs0) ≡ fit0
    plain_fit = ap (λ (z : Store ℤ). dummies_fit words v z v.dummies (actuals_at nw s.store bs0)) plain_start-is ∙ fit_shapes v.dummies ds given

    plain_setting : setting_in nw v plain_start ≡ on_words own_shapes (suc level)
    plain_setting = ap (setting_in nw v) plain_start-is

    plain_setting-dual : setting_in nd v start_d ≡ on_duals (plainly own_shapes) (suc level)
    plain_setting-dual = ap (setting_in nd v) start_d-is ∙ inside_duals v start (plainly sh) level yi

    -- no tangent is handed in
    none_in : (k : List ℕ × ℕ) → yi k ≡ pos 0
    none_in k = go (beside ds given k.0) refl
      where
        go : (o : Option (List ℕ)) → beside ds given k.0 ≡ o → found_or o (pos 0) (λ a. y (a, k.1)) ≡ pos 0
        go None e = refl
        go (Some a) e =
            let out : on' (plain k.0) ≡ false = none_carried on' ds k.0 idle (beside_key ds given k.0 a e) in
            let entry : g.entry (plain k.0) ≡ false = not_true (g.entry (plain k.0)) (λ t. let z : true ≡ false = sym (flows.entered k.0 t) ∙ out in cc) in
            no_tangent sh on (f (point_before i)) u y s.store b (a, k.1) (not_true (f (point_before i) (plain a)) (λ t. let z : true ≡ false = sym (flows.enters k.0 a e t) ∙ entry in cc))

    plain_bears : SceneBears own_shapes nothing nothing begin_d plain_begin
    plain_bears = record {
      values = start;
      tangents = yi;
      is = start_d-is;
      bears = record {
        plains = record { at = λ x j. ap (λ (z : Store ℤ). z (plain x) j) plain_start-is };
        tangents = λ x j n. absurd cc;
        words = λ k. ap wrap (none_in k) ∙ wrap-zero ∙ sym (none_in k);
        others = λ k lt n. none_in k;
        outside = λ k le. none_in k;
      };
      opened = refl;
      tape = tape;
    }

    abbrev PlainEnd : Scene (ℤ × ℤ) → Scene ℤ → Type 0
    PlainEnd = SceneBears own_shapes nothing nothing

    abbrev PlainKept : Scene (ℤ × ℤ) → Scene ℤ → Type 0
    PlainKept d1 s1 = PlainEnd d1 s1 × (((x : List ℕ) (j : ℕ) → is_written ps v x ≡ false → d1.store (plain x) j ≡ start_d (plain x) j) × ((x : List ℕ) (j : ℕ) → is_written qs v x ≡ false → s1.store (plain x) j ≡ plain_start (plain x) j))

    plain_bodies : (k : ℕ) → Follows PlainEnd w 0 body_d plain_body k
    plain_bodies k =
        subst (λ n. Follows PlainEnd w 0 (run (calls_of ps depth) n v.body begin_d) plain_body k) (sym plain_setting-dual)
        (subst (λ n. Follows PlainEnd w 0 (run (calls_of ps depth) (on_duals (plainly own_shapes) (suc level)) v.body begin_d) (run (calls_of qs depth) n v.body plain_begin) k) (sym plain_setting)
        (inner begin_d plain_begin plain_bears k))

    plain_keeping : (k : ℕ) → Follows PlainKept w 0 body_d plain_body k
    plain_keeping k =
        follows_both_known w 0 PlainEnd PlainKept body_d plain_body k (plain_bodies k)
        (λ d1 s1 left cost is is' r. (r, (keeps_d d1 k left is, λ x j n. keeps_others qs depth (setting_in nw v plain_start) v.body plain_begin s1 (cost + 0) 0 is' (plain x) n j)))

    plain_closes : (d1 : Scene (ℤ × ℤ)) (s1 : Scene ℤ) (k : ℕ) → PlainKept d1 s1 → Follows PlainKept w 0 (close ps depth nd name v ct.found bs0 line dd d1) (close qs depth nw name v foundq bs0 line s s1) k
    plain_closes d1 s1 k r =
        by_answer w PlainKept (d1.opened == 0) (s1.opened == 0) (ap (λ z. z == 0) r.0.opened) (λ j. Done d1 j) (λ j. Trapped schedule_trap line (stand nd d1)) (λ j. Done s1 j) (λ j. Trapped schedule_trap line (stand nw s1)) k
        (λ e. follows_done w 0 PlainKept d1 s1 k r) (follows_trap w 0 PlainKept schedule_trap schedule_trap line (stand nd d1) (stand nw s1) k)

    -- the unit's store, with the tangents of its end beside it
    abbrev with_ends : Store ℤ → Words → Store ℤ
    with_ends t ye (plain x) j = t (plain x) j
    with_ends t ye (shadow x) j = ye (x, j)
    with_ends t ye (helper r k) j = pos 0

    plain_backs : fit0 ≡ true → (d1 : Scene (ℤ × ℤ)) (s1 : Scene ℤ) (k : ℕ) → PlainKept d1 s1 → Follows After w 0 (back ps depth nd name v ct.found bs0 line dd d1) (back qs depth nw name v foundq bs0 line s s1) k
    plain_backs ok d1 s1 k r =
        let W = handed nw qs name v foundq (λ x. x) own_names nothing ds given apart ct.apart named0 s.store s1.store in
        let d2 : Scene (ℤ × ℤ) = record dd { store = handed_d d1; tape = d1.tape; events = d1.events } in
        let s2 : Scene ℤ = record s { store = W; tape = s1.tape; events = s1.events } in
        let te = with_ends s1.store r.0.tangents in
        let ended : Bears own_shapes on' nothing r.0.values r.0.tangents te = record { plains = record { at = λ x j. r.0.bears.plains.at x j }; tangents = λ x j n. refl; words = r.0.bears.words; others = r.0.bears.others; outside = r.0.bears.outside } in
        follows_done w 0 After d2 s2 k
        (caller_bears own_shapes (sizes ok) nothing (λ x n. absurd cc) carries_end d1 s1 r.0.values r.0.tangents te r.0.is ended r.1.0 r.0.tape W
        (λ x j. handed_plain nw qs name v foundq (λ z. z) own_names nothing ds given apart ct.apart named0 s.store s1.store r.1.1 x j (λ c. refl))
        (λ x j. handed_none nw qs name v foundq (λ z. z) own_names nothing ds given apart ct.apart named0 s.store s1.store (λ c. refl) x j ∙ sym (idle_shadow x j r.0.tangents te (beside given ds x) refl))
        d2 s2 refl refl opened refl refl)
      where
        idle_shadow : (x : List ℕ) (j : ℕ) (ye : Words) (te : Store ℤ) (o : Option (List ℕ)) → beside given ds x ≡ o → found_or o (s.store (shadow x) j) (λ c. if on' (plain c) then te (shadow c) j else s.store (shadow x) j) ≡ s.store (shadow x) j
        idle_shadow x j ye te None e = refl
        idle_shadow x j ye te (Some c) e = ap (λ t. if t then te (shadow c) j else s.store (shadow x) j) (none_carried on' ds c idle (beside_in given ds x c e))

    pub plain_call : (k : ℕ) → Follows After w 0 (calls_of ps (suc depth) nd name (actuals_named given) line dd) (calls_of qs (suc depth) nw name (actuals_named given) line s) k
    plain_call k =
        let cd = close ps depth nd name v ct.found bs0 line dd in
        let cw = close qs depth nw name v foundq bs0 line s in
        let bd = back ps depth nd name v ct.found bs0 line dd in
        let bw = back qs depth nw name v foundq bs0 line s in
        let fd = dummies_fit duals v start_d v.dummies (actuals_at nd (with_tangents u y) bs0) in
        let fw = dummies_fit words v plain_start v.dummies (actuals_at nw s.store bs0) in
        follows_as w 0 After
        (λ j. if fd then then_do (then_do (body_d j) cd) bd else Trapped shape_trap line (stand nd dd)) (calls_of ps (suc depth) nd name (actuals_named given) line dd)
        (λ j. if fw then then_do (then_do (plain_body j) cw) bw else Trapped shape_trap line (stand nw s)) (calls_of qs (suc depth) nw name (actuals_named given) line s) k
        (λ j. ap (λ es. calls_of ps (suc depth) nd name es line dd j) (sym (actuals_bound ds given ct.many)) ∙ call_form ps depth nd name v ct.found bs0 line dd j)
        (λ j. ap (λ es. calls_of qs (suc depth) nw name es line s j) (sym (actuals_bound ds given ct.many)) ∙ call_form qs depth nw name v foundq bs0 line s j)
        (by_answer w After fd fw (plain_fit ∙ sym fit_d) (λ j. then_do (then_do (body_d j) cd) bd) (λ j. Trapped shape_trap line (stand nd dd)) (λ j. then_do (then_do (plain_body j) cw) bw) (λ j. Trapped shape_trap line (stand nw s)) k
        (λ e.
        let ok : fit0 ≡ true = sym fit_d ∙ e in
        follows_then w 0 0 PlainKept After (λ j. then_do (body_d j) cd) (λ j. then_do (plain_body j) cw) bd bw k
        (follows_then w 0 0 PlainKept PlainKept body_d plain_body cd cw k (plain_keeping k) (λ d1 s1 j le r. plain_closes d1 s1 j r))
        (λ d1 s1 j le r. plain_backs ok d1 s1 j r))
        (follows_trap w 0 After shape_trap shape_trap line (stand nd dd) (stand nw s) k))
