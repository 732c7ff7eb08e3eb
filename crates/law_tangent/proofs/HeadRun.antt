-- The run of the head's tangent from its input, beside the head's dual run.
use Rattle.std.proofs.Common.{◌≡◌, ◌≤◌, ℕ, suc, ◌+◌, ◌-◌, ◌*◌, Bool, true, false, List, [], ◌++◌, map, length, refl, sym, ap, ◌∙◌, subst, arith, if◌then◌else◌}
use Rattle.std.specs.Prelude.{ℤ, pos, ◌==◌, None}
use Rattle.adj_tree.specs.Code.{Var, plain, shadow, helper, var_eq, Code, Procedure}
use Rattle.def_meaning.specs.Append.{◌+++◌}
use Rattle.def_meaning.specs.Trap.{Trap, schedule_trap}
use Rattle.def_meaning.specs.Numbers.{words, duals}
use Rattle.def_meaning.specs.Store.{Shape, scalar, size_of, Store}
use Rattle.def_meaning.specs.Value.{Setting}
use Rattle.def_meaning.specs.Scene.{Scene, Stand, stand, Outcome, Done, Trapped, More, Full, IsMore, then_do}
use Rattle.def_meaning.specs.Run.{run}
use Rattle.def_meaning.specs.Written.{find_unit}
use Rattle.def_meaning.specs.Seen.{pulled, pulled_setting, pulled_scene, slot_seen}
use Rattle.def_meaning.specs.Units.{Slot, Output, extent_in, extents_of, shape_of, slot_of, calls_of, input_store, fits, run_unit, from_slot}
use Rattle.law_meaning.specs.Follows.{Runs, Follows, both_more, both_done, both_trap, both_full}
use Rattle.law_meaning.proofs.Verdicts.{Verdict, goes_on, settled}
use Rattle.law_meaning.proofs.Longer.{unit_verdict, calls_alike}
use Rattle.law_meaning.proofs.Costs.{spent}
use Rattle.law_meaning.proofs.Inversions.{Halves, then_done, done_same}
use Rattle.law_meaning.proofs.Following.{follows_done, follows_trap, follows_then}
use Rattle.def_names.specs.Variables.{variables}
use Rattle.def_meaning.specs.Apart.{has_name, AreApart}
use Rattle.def_sweep.specs.Naming.{tangent_text, Named, name_in, naming, AreInside}
use Rattle.def_meaning.specs.Read.{is_extent}
use Rattle.def_names.specs.Numbers.{Vars}
use Rattle.def_sweep.specs.Marked.{names_in}
use Rattle.law_sweep.specs.Pairs.{Key, Words, with_tangents, on_words, on_duals}
use Rattle.def_sweep.specs.Declared.{unit_name, unmarked}
use Rattle.def_sweep.specs.MarkedAdjoint.{shadow_flags, joined_by}
use Rattle.def_sweep.specs.Tangents as slots
use Rattle.def_sweep.specs.Tangents.{AreAlike, IsDirection, OthersAreZero, tangents_of, with_direction}
use Rattle.law_sweep.proofs.ScalarSlots.{direction, dual_store, paired}
use Rattle.law_sweep.proofs.ScalarUnits.{outside}
use Rattle.def_names.proofs.Variables.{not_true}
use Rattle.law_sweep.specs.Passing.{plainly}
use Rattle.law_sweep.specs.Emitted.{DeclaredAlike}
use Rattle.def_sweep.specs.Plan.{Callee}
use Rattle.def_sweep.specs.Marking.{arrays_of, entry_point, end_point, first_statement}
use Rattle.law_sweep.specs.Source.{arrays_in}
use Rattle.law_sweep.proofs.Calls.{with_shadow_shapes, extents_dual, shadow_undeclared, helper_undeclared}
use Rattle.law_sweep.proofs.Variables.{variables_apart}
use Rattle.law_sweep.proofs.HeadNames.{unmarked_in, among_in, among_from, entry_other}
use Rattle.law_sweep.proofs.Rows.{rows, AreSized, others_nought, tangents_rows, cells_rows, fits_sized, sized_alike, sized_same, direction_nought}
use Rattle.law_sweep.proofs.UnitRuns.{unit_setting, output_from, begin}
use Rattle.law_sweep.proofs.Entry as entry
use Rattle.law_sweep.proofs.MadeUnits as units_made
use Rattle.law_sweep.proofs.Runs.{left_same}
use Rattle.def_tangent.specs.Forward.{tangents}
use Rattle.law_tangent.specs.Bears.{SceneBears}
use Rattle.law_tangent.specs.Theorem.{ShapesOf, HeadBears}
use Rattle.law_tangent.specs.Units.{as_shadowed, plan_of}
use Rattle.def_tangent.specs.Program.{Carried, helpers_used, names_of_unit, made_names, cleared, tangent_unit}
use Rattle.law_tangent.specs.IsTangent.{TangentDone}
use Rattle.def_tangent.specs.IsTangent.{AreAllWords, AreHandedIn, TangentTraps}
use Rattle.law_tangent.specs.Source.{TangentFits}
use Rattle.law_tangent.proofs.Made.{helpers_made, own_callee, own_code}
use Rattle.law_tangent.proofs.Pulled.{follows_named}
use Rattle.law_tangent.proofs.Head.{head_follows}
use Rattle.law_tangent.proofs.Fitting as fitting
use Rattle.law_tangent.proofs.Slots.{direction_words, direction_beyond, entry_beyond, handed_same, slots_joined, unflagged, few_among, few_unmarked}

-- a whole run that trapped had trapped in its body
trapped_before : {A O : Type 0} (o : Outcome A) (f : A → ℕ → Outcome O) → ((x : A) (k : ℕ) (t : Trap) (line : ℕ) (w : Stand) → f x k ≡ Trapped t line w → ⊥) → (t : Trap) (line : ℕ) (w : Stand) → then_do o f ≡ Trapped t line w → o ≡ Trapped t line w
trapped_before (Done x k) f n t line w h = absurd (n x k t line w h)
trapped_before (Trapped t1 l1 w1) f n t line w h =
    let et : t1 ≡ t = cc in
    let el : l1 ≡ line = cc in
    let ew : w1 ≡ w = cc in
    λ i. Trapped (et i) (el i) (ew i)
trapped_before (More v) f n t line w h = absurd cc
trapped_before (Full v) f n t line w h = absurd cc

-- a run that doesn't go on is the same with deeper calls
same_at : {B : Type 0} (f g : Runs B) (k : ℕ) → Verdict f g k → (IsMore (f k) → ⊥) → g k ≡ f k
same_at f g k (goes_on m) h = absurd (h (m k (omega arith)))
same_at f g k (settled s) h = ap g s.is ∙ s.later s.rest ∙ sym (s.same s.rest) ∙ ap f (sym s.is)

module _ (m : ℕ) (on : Carried) (varied : ℕ → Vars) (ps : List Procedure) (u : Procedure) (vars : List Bool) (good : TangentFits m on varied ps u vars) (input z : List (Slot ℤ)) (d : List (List ℤ)) (fit : fits words u input ≡ true) (alike : AreAlike input z) (dir : IsDirection vars input d) (are : AreAllWords d) (handed : AreHandedIn vars d z) where
  abbrev carried : Vars
  carried = on u.name

  abbrev at : List (List ℕ)
  at = names_in carried (unmarked u.dummies vars)

  abbrev units : List (List ℕ)
  units = map unit_name ps ++ made_names on ps u.name ps

  abbrev pub a : Procedure
  a = tangent_unit on ps units u at

  abbrev ns : List Named
  ns = names_of_unit carried units u

  abbrev qs : List Procedure
  qs = fitting.qs m on varied ps u vars good

  inside : AreInside (variables u)
  inside = let s = fitting.top m on varied ps u vars good in s.inside u.name u good.there

  extents : (e : List ℕ) → is_extent e u.declarations ≡ true → has_name e u.dummies ≡ true
  extents = let s = fitting.top m on varied ps u vars good in s.extents u.name u good.there

  apart_dummies : AreApart u.dummies
  apart_dummies = let s = fitting.top m on varied ps u vars good in s.apart u.name u good.there

  abbrev g : Callee
  g = as_shadowed (own_callee on ps units u at)

  abbrev unit_code : Code
  unit_code = own_code on ps units u at

  separates : (v w : Var) → var_eq (naming ns v) (naming ns w) ≡ var_eq v w
  separates = units_made.separates tangent_text a.name carried g units u refl (helpers_used carried u.body) (helpers_made carried u.body) unit_code (variables_apart u) inside extents

  declared_alike : DeclaredAlike u a (naming ns) g
  declared_alike = units_made.declared_alike tangent_text a.name carried g units u refl (helpers_used carried u.body) (helpers_made carried u.body) unit_code (variables_apart u) inside extents

  own_dummy : (x : List ℕ) → has_name x u.dummies ≡ true → name_in ns (plain x) ≡ x
  own_dummy = units_made.own_dummy tangent_text a.name carried g units u refl (helpers_used carried u.body) (helpers_made carried u.body) unit_code (variables_apart u) inside extents

  abbrev pub joined : List (Slot ℤ)
  joined = joined_by (shadow_flags carried u.dummies) input z

  -- ---- stores and shapes at the entry

  abbrev before : Store ℤ
  before = input_store words u input

  abbrev start : Store ℤ
  start = pulled (naming ns) (input_store words a joined)

  same_plain : (y : List ℕ) (j : ℕ) → start (plain y) j ≡ before (plain y) j
  same_plain = entry.same_plain u a ns separates g refl declared_alike own_dummy refl input z fit alike

  same_shadow : (y : List ℕ) (j : ℕ) → start (shadow y) j ≡ (if carried (plain y) then input_store words u z (plain y) j else pos 0)
  same_shadow = entry.same_shadow u a ns separates g refl declared_alike own_dummy refl input z fit alike

  abbrev sh : Var → Shape
  sh = with_shadow_shapes carried (λ y. shape_of (extents_of words u before y))

  abbrev own_setting : Setting ℤ
  own_setting = unit_setting words qs a joined

  setting_seen : pulled_setting (naming ns) own_setting ≡ on_words sh 1
  setting_seen = entry.setting_seen u a ns separates g refl declared_alike own_dummy refl input z fit alike

  shape_seen : (x : Var) → own_setting.shape (naming ns x) ≡ sh x
  shape_seen = entry.shape_seen u a ns separates g refl declared_alike own_dummy refl input z fit alike

  dummies_named : a.dummies ≡ map (name_in ns) (paired carried u.dummies)
  dummies_named = entry.dummies_named u a ns separates g refl declared_alike own_dummy refl input z fit alike

  -- the dual run begins with the values and the direction
  abbrev along : Words
  along = direction u.dummies input d

  abbrev dual_input : List (Slot (ℤ × ℤ))
  dual_input = with_direction input d

  entered_with : input_store duals u dual_input ≡ with_tangents before along
  entered_with = λ i v j. dual_store u.dummies input d dir.tangents v j i

  plain_seen : (x : Var) → shape_of (extents_of words u before x) ≡ plainly sh x
  plain_seen (plain x) = refl
  plain_seen (shadow x) = ap (λ es. shape_of (map (extent_in words before) es)) (shadow_undeclared x u.declarations)
  plain_seen (helper r k) = ap (λ es. shape_of (map (extent_in words before) es)) (helper_undeclared r k u.declarations)

  abbrev dual_setting : Setting (ℤ × ℤ)
  dual_setting = unit_setting duals ps u dual_input

  dual_shape : (x : Var) → dual_setting.shape x ≡ plainly sh x
  dual_shape x = ap (λ (s : Store (ℤ × ℤ)). shape_of (extents_of duals u s x)) entered_with ∙ ap shape_of (extents_dual u before along x) ∙ plain_seen x

  dual_setting-is : dual_setting ≡ on_duals (plainly sh) 1
  dual_setting-is = λ i. record { numbers = duals; shape = λ x. dual_shape x i; room = None; level = 1 }

  sized : AreSized sh u.dummies input
  sized = sized_same (λ x. shape_of (extents_of words u before x)) sh (λ x. refl) u.dummies input (fits_sized u before u.dummies input fit)

  sized_tangents : AreSized sh u.dummies z
  sized_tangents = sized_alike sh u.dummies input z alike sized

  -- ---- the scenes at the entry

  abbrev begin_d : Scene (ℤ × ℤ)
  begin_d = begin duals ps u dual_input

  abbrev begin_w : Scene ℤ
  begin_w = pulled_scene (naming ns) (begin words qs a joined)

  other_along : (y : List ℕ) (j : ℕ) → has_name y u.dummies ≡ false → along (y, j) ≡ pos 0
  other_along y j h = ap (λ (q : ℤ × ℤ). q.1) (entry_other duals u.dummies (map (from_slot duals) dual_input) y j h)

  along_off : (y : List ℕ) (j : ℕ) → has_name y (unmarked u.dummies vars) ≡ true → along (y, j) ≡ pos 0
  along_off y j h = direction_nought u.dummies input d vars apart_dummies dir.tangents dir.others y j (unmarked_in y u.dummies vars h) h

  -- what isn't varied at the entry isn't independent
  along_varied : (k : Key) → varied (entry_point ps u.name) (plain k.0) ≡ false → along k ≡ pos 0
  along_varied k n = go (has_name k.0 u.dummies) refl (has_name k.0 (unmarked u.dummies vars)) refl
    where
      go : (b : Bool) → has_name k.0 u.dummies ≡ b → (e : Bool) → has_name k.0 (unmarked u.dummies vars) ≡ e → along k ≡ pos 0
      go false b e h = other_along k.0 k.1 b
      go true b true e = along_off k.0 k.1 e
      go true b false e = absurd (let q : true ≡ false = sym (good.begins k.0 (b, e)) ∙ n in cc)

  -- a carried tangent that isn't cleared is the independent's
  given_same : (x : List ℕ) → carried (plain x) ≡ true → has_name x at ≡ false → (j : ℕ) → start (shadow x) j ≡ along (x, j)
  given_same x c n j =
      same_shadow x j ∙ ap (λ b. if b then input_store words u z (plain x) j else pos 0) c
      ∙ handed_same u.dummies input z d vars alike dir.tangents handed x j (not_true (has_name x (unmarked u.dummies vars)) (λ e. let q : true ≡ false = sym (among_in carried (unmarked u.dummies vars) x e c) ∙ n in cc))

  beyond_scalar : (x : List ℕ) → carried (plain x) ≡ true → arrays_of u (plain x) ≡ false → (j : ℕ) → start (shadow x) (suc j) ≡ pos 0
  beyond_scalar x c h j =
      same_shadow x (suc j) ∙ ap (λ b. if b then input_store words u z (plain x) (suc j) else pos 0) c
      ∙ entry_beyond sh u.dummies z sized_tangents x (suc j) (subst (λ n. n ≤ suc j) (sym (one_cell x h)) (omega arith))
    where
      one_cell : (x : List ℕ) → arrays_of u (plain x) ≡ false → size_of (sh (plain x)) ≡ 1
      one_cell x h = ap (λ es. size_of (shape_of (map (extent_in words before) es))) (fitting.scalars m on varied ps u vars good u.name u good.there x h)

  shapes_of : ShapesOf carried (arrays_of u) sh
  shapes_of = record {
    scalars = λ x h. ap (λ es. size_of (shape_of (map (extent_in words before) es))) (fitting.scalars m on varied ps u vars good u.name u good.there x h);
    carried = λ x h. ap (λ t. if t then sh (plain x) else scalar) h;
  }

  bears : HeadBears sh carried (arrays_of u) (varied (entry_point ps u.name)) at begin_d begin_w
  bears = record {
    values = before;
    tangents = along;
    is = entered_with;
    plains = record { at = λ x j. same_plain x j };
    words = direction_words u.dummies input d are;
    others = λ k l n. along_varied k n;
    outside = λ k l. direction_beyond sh u.dummies input d sized k.0 k.1 l;
    given = given_same;
    cleared = λ x c n j. along_off x j (among_from carried (unmarked u.dummies vars) x n);
    scalar = λ x c n h j. beyond_scalar x c h j;
    opened = refl;
    tape = (refl, refl);
  }

  -- ---- the bodies' runs

  abbrev w : ℕ
  w = 2 * m

  abbrev AtEnd : Scene (ℤ × ℤ) → Scene ℤ → Type 0
  AtEnd = SceneBears sh carried (varied (end_point ps u.name))

  abbrev End : Scene (ℤ × ℤ) → Scene ℤ → Type 0
  End d1 s1 = AtEnd d1 (pulled_scene (naming ns) s1)

  abbrev code : Code
  code = cleared (arrays_of u) u.line at +++ tangents (plan_of (fitting.g m on varied ps u vars good) u.name) u.body

  same_arrays : arrays_in (find_unit ps u.name) ≡ arrays_of u
  same_arrays = ap arrays_in good.there

  tagged_follow : (k : ℕ) → Follows AtEnd w (length at) (run (calls_of ps k) (on_duals (plainly sh) 1) u.body begin_d) (run (calls_of qs k) (on_words sh 1) code begin_w) k
  tagged_follow k =
      subst (λ (b : Vars). Follows AtEnd w (length at) (run (calls_of ps k) (on_duals (plainly sh) 1) u.body begin_d) (run (calls_of qs k) (on_words sh 1) (cleared b u.line at +++ tangents (plan_of (fitting.g m on varied ps u vars good) u.name) u.body) begin_w) k) same_arrays
      (head_follows ps qs w (let s = good.some in omega (arith, s)) (fitting.reached m on varied ps u vars good) (fitting.called m on varied ps u vars good) (fitting.still m on varied ps u vars good) (fitting.g m on varied ps u vars good) varied
      (first_statement ps) (entry_point ps) (end_point ps) (fitting.vars_of m on varied ps u vars good) (fitting.arrays m on varied ps u vars good) (fitting.unit_fits m on varied ps u vars good) (fitting.plain_fits m on varied ps u vars good)
      k u.name u good.there (fitting.head_reached m on varied ps u vars good) sh 1 (subst (λ (b : Vars). ShapesOf carried b sh) (sym same_arrays) shapes_of) at u.line begin_d begin_w
      (subst (λ (b : Vars). HeadBears sh carried b (varied (entry_point ps u.name)) at begin_d begin_w) (sym same_arrays) bears) k)

  bodies_follow : (k : ℕ) → Follows End w (length at) (run (calls_of ps k) dual_setting u.body begin_d) (run (calls_of qs k) own_setting a.body (begin words qs a joined)) k
  bodies_follow k =
      follows_named w (length at) AtEnd (naming ns) (record { at = separates }) qs k own_setting code (begin words qs a joined) (run (calls_of ps k) dual_setting u.body begin_d) k
      (subst (λ n. Follows AtEnd w (length at) (run (calls_of ps k) n u.body begin_d) (run (calls_of qs k) (pulled_setting (naming ns) own_setting) code begin_w) k) (sym dual_setting-is)
      (subst (λ n. Follows AtEnd w (length at) (run (calls_of ps k) (on_duals (plainly sh) 1) u.body begin_d) (run (calls_of qs k) n code begin_w) k) (sym setting_seen) (tagged_follow k)))

  -- ---- the units' runs

  abbrev begin_a : Scene ℤ
  begin_a = begin words qs a joined

  -- how they end after their bodies
  abbrev shut_d : Scene (ℤ × ℤ) → Runs (Scene (ℤ × ℤ))
  shut_d s j = if s.opened == 0 then Done s j else Trapped schedule_trap u.line (stand (outside duals) s)

  abbrev shut_w : Scene ℤ → Runs (Scene ℤ)
  shut_w s j = if s.opened == 0 then Done s j else Trapped schedule_trap u.line (stand (outside words) s)

  abbrev of_d : ℕ → Runs (Scene (ℤ × ℤ))
  of_d k j = then_do (run (calls_of ps k) dual_setting u.body begin_d j) shut_d

  abbrev of_w : ℕ → Runs (Scene ℤ)
  of_w k j = then_do (run (calls_of qs k) own_setting a.body begin_a j) shut_w

  abbrev slack : ℕ
  slack = length at + 0

  runs_follow : (k : ℕ) → Follows End w slack (of_d k) (of_w k) k
  runs_follow k = follows_then w (length at) 0 End End (run (calls_of ps k) dual_setting u.body begin_d) (run (calls_of qs k) own_setting a.body begin_a) shut_d shut_w k (bodies_follow k) (λ d1 s1 j le r. shuts d1 s1 j r)
    where
      shuts : (d1 : Scene (ℤ × ℤ)) (s1 : Scene ℤ) (j : ℕ) → End d1 s1 → Follows End w 0 (shut_d d1) (shut_w s1) j
      shuts d1 s1 j r = go (d1.opened == 0) (s1.opened == 0) (ap (λ n. n == 0) r.opened)
        where
          go : (b c : Bool) → c ≡ b → Follows End w 0 (λ i. if b then Done d1 i else Trapped schedule_trap u.line (stand (outside duals) d1)) (λ i. if c then Done s1 i else Trapped schedule_trap u.line (stand (outside words) s1)) j
          go true true e = follows_done w 0 End d1 s1 j r
          go true false e = absurd cc
          go false true e = absurd cc
          go false false e = follows_trap w 0 End schedule_trap schedule_trap u.line (stand (outside duals) d1) (stand (outside words) s1) j

  deeper : (k n : ℕ) → k ≤ n → (j : ℕ) → Verdict (of_w k) (of_w n) j
  deeper k n le j = unit_verdict (calls_of qs k) (calls_of qs n) (calls_alike qs k n le) (outside words) a a.line (record { store = input_store words a joined; tape = []; opened = 0; events = [] }) j

  -- what they give
  abbrev out_d : Scene (ℤ × ℤ) → Output (ℤ × ℤ)
  out_d s = output_from duals ps u dual_input s

  abbrev out_w : Scene ℤ → Output ℤ
  out_w s = output_from words qs a joined s

  abbrev flags : List Bool
  flags = shadow_flags carried u.dummies

  few : length at ≤ length u.dummies
  few = omega (arith, few_among carried (unmarked u.dummies vars), few_unmarked u.dummies vars)

  -- ---- where the dual run is done

  module _ (d1 : Scene (ℤ × ℤ)) (s1 : Scene ℤ) (r : End d1 s1) where
    slots_are : (out_w s1).slots ≡ joined_by flags (map (slot_seen (λ c. c.0)) (out_d d1).slots) (map (slot_seen (λ c. c.1)) (out_d d1).slots)
    slots_are =
        ap (λ ds. map (λ e. slot_of (own_setting.shape (plain e)) (s1.store (plain e))) ds) dummies_named
        ∙ slots_joined own_setting.shape dual_setting.shape carried s1.store d1.store ns u.dummies
        (λ x. shape_seen (plain x) ∙ sym (dual_shape (plain x)))
        (λ x c. shape_seen (shadow x) ∙ ap (λ b. if b then sh (plain x) else scalar) c ∙ sym (dual_shape (plain x)))
        (λ x j. r.bears.plains.at x j ∙ sym (ap (λ (t : Store (ℤ × ℤ)). (t (plain x) j).0) r.is))
        (λ x j c. r.bears.tangents x j c ∙ sym (ap (λ (t : Store (ℤ × ℤ)). (t (plain x) j).1) r.is))

    not_varied : (y : List ℕ) → carried (plain y) ≡ false → varied (end_point ps u.name) (plain y) ≡ false
    not_varied y c =
        let o = good.units u.name u good.there (fitting.head_reached m on varied ps u vars good) in
        not_true (varied (end_point ps u.name) (plain y)) (λ e. let q : true ≡ false = sym (o.leaves (plain y) e) ∙ c in cc)

    others_are : OthersAreZero flags (tangents_of (slots.cells_of (out_d d1).slots))
    others_are =
        subst (OthersAreZero flags)
        (sym (ap tangents_of (cells_rows sh dual_setting.shape d1.store u.dummies (λ x. dual_shape (plain x))) ∙ tangents_rows sh (λ x. d1.store (plain x)) u.dummies ∙ ap (λ (t : Store (ℤ × ℤ)). rows sh (λ x j. (t (plain x) j).1) u.dummies) r.is))
        (others_nought sh u.dummies flags r.tangents (λ y j h l. r.bears.others (y, j) l (not_varied y (unflagged carried u.dummies y h))))

  pub tangent_done : (k used : ℕ) (out : Output (ℤ × ℤ)) → run_unit duals ps u dual_input [] None k ≡ Done out used → TangentDone w flags qs a joined out used (length u.dummies)
  tangent_done k used out h = go (runs_follow k)
    where
      p : Halves (of_d k k) (λ s left. Done (out_d s) (k - left)) out used
      p = then_done (of_d k k) (λ s left. Done (out_d s) (k - left)) out used h

      go : Follows End w slack (of_d k) (of_w k) k → TangentDone w flags qs a joined out used (length u.dummies)
      go (both_more e n) = absurd (subst IsMore p.first e)
      go (both_trap t) = absurd (let z : Trapped t.kind t.line t.stands ≡ Done p.scene p.left = sym t.done ∙ p.first in cc)
      go (both_full t) = absurd (let z : Full t.stands ≡ Done p.scene p.left = sym t.done ∙ p.first in cc)
      go (both_done b) =
          let first_is : b.first ≡ p.scene = done_same b.first p.scene b.left p.left (sym b.done ∙ p.first) in
          let left_is : b.left ≡ p.left = left_same b.first p.scene b.left p.left (sym b.done ∙ p.first) in
          let out_is : out_d b.first ≡ out = ap out_d first_is ∙ done_same (out_d p.scene) out (k - p.left) used p.second in
          let used_is : k - p.left ≡ used = left_same (out_d p.scene) out (k - p.left) used p.second in
          let spent_is : b.spent ≡ used = omega (arith, b.is, left_is, used_is) in
          let most : b.cost ≤ w * b.spent + length u.dummies = omega (arith, b.most, few) in
          record {
            enough = k + b.cost;
            output = out_w b.second;
            spent = b.cost;
            runs = λ n le.
                let s = spent (of_w k) (of_w n) b.second (b.cost + 0) 0 (deeper k n (omega arith) (b.cost + 0)) (b.by 0) in
                let e : n ≡ s.cost + (n - b.cost) = omega (arith, s.is) in
                let c : n - (n - b.cost) ≡ b.cost = omega arith in
                ap (λ x. then_do x (λ s left. Done (out_w s) (n - left))) (ap (of_w n) e ∙ s.later (n - b.cost)) ∙ ap (Done (out_w b.second)) c;
            slots = subst (λ (o : Output (ℤ × ℤ)). (out_w b.second).slots ≡ joined_by flags (map (slot_seen (λ c. c.0)) o.slots) (map (slot_seen (λ c. c.1)) o.slots)) out_is (slots_are b.first b.second b.related);
            others = subst (λ (o : Output (ℤ × ℤ)). OthersAreZero flags (tangents_of (slots.cells_of o.slots))) out_is (others_are b.first b.second b.related);
            tape = (let r = b.related in r.tape.1);
            cost = subst (λ n. b.cost ≤ w * n + length u.dummies) spent_is most;
          }

  -- ---- where it traps

  pub tangent_traps : (k line : ℕ) (t : Trap) (x : Stand) → run_unit duals ps u dual_input [] None k ≡ Trapped t line x → TangentTraps qs a joined line
  tangent_traps k line t x h = go (runs_follow k)
    where
      p : of_d k k ≡ Trapped t line x
      p = trapped_before (of_d k k) (λ s left. Done (out_d s) (k - left)) (λ s l t1 l1 w1 e. cc) t line x h

      go : Follows End w slack (of_d k) (of_w k) k → TangentTraps qs a joined line
      go (both_more e n) = absurd (subst IsMore p e)
      go (both_done b) = absurd (let z : Done b.first b.left ≡ Trapped t line x = sym b.done ∙ p in cc)
      go (both_full b) = absurd (let z : Full b.stands ≡ Trapped t line x = sym b.done ∙ p in cc)
      go (both_trap b) =
          let z : Trapped b.kind b.line b.stands ≡ Trapped t line x = sym b.done ∙ p in
          let line_is : b.line ≡ line = cc in
          record {
            enough = k + b.cost;
            kind = b.other;
            stands = b.stands_there;
            runs = λ n le.
                let e : n ≡ b.cost + (n - b.cost) = omega arith in
                let at_k : of_w k n ≡ Trapped b.other b.line b.stands_there = ap (of_w k) e ∙ b.by (n - b.cost) in
                let at_n : of_w n n ≡ Trapped b.other b.line b.stands_there = same_at (of_w k) (of_w n) n (deeper k n (omega arith) n) (λ e. subst IsMore at_k e) ∙ at_k in
                ap (λ x. then_do x (λ s left. Done (out_w s) (n - left))) at_n ∙ ap (λ l. Trapped b.other l b.stands_there) line_is;
          }
