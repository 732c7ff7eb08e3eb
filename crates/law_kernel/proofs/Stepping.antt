-- Statements, and what they become where the bodies of marked loops are called.
use Rattle.std.proofs.Common.{◌≡◌, ℕ, zero, suc, ◌+◌, ◌≤◌, ◌⊎◌, inl, inr, Bool, true, false, List, [], ◌∷◌, ◌++◌, map, refl, sym, ap, ◌∙◌, arith, subst}
use Rattle.std.proofs.lemmas.Bool.{or_cases}
use Rattle.std.specs.Prelude.{◌||◌, ◌&&◌, ◌==◌, length, Option, Some, None, if◌then◌else◌}
use Rattle.adj_tree.specs.Code.{Var, plain, shadow, helper, var_eq, name_eq, Term, Terms, Mark, unmarked, with_count, count_from, Act, assign, choose, loop, during, call, runtime, Code, stop, step, Procedure}
use Rattle.adj_tree.proofs.Names.{name_refl}
use Rattle.adj_word.specs.Word.{wrap, add}
use Rattle.def_meaning.specs.Append.{one}
use Rattle.def_meaning.specs.Trap.{shape_trap, schedule_trap}
use Rattle.def_meaning.specs.Numbers.{Numbers}
use Rattle.def_meaning.specs.Store.{Shape, Store, set}
use Rattle.def_meaning.specs.Value.{Setting, holds}
use Rattle.def_meaning.specs.Event.{Marked}
use Rattle.def_meaning.specs.Scene.{Scene, Stand, stand, Go, Done, Trapped, then_do, with_value, counted}
use Rattle.def_meaning.specs.Run.{Calls, act, run, most_tests, trips, turns, stepped, with_turn, from_1_to_64, in_force, after_loop}
use Rattle.def_meaning.specs.Read.{names_extent}
use Rattle.def_meaning.specs.Written.{find_unit, act_writes, writes, handed_back, is_written}
use Rattle.def_meaning.specs.Units.{Actual, declared, extent_in, extents_of, shape_of, shape_fits, dummies_fit, entry_store, copied_out, entered, unit_run, call_in, calls_of}
use Rattle.def_meaning.proofs.Appends.{counted_then, then_assoc}
use Rattle.def_meaning.proofs.Booleans.{or_false, or_first, or_second}
use Rattle.def_meaning.proofs.Variables.{var_refl}
use Rattle.law_meaning.proofs.Frames.{run_keeps, calls_keep}
use Rattle.law_meaning.proofs.Inversions.{count_done}
use Rattle.law_meaning.proofs.Dependence.{extents_alike}
use Rattle.law_meaning.proofs.WriteSets.{handed_written}
use Rattle.def_meaning.specs.Apart.{has_name, is_named}
use Rattle.law_meaning.specs.Follows.{Runs, Follows}
use Rattle.law_kernel.specs.Apart.{TermInside, TermsInside, MarkInside, ActInside, CodeInside, EachCall', EachCall}
use Rattle.def_kernel.specs.Kernel.{named, names_in_code, names_of}
use Rattle.law_kernel.specs.Fits.{is_of, PlainAct, PlainCode}
use Rattle.def_kernel.specs.Stepped.{marked_in, marked_in_act, variables_of, is_extent_of, step_dummies, as_actuals, step_name, step_call, cut_act, cut, step_unit}
use Rattle.law_kernel.specs.StepTheorem.{marked_of, nest_act, nest, IsStepThere, StepsThereAct, StepsThere, fits_itself, HoldsExtents}
use Rattle.law_meaning.proofs.Following.{follows_done, follows_if, follows_then, follows_known, follows_extra}
use Rattle.law_kernel.proofs.Together.{then_nothing, follows_same, follows_value, counted_both, turns_follow, tests_follow}
use Rattle.law_kernel.proofs.Locals.{has_second, own_code}
use Rattle.law_kernel.proofs.HandingBack.{by_names}
use Rattle.law_kernel.proofs.TwoSettings.{set_in, value_two, target_two, holds_two}
use Rattle.law_kernel.proofs.StepNames.{loop_named, writes_inside, listed_once, is_used, used_has, used_is, extent_among, among_extent, declared_step, plains, actuals_are, entry_is, back_kept, back_written}

-- the scenes agree on the variables of these names, on tapes and on what is told of marked loops; each has so many reversals open
pub record Alike {C : Type 0} (ns : List (List ℕ)) (a b : ℕ) (s t : Scene C) : Type 0 where
  pub store : (x : Var) (i : ℕ) → is_named ns x ≡ true → s.store x i ≡ t.store x i
  pub tape : s.tape ≡ t.tape
  pub opened : s.opened ≡ a
  pub opened' : t.opened ≡ b
  pub events : marked_of s.events ≡ marked_of t.events

module _ {C : Type 0} (N : Numbers C) (room : Option ℕ) (units units' : List Procedure) (taken : List (List ℕ)) (u : Procedure) (e0 : Store C)
    (good : (x : Var) → fits_itself N u e0 x ≡ true)
    (extents_own : (x : Var) (d : List ℕ) → names_extent d (declared u.declarations x) ≡ true → has_name d (names_of u) ≡ true)
    (extents_flat : (x : Var) (d : List ℕ) → names_extent d (declared u.declarations x) ≡ true → declared u.declarations (plain d) ≡ [])
    (P : List ℕ → Terms → Type 0)
    (covered : (k : ℕ) (c : Code) (y : List ℕ) → PlainCode c → EachCall P c → StepsThere units' taken u k c → CodeInside (is_of u) c → writes (handed_back units) (plain y) c ≡ true → writes (handed_back units') (plain y) (cut taken u k c) ≡ true)
    (depth base most : ℕ) where
  -- the shapes of the unit's variables
  abbrev sh : Var → Shape
  sh x = shape_of (extents_of N u e0 x)

  abbrev from : ℕ → Setting C
  from level = set_in N room sh level

  abbrev q : Calls C
  q = calls_of units depth

  -- what stands in a scene
  abbrev standing : Scene C → Stand
  standing s = stand (set_in N room sh 0) s

  abbrev q' : ℕ → Calls C
  q' e = calls_of units' e

  abbrev SameOn : List (List ℕ) → (Var → Shape) → Type 0
  SameOn ns sh' = (x : Var) → is_named ns x ≡ true → sh' x ≡ sh x

  -- the scenes are alike, and the unit's extents are still there
  abbrev pub Kept : List (List ℕ) → ℕ → ℕ → Scene C → Scene C → Type 0
  Kept ns a b s t = Alike ns a b s t × HoldsExtents u.declarations e0 s.store

  -- no extent is written
  abbrev Unwritten : Code → Type 0
  Unwritten c = (x : Var) (d : List ℕ) → names_extent d (declared u.declarations x) ≡ true → writes (handed_back units) (plain d) c ≡ false

  -- with a name its extents are among these
  abbrev ExtentsIn : List (List ℕ) → Type 0
  ExtentsIn ns = (y d : List ℕ) → has_name y ns ≡ true → names_extent d (declared u.declarations (plain y)) ≡ true → has_name d ns ≡ true

  -- what is known of calls
  abbrev pub CallsFollow : Type 0
  CallsFollow = (name : List ℕ) (args : Terms) (line : ℕ) → P name args → (ns : List (List ℕ)) → TermsInside (is_named ns) args → (sh' : Var → Shape) (level level' : ℕ) → SameOn ns sh' → (a b : ℕ) (s t : Scene C) → Alike ns a b s t → (e : ℕ) → base ≤ e → (k : ℕ) → k ≤ most →
      Follows (Alike ns a b) 2 0 (λ i. counted (standing s) i (λ j. q (from level) name args line s j)) (λ i. counted (standing t) i (λ j. q' e (set_in N room sh' level') name args line t j)) k

  -- ---- the variables of a marked loop

  module _ (x : Var) (body : Code) (plainly : PlainCode body) (each : EachCall P body) (ox : is_of u x ≡ true) (own : CodeInside (is_of u) body) where
    abbrev vs : List (List ℕ)
    vs = step_dummies u x body

    abbrev used : List (List ℕ)
    used = named x ++ names_in_code body

    -- each variable of the unit that is used
    own_used : (y : List ℕ) → has_name y (names_of u) ≡ true → is_used u.declarations used y ≡ true → has_name y vs ≡ true
    own_used y h g = used_has u.declarations used (variables_of u) y (listed_once y (names_of u) h) g

    -- each name that is used is a dummy
    all_used : (y : List ℕ) → has_name y used ≡ true → has_name y vs ≡ true
    all_used y h = own_used y (loop_named y (is_of u) P x body ox own each h) (or_first (has_name y used) (is_extent_of u.declarations y used) h)

    -- the body is inside the dummies
    pub body_inside : CodeInside (is_named vs) body
    body_inside = own_code vs body plainly (λ y h. all_used y (has_second y (named x) (names_in_code body) h))

    -- with a dummy its extents are dummies
    extents_in : ExtentsIn vs
    extents_in y d h g = go (or_cases (has_name y used) (is_extent_of u.declarations y used) (used_is u.declarations used (variables_of u) y h))
      where
        go : (has_name y used ≡ true) ⊎ (is_extent_of u.declarations y used ≡ true) → has_name d vs ≡ true
        go (inl k) = own_used d (extents_own (plain y) d g) (or_second (has_name d used) (is_extent_of u.declarations d used) (extent_among u.declarations d y used k g))
        go (inr k) =
            let f = among_extent u.declarations y used k in
            let none : names_extent d [] ≡ true = sym (ap (names_extent d) (extents_flat (plain f.of) y f.is)) ∙ g in
            absurd cc

    -- they are among the variables in hand
    in_hand : (ns : List (List ℕ)) → is_named ns x ≡ true → CodeInside (is_named ns) body → ExtentsIn ns → (y : List ℕ) → has_name y vs ≡ true → has_name y ns ≡ true
    in_hand ns hx h ext y g = go (or_cases (has_name y used) (is_extent_of u.declarations y used) (used_is u.declarations used (variables_of u) y g))
      where
        go : (has_name y used ≡ true) ⊎ (is_extent_of u.declarations y used ≡ true) → has_name y ns ≡ true
        go (inl k) = loop_named y (is_named ns) P x body hx h each k
        go (inr k) = let f = among_extent u.declarations y used k in ext f.of y (loop_named f.of (is_named ns) P x body hx h each f.among) f.is

    -- ---- the call of the step unit

    module _ (k0 line : ℕ) (there_is : find_unit units' (step_name taken u.name k0) ≡ Some (step_unit taken u k0 line x body)) (steps : StepsThere units' taken u (suc k0) body)
        (ns : List (List ℕ)) (hx : is_named ns x ≡ true) (inside : CodeInside (is_named ns) body) (ext : ExtentsIn ns) (sh' : Var → Shape) (level level' : ℕ) (same : SameOn ns sh') (a b : ℕ) (s t : Scene C) (al : Kept ns a b s t) (e : ℕ) where
      abbrev unit : Procedure
      unit = step_unit taken u k0 line x body

      abbrev n' : Setting C
      n' = set_in N room sh' level'

      abbrev got : List (Actual C)
      got = by_names n' t.store (plains vs)

      abbrev there : Store C
      there = entry_store N vs got

      there_holds : (y : List ℕ) (i : ℕ) → has_name y vs ≡ true → there (plain y) i ≡ t.store (plain y) i
      there_holds y i h = entry_is n' t.store N vs y i h

      -- the extents are those of the unit's entry
      extents_there : (y : List ℕ) → has_name y vs ≡ true → extents_of N unit there (plain y) ≡ extents_of N u e0 (plain y)
      extents_there y h =
          ap (map (extent_in N there)) (declared_step u.declarations line vs y h)
          ∙ extents_alike N there e0 (declared u.declarations (plain y)) (λ d g.
          let hd = extents_in y d h g in
          there_holds d 0 hd ∙ sym (al.0.store (plain d) 0 (in_hand ns hx inside ext d hd)) ∙ al.1 (plain y) d g)

      -- so the dummies fit
      fit_each : (ys : List (List ℕ)) → ((y : List ℕ) → has_name y ys ≡ true → has_name y vs ≡ true) → dummies_fit N unit there ys (by_names n' t.store (plains ys)) ≡ true
      fit_each [] h = refl
      fit_each (y ∷ ys) h =
          (λ i. whole_is i && fit_each ys (λ z g. h z (or_second (name_eq z y) (has_name z ys) g)) i)
        where
          hy : has_name y vs ≡ true
          hy = h y (or_first (name_eq y y) (has_name y ys) (name_refl y))

          shape_is : sh' (plain y) ≡ shape_of (extents_of N u e0 (plain y))
          shape_is = same (plain y) (in_hand ns hx inside ext y hy)

          whole_is : (length (declared unit.declarations (plain y)) == 0 || shape_fits (extents_of N unit there (plain y)) (sh' (plain y))) ≡ true
          whole_is = (λ i. length (declared_step u.declarations line vs y hy i) == 0 || shape_fits (extents_there y hy i) (shape_is i)) ∙ good (plain y)

      fits : dummies_fit N unit there vs got ≡ true
      fits = fit_each vs (λ y h. h)

      -- and have the shapes of the variables
      abbrev inner_sh : Var → Shape
      inner_sh y = shape_of (extents_of N unit there y)

      same_inner : SameOn vs inner_sh
      same_inner (plain y) h = ap shape_of (extents_there y h)
      same_inner (shadow y) h = absurd cc
      same_inner (helper r k) h = absurd cc

      -- the scene at the step unit's entry
      abbrev start : Scene C
      start = record t { store = there }

      abbrev begun : Scene C
      begun = entered n' unit start

      kept_begun : Kept vs a 0 s begun
      kept_begun = (
        record {
          store = λ z i h. holds z i h;
          tape = al.0.tape;
          opened = al.0.opened;
          opened' = refl;
          events = al.0.events;
        },
        al.1,
      )
        where
          holds : (z : Var) (i : ℕ) → is_named vs z ≡ true → s.store z i ≡ there z i
          holds (plain y) i h = al.0.store (plain y) i (in_hand ns hx inside ext y h) ∙ sym (there_holds y i h)
          holds (shadow y) i h = absurd cc
          holds (helper r k) i h = absurd cc

      -- which dummies are written
      abbrev flag : List ℕ → Bool
      flag y = is_written units' unit y

      abbrev ws : List Bool
      ws = handed_back units' unit.name

      ws_are : ws ≡ map flag vs
      ws_are = handed_written units' unit.name unit there_is

      abbrev handed : Scene C → Scene C
      handed t1 = record t { store = copied_out vs ws got t1.store t.store; tape = t1.tape; events = t1.events }

      -- from the ends of the body and of the step unit
      back_again : (s1 t1 : Scene C) → Kept vs a 0 s1 t1 → ((y : List ℕ) → writes (handed_back units) (plain y) body ≡ false → (i : ℕ) → s1.store (plain y) i ≡ s.store (plain y) i) → Kept ns a b s1 (handed t1)
      back_again s1 t1 r frame = (
        record {
          store = λ z i h. holds z i h;
          tape = r.0.tape;
          opened = r.0.opened;
          opened' = al.0.opened';
          events = r.0.events;
        },
        r.1,
      )
        where
          by_flags : (y : List ℕ) (i : ℕ) → copied_out vs ws got t1.store t.store (plain y) i ≡ copied_out vs (map flag vs) got t1.store t.store (plain y) i
          by_flags y i = ap (λ z. copied_out vs z got t1.store t.store (plain y) i) ws_are

          -- a variable that the body doesn't write
          kept : (y : List ℕ) (i : ℕ) → is_named ns (plain y) ≡ true → writes (handed_back units) (plain y) body ≡ false → (has_name y vs ≡ true → flag y ≡ false) → s1.store (plain y) i ≡ (handed t1).store (plain y) i
          kept y i h w f = frame y w i ∙ al.0.store (plain y) i h ∙ sym (by_flags y i ∙ back_kept n' t.store flag vs t1.store t.store y i f)

          by_writes : (y : List ℕ) (i : ℕ) → is_named ns (plain y) ≡ true → (c : Bool) → has_name y vs ≡ c → (g : Bool) → flag y ≡ g → (w : Bool) → writes (handed_back units) (plain y) body ≡ w → s1.store (plain y) i ≡ (handed t1).store (plain y) i
          by_writes y i h true v true f w e = r.0.store (plain y) i v ∙ sym (by_flags y i ∙ back_written n' t.store flag vs t1.store t.store y i v f)
          by_writes y i h true v false f true e = absurd (let z : true ≡ false = sym (covered (suc k0) body y plainly each steps own e) ∙ f in cc)
          by_writes y i h true v false f false e = kept y i h e (λ o. f)
          by_writes y i h false v g f true e = absurd (let z : true ≡ false = sym (writes_inside (is_named vs) (handed_back units) P (plain y) body body_inside each e) ∙ v in cc)
          by_writes y i h false v g f false e = kept y i h e (λ o. absurd (let z : true ≡ false = sym o ∙ v in cc))

          holds : (z : Var) (i : ℕ) → is_named ns z ≡ true → s1.store z i ≡ (handed t1).store z i
          holds (plain y) i h = by_writes y i h (has_name y vs) refl (flag y) refl (writes (handed_back units) (plain y) body) refl
          holds (shadow y) i h = absurd cc
          holds (helper r1 k) i h = absurd cc

      -- what the call does
      abbrev closed : Go C
      closed t1 j = if t1.opened == 0 then Done t1 j else Trapped schedule_trap line (standing t1)

      abbrev inner : Runs (Scene C)
      inner k = run (q' e) (set_in N room inner_sh (suc level')) (cut taken u (suc k0) body) begun k

      call_is : (k : ℕ) → q' (suc e) n' unit.name (as_actuals vs) line t k ≡ then_do (inner k) (λ t1 j. then_do (closed t1 j) (λ t2 i. Done (handed t2) i))
      call_is k =
          ap (λ z. call_in (q' e) n' ws z (as_actuals vs) line t k) there_is
          ∙ ap (λ z. with_value z line (standing t) (λ got1. if dummies_fit N unit (entry_store N vs got1) vs got1 then then_do (unit_run (q' e) n' unit line (record t { store = entry_store N vs got1 }) k) (λ t2 i. Done (record t { store = copied_out vs ws got1 t2.store t.store; tape = t2.tape; events = t2.events }) i) else Trapped shape_trap line (standing t))) (actuals_are n' t.store vs)
          ∙ ap (λ z. if z then then_do (unit_run (q' e) n' unit line start k) (λ t2 i. Done (handed t2) i) else Trapped shape_trap line (standing t)) fits
          ∙ then_assoc (inner k) closed (λ t2 i. Done (handed t2) i)

      step_follows : ((k : ℕ) → k ≤ most → Follows (Kept vs a 0) 2 0 (run q (from level) body s) inner k) → (k : ℕ) → k ≤ most → Follows (Kept ns a b) 2 1 (run q (from level) body s) (run (q' (suc e)) n' (one line (call unit.name (as_actuals vs))) t) k
      step_follows ih k le =
          follows_same (Kept ns a b) 2 1 (run q (from level) body s) (run q (from level) body s) (λ j. counted (standing t) j called) (run (q' (suc e)) n' (one line (call unit.name (as_actuals vs))) t) k (λ j. refl)
          (λ j. λ z. counted (standing t) j (λ i. (then_nothing (q' (suc e) n' unit.name (as_actuals vs) line t i) ∙ call_is i) z))
          (follows_extra 2 0 (Kept ns a b) (standing t) (run q (from level) body s) called k
          (follows_same (Kept ns a b) 2 0 (λ j. then_do (run q (from level) body s j) (λ s1 i. Done s1 i)) (run q (from level) body s) called called k (λ j. sym (then_nothing (run q (from level) body s j))) (λ j. refl)
          (follows_then 2 0 0 WithFrame (Kept ns a b) (run q (from level) body s) inner (λ s1 i. Done s1 i) (λ t1 j. then_do (closed t1 j) (λ t2 i. Done (handed t2) i)) k
          (follows_known 2 0 (Kept vs a 0) WithFrame (run q (from level) body s) inner k (ih k le)
          (λ s1 t1 left d r. (r, λ y w i. run_keeps (handed_back units) q (calls_keep units depth) (from level) (plain y) body w s k s1 left d i)))
          (λ s1 t1 i l r.
          follows_same (Kept ns a b) 2 0 (λ j. Done s1 j) (λ j. Done s1 j) (λ j. Done (handed t1) j) (λ j. then_do (closed t1 j) (λ t2 i. Done (handed t2) i)) i (λ j. refl)
          (λ j. ap (λ z. then_do (if z == 0 then Done t1 j else Trapped schedule_trap line (standing t1)) (λ t2 i. Done (handed t2) i)) r.0.0.opened')
          (follows_done 2 0 (Kept ns a b) s1 (handed t1) i (back_again s1 t1 r.0 r.1))))))
        where
          called : Runs (Scene C)
          called k = then_do (inner k) (λ t1 j. then_do (closed t1 j) (λ t2 i. Done (handed t2) i))

          WithFrame : Scene C → Scene C → Type 0
          WithFrame s1 t1 = Kept vs a 0 s1 t1 × ((y : List ℕ) → writes (handed_back units) (plain y) body ≡ false → (i : ℕ) → s1.store (plain y) i ≡ s.store (plain y) i)

  -- ---- loops

  module _ (ns : List (List ℕ)) (ext : ExtentsIn ns) where
    -- a cell of a variable that is no extent is set
    set_kept : (a b : ℕ) (x : Var) (i : ℕ) (c : C) → ((y : Var) (d : List ℕ) → names_extent d (declared u.declarations y) ≡ true → var_eq (plain d) x ≡ false) → (s t : Scene C) → Kept ns a b s t → Kept ns a b (record s { store = set s.store x i c }) (record t { store = set t.store x i c })
    set_kept a b x i c h s t r = (
      record {
        store = λ z j g. λ k. if var_eq z x && (j == i) then c else r.0.store z j g k;
        tape = r.0.tape;
        opened = r.0.opened;
        opened' = r.0.opened';
        events = r.0.events;
      },
      λ y d g. ap (λ z. if z && (0 == i) then c else s.store (plain d) 0) (h y d g) ∙ r.1 y d g,
    )

    -- what is told of a loop is kept
    told_kept : (a b line m : ℕ) (force : Option ℕ) (s t : Scene C) → Kept ns a b s t → Kept ns a b (after_loop line m force s) (after_loop line m force t)
    told_kept a b line m None s t r = r
    told_kept a b line m (Some snapshots) s t r = (record { store = r.0.store; tape = r.0.tape; opened = r.0.opened; opened' = r.0.opened'; events = λ i. Marked line m snapshots ∷ r.0.events i }, r.1)

    -- the snapshots in force are the same
    force_kept : (m : Mark) → MarkInside (is_named ns) m → (a b : ℕ) (s t : Scene C) → Kept ns a b s t → (sh' : Var → Shape) (level level' : ℕ) → in_force (from level) m s.store ≡ in_force (set_in N room sh' level') m t.store
    force_kept unmarked h a b s t r sh' level level' = refl
    force_kept (with_count m) h a b s t r sh' level level' = refl
    force_kept (count_from x) h a b s t r sh' level level' = ap (λ z. Some (from_1_to_64 (N.shown z))) (r.0.store x 0 (h x (var_refl x)))

  -- ---- statements

  module _ (calls : CallsFollow) where
    -- what is known of the loop's parts in both settings
    loop_by : (ns : List (List ℕ)) (ext : ExtentsIn ns) (sh' : Var → Shape) (level level' : ℕ) → SameOn ns sh' → (a b slack : ℕ) → 0 + 1 + (slack + 0) ≤ 2 → (line : ℕ) (x : Var) (first last by : Term) (body body' : Code) (m : Mark) (e : ℕ) → MarkInside (is_named ns) m → is_named ns x ≡ true → TermInside (is_named ns) first → TermInside (is_named ns) last → TermInside (is_named ns) by →
        ((y : Var) (d : List ℕ) → names_extent d (declared u.declarations y) ≡ true → var_eq (plain d) x ≡ false) →
        ((s t : Scene C) → Kept ns a b s t → (k : ℕ) → k ≤ most → Follows (Kept ns a b) 2 slack (run q (from level) body s) (run (q' e) (set_in N room sh' level') body' t) k) →
        (s t : Scene C) → Kept ns a b s t → (k : ℕ) → k ≤ most → Follows (Kept ns a b) 2 0 (λ i. counted (standing s) i (act q (from level) (loop x first last by body m) line s)) (λ i. counted (standing t) i (act (q' e) (set_in N room sh' level') (loop x first last by body' m) line t)) k
    loop_by ns ext sh' level level' same a b slack few line x first last by body body' m e hm hx hf hl hb un h s t r k le =
        counted_both (Kept ns a b) 2 0 (standing s) (standing t) (act q (from level) (loop x first last by body m) line s) (act (q' e) (set_in N room sh' level') (loop x first last by body' m) line t) k (omega arith)
        (λ j z. follows_value (Kept ns a b) 2 0 _ _ line (standing s) (standing t) _ _ j (value_two N room (is_named ns) sh sh' level level' same s.store t.store r.0.store first hf)
        (λ p. follows_value (Kept ns a b) 2 0 _ _ line (standing s) (standing t) _ _ j (value_two N room (is_named ns) sh sh' level level' same s.store t.store r.0.store last hl)
        (λ v. follows_value (Kept ns a b) 2 0 _ _ line (standing s) (standing t) _ _ j (value_two N room (is_named ns) sh sh' level level' same s.store t.store r.0.store by hb)
        (λ c. follows_value (Kept ns a b) 2 0 _ _ line (standing s) (standing t) _ _ j (refl {a = trips m (N.shown p) (N.shown v) (N.shown c)})
        (λ count.
        let f = run q (from level) body in
        let g = run (q' e) (set_in N room sh' level') body' in
        let after = stepped (from level) x (N.shown c) in
        let after' = stepped (set_in N room sh' level') x (N.shown c) in
        let begin = with_turn (from level) x (wrap (N.shown p)) s in
        let begin' = with_turn (set_in N room sh' level') x (wrap (N.shown p)) t in
        follows_then 2 0 0 (Kept ns a b) (Kept ns a b) (turns (from level) count f after begin) (turns (set_in N room sh' level') count g after' begin') (λ s1 i. Done (after_loop line count (in_force (from level) m s.store) s1) i) (λ s1 i. Done (after_loop line count (in_force (set_in N room sh' level') m t.store) s1) i) j
        (turns_follow (from level) (set_in N room sh' level') (Kept ns a b) 2 slack few most count f g after after' h
        (λ s1 t1 r1. subst (λ w. Kept ns a b (after s1) (with_turn (set_in N room sh' level') x (add (N.shown w) (N.shown c)) t1)) (r1.0.store x 0 hx) (set_kept ns ext a b x 0 (N.of_word (add (N.shown (s1.store x 0)) (N.shown c))) un s1 t1 r1))
        begin begin' (set_kept ns ext a b x 0 (N.of_word (wrap (N.shown p))) un s t r) j (omega (arith, z, le)))
        (λ s1 t1 i l r1.
        follows_done 2 0 (Kept ns a b) (after_loop line count (in_force (from level) m s.store) s1) (after_loop line count (in_force (set_in N room sh' level') m t.store) t1) i
        (subst (λ w. Kept ns a b (after_loop line count (in_force (from level) m s.store) s1) (after_loop line count w t1)) (force_kept ns ext m hm a b s t r sh' level level')
        (told_kept ns ext a b line count (in_force (from level) m s.store) s1 t1 r1))))))))

    -- a marked loop, whose body in the step unit follows that of the source
    marked_step : (ns : List (List ℕ)) (ext : ExtentsIn ns) (sh' : Var → Shape) (level level' : ℕ) → SameOn ns sh' → (a b line k0 : ℕ) (x : Var) (first last by : Term) (body : Code) (m : Mark) (e : ℕ) →
        ActInside (is_named ns) (loop x first last by body m) → (ox : is_of u x ≡ true) (own : CodeInside (is_of u) body) (plainly : PlainCode body) (each : EachCall P body) → IsStepThere units' taken u k0 line x body → StepsThere units' taken u (suc k0) body →
        ((y : Var) (d : List ℕ) → names_extent d (declared u.declarations y) ≡ true → act_writes (handed_back units) (plain d) (loop x first last by body m) ≡ false) →
        ((inner : Var → Shape) (deeper : ℕ) → SameOn (step_dummies u x body) inner → (s t : Scene C) → Kept (step_dummies u x body) a 0 s t → (k : ℕ) → k ≤ most →
        Follows (Kept (step_dummies u x body) a 0) 2 0 (run q (from level) body s) (run (q' e) (set_in N room inner deeper) (cut taken u (suc k0) body) t) k) →
        (s t : Scene C) → Kept ns a b s t → (k : ℕ) → k ≤ most →
        Follows (Kept ns a b) 2 0 (λ i. counted (standing s) i (act q (from level) (loop x first last by body m) line s))
        (λ i. counted (standing t) i (act (q' (suc e)) (set_in N room sh' level') (loop x first last by (one line (step_call taken u k0 x body)) m) line t)) k
    marked_step ns ext sh' level level' same a b line k0 x first last by body m e h ox own plainly each there steps un in_step s t al k le =
        loop_by ns ext sh' level level' same a b 1 (omega arith) line x first last by body (one line (step_call taken u k0 x body)) m (suc e) h.1.0.0 h.0 h.1.0.1.0 h.1.0.1.1.0 h.1.0.1.1.1
        (λ y d g. (or_false (var_eq (plain d) x) (writes (handed_back units) (plain d) body) (un y d g)).0)
        (λ s1 t1 r1 k1 l1. step_follows x body plainly each ox own k0 line there steps ns h.0 h.1.1 ext sh' level level' same a b s1 t1 r1 e
        (λ k2 l2. in_step (inner_sh x body plainly each ox own k0 line there steps ns h.0 h.1.1 ext sh' level level' same a b s1 t1 r1 e) (suc level')
        (same_inner x body plainly each ox own k0 line there steps ns h.0 h.1.1 ext sh' level level' same a b s1 t1 r1 e) s1
        (begun x body plainly each ox own k0 line there steps ns h.0 h.1.1 ext sh' level level' same a b s1 t1 r1 e)
        (kept_begun x body plainly each ox own k0 line there steps ns h.0 h.1.1 ext sh' level level' same a b s1 t1 r1 e) k2 l2) k1 l1)
        s t al k le

    mutual
      acts_step : (line : ℕ) (act1 : Act) (k0 : ℕ) (ns : List (List ℕ)) → ActInside (is_named ns) act1 → ActInside (is_of u) act1 → PlainAct act1 → EachCall' P act1 → StepsThereAct units' taken u k0 line act1 → ((y : Var) (d : List ℕ) → names_extent d (declared u.declarations y) ≡ true → act_writes (handed_back units) (plain d) act1 ≡ false) → ExtentsIn ns →
          (sh' : Var → Shape) (level level' : ℕ) → SameOn ns sh' → (a b : ℕ) (s t : Scene C) → Kept ns a b s t → (e : ℕ) → base + nest_act act1 ≤ e → (k : ℕ) → k ≤ most →
          Follows (Kept ns a b) 2 0 (λ i. counted (standing s) i (act q (from level) act1 line s)) (λ i. counted (standing t) i (act (q' e) (set_in N room sh' level') (cut_act taken u k0 line act1) line t)) k
      acts_step line (assign x subs r) k0 ns h o pl p st un ext sh' level level' same a b s t al e be k le =
          counted_both (Kept ns a b) 2 0 (standing s) (standing t) (act q (from level) (assign x subs r) line s) (act (q' e) (set_in N room sh' level') (assign x subs r) line t) k (omega arith)
          (λ j z. follows_value (Kept ns a b) 2 0 _ _ line (standing s) (standing t) _ _ j (value_two N room (is_named ns) sh sh' level level' same s.store t.store al.0.store r h.1.1)
          (λ c. follows_value (Kept ns a b) 2 0 _ _ line (standing s) (standing t) _ _ j (target_two N room (is_named ns) sh sh' level level' same s.store t.store al.0.store x subs h.0 h.1.0)
          (λ i. follows_done 2 0 (Kept ns a b) (record s { store = set s.store x i c }) (record t { store = set t.store x i c }) j (set_kept ns ext a b x i c un s t al))))
      acts_step line (choose c d f) k0 ns h o pl p st un ext sh' level level' same a b s t al e be k le =
          counted_both (Kept ns a b) 2 0 (standing s) (standing t) (act q (from level) (choose c d f) line s) (act (q' e) (set_in N room sh' level') (choose c (cut taken u k0 d) (cut taken u (k0 + marked_in d) f)) line t) k (omega arith)
          (λ j z. follows_value (Kept ns a b) 2 0 (holds (from level) c s.store) (holds (set_in N room sh' level') c t.store) line (standing s) (standing t) (λ v i. if v then run q (from level) d s i else run q (from level) f s i)
          (λ v i. if v then run (q' e) (set_in N room sh' level') (cut taken u k0 d) t i else run (q' e) (set_in N room sh' level') (cut taken u (k0 + marked_in d) f) t i) j
          (holds_two N room (is_named ns) sh sh' level level' same s.store t.store al.0.store c h.0)
          (λ v. follows_if 2 0 (Kept ns a b) v (run q (from level) d s) (run q (from level) f s) (run (q' e) (set_in N room sh' level') (cut taken u k0 d) t) (run (q' e) (set_in N room sh' level') (cut taken u (k0 + marked_in d) f) t) j
          (lists_step d k0 ns h.1.0 o.1.0 pl.1.0 p.0 st.0 (λ y w g. (or_false (writes (handed_back units) (plain w) d) (writes (handed_back units) (plain w) f) (un y w g)).0) ext sh' level level' same a b s t al e (omega (arith, be)) j (omega (arith, z, le)))
          (lists_step f (k0 + marked_in d) ns h.1.1 o.1.1 pl.1.1 p.1 st.1 (λ y w g. (or_false (writes (handed_back units) (plain w) d) (writes (handed_back units) (plain w) f) (un y w g)).1) ext sh' level level' same a b s t al e (omega (arith, be)) j (omega (arith, z, le)))))
      acts_step line (loop x first last by body unmarked) k0 ns h o pl p st un ext sh' level level' same a b s t al e be k le =
          loop_by ns ext sh' level level' same a b 0 (omega arith) line x first last by body (cut taken u k0 body) unmarked e h.1.0.0 h.0 h.1.0.1.0 h.1.0.1.1.0 h.1.0.1.1.1 (λ y d g. (or_false (var_eq (plain d) x) (writes (handed_back units) (plain d) body) (un y d g)).0)
          (λ s1 t1 r1 k1 l1. lists_step body k0 ns h.1.1 o.1.1 pl.1.1 p st (λ y d g. (or_false (var_eq (plain d) x) (writes (handed_back units) (plain d) body) (un y d g)).1) ext sh' level level' same a b s1 t1 r1 e (omega (arith, be)) k1 l1)
          s t al k le
      acts_step line (loop x first last by body (with_count m)) k0 ns h o pl p st un ext sh' level level' same a b s t al zero be k le = absurd (omega (arith, be))
      acts_step line (loop x first last by body (count_from counter)) k0 ns h o pl p st un ext sh' level level' same a b s t al zero be k le = absurd (omega (arith, be))
      acts_step line (loop x first last by body (with_count m)) k0 ns h o pl p st un ext sh' level level' same a b s t al (suc e) be k le =
          marked_step ns ext sh' level level' same a b line k0 x first last by body (with_count m) e h o.0 o.1.1 pl.1.1 p st.0 st.1 un
          (λ inner deeper same1 s1 t1 r1 k1 l1. lists_step body (suc k0) (step_dummies u x body) (body_inside x body pl.1.1 p o.0 o.1.1) o.1.1 pl.1.1 p st.1
          (λ y d g. (or_false (var_eq (plain d) x) (writes (handed_back units) (plain d) body) (un y d g)).1) (extents_in x body pl.1.1 p o.0 o.1.1) inner level deeper same1 a 0 s1 t1 r1 e (omega (arith, be)) k1 l1)
          s t al k le
      acts_step line (loop x first last by body (count_from counter)) k0 ns h o pl p st un ext sh' level level' same a b s t al (suc e) be k le =
          marked_step ns ext sh' level level' same a b line k0 x first last by body (count_from counter) e h o.0 o.1.1 pl.1.1 p st.0 st.1 un
          (λ inner deeper same1 s1 t1 r1 k1 l1. lists_step body (suc k0) (step_dummies u x body) (body_inside x body pl.1.1 p o.0 o.1.1) o.1.1 pl.1.1 p st.1
          (λ y d g. (or_false (var_eq (plain d) x) (writes (handed_back units) (plain d) body) (un y d g)).1) (extents_in x body pl.1.1 p o.0 o.1.1) inner level deeper same1 a 0 s1 t1 r1 e (omega (arith, be)) k1 l1)
          s t al k le
      acts_step line (during c body) k0 ns h o pl p st un ext sh' level level' same a b s t al e be k le =
          counted_both (Kept ns a b) 2 0 (standing s) (standing t) (act q (from level) (during c body) line s) (act (q' e) (set_in N room sh' level') (during c (cut taken u k0 body)) line t) k (omega arith)
          (λ j z. tests_follow (from level) (set_in N room sh' level') (Kept ns a b) 2 (omega arith) most most_tests (λ s1. holds (from level) c s1.store) (λ t1. holds (set_in N room sh' level') c t1.store) line (run q (from level) body) (run (q' e) (set_in N room sh' level') (cut taken u k0 body))
          (λ s1 t1 r1. holds_two N room (is_named ns) sh sh' level level' same s1.store t1.store r1.0.store c h.0)
          (λ s1 t1 r1 k1 l1. lists_step body k0 ns h.1 o.1 pl.1 p st un ext sh' level level' same a b s1 t1 r1 e (omega (arith, be)) k1 l1)
          s t al j (omega (arith, z, le)))
      acts_step line (call name args) k0 ns h o pl p st un ext sh' level level' same a b s t al e be k le =
          follows_known 2 0 (Alike ns a b) (Kept ns a b) (λ i. counted (standing s) i (λ j. q (from level) name args line s j)) (λ i. counted (standing t) i (λ j. q' e (set_in N room sh' level') name args line t j)) k
          (calls name args line p ns h sh' level level' same a b s t al.0 e (omega (arith, be)) k le)
          (λ s1 t1 left d r. let v = count_done (standing s) k (λ j. q (from level) name args line s j) s1 left d in
          (r, λ y w g. calls_keep units depth (plain w) (from level) name args line (un y w g) s v.left s1 left v.goes 0 ∙ al.1 y w g))
      acts_step line (runtime r) k0 ns h o pl p st un ext sh' level level' same a b s t al e be k le = absurd p

      pub lists_step : (c : Code) (k0 : ℕ) (ns : List (List ℕ)) → CodeInside (is_named ns) c → CodeInside (is_of u) c → PlainCode c → EachCall P c → StepsThere units' taken u k0 c → Unwritten c → ExtentsIn ns →
          (sh' : Var → Shape) (level level' : ℕ) → SameOn ns sh' → (a b : ℕ) (s t : Scene C) → Kept ns a b s t → (e : ℕ) → base + nest c ≤ e → (k : ℕ) → k ≤ most →
          Follows (Kept ns a b) 2 0 (run q (from level) c s) (run (q' e) (set_in N room sh' level') (cut taken u k0 c) t) k
      lists_step stop k0 ns h o pl p st un ext sh' level level' same a b s t al e be k le = follows_done 2 0 (Kept ns a b) s t k al
      lists_step (step line c rest) k0 ns h o pl p st un ext sh' level level' same a b s t al e be k le =
          let split = λ (y : Var) (d : List ℕ) (g : names_extent d (declared u.declarations y) ≡ true). or_false (act_writes (handed_back units) (plain d) c) (writes (handed_back units) (plain d) rest) (un y d g) in
          follows_same (Kept ns a b) 2 0 (λ i. then_do (counted (standing s) i (act q (from level) c line s)) (run q (from level) rest)) (run q (from level) (step line c rest) s)
          (λ i. then_do (counted (standing t) i (act (q' e) (set_in N room sh' level') (cut_act taken u k0 line c) line t)) (run (q' e) (set_in N room sh' level') (cut taken u (k0 + marked_in_act c) rest))) (run (q' e) (set_in N room sh' level') (cut taken u k0 (step line c rest)) t) k
          (λ i. sym (counted_then (standing s) i (act q (from level) c line s) (run q (from level) rest)))
          (λ i. sym (counted_then (standing t) i (act (q' e) (set_in N room sh' level') (cut_act taken u k0 line c) line t) (run (q' e) (set_in N room sh' level') (cut taken u (k0 + marked_in_act c) rest))))
          (follows_then 2 0 0 (Kept ns a b) (Kept ns a b) (λ i. counted (standing s) i (act q (from level) c line s)) (λ i. counted (standing t) i (act (q' e) (set_in N room sh' level') (cut_act taken u k0 line c) line t)) (run q (from level) rest) (run (q' e) (set_in N room sh' level') (cut taken u (k0 + marked_in_act c) rest)) k
          (acts_step line c k0 ns h.0 o.0 pl.0 p.0 st.0 (λ y d g. (split y d g).0) ext sh' level level' same a b s t al e (omega (arith, be)) k le)
          (λ s1 t1 i l r. lists_step rest (k0 + marked_in_act c) ns h.1 o.1 pl.1 p.1 st.1 (λ y d g. (split y d g).1) ext sh' level level' same a b s1 t1 r e (omega (arith, be)) i (omega (arith, l, le))))
