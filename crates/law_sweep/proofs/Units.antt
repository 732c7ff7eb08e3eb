-- The theorem for the units of a program, called units first.
use Rattle.std.proofs.Common.{◌≡◌, ◌<◌, ℕ, zero, suc, Bool, true, false, List, ◌∷◌, map, refl, sym, ap, ◌∙◌, subst, arith, if◌then◌else◌}
use Rattle.std.specs.Prelude.{ℤ, pos, ◌&&◌, Some, IsTrue, not}
use Rattle.adj_tree.specs.Code.{Var, plain, shadow, var_eq, Term, Terms, assign, Code, Procedure}
use Rattle.def_meaning.specs.Numbers.{words}
use Rattle.def_meaning.specs.Append.{one, ◌+++◌}
use Rattle.def_meaning.specs.Store.{Shape, size_of, scalar, Store}
use Rattle.def_meaning.specs.Scene.{Scene, Done}
use Rattle.def_meaning.specs.Run.{act, run}
use Rattle.def_meaning.specs.Written.{find_unit, writes, handed_back, is_written}
use Rattle.def_meaning.specs.Read.{reads_actuals, looked_at, read_rule, reads, is_extent}
use Rattle.law_meaning.specs.Common.{HaveInCommon, CallsInside}
use Rattle.def_meaning.specs.Units.{declared, extent_in, extents_of, shape_of, entry_store, dummies_fit, setting_in, entered, calls_of}
use Rattle.law_meaning.proofs.Frames.{keeps_others}
use Rattle.law_meaning.proofs.Dependence.{calls_depend}
use Rattle.def_meaning.proofs.LeastSets.{least_row}
use Rattle.def_meaning.proofs.ReadsMore.{read_rises}
use Rattle.law_meaning.proofs.WriteSets.{handed_written}
use Rattle.def_names.specs.Numbers.{Vars}
use Rattle.def_names.specs.Numbering.{point_before, point_after}
use Rattle.def_sweep.specs.Facts.{In, Facts}
use Rattle.def_meaning.specs.Apart.{AreApart}
use Rattle.law_sweep.specs.Pairs.{Key, Words, with_tangents, on_words, on_duals}
use Rattle.law_sweep.specs.Scenes.{Course}
use Rattle.def_names.proofs.Variables.{or_left, or_right}
use Rattle.def_sweep.specs.Plan.{Plan, beside, IsActual, actuals_named, found_or, writes_actual}
use Rattle.def_sweep.specs.Emission.{forward_with, backward_with, forward_act_with, backward_act_with}
use Rattle.def_sweep.specs.Callees.{nothing, CalleeFacts, is_plain', is_plain}
use Rattle.law_sweep.specs.Laws.{AssignmentLaws, last_point, ListLawsBy, WayLaws, UnitLawsBy}
use Rattle.def_sweep.specs.Bindings.{bindings, Bindings}
use Rattle.law_sweep.specs.Passing.{plainly, passed_in}
use Rattle.law_sweep.specs.Cells.{cells_of}
use Rattle.law_sweep.specs.Kernel.{AssignmentFits, CallFits, FitsListBy}
use Rattle.law_sweep.specs.Environment.{UnitFitsBy, PairFits}
use Rattle.law_sweep.proofs.Passing.{beside_back, beside_in, beside_key, in_plain, out_plain}
use Rattle.law_sweep.specs.Emitted.{AreNamed, HasAdjoint, HasUnit}
use Rattle.law_sweep.proofs.Entering.{actuals_at, CallPasses, CallDone, writes_as, entry_pulled}
use Rattle.law_sweep.proofs.Transposed.{Transposed, transposed_to}
use Rattle.law_sweep.specs.Steps.{ActualsAgree}
use Rattle.law_sweep.proofs.CallSweeps.{CallTransposed}
use Rattle.law_sweep.specs.Theorem.{plan_of, UnitsTranspose, ListsTranspose, PairsTranspose, CallsSplit}
use Rattle.def_sweep.specs.Schedules.{schedules_by}
use Rattle.law_sweep.proofs.Snapshots.{KnowsArrays}
use Rattle.def_meaning.proofs.EntriesSeen.{own_names}
use Rattle.law_sweep.proofs.CallTangents.{tangents_out, shadows_out}
use Rattle.law_sweep.proofs.Calls.{own_named, with_shadow_shapes, AdjointThere, called, inside_words, dual_call as call_dual, call_transposed}
use Rattle.law_sweep.proofs.Cells.{cells_has, cells_only, cells_apart}
use Rattle.law_sweep.proofs.Lists.{list_swept}
use Rattle.law_sweep.proofs.Taken.{taken_words}
use Rattle.law_sweep.proofs.PlainCalls.{words_of_dual, plain_called, at_any_line}
use Rattle.law_sweep.specs.Lists.{TransposesList}
use Rattle.law_sweep.proofs.Declared.{fits as unit_fits, shapes as unit_shapes}
use Rattle.law_sweep.proofs.Theorem.{list_transposes}
use Rattle.law_sweep.proofs.AssignmentsDone.{assign_done}
use Rattle.def_sweep.specs.Reversals.{ReversedLines}
use Rattle.def_sweep.specs.Marks.{Marks}
use Rattle.def_sweep.specs.Rows.{pushes, pops}
use Rattle.def_sweep.specs.SplitMarks.{split_marks, split_facts, split_own}
use Rattle.def_sweep.specs.SplitRows.{left_of, forth_body, back_body}
use Rattle.law_sweep.specs.SplitCalled.{SplitPair, SplitDone}
use Rattle.law_sweep.proofs.Sweeps.{Matches}
use Rattle.law_sweep.specs.Runs.{SameOff}
use Rattle.law_sweep.proofs.SplitRow.{SplitTransposed}
use Rattle.law_sweep.proofs.SplitCalls.{forth_called}
use Rattle.law_sweep.proofs.SplitFacts.{unit_again, plain_split}
use Rattle.law_sweep.proofs.Entered.{UnitEnters, unit_enters, Moves}
use Rattle.law_sweep.proofs.Aside.{Stays, append_stays, pushes_stay, list_stays, moves_aside}
use Rattle.law_sweep.proofs.CallFacts.{read_actual, fit_of, fit_size}
use Rattle.law_sweep.proofs.Handing.{CellsMeet}

-- ---- the units, called units first

module _ (sb : Bool) (lines : ReversedLines) (ps qs : List Procedure) (g : List ℕ → CalleeFacts) (there answers paired carried : List ℕ → Bool) (first : List ℕ → ℕ) (vars : List ℕ → List (List ℕ)) (arrays : List ℕ → Vars)
    (inside : List ℕ → Bool) (closed : (name : List ℕ) (u : Procedure) → find_unit ps name ≡ Some u → IsTrue (inside name) → CallsInside inside u.body)
    (fits : (name : List ℕ) (u : Procedure) → find_unit ps name ≡ Some u → IsTrue (inside name) → UnitFitsBy (schedules_by sb g) lines ps g there answers paired carried name u (first name) (vars name) (arrays name))
    (apart : (name : List ℕ) (u : Procedure) → find_unit ps name ≡ Some u → AreApart u.dummies)
    (common : HaveInCommon carried ps qs)
    (reached : (name : List ℕ) → answers name ≡ true → there name ≡ true)
    (adjoints : (name : List ℕ) (u : Procedure) → find_unit ps name ≡ Some u → answers name ≡ true → HasAdjoint qs u (g name).callee (forward_with (schedules_by sb g) (plan_of g (g name).facts (arrays name)) (first name) 0 u.body) (backward_with (schedules_by sb g) (plan_of g (g name).facts (arrays name)) (first name) 0 u.body))
    (pairs : (name : List ℕ) (u : Procedure) → find_unit ps name ≡ Some u → paired name ≡ true →
    (let p = plan_of g (split_facts (g name) nothing) (arrays name) in
    let left = left_of (g name).callee.written (g name).callee.dummies (vars name) in
    HasUnit qs u (g name).callee.forth (g name).callee nothing (forth_body (schedules_by sb g) p (first name) u.line left u.body)
    × HasUnit qs u (g name).callee.back (g name).callee (g name).callee.shadowed (back_body (schedules_by sb g) p (first name) u.line left u.body))) where
  -- an adjoint that is emitted is entered as the program's unit is
  emitted : (name : List ℕ) (u : Procedure) → find_unit ps name ≡ Some u → IsTrue (inside name) → answers name ≡ true → AdjointThere ps qs u (g name) (forward_with (schedules_by sb g) (plan_of g (g name).facts (arrays name)) (first name) 0 u.body) (backward_with (schedules_by sb g) (plan_of g (g name).facts (arrays name)) (first name) 0 u.body)
  emitted name u found ins t =
      let h = adjoints name u found t in
      let f = fits name u found ins in
      record {
        unit = h.unit;
        found = h.found;
        naming = h.naming;
        separates = h.separates;
        plainly_named = h.plainly_named;
        body = h.body;
        named = h.named;
        enters = λ sh level actuals u0 f0 many shadow_shapes agree fit. (
          unit_fits u h.unit h.naming h.separates h.plainly_named (g name).callee f.dummies h.declared f.extents sh level actuals many (h.named actuals many) u0 f0 shadow_shapes agree f.dummies_apart fit,
          unit_shapes u h.unit h.naming h.separates h.plainly_named (g name).callee f.dummies h.declared f.extents sh level actuals many (h.named actuals many) u0 f0 shadow_shapes agree,
        );
      }

  abbrev pub plan : List ℕ → Plan
  plan name = plan_of g (g name).facts (arrays name)

  -- the shadows of variables have their shapes
  abbrev pub ShapesOf : List ℕ → (Var → Shape) → Type 0
  ShapesOf name sh = KnowsArrays (plan name) sh × ((x : List ℕ) → (g name).facts.marks.shadowed (plain x) ≡ true → sh (shadow x) ≡ sh (plain x))

  -- assignments are transposed, whatever calls do
  abbrev pub AssignmentsDone : Type 0
  AssignmentsDone =
      (name : List ℕ) (w : Facts) (present : Bool) (sh : Var → Shape) (level depth : ℕ) → KnowsArrays (plan_of g w (arrays name)) sh → ((x : List ℕ) → w.marks.shadowed (plain x) ≡ true → sh (shadow x) ≡ sh (plain x)) → AreApart (vars name) → (x : List ℕ) (subs : Terms) (a : Term) (i d line : ℕ) (s e : Scene ℤ) (k left : ℕ) → AssignmentLaws w i (plain x) subs a → AssignmentFits (vars name) (arrays name) x subs a →
      act (calls_of ps depth) (on_words (plainly sh) level) (assign (plain x) subs a) line s k ≡ Done e left →
      Transposed (calls_of qs depth) lines (calls_of ps depth) sh level (cells_of sh (vars name)) w d present (λ v. var_eq v (plain x)) (is_plain' w.marks i (assign (plain x) subs a)) (point_before i) (point_after i) (one line (assign (plain x) subs a)) (forward_act_with (schedules_by sb g) (plan_of g w (arrays name)) i d line (assign (plain x) subs a)) (backward_act_with (schedules_by sb g) (plan_of g w (arrays name)) i d line (assign (plain x) subs a)) s.store e.store

  -- the sweeps of a unit by facts transpose the derivative of its body along each run that is done
  abbrev pub DoneBy : Facts → Bool → ℕ → List ℕ → Procedure → (Var → Shape) → ℕ → Type 0
  DoneBy w present depth name u sh level =
      (s e : Scene ℤ) (k left : ℕ) → run (calls_of ps depth) (on_words (plainly sh) level) u.body s k ≡ Done e left →
      Transposed (calls_of qs depth) lines (calls_of ps depth) sh level (cells_of sh (vars name)) w 0 present (λ x. writes (handed_back ps) x u.body) (is_plain w.marks (first name) u.body) (g name).entry (g name).end u.body (forward_with (schedules_by sb g) (plan_of g w (arrays name)) (first name) 0 u.body) (backward_with (schedules_by sb g) (plan_of g w (arrays name)) (first name) 0 u.body) s.store e.store

  abbrev pub UnitDone : ℕ → List ℕ → Procedure → (Var → Shape) → ℕ → Type 0
  UnitDone depth name u sh level = DoneBy (g name).facts (there name) depth name u sh level

  -- so do those of the units of its split calls
  abbrev pub PairDone : Vars → ℕ → List ℕ → Procedure → (Var → Shape) → ℕ → Type 0
  PairDone also depth name u sh level = DoneBy (split_facts (g name) also) true depth name u sh level

  -- so do those of any list in the unit that meets the laws of its statements, from the point that leads to it to the one to which its end leads
  abbrev pub ListDone : ℕ → List ℕ → (Var → Shape) → ℕ → Type 0
  ListDone depth name sh level =
      (i d from to : ℕ) (c : Code) → CallsInside inside c → ListLawsBy (schedules_by sb g) g (g name).facts from i c → WayLaws (g name).facts (last_point from i c) to →
      FitsListBy (schedules_by sb g) lines ps g answers paired carried (there name) (g name).facts.marks (vars name) (arrays name) (handed_back ps) i c → (s e : Scene ℤ) (k left : ℕ) → run (calls_of ps depth) (on_words (plainly sh) level) c s k ≡ Done e left →
      Transposed (calls_of qs depth) lines (calls_of ps depth) sh level (cells_of sh (vars name)) (g name).facts d (there name) (λ x. writes (handed_back ps) x c) (is_plain (g name).facts.marks i c) from to c (forward_with (schedules_by sb g) (plan name) i d c) (backward_with (schedules_by sb g) (plan name) i d c) s.store e.store

  pub record AllDone (depth : ℕ) : Type 0 where
    pub list : (name : List ℕ) (u : Procedure) → find_unit ps name ≡ Some u → IsTrue (inside name) → (sh : Var → Shape) (level : ℕ) → ShapesOf name sh → ListDone depth name sh level
    pub adjoint : (name : List ℕ) (u : Procedure) → find_unit ps name ≡ Some u → IsTrue (inside name) → (sh : Var → Shape) (level : ℕ) → ShapesOf name sh → UnitDone depth name u sh level
    pub pair : (also : Vars) (name : List ℕ) (u : Procedure) → find_unit ps name ≡ Some u → IsTrue (inside name) → paired name ≡ true → (sh : Var → Shape) (level : ℕ) → ShapesOf name sh → PairDone also depth name u sh level

  flags : (name : List ℕ) (u : Procedure) → find_unit ps name ≡ Some u → IsTrue (inside name) → handed_back ps name ≡ map (λ d. (g name).callee.written (plain d)) (g name).callee.dummies
  flags name u found ins =
      let f = fits name u found ins in
      handed_written ps name u found ∙ (λ i. map (λ d. sym (f.wrote d) i) (f.dummies i))

  read_flags : (name : List ℕ) (u : Procedure) → find_unit ps name ≡ Some u → IsTrue (inside name) → looked_at ps name ≡ map (λ d. (g name).read (plain d)) (g name).callee.dummies
  read_flags name u found ins =
      let f = fits name u found ins in
      least_row read_rule read_rises ps name u found ∙ (λ i. map (λ d. sym (f.reads d) i) (f.dummies i))

  module _ (assigns : AssignmentsDone) where
    -- a call in a unit of the name own, where units do so whose calls are of less depth
    module _ (depth : ℕ) (inner : AllDone depth)
        (own : List ℕ) (present : Bool) (sh : Var → Shape) (level : ℕ) (shapes : ShapesOf own sh) (apart_vars : AreApart (vars own))
        (name : List ℕ) (given : List (List ℕ)) (line : ℕ) (s e : Scene ℤ) (k left : ℕ) (kept adjointed : Bool) (ins : IsTrue (inside name)) (shadows_actual : (d a : List ℕ) → IsActual (g name).callee.dummies given d a → In (plain d) (g name).callee.shadowed → In (plain a) (g own).facts.marks.shadowed) (cf : CallFits ps (vars own) (arrays own) (g name) name given)
        (adj : present ≡ true → adjointed ≡ true → answers name ≡ true) (kept_in : present ≡ true → kept ≡ true → carried name ≡ true)
        (h : calls_of ps (suc depth) (on_words (plainly sh) level) name (actuals_named given) line s k ≡ Done e left) where
      abbrev v : Procedure
      v = cf.unit

      abbrev f : UnitFitsBy (schedules_by sb g) lines ps g there answers paired carried name v (first name) (vars name) (arrays name)
      f = fits name v cf.found ins

      abbrev ds : List (List ℕ)
      ds = (g name).callee.dummies

      abbrev xs : List Key
      xs = cells_of sh (vars own)

      abbrev F : Code
      F = forward_with (schedules_by sb g) (plan name) (first name) 0 v.body

      abbrev B : Code
      B = backward_with (schedules_by sb g) (plan name) (first name) 0 v.body

      back : (d a : List ℕ) → IsActual ds given d a → beside given ds a ≡ Some d
      back d a b = beside_back ds given f.dummies_apart cf.apart d a b

      members : (d a : List ℕ) → IsActual ds given d a → In (plain d) ((g name).facts.needed (g name).entry) → In (plain d) (g name).callee.members
      members d a b n = f.laws.members d (beside_key ds given d a b) n

      shadow_shapes : (d a : List ℕ) → IsActual ds given d a → In (plain d) (g name).callee.shadowed → sh (shadow a) ≡ sh (plain a)
      shadow_shapes d a b n = shapes.1 a (shadows_actual d a b n)

      abbrev named0 : AreNamed (λ x. x) v.dummies (bindings nothing ds given)
      named0 = subst (λ l. AreNamed (λ x. x) l (bindings nothing ds given)) (sym f.dummies) (own_named ds given cf.many)

      c : CallDone ps depth (on_words (plainly sh) level) name v cf.found (λ x. x) own_names (bindings nothing ds given) named0 s.store line k left s e
      c = called ps qs depth sh level xs (cells_apart sh (vars own) apart_vars) present (there name) name v cf.found (g name) f.dummies f.wrote given members cf.many f.dummies_apart cf.apart shadow_shapes F B kept adjointed line k left s e h

      -- the unit's store at its entry, and its shapes
      abbrev start : Store ℤ
      start = entry_store words v.dummies (actuals_at (on_words (plainly sh) level) s.store (bindings nothing ds given))

      abbrev shG : Var → Shape
      shG = with_shadow_shapes (g name).callee.shadowed (λ x. shape_of (extents_of words v start x))

      within : setting_in (on_words (plainly sh) level) v start ≡ on_words (plainly shG) (suc level)
      within = inside_words ps qs depth sh level xs (cells_apart sh (vars own) apart_vars) present (there name) name v cf.found (g name) f.dummies f.wrote given members cf.many f.dummies_apart cf.apart shadow_shapes F B kept adjointed line k left s e h

      body_done : run (calls_of ps depth) (on_words (plainly shG) (suc level)) v.body (entered (on_words (plainly sh) level) v (record s { store = start })) k ≡ Done c.end c.left
      body_done = ap (λ n. run (calls_of ps depth) n v.body (entered (on_words (plainly sh) level) v (record s { store = start })) k) (sym within) ∙ c.body

      -- a scalar of the unit has one cell
      unit_known : KnowsArrays (plan name) shG
      unit_known x e = ap (λ es. size_of (shape_of (map (extent_in words start) es))) (f.scalars x e)

      unit_shadows : (x : List ℕ) → (g name).facts.marks.shadowed (plain x) ≡ true → shG (shadow x) ≡ shG (plain x)
      unit_shadows x e = ap (λ b. if b then shape_of (extents_of words v start (plain x)) else scalar) (f.shadowed (plain x) ∙ e)

      sizes : (d a : List ℕ) → IsActual ds given d a → size_of (sh (plain a)) ≡ size_of (shG (plain d))
      sizes d a b =
          fit_size v start (plain d) (sh (plain a)) (λ none. shapes.0 a (cf.ranks d a b none))
          (fit_of v (plainly sh) level start s.store ds given (ap (λ l. dummies_fit words v start l (actuals_at (on_words (plainly sh) level) s.store (bindings nothing ds given))) (sym f.dummies) ∙ c.fit) d a b)

      meet : CellsMeet (g name).callee given xs (cells_of shG (vars name))
      meet = record {
        into = λ x d b j o.
            let r = cells_only sh (vars own) (x, j) o in
            let d_of = beside_back given ds cf.apart f.dummies_apart x d b in
            cells_has shG (vars name) d j (f.dummies_among d (beside_in given ds x d b)) (subst (λ n. j < n) (sizes d x d_of) r.below);
        back = λ x d b j o.
            let r = cells_only shG (vars name) (d, j) o in
            let d_of = beside_back given ds cf.apart f.dummies_apart x d b in
            cells_has sh (vars own) x j (cf.variables x (beside_key given ds x d b)) (subst (λ n. j < n) (sym (sizes d x d_of)) r.below);
      }

      unit_done : Transposed (calls_of qs depth) lines (calls_of ps depth) shG (suc level) (cells_of shG (vars name)) (g name).facts 0 (there name) (λ x. writes (handed_back ps) x v.body) (is_plain (g name).facts.marks (first name) v.body) (g name).entry (g name).end v.body F B start c.end.store
      unit_done = inner.adjoint name v cf.found ins shG (suc level) (unit_known, unit_shadows) (entered (on_words (plainly sh) level) v (record s { store = start })) c.end k c.left body_done

      dual_call : (home : Course) (y : Words) (t : List (ℤ × ℤ)) → CallPasses lines (calls_of ps (suc depth)) (on_duals (plainly sh) level) name (actuals_named given) line home (with_tangents s.store y) (with_tangents e.store (tangents_out nothing ds given unit_done.derivative y)) t unit_done.loops (map (λ d. shG (plain d)) ds)
      unfolding c
      dual_call home y t = call_dual ps qs depth sh level xs (cells_apart sh (vars own) apart_vars) present (there name) name v cf.found (g name) f.dummies f.wrote given members cf.many f.dummies_apart cf.apart shadow_shapes F B kept adjointed line k left s e h (cells_of shG (vars name)) (cells_apart shG (vars name) f.vars_apart) meet sizes (is_plain (g name).facts.marks (first name) v.body) f.inert lines unit_done home y t

      -- from a store that agrees on what the unit reads, the emitted program's call does the same
      agrees_on : (fs : Store ℤ) → ActualsAgree sh (g name).callee given (g name).read s.store fs → (x : Var) → reads_actuals x (looked_at ps name) (actuals_named given) ≡ true → (j : ℕ) → j < size_of (sh x) → fs x j ≡ s.store x j
      agrees_on fs a x r j l =
          let o = read_actual (λ d. (g name).read (plain d)) ds given cf.apart cf.many x (ap (λ ws. reads_actuals x ws (actuals_named given)) (sym (read_flags name v cf.found ins)) ∙ r) in
          let d_of = beside_back given ds cf.apart f.dummies_apart o.name o.dummy o.found in
          ap (λ z. fs z j) o.is ∙ a.at o.dummy o.name d_of o.read j (subst (λ z. j < size_of (sh z)) o.is l) ∙ ap (λ z. s.store z j) (sym o.is)

      pub call_swept : CallTransposed (calls_of qs (suc depth)) lines (calls_of ps (suc depth)) sh level xs (g name) given name line kept adjointed present s.store e.store
      unfolding c
      call_swept =
          call_transposed ps qs depth sh level xs (cells_apart sh (vars own) apart_vars) present (there name) name v cf.found (g name) f.dummies f.wrote given members cf.many f.dummies_apart cf.apart shadow_shapes F B kept adjointed line k left s e h (cells_of shG (vars name)) (cells_apart shG (vars name) f.vars_apart) meet sizes (is_plain (g name).facts.marks (first name) v.body) f.inert lines unit_done (λ pr a. reached name (adj pr a))
          (λ pr a. emitted name v cf.found ins (adj pr a))
          (λ pr kp base fs t a. plain_called ps qs carried common depth (calls_depend ps apart (suc depth)) sh level name (kept_in pr kp) (g name).callee given cf.many cf.apart (flags name v cf.found ins) line s.store e.store
          (map (λ d. shG (plain d)) ds) (λ read. taken_words sh shG (g name).callee read ds given f.dummies_apart cf.many sizes)
          (λ home tape. words_of_dual ps (suc depth) (plainly sh) level name given line s.store e.store (λ y. tangents_out nothing ds given unit_done.derivative y) lines unit_done.loops (map (λ d. shG (plain d)) ds) dual_call home tape)
          base fs t (agrees_on fs a))

      -- ---- where it is split

      -- the facts about its forward and backward unit, where the forward unit agrees with the program on some dummies besides those that are read
      module _ (also : Vars) (is_paired : paired name ≡ true) where
        abbrev pf : PairFits (schedules_by sb g) lines ps g answers paired carried name v (first name) (vars name) (arrays name)
        pf = f.pair is_paired

        abbrev g1 : CalleeFacts
        g1 = split_own (g name) also

        abbrev p1 : Plan
        p1 = plan_of g (split_facts (g name) also) (arrays name)

        abbrev left_there : List (List ℕ)
        left_there = left_of (g name).callee.written ds (vars name)

        abbrev F1 : Code
        F1 = forward_with (schedules_by sb g) p1 (first name) 0 v.body

        abbrev B1 : Code
        B1 = backward_with (schedules_by sb g) p1 (first name) 0 v.body

        abbrev pushed_there : Code
        pushed_there = pushes p1 v.line left_there

        -- the forward unit has no shadows
        abbrev shF : Var → Shape
        shF = with_shadow_shapes nothing (λ x. shape_of (extents_of words v start x))

        abbrev bs0 : Bindings
        bs0 = bindings nothing ds given

        c1 : CallDone ps depth (on_words (plainly sh) level) name v cf.found (λ x. x) own_names (bindings nothing ds given) named0 s.store line k left s e
        c1 = called ps qs depth sh level xs (cells_apart sh (vars own) apart_vars) false true name v cf.found g1 f.dummies f.wrote given (λ d a b n. n) cf.many f.dummies_apart cf.apart shadow_shapes F1 B1 true true line k left s e h

        body_done1 : run (calls_of ps depth) (on_words (plainly shG) (suc level)) v.body (entered (on_words (plainly sh) level) v (record s { store = start })) k ≡ Done c1.end c1.left
        body_done1 = ap (λ n. run (calls_of ps depth) n v.body (entered (on_words (plainly sh) level) v (record s { store = start })) k) (sym within) ∙ c1.body

        pair_done : Transposed (calls_of qs depth) lines (calls_of ps depth) shG (suc level) (cells_of shG (vars name)) (split_facts (g name) also) 0 true (λ x. writes (handed_back ps) x v.body) (is_plain (split_marks (g name).facts.marks) (first name) v.body) (g name).entry (g name).end v.body F1 B1 start c1.end.store
        pair_done = inner.pair also name v cf.found ins is_paired shG (suc level) (unit_known, unit_shadows) (entered (on_words (plainly sh) level) v (record s { store = start })) c1.end k c1.left body_done1

        start_is : start ≡ passed_in (pos 0) bs0 s.store
        start_is = entry_pulled (on_words (plainly sh) level) (λ x. x) own_names v.dummies bs0 s.store named0

        -- the program hands back what the unit has at its end
        program : (d a : List ℕ) → IsActual ds given d a → (j : ℕ) → e.store (plain a) j ≡ c1.end.store (plain d) j
        program d a b j =
            ap (λ (z : Store ℤ). z (plain a) j) c1.store ∙ out_plain (writes_as ps v (λ x. x)) nothing c1.end.store a j ds given cf.apart s.store
            ∙ ap (λ o. found_or o (s.store (plain a) j) (λ d. if is_written ps v d then c1.end.store (plain d) j else s.store (plain a) j)) (back d a b) ∙ by (is_written ps v d) refl
          where
            by : (t : Bool) → is_written ps v d ≡ t → (if t then c1.end.store (plain d) j else s.store (plain a) j) ≡ c1.end.store (plain d) j
            by true w = refl
            by false w =
                sym (keeps_others ps depth (on_words (plainly shG) (suc level)) v.body (entered (on_words (plainly sh) level) v (record s { store = start })) c1.end k c1.left body_done1 (plain d) w j
                ∙ ap (λ (z : Store ℤ). z (plain d) j) start_is ∙ in_plain (pos 0) nothing s.store ds given d j ∙ ap (λ o. found_or o (pos 0) (λ y. s.store (plain y) j)) b)

        fit_is : dummies_fit words v start v.dummies (actuals_at (on_words (plainly sh) level) s.store bs0) ≡ true
        fit_is = c1.fit

        forth_in : UnitEnters qs depth sh level (g name).callee.forth (g name).callee nothing (g name).read given (F1 +++ pushed_there) s.store shF
        forth_in =
            unit_enters qs v (g name).callee.forth (g name).callee nothing (g name).read (F1 +++ pushed_there) (pairs name v cf.found is_paired).0 f.dummies
            (λ d h. f.reads d ∙ or_right (reads (looked_at ps) (plain d) v.body) (is_extent d v.declarations) h) f.dummies_apart depth sh level given cf.many s.store (λ d a b n. absurd (let z : false ≡ true = n in cc)) fit_is

        back_in : UnitEnters qs depth sh level (g name).callee.back (g name).callee (g name).callee.shadowed (λ v. (g name).read v && not ((g name).callee.written v)) given (pops p1 v.line left_there +++ B1) s.store shG
        back_in =
            unit_enters qs v (g name).callee.back (g name).callee (g name).callee.shadowed (λ v. (g name).read v && not ((g name).callee.written v)) (pops p1 v.line left_there +++ B1) (pairs name v cf.found is_paired).1 f.dummies
            (λ d h.
            let r : (g name).read (plain d) ≡ true = f.reads d ∙ or_right (reads (looked_at ps) (plain d) v.body) (is_extent d v.declarations) h in
            let w : (g name).callee.written (plain d) ≡ false = f.wrote d ∙ pf.extents d h in
            rw (r, w) refl) f.dummies_apart depth sh level given cf.many s.store shadow_shapes fit_is

        stays : Stays (F1 +++ pushed_there)
        stays = append_stays F1 pushed_there (list_stays (schedules_by sb g) lines ps g answers paired carried (there name) (g name).facts (vars name) (arrays name) (handed_back ps) (first name) 0 (g name).entry v.body f.code f.laws.laws) (pushes_stay p1 v.line left_there)

        moves : Moves (calls_of qs depth) shG shF (suc level) (F1 +++ pushed_there)
        moves = moves_aside qs depth shG shF (suc level) (F1 +++ pushed_there) stays (λ x. refl) (λ x. sym (outside x ((g name).callee.shadowed (plain (0 ∷ x))))) (λ o l. refl)
          where
            outside : (x : List ℕ) (b : Bool) → (if b then shape_of (extents_of words v start (plain (0 ∷ x))) else scalar) ≡ scalar
            outside x true = ap (λ es. shape_of (map (extent_in words start) es)) (pf.inside x)
            outside x false = refl

        change_of : Words → Words
        change_of = pair_done.change

        pair_called : SplitPair (calls_of qs (suc depth)) sh level xs (g name) given (g name).callee.forth (g name).callee.back line also s.store e.store (shadows_out (g name).callee.shadowed ds given pair_done.change) pair_done.loops
        pair_called base fs t agree =
            forth_called qs depth sh level xs (cells_of shG (vars name)) (cells_apart sh (vars own) apart_vars) (cells_apart shG (vars name) f.vars_apart) (g name) given cf.many f.dummies_apart cf.apart meet
            shG shF sizes p1 unit_known v.line (vars name) (λ x. writes (handed_back ps) x v.body) (λ d. sym (f.wrote d)) pf.written F1 B1
            s.store e.store start c1.end.store start_is program pair_done.change pair_done.loops (g name).callee.forth (g name).callee.back forth_in back_in moves line also (pair_done.sweeps refl) base fs t agree

        -- the program's call, by these facts
        marks_back : (sh : Var → Shape) (m : Marks) (p : ℕ) (y z : Words) → Matches sh (split_marks m) p y z → Matches sh m p y z
        marks_back sh m p y z h = record { support = h.support; shadowed = h.shadowed; equal = h.equal }

        marks_on : (sh : Var → Shape) (m : Marks) (p : ℕ) (y z : Words) → Matches sh m p y z → Matches sh (split_marks m) p y z
        marks_on sh m p y z h = record { support = h.support; shadowed = h.shadowed; equal = h.equal }

        meet1 : CellsMeet g1.callee given xs (cells_of shG (vars name))
        meet1 = record { into = meet.into; back = meet.back }

        inert1 : g1.plain_unit ≡ true → is_plain (split_marks (g name).facts.marks) (first name) v.body ≡ true
        inert1 h = plain_split (g name).facts.marks (first name) v.body ∙ f.inert h

        dual_call1 : (home : Course) (y : Words) (t : List (ℤ × ℤ)) → CallPasses lines (calls_of ps (suc depth)) (on_duals (plainly sh) level) name (actuals_named given) line home (with_tangents s.store y) (with_tangents e.store (tangents_out nothing ds given pair_done.derivative y)) t pair_done.loops (map (λ d. shG (plain d)) ds)
        unfolding c1
        dual_call1 home y t = call_dual ps qs depth sh level xs (cells_apart sh (vars own) apart_vars) false true name v cf.found g1 f.dummies f.wrote given (λ d a b n. n) cf.many f.dummies_apart cf.apart shadow_shapes F1 B1 true true line k left s e h (cells_of shG (vars name)) (cells_apart shG (vars name) f.vars_apart) meet1 sizes (is_plain (split_marks (g name).facts.marks) (first name) v.body) inert1 lines pair_done home y t

        call_kept : SameOff (writes_actual (g name).callee given) s.store e.store
        unfolding c1
        call_kept =
            let t = call_transposed ps qs depth sh level xs (cells_apart sh (vars own) apart_vars) false true name v cf.found g1 f.dummies f.wrote given (λ d a b n. n) cf.many f.dummies_apart cf.apart shadow_shapes F1 B1 true true line k left s e h (cells_of shG (vars name)) (cells_apart shG (vars name) f.vars_apart) meet1 sizes (is_plain (split_marks (g name).facts.marks) (first name) v.body) inert1 lines pair_done (λ pr a. refl) (λ pr a. absurd (let z : false ≡ true = pr in cc)) (λ pr kp base fs t a. absurd (let z : false ≡ true = pr in cc)) in
            record { at = t.off.at }

        split_call : CallTransposed (calls_of qs (suc depth)) lines (calls_of ps (suc depth)) sh level xs (g name) given name line true true false s.store e.store
        split_call = record {
          derivative = pair_done.derivative;
          change = pair_done.change;
          shapes = shG;
          sizes = sizes;
          tangents = λ y z m. marks_back shG (g name).facts.marks (g name).end (pair_done.derivative y) (pair_done.change z) (pair_done.matches y z (marks_on shG (g name).facts.marks (g name).entry y z m));
          unwritten = λ d w y j. pair_done.unwritten (d, j) (sym (f.wrote d) ∙ w) y;
          still = λ o. pair_done.still (inert1 o);
          loops = pair_done.loops;
          none_reversed = λ o. pair_done.none_reversed (inert1 o);
          dual = dual_call1;
          off = call_kept;
          again = λ pr kp. absurd (let z : false ≡ true = pr in cc);
          back = λ pr a. absurd (let z : false ≡ true = pr in cc);
        }

        pub split_by_pair : SplitTransposed (calls_of qs (suc depth)) lines (calls_of ps (suc depth)) sh level xs (g name) given name line also present s.store e.store
        unfolding split_call
        split_by_pair = record { call = split_call; pair = λ pr. pair_called }

      -- where it has no such units, nothing is asked of the sweeps
      split_unpaired : (also : Vars) → (present ≡ true → paired name ≡ true) → paired name ≡ false → SplitTransposed (calls_of qs (suc depth)) lines (calls_of ps (suc depth)) sh level xs (g name) given name line also present s.store e.store
      split_unpaired also asked none =
          let t = call_swept in
          record {
            call = record {
              derivative = t.derivative;
              change = t.change;
              shapes = t.shapes;
              sizes = t.sizes;
              tangents = t.tangents;
              unwritten = t.unwritten;
              still = t.still;
              loops = t.loops;
              none_reversed = t.none_reversed;
              dual = t.dual;
              off = t.off;
              again = λ pr kp. absurd (let z : false ≡ true = pr in cc);
              back = λ pr a. absurd (let z : false ≡ true = pr in cc);
            };
            pair = λ pr. absurd (let z : false ≡ true = sym none ∙ asked pr in cc);
          }

      pub split_swept : (also : Vars) → (present ≡ true → paired name ≡ true) → SplitTransposed (calls_of qs (suc depth)) lines (calls_of ps (suc depth)) sh level xs (g name) given name line also present s.store e.store
      split_swept also asked = by (paired name) refl
        where
          by : (b : Bool) → paired name ≡ b → SplitTransposed (calls_of qs (suc depth)) lines (calls_of ps (suc depth)) sh level xs (g name) given name line also present s.store e.store
          by true is = split_by_pair also is
          by false is = split_unpaired also asked is

    -- what the calls of a unit do, in its sweeps or in those of its pair
    abbrev CallsDone : ℕ → List ℕ → Facts → Bool → (Var → Shape) → ℕ → Type 0
    CallsDone depth name w present sh level = (n : List ℕ) (given : List (List ℕ)) (line : ℕ) (s e : Scene ℤ) (k left : ℕ) (kept adjointed : Bool) → IsTrue (inside n) → ((d a : List ℕ) → IsActual (g n).callee.dummies given d a → In (plain d) (g n).callee.shadowed → In (plain a) w.marks.shadowed) → CallFits ps (vars name) (arrays name) (g n) n given → (present ≡ true → adjointed ≡ true → answers n ≡ true) → (present ≡ true → kept ≡ true → carried n ≡ true) → calls_of ps depth (on_words (plainly sh) level) n (actuals_named given) line s k ≡ Done e left → CallTransposed (calls_of qs depth) lines (calls_of ps depth) sh level (cells_of sh (vars name)) (g n) given n line kept adjointed present s.store e.store

    abbrev SplitsDone : ℕ → List ℕ → Facts → Bool → (Var → Shape) → ℕ → Type 0
    SplitsDone depth name w present sh level = (n : List ℕ) (given : List (List ℕ)) (line : ℕ) (s e : Scene ℤ) (k left : ℕ) (also : Vars) → IsTrue (inside n) → ((d a : List ℕ) → IsActual (g n).callee.dummies given d a → In (plain d) (g n).callee.shadowed → In (plain a) w.marks.shadowed) → CallFits ps (vars name) (arrays name) (g n) n given → (present ≡ true → paired n ≡ true) → calls_of ps depth (on_words (plainly sh) level) n (actuals_named given) line s k ≡ Done e left → SplitTransposed (calls_of qs depth) lines (calls_of ps depth) sh level (cells_of sh (vars name)) (g n) given n line also present s.store e.store

    -- a list of a unit by facts that meet its laws
    list_by : (depth : ℕ) (name : List ℕ) (u : Procedure) → find_unit ps name ≡ Some u → IsTrue (inside name) → (w : Facts) (present : Bool) (i d from to : ℕ) (c : Code) → CallsInside inside c → ListLawsBy (schedules_by sb g) g w from i c → WayLaws w (last_point from i c) to → FitsListBy (schedules_by sb g) lines ps g answers paired carried present w.marks (vars name) (arrays name) (handed_back ps) i c →
        (sh : Var → Shape) (level : ℕ) → KnowsArrays (plan_of g w (arrays name)) sh → ((x : List ℕ) → w.marks.shadowed (plain x) ≡ true → sh (shadow x) ≡ sh (plain x)) → CallsDone depth name w present sh level → SplitsDone depth name w present sh level →
        (s e : Scene ℤ) (k left : ℕ) → run (calls_of ps depth) (on_words (plainly sh) level) c s k ≡ Done e left →
        Transposed (calls_of qs depth) lines (calls_of ps depth) sh level (cells_of sh (vars name)) w d present (λ x. writes (handed_back ps) x c) (is_plain w.marks i c) from to c (forward_with (schedules_by sb g) (plan_of g w (arrays name)) i d c) (backward_with (schedules_by sb g) (plan_of g w (arrays name)) i d c) s.store e.store
    list_by depth name u found ins w present i d from to c within laws ends code sh level known shades calls splits s e k left h =
        let f = fits name u found ins in
        transposed_to (calls_of qs depth) lines (calls_of ps depth) sh level (cells_of sh (vars name)) w d present (λ x. writes (handed_back ps) x c) (is_plain w.marks i c) from (last_point from i c) to c (forward_with (schedules_by sb g) (plan_of g w (arrays name)) i d c) (backward_with (schedules_by sb g) (plan_of g w (arrays name)) i d c) s.store e.store ends
        (list_swept sb (calls_of ps depth) (calls_of qs depth) (at_any_line qs depth) lines (calls_of ps depth) ps (handed_back ps) g answers paired carried inside w present (vars name) (arrays name) f.vars_apart sh level known
        (λ n v o c. (fits n v o c).shadowed) (λ n v o c. (fits n v o c).dummies_apart) flags (λ n v o c. (fits n v o c).laws.shadows) (λ n v o c. (fits n v o c).laws.ends.tangents.shadows)
        (λ c s0 e0 k0 l0 done x n j. keeps_others ps depth (on_words (plainly sh) level) c s0 e0 k0 l0 done x n j)
        calls splits (λ x subs a i d line s0 e0 k0 l0 laws af done. assigns name w present sh level depth known shades f.vars_apart x subs a i d line s0 e0 k0 l0 laws af done)
        c i d from s e k left within code laws h)

    -- a unit by facts that meet its laws
    unit_by : (depth : ℕ) (name : List ℕ) (u : Procedure) → find_unit ps name ≡ Some u → IsTrue (inside name) → (w : Facts) (present : Bool) → ListLawsBy (schedules_by sb g) g w (g name).entry (first name) u.body → WayLaws w (last_point (g name).entry (first name) u.body) (g name).end → FitsListBy (schedules_by sb g) lines ps g answers paired carried present w.marks (vars name) (arrays name) (handed_back ps) (first name) u.body →
        (sh : Var → Shape) (level : ℕ) → KnowsArrays (plan_of g w (arrays name)) sh → ((x : List ℕ) → w.marks.shadowed (plain x) ≡ true → sh (shadow x) ≡ sh (plain x)) → CallsDone depth name w present sh level → SplitsDone depth name w present sh level → DoneBy w present depth name u sh level
    unit_by depth name u found ins w present laws ends code = list_by depth name u found ins w present (first name) 0 (g name).entry (g name).end u.body (closed name u found ins) laws ends code

    -- the facts of a unit's pair meet its laws
    pair_laws : (also : Vars) (name : List ℕ) (u : Procedure) (found : find_unit ps name ≡ Some u) (ins : IsTrue (inside name)) → paired name ≡ true → UnitLawsBy (schedules_by sb g) g (split_own (g name) also) (first name) u.body
    pair_laws also name u found ins is =
        let f = fits name u found ins in
        unit_again (schedules_by sb g) g (looked_at ps) (g name) (first name) u.body also (λ d o r. f.reads d ∙ or_left (reads (looked_at ps) (plain d) u.body) (is_extent d u.declarations) r) (f.pair is).calls f.laws

    all_by : (depth : ℕ) → ((own : List ℕ) (u : Procedure) → find_unit ps own ≡ Some u → IsTrue (inside own) → (w : Facts) → ((x : Var) → w.marks.shadowed x ≡ (g own).facts.marks.shadowed x) → (present : Bool) (sh : Var → Shape) (level : ℕ) → ShapesOf own sh → CallsDone depth own w present sh level × SplitsDone depth own w present sh level) → AllDone depth
    all_by depth calls = record {
      list = λ name u found ins sh level shapes i d from to c within laws ends code.
          let done = calls name u found ins (g name).facts (λ x. refl) (there name) sh level shapes in
          list_by depth name u found ins (g name).facts (there name) i d from to c within laws ends code sh level shapes.0 shapes.1 done.0 done.1;
      adjoint = λ name u found ins sh level shapes.
          let f = fits name u found ins in
          let c = calls name u found ins (g name).facts (λ x. refl) (there name) sh level shapes in
          unit_by depth name u found ins (g name).facts (there name) f.laws.laws f.laws.ends f.code sh level shapes.0 shapes.1 c.0 c.1;
      pair = λ also name u found ins is sh level shapes.
          let f = fits name u found ins in
          let w = split_facts (g name) also in
          let l = pair_laws also name u found ins is in
          let c = calls name u found ins w (λ x. refl) true sh level shapes in
          unit_by depth name u found ins w true l.laws l.ends (f.pair is).code sh level shapes.0 shapes.1 c.0 c.1;
    }

    pub units_swept : (depth : ℕ) → AllDone depth
    units_swept zero = all_by zero (λ own u found ins w same present sh level shapes. ((λ n given line s e k left kept adjointed c sa cf adj kp h. absurd (cc)), (λ n given line s e k left also c sa cf asked h. absurd (cc))))
    units_swept (suc depth) =
        all_by (suc depth) (λ own u found ins w same present sh level shapes. (
          (λ n given line s e k left kept adjointed c sa cf adj kp h. call_swept depth (units_swept depth) own present sh level shapes (fits own u found ins).vars_apart n given line s e k left kept adjointed c (λ d a b z. sym (same (plain a)) ∙ sa d a b z) cf adj kp h),
          (λ n given line s e k left also c sa cf asked h. split_swept depth (units_swept depth) own present sh level shapes (fits own u found ins).vars_apart n given line s e k left false false c (λ d a b z. sym (same (plain a)) ∙ sa d a b z) cf (λ pr a. absurd (let z : false ≡ true = a in cc)) (λ pr a. absurd (let z : false ≡ true = a in cc)) h also asked),
        ))

  -- assignments are transposed
  pub assignments_done : AssignmentsDone
  assignments_done name w present sh level depth known shades apart_vars x subs a i d line s e k left laws af h =
      assign_done (calls_of ps depth) (calls_of qs depth) lines (calls_of ps depth) g w (arrays name) (vars name) apart_vars present sh level known shades x subs a i d line laws af s e k left h

  -- the sweeps of each unit transpose the derivative of its body along each run that is done
  pub unit_swept : (depth : ℕ) (name : List ℕ) (u : Procedure) → find_unit ps name ≡ Some u → IsTrue (inside name) → (sh : Var → Shape) (level : ℕ) → ShapesOf name sh → UnitDone depth name u sh level
  unit_swept depth = (units_swept assignments_done depth).adjoint

  -- and so they do as the theorem on lists states it, where the unit's adjoint is emitted
  pub unit_transposes : (depth : ℕ) (name : List ℕ) (u : Procedure) → find_unit ps name ≡ Some u → IsTrue (inside name) → there name ≡ true → (sh : Var → Shape) (level : ℕ) → ShapesOf name sh → (s e : Scene ℤ) (k left : ℕ) → run (calls_of ps depth) (on_words (plainly sh) level) u.body s k ≡ Done e left →
      TransposesList (schedules_by sb g) (calls_of qs depth) lines (calls_of ps depth) sh level (cells_of sh (vars name)) (plan name) (g name).facts 0 (λ x. writes (handed_back ps) x u.body) (first name) (g name).entry (g name).end u.body s.store e.store
  unit_transposes depth name u found ins th sh level shapes s e k left h =
      list_transposes (schedules_by sb g) (calls_of qs depth) lines (calls_of ps depth) sh level (cells_of sh (vars name)) (λ key o. (cells_only sh (vars name) key o).below) (plan name) (g name).facts 0 (λ x. writes (handed_back ps) x u.body) (is_plain (g name).facts.marks (first name) u.body) (first name) (g name).entry (g name).end u.body s.store e.store (fits name u found ins).laws.shadows
      (subst (λ b. Transposed (calls_of qs depth) lines (calls_of ps depth) sh level (cells_of sh (vars name)) (g name).facts 0 b (λ x. writes (handed_back ps) x u.body) (is_plain (g name).facts.marks (first name) u.body) (g name).entry (g name).end u.body (forward_with (schedules_by sb g) (plan name) (first name) 0 u.body) (backward_with (schedules_by sb g) (plan name) (first name) 0 u.body) s.store e.store) th (unit_swept depth name u found ins sh level shapes s e k left h))

  -- and so do those of its lists
  pub parts_transpose : (depth : ℕ) (name : List ℕ) (u : Procedure) → find_unit ps name ≡ Some u → IsTrue (inside name) → there name ≡ true → (sh : Var → Shape) (level : ℕ) → ShapesOf name sh →
      (i d from to : ℕ) (c : Code) → CallsInside inside c → ListLawsBy (schedules_by sb g) g (g name).facts from i c → WayLaws (g name).facts (last_point from i c) to →
      FitsListBy (schedules_by sb g) lines ps g answers paired carried (there name) (g name).facts.marks (vars name) (arrays name) (handed_back ps) i c →
      ((v : Var) → In v ((g name).facts.marks.varied from) → In v ((g name).facts.marks.useful from) → In v (g name).facts.marks.shadowed) →
      (s e : Scene ℤ) (k left : ℕ) → run (calls_of ps depth) (on_words (plainly sh) level) c s k ≡ Done e left →
      TransposesList (schedules_by sb g) (calls_of qs depth) lines (calls_of ps depth) sh level (cells_of sh (vars name)) (plan name) (g name).facts d (λ x. writes (handed_back ps) x c) i from to c s.store e.store
  parts_transpose depth name u found ins th sh level shapes i d from to c within laws ends code shadows s e k left h =
      list_transposes (schedules_by sb g) (calls_of qs depth) lines (calls_of ps depth) sh level (cells_of sh (vars name)) (λ key o. (cells_only sh (vars name) key o).below) (plan name) (g name).facts d (λ x. writes (handed_back ps) x c) (is_plain (g name).facts.marks i c) i from to c s.store e.store shadows
      (subst (λ b. Transposed (calls_of qs depth) lines (calls_of ps depth) sh level (cells_of sh (vars name)) (g name).facts d b (λ x. writes (handed_back ps) x c) (is_plain (g name).facts.marks i c) from to c (forward_with (schedules_by sb g) (plan name) i d c) (backward_with (schedules_by sb g) (plan name) i d c) s.store e.store) th ((units_swept assignments_done depth).list name u found ins sh level shapes i d from to c within laws ends code s e k left h))

  pub pair_transposes : (depth : ℕ) (name : List ℕ) (u : Procedure) → find_unit ps name ≡ Some u → IsTrue (inside name) → paired name ≡ true → (also : Vars) (sh : Var → Shape) (level : ℕ) → ShapesOf name sh → (s e : Scene ℤ) (k left : ℕ) → run (calls_of ps depth) (on_words (plainly sh) level) u.body s k ≡ Done e left →
      TransposesList (schedules_by sb g) (calls_of qs depth) lines (calls_of ps depth) sh level (cells_of sh (vars name)) (plan_of g (split_facts (g name) also) (arrays name)) (split_facts (g name) also) 0 (λ x. writes (handed_back ps) x u.body) (first name) (g name).entry (g name).end u.body s.store e.store
  pair_transposes depth name u found ins is also sh level shapes s e k left h =
      list_transposes (schedules_by sb g) (calls_of qs depth) lines (calls_of ps depth) sh level (cells_of sh (vars name)) (λ key o. (cells_only sh (vars name) key o).below) (plan_of g (split_facts (g name) also) (arrays name)) (split_facts (g name) also) 0 (λ x. writes (handed_back ps) x u.body) (is_plain (split_marks (g name).facts.marks) (first name) u.body) (first name) (g name).entry (g name).end u.body s.store e.store (fits name u found ins).laws.shadows
      ((units_swept assignments_done depth).pair also name u found ins is sh level shapes s e k left h)

  pub call_split : (depth : ℕ) (own name : List ℕ) (given : List (List ℕ)) → AreApart (vars own) → CallFits ps (vars own) (arrays own) (g name) name given → IsTrue (inside name) → paired name ≡ true →
      ((d a : List ℕ) → IsActual (g name).callee.dummies given d a → In (plain d) (g name).callee.shadowed → In (plain a) (g own).facts.marks.shadowed) → (also : Vars) (sh : Var → Shape) (level : ℕ) → ShapesOf own sh → (line : ℕ) (s e : Scene ℤ) (k left : ℕ) → calls_of ps (suc depth) (on_words (plainly sh) level) name (actuals_named given) line s k ≡ Done e left →
      SplitDone (calls_of qs (suc depth)) sh level (cells_of sh (vars own)) (g name) given (g name).callee.forth (g name).callee.back line also s.store e.store
  call_split depth own name given apart_own cf ins is sa also sh level shapes line s e k left h =
      let t = split_swept assignments_done depth (units_swept assignments_done depth) own true sh level shapes apart_own name given line s e k left false false ins sa cf (λ pr a. absurd (let z : false ≡ true = a in cc)) (λ pr a. absurd (let z : false ≡ true = a in cc)) h also (λ pr. is) in
      record { change = shadows_out (g name).callee.shadowed (g name).callee.dummies given t.call.change; loops = t.call.loops; pair = t.pair refl }

pub units_transpose : UnitsTranspose
units_transpose sb lines ps qs g there answers paired carried first vars arrays h depth name u found ins th sh level shapes s e k left done =
    unit_transposes sb lines ps qs g there answers paired carried first vars arrays h.inside h.closed h.units h.apart h.common h.emitted h.adjoints h.pairs depth name u found ins th sh level (shapes.scalars, shapes.shadows) s e k left done

pub pairs_transpose : PairsTranspose
pairs_transpose sb lines ps qs g there answers paired carried first vars arrays h depth name u found ins is also sh level shapes s e k left done =
    pair_transposes sb lines ps qs g there answers paired carried first vars arrays h.inside h.closed h.units h.apart h.common h.emitted h.adjoints h.pairs depth name u found ins is also sh level (shapes.scalars, shapes.shadows) s e k left done

pub calls_split : CallsSplit
calls_split sb lines ps qs g there answers paired carried first vars arrays h depth own name given apart cf ins is sa also sh level shapes line s e k left done =
    call_split sb lines ps qs g there answers paired carried first vars arrays h.inside h.closed h.units h.apart h.common h.emitted h.adjoints h.pairs depth own name given apart cf ins is sa also sh level (shapes.scalars, shapes.shadows) line s e k left done

pub lists_transpose : ListsTranspose
lists_transpose sb lines ps qs g there answers paired carried first vars arrays h depth name u found ins th sh level shapes i d from to c within laws ends code shadows s e k left done =
    parts_transpose sb lines ps qs g there answers paired carried first vars arrays h.inside h.closed h.units h.apart h.common h.emitted h.adjoints h.pairs depth name u found ins th sh level (shapes.scalars, shapes.shadows) i d from to c within laws ends code shadows s e k left done
