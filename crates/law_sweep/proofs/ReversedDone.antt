-- A marked loop that is reversed by a schedule and was done: its derivative and its sweeps.
use Rattle.std.proofs.Common.{◌≡◌, ◌<◌, ℕ, zero, suc, ◌+◌, Bool, true, false, List, ◌∷◌, ◌++◌, refl, sym, ap, ◌∙◌, subst, arith}
use Rattle.std.specs.Prelude.{ℤ, pos, Ok, ◌&&◌, ◌||◌, not, Some}
use Rattle.adj_tree.specs.Code.{Var, plain, shadow, name_eq, Term, none, assign, loop, call, runtime, push_word, pop_word, Code, stop}
use Rattle.adj_word.specs.Word.{wrap, add}
use Rattle.adj_word.specs.Pairing.{put, stands_in, IsApart}
use Rattle.def_meaning.specs.Append.{◌+++◌, one}
use Rattle.def_meaning.specs.Store.{Shape, size_of, Store, set}
use Rattle.def_meaning.specs.Value.{Setting, value}
use Rattle.def_meaning.specs.Run.{Calls, trips, in_force}
use Rattle.def_meaning.specs.Read.{reads_term}
use Rattle.def_names.specs.Numbers.{Vars}
use Rattle.def_sweep.specs.Marks.{Marks}
use Rattle.def_names.specs.Numbering.{point_before, point_after}
use Rattle.def_sweep.specs.Marked.{code_if}
use Rattle.def_sweep.specs.Facts.{In, joined, Facts}
use Rattle.def_meaning.specs.Apart.{AreApart}
use Rattle.law_sweep.specs.Pairs.{Key, key_eq, Words, with_tangents, on_words, on_duals}
use Rattle.law_sweep.specs.Scenes.{Course}
use Rattle.def_names.proofs.Variables.{or_false}
use Rattle.def_sweep.specs.Plan.{Plan, actuals_named, Step, writes_actual}
use Rattle.def_sweep.specs.Rows.{resets, literal}
use Rattle.def_sweep.specs.ReversalCode.{row_forward, row_backward}
use Rattle.def_sweep.specs.Callees.{nothing, CalleeFacts}
use Rattle.law_sweep.specs.Laws.{just, point_inside, ReversedLaws}
use Rattle.law_sweep.specs.Kernel.{ReversalFits, AllText}
use Rattle.law_sweep.specs.Passing.{plainly}
use Rattle.def_sweep.specs.Reversals.{LoopRun, ReversedLines}
use Rattle.law_sweep.specs.ReversedRow.{ReversedRow}
use Rattle.law_sweep.specs.Runs.{Passes, SameOn}
use Rattle.law_sweep.specs.Steps.{StepFits, changes, loops_of}
use Rattle.def_sweep.specs.StepUnits.{step_units}
use Rattle.law_sweep.specs.Theorem.{plan_of}
use Rattle.law_sweep.proofs.Runs.{passes_one}
use Rattle.law_sweep.proofs.Sweeps.{Matches}
use Rattle.law_sweep.proofs.Transposed.{Transposed, matches_way}
use Rattle.law_sweep.proofs.Evaluations.{value_dual}
use Rattle.law_sweep.proofs.Snapshots.{KnowsArrays}
use Rattle.law_sweep.proofs.CallTangents.{tangents_out, shadows_out}
use Rattle.law_sweep.proofs.CallSweeps.{CallTransposed}
use Rattle.law_sweep.proofs.CallStatements.{call_matches, call_unwritten}
use Rattle.law_sweep.proofs.Slots.{slots_marked, force_dual}
use Rattle.law_sweep.proofs.Turns.{TurnsPass}
use Rattle.law_sweep.proofs.Loops.{loop_passes_own, turning}
use Rattle.law_sweep.proofs.LoopTangents.{LoopTangents, set_dual, put_there, matches_cut, tangents_none, tangents_more}
use Rattle.law_sweep.proofs.LoopEnds.{reset_words, reset_other, reset_zero, ended_sweeps}
use Rattle.law_sweep.proofs.StepRuns.{turns_few}
use Rattle.law_sweep.proofs.StepCalls as calls
use Rattle.law_sweep.proofs.StepCalls.{AtAnyLine}
use Rattle.law_sweep.proofs.ReversedLoops.{reversed_rows_turn}

not_true : false ≡ true → ⊥
not_true e = cc

module _ (q : Calls ℤ) (free : AtAnyLine q) (lines : ReversedLines) (qd : Calls (ℤ × ℤ)) (sh : Var → Shape) (level : ℕ) (xs : List Key) (apart : IsApart key_eq xs) (w : Facts) (d : ℕ) (present carried : Bool) (callees : List ℕ → CalleeFacts) (arrays : Vars) (known : KnowsArrays (plan_of callees w arrays) sh) (i line at : ℕ) (x : List ℕ) (one_cell : size_of (sh (plain x)) ≡ 1) (in_list : stands_in key_eq (x, 0) xs ≡ true) (ea eb ec : Term) (s : Step) (text_a : AllText (λ v. reads_term v ea)) (text_b : AllText (λ v. reads_term v eb)) (text_c : AllText (λ v. reads_term v ec))
    (laws : ReversedLaws w i x ea eb ec s.mark (callees s.name) s.given) (read_is : s.read ≡ (callees s.name).read) (own_line : lines line ≡ Some (step_units s.name (callees s.name).callee s.read)) (fits : ReversalFits (callees s.name) present carried s)
    (own : (v : Var) → (callees s.name).callee.shadowed v ≡ (callees s.name).facts.marks.shadowed v) (apart_ds : AreApart (callees s.name).callee.dummies) (apart_given : AreApart s.given) (entry_shadows : (v : Var) → In v ((callees s.name).facts.marks.varied (callees s.name).entry) → In v ((callees s.name).facts.marks.useful (callees s.name).entry) → In v (callees s.name).facts.marks.shadowed) (end_shadows : (v : Var) → In v ((callees s.name).facts.marks.varied (callees s.name).end) → In v ((callees s.name).facts.marks.useful (callees s.name).end) → In v (callees s.name).facts.marks.shadowed)
    (x_free : writes_actual (callees s.name).callee s.given (plain x) ≡ false) where
  abbrev g : CalleeFacts
  g = callees s.name

  abbrev ds : List (List ℕ)
  ds = g.callee.dummies

  abbrev m : Marks
  m = w.marks

  abbrev plan : Plan
  plan = plan_of callees w arrays

  abbrev wr : Vars
  wr = writes_actual g.callee s.given

  abbrev wrote : Vars
  wrote = joined (just (plain x)) wr

  abbrev np : Setting ℤ
  np = on_words (plainly sh) level

  abbrev nd : Setting (ℤ × ℤ)
  nd = on_duals (plainly sh) level

  abbrev inside : ℕ
  inside = point_inside i

  abbrev last : ℕ
  last = point_after (suc i)

  abbrev body : Code
  body = one at (call s.name (actuals_named s.given))

  abbrev this : Code
  this = one line (loop (plain x) ea eb ec body s.mark)

  -- a turn
  abbrev Called' : Store ℤ → Store ℤ → Type 0
  Called' u u' = CallTransposed q lines qd sh level xs g s.given s.name at true true present u u'

  -- what it makes of tangents; its sweeps are those of the loop
  abbrev turn_transposed : (u u' : Store ℤ) → Called' u u' → Transposed q lines qd sh level xs w (suc d) false wr false inside last body stop stop u u'
  turn_transposed u u' c = record {
    derivative = tangents_out nothing ds s.given c.derivative;
    change = shadows_out g.callee.shadowed ds s.given c.change;
    loops = c.loops;
    dual = λ home y t. passes_one qd nd lines c.loops at (call s.name (actuals_named s.given)) home (with_tangents u y) (with_tangents u' (tangents_out nothing ds s.given c.derivative y)) t (let p = c.dual home y t in record { later = p.later; tells = p.marks; runs = p.runs });
    sweeps = λ e. absurd (not_true e);
    matches = λ y z h.
        call_matches q lines qd sh level xs w (suc i) g s.given laws.call own apart_ds apart_given entry_shadows end_shadows s.name at true true present u u' c y z
        (matches_way sh m inside (point_before (suc i)) y z laws.inside.tangents h);
    unwritten = λ k h y. call_unwritten q lines qd sh level xs w (suc i) g s.given laws.call own apart_ds apart_given entry_shadows end_shadows s.name at true true present u u' c k h y;
    still = λ e. absurd (not_true e);
    none_reversed = λ e. absurd (not_true e);
  }

  module _ (a0 b0 c0 : ℤ) (l : ℕ) (u u' : Store ℤ) (is_a : value np ea u ≡ Ok a0) (is_b : value np eb u ≡ Ok b0) (is_c : value np ec u ≡ Ok c0) (turns_is : trips s.mark a0 b0 c0 ≡ Ok l) (snapshots : ℕ) (force_is : in_force np s.mark u ≡ Some snapshots) (U U' : ℕ → Store ℤ)
      (starts : U 0 ≡ set u (plain x) 0 (wrap a0)) (nexts : (j : ℕ) → j < l → U (suc j) ≡ set (U' j) (plain x) 0 (add (U' j (plain x) 0) c0)) (ends : U l ≡ u') (each : (j : ℕ) → j < l → Called' (U j) (U' j)) where
    -- the calls of the turns, and what they make
    abbrev made : calls.Made q free lines qd sh level xs g s.given s.name present line at x x_free l a0 c0 u U U' starts nexts each
    made = calls.made q free lines qd sh level xs g s.given s.name present line at x x_free l a0 c0 u U U' starts nexts each

    abbrev change_at : ℕ → Words → Words
    change_at = calls.change_at q free lines qd sh level xs g s.given s.name present line at x x_free l a0 c0 u U U' starts nexts each

    abbrev loops_at : ℕ → List LoopRun
    loops_at = calls.loops_at q free lines qd sh level xs g s.given s.name present line at x x_free l a0 c0 u U U' starts nexts each

    abbrev all_loops : List LoopRun
    all_loops = loops_of loops_at 0 l

    abbrev Turned : ℕ → Store ℤ → Type 0
    Turned n a = LoopTangents q lines qd sh level xs w d false x one_cell c0 inside last laws.step_tangents body stop stop wr x_free false n a u'

    -- the turns from the j-th on
    record TurnsFrom (n j : ℕ) (a : Store ℤ) : Type 0 where
      tangents : Turned n a
      change_is : (y : Words) → tangents.change y ≡ changes change_at j n y
      loops_are : tangents.loops ≡ loops_of loops_at j n

    from : (n j : ℕ) → j + n ≡ l → TurnsFrom n j (U j)
    from zero j e =
        let here : j ≡ l = omega (arith, e) in
        subst (λ (z : Store ℤ). TurnsFrom 0 j z) (sym (ap U here ∙ ends))
        (record { tangents = tangents_none q lines qd sh level xs w d false x one_cell c0 inside last laws.step_tangents body stop stop wr x_free false u'; change_is = λ y. refl; loops_are = refl })
    from (suc n) j e =
        let less : j < l = omega (arith, e) in
        let t = made.is j less in
        let r = subst (λ (z : Store ℤ). TurnsFrom n (suc j) z) (nexts j less) (from n (suc j) (omega (arith, e))) in
        record {
          tangents = tangents_more q lines qd sh level xs w d false x one_cell c0 inside last laws.step_tangents body stop stop wr x_free false n (U j) (U' j) u' (turn_transposed (U j) (U' j) t.call) r.tangents;
          change_is = λ y. r.change_is (shadows_out g.callee.shadowed ds s.given t.call.change y) ∙ ap (λ (f : Words → Words). changes change_at (suc j) n (f y)) (sym t.change_is);
          loops_are = λ k. r.loops_are k ++ sym t.loops_are k;
        }

    none_before : 0 + l ≡ l
    none_before = omega arith

    all : TurnsFrom l 0 (set u (plain x) 0 (wrap a0))
    all = subst (λ (z : Store ℤ). TurnsFrom l 0 z) starts (from l 0 none_before)

    abbrev derivative : Words → Words
    derivative y = all.tangents.derivative (put key_eq y (x, 0) (pos 0))

    abbrev reset_by : Bool → Words → Words
    reset_by r z = reset_words sh x one_cell r z

    abbrev change : Words → Words
    change z = changes change_at 0 l (reset_by (resets m i x) z)

    abbrev own_run : LoopRun
    own_run = record { mark = record { line = line; turns = l; snapshots = snapshots }; step = step_units s.name g.callee g.read }

    dual_loop : (home : Course) (y : Words) (t : List (ℤ × ℤ)) → Passes lines qd nd this home (with_tangents u y) (with_tangents u' (derivative y)) t (own_run ∷ all_loops)
    dual_loop home y t =
        let va = value_dual (plainly sh) level u y ea a0 is_a in
        let vb = value_dual (plainly sh) level u y eb b0 is_b in
        let vc = value_dual (plainly sh) level u y ec c0 is_c in
        let turns = all.tangents.dual home (put key_eq y (x, 0) (pos 0)) t in
        passes_one qd nd lines (own_run ∷ all_loops) line (loop (plain x) ea eb ec body s.mark) home (with_tangents u y) (with_tangents u' (derivative y)) t
        (loop_passes_own lines all_loops qd nd line (plain x) ea eb ec body s.mark snapshots (step_units s.name g.callee g.read) (own_line ∙ ap (λ (z : Vars). Some (step_units s.name g.callee z)) read_is) home (with_tangents u y) (with_tangents u' (derivative y)) (force_dual (plainly sh) level u y s.mark ∙ force_is) t (a0, va.tangent) (b0, vb.tangent) (c0, vc.tangent) l va.is vb.is vc.is turns_is
        (subst (λ (f : Store (ℤ × ℤ)). TurnsPass lines qd nd l body (plain x) c0 home f (with_tangents u' (derivative y)) t all_loops) (sym (set_dual x u y (wrap a0)))
        (subst (λ z. TurnsPass lines qd nd l body (plain x) c0 home (with_tangents (set u (plain x) 0 (wrap a0)) (put key_eq y (x, 0) (pos 0))) (with_tangents u' (derivative y)) t z) all.loops_are turns)))

    matches_loop : (y z : Words) → Matches sh m (point_before i) y z → Matches sh m (point_after i) (derivative y) (change z)
    matches_loop y z h =
        let zero_there = reset_zero sh x one_cell m i (resets m i x) refl y z h in
        subst (λ (v : Words). Matches sh m (point_after i) (derivative y) v) (all.change_is (reset_by (resets m i x) z))
        (matches_way sh m inside (point_after i) (derivative y) (all.tangents.change (reset_by (resets m i x) z)) laws.exit.tangents
        (all.tangents.matches (put key_eq y (x, 0) (pos 0)) (reset_by (resets m i x) z)
        (matches_cut sh x one_cell m (point_before i) inside y z (reset_by (resets m i x) z) laws.entry_tangents h (λ k e. reset_other sh x one_cell (resets m i x) z k e) zero_there) zero_there))

    unwritten_loop : (k : Key) → wrote (plain k.0) ≡ false → (y : Words) → (derivative y k ≡ y k) × (change y k ≡ y k)
    unwritten_loop k o y =
        let e = or_false (name_eq k.0 x) (wr (plain k.0)) o in (
          (all.tangents.unwritten k e.0 e.1 (put key_eq y (x, 0) (pos 0))).0 ∙ put_there sh x one_cell y k e.0,
          sym (ap (λ (v : Words). v k) (all.change_is (reset_by (resets m i x) y))) ∙ (all.tangents.unwritten k e.0 e.1 (reset_by (resets m i x) y)).1 ∙ reset_other sh x one_cell (resets m i x) y k e.0,
        )

    -- ---- the sweeps

    step_fits : StepFits q sh level xs line x g s.given s.name plan
    step_fits = record {
      scalars = known;
      one_cell = one_cell;
      dummies_apart = apart_ds;
      given_apart = apart_given;
      keeps_variable = x_free;
      other_name = fits.other_name;
      other_adjoint = fits.other_adjoint;
    }

    rows : present ≡ true → (b : Course) (f : Store ℤ) (t : List ℤ) → SameOn sh (w.needed (point_before i)) u f → ReversedRow q sh level xs d x wrote (w.needed (point_after i)) (w.held (point_after i)) (w.held (point_before i)) (row_forward plan i (suc d) line x ea eb ec s) (row_backward plan i (suc d) line x s) b u' f t (changes change_at 0 l) (own_run ∷ all_loops)
    rows pr b f t same =
        subst (λ (z : Store ℤ). ReversedRow q sh level xs d x wrote (w.needed (point_after i)) (w.held (point_after i)) (w.held (point_before i)) (row_forward plan i (suc d) line x ea eb ec s) (row_backward plan i (suc d) line x s) b z f t (changes change_at 0 l) (own_run ∷ all_loops)) ends
        (subst (λ (z : Vars). let v : Step = record { name = s.name; given = s.given; read = z; mark = s.mark } in ReversedRow q sh level xs d x wrote (w.needed (point_after i)) (w.held (point_after i)) (w.held (point_before i)) (row_forward plan i (suc d) line x ea eb ec v) (row_backward plan i (suc d) line x v) b (U l) f t (changes change_at 0 l) (own_run ∷ all_loops)) (sym read_is)
        (reversed_rows_turn q sh level xs line x callees s.given s.name w arrays step_fits i d ea eb ec s.mark fits.slots laws text_a text_b text_c l snapshots (turns_few s.mark a0 b0 c0 l (slots_marked s.mark fits.slots) turns_is) u a0 b0 c0 is_a is_b is_c (turning s.mark a0 b0 c0 l turns_is).plainly force_is change_at loops_at U U' starts nexts (calls.steps q free lines qd sh level xs g s.given s.name present line at x x_free l a0 c0 u U U' starts nexts each pr) line b f t same))

    abbrev forward_code : Code
    forward_code = code_if (m.kept i || m.adjointed i) (code_if (m.saved i (plain x)) (one line (runtime (push_word (plain x) none))) +++ row_forward plan i (suc d) line x ea eb ec s)

    abbrev backward_code : Code
    backward_code = code_if (m.kept i || m.adjointed i) (row_backward plan i (suc d) line x s +++ (code_if (m.saved i (plain x)) (one line (runtime (pop_word (plain x) none))) +++ code_if (resets m i x) (one line (assign (shadow x) none (literal 0)))))

    pub transposed_reversed : (inert : Bool) → Transposed q lines qd sh level xs w d present wrote (not (m.adjointed i) && inert) (point_before i) (point_after i) this forward_code backward_code u u'
    transposed_reversed inert = record {
      derivative = derivative;
      change = change;
      loops = own_run ∷ all_loops;
      dual = dual_loop;
      sweeps = λ pr.
          rw laws.kept
          (ended_sweeps q sh level xs apart line x one_cell in_list d (w.needed (point_before i)) (w.needed (point_after i)) (w.needed (point_after i)) (w.held (point_before i)) (w.held (point_after i)) wrote (row_forward plan i (suc d) line x ea eb ec s) (row_backward plan i (suc d) line x s) u u' (changes change_at 0 l) (own_run ∷ all_loops) (m.saved i (plain x)) (resets m i x)
          (λ h. laws.saves_variable h) (λ y h. h) (λ y n. (or_false (name_eq y x) (wr (plain y)) n).0) (rows pr));
      matches = matches_loop;
      unwritten = unwritten_loop;
      still = λ e. absurd (let n : false ≡ true = ap (λ b. not b && inert) (sym laws.adjointed) ∙ e in cc);
      none_reversed = λ e. absurd (let n : false ≡ true = ap (λ b. not b && inert) (sym laws.adjointed) ∙ e in cc);
    }
