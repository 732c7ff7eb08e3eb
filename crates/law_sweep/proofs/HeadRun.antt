-- The run of the head's adjoint, from its input: it ends, its tape is empty, and its body reverses the head's.
use Rattle.std.proofs.Common.{◌≡◌, ℕ, ◌+◌, ◌<◌, Bool, true, false, List, [], ◌++◌, map, refl, sym, ap, ◌∙◌, subst, if◌then◌else◌}
use Rattle.std.specs.Prelude.{ℤ, pos, Option, Some, None, reverse}
use Rattle.adj_tree.specs.Code.{Var, plain, shadow, helper, var_eq, Procedure}
use Rattle.adj_word.specs.Dot.{dot}
use Rattle.adj_word.specs.Pairing.{pairing}
use Rattle.adj_word.proofs.Pairings.{pairing_comm}
use Rattle.adj_word.proofs.DotProducts.{dot_comm}
use Rattle.def_meaning.specs.Numbers.{words, duals}
use Rattle.def_meaning.specs.Store.{Shape, scalar, Store, size_of}
use Rattle.def_meaning.specs.Value.{Setting}
use Rattle.def_meaning.specs.Scene.{Scene, Outcome, Done, Trapped, More, Full}
use Rattle.def_meaning.specs.Run.{run}
use Rattle.def_meaning.specs.Written.{writes, handed_back}
use Rattle.def_meaning.specs.Units.{Slot, Output, calls_of, extent_in, extents_of, shape_of, from_slot, slot_of, input_store, fits, run_unit}
use Rattle.def_meaning.specs.Seen.{pulled, pulled_scene, pulled_outcome}
use Rattle.law_meaning.proofs.Inversions.{done_same}
use Rattle.law_meaning.proofs.Renamed.{run_renamed}
use Rattle.def_meaning.specs.Apart.{has_name, AreApart}
use Rattle.def_sweep.specs.Naming.{Named, naming}
use Rattle.def_names.specs.Numbers.{Vars}
use Rattle.def_sweep.specs.Marked.{names_in}
use Rattle.def_sweep.specs.Facts.{Facts}
use Rattle.law_sweep.specs.Pairs.{Key, Words, with_tangents, on_words, on_duals}
use Rattle.law_sweep.specs.Scenes.{scene, masked_shadows}
use Rattle.def_sweep.specs.MarkedAdjoint.{shadow_flags, joined_by, shadow_cells, SuitHead}
use Rattle.def_names.specs.Variables.{variables}
use Rattle.def_sweep.specs.Declared.{unmarked}
use Rattle.def_sweep.specs.Tangents as slots
use Rattle.def_sweep.specs.Tangents.{Ends, AreAlike, IsDirection, Agrees, OthersAreZero, product, marked_cells, with_direction, tangents_of, reversals}
use Rattle.law_sweep.proofs.ScalarSlots.{direction, dual_store}
use Rattle.def_sweep.specs.Plan.{Plan, Callee}
use Rattle.law_sweep.specs.Cells.{cells_of}
use Rattle.law_sweep.specs.Passing.{plainly}
use Rattle.std.proofs.lemmas.List.{append-nil, reverse-reverse}
use Rattle.def_sweep.specs.Adjoint.{TransposesBy}
use Rattle.def_sweep.specs.Reversals.{ReversesLoops, AreReversed, runs_in, reversals_in, ReversedLines}
use Rattle.law_sweep.specs.Tells.{in_order}
use Rattle.law_sweep.proofs.Told.{runs_in-append, in_order-append, in_order-reverse}
use Rattle.law_sweep.specs.Runs.{Passes}
use Rattle.def_sweep.specs.Emission.{adjoint_body_with}
use Rattle.law_sweep.specs.Emitted.{DeclaredAlike}
use Rattle.law_sweep.specs.Environment.{UnitFitsBy}
use Rattle.law_sweep.specs.Lists.{AreVaried, AreReady, TransposesList}
use Rattle.def_sweep.specs.Marking.{ProgramMarks, ProgramFacts, facts_in, arrays_of, callee_facts, callee_of, plan_in, first_statement, entry_point, end_point}
use Rattle.def_sweep.specs.Program.{adjoint_names_with, has_adjoint, has_pair, answers, is_carried_with, all_units, adjoint_unit_with, schedules_in}
use Rattle.law_sweep.specs.Source.{variables_of, arrays_in, SourceFitsWith}
use Rattle.law_sweep.specs.Theorem.{ShapesFit, plan_of}
use Rattle.def_sweep.specs.Schedules.{schedules_by}
use Rattle.law_sweep.proofs.Calls.{shadow_undeclared, helper_undeclared, extents_dual}
use Rattle.law_sweep.proofs.Cells.{cells_only}
use Rattle.law_sweep.proofs.Variables.{locals, dummies_first, local_apart}
use Rattle.law_sweep.proofs.HeadNames.{unmarked_in, among_in, among_from, among_out, counts, entry_other}
use Rattle.law_sweep.proofs.Rows.{rows, by_cells, AreNought, pairing_behind, pairing_product, others_nought, nought_others, marked_alike, given_rows, shadow_rows, tangents_rows, cells_rows, direction_rows, direction_nought, AreSized, fits_sized, sized_alike}
use Rattle.law_sweep.proofs.UnitLists.{found_there}
use Rattle.law_sweep.proofs.EmittedUnits.{head_there}
use Rattle.law_sweep.proofs.Made as made
use Rattle.law_sweep.proofs.Emitted as emitted
use Rattle.law_sweep.proofs.Entry as entry
use Rattle.law_sweep.proofs.Units.{units_transpose}
use Rattle.law_sweep.proofs.UnitRuns.{words_end, kept_in, unit_setting, begin, BodyEnds, body_ends, unit_ends}
use Rattle.law_sweep.proofs.Heads.{zeroed, stays_zero, zeroed_others, is_zeroed, Reverses, reverses}

-- ---- a renamed run

-- an outcome that is done under other names is done
pub record PulledDone {C : Type 0} (r : Var → Var) (o : Outcome (Scene C)) (s : Scene C) (k : ℕ) : Type 0 where
  pub end : Scene C
  pub is : o ≡ Done end k
  pub same : pulled_scene r end ≡ s

pub pulled_done : {C : Type 0} (r : Var → Var) (o : Outcome (Scene C)) (s : Scene C) (k : ℕ) → pulled_outcome r o ≡ Done s k → PulledDone r o s k
pulled_done r (Done e j) s k h = let n : j ≡ k = cc in record { end = e; is = ap (Done e) n; same = done_same (pulled_scene r e) s j k h }
pulled_done r (Trapped t line w) s k h = cc
pulled_done r (More w) s k h = cc
pulled_done r (Full w) s k h = cc

module _ (sc : Bool) (lines : ReversedLines) (w : ProgramFacts) (ps : List Procedure) (u : Procedure) (vars outvars : List Bool) (good : SourceFitsWith sc lines w ps u) (input given : List (Slot ℤ)) (fit : fits words u input ≡ true) (alike : AreAlike input given) (k used : ℕ) (output : Output ℤ) (done : run_unit words ps u input [] None k ≡ Done output used) where
  abbrev pub m : ProgramMarks
  m = w.marks

  abbrev pub own : Facts
  own = facts_in w u.name

  abbrev pub shadowed : Vars
  shadowed = m.shadowed u.name

  abbrev pub ns : List Named
  ns = adjoint_names_with sc m ps (all_units m ps u) u

  abbrev pub outs : List (List ℕ)
  outs = names_in shadowed (unmarked u.dummies outvars)

  abbrev pub ins : List (List ℕ)
  ins = names_in shadowed (unmarked u.dummies vars)

  abbrev pub a : Procedure
  a = adjoint_unit_with sc m ps (all_units m ps u) u outs ins

  abbrev pub qs : List Procedure
  qs = emitted.qs sc lines w ps u vars outvars good

  abbrev pub joined : List (Slot ℤ)
  joined = joined_by (shadow_flags shadowed u.dummies) input given

  abbrev g : Callee
  g = callee_of m ps u.name (Some u)

  abbrev pub fitting : UnitFitsBy (schedules_by sc (callee_facts w ps)) lines ps (callee_facts w ps) (has_adjoint m ps u) (answers m ps u) (has_pair m ps u) (is_carried_with sc m ps u) u.name u (first_statement ps u.name) (variables u) (arrays_of u)
  fitting = good.units u.name u good.there good.head_reached

  abbrev pub separates : (v w : Var) → var_eq (naming ns v) (naming ns w) ≡ var_eq v w
  separates = made.separates sc m ps (all_units m ps u) u fitting.vars_apart (good.inside u.name u good.there) (good.extents u.name u good.there)

  abbrev declared_alike : DeclaredAlike u a (naming ns) g
  declared_alike =
      let d = made.declared_alike sc m ps (all_units m ps u) u fitting.vars_apart (good.inside u.name u good.there) (good.extents u.name u good.there) in
      record { plains = d.plains; shadows = d.shadows; helpers = d.helpers; extents = d.extents }

  abbrev pub own_names : (x : List ℕ) → has_name x u.dummies ≡ true → naming ns (plain x) ≡ plain x
  own_names x h = ap plain (made.own_dummy sc m ps (all_units m ps u) u fitting.vars_apart (good.inside u.name u good.there) (good.extents u.name u good.there) x h)

  abbrev pub before : Store ℤ
  before = input_store words u input

  abbrev pub start : Store ℤ
  start = pulled (naming ns) (input_store words a joined)

  abbrev sh : Var → Shape
  sh = entry.shapes u a ns separates g refl declared_alike (made.own_dummy sc m ps (all_units m ps u) u fitting.vars_apart (good.inside u.name u good.there) (good.extents u.name u good.there)) refl input given fit alike

  pub same_plain : (y : List ℕ) (j : ℕ) → start (plain y) j ≡ before (plain y) j
  same_plain = entry.same_plain u a ns separates g refl declared_alike (made.own_dummy sc m ps (all_units m ps u) u fitting.vars_apart (good.inside u.name u good.there) (good.extents u.name u good.there)) refl input given fit alike

  pub same_shadow : (y : List ℕ) (j : ℕ) → start (shadow y) j ≡ (if shadowed (plain y) then input_store words u given (plain y) j else pos 0)
  same_shadow = entry.same_shadow u a ns separates g refl declared_alike (made.own_dummy sc m ps (all_units m ps u) u fitting.vars_apart (good.inside u.name u good.there) (good.extents u.name u good.there)) refl input given fit alike

  pub adjoint_fits : fits words a joined ≡ true
  adjoint_fits = entry.adjoint_fits u a ns separates g refl declared_alike (made.own_dummy sc m ps (all_units m ps u) u fitting.vars_apart (good.inside u.name u good.there) (good.extents u.name u good.there)) refl input given fit alike

  abbrev pub body : BodyEnds words ps u input k output
  body = body_ends words ps u input k used output done

  -- the shapes in which the head runs
  pub plain_seen : (x : Var) → shape_of (extents_of words u before x) ≡ plainly sh x
  plain_seen (plain x) = refl
  plain_seen (shadow x) = ap (λ es. shape_of (map (extent_in words before) es)) (shadow_undeclared x u.declarations)
  plain_seen (helper r k) = ap (λ es. shape_of (map (extent_in words before) es)) (helper_undeclared r k u.declarations)

  pub setting_plain : unit_setting words ps u input ≡ on_words (plainly sh) 1
  setting_plain = λ i. record { numbers = words; shape = λ x. plain_seen x i; room = None; level = 1 }

  abbrev pub p : Plan
  p = plan_in m ps u

  pub knows : (x : List ℕ) → arrays_of u (plain x) ≡ false → size_of (sh (plain x)) ≡ 1
  knows x h = ap (λ es. size_of (shape_of (map (extent_in words before) es))) (fitting.scalars x h)

  shapes_fit : ShapesFit p sh
  shapes_fit = record { scalars = knows; shadows = λ x h. ap (λ b. if b then sh (plain x) else scalar) h }

  abbrev pub written : Vars
  written = λ x. writes (handed_back ps) x u.body

  abbrev pub from : ℕ
  from = entry_point ps u.name

  abbrev pub to : ℕ
  to = end_point ps u.name

  abbrev pub cells : List Key
  cells = cells_of sh (variables u)

  abbrev Transposed : Option Procedure → Type 0
  Transposed o = TransposesList (schedules_in sc ps) (calls_of qs k) lines (calls_of ps k) sh 1 (cells_of sh (variables_of o)) (plan_of (callee_facts w ps) own (arrays_in o)) own 0 written (first_statement ps u.name) from to u.body before body.end.store

  pub list : Transposed (Some u)
  list =
      subst Transposed good.there
      (units_transpose sc lines ps qs (callee_facts w ps) (has_adjoint m ps u) (answers m ps u) (has_pair m ps u) (is_carried_with sc m ps u) (first_statement ps) (emitted.vars_of sc lines w ps u vars outvars good) (emitted.arrays sc lines w ps u vars outvars good) (emitted.emitted_fits sc lines w ps u vars outvars good)
      k u.name u good.there (emitted.head_within sc lines w ps u vars outvars good) (head_there sc m ps u vars outvars good.known (found_there ps u.name u good.there).0) sh 1
      (subst (λ o. ShapesFit (plan_of (callee_facts w ps) own (arrays_in o)) sh) (sym good.there) shapes_fit)
      (begin words ps u input) body.end k body.left (ap (λ n. run (calls_of ps k) n u.body (begin words ps u input) k) (sym setting_plain) ∙ body.is))

  -- what the body of the adjoint does, under its own names
  abbrev pub reversed : Reverses (schedules_in sc ps) (calls_of qs k) lines (calls_of ps k) sh 1 cells p own written (first_statement ps u.name) from to u.line u.body outs ins (kept_in words qs a joined) before body.end.store start []
  reversed = reverses (schedules_in sc ps) (calls_of qs k) lines (calls_of ps k) sh 1 cells p knows own written (first_statement ps u.name) from to u.line u.body outs ins (kept_in words qs a joined) before body.end.store start [] list (record { at = λ x j l i. same_plain x j })

  abbrev seen_setting : Setting ℤ
  seen_setting = unit_setting words qs a joined

  -- and so under the names of the program
  abbrev pub named_run : PulledDone (naming ns) (run (calls_of qs k) seen_setting a.body (begin words qs a joined) (reversed.runs.runs.cost + 0)) (scene reversed.runs.later reversed.end []) 0
  named_run =
      pulled_done (naming ns) (run (calls_of qs k) seen_setting a.body (begin words qs a joined) (reversed.runs.runs.cost + 0)) (scene reversed.runs.later reversed.end []) 0
      (run_renamed (naming ns) (record { at = separates }) qs k seen_setting (adjoint_body_with (schedules_in sc ps) p (first_statement ps u.name) u.line u.body outs ins) (begin words qs a joined) (reversed.runs.runs.cost + 0)
      ∙ ap (λ n. run (calls_of qs k) n (adjoint_body_with (schedules_in sc ps) p (first_statement ps u.name) u.line u.body outs ins) (scene (kept_in words qs a joined) start []) (reversed.runs.runs.cost + 0))
      (entry.setting_seen u a ns separates g refl declared_alike (made.own_dummy sc m ps (all_units m ps u) u fitting.vars_apart (good.inside u.name u good.there) (good.extents u.name u good.there)) refl input given fit alike)
      ∙ reversed.runs.runs.by 0)

  -- its run ends
  abbrev pub ended : Ends words qs a joined
  ended = unit_ends words qs a joined k (reversed.runs.runs.cost + 0) named_run.end named_run.is (ap (λ z. z.opened) named_run.same ∙ reversed.runs.tells.opened)

  -- ---- what they tell

  -- the program's run tells what its dual run does, with any tangents
  abbrev passed : Passes lines (calls_of ps k) (on_duals (plainly sh) 1) u.body (kept_in words ps u input) (with_tangents before (λ y. pos 0)) (with_tangents body.end.store (reversed.derivative (λ y. pos 0))) [] reversed.loops
  passed = reversed.dual (kept_in words ps u input) (λ y. pos 0) []

  told_same : body.end.events ≡ passed.later.events
  told_same = ap (λ (z : Scene ℤ). z.events) (words_end ps k (plainly sh) u.body (kept_in words ps u input) passed.later before body.end.store (λ y. pos 0) (reversed.derivative (λ y. pos 0)) body.end k body.left (ap (λ n. run (calls_of ps k) n u.body (begin words ps u input) k) (sym setting_plain) ∙ body.is) passed.runs)

  reverses_loops : ReversesLoops lines output.events ended.output.events
  reverses_loops =
      subst (λ z. AreReversed z (reversals_in (reverse named_run.end.events)))
      (sym (ap (λ (o : Output ℤ). runs_in lines (reverse o.events)) body.gives ∙ ap (runs_in lines) (reverse-reverse body.end.events ∙ told_same ∙ passed.tells.events)
      ∙ runs_in-append lines passed.tells.told (kept_in words ps u input).events ∙ append-nil (runs_in lines passed.tells.told) ∙ passed.tells.loops_are))
      (subst (AreReversed reversed.loops) (sym turned_events) reversed.reversed)
    where
      turned_events : reversals_in (reverse named_run.end.events) ≡ reversed.reversals
      turned_events =
          ap (λ z. reversals_in (reverse z.events)) named_run.same
          ∙ ap reversals_in (sym (append-nil (reverse reversed.runs.later.events)) ∙ sym (in_order-reverse reversed.runs.later.events []) ∙ ap (λ z. in_order z []) reversed.runs.tells.events ∙ in_order-append reversed.runs.tells.told (kept_in words qs a joined).events [])
          ∙ reversed.runs.tells.is.all [] ∙ append-nil reversed.reversals

  -- ---- products

  abbrev sized : AreSized sh u.dummies input
  sized = fits_sized u before u.dummies input fit

  apart_dummies : AreApart u.dummies
  apart_dummies = subst AreApart (sym fitting.dummies) fitting.dummies_apart

  -- all cells: those of the dummies, and then those of the locals
  all_cells : cells ≡ cells_of sh (u.dummies ++ locals u)
  all_cells = ap (cells_of sh) (dummies_first u apart_dummies)

  -- the word that is given for a shadow
  abbrev given_at : Words
  given_at = λ x. input_store words u given (plain x.0) x.1

  abbrev other_outputs : List (List ℕ)
  other_outputs = unmarked u.dummies outvars

  abbrev other_inputs : List (List ℕ)
  other_inputs = unmarked u.dummies vars

  -- the shadows that count, with those of what isn't dependent set to 0
  abbrev cleared_start : Words
  cleared_start = masked_shadows own.marks (zeroed p outs start)

  shadows_before : rows sh (by_cells given_at) u.dummies ≡ slots.cells_of given
  shadows_before = given_rows words sh u.dummies given apart_dummies (sized_alike sh u.dummies input given alike sized)

  local_shadow : (y : List ℕ) (j : ℕ) → has_name y u.dummies ≡ false → start (shadow y) j ≡ pos 0
  local_shadow y j h = same_shadow y j ∙ counts (shadowed (plain y)) (given_at (y, j)) (λ s. entry_other words u.dummies (map (from_slot words) given) y j h)

  local_cleared : (y : List ℕ) (j : ℕ) → has_name y u.dummies ≡ false → cleared_start (y, j) ≡ pos 0
  local_cleared y j h = counts (shadowed (plain y)) (zeroed p outs start (shadow y) j) (λ s. stays_zero p sh knows outs start y j (local_shadow y j h))

  other_cleared : AreNought sh other_outputs cleared_start
  other_cleared y j h l = counts (shadowed (plain y)) (zeroed p outs start (shadow y) j) (λ s. is_zeroed p sh knows outs start y j l (among_in shadowed other_outputs y h s))

  module _ (suits : SuitHead own.marks from to u vars outvars) where
    -- a dependent's shadow is the given one
    dependent_kept : (y : List ℕ) (j : ℕ) → has_name y u.dummies ≡ true → has_name y other_outputs ≡ false → j < size_of (sh (plain y)) → cleared_start (y, j) ≡ given_at (y, j)
    dependent_kept y j h n l =
        let s : shadowed (plain y) ≡ true = suits.shadowed y (h, n) in
        ap (λ b. if b then zeroed p outs start (shadow y) j else pos 0) s
        ∙ zeroed_others p outs start y j (among_out shadowed other_outputs y n)
        ∙ same_shadow y j
        ∙ ap (λ b. if b then given_at (y, j) else pos 0) s

    -- what isn't useful at the end isn't dependent, and so 0
    ready : AreReady cells own.marks to written (zeroed p outs start)
    ready y o c v n = go (has_name y.0 u.dummies) refl (has_name y.0 other_outputs) refl
      where
        go : (d : Bool) → has_name y.0 u.dummies ≡ d → (e : Bool) → has_name y.0 other_outputs ≡ e → cleared_start (y.0, y.1) ≡ pos 0
        go false d e h = local_cleared y.0 y.1 d
        go true d true e = other_cleared y.0 y.1 e (cells_only sh (variables u) y o).below
        go true d false e = absurd (let q : true ≡ false = sym (suits.useful y.0 (d, e)) ∙ n in cc)

    -- the shadows at the end, at the names of the dummies
    shadows_after : shadow_cells (shadow_flags shadowed u.dummies) ended.output.slots ≡ rows sh (by_cells (masked_shadows own.marks reversed.end)) u.dummies
    shadows_after =
        ap (λ ds. shadow_cells (shadow_flags shadowed u.dummies) (map (λ d. slot_of (seen_setting.shape (plain d)) (named_run.end.store (plain d))) ds)) (entry.dummies_named u a ns separates g refl declared_alike (made.own_dummy sc m ps (all_units m ps u) u fitting.vars_apart (good.inside u.name u good.there) (good.extents u.name u good.there)) refl input given fit alike)
        ∙ shadow_rows sh seen_setting.shape shadowed named_run.end.store ns u.dummies (λ x. seen (plain x)) (λ x s. seen (shadow x) ∙ ap (λ b. if b then sh (plain x) else scalar) s)
        ∙ ap (λ (z : Scene ℤ). rows sh (λ x j. if shadowed (plain x) then z.store (shadow x) j else pos 0) u.dummies) named_run.same
      where
        seen : (x : Var) → seen_setting.shape (naming ns x) ≡ sh x
        seen x = entry.shape_seen u a ns separates g refl declared_alike (made.own_dummy sc m ps (all_units m ps u) u fitting.vars_apart (good.inside u.name u good.there) (good.extents u.name u good.there)) refl input given fit alike x

    module _ (d : List (List ℤ)) (dir : IsDirection vars input d) where
      abbrev along : Words
      along = direction u.dummies input d

      abbrev dual_input : List (Slot (ℤ × ℤ))
      dual_input = with_direction input d

      entered_with : input_store duals u dual_input ≡ with_tangents before along
      entered_with = λ i v j. dual_store u.dummies input d dir.tangents v j i

      dual_shape : (x : Var) → (unit_setting duals ps u dual_input).shape x ≡ plainly sh x
      dual_shape x = ap (λ (s : Store (ℤ × ℤ)). shape_of (extents_of duals u s x)) entered_with ∙ ap shape_of (extents_dual u before along x) ∙ plain_seen x

      dual_setting : unit_setting duals ps u dual_input ≡ on_duals (plainly sh) 1
      dual_setting = λ i. record { numbers = duals; shape = λ x. dual_shape x i; room = None; level = 1 }

      abbrev dual_comes : Passes lines (calls_of ps k) (on_duals (plainly sh) 1) u.body (kept_in duals ps u dual_input) (with_tangents before along) (with_tangents body.end.store (reversed.derivative along)) [] reversed.loops
      dual_comes = reversed.dual (kept_in duals ps u dual_input) along []

      abbrev dual_end : Scene (ℤ × ℤ)
      dual_end = scene dual_comes.later (with_tangents body.end.store (reversed.derivative along)) []

      dual_is : run (calls_of ps k) (unit_setting duals ps u dual_input) u.body (begin duals ps u dual_input) (dual_comes.runs.cost + 0) ≡ Done dual_end 0
      dual_is =
          ap (λ n. run (calls_of ps k) n u.body (begin duals ps u dual_input) (dual_comes.runs.cost + 0)) dual_setting
          ∙ ap (λ (s : Store (ℤ × ℤ)). run (calls_of ps k) (on_duals (plainly sh) 1) u.body (scene (kept_in duals ps u dual_input) s []) (dual_comes.runs.cost + 0)) entered_with
          ∙ dual_comes.runs.by 0

      -- the dual run ends
      abbrev dual_ended : Ends duals ps u dual_input
      dual_ended = unit_ends duals ps u dual_input k (dual_comes.runs.cost + 0) dual_end dual_is dual_comes.tells.opened

      tangents_after : rows sh (by_cells (reversed.derivative along)) u.dummies ≡ tangents_of (slots.cells_of dual_ended.output.slots)
      tangents_after =
          let after = with_tangents body.end.store (reversed.derivative along) in
          sym (ap tangents_of (cells_rows sh (unit_setting duals ps u dual_input).shape after u.dummies (λ x. dual_shape (plain x))) ∙ tangents_rows sh (λ x. after (plain x)) u.dummies)

      along_is : rows sh (by_cells along) u.dummies ≡ d
      along_is = direction_rows sh u.dummies input d apart_dummies sized dir.tangents

      -- the tangents of what isn't independent are 0
      along_inputs : AreNought sh other_inputs along
      along_inputs = nought_others sh u.dummies vars along (subst (OthersAreZero vars) (sym along_is) dir.others)

      along_other : (y : List ℕ) (j : ℕ) → has_name y u.dummies ≡ false → along (y, j) ≡ pos 0
      along_other y j h = ap (λ (q : ℤ × ℤ). q.1) (entry_other duals u.dummies (map (from_slot duals) dual_input) y j h)

      along_off : (y : List ℕ) (j : ℕ) → has_name y other_inputs ≡ true → along (y, j) ≡ pos 0
      along_off y j h = direction_nought u.dummies input d vars apart_dummies dir.tangents dir.others y j (unmarked_in y u.dummies vars h) h

      -- what isn't varied at the entry isn't independent
      along_varied : AreVaried own.marks from along
      along_varied y n = go (has_name y.0 u.dummies) refl (has_name y.0 other_inputs) refl
        where
          go : (b : Bool) → has_name y.0 u.dummies ≡ b → (e : Bool) → has_name y.0 other_inputs ≡ e → along (y.0, y.1) ≡ pos 0
          go false b e h = along_other y.0 y.1 b
          go true b true e = along_off y.0 y.1 e
          go true b false e = absurd (let q : true ≡ false = sym (suits.varied y.0 (b, e)) ∙ n in cc)

      -- the product over the independents is the sum over all cells at the end of the adjoint
      over_inputs : product vars (shadow_cells (shadow_flags shadowed u.dummies) ended.output.slots) d ≡ pairing cells (masked_shadows own.marks reversed.end) along
      over_inputs =
          (λ i. product vars (shadows_after i) (sym along_is i))
          ∙ sym (pairing_product sh u.dummies vars (masked_shadows own.marks reversed.end) along along_inputs)
          ∙ sym (pairing_behind sh u.dummies (locals u) (masked_shadows own.marks reversed.end) along (λ y j h l. along_other y j (local_apart u y h)))
          ∙ ap (λ l. pairing l (masked_shadows own.marks reversed.end) along) (sym all_cells)

      -- that over the dependents is the sum over all cells at its start
      over_outputs : pairing cells cleared_start (reversed.derivative along) ≡ product outvars (slots.cells_of given) (tangents_of (slots.cells_of dual_ended.output.slots))
      over_outputs =
          let after = reversed.derivative along in
          let kept : marked_cells outvars (rows sh (by_cells cleared_start) u.dummies) ≡ marked_cells outvars (rows sh (by_cells given_at) u.dummies) =
          marked_alike sh u.dummies outvars cleared_start given_at apart_dummies dependent_kept in
          pairing_comm cells cleared_start after
          ∙ ap (λ l. pairing l after cleared_start) all_cells
          ∙ pairing_behind sh u.dummies (locals u) after cleared_start (λ y j h l. local_cleared y j (local_apart u y h))
          ∙ pairing_product sh u.dummies outvars after cleared_start other_cleared
          ∙ dot_comm (marked_cells outvars (rows sh (by_cells after) u.dummies)) (marked_cells outvars (rows sh (by_cells cleared_start) u.dummies))
          ∙ ap (λ z. dot z (marked_cells outvars (rows sh (by_cells after) u.dummies))) kept
          ∙ (λ i. product outvars (shadows_before i) (tangents_after i))

      agrees : Agrees ps u vars outvars input (slots.cells_of given) (shadow_cells (shadow_flags shadowed u.dummies) ended.output.slots) d
      agrees = record {
        dual = dual_ended;
        products = over_inputs ∙ reversed.products along (λ y o h. along_off y.0 y.1 (among_from shadowed other_inputs y.0 h)) along_varied ready ∙ over_outputs;
      }

    other_ended : AreNought sh other_inputs (masked_shadows own.marks reversed.end)
    other_ended y j h l = counts (shadowed (plain y)) (reversed.end (shadow y) j) (λ s. reversed.others y j l (among_in shadowed other_inputs y h s))

    -- the adjoint transposes the derivative of the head along this run
    pub transposes : TransposesBy lines (shadow_flags shadowed u.dummies) ps u vars outvars qs a input given output.events
    transposes = record {
      fits = adjoint_fits;
      run = ended;
      empties = ap (λ z. z.tape) named_run.same;
      reverses = reverses_loops;
      products = agrees;
      others = subst (OthersAreZero vars) (sym shadows_after) (others_nought sh u.dummies vars (masked_shadows own.marks reversed.end) other_ended);
    }
