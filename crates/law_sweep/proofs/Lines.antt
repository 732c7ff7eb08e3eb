-- An adjoint by marks stays one where its lines bear other numbers.
use Rattle.std.proofs.Common.{◌≡◌, ℕ, zero, suc, ◌≤◌, List, [], ◌∷◌, refl, sym, ap, ◌∙◌, subst, arith}
use Rattle.std.specs.Prelude.{ℤ, reverse, ◌==◌, ◌&&◌, Bool, true, map, Option, Some, None, if◌then◌else◌}
use Rattle.adj_tree.specs.Code.{Procedure}
use Rattle.adj_tree.specs.Lines.{unlined_procedure, unlined}
use Rattle.def_meaning.specs.Numbers.{Numbers, words}
use Rattle.def_meaning.specs.Event.{Event, Enter, Begin, End, Marked}
use Rattle.def_meaning.specs.Scene.{IsMore, Outcome, Done, Trapped, More, Full}
use Rattle.def_meaning.specs.Written.{find_unit}
use Rattle.def_meaning.specs.Units.{Slot, Output, run_unit}
use Rattle.law_meaning.specs.Unlined.{unlined_stand, unlined_event, unlined_output, unlined_ending}
use Rattle.law_meaning.proofs.Costs.{one_end}
use Rattle.law_meaning.proofs.UnlinedUnits.{unlined_found, find_unlined}
use Rattle.law_meaning.proofs.Unlined.{runs_alike, fits_alike}
use Rattle.def_sweep.specs.Tangents.{Ends, OthersAreZero, Agrees, cells_of}
use Rattle.def_sweep.specs.MarkedAdjoint.{shadow_flags, shadow_cells, joined_by}
use Rattle.def_sweep.specs.Names.{adjoint_name}
use Rattle.def_sweep.specs.Reversals.{calls_after, ends_after, reversals_in, runs_in, AreReversed, ReversedLines}
use Rattle.def_sweep.specs.Adjoint.{TransposesBy, OtherLines}

-- ---- reversals

-- calls and ends of a reversal are told at no line
calls_unlined : (level inner : ℕ) (es : List Event) → calls_after level inner (map unlined_event es) ≡ calls_after level inner es
calls_unlined level inner [] = refl
calls_unlined level inner (Enter name l height shapes ∷ es) = ap (λ z. if l == suc level && inner == 0 then record { unit = name; height = height; shapes = shapes } ∷ z else z) (calls_unlined level inner es)
calls_unlined level inner (Begin steps snapshots l height ∷ es) = calls_unlined level (if l == level then suc inner else inner) es
calls_unlined level zero (End l ∷ es) = ap (λ z. if l == level then [] else z) (calls_unlined level 0 es)
calls_unlined level (suc inner) (End l ∷ es) = calls_unlined level (if l == level then inner else suc inner) es
calls_unlined level inner (Marked line turns snapshots ∷ es) = calls_unlined level inner es

ends_unlined : (level inner : ℕ) (es : List Event) → ends_after level inner (map unlined_event es) ≡ ends_after level inner es
ends_unlined level inner [] = refl
ends_unlined level inner (Enter name l height shapes ∷ es) = ends_unlined level inner es
ends_unlined level inner (Begin steps snapshots l height ∷ es) = ends_unlined level (if l == level then suc inner else inner) es
ends_unlined level zero (End l ∷ es) = ap (λ z. if l == level then true else z) (ends_unlined level 0 es)
ends_unlined level (suc inner) (End l ∷ es) = ends_unlined level (if l == level then inner else suc inner) es
ends_unlined level inner (Marked line turns snapshots ∷ es) = ends_unlined level inner es

reversals_unlined : (es : List Event) → reversals_in (map unlined_event es) ≡ reversals_in es
reversals_unlined [] = refl
reversals_unlined (Enter name level height shapes ∷ es) = reversals_unlined es
reversals_unlined (Begin steps snapshots level height ∷ es) =
    λ i. record { steps = steps; snapshots = snapshots; start = height; calls = calls_unlined level 0 es i; ended = ends_unlined level 0 es i } ∷ reversals_unlined es i
reversals_unlined (End level ∷ es) = reversals_unlined es
reversals_unlined (Marked line turns snapshots ∷ es) = reversals_unlined es

-- ---- runs with enough statements

-- the unit's run ends as another does, in its output up to line numbers and in as many statements
pub record EndsAs {C : Type 0} (n : Numbers C) (ps : List Procedure) (u : Procedure) (input : List (Slot C)) (out : Output C) (used : ℕ) : Type 0 where
  pub ends : Ends n ps u input
  pub same : unlined_output ends.output ≡ unlined_output out
  pub spent : ends.used ≡ used

-- what a run that is done gives
abbrev output_in : {C : Type 0} → Outcome (Output C) → Output C
output_in (Done output used) = output
output_in _ = record { slots = []; tape = []; events = [] }

-- where there is more to do there is more to do up to line numbers
pub unlined_more : {C : Type 0} (o : Outcome (Output C)) → IsMore o → IsMore (unlined_ending o)
unlined_more (Done out k) h = absurd h
unlined_more (Trapped t line w) h = absurd h
unlined_more (More w) h = tt
unlined_more (Full w) h = absurd h

-- so it ends where that of the same unit up to line numbers ends
pub ends_alike : {C : Type 0} (n : Numbers C) (ps qs : List Procedure) (u v : Procedure) (input : List (Slot C)) → unlined ps ≡ unlined qs → unlined_procedure u ≡ unlined_procedure v → (e : Ends n ps u input) → EndsAs n qs v input e.output e.used
ends_alike {C} n ps qs u v input same like e = go (run_unit n qs v input [] None e.enough) refl
  where
    -- the run is done up to line numbers
    done : (k : ℕ) → e.enough ≤ k → unlined_ending (run_unit n qs v input [] None k) ≡ Done (unlined_output e.output) e.used
    done k le = sym (runs_alike ps qs same u v like n input [] None k) ∙ ap unlined_ending (e.runs k le)

    -- so it has no more to do
    no_more : (k : ℕ) → e.enough ≤ k → IsMore (run_unit n qs v input [] None k) → ⊥
    no_more k le m = subst IsMore (done k le) (unlined_more (run_unit n qs v input [] None k) m)

    go : (o : Outcome (Output C)) → run_unit n qs v input [] None e.enough ≡ o → EndsAs n qs v input e.output e.used
    go (Done got k) is =
        let z : Done (unlined_output got) k ≡ Done (unlined_output e.output) e.used = ap unlined_ending (sym is) ∙ done e.enough (omega arith) in
        record {
          ends = record {
            enough = e.enough;
            output = got;
            used = k;
            runs = λ m le. one_end n qs v input [] None m e.enough (no_more m le) (no_more e.enough (omega arith)) ∙ is;
          };
          same = ap output_in z;
          spent = cc;
        }
    go (Trapped t line w) is = absurd (let z : Trapped t 0 (unlined_stand w) ≡ Done (unlined_output e.output) e.used = ap unlined_ending (sym is) ∙ done e.enough (omega arith) in cc)
    go (More w) is = absurd (no_more e.enough (omega arith) (subst IsMore (sym is) tt))
    go (Full w) is = absurd (let z : Full (unlined_stand w) ≡ Done (unlined_output e.output) e.used = ap unlined_ending (sym is) ∙ done e.enough (omega arith) in cc)

-- ---- adjoints

module _ (ps : List Procedure) (vars outvars : List Bool) (qs others : List Procedure) (same : unlined qs ≡ unlined others) where
  transposes_alike : (lines : ReversedLines) (flags : List Bool) (u a b : Procedure) → unlined_procedure a ≡ unlined_procedure b → (input shadows : List (Slot ℤ)) (told : List Event) → TransposesBy lines flags ps u vars outvars qs a input shadows told → TransposesBy lines flags ps u vars outvars others b input shadows told
  transposes_alike lines flags u a b like input shadows told t =
      let r = ends_alike words qs others a b (joined_by flags input shadows) same like t.run in
      let slots : t.run.output.slots ≡ r.ends.output.slots = ap (λ z. z.slots) (sym r.same) in
      let tape : r.ends.output.tape ≡ t.run.output.tape = ap (λ z. z.tape) r.same in
      let events : map unlined_event r.ends.output.events ≡ map unlined_event t.run.output.events = ap (λ z. z.events) r.same in
      let reversals : reversals_in t.run.output.events ≡ reversals_in r.ends.output.events = sym (reversals_unlined t.run.output.events) ∙ ap reversals_in (sym events) ∙ reversals_unlined r.ends.output.events in
      record {
        fits = sym (fits_alike a b like words (joined_by flags input shadows)) ∙ t.fits;
        run = r.ends;
        empties = tape ∙ t.empties;
        reverses = subst (AreReversed (runs_in lines (reverse told))) reversals t.reverses;
        products = λ d dir. subst (λ z. Agrees ps u vars outvars input (cells_of shadows) (shadow_cells flags z) d) slots (t.products d dir);
        others = subst (λ z. OthersAreZero vars (shadow_cells flags z)) slots t.others;
      }

-- the same unit up to line numbers is there
pub record IsThere (others : List Procedure) (name : List ℕ) (a : Procedure) : Type 0 where
  pub unit : Procedure
  pub is : find_unit others name ≡ Some unit
  pub like : unlined_procedure a ≡ unlined_procedure unit

abbrev found_or : Procedure → Option Procedure → Procedure
found_or u None = u
found_or u (Some v) = v

-- so a unit of a name is there in each program that is the same up to line numbers
pub there : (qs others : List Procedure) → unlined qs ≡ unlined others → (name : List ℕ) (a : Procedure) → find_unit qs name ≡ Some a → IsThere others name a
there qs others same name a found = go (find_unit others name) refl (ap unlined_found (sym found) ∙ sym (find_unlined qs name) ∙ ap (λ z. find_unit z name) same ∙ find_unlined others name)
  where
    go : (o : Option Procedure) → find_unit others name ≡ o → Some (unlined_procedure a) ≡ unlined_found o → IsThere others name a
    go None is e = absurd cc
    go (Some b) is e = record { unit = b; is = is; like = ap (found_or (unlined_procedure a)) e }

-- a program that is the same up to line numbers is an adjoint as well
pub other_lines : OtherLines
other_lines sc lines m ps qs others head vars outvars same h =
    let name = adjoint_name ps h.unit in
    let t = there qs others same name h.adjoint h.is_there in
    record {
      unit = h.unit;
      is_head = h.is_head;
      adjoint = t.unit;
      is_there = t.is;
      dummies = ap (λ z. z.dummies) (sym t.like) ∙ h.dummies;
      transposes = λ input shadows fit alike k used output done.
          transposes_alike ps vars outvars qs others same lines (shadow_flags (m.shadowed h.unit.name) h.unit.dummies) h.unit h.adjoint t.unit t.like input shadows output.events (h.transposes input shadows fit alike k used output done);
    }
