-- An adjoint of the kernel of an accepted program is one of the program.
use Rattle.std.proofs.Common.{arith, ◌≡◌, ℕ, ◌≤◌, Bool, true, false, List, [], ◌∷◌, ◌++◌, refl, sym, ap, ◌∙◌, subst}
use mathlib.Core.List.{reverse-cons}
use Rattle.std.proofs.lemmas.List.{append-nil}
use Rattle.std.specs.Prelude.{ℤ, ◌*◌, Option, Some, None, reverse}
use Rattle.adj_tree.specs.Code.{Procedure}
use Rattle.def_meaning.specs.Numbers.{words, duals}
use Rattle.def_meaning.specs.Event.{Event, Enter, Begin, End, Marked}
use Rattle.def_meaning.specs.Scene.{Done}
use Rattle.def_meaning.specs.Written.{find_unit}
use Rattle.def_meaning.specs.Units.{Slot, Output, fits, run_unit}
use Rattle.def_sweep.specs.Tangents.{IsDirection, Agrees, with_direction, tangents_of, cells_of, product}
use Rattle.def_sweep.specs.MarkedProgram.{shadows_behind}
use Rattle.def_sweep.specs.MarkedAdjoint.{shadow_flags}
use Rattle.def_names.specs.Fault.{run_rules}
use Rattle.def_names.specs.HeadFaults.{unit_number}
use Rattle.law_names.proofs.Lines.{sound_lines}
use Rattle.def_sweep.specs.Reversals.{MarkedRun, StepUnits, with_run, runs_in, reversals_in, AreReversed, ReversedLines}
use Rattle.def_sweep.specs.Marking.{full_marks}
use Rattle.def_sweep.specs.Program.{adjoint_names_with, all_units}
use Rattle.def_sweep.specs.Adjoint.{TransposesBy}
use Rattle.law_sweep.proofs.Lines.{other_lines}
use Rattle.def_kernel.specs.Stepped.{stepped_program, kernel_of}
use Rattle.law_kernel.specs.StepTheorem.{marked_of}
use Rattle.law_kernel.specs.Means.{MeansAlike}
use Rattle.law_kernel.specs.StepMeans.{SameButCalls}
use Rattle.law_kernel.specs.Sound.{IsAccepted}
use Rattle.law_kernel.proofs.SoundPrograms.{sound_is_source}
use Rattle.law_sweep.proofs.Told.{runs_in-append}
use Rattle.law_kernel.proofs.WholeKernels.{whole_units, whole_means_alike}
use Rattle.law_emitted.proofs.Premises.{checked_is_adjoint}
use Rattle.law_emitted.proofs.Programs.{emitted_written}
use Rattle.law_emitted.proofs.SoundPrograms.{emitted_sound}
use Rattle.law_emitted.specs.Accepted.{emitted_for, KernelsAdjoint, EmittedIsAdjoint, EmittedIsWritten, EmittedIsSound}
use Rattle.law_emitted.proofs.Heaviest.{heaviest_in, all_weigh}
use Rattle.law_emitted.proofs.Directions.{direction_fits}
use Rattle.law_emitted.proofs.ShadowNames.{same_dummies}
use Rattle.law_emitted.proofs.Kernels.{kernel_checked, numbered, found_name, IsKernelUnit, becomes}

-- ---- marked loops that were told

-- they are told by the events of marked loops alone
runs_told : (lines : ReversedLines) (es : List Event) → runs_in lines es ≡ runs_in lines (marked_of es)
runs_told lines [] = refl
runs_told lines (Enter name l height shapes ∷ es) = runs_told lines es
runs_told lines (Begin steps snapshots l height ∷ es) = runs_told lines es
runs_told lines (End l ∷ es) = runs_told lines es
runs_told lines (Marked line turns snapshots ∷ es) = ap (with_run (lines line) (record { line = line; turns = turns; snapshots = snapshots })) (runs_told lines es)

-- they are told in the other order
runs_reverse : (lines : ReversedLines) (es : List Event) → runs_in lines (reverse es) ≡ reverse (runs_in lines es)
runs_reverse lines [] = refl
runs_reverse lines (Enter name l height shapes ∷ es) = ap (runs_in lines) (reverse-cons (Enter name l height shapes) es) ∙ runs_in-append lines (reverse es) (Enter name l height shapes ∷ []) ∙ append-nil (runs_in lines (reverse es)) ∙ runs_reverse lines es
runs_reverse lines (Begin steps snapshots l height ∷ es) = ap (runs_in lines) (reverse-cons (Begin steps snapshots l height) es) ∙ runs_in-append lines (reverse es) (Begin steps snapshots l height ∷ []) ∙ append-nil (runs_in lines (reverse es)) ∙ runs_reverse lines es
runs_reverse lines (End l ∷ es) = ap (runs_in lines) (reverse-cons (End l) es) ∙ runs_in-append lines (reverse es) (End l ∷ []) ∙ append-nil (runs_in lines (reverse es)) ∙ runs_reverse lines es
runs_reverse lines (Marked line turns snapshots ∷ es) =
    ap (runs_in lines) (reverse-cons (Marked line turns snapshots) es) ∙ runs_in-append lines (reverse es) (Marked line turns snapshots ∷ []) ∙ ap (λ z. z ++ runs_in lines (Marked line turns snapshots ∷ [])) (runs_reverse lines es) ∙ go (lines line)
  where
    here : MarkedRun
    here = record { line = line; turns = turns; snapshots = snapshots }

    go : (o : Option StepUnits) → reverse (runs_in lines es) ++ with_run o here [] ≡ reverse (with_run o here (runs_in lines es))
    go (Some step) = sym (reverse-cons (record { mark = here; step = step }) (runs_in lines es))
    go None = append-nil (reverse (runs_in lines es))

-- the same marked loops, told in the other order
same_runs : (lines : ReversedLines) (es fs : List Event) → marked_of es ≡ marked_of fs → runs_in lines (reverse es) ≡ runs_in lines (reverse fs)
same_runs lines es fs h = runs_reverse lines es ∙ ap reverse (runs_told lines es ∙ ap (runs_in lines) h ∙ sym (runs_told lines fs)) ∙ sym (runs_reverse lines fs)

-- ---- runs

module _ (ps : List Procedure) (a : IsAccepted ps) (name : List ℕ) (u v : Procedure) (found : find_unit ps name ≡ Some u) (kernel : find_unit (kernel_of ps) name ≡ Some v) where
  abbrev ks : List Procedure
  ks = kernel_of ps

  like : IsKernelUnit u v
  like = becomes ps name u v found kernel

  on_words : (input : List (Slot ℤ)) → fits words u input ≡ true → MeansAlike SameButCalls (run_unit words ps u input [] None) (run_unit words ks v input [] None) (18 * heaviest_in (stepped_program ps))
  on_words input f = whole_means_alike {C = ℤ} words (record { shows = λ z. refl }) ps (sound_is_source ps a.written a.sound ℤ) (heaviest_in (stepped_program ps)) (all_weigh (stepped_program ps)) name u v found kernel input f [] None

  on_duals : (input : List (Slot (ℤ × ℤ))) → fits duals u input ≡ true → MeansAlike SameButCalls (run_unit duals ps u input [] None) (run_unit duals ks v input [] None) (18 * heaviest_in (stepped_program ps))
  on_duals input f = whole_means_alike {C = ℤ × ℤ} duals (record { shows = λ z. refl }) ps (sound_is_source ps a.written a.sound (ℤ × ℤ)) (heaviest_in (stepped_program ps)) (all_weigh (stepped_program ps)) name u v found kernel input f [] None

  module _ (vars outvars : List Bool) (input : List (Slot ℤ)) (f : fits words u input ≡ true) where
    -- a dual run of the kernel is one of the program
    agrees : (before after : List (List ℤ)) (d : List (List ℤ)) → IsDirection vars input d → Agrees ks v vars outvars input before after d → Agrees ps u vars outvars input before after d
    agrees before after d is g =
        let means = on_duals (with_direction input d) (direction_fits u input d is.tangents ∙ f) in
        let least : g.dual.enough ≤ g.dual.enough = omega arith in
        let was = means.done_back g.dual.enough g.dual.used g.dual.output (g.dual.runs g.dual.enough least) in
        record {
          dual = record { enough = was.ends.enough; output = was.first; used = was.ends.used; runs = was.ends.runs };
          products = g.products ∙ ap (λ z. product outvars before (tangents_of (cells_of z))) (sym was.related.slots);
        }

    -- what an adjoint of the kernel does for a run of the kernel, it does for the program's
    transposes : (lines : ReversedLines) (flags : List Bool) (qs : List Procedure) (q : Procedure) (shadows : List (Slot ℤ)) (k used : ℕ) (output : Output ℤ) → run_unit words ps u input [] None k ≡ Done output used →
        ((k used : ℕ) (output : Output ℤ) → run_unit words ks v input [] None k ≡ Done output used → TransposesBy lines flags ks v vars outvars qs q input shadows output.events) → TransposesBy lines flags ps u vars outvars qs q input shadows output.events
    transposes lines flags qs q shadows k used output done h =
        let other = (on_words input f).done k used output done in
        let least : other.ends.enough ≤ other.ends.enough = omega arith in
        let t = h other.ends.enough other.ends.used other.other (other.ends.runs other.ends.enough least) in
        record {
          fits = t.fits;
          run = t.run;
          empties = t.empties;
          reverses = subst (λ z. AreReversed z (reversals_in t.run.output.events)) (sym (same_runs lines output.events other.other.events other.related.marked)) t.reverses;
          products = λ d is. agrees _ _ d is (t.products d is);
          others = t.others;
        }

-- ---- adjoints

-- an adjoint of the kernel is one of the program
pub kernels_adjoint : KernelsAdjoint
kernels_adjoint sc lines m ps a name u found vars outvars qs h =
    let k = whole_units ps name u found in
    let one : k.becomes ∷ [] ≡ h.unit ∷ [] = sym (numbered (kernel_of ps) name k.becomes k.found).1 ∙ h.is_head in
    let same : k.becomes ≡ h.unit = cc in
    let there : find_unit (kernel_of ps) name ≡ Some h.unit = k.found ∙ ap Some same in
    let like = becomes ps name u h.unit found there in
    let named : h.unit.name ≡ name = found_name (kernel_of ps) name h.unit there in
    record {
      unit = u;
      is_head = found;
      kernel = h.unit;
      becomes = there;
      adjoint = h.adjoint;
      is_there = h.is_there;
      dummies = h.dummies ∙ (λ i. shadows_behind (m.shadowed (named i)) (adjoint_names_with sc m (kernel_of ps) (all_units m (kernel_of ps) h.unit) h.unit) (like.same_dummies i)) ∙ same_dummies sc m (kernel_of ps) h.unit h.unit (m.shadowed name) u.dummies;
      transposes = λ input shadows fit alike k used output done.
          transposes ps a name u h.unit found there vars outvars input fit lines (shadow_flags (m.shadowed name) u.dummies) qs h.adjoint shadows k used output done
          (λ k used output done. subst (λ fl. TransposesBy lines fl (kernel_of ps) h.unit vars outvars qs h.adjoint input shadows output.events) (λ i. shadow_flags (m.shadowed (named i)) (like.same_dummies i)) (h.transposes input shadows (like.same_fits input ∙ fit) alike k used output done));
    }

-- what is emitted for the kernel, whatever its lines, is an adjoint of the program
pub emitted_is_adjoint : EmittedIsAdjoint
emitted_is_adjoint ps a name u found vars outvars qs same =
    let k = whole_units ps name u found in
    let n = unit_number (kernel_of ps) name in
    kernels_adjoint false (λ line. None) full_marks ps a name u found vars outvars qs
    (other_lines false (λ line. None) full_marks (kernel_of ps) (emitted_for ps name vars outvars) qs n vars outvars same
    (checked_is_adjoint run_rules (kernel_of ps) (kernel_checked ps a) n vars outvars k.becomes (numbered (kernel_of ps) name k.becomes k.found).1))

pub is_written : EmittedIsWritten
is_written ps a name vars outvars = emitted_written run_rules (kernel_of ps) (kernel_checked ps a) (unit_number (kernel_of ps) name) vars outvars

pub is_sound : EmittedIsSound
is_sound ps a name vars outvars qs same =
    let few : run_rules.chain ≤ run_rules.chain = omega arith in
    sound_lines run_rules (emitted_for ps name vars outvars) qs same (emitted_sound run_rules (kernel_of ps) (kernel_checked ps a) few (unit_number (kernel_of ps) name) vars outvars)
