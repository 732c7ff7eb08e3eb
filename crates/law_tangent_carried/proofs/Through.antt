-- A tangent of the kernel of an accepted program is one of the program.
use Rattle.std.proofs.Common.{arith, ◌≡◌, ℕ, ◌*◌, Bool, true, List, [], map, length, refl, sym, ap, ◌∙◌, subst}
use Rattle.std.specs.Prelude.{ℤ, Some, None}
use Rattle.adj_tree.specs.Code.{Procedure}
use Rattle.def_meaning.specs.Trap.{Trap}
use Rattle.def_meaning.specs.Numbers.{words, duals}
use Rattle.def_meaning.specs.Scene.{Stand, Done, Trapped}
use Rattle.def_meaning.specs.Written.{find_unit}
use Rattle.def_meaning.specs.Seen.{slot_seen}
use Rattle.def_meaning.specs.Units.{Slot, Output, fits, run_unit}
use Rattle.def_names.specs.Fault.{run_rules}
use Rattle.def_sweep.specs.Tangents.{AreAlike, IsDirection, OthersAreZero, with_direction, tangents_of, cells_of}
use Rattle.def_sweep.specs.MarkedAdjoint.{shadow_flags, joined_by}
use Rattle.def_kernel.specs.Stepped.{stepped_program, kernel_of}
use Rattle.law_kernel.specs.Means.{MeansAlike}
use Rattle.law_kernel.specs.StepMeans.{SameButCalls}
use Rattle.law_kernel.specs.Sound.{IsAccepted}
use Rattle.law_kernel.proofs.SoundPrograms.{sound_is_source}
use Rattle.law_kernel.proofs.WholeKernels.{whole_units, whole_means_alike}
use Rattle.law_emitted.proofs.Heaviest.{heaviest_in, all_weigh}
use Rattle.law_emitted.proofs.Directions.{direction_fits}
use Rattle.law_emitted.proofs.Kernels.{kernel_checked, numbered, found_name, IsKernelUnit, becomes}
use Rattle.def_tangent.specs.Program.{Carried, tangent_name}
use Rattle.law_tangent.specs.IsTangent.{TangentDone, IsTangentOf}
use Rattle.def_tangent.specs.IsTangent.{AreAllWords, AreHandedIn, TangentTraps}
use Rattle.def_flow.specs.Carried.{carried_by}
use Rattle.law_tangent_carried.specs.Source.{SourceDone, IsTangentFor}
use Rattle.def_planned.specs.Planned.{kernel_problem}
use Rattle.law_tangent_carried.specs.Source.{KernelsTangent, AcceptedIsTangent}
use Rattle.law_tangent_carried.proofs.Fits.{carrying_is_tangent}

module _ (w : ℕ) (on : Carried) (ps : List Procedure) (acc : IsAccepted ps) (name : List ℕ) (u v : Procedure) (found : find_unit ps name ≡ Some u) (kernel : find_unit (kernel_of ps) name ≡ Some v) (vars : List Bool) (qs : List Procedure) (h : IsTangentOf w on (kernel_of ps) v vars qs) where
  abbrev ks : List Procedure
  ks = kernel_of ps

  like : IsKernelUnit u v
  like = becomes ps name u v found kernel

  named : v.name ≡ name
  named = found_name ks name v kernel

  on_duals : (input : List (Slot (ℤ × ℤ))) → fits duals u input ≡ true → MeansAlike SameButCalls (run_unit duals ps u input [] None) (run_unit duals ks v input [] None) (18 * heaviest_in (stepped_program ps))
  on_duals input f = whole_means_alike {C = ℤ × ℤ} duals (record { shows = λ z. refl }) ps (sound_is_source ps acc.written acc.sound (ℤ × ℤ)) (heaviest_in (stepped_program ps)) (all_weigh (stepped_program ps)) name u v found kernel input f [] None

  module _ (input z : List (Slot ℤ)) (d : List (List ℤ)) (f : fits words u input ≡ true) (a : AreAlike input z) (dir : IsDirection vars input d) (are : AreAllWords d) (handed : AreHandedIn vars d z) where
    abbrev flags : List Bool
    flags = shadow_flags (on name) u.dummies

    same_flags : shadow_flags (on v.name) v.dummies ≡ flags
    same_flags = λ i. shadow_flags (on (named i)) (like.same_dummies i)

    means : MeansAlike SameButCalls (run_unit duals ps u (with_direction input d) [] None) (run_unit duals ks v (with_direction input d) [] None) (18 * heaviest_in (stepped_program ps))
    means = on_duals (with_direction input d) (direction_fits u input d dir.tangents ∙ f)

    fits_kernel : fits words v input ≡ true
    fits_kernel = like.same_fits input ∙ f

    done_too : (n used : ℕ) (out : Output (ℤ × ℤ)) → run_unit duals ps u (with_direction input d) [] None n ≡ Done out used → SourceDone w flags ks qs v h.unit (with_direction input d) (joined_by flags input z) out (length u.dummies)
    done_too n used out r =
        let o = means.done n used out r in
        let e = o.ends in
        let t = h.done input z d fits_kernel a dir are handed e.enough e.used o.other (e.runs e.enough (omega arith)) in
        let t1 : TangentDone w flags qs h.unit (joined_by flags input z) o.other e.used (length v.dummies) = subst (λ fl. TangentDone w fl qs h.unit (joined_by fl input z) o.other e.used (length v.dummies)) same_flags t in
        let t2 : TangentDone w flags qs h.unit (joined_by flags input z) o.other e.used (length u.dummies) = subst (λ ds. TangentDone w flags qs h.unit (joined_by flags input z) o.other e.used (length ds)) like.same_dummies t1 in
        let same : o.other.slots ≡ out.slots = (let q = o.related in sym q.slots) in
        record {
          kernel_output = o.other;
          kernel_used = e.used;
          enough = e.enough;
          kernel_runs = e.runs;
          done = record {
            enough = t2.enough;
            output = t2.output;
            spent = t2.spent;
            runs = t2.runs;
            slots = t2.slots ∙ (λ i. joined_by flags (map (slot_seen (λ c. c.0)) (same i)) (map (slot_seen (λ c. c.1)) (same i)));
            others = subst (λ ss. OthersAreZero flags (tangents_of (cells_of ss))) same t2.others;
            tape = t2.tape;
            cost = t2.cost;
          };
        }

    traps_too : (n line : ℕ) (t : Trap) (x : Stand) → run_unit duals ps u (with_direction input d) [] None n ≡ Trapped t line x → TangentTraps qs h.unit (joined_by flags input z) line
    traps_too n line t x r =
        let o = means.traps n line t x r in
        subst (λ fl. TangentTraps qs h.unit (joined_by fl input z) line) same_flags (h.traps input z d fits_kernel a dir are handed o.enough line o.kind o.stands (o.runs o.enough (omega arith)))

  for_source : IsTangentFor w on ps name vars qs
  for_source = record {
    unit = u;
    is_head = found;
    kernel = v;
    becomes = kernel;
    tangent = h.unit;
    is_there = ap (λ n. find_unit qs (tangent_name ks n)) (sym named) ∙ h.found;
    done = done_too;
    traps = traps_too;
  }

-- the laws
pub kernels_tangent : KernelsTangent
kernels_tangent w on ps a name u found vars qs h =
    let k = whole_units ps name u found in
    for_source w on ps a name u k.becomes found k.found vars qs (h k.becomes (numbered (kernel_of ps) name k.becomes k.found).1)

pub accepted_is_tangent : AcceptedIsTangent
accepted_is_tangent ps a name u found vars outvars varied on is m some light =
    let k = whole_units ps name u found in
    kernels_tangent (2 * m) (carried_by (kernel_of ps) on) ps a name u found vars _
    (carrying_is_tangent run_rules (kernel_problem ps name vars outvars) (kernel_checked ps a) varied on is m some light k.becomes (numbered (kernel_of ps) name k.becomes k.found).1)
