-- A tangent stays one where its lines bear other numbers.
use Rattle.std.proofs.Common.{◌≡◌, ℕ, ◌+◌, ◌*◌, ◌≤◌, List, [], refl, sym, ap, ◌∙◌, subst, arith}
use Rattle.std.specs.Prelude.{ℤ, Bool, None}
use Rattle.adj_tree.specs.Code.{Procedure}
use Rattle.adj_tree.specs.Lines.{unlined_procedure, unlined}
use Rattle.def_meaning.specs.Numbers.{words}
use Rattle.def_meaning.specs.Scene.{IsMore, Outcome, Done, Trapped, More, Full}
use Rattle.def_meaning.specs.Units.{Slot, Output, run_unit}
use Rattle.law_meaning.specs.Unlined.{unlined_stand, unlined_output, unlined_ending}
use Rattle.law_meaning.proofs.Costs.{one_end}
use Rattle.law_meaning.proofs.Unlined.{runs_alike}
use Rattle.def_kernel.specs.Stepped.{kernel_of}
use Rattle.def_tangent.specs.Program.{tangent_name}
use Rattle.law_tangent.specs.IsTangent.{TangentDone}
use Rattle.def_tangent.specs.IsTangent.{TangentTraps}
use Rattle.law_tangent_carried.specs.Lines.{OtherLines, AcceptedReads}
use Rattle.law_tangent_carried.proofs.Through.{accepted_is_tangent}
use Rattle.law_sweep.proofs.Lines.{unlined_more, ends_alike, there}

module _ (qs others : List Procedure) (same : unlined qs ≡ unlined others) (a b : Procedure) (like : unlined_procedure a ≡ unlined_procedure b) (input : List (Slot ℤ)) where
  abbrev run_of : ℕ → Outcome (Output ℤ)
  run_of k = run_unit words others b input [] None k

  alike : (k : ℕ) → unlined_ending (run_unit words qs a input [] None k) ≡ unlined_ending (run_of k)
  alike k = runs_alike qs others same a b like words input [] None k

  done_there : (w used dummies : ℕ) (flags : List Bool) (out : Output (ℤ × ℤ)) → TangentDone w flags qs a input out used dummies → TangentDone w flags others b input out used dummies
  done_there w used dummies flags out e =
      let r = ends_alike words qs others a b input same like (record { enough = e.enough; output = e.output; used = e.spent; runs = e.runs }) in
      record {
        enough = r.ends.enough;
        output = r.ends.output;
        spent = r.ends.used;
        runs = r.ends.runs;
        slots = ap (λ (x : Output ℤ). x.slots) r.same ∙ e.slots;
        others = e.others;
        tape = ap (λ (x : Output ℤ). x.tape) r.same ∙ e.tape;
        cost = subst (λ n. n ≤ w * used + dummies) (sym r.spent) e.cost;
      }

  traps_there : (line : ℕ) → TangentTraps qs a input line → (at : ℕ) × TangentTraps others b input at
  traps_there line e = go (run_of e.enough) refl
    where
      trapped : (k : ℕ) → e.enough ≤ k → unlined_ending (run_of k) ≡ Trapped e.kind 0 (unlined_stand e.stands)
      trapped k le = sym (alike k) ∙ ap unlined_ending (e.runs k le)

      no_more : (k : ℕ) → e.enough ≤ k → IsMore (run_of k) → ⊥
      no_more k le m = subst IsMore (trapped k le) (unlined_more (run_of k) m)

      go : (o : Outcome (Output ℤ)) → run_of e.enough ≡ o → (at : ℕ) × TangentTraps others b input at
      go (Done got k) is = absurd (let z : Done (unlined_output got) k ≡ Trapped e.kind 0 (unlined_stand e.stands) = ap unlined_ending (sym is) ∙ trapped e.enough (omega arith) in cc)
      go (Trapped t at x) is = (at, record { enough = e.enough; kind = t; stands = x; runs = λ m le. one_end words others b input [] None m e.enough (no_more m le) (no_more e.enough (omega arith)) ∙ is })
      go (More x) is = absurd (no_more e.enough (omega arith) (subst IsMore (sym is) tt))
      go (Full x) is = absurd (let z : Full (unlined_stand x) ≡ Trapped e.kind 0 (unlined_stand e.stands) = ap unlined_ending (sym is) ∙ trapped e.enough (omega arith) in cc)

-- the laws
pub other_lines : OtherLines
other_lines w on ps name vars qs others same h =
    let t = there qs others same (tangent_name (kernel_of ps) name) h.tangent h.is_there in
    record {
      unit = h.unit;
      is_head = h.is_head;
      kernel = h.kernel;
      becomes = h.becomes;
      tangent = t.unit;
      is_there = t.is;
      done = λ input z d fit a dir are handed n used out r.
          let o = h.done input z d fit a dir are handed n used out r in
          record { kernel_output = o.kernel_output; kernel_used = o.kernel_used; enough = o.enough; kernel_runs = o.kernel_runs; done = done_there qs others same h.tangent t.unit t.like _ w o.kernel_used _ _ out o.done };
      traps = λ input z d fit a dir are handed n line k x r. traps_there qs others same h.tangent t.unit t.like _ line (h.traps input z d fit a dir are handed n line k x r);
    }

pub accepted_reads : AcceptedReads
accepted_reads ps acc name u found vars outvars varied on is m some light qs same = other_lines _ _ ps name vars _ qs same (accepted_is_tangent ps acc name u found vars outvars varied on is m some light)
