-- What is emitted for the tangent of the kernel of a program that a text gives in Source mode keeps the limits of a run, and reads in Run mode.
use Rattle.std.proofs.Common.{◌≡◌, ◌≤◌, ◌<◌, ℕ, true, List, [], ◌∷◌, length, refl, sym, subst, arith}
use Rattle.adj_tree.specs.Code.{Procedure}
use Rattle.adj_tree.specs.Lines.{unlined}
use Rattle.def_text.specs.Text.{text_of}
use Rattle.def_text.specs.OrTooMany.{OrTooMany}
use Rattle.def_text.specs.declared.mode.Mode.TheVariants.{Run}
use Rattle.def_names.specs.Variables.{variables}
use Rattle.def_names.specs.Numbers.{Vars}
use Rattle.def_names.specs.Fault.{run_rules}
use Rattle.def_names.specs.Check.{IsSound}
use Rattle.def_sweep.specs.Declared.{unit_at}
use Rattle.def_kernel.specs.Kernel.{EachUnit}
use Rattle.def_kernel.specs.Stepped.{kernel_of}
use Rattle.def_flow.specs.Problem.{Problem}
use Rattle.law_emitted.specs.Checked.{IsChecked}
use Rattle.law_emitted.proofs.Lists.{Each}
use Rattle.law_emitted.proofs.Callings.{Found}
use Rattle.law_emitted.proofs.Premises.{found}
use Rattle.law_emitted.proofs.Sources.{UnitSound}
use Rattle.law_emitted.proofs.NameFaults.{NamesSound, all_names_sound}
use Rattle.law_emitted.proofs.Kernels.{kernel_checked}
use Rattle.def_refused.specs.TextFaults.{program_of}
use Rattle.law_limits.specs.Rule.{keeps}
use Rattle.law_limits.specs.Kept.{short_names}
use Rattle.law_limits.specs.Reading.{KeptReads, SourceIsKept}
use Rattle.law_limits.specs.Limits.{IsShallow}
use Rattle.law_limits.proofs.KernelNesting.{kernel_nesting}
use Rattle.law_limits.proofs.KernelDepths.{kernel_depths}
use Rattle.law_limits.proofs.Measures.{nested_up, program_low, program_fine}
use Rattle.law_limits.proofs.Runnable.{IsModestKernel, kernel_modest, program_passes}
use Rattle.def_tangent.specs.Program.{Carried, has_tangent, emitted_units, tangent_program}
use Rattle.def_flow.specs.Carried.{IsCarrying, carried_by}
use Rattle.law_tangent_carried.specs.Emitted.{TangentIsSound}
use Rattle.law_tangent_carried.specs.Limits.{TangentIsShallow, TangentIsRunnable}
use Rattle.law_tangent_carried.proofs.Nesting.{keeps_nesting}
use Rattle.law_tangent_carried.proofs.Depths.{keeps_depth}
use Rattle.law_tangent_carried.proofs.Written.{takes_any, tangent_is_written}
use Rattle.law_tangent_carried.proofs.EmittedUnits.{for_head, tangent_of}
use Rattle.law_tangent_carried.proofs.MadeTangents.{its_places}
use Rattle.law_tangent_carried.proofs.ShortTangents.{DeclaresAll, emitted_short}

-- ---- depth and nesting

pub tangent_shallow : SourceIsKept → TangentIsShallow
tangent_shallow source bytes ps h c head vars =
    let kept = source bytes ps h in
    let two : 2 ≤ 100 = omega arith in
    let deep : 104 < 120 = omega arith in
    let most : 31 ≤ 45 = omega arith in
    record {
      depths = program_fine 104 120 deep (tangent_program c (kernel_of ps) head vars) (keeps_depth 100 c (kernel_of ps) (kernel_depths 100 two ps (program_low 100 ps kept.depths)) head vars);
      nested = nested_up 31 45 most (tangent_program c (kernel_of ps) head vars) (keeps_nesting 31 c (kernel_of ps) (kernel_nesting 30 ps kept.nested) head vars);
    }

-- ---- the text

module _ (k : Problem) (checked : IsChecked run_rules k.units) (varied on : ℕ → Vars) (is : IsCarrying k varied on) (top : Procedure) (at : unit_at k.head k.units ≡ top ∷ []) where
  -- each tangent that is emitted declares all that stands in it
  tangents_declare : Each (λ u. has_tangent (carried_by k.units on) k.units top.name u.name ≡ true → DeclaresAll (tangent_of (carried_by k.units on) k.units top k.vars u)) k.units
  tangents_declare = go k.units (found run_rules k.units checked) (all_names_sound run_rules k.units checked)
    where
      go : (us : List Procedure) → Each (Found k.units) us → Each (λ u. UnitSound k.units u × NamesSound k.units u) us → Each (λ u. has_tangent (carried_by k.units on) k.units top.name u.name ≡ true → DeclaresAll (tangent_of (carried_by k.units on) k.units top k.vars u)) us
      go [] f s = tt
      go (u ∷ us) f s = ((λ h. its_places (carried_by k.units on) k.units top k.vars u s.0.0 s.0.1 (takes_any run_rules k checked varied on is top at u f.0 s.0.0 h)), go us f.1 s.1)

module _ (reads : KeptReads) (source : SourceIsKept) (sound : TangentIsSound) where
  module _ (k : Problem) (checked : IsChecked run_rules k.units) (modest : IsModestKernel k.units) (known : EachUnit (λ u. length (variables u) ≤ 1073741823) k.units) (varied on : ℕ → Vars) (is : IsCarrying k varied on) where
    abbrev c : Carried
    c = carried_by k.units on

    -- its names are short
    names_short : IsSound run_rules (tangent_program c k.units k.head k.vars) → keeps (short_names 63) (tangent_program c k.units k.head k.vars) ≡ true
    names_short =
        for_head (λ qs. IsSound run_rules qs → keeps (short_names 63) qs ≡ true) c k.units k.head k.vars (λ s. refl)
        (λ u at. program_passes (emitted_units c k.units u k.vars k.units) (emitted_short c k.units u k.vars modest known (tangents_declare k checked varied on is u at)))

    reads_back : IsShallow (tangent_program c k.units k.head k.vars) → OrTooMany (λ found. unlined found ≡ unlined (tangent_program c k.units k.head k.vars)) (program_of Run (text_of (tangent_program c k.units k.head k.vars)))
    reads_back shallow =
        let few : run_rules.chain ≤ run_rules.chain = omega arith in
        reads (tangent_program c k.units k.head k.vars) (tangent_is_written run_rules k checked varied on is)
        (record { names = names_short (sound run_rules k checked few varied on is); depths = shallow.depths; nested = shallow.nested })

  pub tangent_runnable : TangentIsRunnable
  tangent_runnable bytes ps h accepted known k same varied on is =
      let Q : List Procedure → Type 0 = λ us. let qs = tangent_program (carried_by us on) us k.head k.vars in OrTooMany (λ found. unlined found ≡ unlined qs) (program_of Run (text_of qs)) in
      let back = sym same in
      subst Q same
      (reads_back k (subst (IsChecked run_rules) back (kernel_checked ps accepted)) (subst IsModestKernel back (kernel_modest source bytes ps h accepted known)) (subst (EachUnit (λ u. length (variables u) ≤ 1073741823)) back known) varied on is
      (subst (λ us. IsShallow (tangent_program (carried_by us on) us k.head k.vars)) back (tangent_shallow source bytes ps h (carried_by (kernel_of ps) on) k.head k.vars)))
