-- What is emitted for the kernel of an accepted program that a text gives in Source mode keeps the limits of a run, and reads in Run mode.
use Rattle.std.proofs.Common.{◌≡◌, ◌≤◌, ◌<◌, ◌^◌, ℕ, Bool, true, List, [], ◌∷◌, length, map, flat_map, drop, Ok, refl, arith, length-drop}
use Rattle.std.proofs.lemmas.Bool.{and_parts, and_from}
use Rattle.adj_tree.specs.Code.{unmarked, with_count, count_from, Act, Code, assign, choose, loop, during, call, runtime, stop, step, Procedure}
use Rattle.adj_tree.specs.Size.{IsNested}
use Rattle.def_text.specs.declared.mode.Mode.TheVariants.{Source}
use Rattle.def_names.specs.Fault.{source_rules, run_rules}
use Rattle.def_names.specs.Statements.{At, statements}
use Rattle.def_names.specs.Variables.{places, first_places, variables}
use Rattle.def_names.specs.NameFaults.{undeclared, declared_twice, misused, bad_extents, reserved_variables, runtime_calls, passed_by, too_many_variables, faults_of_names}
use Rattle.def_names.specs.CallFaults.{faults_of_call}
use Rattle.def_names.specs.Check.{IsSound}
use Rattle.def_names.proofs.Sound.{sound_has_none}
use Rattle.def_sweep.specs.Declared.{unit_at}
use Rattle.def_sweep.specs.Marking.{ProgramMarks}
use Rattle.def_sweep.specs.Program.{emitted_units_with, emitted_for_with, emitted_program_with}
use Rattle.def_kernel.specs.Kernel.{locals_count, lowered_unit, EachUnit}
use Rattle.def_kernel.specs.Stepped.{marked_in_act, marked_in, stepped_program, kernel_of}
use Rattle.law_kernel.specs.Sound.{IsAccepted}
use Rattle.law_emitted.specs.Checked.{IsChecked}
use Rattle.law_emitted.proofs.Lists.{Each, none_each}
use Rattle.def_names.proofs.Faultless.{none_front, none_behind}
use Rattle.law_emitted.specs.Shadowed.{AllHaveShadows}
use Rattle.law_emitted.specs.Splits.{AllMaySplit}
use Rattle.law_emitted.proofs.Makings.{Making, its_name}
use Rattle.law_emitted.specs.Emitted.{AreShallow}
use Rattle.law_emitted.proofs.Sources.{each_name, of_each, UnitSound, all_named}
use Rattle.law_emitted.proofs.NameFaults.{NamesSound, all_names_sound}
use Rattle.law_emitted.proofs.UnitFaults.{each_emitted}
use Rattle.law_emitted.proofs.Programs.{marked_written}
use Rattle.law_emitted.proofs.SoundPrograms.{marked_sound}
use Rattle.law_emitted.proofs.Kernels.{kernel_checked}
use Rattle.def_refused.specs.TextFaults.{program_of}
use Rattle.law_limits.specs.Rule.{procedure_keeps, keeps}
use Rattle.law_limits.specs.Kept.{short_names, acts_in, acts_in_code, statements_in}
use Rattle.law_limits.specs.Reading.{KeptReads, IsSource, SourceIsKept}
use Rattle.law_limits.specs.Lengths.{AreShort, IsSmall, marked_loops}
use Rattle.law_limits.proofs.StepLengths.{kernel_units_short}
use Rattle.law_limits.proofs.KernelLengths.{kernel_variables_short, locals_few}
use Rattle.law_limits.specs.Limits.{EmittedIsRunnableWith}
use Rattle.law_limits.proofs.KernelNesting.{kernel_nesting}
use Rattle.law_limits.proofs.KernelDepths.{kernel_depths}
use Rattle.law_limits.proofs.Measures.{program_low}
use Rattle.law_limits.proofs.ReadableTexts.{emitted_shallow}
use Rattle.law_limits.proofs.StandingShort.{HasShort, unit_short}
use Rattle.law_limits.proofs.ShortVariables.{variable_short, unit_passes}
use Rattle.law_limits.proofs.UnitNames.{made_short_name}
use Rattle.law_limits.proofs.ShortEmitted.{IsModest, HasShortNames, carried_short, all_made_short}

-- ---- the source is small

units_hold : (us : List Procedure) → keeps (short_names 40) us ≡ true → EachUnit (HasShort 40) us
units_hold [] h = tt
units_hold (u ∷ us) h = let p = and_parts (procedure_keeps (short_names 40) u) (keeps (short_names 40) us) h in (unit_short 40 u p.0, units_hold us p.1)

all_short : (xs : List (List ℕ)) → Each (λ x. length x ≤ 40) xs → AreShort 40 xs
all_short [] h = tt
all_short (x ∷ xs) h = (h.0, all_short xs h.1)

short_all : (xs : List (List ℕ)) → AreShort 40 xs → Each (λ x. length x ≤ 40) xs
short_all [] h = tt
short_all (x ∷ xs) h = (h.0, short_all xs h.1)

units_variables : (us : List Procedure) → EachUnit (HasShort 40) us → EachUnit (λ u. AreShort 40 (variables u)) us
units_variables [] h = tt
units_variables (u ∷ us) h = (all_short (variables u) (each_name (λ x. length x ≤ 40) (variables u) (variable_short 40 u h.0)), units_variables us h.1)

none_passed : (ps : List (At (List ℕ))) → passed_by 200 ps ≡ [] → length ps ≡ 0
none_passed [] h = refl
none_passed (p ∷ ps) h = absurd cc

few_places : (ps : List (At (List ℕ))) → passed_by 200 (drop 200 ps) ≡ [] → length ps ≤ 200
few_places ps h = let none = none_passed (drop 200 ps) h in let all = length-drop 200 ps in omega arith

names_length : (ps : List (At (List ℕ))) → length (map (λ (p : At (List ℕ)). p.1) ps) ≡ length ps
names_length [] = refl
names_length (p ∷ ps) = let rest = names_length ps in omega arith

pub few_variables : (us ps : List Procedure) → Each (λ u. faults_of_names source_rules ps u ≡ []) us → EachUnit (λ u. length (variables u) ≤ 200) us
few_variables [] ps h = tt
few_variables (u ∷ us) ps h =
    let a = none_behind (undeclared u) _ h.0 in
    let b = none_behind (declared_twice u) _ a in
    let c = none_behind (misused source_rules u) _ b in
    let d = none_behind (bad_extents u) _ c in
    let e = none_behind (reserved_variables ps u) _ d in
    let few = few_places (first_places (places u)) (none_behind (runtime_calls source_rules u) (too_many_variables source_rules u) e) in
    let all = names_length (first_places (places u)) in
    (omega arith, few_variables us ps h.1)

mutual
  act_marked : (a : Act) → marked_in_act a ≤ acts_in a
  act_marked (assign x s e) = omega arith
  act_marked (choose c a b) = let p = code_marked a in let q = code_marked b in omega arith
  act_marked (loop x a b c body unmarked) = let p = code_marked body in omega arith
  act_marked (loop x a b c body (with_count k)) = let p = code_marked body in omega arith
  act_marked (loop x a b c body (count_from y)) = let p = code_marked body in omega arith
  act_marked (during c body) = let p = code_marked body in omega arith
  act_marked (call x es) = omega arith
  act_marked (runtime r) = omega arith

  code_marked : (c : Code) → marked_in c ≤ acts_in_code c
  code_marked stop = omega arith
  code_marked (step line a rest) = let p = act_marked a in let q = code_marked rest in omega arith

few_marked : (us : List Procedure) → marked_loops us ≤ statements_in us
few_marked [] = omega arith
few_marked (u ∷ us) = let p = code_marked u.body in let q = few_marked us in omega arith

source_small : (ps : List Procedure) → IsSource ps → IsSound source_rules ps → IsSmall ps
source_small ps s sound =
    let marked = few_marked ps in
    let statements = s.few_statements in
    let none = sound_has_none source_rules ps sound in
    record {
      few_units = s.few_units;
      names = s.units;
      few_variables = few_variables ps ps (none_each (faults_of_names source_rules ps) ps none.names);
      few_marked = omega arith;
    }

-- ---- the kernel

few_locals : (all vs : List Procedure) → EachUnit (λ v. length (variables v) ≤ 1073741823) (map (lowered_unit all) vs) → EachUnit (λ v. locals_count all v < 10 ^ 10) vs
few_locals all [] h = tt
few_locals all (v ∷ vs) h = let l = locals_few all v in let k : length (variables (lowered_unit all v)) ≤ 1073741823 = h.0 in (omega arith, few_locals all vs h.1)

modest : (ks us : List Procedure) → Each (λ u. UnitSound ks u × NamesSound ks u) us → EachUnit (λ u. AreShort 40 (variables u)) us → EachUnit (λ u. length (variables u) ≤ 1073741823) us → EachUnit (λ u. length u.name ≤ 46) us → IsNested 31 us → AreShallow 100 us → Each (IsModest ks) us
modest ks [] s a k n d e = tt
modest ks (u ∷ us) s a k n d e = (
  record { sound = s.0.0; names = s.0.1; short = λ x h. of_each (λ x. length x ≤ 40) (variables u) (short_all (variables u) a.0) x h; few = k.0; named = n.0; nested = d.0; shallow = e.0 },
  modest ks us s.1 a.1 k.1 n.1 d.1 e.1,
)

-- what is known of it
pub record IsModestKernel (ks : List Procedure) : Type 0 where
  pub few_units : length ks ≤ 402000
  pub names : EachUnit (λ u. length u.name ≤ 46) ks
  pub short : EachUnit (λ u. AreShort 40 (variables u)) ks
  pub units : Each (IsModest ks) ks

pub kernel_modest : SourceIsKept → (bytes : List ℕ) (ps : List Procedure) → program_of Source bytes ≡ Ok ps → IsAccepted ps → EachUnit (λ v. length (variables v) ≤ 1073741823) (kernel_of ps) → IsModestKernel (kernel_of ps)
kernel_modest source bytes ps h accepted known =
    let s = source bytes ps h in
    let ks = kernel_of ps in
    let small = source_small ps s accepted.sound in
    let units = kernel_units_short ps small in
    let short = kernel_variables_short ps accepted small (units_variables ps (units_hold ps (s.names accepted.sound))) (few_locals (stepped_program ps) (stepped_program ps) known) in
    let two : 2 ≤ 100 = omega arith in
    let nested = kernel_nesting 30 ps s.nested in
    let shallow = kernel_depths 100 two ps (program_low 100 ps s.depths) in
    record {
      few_units = units.few_units;
      names = units.names;
      short = short;
      units = modest ks ks (all_names_sound run_rules ks (kernel_checked ps accepted)) short known units.names nested shallow;
    }

-- ---- the emitted program

unit_names : (us : List Procedure) → Each HasShortNames us → Each (λ u. length u.name ≤ 63) us
unit_names [] h = tt
unit_names (u ∷ us) h = let s = h.0 in (s.name, unit_names us h.1)

module _ (qs : List Procedure) (all : Each HasShortNames qs) where
  units_pass : (us : List Procedure) → Each HasShortNames us → Each (λ u. faults_of_names run_rules qs u ≡ []) us → Each (λ u. flat_map (λ s. faults_of_call qs u s.0 s.1) (statements u.body) ≡ []) us → keeps (short_names 63) us ≡ true
  units_pass [] h n c = refl
  units_pass (u ∷ us) h n c =
      let s = h.0 in
      let a = none_behind (undeclared u) _ n.0 in
      let b = none_behind (declared_twice u) _ a in
      let d = none_behind (misused run_rules u) _ b in
      let extents = none_front (bad_extents u) _ d in
      and_from (procedure_keeps (short_names 63) u) (keeps (short_names 63) us)
      (unit_passes 63 qs (unit_names qs all) u s.known s.name extents (none_each (λ (t : At Act). faults_of_call qs u t.0 t.1) (statements u.body) c.0)) (units_pass us h.1 n.1 c.1)

  -- a program without faults passes where its units are so
  pub program_passes : IsSound run_rules qs → keeps (short_names 63) qs ≡ true
  program_passes sound =
      let none = sound_has_none run_rules qs sound in
      units_pass qs all (none_each (faults_of_names run_rules qs) qs none.names) (none_each (λ (u : Procedure). flat_map (λ s. faults_of_call qs u s.0 s.1) (statements u.body)) qs none.calls)

module _ (sb : Bool) (m : ProgramMarks) (ks : List Procedure) (vars outvars : List Bool) (checked : IsChecked run_rules ks) (less : length ks ≤ 402000) (its_short : (u : Procedure) (k : Making) → length (its_name ks u k) ≤ 63) (each : Each (IsModest ks) ks) (shadows : AllHaveShadows m ks ks) (may : AllMaySplit sb m ks ks) where
  emitted_short : (us : List Procedure) → IsSound run_rules (emitted_for_with sb m ks vars outvars us) → keeps (short_names 63) (emitted_for_with sb m ks vars outvars us) ≡ true
  emitted_short [] sound = refl
  emitted_short (u ∷ us) sound =
      let named = all_named run_rules ks checked in
      program_passes (emitted_units_with sb m ks u vars outvars ks)
      (each_emitted sb m ks u vars outvars HasShortNames ks (carried_short sb m ks u vars outvars named less its_short ks each) (all_made_short sb m ks u vars outvars named less its_short ks each shadows may)) sound

pub emitted_runnable : KeptReads → SourceIsKept → (schedules : Bool) → EmittedIsRunnableWith schedules
emitted_runnable reads source sb bytes ps h accepted known m shadows may head vars outvars =
    let ks = kernel_of ps in
    let k = kernel_modest source bytes ps h accepted known in
    let checked = kernel_checked ps accepted in
    let few : run_rules.chain ≤ run_rules.chain = omega arith in
    let its_short = made_short_name ks k.few_units k.names k.short known in
    let sound = marked_sound run_rules ks checked few sb m shadows may head vars outvars in
    let limits = emitted_shallow source sb bytes ps h m head vars outvars in
    reads (emitted_program_with sb m ks head vars outvars) (marked_written run_rules ks checked sb m shadows may head vars outvars)
    (record { names = emitted_short sb m ks vars outvars checked k.few_units its_short k.units shadows may (unit_at head ks) sound; depths = limits.depths; nested = limits.nested })
