-- The kernel of an accepted program: it is checked, and its units are where their names are.
use Rattle.std.proofs.Common.{arith, ◌≡◌, ◌<◌, length, ℕ, suc, Bool, true, false, List, [], ◌∷◌, refl, sym, ap, ◌∙◌, subst}
use Rattle.std.specs.Prelude.{ℤ, Some, if◌then◌else◌}
use Rattle.adj_tree.specs.Code.{name_eq, Procedure}
use Rattle.adj_tree.proofs.Names.{name_same}
use Rattle.def_meaning.specs.Numbers.{words}
use Rattle.def_meaning.specs.Written.{find_unit}
use Rattle.def_meaning.specs.Units.{Slot, fits}
use Rattle.def_names.specs.HeadFaults.{unit_number}
use Rattle.def_sweep.specs.Declared.{unit_at}
use Rattle.def_kernel.specs.Kernel.{lowered_unit}
use Rattle.def_kernel.specs.Stepped.{cut, stepped_program, kernel_of}
use Rattle.law_kernel.proofs.Programs.{found_lowered}
use Rattle.law_kernel.proofs.StepLookups.{is_step_for}
use Rattle.law_kernel.proofs.Inputs.{inputs_same}
use Rattle.law_kernel.proofs.SoundPrograms.{sound_is_source, sound_calls}
use Rattle.law_kernel.proofs.SoundKernels.{kernel_is_sound}
use Rattle.law_kernel.proofs.StepsWritten.{whole_kernel_written}
use Rattle.law_kernel.proofs.WholeKernels.{whole_units, whole_kernel_form}
use Rattle.law_emitted.specs.Accepted.{KernelIsChecked}

-- the kernel is checked
pub kernel_checked : KernelIsChecked
kernel_checked ps a = record {
  written = whole_kernel_written ps a.written (sound_calls ps a.written a.sound);
  sound = kernel_is_sound ps a;
  kernel = whole_kernel_form ℤ ps (sound_is_source ps a.written a.sound ℤ);
}

-- the unit of a name has its number, which is that of a unit
pub numbered : (ps : List Procedure) (name : List ℕ) (u : Procedure) → find_unit ps name ≡ Some u → (unit_number ps name < length ps) × (unit_at (unit_number ps name) ps ≡ u ∷ [])
numbered [] name u f = absurd cc
numbered (p ∷ ps) name u f = go (name_eq p.name name) refl f (numbered ps name u)
  where
    go : (b : Bool) → name_eq p.name name ≡ b → (if b then Some p else find_unit ps name) ≡ Some u → (find_unit ps name ≡ Some u → (unit_number ps name < length ps) × (unit_at (unit_number ps name) ps ≡ u ∷ [])) → ((if b then 0 else suc (unit_number ps name)) < suc (length ps)) × (unit_at (if b then 0 else suc (unit_number ps name)) (p ∷ ps) ≡ u ∷ [])
    go true e f ih = let same : p ≡ u = cc in (omega arith, ap (λ v. v ∷ []) same)
    go false e f ih = let rest = ih f in (let lt = rest.0 in omega arith, rest.1)

-- so the head of the kernel is one of its units
pub head_within : (ps : List Procedure) (name : List ℕ) (u : Procedure) → find_unit ps name ≡ Some u → unit_number (kernel_of ps) name < length (kernel_of ps)
head_within ps name u found = let k = whole_units ps name u found in (numbered (kernel_of ps) name k.becomes k.found).0

-- what a unit becomes takes the same inputs, and has its name and its dummies
pub record IsKernelUnit (u v : Procedure) : Type 0 where
  pub same_dummies : v.dummies ≡ u.dummies
  pub same_name : v.name ≡ u.name
  pub same_fits : (input : List (Slot ℤ)) → fits words v input ≡ fits words u input

pub becomes : (ps : List Procedure) (name : List ℕ) (u v : Procedure) → find_unit ps name ≡ Some u → find_unit (kernel_of ps) name ≡ Some v → IsKernelUnit u v
becomes ps name u v f k =
    let s = is_step_for ps name u f in
    let w : Procedure = record u { body = cut s.taken u 0 u.body } in
    let there : find_unit (kernel_of ps) name ≡ Some (lowered_unit (stepped_program ps) w) = found_lowered (stepped_program ps) (stepped_program ps) name w s.found in
    let one : Some (lowered_unit (stepped_program ps) w) ≡ Some v = sym there ∙ k in
    let same : lowered_unit (stepped_program ps) w ≡ v = cc in
    subst (IsKernelUnit u) same (record { same_dummies = refl; same_name = refl; same_fits = λ input. inputs_same words (stepped_program ps) w input })

-- the unit of a name has the name
pub found_name : (ps : List Procedure) (name : List ℕ) (u : Procedure) → find_unit ps name ≡ Some u → u.name ≡ name
found_name [] name u f = absurd cc
found_name (p ∷ ps) name u f = go (name_eq p.name name) refl f (found_name ps name u)
  where
    go : (b : Bool) → name_eq p.name name ≡ b → (if b then Some p else find_unit ps name) ≡ Some u → (find_unit ps name ≡ Some u → u.name ≡ name) → u.name ≡ name
    go true e f ih = let same : p ≡ u = cc in ap (λ (v : Procedure). v.name) (sym same) ∙ name_same p.name name e
    go false e f ih = ih f
