-- The kernel by all its steps means what the program means.
use Rattle.std.proofs.Common.{◌≡◌, ℕ, ◌*◌, ◌≤◌, Bool, true, false, List, [], ◌∷◌, ◌++◌, sym, ap, ◌∙◌, arith, subst, refl}
use Rattle.std.specs.Prelude.{max, Option, Some, if◌then◌else◌}
use Rattle.adj_tree.specs.Code.{name_eq, Procedure}
use Rattle.def_meaning.specs.Numbers.{Numbers}
use Rattle.def_meaning.specs.Written.{find_unit, handed_back}
use Rattle.def_meaning.specs.Units.{Slot, fits, run_unit}
use Rattle.law_kernel.specs.Apart.{ShowWords, EachCall}
use Rattle.law_kernel.specs.Fits.{PlainCode, IsFitCall, IsFit}
use Rattle.def_kernel.specs.Kernel.{EachUnit, lowered_unit}
use Rattle.def_kernel.specs.Form.{IsStepped, IsKernel}
use Rattle.def_kernel.specs.Stepped.{marked_in, step_names, cut, stepped_unit, stepped_from, names_of_source, stepped_program, kernel_of}
use Rattle.law_kernel.specs.StepTheorem.{nest, deepest, IsStepFor, IsMatched, HasExtents, StepFits, IsSource}
use Rattle.law_kernel.specs.Means.{MeansAlike, MeansTheSame}
use Rattle.law_kernel.specs.StepMeans.{SameButCalls, WholeKernelHasUnits, WholeKernelMeansAlike}
use Rattle.law_kernel.proofs.Faultless.{join_units}
use Rattle.law_kernel.proofs.Programs.{found_in, found_lowered}
use Rattle.def_kernel.specs.Weights.{WeighsAtMost}
use Rattle.law_kernel.proofs.Costs.{lowered_means}
use Rattle.law_kernel.proofs.SameWritten.{same_written}
use Rattle.law_kernel.proofs.Followed.{means_then}
use Rattle.law_kernel.proofs.Forms.{is_kernel}
use Rattle.law_kernel.proofs.StepLookups.{is_step_for, AllThere, program_there}
use Rattle.law_kernel.proofs.StepWritten.{step_written}
use Rattle.law_kernel.proofs.StepFitting.{good_unit}
use Rattle.law_kernel.proofs.StepMeanings.{means_alike}

-- a unit that is found nests no deeper than the deepest
found_nest : (us : List Procedure) (name : List ℕ) (v : Procedure) → find_unit us name ≡ Some v → nest v.body ≤ deepest us
found_nest [] name v h = absurd cc
found_nest (u ∷ us) name v h = go (name_eq u.name name) h (λ g. found_nest us name v g)
  where
    go : (b : Bool) → (if b then Some u else find_unit us name) ≡ Some v → (find_unit us name ≡ Some v → nest v.body ≤ deepest us) → nest v.body ≤ max (nest u.body) (deepest us)
    go true g ih = let e : u ≡ v = cc in let f : nest u.body ≡ nest v.body = ap (λ (z : Procedure). nest z.body) e in omega (arith, f)
    go false g ih = let l = ih g in omega (arith, l)

module _ (C : Type 0) (units : List Procedure) (source : IsSource C units) where
  abbrev pub units' : List Procedure
  units' = stepped_program units

  -- each unit is there, stepped
  pub stepped : (name : List ℕ) (v : Procedure) → find_unit units name ≡ Some v → IsStepFor units' name v
  stepped name v f = is_step_for units name v f

  pub plainly : (name : List ℕ) (v : Procedure) → find_unit units name ≡ Some v → PlainCode v.body
  plainly name v f = found_in (λ u. PlainCode u.body) units name v f source.fit.plains

  pub matched : (name : List ℕ) (v : Procedure) → find_unit units name ≡ Some v → EachCall (IsMatched units) v.body
  matched name v f = found_in (λ u. EachCall (IsMatched units) u.body) units name v f source.matched

  -- the first step writes the same
  pub written : (name : List ℕ) (v : Procedure) → find_unit units name ≡ Some v → handed_back units' name ≡ handed_back units name
  written name v f = step_written units units' plainly matched stepped name v f

  step_fits : (name : List ℕ) (v : Procedure) → find_unit units name ≡ Some v → StepFits C units units' (deepest units) name v
  step_fits name v f = record { plainly = plainly name v f; each = matched name v f; extents = found_in (HasExtents C units) units name v f source.extents; stepped = stepped name v f; nests = found_nest units name v f }

  -- ---- the stepped program fits

  abbrev pub IsGood : Procedure → Type 0
  IsGood p = PlainCode p.body × (EachCall (IsFitCall units' p) p.body × IsStepped p.body)

  all_good : (us : List Procedure) (taken : List (List ℕ)) → EachUnit (λ u. PlainCode u.body) us → EachUnit (λ u. EachCall (IsFitCall units u) u.body) us → EachUnit (HasExtents C units) us → AllThere units' taken us → EachUnit IsGood (stepped_from taken us)
  all_good [] taken p c x t = tt
  all_good (u ∷ us) taken p c x t = join_units IsGood (stepped_unit taken u) (stepped_from (taken ++ step_names taken u.name (marked_in u.body)) us) (good_unit units units' stepped written taken u x.0.own x.0.flat p.0 c.0 t.0) (all_good us (taken ++ step_names taken u.name (marked_in u.body)) p.1 c.1 x.1 t.1)

  -- the units of the stepped program are as they should be
  pub good : EachUnit IsGood units'
  good = all_good units (names_of_source units) source.fit.plains source.fit.calls source.extents (program_there units)

  firsts : (ps : List Procedure) → EachUnit IsGood ps → EachUnit (λ p. PlainCode p.body) ps
  firsts [] h = tt
  firsts (p ∷ ps) h = (h.0.0, firsts ps h.1)

  seconds : (ps : List Procedure) → EachUnit IsGood ps → EachUnit (λ p. EachCall (IsFitCall units' p) p.body) ps
  seconds [] h = tt
  seconds (p ∷ ps) h = (h.0.1.0, seconds ps h.1)

  thirds : (ps : List Procedure) → EachUnit IsGood ps → EachUnit (λ p. IsStepped p.body) ps
  thirds [] h = tt
  thirds (p ∷ ps) h = (h.0.1.1, thirds ps h.1)

  -- so it fits
  pub stepped_fit : IsFit units'
  stepped_fit = record { plains = firsts units' good; calls = seconds units' good }

  -- so the kernel is in kernel form
  pub whole_kernel_form : IsKernel (kernel_of units)
  whole_kernel_form = is_kernel units' stepped_fit (thirds units' good)

  -- and it writes what the source writes
  pub whole_written : (name : List ℕ) (v : Procedure) → find_unit units name ≡ Some v → handed_back (kernel_of units) name ≡ handed_back units name
  whole_written name v f = same_written units' stepped_fit name ∙ written name v f

  -- ---- both steps one after the other

  module _ (n : Numbers C) (shows : ShowWords n) (m : ℕ) (weighs : EachUnit (λ u. WeighsAtMost m u.body) units') (name : List ℕ) (u : Procedure) (found : find_unit units name ≡ Some u) (input : List (Slot C)) (input_is : fits n u input ≡ true) (tape : List C) (room : Option ℕ) where
    abbrev cut_unit : Procedure
    cut_unit = record u { body = cut (stepped name u found).taken u 0 u.body }

    -- the first step
    first : MeansAlike SameButCalls (run_unit n units u input tape room) (run_unit n units' cut_unit input tape room) 2
    unfolding stepped step_fits
    first = means_alike n units units' (deepest units) step_fits written name u found input input_is tape room

    -- the others
    second : MeansTheSame (run_unit n units' cut_unit input tape room) (run_unit n (kernel_of units) (lowered_unit units' cut_unit) input tape room) (9 * m)
    second = lowered_means n shows units' stepped_fit m weighs name cut_unit (stepped name u found).found input tape room

    -- one after the other
    whole : MeansAlike SameButCalls (run_unit n units u input tape room) (run_unit n (kernel_of units) (lowered_unit units' cut_unit) input tape room) (18 * m)
    whole =
        let twice : 9 * m * 2 ≡ 18 * m = omega arith in
        subst (λ z. MeansAlike SameButCalls (run_unit n units u input tape room) (run_unit n (kernel_of units) (lowered_unit units' cut_unit) input tape room) z) twice
        (means_then SameButCalls (run_unit n units u input tape room) (run_unit n units' cut_unit input tape room) (run_unit n (kernel_of units) (lowered_unit units' cut_unit) input tape room) 2 (9 * m) first second)

-- each unit of the source is there in the kernel
pub whole_units : WholeKernelHasUnits
whole_units units name u found =
    let s = is_step_for units name u found in
    record {
      becomes = lowered_unit (stepped_program units) (record u { body = cut s.taken u 0 u.body });
      found = found_lowered (stepped_program units) (stepped_program units) name (record u { body = cut s.taken u 0 u.body }) s.found;
      same_name = refl;
      same_line = refl;
      same_dummies = refl;
    }

-- so the kernel means what the program means
pub whole_means_alike : {C : Type 0} → WholeKernelMeansAlike C
whole_means_alike {C} n shows units source m weighs name u v found kernel_is input input_is tape room =
    let w = lowered_unit (stepped_program units) (cut_unit C units source n shows m weighs name u found input input_is tape room) in
    let is : find_unit (kernel_of units) name ≡ Some w =
    found_lowered (stepped_program units) (stepped_program units) name (cut_unit C units source n shows m weighs name u found input input_is tape room) (stepped C units source name u found).found in
    let e : Some w ≡ Some v = sym is ∙ kernel_is in
    let same : w ≡ v = cc in
    subst (λ z. MeansAlike SameButCalls (run_unit n units u input tape room) (run_unit n (kernel_of units) z input tape room) (18 * m)) same (whole C units source n shows m weighs name u found input input_is tape room)
