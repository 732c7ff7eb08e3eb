-- The kernel of a program without faults has no fault of writes.
use Rattle.std.proofs.Common.{◌≡◌, ℕ, Bool, false, List, [], ◌∷◌, ◌++◌, map, refl, ap, ◌∙◌}
use Rattle.std.specs.Prelude.{ℤ, ◌&&◌, ◌||◌}
use Rattle.adj_tree.specs.Code.{Var, var_eq, lit, var, elem, neg, bin, pow, power_of, abs, Terms, none, more, Act, assign, choose, loop, during, call, runtime, Code, stop, step, Procedure}
use Rattle.def_text.specs.Written.{IsWritten}
use Rattle.def_meaning.specs.LeastSet.{Dummies}
use Rattle.def_meaning.specs.Written.{handed_back}
use Rattle.def_meaning.proofs.Booleans.{or_false}
use Rattle.def_names.specs.Statements.{At, statements}
use Rattle.def_names.specs.Calls.{Call, call_in, calls}
use Rattle.def_names.specs.Fault.{source_rules, fault, faults_if}
use Rattle.def_names.specs.WriteFaults.{is_whole_array, clashes, have_clash, hands_back_values, written_variables, written_extents, shared_variables, written_values, faults_of_writes, write_faults}
use Rattle.def_names.specs.Check.{IsSound}
use Rattle.def_names.proofs.Sound.{sound_has_none}
use Rattle.def_kernel.specs.Calls.{stands_whole}
use Rattle.def_kernel.specs.Kernel.{EachUnit, lowered_unit}
use Rattle.def_kernel.specs.Form.{AreDistinctNames, IsKernelAct, IsKernelCode}
use Rattle.def_kernel.specs.Stepped.{names_of_source, stepped_program, kernel_of}
use Rattle.law_kernel.specs.StepTheorem.{IsSource}
use Rattle.law_kernel.proofs.Faultless.{Each, each_more, flat_each, of_each, none_each, none_flat, if_none, none_both, and_none}
use Rattle.def_names.proofs.Faultless.{none_front, none_behind}
use Rattle.law_kernel.proofs.Holding.{HoldsIn, Holds, listed}
use Rattle.law_kernel.proofs.Sparing.{AreSpared, KeepsExtents, spared_of, of_spared, kept_of, of_kept, spared_lowered, kept_lowered}
use Rattle.law_kernel.proofs.StepLookups.{program_there}
use Rattle.law_kernel.proofs.StepSpared.{all_spared}
use Rattle.law_kernel.proofs.WholeKernels.{plainly, matched, stepped, IsGood, good, stepped_fit, whole_kernel_form}
use Rattle.law_kernel.proofs.SoundPrograms.{sound_is_source}

-- ---- names that are distinct

-- a name doesn't clash with names that it isn't among
no_clashes : (u : Procedure) (v : Bool) (x : Var) (ws : List Bool) (es : Terms) → stands_whole x es ≡ false → AreDistinctNames es → clashes u v (var x) ws es ≡ false
no_clashes u v x [] es h d = refl
no_clashes u v x (w ∷ ws) none h d = refl
no_clashes u v x (w ∷ ws) (more (var y) es) h d =
    let p = or_false (var_eq x y) (stands_whole x es) h in
    ap (λ b. (b && ((v || w) || (is_whole_array u (var x) && is_whole_array u (var y)))) || clashes u v (var x) ws es) p.0 ∙ no_clashes u v x ws es p.1 d.1
no_clashes u v x (w ∷ ws) (more (lit z) es) h d = absurd d
no_clashes u v x (w ∷ ws) (more (elem y subs) es) h d = absurd d
no_clashes u v x (w ∷ ws) (more (neg a) es) h d = absurd d
no_clashes u v x (w ∷ ws) (more (bin op a b) es) h d = absurd d
no_clashes u v x (w ∷ ws) (more (pow a k) es) h d = absurd d
no_clashes u v x (w ∷ ws) (more (power_of a b) es) h d = absurd d
no_clashes u v x (w ∷ ws) (more (abs a) es) h d = absurd d

-- so distinct names have none
distinct_clash : (u : Procedure) (ws : List Bool) (es : Terms) → AreDistinctNames es → have_clash u ws es ≡ false
distinct_clash u [] es d = refl
distinct_clash u (w ∷ ws) none d = refl
distinct_clash u (w ∷ ws) (more (var x) es) d = ap (λ b. b || have_clash u ws es) (no_clashes u w x ws es d.0 d.1) ∙ distinct_clash u ws es d.1
distinct_clash u (w ∷ ws) (more (lit z) es) d = absurd d
distinct_clash u (w ∷ ws) (more (elem y subs) es) d = absurd d
distinct_clash u (w ∷ ws) (more (neg a) es) d = absurd d
distinct_clash u (w ∷ ws) (more (bin op a b) es) d = absurd d
distinct_clash u (w ∷ ws) (more (pow a k) es) d = absurd d
distinct_clash u (w ∷ ws) (more (power_of a b) es) d = absurd d
distinct_clash u (w ∷ ws) (more (abs a) es) d = absurd d

-- and each is a place
distinct_places : (ws : List Bool) (es : Terms) → AreDistinctNames es → hands_back_values ws es ≡ false
distinct_places [] es d = refl
distinct_places (w ∷ ws) none d = refl
distinct_places (w ∷ ws) (more (var x) es) d = ap (λ b. b || hands_back_values ws es) (and_none w) ∙ distinct_places ws es d.1
distinct_places (w ∷ ws) (more (lit z) es) d = absurd d
distinct_places (w ∷ ws) (more (elem y subs) es) d = absurd d
distinct_places (w ∷ ws) (more (neg a) es) d = absurd d
distinct_places (w ∷ ws) (more (bin op a b) es) d = absurd d
distinct_places (w ∷ ws) (more (pow a k) es) d = absurd d
distinct_places (w ∷ ws) (more (power_of a b) es) d = absurd d
distinct_places (w ∷ ws) (more (abs a) es) d = absurd d

-- ---- calls of units in kernel form

mutual
  form_in : (a : Act) → IsKernelAct a → HoldsIn (λ line c. IsKernelAct c) a
  form_in (assign x subs e) h = tt
  form_in (choose c a b) h = (form_holds a h.0, form_holds b h.1)
  form_in (loop x first last by body m) h = form_holds body h.1
  form_in (during c body) h = form_holds body h
  form_in (call name args) h = tt
  form_in (runtime r) h = tt

  -- each statement of a list in kernel form is in it
  pub form_holds : (c : Code) → IsKernelCode c → Holds (λ line c. IsKernelAct c) c
  form_holds stop h = tt
  form_holds (step line a rest) h = (h.0, (form_in a h.0, form_holds rest h.1))

-- the actuals of its calls are distinct names
one_call : (line : ℕ) (a : Act) → IsKernelAct a → Each (λ (c : At Call). AreDistinctNames (c.1).1) (map (λ c. (line, c)) (call_in a))
one_call line (assign x subs e) h = tt
one_call line (choose c a b) h = tt
one_call line (loop x first last by body m) h = tt
one_call line (during c body) h = tt
one_call line (call name args) h = (h, tt)
one_call line (runtime r) h = tt

-- of each call of the unit
distinct_calls : (u : Procedure) → IsKernelCode u.body → Each (λ (c : At Call). AreDistinctNames (c.1).1) (calls u)
distinct_calls u h =
    flat_each (λ (c : At Call). AreDistinctNames (c.1).1) (λ (s : At Act). map (λ c. (s.0, c)) (call_in s.1)) (statements u.body)
    (each_more (λ (s : At Act). IsKernelAct s.1) (λ s. Each (λ (c : At Call). AreDistinctNames (c.1).1) (map (λ c. (s.0, c)) (call_in s.1))) (λ s k. one_call s.0 s.1 k) (statements u.body) (listed (λ line a. IsKernelAct a) u.body (form_holds u.body h)))

-- ---- a unit without faults of writes

-- a unit in kernel form that spares its loops' variables and its extents
no_write_faults : (handed : Dummies) (u : Procedure) → AreSpared handed u.body → KeepsExtents handed u → IsKernelCode u.body → faults_of_writes handed u ≡ []
no_write_faults handed u s k f =
    none_both (written_variables handed u) (written_extents handed u ++ (shared_variables handed u ++ written_values handed u)) (of_spared handed u s)
    (none_both (written_extents handed u) (shared_variables handed u ++ written_values handed u) (of_kept handed u k)
    (none_both (shared_variables handed u) (written_values handed u)
    (none_flat (λ (c : At Call). faults_if (have_clash u (handed (c.1).0) (c.1).1) (fault 17 c.0)) (calls u)
    (each_more (λ (c : At Call). AreDistinctNames (c.1).1) (λ c. faults_if (have_clash u (handed (c.1).0) (c.1).1) (fault 17 c.0) ≡ []) (λ c d. if_none (have_clash u (handed (c.1).0) (c.1).1) (fault 17 c.0) (distinct_clash u (handed (c.1).0) (c.1).1 d)) (calls u) (distinct_calls u f)))
    (none_flat (λ (c : At Call). faults_if (hands_back_values (handed (c.1).0) (c.1).1) (fault 24 c.0)) (calls u)
    (each_more (λ (c : At Call). AreDistinctNames (c.1).1) (λ c. faults_if (hands_back_values (handed (c.1).0) (c.1).1) (fault 24 c.0) ≡ []) (λ c d. if_none (hands_back_values (handed (c.1).0) (c.1).1) (fault 24 c.0) (distinct_places (handed (c.1).0) (c.1).1 d)) (calls u) (distinct_calls u f)))))

-- ---- the program

module _ (units : List Procedure) (written : IsWritten units) (sound : IsSound source_rules units) where
  -- the program is a source
  source : IsSource ℤ units
  source = sound_is_source units written sound ℤ

  -- units of the source
  source_spared : EachUnit (λ u. AreSpared (handed_back units) u.body × KeepsExtents (handed_back units) u) units
  source_spared = of_each (λ u. AreSpared (handed_back units) u.body × KeepsExtents (handed_back units) u) units (each_more (λ u. faults_of_writes (handed_back units) u ≡ []) (λ u. AreSpared (handed_back units) u.body × KeepsExtents (handed_back units) u) one units (none_each (faults_of_writes (handed_back units)) units (sound_has_none source_rules units sound).writes))
    where
      one : (u : Procedure) → faults_of_writes (handed_back units) u ≡ [] → AreSpared (handed_back units) u.body × KeepsExtents (handed_back units) u
      one u h =
          let w = none_behind (written_variables (handed_back units) u) (written_extents (handed_back units) u ++ (shared_variables (handed_back units) u ++ written_values (handed_back units) u)) h in (
            spared_of (handed_back units) u (none_front (written_variables (handed_back units) u) (written_extents (handed_back units) u ++ (shared_variables (handed_back units) u ++ written_values (handed_back units) u)) h),
            kept_of (handed_back units) u (none_front (written_extents (handed_back units) u) (shared_variables (handed_back units) u ++ written_values (handed_back units) u) w),
          )

  -- units of the stepped program
  abbrev IsSparedThere : Procedure → Type 0
  IsSparedThere v = AreSpared (handed_back (stepped_program units)) v.body × KeepsExtents (handed_back (stepped_program units)) v

  -- all of them spare them
  stepped_spared : EachUnit IsSparedThere (stepped_program units)
  stepped_spared = all_spared units (stepped_program units) (plainly ℤ units source) (matched ℤ units source) (stepped ℤ units source) ℤ units (names_of_source units) source.fit.plains source.matched source.extents source_spared (program_there units)

  -- units of the kernel
  kernel_units : (vs : List Procedure) → EachUnit IsSparedThere vs → EachUnit (IsGood ℤ units source) vs → EachUnit (λ v. IsKernelCode v.body) (map (lowered_unit (stepped_program units)) vs) → Each (λ v. faults_of_writes (handed_back (kernel_of units)) v ≡ []) (map (lowered_unit (stepped_program units)) vs)
  kernel_units [] s g f = tt
  kernel_units (v ∷ vs) s g f = (
    no_write_faults (handed_back (kernel_of units)) (lowered_unit (stepped_program units) v) (spared_lowered (stepped_program units) (stepped_fit ℤ units source) v g.0.0 g.0.1.0 s.0.0) (kept_lowered (stepped_program units) (stepped_fit ℤ units source) v g.0.0 g.0.1.0 s.0.1) f.0,
    kernel_units vs s.1 g.1 f.1,
  )

  -- no statement of the kernel has a fault of writes
  pub kernel_writes : write_faults (kernel_of units) ≡ []
  kernel_writes = none_flat (faults_of_writes (handed_back (kernel_of units))) (kernel_of units) (kernel_units (stepped_program units) stepped_spared (good ℤ units source) (whole_kernel_form ℤ units source))
