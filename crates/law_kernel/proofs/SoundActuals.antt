-- The CALLs of the kernel are of its units, with actuals that fit.
use Rattle.std.proofs.Common.{◌≡◌, ℕ, zero, suc, ◌+◌, Bool, true, false, List, [], ◌∷◌, ◌++◌, map, refl, sym, ap, ◌∙◌, arith, if◌then◌else◌}
use Rattle.std.specs.Prelude.{ℤ, ◌==◌, ◌&&◌, not, length, flat_map, Some}
use Rattle.adj_tree.specs.Code.{Var, plain, shadow, helper, plus, minus, times, quot, modulo, greater, lesser, Term, lit, var, elem, neg, bin, pow, power_of, abs, Terms, none, more, Act, assign, choose, loop, during, call, runtime, Code, stop, step, Procedure}
use Rattle.adj_tree.proofs.Names.{name_refl, nat_same, nat_refl}
use Rattle.def_text.specs.Written.{IsWritten}
use Rattle.def_meaning.specs.Read.{reads_term, reads_terms}
use Rattle.def_meaning.specs.Written.{find_unit, handed_back}
use Rattle.def_meaning.specs.Units.{declared}
use Rattle.def_meaning.proofs.Booleans.{and_true, or_first, or_second}
use Rattle.def_meaning.proofs.Variables.{var_refl}
use Rattle.def_names.specs.Statements.{At, statements}
use Rattle.def_names.specs.Reserved.{is_runtime}
use Rattle.def_names.specs.Variables.{rank}
use Rattle.def_names.specs.Fault.{source_rules, fault}
use Rattle.def_names.specs.CallFaults.{variable_rank, is_actual_for, are_actuals_for, faults_of_unit_call, faults_of_call, call_faults}
use Rattle.def_names.specs.Check.{IsSound}
use Rattle.def_meaning.specs.Apart.{has_name, is_named}
use Rattle.def_kernel.specs.Lowered.{locals_in, locals_in_all, length_of, first_flag, other_flags, reduced, reduced_all, is_among, passing, passing_name, locals_passing, passed, all_passed}
use Rattle.law_kernel.specs.Apart.{TermsInside, EachCall', EachCall}
use Rattle.def_kernel.specs.Calls.{is_name_of, stands_whole, is_scalar}
use Rattle.def_kernel.specs.Kernel.{local_in, lowered_unit, lowered_program, EachUnit}
use Rattle.law_kernel.specs.Fits.{PlainCode, IsFitCall}
use Rattle.def_kernel.specs.Stepped.{marked_in, step_dummies, as_actuals, step_name, step_names, step_unit, cut, stepped_from, stepped_unit, names_of_source, stepped_program, kernel_of}
use Rattle.law_kernel.specs.StepTheorem.{IsSource, HasExtents}
use Rattle.law_kernel.proofs.Faultless.{Each, none_flat, if_none, join_units}
use Rattle.law_kernel.proofs.Locals.{local_undeclared, scalars_behind}
use Rattle.law_kernel.proofs.Programs.{found_lowered}
use Rattle.law_kernel.proofs.Holding.{HoldsIn, Holds, listed, lowered_holds}
use Rattle.law_kernel.proofs.Repeated.{Once, Earlier, reduced_once, next_earlier}
use Rattle.law_kernel.proofs.StepNames.{declared_step}
use Rattle.law_kernel.proofs.StepLookups.{AllThere, program_there}
use Rattle.law_kernel.proofs.StepCalls.{Declares, declares_read, calls_stepped}
use Rattle.law_kernel.proofs.StepsWritten.{step_not_runtime}
use Rattle.law_kernel.proofs.WholeKernels.{stepped, IsGood, good}
use Rattle.law_kernel.proofs.SoundFits.{Called}
use Rattle.law_kernel.proofs.SoundPrograms.{sound_is_source, called_units}

-- ---- calls without faults

-- a call whose unit is there and whose actuals fit has none
none_called : (ps : List Procedure) (caller : Procedure) (line : ℕ) (name : List ℕ) (args : Terms) (called : Procedure) → is_runtime name ≡ false → find_unit ps name ≡ Some called → are_actuals_for caller called called.dummies args ≡ true → faults_of_call ps caller line (call name args) ≡ []
none_called ps caller line name args called n f h =
    ap (λ b. if b then fault 15 line ∷ [] else faults_of_unit_call caller (find_unit ps name) line args) n
    ∙ ap (λ o. faults_of_unit_call caller o line args) f
    ∙ if_none (not (are_actuals_for caller called called.dummies args)) (fault 15 line) (ap not h)

-- ---- other declarations of the caller

-- actuals fit as they did where variables have the ranks that they had
same_actual : (a b : Procedure) (n : ℕ) (e : Term) → ((x : Var) → reads_term x e ≡ true → variable_rank a x ≡ variable_rank b x) → is_actual_for a n e ≡ is_actual_for b n e
same_actual a b n (lit z) h = refl
same_actual a b n (var x) h = ap (λ r. r == n) (h x (var_refl x))
same_actual a b n (elem x subs) h = refl
same_actual a b n (neg c) h = refl
same_actual a b n (bin op c d) h = refl
same_actual a b n (pow c k) h = refl
same_actual a b n (power_of c d) h = refl
same_actual a b n (abs c) h = refl

-- all of them
same_actuals : (a b called other : Procedure) (ds : List (List ℕ)) (es : Terms) → ((x : Var) → reads_terms x es ≡ true → variable_rank a x ≡ variable_rank b x) → ((d : List ℕ) → rank called d ≡ rank other d) → are_actuals_for a called ds es ≡ are_actuals_for b other ds es
same_actuals a b called other [] none h r = refl
same_actuals a b called other [] (more e es) h r = refl
same_actuals a b called other (d ∷ ds) none h r = refl
same_actuals a b called other (d ∷ ds) (more e es) h r =
    ap (λ z. z && are_actuals_for a called ds es) (same_actual a b (rank called d) e (λ x k. h x (or_first (reads_term x e) (reads_terms x es) k)) ∙ ap (λ n. is_actual_for b n e) (r d))
    ∙ ap (λ z. is_actual_for b (rank other d) e && z) (same_actuals a b called other ds es (λ x k. h x (or_second (reads_term x e) (reads_terms x es) k)) r)

-- variables that are declared alike have one rank
same_rank : (a b : Procedure) (x : Var) → declared a.declarations x ≡ declared b.declarations x → variable_rank a x ≡ variable_rank b x
same_rank a b (plain x) h = ap length h
same_rank a b (shadow x) h = refl
same_rank a b (helper r k) h = refl

-- ---- calls of step units

-- names fit dummies of these names
names_fit : (caller called : Procedure) (vs : List (List ℕ)) → ((y : List ℕ) → has_name y vs ≡ true → declared called.declarations (plain y) ≡ declared caller.declarations (plain y)) → are_actuals_for caller called vs (as_actuals vs) ≡ true
names_fit caller called [] h = refl
names_fit caller called (v ∷ vs) h =
    ap (λ z. z && are_actuals_for caller called vs (as_actuals vs)) (ap (λ r. rank caller v == r) (ap length (h v (or_first _ (has_name v vs) (name_refl v)))) ∙ nat_refl (rank caller v))
    ∙ names_fit caller called vs (λ y k. h y (or_second _ (has_name y vs) k))

module _ (units : List Procedure) (written : IsWritten units) (sound : IsSound source_rules units) where
  -- the program is a source
  source : IsSource ℤ units
  source = sound_is_source units written sound ℤ

  -- the call of a step unit is of it, with actuals that fit
  step_called : (taken : List (List ℕ)) (u : Procedure) (k line : ℕ) (x : Var) (body : Code) → find_unit (stepped_program units) (step_name taken u.name k) ≡ Some (step_unit taken u k line x body) → (caller : Procedure) (ns : List (List ℕ)) → Declares u caller ns → ((y : List ℕ) → has_name y (step_dummies u x body) ≡ true → has_name y ns ≡ true) → Called (stepped_program units) caller (step_name taken u.name k) (as_actuals (step_dummies u x body))
  step_called taken u k line x body found caller ns d inside = record {
    called = step_unit taken u k line x body;
    found = found;
    fit = names_fit caller (step_unit taken u k line x body) (step_dummies u x body) (λ y h. declared_step u.declarations line (step_dummies u x body) y h ∙ sym (d y (inside y h)));
    is_unit = step_not_runtime taken u.name k;
  }

  -- a call of a unit of the source is of that unit with its loops cut
  source_called : (u caller : Procedure) (ns : List (List ℕ)) (name : List ℕ) (args : Terms) → Declares u caller ns → TermsInside (is_named ns) args → Called units u name args → Called (stepped_program units) caller name args
  source_called u caller ns name args d h c =
      let s = stepped ℤ units source name c.called c.found in
      record {
        called = record (c.called) { body = cut s.taken c.called 0 c.called.body };
        found = s.found;
        fit = same_actuals caller u (record (c.called) { body = cut s.taken c.called 0 c.called.body }) c.called c.called.dummies args (λ x r. same_rank caller u x (declares_read u caller ns args d h x r)) (λ e. refl) ∙ c.fit;
        is_unit = c.is_unit;
      }

  -- in all units of the stepped program
  all_called : (us : List Procedure) (taken : List (List ℕ)) → EachUnit (λ u. PlainCode u.body) us → EachUnit (λ u. EachCall (Called units u) u.body) us → EachUnit (HasExtents ℤ units) us → AllThere (stepped_program units) taken us → EachUnit (λ v. EachCall (Called (stepped_program units) v) v.body) (stepped_from taken us)
  all_called [] taken pl c x t = tt
  all_called (u ∷ us) taken pl c x t =
      join_units (λ v. EachCall (Called (stepped_program units) v) v.body) (stepped_unit taken u) (stepped_from (taken ++ step_names taken u.name (marked_in u.body)) us)
      (calls_stepped u (Called units u) x.0.own x.0.flat (stepped_program units) taken (Called (stepped_program units)) (source_called u) (step_called taken u) pl.0 c.0 t.0)
      (all_called us (taken ++ step_names taken u.name (marked_in u.body)) pl.1 c.1 x.1 t.1)

  -- the calls of the stepped program are of units that are there, with actuals that fit
  pub stepped_called : EachUnit (λ v. EachCall (Called (stepped_program units) v) v.body) (stepped_program units)
  stepped_called = all_called units (names_of_source units) source.fit.plains (called_units units sound) source.extents (program_there units)

-- ---- lowered calls

module _ (all : List Procedure) (v : Procedure) where
  -- the locals of the unit
  abbrev local : ℕ → Var
  local = local_in all v

  -- locals are scalars
  local_scalar : (k : ℕ) → is_scalar v.declarations (local k) ≡ true
  local_scalar k = ap (λ l. length l == 0) (local_undeclared all v k)

  -- a local stands for a scalar dummy
  local_fits : (n k : ℕ) → (n == 0) ≡ true → is_actual_for v n (var (local k)) ≡ true
  local_fits n k h = ap (λ l. length l == n) (local_undeclared all v k) ∙ ap (λ m. 0 == m) (nat_same n 0 h)

  -- a reduced actual fits where the actual does
  reduced_fits : (n j : ℕ) (e : Term) → is_actual_for v n e ≡ true → is_actual_for v n (reduced local j e) ≡ true
  reduced_fits n j (lit z) h = h
  reduced_fits n j (var x) h = h
  reduced_fits n j (elem x subs) h = h
  reduced_fits n j (neg a) h = h
  reduced_fits n j (bin plus a b) h = h
  reduced_fits n j (bin minus a b) h = h
  reduced_fits n j (bin times a b) h = h
  reduced_fits n j (bin quot a b) h = h
  reduced_fits n j (bin modulo a b) h = h
  reduced_fits n j (bin greater a b) h = local_fits n (j + locals_in a + locals_in b) h
  reduced_fits n j (bin lesser a b) h = local_fits n (j + locals_in a + locals_in b) h
  reduced_fits n j (pow a zero) h = h
  reduced_fits n j (pow a (suc k)) h = h
  reduced_fits n j (power_of a b) h = h
  reduced_fits n j (abs a) h = local_fits n (j + locals_in a) h

  -- and so do several
  all_reduced_fit : (called : Procedure) (ds : List (List ℕ)) (j : ℕ) (es : Terms) → are_actuals_for v called ds es ≡ true → are_actuals_for v called ds (reduced_all local j es) ≡ true
  all_reduced_fit called [] j none h = refl
  all_reduced_fit called [] j (more e es) h = absurd cc
  all_reduced_fit called (d ∷ ds) j none h = absurd cc
  all_reduced_fit called (d ∷ ds) j (more e es) h =
      let p = and_true (is_actual_for v (rank called d) e) (are_actuals_for v called ds es) h in
      ap (λ z. z && are_actuals_for v called ds (reduced_all local (j + locals_in e) es)) (reduced_fits (rank called d) j e p.0) ∙ all_reduced_fit called ds (j + locals_in e) es p.1

  -- a variable that is a scalar and fits stands for a scalar
  scalar_fits : (n : ℕ) (x : Var) → is_scalar v.declarations x ≡ true → (variable_rank v x == n) ≡ true → (n == 0) ≡ true
  scalar_fits n (plain x) s h = ap (λ m. m == 0) (sym (nat_same (rank v x) n h)) ∙ s
  scalar_fits n (shadow x) s h = ap (λ m. m == 0) (sym (nat_same 0 n h))
  scalar_fits n (helper r k) s h = ap (λ m. m == 0) (sym (nat_same 0 n h))

  -- the name that an actual becomes fits
  passed_fits : (n : ℕ) (w : Bool) (earlier : List Var) (j : ℕ) (e : Term) → is_actual_for v n e ≡ true → ((x : Var) → is_among x earlier ≡ true → is_name_of x e ≡ true → is_scalar v.declarations x ≡ true) → is_actual_for v n (var (passed local j (passing w earlier e))) ≡ true
  passed_fits n w earlier j (lit z) h f = local_fits n j h
  passed_fits n w earlier j (var x) h f = go (is_among x earlier) refl
    where
      go : (b : Bool) → is_among x earlier ≡ b → is_actual_for v n (var (passed local j (passing_name b x))) ≡ true
      go true a = local_fits n j (scalar_fits n x (f x a (var_refl x)) h)
      go false a = h
  passed_fits n true earlier j (elem x subs) h f = local_fits n (j + (length_of subs + locals_in_all subs)) h
  passed_fits n false earlier j (elem x subs) h f = local_fits n j h
  passed_fits n w earlier j (neg a) h f = local_fits n j h
  passed_fits n w earlier j (bin op a b) h f = local_fits n j h
  passed_fits n w earlier j (pow a k) h f = local_fits n j h
  passed_fits n w earlier j (power_of a b) h f = local_fits n j h
  passed_fits n w earlier j (abs a) h f = local_fits n j h

  -- a variable without extents
  abbrev IsScalar : Var → Type 0
  IsScalar x = is_scalar v.declarations x ≡ true

  -- the names of a call fit its dummies
  all_passed_fit : (called : Procedure) (ds : List (List ℕ)) (ws : List Bool) (earlier : List Var) (j : ℕ) (es : Terms) → are_actuals_for v called ds es ≡ true → Once IsScalar es → Earlier IsScalar earlier es → are_actuals_for v called ds (all_passed local j ws earlier es) ≡ true
  all_passed_fit called [] ws earlier j none h o f = refl
  all_passed_fit called [] ws earlier j (more e es) h o f = absurd cc
  all_passed_fit called (d ∷ ds) ws earlier j none h o f = absurd cc
  all_passed_fit called (d ∷ ds) ws earlier j (more e es) h o f =
      let p = and_true (is_actual_for v (rank called d) e) (are_actuals_for v called ds es) h in
      let how = passing (first_flag ws) earlier e in
      ap (λ z. z && are_actuals_for v called ds (all_passed local (j + locals_passing how) (other_flags ws) (passed local j how ∷ earlier) es)) (passed_fits (rank called d) (first_flag ws) earlier j e p.0 (λ x a n. f x a (or_first (is_name_of x e) (stands_whole x es) n)))
      ∙ all_passed_fit called ds (other_flags ws) (passed local j how ∷ earlier) (j + locals_passing how) es p.1 o.1
      (next_earlier IsScalar local (j + locals_passing how) (λ k lt. local_scalar k) (first_flag ws) earlier j e es (omega arith) o f)

  -- lowered units have the ranks of the units
  lowered_rank : (u : Procedure) (x : Var) → variable_rank (lowered_unit all u) x ≡ variable_rank u x
  lowered_rank u x = same_rank (lowered_unit all u) u x (scalars_behind u.declarations u.line _ x)

  -- what is known of each statement: a CALL is of a unit that is there, with actuals that fit
  abbrev IsSoundCall : ℕ → Act → Type 0
  IsSoundCall line (assign x subs e) = Unit {0}
  IsSoundCall line (choose c a b) = Unit {0}
  IsSoundCall line (loop x first last by body m) = Unit {0}
  IsSoundCall line (during c body) = Unit {0}
  IsSoundCall line (call name args) = Called all v name args × IsFitCall all v name args
  IsSoundCall line (runtime r) = ⊥

  mutual
    sound_in : (a : Act) → EachCall' (Called all v) a → EachCall' (IsFitCall all v) a → HoldsIn IsSoundCall a
    sound_in (assign x subs e) c f = tt
    sound_in (choose t a b) c f = (sound_calls a c.0 f.0, sound_calls b c.1 f.1)
    sound_in (loop x first last by body m) c f = sound_calls body c f
    sound_in (during t body) c f = sound_calls body c f
    sound_in (call name args) c f = tt
    sound_in (runtime r) c f = tt

    -- in a list
    sound_calls : (c : Code) → EachCall (Called all v) c → EachCall (IsFitCall all v) c → Holds IsSoundCall c
    sound_calls stop c f = tt
    sound_calls (step line a rest) c f = (own line a c.0 f.0, (sound_in a c.0 f.0, sound_calls rest c.1 f.1))

    own : (line : ℕ) (a : Act) → EachCall' (Called all v) a → EachCall' (IsFitCall all v) a → IsSoundCall line a
    own line (assign x subs e) c f = tt
    own line (choose t a b) c f = tt
    own line (loop x first last by body m) c f = tt
    own line (during t body) c f = tt
    own line (call name args) c f = (c, f)
    own line (runtime r) c f = c

  -- so a lowered call has no fault
  lowered_called : (line : ℕ) (name : List ℕ) (args : Terms) → IsSoundCall line (call name args) → faults_of_call (lowered_program all) (lowered_unit all v) line (call name (all_passed local (locals_in_all args) (handed_back all name) [] (reduced_all local 0 args))) ≡ []
  lowered_called line name args h =
      let c = h.0 in
      let es = reduced_all local 0 args in
      none_called (lowered_program all) (lowered_unit all v) line name (all_passed local (locals_in_all args) (handed_back all name) [] es) (lowered_unit all c.called) c.is_unit (found_lowered all all name c.called c.found)
      (same_actuals (lowered_unit all v) v (lowered_unit all c.called) c.called c.called.dummies (all_passed local (locals_in_all args) (handed_back all name) [] es) (λ x r. lowered_rank v x) (λ d. lowered_rank c.called (plain d))
      ∙ all_passed_fit c.called c.called.dummies (handed_back all name) [] (locals_in_all args) es (all_reduced_fit c.called c.called.dummies 0 args c.fit)
      (reduced_once IsScalar local (0 + locals_in_all args) (λ k lt. local_scalar k) 0 args (omega arith) (h.1).arrays) (λ x a s. absurd cc))

  -- so no call of the lowered unit has a fault
  pub lowered_calls : EachCall (Called all v) v.body → EachCall (IsFitCall all v) v.body → Each (λ (s : At Act). faults_of_call (lowered_program all) (lowered_unit all v) s.0 s.1 ≡ []) (statements (lowered_unit all v).body)
  lowered_calls c f =
      listed (λ line a. faults_of_call (lowered_program all) (lowered_unit all v) line a ≡ []) (lowered_unit all v).body
      (lowered_holds local IsSoundCall (λ line a. faults_of_call (lowered_program all) (lowered_unit all v) line a ≡ []) (λ line x subs e. refl) (λ line t a b. refl) (handed_back all) (λ line t body. refl) (λ line x first last by body m h. refl) lowered_called (λ line r h. absurd h) v.body
      (sound_calls v.body c f))

-- ---- the kernel

module _ (units : List Procedure) (written : IsWritten units) (sound : IsSound source_rules units) where
  -- nor one of all lowered units
  kernel_called : (vs : List Procedure) → EachUnit (λ v. EachCall (Called (stepped_program units) v) v.body) vs → EachUnit (IsGood ℤ units (sound_is_source units written sound ℤ)) vs → Each (λ v. flat_map (λ s. faults_of_call (kernel_of units) v s.0 s.1) (statements v.body) ≡ []) (map (lowered_unit (stepped_program units)) vs)
  kernel_called [] c g = tt
  kernel_called (v ∷ vs) c g = (
    none_flat (λ (s : At Act). faults_of_call (kernel_of units) (lowered_unit (stepped_program units) v) s.0 s.1) (statements (lowered_unit (stepped_program units) v).body) (lowered_calls (stepped_program units) v c.0 g.0.1.0),
    kernel_called vs c.1 g.1,
  )

  -- no call of the kernel has a fault
  pub kernel_calls : call_faults (kernel_of units) ≡ []
  kernel_calls =
      none_flat (λ u. flat_map (λ s. faults_of_call (kernel_of units) u s.0 s.1) (statements u.body)) (kernel_of units)
      (kernel_called (stepped_program units) (stepped_called units written sound) (good ℤ units (sound_is_source units written sound ℤ)))
