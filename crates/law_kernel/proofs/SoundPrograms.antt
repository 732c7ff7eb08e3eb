-- A written program without faults is a source, and its CALLs are of units that aren't named like runtime calls.
use Rattle.std.proofs.Common.{◌≡◌, ℕ, true, false, List, [], ◌∷◌, ◌++◌, map, refl}
use Rattle.std.specs.Prelude.{None, not, ◌&&◌, flat_map, codes}
use Rattle.adj_tree.specs.Code.{plain, name_eq, Terms, Runtime, Act, call, runtime, Procedure}
use Rattle.def_text.specs.Statement.{runtime_call}
use Rattle.def_text.specs.Written.{IsWrittenProcedure, IsWritten}
use Rattle.def_meaning.specs.Written.{handed_back}
use Rattle.def_meaning.specs.Units.{declared}
use Rattle.def_meaning.proofs.Booleans.{or_false}
use Rattle.def_names.specs.Statements.{At, statements}
use Rattle.def_names.specs.Reserved.{is_runtime}
use Rattle.def_names.specs.Calls.{Call, call_in, calls}
use Rattle.def_names.specs.Fault.{source_rules, fault, faults_if}
use Rattle.def_names.specs.NameFaults.{undeclared, declared_twice, misused, bad_extents, has_bad_extents, reserved_variables, calls_runtime, runtime_calls, too_many_variables, faults_of_names}
use Rattle.def_names.specs.CallFaults.{faults_of_call}
use Rattle.def_names.specs.WriteFaults.{written_variables, written_extents, have_clash, shared_variables, written_values, faults_of_writes}
use Rattle.def_names.specs.Check.{IsSound}
use Rattle.def_names.proofs.Sound.{sound_has_none}
use Rattle.law_kernel.specs.Apart.{EachCall}
use Rattle.def_kernel.specs.Kernel.{EachUnit}
use Rattle.law_kernel.specs.Fits.{PlainCode, IsFitCall}
use Rattle.law_kernel.specs.StepTheorem.{IsMatched, HasExtents, IsSource}
use Rattle.law_kernel.specs.WrittenTheorem.{CallsUnits}
use Rattle.law_kernel.proofs.Sparing.{KeepsExtents, kept_of}
use Rattle.law_kernel.proofs.Faultless.{Each, each_more, each_all, each_flat, of_each, none_each}
use Rattle.def_names.proofs.Faultless.{none_front, none_behind, none_if}
use Rattle.law_kernel.proofs.Locals.{has_first}
use Rattle.law_kernel.proofs.SoundCalls.{each_in_code, plain_code}
use Rattle.law_kernel.proofs.SoundFits.{Called, is_called, counted_of, fit_of}
use Rattle.law_kernel.proofs.SoundExtents.{of_declared, no_extents, extent_of_unit, declared_fit}

-- ---- names of runtime calls

-- a name that isn't one of the runtime makes no runtime call
pub no_runtime_call : (x : List ℕ) (es : Terms) → is_runtime x ≡ false → runtime_call x es ≡ None
no_runtime_call x es h =
    let p1 = or_false (name_eq x (codes "PUSHINTEGER8")) _ h in
    let p2 = or_false (name_eq x (codes "POPINTEGER8")) _ p1.1 in
    let p3 = or_false (name_eq x (codes "PUSHINTEGER8ARRAY")) _ p2.1 in
    let p4 = or_false (name_eq x (codes "POPINTEGER8ARRAY")) _ p3.1 in
    let p5 = or_false (name_eq x (codes "PUSHCONTROL1B")) _ p4.1 in
    let p6 = or_false (name_eq x (codes "POPCONTROL1B")) _ p5.1 in
    let p7 = or_false (name_eq x (codes "ADZERO8")) _ p6.1 in
    let p8 = or_false (name_eq x (codes "ADBEG")) _ p7.1 in
    let p9 = or_false (name_eq x (codes "ADEND")) _ p8.1 in
    let p10 = or_false (name_eq x (codes "ADACTN")) _ p9.1 in
    let p11 = or_false (name_eq x (codes "ADACT")) _ p10.1 in
    rw p1.0 (rw p2.0 (rw p3.0 (rw p4.0 (rw p5.0 (rw p6.0 (rw p7.0 (rw p8.0 (rw p10.0 (rw p11.0 (rw p9.0 refl))))))))))

-- ---- a program without faults

module _ (ps : List Procedure) (u : Procedure) where
  -- what is known of each statement of a unit
  pub record Good (s : At Act) : Type 0 where
    pub called : faults_of_call ps u s.0 s.1 ≡ []
    pub not_runtime : calls_runtime s.1 ≡ false
    pub apart : Each (λ (c : At Call). have_clash u (handed_back ps (c.1).0) (c.1).1 ≡ false) (map (λ c. (s.0, c)) (call_in s.1))

  -- of each statement
  all_good : (ss : List (At Act)) → Each (λ s. faults_of_call ps u s.0 s.1 ≡ []) ss → Each (λ s. calls_runtime s.1 ≡ false) ss → Each (λ s. Each (λ (c : At Call). have_clash u (handed_back ps (c.1).0) (c.1).1 ≡ false) (map (λ c. (s.0, c)) (call_in s.1))) ss → Each Good ss
  all_good [] a b c = tt
  all_good (s ∷ ss) a b c = (record { called = a.0; not_runtime = b.0; apart = c.0 }, all_good ss a.1 b.1 c.1)

  module _ (names : faults_of_names source_rules ps u ≡ []) (called : flat_map (λ s. faults_of_call ps u s.0 s.1) (statements u.body) ≡ []) (wrote : faults_of_writes (handed_back ps) u ≡ []) where
    -- so it is in a unit without faults
    good : Each Good (statements u.body)
    good =
        let n1 = none_behind (undeclared u) (declared_twice u ++ (misused source_rules u ++ (bad_extents u ++ (reserved_variables ps u ++ (runtime_calls source_rules u ++ too_many_variables source_rules u))))) names in
        let n2 = none_behind (declared_twice u) (misused source_rules u ++ (bad_extents u ++ (reserved_variables ps u ++ (runtime_calls source_rules u ++ too_many_variables source_rules u)))) n1 in
        let n3 = none_behind (misused source_rules u) (bad_extents u ++ (reserved_variables ps u ++ (runtime_calls source_rules u ++ too_many_variables source_rules u))) n2 in
        let n4 = none_behind (bad_extents u) (reserved_variables ps u ++ (runtime_calls source_rules u ++ too_many_variables source_rules u)) n3 in
        let n5 = none_behind (reserved_variables ps u) (runtime_calls source_rules u ++ too_many_variables source_rules u) n4 in
        let no_runtime = none_front (runtime_calls source_rules u) (too_many_variables source_rules u) n5 in
        let w1 = none_behind (written_variables (handed_back ps) u) (written_extents (handed_back ps) u ++ (shared_variables (handed_back ps) u ++ written_values (handed_back ps) u)) wrote in
        let w2 = none_behind (written_extents (handed_back ps) u) (shared_variables (handed_back ps) u ++ written_values (handed_back ps) u) w1 in
        let shared = none_front (shared_variables (handed_back ps) u) (written_values (handed_back ps) u) w2 in
        all_good (statements u.body) (none_each (λ s. faults_of_call ps u s.0 s.1) (statements u.body) called)
        (each_more (λ s. faults_if (not source_rules.takes_runtime && calls_runtime s.1) (fault 18 s.0) ≡ []) (λ s. calls_runtime s.1 ≡ false) (λ s h. none_if (calls_runtime s.1) (fault 18 s.0) h) (statements u.body)
        (none_each (λ s. faults_if (not source_rules.takes_runtime && calls_runtime s.1) (fault 18 s.0)) (statements u.body) no_runtime))
        (each_flat (λ (c : At Call). have_clash u (handed_back ps (c.1).0) (c.1).1 ≡ false) (λ (s : At Act). map (λ c. (s.0, c)) (call_in s.1)) (statements u.body)
        (each_more (λ (c : At Call). faults_if (have_clash u (handed_back ps (c.1).0) (c.1).1) (fault 17 c.0) ≡ []) (λ c. have_clash u (handed_back ps (c.1).0) (c.1).1 ≡ false) (λ c h. none_if (have_clash u (handed_back ps (c.1).0) (c.1).1) (fault 17 c.0) h) (calls u)
        (none_each (λ (c : At Call). faults_if (have_clash u (handed_back ps (c.1).0) (c.1).1) (fault 17 c.0)) (calls u) shared)))

    -- a runtime call is a fault
    no_runtime_there : (line : ℕ) (r : Runtime) → Good (line, runtime r) → ⊥
    no_runtime_there line r g = let h : true ≡ false = g.not_runtime in absurd cc

    -- a CALL is of a unit
    abbrev called_good : (line : ℕ) (name : List ℕ) (args : Terms) → Good (line, call name args) → Called ps u name args
    called_good line name args g = is_called ps u line name args g.called

    -- its calls fit
    pub fit_calls : EachCall (IsFitCall ps u) u.body
    fit_calls = each_in_code Good (IsFitCall ps u) (λ line name args g. fit_of ps u name args (called_good line name args g) (g.apart).0) no_runtime_there u.body good

    -- with as many actuals as dummies
    pub counted_calls : EachCall (IsMatched ps) u.body
    counted_calls = each_in_code Good (IsMatched ps) (λ line name args g. counted_of ps u name args (called_good line name args g)) no_runtime_there u.body good

    -- and are of units that are there
    pub called_calls : EachCall (Called ps u) u.body
    called_calls = each_in_code Good (Called ps u) called_good no_runtime_there u.body good

    -- that aren't named like runtime calls
    pub unit_calls : CallsUnits u
    unit_calls = each_in_code Good (λ name args. (es : Terms) → runtime_call name es ≡ None) (λ line name args g es. no_runtime_call name es (called_good line name args g).is_unit) no_runtime_there u.body good

    -- its extents are as they should be
    good_extents : Each (λ d. has_bad_extents u d ≡ false) u.declarations
    good_extents =
        let n1 = none_behind (undeclared u) (declared_twice u ++ (misused source_rules u ++ (bad_extents u ++ (reserved_variables ps u ++ (runtime_calls source_rules u ++ too_many_variables source_rules u))))) names in
        let n2 = none_behind (declared_twice u) (misused source_rules u ++ (bad_extents u ++ (reserved_variables ps u ++ (runtime_calls source_rules u ++ too_many_variables source_rules u)))) n1 in
        let n3 = none_behind (misused source_rules u) (bad_extents u ++ (reserved_variables ps u ++ (runtime_calls source_rules u ++ too_many_variables source_rules u))) n2 in
        each_more (λ d. faults_if (has_bad_extents u d) (fault 12 d.line) ≡ []) (λ d. has_bad_extents u d ≡ false) (λ d h. none_if (has_bad_extents u d) (fault 12 d.line) h) u.declarations
        (none_each (λ d. faults_if (has_bad_extents u d) (fault 12 d.line)) u.declarations
        (none_front (bad_extents u) (reserved_variables ps u ++ (runtime_calls source_rules u ++ too_many_variables source_rules u)) n3))

    -- the unit doesn't write its dummies that are extents
    keeps_extents : KeepsExtents (handed_back ps) u
    keeps_extents =
        let w1 = none_behind (written_variables (handed_back ps) u) (written_extents (handed_back ps) u ++ (shared_variables (handed_back ps) u ++ written_values (handed_back ps) u)) wrote in
        kept_of (handed_back ps) u (none_front (written_extents (handed_back ps) u) (shared_variables (handed_back ps) u ++ written_values (handed_back ps) u) w1)

    -- so it is known of them what the first step asks
    pub has_extents : (C : Type 0) → HasExtents C ps u
    has_extents C = record {
      own = λ x d h. has_first d u.dummies _ (of_declared u d u.declarations x good_extents h).0;
      flat = λ x d h. no_extents (declared u.declarations (plain d)) (of_declared u d u.declarations x good_extents h).1;
      kept = λ x d h. keeps_extents d (of_declared u d u.declarations x good_extents h).0 (extent_of_unit d u.declarations x h);
      locals_fit = λ n s d h. declared_fit n s u u.declarations d h good_extents;
    }

-- what is known of each unit
record Faultless (ps : List Procedure) (u : Procedure) : Type 0 where
  names : faults_of_names source_rules ps u ≡ []
  called : flat_map (λ s. faults_of_call ps u s.0 s.1) (statements u.body) ≡ []
  wrote : faults_of_writes (handed_back ps) u ≡ []

-- of all units
all_faultless : (ps us : List Procedure) → Each (λ u. faults_of_names source_rules ps u ≡ []) us → Each (λ u. flat_map (λ s. faults_of_call ps u s.0 s.1) (statements u.body) ≡ []) us → Each (λ u. faults_of_writes (handed_back ps) u ≡ []) us → Each (Faultless ps) us
all_faultless ps [] a b c = tt
all_faultless ps (u ∷ us) a b c = (record { names = a.0; called = b.0; wrote = c.0 }, all_faultless ps us a.1 b.1 c.1)

module _ (ps : List Procedure) (sound : IsSound source_rules ps) where
  -- of the program's
  faultless : Each (Faultless ps) ps
  faultless =
      let h = sound_has_none source_rules ps sound in
      all_faultless ps ps (none_each (faults_of_names source_rules ps) ps h.names) (none_each (λ u. flat_map (λ s. faults_of_call ps u s.0 s.1) (statements u.body)) ps h.calls) (none_each (faults_of_writes (handed_back ps)) ps h.writes)

  pub called_units : EachUnit (λ u. EachCall (Called ps u) u.body) ps
  called_units = of_each (λ u. EachCall (Called ps u) u.body) ps (each_more (Faultless ps) (λ u. EachCall (Called ps u) u.body) (λ u h. called_calls ps u h.names h.called h.wrote) ps faultless)

module _ (ps : List Procedure) (written : IsWritten ps) (sound : IsSound source_rules ps) where
  pub sound_calls : EachUnit CallsUnits ps
  sound_calls = of_each CallsUnits ps (each_more (Faultless ps) CallsUnits (λ u h. unit_calls ps u h.names h.called h.wrote) ps (faultless ps sound))

  pub sound_is_source : (C : Type 0) → IsSource C ps
  sound_is_source C = record {
    fit = record {
      plains = of_each (λ u. PlainCode u.body) ps (each_more IsWrittenProcedure (λ u. PlainCode u.body) (λ u h. plain_code u.body h.body) ps (each_all IsWrittenProcedure ps written));
      calls = of_each (λ u. EachCall (IsFitCall ps u) u.body) ps (each_more (Faultless ps) (λ u. EachCall (IsFitCall ps u) u.body) (λ u h. fit_calls ps u h.names h.called h.wrote) ps (faultless ps sound));
    };
    matched = of_each (λ u. EachCall (IsMatched ps) u.body) ps (each_more (Faultless ps) (λ u. EachCall (IsMatched ps) u.body) (λ u h. counted_calls ps u h.names h.called h.wrote) ps (faultless ps sound));
    extents = of_each (HasExtents C ps) ps (each_more (Faultless ps) (HasExtents C ps) (λ u h. has_extents ps u h.names h.called h.wrote C) ps (faultless ps sound));
  }
