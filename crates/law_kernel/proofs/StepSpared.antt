-- In the stepped program no body of a loop writes its variable, and no unit its extents, where that is so in the program.
use Rattle.std.proofs.Common.{◌≡◌, ℕ, suc, ◌+◌, ◌⊎◌, inl, inr, true, false, List, [], ◌∷◌, ◌++◌, ap}
use Rattle.std.proofs.lemmas.Bool.{or_cases}
use Rattle.std.specs.Prelude.{◌||◌, Some}
use Rattle.adj_tree.specs.Code.{Var, plain, shadow, helper, name_eq, unmarked, with_count, count_from, Act, assign, choose, loop, during, call, runtime, Code, stop, step, Declaration, Procedure}
use Rattle.adj_tree.proofs.Names.{name_refl}
use Rattle.def_meaning.specs.Written.{find_unit, is_handed_back, act_writes, writes, handed_back}
use Rattle.def_meaning.specs.Read.{names_extent, is_extent}
use Rattle.def_meaning.specs.Units.{declared}
use Rattle.def_meaning.proofs.Booleans.{or_false, or_first, or_second}
use Rattle.def_meaning.specs.Apart.{has_name}
use Rattle.law_kernel.specs.Apart.{EachCall', EachCall}
use Rattle.law_kernel.specs.Fits.{PlainVar, PlainAct, PlainCode}
use Rattle.def_kernel.specs.Kernel.{EachUnit}
use Rattle.def_kernel.specs.Stepped.{marked_in, marked_in_act, step_dummies, as_actuals, step_declarations, step_name, step_names, cut_act, cut, step_unit, step_units_in_act, step_units_in, stepped_unit, stepped_from}
use Rattle.law_kernel.specs.StepTheorem.{StepsThereAct, StepsThere, IsStepFor, IsMatched, HasExtents}
use Rattle.law_kernel.proofs.Faultless.{join_units, not_back}
use Rattle.law_kernel.proofs.StepNames.{ExtentOf}
use Rattle.law_kernel.proofs.StepLookups.{AllThere}
use Rattle.law_kernel.proofs.StepWritten.{cut_back, step_back}
use Rattle.law_kernel.proofs.Holding.{HoldsIn}
use Rattle.law_kernel.proofs.Sparing.{Spares, AreSpared, KeepsExtents}

-- an extent of a step unit is one of a variable of its list
step_extent : (ds : List Declaration) (line : ℕ) (d : List ℕ) (vs : List (List ℕ)) → is_extent d (step_declarations ds line vs) ≡ true → ExtentOf ds d vs
step_extent ds line d [] h = absurd cc
step_extent ds line d (v ∷ vs) h = go (or_cases (names_extent d (declared ds (plain v))) (is_extent d (step_declarations ds line vs)) h) (λ k. step_extent ds line d vs k)
  where
    go : (names_extent d (declared ds (plain v)) ≡ true) ⊎ (is_extent d (step_declarations ds line vs) ≡ true) → (is_extent d (step_declarations ds line vs) ≡ true → ExtentOf ds d vs) → ExtentOf ds d (v ∷ vs)
    go (inl e) ih = record { of = v; among = or_first (name_eq v v) (has_name v vs) (name_refl v); is = e }
    go (inr e) ih = let f = ih e in record { of = f.of; among = or_second (name_eq f.of v) (has_name f.of vs) f.among; is = f.is }

module _ (units units' : List Procedure) (plainly : (name : List ℕ) (v : Procedure) → find_unit units name ≡ Some v → PlainCode v.body) (each : (name : List ℕ) (v : Procedure) → find_unit units name ≡ Some v → EachCall (IsMatched units) v.body) (stepped : (name : List ℕ) (v : Procedure) → find_unit units name ≡ Some v → IsStepFor units' name v) where
  -- what is said of each unit
  abbrev pub IsSpared : Procedure → Type 0
  IsSpared v = AreSpared (handed_back units') v.body × KeepsExtents (handed_back units') v

  module _ (taken : List (List ℕ)) (u : Procedure) where
    -- the cut list doesn't write what the list doesn't
    cut_spares : (k : ℕ) (x : Var) (body : Code) → PlainVar x → EachCall (IsMatched units) body → StepsThere units' taken u k body → writes (handed_back units) x body ≡ false → writes (handed_back units') x (cut taken u k body) ≡ false
    cut_spares k (plain y) body pl p st s = not_back (writes (handed_back units') (plain y) (cut taken u k body)) (writes (handed_back units) (plain y) body) (cut_back units units' plainly each stepped taken u k body p st y) s
    cut_spares k (shadow y) body pl p st s = absurd pl
    cut_spares k (helper r j) body pl p st s = absurd pl

    -- nor does the call of its step unit
    call_spares : (k line : ℕ) (x : Var) (body : Code) → PlainVar x → EachCall (IsMatched units) body → find_unit units' (step_name taken u.name k) ≡ Some (step_unit taken u k line x body) → StepsThere units' taken u (suc k) body → writes (handed_back units) x body ≡ false →
        (is_handed_back x (handed_back units' (step_name taken u.name k)) (as_actuals (step_dummies u x body)) || false) ≡ false
    call_spares k line (plain y) body pl p here st s =
        ap (λ b. b || false) (not_back (is_handed_back (plain y) (handed_back units' (step_name taken u.name k)) (as_actuals (step_dummies u (plain y) body))) (writes (handed_back units) (plain y) body) (step_back units units' plainly each stepped taken u k line (plain y) body p here st y) s)
    call_spares k line (shadow y) body pl p here st s = absurd pl
    call_spares k line (helper r j) body pl p here st s = absurd pl

    -- a statement with its marked loops cut
    spares_head : (k line : ℕ) (a : Act) → PlainAct a → EachCall' (IsMatched units) a → StepsThereAct units' taken u k line a → Spares (handed_back units) a → Spares (handed_back units') (cut_act taken u k line a)
    spares_head k line (assign x subs e) pl p st s = tt
    spares_head k line (choose c a b) pl p st s = tt
    spares_head k line (loop x first last by body unmarked) pl p st s = cut_spares k x body pl.0 p st s
    spares_head k line (loop x first last by body (with_count m)) pl p st s = call_spares k line x body pl.0 p st.0 st.1 s
    spares_head k line (loop x first last by body (count_from z)) pl p st s = call_spares k line x body pl.0 p st.0 st.1 s
    spares_head k line (during c body) pl p st s = tt
    spares_head k line (call name args) pl p st s = tt
    spares_head k line (runtime r) pl p st s = tt

    mutual
      spared_in : (k line : ℕ) (a : Act) → PlainAct a → EachCall' (IsMatched units) a → StepsThereAct units' taken u k line a → HoldsIn (λ l c. Spares (handed_back units) c) a → HoldsIn (λ l c. Spares (handed_back units') c) (cut_act taken u k line a)
      spared_in k line (assign x subs e) pl p st s = tt
      spared_in k line (choose c a b) pl p st s = (spared_cut k a pl.1.0 p.0 st.0 s.0, spared_cut (k + marked_in a) b pl.1.1 p.1 st.1 s.1)
      spared_in k line (loop x first last by body unmarked) pl p st s = spared_cut k body pl.1.1 p st s
      spared_in k line (loop x first last by body (with_count m)) pl p st s = (tt, (tt, tt))
      spared_in k line (loop x first last by body (count_from z)) pl p st s = (tt, (tt, tt))
      spared_in k line (during c body) pl p st s = spared_cut k body pl.1 p st s
      spared_in k line (call name args) pl p st s = tt
      spared_in k line (runtime r) pl p st s = tt

      -- the loops of a cut list are spared where those of the list are
      spared_cut : (k : ℕ) (c : Code) → PlainCode c → EachCall (IsMatched units) c → StepsThere units' taken u k c → AreSpared (handed_back units) c → AreSpared (handed_back units') (cut taken u k c)
      spared_cut k stop pl p st s = tt
      spared_cut k (step line a rest) pl p st s = (spares_head k line a pl.0 p.0 st.0 s.0, (spared_in k line a pl.0 p.0 st.0 s.1.0, spared_cut (k + marked_in_act a) rest pl.1 p.1 st.1 s.1.1))

    -- the list doesn't write the unit's extents
    abbrev Keeps : Code → Type 0
    Keeps c = (x : Var) (d : List ℕ) → names_extent d (declared u.declarations x) ≡ true → writes (handed_back units) (plain d) c ≡ false

    -- nor does the statement
    abbrev KeepsAct : Act → Type 0
    KeepsAct a = (x : Var) (d : List ℕ) → names_extent d (declared u.declarations x) ≡ true → act_writes (handed_back units) (plain d) a ≡ false

    -- a step unit is so
    step_spared : (k line : ℕ) (x : Var) (body : Code) → PlainCode body → EachCall (IsMatched units) body → StepsThere units' taken u (suc k) body → AreSpared (handed_back units) body → Keeps body → IsSpared (step_unit taken u k line x body)
    step_spared k line x body pl p st s kept = (
      spared_cut (suc k) body pl p st s,
      (λ d g e. let f = step_extent u.declarations line d (step_dummies u x body) e in not_back (writes (handed_back units') (plain d) (cut taken u (suc k) body)) (writes (handed_back units) (plain d) body) (cut_back units units' plainly each stepped taken u (suc k) body p st d) (kept (plain f.of) d f.is)),
    )

    mutual
      steps_spared_act : (k line : ℕ) (a : Act) → PlainAct a → EachCall' (IsMatched units) a → StepsThereAct units' taken u k line a → HoldsIn (λ l c. Spares (handed_back units) c) a → KeepsAct a → EachUnit IsSpared (step_units_in_act taken u k line a)
      steps_spared_act k line (assign x subs e) pl p st s kept = tt
      steps_spared_act k line (choose c a b) pl p st s kept =
          join_units IsSpared (step_units_in taken u k a) (step_units_in taken u (k + marked_in a) b) (steps_spared k a pl.1.0 p.0 st.0 s.0 (λ x d e. (or_false (writes (handed_back units) (plain d) a) (writes (handed_back units) (plain d) b) (kept x d e)).0))
          (steps_spared (k + marked_in a) b pl.1.1 p.1 st.1 s.1 (λ x d e. (or_false (writes (handed_back units) (plain d) a) (writes (handed_back units) (plain d) b) (kept x d e)).1))
      steps_spared_act k line (loop x first last by body unmarked) pl p st s kept = steps_spared k body pl.1.1 p st s (λ z d e. (or_false _ (writes (handed_back units) (plain d) body) (kept z d e)).1)
      steps_spared_act k line (loop x first last by body (with_count m)) pl p st s kept =
          let inside : Keeps body = λ z d e. (or_false _ (writes (handed_back units) (plain d) body) (kept z d e)).1 in
          (step_spared k line x body pl.1.1 p st.1 s inside, steps_spared (suc k) body pl.1.1 p st.1 s inside)
      steps_spared_act k line (loop x first last by body (count_from y)) pl p st s kept =
          let inside : Keeps body = λ z d e. (or_false _ (writes (handed_back units) (plain d) body) (kept z d e)).1 in
          (step_spared k line x body pl.1.1 p st.1 s inside, steps_spared (suc k) body pl.1.1 p st.1 s inside)
      steps_spared_act k line (during c body) pl p st s kept = steps_spared k body pl.1 p st s kept
      steps_spared_act k line (call name args) pl p st s kept = tt
      steps_spared_act k line (runtime r) pl p st s kept = tt

      -- so it is in the step units of a list
      steps_spared : (k : ℕ) (c : Code) → PlainCode c → EachCall (IsMatched units) c → StepsThere units' taken u k c → AreSpared (handed_back units) c → Keeps c → EachUnit IsSpared (step_units_in taken u k c)
      steps_spared k stop pl p st s kept = tt
      steps_spared k (step line a rest) pl p st s kept =
          join_units IsSpared (step_units_in_act taken u k line a) (step_units_in taken u (k + marked_in_act a) rest) (steps_spared_act k line a pl.0 p.0 st.0 s.1.0 (λ x d e. (or_false (act_writes (handed_back units) (plain d) a) (writes (handed_back units) (plain d) rest) (kept x d e)).0))
          (steps_spared (k + marked_in_act a) rest pl.1 p.1 st.1 s.1.1 (λ x d e. (or_false (act_writes (handed_back units) (plain d) a) (writes (handed_back units) (plain d) rest) (kept x d e)).1))

    -- and in the unit and its step units
    pub unit_spared : PlainCode u.body → EachCall (IsMatched units) u.body → StepsThere units' taken u 0 u.body → AreSpared (handed_back units) u.body → KeepsExtents (handed_back units) u → Keeps u.body → EachUnit IsSpared (stepped_unit taken u)
    unit_spared pl p st s keeps kept = (
      (spared_cut 0 u.body pl p st s, (λ d g e. not_back (writes (handed_back units') (plain d) (cut taken u 0 u.body)) (writes (handed_back units) (plain d) u.body) (cut_back units units' plainly each stepped taken u 0 u.body p st d) (keeps d g e))),
      steps_spared 0 u.body pl p st s kept,
    )

  -- all units
  pub all_spared : (C : Type 0) (us : List Procedure) (taken : List (List ℕ)) → EachUnit (λ u. PlainCode u.body) us → EachUnit (λ u. EachCall (IsMatched units) u.body) us → EachUnit (HasExtents C units) us → EachUnit (λ u. AreSpared (handed_back units) u.body × KeepsExtents (handed_back units) u) us → AllThere units' taken us → EachUnit IsSpared (stepped_from taken us)
  all_spared C [] taken pl p x s st = tt
  all_spared C (u ∷ us) taken pl p x s st =
      join_units IsSpared (stepped_unit taken u) (stepped_from (taken ++ step_names taken u.name (marked_in u.body)) us) (unit_spared taken u pl.0 p.0 st.0 s.0.0 s.0.1 x.0.kept)
      (all_spared C us (taken ++ step_names taken u.name (marked_in u.body)) pl.1 p.1 x.1 s.1 st.1)
