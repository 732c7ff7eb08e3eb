-- Units and programs, and their kernels, each statement at its price.
use Rattle.std.proofs.Common.{◌≡◌, ℕ, zero, suc, ◌*◌, ◌≤◌, Bool, true, false, List, [], ◌∷◌, map, refl, sym, ap, ◌∙◌, arith, subst}
use Rattle.std.specs.Prelude.{length, ◌==◌, Some, if◌then◌else◌}
use Rattle.adj_tree.specs.Code.{Var, plain, name_eq, Terms, Act, call, Code, step, Procedure}
use Rattle.adj_tree.proofs.Names.{name_refl}
use Rattle.def_meaning.specs.Append.{◌+++◌}
use Rattle.def_meaning.specs.Trap.{schedule_trap}
use Rattle.def_meaning.specs.Store.{scalar, Store}
use Rattle.def_meaning.specs.Value.{Setting}
use Rattle.def_meaning.specs.Event.{Enter}
use Rattle.def_meaning.specs.Scene.{Scene, Go, stand, IsMore, Done, Trapped, then_do, counted}
use Rattle.def_meaning.specs.Run.{Calls, run}
use Rattle.law_meaning.specs.Agree.{AgreeOn}
use Rattle.def_meaning.specs.Written.{find_unit, handed_back, is_written}
use Rattle.def_meaning.specs.Units.{declared, extent_in, shape_of, setting_in, dummy_shapes, entered, unit_run, call_in, calls_of}
use Rattle.law_meaning.specs.Follows.{Follows, both_more}
use Rattle.def_meaning.specs.Padded.{own_nodes, padded, padded_procedure, padded_program}
use Rattle.def_meaning.proofs.Appends.{append_assoc}
use Rattle.def_meaning.proofs.Booleans.{or_first, or_second}
use Rattle.law_meaning.proofs.Longer.{CallsAlike, calls_alike}
use Rattle.law_meaning.proofs.Dependence.{none_declared}
use Rattle.law_meaning.proofs.WriteSets.{handed_written}
use Rattle.law_meaning.proofs.Following.{follows_done, follows_trap, follows_if, follows_then}
use Rattle.law_meaning.proofs.PaddedPrograms.{padded_append, handed_padded, padded_found, find_padded}
use Rattle.def_meaning.specs.Apart.{has_name}
use Rattle.def_kernel.specs.Lowered.{locals_in_all, reduced_all, before_all, before_passing_all, after_passing_all, all_passed, lowered_call}
use Rattle.def_kernel.specs.Weights.{total_cost, WeighsAtMost}
use Rattle.law_kernel.specs.Apart.{ShowWords, CellsOf, TermsInside, EachCall}
use Rattle.def_kernel.specs.Calls.{is_scalar}
use Rattle.law_kernel.specs.Fits.{is_of, PlainCode, IsFitCall, IsFit}
use Rattle.def_kernel.specs.Kernel.{taken_in, local_in, local_names, locals_count, lowered_unit, lowered_program, EachUnit}
use Rattle.law_kernel.proofs.Calling.{padded_empty, UnitFollows, call_follows}
use Rattle.law_kernel.proofs.Returning.{OneEach, AreDummies}
use Rattle.law_kernel.proofs.Lists.{lists_follow}
use Rattle.law_kernel.proofs.Locals.{unit_locals, local_undeclared, scalars_behind, own_body, own_dummies}

-- the unit of a name in the kernel is that of the source, lowered
pub found_lowered : (all units : List Procedure) (name : List ℕ) (u : Procedure) → find_unit units name ≡ Some u → find_unit (map (lowered_unit all) units) name ≡ Some (lowered_unit all u)
found_lowered all [] name u h = absurd cc
found_lowered all (v ∷ us) name u h = go (name_eq v.name name) h (λ g. found_lowered all us name u g)
  where
    go : (b : Bool) → (if b then Some v else find_unit us name) ≡ Some u → (find_unit us name ≡ Some u → find_unit (map (lowered_unit all) us) name ≡ Some (lowered_unit all u)) → (if b then Some (lowered_unit all v) else find_unit (map (lowered_unit all) us) name) ≡ Some (lowered_unit all u)
    go true g ih = let e : v ≡ u = cc in ap (λ z. Some (lowered_unit all z)) e
    go false g ih = ih g

-- a unit that is found is one of them
pub found_in : (P : Procedure → Type 0) (units : List Procedure) (name : List ℕ) (u : Procedure) → find_unit units name ≡ Some u → EachUnit P units → P u
found_in P [] name u h a = absurd cc
found_in P (v ∷ us) name u h a = go (name_eq v.name name) h (λ g. found_in P us name u g a.1)
  where
    go : (b : Bool) → (if b then Some v else find_unit us name) ≡ Some u → (find_unit us name ≡ Some u → P u) → P u
    go true g ih = let e : v ≡ u = cc in subst P e a.0
    go false g ih = ih g

-- flags of a list, one each
one_each : (ds : List (List ℕ)) (f : List ℕ → Bool) → OneEach ds (map f ds)
one_each [] f = tt
one_each (d ∷ ds) f = one_each ds f

-- the dummies of a unit are its variables
pub are_own : (u : Procedure) (ds : List (List ℕ)) → ((x : List ℕ) → has_name x ds ≡ true → has_name x u.dummies ≡ true) → AreDummies (λ d. is_of u (plain d)) ds
are_own u [] h = tt
are_own u (d ∷ ds) h = (own_dummies u d (h d (or_first (name_eq d d) (has_name d ds) (name_refl d))), are_own u ds (λ x e. h x (or_second (name_eq x d) (has_name x ds) e)))

-- a unit and its lowered unit declare the same extents
pub declares : (units : List Procedure) (u : Procedure) (x : Var) → declared (lowered_unit units u).declarations x ≡ declared u.declarations x
declares units u x = scalars_behind u.declarations u.line (local_names (taken_in units u) (locals_count units u)) x

module _ (C : Type 0) (extra : Act → ℕ) (cheap : (a : Act) → extra a ≤ own_nodes a) (units : List Procedure) (fit : IsFit units) (m : ℕ) (w : ℕ) (few : 9 * m ≤ w) (weighed : EachUnit (λ u. WeighsAtMost m u.body) units) (same_written : (name : List ℕ) → handed_back (lowered_program units) name ≡ handed_back units name) where
  abbrev source : ℕ → Calls C
  source depth = calls_of units depth

  abbrev kernel : ℕ → Calls C
  kernel depth = calls_of (padded_program extra (lowered_program units)) depth

  abbrev padded_unit : Procedure → Procedure
  padded_unit u = padded_procedure extra (lowered_unit units u)

  -- the kernel hands back what the source does
  written_there : (name : List ℕ) → handed_back (padded_program extra (lowered_program units)) name ≡ handed_back units name
  written_there name = handed_padded extra (lowered_program units) name ∙ same_written name

  -- each unit is found there
  found_there : (name : List ℕ) (u : Procedure) → find_unit units name ≡ Some u → find_unit (padded_program extra (lowered_program units)) name ≡ Some (padded_unit u)
  found_there name u found = find_padded extra (lowered_program units) name ∙ ap (padded_found extra) (found_lowered units units name u found)

  self_alike : (depth : ℕ) → CallsAlike (kernel depth) (kernel depth)
  self_alike depth = calls_alike (padded_program extra (lowered_program units)) depth depth (omega arith)

  module _ (u : Procedure) (n : Setting C) (s : Store C) where
    locals_scalar : (k : ℕ) → (setting_in n u s).shape (local_in units u k) ≡ scalar
    locals_scalar k = ap (λ l. shape_of (map (extent_in n.numbers s) l)) (local_undeclared units u k)

    scalars_flat : (x : Var) → is_scalar u.declarations x ≡ true → (setting_in n u s).shape x ≡ scalar
    scalars_flat x h = ap (λ l. shape_of (map (extent_in n.numbers s) l)) (none_declared (declared u.declarations x) h)

  -- calls within a unit, where called units follow
  module _ (depth : ℕ) (ih : (name : List ℕ) (u : Procedure) → find_unit units name ≡ Some u → UnitFollows (source depth) (kernel depth) w (is_of u) depth u (padded_unit u)) where
    -- a call of a unit follows where its unit does
    call_deeper : (caller : Procedure) (n : Setting C) (shows : ShowWords n.numbers) (store : Store C) (name : List ℕ) (args : Terms) (line : ℕ) → IsFitCall units caller name args → TermsInside (is_of caller) args → total_cost extra (lowered_call (local_in units caller) line (handed_back units name) name args) ≤ w →
        (s t : Scene C) → AgreeOn (CellsOf (setting_in n caller store) (is_of caller)) s t → (k : ℕ) → k ≤ suc depth →
        Follows (AgreeOn (CellsOf (setting_in n caller store) (is_of caller))) w 0 (λ i. counted (stand (setting_in n caller store) s) i (λ j. source (suc depth) (setting_in n caller store) name args line s j)) (run (kernel (suc depth)) (setting_in n caller store) (padded extra (lowered_call (local_in units caller) line (handed_back units name) name args)) t) k
    call_deeper caller n shows store name args line f h few s t a k le =
        call_follows extra (source depth) (kernel depth) (source (suc depth)) (kernel (suc depth)) (setting_in n caller store) (self_alike (suc depth)) (is_of caller) (local_in units caller) (unit_locals units caller) shows (locals_scalar caller n store)
        caller.declarations (scalars_flat caller n store) w f.called (padded_unit f.called) refl (declares units f.called) (handed_back units name)
        (subst (λ z. OneEach f.called.dummies z) (sym (handed_written units name f.called f.found)) (one_each f.called.dummies (is_written units f.called)))
        (is_of f.called) name args line few h f.once f.arrays f.ranks
        (λ s1 k1. ap (λ z. call_in (source depth) (setting_in n caller store) (handed_back units name) z args line s1 k1) f.found)
        (λ es s1 k1. λ i. call_in (kernel depth) (setting_in n caller store) (written_there name i) (found_there name f.called f.found i) es line s1 k1)
        s t a (are_own f.called f.called.dummies (λ x e. e)) depth (ih name f.called f.found) k le

  -- calls where no depth is left, and so no statement
  call_never : (caller : Procedure) (n : Setting C) (name : List ℕ) (args : Terms) (line : ℕ) (R : Scene C → Scene C → Type 0) (s t : Scene C) (k : ℕ) → k ≤ 0 →
      Follows R w 0 (λ i. counted (stand n s) i (λ j. source 0 n name args line s j)) (run (kernel 0) n (padded extra (lowered_call (local_in units caller) line (handed_back units name) name args)) t) k
  call_never caller n name args line R s t zero le = both_more tt (λ j l. let e : 0 ≡ j = omega arith in subst (λ z. IsMore (run (kernel 0) n (padded extra (lowered_call (local_in units caller) line (handed_back units name) name args)) t z)) e empty)
    where
      local : ℕ → Var
      local = local_in units caller

      ws : List Bool
      ws = handed_back units name

      j : ℕ
      j = locals_in_all args

      es : Terms
      es = reduced_all local 0 args

      prefix : Code
      prefix = before_all local line 0 args +++ before_passing_all local line j ws [] es

      last : Code
      last = after_passing_all local line j ws [] es

      names : Terms
      names = all_passed local j ws [] es

      whole : padded extra (lowered_call (local_in units caller) line (handed_back units name) name args) ≡ padded extra prefix +++ padded extra (step line (call name names) last)
      whole =
          ap (padded extra) (sym (append_assoc (before_all local line 0 args) (before_passing_all local line j ws [] es) (step line (call name names) last)))
          ∙ padded_append extra prefix (step line (call name names) last)

      empty : IsMore (run (kernel 0) n (padded extra (lowered_call (local_in units caller) line (handed_back units name) name args)) t 0)
      empty =
          subst (λ c. IsMore (run (kernel 0) n c t 0)) (sym whole)
          (padded_empty (kernel 0) n (extra (call name names)) (padded extra prefix) line (call name names) (padded extra last) t)
  call_never caller n name args line R s t (suc k) le = absurd (omega arith)

  -- what is known of the calls in a unit
  abbrev CallsFollow : ℕ → Type 0
  CallsFollow depth =
      (caller : Procedure) (n : Setting C) (shows : ShowWords n.numbers) (store : Store C) (name : List ℕ) (args : Terms) (line : ℕ) → IsFitCall units caller name args → TermsInside (is_of caller) args → total_cost extra (lowered_call (local_in units caller) line (handed_back units name) name args) ≤ w →
      (s t : Scene C) → AgreeOn (CellsOf (setting_in n caller store) (is_of caller)) s t → (k : ℕ) → k ≤ depth →
      Follows (AgreeOn (CellsOf (setting_in n caller store) (is_of caller))) w 0 (λ i. counted (stand (setting_in n caller store) s) i (λ j. source depth (setting_in n caller store) name args line s j)) (run (kernel depth) (setting_in n caller store) (padded extra (lowered_call (local_in units caller) line (handed_back units name) name args)) t) k

  module _ (depth : ℕ) (calls : CallsFollow depth) (name : List ℕ) (u : Procedure) (found : find_unit units name ≡ Some u) where
    -- a unit follows where the calls in it do
    unit_by : UnitFollows (source depth) (kernel depth) w (is_of u) depth u (padded_unit u)
    unit_by n shows line s t k le same a =
        subst (λ z. Follows Alike w 0 (unit_run (source depth) n u line s) (λ i. then_do (run (kernel depth) z (padded_unit u).body (entered n (padded_unit u) t) i) (closed line)) k) same
        (follows_then w 0 0 Alike Alike (run (source depth) here u.body (entered n u s)) (run (kernel depth) here (padded_unit u).body (entered n (padded_unit u) t)) (closed line) (closed line) k
        (lists_follow extra cheap (source depth) (kernel depth) here (self_alike depth) (is_of u) (local_in units u) (unit_locals units u) shows (handed_back units) (IsFitCall units u) w depth
        (λ name1 args line1 f h few1 s1 t1 a1 k1 le1. calls u n shows s.store name1 args line1 f h few1 s1 t1 a1 k1 le1) m few
        u.body (own_body u (found_in (λ u. PlainCode u.body) units name u found fit.plains)) (found_in (λ u. EachCall (IsFitCall units u) u.body) units name u found fit.calls) (found_in (λ u. WeighsAtMost m u.body) units name u found weighed) (entered n u s) (entered n (padded_unit u) t)
        (record { store = a.store; tape = a.tape; opened = refl; events = λ i. Enter u.name (suc n.level) (length (a.tape i)) (dummy_shapes (same i) u) ∷ a.events i }) k le)
        (λ s1 t1 i l r. ends s1 t1 i r))
      where
        here : Setting C
        here = setting_in n u s.store

        Alike : Scene C → Scene C → Type 0
        Alike = AgreeOn (CellsOf (setting_in n u s.store) (is_of u))

        closed : ℕ → Go C
        closed l s1 j = if s1.opened == 0 then Done s1 j else Trapped schedule_trap l (stand n s1)

        ends : (s1 t1 : Scene C) (i : ℕ) → AgreeOn (CellsOf (setting_in n u s.store) (is_of u)) s1 t1 → Follows (AgreeOn (CellsOf (setting_in n u s.store) (is_of u))) w 0 (closed line s1) (closed line t1) i
        ends s1 t1 i r =
            subst (λ z. Follows (AgreeOn (CellsOf (setting_in n u s.store) (is_of u))) w 0 (closed line s1) (λ j. if z == 0 then Done t1 j else Trapped schedule_trap line (stand n t1)) i) r.opened
            (follows_if w 0 (AgreeOn (CellsOf (setting_in n u s.store) (is_of u))) (s1.opened == 0) (λ j. Done s1 j) (λ j. Trapped schedule_trap line (stand n s1)) (λ j. Done t1 j) (λ j. Trapped schedule_trap line (stand n t1)) i
            (follows_done w 0 (AgreeOn (CellsOf (setting_in n u s.store) (is_of u))) s1 t1 i r) (follows_trap w 0 (AgreeOn (CellsOf (setting_in n u s.store) (is_of u))) schedule_trap schedule_trap line (stand n s1) (stand n t1) i))

  -- units follow, by the depth of calls
  pub units_follow : (depth : ℕ) (name : List ℕ) (u : Procedure) → find_unit units name ≡ Some u → UnitFollows (source depth) (kernel depth) w (is_of u) depth u (padded_unit u)
  units_follow zero name u found =
      unit_by zero (λ caller n shows store name1 args line f h few s t a k le. call_never caller (setting_in n caller store) name1 args line (AgreeOn (CellsOf (setting_in n caller store) (is_of caller))) s t k le) name u found
  units_follow (suc depth) name u found = unit_by (suc depth) (call_deeper depth (units_follow depth)) name u found
