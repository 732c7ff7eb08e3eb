-- Units of a program in which the bodies of marked loops are called follow those of the source.
use Rattle.std.proofs.Common.{◌≡◌, ℕ, zero, suc, ◌+◌, ◌≤◌, Bool, true, false, List, [], ◌∷◌, refl, sym, ap, arith, subst}
use Rattle.std.specs.Prelude.{◌==◌, Option, Some, Ok, if◌then◌else◌}
use Rattle.adj_tree.specs.Code.{Var, plain, name_eq, Terms, Procedure}
use Rattle.adj_tree.proofs.Names.{name_refl}
use Rattle.def_meaning.specs.Trap.{shape_trap, schedule_trap}
use Rattle.def_meaning.specs.Numbers.{Numbers}
use Rattle.def_meaning.specs.Store.{Shape, scalar, Store}
use Rattle.def_meaning.specs.Value.{Setting}
use Rattle.def_meaning.specs.Scene.{Scene, Stand, stand, Go, IsMore, Done, Trapped, then_do, with_value, counted}
use Rattle.def_meaning.specs.Run.{run}
use Rattle.def_meaning.specs.LeastSet.{IsWithin}
use Rattle.def_meaning.specs.Written.{find_unit, handed_back}
use Rattle.def_meaning.specs.Units.{Actual, actuals, extents_of, shape_of, dummies_fit, entry_store, copied_out, entered, unit_run, call_in, calls_of}
use Rattle.def_meaning.proofs.Booleans.{or_first, or_second}
use Rattle.def_meaning.specs.Apart.{has_name, is_named}
use Rattle.law_meaning.specs.Follows.{Runs, Follows, both_more}
use Rattle.law_kernel.specs.Apart.{TermsInside}
use Rattle.def_kernel.specs.Kernel.{names_of}
use Rattle.def_kernel.specs.Stepped.{cut}
use Rattle.law_kernel.specs.StepTheorem.{marked_of, fits_itself, HoldsExtents, IsMatched, StepFits}
use Rattle.law_meaning.proofs.Following.{follows_done, follows_trap, follows_then}
use Rattle.law_kernel.proofs.Together.{follows_same, follows_known_value, counted_both}
use Rattle.law_kernel.proofs.Locals.{own_body, own_dummies}
use Rattle.law_kernel.proofs.TwoSettings.{set_in, actuals_two, Equal, copied_two}
use Rattle.law_kernel.proofs.Stepping.{Alike, lists_step}
use Rattle.law_kernel.proofs.StepUnits.{same_count, dummy_fits, all_fit, covered}

-- flags lie within themselves
within_self : (ws : List Bool) → IsWithin ws ws
within_self [] = tt
within_self (w ∷ ws) = ((λ e. e), within_self ws)

module _ {C : Type 0} (N : Numbers C) (room : Option ℕ) (units units' : List Procedure) (most : ℕ) (fit : (name : List ℕ) (v : Procedure) → find_unit units name ≡ Some v → StepFits C units units' most name v)
    (same_written : (name : List ℕ) (v : Procedure) → find_unit units name ≡ Some v → handed_back units' name ≡ handed_back units name) where
  -- what stands in a scene
  abbrev standing : Scene C → Stand
  standing s = stand (set_in N room (λ x. scalar) 0) s

  -- the unit in the stepped program
  abbrev cut_unit : List (List ℕ) → Procedure → Procedure
  cut_unit taken v = record v { body = cut taken v 0 v.body }

  -- a unit follows, where the kernel's calls may go this deep
  abbrev pub UnitSteps : ℕ → ℕ → List (List ℕ) → Procedure → Type 0
  UnitSteps depth least taken v =
      (sh sh' : Var → Shape) (level level' line : ℕ) (s t : Scene C) → s.store ≡ t.store → s.tape ≡ t.tape → marked_of s.events ≡ marked_of t.events → ((x : Var) → fits_itself N v s.store x ≡ true) → (e : ℕ) → least ≤ e → (k : ℕ) → k ≤ depth →
      Follows (Alike (names_of v) 0 0) 2 0 (unit_run (calls_of units depth) (set_in N room sh level) v line s) (unit_run (calls_of units' e) (set_in N room sh' level') (cut_unit taken v) line t) k

  -- a call follows
  abbrev CallSteps : ℕ → ℕ → Type 0
  CallSteps depth base =
      (sh : Var → Shape) (name : List ℕ) (args : Terms) (line : ℕ) → IsMatched units name args → (ns : List (List ℕ)) → TermsInside (is_named ns) args → (sh' : Var → Shape) (level level' : ℕ) → ((x : Var) → is_named ns x ≡ true → sh' x ≡ sh x) → (a b : ℕ) (s t : Scene C) → Alike ns a b s t → (e : ℕ) → base ≤ e → (k : ℕ) → k ≤ depth →
      Follows (Alike ns a b) 2 0 (λ i. counted (standing s) i (λ j. calls_of units depth (set_in N room sh level) name args line s j)) (λ i. counted (standing t) i (λ j. calls_of units' e (set_in N room sh' level') name args line t j)) k

  -- the dummies hold the same
  equal_dummies : (v : Procedure) (in_hand : Var → Bool) (s1 t1 : Scene C) → Alike (names_of v) 0 0 s1 t1 → (ds : List (List ℕ)) → ((y : List ℕ) → has_name y ds ≡ true → has_name y v.dummies ≡ true) → Equal {C = C} in_hand s1.store t1.store ds
  equal_dummies v in_hand s1 t1 r [] h = tt
  equal_dummies v in_hand s1 t1 r (d ∷ ds) h = ((λ i. r.store (plain d) i (own_dummies v d (h d (or_first (name_eq d d) (has_name d ds) (name_refl d))))), equal_dummies v in_hand s1 t1 r ds (λ y g. h y (or_second (name_eq y d) (has_name y ds) g)))

  module _ (depth least : ℕ) (ih : (name : List ℕ) (v : Procedure) (f : find_unit units name ≡ Some v) → UnitSteps depth least (fit name v f).stepped.taken v) where
    -- a call of a unit follows where its unit does
    call_deeper : CallSteps (suc depth) (suc least)
    call_deeper sh name args line p ns h sh' level level' same a b s t r zero be k le = absurd (omega (arith, be))
    call_deeper sh name args line p ns h sh' level level' same a b s t r (suc e) be k le =
        counted_both (Alike ns a b) 2 0 (standing s) (standing t) (λ j. calls_of units (suc depth) n name args line s j) (λ j. calls_of units' (suc e) n' name args line t j) k (omega arith)
        (λ j z.
        follows_same (Alike ns a b) 2 0 (λ i. with_value (actuals n args s.store) line (standing s) (λ got. in_source got i)) (λ i. calls_of units (suc depth) n name args line s i) (λ i. with_value (actuals n' args t.store) line (standing t) (λ got. in_kernel got i)) (λ i. calls_of units' (suc e) n' name args line t i) j
        (λ i. ap (λ o. call_in (calls_of units depth) n ws o args line s i) p.found)
        (λ i. λ c. call_in (calls_of units' e) n' (same_written name v p.found c) (st.stepped.found c) args line t i)
        (follows_known_value (Alike ns a b) 2 0 (actuals n args s.store) (actuals n' args t.store) line (standing s) (standing t) in_source in_kernel j (actuals_two N room (is_named ns) sh sh' level level' same s.store t.store r.store args h)
        (λ got is. by_fit got is (dummies_fit N v (entry_store N v.dummies got) v.dummies got) refl j (omega (arith, z, le)))))
      where
        n : Setting C
        n = set_in N room sh level

        n' : Setting C
        n' = set_in N room sh' level'

        v : Procedure
        v = p.called

        st : StepFits C units units' most name p.called
        st = fit name p.called p.found

        ws : List Bool
        ws = handed_back units name

        handed : List (Actual C) → Scene C → Scene C → Scene C
        handed got s0 s1 = record s0 { store = copied_out p.called.dummies (handed_back units name) got s1.store s0.store; tape = s1.tape; events = s1.events }

        in_source : List (Actual C) → Runs (Scene C)
        in_source got i =
            if dummies_fit N p.called (entry_store N p.called.dummies got) p.called.dummies got
            then then_do (unit_run (calls_of units depth) (set_in N room sh level) p.called line (record s { store = entry_store N p.called.dummies got }) i) (λ s1 j. Done (record s { store = copied_out p.called.dummies (handed_back units name) got s1.store s.store; tape = s1.tape; events = s1.events }) j)
            else Trapped shape_trap line (standing s)

        in_kernel : List (Actual C) → Runs (Scene C)
        in_kernel got i =
            if dummies_fit N p.called (entry_store N p.called.dummies got) p.called.dummies got
            then then_do (unit_run (calls_of units' e) (set_in N room sh' level') (cut_unit (fit name p.called p.found).stepped.taken p.called) line (record t { store = entry_store N p.called.dummies got }) i) (λ s1 j. Done (record t { store = copied_out p.called.dummies (handed_back units name) got s1.store t.store; tape = s1.tape; events = s1.events }) j)
            else Trapped shape_trap line (standing t)

        by_fit : (got : List (Actual C)) → actuals (set_in N room sh level) args s.store ≡ Ok got → (c : Bool) → dummies_fit N p.called (entry_store N p.called.dummies got) p.called.dummies got ≡ c → (j : ℕ) → j ≤ depth → Follows (Alike ns a b) 2 0 (in_source got) (in_kernel got) j
        by_fit got is true f j l =
            follows_same (Alike ns a b) 2 0 (λ i. then_do (unit_run (calls_of units depth) (set_in N room sh level) p.called line (record s { store = entry_store N p.called.dummies got }) i) (λ s1 j. Done (handed got s s1) j)) (in_source got)
            (λ i. then_do (unit_run (calls_of units' e) (set_in N room sh' level') (cut_unit (fit name p.called p.found).stepped.taken p.called) line (record t { store = entry_store N p.called.dummies got }) i) (λ s1 j. Done (handed got t s1) j)) (in_kernel got) j
            (λ i. ap (λ c. if c then then_do (unit_run (calls_of units depth) (set_in N room sh level) p.called line (record s { store = entry_store N p.called.dummies got }) i) (λ s1 j. Done (handed got s s1) j) else Trapped shape_trap line (standing s)) f)
            (λ i. ap (λ c. if c then then_do (unit_run (calls_of units' e) (set_in N room sh' level') (cut_unit (fit name p.called p.found).stepped.taken p.called) line (record t { store = entry_store N p.called.dummies got }) i) (λ s1 j. Done (handed got t s1) j) else Trapped shape_trap line (standing t)) f)
            (follows_then 2 0 0 (Alike (names_of p.called) 0 0) (Alike ns a b) (unit_run (calls_of units depth) (set_in N room sh level) p.called line (record s { store = entry_store N p.called.dummies got }))
            (unit_run (calls_of units' e) (set_in N room sh' level') (cut_unit (fit name p.called p.found).stepped.taken p.called) line (record t { store = entry_store N p.called.dummies got })) (λ s1 i. Done (handed got s s1) i) (λ t1 i. Done (handed got t t1) i) j
            (ih name p.called p.found sh sh' level level' line (record s { store = entry_store N p.called.dummies got }) (record t { store = entry_store N p.called.dummies got }) refl r.tape r.events
            (all_fit N units p.called (entry_store N p.called.dummies got) (fit name p.called p.found).extents (λ y g. dummy_fits N p.called (entry_store N p.called.dummies got) p.called.dummies got y (same_count (set_in N room sh level) p.called.dummies args s.store got p.count is) f g))
            e (omega (arith, be)) j l)
            (λ s1 t1 i l1 r1. follows_done 2 0 (Alike ns a b) (handed got s s1) (handed got t t1) i
            (record {
              store = copied_two (is_named ns) s1.store t1.store p.called.dummies (handed_back units name) got s.store t.store (equal_here s1 t1 r1) r.store;
              tape = r1.tape;
              opened = r.opened;
              opened' = r.opened';
              events = r1.events;
            })))
          where
            equal_here : (s1 t1 : Scene C) → Alike (names_of p.called) 0 0 s1 t1 → Equal (is_named ns) s1.store t1.store p.called.dummies
            equal_here s1 t1 r1 = equal_dummies p.called (is_named ns) s1 t1 r1 p.called.dummies (λ y h. h)
        by_fit got is false f j l =
            follows_same (Alike ns a b) 2 0 (λ i. Trapped shape_trap line (standing s)) (in_source got) (λ i. Trapped shape_trap line (standing t)) (in_kernel got) j
            (λ i. ap (λ c. if c then then_do (unit_run (calls_of units depth) (set_in N room sh level) p.called line (record s { store = entry_store N p.called.dummies got }) i) (λ s1 j. Done (handed got s s1) j) else Trapped shape_trap line (standing s)) f)
            (λ i. ap (λ c. if c then then_do (unit_run (calls_of units' e) (set_in N room sh' level') (cut_unit (fit name p.called p.found).stepped.taken p.called) line (record t { store = entry_store N p.called.dummies got }) i) (λ s1 j. Done (handed got t s1) j) else Trapped shape_trap line (standing t)) f)
            (follows_trap 2 0 (Alike ns a b) shape_trap shape_trap line (standing s) (standing t) j)

  -- a call where no depth is left, and so no statement
  call_never : CallSteps 0 0
  call_never sh name args line p ns h sh' level level' same a b s t r e be zero le = both_more tt (λ j l. let z : 0 ≡ j = omega arith in subst (λ i. IsMore (counted (standing t) i (λ i1. calls_of units' e (set_in N room sh' level') name args line t i1))) z tt)
  call_never sh name args line p ns h sh' level level' same a b s t r e be (suc k) le = absurd (omega arith)

  -- a unit, where calls follow
  unit_by : (depth base : ℕ) → CallSteps depth base → (name : List ℕ) (v : Procedure) (f : find_unit units name ≡ Some v) → UnitSteps depth (base + most) (fit name v f).stepped.taken v
  unit_by depth base calls name v f sh0 sh0' level level' line s t same tape events good e be k le =
      follows_then 2 0 0 (λ s1 t1. Alike (names_of v) 0 0 s1 t1 × HoldsExtents v.declarations s.store s1.store) (Alike (names_of v) 0 0) (run (calls_of units depth) (set_in N room here (suc level)) v.body (entered (set_in N room sh0 level) v s))
      (run (calls_of units' e) (set_in N room there (suc level')) (cut (fit name v f).stepped.taken v 0 v.body) (entered (set_in N room sh0' level') (cut_unit (fit name v f).stepped.taken v) t)) closed closed k
      (lists_step N room units units' (fit name v f).stepped.taken v s.store good (fit name v f).extents.own (fit name v f).extents.flat (IsMatched units)
      (λ k0 c y pl p st o. covered units units' (handed_back units) (λ name1 v1 f1. subst (λ z. IsWithin (handed_back units name1) z) (sym (same_written name1 v1 f1)) (within_self (handed_back units name1))) (fit name v f).stepped.taken v k0 c y pl p st o) depth base depth
      (λ name1 args1 line1 p ns h sh' level1 level1' same1 a b s1 t1 r e1 be1 k1 le1. calls here name1 args1 line1 p ns h sh' level1 level1' same1 a b s1 t1 r e1 be1 k1 le1)
      v.body 0 (names_of v) (own_body v (fit name v f).plainly) (own_body v (fit name v f).plainly) (fit name v f).plainly (fit name v f).each (fit name v f).stepped.steps (fit name v f).extents.kept
      (λ y d h g. (fit name v f).extents.own (plain y) d g) there (suc level) (suc level') (λ x h. ap (λ (z : Store C). shape_of (extents_of N v z x)) (sym same)) 0 0 (entered (set_in N room sh0 level) v s) (entered (set_in N room sh0' level') (cut_unit (fit name v f).stepped.taken v) t)
      (record { store = λ x i h. ap (λ (z : Store C). z x i) same; tape = tape; opened = refl; opened' = refl; events = events }, λ x d g. refl) e (omega (arith, be, (fit name v f).nests)) k le)
      (λ s1 t1 i l r. follows_same (Alike (names_of v) 0 0) 2 0 (λ j. Done s1 j) (closed s1) (λ j. Done t1 j) (closed t1) i (λ j. ap (λ z. if z == 0 then Done s1 j else Trapped schedule_trap line (standing s1)) r.0.opened) (λ j. ap (λ z. if z == 0 then Done t1 j else Trapped schedule_trap line (standing t1)) r.0.opened')
      (follows_done 2 0 (Alike (names_of v) 0 0) s1 t1 i r.0))
    where
      here : Var → Shape
      here x = shape_of (extents_of N v s.store x)

      there : Var → Shape
      there x = shape_of (extents_of N v t.store x)

      closed : Go C
      closed s1 j = if s1.opened == 0 then Done s1 j else Trapped schedule_trap line (standing s1)

  -- how deep the kernel's calls go for a depth of the source's
  abbrev pub deep : ℕ → ℕ
  deep zero = most
  deep (suc depth) = suc (deep depth) + most

  -- units follow, by the depth of calls
  pub units_step : (depth : ℕ) (name : List ℕ) (v : Procedure) (f : find_unit units name ≡ Some v) → UnitSteps depth (deep depth) (fit name v f).stepped.taken v
  units_step zero name v f sh sh' level level' line s t same tape events good e be k le = unit_by 0 0 call_never name v f sh sh' level level' line s t same tape events good e (omega (arith, be)) k le
  units_step (suc depth) name v f sh sh' level level' line s t same tape events good e be k le = unit_by (suc depth) (suc (deep depth)) (call_deeper depth (deep depth) (units_step depth)) name v f sh sh' level level' line s t same tape events good e be k le
