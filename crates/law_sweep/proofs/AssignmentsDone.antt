-- Each assignment that was done is transposed.
use Rattle.std.proofs.Common.{◌≡◌, ◌<◌, ℕ, Bool, true, false, List, [], refl, sym, ap, ◌∙◌, subst, arith, if◌then◌else◌}
use Rattle.std.specs.Prelude.{ℤ, Result, Ok, Option, Some, None, ◌==◌, ◌&&◌, not}
use Rattle.adj_tree.specs.Code.{Var, plain, shadow, name_eq, var_eq, Term, Terms, none, more, assign, stop}
use Rattle.adj_tree.proofs.Names.{name_same}
use Rattle.adj_word.specs.Pairing.{put}
use Rattle.def_meaning.specs.Trap.{Trap, index, then_ok, or_trap}
use Rattle.def_meaning.specs.Append.{one}
use Rattle.def_meaning.specs.Store.{Shape, size_of, cell_of, Store, set}
use Rattle.def_meaning.specs.Value.{Setting, value, values, cell_at, target}
use Rattle.def_meaning.specs.Scene.{Scene, Done}
use Rattle.def_meaning.specs.Run.{Calls, act}
use Rattle.def_meaning.specs.Read.{reads_terms}
use Rattle.law_meaning.specs.Leads.{Leads}
use Rattle.law_meaning.proofs.Inversions.{value_done, done_same, then_ok_is}
use Rattle.def_meaning.proofs.Cells.{size_positive}
use Rattle.law_meaning.proofs.Leadings.{leads_stop, leads_assign}
use Rattle.def_names.specs.Numbers.{Vars}
use Rattle.def_sweep.specs.Marks.{Marks, active_at}
use Rattle.def_names.specs.Numbering.{point_before, point_after}
use Rattle.def_sweep.specs.Facts.{whole, Facts}
use Rattle.def_meaning.specs.Apart.{AreApart}
use Rattle.law_sweep.specs.Pairs.{Key, key_eq, Words, with_tangents, on_words, on_duals}
use Rattle.law_sweep.specs.Scenes.{Course, scene}
use Rattle.def_sweep.specs.Emission.{forward_act, backward_act}
use Rattle.def_sweep.specs.Callees.{CalleeFacts}
use Rattle.law_sweep.specs.Laws.{AssignmentLaws}
use Rattle.law_sweep.specs.Passing.{plainly}
use Rattle.law_sweep.specs.Cells.{cells_of}
use Rattle.law_sweep.specs.Kernel.{AllText, AssignmentFits}
use Rattle.law_sweep.specs.Runs.{Passes}
use Rattle.law_sweep.proofs.Runs.{passes_leads}
use Rattle.law_sweep.proofs.Sweeps.{IsCell}
use Rattle.law_sweep.proofs.Transposed.{Transposed}
use Rattle.law_sweep.specs.Theorem.{plan_of}
use Rattle.law_sweep.proofs.Snapshots.{KnowsArrays}
use Rattle.law_sweep.proofs.Cells.{cells_has, cells_apart}
use Rattle.law_sweep.proofs.Shapes.{value_bare, values_bare}
use Rattle.law_sweep.proofs.Terms.{num, nums, cell_or, cell_in, tan, HasCell, IsDefined, value_words, values_words, value_duals, values_duals, defined_of, all_defined_of}
use Rattle.law_sweep.proofs.TermTangents.{cell_in_below, changed, assigned_change, matches_assign}
use Rattle.law_sweep.proofs.TermUses.{IsOver, text_of, texts_of, over_of}
use Rattle.law_sweep.proofs.TurnedOf.{HasTarget}
use Rattle.law_sweep.proofs.Assignments.{sweeps_assign, set_both}
use Rattle.def_sweep.specs.Reversals.{ReversedLines}

ok_same : {C : Type 0} (a b : C) → (let r : Result C Trap = Ok a in r ≡ Ok b) → a ≡ b
ok_same a b h = cc

-- a target that was evaluated
record TargetWas (sh : Var → Shape) (x : Var) (subs : Terms) (s : Store ℤ) (i : ℕ) : Type 0 where
  has : HasTarget sh x subs s
  is : cell_in sh x subs s ≡ i

target_was : (sh : Var → Shape) (level : ℕ) (x : Var) (subs : Terms) (s : Store ℤ) (i : ℕ) → target (on_words sh level) x subs s ≡ Ok i → TargetWas sh x subs s i
target_was sh level x none s i h = record { has = tt; is = ok_same 0 i h }
target_was sh level x (more a rest) s i h =
    let r = then_ok_is (values (on_words sh level) (more a rest) s) (λ is. cell_at (on_words sh level) x is) i h in
    let d = all_defined_of sh level (more a rest) s r.value r.is in
    let same : r.value ≡ nums sh (more a rest) s = ok_same r.value (nums sh (more a rest) s) (sym r.is ∙ values_words sh level (more a rest) s d) in
    let c = found (sh x) (nums sh (more a rest) s) i (ap (λ is. or_trap index (cell_of (sh x) is)) (sym same) ∙ r.goes) in
    record { has = (d, c.0); is = c.1 }
  where
    found : (m : Shape) (is : List ℤ) (i : ℕ) → or_trap index (cell_of m is) ≡ Ok i → HasCell m is × (cell_or (cell_of m is) ≡ i)
    found m is i h = go (cell_of m is) refl h
      where
        go : (o : Option ℕ) → cell_of m is ≡ o → or_trap index o ≡ Ok i → (o ≡ Some (cell_or o)) × (cell_or o ≡ i)
        go None e h = cc
        go (Some j) e h = (refl, ok_same j i h)

-- the shapes of the text's variables alone give the same target
target_bare : {C : Type 0} (n : Setting C) (s : Store C) (x : List ℕ) (subs : Terms) → AllText (λ v. reads_terms v subs) → target (record n { shape = plainly n.shape }) (plain x) subs s ≡ target n (plain x) subs s
target_bare n s x none t = refl
target_bare n s x (more a rest) t = ap (λ r. then_ok r (λ is. cell_at n (plain x) is)) (values_bare n s (more a rest) t)

target_dual : (sh : Var → Shape) (level : ℕ) (x : Var) (subs : Terms) (s : Store ℤ) (y : Words) → HasTarget sh x subs s → target (on_duals sh level) x subs (with_tangents s y) ≡ Ok (cell_in sh x subs s)
target_dual sh level x none s y h = refl
target_dual sh level x (more a rest) s y h = ap (λ r. then_ok r (λ is. cell_at (on_duals sh level) x is)) (values_duals sh level (more a rest) s y h.0) ∙ ap (or_trap index) h.1

module _ (p q : Calls ℤ) (lines : ReversedLines) (qd : Calls (ℤ × ℤ)) (callees : List ℕ → CalleeFacts) (w : Facts) (arrays : Vars) (vars : List (List ℕ)) (apart : AreApart vars) (present : Bool) (sh : Var → Shape) (level : ℕ) (known : KnowsArrays (plan_of callees w arrays) sh) (shapes : (x : List ℕ) → w.marks.shadowed (plain x) ≡ true → sh (shadow x) ≡ sh (plain x)) (x : List ℕ) (subs : Terms) (e : Term) (i d line : ℕ) (laws : AssignmentLaws w i (plain x) subs e) (fits : AssignmentFits vars arrays x subs e) where
  abbrev m : Marks
  m = w.marks

  abbrev xs : List Key
  xs = cells_of sh vars

  abbrev np : Setting ℤ
  np = on_words (plainly sh) level

  abbrev nd : Setting (ℤ × ℤ)
  nd = on_duals (plainly sh) level

  over : IsOver vars e
  over = over_of vars e (text_of e fits.text) fits.treated fits.known

  module _ (u : Store ℤ) (def : IsDefined sh e u) (tg : HasTarget sh (plain x) subs u) where
    abbrev c : ℕ
    c = cell_in sh (plain x) subs u

    abbrev at : Key
    at = (x, c)

    below : c < size_of (sh (plain x))
    below = go subs tg
      where
        go : (ss : Terms) → HasTarget sh (plain x) ss u → cell_in sh (plain x) ss u < size_of (sh (plain x))
        go none h = size_positive (sh (plain x))
        go (more a rest) h = cell_in_below (sh (plain x)) (nums sh (more a rest) u) h.1

    scalar_cell : (k : Key) → IsCell sh k → whole (plain x) subs (plain k.0) ≡ true → k ≡ at
    scalar_cell k o h = go subs refl h
      where
        go : (ss : Terms) → subs ≡ ss → whole (plain x) ss (plain k.0) ≡ true → k ≡ (x, cell_in sh (plain x) ss u)
        go none is h =
            let n : k.0 ≡ x = name_same k.0 x h in
            let l : k.1 < 1 = subst (λ z. k.1 < z) (ap (λ y. size_of (sh (plain y))) n ∙ known x (fits.rank is)) o in
            let z : k.1 ≡ 0 = omega arith in
            λ j. (n j, z j)
        go (more a rest) is h = cc

    dual_assign : (home : Course) (y : Words) (t : List (ℤ × ℤ)) → Passes lines qd nd (one line (assign (plain x) subs e)) home (with_tangents u y) (with_tangents (set u (plain x) c (num sh e u)) (put key_eq y at (tan sh e u y))) t []
    dual_assign home y t =
        let pv : ℤ × ℤ = (num sh e u, tan sh e u y) in
        let s1 = set (with_tangents u y) (plain x) c pv in
        let is : value nd e (with_tangents u y) ≡ Ok pv = value_bare (on_duals sh level) (with_tangents u y) e fits.text ∙ value_duals sh level e u y def in
        let tis : target nd (plain x) subs (with_tangents u y) ≡ Ok c = target_bare (on_duals sh level) (with_tangents u y) x subs fits.subs_text ∙ target_dual sh level (plain x) subs u y tg in
        passes_leads qd nd lines (one line (assign (plain x) subs e)) home (with_tangents u y) (with_tangents (set u (plain x) c (num sh e u)) (put key_eq y at (tan sh e u y))) t
        (leads_assign qd nd line (plain x) subs e stop (scene home (with_tangents u y) t) (scene home (with_tangents (set u (plain x) c (num sh e u)) (put key_eq y at (tan sh e u y))) t) pv c is tis
        (subst (λ (s : Store (ℤ × ℤ)). Leads qd nd stop (scene home s1 t) (scene home s t)) (both y (tan sh e u y)) (leads_stop qd nd (scene home s1 t))))
      where
        both : (y : Words) (z : ℤ) → (let p : ℤ × ℤ = (num sh e u, z) in set (with_tangents u y) (plain x) c p ≡ with_tangents (set u (plain x) c (num sh e u)) (put key_eq y at z))
        both y z = set_both q sh level xs (cells_apart sh vars apart) vars (λ y j n l. cells_has sh vars y j n l) w shapes i x subs e laws over (texts_of subs fits.subs_text) fits.apart u def tg (cells_has sh vars x c fits.variable below) scalar_cell y z

    transposed_assign : Transposed q lines qd sh level xs w d present (λ v. var_eq v (plain x)) (not (m.adjointed i)) (point_before i) (point_after i) (one line (assign (plain x) subs e)) (forward_act (plan_of callees w arrays) i d line (assign (plain x) subs e)) (backward_act (plan_of callees w arrays) i d line (assign (plain x) subs e)) u (set u (plain x) c (num sh e u))
    transposed_assign = record {
      derivative = λ y. put key_eq y at (tan sh e u y);
      change = assigned_change m i at sh e u;
      loops = [];
      dual = dual_assign;
      sweeps = λ pr. sweeps_assign q sh level xs (cells_apart sh vars apart) vars (λ y j n l. cells_has sh vars y j n l) w shapes i x subs e laws over (texts_of subs fits.subs_text) fits.apart u def tg (cells_has sh vars x c fits.variable below) scalar_cell d line;
      matches = λ y z h. matches_assign sh w i x subs e laws fits.treated u def c scalar_cell below y z h laws.shadows;
      unwritten = λ k n y. (other k n y (tan sh e u y), go k n y (m.adjointed i));
      still = λ o y k. still (m.adjointed i) refl o y k;
      none_reversed = λ o. refl;
    }
      where
        other : (k : Key) → name_eq k.0 x ≡ false → (y : Words) (z : ℤ) → put key_eq y at z k ≡ y k
        other k n y z = ap (λ b. if b && (k.1 == c) then z else y k) n

        go : (k : Key) → name_eq k.0 x ≡ false → (y : Words) (a : Bool) → (if a then changed (active_at m i) at sh e u y else y) k ≡ y k
        go k n y true = other k n y _
        go k n y false = refl

        still : (a : Bool) → m.adjointed i ≡ a → not (m.adjointed i) ≡ true → (y : Words) (k : Key) → (if a then changed (active_at m i) at sh e u y else y) k ≡ y k
        still true ea o y k = absurd (let r : false ≡ true = ap not (sym ea) ∙ o in cc)
        still false ea o y k = refl

  pub assign_done : (s r : Scene ℤ) (k left : ℕ) → act p np (assign (plain x) subs e) line s k ≡ Done r left → Transposed q lines qd sh level xs w d present (λ v. var_eq v (plain x)) (not (m.adjointed i)) (point_before i) (point_after i) (one line (assign (plain x) subs e)) (forward_act (plan_of callees w arrays) i d line (assign (plain x) subs e)) (backward_act (plan_of callees w arrays) i d line (assign (plain x) subs e)) s.store r.store
  assign_done s r k left h =
      let v = value_done (value np e s.store) line _ _ r left h in
      let t = value_done (target np (plain x) subs s.store) line _ _ r left v.goes in
      from s r k left v.value t.value (sym (value_bare (on_words sh level) s.store e fits.text) ∙ v.is) (sym (target_bare (on_words sh level) s.store x subs fits.subs_text) ∙ t.is) (done_same _ r k left t.goes)
    where
      from : (s r : Scene ℤ) (k left : ℕ) (v : ℤ) (j : ℕ) → value (on_words sh level) e s.store ≡ Ok v → target (on_words sh level) (plain x) subs s.store ≡ Ok j → record s { store = set s.store (plain x) j v } ≡ r → Transposed q lines qd sh level xs w d present (λ v. var_eq v (plain x)) (not (m.adjointed i)) (point_before i) (point_after i) (one line (assign (plain x) subs e)) (forward_act (plan_of callees w arrays) i d line (assign (plain x) subs e)) (backward_act (plan_of callees w arrays) i d line (assign (plain x) subs e)) s.store r.store
      from s r k left v j is tis e_r =
          let def = defined_of sh level e s.store v is in
          let tw = target_was sh level (plain x) subs s.store j tis in
          let same : num sh e s.store ≡ v = ok_same (num sh e s.store) v (sym (value_words sh level e s.store def) ∙ is) in
          subst (λ (u' : Store ℤ). Transposed q lines qd sh level xs w d present (λ v. var_eq v (plain x)) (not (m.adjointed i)) (point_before i) (point_after i) (one line (assign (plain x) subs e)) (forward_act (plan_of callees w arrays) i d line (assign (plain x) subs e)) (backward_act (plan_of callees w arrays) i d line (assign (plain x) subs e)) s.store u')
          ((λ l. set s.store (plain x) (tw.is l) (same l)) ∙ ap (λ (z : Scene ℤ). z.store) e_r)
          (transposed_assign s.store def tw.has)
