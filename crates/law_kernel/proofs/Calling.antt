-- A call, and the statements that it becomes, each at its price.
use Rattle.std.proofs.Common.{◌≡◌, ℕ, zero, suc, ◌+◌, ◌-◌, ◌*◌, ◌<◌, ◌≤◌, ◌⊎◌, inl, inr, Bool, true, false, List, [], refl, sym, ap, ◌∙◌, arith, subst}
use Rattle.std.specs.Prelude.{Ok, Some, if◌then◌else◌}
use Rattle.adj_tree.specs.Code.{Var, plain, Terms, none, more, Act, call, Code, stop, step, Declaration, Procedure}
use Rattle.def_meaning.specs.Append.{◌+++◌}
use Rattle.def_meaning.specs.Trap.{shape_trap}
use Rattle.def_meaning.specs.Store.{scalar, Store}
use Rattle.def_meaning.specs.Value.{Setting}
use Rattle.def_meaning.specs.Scene.{Scene, stand, IsMore, Done, Trapped, then_do, with_value, counted}
use Rattle.def_meaning.specs.Run.{Calls, run}
use Rattle.law_meaning.specs.Agree.{AgreeOn}
use Rattle.def_meaning.specs.Units.{Actual, actuals, declared, dummies_fit, entry_store, copied_out, setting_in, unit_run, call_in}
use Rattle.def_meaning.proofs.Appends.{run_append, append_assoc, then_assoc}
use Rattle.law_meaning.proofs.Leadings.{with_store}
use Rattle.law_meaning.proofs.Longer.{CallsAlike}
use Rattle.law_meaning.proofs.Verdicts.{more_then}
use Rattle.law_meaning.proofs.Agreements.{StoresAgree}
use Rattle.law_meaning.specs.Follows.{Runs, Follows, both_done}
use Rattle.def_kernel.specs.Lowered.{locals_in_all, reduced_all, before_all, all_passed, before_passing_all, after_passing_all, locals_passing_all, lowered_call}
use Rattle.law_kernel.specs.Apart.{ShowWords, AreLocals, CellsOf, TermsInside}
use Rattle.def_kernel.specs.Calls.{is_scalar, AreHandedApart, ArraysStandOnce, ScalarsToScalars}
use Rattle.law_meaning.proofs.Following.{follows_then, follows_statement, follows_trap}
use Rattle.law_meaning.proofs.Straights.{Stops, stops_first, stops_after, leads_early}
use Rattle.law_meaning.proofs.Bounded.{Goes, leads_of, goes_append}
use Rattle.law_kernel.proofs.Together.{follows_same}
use Rattle.law_kernel.proofs.Changing.{Range}
use Rattle.law_kernel.proofs.Targeting.{agree_after}
use Rattle.std.proofs.lemmas.Bool.{cases_lt}
use Rattle.def_meaning.specs.Padded.{waiting, padded}
use Rattle.def_kernel.specs.Weights.{total_cost}
use Rattle.law_kernel.proofs.Assigning.{never}
use Rattle.law_kernel.proofs.Weighing.{cost_append}
use Rattle.law_meaning.proofs.Padding.{waiting_more, waiting_past}
use Rattle.law_meaning.proofs.PaddedPrograms.{padded_append}
use Rattle.law_kernel.proofs.Flattening.{IsFlat, flat_append}
use Rattle.law_kernel.proofs.FlatLists.{flat_before_all, flat_passing_all, flat_after_all, goes_flat, stops_flat}
use Rattle.law_kernel.proofs.Actuals.{Nothing, AllMatch, Reduced, reduces, gives_none, reduces_all, AllPassed, all_pass, one_fails, passes_all, Flat}
use Rattle.law_kernel.proofs.HandingBack.{by_names, put_cells, AllStand, handed_alike, name_kept}
use Rattle.law_kernel.proofs.Entries.{names_passed, kernel_actuals, AllEqual, entry_agrees, setting_same, fit_same}
use Rattle.law_kernel.proofs.Names.{AreBelow, reduced_below}
use Rattle.law_kernel.proofs.Returning.{OneEach, HeldIn, held_apart, puts_back, matched_cells, AreDummies, all_stand}

-- nothing is done of a padded list with no statement left
pub padded_empty : {C : Type 0} (q : Calls C) (n : Setting C) (m : ℕ) (c : Code) (line : ℕ) (a : Act) (d : Code) (s : Scene C) → IsMore (run q n (c +++ waiting m line (step line a d)) s 0)
padded_empty q n zero stop line a d s = tt
padded_empty q n (suc m) stop line a d s = tt
padded_empty q n m (step line1 b c) line a d s = tt

-- what is done already, and what straight code leads to
pub done_then_goes : {C : Type 0} (q : Calls C) (n : Setting C) → CallsAlike q q → (R : Scene C → Scene C → Type 0) (w : ℕ) (c : Code) (s t t1 : Scene C) (m : ℕ) → Goes q n c t t1 m → R s t1 → (k : ℕ) → Follows R w m (λ j. Done s j) (run q n c t) k
done_then_goes q n alike R w c s t t1 m g r k =
    both_done (record {
      first = s;
      spent = 0;
      left = k;
      is = omega arith;
      done = refl;
      second = t1;
      cost = g.cost;
      least = omega arith;
      most = omega (arith, g.bound);
      early = leads_early q n alike c t t1 (record { cost = g.cost; by = g.by });
      by = g.by;
      related = r;
    })

-- the run of the unit in the kernel follows that of the source, from scenes that agree on its variables; k statements at most are left
abbrev pub UnitFollows : {C : Type 0} → Calls C → Calls C → ℕ → (Var → Bool) → ℕ → Procedure → Procedure → Type 0
UnitFollows inner inner' w inside most u u' =
    (n : Setting _) → ShowWords n.numbers → (line : ℕ) (s t : Scene _) (k : ℕ) → k ≤ most → setting_in n u s.store ≡ setting_in n u' t.store → AgreeOn (CellsOf (setting_in n u s.store) inside) s t →
    Follows (AgreeOn (CellsOf (setting_in n u s.store) inside)) w 0 (unit_run inner n u line s) (unit_run inner' n u' line t) k

module _ {C : Type 0} (extra : Act → ℕ) (inner inner' q q' : Calls C) (n : Setting C) (alike : CallsAlike q' q') (inside : Var → Bool) (local : ℕ → Var) (apart : AreLocals inside local) (shows : ShowWords n.numbers) (scalars : (k : ℕ) → n.shape (local k) ≡ scalar)
    (calling : List Declaration) (flat : (x : Var) → is_scalar calling x ≡ true → n.shape x ≡ scalar) (w : ℕ) where
  abbrev Related : Scene C → Scene C → Type 0
  Related = AgreeOn (CellsOf n inside)

  -- arrays stand once, by their shapes
  flat_of : (es : Terms) → ArraysStandOnce calling es → (t : Scene C) (line : ℕ) → Flat q' n inside local apart shows scalars t line es
  flat_of none h t line = tt
  flat_of (more e es) h t line = ((λ x a b. flat x (h.0 x a b)), flat_of es h.1 t line)

  module _ (u u' : Procedure) (dummies : u'.dummies ≡ u.dummies) (declares : (x : Var) → declared u'.declarations x ≡ declared u.declarations x)
      (ws : List Bool) (each : OneEach u.dummies ws) (inside_u : Var → Bool) (name : List ℕ) (args : Terms) (line : ℕ)
      (few : total_cost extra (lowered_call local line ws name args) ≤ w)
      (within : TermsInside inside args) (once : AreHandedApart ws args) (arrays : ArraysStandOnce calling args) (ranks : ScalarsToScalars u.declarations calling u.dummies ws args)
      (source_is : (s : Scene C) (k : ℕ) → q n name args line s k ≡ call_in inner n ws (Some u) args line s k)
      (kernel_is : (es : Terms) (s : Scene C) (k : ℕ) → q' n name es line s k ≡ call_in inner' n ws (Some u') es line s k)
      (s t : Scene C) (a : Related s t) where
    -- the parts of the kernel's code
    abbrev j : ℕ
    j = locals_in_all args

    abbrev es : Terms
    es = reduced_all local 0 args

    abbrev m : ℕ
    m = locals_passing_all local j ws [] es

    abbrev first : Code
    first = before_all local line 0 args

    abbrev second : Code
    second = before_passing_all local line j ws [] es

    abbrev last : Code
    last = after_passing_all local line j ws [] es

    abbrev names : Terms
    names = all_passed local j ws [] es

    abbrev ys : List Var
    ys = names_passed local j ws [] es

    abbrev prefix : Code
    prefix = first +++ second

    -- what stands before the CALL is flat
    flat_prefix : IsFlat prefix
    flat_prefix = flat_append first second (flat_before_all local line 0 args) (flat_passing_all local line j ws [] es)

    -- the same padded
    abbrev own : ℕ
    own = extra (call name names)

    abbrev padded_prefix : Code
    padded_prefix = padded extra prefix

    abbrev padded_last : Code
    padded_last = padded extra last

    abbrev the_call : Code
    the_call = waiting own line (step line (call name names) padded_last)

    abbrev slack : ℕ
    slack = total_cost extra last

    abbrev whole_code : Code
    whole_code = padded_prefix +++ the_call

    -- the parts are the whole
    regrouped : whole_code ≡ padded extra (lowered_call local line ws name args)
    regrouped = sym (padded_append extra prefix (step line (call name names) last)) ∙ ap (padded extra) (append_assoc first second (step line (call name names) last))

    -- what the parts cost together
    weighed : total_cost extra prefix + (own + 1 + slack) ≤ w
    weighed = omega (arith, few, cost_append extra first second, cost_append extra first (second +++ step line (call name names) last), cost_append extra second (step line (call name names) last))

    abbrev source : Runs (Scene C)
    source i = counted (stand n s) i (λ k. q n name args line s k)

    empty : IsMore (run q' n whole_code t 0)
    empty = padded_empty q' n own padded_prefix line (call name names) padded_last t

    -- there are no actuals
    without : Nothing (actuals n args s.store) → Stops q' n whole_code t line → (k : ℕ) → Follows Related w 0 source (run q' n whole_code t) k
    without z y k =
        follows_same Related w 0 (λ i. counted (stand n s) i (λ k1. Trapped z.kind line (stand n s))) source (run q' n whole_code t) (run q' n whole_code t) k
        (λ i. (λ o. counted (stand n s) i (λ k1. source_is s k1 o)) ∙ (λ o. counted (stand n s) i (λ k1. with_value (z.is o) line (stand n s) (λ got.
        if dummies_fit n.numbers u (entry_store n.numbers u.dummies got) u.dummies got
        then then_do (unit_run inner n u line (record s { store = entry_store n.numbers u.dummies got }) k1)
        (λ s1 i1. Done (record s { store = copied_out u.dummies ws got s1.store s.store; tape = s1.tape; events = s1.events }) i1)
        else Trapped shape_trap line (stand n s)))))
        (λ i. refl)
        (never q' n alike Related w (stand n s) (stand n s) whole_code t line z.kind empty y k)

    -- ---- the call itself, with its actuals

    module _ (t2 : Store C) (got : List (Actual C)) (got_is : actuals n args s.store ≡ Ok got) (g : Goes q' n padded_prefix t (with_store t t2) (total_cost extra prefix)) (b : StoresAgree (CellsOf n inside) s.store t2) (match : AllMatch n inside local ws j [] es got t2) where
      abbrev here : Store C
      here = entry_store n.numbers u.dummies got

      abbrev there : Store C
      there = entry_store n.numbers u'.dummies (by_names n t2 ys)

      equal : AllEqual n t2 got ys
      equal = matched_cells q' n inside local apart shows scalars t line ws j [] es got t2 match

      abbrev t_there : Scene C
      t_there = with_store t t2

      -- what the source does after the unit, and the kernel
      abbrev handed : Scene C → Scene C
      handed s1 = record s { store = copied_out u.dummies ws got s1.store s.store; tape = s1.tape; events = s1.events }

      abbrev handed' : Scene C → Scene C
      handed' t1 = record t { store = copied_out u'.dummies ws (by_names n t2 ys) t1.store t2; tape = t1.tape; events = t1.events }

      abbrev entered_here : Scene C
      entered_here = record s { store = here }

      abbrev entered_there : Scene C
      entered_there = record t { store = there }

      abbrev source_call : Runs (Scene C)
      source_call k =
          if dummies_fit n.numbers u here u.dummies got then then_do (unit_run inner n u line entered_here k) (λ s1 i. Done (handed s1) i) else Trapped shape_trap line (stand n s)

      source_by : (k : ℕ) → q n name args line s k ≡ source_call k
      source_by k = source_is s k ∙ ap (λ z. with_value z line (stand n s) (λ got.
          if dummies_fit n.numbers u (entry_store n.numbers u.dummies got) u.dummies got
          then then_do (unit_run inner n u line (record s { store = entry_store n.numbers u.dummies got }) k)
          (λ s1 i1. Done (record s { store = copied_out u.dummies ws got s1.store s.store; tape = s1.tape; events = s1.events }) i1)
          else Trapped shape_trap line (stand n s))) got_is

      abbrev kernel_call : Runs (Scene C)
      kernel_call k =
          if dummies_fit n.numbers u' there u'.dummies (by_names n t2 ys) then then_do (unit_run inner' n u' line entered_there k) (λ t1 i. Done (handed' t1) i) else Trapped shape_trap line (stand n t_there)

      kernel_by : (k : ℕ) → q' n name names line (with_store t t2) k ≡ kernel_call k
      kernel_by k = kernel_is names (with_store t t2) k ∙ ap (λ z. with_value z line (stand n t_there) (λ got.
          if dummies_fit n.numbers u' (entry_store n.numbers u'.dummies got) u'.dummies got
          then then_do (unit_run inner' n u' line (record t { store = entry_store n.numbers u'.dummies got }) k)
          (λ s1 i1. Done (record t { store = copied_out u'.dummies ws got s1.store t2; tape = s1.tape; events = s1.events }) i1)
          else Trapped shape_trap line (stand n t_there))) (kernel_actuals local n t2 j ws [] es)

      -- what follows the count of the call in the kernel
      abbrev inner_run : Runs (Scene C)
      inner_run k = then_do (q' n name names line (with_store t t2) k) (run q' n padded_last)

      -- the dummies don't fit
      unfit : dummies_fit n.numbers u here u.dummies got ≡ false → (k : ℕ) → Follows Related w slack (λ k1. q n name args line s k1) inner_run k
      unfit f k =
          follows_same Related w slack (λ k1. Trapped shape_trap line (stand n s)) (λ k1. q n name args line s k1) (λ k1. Trapped shape_trap line (stand n t_there)) inner_run k
          (λ k1. source_by k1 ∙ ap (λ z. if z then then_do (unit_run inner n u line entered_here k1) (λ s1 i. Done (handed s1) i) else Trapped shape_trap line (stand n s)) f)
          (λ k1. ap (λ z. then_do z (run q' n padded_last)) (kernel_by k1 ∙ ap (λ z. if z then then_do (unit_run inner' n u' line entered_there k1) (λ t1 i. Done (handed' t1) i) else Trapped shape_trap line (stand n t_there)) (sym (fit_same n t2 u u' dummies declares got ys equal) ∙ f)))
          (follows_trap w slack Related shape_trap shape_trap line (stand n s) (stand n t_there) k)

      -- they fit
      module _ (f : dummies_fit n.numbers u here u.dummies got ≡ true) (known : AreDummies (λ d. inside_u (plain d)) u.dummies) where
        abbrev InUnit : Scene C → Scene C → Type 0
        InUnit = AgreeOn (CellsOf (setting_in n u here) inside_u)

        below : AreBelow inside local apart j es
        below = reduced_below inside local apart args 0 j (omega arith) within

        -- from the ends of both units the results are related
        back_again : (s1 t1 : Scene C) → InUnit s1 t1 → (i : ℕ) → Follows Related w slack (λ i1. Done (handed s1) i1) (run q' n padded_last (handed' t1)) i
        back_again s1 t1 r i = done_then_goes q' n alike Related w padded_last (handed s1) (handed' t1) (with_store (handed' t1) k1) slack padded_goes related i
          where
            k0 : Store C
            k0 = copied_out u'.dummies ws (by_names n t2 ys) t1.store t2

            k1 : Store C
            k1 = put_cells ws got ys k0

            keeps : (i : ℕ) → HeldIn q' n inside local apart shows scalars (handed' t1) line i j ws [] es → k0 (local i) 0 ≡ t2 (local i) 0
            keeps i h = name_kept n inside t2 s1.store t1.store (local i) u'.dummies ws ys t2 0 (held_apart q' n inside local apart shows scalars (handed' t1) line i j j ws [] es below (omega arith) h)

            goes : Goes q' n last (handed' t1) (with_store (handed' t1) k1) m
            goes = puts_back q' n inside local apart shows scalars (handed' t1) line ws j [] es got t2 k0 match keeps

            padded_goes : Goes q' n padded_last (handed' t1) (with_store (handed' t1) k1) slack
            padded_goes = goes_flat extra q' n last (flat_after_all local line j ws [] es) (handed' t1) (with_store (handed' t1) k1) m goes

            stand : AllStand n inside t2 s1.store t1.store u.dummies ws got ys
            stand =
                all_stand q' n inside local apart shows scalars t line u calling flat (λ d. inside_u (plain d)) here s.store t2 s1.store t1.store (λ d h i l. r.store (plain d) i (h, l))
                u.dummies ws 0 j [] args got known each within got_is match once ranks f

            same_names : copied_out u.dummies ws (by_names n t2 ys) t1.store t2 ≡ k0
            same_names = ap (λ z. copied_out z ws (by_names n t2 ys) t1.store t2) (sym dummies)

            related : Related (handed s1) (with_store (handed' t1) k1)
            related = record {
              store = λ x i h. handed_alike n inside t2 s1.store t1.store x i h.0 h.1 u.dummies ws got ys stand s.store t2 k0 (b x i h) (ap (λ (z : Store C). z x i) (sym same_names)) (λ z o. ap (λ (y : Store C). y z 0) (sym same_names));
              tape = r.tape;
              opened = a.opened;
              events = r.events;
            }

        fitting : (most : ℕ) → UnitFollows inner inner' w inside_u most u u' → (k : ℕ) → k ≤ most → Follows Related w slack (λ k1. q n name args line s k1) inner_run k
        fitting most h k le =
            follows_same Related w slack (λ k1. then_do (unit_run inner n u line entered_here k1) (λ s1 i. Done (handed s1) i)) (λ k1. q n name args line s k1)
            (λ k1. then_do (unit_run inner' n u' line entered_there k1) (λ t1 i. run q' n padded_last (handed' t1) i)) inner_run k
            (λ k1. source_by k1 ∙ ap (λ z. if z then then_do (unit_run inner n u line entered_here k1) (λ s1 i. Done (handed s1) i) else Trapped shape_trap line (stand n s)) f)
            (λ k1. ap (λ z. then_do z (run q' n padded_last)) (kernel_by k1 ∙ ap (λ z. if z then then_do (unit_run inner' n u' line entered_there k1) (λ t1 i. Done (handed' t1) i) else Trapped shape_trap line (stand n t_there)) (sym (fit_same n t2 u u' dummies declares got ys equal) ∙ f))
            ∙ then_assoc (unit_run inner' n u' line entered_there k1) (λ t1 i. Done (handed' t1) i) (run q' n padded_last))
            (subst (λ z. Follows Related w z (λ k1. then_do (unit_run inner n u line entered_here k1) (λ s1 i. Done (handed s1) i)) (λ k1. then_do (unit_run inner' n u' line entered_there k1) (λ t1 i. run q' n padded_last (handed' t1) i)) k) no_more
            (follows_then w 0 slack InUnit Related (unit_run inner n u line entered_here) (unit_run inner' n u' line entered_there) (λ s1 i. Done (handed s1) i) (λ t1 i. run q' n padded_last (handed' t1) i) k
            (h n shows line entered_here entered_there k le (setting_same n t2 u u' dummies declares got ys equal)
            (record { store = λ x i z. entry_agrees n t2 u u' dummies declares got ys equal f x i z.1; tape = a.tape; opened = a.opened; events = a.events }))
            (λ s1 t1 i l r. back_again s1 t1 r i)))
          where
            no_more : 0 + slack ≡ slack
            no_more = omega arith

      -- in both cases
      called : AreDummies (λ d. inside_u (plain d)) u.dummies → (most : ℕ) → UnitFollows inner inner' w inside_u most u u' → (k : ℕ) → k ≤ most → Follows Related w slack (λ k1. q n name args line s k1) inner_run k
      called known most h k le = go (dummies_fit n.numbers u here u.dummies got) refl
        where
          go : (c : Bool) → dummies_fit n.numbers u here u.dummies got ≡ c → Follows Related w slack (λ k1. q n name args line s k1) inner_run k
          go true f = fitting f known most h k le
          go false f = unfit f k

      -- the whole statement
      with_actuals : AreDummies (λ d. inside_u (plain d)) u.dummies → (most : ℕ) → UnitFollows inner inner' w inside_u most u u' → (k : ℕ) → k ≤ suc most → Follows Related w 0 source (run q' n whole_code t) k
      with_actuals known most h k le =
          follows_statement w slack Related (λ k1. q n name args line s k1) inner_run (run q' n whole_code t) (g.cost + own) early (stand n s) (stand n t_there) past
          (omega (arith, weighed, g.bound)) k (λ i e. called known most h i (omega (arith, e, le)))
        where
          whole_is : (i : ℕ) → run q' n whole_code t i ≡ then_do (run q' n padded_prefix t i) (run q' n the_call)
          whole_is i = run_append q' n padded_prefix the_call t i

          past_prefix : (i : ℕ) → run q' n whole_code t (g.cost + i) ≡ run q' n the_call (with_store t t2) i
          past_prefix i = whole_is (g.cost + i) ∙ ap (λ z. then_do z (run q' n the_call)) (g.by i)

          early_in : (i : ℕ) → (i < g.cost) ⊎ (g.cost ≤ i) → i < g.cost + own → IsMore (run q' n whole_code t i)
          early_in i (inl lt) l = subst IsMore (sym (whole_is i)) (more_then (run q' n padded_prefix t i) (run q' n the_call) (leads_early q' n alike padded_prefix t (with_store t t2) (record { cost = g.cost; by = g.by }) i lt))
          early_in i (inr ge) l =
              let e : i ≡ g.cost + (i - g.cost) = omega (arith, ge) in
              subst IsMore (sym (ap (run q' n whole_code t) e ∙ past_prefix (i - g.cost))) (waiting_more q' n own line (step line (call name names) padded_last) (with_store t t2) (i - g.cost) (omega (arith, ge, l)))

          early : (i : ℕ) → i < g.cost + own → IsMore (run q' n whole_code t i)
          early i l = early_in i (cases_lt i g.cost) l

          past : (i : ℕ) → run q' n whole_code t (g.cost + own + i) ≡ counted (stand n t_there) i inner_run
          past i =
              let e : g.cost + own + i ≡ g.cost + (own + i) = omega arith in
              ap (run q' n whole_code t) e ∙ past_prefix (own + i) ∙ waiting_past q' n own line (step line (call name names) padded_last) (with_store t t2) i

    -- ---- the statements before the call

    -- after MAX, MIN and ABS
    after_reduced : AreDummies (λ d. inside_u (plain d)) u.dummies → (most : ℕ) → UnitFollows inner inner' w inside_u most u u' → (k : ℕ) → k ≤ suc most →
        (t1 : Store C) → Goes q' n first t (with_store t t1) (3 * j) → StoresAgree (CellsOf n inside) s.store t1 → AllPassed q' n inside local apart shows scalars t line ws j [] args es s.store t1 → Follows Related w 0 source (run q' n whole_code t) k
    after_reduced known most h k le t1 g b (one_fails z y) =
        without z (stops_first q' n padded_prefix the_call t line (stops_flat extra q' n prefix flat_prefix t line
        (stops_after q' n first second t (with_store t t1) line (leads_of q' n first t (with_store t t1) (3 * j) g) y))) k
    after_reduced known most h k le t1 g b (all_pass t2 l c got got_is match) =
        with_actuals t2 got got_is (goes_flat extra q' n prefix flat_prefix t (with_store t t2) (3 * j + 3 * m) (goes_append q' n first second t (with_store t t1) (with_store t t2) (3 * j) (3 * m) g l))
        (agree_after q' n inside local apart shows t line (Range j m) s.store t1 t2 b c) match known most h k le

    -- from the beginning
    after_nothing : AreDummies (λ d. inside_u (plain d)) u.dummies → (most : ℕ) → UnitFollows inner inner' w inside_u most u u' → (k : ℕ) → k ≤ suc most → Reduced q' n inside local apart shows scalars t line 0 args s.store t.store → Follows Related w 0 source (run q' n whole_code t) k
    after_nothing known most h k le (gives_none z y) = without z (stops_first q' n padded_prefix the_call t line (stops_flat extra q' n prefix flat_prefix t line (stops_first q' n first second t line y))) k
    after_nothing known most h k le (reduces t1 l c v) =
        let b = agree_after q' n inside local apart shows t line (Range 0 j) s.store t.store t1 a.store c in
        after_reduced known most h k le t1 l b
        (passes_all q' n inside local apart shows scalars t line args ws [] 0 j s.store t1 within b v (omega arith) (record { once = λ x i e. absurd cc; flat = λ x i e. absurd cc }) once (flat_of args arrays t line))

    -- the statements that a CALL becomes follow it
    pub call_follows : AreDummies (λ d. inside_u (plain d)) u.dummies → (most : ℕ) → UnitFollows inner inner' w inside_u most u u' → (k : ℕ) → k ≤ suc most → Follows Related w 0 source (run q' n (padded extra (lowered_call local line ws name args)) t) k
    call_follows known most h k le = subst (λ c. Follows Related w 0 source (run q' n c t) k) regrouped (after_nothing known most h k le (reduces_all q' n inside local apart shows scalars t line args 0 s.store t.store within a.store))
