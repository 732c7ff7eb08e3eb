-- A call as a statement: its derivative and its sweeps.
use Rattle.std.proofs.Common.{◌≡◌, ℕ, Bool, true, false, List, refl, sym, ap, ◌∙◌, subst, if◌then◌else◌}
use Rattle.std.specs.Prelude.{ℤ, pos, not, Option, Some, None}
use Rattle.adj_tree.specs.Code.{Var, plain, call, Code}
use Rattle.def_meaning.specs.Append.{◌+++◌, one}
use Rattle.def_meaning.specs.Store.{Shape, Store}
use Rattle.def_meaning.specs.Run.{Calls}
use Rattle.def_names.specs.Numbers.{Vars}
use Rattle.def_names.specs.Numbering.{point_before, point_after}
use Rattle.def_sweep.specs.Facts.{In, Facts}
use Rattle.def_sweep.specs.Marked.{code_if}
use Rattle.def_meaning.specs.Apart.{AreApart}
use Rattle.law_sweep.specs.Pairs.{Key, Words, with_tangents, on_duals}
use Rattle.def_sweep.specs.Plan.{Plan, beside, actuals_named, names_of, save_group, snapshot_group, is_emitted, Schedules, found_or, writes_actual}
use Rattle.def_sweep.specs.Rows.{pushes, pops, adjoint_call, with_shadows}
use Rattle.def_sweep.specs.Emission.{forward_act_with, backward_act_with}
use Rattle.def_sweep.specs.Callees.{nothing, CalleeFacts}
use Rattle.law_sweep.specs.Laws.{CallLaws, PassingLaws}
use Rattle.law_sweep.specs.Passing.{plainly}
use Rattle.law_sweep.specs.Theorem.{plan_of}
use Rattle.law_sweep.proofs.Runs.{passes_one}
use Rattle.law_sweep.proofs.Sweeps.{Matches, Sweeps}
use Rattle.law_sweep.proofs.Passing.{beside_back}
use Rattle.law_sweep.proofs.Transposed.{Transposed}
use Rattle.law_sweep.proofs.CallTangents.{tangents_in, tangents_out, shadows_in, shadows_out, passing_of, matches_in, matches_out}
use Rattle.law_sweep.proofs.CallSweeps.{CallTransposed, names_are, call_change, call_loops, sweeps_call}
use Rattle.law_sweep.proofs.Snapshots.{KnowsArrays}
use Rattle.def_sweep.specs.Reversals.{ReversedLines}

-- what a call makes of tangents, by the laws of each call
module _ (q : Calls ℤ) (lines : ReversedLines) (qd : Calls (ℤ × ℤ)) (sh : Var → Shape) (level : ℕ) (xs : List Key) (w : Facts) (i : ℕ) (g : CalleeFacts) (given : List (List ℕ)) (laws : PassingLaws w i g given) (own : (v : Var) → g.callee.shadowed v ≡ g.facts.marks.shadowed v) (apart : AreApart g.callee.dummies) (apart' : AreApart given) (entry_shadows : (v : Var) → In v (g.facts.marks.varied g.entry) → In v (g.facts.marks.useful g.entry) → In v g.facts.marks.shadowed) (end_shadows : (v : Var) → In v (g.facts.marks.varied g.end) → In v (g.facts.marks.useful g.end) → In v g.facts.marks.shadowed) (name : List ℕ) (line : ℕ) (kept adjointed present : Bool) (u u' : Store ℤ) (c : CallTransposed q lines qd sh level xs g given name line kept adjointed present u u') where
  pub call_matches : (y z : Words) → Matches sh w.marks (point_before i) y z → Matches sh w.marks (point_after i) (tangents_out nothing g.callee.dummies given c.derivative y) (shadows_out g.callee.shadowed g.callee.dummies given c.change z)
  call_matches y z m =
      matches_out sh c.shapes w i g given c.sizes laws own apart apart' end_shadows c.derivative c.change y z m
      (c.tangents (tangents_in nothing g.callee.dummies given y) (shadows_in g.callee.shadowed g.callee.dummies given z) (matches_in sh c.shapes w i g given c.sizes laws own apart apart' entry_shadows y z m))

  -- an actual that the unit doesn't write
  pub call_unwritten : (k : Key) → writes_actual g.callee given (plain k.0) ≡ false → (y : Words) → (tangents_out nothing g.callee.dummies given c.derivative y k ≡ y k) × (shadows_out g.callee.shadowed g.callee.dummies given c.change y k ≡ y k)
  call_unwritten k h y = go (beside given g.callee.dummies k.0) refl h
    where
      go : (o : Option (List ℕ)) → beside given g.callee.dummies k.0 ≡ o → found_or o false (λ d. g.callee.written (plain d)) ≡ false →
          (found_or o (y k) (λ d. c.derivative (tangents_in nothing g.callee.dummies given y) (d, k.1)) ≡ y k) × (found_or o (y k) (λ d. if g.callee.shadowed (plain d) then c.change (shadows_in g.callee.shadowed g.callee.dummies given y) (d, k.1) else y k) ≡ y k)
      go None b n = (refl, refl)
      go (Some d) b n = (first, here (g.callee.shadowed (plain d)) refl)
        where
          back : beside g.callee.dummies given d ≡ Some k.0
          back = beside_back given g.callee.dummies apart' apart k.0 d b

          first : c.derivative (tangents_in nothing g.callee.dummies given y) (d, k.1) ≡ y k
          first = (c.unwritten d n (tangents_in nothing g.callee.dummies given y) k.1).0 ∙ ap (λ o. found_or o (pos 0) (λ a. y (a, k.1))) back

          here : (t : Bool) → g.callee.shadowed (plain d) ≡ t → (if t then c.change (shadows_in g.callee.shadowed g.callee.dummies given y) (d, k.1) else y k) ≡ y k
          here true s = (c.unwritten d n (shadows_in g.callee.shadowed g.callee.dummies given y) k.1).1 ∙ rw (s, back) refl
          here false s = refl

module _ (q : Calls ℤ) (lines : ReversedLines) (qd : Calls (ℤ × ℤ)) (sh : Var → Shape) (level : ℕ) (xs : List Key) (w : Facts) (d : ℕ) (present : Bool) (callees : List ℕ → CalleeFacts) (arrays : Vars) (known : KnowsArrays (plan_of callees w arrays) sh) where
  module _ (i : ℕ) (name : List ℕ) (given : List (List ℕ)) (laws : CallLaws w i (callees name) given) (own : (v : Var) → (callees name).callee.shadowed v ≡ (callees name).facts.marks.shadowed v) (apart : AreApart (callees name).callee.dummies) (apart' : AreApart given) (entry_shadows : (v : Var) → In v ((callees name).facts.marks.varied (callees name).entry) → In v ((callees name).facts.marks.useful (callees name).entry) → In v (callees name).facts.marks.shadowed) (end_shadows : (v : Var) → In v ((callees name).facts.marks.varied (callees name).end) → In v ((callees name).facts.marks.useful (callees name).end) → In v (callees name).facts.marks.shadowed) (line : ℕ) (u u' : Store ℤ) (c : CallTransposed q lines qd sh level xs (callees name) given name line (w.marks.kept i) (w.marks.adjointed i) present u u') where
    abbrev g : CalleeFacts
    g = callees name

    abbrev ds : List (List ℕ)
    ds = g.callee.dummies

    abbrev p : Plan
    p = plan_of callees w arrays

    -- what it makes of tangents in the sweeps, where it is adjointed
    abbrev change : Bool → Words → Words
    change true = shadows_out g.callee.shadowed ds given c.change
    change false = λ z. z

    -- the unit's part, where its sweeps are emitted
    emitted : present ≡ true → CallTransposed q lines qd sh level xs g given name line (w.marks.kept i) (w.marks.adjointed i) true u u'
    emitted e = record {
      derivative = c.derivative;
      change = c.change;
      shapes = c.shapes;
      sizes = c.sizes;
      tangents = c.tangents;
      unwritten = c.unwritten;
      still = c.still;
      loops = c.loops;
      none_reversed = c.none_reversed;
      dual = c.dual;
      off = c.off;
      again = λ r. c.again e;
      back = λ r. c.back e;
    }

    -- a call that isn't adjointed has no loops that are to be reversed
    same_loops : (e : present ≡ true) (a : Bool) → w.marks.adjointed i ≡ a → call_loops q lines qd sh level xs d p known w i g given apart apart' laws name line u u' (emitted e) a ≡ c.loops
    unfolding emitted
    same_loops e true h = refl
    same_loops e false h = sym (c.none_reversed (laws.adjoints h))

    same_change : (e : present ≡ true) (a : Bool) → call_change q lines qd sh level xs d p known w i g given apart apart' laws name line u u' (emitted e) a ≡ change a
    unfolding emitted
    same_change e true = refl
    same_change e false = refl

    -- a unit without adjointed statements leaves the tangents of the sweeps
    still_out : g.plain_unit ≡ true → (z : Words) (k : Key) → shadows_out g.callee.shadowed ds given c.change z k ≡ z k
    still_out e z k = go (beside given ds k.0) refl
      where
        go : (o : Option (List ℕ)) → beside given ds k.0 ≡ o → found_or o (z k) (λ d. if g.callee.shadowed (plain d) then c.change (shadows_in g.callee.shadowed ds given z) (d, k.1) else z k) ≡ z k
        go None b = refl
        go (Some d) b = here (g.callee.shadowed (plain d)) refl
          where
            here : (t : Bool) → g.callee.shadowed (plain d) ≡ t → (if t then c.change (shadows_in g.callee.shadowed ds given z) (d, k.1) else z k) ≡ z k
            here true s =
                let back : beside ds given d ≡ Some k.0 = beside_back given ds apart' apart k.0 d b in
                c.still e (shadows_in g.callee.shadowed ds given z) (d, k.1) ∙ rw (s, back) refl
            here false s = refl

    matched : (y z : Words) → Matches sh w.marks (point_before i) y z → Matches sh w.marks (point_after i) (tangents_out nothing ds given c.derivative y) (shadows_out g.callee.shadowed ds given c.change z)
    matched = call_matches q lines qd sh level xs w i g given (passing_of laws) own apart apart' entry_shadows end_shadows name line (w.marks.kept i) (w.marks.adjointed i) present u u' c

    matched_as : (a : Bool) → w.marks.adjointed i ≡ a → (y z : Words) → Matches sh w.marks (point_before i) y z → Matches sh w.marks (point_after i) (tangents_out nothing ds given c.derivative y) (change a z)
    matched_as true e y z m = matched y z m
    matched_as false e y z m =
        subst (λ v. Matches sh w.marks (point_after i) (tangents_out nothing ds given c.derivative y) v) (λ j k. still_out (laws.adjoints e) z k j) (matched y z m)

    unwritten : (k : Key) → writes_actual g.callee given (plain k.0) ≡ false → (y : Words) → (tangents_out nothing ds given c.derivative y k ≡ y k) × (shadows_out g.callee.shadowed ds given c.change y k ≡ y k)
    unwritten = call_unwritten q lines qd sh level xs w i g given (passing_of laws) own apart apart' entry_shadows end_shadows name line (w.marks.kept i) (w.marks.adjointed i) present u u' c

    unwritten_as : (a : Bool) (k : Key) → writes_actual g.callee given (plain k.0) ≡ false → (y : Words) → (tangents_out nothing ds given c.derivative y k ≡ y k) × (change a y k ≡ y k)
    unwritten_as true k h y = unwritten k h y
    unwritten_as false k h y = ((unwritten k h y).0, refl)

    inert_as : (a : Bool) → w.marks.adjointed i ≡ a → not (w.marks.adjointed i) ≡ true → (y : Words) (k : Key) → change a y k ≡ y k
    inert_as true e n y k = absurd (let r : not true ≡ true = ap not (sym e) ∙ n in cc)
    inert_as false e n y k = refl

    not_adjointed : (a : Bool) → not a ≡ true → a ≡ false
    not_adjointed true h = cc
    not_adjointed false h = refl

    -- the sweeps, by the names of the actuals
    abbrev inner_forth : List (List ℕ) → Code
    inner_forth l =
        pushes p line (save_group w.marks i g.callee l)
        +++ (code_if (w.marks.adjointed i) (pushes p line (snapshot_group g.callee l))
        +++ code_if (w.marks.kept i) (one line (call name (actuals_named given))))

    abbrev forth_named : List (List ℕ) → Code
    forth_named l = code_if (is_emitted w.marks i) (inner_forth l)

    abbrev inner_back : List (List ℕ) → Code
    inner_back l =
        code_if (w.marks.adjointed i) (pops p line (snapshot_group g.callee l) +++ one line (adjoint_call g.callee l))
        +++ pops p line (save_group w.marks i g.callee l)

    abbrev back_named : List (List ℕ) → Code
    back_named l = code_if (is_emitted w.marks i) (inner_back l)

    unsplit_call : Transposed q lines qd sh level xs w d present (writes_actual g.callee given) (not (w.marks.adjointed i)) (point_before i) (point_after i) (one line (call name (actuals_named given))) (forth_named (names_of (actuals_named given))) (back_named (names_of (actuals_named given))) u u'
    unsplit_call = record {
      derivative = tangents_out nothing ds given c.derivative;
      change = change (w.marks.adjointed i);
      loops = c.loops;
      dual = λ home y t. passes_one qd (on_duals (plainly sh) level) lines c.loops line (call name (actuals_named given)) home (with_tangents u y) (with_tangents u' (tangents_out nothing ds given c.derivative y)) t (let p = c.dual home y t in record { later = p.later; tells = p.marks; runs = p.runs });
      sweeps = λ e.
          let s = sweeps_call q lines qd sh level xs d p known w i g given apart apart' laws name line u u' (emitted e) (w.marks.kept i) (w.marks.adjointed i) refl refl in
          subst (λ z. Sweeps q sh level xs d (forth_named (names_of (actuals_named given))) (back_named (names_of (actuals_named given))) (w.needed (point_before i)) (w.needed (point_after i)) (w.held (point_before i)) (w.held (point_after i)) (writes_actual g.callee given) u u' (change (w.marks.adjointed i)) z) (same_loops e (w.marks.adjointed i) refl)
          (subst (λ z. Sweeps q sh level xs d (forth_named (names_of (actuals_named given))) (back_named (names_of (actuals_named given))) (w.needed (point_before i)) (w.needed (point_after i)) (w.held (point_before i)) (w.held (point_after i)) (writes_actual g.callee given) u u' z (call_loops q lines qd sh level xs d p known w i g given apart apart' laws name line u u' (emitted e) (w.marks.adjointed i))) (same_change e (w.marks.adjointed i))
          (subst (λ l. Sweeps q sh level xs d (forth_named l) (back_named l) (w.needed (point_before i)) (w.needed (point_after i)) (w.held (point_before i)) (w.held (point_after i)) (writes_actual g.callee given) u u' (call_change q lines qd sh level xs d p known w i g given apart apart' laws name line u u' (emitted e) (w.marks.adjointed i)) (call_loops q lines qd sh level xs d p known w i g given apart apart' laws name line u u' (emitted e) (w.marks.adjointed i))) (sym (names_are given)) s));
      matches = matched_as (w.marks.adjointed i) refl;
      unwritten = unwritten_as (w.marks.adjointed i);
      still = inert_as (w.marks.adjointed i) refl;
      none_reversed = λ o. c.none_reversed (laws.adjoints (not_adjointed (w.marks.adjointed i) o));
    }

    -- where the call isn't split
    pub transposed_call : w.marks.split i ≡ false → (sc : Schedules) → Transposed q lines qd sh level xs w d present (writes_actual g.callee given) (not (w.marks.adjointed i)) (point_before i) (point_after i) (one line (call name (actuals_named given))) (forward_act_with sc p i d line (call name (actuals_named given))) (backward_act_with sc p i d line (call name (actuals_named given))) u u'
    transposed_call h sc =
        let forth_is : forth_named (names_of (actuals_named given)) ≡ forward_act_with sc p i d line (call name (actuals_named given)) =
        sym (ap (λ b. code_if (is_emitted w.marks i) (if b then one line (call g.callee.forth (actuals_named given)) else inner_forth (names_of (actuals_named given)))) h) in
        let back_is : back_named (names_of (actuals_named given)) ≡ backward_act_with sc p i d line (call name (actuals_named given)) =
        sym (ap (λ b. code_if (is_emitted w.marks i) (if b then one line (call g.callee.back (with_shadows g.callee.shadowed ds (names_of (actuals_named given)))) else inner_back (names_of (actuals_named given)))) h) in
        subst (λ f. Transposed q lines qd sh level xs w d present (writes_actual g.callee given) (not (w.marks.adjointed i)) (point_before i) (point_after i) (one line (call name (actuals_named given))) f (backward_act_with sc p i d line (call name (actuals_named given))) u u') forth_is
        (subst (λ b. Transposed q lines qd sh level xs w d present (writes_actual g.callee given) (not (w.marks.adjointed i)) (point_before i) (point_after i) (one line (call name (actuals_named given))) (forth_named (names_of (actuals_named given))) b u u') back_is unsplit_call)
