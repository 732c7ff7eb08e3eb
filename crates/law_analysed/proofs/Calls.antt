-- What exact analyses say meets the laws of calls.
use Rattle.std.proofs.Common.{◌≡◌, ◌⊎◌, inl, inr, ℕ, suc, List, [], Bool, true, false, refl, sym, ap, ◌∙◌, subst}
use Rattle.std.specs.Prelude.{Contains, ◌&&◌, ◌||◌, Option, Some}
use Rattle.adj_tree.specs.Code.{Var, plain, call, Procedure}
use Rattle.def_meaning.specs.Written.{is_written, handed_back, is_handed_back}
use Rattle.def_meaning.specs.Read.{is_read, read_rule, looked_at, reads_actuals}
use Rattle.def_meaning.proofs.LeastSets.{least_row}
use Rattle.law_meaning.proofs.WriteSets.{handed_written}
use Rattle.def_meaning.proofs.ReadsMore.{read_rises}
use Rattle.def_names.specs.Numbers.{Vars}
use Rattle.def_names.specs.Numbering.{point_before, point_after}
use Rattle.def_sweep.specs.Facts.{In, without, Facts}
use Rattle.def_names.proofs.Variables.{and_true, or_left, or_right, not_true}
use Rattle.def_sweep.specs.Plan.{IsActual, actuals_named}
use Rattle.law_sweep.specs.Kernel.{AsMany}
use Rattle.law_sweep.specs.Laws.{point_inside, PassingLaws, SplitLaws, CallLaws, CallLawsBy, among}
use Rattle.def_sweep.specs.Callees.{CalleeFacts, is_plain}
use Rattle.def_sweep.specs.Marking.{ProgramFacts, facts_in, marks_in, callee_of, callee_facts, dummy_set, read_by, plain_by, place_from, first_statement, entry_point, end_point}
use Rattle.def_flow.specs.Parts.{Part, parts, find_part}
use Rattle.def_flow.specs.Ways.{assigning, calling, way, is_actual, assigned_on, passed_on}
use Rattle.def_flow.specs.Standing.{Place, outermost, part_of, turn_of, Standing}
use Rattle.def_flow.specs.Problem.{Problem, statements_of, ways_of, CallsUnit, TakesPart}
use Rattle.def_flow.specs.Activity.{Activity, IsPoint}
use Rattle.def_flow.specs.Live.{Liveness}
use Rattle.def_flow.specs.Uses.{site, turned_by, is_turn}
use Rattle.law_flow.specs.Laws.{facts_of, AtCall, AtStatement, InUnit}
use Rattle.def_flow.specs.Analysed.{Analysed}
use Rattle.adj_reach.proofs.Members.{is_first}
use Rattle.def_flow.proofs.Placed.{way_of_statement}
use Rattle.def_flow.proofs.Sets.{left_in, left_out, left_make}
use Rattle.law_flow.proofs.Statements.{analysed_is_closed, statements_are_closed, calls_are_closed}
use Rattle.def_planned.specs.ProgramFacts.{program_facts}
use Rattle.law_analysed.specs.Meets.{StepsUnsplit}
use Rattle.law_analysed.proofs.Given.{bound_has, handed_named, read_named, passed_among, plain_list}
use Rattle.law_analysed.proofs.Lists.{values}
use Rattle.law_analysed.proofs.Numbers.{Placed}
use Rattle.law_analysed.proofs.TurnLaws.{TurnLaws}

-- a call does its work at itself, but where it makes the turns of a marked loop and is adjointed
site_home : (at : Place) (b : Bool) → (is_turn at ≡ true → b ≡ false) → (n : ℕ) → site b n at ≡ n
site_home outermost b h n = refl
site_home (part_of i) b h n = refl
site_home (turn_of i x) b h n = ap (λ z. site z n (turn_of i x)) (h refl)

turned_none : (at : Place) → is_turn at ≡ false → (v : Var) → turned_by at v ≡ false
turned_none outermost h v = refl
turned_none (part_of i) h v = refl
turned_none (turn_of i x) h v = absurd cc

module _ (k : Problem) (a : Activity) (l : Liveness) (saved held : ℕ → Vars) (y : Analysed k a l saved held) (steps : StepsUnsplit k) (f : Part) (part : TakesPart k f) where
  abbrev w : Facts
  w = facts_of k a l saved held f.number

  abbrev pub facts : ProgramFacts
  facts = program_facts k.units k.split a l saved held

  pub unit : InUnit w f
  unit = analysed_is_closed k a l saved held y f part

  pub stated : (s : Standing) → Contains (statements_of f) s → AtStatement k.units w s
  stated s c = statements_are_closed k a l saved held y f part s c

  -- what the laws of calls know of the unit of a name, where `o` is what is found under it
  abbrev pub known : List ℕ → Option Procedure → CalleeFacts
  known name o = record {
    callee = callee_of facts.marks k.units name o;
    facts = facts_in facts name;
    entry = entry_point k.units name;
    end = end_point k.units name;
    read = dummy_set (read_by k.units o);
    plain_unit = plain_by (marks_in facts.marks name) (first_statement k.units name) o;
  }

  -- the call of the unit g under its name
  module _ (i : ℕ) (at : Place) (name : List ℕ) (given : List (List ℕ)) (own : Contains (statements_of f) (record { number = i; place = at; act = call name (actuals_named given) })) (g : Part) (finds : find_part (parts k.units) name ≡ Some g) (there : Placed k.units name g) (many : AsMany g.unit.dummies given) where
    abbrev s : Standing
    s = record { number = i; place = at; act = call name (actuals_named given) }

    abbrev ds : List (List ℕ)
    ds = g.unit.dummies

    calls : CallsUnit k f g s (actuals_named given)
    calls = record { name = name; stands = own; act = refl; finds = finds }

    said : AtCall k (l.wanted (place_from 0 k.units name)) (a.shadowed (place_from 0 k.units name)) w g s (actuals_named given)
    said = subst (λ n. AtCall k (l.wanted n) (a.shadowed n) w g s (actuals_named given)) there.number (calls_are_closed k a l saved held y f g part s (actuals_named given) calls)

    over : Contains (ways_of f) (way (point_before i) (point_after i) (calling (actuals_named given)))
    over = way_of_statement f s (way (point_before i) (point_after i) (calling (actuals_named given))) own (is_first _ _ [] refl)

    writes_it : (d x : List ℕ) → IsActual ds given d x → is_written k.units g.unit d ≡ true → is_handed_back (plain x) (handed_back k.units name) (actuals_named given) ≡ true
    writes_it d x act h = subst (λ ws. is_handed_back (plain x) ws (actuals_named given) ≡ true) (sym (handed_written k.units name g.unit there.found)) (handed_named (is_written k.units g.unit) ds given d x act h)

    reads_it : (d x : List ℕ) → IsActual ds given d x → is_read k.units g.unit d ≡ true → reads_actuals (plain x) (looked_at k.units name) (actuals_named given) ≡ true
    reads_it d x act h = subst (λ ws. reads_actuals (plain x) ws (actuals_named given) ≡ true) (sym (least_row read_rule read_rises k.units name g.unit there.found)) (read_named (is_read k.units g.unit) ds given d x act h)

    -- what isn't the actual of a dummy isn't passed
    not_passed : (v : Var) → among ds given v ≡ false → is_actual v (actuals_named given) ≡ false
    not_passed v h = not_true (is_actual v (actuals_named given)) (λ e. let p : true ≡ false = sym (passed_among ds given many v e) ∙ h in cc)

    plain_unit : a.adjointed i ≡ false → is_plain (marks_in facts.marks name) (first_statement k.units name) g.unit.body ≡ true
    plain_unit h =
        subst (λ n. is_plain (marks_in facts.marks name) n g.unit.body ≡ true) there.first
        (plain_list (marks_in facts.marks name) outermost g.first g.unit.body (λ t c. not_true (a.adjointed t.number) (λ e. let p : true ≡ false = sym (said.adjoints t c e) ∙ h in cc)))

    pub passing_laws : PassingLaws w i (known name (Some g.unit)) given
    passing_laws =
        let o = unit.ways (way (point_before i) (point_after i) (calling (actuals_named given))) over in
        record {
          values = values k.units (callee_facts facts k.units) w f unit stated (point_before i) (point_after i) (calling (actuals_named given)) over;
          tangents = record {
            varies = λ v h.
                o.varies v
                (left_make (without (a.varied (point_before i)) (assigned_on (calling (actuals_named given)))) (passed_on (calling (actuals_named given))) v
                (left_make (a.varied (point_before i)) (assigned_on (calling (actuals_named given))) v (left_in (a.varied (point_before i)) (among ds given) v h) refl) (not_passed v (left_out (a.varied (point_before i)) (among ds given) v h)));
            serves = λ v h.
                o.serves v
                (left_make (without (a.useful (point_after i)) (assigned_on (calling (actuals_named given)))) (passed_on (calling (actuals_named given))) v
                (left_make (a.useful (point_after i)) (assigned_on (calling (actuals_named given))) v (left_in (a.useful (point_after i)) (among ds given) v h) refl) (not_passed v (left_out (a.useful (point_after i)) (among ds given) v h)));
            shadows = λ v. let p : IsPoint f (point_after i) = (way (point_before i) (point_after i) (calling (actuals_named given)), over, inr refl) in unit.shadows (point_after i) (point_after i) v p p;
          };
          needs_uses = λ h d x act m. (stated s own).kept h (plain x) (reads_it d x act m);
          varies_in = λ d x act h. subst (λ p. In (plain d) (a.varied p)) there.entry (said.enters d (plain x) (bound_has ds given d x act) h);
          serves_in = λ d x act h. said.serves d (plain x) (bound_has ds given d x act) (subst (λ p. In (plain d) (a.useful p)) (sym there.entry) h);
          varies_out = λ d x act h. said.leaves d (plain x) (bound_has ds given d x act) (subst (λ p. In (plain d) (a.varied p)) (sym there.end) h);
          serves_out = λ d x act h. subst (λ p. In (plain d) (a.useful p)) there.end (said.asks d (plain x) (bound_has ds given d x act) h);
          shadows_actual = λ d x act h. said.lends d (plain x) (bound_has ds given d x act) h;
          shadows_dummy = λ d x act h e. said.borrows d (plain x) (bound_has ds given d x act) e (subst (λ p. In (plain d) (a.varied p)) (sym there.entry) h);
        }

    -- a call that isn't split, and does its work at itself
    call_laws : (is_turn at ≡ true → a.adjointed i ≡ false) → w.marks.split i ≡ false → CallLaws w i (known name (Some g.unit)) given
    call_laws home unsplit =
        let p = passing_laws in
        let here = site_home at (a.adjointed i) home i in
        let ordinary = λ (h : a.adjointed i ≡ true). not_true (is_turn at) (λ e. let c : true ≡ false = sym h ∙ home e in cc) in
        let here_adjointed = λ (h : a.adjointed i ≡ true). site_home at true (λ e. let c : true ≡ false = sym e ∙ ordinary h in absurd cc) i in
        record {
          values = p.values;
          tangents = p.tangents;
          needs_members = λ h d x act m. subst (λ n. In (plain x) (l.needed (point_before n))) (here_adjointed h) (said.members h d (plain x) (bound_has ds given d x act) (turned_none at (ordinary h) (plain x)) (inl m));
          needs_uses = p.needs_uses;
          keeps = λ d x act m h. said.keeps (plain x) (writes_it d x act m) (subst (λ n. In (plain x) (l.needed (point_after n))) (sym here) h);
          holds_reads = λ h d x act m n.
              said.holds h d (plain x) (bound_has ds given d x act) (turned_none at (ordinary h) (plain x)) (or_left (l.wanted (place_from 0 k.units name) d) ((k.split i || is_turn at) && is_read k.units g.unit d) m) n f part (way (point_before i) (point_after i) (calling (actuals_named given))) over (ap point_before (sym (here_adjointed h))) refl;
          saves = λ h d x act m e.
              subst (λ n. In (plain x) (saved n)) here (said.saves h unsplit (plain x) (writes_it d x act m) (subst (λ n. In (plain x) (held (point_before n))) (sym here) e));
          varies_in = p.varies_in;
          serves_in = p.serves_in;
          varies_out = p.varies_out;
          serves_out = p.serves_out;
          shadows_actual = p.shadows_actual;
          shadows_dummy = p.shadows_dummy;
          adjoints = plain_unit;
        }

    -- a split call
    split_laws : w.marks.split i ≡ true → SplitLaws w i (known name (Some g.unit)) given
    split_laws e =
        let b = and_true (k.split i) (a.adjointed i) e in
        let ordinary : is_turn at ≡ false = not_true (is_turn at) (λ t. let c : true ≡ false = sym b.0 ∙ steps f part s own t in cc) in
        let here = site_home at true (λ t. let c : true ≡ false = sym t ∙ ordinary in absurd cc) i in
        record {
          kept = said.splits e;
          adjointed = b.1;
          holds_reads = λ d x act m n.
              said.holds b.1 d (plain x) (bound_has ds given d x act) (turned_none at ordinary (plain x))
              (or_right (l.wanted (place_from 0 k.units name) d) ((k.split i || is_turn at) && is_read k.units g.unit d) (ap (λ z. (z || is_turn at) && is_read k.units g.unit d) b.0 ∙ m)) n f part (way (point_before i) (point_after i) (calling (actuals_named given))) over (ap point_before (sym here)) refl;
          call = passing_laws;
        }

    -- by its mark
    pub laws_by : (is_turn at ≡ true → a.adjointed i ≡ false) → CallLawsBy (w.marks.split i) w i (known name (Some g.unit)) given
    laws_by home = go (w.marks.split i) refl
      where
        go : (b : Bool) → w.marks.split i ≡ b → CallLawsBy b w i (known name (Some g.unit)) given
        go true e = split_laws e
        go false e = call_laws home e

  -- the step call of the j-th statement, a marked loop with variable x that is reversed by a schedule
  module _ (j : ℕ) (x : List ℕ) (name : List ℕ) (given : List (List ℕ)) (own : Contains (statements_of f) (record { number = suc j; place = turn_of j (plain x); act = call name (actuals_named given) })) (g : Part) (finds : find_part (parts k.units) name ≡ Some g) (there : Placed k.units name g) (many : AsMany g.unit.dummies given) where
    pub turn_laws : a.adjointed (suc j) ≡ true → Contains (ways_of f) (way (point_before j) (point_inside j) (assigning j (plain x))) → TurnLaws w j x (known name (Some g.unit)) given
    turn_laws adj enters =
        let s : Standing = record { number = suc j; place = turn_of j (plain x); act = call name (actuals_named given) } in
        let at = turn_of j (plain x) in
        let ds = g.unit.dummies in
        let here : site (a.adjointed (suc j)) (suc j) at ≡ j = ap (λ b. site b (suc j) at) adj in
        let o = said (suc j) at name given own g finds there many in
        let free : k.split (suc j) ≡ false = steps f part s own refl in
        let unsplit : w.marks.split (suc j) ≡ false = ap (λ b. b && a.adjointed (suc j)) free in
        record {
          unsplit = unsplit;
          needs_members = λ d y act m n. o.members adj d (plain y) (bound_has ds given d y act) n (either_of (l.wanted (place_from 0 k.units name) d) (is_read k.units g.unit d) m);
          holds_reads = λ d y act m v n.
              o.holds adj d (plain y) (bound_has ds given d y act) n (subst (λ b. (l.wanted (place_from 0 k.units name) d || ((b || true) && is_read k.units g.unit d)) ≡ true) (sym free) m) v f part (way (point_before j) (point_inside j) (assigning j (plain x))) enters refl (ap (λ b. l.kept j && b) n ∙ and_none (l.kept j));
          saves = λ d y act m h.
              subst (λ n. In (plain y) (saved n)) here (o.saves (or_right (l.kept (suc j)) (a.adjointed (suc j)) adj) unsplit (plain y) (writes_it (suc j) at name given own g finds there many d y act m) (subst (λ n. In (plain y) (held (point_before n))) (sym here) h));
          keeps = λ d y act m h. o.keeps (plain y) (writes_it (suc j) at name given own g finds there many d y act m) (subst (λ n. In (plain y) (l.needed (point_after n))) (sym here) h);
          call = passing_laws (suc j) at name given own g finds there many;
        }
      where
        and_none : (b : Bool) → (b && false) ≡ false
        and_none true = refl
        and_none false = refl

        either_of : (b c : Bool) → (b || c) ≡ true → (b ≡ true) ⊎ ((true ≡ true) × (c ≡ true))
        either_of true c h = inl refl
        either_of false c h = inr (refl, h)
