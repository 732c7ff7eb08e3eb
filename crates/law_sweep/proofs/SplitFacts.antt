-- Where the marks of a unit meet its laws, so do those by which the units of a split call are written: each statement is kept, and each variable saved.
use Rattle.std.proofs.Common.{◌≡◌, ℕ, suc, Bool, true, false, List, [], ◌∷◌, map, refl, sym, ap, ◌∙◌, subst, if◌then◌else◌}
use Rattle.std.specs.Prelude.{not, ◌&&◌, ◌||◌, zero, Option, Some, None}
use Rattle.adj_tree.proofs.Names.{name_refl, name_same}
use Rattle.adj_tree.specs.Code.{Var, plain, shadow, helper, name_eq, var_eq, plus, minus, times, quot, modulo, greater, lesser, Term, lit, var, elem, neg, bin, pow, power_of, abs, Terms, Mark, Act, assign, choose, loop, during, call, runtime, Code, stop, step}
use Rattle.def_meaning.specs.Append.{one}
use Rattle.def_meaning.specs.LeastSet.{Dummies}
use Rattle.def_meaning.specs.Read.{reads_term, reads_terms, reads_test, reads_mark, reads_actuals, act_reads, reads}
use Rattle.def_names.specs.Numbers.{Vars, next, behind}
use Rattle.def_sweep.specs.Marks.{Marks, active_at}
use Rattle.def_names.specs.Numbering.{point_before, point_after}
use Rattle.def_sweep.specs.Facts.{In, joined, vars_if, in_term, in_terms, Facts}
use Rattle.def_meaning.specs.Apart.{has_name}
use Rattle.def_names.proofs.Variables.{and_true, or_left, or_right}
use Rattle.def_sweep.specs.Occurrences.{is_active_where, adjoint_reads, reads_at}
use Rattle.def_sweep.specs.Plan.{beside, IsActual, actuals_named, Schedules, Step, reversed_by, ByStep}
use Rattle.def_sweep.specs.Callees.{nothing, CalleeFacts, is_plain', is_plain}
use Rattle.law_sweep.specs.Laws.{point_inside, ValueLaws, TangentLaws, WayLaws, AssignmentLaws, LoopLaws, CallLaws, PassingLaws, ReversedLaws, StepLaws, ActLawsBy, ListLawsBy, UnitLawsBy, SplitLaws, CallLawsBy}
use Rattle.def_sweep.proofs.Occurrences.{either_of, reads_stand}
use Rattle.law_sweep.proofs.ByStep.{reversed_is}
use Rattle.def_sweep.specs.SplitMarks.{split_marks, split_needed, split_held, split_own, CallsRead', CallsRead}

-- ---- statements, where two sets have what they read

-- an actual of a dummy that is read is read
actual_read : (f : List ℕ → Bool) (ds given : List (List ℕ)) (d a : List ℕ) → IsActual ds given d a → f d ≡ true → reads_actuals (plain a) (map f ds) (actuals_named given) ≡ true
actual_read f [] given d a b r = absurd cc
actual_read f (e ∷ ds) [] d a b r = absurd cc
actual_read f (e ∷ ds) (y ∷ given) d a b r = go (name_eq d e) refl b (actual_read f ds given d a)
  where
    go : (t : Bool) → name_eq d e ≡ t → (if t then Some y else beside ds given d) ≡ Some a → (IsActual ds given d a → f d ≡ true → reads_actuals (plain a) (map f ds) (actuals_named given) ≡ true) → ((f e && name_eq a y) || reads_actuals (plain a) (map f ds) (actuals_named given)) ≡ true
    go true n h ih =
        let s : y ≡ a = cc in
        let e_is : f e ≡ true = ap f (sym (name_same d e n)) ∙ r in
        let y_is : name_eq a y ≡ true = ap (name_eq a) s ∙ name_refl a in
        rw (e_is, y_is) refl
    go false n h ih = or_right (f e && name_eq a y) _ (ih h r)

-- a loop that is reversed by a schedule has the mark that its step has
step_mark : (r : Schedules) (adjointed : ℕ → Bool) (i : ℕ) (body : Code) (m : Mark) (s : Step) → reversed_by r adjointed i body m ≡ Some s → s.mark ≡ m
step_mark None adjointed i body m s e = absurd cc
step_mark (Some reads) adjointed i body m s e = sym (reversed_is reads adjointed i body m s e).marked

module _ (r : Schedules) (g : List ℕ → CalleeFacts) (looked : Dummies) (w : Facts) (needed held : Vars) where
  abbrev w1 : Facts
  w1 = record { marks = split_marks w.marks; needed = λ p. needed; held = λ p. held }

  abbrev pub Has : (Var → Bool) → Type 0
  Has f = (v : Var) → f v ≡ true → In v needed × In v held

  values : (cut dropped : Vars) (p q : ℕ) → ValueLaws w1 cut dropped p q
  values cut dropped p q = record { needs = λ v h. (and_true (needed v) (not (cut v)) h).0; holds = λ v h. (and_true (held v) (not (dropped v)) h).0 }

  tangents : (cut : Vars) (p q : ℕ) → TangentLaws w.marks cut p q → TangentLaws w1.marks cut p q
  tangents cut p q t = record { varies = t.varies; serves = t.serves; shadows = t.shadows }

  way : (p q : ℕ) → WayLaws w p q → WayLaws w1 p q
  way p q l = record { values = values nothing nothing p q; tangents = tangents nothing p q l.tangents }

  assignment : (i : ℕ) (x : Var) (subs : Terms) (e : Term) → Has (λ v. reads_term v e || reads_terms v subs) → AssignmentLaws w i x subs e → AssignmentLaws w1 i x subs e
  assignment i x subs e has l = record {
    values = values _ _ _ _;
    tangents = tangents _ _ _ l.tangents;
    needs_reads = λ v h. (has v (stands v h)).0;
    needs_uses = λ k v h. (has v h).0;
    keeps = λ h. refl;
    holds_reads = λ v h. (has v (stands v (and_true (reads_at w1.marks i subs e v) _ h).0)).1;
    saves = λ k h. refl;
    varies_target = l.varies_target;
    serves_target = l.serves_target;
    adjoints = l.adjoints;
    shadows = l.shadows;
  }
    where
      stands : (v : Var) → reads_at w1.marks i subs e v ≡ true → (reads_term v e || reads_terms v subs) ≡ true
      stands v h =
          either_of (vars_if (w.marks.adjointed i) (adjoint_reads (active_at w1.marks i) e) v) (vars_if (true || w.marks.adjointed i) (in_terms subs) v) _ h
          (λ o. or_left (reads_term v e) (reads_terms v subs) (reads_stand (active_at w1.marks i) v e (and_true (w.marks.adjointed i) _ o).1))
          (λ o. or_right (reads_term v e) (reads_terms v subs) o)

  passing : (i : ℕ) (c : CalleeFacts) (given : List (List ℕ)) → ((d a : List ℕ) → IsActual c.callee.dummies given d a → In (plain d) c.read → In (plain a) needed) → PassingLaws w i c given → PassingLaws w1 i c given
  passing i c given uses l = record {
    values = values _ _ _ _;
    tangents = tangents _ _ _ l.tangents;
    needs_uses = λ k. uses;
    varies_in = l.varies_in;
    serves_in = l.serves_in;
    varies_out = l.varies_out;
    serves_out = l.serves_out;
    shadows_actual = l.shadows_actual;
    shadows_dummy = l.shadows_dummy;
  }

  -- the actuals of dummies that are read
  abbrev pub HasActuals : CalleeFacts → List (List ℕ) → Type 0
  HasActuals c given = (d a : List ℕ) → IsActual c.callee.dummies given d a → In (plain d) c.read → In (plain a) needed × In (plain a) held

  actuals_had : (c : CalleeFacts) (name : List ℕ) (given : List (List ℕ)) → looked name ≡ map (λ d. c.read (plain d)) c.callee.dummies → Has (λ v. reads_actuals v (looked name) (actuals_named given)) → HasActuals c given
  actuals_had c name given reads has d a b n =
      has (plain a) (ap (λ ws. reads_actuals (plain a) ws (actuals_named given)) reads ∙ actual_read (λ d. c.read (plain d)) c.callee.dummies given d a b n)

  call_laws : (i : ℕ) (c : CalleeFacts) (given : List (List ℕ)) → HasActuals c given → ((d : List ℕ) → In (plain d) c.callee.members → In (plain d) c.read) → CallLaws w i c given → CallLaws w1 i c given
  call_laws i c given has members l = record {
    values = values _ _ _ _;
    tangents = tangents _ _ _ l.tangents;
    needs_members = λ e d a b n. (has d a b (members d n)).0;
    needs_uses = λ e d a b n. (has d a b n).0;
    keeps = λ d a b n h. refl;
    holds_reads = λ e d a b n o. (has d a b (members d n)).1;
    saves = λ e d a b n h. refl;
    varies_in = l.varies_in;
    serves_in = l.serves_in;
    varies_out = l.varies_out;
    serves_out = l.serves_out;
    shadows_actual = l.shadows_actual;
    shadows_dummy = l.shadows_dummy;
    adjoints = l.adjoints;
  }

  -- and those of a split call
  pub split_again : (i : ℕ) (c : CalleeFacts) (given : List (List ℕ)) → HasActuals c given → SplitLaws w i c given → SplitLaws w1 i c given
  split_again i c given has l = record { kept = refl; adjointed = l.adjointed; holds_reads = λ d a b n o. (has d a b n).1; call = passing i c given (λ d a b n. (has d a b n).0) l.call }

  call_again : (i : ℕ) (c : CalleeFacts) (given : List (List ℕ)) → HasActuals c given → ((d : List ℕ) → In (plain d) c.callee.members → In (plain d) c.read) → (b : Bool) → CallLawsBy b w i c given → CallLawsBy b w1 i c given
  call_again i c given has members true l = split_again i c given has l
  call_again i c given has members false l = call_laws i c given has members l

  reversed : (i : ℕ) (x : List ℕ) (a b c : Term) (mark : Mark) (k : CalleeFacts) (given : List (List ℕ)) → Has (λ v. reads_term v a || (reads_term v b || (reads_term v c || reads_mark v mark))) → HasActuals k given → ((d : List ℕ) → In (plain d) k.callee.members → In (plain d) k.read) → ReversedLaws w i x a b c mark k given → ReversedLaws w1 i x a b c mark k given
  reversed i x a b c mark k given has actuals members l = record {
    kept = refl;
    adjointed = l.adjointed;
    unsplit = l.unsplit;
    needs_uses = λ v h. (has v (bounds v h)).0;
    needs_slots = λ v h. (has v (or_right (reads_term v a) _ (or_right (reads_term v b) _ (or_right (reads_term v c) (reads_mark v mark) h)))).0;
    needs_members = λ d y e n o. (actuals d y e (either d n)).0;
    holds_reads = λ d y e n o p. (actuals d y e (either d n)).1;
    saves = λ d y e n h. refl;
    saves_variable = λ h. refl;
    keeps = λ d y e n h. refl;
    entry_values = values _ _ _ _;
    entry_tangents = tangents _ _ _ l.entry_tangents;
    step_values = values _ _ _ _;
    step_tangents = tangents _ _ _ l.step_tangents;
    exit = way _ _ l.exit;
    inside = way _ _ l.inside;
    call = passing (suc i) k given (λ d y e n. (actuals d y e n).0) l.call;
  }
    where
      either : (d : List ℕ) → In (plain d) (joined k.callee.members k.read) → In (plain d) k.read
      either d n = either_of (k.callee.members (plain d)) (k.read (plain d)) _ n (members d) (λ e. e)

      bounds : (v : Var) → In v (joined (in_term a) (joined (in_term b) (in_term c))) → (reads_term v a || (reads_term v b || (reads_term v c || reads_mark v mark))) ≡ true
      bounds v h =
          either_of (reads_term v a) (reads_term v b || reads_term v c) _ h
          (λ e. or_left (reads_term v a) (reads_term v b || (reads_term v c || reads_mark v mark)) e)
          (λ e. or_right (reads_term v a) (reads_term v b || (reads_term v c || reads_mark v mark)) (either_of (reads_term v b) (reads_term v c) _ e
          (λ o. or_left (reads_term v b) (reads_term v c || reads_mark v mark) o)
          (λ o. or_right (reads_term v b) (reads_term v c || reads_mark v mark) (or_left (reads_term v c) (reads_mark v mark) o))))

  left_of_two : (f h : Var → Bool) → Has (λ v. f v || h v) → Has f
  left_of_two f h has v e = has v (or_left (f v) (h v) e)

  right_of_two : (f h : Var → Bool) → Has (λ v. f v || h v) → Has h
  right_of_two f h has v e = has v (or_right (f v) (h v) e)

  loop_laws : (i : ℕ) (x : Var) (a b c : Term) (body : Code) (m : Mark) → Has (λ v. reads_term v a || (reads_term v b || (reads_term v c || reads_mark v m))) → LoopLaws w i x a b c body → LoopLaws w1 i x a b c body
  loop_laws i x a b c body m has l = record {
    keeps_adjointed = λ h. refl;
    keeps = λ h. absurd cc;
    keeps_reset = λ h. refl;
    keeps_variable = λ h. refl;
    needs_uses = λ k v h. (has v (bounds v h)).0;
    saves = λ k h. refl;
    entry_values = values _ _ _ _;
    entry_tangents = tangents _ _ _ l.entry_tangents;
    step_values = values _ _ _ _;
    step_tangents = tangents _ _ _ l.step_tangents;
    exit = way _ _ l.exit;
    adjoints_reset = l.adjoints_reset;
  }
    where
      bounds : (v : Var) → In v (joined (in_term a) (joined (in_term b) (in_term c))) → (reads_term v a || (reads_term v b || (reads_term v c || reads_mark v m))) ≡ true
      bounds v h =
          either_of (reads_term v a) (reads_term v b || reads_term v c) _ h
          (λ e. or_left (reads_term v a) (reads_term v b || (reads_term v c || reads_mark v m)) e)
          (λ e. or_right (reads_term v a) (reads_term v b || (reads_term v c || reads_mark v m)) (either_of (reads_term v b) (reads_term v c) _ e
          (λ o. or_left (reads_term v b) (reads_term v c || reads_mark v m) o)
          (λ o. or_right (reads_term v b) (reads_term v c || reads_mark v m) (or_left (reads_term v c) (reads_mark v m) o))))

  abbrev LoopBy : ℕ → Var → Term → Term → Term → Code → Facts → Option Step → Type 0
  LoopBy i x a b c body f o = ByStep o (LoopLaws f i x a b c body × ListLawsBy r g f (point_inside i) (suc i) body) (StepLaws g f i x a b c body)

  step_laws : (i : ℕ) (x : Var) (a b c : Term) (body : Code) (m : Mark) (s : Step) → s.mark ≡ m → Has (λ v. reads_term v a || (reads_term v b || (reads_term v c || reads_mark v m))) → Has (λ v. reads looked v body) → CallsRead g looked body → StepLaws g w i x a b c body s → StepLaws g w1 i x a b c body s
  step_laws i (plain x) a b c body m s is has inner known l =
      let here : CallsRead g looked (one l.0 (call s.name (actuals_named s.given))) = subst (λ z. CallsRead g looked z) l.1.0 known in
      let had : Has (λ v. reads looked v (one l.0 (call s.name (actuals_named s.given)))) = subst (λ z. Has (λ v. reads looked v z)) l.1.0 inner in (
        l.0,
        (
          l.1.0,
          reversed i x a b c s.mark (g s.name) s.given (subst (λ z. Has (λ v. reads_term v a || (reads_term v b || (reads_term v c || reads_mark v z)))) (sym is) has)
              (actuals_had (g s.name) s.name s.given here.0.0 (left_of_two (λ v. reads_actuals v (looked s.name) (actuals_named s.given)) (λ v. false) had)) here.0.1 l.1.1,
        ),
      )
  step_laws i (shadow x) a b c body m s is has inner known l = absurd l
  step_laws i (helper o x) a b c body m s is has inner known l = absurd l

  loop_again : (i : ℕ) (x : Var) (a b c : Term) (body : Code) (m : Mark) → Has (λ v. act_reads looked v (loop x a b c body m)) → CallsRead g looked body → (ListLawsBy r g w (point_inside i) (suc i) body → ListLawsBy r g w1 (point_inside i) (suc i) body) → (o : Option Step) → reversed_by r w.marks.adjointed i body m ≡ o → LoopBy i x a b c body w o → LoopBy i x a b c body w1 o
  loop_again i x a b c body m has known inner None is l =
      (loop_laws i x a b c body m (left_of_two (λ v. reads_term v a || (reads_term v b || (reads_term v c || reads_mark v m))) (λ v. reads looked v body) has) l.0, inner l.1)
  loop_again i x a b c body m has known inner (Some s) is l =
      step_laws i x a b c body m s (step_mark r w.marks.adjointed i body m s is)
      (left_of_two (λ v. reads_term v a || (reads_term v b || (reads_term v c || reads_mark v m))) (λ v. reads looked v body) has)
      (right_of_two (λ v. reads_term v a || (reads_term v b || (reads_term v c || reads_mark v m))) (λ v. reads looked v body) has) known l

  mutual
    act_again : (i : ℕ) (a : Act) → Has (λ v. act_reads looked v a) → CallsRead' g looked a → ActLawsBy r g w i a → ActLawsBy r g w1 i a
    act_again i (assign x subs e) has known l = assignment i x subs e has l
    act_again i (choose c a b) has known l =
        let parts : Has (λ v. reads looked v a || reads looked v b) = right_of_two (λ v. reads_test v c) (λ v. reads looked v a || reads looked v b) has in (
          record {
            keeps_adjointed = λ h. refl;
            keeps = λ h. absurd cc;
            needs_uses = λ k v h. (left_of_two (λ v. reads_test v c) (λ v. reads looked v a || reads looked v b) has v h).0;
            first_end = way _ _ l.0.first_end;
            other_end = way _ _ l.0.other_end;
          },
          (
            list_again (point_before i) (suc i) a (left_of_two (λ v. reads looked v a) (λ v. reads looked v b) parts) known.0 l.1.0,
            list_again (point_before i) (behind (suc i) a) b (right_of_two (λ v. reads looked v a) (λ v. reads looked v b) parts) known.1 l.1.1,
          ),
        )
    act_again i (loop x a b c body m) has known l = loop_again i x a b c body m has known (list_again (point_inside i) (suc i) body (right_of_two (λ v. reads_term v a || (reads_term v b || (reads_term v c || reads_mark v m))) (λ v. reads looked v body) has) known) (reversed_by r w.marks.adjointed i body m) refl l
    act_again i (during c body) has known l = (
      record {
        keeps_adjointed = λ h. refl;
        keeps = λ h. absurd cc;
        needs_uses = λ k v h. (left_of_two (λ v. reads_test v c) (λ v. reads looked v body) has v h).0;
        entry = way _ _ l.0.entry;
        again = way _ _ l.0.again;
        exit = way _ _ l.0.exit;
      },
      list_again (point_inside i) (suc i) body (right_of_two (λ v. reads_test v c) (λ v. reads looked v body) has) known l.1,
    )
    act_again i (call name args) has known l =
        (l.0, (l.1.0, call_again i (g name) l.0 (actuals_had (g name) name l.0 known.0 (subst (λ es. Has (λ v. reads_actuals v (looked name) es)) l.1.0 has)) known.1 (w.marks.split i) l.1.1))
    act_again i (runtime c) has known l = l

    pub list_again : (p i : ℕ) (c : Code) → Has (λ v. reads looked v c) → CallsRead g looked c → ListLawsBy r g w p i c → ListLawsBy r g w1 p i c
    list_again p i stop has known l = tt
    list_again p i (step line a rest) has known l = (
      way p (point_before i) l.0,
      (
        act_again i a (left_of_two (λ v. act_reads looked v a) (λ v. reads looked v rest) has) known.0 l.1.0,
        list_again (point_after i) (next i a) rest (right_of_two (λ v. act_reads looked v a) (λ v. reads looked v rest) has) known.1 l.1.1,
      ),
    )

-- a unit whose marks meet its laws meets them with the marks of split calls, where `read` has what its statements read
pub unit_again : (r : Schedules) (g : List ℕ → CalleeFacts) (looked : Dummies) (own : CalleeFacts) (i : ℕ) (body : Code) (also : Vars) → ((d : List ℕ) → has_name d own.callee.dummies ≡ true → reads looked (plain d) body ≡ true → In (plain d) own.read) → CallsRead g looked body → UnitLawsBy r g own i body → UnitLawsBy r g (split_own own also) i body
unit_again r g looked own i body also read known l = record {
  laws = list_again r g looked own.facts n h own.entry i body has known l.laws;
  ends = record {
    values = record { needs = λ v e. (and_true (n v) _ e).0; holds = λ v e. (and_true (h v) _ e).0 };
    tangents = record { varies = l.ends.tangents.varies; serves = l.ends.tangents.serves; shadows = l.ends.tangents.shadows };
  };
  shadows = l.shadows;
  members = λ d e m. m;
}
  where
    n : Vars
    n = split_needed own.callee.dummies own.read also

    h : Vars
    h = split_held own.callee.dummies own.callee.written own.read

    has : (v : Var) → reads looked v body ≡ true → In v n × In v h
    has (plain x) e = go (has_name x own.callee.dummies) refl
      where
        go : (b : Bool) → has_name x own.callee.dummies ≡ b → In (plain x) n × In (plain x) h
        go true d = let r : own.read (plain x) ≡ true = read x d e in (rw (d, r) refl, rw (d, r) (last (own.callee.written (plain x))))
          where
            last : (b : Bool) → (b || true) ≡ true
            last true = refl
            last false = refl
        go false d = (rw d refl, rw d refl)
    has (shadow x) e = (refl, refl)
    has (helper o k) e = (refl, refl)

-- no statement is adjointed by the one marks where none is by the others
mutual
  plain_split' : (m : Marks) (i : ℕ) (a : Act) → is_plain' (split_marks m) i a ≡ is_plain' m i a
  plain_split' m i (assign x subs e) = refl
  plain_split' m i (choose c a b) = λ k. not (m.adjointed i) && (plain_split m (suc i) a k && plain_split m (behind (suc i) a) b k)
  plain_split' m i (loop x a b c body n) = λ k. not (m.adjointed i) && plain_split m (suc i) body k
  plain_split' m i (during c body) = λ k. not (m.adjointed i) && plain_split m (suc i) body k
  plain_split' m i (call name args) = refl
  plain_split' m i (runtime r) = refl

  pub plain_split : (m : Marks) (i : ℕ) (c : Code) → is_plain (split_marks m) i c ≡ is_plain m i c
  plain_split m i stop = refl
  plain_split m i (step line a rest) = λ k. plain_split' m i a k && plain_split m (next i a) rest k
