-- Calls and whole units seen under other names and over other numbers.
use Rattle.std.proofs.Common.{◌≡◌, ℕ, zero, suc, Bool, List, ◌∷◌, refl, sym, ap, ◌∙◌, subst}
use Rattle.std.proofs.lemmas.List.{length-map}
use Rattle.std.specs.Prelude.{Result, Ok, Err, Option, Some, None, ◌==◌, map, if◌then◌else◌, []}
use Rattle.adj_tree.specs.Code.{Var, plain, Term, lit, var, elem, neg, bin, pow, power_of, abs, Terms, none, more, Test, compare, negation, conjunction, disjunction, Runtime, push_word, pop_word, push_array, pop_array, push_control, pop_control, zero_array, begin_reversal, count_actions, give_action, end_reversal, Mark, unmarked, with_count, count_from, Act, assign, choose, loop, during, call, runtime, Code, stop, step, Procedure}
use Rattle.def_meaning.specs.Trap.{Trap, shape_trap, schedule_trap, then_ok}
use Rattle.def_meaning.specs.Numbers.{Numbers}
use Rattle.def_meaning.specs.Store.{Store}
use Rattle.def_meaning.specs.Value.{Setting, value, cell_at}
use Rattle.def_meaning.specs.Event.{Enter}
use Rattle.def_meaning.specs.Scene.{Scene, Stand, stand, Outcome, Done, Trapped, More, then_do, with_value}
use Rattle.def_meaning.specs.Run.{Calls, run}
use Rattle.def_meaning.specs.Written.{find_unit, handed_back}
use Rattle.def_meaning.specs.Units.{shape_of, Place, whole, cell, nowhere, Actual, one_word, actual_of, actuals, put, entry_store, dummies_fit, copied_out, setting_in, dummy_shapes, entered, unit_run, call_in, calls_of}
use Rattle.def_meaning.specs.Rename.{rename_term, rename_terms, rename_test, rename_runtime, rename_mark, rename_act, rename}
use Rattle.def_meaning.specs.Seen.{Separates, Projects, seen, seen_setting, seen_scene, seen_outcome}
use Rattle.law_meaning.proofs.Results.{AlikeResults, results_then, results_same}
use Rattle.def_meaning.proofs.SeenValues.{mapped, map_if, value_seen, values_seen, set_seen, set_all_seen}
use Rattle.law_meaning.proofs.SeenRuns.{then_through, if_seen, stand_seen, Carries, run_seen}
use Rattle.def_meaning.proofs.EntriesSeen.{AlikeActual, AlikeActuals, entry_seen, extents_seen, fit_seen, moved, own_names}

-- ---- code under its own names

mutual
  term_same : (e : Term) → rename_term (λ x. x) e ≡ e
  term_same (lit z) = refl
  term_same (var x) = refl
  term_same (elem x subs) = ap (elem x) (terms_same subs)
  term_same (neg a) = ap neg (term_same a)
  term_same (bin op a b) = λ i. bin op (term_same a i) (term_same b i)
  term_same (pow a k) = ap (λ z. pow z k) (term_same a)
  term_same (power_of a b) = λ i. power_of (term_same a i) (term_same b i)
  term_same (abs a) = ap abs (term_same a)

  pub terms_same : (es : Terms) → rename_terms (λ x. x) es ≡ es
  terms_same none = refl
  terms_same (more e es) = λ i. more (term_same e i) (terms_same es i)

test_same : (c : Test) → rename_test (λ x. x) c ≡ c
test_same (compare o a b) = λ i. compare o (term_same a i) (term_same b i)
test_same (negation c) = ap negation (test_same c)
test_same (conjunction c d) = λ i. conjunction (test_same c i) (test_same d i)
test_same (disjunction c d) = λ i. disjunction (test_same c i) (test_same d i)

runtime_same : (c : Runtime) → rename_runtime (λ x. x) c ≡ c
runtime_same (push_word x subs) = ap (push_word x) (terms_same subs)
runtime_same (pop_word x subs) = ap (pop_word x) (terms_same subs)
runtime_same (push_array x) = refl
runtime_same (pop_array x) = refl
runtime_same (push_control e) = ap push_control (term_same e)
runtime_same (pop_control x) = refl
runtime_same (zero_array x) = refl
runtime_same (begin_reversal l m) = λ i. begin_reversal (term_same l i) (term_same m i)
runtime_same (count_actions l m x) = λ i. count_actions (term_same l i) (term_same m i) x
runtime_same (give_action l m e x y z) = λ i. give_action (term_same l i) (term_same m i) (term_same e i) x y z
runtime_same end_reversal = refl

mark_same : (m : Mark) → rename_mark (λ x. x) m ≡ m
mark_same unmarked = refl
mark_same (with_count i) = refl
mark_same (count_from x) = refl

mutual
  act_same : (a : Act) → rename_act (λ x. x) a ≡ a
  act_same (assign x subs e) = λ i. assign x (terms_same subs i) (term_same e i)
  act_same (choose c a b) = λ i. choose (test_same c i) (code_same a i) (code_same b i)
  act_same (loop x first last by body m) = λ i. loop x (term_same first i) (term_same last i) (term_same by i) (code_same body i) (mark_same m i)
  act_same (during c body) = λ i. during (test_same c i) (code_same body i)
  act_same (call name args) = ap (call name) (terms_same args)
  act_same (runtime c) = ap runtime (runtime_same c)

  -- with each variable's own name nothing changes
  pub code_same : (c : Code) → rename (λ x. x) c ≡ c
  code_same stop = refl
  code_same (step line a rest) = λ i. step line (act_same a i) (code_same rest i)

-- ---- actuals

module _ {C D : Type 0} (r : Var → Var) (sep : Separates r) (h : C → D) (n : Setting C) (m : Numbers D) (p : Projects h n.numbers m) where
  -- a value, which has no place
  word_alike : (v : Result C Trap) (w : Result D Trap) → mapped h v ≡ w → AlikeResults (AlikeActual r h) (then_ok v (λ c. Ok (one_word c nowhere))) (then_ok w (λ c. Ok (one_word c nowhere)))
  word_alike v w e = subst (λ z. AlikeResults (AlikeActual r h) (then_ok v (λ c. Ok (one_word c nowhere))) (then_ok z (λ c. Ok (one_word c nowhere)))) e (go v)
    where
      go : (v : Result C Trap) → AlikeResults (AlikeActual r h) (then_ok v (λ c. Ok (one_word c nowhere))) (then_ok (mapped h v) (λ c. Ok (one_word c nowhere)))
      go (Ok a) = record { shape = refl; cells = refl; place = refl }
      go (Err t) = refl

  -- the value of an expression
  value_alike : (e : Term) (s : Store C) → AlikeResults (AlikeActual r h) (then_ok (value n (rename_term r e) s) (λ c. Ok (one_word c nowhere))) (then_ok (value (seen_setting r m n) e (seen r h s)) (λ c. Ok (one_word c nowhere)))
  value_alike e s = word_alike (value n (rename_term r e) s) (value (seen_setting r m n) e (seen r h s)) (value_seen r h n m p e s)

  -- an actual
  actual_seen : (e : Term) (s : Store C) → AlikeResults (AlikeActual r h) (actual_of n (rename_term r e) s) (actual_of (seen_setting r m n) e (seen r h s))
  actual_seen (var x) s = record { shape = refl; cells = refl; place = refl }
  actual_seen (elem x subs) s =
      results_same (AlikeActual r h) _ _ _ _ (values_seen r h n m p subs s) (λ is w. results_same (AlikeActual r h) (cell_at n (r x) is) (cell_at n (r x) is) (λ i. Ok (one_word (s (r x) i) (cell (r x) i))) (λ i. Ok (one_word (h (s (r x) i)) (cell x i))) refl
      (λ i w1. record { shape = refl; cells = refl; place = refl }))
  actual_seen (lit z) s = value_alike (lit z) s
  actual_seen (neg a) s = value_alike (neg a) s
  actual_seen (bin op a b) s = value_alike (bin op a b) s
  actual_seen (pow a k) s = value_alike (pow a k) s
  actual_seen (power_of a b) s = value_alike (power_of a b) s
  actual_seen (abs a) s = value_alike (abs a) s

  -- all actuals of a call
  actuals_seen : (es : Terms) (s : Store C) → AlikeResults (AlikeActuals r h) (actuals n (rename_terms r es) s) (actuals (seen_setting r m n) es (seen r h s))
  actuals_seen none s = tt
  actuals_seen (more e es) s =
      results_then (AlikeActual r h) (AlikeActuals r h) _ _ _ _ (actual_seen e s) (λ a b l. results_then (AlikeActuals r h) (AlikeActuals r h) _ _ _ _ (actuals_seen es s) (λ got bs ls. (l, ls)))

  -- the cells at a place become others
  put_seen : (q : Place) (cs : ℕ → C) (s : Store C) → seen r h (put (moved r q) cs s) ≡ put q (λ j. h (cs j)) (seen r h s)
  put_seen (whole x) cs s = set_all_seen r sep h s x cs
  put_seen (cell x i) cs s = set_seen r sep h s x i (cs 0)
  put_seen nowhere cs s = refl

  -- the dummies that are handed back
  copied_out_seen : (ds : List (List ℕ)) (ws : List Bool) (got : List (Actual C)) (bs : List (Actual D)) (t s : Store C) → AlikeActuals r h got bs → seen r h (copied_out ds ws got t s) ≡ copied_out ds ws bs (seen (λ x. x) h t) (seen r h s)
  copied_out_seen [] ws got bs t s l = refl
  copied_out_seen (d ∷ ds) [] got bs t s l = refl
  copied_out_seen (d ∷ ds) (w ∷ ws) [] [] t s l = refl
  copied_out_seen (d ∷ ds) (w ∷ ws) [] (b ∷ bs) t s l = absurd l
  copied_out_seen (d ∷ ds) (w ∷ ws) (a ∷ got) [] t s l = absurd l
  copied_out_seen (d ∷ ds) (w ∷ ws) (a ∷ got) (b ∷ bs) t s l =
      copied_out_seen ds ws got bs t (if w then put a.place (t (plain d)) s else s) l.1
      ∙ ap (copied_out ds ws bs (seen (λ x. x) h t))
      (map_if (seen r h) w (put a.place (t (plain d)) s) s ∙ ap (λ z. if w then z else seen r h s) (ap (λ z. seen r h (put z (t (plain d)) s)) l.0.place ∙ put_seen b.place (t (plain d)) s))

-- ---- units

module _ {C D : Type 0} (h : C → D) (n : Setting C) (m : Numbers D) (p : Projects h n.numbers m) where
  -- the setting within a unit, whatever names the caller has
  pub setting_seen : (r : Var → Var) (u : Procedure) (s : Store C) → seen_setting (λ x. x) m (setting_in n u s) ≡ setting_in (seen_setting r m n) u (seen (λ x. x) h s)
  setting_seen r u s =
      λ i. record { numbers = m; shape = λ x. shape_of (extents_seen h n.numbers m p u s x i); room = n.room; level = suc n.level }

  module _ (q : Calls C) (q' : Calls D) (r : Var → Var) (u : Procedure) (s : Scene C) (carries : Carries (λ x. x) h (setting_in n u s.store) m q q') where
    -- a unit, whose own names stay
    pub unit_seen : (line k : ℕ) → seen_outcome (λ x. x) h (unit_run q n u line s k) ≡ unit_run q' (seen_setting r m n) u line (seen_scene (λ x. x) h s) k
    unit_seen line k =
        then_through (seen_scene (λ x. x) h) (seen_scene (λ x. x) h) (run q (setting_in n u s.store) u.body (entered n u s) k) _
        (λ s1 j. if s1.opened == 0 then Done s1 j else Trapped schedule_trap line (stand n s1)) (λ s1 j. if s1.opened == 0 then Done s1 j else Trapped schedule_trap line (stand (seen_setting r m n) s1)) body_seen
        (λ s1 j. if_seen (λ x. x) h (s1.opened == 0) (Done s1 j) (Trapped schedule_trap line (stand n s1)) _ _ refl (ap (Trapped schedule_trap line) (stand_seen (λ x. x) h n m p s1)))
      where
        entered_seen : seen_scene (λ x. x) h (entered n u s) ≡ entered (seen_setting r m n) u (seen_scene (λ x. x) h s)
        entered_seen =
            λ i. record (seen_scene (λ x. x) h s) { opened = 0; events = Enter u.name (suc n.level) (sym (length-map s.tape h) i) (dummy_shapes (setting_seen r u s.store i) u) ∷ s.events }

        body_seen : seen_outcome (λ x. x) h (run q (setting_in n u s.store) u.body (entered n u s) k) ≡ run q' (setting_in (seen_setting r m n) u (seen (λ x. x) h s.store)) u.body (entered (seen_setting r m n) u (seen_scene (λ x. x) h s)) k
        body_seen =
            ap (λ c. seen_outcome (λ x. x) h (run q (setting_in n u s.store) c (entered n u s) k)) (sym (code_same u.body))
            ∙ run_seen (λ x. x) own_names h (setting_in n u s.store) m p q q' carries u.body (entered n u s) k
            ∙ (λ i. run q' (setting_seen r u s.store i) u.body (entered_seen i) k)

-- ---- calls

module _ {C D : Type 0} (h : C → D) where
  -- traps of one kind and actuals that are alike lead to the like
  alike_then : {x y : Stand} (r : Var → Var) (v : Result (List (Actual C)) Trap) (w : Result (List (Actual D)) Trap) (line : ℕ) → x ≡ y → (f : List (Actual C) → Outcome (Scene C)) (g : List (Actual D) → Outcome (Scene D)) → AlikeResults (AlikeActuals r h) v w → ((got : List (Actual C)) (bs : List (Actual D)) → AlikeActuals r h got bs → seen_outcome r h (f got) ≡ g bs) → seen_outcome r h (with_value v line x f) ≡ with_value w line y g
  alike_then r (Ok a) (Ok b) line l f g e d = d a b e
  alike_then r (Ok a) (Err t) line l f g e d = absurd e
  alike_then r (Err t) (Ok b) line l f g e d = absurd e
  alike_then r (Err t) (Err t') line l f g e d = λ i. Trapped (e i) line (l i)

  -- a call of a unit that was looked for
  call_seen : (q : Calls C) (q' : Calls D) (m : Numbers D) → ((n : Setting C) → Projects h n.numbers m → Carries (λ x. x) h n m q q') → (r : Var → Var) → Separates r → (n : Setting C) → Projects h n.numbers m → (ws : List Bool) (u : Option Procedure) (args : Terms) (line : ℕ) (s : Scene C) (k : ℕ) → seen_outcome r h (call_in q n ws u (rename_terms r args) line s k) ≡ call_in q' (seen_setting r m n) ws u args line (seen_scene r h s) k
  call_seen q q' m inner r sep n p ws None args line s k = ap (Trapped shape_trap line) (stand_seen r h n m p s)
  call_seen q q' m inner r sep n p ws (Some u) args line s k =
      alike_then r _ _ line (stand_seen r h n m p s) _ _ (actuals_seen r sep h n m p args s.store) (λ got bs l.
      let start : Scene C = record s { store = entry_store n.numbers u.dummies got } in
      let start' : Scene D = record (seen_scene r h s) { store = entry_store m u.dummies bs } in
      let back : Scene C → ℕ → Outcome (Scene C) = λ s1 j. Done (record s { store = copied_out u.dummies ws got s1.store s.store; tape = s1.tape; events = s1.events }) j in
      let back' : Scene D → ℕ → Outcome (Scene D) = λ s1 j. Done (record (seen_scene r h s) { store = copied_out u.dummies ws bs s1.store (seen r h s.store); tape = s1.tape; events = s1.events }) j in
      let entry = entry_seen h n.numbers m p r u.dummies got bs l in
      let started : seen_scene (λ x. x) h start ≡ start' = ap (λ (z : Store D). record (seen_scene r h s) { store = z }) entry in
      if_seen r h (dummies_fit n.numbers u start.store u.dummies got) (then_do (unit_run q n u line start k) back) (Trapped shape_trap line (stand n s)) (then_do (unit_run q' (seen_setting r m n) u line start' k) back') (Trapped shape_trap line (stand (seen_setting r m n) (seen_scene r h s)))
      (then_through (seen_scene (λ x. x) h) (seen_scene r h) (unit_run q n u line start k) (unit_run q' (seen_setting r m n) u line start' k) back back'
      (unit_seen h n m p q q' r u start (inner (setting_in n u start.store) p) line k ∙ ap (λ z. unit_run q' (seen_setting r m n) u line z k) started)
      (λ s1 j. ap (λ (z : Store D). Done (record (seen_scene r h s) { store = z; tape = map h s1.tape; events = s1.events }) j) (copied_out_seen r sep h n m p u.dummies ws got bs s1.store s.store l)))
      (ap (Trapped shape_trap line) (stand_seen r h n m p s))
      ∙ ap (λ z. if z then then_do (unit_run q' (seen_setting r m n) u line start' k) back' else Trapped shape_trap line (stand (seen_setting r m n) (seen_scene r h s)))
      (fit_seen h n.numbers m p r u start.store u.dummies got bs l ∙ ap (λ (z : Store D). dummies_fit m u z u.dummies bs) entry))

  -- the calls of a program: by their depth, called units first
  pub calls_carry : (units : List Procedure) (depth : ℕ) (m : Numbers D) (r : Var → Var) → Separates r → (n : Setting C) → Projects h n.numbers m → Carries r h n m (calls_of units depth) (calls_of units depth)
  calls_carry units zero m r sep n p = record { by = λ name args line s k. ap More (stand_seen r h n m p s) }
  calls_carry units (suc depth) m r sep n p = record {
    by = λ name args line s k.
        call_seen (calls_of units depth) (calls_of units depth) m (λ n1 p1. calls_carry units depth m (λ x. x) own_names n1 p1) r sep n p (handed_back units name) (find_unit units name) args line s k;
  }
