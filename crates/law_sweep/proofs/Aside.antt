-- The forward sweep names no shadow, so it runs as well in a unit that has none.
use Rattle.std.proofs.Common.{◌≡◌, ℕ, suc, ◌+◌, Bool, true, false, List, [], ◌∷◌, refl, sym, ap, ◌∙◌, subst, if◌then◌else◌}
use Rattle.std.specs.Prelude.{ℤ, ◌&&◌, Option, Some, None}
use Rattle.adj_tree.specs.Code.{Role, Var, plain, shadow, helper, var_eq, Term, lit, var, elem, neg, bin, pow, power_of, abs, Terms, none, more, Test, compare, negation, conjunction, disjunction, Mark, unmarked, with_count, count_from, Act, assign, choose, loop, during, call, runtime, push_word, push_array, push_control, first, stride, count, plus, Code, stop, step, Procedure}
use Rattle.def_meaning.specs.Append.{◌+++◌, one}
use Rattle.def_meaning.specs.LeastSet.{Dummies}
use Rattle.def_meaning.specs.Read.{reads_term, reads_terms, reads_test}
use Rattle.def_meaning.specs.Rename.{rename_term, rename_terms, rename_test, rename_act, rename}
use Rattle.def_meaning.specs.Run.{run}
use Rattle.def_meaning.specs.Scene.{Done}
use Rattle.def_meaning.specs.Seen.{Separates, pulled, pulled_setting, pulled_outcome}
use Rattle.def_meaning.specs.Store.{Shape, Store}
use Rattle.def_meaning.specs.Units.{calls_of}
use Rattle.law_meaning.proofs.Renamed.{run_renamed}
use Rattle.def_meaning.proofs.Variables.{var_refl}
use Rattle.def_names.specs.Numbers.{Vars, next, behind}
use Rattle.def_names.specs.Numbering.{point_before, point_after}
use Rattle.def_sweep.specs.Marked.{code_if}
use Rattle.def_sweep.specs.Facts.{Facts}
use Rattle.law_sweep.specs.Scenes.{scene}
use Rattle.law_sweep.specs.Pairs.{on_words}
use Rattle.def_names.proofs.Variables.{or_left, or_right}
use Rattle.def_sweep.specs.Rows.{is_empty, push, pushes, told_forward, loop_forward, while_forward, set_own, push_own, literal}
use Rattle.def_sweep.specs.Emission.{forward_act_with, forward_with, backward_with}
use Rattle.law_sweep.specs.Kernel.{AllText, HasSlots, FitsBy, FitsListBy, ReversalFits}
use Rattle.def_sweep.specs.Callees.{CalleeFacts}
use Rattle.law_sweep.specs.Laws.{point_inside, ActLawsBy, ListLawsBy, LoopLaws, StepLaws}
use Rattle.def_sweep.specs.Plan.{Callee, Plan, actuals_named, found_or, names_of, save_group, snapshot_group, step_snapshot, Schedules, Step, reversed_by, ByStep}
use Rattle.def_sweep.specs.ReversalCode.{set_slots, push_slots, reversed_forward, row_forward}
use Rattle.def_sweep.specs.Reversals.{ReversedLines}
use Rattle.def_sweep.specs.SplitMarks.{split_marks}
use Rattle.law_sweep.proofs.Entered.{Moves}

-- each shadow under a name that no text has
abbrev pub aside : Var → Var
aside (plain x) = plain x
aside (shadow x) = shadow (0 ∷ x)
aside (helper r k) = helper r k

pub aside_separates : Separates aside
aside_separates = record { at = at }
  where
    at : (x y : Var) → var_eq (aside x) (aside y) ≡ var_eq x y
    at (plain x) (plain y) = refl
    at (plain x) (shadow y) = refl
    at (plain x) (helper r k) = refl
    at (shadow x) (plain y) = refl
    at (shadow x) (shadow y) = refl
    at (shadow x) (helper r k) = refl
    at (helper r k) (plain y) = refl
    at (helper r k) (shadow y) = refl
    at (helper r k) (helper o l) = refl

-- ---- terms and conditions of the text stay

mutual
  term_stays : (e : Term) → AllText (λ v. reads_term v e) → rename_term aside e ≡ e
  term_stays (lit z) h = refl
  term_stays (var (plain x)) h = refl
  term_stays (var (shadow x)) h = absurd (let c : false ≡ true = h (shadow x) (var_refl (shadow x)) in cc)
  term_stays (var (helper r k)) h = refl
  term_stays (elem (plain x) subs) h = ap (elem (plain x)) (terms_stay subs (λ v e. h v (or_right (var_eq v (plain x)) (reads_terms v subs) e)))
  term_stays (elem (shadow x) subs) h = absurd (let c : false ≡ true = h (shadow x) (or_left (var_eq (shadow x) (shadow x)) (reads_terms (shadow x) subs) (var_refl (shadow x))) in cc)
  term_stays (elem (helper r k) subs) h = ap (elem (helper r k)) (terms_stay subs (λ v e. h v (or_right (var_eq v (helper r k)) (reads_terms v subs) e)))
  term_stays (neg a) h = ap neg (term_stays a h)
  term_stays (bin op a b) h = λ i. bin op (term_stays a (λ v e. h v (or_left (reads_term v a) (reads_term v b) e)) i) (term_stays b (λ v e. h v (or_right (reads_term v a) (reads_term v b) e)) i)
  term_stays (pow a k) h = ap (λ z. pow z k) (term_stays a h)
  term_stays (power_of a b) h = λ i. power_of (term_stays a (λ v e. h v (or_left (reads_term v a) (reads_term v b) e)) i) (term_stays b (λ v e. h v (or_right (reads_term v a) (reads_term v b) e)) i)
  term_stays (abs a) h = ap abs (term_stays a h)

  terms_stay : (es : Terms) → AllText (λ v. reads_terms v es) → rename_terms aside es ≡ es
  terms_stay none h = refl
  terms_stay (more e es) h = λ i. more (term_stays e (λ v o. h v (or_left (reads_term v e) (reads_terms v es) o)) i) (terms_stay es (λ v o. h v (or_right (reads_term v e) (reads_terms v es) o)) i)

test_stays : (c : Test) → AllText (λ v. reads_test v c) → rename_test aside c ≡ c
test_stays (compare o a b) h = λ i. compare o (term_stays a (λ v e. h v (or_left (reads_term v a) (reads_term v b) e)) i) (term_stays b (λ v e. h v (or_right (reads_term v a) (reads_term v b) e)) i)
test_stays (negation c) h = ap negation (test_stays c h)
test_stays (conjunction c d) h = λ i. conjunction (test_stays c (λ v e. h v (or_left (reads_test v c) (reads_test v d) e)) i) (test_stays d (λ v e. h v (or_right (reads_test v c) (reads_test v d) e)) i)
test_stays (disjunction c d) h = λ i. disjunction (test_stays c (λ v e. h v (or_left (reads_test v c) (reads_test v d) e)) i) (test_stays d (λ v e. h v (or_right (reads_test v c) (reads_test v d) e)) i)

named_stay : (given : List (List ℕ)) → rename_terms aside (actuals_named given) ≡ actuals_named given
named_stay [] = refl
named_stay (a ∷ given) = ap (λ es. more (var (plain a)) es) (named_stay given)

-- ---- code

abbrev pub Stays : Code → Type 0
Stays c = rename aside c ≡ c

rename_append : (a b : Code) → rename aside (a +++ b) ≡ rename aside a +++ rename aside b
rename_append stop b = refl
rename_append (step line a c) b = ap (step line (rename_act aside a)) (rename_append c b)

pub append_stays : (a b : Code) → Stays a → Stays b → Stays (a +++ b)
append_stays a b h g = rename_append a b ∙ (λ i. h i +++ g i)

if_stays : (t : Bool) (c : Code) → Stays c → Stays (code_if t c)
if_stays true c h = h
if_stays false c h = refl

step_stays : (line : ℕ) (a : Act) (c : Code) → rename_act aside a ≡ a → Stays c → Stays (step line a c)
step_stays line a c h g = λ i. step line (h i) (g i)

push_stays : (p : Plan) (line : ℕ) (x : List ℕ) → Stays (push p line x)
push_stays p line x = go (p.arrays (plain x))
  where
    go : (b : Bool) → rename aside (one line (runtime (if b then push_array (plain x) else push_word (plain x) none))) ≡ one line (runtime (if b then push_array (plain x) else push_word (plain x) none))
    go true = refl
    go false = refl

pub pushes_stay : (p : Plan) (line : ℕ) (xs : List (List ℕ)) → Stays (pushes p line xs)
pushes_stay p line [] = refl
pushes_stay p line (x ∷ xs) = append_stays (push p line x) (pushes p line xs) (push_stays p line x) (pushes_stay p line xs)

-- a turn is counted
abbrev tick : ℕ → ℕ → Code
tick line d = one line (assign (helper count d) none (bin plus (var (helper count d)) (literal 1)))

told_stays : (b : Bool) (line : ℕ) (c : Code) (n : ℕ) → Stays c → Stays (told_forward b line c n)
told_stays true line c n h = h
told_stays false line c n h = append_stays c (one line (runtime (push_control (literal n)))) h refl

loop_stays : (b : Bool) (d line : ℕ) (x : List ℕ) (e1 e2 e3 : Term) (c : Code) → rename_term aside e1 ≡ e1 → rename_term aside e2 ≡ e2 → rename_term aside e3 ≡ e3 → Stays c → Stays (loop_forward b d line (plain x) e1 e2 e3 c)
loop_stays true d line x e1 e2 e3 c h1 h2 h3 h = λ i. one line (loop (plain x) (h1 i) (h2 i) (h3 i) (h i) unmarked)
loop_stays false d line x e1 e2 e3 c h1 h2 h3 h =
    let counted : Stays (c +++ tick line d) = append_stays c (tick line d) h refl in
    λ i. set_own line (helper first d) (h1 i) (set_own line (helper stride d) (h3 i) (set_own line (helper count d) (literal 0)
    (step line (loop (plain x) (var (helper first d)) (h2 i) (var (helper stride d)) (counted i) unmarked) (push_own line (helper first d) (push_own line (helper stride d) (push_own line (helper count d) stop))))))

while_stays : (b : Bool) (d line : ℕ) (t : Test) (c : Code) → rename_test aside t ≡ t → Stays c → Stays (while_forward b d line t c)
while_stays true d line t c h g = λ i. one line (during (h i) (g i))
while_stays false d line t c h g =
    let counted : Stays (c +++ tick line d) = append_stays c (tick line d) g refl in
    λ i. set_own line (helper count d) (literal 0) (step line (during (h i) (counted i)) (push_own line (helper count d) stop))

slots_stay : (line d : ℕ) (m : Mark) (c : Code) → HasSlots m → Stays c → Stays (set_slots line d m c)
slots_stay line d unmarked c h g = g
slots_stay line d (with_count n) c h g = g
slots_stay line d (count_from (plain x)) c h g = step_stays line _ c refl g
slots_stay line d (count_from (shadow x)) c h g = absurd (let e : false ≡ true = h in cc)
slots_stay line d (count_from (helper r k)) c h g = step_stays line _ c refl g

push_slots_stay : (line d : ℕ) (m : Mark) (c : Code) → Stays c → Stays (push_slots line d m c)
push_slots_stay line d unmarked c g = g
push_slots_stay line d (with_count n) c g = g
push_slots_stay line d (count_from x) c g = step_stays line _ c refl g

reversed_stays : (d line : ℕ) (x : List ℕ) (e1 e2 e3 : Term) (m : Mark) (save keep inner : Code) → rename_term aside e1 ≡ e1 → rename_term aside e2 ≡ e2 → rename_term aside e3 ≡ e3 → HasSlots m → Stays save → Stays keep → Stays inner → Stays (reversed_forward d line (plain x) e1 e2 e3 m save keep inner)
reversed_stays d line x e1 e2 e3 m save keep inner h1 h2 h3 s hs hk hi =
    let counted : Stays (inner +++ tick line d) = append_stays inner (tick line d) hi refl in
    let pushed : Code = push_slots line d m (push_own line (helper count d) stop) in
    let pushed_stays : Stays pushed = push_slots_stay line d m (push_own line (helper count d) stop) refl in
    let looped : Code = step line (loop (plain x) (var (helper first d)) e2 (var (helper stride d)) (inner +++ tick line d) unmarked) (push_own line (helper first d) (push_own line (helper stride d) pushed)) in
    let looped_stays : Stays looped = λ i. step line (loop (plain x) (var (helper first d)) (h2 i) (var (helper stride d)) (counted i) unmarked) (push_own line (helper first d) (push_own line (helper stride d) (pushed_stays i))) in
    let grouped : Stays (save +++ (keep +++ looped)) = append_stays save (keep +++ looped) hs (append_stays keep looped hk looped_stays) in
    let slotted : Stays (set_slots line d m (set_own line (helper count d) (literal 0) (save +++ (keep +++ looped)))) = slots_stay line d m (set_own line (helper count d) (literal 0) (save +++ (keep +++ looped))) s (λ i. set_own line (helper count d) (literal 0) (grouped i)) in
    λ i. set_own line (helper first d) (h1 i) (set_own line (helper stride d) (h3 i) (slotted i))

module _ (r : Schedules) (lines : ReversedLines) (ps : List Procedure) (g : List ℕ → CalleeFacts) (answers paired carried : List ℕ → Bool) (present : Bool) (w : Facts) (vars : List (List ℕ)) (arrays : Vars) (handed : Dummies) where
  -- the plan by which the units of a split call are written
  abbrev p : Plan
  p = record { marks = split_marks w.marks; arrays = arrays; callees = λ name. (g name).callee }

  abbrev Fits : ℕ → Code → Type 0
  Fits i c = FitsListBy r lines ps g answers paired carried present w.marks vars arrays handed i c

  -- a loop, by how it is reversed
  any_loop : (i d line : ℕ) (x : List ℕ) (a b c : Term) (body : Code) (m : Mark) → rename_term aside a ≡ a → rename_term aside b ≡ b → rename_term aside c ≡ c → (Fits (suc i) body → ListLawsBy r g w (point_inside i) (suc i) body → Stays (forward_with r p (suc i) (suc d) body)) → (o : Option Step) →
      ByStep o (Fits (suc i) body) (λ s. ReversalFits (g s.name) present (carried s.name) s × Fits (suc i) body) → ByStep o (LoopLaws w i (plain x) a b c body × ListLawsBy r g w (point_inside i) (suc i) body) (StepLaws g w i (plain x) a b c body) →
      Stays (found_or o (loop_forward (is_empty (backward_with r p (suc i) (suc d) body)) (suc d) line (plain x) a b c (forward_with r p (suc i) (suc d) body)) (λ s. row_forward p i (suc d) line x a b c s))
  any_loop i d line x a b c body m ha hb hc inner None f l = loop_stays (is_empty (backward_with r p (suc i) (suc d) body)) (suc d) line x a b c (forward_with r p (suc i) (suc d) body) ha hb hc (inner f l.1)
  any_loop i d line x a b c body m ha hb hc inner (Some s) f l =
      let k = (g s.name).callee in
      reversed_stays (suc d) line x a b c s.mark (pushes p line (save_group p.marks i k s.given)) (pushes p line (step_snapshot k s.read s.given)) (one line (call s.name (actuals_named s.given))) ha hb hc f.0.slots
      (pushes_stay p line (save_group p.marks i k s.given)) (pushes_stay p line (step_snapshot k s.read s.given)) (λ j. one line (call s.name (named_stay s.given j)))

  call_stays : (i d line : ℕ) (name : List ℕ) (args : Terms) (given : List (List ℕ)) → args ≡ actuals_named given → Stays (forward_act_with r p i d line (call name args))
  call_stays i d line name args given is = go (w.marks.split i)
    where
      k : Callee
      k = (g name).callee

      again : (x : List ℕ) → Stays (one line (call x args))
      again x = subst (λ es. Stays (one line (call x es))) (sym is) (λ j. one line (call x (named_stay given j)))

      shot : Code
      shot = code_if (w.marks.adjointed i) (pushes p line (snapshot_group (g name).callee (names_of args)))

      shot_stays : Stays shot
      shot_stays = if_stays (w.marks.adjointed i) (pushes p line (snapshot_group (g name).callee (names_of args))) (pushes_stay p line (snapshot_group (g name).callee (names_of args)))

      go : (b : Bool) → Stays (if b then one line (call (g name).callee.forth args) else pushes p line (save_group p.marks i (g name).callee (names_of args)) +++ (shot +++ one line (call name args)))
      go true = again (g name).callee.forth
      go false = append_stays (pushes p line (save_group p.marks i (g name).callee (names_of args))) (shot +++ one line (call name args)) (pushes_stay p line (save_group p.marks i (g name).callee (names_of args))) (append_stays shot (one line (call name args)) shot_stays (again name))

  mutual
    act_stays : (i d line : ℕ) (a : Act) → FitsBy r lines ps g answers paired carried present w.marks vars arrays handed i line a → ActLawsBy r g w i a → Stays (forward_act_with r p i d line a)
    act_stays i d line (assign (plain x) subs e) f l =
        λ k. step line (runtime (push_word (plain x) (terms_stay subs f.subs_text k))) (step line (assign (plain x) (terms_stay subs f.subs_text k) (term_stays e f.text k)) stop)
    act_stays i d line (assign (shadow x) subs e) f l = refl
    act_stays i d line (assign (helper o k) subs e) f l = refl
    act_stays i d line (choose c a b) f l =
        let idle = is_empty (backward_with r p (suc i) d a) && is_empty (backward_with r p (behind (suc i) a) d b) in
        let one_part = told_stays idle line (forward_with r p (suc i) d a) 1 (list_stays (suc i) d (point_before i) a f.1.0 l.1.0) in
        let other = told_stays idle line (forward_with r p (behind (suc i) a) d b) 0 (list_stays (behind (suc i) a) d (point_before i) b f.1.1 l.1.1) in
        λ k. step line (choose (test_stays c f.0 k) (one_part k) (other k)) stop
    act_stays i d line (loop (plain x) a b c body m) f l =
        step_stays line (runtime (push_word (plain x) none)) (found_or (reversed_by r w.marks.adjointed i body m) (loop_forward (is_empty (backward_with r p (suc i) (suc d) body)) (suc d) line (plain x) a b c (forward_with r p (suc i) (suc d) body)) (λ s. row_forward p i (suc d) line x a b c s)) refl
        (any_loop i d line x a b c body m (term_stays a f.0.text_first) (term_stays b f.0.text_last) (term_stays c f.0.text_step) (λ f1 l1. list_stays (suc i) (suc d) (point_inside i) body f1 l1) (reversed_by r w.marks.adjointed i body m) f.1 l)
    act_stays i d line (loop (shadow x) a b c body m) f l = refl
    act_stays i d line (loop (helper o k) a b c body m) f l = refl
    act_stays i d line (during c body) f l =
        while_stays (is_empty (backward_with r p (suc i) (suc d) body)) (suc d) line c (forward_with r p (suc i) (suc d) body) (test_stays c f.0) (list_stays (suc i) (suc d) (point_inside i) body f.1 l.1)
    act_stays i d line (call name args) f l = call_stays i d line name args l.0 l.1.0
    act_stays i d line (runtime c) f l = refl

    pub list_stays : (i d q : ℕ) (c : Code) → Fits i c → ListLawsBy r g w q i c → Stays (forward_with r p i d c)
    list_stays i d q stop f l = refl
    list_stays i d q (step line a rest) f l = append_stays (forward_act_with r p i d line a) (forward_with r p (next i a) d rest) (act_stays i d line a f.0 l.1.0) (list_stays (next i a) d (point_after i) rest f.1 l.1.1)

-- ---- so it runs in other shapes of shadows

pub moves_aside : (qs : List Procedure) (depth : ℕ) (sh sh' : Var → Shape) (level : ℕ) (c : Code) → Stays c → ((x : List ℕ) → sh' (plain x) ≡ sh (plain x)) → ((x : List ℕ) → sh' (shadow x) ≡ sh (shadow (0 ∷ x))) → ((o : Role) (k : ℕ) → sh' (helper o k) ≡ sh (helper o k)) → Moves (calls_of qs depth) sh sh' level c
moves_aside qs depth sh sh' level c stays plains shadows helpers base s s' t t' zero came = record {
  to = pulled aside s';
  runs = record {
    later = came.later;
    tells = came.tells;
    runs = record { cost = came.runs.cost; by = λ k. sym (there k) };
  };
  same = λ x j. refl;
}
  where
    shape_at : (x : Var) → sh (aside x) ≡ sh' x
    shape_at (plain x) = sym (plains x)
    shape_at (shadow x) = sym (shadows x)
    shape_at (helper o k) = sym (helpers o k)

    setting_is : pulled_setting aside (on_words sh level) ≡ on_words sh' level
    setting_is = λ i. on_words (λ x. shape_at x i) level

    same_at : (x : Var) (j : ℕ) → s (aside x) j ≡ s x j
    same_at (plain x) j = refl
    same_at (shadow x) j = zero (0 ∷ x) j ∙ sym (zero x j)
    same_at (helper o k) j = refl

    there : (k : ℕ) → Done (scene came.later (pulled aside s') t') k ≡ run (calls_of qs depth) (on_words sh' level) c (scene base s t) (came.runs.cost + k)
    there k =
        ap (pulled_outcome aside) (sym (ap (λ e. run (calls_of qs depth) (on_words sh level) e (scene base s t) (came.runs.cost + k)) stays ∙ came.runs.by k))
        ∙ run_renamed aside aside_separates qs depth (on_words sh level) c (scene base s t) (came.runs.cost + k)
        ∙ ap (λ n. run (calls_of qs depth) n c (scene base (pulled aside s) t) (came.runs.cost + k)) setting_is
        ∙ ap (λ (f : Store ℤ). run (calls_of qs depth) (on_words sh' level) c (scene base f t) (came.runs.cost + k)) (λ i x j. same_at x j i)
