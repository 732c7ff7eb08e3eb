-- The tangent of a list follows the list in the dual run.
use Rattle.std.proofs.Common.{◌≡◌, ◌≤◌, ℕ, suc, Bool, true, false, List, refl, sym, ap, ◌∙◌, subst, if◌then◌else◌}
use Rattle.std.specs.Prelude.{ℤ, pos, ◌==◌, ◌&&◌}
use Rattle.adj_tree.specs.Code.{Var, plain, shadow, helper, name_eq, Term, lit, Terms, none, Mark, Act, assign, choose, loop, during, call, runtime, Code, stop, step, Procedure}
use Rattle.adj_tree.proofs.Names.{name_same, name_refl}
use Rattle.adj_word.specs.Word.{wrap}
use Rattle.def_meaning.specs.Append.{◌+++◌, one}
use Rattle.def_meaning.specs.Store.{Shape, size_of, set}
use Rattle.def_meaning.specs.Value.{Setting, value, holds}
use Rattle.def_meaning.specs.Scene.{Scene, stand, Outcome, Done}
use Rattle.def_meaning.specs.Written.{handed_back}
use Rattle.def_meaning.specs.Run.{Calls, act, run, trips, turns, stepped, with_turn, in_force, after_loop, tests, most_tests}
use Rattle.def_meaning.specs.Units.{calls_of}
use Rattle.law_meaning.specs.Follows.{Follows}
use Rattle.law_meaning.proofs.Frames.{keeps_others}
use Rattle.law_meaning.proofs.Leadings.{with_store, leads_stop, leads_assign}
use Rattle.law_meaning.proofs.Following.{follows_done, follows_if, follows_then, follows_known}
use Rattle.def_names.specs.Numbers.{Vars, next, behind}
use Rattle.def_names.specs.Numbering.{point_before, point_after}
use Rattle.def_sweep.specs.Marked.{code_if}
use Rattle.def_sweep.specs.Facts.{In}
use Rattle.law_sweep.specs.Pairs.{SamePlain, on_words, on_duals}
use Rattle.law_sweep.specs.Passing.{plainly}
use Rattle.def_sweep.specs.Plan.{actuals_named}
use Rattle.law_sweep.specs.Laws.{just, point_inside, last_point}
use Rattle.def_tangent.specs.Forward.{Plan, before_act, tangent_act, tangents}
use Rattle.law_tangent.specs.Counts.{IsFew, AreFew}
use Rattle.law_tangent.specs.Bears.{SceneBears}
use Rattle.law_tangent.specs.Laws.{CalleeFlow, LoopFlows, CallFlows, ActFlows, ListFlows, LoopTexts, ActTexts, ListTexts}
use Rattle.law_tangent.proofs.Straight.{Went, went_there}
use Rattle.law_tangent.proofs.Steps.{follows_value, went_follows}
use Rattle.law_tangent.proofs.AssignmentsFollow.{went_none, assignment_follows}
use Rattle.law_tangent.proofs.Bearing.{passed_bears, told_bears, value_borne, holds_borne, follows_shown, turn_bears, plain_follows}
use Rattle.law_tangent.proofs.Loops.{turns_follow, tests_follow}

module _ (ps : List Procedure) (depth : ℕ) (q : Calls ℤ) (sh : Var → Shape) (level w : ℕ) (some : 1 ≤ w) (p : Plan) (g : List ℕ → CalleeFlow) (f : ℕ → Vars) (fits : List ℕ → Terms → Type 0) (vars : List (List ℕ)) (arrays : Vars) (known : (o : List ℕ) → arrays (plain o) ≡ false → size_of (sh (plain o)) ≡ 1) (shapes : (o : List ℕ) → p.carried (plain o) ≡ true → sh (shadow o) ≡ sh (plain o)) where
  abbrev qd : Calls (ℤ × ℤ)
  qd = calls_of ps depth

  abbrev nd : Setting (ℤ × ℤ)
  nd = on_duals (plainly sh) level

  abbrev nw : Setting ℤ
  nw = on_words sh level

  -- the relation of scenes at the point of a number
  abbrev pub At : ℕ → Scene (ℤ × ℤ) → Scene ℤ → Type 0
  At i = SceneBears sh p.carried (f i)

  -- calls follow calls
  abbrev pub CallsFollow : Type 0
  CallsFollow = (i line : ℕ) (name : List ℕ) (given : List (List ℕ)) → CallFlows f p.carried i (g name) given → fits name (actuals_named given) → (d : Scene (ℤ × ℤ)) (s : Scene ℤ) → At (point_before i) d s → (k : ℕ) →
      Follows (At (point_after i)) w 0 (act qd nd (call name (actuals_named given)) line d) (act q nw (tangent_act p (call name (actuals_named given))) line s) k

  same : (s : Scene ℤ) → SamePlain s.store s.store
  same s = record { at = λ x i. refl }

  -- ---- a DO

  module _ (x : List ℕ) (a b c : Term) (body : Code) (m : Mark) (line i : ℕ) (texts : LoopTexts arrays (handed_back ps) x a b c body) (flows : LoopFlows f i (plain x) body) where
    abbrev code : Bool → Code
    code t = code_if t (one line (assign (shadow x) none (lit (pos 0))))

    -- the variable's tangent is 0 before it, where it is carried
    abbrev Cleared : Code → Scene ℤ → Type 0
    Cleared z s = (r : Went q nw z s) × ((o : List ℕ) (j : ℕ) → p.carried (plain o) ≡ true → r.after (shadow o) j ≡ (if name_eq o x && (j == 0) then pos 0 else s.store (shadow o) j))

    cleared : (s : Scene ℤ) (t : Bool) → p.carried (plain x) ≡ t → Cleared (code t) s
    unfolding went_none
    cleared s false n = (went_none q nw s, λ o j h. kept o j h (name_eq o x) refl)
      where
        kept : (o : List ℕ) (j : ℕ) → p.carried (plain o) ≡ true → (t : Bool) → name_eq o x ≡ t → s.store (shadow o) j ≡ (if t && (j == 0) then pos 0 else s.store (shadow o) j)
        kept o j h true e = absurd (let r : true ≡ false = sym h ∙ ap (λ z. p.carried (plain z)) (name_same o x e) ∙ n in cc)
        kept o j h false e = refl
    cleared s true n =
        let s1 = with_store s (set s.store (shadow x) 0 (pos 0)) in
        let t = went_there q nw line (code true) s s1 (refl, (tt, tt)) (leads_assign q nw line (shadow x) none (lit (pos 0)) stop s s1 (pos 0) 0 refl refl (leads_stop q nw s1)) in
        (t.0, λ o j h. ap (λ (z : Scene ℤ). z.store (shadow o) j) t.1)

    one_cell : size_of (sh (plain x)) ≡ 1
    one_cell = known x texts.scalar

    enters : (v : Var) → f (point_before i) v ≡ true → just (plain x) v ≡ false → In v (f (point_inside i))
    enters v t n = flows.entry.varies v (rw (t, n) refl)

    turns_again : (v : Var) → f (last_point (point_inside i) (suc i) body) v ≡ true → just (plain x) v ≡ false → In v (f (point_inside i))
    turns_again v t n = flows.again.varies v (rw (t, n) refl)

    module _ (follows : (d : Scene (ℤ × ℤ)) (s : Scene ℤ) → At (point_inside i) d s → (k : ℕ) → Follows (At (last_point (point_inside i) (suc i) body)) w 0 (run qd nd body d) (run q nw (tangents p body) s) k) where
      loop_acts : (d : Scene (ℤ × ℤ)) (s : Scene ℤ) → At (point_before i) d s → (r : Cleared (code (p.carried (plain x))) s) → (k : ℕ) → Follows (At (point_after i)) w 0 (act qd nd (loop (plain x) a b c body m) line d) (act q nw (loop (plain x) a b c (tangents p body) m) line (with_store s r.0.after)) k
      loop_acts d s e r k =
          let s1 = with_store s r.0.after in
          let like : SamePlain s.store r.0.after = record { at = λ o j. r.0.same o j } in
          let After = At (point_after i) in
          let borne = value_borne sh level p.carried (f (point_before i)) d s e r.0.after like in
          follows_shown (λ (z : ℤ × ℤ). z.0) w After (value nd a d.store) (value nw a s1.store) line (stand nd d) (stand nw s1) _ _ (borne a texts.text_first) k
          (λ va. follows_shown (λ (z : ℤ × ℤ). z.0) w After (value nd b d.store) (value nw b s1.store) line (stand nd d) (stand nw s1) _ _ (borne b texts.text_last) k
          (λ vb. follows_shown (λ (z : ℤ × ℤ). z.0) w After (value nd c d.store) (value nw c s1.store) line (stand nd d) (stand nw s1) _ _ (borne c texts.text_step) k
          (λ vc. follows_value w After (trips m va.0 vb.0 vc.0) (trips m va.0 vb.0 vc.0) line (stand nd d) (stand nw s1) _ _ refl k
          (λ l is.
          let d2 = with_turn nd (plain x) (wrap va.0) d in
          let s2 = with_turn nw (plain x) (wrap va.0) s1 in
          let told : Scene (ℤ × ℤ) → ℕ → Outcome (Scene (ℤ × ℤ)) = λ z j. Done (after_loop line l (in_force nd m d.store) z) j in
          let told' : Scene ℤ → ℕ → Outcome (Scene ℤ) = λ z j. Done (after_loop line l (in_force nw m s1.store) z) j in
          let begin = turn_bears sh level p.carried (f (point_before i)) (f (point_inside i)) x one_cell enters d s e r.0.after like r.1 (wrap va.0) in
          follows_then w 0 0 (At (point_inside i)) After (turns nd l (run qd nd body) (stepped nd (plain x) vc.0) d2) (turns nw l (run q nw (tangents p body)) (stepped nw (plain x) vc.0) s2) told told' k
          (turns_follow qd q sh level w some p.carried (f (point_inside i)) (f (last_point (point_inside i) (suc i) body)) body (tangents p body) follows x one_cell turns_again
          (λ d3 d4 j left h. keeps_others ps depth nd body d3 d4 j left h (plain x) texts.spares 0)
          l vc.0 d2 s2 begin (λ n. r.1 x 0 n ∙ (let h = name_refl x in rw h refl)) k)
          (λ d3 s3 j le h. follows_done w 0 After (after_loop line l (in_force nd m d.store) d3) (after_loop line l (in_force nw m s1.store) s3) j
          (told_bears sh p.carried (f (point_after i)) line l (in_force nd m d.store) (in_force nw m s1.store) d3 s3 (passed_bears sh p.carried f (point_inside i) (point_after i) flows.exit d3 s3 h)))))))

  -- ---- statements and lists

  module _ (called : CallsFollow) where
    mutual
      act_follows : (i line : ℕ) (a : Act) → ActFlows g f p.carried i a → ActTexts fits vars arrays (handed_back ps) a → IsFew w p line a → (to : ℕ) (c c' : Code) → ((d1 : Scene (ℤ × ℤ)) (s1 : Scene ℤ) (k : ℕ) → At (point_after i) d1 s1 → Follows (At to) w 0 (run qd nd c d1) (run q nw c' s1) k) →
          (d : Scene (ℤ × ℤ)) (s : Scene ℤ) → At (point_before i) d s → (k : ℕ) → Follows (At to) w 0 (run qd nd (step line a c) d) (run q nw (before_act p line a +++ step line (tangent_act p a) c') s) k
      act_follows i line (assign (plain x) subs e) l t few to c c' rest d s b k =
          assignment_follows qd q sh level w p (f (point_before i)) (f (point_after i)) vars arrays known shapes x subs e line t l.covers l.carries l.stays l.goes (At to) few c c' rest d s b k
      act_follows i line (assign (shadow x) subs e) l t few to c c' rest d s b k = absurd t
      act_follows i line (assign (helper r j) subs e) l t few to c c' rest d s b k = absurd t
      act_follows i line (choose n a b) l t few to c c' rest d s e k =
          let After = At (point_after i) in
          plain_follows qd q nd nw w some After (At to) line (choose n a b) (choose n (tangents p a) (tangents p b)) c c' d s
          (λ k1. follows_value w After (holds nd n d.store) (holds nw n s.store) line (stand nd d) (stand nw s) (λ z j. if z then run qd nd a d j else run qd nd b d j) (λ z j. if z then run q nw (tangents p a) s j else run q nw (tangents p b) s j)
          (holds_borne sh level p.carried (f (point_before i)) d s e s.store (same s) n t.0) k1
          (λ z is. follows_if w 0 After z (run qd nd a d) (run qd nd b d) (run q nw (tangents p a) s) (run q nw (tangents p b) s) k1
          (follows_known w 0 (At (last_point (point_before i) (suc i) a)) After (run qd nd a d) (run q nw (tangents p a) s) k1 (list_follows (point_before i) (suc i) a l.0.0 t.1.0 few.0 d s e k1)
          (λ d1 s1 left h r. passed_bears sh p.carried f (last_point (point_before i) (suc i) a) (point_after i) l.0.1 d1 s1 r))
          (follows_known w 0 (At (last_point (point_before i) (behind (suc i) a) b)) After (run qd nd b d) (run q nw (tangents p b) s) k1 (list_follows (point_before i) (behind (suc i) a) b l.1.0 t.1.1 few.1 d s e k1)
          (λ d1 s1 left h r. passed_bears sh p.carried f (last_point (point_before i) (behind (suc i) a) b) (point_after i) l.1.1 d1 s1 r))))
          rest k
      act_follows i line (loop (plain x) a b n body m) l t few to c c' rest d s e k =
          let r = cleared x a b n body m line i t.0 l.0 s (p.carried (plain x)) refl in
          went_follows qd q nd nw w (At (point_after i)) (At to) line (loop (plain x) a b n body m) (loop (plain x) a b n (tangents p body) m) (before_act p line (loop (plain x) a b n body m)) c c' d s r.0 few.0
          (loop_acts x a b n body m line i t.0 l.0 (λ d1 s1 e1 k1. list_follows (point_inside i) (suc i) body l.1 t.1 few.1 d1 s1 e1 k1) d s e r) rest k
      act_follows i line (loop (shadow x) a b n body m) l t few to c c' rest d s e k = absurd t
      act_follows i line (loop (helper r j) a b n body m) l t few to c c' rest d s e k = absurd t
      act_follows i line (during n body) l t few to c c' rest d s e k =
          let After = At (point_after i) in
          let Inside = At (point_inside i) in
          let last = last_point (point_inside i) (suc i) body in
          let begin = passed_bears sh p.carried f (point_before i) (point_inside i) l.0.0 d s e in
          plain_follows qd q nd nw w some After (At to) line (during n body) (during n (tangents p body)) c c' d s
          (λ k1. follows_known w 0 Inside After (tests nd most_tests (λ d1. holds nd n d1.store) line (run qd nd body) d) (tests nw most_tests (λ s1. holds nw n s1.store) line (run q nw (tangents p body)) s) k1
          (tests_follow qd q sh level w some p.carried (f (point_inside i)) (f last) body (tangents p body) (λ d1 s1 e1 k2. list_follows (point_inside i) (suc i) body l.1 t.1 few d1 s1 e1 k2) n t.0 line
          (λ d1 s1 r. passed_bears sh p.carried f last (point_inside i) l.0.1.0 d1 s1 r) most_tests d s begin k1)
          (λ d1 s1 left h r. passed_bears sh p.carried f (point_inside i) (point_after i) l.0.1.1 d1 s1 r))
          rest k
      act_follows i line (call name args) l t few to c c' rest d s e k =
          subst (λ z. Follows (At to) w 0 (run qd nd (step line (call name z) c) d) (run q nw (step line (tangent_act p (call name z)) c') s) k) (sym l.1.0)
          (plain_follows qd q nd nw w some (At (point_after i)) (At to) line (call name (actuals_named l.0)) (tangent_act p (call name (actuals_named l.0))) c c' d s
          (called i line name l.0 l.1.1 (subst (fits name) l.1.0 t) d s e) rest k)
      act_follows i line (runtime r) l t few to c c' rest d s e k = absurd l

      pub list_follows : (from i : ℕ) (c : Code) → ListFlows g f p.carried from i c → ListTexts fits vars arrays (handed_back ps) c → AreFew w p c → (d : Scene (ℤ × ℤ)) (s : Scene ℤ) → At from d s → (k : ℕ) → Follows (At (last_point from i c)) w 0 (run qd nd c d) (run q nw (tangents p c) s) k
      list_follows from i stop l t few d s e k = follows_done w 0 (At from) d s k e
      list_follows from i (step line a rest) l t few d s e k =
          act_follows i line a l.1.0 t.0 few.0 (last_point (point_after i) (next i a) rest) rest (tangents p rest)
          (λ d1 s1 k1 e1. list_follows (point_after i) (next i a) rest l.1.1 t.1 few.1 d1 s1 e1 k1) d s (passed_bears sh p.carried f from (point_before i) l.0 d s e) k
