-- The turns of a DO and the tests of a DO WHILE follow those of the dual run.
use Rattle.std.proofs.Common.{◌≡◌, ◌≤◌, ℕ, zero, suc, Bool, true, false, List, refl, sym, ap, ◌∙◌, subst, if◌then◌else◌}
use Rattle.std.specs.Prelude.{ℤ, pos, ◌==◌, ◌&&◌}
use Rattle.adj_tree.specs.Code.{Var, plain, shadow, name_eq, Test, Code}
use Rattle.adj_tree.proofs.Names.{name_same, nat_same}
use Rattle.adj_word.specs.Word.{add}
use Rattle.def_meaning.specs.Trap.{step_trap}
use Rattle.def_meaning.specs.Store.{Shape, size_of}
use Rattle.def_meaning.specs.Value.{Setting, holds}
use Rattle.def_meaning.specs.Read.{reads_test}
use Rattle.def_meaning.specs.Scene.{Scene, stand, Outcome, Done, Trapped, then_do, counted}
use Rattle.def_meaning.specs.Run.{Calls, run, turns, stepped, with_turn, tests}
use Rattle.law_meaning.specs.Follows.{Follows}
use Rattle.law_meaning.proofs.Following.{follows_done, follows_trap, follows_counted, follows_if, follows_then, follows_known}
use Rattle.def_names.specs.Numbers.{Vars}
use Rattle.def_sweep.specs.Facts.{In}
use Rattle.law_sweep.specs.Pairs.{on_words, on_duals}
use Rattle.def_names.proofs.Variables.{and_true}
use Rattle.law_sweep.specs.Passing.{plainly}
use Rattle.law_sweep.specs.Kernel.{AllText}
use Rattle.law_sweep.specs.Laws.{just}
use Rattle.law_tangent.specs.Bears.{SceneBears}
use Rattle.law_tangent.proofs.Steps.{follows_value}
use Rattle.law_tangent.proofs.Bearing.{holds_borne, turn_bears}

module _ (qd : Calls (ℤ × ℤ)) (q : Calls ℤ) (sh : Var → Shape) (level w : ℕ) (some : 1 ≤ w) (on inside last : Vars) (body body' : Code) (follows : (d : Scene (ℤ × ℤ)) (s : Scene ℤ) → SceneBears sh on inside d s → (k : ℕ) → Follows (SceneBears sh on last) w 0 (run qd (on_duals (plainly sh) level) body d) (run q (on_words sh level) body' s) k) where
  abbrev nd : Setting (ℤ × ℤ)
  nd = on_duals (plainly sh) level

  abbrev nw : Setting ℤ
  nw = on_words sh level

  abbrev Inside : Scene (ℤ × ℤ) → Scene ℤ → Type 0
  Inside = SceneBears sh on inside

  -- ---- DO

  module _ (x : List ℕ) (one : size_of (sh (plain x)) ≡ 1) (way : (v : Var) → In v last → just (plain x) v ≡ false → In v inside) (keeps : (d d1 : Scene (ℤ × ℤ)) (k left : ℕ) → run qd nd body d k ≡ Done d1 left → d1.store (plain x) 0 ≡ d.store (plain x) 0) where
    -- the tangent of the loop's variable is 0, where it is carried
    abbrev pub IsIdle : Scene ℤ → Type 0
    IsIdle s = on (plain x) ≡ true → s.store (shadow x) 0 ≡ pos 0

    -- where it is, it may be said of all tangents
    pub idle_shadows : (s : Scene ℤ) → IsIdle s → (o : List ℕ) (j : ℕ) → on (plain o) ≡ true → s.store (shadow o) j ≡ (if name_eq o x && (j == 0) then pos 0 else s.store (shadow o) j)
    idle_shadows s h o j n = go (name_eq o x && (j == 0)) refl
      where
        go : (b : Bool) → (name_eq o x && (j == 0)) ≡ b → s.store (shadow o) j ≡ (if b then pos 0 else s.store (shadow o) j)
        go false e = refl
        go true e =
            let p = and_true (name_eq o x) (j == 0) e in
            let is : o ≡ x = name_same o x p.0 in
            let at : j ≡ 0 = nat_same j 0 p.1 in
            (λ i. s.store (shadow (is i)) (at i)) ∙ h (ap (λ a. on (plain a)) (sym is) ∙ n)

    -- the body doesn't write it
    still_idle : (d d1 : Scene (ℤ × ℤ)) (s s1 : Scene ℤ) (k left : ℕ) → Inside d s → IsIdle s → run qd nd body d k ≡ Done d1 left → SceneBears sh on last d1 s1 → IsIdle s1
    still_idle d d1 s s1 k left b h is r n =
        r.bears.tangents x 0 n
        ∙ ap (λ g. (g (plain x) 0).1) (sym r.is)
        ∙ ap (λ a. a.1) (keeps d d1 k left is)
        ∙ ap (λ g. (g (plain x) 0).1) b.is
        ∙ sym (b.bears.tangents x 0 n)
        ∙ h n

    -- the step after a turn
    step_bears : (c : ℤ) (d : Scene (ℤ × ℤ)) (s : Scene ℤ) → SceneBears sh on last d s → IsIdle s → Inside (stepped nd (plain x) c d) (stepped nw (plain x) c s)
    step_bears c d s b h =
        let same : (d.store (plain x) 0).0 ≡ s.store (plain x) 0 = ap (λ g. (g (plain x) 0).0) b.is ∙ sym (b.bears.plains.at x 0) in
        subst (λ z. Inside (stepped nd (plain x) c d) (with_turn nw (plain x) (add z c) s)) same
        (turn_bears sh level on last inside x one way d s b s.store (record { at = λ o i. refl }) (idle_shadows s h) (add (d.store (plain x) 0).0 c))

    pub turns_follow : (m : ℕ) (c : ℤ) (d : Scene (ℤ × ℤ)) (s : Scene ℤ) → Inside d s → IsIdle s → (k : ℕ) → Follows Inside w 0 (turns nd m (run qd nd body) (stepped nd (plain x) c) d) (turns nw m (run q nw body') (stepped nw (plain x) c) s) k
    turns_follow zero c d s b h k = follows_done w 0 Inside d s k b
    turns_follow (suc m) c d s b h k =
        let Mid : Scene (ℤ × ℤ) → Scene ℤ → Type 0 = λ d1 s1. SceneBears sh on last d1 s1 × IsIdle s1 in
        let more : Scene (ℤ × ℤ) → ℕ → Outcome (Scene (ℤ × ℤ)) = λ d1 i. turns nd m (run qd nd body) (stepped nd (plain x) c) (stepped nd (plain x) c d1) i in
        let more' : Scene ℤ → ℕ → Outcome (Scene ℤ) = λ s1 i. turns nw m (run q nw body') (stepped nw (plain x) c) (stepped nw (plain x) c s1) i in
        follows_counted w 0 Inside (stand nd d) (stand nw s) (λ j. then_do (run qd nd body d j) more) (λ j. then_do (run q nw body' s j) more') k some
        (λ j e. follows_then w 0 0 Mid Inside (run qd nd body d) (run q nw body' s) more more' j
        (follows_known w 0 (SceneBears sh on last) Mid (run qd nd body d) (run q nw body' s) j (follows d s b j) (λ d1 s1 left is r. (r, still_idle d d1 s s1 j left b h is r)))
        (λ d1 s1 i le r. turns_follow m c (stepped nd (plain x) c d1) (stepped nw (plain x) c s1) (step_bears c d1 s1 r.0 r.1) r.1 i))

  -- ---- DO WHILE

  module _ (c : Test) (text : AllText (λ v. reads_test v c)) (line : ℕ) (way : (d : Scene (ℤ × ℤ)) (s : Scene ℤ) → SceneBears sh on last d s → Inside d s) where
    same_test : (d : Scene (ℤ × ℤ)) (s : Scene ℤ) → Inside d s → holds nw c s.store ≡ holds nd c d.store
    same_test d s b = holds_borne sh level on inside d s b s.store (record { at = λ o i. refl }) c text

    pub tests_follow : (m : ℕ) (d : Scene (ℤ × ℤ)) (s : Scene ℤ) → Inside d s → (k : ℕ) → Follows Inside w 0 (tests nd m (λ d1. holds nd c d1.store) line (run qd nd body) d) (tests nw m (λ s1. holds nw c s1.store) line (run q nw body') s) k
    tests_follow zero d s b k =
        follows_value w Inside (holds nd c d.store) (holds nw c s.store) line (stand nd d) (stand nw s) (λ t j. if t then Trapped step_trap line (stand nd d) else Done d j) (λ t j. if t then Trapped step_trap line (stand nw s) else Done s j) (same_test d s b) k
        (λ t e. follows_if w 0 Inside t (λ j. Trapped step_trap line (stand nd d)) (λ j. Done d j) (λ j. Trapped step_trap line (stand nw s)) (λ j. Done s j) k (follows_trap w 0 Inside step_trap step_trap line (stand nd d) (stand nw s) k) (follows_done w 0 Inside d s k b))
    tests_follow (suc m) d s b k =
        let more : Scene (ℤ × ℤ) → ℕ → Outcome (Scene (ℤ × ℤ)) = λ d1 j. counted (stand nd d1) j (λ i. tests nd m (λ d2. holds nd c d2.store) line (run qd nd body) d1 i) in
        let more' : Scene ℤ → ℕ → Outcome (Scene ℤ) = λ s1 j. counted (stand nw s1) j (λ i. tests nw m (λ s2. holds nw c s2.store) line (run q nw body') s1 i) in
        follows_value w Inside (holds nd c d.store) (holds nw c s.store) line (stand nd d) (stand nw s) (λ t j. if t then then_do (run qd nd body d j) more else Done d j) (λ t j. if t then then_do (run q nw body' s j) more' else Done s j) (same_test d s b) k
        (λ t e. follows_if w 0 Inside t (λ j. then_do (run qd nd body d j) more) (λ j. Done d j) (λ j. then_do (run q nw body' s j) more') (λ j. Done s j) k
        (follows_then w 0 0 (SceneBears sh on last) Inside (run qd nd body d) (run q nw body' s) more more' k (follows d s b k)
        (λ d1 s1 i le r. follows_counted w 0 Inside (stand nd d1) (stand nw s1) (tests nd m (λ d2. holds nd c d2.store) line (run qd nd body) d1) (tests nw m (λ s2. holds nw c s2.store) line (run q nw body') s1) i some (λ j e1. tests_follow m d1 s1 (way d1 s1 r) j)))
        (follows_done w 0 Inside d s k b))
