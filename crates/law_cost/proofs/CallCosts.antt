-- What the call of a unit takes again, and what that of its adjoint takes.
use Rattle.std.proofs.Common.{◌≡◌, ◌<◌, ◌≤◌, ℕ, suc, ◌+◌, Bool, true, List, [], ◌∷◌, refl, sym, ap, ◌∙◌, subst, arith, if◌then◌else◌}
use Rattle.std.specs.Prelude.{ℤ, pos, IsTrue, Ok, Option, Some, None}
use Rattle.adj_tree.specs.Code.{Var, plain, call, Code, stop, Procedure}
use Rattle.def_meaning.specs.Trap.{shape_trap, then_ok}
use Rattle.def_meaning.specs.Numbers.{words}
use Rattle.def_meaning.specs.Append.{◌+++◌, one}
use Rattle.def_meaning.specs.Store.{Shape, size_of, Store}
use Rattle.def_meaning.specs.Value.{Setting}
use Rattle.def_meaning.specs.Scene.{Scene, stand, Outcome, Done, Trapped, More, Full, then_do, with_value}
use Rattle.def_meaning.specs.Run.{Calls, act, run}
use Rattle.def_meaning.specs.Written.{find_unit, handed_back}
use Rattle.def_meaning.specs.Read.{reads_actuals, looked_at}
use Rattle.def_meaning.specs.Rename.{rename}
use Rattle.law_meaning.specs.Common.{HaveInCommon}
use Rattle.law_meaning.specs.Agree.{EndAlike}
use Rattle.def_meaning.specs.Seen.{Separates, pulled_setting, pulled_scene, pulled_outcome}
use Rattle.def_meaning.specs.Units.{whole, actuals, entry_store, dummies_fit, copied_out, dummy_shapes, setting_in, unit_run, calls_of, call_in}
use Rattle.law_meaning.proofs.Agreements.{Cells, CallsDepend}
use Rattle.def_meaning.proofs.Appends.{append-stop}
use Rattle.law_meaning.proofs.Costs.{run_later}
use Rattle.law_meaning.proofs.Extensions.{calls_same}
use Rattle.law_meaning.proofs.Renamed.{run_renamed}
use Rattle.def_names.specs.Numbers.{Vars}
use Rattle.law_sweep.specs.Pairs.{on_words}
use Rattle.law_sweep.specs.Scenes.{Course, scene}
use Rattle.def_sweep.specs.Plan.{Callee, actuals_named}
use Rattle.def_sweep.specs.Rows.{adjoint_call}
use Rattle.def_sweep.specs.Bindings.{Bindings, bindings, actuals_in}
use Rattle.law_sweep.specs.Passing.{passed_in, plainly}
use Rattle.law_sweep.specs.Runs.{SameOn}
use Rattle.law_sweep.proofs.Runs.{same_refl}
use Rattle.law_sweep.proofs.CallDuals.{shadows_bound}
use Rattle.law_sweep.specs.Emitted.{AreNamed}
use Rattle.law_sweep.proofs.Entering.{actuals_at, actuals_are, entry, entry_pulled, kept_at}
use Rattle.law_cost.specs.Along.{BothCost}
use Rattle.law_cost.proofs.Runs.{left_same, append_done}
use Rattle.law_cost.proofs.Along.{kept_of}
use Rattle.law_cost.proofs.Moved.{CallsMove}
use Rattle.law_cost.proofs.CallPrices.{begun, call_body}

-- two runs of a list from a scene take as much
pub one_cost : {C : Type 0} (units : List Procedure) (depth : ℕ) (n : Setting C) (c : Code) (s e e1 : Scene C) (k left k1 left1 : ℕ) → run (calls_of units depth) n c s k ≡ Done e left → run (calls_of units depth) n c s k1 ≡ Done e1 left1 → k + left1 ≡ k1 + left
one_cost units depth n c s e e1 k left k1 left1 h h1 =
    let a = run_later units depth depth (omega arith) n c s e k left k1 h in
    let b = run_later units depth depth (omega arith) n c s e1 k1 left1 k h1 in
    let same : k1 + k ≡ k + k1 = omega arith in
    let l = left_same e e1 (left + k1) (left1 + k) (sym a ∙ ap (run (calls_of units depth) n c s) (sym same) ∙ b) in
    omega (arith, l)

-- the shapes of the text's variables alone give the same actuals
actuals_plainly : (sh : Var → Shape) (level : ℕ) (given : List (List ℕ)) (s : Store ℤ) → actuals (on_words (plainly sh) level) (actuals_named given) s ≡ actuals (on_words sh level) (actuals_named given) s
actuals_plainly sh level [] s = refl
actuals_plainly sh level (a ∷ given) s = ap (λ r. then_ok r (λ got. Ok (record { shape = sh (plain a); cells = s (plain a); place = whole (plain a) } ∷ got))) (actuals_plainly sh level given s)

-- ---- the call again

module _ (ps qs : List Procedure) (inside : List ℕ → Bool) (common : HaveInCommon inside ps qs) (depth : ℕ) (depend : CallsDepend {C = ℤ} (looked_at ps) (calls_of ps (suc depth))) (called : List ℕ → Type 0) (moves : CallsMove {C = ℤ} called (calls_of ps (suc depth))) (sh : Var → Shape) (level : ℕ) (name : List ℕ) (there : IsTrue (inside name)) (is_called : called name) (given : List (List ℕ)) (line : ℕ) where
  abbrev nw : Setting ℤ
  nw = on_words sh level

  abbrev np : Setting ℤ
  np = on_words (plainly sh) level

  abbrev p : Calls ℤ
  p = calls_of ps (suc depth)

  -- the shapes that differ don't matter
  same_shapes : (s : Scene ℤ) (k : ℕ) → p nw name (actuals_named given) line s k ≡ p np name (actuals_named given) line s k
  same_shapes s k = go (find_unit ps name)
    where
      go : (o : Option Procedure) → call_in (calls_of ps depth) nw (handed_back ps name) o (actuals_named given) line s k ≡ call_in (calls_of ps depth) np (handed_back ps name) o (actuals_named given) line s k
      go None = refl
      go (Some v) =
          ap (λ r. with_value r line (stand nw s) (λ got.
          if dummies_fit words v (entry_store words v.dummies got) v.dummies got
          then then_do (unit_run (calls_of ps depth) nw v line (record s { store = entry_store words v.dummies got }) k)
          (λ s1 j. Done (record s { store = copied_out v.dummies (handed_back ps name) got s1.store s.store; tape = s1.tape; events = s1.events }) j)
          else Trapped shape_trap line (stand nw s))) (sym (actuals_plainly sh level given s.store))

  -- it takes what it took in the program
  pub plain_cost : (s e : Scene ℤ) (k left : ℕ) → p np name (actuals_named given) line s k ≡ Done e left → (base : Course) (f : Store ℤ) (t : List ℤ) → ((x : Var) → reads_actuals x (looked_at ps name) (actuals_named given) ≡ true → (j : ℕ) → j < size_of (sh x) → f x j ≡ s.store x j) →
      (e1 : Scene ℤ) (k1 left1 : ℕ) → act (calls_of qs (suc depth)) nw (call name (actuals_named given)) line (scene base f t) k1 ≡ Done e1 left1 → k1 + left ≡ k + left1
  plain_cost s e k left h base f t agrees e1 k1 left1 h1 =
      let m = moves np name (actuals_named given) line s e k left is_called h base t in
      let A : Cells = λ x j. f x j ≡ s.store x j in
      let a = depend A nw name (actuals_named given) line (λ x r j l. agrees x r j l) (scene base f t) (scene base s.store t) (record { store = λ x j a. a; tape = refl; opened = refl; events = refl }) k in
      let done : p nw name (actuals_named given) line (scene base s.store t) k ≡ Done (scene m.later e.store t) left = same_shapes (scene base s.store t) k ∙ m.is in
      ended A m.later (p nw name (actuals_named given) line (scene base f t) k) refl (subst (λ o. EndAlike A (p nw name (actuals_named given) line (scene base f t) k) o) done a)
    where
      ended : (A : Cells) (later : Course) (o : Outcome (Scene ℤ)) → p nw name (actuals_named given) line (scene base f t) k ≡ o → EndAlike A o (Done (scene later e.store t) left) → k1 + left ≡ k + left1
      ended A later (Done s2 j) is a =
          let here : run p nw (one line (call name (actuals_named given))) (scene base f t) (suc k) ≡ Done s2 j = ap (λ o. then_do o (λ z i. Done z i)) is in
          let same : p nw name (actuals_named given) line (scene base f t) k1 ≡ Done e1 left1 = calls_same inside ps qs common (suc depth) nw name (actuals_named given) line there (scene base f t) k1 ∙ h1 in
          let there2 : run p nw (one line (call name (actuals_named given))) (scene base f t) (suc k1) ≡ Done e1 left1 = ap (λ o. then_do o (λ z i. Done z i)) same in
          let j_is : j ≡ left = a.1 in
          let c = one_cost ps (suc depth) nw (one line (call name (actuals_named given))) (scene base f t) s2 e1 (suc k) j (suc k1) left1 here there2 in
          omega (arith, j_is, c)
      ended A later (Trapped w l stands) is a = absurd a
      ended A later (More stands) is a = absurd a
      ended A later (Full stands) is a = absurd a

-- ---- the call of the adjoint

module _ (qs : List Procedure) (depth : ℕ) (sh : Var → Shape) (level : ℕ) (g : Callee) (given : List (List ℕ)) (a : Procedure) (found : find_unit qs g.adjoint ≡ Some a) (r : Var → Var) (sep : Separates r) (named : AreNamed r a.dummies (bindings g.shadowed g.dummies given)) (F B : Code) (body : a.body ≡ rename r (F +++ (B +++ stop))) (shG : Var → Shape) where
  abbrev na : Setting ℤ
  na = on_words sh level

  abbrev bs : Bindings
  bs = bindings g.shadowed g.dummies given

  abbrev q0 : Calls ℤ
  q0 = calls_of qs depth

  -- it takes what both sweeps of the unit take
  pub adjoint_cost : (needed held : Vars) (u : Store ℤ) (most : ℕ) → BothCost q0 shG (suc level) F B needed held u most → (f : Store ℤ) → pulled_setting r (setting_in na a (entry qs depth na g.adjoint a found r sep bs named f)) ≡ on_words shG (suc level) → SameOn shG needed u (passed_in (pos 0) bs f) →
      (base : Course) (t : List ℤ) (line : ℕ) (e : Scene ℤ) (k left : ℕ) → act (calls_of qs (suc depth)) na (adjoint_call g given) line (scene base f t) k ≡ Done e left → k ≤ left + most
  adjoint_cost needed held u most cost f shapes agrees base t line e k left h =
      let there : calls_of qs (suc depth) na g.adjoint (actuals_in bs) line (scene base f t) k ≡ Done e left = ap (λ es. calls_of qs (suc depth) na g.adjoint es line (scene base f t) k) (sym (shadows_bound g.shadowed g.dummies given)) ∙ h in
      let c = call_body qs depth na g.adjoint a found (actuals_in bs) line (scene base f t) e (actuals_at na f bs) (actuals_are na f bs) k left there in
      let inside = setting_in na a (entry_store words a.dummies (actuals_at na f bs)) in
      let start : Scene ℤ = begun qs depth na g.adjoint a found (actuals_in bs) line (scene base f t) e (actuals_at na f bs) (actuals_are na f bs) in
      let kept : Course = kept_at na a (dummy_shapes inside a) base t in
      let code : Code = F +++ (B +++ stop) in
      let seen : pulled_scene r start ≡ scene kept (passed_in (pos 0) bs f) t = ap (λ (z : Store ℤ). scene kept z t) (entry_pulled na r sep a.dummies bs f named) in
      let ran : run q0 (on_words shG (suc level)) code (scene kept (passed_in (pos 0) bs f) t) k ≡ Done (pulled_scene r c.end) left =
      ap (λ n. run q0 n code (scene kept (passed_in (pos 0) bs f) t) k) (sym shapes)
      ∙ ap (λ z. run q0 (pulled_setting r inside) code z k) (sym seen)
      ∙ sym (run_renamed r sep qs depth inside code start k)
      ∙ ap (λ z. pulled_outcome r (run q0 inside z start k)) (sym body)
      ∙ ap (pulled_outcome r) c.body in
      let n = on_words shG (suc level) in
      let o = append_done q0 n F (B +++ stop) (scene kept (passed_in (pos 0) bs f) t) (pulled_scene r c.end) k left ran in
      let second : run q0 n B o.scene o.left ≡ Done (pulled_scene r c.end) left = ap (λ z. run q0 n z o.scene o.left) (sym (append-stop B)) ∙ o.second in
      let most_is = cost.at kept (passed_in (pos 0) bs f) t agrees o.scene k o.left o.first (kept_of o.scene) o.scene.store (same_refl shG held o.scene.store) (pulled_scene r c.end) o.left left second in
      omega (arith, most_is)
