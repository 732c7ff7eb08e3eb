-- What the calls of a unit's forward and of its backward unit take: both sweeps of the unit, by the facts of split units, and the pushes and the pops of what is left on the tape.
use Rattle.std.proofs.Common.{◌≡◌, ◌<◌, ◌≤◌, ℕ, suc, ◌+◌, ◌*◌, Bool, true, false, List, [], ◌∷◌, ◌++◌, refl, sym, ap, ◌∙◌, subst, length, arith, if◌then◌else◌}
use Rattle.std.specs.Prelude.{ℤ, pos, not, ◌&&◌, ◌||◌, Option, Some, None}
use Rattle.adj_tree.specs.Code.{Var, plain, shadow, helper, call, Code, Procedure}
use Rattle.def_meaning.specs.Append.{◌+++◌}
use Rattle.def_meaning.specs.Apart.{has_name, AreApart}
use Rattle.def_meaning.specs.Numbers.{words}
use Rattle.def_meaning.specs.Rename.{rename}
use Rattle.def_meaning.specs.Run.{Calls, act, run}
use Rattle.def_meaning.specs.Scene.{Scene, Outcome, Done, Trapped, More, Full}
use Rattle.def_meaning.specs.Seen.{Separates, pulled, pulled_setting, pulled_scene, pulled_outcome}
use Rattle.def_meaning.specs.Store.{Shape, size_of, Store}
use Rattle.def_meaning.specs.Units.{entry_store, dummy_shapes, setting_in, calls_of}
use Rattle.def_meaning.specs.Value.{Setting}
use Rattle.def_meaning.specs.Written.{find_unit}
use Rattle.law_meaning.proofs.Inversions.{done_same}
use Rattle.law_meaning.proofs.Renamed.{run_renamed}
use Rattle.def_names.specs.Numbers.{Vars}
use Rattle.def_sweep.specs.Bindings.{Bindings, bindings, actuals_in}
use Rattle.def_sweep.specs.Callees.{nothing, CalleeFacts}
use Rattle.def_sweep.specs.Facts.{In, joined}
use Rattle.def_sweep.specs.Plan.{Plan, beside, IsActual, actuals_named, writes_actual, found_or}
use Rattle.def_sweep.specs.Reversals.{LoopRun}
use Rattle.def_sweep.specs.Rows.{pushes, pops}
use Rattle.def_sweep.specs.SplitMarks.{split_needed, split_held}
use Rattle.def_sweep.specs.SplitRows.{left_of, back_call}
use Rattle.law_sweep.specs.Emitted.{AreNamed}
use Rattle.law_sweep.specs.Kernel.{AsMany}
use Rattle.law_sweep.specs.Pairs.{Key, Words, on_words}
use Rattle.law_sweep.specs.Passing.{passed_in}
use Rattle.law_sweep.specs.Runs.{SameOn}
use Rattle.law_sweep.specs.Scenes.{Course, scene}
use Rattle.law_sweep.specs.SplitCalled.{KeepsRead, ForthCalled, SplitPair}
use Rattle.law_sweep.specs.Steps.{ActualsAgree}
use Rattle.law_sweep.proofs.Aside.{aside, aside_separates, Stays}
use Rattle.law_sweep.proofs.CallDuals.{actuals_bound, shadows_bound}
use Rattle.law_sweep.proofs.Entered.{UnitEnters}
use Rattle.law_sweep.proofs.Entering.{actuals_at, actuals_are, entry, entry_pulled, kept_at}
use Rattle.law_sweep.proofs.Groups.{Pushed, Popped, group_pushed}
use Rattle.law_sweep.proofs.Left.{left_in}
use Rattle.law_sweep.proofs.Passing.{beside_back, beside_key, in_plain, in_shadow}
use Rattle.law_sweep.proofs.Snapshots.{KnowsArrays}
use Rattle.law_sweep.proofs.Sweeps.{Way, Sweeps}
use Rattle.law_cost.specs.Along.{BothCost}
use Rattle.law_cost.proofs.AlongCalls.{straight_pushes, straight_pops}
use Rattle.law_cost.proofs.CallPrices.{begun, call_body}
use Rattle.law_cost.proofs.Groups.{pushes_count, pops_count}
use Rattle.law_cost.proofs.Runs.{left_same, one_end, append_done, straight_cost}

-- what is left is no more than the variables
pub left_few : (w : Vars) (ds xs : List (List ℕ)) → length (left_of w ds xs) ≤ length xs
left_few w ds [] = omega arith
left_few w ds (x ∷ xs) = go (not (has_name x ds) || w (plain x)) (left_few w ds xs)
  where
    go : (b : Bool) → length (left_of w ds xs) ≤ length xs → length (if b then x ∷ left_of w ds xs else left_of w ds xs) ≤ suc (length xs)
    go true h = omega (arith, h)
    go false h = omega (arith, h)

-- ---- a call that is done and the run of the unit's code under the caller's names

module _ (qs : List Procedure) (depth : ℕ) (sh : Var → Shape) (level : ℕ) (name : List ℕ) (shadowed : Vars) (ds given : List (List ℕ)) (a : Procedure) (found : find_unit qs name ≡ Some a) (r : Var → Var) (sep : Separates r) (named : AreNamed r a.dummies (bindings shadowed ds given)) (c : Code) (body : a.body ≡ rename r c) (f : Store ℤ) where
  abbrev na : Setting ℤ
  na = on_words sh level

  abbrev bs : Bindings
  bs = bindings shadowed ds given

  -- the course in the unit
  abbrev pub course_in : Course → List ℤ → Course
  course_in base t = kept_at na a (dummy_shapes (setting_in na a (entry_store words a.dummies (actuals_at na f bs))) a) base t

  pub record Within (shG : Var → Shape) (base : Course) (t : List ℤ) (e : Scene ℤ) (k left : ℕ) : Type 0 where
    pub end : Scene ℤ
    pub ran : run (calls_of qs depth) (on_words shG (suc level)) c (scene (course_in base t) (passed_in (pos 0) bs f) t) k ≡ Done end left
    pub tape : end.tape ≡ e.tape

  pub within : (shG : Var → Shape) → pulled_setting r (setting_in na a (entry qs depth na name a found r sep bs named f)) ≡ on_words shG (suc level) → (base : Course) (t : List ℤ) (line : ℕ) (e : Scene ℤ) (k left : ℕ) → calls_of qs (suc depth) na name (actuals_in bs) line (scene base f t) k ≡ Done e left → Within shG base t e k left
  within shG shapes base t line e k left there =
      let b = call_body qs depth na name a found (actuals_in bs) line (scene base f t) e (actuals_at na f bs) (actuals_are na f bs) k left there in
      let inside = setting_in na a (entry_store words a.dummies (actuals_at na f bs)) in
      let start : Scene ℤ = begun qs depth na name a found (actuals_in bs) line (scene base f t) e (actuals_at na f bs) (actuals_are na f bs) in
      let kept : Course = course_in base t in
      let seen : pulled_scene r start ≡ scene kept (passed_in (pos 0) bs f) t = ap (λ (z : Store ℤ). scene kept z t) (entry_pulled na r sep a.dummies bs f named) in
      record {
        end = pulled_scene r b.end;
        ran = ap (λ n. run (calls_of qs depth) n c (scene kept (passed_in (pos 0) bs f) t) k) (sym shapes)
            ∙ ap (λ z. run (calls_of qs depth) (pulled_setting r inside) c z k) (sym seen)
            ∙ sym (run_renamed r sep qs depth inside c start k)
            ∙ ap (λ z. pulled_outcome r (run (calls_of qs depth) inside z start k)) (sym body)
            ∙ ap (pulled_outcome r) b.body;
        tape = ap (λ (z : Scene ℤ). z.tape) b.ends;
      }

-- ---- code that names no shadow, run where shadows have other shapes

pub record Beside (q : Calls ℤ) (n : Setting ℤ) (c : Code) (s : Scene ℤ) (k left : ℕ) (end : Scene ℤ) : Type 0 where
  pub there : Scene ℤ
  pub ran : run q n c s k ≡ Done there left
  pub tape : there.tape ≡ end.tape

module _ (qs : List Procedure) (depth : ℕ) (n n' : Setting ℤ) (is : pulled_setting aside n ≡ n') (c : Code) (stays : Stays c) where
  pub run_beside : (base : Course) (f : Store ℤ) (t : List ℤ) → ((x : List ℕ) (j : ℕ) → f (shadow x) j ≡ pos 0) → (end : Scene ℤ) (k left : ℕ) → run (calls_of qs depth) n' c (scene base f t) k ≡ Done end left → Beside (calls_of qs depth) n c (scene base f t) k left end
  run_beside base f t zero end k left h = go (run (calls_of qs depth) n c (scene base f t) k) refl (there ∙ h)
    where
      same_at : (x : Var) (j : ℕ) → f (aside x) j ≡ f x j
      same_at (plain x) j = refl
      same_at (shadow x) j = zero (0 ∷ x) j ∙ sym (zero x j)
      same_at (helper o l) j = refl

      there : pulled_outcome aside (run (calls_of qs depth) n c (scene base f t) k) ≡ run (calls_of qs depth) n' c (scene base f t) k
      there =
          ap (λ e. pulled_outcome aside (run (calls_of qs depth) n e (scene base f t) k)) (sym stays)
          ∙ run_renamed aside aside_separates qs depth n c (scene base f t) k
          ∙ ap (λ m. run (calls_of qs depth) m c (scene base (pulled aside f) t) k) is
          ∙ ap (λ (z : Store ℤ). run (calls_of qs depth) n' c (scene base z t) k) (λ i x j. same_at x j i)

      go : (o : Outcome (Scene ℤ)) → run (calls_of qs depth) n c (scene base f t) k ≡ o → pulled_outcome aside o ≡ Done end left → Beside (calls_of qs depth) n c (scene base f t) k left end
      go (Done s1 j) e g =
          let same = done_same (pulled_scene aside s1) end j left g in
          let ls = left_same (pulled_scene aside s1) end j left g in
          record { there = s1; ran = e ∙ ap (Done s1) ls; tape = ap (λ (z : Scene ℤ). z.tape) same }
      go (Trapped w l stands) e g = absurd cc
      go (More stands) e g = absurd cc
      go (Full stands) e g = absurd cc

-- ---- both calls

module _ (qs : List Procedure) (depth : ℕ) (sh : Var → Shape) (level : ℕ) (xs ys : List Key) (g : CalleeFacts) (given : List (List ℕ)) (many : AsMany g.callee.dummies given) (apart : AreApart g.callee.dummies) (apart' : AreApart given)
    (shG shF : Var → Shape) (sizes : (d a : List ℕ) → IsActual g.callee.dummies given d a → size_of (sh (plain a)) ≡ size_of (shG (plain d))) (p : Plan) (known : KnowsArrays p shG) (own_line : ℕ) (vars : List (List ℕ)) (written : Vars) (wrote : (d : List ℕ) → written (plain d) ≡ g.callee.written (plain d)) (has_written : (x : List ℕ) → written (plain x) ≡ true → has_name x vars ≡ true) (F B : Code)
    -- the program's call leads uc to uc', and in the unit u to u'
    (uc uc' u u' : Store ℤ) (start_is : u ≡ passed_in (pos 0) (bindings nothing g.callee.dummies given) uc) (change turned : Words → Words) (loops loops' : List LoopRun)
    -- the two units
    (forth_in : UnitEnters qs depth sh level g.callee.forth g.callee nothing g.read given (F +++ pushes p own_line (left_of g.callee.written g.callee.dummies vars)) uc shF)
    (back_in : UnitEnters qs depth sh level g.callee.back g.callee g.callee.shadowed (λ v. g.read v && not (g.callee.written v)) given (pops p own_line (left_of g.callee.written g.callee.dummies vars) +++ B) uc shG)
    (stays : Stays (F +++ pushes p own_line (left_of g.callee.written g.callee.dummies vars))) (beside_is : pulled_setting aside (on_words shG (suc level)) ≡ on_words shF (suc level))
    (line : ℕ) (also : Vars) (pair : SplitPair (calls_of qs (suc depth)) sh level xs g given g.callee.forth g.callee.back line also uc uc' turned loops')
    (sweeps : let n = split_needed g.callee.dummies g.read also in let h = split_held g.callee.dummies g.callee.written g.read in Sweeps (calls_of qs depth) shG (suc level) ys 0 F B n n h h written u u' change loops)
    (most : ℕ) (cost : BothCost (calls_of qs depth) shG (suc level) F B (split_needed g.callee.dummies g.read also) (split_held g.callee.dummies g.callee.written g.read) u most) where
  abbrev ds : List (List ℕ)
  ds = g.callee.dummies

  abbrev left : List (List ℕ)
  left = left_of g.callee.written ds vars

  abbrev needed : Vars
  needed = split_needed ds g.read also

  abbrev held : Vars
  held = split_held ds g.callee.written g.read

  abbrev q0 : Calls ℤ
  q0 = calls_of qs depth

  abbrev q1 : Calls ℤ
  q1 = calls_of qs (suc depth)

  abbrev nw : Setting ℤ
  nw = on_words sh level

  abbrev ng : Setting ℤ
  ng = on_words shG (suc level)

  -- what isn't left on the tape isn't written
  unwritten : (x : List ℕ) → has_name x left ≡ false → written (plain x) ≡ false
  unwritten x h = go (written (plain x)) refl
    where
      last : (b : Bool) → (b || true) ≡ true
      last true = refl
      last false = refl

      go : (b : Bool) → written (plain x) ≡ b → written (plain x) ≡ false
      go false e = e
      go true e =
          let w : g.callee.written (plain x) ≡ true = sym (wrote x) ∙ e in
          let o : (not (has_name x ds) || g.callee.written (plain x)) ≡ true = rw w (last (not (has_name x ds))) in
          absurd (let c : true ≡ false = sym (left_in g.callee.written ds vars x (has_written x e) o) ∙ h in cc)

  module _ (base : Course) (f : Store ℤ) (t : List ℤ) (agree : ActualsAgree sh g.callee given (joined g.read also) uc f) where
    start_f : Store ℤ
    start_f = passed_in (pos 0) (bindings nothing ds given) f

    start_at : (x : List ℕ) (j : ℕ) → start_f (plain x) j ≡ found_or (beside ds given x) (pos 0) (λ a. f (plain a) j)
    unfolding start_f
    start_at x j = in_plain (pos 0) nothing f ds given x j

    no_shadows : (x : List ℕ) (j : ℕ) → start_f (shadow x) j ≡ pos 0
    unfolding start_f
    no_shadows x j = in_shadow (pos 0) nothing f ds given x j

    -- the forward unit begins with the values that it needs
    agrees_in : SameOn shG needed u start_f
    agrees_in = record {
      at = λ x j l h. start_at x j ∙ go x j l h (beside ds given x) refl ∙ sym (ap (λ (s : Store ℤ). s (plain x) j) start_is ∙ in_plain (pos 0) nothing uc ds given x j);
    }
      where
        wanted : (x : List ℕ) → has_name x ds ≡ true → In (plain x) needed → (g.read (plain x) || also (plain x)) ≡ true
        wanted x d h = sym (ap (λ b. not b || (g.read (plain x) || also (plain x))) d) ∙ h

        go : (x : List ℕ) (j : ℕ) → j < size_of (shG (plain x)) → In (plain x) needed → (o : Option (List ℕ)) → beside ds given x ≡ o → found_or o (pos 0) (λ a. f (plain a) j) ≡ found_or o (pos 0) (λ a. uc (plain a) j)
        go x j l h None b = refl
        go x j l h (Some a) b = agree.at x a b (wanted x (beside_key ds given x a b) h) j (subst (λ n. j < n) (sym (sizes x a b)) l)

    agree_read : ActualsAgree sh g.callee given g.read uc f
    agree_read = record { at = λ d a b n j l. agree.at d a b (rw n refl) j l }

    in_forth : Course
    in_forth = course_in qs depth sh level g.callee.forth nothing ds given forth_in.unit forth_in.found forth_in.naming forth_in.separates forth_in.named (F +++ pushes p own_line left) forth_in.body f base t

    way : Way q0 shG (suc level) ys 0 F B needed held held written in_forth u' start_f t change loops
    way = sweeps.way in_forth start_f t agrees_in

    pushed : Pushed q0 shG (suc level) p own_line left (pushes p own_line left) (pops p own_line left) way.to
    pushed = group_pushed q0 shG (suc level) p own_line known left way.to

    abbrev full : List ℤ
    full = pushed.trail ++ (way.trail ++ t)

    -- what the forward unit does is known
    known_forth : ForthCalled q1 sh level xs g given g.callee.forth g.callee.back line also base uc' f t turned loops'
    known_forth = pair base f t agree

    -- its sweep, and what it leaves on the tape
    record Swept (s : Scene ℤ) (k rest : ℕ) : Type 0 where
      after : Scene ℤ
      middle : ℕ
      ran : run q0 ng F (scene in_forth start_f t) k ≡ Done after middle
      is : after ≡ scene way.runs.later way.to (way.trail ++ t)
      few : middle ≤ rest + length left
      tape : s.tape ≡ full

    forth_swept : (s : Scene ℤ) (k rest : ℕ) → act q1 nw (call g.callee.forth (actuals_named given)) line (scene base f t) k ≡ Done s rest → Swept s k rest
    unfolding start_f in_forth
    forth_swept s k rest h =
        let there : q1 nw g.callee.forth (actuals_in (bindings nothing ds given)) line (scene base f t) k ≡ Done s rest = ap (λ es. q1 nw g.callee.forth es line (scene base f t) k) (actuals_bound ds given many) ∙ h in
        let e = forth_in.enters f agree_read in
        let w = within qs depth sh level g.callee.forth nothing ds given forth_in.unit forth_in.found forth_in.naming forth_in.separates forth_in.named (F +++ pushes p own_line left) forth_in.body f shF e.1 base t line s k rest there in
        let b = run_beside qs depth ng (on_words shF (suc level)) beside_is (F +++ pushes p own_line left) stays in_forth start_f t no_shadows w.end k rest w.ran in
        let o = append_done q0 ng F (pushes p own_line left) (scene in_forth start_f t) b.there k rest b.ran in
        let is1 = one_end qs depth ng F (scene in_forth start_f t) (scene way.runs.later way.to (way.trail ++ t)) o.scene k o.left way.runs.runs o.first in
        let second : run q0 ng (pushes p own_line left) (scene way.runs.later way.to (way.trail ++ t)) o.left ≡ Done b.there rest = ap (λ z. run q0 ng (pushes p own_line left) z o.left) (sym is1) ∙ o.second in
        let c = pushed.pushed way.runs.later (way.trail ++ t) in
        let is2 = one_end qs depth ng (pushes p own_line left) (scene way.runs.later way.to (way.trail ++ t)) (scene c.later way.to full) b.there o.left rest c.runs second in
        let n = straight_cost q0 ng (pushes p own_line left) (straight_pushes p own_line left) (scene way.runs.later way.to (way.trail ++ t)) b.there o.left rest second in
        let m = pushes_count p own_line left in
        record { after = o.scene; middle = o.left; ran = o.first; is = is1; few = omega (arith, n, m); tape = sym w.tape ∙ sym b.tape ∙ ap (λ (z : Scene ℤ). z.tape) is2 }

    module _ (later : Course) (g0 : Store ℤ) (keeps : KeepsRead q1 sh level xs g given g.callee.forth g.callee.back line known_forth.after g0) where
      start_b : Store ℤ
      start_b = passed_in (pos 0) (bindings g.callee.shadowed ds given) g0

      start_b-at : (x : List ℕ) (j : ℕ) → start_b (plain x) j ≡ found_or (beside ds given x) (pos 0) (λ a. g0 (plain a) j)
      unfolding start_b
      start_b-at x j = in_plain (pos 0) g.callee.shadowed g0 ds given x j

      in_back : Course
      in_back = course_in qs depth sh level g.callee.back g.callee.shadowed ds given back_in.unit back_in.found back_in.naming back_in.separates back_in.named (pops p own_line left +++ B) back_in.body g0 later full

      popped : Popped q0 shG (suc level) p own_line left (pops p own_line left) in_back way.to start_b full (way.trail ++ t)
      popped = pushed.popped in_back start_b (way.trail ++ t)

      -- an actual of a dummy that is read and not written has what the forward unit found in it
      unchanged : (d a : List ℕ) → IsActual ds given d a → In (plain d) g.read → g.callee.written (plain d) ≡ false → (j : ℕ) → j < size_of (sh (plain a)) → g0 (plain a) j ≡ f (plain a) j
      unchanged d a h r w j l =
          let off : writes_actual g.callee given (plain a) ≡ false = rw (beside_back ds given apart apart' d a h) w in
          keeps d a h r w j l ∙ known_forth.off.at a j off

      agree_back : ActualsAgree sh g.callee given (λ v. g.read v && not (g.callee.written v)) uc g0
      agree_back = record { at = λ d a h n j l. go d a h j l (g.read (plain d)) refl (g.callee.written (plain d)) refl n }
        where
          go : (d a : List ℕ) → IsActual ds given d a → (j : ℕ) → j < size_of (sh (plain a)) → (r : Bool) → g.read (plain d) ≡ r → (w : Bool) → g.callee.written (plain d) ≡ w → (r && not w) ≡ true → g0 (plain a) j ≡ uc (plain a) j
          go d a h j l true er false ew n = unchanged d a h er ew j l ∙ agree_read.at d a h er j l
          go d a h j l true er true ew n = cc
          go d a h j l false er w ew n = cc

      -- and the backward unit, behind its pops, has what is held
      held_same : SameOn shG held way.to popped.after
      held_same = record { at = λ x j l h. go x j l h (has_name x left) refl }
        where
          from_start : (x : List ℕ) (j : ℕ) → j < size_of (shG (plain x)) → In (plain x) held → has_name x left ≡ false → (o : Option (List ℕ)) → beside ds given x ≡ o → found_or o (pos 0) (λ a. g0 (plain a) j) ≡ way.to (plain x) j
          from_start x j l h e None c = sym (way.off.at x j (unwritten x e) ∙ start_at x j ∙ ap (λ o. found_or o (pos 0) (λ a. f (plain a) j)) c)
          from_start x j l h e (Some a) c =
              let w : g.callee.written (plain x) ≡ false = sym (wrote x) ∙ unwritten x e in
              let r : g.read (plain x) ≡ true = sym (rw (beside_key ds given x a c, w) refl) ∙ h in
              unchanged x a c r w j (subst (λ n. j < n) (sym (sizes x a c)) l) ∙ sym (way.off.at x j (unwritten x e) ∙ start_at x j ∙ ap (λ o. found_or o (pos 0) (λ a. f (plain a) j)) c)

          go : (x : List ℕ) (j : ℕ) → j < size_of (shG (plain x)) → In (plain x) held → (b : Bool) → has_name x left ≡ b → popped.after (plain x) j ≡ way.to (plain x) j
          go x j l h true e = popped.restored.here x j e l
          go x j l h false e = popped.restored.there (plain x) j e ∙ start_b-at x j ∙ from_start x j l h e (beside ds given x) refl

      -- both calls take both sweeps, and a statement to push and one to pop each variable that is left
      both_calls : (s : Scene ℤ) (k rest : ℕ) → act q1 nw (call g.callee.forth (actuals_named given)) line (scene base f t) k ≡ Done s rest → (e : Scene ℤ) (k1 rest1 : ℕ) → act q1 nw (back_call g.callee.back g.callee given) line (scene later g0 s.tape) k1 ≡ Done e rest1 → k + k1 ≤ rest + rest1 + (most + 2 * length left)
      unfolding start_b in_back
      both_calls s k rest h e k1 rest1 h1 =
          let sw = forth_swept s k rest h in
          let there : q1 nw g.callee.back (actuals_in (bindings g.callee.shadowed ds given)) line (scene later g0 full) k1 ≡ Done e rest1 =
          ap (λ (z : List ℤ). q1 nw g.callee.back (actuals_in (bindings g.callee.shadowed ds given)) line (scene later g0 z) k1) (sym sw.tape) ∙ ap (λ es. q1 nw g.callee.back es line (scene later g0 s.tape) k1) (sym (shadows_bound g.callee.shadowed ds given)) ∙ h1 in
          let en = back_in.enters g0 agree_back in
          let w = within qs depth sh level g.callee.back g.callee.shadowed ds given back_in.unit back_in.found back_in.naming back_in.separates back_in.named (pops p own_line left +++ B) back_in.body g0 shG en.1 later full line e k1 rest1 there in
          let o = append_done q0 ng (pops p own_line left) B (scene in_back start_b full) w.end k1 rest1 w.ran in
          let is = one_end qs depth ng (pops p own_line left) (scene in_back start_b full) (scene popped.runs.later popped.after (way.trail ++ t)) o.scene k1 o.left popped.runs.runs o.first in
          let n = straight_cost q0 ng (pops p own_line left) (straight_pops p own_line left) (scene in_back start_b full) o.scene k1 o.left o.first in
          let m = pops_count p own_line left in
          let tape_is : sw.after.tape ≡ way.trail ++ t = ap (λ (z : Scene ℤ). z.tape) sw.is in
          let back : run q0 ng B (scene popped.runs.later popped.after sw.after.tape) o.left ≡ Done w.end rest1 = ap (λ (z : List ℤ). run q0 ng B (scene popped.runs.later popped.after z) o.left) tape_is ∙ ap (λ z. run q0 ng B z o.left) (sym is) ∙ o.second in
          let store_is : SameOn shG held sw.after.store popped.after = subst (λ (z : Scene ℤ). SameOn shG held z.store popped.after) (sym sw.is) held_same in
          let both = cost.at in_forth start_f t agrees_in sw.after k sw.middle sw.ran popped.runs.later popped.after store_is w.end o.left rest1 back in
          let few = sw.few in
          omega (arith, few, n, m, both)

  -- so much they take together
  pub split_cost : (base : Course) (f : Store ℤ) (t : List ℤ) (agree : ActualsAgree sh g.callee given (joined g.read also) uc f) → (s : Scene ℤ) (k rest : ℕ) → act q1 nw (call g.callee.forth (actuals_named given)) line (scene base f t) k ≡ Done s rest →
      (later : Course) (g0 : Store ℤ) → KeepsRead q1 sh level xs g given g.callee.forth g.callee.back line (pair base f t agree).after g0 → (e : Scene ℤ) (k1 rest1 : ℕ) → act q1 nw (back_call g.callee.back g.callee given) line (scene later g0 s.tape) k1 ≡ Done e rest1 → k + k1 ≤ rest + rest1 + (most + 2 * length left)
  unfolding known_forth
  split_cost base f t agree s k rest h later g0 keeps e k1 rest1 h1 = both_calls base f t agree later g0 keeps s k rest h e k1 rest1 h1
