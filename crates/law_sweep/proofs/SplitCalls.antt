-- The two units of a split call are a split pair, where the sweeps of the unit are right by the facts of split units.
use Rattle.std.proofs.Common.{◌≡◌, ◌<◌, ℕ, suc, Bool, true, false, List, [], ◌++◌, refl, sym, ap, ◌∙◌, subst, append_assoc, if◌then◌else◌}
use Rattle.std.specs.Prelude.{ℤ, pos, not, ◌&&◌, ◌||◌, Option, Some, None}
use Rattle.adj_tree.specs.Code.{Var, plain, shadow, call, Code, Procedure}
use Rattle.adj_word.specs.Pairing.{pairing, IsApart}
use Rattle.def_meaning.specs.Append.{◌+++◌}
use Rattle.def_meaning.specs.Store.{Shape, size_of, Store}
use Rattle.def_meaning.specs.Run.{Calls}
use Rattle.def_meaning.specs.Units.{calls_of}
use Rattle.def_names.specs.Numbers.{Vars}
use Rattle.def_sweep.specs.Facts.{In, joined}
use Rattle.def_meaning.specs.Apart.{has_name, AreApart}
use Rattle.law_sweep.specs.Pairs.{Key, key_eq, Words, shadows, on_words}
use Rattle.law_sweep.specs.Scenes.{Course}
use Rattle.def_sweep.specs.Plan.{Plan, beside, IsActual, actuals_named, writes_actual, found_or}
use Rattle.def_sweep.specs.Rows.{pushes, pops}
use Rattle.law_sweep.specs.Kernel.{AsMany}
use Rattle.def_sweep.specs.Callees.{nothing, CalleeFacts}
use Rattle.def_sweep.specs.Bindings.{bindings}
use Rattle.law_sweep.specs.Passing.{passed_in}
use Rattle.def_sweep.specs.Reversals.{LoopRun}
use Rattle.law_sweep.specs.Runs.{Comes, ActComes, SameOn, SameOff}
use Rattle.law_sweep.specs.Steps.{ActualsAgree}
use Rattle.law_sweep.proofs.Runs.{comes_append}
use Rattle.law_sweep.proofs.Sweeps.{Returns, Way, Sweeps}
use Rattle.law_sweep.proofs.Passing.{beside_back, beside_key, in_plain, in_shadow}
use Rattle.law_sweep.proofs.CallDuals.{actuals_bound, shadows_bound}
use Rattle.law_sweep.proofs.CallTangents.{shadows_out}
use Rattle.law_sweep.proofs.Snapshots.{KnowsArrays}
use Rattle.law_sweep.proofs.Groups.{Pushed, Popped, group_pushed}
use Rattle.def_sweep.specs.SplitRows.{left_of, back_call}
use Rattle.def_sweep.specs.SplitMarks.{split_needed, split_held}
use Rattle.law_sweep.specs.SplitCalled.{KeepsRead, BackCalled, ForthCalled}
use Rattle.law_sweep.proofs.Left.{left_in, left_has}
use Rattle.law_sweep.proofs.Handing.{UnitCalled, unit_called, entered, pairs_through, CellsMeet}
use Rattle.law_sweep.proofs.Entered.{UnitEnters, Moved, Moves}

module _ (qs : List Procedure) (depth : ℕ) (sh : Var → Shape) (level : ℕ) (xs ys : List Key) (apart_xs : IsApart key_eq xs) (apart_ys : IsApart key_eq ys) (g : CalleeFacts) (given : List (List ℕ)) (many : AsMany g.callee.dummies given) (apart : AreApart g.callee.dummies) (apart' : AreApart given) (meet : CellsMeet g.callee given xs ys)
    -- the unit: its variables, their shapes, what it writes, and its sweeps
    (shG shF : Var → Shape) (sizes : (d a : List ℕ) → IsActual g.callee.dummies given d a → size_of (sh (plain a)) ≡ size_of (shG (plain d))) (p : Plan) (known : KnowsArrays p shG) (own_line : ℕ) (vars : List (List ℕ)) (written : Vars) (wrote : (d : List ℕ) → written (plain d) ≡ g.callee.written (plain d)) (has_written : (x : List ℕ) → written (plain x) ≡ true → has_name x vars ≡ true) (F B : Code)
    -- the program's call leads uc to uc', and in the unit u to u'
    (uc uc' u u' : Store ℤ) (start_is : u ≡ passed_in (pos 0) (bindings nothing g.callee.dummies given) uc) (program : (d a : List ℕ) → IsActual g.callee.dummies given d a → (j : ℕ) → uc' (plain a) j ≡ u' (plain d) j)
    (change : Words → Words) (loops : List LoopRun)
    -- the two units
    (forth back : List ℕ)
    (forth_in : UnitEnters qs depth sh level forth g.callee nothing g.read given (F +++ pushes p own_line (left_of g.callee.written g.callee.dummies vars)) uc shF)
    (back_in : UnitEnters qs depth sh level back g.callee g.callee.shadowed (λ v. g.read v && not (g.callee.written v)) given (pops p own_line (left_of g.callee.written g.callee.dummies vars) +++ B) uc shG)
    (moves : Moves (calls_of qs depth) shG shF (suc level) (F +++ pushes p own_line (left_of g.callee.written g.callee.dummies vars)))
    (line : ℕ) (also : Vars)
    (sweeps : let n = split_needed g.callee.dummies g.read also in let h = split_held g.callee.dummies g.callee.written g.read in Sweeps (calls_of qs depth) shG (suc level) ys 0 F B n n h h written u u' change loops) where
  abbrev ds : List (List ℕ)
  ds = g.callee.dummies

  abbrev left : List (List ℕ)
  left = left_of g.callee.written ds vars

  abbrev needed : Vars
  needed = split_needed ds g.read also

  abbrev held : Vars
  held = split_held ds g.callee.written g.read

  abbrev q0 : Calls ℤ
  q0 = calls_of qs depth

  abbrev turned : Words → Words
  turned = shadows_out g.callee.shadowed ds given change

  -- what isn't left on the tape isn't written
  unwritten : (x : List ℕ) → has_name x left ≡ false → written (plain x) ≡ false
  unwritten x h = go (written (plain x)) refl
    where
      go : (b : Bool) → written (plain x) ≡ b → written (plain x) ≡ false
      go false e = e
      go true e =
          let w : g.callee.written (plain x) ≡ true = sym (wrote x) ∙ e in
          let o : (not (has_name x ds) || g.callee.written (plain x)) ≡ true = rw w (last (not (has_name x ds))) in
          absurd (let c : true ≡ false = sym (left_in g.callee.written ds vars x (has_written x e) o) ∙ h in cc)
        where
          last : (b : Bool) → (b || true) ≡ true
          last true = refl
          last false = refl

  -- a dummy that isn't written isn't left there
  unleft : (d : List ℕ) → has_name d ds ≡ true → g.callee.written (plain d) ≡ false → has_name d left ≡ false
  unleft d h w = go (has_name d left) refl
    where
      go : (b : Bool) → has_name d left ≡ b → has_name d left ≡ false
      go false e = e
      go true e = absurd (let c : (not (has_name d ds) || g.callee.written (plain d)) ≡ true = left_has g.callee.written ds vars d e in let n : false ≡ true = sym (rw (h, w) refl) ∙ c in cc)

  module _ (base : Course) (f : Store ℤ) (t : List ℤ) (agree : ActualsAgree sh g.callee given (joined g.read also) uc f) where
    -- ---- forward

    start_f : Store ℤ
    start_f = passed_in (pos 0) (bindings nothing ds given) f

    start_at : (x : List ℕ) (j : ℕ) → start_f (plain x) j ≡ found_or (beside ds given x) (pos 0) (λ a. f (plain a) j)
    unfolding start_f
    start_at x j = in_plain (pos 0) nothing f ds given x j

    agrees_in : SameOn shG needed u start_f
    agrees_in = record {
      at = λ x j l h. start_at x j ∙ go x j l h (beside ds given x) refl ∙ sym (ap (λ (s : Store ℤ). s (plain x) j) start_is ∙ in_plain (pos 0) nothing uc ds given x j);
    }
      where
        wanted : (x : List ℕ) → has_name x ds ≡ true → In (plain x) needed → (g.read (plain x) || also (plain x)) ≡ true
        wanted x d h = sym (ap (λ b. not b || (g.read (plain x) || also (plain x))) d) ∙ h

        go : (x : List ℕ) (j : ℕ) → j < size_of (shG (plain x)) → In (plain x) needed → (o : Option (List ℕ)) → beside ds given x ≡ o → found_or o (pos 0) (λ a. f (plain a) j) ≡ found_or o (pos 0) (λ a. uc (plain a) j)
        go x j l h None b = refl
        go x j l h (Some a) b = agree.at x a b (wanted x (beside_key ds given x a b) h) j (subst (λ n. j < n) (sym (sizes x a b)) l)

    agree_read : ActualsAgree sh g.callee given g.read uc f
    agree_read = record { at = λ d a b n j l. agree.at d a b (rw n refl) j l }

    in_forth : Course
    in_forth = entered qs depth sh level forth nothing ds given apart apart' forth_in.unit forth_in.found forth_in.naming forth_in.separates forth_in.plainly_named forth_in.named (F +++ pushes p own_line left) forth_in.body f base t

    way : Way q0 shG (suc level) ys 0 F B needed held held written in_forth u' start_f t change loops
    way = sweeps.way in_forth start_f t agrees_in

    pushed : Pushed q0 shG (suc level) p own_line left (pushes p own_line left) (pops p own_line left) way.to
    pushed = group_pushed q0 shG (suc level) p own_line known left way.to

    abbrev full : List ℤ
    full = pushed.trail ++ (way.trail ++ t)

    run_forth : Comes q0 (on_words shG (suc level)) (F +++ pushes p own_line left) in_forth start_f way.to t full []
    run_forth = comes_append q0 (on_words shG (suc level)) F (pushes p own_line left) in_forth start_f way.to way.to t (way.trail ++ t) full way.runs (pushed.pushed way.runs.later (way.trail ++ t))

    no_shadows : (x : List ℕ) (j : ℕ) → start_f (shadow x) j ≡ pos 0
    unfolding start_f
    no_shadows x j = in_shadow (pos 0) nothing f ds given x j

    moved : Moved q0 shF (suc level) (F +++ pushes p own_line left) in_forth start_f way.to t full
    moved = moves in_forth start_f way.to t full no_shadows run_forth

    called : UnitCalled (calls_of qs (suc depth)) sh level forth line nothing ds given base f moved.to t full []
    unfolding start_f in_forth
    called =
        let e = forth_in.enters f agree_read in
        unit_called qs depth sh level forth nothing ds given apart apart' forth_in.unit forth_in.found forth_in.naming forth_in.separates forth_in.plainly_named forth_in.named (F +++ pushes p own_line left) forth_in.body f shF e.0 e.1 line base t full moved.to moved.runs

    -- an actual has what its dummy has at the end
    actual_after : (d a : List ℕ) → IsActual ds given d a → (j : ℕ) → called.after (plain a) j ≡ way.to (plain d) j
    actual_after d a b j =
        called.handed.plains a j ∙ ap (λ o. found_or o (f (plain a) j) (λ d. moved.to (plain d) j)) (beside_back ds given apart apart' d a b) ∙ moved.same d j

    actual_start : (d a : List ℕ) → IsActual ds given d a → (j : ℕ) → start_f (plain d) j ≡ f (plain a) j
    actual_start d a b j = start_at d j ∙ ap (λ o. found_or o (pos 0) (λ a. f (plain a) j)) b

    inner_size : (d a : List ℕ) → IsActual ds given d a → (j : ℕ) → j < size_of (sh (plain a)) → j < size_of (shG (plain d))
    inner_size d a b j l = subst (λ n. j < n) (sizes d a b) l

    -- what isn't an actual of a dummy that is written is as it was
    kept : SameOff (writes_actual g.callee given) f called.after
    kept = record { at = λ x j h. called.handed.plains x j ∙ go x j (beside given ds x) refl h }
      where
        go : (x : List ℕ) (j : ℕ) (o : Option (List ℕ)) → beside given ds x ≡ o → found_or o false (λ d. g.callee.written (plain d)) ≡ false → found_or o (f (plain x) j) (λ d. moved.to (plain d) j) ≡ f (plain x) j
        go x j None e h = refl
        go x j (Some d) e h = moved.same d j ∙ way.off.at d j (wrote d ∙ h) ∙ actual_start d x (beside_back given ds apart' apart x d e) j

    shadows_kept : (x : List ℕ) (j : ℕ) → called.after (shadow x) j ≡ f (shadow x) j
    shadows_kept x j = called.handed.shadows x j ∙ go (beside given ds x)
      where
        go : (o : Option (List ℕ)) → found_or o (f (shadow x) j) (λ d. if nothing (plain d) then moved.to (shadow d) j else f (shadow x) j) ≡ f (shadow x) j
        go None = refl
        go (Some d) = refl

    -- ---- backward

    module _ (b : Course) (g0 : Store ℤ) (keeps : KeepsRead (calls_of qs (suc depth)) sh level xs g given forth back line called.after g0) where
      start_b : Store ℤ
      start_b = passed_in (pos 0) (bindings g.callee.shadowed ds given) g0

      start_b-at : (x : List ℕ) (j : ℕ) → start_b (plain x) j ≡ found_or (beside ds given x) (pos 0) (λ a. g0 (plain a) j)
      unfolding start_b
      start_b-at x j = in_plain (pos 0) g.callee.shadowed g0 ds given x j

      in_back : Course
      in_back = entered qs depth sh level back g.callee.shadowed ds given apart apart' back_in.unit back_in.found back_in.naming back_in.separates back_in.plainly_named back_in.named (pops p own_line left +++ B) back_in.body g0 b full

      popped : Popped q0 shG (suc level) p own_line left (pops p own_line left) in_back way.to start_b full (way.trail ++ t)
      popped = pushed.popped in_back start_b (way.trail ++ t)

      -- the dummies that the unit reads and doesn't write hold what the forward unit had
      agree_back : ActualsAgree sh g.callee given (λ v. g.read v && not (g.callee.written v)) uc g0
      agree_back = record { at = λ d a h n j l. go d a h j l (g.read (plain d)) refl (g.callee.written (plain d)) refl n }
        where
          go : (d a : List ℕ) → IsActual ds given d a → (j : ℕ) → j < size_of (sh (plain a)) → (r : Bool) → g.read (plain d) ≡ r → (w : Bool) → g.callee.written (plain d) ≡ w → (r && not w) ≡ true → g0 (plain a) j ≡ uc (plain a) j
          go d a h j l true er false ew n =
              let off : writes_actual g.callee given (plain a) ≡ false = rw (beside_back ds given apart apart' d a h) ew in
              keeps d a h er ew j l ∙ kept.at a j off ∙ agree_read.at d a h er j l
          go d a h j l true er true ew n = cc
          go d a h j l false er w ew n = cc

      held_same : SameOn shG held way.to popped.after
      held_same = record { at = λ x j l h. go x j l h (has_name x left) refl }
        where
          from_start : (x : List ℕ) (j : ℕ) → j < size_of (shG (plain x)) → In (plain x) held → has_name x left ≡ false → (o : Option (List ℕ)) → beside ds given x ≡ o → found_or o (pos 0) (λ a. g0 (plain a) j) ≡ way.to (plain x) j
          from_start x j l h e None c =
              sym (way.off.at x j (unwritten x e) ∙ start_at x j ∙ ap (λ o. found_or o (pos 0) (λ a. f (plain a) j)) c)
          from_start x j l h e (Some a) c =
              let w : g.callee.written (plain x) ≡ false = sym (wrote x) ∙ unwritten x e in
              let r : g.read (plain x) ≡ true = sym (rw (beside_key ds given x a c, w) refl) ∙ h in
              keeps x a c r w j (subst (λ n. j < n) (sym (sizes x a c)) l) ∙ actual_after x a c j

          go : (x : List ℕ) (j : ℕ) → j < size_of (shG (plain x)) → In (plain x) held → (t : Bool) → has_name x left ≡ t → popped.after (plain x) j ≡ way.to (plain x) j
          go x j l h true e = popped.restored.here x j e l
          go x j l h false e = popped.restored.there (plain x) j e ∙ start_b-at x j ∙ from_start x j l h e (beside ds given x) refl

      returns : Returns q0 shG (suc level) ys 0 B held written popped.runs.later start_f popped.after (way.trail ++ t) t change loops
      returns = way.returns popped.runs.later popped.after held_same

      run_back : Comes q0 (on_words shG (suc level)) (pops p own_line left +++ B) in_back start_b returns.after full t returns.reversals
      run_back = comes_append q0 (on_words shG (suc level)) (pops p own_line left) B in_back start_b popped.after returns.after full (way.trail ++ t) t popped.runs returns.runs

      ended : UnitCalled (calls_of qs (suc depth)) sh level back line g.callee.shadowed ds given b g0 returns.after full t returns.reversals
      unfolding start_b in_back
      ended =
          let e = back_in.enters g0 agree_back in
          unit_called qs depth sh level back g.callee.shadowed ds given apart apart' back_in.unit back_in.found back_in.naming back_in.separates back_in.plainly_named back_in.named (pops p own_line left +++ B) back_in.body g0 shG e.0 e.1 line b full t returns.after run_back

      turns : (z : Words) → pairing ys (shadows returns.after) z ≡ pairing ys (shadows start_b) (change z)
      turns z = returns.pairs z ∙ ap (λ s. pairing ys s (change z)) (λ i k. popped.restored.there (shadow k.0) k.1 refl i)

      pairs : (z : Words) → pairing xs (shadows ended.after) z ≡ pairing xs (shadows g0) (turned z)
      unfolding start_b
      pairs z = pairs_through g.callee given apart apart' xs ys apart_xs apart_ys meet g0 returns.after ended.after ended.handed change turns z

      back_called : BackCalled (calls_of qs (suc depth)) sh level xs g given forth back line b f g0 (pushed.trail ++ way.trail) t turned loops
      back_called = record {
        after = ended.after;
        reversals = returns.reversals;
        reversed = returns.reversed;
        runs = subst (λ (l : List ℤ). ActComes (calls_of qs (suc depth)) (on_words sh level) (back_call back g.callee given) line b g0 ended.after l t returns.reversals) (sym (append_assoc pushed.trail way.trail t))
            (subst (λ es. ActComes (calls_of qs (suc depth)) (on_words sh level) (call back es) line b g0 ended.after full t returns.reversals) (sym (shadows_bound g.callee.shadowed ds given)) ended.runs);
        restores = λ d a h n j l. ended.handed.plains a j ∙ ap (λ o. found_or o (g0 (plain a) j) (λ d. returns.after (plain d) j)) (beside_back ds given apart apart' d a h) ∙ returns.same.at d j (inner_size d a h j l) (written_held d n) ∙ actual_start d a h j;
        off = record { at = λ x j h. ended.handed.plains x j ∙ off x j (beside given ds x) refl h };
        helpers = ended.handed.helpers;
        pairs = pairs;
      }
        where
          written_held : (d : List ℕ) → In (plain d) g.callee.written → In (plain d) held
          written_held d n = rw n (last (not (has_name d ds)))
            where
              last : (b : Bool) → (b || true) ≡ true
              last true = refl
              last false = refl

          off : (x : List ℕ) (j : ℕ) (o : Option (List ℕ)) → beside given ds x ≡ o → found_or o false (λ d. g.callee.written (plain d)) ≡ false → found_or o (g0 (plain x) j) (λ d. returns.after (plain d) j) ≡ g0 (plain x) j
          off x j None e h = refl
          off x j (Some d) e h =
              let c : IsActual ds given d x = beside_back given ds apart' apart x d e in
              returns.off.at d j (wrote d ∙ h) ∙ popped.restored.there (plain d) j (unleft d (beside_key ds given d x c) h) ∙ start_b-at d j ∙ ap (λ o. found_or o (pos 0) (λ a. g0 (plain a) j)) c

    -- ---- both

    pub forth_called : ForthCalled (calls_of qs (suc depth)) sh level xs g given forth back line also base uc' f t turned loops
    forth_called = record {
      after = called.after;
      trail = pushed.trail ++ way.trail;
      runs = subst (λ (l : List ℤ). ActComes (calls_of qs (suc depth)) (on_words sh level) (call forth (actuals_named given)) line base f called.after t l []) (sym (append_assoc pushed.trail way.trail t))
          (subst (λ es. ActComes (calls_of qs (suc depth)) (on_words sh level) (call forth es) line base f called.after t full []) (actuals_bound ds given many) called.runs);
      same = λ d a h n j l. actual_after d a h j ∙ way.same.at d j (inner_size d a h j l) (wanted d n) ∙ sym (program d a h j);
      off = kept;
      shadows = shadows_kept;
      helpers = called.handed.helpers;
      returns = λ b g0 keeps. back_called b g0 keeps;
    }
      where
        wanted : (d : List ℕ) → In (plain d) (joined g.read also) → In (plain d) needed
        wanted d n = rw n (last (not (has_name d ds)))
          where
            last : (b : Bool) → (b || true) ≡ true
            last true = refl
            last false = refl
