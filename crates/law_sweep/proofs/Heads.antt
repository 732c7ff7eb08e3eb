-- The whole body of the head's adjoint: the sweeps with the clearing of shadows between them and at the end.
use Rattle.std.proofs.Common.{◌≡◌, ◌<◌, ℕ, ◌+◌, Bool, true, false, List, [], ◌∷◌, ◌++◌, refl, sym, ap, ◌∙◌, subst, arith, if◌then◌else◌}
use Rattle.std.specs.Prelude.{ℤ, pos, ◌||◌, ◌&&◌, ◌==◌}
use Rattle.adj_tree.specs.Code.{Var, plain, shadow, name_eq, lit, none, assign, runtime, zero_array, Code, stop}
use Rattle.adj_tree.proofs.Names.{name_same}
use Rattle.adj_word.specs.Word.{mul}
use Rattle.adj_word.specs.Pairing.{pairing, stands_in}
use Rattle.adj_word.proofs.Residues.{mul-zero}
use Rattle.def_meaning.specs.Append.{◌+++◌, one}
use Rattle.def_meaning.specs.Store.{Shape, size_of, Store, set, set_all}
use Rattle.def_meaning.specs.Scene.{Done}
use Rattle.def_meaning.specs.Run.{Calls}
use Rattle.law_meaning.proofs.Leadings.{leads_stop}
use Rattle.def_meaning.specs.Apart.{has_name}
use Rattle.def_names.specs.Numbers.{Vars}
use Rattle.def_sweep.specs.Facts.{Facts}
use Rattle.law_sweep.specs.Pairs.{Key, key_eq, Words, with_tangents, on_words, on_duals}
use Rattle.law_sweep.specs.Scenes.{Course, scene, masked_shadows}
use Rattle.law_sweep.proofs.Steps.{assigns}
use Rattle.def_names.proofs.Variables.{or_false}
use Rattle.def_sweep.specs.Plan.{Plan, Schedules}
use Rattle.def_sweep.specs.Emission.{forward_with, backward_with, cleared, adjoint_body_with}
use Rattle.law_sweep.specs.Passing.{plainly}
use Rattle.def_sweep.specs.Reversals.{Reversal, LoopRun, AreReversed, ReversedLines}
use Rattle.law_sweep.proofs.Told.{tells_nothing}
use Rattle.law_sweep.specs.Runs.{Comes, Passes, SameOn}
use Rattle.law_sweep.specs.Lists.{AreVaried, AreReady, TransposesList}
use Rattle.law_sweep.proofs.Runs.{comes_stop, comes_leads, comes_one, comes_append, comes_before}
use Rattle.law_sweep.proofs.Carrying.{pairing_terms}
use Rattle.law_sweep.proofs.Snapshots.{KnowsArrays}

-- the store with the shadow of a variable set to 0
abbrev pub zeroed_one : Plan → List ℕ → Store ℤ → Store ℤ
zeroed_one p x s = if p.arrays (plain x) then set_all s (shadow x) (λ j. pos 0) else set s (shadow x) 0 (pos 0)

-- and those of several
abbrev pub zeroed : Plan → List (List ℕ) → Store ℤ → Store ℤ
zeroed p [] s = s
zeroed p (x ∷ xs) s = zeroed p xs (zeroed_one p x s)

module _ (q : Calls ℤ) (sh : Var → Shape) (level : ℕ) (p : Plan) (line : ℕ) where
  one_cleared : (x : List ℕ) (b : Course) (s : Store ℤ) (t : List ℤ) (a : Bool) → Comes q (on_words sh level) (if a then one line (runtime (zero_array (shadow x))) else one line (assign (shadow x) none (lit (pos 0)))) b s (if a then set_all s (shadow x) (λ j. pos 0) else set s (shadow x) 0 (pos 0)) t t []
  one_cleared x b s t true = comes_one q (on_words sh level) line (runtime (zero_array (shadow x))) b s (set_all s (shadow x) (λ j. pos 0)) t t (record { later = b; tells = tells_nothing level b; runs = record { cost = 0; by = λ k. let e : 0 + k ≡ k = omega arith in ap (Done (scene b (set_all s (shadow x) (λ j. pos 0)) t)) e } })
  one_cleared x b s t false = comes_leads q (on_words sh level) (one line (assign (shadow x) none (lit (pos 0)))) b s (set s (shadow x) 0 (pos 0)) t t
      (assigns q sh level b line (shadow x) (lit (pos 0)) stop s t (pos 0) (scene b (set s (shadow x) 0 (pos 0)) t) refl (leads_stop q (on_words sh level) (scene b (set s (shadow x) 0 (pos 0)) t)))

  pub cleared_runs : (xs : List (List ℕ)) (b : Course) (s : Store ℤ) (t : List ℤ) → Comes q (on_words sh level) (cleared p line xs) b s (zeroed p xs s) t t []
  cleared_runs [] b s t = comes_stop q (on_words sh level) b s t
  cleared_runs (x ∷ xs) b s t =
      let f = one_cleared x b s t (p.arrays (plain x)) in
      comes_append q (on_words sh level) (if p.arrays (plain x) then one line (runtime (zero_array (shadow x))) else one line (assign (shadow x) none (lit (pos 0)))) (cleared p line xs) b s (zeroed_one p x s) (zeroed p xs (zeroed_one p x s)) t t t f (cleared_runs xs f.later (zeroed_one p x s) t)

module _ (p : Plan) where
  pub zeroed_plain : (xs : List (List ℕ)) (s : Store ℤ) (y : List ℕ) (j : ℕ) → zeroed p xs s (plain y) j ≡ s (plain y) j
  zeroed_plain [] s y j = refl
  zeroed_plain (x ∷ xs) s y j = zeroed_plain xs (zeroed_one p x s) y j ∙ go (p.arrays (plain x))
    where
      go : (b : Bool) → (if b then set_all s (shadow x) (λ j. pos 0) else set s (shadow x) 0 (pos 0)) (plain y) j ≡ s (plain y) j
      go true = refl
      go false = refl

  -- other shadows stay
  pub zeroed_others : (xs : List (List ℕ)) (s : Store ℤ) (y : List ℕ) (j : ℕ) → has_name y xs ≡ false → zeroed p xs s (shadow y) j ≡ s (shadow y) j
  zeroed_others [] s y j h = refl
  zeroed_others (x ∷ xs) s y j h =
      let n = or_false (name_eq y x) (has_name y xs) h in
      zeroed_others xs (zeroed_one p x s) y j n.1 ∙ go (p.arrays (plain x)) n.0
    where
      go : (b : Bool) → name_eq y x ≡ false → (if b then set_all s (shadow x) (λ j. pos 0) else set s (shadow x) 0 (pos 0)) (shadow y) j ≡ s (shadow y) j
      go true e = rw e refl
      go false e = rw e refl

  -- equal shadows before, equal shadows after
  zeroed_same : (xs : List (List ℕ)) (s s' : Store ℤ) → ((y : List ℕ) (j : ℕ) → s' (shadow y) j ≡ s (shadow y) j) → (y : List ℕ) (j : ℕ) → zeroed p xs s' (shadow y) j ≡ zeroed p xs s (shadow y) j
  zeroed_same [] s s' h y j = h y j
  zeroed_same (x ∷ xs) s s' h y j = zeroed_same xs (zeroed_one p x s) (zeroed_one p x s') (λ z k. go (p.arrays (plain x)) z k) y j
    where
      go : (b : Bool) (z : List ℕ) (k : ℕ) → (if b then set_all s' (shadow x) (λ j. pos 0) else set s' (shadow x) 0 (pos 0)) (shadow z) k ≡ (if b then set_all s (shadow x) (λ j. pos 0) else set s (shadow x) 0 (pos 0)) (shadow z) k
      go true z k = ap (λ t. if name_eq z x then pos 0 else t) (h z k)
      go false z k = ap (λ t. if name_eq z x && (k == 0) then pos 0 else t) (h z k)

  module _ (sh : Var → Shape) (known : KnowsArrays p sh) where
    -- what was 0 stays 0
    pub stays_zero : (xs : List (List ℕ)) (s : Store ℤ) (y : List ℕ) (j : ℕ) → s (shadow y) j ≡ pos 0 → zeroed p xs s (shadow y) j ≡ pos 0
    stays_zero [] s y j h = h
    stays_zero (x ∷ xs) s y j h = stays_zero xs (zeroed_one p x s) y j (go (p.arrays (plain x)))
      where
        inner : (c : Bool) → (if c then pos 0 else s (shadow y) j) ≡ pos 0
        inner true = refl
        inner false = h

        go : (b : Bool) → (if b then set_all s (shadow x) (λ j. pos 0) else set s (shadow x) 0 (pos 0)) (shadow y) j ≡ pos 0
        go true = inner (name_eq y x)
        go false = inner (name_eq y x && (j == 0))

    pub is_zeroed : (xs : List (List ℕ)) (s : Store ℤ) (y : List ℕ) (j : ℕ) → j < size_of (sh (plain y)) → has_name y xs ≡ true → zeroed p xs s (shadow y) j ≡ pos 0
    is_zeroed [] s y j l h = absurd cc
    is_zeroed (x ∷ xs) s y j l h = go (name_eq y x) refl h (is_zeroed xs (zeroed_one p x s) y j l)
      where
        here : name_eq y x ≡ true → (b : Bool) → p.arrays (plain x) ≡ b → (if b then set_all s (shadow x) (λ j. pos 0) else set s (shadow x) 0 (pos 0)) (shadow y) j ≡ pos 0
        here e true a = rw e refl
        here e false a =
            let one_cell : size_of (sh (plain y)) ≡ 1 = known y (ap (λ z. p.arrays (plain z)) (name_same y x e) ∙ a) in
            let first : j < 1 = subst (λ n. j < n) one_cell l in
            let at : j ≡ 0 = omega arith in
            subst (λ (i : ℕ). set s (shadow x) 0 (pos 0) (shadow y) i ≡ pos 0) (sym at) (rw e refl)

        go : (b : Bool) → name_eq y x ≡ b → (b || has_name y xs) ≡ true → (has_name y xs ≡ true → zeroed p xs (zeroed_one p x s) (shadow y) j ≡ pos 0) → zeroed p xs (zeroed_one p x s) (shadow y) j ≡ pos 0
        go true e h ih = stays_zero xs (zeroed_one p x s) y j (here e (p.arrays (plain x)) refl)
        go false e h ih = ih h

-- what the body of the head's adjoint does from a store s, where the head takes the values u to u'
pub record Reverses (sc : Schedules) (q : Calls ℤ) (lines : ReversedLines) (qd : Calls (ℤ × ℤ)) (sh : Var → Shape) (level : ℕ) (xs : List Key) (p : Plan) (w : Facts) (written : Vars) (i from to line : ℕ) (c : Code) (out into : List (List ℕ)) (base : Course) (u u' s : Store ℤ) (t : List ℤ) : Type 0 where
  pub end : Store ℤ
  -- the runs of loops that are to be reversed, and their reversals
  pub loops : List LoopRun
  pub reversals : List Reversal
  pub reversed : AreReversed loops reversals
  pub runs : Comes q (on_words sh level) (adjoint_body_with sc p i line c out into) base s end t t reversals
  pub derivative : Words → Words
  pub dual : (home : Course) (y : Words) (tape : List (ℤ × ℤ)) → Passes lines qd (on_duals (plainly sh) level) c home (with_tangents u y) (with_tangents u' (derivative y)) tape loops
  pub products : (y : Words) → ((k : Key) → stands_in key_eq k xs ≡ true → has_name k.0 into ≡ true → y k ≡ pos 0) → AreVaried w.marks from y → AreReady xs w.marks to written (zeroed p out s) → pairing xs (masked_shadows w.marks end) y ≡ pairing xs (masked_shadows w.marks (zeroed p out s)) (derivative y)
  pub others : (x : List ℕ) (j : ℕ) → j < size_of (sh (plain x)) → has_name x into ≡ true → end (shadow x) j ≡ pos 0

pub reverses : (sc : Schedules) (q : Calls ℤ) (lines : ReversedLines) (qd : Calls (ℤ × ℤ)) (sh : Var → Shape) (level : ℕ) (xs : List Key) (p : Plan) → KnowsArrays p sh → (w : Facts) (written : Vars) (i from to line : ℕ) (c : Code) (out into : List (List ℕ)) (base : Course) (u u' s : Store ℤ) (t : List ℤ) →
    TransposesList sc q lines qd sh level xs p w 0 written i from to c u u' → SameOn sh (w.needed from) u s → Reverses sc q lines qd sh level xs p w written i from to line c out into base u u' s t
reverses sc q lines qd sh level xs p known w written i from to line c out into base u u' s t l same =
    let n = on_words sh level in
    let f = l.forth base s t same in
    let s1 = zeroed p out f.end in
    let c1 = cleared_runs q sh level p line out f.runs.later f.end (f.trail ++ t) in
    let b = f.back c1.later s1 (record { at = λ x j h o. zeroed_plain p out f.end x j }) in
    let s2 = zeroed p into b.end in
    let c2 = cleared_runs q sh level p line into b.runs.later b.end t in
    let alike : (k : Key) → masked_shadows w.marks s1 k ≡ masked_shadows w.marks (zeroed p out s) k = λ k. ap (λ z. if w.marks.shadowed (plain k.0) then z else pos 0) (zeroed_same p out s f.end f.shadows k.0 k.1) in
    record {
      end = s2;
      loops = l.loops;
      reversals = b.reversals;
      reversed = b.reversed;
      runs =
          let d1 = comes_before q n (backward_with sc p i 0 c) (cleared p line into) c1.later s1 b.end s2 (f.trail ++ t) t t b.runs c2 in
          let d2 = comes_append q n (cleared p line out) (backward_with sc p i 0 c +++ cleared p line into) f.runs.later f.end s1 s2 (f.trail ++ t) (f.trail ++ t) t c1 d1 in
          comes_append q n (forward_with sc p i 0 c) (cleared p line out +++ (backward_with sc p i 0 c +++ cleared p line into)) base s f.end s2 t (f.trail ++ t) t f.runs d2;
      derivative = l.derivative;
      dual = l.dual;
      products = λ y z v ready.
          pairing_terms xs (masked_shadows w.marks s2) (masked_shadows w.marks b.end) y y (λ k o. at_end b.end y z k o (has_name k.0 into) refl)
          ∙ b.products y v (λ k o r a g. alike k ∙ ready k o r a g)
          ∙ ap (λ (e : Words). pairing xs e (l.derivative y)) (λ i k. alike k i);
      others = λ x j h o. is_zeroed p sh known into b.end x j h o;
    }
  where
    at_end : (e : Store ℤ) (y : Words) → ((k : Key) → stands_in key_eq k xs ≡ true → has_name k.0 into ≡ true → y k ≡ pos 0) → (k : Key) → stands_in key_eq k xs ≡ true → (b : Bool) → has_name k.0 into ≡ b → mul (masked_shadows w.marks (zeroed p into e) k) (y k) ≡ mul (masked_shadows w.marks e k) (y k)
    at_end e y z k o true h = ap (mul (masked_shadows w.marks (zeroed p into e) k)) (z k o h) ∙ mul-zero (masked_shadows w.marks (zeroed p into e) k) ∙ sym (ap (mul (masked_shadows w.marks e k)) (z k o h) ∙ mul-zero (masked_shadows w.marks e k))
    at_end e y z k o false h = ap (λ v. mul (if w.marks.shadowed (plain k.0) then v else pos 0) (y k)) (zeroed_others p into e k.0 k.1 h)
