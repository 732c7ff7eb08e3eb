-- What the sweeps of a DO do besides its turns: the variable's old value is pushed before it, and given back after it, and its shadow reset.
use Rattle.std.proofs.Common.{◌≡◌, ◌<◌, ℕ, Bool, true, false, List, [], ◌∷◌, ◌++◌, refl, sym, ap, ◌∙◌, subst, arith, append_assoc, if◌then◌else◌}
use Rattle.std.specs.Prelude.{ℤ, pos, ◌==◌, ◌&&◌}
use Rattle.adj_tree.specs.Code.{Role, Var, plain, shadow, helper, name_eq, none, assign, runtime, push_word, pop_word, Code, stop}
use Rattle.adj_tree.proofs.Names.{name_refl}
use Rattle.adj_word.specs.Word.{add}
use Rattle.adj_word.specs.Pairing.{pairing, put, stands_in, IsApart}
use Rattle.adj_word.proofs.Residues.{add-zero, mul-zero}
use Rattle.adj_word.proofs.Pairings.{pairing-apart, wrap-pairing}
use Rattle.def_meaning.specs.Append.{◌+++◌, one}
use Rattle.def_meaning.specs.Store.{Shape, size_of, Store, set}
use Rattle.def_meaning.specs.Value.{Setting}
use Rattle.def_meaning.specs.Run.{Calls}
use Rattle.law_meaning.proofs.Leadings.{leads_stop, leads_step}
use Rattle.def_names.specs.Numbers.{Vars}
use Rattle.def_sweep.specs.Marks.{Marks}
use Rattle.def_names.specs.Numbering.{point_before}
use Rattle.def_sweep.specs.Marked.{code_if}
use Rattle.def_sweep.specs.Facts.{In, Within}
use Rattle.law_sweep.specs.Pairs.{Key, key_eq, Words, shadows, on_words}
use Rattle.law_sweep.specs.Scenes.{Course, scene}
use Rattle.law_sweep.proofs.KeyVariables.{key_same}
use Rattle.def_sweep.specs.Rows.{literal, resets}
use Rattle.law_sweep.specs.ReversedRow.{ReversedRow}
use Rattle.def_sweep.specs.Reversals.{LoopRun}
use Rattle.law_sweep.specs.Runs.{Comes, SameOn}
use Rattle.law_sweep.proofs.Runs.{comes_stop, comes_leads, comes_append, comes_before, same_within}
use Rattle.law_sweep.proofs.Sweeps.{Matches, Sweeps}
use Rattle.law_sweep.proofs.LoopTangents.{only_cell, put_there}

module _ (sh : Var → Shape) (x : List ℕ) (one_cell : size_of (sh (plain x)) ≡ 1) where
  -- the shadow of the loop's variable is reset
  abbrev pub reset_words : Bool → Words → Words
  reset_words true z = put key_eq z (x, 0) (pos 0)
  reset_words false z = z

  pub reset_other : (r : Bool) (z : Words) (k : Key) → name_eq k.0 x ≡ false → reset_words r z k ≡ z k
  reset_other true z k e = put_there sh x one_cell z k e
  reset_other false z k e = refl

  zero_at : (z : Words) → put key_eq z (x, 0) (pos 0) (x, 0) ≡ pos 0
  zero_at z = ap (λ b. if b && (0 == 0) then pos 0 else z (x, 0)) (name_refl x)

  -- where it isn't, it has no tangent
  pub reset_zero : (m : Marks) (i : ℕ) (r : Bool) → resets m i x ≡ r → (y z : Words) → Matches sh m (point_before i) y z → reset_words r z (x, 0) ≡ pos 0
  reset_zero m i true e y z h = zero_at z
  reset_zero m i false e y z h = h.shadowed (x, 0) (subst (λ n. 0 < n) (sym one_cell) (omega arith)) (turned_round (m.shadowed (plain x)) (m.varied (point_before i) (plain x)) e)
    where
      turned_round : (a b : Bool) → (a && b) ≡ false → (b && a) ≡ false
      turned_round true true e = e
      turned_round true false e = refl
      turned_round false true e = refl
      turned_round false false e = refl

module _ (q : Calls ℤ) (sh : Var → Shape) (level : ℕ) (xs : List Key) (apart : IsApart key_eq xs) (line : ℕ) (x : List ℕ) (one_cell : size_of (sh (plain x)) ≡ 1) (in_list : stands_in key_eq (x, 0) xs ≡ true) where
  abbrev nw : Setting ℤ
  nw = on_words sh level

  abbrev reset_code : Bool → Code
  reset_code r = code_if r (one line (assign (shadow x) none (literal 0)))

  reset_comes : (r : Bool) (b : Course) (g : Store ℤ) (t : List ℤ) → Comes q nw (reset_code r) b g (if r then set g (shadow x) 0 (pos 0) else g) t t []
  reset_comes true b g t =
      comes_leads q nw (one line (assign (shadow x) none (literal 0))) b g (set g (shadow x) 0 (pos 0)) t t
      (leads_step q nw line (assign (shadow x) none (literal 0)) stop (scene b g t) (scene b (set g (shadow x) 0 (pos 0)) t) (scene b (set g (shadow x) 0 (pos 0)) t) (λ k. refl) (leads_stop q nw (scene b (set g (shadow x) 0 (pos 0)) t)))
  reset_comes false b g t = comes_stop q nw b g t

  reset_pairs : (r : Bool) (g : Store ℤ) (z : Words) → pairing xs (shadows (if r then set g (shadow x) 0 (pos 0) else g)) z ≡ pairing xs (shadows g) (reset_words sh x one_cell r z)
  reset_pairs true g z =
      let g1 = set g (shadow x) 0 (pos 0) in
      sym (wrap-pairing xs (shadows g1) z) ∙ sym (add-zero (pairing xs (shadows g1) z)) ∙ ap (add (pairing xs (shadows g1) z)) (sym (mul-zero (g (shadow x) 0)))
      ∙ pairing-apart key_eq key_same xs (shadows g) z (x, 0) (pos 0) apart in_list
  reset_pairs false g z = refl

  reset_plain : (r : Bool) (g : Store ℤ) (y : List ℕ) (j : ℕ) → (if r then set g (shadow x) 0 (pos 0) else g) (plain y) j ≡ g (plain y) j
  reset_plain true g y j = refl
  reset_plain false g y j = refl

  reset_helper : (r : Bool) (g : Store ℤ) (o : Role) (k j : ℕ) → (if r then set g (shadow x) 0 (pos 0) else g) (helper o k) j ≡ g (helper o k) j
  reset_helper true g o k j = refl
  reset_helper false g o k j = refl

  abbrev pushing : Bool → Code
  pushing v = code_if v (one line (runtime (push_word (plain x) none)))

  abbrev popping : Bool → Code
  popping v = code_if v (one line (runtime (pop_word (plain x) none)))

  -- the word that is pushed
  abbrev saved_words : Bool → Store ℤ → List ℤ
  saved_words true f = f (plain x) 0 ∷ []
  saved_words false f = []

  push_comes : (v : Bool) (b : Course) (f : Store ℤ) (t : List ℤ) → Comes q nw (pushing v) b f f t (saved_words v f ++ t) []
  push_comes true b f t =
      comes_leads q nw (pushing true) b f f t (f (plain x) 0 ∷ t)
      (leads_step q nw line (runtime (push_word (plain x) none)) stop (scene b f t) (scene b f (f (plain x) 0 ∷ t)) (scene b f (f (plain x) 0 ∷ t)) (λ k. refl) (leads_stop q nw (scene b f (f (plain x) 0 ∷ t))))
  push_comes false b f t = comes_stop q nw b f t

  abbrev popped_store : Bool → Store ℤ → Store ℤ → Store ℤ
  popped_store true f g = set g (plain x) 0 (f (plain x) 0)
  popped_store false f g = g

  pop_comes : (v : Bool) (b : Course) (f g : Store ℤ) (t : List ℤ) → Comes q nw (popping v) b g (popped_store v f g) (saved_words v f ++ t) t []
  pop_comes true b f g t =
      comes_leads q nw (popping true) b g (popped_store true f g) (f (plain x) 0 ∷ t) t
      (leads_step q nw line (runtime (pop_word (plain x) none)) stop (scene b g (f (plain x) 0 ∷ t)) (scene b (popped_store true f g) t) (scene b (popped_store true f g) t) (λ k. refl) (leads_stop q nw (scene b (popped_store true f g) t)))
  pop_comes false b f g t = comes_stop q nw b g t

  popped_other : (v : Bool) (f g : Store ℤ) (y : List ℕ) (j : ℕ) → name_eq y x ≡ false → popped_store v f g (plain y) j ≡ g (plain y) j
  popped_other true f g y j e = rw e refl
  popped_other false f g y j e = refl

  popped_shadow : (v : Bool) (f g : Store ℤ) (y : List ℕ) (j : ℕ) → popped_store v f g (shadow y) j ≡ g (shadow y) j
  popped_shadow true f g y j = refl
  popped_shadow false f g y j = refl

  popped_helper : (v : Bool) (f g : Store ℤ) (o : Role) (k j : ℕ) → popped_store v f g (helper o k) j ≡ g (helper o k) j
  popped_helper true f g o k j = refl
  popped_helper false f g o k j = refl

  -- what is held before the loop is there again, where its variable is saved if it is held
  held_again : (held : Vars) (v : Bool) → (In (plain x) held → v ≡ true) → (f g : Store ℤ) → ((y : List ℕ) (j : ℕ) → j < size_of (sh (plain y)) → name_eq y x ≡ false → In (plain y) held → g (plain y) j ≡ f (plain y) j) → SameOn sh held f (popped_store v f g)
  held_again held v saves f g stays = record { at = λ y j lt h. go y j lt h (name_eq y x) refl }
    where
      own : (v : Bool) → (In (plain x) held → v ≡ true) → In (plain x) held → popped_store v f g (plain x) 0 ≡ f (plain x) 0
      own true s h = rw (name_refl x) refl
      own false s h = absurd (let c : false ≡ true = s h in cc)

      go : (y : List ℕ) (j : ℕ) → j < size_of (sh (plain y)) → In (plain y) held → (b : Bool) → name_eq y x ≡ b → popped_store v f g (plain y) j ≡ f (plain y) j
      go y j lt h true e =
          let c : (y, j) ≡ (x, 0) = only_cell sh x one_cell (y, j) lt e in
          ap (λ (k : Key). popped_store v f g (plain k.0) k.1) c ∙ own v saves (ap (λ (k : Key). held (plain k.0)) (sym c) ∙ h) ∙ ap (λ (k : Key). f (plain k.0) k.1) (sym c)
      go y j lt h false e = popped_other v f g y j e ∙ stays y j lt e h

  -- the sweeps of the statement, by those of its turns
  pub ended_sweeps : (d : ℕ) (needed needed_in needed_after held_before held_after wrote : Vars) (forth back : Code) (u u' : Store ℤ) (change : Words → Words) (loops : List LoopRun) (v r : Bool) → (In (plain x) held_before → v ≡ true) → Within needed_after needed_in → ((y : List ℕ) → wrote (plain y) ≡ false → name_eq y x ≡ false) →
      ((b : Course) (f : Store ℤ) (t : List ℤ) → SameOn sh needed u f → ReversedRow q sh level xs d x wrote needed_in held_after held_before forth back b u' f t change loops) →
      Sweeps q sh level xs d (pushing v +++ forth) (back +++ (popping v +++ reset_code r)) needed needed_after held_before held_after wrote u u' (λ z. change (reset_words sh x one_cell r z)) loops
  ended_sweeps d needed needed_in needed_after held_before held_after wrote forth back u u' change loops v r saves exits other rows = record {
    way = λ b f t s.
        let t1 = saved_words v f ++ t in
        let c1 = push_comes v b f t in
        let k = rows c1.later f t1 s in
        let e : k.trail ++ (saved_words v f ++ t) ≡ (k.trail ++ saved_words v f) ++ t = sym (append_assoc k.trail (saved_words v f) t) in
        record {
          to = k.to;
          trail = k.trail ++ saved_words v f;
          runs = subst (λ (z : List ℤ). Comes q nw (pushing v +++ forth) b f k.to t z []) e
              (comes_append q nw (pushing v) forth b f f k.to t t1 (k.trail ++ t1) c1 k.runs);
          same = same_within sh needed_in needed_after u' k.to exits k.same;
          off = k.off;
          shadows = k.shades;
          depth = record { at = λ a n c lt le. k.depth a n c lt le };
          returns = λ b1 g h.
              let o = k.returns b1 g h in
              let g1 = popped_store v f o.after in
              let g2 = if r then set g1 (shadow x) 0 (pos 0) else g1 in
              let c2 = pop_comes v o.runs.later f o.after t in
              let c3 = reset_comes r c2.later g1 t in
              let again = held_again held_before v saves f o.after o.stays in
              record {
                after = g2;
                reversals = o.reversals;
                reversed = o.reversed;
                runs = subst (λ (z : List ℤ). Comes q nw (back +++ (popping v +++ reset_code r)) b1 g g2 z t o.reversals) e
                    (comes_before q nw back (popping v +++ reset_code r) b1 g o.after g2 (k.trail ++ t1) t1 t o.runs
                    (comes_append q nw (popping v) (reset_code r) o.runs.later o.after g1 g2 t1 t t c2 c3));
                same = record { at = λ y j lt i. reset_plain r g1 y j ∙ again.at y j lt i };
                off = record { at = λ y j n. reset_plain r g1 y j ∙ popped_other v f o.after y j (other y n) ∙ o.off.at y j n };
                pairs = λ z. reset_pairs r g1 z ∙ ap (λ s. pairing xs s (reset_words sh x one_cell r z)) (λ i y. popped_shadow v f o.after y.0 y.1 i) ∙ o.pairs (reset_words sh x one_cell r z);
                depth = record { at = λ a n c lt le. reset_helper r g1 a n c ∙ popped_helper v f o.after a n c ∙ o.depth a n c lt le };
              };
        };
  }
