-- The adjoint of an assignment turns the shadows as the transpose of its derivative, where only active variables have a tangent.
use Rattle.std.proofs.Common.{◌≡◌, ℕ, ◌+◌, ◌<◌, Bool, true, false, List, refl, sym, ap, ◌∙◌, arith}
use Rattle.std.specs.Prelude.{ℤ, pos, Ok, Some, ◌==◌}
use Rattle.adj_tree.specs.Code.{Var, plain, shadow, helper, role_code, work, Term, lit, Terms, none, more, assign, stop}
use Rattle.adj_word.specs.Word.{add, mul}
use Rattle.adj_word.specs.Pairing.{pairing, put, stands_in, IsApart}
use Rattle.adj_word.proofs.Residues.{add-zero, mul-zero}
use Rattle.adj_word.proofs.Pairings.{pairing-apart, wrap-pairing}
use Rattle.def_meaning.specs.Trap.{index, or_trap, then_ok}
use Rattle.def_meaning.specs.Store.{Shape, size_of, cell_of, Store, set}
use Rattle.def_meaning.specs.Value.{value, cell_at, target}
use Rattle.def_meaning.specs.Append.{◌+++◌, one}
use Rattle.def_meaning.specs.Run.{Calls}
use Rattle.law_meaning.proofs.Leadings.{leads_stop, leads_append, leads_assign}
use Rattle.def_names.specs.Numbers.{Vars}
use Rattle.def_sweep.specs.Marked.{code_if, place}
use Rattle.def_sweep.specs.Facts.{In}
use Rattle.def_meaning.specs.Apart.{has_name}
use Rattle.law_sweep.specs.Pairs.{Key, key_eq, shadows, SamePlain, on_words}
use Rattle.law_sweep.specs.Scenes.{Course, scene, masked}
use Rattle.law_sweep.proofs.KeyVariables.{key_same}
use Rattle.law_sweep.proofs.Turned.{Turns}
use Rattle.def_sweep.specs.Occurrences.{is_active_where}
use Rattle.def_sweep.specs.AdjointOf.{temps_in_where, temps_where, back_where, adjoint_where}
use Rattle.law_sweep.proofs.Terms.{nums, cell_or, cell_in, tan, HasCell, AreDefined, values_words}
use Rattle.law_sweep.proofs.TermTangents.{tan_inactive, changed}
use Rattle.law_sweep.proofs.TermUses.{IsOver, AreText, over_treated, IsUsable, tan_same, usable_same, nums_text, all_defined_text}
use Rattle.law_sweep.proofs.Temps.{SameBelow}
use Rattle.law_sweep.proofs.TempsOf.{temps_same, temps_made}
use Rattle.law_sweep.proofs.BackOf.{backs}

-- the subscripts of a target name a cell
abbrev pub HasTarget : (Var → Shape) → Var → Terms → Store ℤ → Type 0
HasTarget sh x none s = Unit {0}
HasTarget sh x (more e es) s = AreDefined sh (more e es) s × HasCell (sh x) (nums sh (more e es) s)

-- where it does, the target is that cell, in each variable of that shape
pub target_is : (sh : Var → Shape) (level : ℕ) (x y : Var) (subs : Terms) (s : Store ℤ) → sh y ≡ sh x → HasTarget sh x subs s → target (on_words sh level) y subs s ≡ Ok (cell_in sh x subs s)
target_is sh level x y none s e h = refl
target_is sh level x y (more a as_) s e h =
    ap (λ r. then_ok r (λ is. cell_at (on_words sh level) y is)) (values_words sh level (more a as_) s h.0) ∙ ap (λ m. or_trap index (cell_of m (nums sh (more a as_) s))) e ∙ ap (or_trap index) h.1

-- in stores with the same values of the text's variables it is the same
pub target_same : (sh : Var → Shape) (x : Var) (subs : Terms) (s s' : Store ℤ) → AreText subs → SamePlain s s' → HasTarget sh x subs s → HasTarget sh x subs s' × (cell_in sh x subs s' ≡ cell_in sh x subs s)
target_same sh x none s s' o h t = (tt, refl)
target_same sh x (more a as_) s s' o h t =
    let e = nums_text sh s s' h (more a as_) o in
    ((all_defined_text sh s s' h (more a as_) o t.0, (λ i. cell_of (sh x) (e i)) ∙ t.1 ∙ ap (λ is. Some (cell_or (cell_of (sh x) is))) (sym e)), ap (λ is. cell_or (cell_of (sh x) is)) e)

-- the value of a place
place_is : (sh : Var → Shape) (level : ℕ) (x y : Var) (subs : Terms) (s : Store ℤ) → sh y ≡ sh x → HasTarget sh x subs s → value (on_words sh level) (place y subs) s ≡ Ok (s y (cell_in sh x subs s))
place_is sh level x y none s e h = refl
place_is sh level x y (more a as_) s e h =
    ap (λ r. then_ok r (λ is. then_ok (cell_at (on_words sh level) y is) (λ i. Ok (s y i)))) (values_words sh level (more a as_) s h.0)
    ∙ ap (λ r. then_ok r (λ i. Ok (s y i))) (ap (λ m. or_trap index (cell_of m (nums sh (more a as_) s))) e ∙ ap (or_trap index) h.1)

module _ (on : Vars) (q : Calls ℤ) (sh : Var → Shape) (level : ℕ) (base : Course) (xs : List Key) (vars : List (List ℕ)) (apart : IsApart key_eq xs) (cells : (x : List ℕ) (j : ℕ) → has_name x vars ≡ true → j < size_of (sh (plain x)) → stands_in key_eq (x, j) xs ≡ true) (shadow_shape : (x : List ℕ) → In (plain x) on → sh (shadow x) ≡ sh (plain x)) where
  -- where no occurrence is active
  turned_none : (d : ℕ) (x : List ℕ) (subs : Terms) (e : Term) (line : ℕ) (s : Store ℤ) (t : List ℤ) → sh (shadow x) ≡ sh (plain x) → HasTarget sh (plain x) subs s → stands_in key_eq (x, cell_in sh (plain x) subs s) xs ≡ true → IsOver vars e → is_active_where on e ≡ false → Turns q sh level base xs d (one line (assign (shadow x) subs (lit (pos 0)))) s t (changed on (x, cell_in sh (plain x) subs s) sh e s)
  turned_none d x subs e line s t shape tg here o idle =
      let c = cell_in sh (plain x) subs s in
      let s1 = set s (shadow x) c (pos 0) in
      record {
        after = s1;
        runs = leads_assign q (on_words sh level) line (shadow x) subs (lit (pos 0)) stop (scene base s t) (scene base s1 t) (pos 0) c refl (target_is sh level (plain x) (shadow x) subs s shape tg) (leads_stop q (on_words sh level) (scene base s1 t));
        plains = record { at = λ y i. refl };
        pairs = λ y.
            sym (wrap-pairing xs (shadows s1) y) ∙ sym (add-zero (pairing xs (shadows s1) y)) ∙ ap (add (pairing xs (shadows s1) y)) (sym (mul-zero (s (shadow x) c)))
            ∙ pairing-apart key_eq key_same xs (shadows s) y (x, c) (pos 0) apart here ∙ ap (λ z. pairing xs (shadows s) (put key_eq y (x, c) z)) (sym (tan_inactive sh on e s y (over_treated vars e o) idle));
        depth = record { at = λ r i c lt le. refl };
      }

  turned_some : (d : ℕ) (x : List ℕ) (subs : Terms) (e : Term) (line : ℕ) (s : Store ℤ) (t : List ℤ) → sh (shadow x) ≡ sh (plain x) → AreText subs → HasTarget sh (plain x) subs s → stands_in key_eq (x, cell_in sh (plain x) subs s) xs ≡ true → IsOver vars e → IsUsable sh on e s → is_active_where on e ≡ true → Turns q sh level base xs d ((temps_where on e 1 line +++ one line (assign (helper work 1) none (place (shadow x) subs))) +++ (one line (assign (shadow x) subs (lit (pos 0))) +++ back_where on e 1 1 line)) s t (changed on (x, cell_in sh (plain x) subs s) sh e s)
  turned_some d x subs e line s t shape st tg here o f act =
      let c = cell_in sh (plain x) subs s in
      let m = temps_made on q sh level base vars e 1 line s t o f in
      let s1 = m.after in
      let g1 = target_same sh (plain x) subs s s1 st m.same.plains tg in
      let w = s1 (shadow x) c in
      let s2 = set s1 (helper work 1) 0 w in
      let s3 = set s2 (shadow x) c (pos 0) in
      let low : SameBelow (1 + temps_in_where on e) s1 s3 = record { plains = record { at = λ y i. refl }; below = λ i lt. refl } in
      let same2 : SamePlain s s2 = record { at = λ y i. m.same.plains.at y i } in
      let from : SamePlain s s3 = record { at = λ y i. m.same.plains.at y i } in
      let g2 = target_same sh (plain x) subs s s2 st same2 tg in
      let b = backs on q sh level base xs vars apart cells shadow_shape e 1 1 line s3 t o (usable_same on sh vars e s s3 o from f) (temps_same on sh vars e 1 s1 s3 o low m.holds) act in
      let sh1 : shadows s1 ≡ shadows s = λ i y. m.shadows y.0 y.1 i in
      let read : value (on_words sh level) (place (shadow x) subs) s1 ≡ Ok w = place_is sh level (plain x) (shadow x) subs s1 shape g1.0 ∙ ap (λ i. Ok (s1 (shadow x) i)) g1.1 in
      let there : target (on_words sh level) (shadow x) subs s2 ≡ Ok c = target_is sh level (plain x) (shadow x) subs s2 shape g2.0 ∙ ap Ok g2.1 in
      record {
        after = b.after;
        runs = leads_append q (on_words sh level) _ _ (scene base s t) (scene base s2 t) (scene base b.after t)
            (leads_append q (on_words sh level) (temps_where on e 1 line) _ (scene base s t) (scene base s1 t) (scene base s2 t) m.runs (leads_assign q (on_words sh level) line (helper work 1) none (place (shadow x) subs) stop (scene base s1 t) (scene base s2 t) w 0 read refl (leads_stop q (on_words sh level) (scene base s2 t))))
            (leads_assign q (on_words sh level) line (shadow x) subs (lit (pos 0)) (back_where on e 1 1 line) (scene base s2 t) (scene base b.after t) (pos 0) c refl there b.runs);
        plains = record { at = λ y i. b.same.plains.at y i ∙ m.same.plains.at y i };
        pairs = λ y.
            b.pairs y ∙ ap (λ z. add (pairing xs (shadows s3) y) (mul w z)) (tan_same sh vars e s s3 (masked on y) o from)
            ∙ pairing-apart key_eq key_same xs (shadows s1) y (x, c) (tan sh e s (masked on y)) apart here ∙ ap (λ g. pairing xs g (changed on (x, c) sh e s y)) sh1;
        depth = record { at = λ r i c lt le. b.same.loops.at r i c (omega arith) ∙ (let ne : (role_code r == 0) ≡ false = grind arith in rw ne (m.loops.at r i c (omega arith))) };
      }

  -- the adjoint of x = e, where the values that it uses are defined
  pub turned : (d : ℕ) (x : List ℕ) (subs : Terms) (e : Term) (line : ℕ) (s : Store ℤ) (t : List ℤ) → sh (shadow x) ≡ sh (plain x) → AreText subs → HasTarget sh (plain x) subs s → stands_in key_eq (x, cell_in sh (plain x) subs s) xs ≡ true → IsOver vars e → IsUsable sh on e s → Turns q sh level base xs d (adjoint_where on x subs e line) s t (changed on (x, cell_in sh (plain x) subs s) sh e s)
  turned d x subs e line s t shape st tg here o f = go (is_active_where on e) refl
    where
      go : (b : Bool) → is_active_where on e ≡ b → Turns q sh level base xs d (code_if b (temps_where on e 1 line +++ one line (assign (helper work 1) none (place (shadow x) subs))) +++ (one line (assign (shadow x) subs (lit (pos 0))) +++ code_if b (back_where on e 1 1 line))) s t (changed on (x, cell_in sh (plain x) subs s) sh e s)
      go true h = turned_some d x subs e line s t shape st tg here o f h
      go false h = turned_none d x subs e line s t shape tg here o h
