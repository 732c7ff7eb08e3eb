-- The theorem on lists: the pairing of shadows and tangents at both ends.
use Rattle.std.proofs.Common.{◌≡◌, ℕ, Bool, true, false, List, refl, sym, ap, ◌∙◌, if◌then◌else◌}
use Rattle.std.specs.Prelude.{ℤ, pos, ◌&&◌}
use Rattle.adj_tree.specs.Code.{Var, plain, Code}
use Rattle.adj_word.specs.Word.{mul}
use Rattle.adj_word.specs.Pairing.{pairing, stands_in}
use Rattle.adj_word.proofs.Residues.{mul-zero, zero-mul}
use Rattle.def_meaning.specs.Store.{Shape, Store}
use Rattle.def_meaning.specs.Run.{Calls}
use Rattle.def_names.specs.Numbers.{Vars}
use Rattle.def_sweep.specs.Marks.{Marks}
use Rattle.def_sweep.specs.Facts.{In, Facts}
use Rattle.law_sweep.specs.Pairs.{Key, key_eq, Words, shadows}
use Rattle.law_sweep.specs.Scenes.{masked}
use Rattle.law_sweep.proofs.MaskedSums.{masked_sides}
use Rattle.def_sweep.specs.Plan.{Plan, Schedules}
use Rattle.def_sweep.specs.Emission.{forward_with, backward_with}
use Rattle.law_sweep.specs.Lists.{AreVaried, AreReady, TransposesList}
use Rattle.law_sweep.proofs.Carrying.{pairing_terms}
use Rattle.law_sweep.proofs.Sweeps.{IsCell, Matches}
use Rattle.law_sweep.proofs.Transposed.{Transposed}
use Rattle.def_sweep.specs.Reversals.{ReversedLines}

-- at the begin the sweeps have the tangents of the variables with a shadow
begins : (sh : Var → Shape) (m : Marks) (p : ℕ) (y : Words) → ((v : Var) → In v (m.varied p) → In v (m.useful p) → In v m.shadowed) → AreVaried m p y → Matches sh m p y (masked m.shadowed y)
begins sh m p y shadows v = record {
  support = λ k c n. v k n;
  shadowed = λ k c n. go k n (m.shadowed (plain k.0)) refl;
  equal = λ k c a b. ap (λ t. if t then y k else pos 0) (shadows (plain k.0) a b);
}
  where
    left : (a : Bool) → (a && true) ≡ false → a ≡ false
    left true h = h
    left false h = refl

    go : (k : Key) → (m.varied p (plain k.0) && m.shadowed (plain k.0)) ≡ false → (b : Bool) → m.shadowed (plain k.0) ≡ b → (if b then y k else pos 0) ≡ pos 0
    go k n true e = v k (left (m.varied p (plain k.0)) (ap (λ b. m.varied p (plain k.0) && b) (sym e) ∙ n))
    go k n false e = refl

-- at the end the sums are the same where the shadows of what is varied and not useful are 0, or nothing happened to the tangents
ends_alike : (sh : Var → Shape) (xs : List Key) → ((k : Key) → stands_in key_eq k xs ≡ true → IsCell sh k) → (m : Marks) (p : ℕ) (f y z : Words) → Matches sh m p y z → ((k : Key) → stands_in key_eq k xs ≡ true → In (plain k.0) (m.varied p) → m.useful p (plain k.0) ≡ false → In (plain k.0) m.shadowed → mul (f k) (z k) ≡ mul (f k) (y k)) → pairing xs f z ≡ pairing xs (masked m.shadowed f) y
ends_alike sh xs cells m p f y z h idle = pairing_terms xs f (masked m.shadowed f) y z (λ k o. go k o (cells k o) (m.shadowed (plain k.0)) refl (m.varied p (plain k.0)) refl (m.useful p (plain k.0)) refl)
  where
    none : (k : Key) → z k ≡ pos 0 → mul (f k) (z k) ≡ pos 0
    none k e = ap (mul (f k)) e ∙ mul-zero (f k)

    right : (a b : Bool) → b ≡ false → (a && b) ≡ false
    right true b e = e
    right false b e = refl

    go : (k : Key) → stands_in key_eq k xs ≡ true → IsCell sh k → (s : Bool) → m.shadowed (plain k.0) ≡ s → (v : Bool) → m.varied p (plain k.0) ≡ v → (b : Bool) → m.useful p (plain k.0) ≡ b → mul (f k) (z k) ≡ mul (if s then f k else pos 0) (y k)
    go k o c false s v ev b eb = none k (h.shadowed k c (right (m.varied p (plain k.0)) _ s)) ∙ sym (zero-mul (y k))
    go k o c true s false ev b eb = none k (h.shadowed k c (rw ev refl)) ∙ sym (ap (mul (f k)) (h.support k c ev) ∙ mul-zero (f k))
    go k o c true s true ev true eb = ap (mul (f k)) (h.equal k c ev eb)
    go k o c true s true ev false eb = idle k o ev eb s

-- sweeps by a plan, of a unit whose adjoint is emitted
pub list_transposes : (sc : Schedules) (q : Calls ℤ) (lines : ReversedLines) (qd : Calls (ℤ × ℤ)) (sh : Var → Shape) (level : ℕ) (xs : List Key) → ((k : Key) → stands_in key_eq k xs ≡ true → IsCell sh k) → (p : Plan) (w : Facts) (d : ℕ) (written : Vars) (inert : Bool) (i from to : ℕ) (c : Code) (u u' : Store ℤ) →
    ((v : Var) → In v (w.marks.varied from) → In v (w.marks.useful from) → In v w.marks.shadowed) →
    Transposed q lines qd sh level xs w d true written inert from to c (forward_with sc p i d c) (backward_with sc p i d c) u u' → TransposesList sc q lines qd sh level xs p w d written i from to c u u'
list_transposes sc q lines qd sh level xs cells p w d written inert i from to c u u' shadowed t = record {
  derivative = t.derivative;
  loops = t.loops;
  dual = t.dual;
  forth = λ base f l s.
      let k = (t.sweeps refl).way base f l s in
      record {
        end = k.to;
        trail = k.trail;
        runs = k.runs;
        same = k.same;
        shadows = k.shadows;
        back = λ b g r.
            let e = k.returns b g r in
            record {
              end = e.after;
              reversals = e.reversals;
              reversed = e.reversed;
              runs = e.runs;
              same = e.same;
              products = λ y v ready.
                  let z = masked w.marks.shadowed y in
                  sym (masked_sides xs w.marks.shadowed (shadows e.after) y) ∙ e.pairs z
                  ∙ ends_alike sh xs cells w.marks to (shadows g) (t.derivative y) (t.change z) (t.matches y z (begins sh w.marks from y shadowed v))
                  (λ k o a n s. idle y g ready k o a n s (written (plain k.0)) refl);
            };
      };
}
  where
    idle : (y : Words) (g : Store ℤ) → AreReady xs w.marks to written g → (k : Key) → stands_in key_eq k xs ≡ true → In (plain k.0) (w.marks.varied to) → w.marks.useful to (plain k.0) ≡ false → In (plain k.0) w.marks.shadowed → (b : Bool) → written (plain k.0) ≡ b → mul (shadows g k) (t.change (masked w.marks.shadowed y) k) ≡ mul (shadows g k) (t.derivative y k)
    idle y g ready k o a n s true e =
        let none : shadows g k ≡ pos 0 = sym (ap (λ b. if b then shadows g k else pos 0) s) ∙ ready k o e a n in
        ap (λ v. mul v (t.change (masked w.marks.shadowed y) k)) none ∙ zero-mul (t.change (masked w.marks.shadowed y) k) ∙ sym (ap (λ v. mul v (t.derivative y k)) none ∙ zero-mul (t.derivative y k))
    idle y g ready k o a n s false e =
        ap (mul (shadows g k)) ((t.unwritten k e (masked w.marks.shadowed y)).1 ∙ ap (λ b. if b then y k else pos 0) s ∙ sym (t.unwritten k e y).0)
