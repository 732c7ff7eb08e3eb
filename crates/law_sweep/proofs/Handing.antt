-- The call of a unit that was made from one of the source, under names of its own: what the caller's variables hold afterwards, and how the
-- pairing goes through the call.
use Rattle.std.proofs.Common.{◌≡◌, ℕ, suc, Bool, true, false, List, refl, sym, ap, ◌∙◌, subst, if◌then◌else◌}
use Rattle.std.specs.Prelude.{ℤ, pos, ◌&&◌, Option, Some, None}
use Rattle.adj_tree.specs.Code.{Role, Var, plain, shadow, helper, call, Code, Procedure}
use Rattle.adj_word.specs.Word.{mul}
use Rattle.adj_word.specs.Pairing.{pairing, stands_in, IsApart}
use Rattle.adj_word.proofs.Residues.{mul-zero, zero-mul}
use Rattle.def_meaning.specs.Numbers.{words}
use Rattle.def_meaning.specs.Store.{Shape, Store}
use Rattle.def_meaning.specs.Run.{Calls}
use Rattle.def_meaning.specs.Written.{find_unit}
use Rattle.def_meaning.specs.Rename.{rename}
use Rattle.def_meaning.specs.Seen.{Separates, pulled_setting}
use Rattle.def_meaning.specs.Units.{dummies_fit, setting_in, dummy_shapes, calls_of}
use Rattle.def_names.specs.Numbers.{Vars}
use Rattle.def_meaning.specs.Apart.{AreApart}
use Rattle.law_sweep.specs.Pairs.{Key, key_eq, Words, shadows, on_words}
use Rattle.law_sweep.specs.Scenes.{Course}
use Rattle.def_sweep.specs.Plan.{beside, Callee, found_or}
use Rattle.def_sweep.specs.Bindings.{Bindings, bindings, actuals_in}
use Rattle.law_sweep.specs.Passing.{passed_in, passed_out}
use Rattle.def_sweep.specs.Reversals.{Reversal}
use Rattle.law_sweep.specs.Runs.{Comes, ActComes}
use Rattle.law_sweep.proofs.Passing.{beside_back, in_plain, in_shadow, out_plain, out_shadow, out_helper}
use Rattle.law_sweep.specs.Emitted.{AreNamed, name_of}
use Rattle.law_sweep.proofs.Entering.{writes_as, actuals_at, entry, kept_at, call_comes, call_keeps}
use Rattle.law_sweep.proofs.Carrying.{pairing_carried}
use Rattle.law_sweep.proofs.CallTangents.{shadows_in, shadows_out}

-- ---- the call

-- what the caller's store f becomes where the unit ends with the store `end`
pub record HandedBack (shadowed : Vars) (ds given : List (List ℕ)) (f end after : Store ℤ) : Type 0 where
  pub plains : (x : List ℕ) (j : ℕ) → after (plain x) j ≡ found_or (beside given ds x) (f (plain x) j) (λ d. end (plain d) j)
  pub shadows : (x : List ℕ) (j : ℕ) → after (shadow x) j ≡ found_or (beside given ds x) (f (shadow x) j) (λ d. if shadowed (plain d) then end (shadow d) j else f (shadow x) j)
  pub helpers : (r : Role) (k j : ℕ) → after (helper r k) j ≡ f (helper r k) j

-- it is what is handed out of the unit, where this holds at its end what was handed in, but for the variables that it writes
module _ (shadowed : Vars) (ds given : List (List ℕ)) (apart : AreApart ds) (apart' : AreApart given) (f end : Store ℤ) (flags : Vars) (unflagged : (v : Var) → flags v ≡ false → (j : ℕ) → end v j ≡ passed_in (pos 0) (bindings shadowed ds given) f v j) where
  plain_of : (x : List ℕ) (j : ℕ) (o : Option (List ℕ)) → beside given ds x ≡ o → found_or o (f (plain x) j) (λ d. if flags (plain d) then end (plain d) j else f (plain x) j) ≡ found_or o (f (plain x) j) (λ d. end (plain d) j)
  plain_of x j None e = refl
  plain_of x j (Some d) e = here (flags (plain d)) refl
    where
      here : (w : Bool) → flags (plain d) ≡ w → (if w then end (plain d) j else f (plain x) j) ≡ end (plain d) j
      here true n = refl
      here false n =
          sym (unflagged (plain d) n j ∙ in_plain (pos 0) shadowed f ds given d j
          ∙ ap (λ o. found_or o (pos 0) (λ y. f (plain y) j)) (beside_back given ds apart' apart x d e))

  shadow_of : (x : List ℕ) (j : ℕ) (o : Option (List ℕ)) → beside given ds x ≡ o → found_or o (f (shadow x) j) (λ d. if shadowed (plain d) && flags (shadow d) then end (shadow d) j else f (shadow x) j) ≡ found_or o (f (shadow x) j) (λ d. if shadowed (plain d) then end (shadow d) j else f (shadow x) j)
  shadow_of x j None e = refl
  shadow_of x j (Some d) e = here (shadowed (plain d)) refl (flags (shadow d)) refl
    where
      here : (b : Bool) → shadowed (plain d) ≡ b → (w : Bool) → flags (shadow d) ≡ w → (if b && w then end (shadow d) j else f (shadow x) j) ≡ (if b then end (shadow d) j else f (shadow x) j)
      here true c true n = refl
      here true c false n =
          let back : beside ds given d ≡ Some x = beside_back given ds apart' apart x d e in
          sym (unflagged (shadow d) n j ∙ in_shadow (pos 0) shadowed f ds given d j ∙ rw (c, back) refl)
      here false c w n = refl

  pub handed_back : HandedBack shadowed ds given f end (passed_out flags (bindings shadowed ds given) end f)
  handed_back = record {
    plains = λ x j. out_plain flags shadowed end x j ds given apart' f ∙ plain_of x j (beside given ds x) refl;
    shadows = λ x j. out_shadow flags shadowed end x j ds given apart' f ∙ shadow_of x j (beside given ds x) refl;
    helpers = λ o k j. out_helper flags shadowed end o k j ds given f;
  }

-- the call of a unit with this code, which leads its entry to the store `end`
pub record UnitCalled (q : Calls ℤ) (sh : Var → Shape) (level : ℕ) (name : List ℕ) (line : ℕ) (shadowed : Vars) (ds given : List (List ℕ)) (base : Course) (f end : Store ℤ) (t t' : List ℤ) (rs : List Reversal) : Type 0 where
  pub after : Store ℤ
  pub runs : ActComes q (on_words sh level) (call name (actuals_in (bindings shadowed ds given))) line base f after t t' rs
  pub handed : HandedBack shadowed ds given f end after

module _ (qs : List Procedure) (depth : ℕ) (sh : Var → Shape) (level : ℕ) (name : List ℕ) (shadowed : Vars) (ds given : List (List ℕ)) (apart : AreApart ds) (apart' : AreApart given) (a : Procedure) (found : find_unit qs name ≡ Some a) (r : Var → Var) (sep : Separates r) (plainly_named : (v : Var) → r v ≡ plain (name_of (r v))) (named : AreNamed r a.dummies (bindings shadowed ds given)) (c : Code) (body : a.body ≡ rename r c) (f : Store ℤ) where
  abbrev bs : Bindings
  bs = bindings shadowed ds given

  abbrev q0 : Calls ℤ
  q0 = calls_of qs depth

  abbrev start : Store ℤ
  start = passed_in (pos 0) bs f

  abbrev flags : Vars
  flags = writes_as qs a r

  abbrev pub entered : Course → List ℤ → Course
  entered base t = kept_at (on_words sh level) a (dummy_shapes (setting_in (on_words sh level) a (entry qs depth (on_words sh level) name a found r sep bs named f)) a) base t

  pub unit_called : {rs : List Reversal} (shG : Var → Shape) → dummies_fit words a (entry qs depth (on_words sh level) name a found r sep bs named f) a.dummies (actuals_at (on_words sh level) f bs) ≡ true → pulled_setting r (setting_in (on_words sh level) a (entry qs depth (on_words sh level) name a found r sep bs named f)) ≡ on_words shG (suc level) →
      (line : ℕ) (base : Course) (t t' : List ℤ) (end : Store ℤ) → Comes q0 (on_words shG (suc level)) c (entered base t) start end t t' rs → UnitCalled (calls_of qs (suc depth)) sh level name line shadowed ds given base f end t t' rs
  unit_called {rs} shG fit shapes line base t t' end run = record {
    after = passed_out flags bs end f;
    runs = call_comes qs depth (on_words sh level) name a found r sep bs named f c body line base t t' end fit inside;
    handed = handed_back shadowed ds given apart apart' f end flags unflagged;
  }
    where
      inside : Comes q0 (pulled_setting r (setting_in (on_words sh level) a (entry qs depth (on_words sh level) name a found r sep bs named f))) c (entered base t) start end t t' rs
      inside = subst (λ n. Comes q0 n c (entered base t) start end t t' rs) (sym shapes) run

      -- what the unit doesn't write is at its end as it was handed in
      unflagged : (v : Var) → flags v ≡ false → (j : ℕ) → end v j ≡ start v j
      unflagged v h j = call_keeps qs depth (on_words sh level) name a found r sep bs named f c body base t t' end inside v (name_of (r v)) (plainly_named v) h j

-- ---- pairing

-- the cells of actuals and of dummies stand for one another
pub record CellsMeet (g : Callee) (given : List (List ℕ)) (xs ys : List Key) : Type 0 where
  pub into : (x d : List ℕ) → beside given g.dummies x ≡ Some d → (j : ℕ) → stands_in key_eq (x, j) xs ≡ true → stands_in key_eq (d, j) ys ≡ true
  pub back : (x d : List ℕ) → beside given g.dummies x ≡ Some d → (j : ℕ) → stands_in key_eq (d, j) ys ≡ true → stands_in key_eq (x, j) xs ≡ true

module _ (g : Callee) (given : List (List ℕ)) (apart : AreApart g.dummies) (apart' : AreApart given) (xs ys : List Key) (apart_xs : IsApart key_eq xs) (apart_ys : IsApart key_eq ys) (meet : CellsMeet g given xs ys) (f end after : Store ℤ) (handed : HandedBack g.shadowed g.dummies given f end after) (change : Words → Words) where
  abbrev pub ds : List (List ℕ)
  ds = g.dummies

  -- the unit's store at its entry
  abbrev at_begin : Store ℤ
  at_begin = passed_in (pos 0) (bindings g.shadowed g.dummies given) f

  -- the cell of a dummy with a shadow for which a cell of the caller stands
  abbrev cell : Key → Option Key
  cell k = found_or (beside given ds k.0) None (λ d. if g.shadowed (plain d) then Some (d, k.1) else None)

  -- a cell that stands for another, taken apart
  record Stands (k m : Key) : Type 0 where
    dummy : List ℕ
    is : beside given ds k.0 ≡ Some dummy
    has : g.shadowed (plain dummy) ≡ true
    same : (dummy, k.1) ≡ m

  stands : (k m : Key) → cell k ≡ Some m → Stands k m
  stands k m h = go (beside given ds k.0) refl h
    where
      go : (o : Option (List ℕ)) → beside given ds k.0 ≡ o → found_or o None (λ d. if g.shadowed (plain d) then Some (d, k.1) else None) ≡ Some m → Stands k m
      go None e h = cc
      go (Some d) e h = here (g.shadowed (plain d)) refl h
        where
          here : (b : Bool) → g.shadowed (plain d) ≡ b → (let o : Option Key = if b then Some (d, k.1) else None in o ≡ Some m) → Stands k m
          here true c h = record { dummy = d; is = e; has = c; same = cc }
          here false c h = cc

  one_each : (k l m : Key) → cell k ≡ Some m → cell l ≡ Some m → k ≡ l
  one_each k l m h e =
      let s = stands k m h in
      let t = stands l m e in
      let same : (s.dummy, k.1) ≡ (t.dummy, l.1) = s.same ∙ sym t.same in
      let d : s.dummy ≡ t.dummy = ap (λ (z : Key). z.0) same in
      let x : beside ds given s.dummy ≡ Some k.0 = beside_back given ds apart' apart k.0 s.dummy s.is in
      let y : beside ds given t.dummy ≡ Some l.0 = beside_back given ds apart' apart l.0 t.dummy t.is in
      let z : Some k.0 ≡ Some l.0 = sym x ∙ ap (beside ds given) d ∙ y in
      let n : k.0 ≡ l.0 = cc in
      λ i. (n i, (same i).1)

  into : (k m : Key) → stands_in key_eq k xs ≡ true → cell k ≡ Some m → stands_in key_eq m ys ≡ true
  into k m o h =
      let s = stands k m h in
      subst (λ z. stands_in key_eq z ys ≡ true) s.same (meet.into k.0 s.dummy s.is k.1 o)

  -- a cell of the unit for which none of the caller stands has no shadow that is handed in, and no tangent
  free_start : (m : Key) → stands_in key_eq m ys ≡ true → ((k : Key) → stands_in key_eq k xs ≡ true → cell k ≡ Some m → ⊥) → at_begin (shadow m.0) m.1 ≡ pos 0
  free_start m o none = in_shadow (pos 0) g.shadowed f ds given m.0 m.1 ∙ go (g.shadowed (plain m.0)) refl (beside ds given m.0) refl
    where
      go : (b : Bool) → g.shadowed (plain m.0) ≡ b → (p : Option (List ℕ)) → beside ds given m.0 ≡ p → (if b then found_or p (pos 0) (λ x. f (shadow x) m.1) else pos 0) ≡ pos 0
      go false c p e = refl
      go true c None e = refl
      go true c (Some x) e =
          let back : beside given ds x ≡ Some m.0 = beside_back ds given apart apart' m.0 x e in
          absurd (none (x, m.1) (meet.back x m.0 back m.1 o) (rw (back, c) refl))

  free_tangent : (z : Words) (m : Key) → stands_in key_eq m ys ≡ true → ((k : Key) → stands_in key_eq k xs ≡ true → cell k ≡ Some m → ⊥) → shadows_in g.shadowed ds given z m ≡ pos 0
  free_tangent z m o none = go (g.shadowed (plain m.0)) refl (beside ds given m.0) refl
    where
      go : (b : Bool) → g.shadowed (plain m.0) ≡ b → (p : Option (List ℕ)) → beside ds given m.0 ≡ p → (if b then found_or p (pos 0) (λ x. z (x, m.1)) else pos 0) ≡ pos 0
      go false c p e = refl
      go true c None e = refl
      go true c (Some x) e =
          let back : beside given ds x ≡ Some m.0 = beside_back ds given apart apart' m.0 x e in
          absurd (none (x, m.1) (meet.back x m.0 back m.1 o) (rw (back, c) refl))

  -- where the unit turns its shadows, the call turns the caller's
  pub pairs_through : ((z : Words) → pairing ys (shadows end) z ≡ pairing ys (shadows at_begin) (change z)) → (z : Words) → pairing xs (shadows after) z ≡ pairing xs (shadows f) (shadows_out g.shadowed ds given change z)
  pairs_through turned z =
      let zi = shadows_in g.shadowed ds given z in
      pairing_carried xs apart_xs ys apart_ys cell one_each into
      (shadows after) z (shadows f) (shadows_out g.shadowed ds given change z)
      (shadows end) zi (shadows at_begin) (change zi)
      (λ k m o h. let s = stands k m h in at_end zi k m s)
      (λ k m o h. let s = stands k m h in at_start zi k m s)
      (λ k o h. elsewhere k h (beside given ds k.0) refl)
      (λ m o none. ap (mul (shadows end m)) (free_tangent z m o none) ∙ mul-zero (shadows end m))
      (λ m o none. ap (λ v. mul v (change zi m)) (free_start m o none) ∙ zero-mul (change zi m))
      (turned zi)
    where
      at_end : (zi : Words) (k m : Key) → Stands k m → mul (shadows after k) (z k) ≡ mul (shadows end m) (shadows_in g.shadowed ds given z m)
      at_end zi k m s =
          let back : beside ds given s.dummy ≡ Some k.0 = beside_back given ds apart' apart k.0 s.dummy s.is in
          let one : shadows after k ≡ shadows end (s.dummy, k.1) = handed.shadows k.0 k.1 ∙ rw (s.is, s.has) refl in
          let two : shadows_in g.shadowed ds given z (s.dummy, k.1) ≡ z k = rw (s.has, back) refl in
          (λ i. mul (one i) (sym two i)) ∙ ap (λ (n : Key). mul (shadows end n) (shadows_in g.shadowed ds given z n)) s.same

      at_start : (zi : Words) (k m : Key) → Stands k m → mul (shadows f k) (shadows_out g.shadowed ds given change z k) ≡ mul (shadows at_begin m) (change (shadows_in g.shadowed ds given z) m)
      at_start zi k m s =
          let back : beside ds given s.dummy ≡ Some k.0 = beside_back given ds apart' apart k.0 s.dummy s.is in
          let one : shadows at_begin (s.dummy, k.1) ≡ shadows f k = in_shadow (pos 0) g.shadowed f ds given s.dummy k.1 ∙ rw (s.has, back) refl in
          let two : shadows_out g.shadowed ds given change z k ≡ change (shadows_in g.shadowed ds given z) (s.dummy, k.1) = rw (s.is, s.has) refl in
          (λ i. mul (sym one i) (two i)) ∙ ap (λ (n : Key). mul (shadows at_begin n) (change (shadows_in g.shadowed ds given z) n)) s.same

      elsewhere : (k : Key) → cell k ≡ None → (o : Option (List ℕ)) → beside given ds k.0 ≡ o → mul (shadows after k) (z k) ≡ mul (shadows f k) (shadows_out g.shadowed ds given change z k)
      elsewhere k h None e =
          let one : shadows after k ≡ shadows f k = handed.shadows k.0 k.1 ∙ rw e refl in
          let two : shadows_out g.shadowed ds given change z k ≡ z k = rw e refl in
          λ i. mul (one i) (sym two i)
      elsewhere k h (Some d) e = go (g.shadowed (plain d)) refl
        where
          go : (b : Bool) → g.shadowed (plain d) ≡ b → mul (shadows after k) (z k) ≡ mul (shadows f k) (shadows_out g.shadowed ds given change z k)
          go true c = absurd (let p : Some (d, k.1) ≡ None = sym (rw (e, c) refl) ∙ h in cc)
          go false c =
              let one : shadows after k ≡ shadows f k = handed.shadows k.0 k.1 ∙ rw (e, c) refl in
              let two : shadows_out g.shadowed ds given change z k ≡ z k = rw (e, c) refl in
              λ i. mul (one i) (sym two i)
