-- The calls of a step unit and of its adjoint, and the snapshots of its steps, are what a reversal asks for.
use Rattle.std.proofs.Common.{◌≡◌, inl, inr, ◌≤◌, ◌<◌, ℕ, zero, suc, Bool, true, false, List, [], ◌∷◌, ◌++◌, length, refl, sym, ap, ◌∙◌, subst, arith}
use Rattle.std.specs.Prelude.{ℤ, pos, ◌==◌, ◌&&◌, Option, Some, None}
use Rattle.adj_tree.specs.Code.{Role, Var, plain, shadow, helper, name_eq, Mark, call, Code}
use Rattle.adj_tree.proofs.Names.{name_same}
use Rattle.adj_word.specs.Word.{add, mul}
use Rattle.def_meaning.specs.Append.{one}
use Rattle.def_meaning.specs.Store.{Shape, size_of, Store}
use Rattle.def_meaning.specs.Value.{Setting}
use Rattle.def_meaning.specs.Run.{Calls}
use Rattle.def_names.specs.Numbers.{Vars, everything}
use Rattle.def_sweep.specs.Facts.{In, joined}
use Rattle.def_meaning.specs.Apart.{AreApart, has_name}
use Rattle.law_sweep.specs.Pairs.{Key, Words, on_words}
use Rattle.law_meaning.specs.Leads.{Leads}
use Rattle.law_sweep.specs.Scenes.{scene}
use Rattle.def_names.proofs.Variables.{or_left, or_right, or_false}
use Rattle.law_sweep.proofs.Turned.{SameDepth}
use Rattle.def_sweep.specs.Plan.{Plan, beside, IsActual, actuals_named, group, found_or, writes_actual}
use Rattle.def_sweep.specs.Rows.{pushes, pops, adjoint_call}
use Rattle.law_sweep.specs.Laws.{just}
use Rattle.def_sweep.specs.Callees.{CalleeFacts}
use Rattle.law_sweep.specs.Runs.{SameOff}
use Rattle.def_sweep.specs.Reversals.{LoopRun, StepUnits, IsOfStep}
use Rattle.law_sweep.specs.Steps.{ActualsAgree, Steps, words_of}
use Rattle.law_sweep.proofs.Passing.{beside_back}
use Rattle.law_sweep.proofs.CallSweeps.{group_has, group_out}
use Rattle.def_sweep.specs.StepUnits.{step_units}
use Rattle.law_sweep.proofs.Snapshots.{KnowsArrays, Restored, Pushed, group_pushed}
use Rattle.law_sweep.proofs.Goings.{goes_one}
use Rattle.law_sweep.proofs.Acting.{Stepping, SnapshotPopped}

module _ (q : Calls ℤ) (sh : Var → Shape) (level : ℕ) (cells : List Key) (d line : ℕ) (p : Plan) (known : KnowsArrays p sh) (x : List ℕ) (one_cell : size_of (sh (plain x)) ≡ 1) (l m : ℕ) (mark : Mark) (a0 c0 : ℤ) (g : CalleeFacts) (given : List (List ℕ)) (apart : AreApart g.callee.dummies) (apart' : AreApart given) (name : List ℕ) (change : ℕ → Words → Words) (loops : ℕ → List LoopRun) (U U' : ℕ → Store ℤ) (g0 : Store ℤ) where
  abbrev nw : Setting ℤ
  nw = on_words sh level

  abbrev ds : List (List ℕ)
  ds = g.callee.dummies

  abbrev pub reach : Vars
  reach = joined g.callee.members g.read

  abbrev pub wrote : Vars
  wrote = writes_actual g.callee given

  -- the snapshot of a step
  abbrev pub snapshot : List (List ℕ)
  snapshot = group (λ v. g.callee.written v && reach v) everything ds given

  -- what no action changes
  pub record Framed (f : Store ℤ) : Type 0 where
    pub off : SameOff (joined (just (plain x)) wrote) g0 f
    pub depth : SameDepth d g0 f

  -- the store has what the step unit needs and reads as before step i, besides the loop's variable
  pub record Standing (i : ℕ) (f : Store ℤ) : Type 0 where
    pub at : (e a : List ℕ) → IsActual ds given e a → In (plain e) reach → name_eq a x ≡ false → (j : ℕ) → j < size_of (sh (plain a)) → f (plain a) j ≡ U i (plain a) j
    pub framed : Framed f

  -- the same of what the step unit doesn't write
  pub record Loose (f : Store ℤ) : Type 0 where
    pub at : (e a : List ℕ) → IsActual ds given e a → In (plain e) reach → g.callee.written (plain e) ≡ false → name_eq a x ≡ false → (j : ℕ) → j < size_of (sh (plain a)) → f (plain a) j ≡ U 0 (plain a) j
    pub framed : Framed f

  -- words that were pushed as the snapshot from a store that stands before step i
  pub record Snap (i : ℕ) (words : List ℤ) : Type 0 where
    pub from : Store ℤ
    pub stands : (e a : List ℕ) → IsActual ds given e a → In (plain e) reach → name_eq a x ≡ false → (j : ℕ) → j < size_of (sh (plain a)) → from (plain a) j ≡ U i (plain a) j
    pub pushed : Pushed q sh level p line snapshot (pushes p line snapshot) (pops p line snapshot) from
    pub is : words ≡ pushed.trail

  module _ (s : Steps q sh level cells line x g given name l a0 c0 change loops U U') (x_free : wrote (plain x) ≡ false) where
    unwritten : (e a : List ℕ) → IsActual ds given e a → g.callee.written (plain e) ≡ false → wrote (plain a) ≡ false
    unwritten e a b v = let back : beside given ds a ≡ Some e = beside_back ds given apart apart' e a b in rw (back, v) refl

    -- what the step unit doesn't write is at each step as at the first
    as_first : (i : ℕ) (a : List ℕ) (j : ℕ) → i ≤ l → name_eq a x ≡ false → wrote (plain a) ≡ false → U i (plain a) j ≡ U 0 (plain a) j
    as_first zero a j less n v = refl
    as_first (suc i) a j less n v = s.between i a j (omega arith) n ∙ (s.off i (omega arith)).at a j v ∙ as_first i a j (omega arith) n v

    first_cell : (a : List ℕ) (j : ℕ) → j < size_of (sh (plain a)) → name_eq a x ≡ true → j ≡ 0
    first_cell a j lt e =
        let n : a ≡ x = name_same a x e in
        let small : j < 1 = subst (λ z. j < z) (ap (λ z. size_of (sh (plain z))) n ∙ one_cell) lt in
        omega arith

    -- with the loop's variable at its value all actuals are as in the program
    agrees : (i : ℕ) (f : Store ℤ) (set : Vars) → ((v : Var) → In v set → In v reach) → i < l → Standing i f → f (plain x) 0 ≡ add a0 (mul (pos i) c0) → ActualsAgree sh g.callee given set (U i) f
    agrees i f set less small h at = record { at = λ e a b n j lt. go e a b n j lt (name_eq a x) refl }
      where
        go : (e a : List ℕ) → IsActual ds given e a → In (plain e) set → (j : ℕ) → j < size_of (sh (plain a)) → (o : Bool) → name_eq a x ≡ o → f (plain a) j ≡ U i (plain a) j
        go e a b n j lt false o = h.at e a b (less (plain e) n) o j lt
        go e a b n j lt true o =
            let z : j ≡ 0 = first_cell a j lt o in
            let y : a ≡ x = name_same a x o in
            (λ k. f (plain (y k)) (z k)) ∙ at ∙ sym (s.at_step i small) ∙ (λ k. U i (plain (sym y k)) (sym z k))

    -- ---- frames

    framed_on : (f h : Store ℤ) → SameOff wrote f h → ((r : Role) (k c : ℕ) → h (helper r k) c ≡ f (helper r k) c) → Framed f → Framed h
    framed_on f h off helpers fr = record {
      off = record { at = λ y j o. let b = or_false (name_eq y x) (wrote (plain y)) o in off.at y j b.1 ∙ fr.off.at y j o };
      depth = record { at = λ r k c lt le. helpers r k c ∙ fr.depth.at r k c lt le };
    }

    out_of_snapshot : (y : List ℕ) → wrote (plain y) ≡ false → found_or (beside given ds y) false (λ e. g.callee.written (plain e) && reach (plain e)) ≡ false
    out_of_snapshot y h = go (beside given ds y) h
      where
        go : (o : Option (List ℕ)) → found_or o false (λ e. g.callee.written (plain e)) ≡ false → found_or o false (λ e. g.callee.written (plain e) && reach (plain e)) ≡ false
        go None h = refl
        go (Some e) h = rw h refl

    left_out : (y : List ℕ) → wrote (plain y) ≡ false → has_name y snapshot ≡ false
    left_out y h = group_out (λ v. g.callee.written v && reach v) everything ds given y apart' (out_of_snapshot y h)

    framed_beside : (f h : Store ℤ) → ((y : List ℕ) (j : ℕ) → name_eq y x ≡ false → h (plain y) j ≡ f (plain y) j) → ((r : Role) (k c : ℕ) → (k == suc d) ≡ false → h (helper r k) c ≡ f (helper r k) c) → Framed f → Framed h
    framed_beside f h plains helpers fr = record {
      off = record { at = λ y j o. let b = or_false (name_eq y x) (wrote (plain y)) o in plains y j b.0 ∙ fr.off.at y j o };
      depth = record { at = λ r k c lt le. let n : (k == suc d) ≡ false = grind arith in helpers r k c n ∙ fr.depth.at r k c lt le };
    }

    -- ---- snapshots

    snap_pushed : (i : ℕ) (f : Store ℤ) → Standing i f → Snap i ((group_pushed q sh level p line known snapshot f).trail)
    snap_pushed i f h = record { from = f; stands = λ e a b n o j lt. h.at e a b n o j lt; pushed = group_pushed q sh level p line known snapshot f; is = refl }

    -- popped on a loose store, the snapshot makes it stand
    pub popped_stands : (i : ℕ) (f h after : Store ℤ) → i ≤ l → ((e a : List ℕ) → IsActual ds given e a → In (plain e) reach → name_eq a x ≡ false → (j : ℕ) → j < size_of (sh (plain a)) → f (plain a) j ≡ U i (plain a) j) → Loose h → Restored sh snapshot f h after → Standing i after
    popped_stands i f h after fits stands loose r = record {
      at = λ e a b n o j lt. go e a b n o j lt (g.callee.written (plain e)) refl;
      framed = record {
        off = record { at = λ y j o. let z = or_false (name_eq y x) (wrote (plain y)) o in r.there (plain y) j (left_out y z.1) ∙ loose.framed.off.at y j o };
        depth = record { at = λ role k c lt le. r.there (helper role k) c refl ∙ loose.framed.depth.at role k c lt le };
      };
    }
      where
        go : (e a : List ℕ) → IsActual ds given e a → In (plain e) reach → name_eq a x ≡ false → (j : ℕ) → j < size_of (sh (plain a)) → (w : Bool) → g.callee.written (plain e) ≡ w → after (plain a) j ≡ U i (plain a) j
        go e a b n o j lt true w =
            let back : beside given ds a ≡ Some e = beside_back ds given apart apart' e a b in
            r.here a j (group_has (λ v. g.callee.written v && reach v) everything ds given a e back (rw (w, n) refl) refl) lt ∙ stands e a b n o j lt
        go e a b n o j lt false w =
            r.there (plain a) j (left_out a (unwritten e a b w)) ∙ loose.at e a b n w o j lt ∙ sym (as_first i a j fits o (unwritten e a b w))

    -- ---- all together

    abbrev forth_code : Code
    forth_code = pushes p line snapshot

    abbrev back_code : Code
    back_code = pops p line snapshot

    -- so many words has a snapshot
    abbrev pub words : ℕ
    words = words_of sh snapshot

    abbrev pub the_step : StepUnits
    the_step = step_units name g.callee g.read

    abbrev pub SnapIn : ℕ → List ℤ → Type 0
    SnapIn i w = (i ≤ l) × Snap i w

    abbrev pub StandingIn : ℕ → Store ℤ → Type 0
    StandingIn i f = (i ≤ l) × Standing i f

    pub stepping : Stepping q sh level cells (suc d) line x l m mark a0 c0 name g.callee.adjoint (IsOfStep the_step words) words forth_code back_code (one line (call name (actuals_named given))) (one line (adjoint_call g.callee given)) StandingIn Loose SnapIn change loops
    stepping = record {
      snapshots = λ i w h. ap length h.1.is ∙ h.1.pushed.length_is;
      pushed = λ i f h. record { snap = (group_pushed q sh level p line known snapshot f).trail; is = (h.0, snap_pushed i f h.1); pushes = λ b t. (group_pushed q sh level p line known snapshot f).pushed b t };
      popped = λ i w h is loose. pop i w h is.0 is.1 loose;
      stepped = λ i b f t less h at.
          let c = s.again i b f t less (agrees i f g.read (λ v n. or_right (g.callee.members v) (g.read v) n) less h.1 at) in
          record {
            after = c.after;
            goes = goes_one q nw line (call name (actuals_named given)) b f c.after t t (record { unit = name; height = length t; shapes = c.shapes } ∷ []) [] c.runs;
            shapes = c.shapes;
            right = λ h. inl (refl, c.takes);
            stands = (
              less,
              record {
                at = λ e a y n o j lt. c.same a j (h.1.at e a y n o j lt) ∙ sym (s.between i a j less o);
                framed = framed_on f c.after c.off c.helpers h.1.framed;
              },
            );
            helpers = record { at = c.helpers };
            shades = c.shades;
          };
      turned = λ i b f t less h at.
          let c = s.back i b f t less (agrees i f g.callee.members (λ v n. or_left (g.callee.members v) (g.read v) n) less h.1 at) in
          record {
            after = c.after;
            rs = c.rs;
            goes = goes_one q nw line (adjoint_call g.callee given) b f c.after t t (record { unit = g.callee.adjoint; height = length t; shapes = c.shapes } ∷ []) c.rs c.runs;
            shapes = c.shapes;
            right = λ h. inr (refl, c.takes);
            reversed = c.reversed;
            loose = record {
              at = λ e a y n w o j lt. c.off.at a j (unwritten e a y w) ∙ h.1.at e a y n o j lt ∙ as_first i a j h.0 o (unwritten e a y w);
              framed = framed_on f c.after c.off c.helpers h.1.framed;
            };
            helpers = record { at = c.helpers };
            pairs = c.pairs;
          };
      standing = λ i f h b n. (n.0, record { at = λ e a y k o j lt. b.plains a j o ∙ n.1.at e a y k o j lt; framed = framed_beside f h b.plains b.helpers n.1.framed });
      loose = λ f h b n. record { at = λ e a y k w o j lt. b.plains a j o ∙ n.at e a y k w o j lt; framed = framed_beside f h b.plains b.helpers n.framed };
      loosen = λ i f n. record { at = λ e a y k w o j lt. n.1.at e a y k o j lt ∙ as_first i a j n.0 o (unwritten e a y w); framed = n.1.framed };
    }
      where
        pop : (i : ℕ) (w : List ℤ) (h : Store ℤ) → i ≤ l → Snap i w → Loose h → SnapshotPopped q sh level cells (suc d) line x l m mark a0 c0 name g.callee.adjoint (IsOfStep the_step words) words forth_code back_code (one line (call name (actuals_named given))) (one line (adjoint_call g.callee given)) StandingIn Loose SnapIn change loops i w h
        pop i w h fits is loose = record {
          after = (is.pushed.popped h).after;
          pops = λ b t. subst (λ (z : List ℤ). Leads q nw back_code (scene b h (z ++ t)) (scene b (is.pushed.popped h).after t)) (sym is.is) ((is.pushed.popped h).runs b t);
          stands = (fits, popped_stands i is.from h (is.pushed.popped h).after fits is.stands loose (is.pushed.popped h).restored);
          helpers = record { at = λ r k c. (is.pushed.popped h).restored.there (helper r k) c refl };
          shades = λ y j. (is.pushed.popped h).restored.there (shadow y) j refl;
        }
