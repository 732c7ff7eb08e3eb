-- What the calls of a step unit and of its adjoint, and the snapshots of its steps, take in a reversal.
use Rattle.std.proofs.Common.{◌≡◌, ◌≤◌, ◌<◌, ℕ, suc, ◌+◌, Bool, true, false, List, ◌++◌, refl, sym, ap, ◌∙◌, subst, arith}
use Rattle.std.specs.Prelude.{ℤ, pos}
use Rattle.adj_tree.specs.Code.{Var, plain, name_eq, Mark, call}
use Rattle.adj_tree.proofs.Names.{name_same}
use Rattle.adj_word.specs.Word.{add, mul}
use Rattle.def_meaning.specs.Append.{one}
use Rattle.def_meaning.specs.Store.{Shape, size_of, Store}
use Rattle.def_meaning.specs.Value.{Setting}
use Rattle.def_meaning.specs.Scene.{Scene, Done}
use Rattle.def_meaning.specs.Run.{Calls, act, run}
use Rattle.def_names.specs.Numbers.{Vars}
use Rattle.def_sweep.specs.Facts.{In, joined}
use Rattle.def_meaning.specs.Apart.{AreApart}
use Rattle.law_sweep.specs.Pairs.{Key, Words, on_words}
use Rattle.law_sweep.specs.Scenes.{Course, scene}
use Rattle.def_names.proofs.Variables.{or_left, or_right}
use Rattle.def_sweep.specs.Plan.{Plan, IsActual, actuals_named, writes_actual}
use Rattle.def_sweep.specs.Rows.{pushes, pops, adjoint_call}
use Rattle.def_sweep.specs.Callees.{CalleeFacts}
use Rattle.def_sweep.specs.Reversals.{LoopRun}
use Rattle.law_sweep.specs.Steps.{ActualsAgree, Steps}
use Rattle.law_sweep.proofs.Snapshots.{KnowsArrays}
use Rattle.law_sweep.proofs.StepUnits as units
use Rattle.law_cost.specs.Sweeps.{statements_of}
use Rattle.law_cost.proofs.AlongCalls.{straight_pushes, straight_pops}
use Rattle.law_cost.proofs.Runs.{one_done}
use Rattle.law_cost.proofs.Takes.{takes_more, takes_straight, takes_leads}
use Rattle.law_cost.proofs.Acting.{Stepping}

module _ (q : Calls ℤ) (sh : Var → Shape) (level : ℕ) (cells : List Key) (d line : ℕ) (p : Plan) (known : KnowsArrays p sh) (x : List ℕ) (one_cell : size_of (sh (plain x)) ≡ 1) (l m : ℕ) (mark : Mark) (a0 c0 : ℤ) (g : CalleeFacts) (given : List (List ℕ)) (apart : AreApart g.callee.dummies) (apart' : AreApart given) (name : List ℕ) (change : ℕ → Words → Words) (loops : ℕ → List LoopRun) (U U' : ℕ → Store ℤ) (g0 : Store ℤ)
    (s : Steps q sh level cells line x g given name l a0 c0 change loops U U') (x_free : writes_actual g.callee given (plain x) ≡ false) where
  abbrev nw : Setting ℤ
  nw = on_words sh level

  abbrev snapshot : List (List ℕ)
  snapshot = units.snapshot q sh level cells d line p known x one_cell l m mark a0 c0 g given apart apart' name change loops U U' g0

  abbrev pub StandingIn : ℕ → Store ℤ → Type 0
  StandingIn = units.StandingIn q sh level cells d line p known x one_cell l m mark a0 c0 g given apart apart' name change loops U U' g0 s x_free

  abbrev pub LooseIn : Store ℤ → Type 0
  LooseIn = units.Loose q sh level cells d line p known x one_cell l m mark a0 c0 g given apart apart' name change loops U U' g0

  abbrev pub SnapIn : ℕ → List ℤ → Type 0
  SnapIn = units.SnapIn q sh level cells d line p known x one_cell l m mark a0 c0 g given apart apart' name change loops U U' g0 s x_free

  first_cell : (a : List ℕ) (j : ℕ) → j < size_of (sh (plain a)) → name_eq a x ≡ true → j ≡ 0
  first_cell a j lt e =
      let n : a ≡ x = name_same a x e in
      let small : j < 1 = subst (λ z. j < z) (ap (λ z. size_of (sh (plain z))) n ∙ one_cell) lt in
      omega (arith, small)

  -- with the loop's variable at its value all actuals are as in the program
  agrees : (i : ℕ) (f : Store ℤ) (set : Vars) → ((v : Var) → In v set → In v (joined g.callee.members g.read)) → i < l → StandingIn i f → f (plain x) 0 ≡ add a0 (mul (pos i) c0) → ActualsAgree sh g.callee given set (U i) f
  agrees i f set less small h at = record { at = λ e a b n j lt. go e a b n j lt (name_eq a x) refl }
    where
      go : (e a : List ℕ) → IsActual g.callee.dummies given e a → In (plain e) set → (j : ℕ) → j < size_of (sh (plain a)) → (o : Bool) → name_eq a x ≡ o → f (plain a) j ≡ U i (plain a) j
      go e a b n j lt false o = h.1.at e a b (less (plain e) n) o j lt
      go e a b n j lt true o =
          let z : j ≡ 0 = first_cell a j lt o in
          let y : a ≡ x = name_same a x o in
          (λ k. f (plain (y k)) (z k)) ∙ at ∙ sym (s.at_step i small) ∙ (λ k. U i (plain (sym y k)) (sym z k))

  -- what the calls take at each step, and the groups
  module _ (W : ℕ) (P A : ℕ → ℕ) (push_few : statements_of (pushes p line snapshot) ≤ W) (pop_few : statements_of (pops p line snapshot) ≤ W)
      (plain_cost : (i : ℕ) (base : Course) (f : Store ℤ) (t : List ℤ) → i < l → ActualsAgree sh g.callee given g.read (U i) f → (e : Scene ℤ) (k left : ℕ) → act q (on_words sh level) (call name (actuals_named given)) line (scene base f t) k ≡ Done e left → k ≤ left + P i)
      (adjoint_cost : (i : ℕ) (base : Course) (f : Store ℤ) (t : List ℤ) → i < l → ActualsAgree sh g.callee given g.callee.members (U i) f → (e : Scene ℤ) (k left : ℕ) → act q (on_words sh level) (adjoint_call g.callee given) line (scene base f t) k ≡ Done e left → k ≤ left + A i) where
    pub stepping : Stepping q sh level (suc d) line x l m mark a0 c0 (pushes p line snapshot) (pops p line snapshot) (one line (call name (actuals_named given))) (one line (adjoint_call g.callee given)) StandingIn LooseIn SnapIn W (λ i. 1 + P i) (λ i. 1 + A i)
    stepping =
        let st = units.stepping q sh level cells d line p known x one_cell l m mark a0 c0 g given apart apart' name change loops U U' g0 s x_free in
        record {
          pushed = λ i f h.
              let c = st.pushed i f h in
              record {
                snap = c.snap;
                is = c.is;
                pushes = λ b t. takes_more q nw (pushes p line snapshot) (scene b f t) (scene b f (c.snap ++ t)) (statements_of (pushes p line snapshot)) W push_few
                    (takes_straight q nw (pushes p line snapshot) (straight_pushes p line snapshot) (scene b f t) (scene b f (c.snap ++ t)) (c.pushes b t));
              };
          popped = λ i w h is loose.
              let c = st.popped i w h is loose in
              record {
                after = c.after;
                pops = λ b t. takes_more q nw (pops p line snapshot) (scene b h (w ++ t)) (scene b c.after t) (statements_of (pops p line snapshot)) W pop_few
                    (takes_straight q nw (pops p line snapshot) (straight_pops p line snapshot) (scene b h (w ++ t)) (scene b c.after t) (c.pops b t));
                stands = c.stands;
                helpers = c.helpers;
              };
          stepped = λ i b f t less h at.
              let c = st.stepped i b f t less h at in
              let same = agrees i f g.read (λ v n. or_right (g.callee.members v) (g.read v) n) less h at in
              record {
                after = c.after;
                later = c.goes.later;
                opened = c.goes.tells.opened;
                takes = takes_leads q nw (one line (call name (actuals_named given))) (scene b f t) (scene c.goes.later c.after t) (1 + P i) c.goes.runs (λ k left r. called i b f t less same k left (scene c.goes.later c.after t) r);
                stands = c.stands;
                helpers = c.helpers;
              };
          turned = λ i b f t less h at.
              let c = st.turned i b f t less h at in
              let same = agrees i f g.callee.members (λ v n. or_left (g.callee.members v) (g.read v) n) less h at in
              record {
                after = c.after;
                later = c.goes.later;
                opened = c.goes.tells.opened;
                takes = takes_leads q nw (one line (adjoint_call g.callee given)) (scene b f t) (scene c.goes.later c.after t) (1 + A i) c.goes.runs (λ k left r. turned i b f t less same k left (scene c.goes.later c.after t) r);
                loose = c.loose;
                helpers = c.helpers;
              };
          standing = λ i f h b n. st.standing i f h (record { plains = b.plains; helpers = b.helpers }) n;
          loose = λ f h b n. st.loose f h (record { plains = b.plains; helpers = b.helpers }) n;
          loosen = λ i f n. st.loosen i f n;
        }
      where
        called : (i : ℕ) (b : Course) (f : Store ℤ) (t : List ℤ) → i < l → ActualsAgree sh g.callee given g.read (U i) f → (k left : ℕ) (e : Scene ℤ) → run q nw (one line (call name (actuals_named given))) (scene b f t) k ≡ Done e left → k ≤ left + (1 + P i)
        called i b f t less same k left e r =
            let o = one_done q nw line (call name (actuals_named given)) (scene b f t) e k left r in
            let h = plain_cost i b f t less same e o.before left o.done in
            let is = o.is in
            omega (arith, is, h)

        turned : (i : ℕ) (b : Course) (f : Store ℤ) (t : List ℤ) → i < l → ActualsAgree sh g.callee given g.callee.members (U i) f → (k left : ℕ) (e : Scene ℤ) → run q nw (one line (adjoint_call g.callee given)) (scene b f t) k ≡ Done e left → k ≤ left + (1 + A i)
        turned i b f t less same k left e r =
            let o = one_done q nw line (adjoint_call g.callee given) (scene b f t) e k left r in
            let h = adjoint_cost i b f t less same e o.before left o.done in
            let is = o.is in
            omega (arith, is, h)
