-- A call of a unit in the forward sweep: it does what it did in the program, as far as the unit reads the same.
use Rattle.std.proofs.Common.{◌≡◌, ◌<◌, ℕ, zero, suc, ◌+◌, Bool, true, false, List, [], ◌∷◌, map, length, refl, sym, ap, ◌∙◌, subst, arith, if◌then◌else◌}
use Rattle.std.specs.Prelude.{ℤ, pos, IsTrue, ◌==◌, ◌&&◌, ◌||◌, Result, Ok, Err, Option, Some, None}
use Rattle.adj_tree.specs.Code.{Role, Var, plain, shadow, helper, name_eq, Terms, Act, call, Code, stop, Procedure}
use Rattle.def_meaning.specs.Trap.{Trap, shape_trap, schedule_trap, then_ok}
use Rattle.def_meaning.specs.Numbers.{words}
use Rattle.def_meaning.specs.Append.{one}
use Rattle.def_meaning.specs.Store.{Shape, size_of, Store}
use Rattle.def_meaning.specs.Value.{Setting}
use Rattle.def_meaning.specs.Scene.{Scene, stand, Outcome, Done, Trapped, More, Full, then_do, with_value}
use Rattle.def_meaning.specs.Run.{Calls, act, run}
use Rattle.def_meaning.specs.Written.{find_unit, handed_back, is_handed_back}
use Rattle.def_meaning.specs.Read.{reads_actuals, looked_at}
use Rattle.law_meaning.specs.Common.{HaveInCommon}
use Rattle.law_meaning.specs.Agree.{EndAlike}
use Rattle.def_meaning.specs.Seen.{seen_outcome}
use Rattle.def_meaning.specs.Units.{Actual, whole, actuals, entry_store, dummies_fit, setting_in, entered, copied_out, unit_run, calls_of, call_in}
use Rattle.law_meaning.specs.Leads.{Leads, ActLeads}
use Rattle.law_meaning.proofs.Agreements.{Cells, CallsDepend}
use Rattle.law_meaning.proofs.Extensions.{calls_same}
use Rattle.law_meaning.proofs.Frames.{keeps_others}
use Rattle.def_meaning.proofs.EntriesSeen.{own_names}
use Rattle.law_meaning.proofs.SeenCalls.{terms_same, calls_carry}
use Rattle.def_meaning.proofs.WithoutTangents.{without_tangents}
use Rattle.law_meaning.proofs.Costs.{leads_where_done}
use Rattle.adj_tree.proofs.Names.{name_same}
use Rattle.def_meaning.specs.Apart.{has_name, AreApart}
use Rattle.law_sweep.specs.Pairs.{Words, with_tangents, on_words, on_duals}
use Rattle.law_sweep.specs.Scenes.{Course, scene}
use Rattle.def_names.proofs.Variables.{or_false}
use Rattle.def_sweep.specs.Plan.{Callee, beside, actuals_named, step_snapshot, found_or}
use Rattle.law_sweep.specs.Passing.{plainly}
use Rattle.law_sweep.specs.Kernel.{AsMany}
use Rattle.def_sweep.specs.Reversals.{LoopRun, ReversedLines, words_taken}
use Rattle.law_sweep.proofs.Told.{tells_of}
use Rattle.law_sweep.specs.Tells.{TellsCalls}
use Rattle.law_sweep.specs.Steps.{ActGoes, words_of}
use Rattle.def_sweep.specs.StepUnits.{taken_in}
use Rattle.def_names.specs.Numbers.{Vars}
use Rattle.law_sweep.proofs.Entering.{CallPasses}
use Rattle.std.proofs.lemmas.List.{length-map}
use Rattle.law_meaning.proofs.Inversions.{then_done, done_same}
use Rattle.law_sweep.proofs.CallSweeps.{PlainCalled}

-- words as dual numbers without tangents, and back
untangled : (t : List ℤ) → map (λ (a : ℤ × ℤ). a.0) (map (λ z. (z, pos 0)) t) ≡ t
untangled [] = refl
untangled (z ∷ t) = ap (λ l. z ∷ l) (untangled t)

-- a list of one statement that comes to an end is a statement that does
act_of : {C : Type 0} (q : Calls C) (n : Setting C) (a : Act) (line : ℕ) (s s' : Scene C) → Leads q n (one line a) s s' → ActLeads q n a line s s'
act_of q n a line s s' l = go l.cost l.by
  where
    here : (c k : ℕ) → run q n (one line a) s (suc (c + k)) ≡ Done s' k → act q n a line s (c + k) ≡ Done s' k
    here c k h =
        let o = then_done (act q n a line s (c + k)) (run q n stop) s' k h in
        let left : o.left ≡ k = let e : Done o.scene o.left ≡ Done s' k = o.second in cc in
        o.first ∙ (λ i. Done (done_same o.scene s' o.left k o.second i) (left i))

    go : (c : ℕ) → ((k : ℕ) → run q n (one line a) s (c + k) ≡ Done s' k) → ActLeads q n a line s s'
    go zero by = absurd (let e : run q n (one line a) s 0 ≡ Done s' 0 = by 0 in cc)
    go (suc c) by = record { cost = c; by = λ k. let e : suc c + k ≡ suc (c + k) = omega arith in here c k (ap (run q n (one line a) s) (sym e) ∙ by k) }

-- a dual call that comes to an end is a call that does, from any scene
pub words_of_dual : (units : List Procedure) (depth : ℕ) (sh : Var → Shape) (level : ℕ) (name : List ℕ) (given : List (List ℕ)) (line : ℕ) (u u' : Store ℤ) (derivative : Words → Words) (lines : ReversedLines) (loops : List LoopRun) (shapes : List Shape) → ((home : Course) (y : Words) (t : List (ℤ × ℤ)) → CallPasses lines (calls_of units depth) (on_duals sh level) name (actuals_named given) line home (with_tangents u y) (with_tangents u' (derivative y)) t loops shapes) →
    (home : Course) (t : List ℤ) → ActGoes (calls_of units depth) (on_words sh level) (call name (actuals_named given)) line home u u' t t (record { unit = name; height = length t; shapes = shapes } ∷ []) []
words_of_dual units depth sh level name given line u u' derivative lines loops shapes dual home t =
    let t2 = map (λ z. (z, pos 0)) t in
    let y : Words = λ k. pos 0 in
    let d = dual home y t2 in
    record {
      later = d.later;
      tells = subst (λ h. TellsCalls level home d.later (record { unit = name; height = h; shapes = shapes } ∷ []) []) (length-map t (λ (z : ℤ). (z, pos 0))) d.calls;
      runs = record {
        cost = d.runs.cost;
        by = λ k.
            ap (λ (l : List ℤ). calls_of units depth (on_words sh level) name (actuals_named given) line (scene home u l) (d.runs.cost + k)) (sym (untangled t))
            ∙ sym ((calls_carry (λ (a : ℤ × ℤ). a.0) units depth words (λ x. x) own_names (on_duals sh level) without_tangents).by name (actuals_named given) line (scene home (with_tangents u y) t2) (d.runs.cost + k))
            ∙ ap (λ es. seen_outcome (λ x. x) (λ (a : ℤ × ℤ). a.0) (calls_of units depth (on_duals sh level) name es line (scene home (with_tangents u y) t2) (d.runs.cost + k))) (terms_same (actuals_named given))
            ∙ ap (seen_outcome (λ x. x) (λ (a : ℤ × ℤ). a.0)) (d.runs.by k)
            ∙ ap (λ (l : List ℤ). Done (scene d.later u' l) k) (untangled t);
      };
    }

-- ---- actuals that are names

-- the shapes of the text's variables alone give the same actuals
actuals_plainly : (sh : Var → Shape) (level : ℕ) (given : List (List ℕ)) (s : Store ℤ) → actuals (on_words (plainly sh) level) (actuals_named given) s ≡ actuals (on_words sh level) (actuals_named given) s
actuals_plainly sh level [] s = refl
actuals_plainly sh level (a ∷ given) s = ap (λ r. then_ok r (λ got. Ok (record { shape = sh (plain a); cells = s (plain a); place = whole (plain a) } ∷ got))) (actuals_plainly sh level given s)

-- what is no actual isn't handed back
handed_other : (x : List ℕ) (ws : List Bool) (given : List (List ℕ)) → has_name x given ≡ false → is_handed_back (plain x) ws (actuals_named given) ≡ false
handed_other x [] given h = refl
handed_other x (w ∷ ws) [] h = refl
handed_other x (w ∷ ws) (a ∷ given) h =
    let o = or_false (name_eq x a) (has_name x given) h in
    go w (handed_other x ws given o.1) o.0
  where
    go : (w : Bool) → is_handed_back (plain x) ws (actuals_named given) ≡ false → name_eq x a ≡ false → ((w && name_eq x a) || is_handed_back (plain x) ws (actuals_named given)) ≡ false
    go true ih e = rw e ih
    go false ih e = ih

-- nor is an actual of a dummy that isn't written
handed_plain : (f : List ℕ → Bool) (x : List ℕ) (ds given : List (List ℕ)) → AreApart given → found_or (beside given ds x) false f ≡ false → is_handed_back (plain x) (map f ds) (actuals_named given) ≡ false
handed_plain f x [] given p h = refl
handed_plain f x (d ∷ ds) [] p h = refl
handed_plain f x (d ∷ ds) (a ∷ given) p h = go (name_eq x a) refl h (handed_plain f x ds given p.1)
  where
    go : (b : Bool) → name_eq x a ≡ b → found_or (if b then Some d else beside given ds x) false f ≡ false → (found_or (beside given ds x) false f ≡ false → is_handed_back (plain x) (map f ds) (actuals_named given) ≡ false) → ((f d && name_eq x a) || is_handed_back (plain x) (map f ds) (actuals_named given)) ≡ false
    go true e h ih =
        let out : has_name x given ≡ false = ap (λ z. has_name z given) (name_same x a e) ∙ p.0 in
        rw (h, handed_other x (map f ds) given out) refl
    go false e h ih = rw (e, ih h) (none_of (f d))
      where
        none_of : (w : Bool) → ((w && false) || false) ≡ false
        none_of true = refl
        none_of false = refl

handed_shadow : (x : List ℕ) (ws : List Bool) (given : List (List ℕ)) → is_handed_back (shadow x) ws (actuals_named given) ≡ false
handed_shadow x [] given = refl
handed_shadow x (w ∷ ws) [] = refl
handed_shadow x (w ∷ ws) (a ∷ given) = go w (handed_shadow x ws given)
  where
    go : (w : Bool) → is_handed_back (shadow x) ws (actuals_named given) ≡ false → ((w && false) || is_handed_back (shadow x) ws (actuals_named given)) ≡ false
    go true ih = ih
    go false ih = ih

handed_helper : (r : Role) (k : ℕ) (ws : List Bool) (given : List (List ℕ)) → is_handed_back (helper r k) ws (actuals_named given) ≡ false
handed_helper r k [] given = refl
handed_helper r k (w ∷ ws) [] = refl
handed_helper r k (w ∷ ws) (a ∷ given) = go w (handed_helper r k ws given)
  where
    go : (w : Bool) → is_handed_back (helper r k) ws (actuals_named given) ≡ false → ((w && false) || is_handed_back (helper r k) ws (actuals_named given)) ≡ false
    go true ih = ih
    go false ih = ih

-- ---- the call again

module _ (ps qs : List Procedure) (inside : List ℕ → Bool) (common : HaveInCommon inside ps qs) (depth : ℕ) (depend : CallsDepend {C = ℤ} (looked_at ps) (calls_of ps (suc depth))) (sh : Var → Shape) (level : ℕ) (name : List ℕ) (there : IsTrue (inside name)) (g : Callee) (given : List (List ℕ)) (many : AsMany g.dummies given) (apart : AreApart given) (flags : handed_back ps name ≡ map (λ d. g.written (plain d)) g.dummies) (line : ℕ) (u u' : Store ℤ)
    (shapes : List Shape) (takes : (read : Vars) → words_taken (taken_in g read g.dummies) shapes ≡ words_of sh (step_snapshot g read given)) (from_program : (home : Course) (t : List ℤ) → ActGoes (calls_of ps (suc depth)) (on_words (plainly sh) level) (call name (actuals_named given)) line home u u' t t (record { unit = name; height = length t; shapes = shapes } ∷ []) []) where
  abbrev nw : Setting ℤ
  nw = on_words sh level

  abbrev p : Calls ℤ
  p = calls_of ps (suc depth)

  abbrev code : Code
  code = one line (call name (actuals_named given))

  -- the shapes that differ don't matter
  same_shapes : (s : Scene ℤ) (k : ℕ) → p nw name (actuals_named given) line s k ≡ p (on_words (plainly sh) level) name (actuals_named given) line s k
  same_shapes s k = go (find_unit ps name)
    where
      go : (o : Option Procedure) → call_in (calls_of ps depth) nw (handed_back ps name) o (actuals_named given) line s k ≡ call_in (calls_of ps depth) (on_words (plainly sh) level) (handed_back ps name) o (actuals_named given) line s k
      go None = refl
      go (Some v) =
          ap (λ r. with_value r line (stand nw s) (λ got.
          if dummies_fit words v (entry_store words v.dummies got) v.dummies got
          then then_do (unit_run (calls_of ps depth) nw v line (record s { store = entry_store words v.dummies got }) k)
          (λ s1 j. Done (record s { store = copied_out v.dummies (handed_back ps name) got s1.store s.store; tape = s1.tape; events = s1.events }) j)
          else Trapped shape_trap line (stand nw s))) (sym (actuals_plainly sh level given s.store))

  -- a run of the program from the forward sweep's store
  record Again (base : Course) (f : Store ℤ) (t : List ℤ) (later : Course) : Type 0 where
    end : Store ℤ
    leads : Leads p nw code (scene base f t) (scene later end t)
    same : (x : Var) (j : ℕ) → f x j ≡ u x j → end x j ≡ u' x j

  again : (base : Course) (f : Store ℤ) (t : List ℤ) → ((x : Var) → reads_actuals x (looked_at ps name) (actuals_named given) ≡ true → (j : ℕ) → j < size_of (sh x) → f x j ≡ u x j) → Again base f t (from_program base t).later
  again base f t agrees =
      let c = from_program base t in
      let A : Cells = λ x j. f x j ≡ u x j in
      let k = c.runs.cost + 0 in
      let done : p nw name (actuals_named given) line (scene base u t) k ≡ Done (scene c.later u' t) 0 = same_shapes (scene base u t) k ∙ c.runs.by 0 in
      let e : EndAlike A (p nw name (actuals_named given) line (scene base f t) k) (p nw name (actuals_named given) line (scene base u t) k) =
      depend A nw name (actuals_named given) line (λ x r j l. agrees x r j l) (scene base f t) (scene base u t) (record { store = λ x j a. a; tape = refl; opened = refl; events = refl }) k in
      ended A c.later k (p nw name (actuals_named given) line (scene base f t) k) refl (subst (λ o. EndAlike A (p nw name (actuals_named given) line (scene base f t) k) o) done e)
    where
      ended : (A : Cells) (later : Course) (k : ℕ) (o : Outcome (Scene ℤ)) → p nw name (actuals_named given) line (scene base f t) k ≡ o → EndAlike (λ x j. f x j ≡ u x j) o (Done (scene later u' t) 0) → Again base f t later
      ended A later k (Done s j) is e =
          let a = e.0 in
          let scene_is : s ≡ scene later s.store t = λ i. record { store = s.store; tape = a.tape i; opened = a.opened i; events = a.events i } in
          record {
            end = s.store;
            leads = leads_where_done ps (suc depth) nw code (scene base f t) (scene later s.store t) (suc k) j
                (ap (λ z. then_do z (run p nw stop)) (is ∙ ap (λ z. Done z j) scene_is));
            same = λ x i h. a.store x i h;
          }
      ended A later k (Trapped w l stands) is e = absurd e
      ended A later k (More stands) is e = absurd e
      ended A later k (Full stands) is e = absurd e

  -- the units that the emitted program has in common with the source do the same
  there_same : (s : Scene ℤ) (k : ℕ) → calls_of qs (suc depth) nw name (actuals_named given) line s k ≡ p nw name (actuals_named given) line s k
  there_same s k = sym (calls_same inside ps qs common (suc depth) nw name (actuals_named given) line there s k)

  pub plain_called : (base : Course) (f : Store ℤ) (t : List ℤ) → ((x : Var) → reads_actuals x (looked_at ps name) (actuals_named given) ≡ true → (j : ℕ) → j < size_of (sh x) → f x j ≡ u x j) → PlainCalled (calls_of qs (suc depth)) sh level g given name line base u u' f t
  plain_called base f t agrees =
      let a = again base f t agrees in
      let c = from_program base t in
      let kept_by : (x : Var) → is_handed_back x (handed_back ps name) (actuals_named given) ≡ false → (j : ℕ) → a.end x j ≡ f x j = λ x h j. keeps_others ps (suc depth) nw code (scene base f t) (scene c.later a.end t) (a.leads.cost + 0) 0 (a.leads.by 0) x (rw h refl) j in
      record {
        after = a.end;
        runs = record {
          later = c.later;
          tells = tells_of level base c.later (record { unit = name; height = length t; shapes = shapes } ∷ []) [] c.tells;
          runs = record { cost = a.leads.cost; by = λ k. ap (λ z. z) (same_run (scene base f t) (a.leads.cost + k)) ∙ a.leads.by k };
        };
        shapes = shapes;
        takes = takes;
        goes =
            let l = act_of p nw (call name (actuals_named given)) line (scene base f t) (scene c.later a.end t) a.leads in
            record { later = c.later; tells = c.tells; runs = record { cost = l.cost; by = λ k. there_same (scene base f t) (l.cost + k) ∙ l.by k } };
        same = λ x j h. a.same (plain x) j h;
        off = record { at = λ x j h. kept_by (plain x) (ap (λ ws. is_handed_back (plain x) ws (actuals_named given)) flags ∙ handed_plain (λ d. g.written (plain d)) x g.dummies given apart h) j };
        shadows = λ x j. kept_by (shadow x) (handed_shadow x (handed_back ps name) given) j;
        helpers = λ r k j. kept_by (helper r k) (handed_helper r k (handed_back ps name) given) j;
      }
    where
      same_run : (s : Scene ℤ) (k : ℕ) → run (calls_of qs (suc depth)) nw code s k ≡ run p nw code s k
      same_run s zero = refl
      same_run s (suc k) = ap (λ o. then_do o (λ s1 j. Done s1 j)) (there_same s k)

-- ---- the line of a call

-- a call that is done is done at any line
pub at_any_line : (units : List Procedure) (depth : ℕ) (n : Setting ℤ) (name : List ℕ) (args : Terms) (one other : ℕ) (s e : Scene ℤ) (k left : ℕ) → calls_of units depth n name args one s k ≡ Done e left → calls_of units depth n name args other s k ≡ Done e left
at_any_line units zero n name args one other s e k left h = absurd cc
at_any_line units (suc depth) n name args one other s e k left h = found (find_unit units name) h
  where
    back : Procedure → List (Actual ℤ) → Scene ℤ → ℕ → Outcome (Scene ℤ)
    back u got s1 j = Done (record s { store = copied_out u.dummies (handed_back units name) got s1.store s.store; tape = s1.tape; events = s1.events }) j

    close : ℕ → Scene ℤ → ℕ → Outcome (Scene ℤ)
    close line s1 j = if s1.opened == 0 then Done s1 j else Trapped schedule_trap line (stand n s1)

    closed : (u : Procedure) (got : List (Actual ℤ)) (s1 : Scene ℤ) (j : ℕ) (b : Bool) → then_do (if b then Done s1 j else Trapped schedule_trap one (stand n s1)) (back u got) ≡ Done e left → then_do (if b then Done s1 j else Trapped schedule_trap other (stand n s1)) (back u got) ≡ Done e left
    closed u got s1 j true h = h
    closed u got s1 j false h = absurd cc

    ended : (u : Procedure) (got : List (Actual ℤ)) (o : Outcome (Scene ℤ)) → then_do (then_do o (close one)) (back u got) ≡ Done e left → then_do (then_do o (close other)) (back u got) ≡ Done e left
    ended u got (Done s1 j) h = closed u got s1 j (s1.opened == 0) h
    ended u got (Trapped t line w) h = absurd cc
    ended u got (More w) h = absurd cc
    ended u got (Full w) h = absurd cc

    entered_so : (u : Procedure) (got : List (Actual ℤ)) (b : Bool) →
        (if b then then_do (unit_run (calls_of units depth) n u one (record s { store = entry_store n.numbers u.dummies got }) k) (back u got) else Trapped shape_trap one (stand n s)) ≡ Done e left →
        (if b then then_do (unit_run (calls_of units depth) n u other (record s { store = entry_store n.numbers u.dummies got }) k) (back u got) else Trapped shape_trap other (stand n s)) ≡ Done e left
    entered_so u got true h = ended u got (run (calls_of units depth) (setting_in n u (entry_store n.numbers u.dummies got)) u.body (entered n u (record s { store = entry_store n.numbers u.dummies got })) k) h
    entered_so u got false h = absurd cc

    given : (u : Procedure) (r : Result (List (Actual ℤ)) Trap) →
        with_value r one (stand n s) (λ got. if dummies_fit n.numbers u (entry_store n.numbers u.dummies got) u.dummies got then then_do (unit_run (calls_of units depth) n u one (record s { store = entry_store n.numbers u.dummies got }) k) (back u got) else Trapped shape_trap one (stand n s)) ≡ Done e left →
        with_value r other (stand n s) (λ got. if dummies_fit n.numbers u (entry_store n.numbers u.dummies got) u.dummies got then then_do (unit_run (calls_of units depth) n u other (record s { store = entry_store n.numbers u.dummies got }) k) (back u got) else Trapped shape_trap other (stand n s)) ≡ Done e left
    given u (Ok got) h = entered_so u got (dummies_fit n.numbers u (entry_store n.numbers u.dummies got) u.dummies got) h
    given u (Err t) h = absurd cc

    found : (o : Option Procedure) → call_in (calls_of units depth) n (handed_back units name) o args one s k ≡ Done e left → call_in (calls_of units depth) n (handed_back units name) o args other s k ≡ Done e left
    found None h = absurd cc
    found (Some u) h = given u (actuals n args s.store) h
