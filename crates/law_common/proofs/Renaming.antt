-- Programs that differ only in the names of the variables of each unit have equal runs.
use Rattle.std.proofs.Common.{◌≡◌, ℕ, zero, suc, ◌+◌, Bool, true, false, List, [], ◌∷◌, map, refl, sym, ap, ◌∙◌, arith, if◌then◌else◌}
use Rattle.std.specs.Prelude.{length, ◌==◌, ◌-◌, reverse, ◌||◌, ◌&&◌, Option, Some, None}
use Rattle.adj_tree.specs.Code.{Var, plain, Term, lit, var, elem, neg, bin, pow, power_of, abs, Terms, none, more, Runtime, push_word, pop_word, push_array, pop_array, push_control, pop_control, zero_array, begin_reversal, count_actions, give_action, end_reversal, Act, assign, choose, loop, during, call, runtime, Code, stop, step, Extent, fixed, given, Procedure}
use Rattle.def_meaning.specs.Trap.{shape_trap, schedule_trap}
use Rattle.def_meaning.specs.Numbers.{Numbers}
use Rattle.def_meaning.specs.Store.{scalar, Store, set_all}
use Rattle.def_meaning.specs.Value.{Setting}
use Rattle.def_meaning.specs.Event.{Enter}
use Rattle.def_meaning.specs.Scene.{Scene, stand, Outcome, Done, Trapped, More, Full, then_do, with_value}
use Rattle.def_meaning.specs.Run.{Calls, run}
use Rattle.def_meaning.specs.LeastSet.{Dummies, row_of, rounds, dummies_in_all}
use Rattle.def_meaning.specs.Written.{find_unit, is_place_of, is_handed_back, runtime_writes, act_writes, writes, write_rule, handed_back}
use Rattle.def_meaning.specs.Rename.{rename_term, rename_terms, rename_runtime, rename_act, rename}
use Rattle.def_meaning.specs.Seen.{Separates, pulled, pulled_setting, pulled_scene, pulled_outcome}
use Rattle.def_meaning.specs.Units.{declared, extent_in, extents_of, shape_of, shape_fits, Actual, actuals, put, entry_store, dummies_fit, copied_out, setting_in, entered, unit_run, call_in, calls_of, Slot, slot_of, from_slot, Output, input_store, dummy_slots, run_unit}
use Rattle.def_meaning.proofs.LeastSets.{of_found, row_map, rounds_stay}
use Rattle.def_meaning.proofs.WritesMore.{write_rises}
use Rattle.def_meaning.proofs.SeenValues.{set_all_seen}
use Rattle.law_meaning.proofs.SeenRuns.{then_through}
use Rattle.law_meaning.proofs.Renamed.{CarriesNames, run_renamed_by, calls_renamed}
use Rattle.law_common.specs.Renaming.{AreNewNames, AreNewExtents, IsRenamed, FoundRenamed, AreRenamed}

-- ---- what is written

module _ (f : Dummies) (r : Var → Var) (sep : Separates r) where
  renamed_place : (v : Var) (e : Term) → is_place_of (r v) (rename_term r e) ≡ is_place_of v e
  renamed_place v (var y) = sep.at v y
  renamed_place v (elem y s) = sep.at v y
  renamed_place v (lit z) = refl
  renamed_place v (neg a) = refl
  renamed_place v (bin op a b) = refl
  renamed_place v (pow a k) = refl
  renamed_place v (power_of a b) = refl
  renamed_place v (abs a) = refl

  pub renamed_back : (v : Var) (ws : List Bool) (args : Terms) → is_handed_back (r v) ws (rename_terms r args) ≡ is_handed_back v ws args
  renamed_back v [] args = refl
  renamed_back v (w ∷ ws) none = refl
  renamed_back v (w ∷ ws) (more e es) = λ i. (w && renamed_place v e i) || renamed_back v ws es i

  renamed_runtime : (v : Var) (c : Runtime) → runtime_writes (r v) (rename_runtime r c) ≡ runtime_writes v c
  renamed_runtime v (push_word y s) = refl
  renamed_runtime v (pop_word y s) = sep.at v y
  renamed_runtime v (push_array y) = refl
  renamed_runtime v (pop_array y) = sep.at v y
  renamed_runtime v (push_control e) = refl
  renamed_runtime v (pop_control y) = sep.at v y
  renamed_runtime v (zero_array y) = sep.at v y
  renamed_runtime v (begin_reversal l s) = refl
  renamed_runtime v (count_actions l s y) = sep.at v y
  renamed_runtime v (give_action l s e a b c) = λ i. sep.at v a i || (sep.at v b i || sep.at v c i)
  renamed_runtime v end_reversal = refl

  mutual
    renamed_act : (v : Var) (a : Act) → act_writes f (r v) (rename_act r a) ≡ act_writes f v a
    renamed_act v (assign y s e) = sep.at v y
    renamed_act v (choose c a b) = λ i. renamed_writes v a i || renamed_writes v b i
    renamed_act v (loop y a b c body m) = λ i. sep.at v y i || renamed_writes v body i
    renamed_act v (during c body) = renamed_writes v body
    renamed_act v (call name args) = renamed_back v (f name) args
    renamed_act v (runtime c) = renamed_runtime v c

    pub renamed_writes : (v : Var) (c : Code) → writes f (r v) (rename r c) ≡ writes f v c
    renamed_writes v stop = refl
    renamed_writes v (step line a rest) = λ i. renamed_act v a i || renamed_writes v rest i

-- a test that is the same under the new names
map_names : (r : Var → Var) (t t' : List ℕ → Bool) → ((e d : List ℕ) → r (plain d) ≡ plain e → t e ≡ t' d) → (es ds : List (List ℕ)) → AreNewNames r es ds → map t es ≡ map t' ds
map_names r t t' h [] [] p = refl
map_names r t t' h [] (d ∷ ds) p = absurd p
map_names r t t' h (e ∷ es) [] p = absurd p
map_names r t t' h (e ∷ es) (d ∷ ds) p = λ i. h e d p.0 i ∷ map_names r t t' h es ds p.1 i

module _ (r : List ℕ → Var → Var) (units others : List Procedure) (named : AreRenamed r units others) where
  rows_same : (t t' : Procedure → List ℕ → Bool) → ((name : List ℕ) (u v : Procedure) → IsRenamed (r name) u v → map (t u) u.dummies ≡ map (t' v) v.dummies) → (name : List ℕ) → row_of units (map (λ u. map (t u) u.dummies) units) name ≡ row_of others (map (λ u. map (t' u) u.dummies) others) name
  rows_same t t' h name =
      row_map (λ u. map (t u) u.dummies) units name ∙ go (find_unit units name) (find_unit others name) (named.at name) ∙ sym (row_map (λ u. map (t' u) u.dummies) others name)
    where
      go : (o p : Option Procedure) → FoundRenamed (r name) o p → of_found (λ u. map (t u) u.dummies) o ≡ of_found (λ u. map (t' u) u.dummies) p
      go None None e = refl
      go None (Some v) e = absurd e
      go (Some u) None e = absurd e
      go (Some u) (Some v) e = h name u v e

  rounds_same : (k : ℕ) (name : List ℕ) → row_of units (rounds write_rule units k) name ≡ row_of others (rounds write_rule others k) name
  rounds_same zero name = rows_same (λ u d. false) (λ u d. false) (λ name u v e. map_names (r name) (λ d. false) (λ d. false) (λ e d p. refl) u.dummies v.dummies e.dummies) name
  rounds_same (suc k) name =
      let f = row_of units (rounds write_rule units k) in
      let g = row_of others (rounds write_rule others k) in
      let same : f ≡ g = λ i x. rounds_same k x i in
      rows_same (write_rule f) (write_rule g)
      (λ name u v e.
      map_names (r name) (write_rule f u) (write_rule g v)
      (λ a d p. (λ i. writes f (sym p i) (e.body i)) ∙ renamed_writes f (r name) e.separates (plain d) v.body ∙ ap (λ h. writes h (plain d) v.body) same)
      u.dummies v.dummies e.dummies)
      name

  -- the same dummies are handed back
  pub handed_same : (name : List ℕ) → handed_back units name ≡ handed_back others name
  handed_same name =
      let e : dummies_in_all units + dummies_in_all others ≡ dummies_in_all others + dummies_in_all units = omega arith in
      ap (λ z. row_of units z name) (sym (rounds_stay write_rule write_rises units (dummies_in_all others)))
      ∙ rounds_same (dummies_in_all units + dummies_in_all others) name
      ∙ ap (λ z. row_of others (rounds write_rule others z) name) e
      ∙ ap (λ z. row_of others z name) (rounds_stay write_rule write_rises others (dummies_in_all units))

-- ---- a unit

lengths_same : (r : Var → Var) (es ds : List Extent) → AreNewExtents r es ds → length es ≡ length ds
lengths_same r [] [] h = refl
lengths_same r [] (d ∷ ds) h = absurd h
lengths_same r (x ∷ es) [] h = absurd h
lengths_same r (x ∷ es) (d ∷ ds) h = ap suc (lengths_same r es ds h.1)

module _ {C : Type 0} (r : Var → Var) (u v : Procedure) (e : IsRenamed r u v) where
  -- extents
  words_same : (n : Numbers C) (s : Store C) (es ds : List Extent) → AreNewExtents r es ds → map (extent_in n s) es ≡ map (extent_in n (pulled r s)) ds
  words_same n s [] [] h = refl
  words_same n s [] (d ∷ ds) h = absurd h
  words_same n s (x ∷ es) [] h = absurd h
  words_same n s (fixed z ∷ es) (fixed y ∷ ds) h = λ i. h.0 i ∷ words_same n s es ds h.1 i
  words_same n s (given a ∷ es) (given b ∷ ds) h = λ i. n.shown (s (sym h.0 i) 0) ∷ words_same n s es ds h.1 i
  words_same n s (fixed z ∷ es) (given b ∷ ds) h = absurd h.0
  words_same n s (given a ∷ es) (fixed y ∷ ds) h = absurd h.0

  extents_same : (n : Numbers C) (s : Store C) (x : Var) → extents_of n u s (r x) ≡ extents_of n v (pulled r s) x
  extents_same n s x = words_same n s (declared u.declarations (r x)) (declared v.declarations x) (e.declares x)

  setting_same : (n : Setting C) (s : Store C) → pulled_setting r (setting_in n u s) ≡ setting_in n v (pulled r s)
  setting_same n s = λ i. record n { shape = λ x. shape_of (extents_same n.numbers s x i); level = suc n.level }

  -- the shapes of dummies
  shapes_same : (n : Setting C) (s : Store C) (es ds : List (List ℕ)) → AreNewNames r es ds → map (λ d. (setting_in n u s).shape (plain d)) es ≡ map (λ d. (setting_in n v (pulled r s)).shape (plain d)) ds
  shapes_same n s [] [] h = refl
  shapes_same n s [] (d ∷ ds) h = absurd h
  shapes_same n s (x ∷ es) [] h = absurd h
  shapes_same n s (x ∷ es) (d ∷ ds) h =
      λ i. (ap (λ y. shape_of (extents_of n.numbers u s y)) (sym h.0) ∙ ap shape_of (extents_same n.numbers s (plain d))) i ∷ shapes_same n s es ds h.1 i

  entered_same : (n : Setting C) (s : Scene C) → pulled_scene r (entered n u s) ≡ entered n v (pulled_scene r s)
  entered_same n s = λ i. record (pulled_scene r s) { opened = 0; events = Enter (e.name i) (suc n.level) (length s.tape) (shapes_same n s.store u.dummies v.dummies e.dummies i) ∷ s.events }

  pub unit_same : (q q' : Calls C) → ((n : Setting C) → CarriesNames r n q q') → (n : Setting C) (line : ℕ) (s : Scene C) (k : ℕ) → pulled_outcome r (unit_run q n u line s k) ≡ unit_run q' n v line (pulled_scene r s) k
  unit_same q q' carries n line s k =
      then_through (pulled_scene r) (pulled_scene r) (run q (setting_in n u s.store) u.body (entered n u s) k) _ (λ s1 j. if s1.opened == 0 then Done s1 j else Trapped schedule_trap line (stand n s1)) (λ s1 j. if s1.opened == 0 then Done s1 j else Trapped schedule_trap line (stand n s1))
      body_same (λ s1 j. go (s1.opened == 0) s1 j)
    where
      go : (b : Bool) (s1 : Scene C) (j : ℕ) → pulled_outcome r (if b then Done s1 j else Trapped schedule_trap line (stand n s1)) ≡ (if b then Done (pulled_scene r s1) j else Trapped schedule_trap line (stand n s1))
      go true s1 j = refl
      go false s1 j = refl

      body_same : pulled_outcome r (run q (setting_in n u s.store) u.body (entered n u s) k) ≡ run q' (setting_in n v (pulled r s.store)) v.body (entered n v (pulled_scene r s)) k
      body_same =
          ap (λ c. pulled_outcome r (run q (setting_in n u s.store) c (entered n u s) k)) e.body
          ∙ run_renamed_by r e.separates (setting_in n u s.store) q q' (carries (setting_in n u s.store)) v.body (entered n u s) k
          ∙ (λ i. run q' (setting_same n s.store i) v.body (entered_same n s i) k)

  -- the store at entry
  entry_same : (n : Numbers C) (es ds : List (List ℕ)) → AreNewNames r es ds → (got : List (Actual C)) → pulled r (entry_store n es got) ≡ entry_store n ds got
  entry_same n [] [] h got = refl
  entry_same n [] (d ∷ ds) h got = absurd h
  entry_same n (x ∷ es) [] h got = absurd h
  entry_same n (x ∷ es) (d ∷ ds) h [] = refl
  entry_same n (x ∷ es) (d ∷ ds) h (a ∷ got) =
      ap (λ y. pulled r (set_all (entry_store n es got) y a.cells)) (sym h.0) ∙ set_all_seen r e.separates (λ z. z) (entry_store n es got) (plain d) a.cells ∙ ap (λ (s : Store C). set_all s (plain d) a.cells) (entry_same n es ds h.1 got)

  -- its dummies fit in both
  fit_same : (n : Numbers C) (s : Store C) (es ds : List (List ℕ)) → AreNewNames r es ds → (got : List (Actual C)) → dummies_fit n u s es got ≡ dummies_fit n v (pulled r s) ds got
  fit_same n s [] [] h got = refl
  fit_same n s [] (d ∷ ds) h got = absurd h
  fit_same n s (x ∷ es) [] h got = absurd h
  fit_same n s (x ∷ es) (d ∷ ds) h [] = refl
  fit_same n s (x ∷ es) (d ∷ ds) h (a ∷ got) =
      (λ i. (length (declared u.declarations (sym h.0 i)) == 0 || shape_fits (extents_of n u s (sym h.0 i)) a.shape) && fit_same n s es ds h.1 got i)
      ∙ (λ i. ((lengths_same r (declared u.declarations (r (plain d))) (declared v.declarations (plain d)) (e.declares (plain d)) i == 0) || shape_fits (extents_same n s (plain d) i) a.shape) && dummies_fit n v (pulled r s) ds got)

  -- what is handed back
  out_same : (es ds : List (List ℕ)) → AreNewNames r es ds → (ws : List Bool) (got : List (Actual C)) (t s : Store C) → copied_out es ws got t s ≡ copied_out ds ws got (pulled r t) s
  out_same [] [] h ws got t s = refl
  out_same [] (d ∷ ds) h ws got t s = absurd h
  out_same (x ∷ es) [] h ws got t s = absurd h
  out_same (x ∷ es) (d ∷ ds) h [] got t s = refl
  out_same (x ∷ es) (d ∷ ds) h (w ∷ ws) [] t s = refl
  out_same (x ∷ es) (d ∷ ds) h (w ∷ ws) (a ∷ got) t s =
      out_same es ds h.1 ws got t (if w then put a.place (t (plain x)) s else s) ∙ ap (λ y. copied_out ds ws got (pulled r t) (if w then put a.place (t y) s else s)) (sym h.0)

  slots_same : (n : Setting C) (s t : Store C) (es ds : List (List ℕ)) → AreNewNames r es ds → map (λ d. slot_of ((setting_in n u s).shape (plain d)) (t (plain d))) es ≡ map (λ d. slot_of ((setting_in n v (pulled r s)).shape (plain d)) (pulled r t (plain d))) ds
  slots_same n s t [] [] h = refl
  slots_same n s t [] (d ∷ ds) h = absurd h
  slots_same n s t (x ∷ es) [] h = absurd h
  slots_same n s t (x ∷ es) (d ∷ ds) h =
      λ i. (ap (λ y. slot_of (shape_of (extents_of n.numbers u s y)) (t y)) (sym h.0) ∙ ap (λ z. slot_of (shape_of z) (t (r (plain d)))) (extents_same n.numbers s (plain d))) i ∷ slots_same n s t es ds h.1 i

-- what goes on from a scene under the old names
through : {B C : Type 0} (r : Var → Var) (o : Outcome (Scene C)) (f g : Scene C → ℕ → Outcome B) → ((s : Scene C) (k : ℕ) → f s k ≡ g (pulled_scene r s) k) → then_do o f ≡ then_do (pulled_outcome r o) g
through r (Done s k) f g h = h s k
through r (Trapped t line w) f g h = refl
through r (More w) f g h = refl
through r (Full w) f g h = refl

-- ---- calls, by their depth

module _ {C : Type 0} (r : List ℕ → Var → Var) (units others : List Procedure) (named : AreRenamed r units others) where
  abbrev SameCalls : Calls C → Calls C → Type 0
  SameCalls q q' = (n : Setting C) (name : List ℕ) (args : Terms) (line : ℕ) (s : Scene C) (k : ℕ) → q n name args line s k ≡ q' n name args line s k

  carried : (depth : ℕ) → SameCalls (calls_of units depth) (calls_of others depth) → (x : Var → Var) → Separates x → (n : Setting C) → CarriesNames x n (calls_of units depth) (calls_of others depth)
  carried depth same x sep n = record { by = λ name args line s k. (calls_renamed x sep n units depth).by name args line s k ∙ same (pulled_setting x n) name args line (pulled_scene x s) k }

  call_same : (depth : ℕ) → SameCalls (calls_of units depth) (calls_of others depth) → (n : Setting C) (name : List ℕ) (args : Terms) (line : ℕ) (s : Scene C) (k : ℕ) (o p : Option Procedure) → FoundRenamed (r name) o p → (ws : List Bool) → call_in (calls_of units depth) n ws o args line s k ≡ call_in (calls_of others depth) n ws p args line s k
  call_same depth same n name args line s k None None e ws = refl
  call_same depth same n name args line s k None (Some v) e ws = absurd e
  call_same depth same n name args line s k (Some u) None e ws = absurd e
  call_same depth same n name args line s k (Some u) (Some v) e ws = λ i. with_value (actuals n args s.store) line (stand n s) (λ got. at got i)
    where
      x : Var → Var
      x = r name

      at : (got : List (Actual C)) →
          (if dummies_fit n.numbers u (entry_store n.numbers u.dummies got) u.dummies got
          then then_do (unit_run (calls_of units depth) n u line (record s { store = entry_store n.numbers u.dummies got }) k)
          (λ s1 j. Done (record s { store = copied_out u.dummies ws got s1.store s.store; tape = s1.tape; events = s1.events }) j)
          else Trapped shape_trap line (stand n s))
          ≡ (if dummies_fit n.numbers v (entry_store n.numbers v.dummies got) v.dummies got
          then then_do (unit_run (calls_of others depth) n v line (record s { store = entry_store n.numbers v.dummies got }) k)
          (λ s1 j. Done (record s { store = copied_out v.dummies ws got s1.store s.store; tape = s1.tape; events = s1.events }) j)
          else Trapped shape_trap line (stand n s))
      at got =
          λ i. if (fit_same x u v e n.numbers (entry_store n.numbers u.dummies got) u.dummies v.dummies e.dummies got ∙ ap (λ (z : Store C). dummies_fit n.numbers v z v.dummies got) entry) i
          then (through x (unit_run (calls_of units depth) n u line (record s { store = entry_store n.numbers u.dummies got }) k) _
          (λ s1 j. Done (record s { store = copied_out v.dummies ws got s1.store s.store; tape = s1.tape; events = s1.events }) j)
          (λ s1 j. ap (λ (z : Store C). Done (record s { store = z; tape = s1.tape; events = s1.events }) j) (out_same x u v e u.dummies v.dummies e.dummies ws got s1.store s.store))
          ∙ ap (λ o. then_do o (λ s1 j. Done (record s { store = copied_out v.dummies ws got s1.store s.store; tape = s1.tape; events = s1.events }) j))
          (unit_same x u v e (calls_of units depth) (calls_of others depth) (carried depth same x e.separates) n line (record s { store = entry_store n.numbers u.dummies got }) k
          ∙ ap (λ (z : Store C). unit_run (calls_of others depth) n v line (record s { store = z }) k) entry)) i
          else Trapped shape_trap line (stand n s)
        where
          entry : pulled x (entry_store n.numbers u.dummies got) ≡ entry_store n.numbers v.dummies got
          entry = entry_same x u v e n.numbers u.dummies v.dummies e.dummies got

  pub calls_same : (depth : ℕ) → SameCalls (calls_of units depth) (calls_of others depth)
  calls_same zero n name args line s k = refl
  calls_same (suc depth) n name args line s k =
      call_same depth (calls_same depth) n name args line s k (find_unit units name) (find_unit others name) (named.at name) (handed_back units name)
      ∙ ap (λ ws. call_in (calls_of others depth) n ws (find_unit others name) args line s k) (handed_same r units others named name)

  -- so a run of a unit is the same
  pub run_renamed : (n : Numbers C) (x : Var → Var) (u v : Procedure) → IsRenamed x u v → (input : List (Slot C)) (tape : List C) (room : Option ℕ) (k : ℕ) → run_unit n units u input tape room k ≡ run_unit n others v input tape room k
  run_renamed n x u v e input tape room k =
      let outside : Setting _ = record { numbers = n; shape = λ y. scalar; room = room; level = 0 } in
      let start : Store C = input_store n u input in
      let at : Store C → Scene C = λ z. record { store = z; tape = tape; opened = 0; events = [] } in
      let entry : pulled x start ≡ input_store n v input = entry_same x u v e n u.dummies v.dummies e.dummies (map (from_slot n) input) in
      let out : Store C → Scene C → ℕ → Outcome (Output C) = λ z s left. Done (record { slots = dummy_slots (setting_in outside v z) v s.store; tape = s.tape; events = reverse s.events }) (k - left) in
      through x (unit_run (calls_of units k) outside u u.line (at start) k) _ (out (pulled x start))
      (λ s left. ap (λ l. Done (record { slots = l; tape = s.tape; events = reverse s.events }) (k - left)) (slots_same x u v e outside start s.store u.dummies v.dummies e.dummies))
      ∙ ap (λ o. then_do o (out (pulled x start)))
      (unit_same x u v e (calls_of units k) (calls_of others k) (carried k (calls_same k) x e.separates) outside u.line (at start) k ∙ (λ i. unit_run (calls_of others k) outside v (e.line i) (at (entry i)) k))
      ∙ (λ i. then_do (unit_run (calls_of others k) outside v v.line (at (input_store n v input)) k) (out (entry i)))
