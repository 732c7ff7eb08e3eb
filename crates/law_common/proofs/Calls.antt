-- Calls in a unit whose lowered one has no fault: as many actuals as own dummies, and no slot of the called unit is one that it writes.
use Rattle.std.proofs.Common.{◌≡◌, ℕ, suc, ◌+◌, Bool, true, false, List, [], ◌∷◌, ◌++◌, map, refl, sym, ap, ◌∙◌, subst, arith, if◌then◌else◌}
use Rattle.std.proofs.lemmas.List.{length-map, length-append}
use Rattle.std.specs.Prelude.{length, not, ◌&&◌, ◌||◌, Option, Some, None}
use Rattle.adj_tree.specs.Code.{Var, plain, name_eq, var_eq, Term, lit, var, elem, neg, bin, pow, power_of, abs, Terms, none, more, Act, assign, choose, loop, during, call, runtime, Code, stop, step, Procedure}
use Rattle.adj_tree.proofs.Names.{name_same}
use Rattle.def_meaning.specs.Apart.{has_name, AreApart}
use Rattle.def_meaning.specs.Written.{find_unit, is_place_of, is_handed_back, handed_back, is_written}
use Rattle.def_meaning.specs.Rename.{rename_terms, rename_act, rename}
use Rattle.def_meaning.proofs.Booleans.{and_true, or_false, or_first, or_second}
use Rattle.def_meaning.proofs.Variables.{var_refl, var_same}
use Rattle.def_names.specs.Reserved.{is_runtime}
use Rattle.def_names.specs.Standing.{count_of}
use Rattle.def_names.specs.Variables.{Name, rank}
use Rattle.def_names.specs.Fault.{fault}
use Rattle.def_names.specs.CallFaults.{is_actual_for, are_actuals_for, faults_of_unit_call, faults_of_call}
use Rattle.def_names.specs.WriteFaults.{is_whole_array, name_one, clash, clashes, have_clash}
use Rattle.def_names.proofs.Faultless.{none_if}
use Rattle.law_meaning.proofs.WriteSets.{handed_written}
use Rattle.adj_tree.specs.Common.{Shared}
use Rattle.def_common.specs.Blocks.{find_shared, used_blocks}
use Rattle.def_common.specs.Members.{is_slot, Member, member_names, member_slots, names_of_blocks, slots_for, members, swapped, swap}
use Rattle.def_common.specs.Slots.{shared_unit, shared_units}
use Rattle.def_common.specs.Lowering.{behind, lowered_act, lowered, lowered_unit, lowered_program}
use Rattle.law_common.specs.Passing.{passed_unit, passed_units, EachCall', EachCall, NoSlots, HasParts}
use Rattle.law_common.specs.Renaming.{AreRenamed}
use Rattle.law_common.specs.Lowers.{Each, EachInAct, EachIn, found_dummies, own_dummies, FoundCounts, CallCounted}
use Rattle.law_common.proofs.Renaming.{renamed_back, handed_same}
use Rattle.law_common.proofs.Swapping.{terms_agree, swap_separates, swapped_twice}
use Rattle.law_common.proofs.Written.{passed_found, find_passed, written_same}
use Rattle.law_common.proofs.Keeping.{made_found, find_made, each_found}
use Rattle.law_common.proofs.Using.{FoundMatches, CallMatches}

-- ---- calls before they are lowered

module _ (ps : List Shared) (ms : List Member) (P : List ℕ → Terms → Type 0) where
  -- the call that becomes one
  abbrev pub Before : List ℕ → Terms → Type 0
  Before name args = P name (behind args (map (swapped ms) (slots_for ps name)))

  -- members of the caller's stand for the called unit's slots
  abbrev pub Stands : List ℕ → Terms → Type 0
  Stands name args = names_of_blocks ms (used_blocks ps name) ≡ map (swapped ms) (slots_for ps name)

  mutual
    act_before : (a : Act) → EachCall' Stands a → EachCall' P (lowered_act ps ms a) → EachCall' Before a
    act_before (assign x subs e) k h = tt
    act_before (choose c a b) k h = (calls_before a k.0 h.0, calls_before b k.1 h.1)
    act_before (loop x first last by body m) k h = calls_before body k h
    act_before (during c body) k h = calls_before body k h
    act_before (call name args) k h = subst (λ l. P name (behind args l)) k h
    act_before (runtime r) k h = tt

    pub calls_before : (c : Code) → EachCall Stands c → EachCall P (lowered ps ms c) → EachCall Before c
    calls_before stop k h = tt
    calls_before (step line a rest) k h = (act_before a k.0 h.0, calls_before rest k.1 h.1)

-- ---- calls under other names, where two renamings agree

module _ (r q : Var → Var) (P Q : List ℕ → Terms → Type 0) (f : (name : List ℕ) (args : Terms) → P name args → Q name (rename_terms q args)) where
  mutual
    act_after : (a : Act) → EachInAct (λ x. r x ≡ q x) a → EachCall' P a → EachCall' Q (rename_act r a)
    act_after (assign x subs e) h k = tt
    act_after (choose c a b) h k = (calls_after a h.1.0 k.0, calls_after b h.1.1 k.1)
    act_after (loop x first last by body m) h k = calls_after body h.1.1.1.1.0 k
    act_after (during c body) h k = calls_after body h.1 k
    act_after (call name args) h k = subst (Q name) (sym (terms_agree r q args h)) (f name args k)
    act_after (runtime c) h k = tt

    pub calls_after : (c : Code) → EachIn (λ x. r x ≡ q x) c → EachCall P c → EachCall Q (rename r c)
    calls_after stop h k = tt
    calls_after (step line a rest) h k = (act_after a h.0 k.0, calls_after rest h.1 k.1)

-- ---- how many actuals

count_alone : (xs : List (List ℕ)) → count_of (behind none xs) ≡ length xs
count_alone [] = refl
count_alone (x ∷ xs) = ap suc (count_alone xs)

count_behind : (args : Terms) (xs : List (List ℕ)) → count_of (behind args xs) ≡ count_of args + length xs
count_behind none xs = let e : length xs ≡ 0 + length xs = omega arith in count_alone xs ∙ e
count_behind (more e es) xs = let r : count_of (behind es xs) ≡ count_of es + length xs = count_behind es xs in let e : suc (count_of (behind es xs)) ≡ suc (count_of es) + length xs = omega arith in e

count_renamed : (r : Var → Var) (args : Terms) → count_of (rename_terms r args) ≡ count_of args
count_renamed r none = refl
count_renamed r (more e es) = ap suc (count_renamed r es)

actuals_count : (caller called : Procedure) (ds : List Name) (es : Terms) → are_actuals_for caller called ds es ≡ true → count_of es ≡ length ds
actuals_count caller called [] none h = refl
actuals_count caller called [] (more e es) h = absurd cc
actuals_count caller called (d ∷ ds) none h = absurd cc
actuals_count caller called (d ∷ ds) (more e es) h = ap suc (actuals_count caller called ds es (and_true (is_actual_for caller (rank called d) e) (are_actuals_for caller called ds es) h).1)

module _ (ps : List Shared) (same : Each (λ s. member_slots (members ps s) ≡ slots_for ps s.unit.name) ps) (ms : List Member) (u : Procedure) where
  -- a call without a fault of calls, before it is lowered
  abbrev pub CallClean : List ℕ → Terms → Type 0
  CallClean name args = (line : ℕ) × (faults_of_call (lowered_program ps) u line (call name args) ≡ [])

  counted : (name : List ℕ) (args : Terms) (line : ℕ) (o : Option Shared) → find_shared ps name ≡ o → faults_of_unit_call u (made_found (lowered_unit ps) o) line (behind args (map (swapped ms) (slots_for ps name))) ≡ [] → FoundCounts ps name args (made_found (shared_unit ps) o)
  counted name args line None e h = tt
  counted name args line (Some t) e h =
      let found = each_found (λ s. member_slots (members ps s) ≡ slots_for ps s.unit.name) ps same name t e in
      let sl = slots_for ps name in
      let all : count_of (behind args (map (swapped ms) sl)) ≡ length (t.unit.dummies ++ member_names (members ps t)) =
      actuals_count u (lowered_unit ps t) (t.unit.dummies ++ member_names (members ps t)) (behind args (map (swapped ms) sl)) (is_one (are_actuals_for u (lowered_unit ps t) (t.unit.dummies ++ member_names (members ps t)) (behind args (map (swapped ms) sl))) (none_if _ (fault 15 line) h)) in
      let names : length (member_names (members ps t)) ≡ length sl =
      length-map (members ps t) (λ m. m.name) ∙ sym (length-map (members ps t) (λ m. m.slot)) ∙ ap length found.is ∙ ap (λ y. length (slots_for ps y)) found.named in
      let left : count_of (behind args (map (swapped ms) sl)) ≡ count_of args + length sl = count_behind args (map (swapped ms) sl) ∙ ap (λ z. count_of args + z) (length-map sl (swapped ms)) in
      let right : length (t.unit.dummies ++ member_names (members ps t)) ≡ length t.unit.dummies + length sl = length-append t.unit.dummies (member_names (members ps t)) ∙ ap (λ z. length t.unit.dummies + z) names in
      let both : count_of args ≡ length t.unit.dummies = omega arith in
      both ∙ ap (λ z. length (found_dummies z)) (sym e)
    where
      is_one : (b : Bool) → not b ≡ false → b ≡ true
      is_one true k = refl
      is_one false k = absurd cc

  pub call_counted : (name : List ℕ) (args : Terms) → Before ps ms CallClean name args → CallCounted ps name args
  call_counted name args h =
      subst (FoundCounts ps name args) (sym (find_made (shared_unit ps) (λ s. refl) ps name))
      (counted name args h.0 (find_shared ps name) refl (ap (λ o. faults_of_unit_call u o h.0 actuals) (sym (find_made (lowered_unit ps) (λ s. refl) ps name)) ∙ go (is_runtime name) h.1))
    where
      actuals : Terms
      actuals = behind args (map (swapped ms) (slots_for ps name))

      go : (b : Bool) → (if b then fault 15 h.0 ∷ [] else faults_of_unit_call u (find_unit (lowered_program ps) name) h.0 actuals) ≡ [] → faults_of_unit_call u (find_unit (lowered_program ps) name) h.0 actuals ≡ []
      go true e = absurd cc
      go false e = e

-- the number stays under other names
pub counted_renamed : (ps : List Shared) (r : Var → Var) (name : List ℕ) (args : Terms) → CallCounted ps name args → CallCounted ps name (rename_terms r args)
counted_renamed ps r name args h = go (find_unit (shared_units ps) name) h
  where
    go : (o : Option Procedure) → FoundCounts ps name args o → FoundCounts ps name (rename_terms r args) o
    go None h = tt
    go (Some u) h = count_renamed r args ∙ h

-- ---- a variable that is two actuals

names_one : (e : Term) (z : List ℕ) → is_place_of (plain z) e ≡ true → name_one e (var (plain z)) ≡ true
names_one (var y) z h = ap (λ x. var_eq x (plain z)) (sym (var_same (plain z) y h)) ∙ var_refl (plain z)
names_one (elem y subs) z h = ap (λ x. var_eq x (plain z)) (sym (var_same (plain z) y h)) ∙ var_refl (plain z)
names_one (lit n) z h = absurd (let k : false ≡ true = h in cc)
names_one (neg a) z h = absurd (let k : false ≡ true = h in cc)
names_one (bin op a b) z h = absurd (let k : false ≡ true = h in cc)
names_one (pow a n) z h = absurd (let k : false ≡ true = h in cc)
names_one (power_of a b) z h = absurd (let k : false ≡ true = h in cc)
names_one (abs a) z h = absurd (let k : false ≡ true = h in cc)

module _ (u : Procedure) (w : List ℕ → Bool) (y : List ℕ) where
  both_named : (a b c : Bool) → a ≡ true → (a && ((true || b) || c)) ≡ true
  both_named true b c e = refl
  both_named false b c e = absurd cc

  -- an actual clashes with a variable behind the own ones
  clash_alone : (e : Term) → is_place_of (plain y) e ≡ true → (sl ys : List (List ℕ)) → length ys ≡ length sl → has_name y ys ≡ true → clashes u true e (map w sl) (behind none ys) ≡ true
  clash_alone e p [] [] l h = absurd cc
  clash_alone e p [] (z ∷ ys) l h = absurd (let k : suc (length ys) ≡ 0 = l in cc)
  clash_alone e p (c ∷ sl) [] l h = absurd cc
  clash_alone e p (c ∷ sl) (z ∷ ys) l h = go (name_eq y z) refl h (clash_alone e p sl ys (let n : suc (length ys) ≡ suc (length sl) = l in omega arith))
    where
      rest : Bool
      rest = clashes u true e (map w sl) (behind none ys)

      go : (b : Bool) → name_eq y z ≡ b → (b || has_name y ys) ≡ true → (has_name y ys ≡ true → rest ≡ true) → (clash u true e (w c) (var (plain z)) || rest) ≡ true
      go true k h r = or_first (clash u true e (w c) (var (plain z))) rest (both_named (name_one e (var (plain z))) (w c) (is_whole_array u e && is_whole_array u (var (plain z))) (names_one e z (ap (λ x. is_place_of (plain x) e) (sym (name_same y z k)) ∙ p)))
      go false k h r = or_second (clash u true e (w c) (var (plain z))) rest (r h)

  clash_behind : (e : Term) → is_place_of (plain y) e ≡ true → (own sl ys : List (List ℕ)) (args : Terms) → count_of args ≡ length own → length ys ≡ length sl → has_name y ys ≡ true → clashes u true e (map w (own ++ sl)) (behind args ys) ≡ true
  clash_behind e p [] sl ys none n l h = clash_alone e p sl ys l h
  clash_behind e p [] sl ys (more f fs) n l h = absurd (let k : suc (count_of fs) ≡ 0 = n in cc)
  clash_behind e p (d ∷ own) sl ys none n l h = absurd (let k : 0 ≡ suc (length own) = n in cc)
  clash_behind e p (d ∷ own) sl ys (more f fs) n l h =
      or_second (clash u true e (w d) f) (clashes u true e (map w (own ++ sl)) (behind fs ys)) (clash_behind e p own sl ys fs (let k : suc (count_of fs) ≡ suc (length own) = n in omega arith) l h)

  none_there : (ws : List Bool) → is_handed_back (plain y) ws none ≡ false
  none_there [] = refl
  none_there (v ∷ ws) = refl

  -- so where nothing clashes it is no actual of a dummy that is written
  pub not_handed : (own sl ys : List (List ℕ)) (args : Terms) → count_of args ≡ length own → length ys ≡ length sl → has_name y ys ≡ true → have_clash u (map w (own ++ sl)) (behind args ys) ≡ false → is_handed_back (plain y) (map w (own ++ sl)) args ≡ false
  not_handed [] sl ys none n l h k = none_there (map w sl)
  not_handed [] sl ys (more f fs) n l h k = absurd (let j : suc (count_of fs) ≡ 0 = n in cc)
  not_handed (d ∷ own) sl ys none n l h k = absurd (let j : 0 ≡ suc (length own) = n in cc)
  not_handed (d ∷ own) sl ys (more f fs) n l h k =
      let p = or_false (clashes u (w d) f (map w (own ++ sl)) (behind fs ys)) (have_clash u (map w (own ++ sl)) (behind fs ys)) k in
      go (w d) refl (is_place_of (plain y) f) refl p.0 (not_handed own sl ys fs less l h p.1)
    where
      less : count_of fs ≡ length own
      less = let j : suc (count_of fs) ≡ suc (length own) = n in omega arith

      go : (a : Bool) → w d ≡ a → (b : Bool) → is_place_of (plain y) f ≡ b → clashes u a f (map w (own ++ sl)) (behind fs ys) ≡ false → is_handed_back (plain y) (map w (own ++ sl)) fs ≡ false → ((a && b) || is_handed_back (plain y) (map w (own ++ sl)) fs) ≡ false
      go true e true g c r = absurd (let z : true ≡ false = sym (clash_behind f g own sl ys fs less l h) ∙ c in cc)
      go true e false g c r = r
      go false e b g c r = r

-- ---- own dummies are written in both programs alike

own_rows : (x : Var) (w v : List ℕ → Bool) → ((d : List ℕ) → is_slot (plain d) ≡ false → w d ≡ v d) → (own sl : List (List ℕ)) → NoSlots own → (args : Terms) → count_of args ≡ length own → is_handed_back x (map w (own ++ sl)) args ≡ is_handed_back x (map v (own ++ sl)) args
own_rows x w v f [] sl o none n = bare (map w sl) ∙ sym (bare (map v sl))
  where
    bare : (ws : List Bool) → is_handed_back x ws none ≡ false
    bare [] = refl
    bare (b ∷ ws) = refl
own_rows x w v f [] sl o (more e es) n = absurd (let j : suc (count_of es) ≡ 0 = n in cc)
own_rows x w v f (d ∷ own) sl o none n = absurd (let j : 0 ≡ suc (length own) = n in cc)
own_rows x w v f (d ∷ own) sl o (more e es) n =
    let less : count_of es ≡ length own = (let j : suc (count_of es) ≡ suc (length own) = n in omega arith) in
    λ i. (f d o.0 i && is_place_of x e) || own_rows x w v f own sl o.1 es less i

among_swapped : (ms : List Member) (x : List ℕ) (xs : List (List ℕ)) → has_name x xs ≡ true → has_name (swapped ms x) (map (swapped ms) xs) ≡ true
among_swapped ms x [] h = absurd cc
among_swapped ms x (z ∷ xs) h = go (name_eq x z) refl h (among_swapped ms x xs)
  where
    go : (b : Bool) → name_eq x z ≡ b → (b || has_name x xs) ≡ true → (has_name x xs ≡ true → has_name (swapped ms x) (map (swapped ms) xs) ≡ true) → (name_eq (swapped ms x) (swapped ms z) || has_name (swapped ms x) (map (swapped ms) xs)) ≡ true
    go true e k r = or_first (name_eq (swapped ms x) (swapped ms z)) _ (ap (λ y. name_eq y (swapped ms z)) (ap (swapped ms) (name_same x z e)) ∙ var_refl (plain (swapped ms z)))
    go false e k r = or_second (name_eq (swapped ms x) (swapped ms z)) _ (r k)

module _ (ps : List Shared) (has : HasParts (shared_units ps) (own_dummies ps) (slots_for ps)) (r : List ℕ → Var → Var) (named : AreRenamed r (passed_units (slots_for ps) (shared_units ps)) (lowered_program ps)) (ms : List Member) (apart : AreApart (member_names ms ++ member_slots ms)) (u : Procedure) where
  abbrev pub CallApart : List ℕ → Terms → Type 0
  CallApart name args = have_clash u (handed_back (lowered_program ps) name) args ≡ false

  module _ (name : List ℕ) (args : Terms) (v : Procedure) (e : find_unit (shared_units ps) name ≡ Some v) (n : count_of args ≡ length (own_dummies ps name)) (c : Before ps ms CallApart name args) where
    abbrev w : List ℕ → Bool
    w = is_written (shared_units ps) v

    abbrev w' : List ℕ → Bool
    w' = is_written (passed_units (slots_for ps) (shared_units ps)) (passed_unit (slots_for ps) v)

    found' : find_unit (passed_units (slots_for ps) (shared_units ps)) name ≡ Some (passed_unit (slots_for ps) v)
    found' = find_passed (slots_for ps) (shared_units ps) name ∙ ap (passed_found (slots_for ps)) e

    row : handed_back (shared_units ps) name ≡ map w (own_dummies ps name ++ slots_for ps name)
    row = handed_written (shared_units ps) name v e ∙ ap (map w) (has.dummies name v e)

    row' : handed_back (lowered_program ps) name ≡ map w' (own_dummies ps name ++ slots_for ps name)
    row' =
        sym (handed_same r (passed_units (slots_for ps) (shared_units ps)) (lowered_program ps) named name)
        ∙ handed_written (passed_units (slots_for ps) (shared_units ps)) name (passed_unit (slots_for ps) v) found' ∙ ap (map w') (has.dummies name v e)

    one_kept : (x : List ℕ) → has_name x (slots_for ps name) ≡ true → is_handed_back (plain x) (handed_back (shared_units ps) name) (rename_terms (swap ms) args) ≡ false
    one_kept x h =
        let y = swapped ms x in
        ap (λ z. is_handed_back (plain z) (handed_back (shared_units ps) name) (rename_terms (swap ms) args)) (sym (swapped_twice ms apart x))
        ∙ renamed_back (handed_back (shared_units ps)) (swap ms) (swap_separates ms apart) (plain y) (handed_back (shared_units ps) name) args
        ∙ ap (λ ws. is_handed_back (plain y) ws args) row
        ∙ own_rows (plain y) w w' (written_same (shared_units ps) (own_dummies ps) (slots_for ps) has name v e) (own_dummies ps name) (slots_for ps name) (has.owns name) args n
        ∙ not_handed u w' y (own_dummies ps name) (slots_for ps name) (map (swapped ms) (slots_for ps name)) args n (length-map (slots_for ps name) (swapped ms)) (among_swapped ms x (slots_for ps name) h)
        (ap (λ ws. have_clash u ws (behind args (map (swapped ms) (slots_for ps name)))) (sym row') ∙ c)

    all_kept : (l : List (List ℕ)) → ((x : List ℕ) → has_name x l ≡ true → has_name x (slots_for ps name) ≡ true) → Each (λ x. is_handed_back (plain x) (handed_back (shared_units ps) name) (rename_terms (swap ms) args) ≡ false) l
    all_kept [] f = tt
    all_kept (x ∷ l) f = (one_kept x (f x (or_first (name_eq x x) (has_name x l) (var_refl (plain x)))), all_kept l (λ y h. f y (or_second (name_eq y x) (has_name y l) h)))

  -- so a call matches
  pub call_matches : (name : List ℕ) (args : Terms) → CallCounted ps name args → Before ps ms CallApart name args → CallMatches ps name (rename_terms (swap ms) args)
  call_matches name args n c = go (find_unit (shared_units ps) name) refl n
    where
      go : (o : Option Procedure) → find_unit (shared_units ps) name ≡ o → FoundCounts ps name args o → FoundMatches ps name (rename_terms (swap ms) args) o
      go None e n = tt
      go (Some v) e n = (count_renamed (swap ms) args ∙ n, all_kept name args v e n c (slots_for ps name) (λ x h. h))
