-- A padded program runs as the program does, at its own price.
use Rattle.std.proofs.Common.{◌≡◌, ℕ, zero, suc, ◌+◌, ◌-◌, ◌<◌, ◌≤◌, ◌⊎◌, inl, inr, Bool, true, false, List, [], ◌∷◌, refl, sym, ap, ◌∙◌, subst, arith}
use Rattle.std.proofs.lemmas.Bool.{cases_lt}
use Rattle.std.specs.Prelude.{Option, Some, None, map, length, ◌==◌, ◌||◌, if◌then◌else◌}
use Rattle.adj_tree.specs.Code.{Var, plain, var_eq, name_eq, Terms, Act, assign, choose, loop, during, call, runtime, Code, stop, step, Procedure}
use Rattle.def_meaning.specs.Append.{◌+++◌}
use Rattle.def_meaning.specs.Trap.{shape_trap, schedule_trap}
use Rattle.def_meaning.specs.Value.{Setting}
use Rattle.def_meaning.specs.Scene.{Scene, stand, IsMore, Outcome, Done, Trapped, then_do, counted}
use Rattle.def_meaning.specs.Run.{Calls, act, run}
use Rattle.def_meaning.specs.LeastSet.{Dummies, row_of, by_rule, rounds, dummies_in_all}
use Rattle.def_meaning.specs.Written.{find_unit, act_writes, writes, write_rule, handed_back}
use Rattle.def_meaning.specs.Units.{actuals, dummies_fit, entry_store, copied_out, setting_in, entered, unit_run, call_in, calls_of}
use Rattle.law_meaning.specs.Follows.{Follows, both_more}
use Rattle.law_meaning.specs.Laws.{RunsPadded, PadsPay}
use Rattle.def_meaning.specs.Padded.{idle, waiting, padded_act, padded, padded_procedure, padded_program}
use Rattle.law_meaning.proofs.Inversions.{count_done}
use Rattle.law_meaning.proofs.Following.{follows_done, follows_trap, follows_if}
use Rattle.law_meaning.proofs.Padding.{Equal, follows_value, follows_next, CallsFollow, waiting_more, waiting_past, run_padded}

-- ---- the price of a statement

-- without extra statements a padded list is the list
mutual
  act_unpadded : (a : Act) → padded_act (λ b. 0) a ≡ a
  act_unpadded (assign x subs e) = refl
  act_unpadded (choose c a b) = λ i. choose c (unpadded a i) (unpadded b i)
  act_unpadded (loop x first last by body m) = λ i. loop x first last by (unpadded body i) m
  act_unpadded (during c body) = ap (during c) (unpadded body)
  act_unpadded (call name args) = refl
  act_unpadded (runtime r) = refl

  pub unpadded : (c : Code) → padded (λ b. 0) c ≡ c
  unpadded stop = refl
  unpadded (step line a rest) = λ i. step line (act_unpadded a i) (unpadded rest i)

module _ (extra : Act → ℕ) where
  -- a padded list pays for a statement what it weighs more than one, and then counts it
  pub pays : {C : Type 0} (q : Calls C) (n : Setting C) (line : ℕ) (a : Act) (rest : Code) (s : Scene C) (k : ℕ) → run q n (padded extra (step line a rest)) s (extra a + k) ≡ counted (stand n s) k (λ j. then_do (act q n (padded_act extra a) line s j) (run q n (padded extra rest)))
  pays q n line a rest s k = waiting_past q n (extra a) line (step line (padded_act extra a) (padded extra rest)) s k

  waiting_append : (m line : ℕ) (c d : Code) → waiting m line c +++ d ≡ waiting m line (c +++ d)
  waiting_append zero line c d = refl
  waiting_append (suc m) line c d = ap (step line idle) (waiting_append m line c d)

  -- lists are padded part by part
  pub padded_append : (c d : Code) → padded extra (c +++ d) ≡ padded extra c +++ padded extra d
  padded_append stop d = refl
  padded_append (step line a rest) d =
      ap (λ z. waiting (extra a) line (step line (padded_act extra a) z)) (padded_append rest d)
      ∙ sym (waiting_append (extra a) line (step line (padded_act extra a) (padded extra rest)) (padded extra d))

  -- ---- dummies that are written

  waiting_writes : (handed : Dummies) (x : Var) (m line : ℕ) (c : Code) → writes handed x (waiting m line c) ≡ writes handed x c
  waiting_writes handed x zero line c = refl
  waiting_writes handed x (suc m) line c = waiting_writes handed x m line c

  mutual
    act_writes_padded : (handed : Dummies) (x : Var) (a : Act) → act_writes handed x (padded_act extra a) ≡ act_writes handed x a
    act_writes_padded handed x (assign y subs e) = refl
    act_writes_padded handed x (choose c a b) = λ i. writes_padded handed x a i || writes_padded handed x b i
    act_writes_padded handed x (loop y first last by body m) = ap (λ z. var_eq x y || z) (writes_padded handed x body)
    act_writes_padded handed x (during c body) = writes_padded handed x body
    act_writes_padded handed x (call name args) = refl
    act_writes_padded handed x (runtime r) = refl

    -- a padded list writes what the list writes
    pub writes_padded : (handed : Dummies) (x : Var) (c : Code) → writes handed x (padded extra c) ≡ writes handed x c
    writes_padded handed x stop = refl
    writes_padded handed x (step line a rest) =
        waiting_writes handed x (extra a) line (step line (padded_act extra a) (padded extra rest)) ∙ (λ i. act_writes_padded handed x a i || writes_padded handed x rest i)

  row_padded : (units : List Procedure) (rows : List (List Bool)) (name : List ℕ) → row_of (padded_program extra units) rows name ≡ row_of units rows name
  row_padded [] rows name = refl
  row_padded (u ∷ us) [] name = refl
  row_padded (u ∷ us) (ws ∷ rows) name = ap (λ z. if name_eq u.name name then ws else z) (row_padded us rows name)

  dummies_padded : (units : List Procedure) → dummies_in_all (padded_program extra units) ≡ dummies_in_all units
  dummies_padded [] = refl
  dummies_padded (u ∷ us) = ap (λ z. length u.dummies + z) (dummies_padded us)

  rows_padded : (f : Procedure → List Bool) → ((u : Procedure) → f (padded_procedure extra u) ≡ f u) → (units : List Procedure) → map f (padded_program extra units) ≡ map f units
  rows_padded f h [] = refl
  rows_padded f h (u ∷ us) = λ i. h u i ∷ rows_padded f h us i

  module _ (units : List Procedure) where
    found_padded : (rows : List (List Bool)) → by_rule write_rule (padded_program extra units) rows ≡ by_rule write_rule units rows
    found_padded rows =
        rows_padded (λ u. map (write_rule (row_of (padded_program extra units) rows) u) u.dummies) (λ u i. map (λ d. writes_padded (row_of (padded_program extra units) rows) (plain d) u.body i) u.dummies) units
        ∙ (λ i. map (λ u. map (write_rule (λ name. row_padded units rows name i) u) u.dummies) units)

    rounds_padded : (k : ℕ) → rounds write_rule (padded_program extra units) k ≡ rounds write_rule units k
    rounds_padded zero = rows_padded (λ u. map (λ d. false) u.dummies) (λ u. refl) units
    rounds_padded (suc k) = found_padded (rounds write_rule (padded_program extra units) k) ∙ ap (by_rule write_rule units) (rounds_padded k)

    -- units hand back what they did
    pub handed_padded : (name : List ℕ) → handed_back (padded_program extra units) name ≡ handed_back units name
    handed_padded name =
        row_padded units (rounds write_rule (padded_program extra units) (dummies_in_all (padded_program extra units))) name
        ∙ ap (λ z. row_of units z name) (ap (rounds write_rule (padded_program extra units)) (dummies_padded units) ∙ rounds_padded (dummies_in_all units))

  -- ---- units that are looked for

  abbrev pub padded_found : Option Procedure → Option Procedure
  padded_found None = None
  padded_found (Some u) = Some (padded_procedure extra u)

  pub find_padded : (units : List Procedure) (name : List ℕ) → find_unit (padded_program extra units) name ≡ padded_found (find_unit units name)
  find_padded [] name = refl
  find_padded (u ∷ us) name = go (name_eq u.name name) (find_padded us name)
    where
      go : (b : Bool) → find_unit (padded_program extra us) name ≡ padded_found (find_unit us name) → (if b then Some (padded_procedure extra u) else find_unit (padded_program extra us) name) ≡ padded_found (if b then Some u else find_unit us name)
      go true e = refl
      go false e = e

-- ---- units and calls

module _ {C : Type 0} (w : ℕ) (extra : Act → ℕ) (few : (a : Act) → extra a + 1 ≤ w) where
  module _ (q q' : Calls C) (calls : CallsFollow w q q') (n : Setting C) where
    -- a unit
    pub unit_padded : (u : Procedure) (line : ℕ) (s : Scene C) (k : ℕ) → Follows Equal w 0 (unit_run q n u line s) (unit_run q' n (padded_procedure extra u) line s) k
    unit_padded u line s k =
        let closed : Scene C → ℕ → Outcome (Scene C) = λ s1 j. if s1.opened == 0 then Done s1 j else Trapped schedule_trap line (stand n s1) in
        follows_next w (run q (setting_in n u s.store) u.body (entered n u s)) (run q' (setting_in n u s.store) (padded extra u.body) (entered n u s)) closed closed k
        (run_padded w extra few q q' calls (setting_in n u s.store) u.body (entered n u s) k)
        (λ s1 j. follows_if w 0 Equal (s1.opened == 0) (λ i. Done s1 i) (λ i. Trapped schedule_trap line (stand n s1)) (λ i. Done s1 i) (λ i. Trapped schedule_trap line (stand n s1)) j (follows_done w 0 Equal s1 s1 j refl) (follows_trap w 0 Equal schedule_trap schedule_trap line (stand n s1) (stand n s1) j))

    -- a call of a unit that was looked for
    call_padded : (ws : List Bool) (u : Option Procedure) (args : Terms) (line : ℕ) (s : Scene C) (k : ℕ) → Follows Equal w 0 (call_in q n ws u args line s) (call_in q' n ws (padded_found extra u) args line s) k
    call_padded ws None args line s k = follows_trap w 0 Equal shape_trap shape_trap line (stand n s) (stand n s) k
    call_padded ws (Some u) args line s k =
        follows_value w (actuals n args s.store) line (stand n s) _ _ k (λ got.
        let start : Scene C = record s { store = entry_store n.numbers u.dummies got } in
        let back : Scene C → ℕ → Outcome (Scene C) = λ s1 j. Done (record s { store = copied_out u.dummies ws got s1.store s.store; tape = s1.tape; events = s1.events }) j in
        follows_if w 0 Equal (dummies_fit n.numbers u start.store u.dummies got)
        (λ j. then_do (unit_run q n u line start j) back) (λ j. Trapped shape_trap line (stand n s))
        (λ j. then_do (unit_run q' n (padded_procedure extra u) line start j) back) (λ j. Trapped shape_trap line (stand n s)) k
        (follows_next w (unit_run q n u line start) (unit_run q' n (padded_procedure extra u) line start) back back k (unit_padded u line start k) (λ s1 j. follows_done w 0 Equal _ _ j refl))
        (follows_trap w 0 Equal shape_trap shape_trap line (stand n s) (stand n s) k))

  -- the calls of a program, by their depth
  pub calls_padded : (units : List Procedure) (depth : ℕ) → CallsFollow {C = C} w (calls_of units depth) (calls_of (padded_program extra units) depth)
  calls_padded units zero n name args line s k = both_more tt (λ j le. tt)
  calls_padded units (suc depth) n name args line s k =
      subst (λ p. Follows Equal w 0 (calls_of units (suc depth) n name args line s) p k)
      (λ i. call_in (calls_of (padded_program extra units) depth) n (sym (handed_padded extra units name) i) (sym (find_padded extra units name) i) args line s)
      (call_padded (calls_of units depth) (calls_of (padded_program extra units) depth) (calls_padded units depth) n (handed_back units name) (find_unit units name) args line s k)

-- a list of a program
pub runs_padded : {C : Type 0} → RunsPadded C
runs_padded units extra w few depth n c s k = run_padded w extra few (calls_of units depth) (calls_of (padded_program extra units) depth) (calls_padded w extra few units depth) n c s k

pub pads_pay : {C : Type 0} → PadsPay C
pads_pay extra q n line a c s k = pays extra q n line a c s k

-- a padded list that is done paid for its first statement, counted it, and was done with the rest
pub record Paid {C : Type 0} (extra : Act → ℕ) (q : Calls C) (n : Setting C) (line : ℕ) (a : Act) (rest : Code) (s s' : Scene C) (k k' : ℕ) : Type 0 where
  pub left : ℕ
  pub is : k ≡ extra a + 1 + left
  pub goes : then_do (act q n (padded_act extra a) line s left) (run q n (padded extra rest)) ≡ Done s' k'

pub paid_done : {C : Type 0} (extra : Act → ℕ) (q : Calls C) (n : Setting C) (line : ℕ) (a : Act) (rest : Code) (s s' : Scene C) (k k' : ℕ) → run q n (padded extra (step line a rest)) s k ≡ Done s' k' → Paid extra q n line a rest s s' k k'
paid_done extra q n line a rest s s' k k' h = go (cases_lt k (extra a))
  where
    go : (k < extra a) ⊎ (extra a ≤ k) → Paid extra q n line a rest s s' k k'
    go (inl lt) = absurd (subst IsMore h (waiting_more q n (extra a) line (step line (padded_act extra a) (padded extra rest)) s k lt))
    go (inr le) =
        let e : extra a + (k - extra a) ≡ k = omega (arith, le) in
        let c = count_done (stand n s) (k - extra a) (λ j. then_do (act q n (padded_act extra a) line s j) (run q n (padded extra rest))) s' k' (sym (pays extra q n line a rest s (k - extra a)) ∙ ap (run q n (padded extra (step line a rest)) s) e ∙ h) in
        record { left = c.left; is = omega (arith, le, c.is); goes = c.goes }
