-- The dummies that a unit of the stepped program writes are those that its source writes.
use Rattle.std.proofs.Common.{◌≡◌, ℕ, zero, suc, ◌+◌, ◌⊎◌, inl, inr, Bool, true, false, List, [], ◌∷◌, map, refl, sym, ap, ◌∙◌, subst}
use Rattle.std.proofs.lemmas.Bool.{or_cases}
use Rattle.std.specs.Prelude.{◌||◌, ◌&&◌, Some, pos}
use Rattle.adj_tree.specs.Code.{Var, plain, var_eq, name_eq, lit, Terms, none, more, unmarked, with_count, count_from, Act, assign, choose, loop, during, call, runtime, Code, stop, step, Procedure}
use Rattle.adj_tree.proofs.Names.{name_same}
use Rattle.def_meaning.specs.LeastSet.{Dummies, row_of, no_dummies, by_rule, rounds, dummies_in_all, IsWithin}
use Rattle.def_meaning.specs.Written.{find_unit, is_handed_back, act_writes, writes, write_rule, handed_back, is_written}
use Rattle.def_meaning.proofs.Booleans.{or_more, and_true}
use Rattle.def_meaning.proofs.LeastSets.{of_found, row_map}
use Rattle.law_meaning.proofs.WriteSets.{handed_written}
use Rattle.def_meaning.proofs.WritesMore.{handed_more}
use Rattle.law_kernel.specs.Apart.{EachCall', EachCall}
use Rattle.law_kernel.specs.Fits.{PlainCode}
use Rattle.def_kernel.specs.Stepped.{marked_in, marked_in_act, step_dummies, as_actuals, step_name, cut_act, cut, step_unit}
use Rattle.law_kernel.specs.StepTheorem.{IsStepThere, StepsThereAct, StepsThere, IsStepFor, IsMatched}
use Rattle.law_kernel.proofs.Locals.{own_body}
use Rattle.law_kernel.proofs.SameWritten.{row_by, same_row}
use Rattle.law_kernel.proofs.StepUnits.{covered}

-- a name that is handed back is written
handed_back_of : (y : List ℕ) (f : List ℕ → Bool) (vs : List (List ℕ)) → is_handed_back (plain y) (map f vs) (as_actuals vs) ≡ true → f y ≡ true
handed_back_of y f [] h = absurd cc
handed_back_of y f (v ∷ vs) h = go (or_cases (f v && name_eq y v) (is_handed_back (plain y) (map f vs) (as_actuals vs)) h) (λ k. handed_back_of y f vs k)
  where
    go : ((f v && name_eq y v) ≡ true) ⊎ (is_handed_back (plain y) (map f vs) (as_actuals vs) ≡ true) → (is_handed_back (plain y) (map f vs) (as_actuals vs) ≡ true → f y ≡ true) → f y ≡ true
    go (inl e) ih = let p = and_true (f v) (name_eq y v) e in ap f (name_same y v p.1) ∙ p.0
    go (inr e) ih = ih e

-- nothing is handed back where no dummy is written
none_handed : (x : Var) (ds : List (List ℕ)) (es : Terms) → is_handed_back x (map (λ d. false) ds) es ≡ true → ⊥
none_handed x [] es h = cc
none_handed x (d ∷ ds) none h = cc
none_handed x (d ∷ ds) (more e es) h = none_handed x ds es h

module _ (units units' : List Procedure) (plainly : (name : List ℕ) (v : Procedure) → find_unit units name ≡ Some v → PlainCode v.body) (each : (name : List ℕ) (v : Procedure) → find_unit units name ≡ Some v → EachCall (IsMatched units) v.body) (stepped : (name : List ℕ) (v : Procedure) → find_unit units name ≡ Some v → IsStepFor units' name v) where
  -- what is found after a round, by the unit of a name
  row_after : (us : List Procedure) (rows : List (List Bool)) (name : List ℕ) (v : Procedure) → find_unit us name ≡ Some v → row_of us (by_rule write_rule us rows) name ≡ map (write_rule (row_of us rows) v) v.dummies
  row_after us rows name v f = row_map (λ u. map (write_rule (row_of us rows) u) u.dummies) us name ∙ ap (of_found (λ u. map (write_rule (row_of us rows) u) u.dummies)) f

  row_before : (us : List Procedure) (name : List ℕ) (v : Procedure) → find_unit us name ≡ Some v → row_of us (no_dummies us) name ≡ map (λ d. false) v.dummies
  row_before us name v f = row_map (λ u. map (λ d. false) u.dummies) us name ∙ ap (of_found (λ u. map (λ d. false) u.dummies)) f

  -- ---- the kernel writes what the source writes

  module _ (known : Dummies) (taken : List (List ℕ)) (u : Procedure) where
    abbrev mutual
      -- what is known of step units is written in the bodies of their loops
      StepsKnownAct : ℕ → ℕ → Act → Type 0
      StepsKnownAct k line (assign x subs e) = Unit {0}
      StepsKnownAct k line (choose c a b) = StepsKnown k a × StepsKnown (k + marked_in a) b
      StepsKnownAct k line (loop x first last by body unmarked) = StepsKnown k body
      StepsKnownAct k line (loop x first last by body (with_count m)) = ((y : List ℕ) → is_handed_back (plain y) (known (step_name taken u.name k)) (as_actuals (step_dummies u x body)) ≡ true → writes (handed_back units) (plain y) body ≡ true) × StepsKnown (suc k) body
      StepsKnownAct k line (loop x first last by body (count_from counter)) = ((y : List ℕ) → is_handed_back (plain y) (known (step_name taken u.name k)) (as_actuals (step_dummies u x body)) ≡ true → writes (handed_back units) (plain y) body ≡ true) × StepsKnown (suc k) body
      StepsKnownAct k line (during c body) = StepsKnown k body
      StepsKnownAct k line (call name args) = Unit {0}
      StepsKnownAct k line (runtime r) = Unit {0}

      StepsKnown : ℕ → Code → Type 0
      StepsKnown k stop = Unit {0}
      StepsKnown k (step line a rest) = StepsKnownAct k line a × StepsKnown (k + marked_in_act a) rest

    or_nothing : (b : Bool) → (b || false) ≡ true → b ≡ true
    or_nothing true e = refl
    or_nothing false e = e

    module _ (within : (name : List ℕ) (v : Procedure) → find_unit units name ≡ Some v → IsWithin (known name) (handed_back units name)) where
      mutual
        back_act : (k line : ℕ) (a : Act) (y : List ℕ) → EachCall' (IsMatched units) a → StepsKnownAct k line a → act_writes known (plain y) (cut_act taken u k line a) ≡ true → act_writes (handed_back units) (plain y) a ≡ true
        back_act k line (assign x subs e) y p st h = h
        back_act k line (choose c a b) y p st h =
            or_more (writes known (plain y) (cut taken u k a)) (writes known (plain y) (cut taken u (k + marked_in a) b)) (writes (handed_back units) (plain y) a) (writes (handed_back units) (plain y) b) (back_code k a y p.0 st.0) (back_code (k + marked_in a) b y p.1 st.1) h
        back_act k line (loop x first last by body unmarked) y p st h = or_more (var_eq (plain y) x) (writes known (plain y) (cut taken u k body)) (var_eq (plain y) x) (writes (handed_back units) (plain y) body) (λ z. z) (back_code k body y p st) h
        back_act k line (loop x first last by body (with_count m)) y p st h =
            or_more (var_eq (plain y) x) (is_handed_back (plain y) (known (step_name taken u.name k)) (as_actuals (step_dummies u x body)) || false) (var_eq (plain y) x) (writes (handed_back units) (plain y) body) (λ z. z) (λ g. st.0 y (or_nothing _ g)) h
        back_act k line (loop x first last by body (count_from counter)) y p st h =
            or_more (var_eq (plain y) x) (is_handed_back (plain y) (known (step_name taken u.name k)) (as_actuals (step_dummies u x body)) || false) (var_eq (plain y) x) (writes (handed_back units) (plain y) body) (λ z. z) (λ g. st.0 y (or_nothing _ g)) h
        back_act k line (during c body) y p st h = back_code k body y p st h
        back_act k line (call name args) y p st h = handed_more (plain y) (known name) (handed_back units name) args (within name p.called p.found) h
        back_act k line (runtime r) y p st h = absurd p

        back_code : (k : ℕ) (c : Code) (y : List ℕ) → EachCall (IsMatched units) c → StepsKnown k c → writes known (plain y) (cut taken u k c) ≡ true → writes (handed_back units) (plain y) c ≡ true
        back_code k stop y p st h = h
        back_code k (step line a rest) y p st h =
            or_more (act_writes known (plain y) (cut_act taken u k line a)) (writes known (plain y) (cut taken u (k + marked_in_act a) rest)) (act_writes (handed_back units) (plain y) a) (writes (handed_back units) (plain y) rest) (back_act k line a y p.0 st.0) (back_code (k + marked_in_act a) rest y p.1 st.1) h

  abbrev after : ℕ → Dummies
  after j name = row_of units' (rounds write_rule units' j) name

  -- what is known of the step units before the first round, and after another
  module _ (taken : List (List ℕ)) (u : Procedure) where
    mutual
      known_first_act : (k line : ℕ) (a : Act) → StepsThereAct units' taken u k line a → StepsKnownAct (after 0) taken u k line a
      known_first_act k line (assign x subs e) st = tt
      known_first_act k line (choose c a b) st = (known_first k a st.0, known_first (k + marked_in a) b st.1)
      known_first_act k line (loop x first last by body unmarked) st = known_first k body st
      known_first_act k line (loop x first last by body (with_count m)) st = (
        (λ y h. absurd (none_handed (plain y) (step_dummies u x body) (as_actuals (step_dummies u x body)) (ap (λ z. is_handed_back (plain y) z (as_actuals (step_dummies u x body))) (sym (row_before units' (step_name taken u.name k) (step_unit taken u k line x body) st.0)) ∙ h))),
        known_first (suc k) body st.1,
      )
      known_first_act k line (loop x first last by body (count_from counter)) st = (
        (λ y h. absurd (none_handed (plain y) (step_dummies u x body) (as_actuals (step_dummies u x body)) (ap (λ z. is_handed_back (plain y) z (as_actuals (step_dummies u x body))) (sym (row_before units' (step_name taken u.name k) (step_unit taken u k line x body) st.0)) ∙ h))),
        known_first (suc k) body st.1,
      )
      known_first_act k line (during c body) st = known_first k body st
      known_first_act k line (call name args) st = tt
      known_first_act k line (runtime r) st = tt

      known_first : (k : ℕ) (c : Code) → StepsThere units' taken u k c → StepsKnown (after 0) taken u k c
      known_first k stop st = tt
      known_first k (step line a rest) st = (known_first_act k line a st.0, known_first (k + marked_in_act a) rest st.1)

    module _ (j : ℕ) (within : (name : List ℕ) (v : Procedure) → find_unit units name ≡ Some v → IsWithin (after j name) (handed_back units name)) where
      mutual
        known_next_act : (k line : ℕ) (a : Act) → EachCall' (IsMatched units) a → StepsThereAct units' taken u k line a → StepsKnownAct (after j) taken u k line a → StepsKnownAct (after (suc j)) taken u k line a
        known_next_act k line (assign x subs e) p st kn = tt
        known_next_act k line (choose c a b) p st kn = (known_next k a p.0 st.0 kn.0, known_next (k + marked_in a) b p.1 st.1 kn.1)
        known_next_act k line (loop x first last by body unmarked) p st kn = known_next k body p st kn
        known_next_act k line (loop x first last by body (with_count m)) p st kn = (
          (λ y h.
              back_code (after j) taken u within (suc k) body y p kn.1
              (handed_back_of y (write_rule (after j) (step_unit taken u k line x body)) (step_dummies u x body)
              (ap (λ z. is_handed_back (plain y) z (as_actuals (step_dummies u x body))) (sym (row_after units' (rounds write_rule units' j) (step_name taken u.name k) (step_unit taken u k line x body) st.0)) ∙ h))),
          known_next (suc k) body p st.1 kn.1,
        )
        known_next_act k line (loop x first last by body (count_from counter)) p st kn = (
          (λ y h.
              back_code (after j) taken u within (suc k) body y p kn.1
              (handed_back_of y (write_rule (after j) (step_unit taken u k line x body)) (step_dummies u x body)
              (ap (λ z. is_handed_back (plain y) z (as_actuals (step_dummies u x body))) (sym (row_after units' (rounds write_rule units' j) (step_name taken u.name k) (step_unit taken u k line x body) st.0)) ∙ h))),
          known_next (suc k) body p st.1 kn.1,
        )
        known_next_act k line (during c body) p st kn = known_next k body p st kn
        known_next_act k line (call name args) p st kn = tt
        known_next_act k line (runtime r) p st kn = tt

        known_next : (k : ℕ) (c : Code) → EachCall (IsMatched units) c → StepsThere units' taken u k c → StepsKnown (after j) taken u k c → StepsKnown (after (suc j)) taken u k c
        known_next k stop p st kn = tt
        known_next k (step line a rest) p st kn = (known_next_act k line a p.0 st.0 kn.0, known_next (k + marked_in_act a) rest p.1 st.1 kn.1)

  -- after each round
  record Round (j : ℕ) : Type 0 where
    pub within : (name : List ℕ) (v : Procedure) → find_unit units name ≡ Some v → IsWithin (after j name) (handed_back units name)
    pub known : (name : List ℕ) (v : Procedure) (f : find_unit units name ≡ Some v) → StepsKnown (after j) (stepped name v f).taken v 0 v.body

  -- so it is after each round
  each_round : (j : ℕ) → Round j
  each_round zero = record {
    within = λ name v f.
        subst (λ z. IsWithin z (handed_back units name)) (sym (row_before units' name (record v { body = cut (stepped name v f).taken v 0 v.body }) (stepped name v f).found))
        (subst (λ z. IsWithin (map (λ d. false) v.dummies) z) (sym (handed_written units name v f)) (row_by v.dummies (λ d. false) (is_written units v) (λ d h e. absurd cc)));
    known = λ name v f. known_first (stepped name v f).taken v 0 v.body (stepped name v f).steps;
  }
  each_round (suc j) =
      let ih = each_round j in
      record {
        within = λ name v f.
            subst (λ z. IsWithin z (handed_back units name)) (sym (row_after units' (rounds write_rule units' j) name (record v { body = cut (stepped name v f).taken v 0 v.body }) (stepped name v f).found))
            (subst (λ z. IsWithin (map (write_rule (after j) (record v { body = cut (stepped name v f).taken v 0 v.body })) v.dummies) z) (sym (handed_written units name v f))
            (row_by v.dummies (write_rule (after j) (record v { body = cut (stepped name v f).taken v 0 v.body })) (is_written units v) (λ d h e. back_code (after j) (stepped name v f).taken v ih.within 0 v.body d (each name v f) (ih.known name v f) e)));
        known = λ name v f. known_next (stepped name v f).taken v j ih.within 0 v.body (each name v f) (stepped name v f).steps (ih.known name v f);
      }

  -- what is known of the step units of a list that are there, after each round
  module _ (taken : List (List ℕ)) (u : Procedure) where
    known_after : (k : ℕ) (c : Code) → EachCall (IsMatched units) c → StepsThere units' taken u k c → (j : ℕ) → StepsKnown (after j) taken u k c
    known_after k c p st zero = known_first taken u k c st
    known_after k c p st (suc j) = known_next taken u j (each_round j).within k c p st (known_after k c p st j)

    -- so what the cut list writes the list does
    pub cut_back : (k : ℕ) (c : Code) → EachCall (IsMatched units) c → StepsThere units' taken u k c → (y : List ℕ) → writes (handed_back units') (plain y) (cut taken u k c) ≡ true → writes (handed_back units) (plain y) c ≡ true
    cut_back k c p st y h = back_code (after (dummies_in_all units')) taken u (each_round (dummies_in_all units')).within k c y p (known_after k c p st (dummies_in_all units')) h

    -- and what the call of a step unit hands back its body writes
    pub step_back : (k line : ℕ) (x : Var) (body : Code) → EachCall (IsMatched units) body → IsStepThere units' taken u k line x body → StepsThere units' taken u (suc k) body → (y : List ℕ) → is_handed_back (plain y) (handed_back units' (step_name taken u.name k)) (as_actuals (step_dummies u x body)) ≡ true → writes (handed_back units) (plain y) body ≡ true
    step_back k line x body p here st y h = (known_after k (step line (loop x (lit (pos 0)) (lit (pos 0)) (lit (pos 0)) body (with_count 0)) stop) (p, tt) ((here, st), tt) (dummies_in_all units')).0.0 y h

  -- ---- and the source what the kernel writes

  abbrev before : ℕ → Dummies
  before j name = row_of units (rounds write_rule units j) name

  each_before : (j : ℕ) (name : List ℕ) (v : Procedure) → find_unit units name ≡ Some v → IsWithin (before j name) (handed_back units' name)
  each_before zero name v f =
      let s = stepped name v f in
      subst (λ z. IsWithin z (handed_back units' name)) (sym (row_before units name v f))
      (subst (λ z. IsWithin (map (λ d. false) v.dummies) z) (sym (handed_written units' name (record v { body = cut s.taken v 0 v.body }) s.found)) (row_by v.dummies (λ d. false) (is_written units' (record v { body = cut s.taken v 0 v.body })) (λ d h e. absurd cc)))
  each_before (suc j) name v f =
      let s = stepped name v f in
      subst (λ z. IsWithin z (handed_back units' name)) (sym (row_after units (rounds write_rule units j) name v f))
      (subst (λ z. IsWithin (map (write_rule (before j) v) v.dummies) z) (sym (handed_written units' name (record v { body = cut s.taken v 0 v.body }) s.found))
      (row_by v.dummies (write_rule (before j) v) (is_written units' (record v { body = cut s.taken v 0 v.body })) (λ d h e. covered units units' (before j) (λ n w g. each_before j n w g) s.taken v 0 v.body d (plainly name v f) (each name v f) s.steps (own_body v (plainly name v f)) e)))

  -- so the stepped program writes what the program writes
  pub step_written : (name : List ℕ) (v : Procedure) → find_unit units name ≡ Some v → handed_back units' name ≡ handed_back units name
  step_written name v f =
      let r = each_round (dummies_in_all units') in
      same_row (handed_back units' name) (handed_back units name) (r.within name v f) (each_before (dummies_in_all units) name v f)
