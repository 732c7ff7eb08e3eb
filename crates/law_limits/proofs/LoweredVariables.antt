-- The names in the text of a unit, and those of its members, are variables of its lowered unit.
use Rattle.std.proofs.Common.{◌≡◌, inl, inr, ℕ, Bool, true, false, List, [], ◌∷◌, ◌++◌, length, map, flat_map, refl, sym, ap, ◌∙◌, if◌then◌else◌}
use Rattle.std.specs.Prelude.{◌||◌, ◌&&◌, ◌==◌, not}
use Rattle.std.specs.List.{list_any}
use Rattle.std.proofs.Math.Dec.{eqb-suc-zero}
use Rattle.std.proofs.lemmas.Bool.{or_cases}
use Rattle.std.proofs.lemmas.List.{map-append}
use Rattle.std.proofs.lemmas.Grind.{flat_map-append}
use Rattle.adj_tree.specs.Code.{name_eq, Terms, none, more, Act, assign, choose, loop, during, call, runtime, Code, stop, step, Extent, fixed, given, Declaration, Procedure}
use Rattle.adj_tree.proofs.Names.{name_same}
use Rattle.def_meaning.specs.Apart.{has_name}
use Rattle.def_names.specs.NameFaults.{extent_names, is_bad_extent, has_bad_extents}
use Rattle.def_names.specs.Standing.{Standing, in_actual, in_actuals, in_act}
use Rattle.def_names.specs.Statements.{At, inner, statements}
use Rattle.def_names.specs.Variables.{dummy_places, declared_places, statement_places, places, is_dummy, is_scalar, variables}
use Rattle.def_names.proofs.Lists.{names_at, first_places-stand}
use Rattle.def_names.proofs.NameLists.{has-append}
use Rattle.def_names.proofs.Variables.{or_left, or_right}
use Rattle.def_meaning.proofs.Booleans.{or_false}
use Rattle.adj_tree.specs.Common.{Shared}
use Rattle.def_common.specs.Lowering.{item_extents, with_extents, new_declarations, behind, lowered_act, lowered, lowered_unit}
use Rattle.def_common.specs.Members.{Member, member_names, members, item_names, names_in}
use Rattle.law_common.specs.Lowers.{Each}
use Rattle.law_common.proofs.Declared.{with_names}
use Rattle.law_common.proofs.Laying.{each_front}

-- ---- among names

abbrev pub Within : List (List ℕ) → List (List ℕ) → Type 0
Within xs ys = (x : List ℕ) → has_name x xs ≡ true → has_name x ys ≡ true

within_join : (xs bs cs ds : List (List ℕ)) → Within xs cs → Within bs ds → Within (xs ++ bs) (cs ++ ds)
within_join xs bs cs ds f g x h =
    elim (or_cases (has_name x xs) (has_name x bs) (sym (has-append x xs bs) ∙ h)) [
      | inl e ↦ has-append x cs ds ∙ or_left (has_name x cs) (has_name x ds) (f x e)
      | inr e ↦ has-append x cs ds ∙ or_right (has_name x cs) (has_name x ds) (g x e)
    ]

within_front : (xs bs : List (List ℕ)) → Within xs (xs ++ bs)
within_front xs bs x h = has-append x xs bs ∙ or_left (has_name x xs) (has_name x bs) h

within_behind : (xs bs : List (List ℕ)) → Within bs (xs ++ bs)
within_behind xs bs x h = has-append x xs bs ∙ or_right (has_name x xs) (has_name x bs) h

within_same : (xs bs cs ds : List (List ℕ)) → xs ≡ bs → cs ≡ ds → Within bs ds → Within xs cs
within_same xs bs cs ds e f g x h = ap (has_name x) f ∙ g x (sym (ap (has_name x) e) ∙ h)

names_join : (ps qs : List (At (List ℕ))) → names_at (ps ++ qs) ≡ names_at ps ++ names_at qs
names_join ps qs = map-append (λ (p : At (List ℕ)). p.1) ps qs

-- ---- names in statements

abbrev stand_at : ℕ → List Standing → List (At (List ℕ))
stand_at line ss = map (λ (n : Standing). (line, n.name)) ss

abbrev stand_in : At Act → List (At (List ℕ))
stand_in s = stand_at s.0 (in_act s.1)

abbrev named : List (At Act) → List (List ℕ)
named ss = names_at (flat_map stand_in ss)

named_join : (ss ts : List (At Act)) → named (ss ++ ts) ≡ named ss ++ named ts
named_join ss ts = ap names_at (flat_map-append stand_in ss ts) ∙ names_join (flat_map stand_in ss) (flat_map stand_in ts)

behind_within : (line : ℕ) (args : Terms) (xs : List (List ℕ)) → Within (names_at (stand_at line (in_actuals args))) (names_at (stand_at line (in_actuals (behind args xs))))
behind_within line none xs = λ x h. absurd cc
behind_within line (more e es) xs =
    let here = names_at (stand_at line (in_actual e)) in
    let join : (fs : Terms) → names_at (stand_at line (in_actual e ++ in_actuals fs)) ≡ here ++ names_at (stand_at line (in_actuals fs)) = λ fs.
    ap names_at (map-append (λ (n : Standing). (line, n.name)) (in_actual e) (in_actuals fs)) ∙ names_join (stand_at line (in_actual e)) (stand_at line (in_actuals fs)) in
    within_same _ _ _ _ (join es) (join (behind es xs)) (within_join here _ here _ (λ x h. h) (behind_within line es xs))

module _ (ps : List Shared) (ms : List Member) where
  act_within : (line : ℕ) (a : Act) → Within (names_at (stand_in (line, a))) (names_at (stand_in (line, lowered_act ps ms a)))
  act_within line (assign x s e) = λ y h. h
  act_within line (choose c a b) = λ y h. h
  act_within line (loop x a b c body m) = λ y h. h
  act_within line (during c body) = λ y h. h
  act_within line (call x es) = behind_within line es _
  act_within line (runtime r) = λ y h. h

  mutual
    inner_within : (a : Act) → Within (named (inner a)) (named (inner (lowered_act ps ms a)))
    inner_within (assign x s e) = λ y h. h
    inner_within (choose c a b) =
        within_same _ _ _ _ (named_join (statements a) (statements b)) (named_join (statements (lowered ps ms a)) (statements (lowered ps ms b)))
        (within_join (named (statements a)) (named (statements b)) (named (statements (lowered ps ms a))) (named (statements (lowered ps ms b))) (code_within a) (code_within b))
    inner_within (loop x a b c body m) = code_within body
    inner_within (during c body) = code_within body
    inner_within (call x es) = λ y h. h
    inner_within (runtime r) = λ y h. h

    code_within : (c : Code) → Within (named (statements c)) (named (statements (lowered ps ms c)))
    code_within stop = λ y h. h
    code_within (step line a rest) =
        let b = lowered_act ps ms a in
        let later = lowered ps ms rest in
        within_same _ _ _ _ (names_join (stand_in (line, a)) (flat_map stand_in (inner a ++ statements rest)) ∙ ap (λ l. names_at (stand_in (line, a)) ++ l) (named_join (inner a) (statements rest)))
        (names_join (stand_in (line, b)) (flat_map stand_in (inner b ++ statements later)) ∙ ap (λ l. names_at (stand_in (line, b)) ++ l) (named_join (inner b) (statements later)))
        (within_join (names_at (stand_in (line, a))) _ (names_at (stand_in (line, b))) _ (act_within line a)
        (within_join (named (inner a)) (named (statements rest)) (named (inner b)) (named (statements later)) (inner_within a) (code_within rest)))

-- ---- the variables of a unit

abbrev declared_in : List Declaration → List (List ℕ)
declared_in ds = map (λ (d : Declaration). d.name) ds

dummies_at : (line : ℕ) (xs : List (List ℕ)) → names_at (map (λ (x : List ℕ). (line, x)) xs) ≡ xs
dummies_at line [] = refl
dummies_at line (x ∷ xs) = ap (λ l. x ∷ l) (dummies_at line xs)

declared_at : (ds : List Declaration) → names_at (map (λ (d : Declaration). (d.line, d.name)) ds) ≡ declared_in ds
declared_at [] = refl
declared_at (d ∷ ds) = ap (λ l. d.name ∷ l) (declared_at ds)

-- their names at all places
abbrev all_names : Procedure → List (List ℕ)
all_names u = u.dummies ++ (declared_in u.declarations ++ named (statements u.body))

placed : (u : Procedure) → names_at (places u) ≡ all_names u
placed u =
    names_join (dummy_places u) (declared_places u ++ statement_places u) ∙ ap (λ l. l ++ names_at (declared_places u ++ statement_places u)) (dummies_at u.line u.dummies)
    ∙ ap (λ l. u.dummies ++ l) (names_join (declared_places u) (statement_places u) ∙ ap (λ l. l ++ names_at (statement_places u)) (declared_at u.declarations))

known : (u : Procedure) (x : List ℕ) → has_name x (variables u) ≡ has_name x (all_names u)
known u x = first_places-stand x (places u) ∙ ap (has_name x) (placed u)

pub dummies_known : (u : Procedure) → Within u.dummies (variables u)
dummies_known u x h = known u x ∙ within_front u.dummies (declared_in u.declarations ++ named (statements u.body)) x h

module _ (ps : List Shared) (s : Shared) where
  abbrev u : Procedure
  u = lowered_unit ps s

  abbrev ms : List Member
  ms = members ps s

  -- the variables of the unit
  pub variables_kept : Within (variables s.unit) (variables u)
  variables_kept x h =
      known u x
      ∙ within_join s.unit.dummies (declared_in s.unit.declarations ++ named (statements s.unit.body)) u.dummies (declared_in u.declarations ++ named (statements u.body)) (within_front s.unit.dummies (member_names ms))
      (within_join (declared_in s.unit.declarations) (named (statements s.unit.body)) (declared_in u.declarations) (named (statements u.body)) declared (code_within ps ms s.unit.body)) x (sym (known s.unit x) ∙ h)
    where
      declared : Within (declared_in s.unit.declarations) (declared_in u.declarations)
      declared =
          within_same _ (declared_in (map (with_extents ms) s.unit.declarations)) _ _ (sym (with_names ms s.unit.declarations)) (map-append (λ (d : Declaration). d.name) (map (with_extents ms) s.unit.declarations) (new_declarations s.unit ms))
          (within_front (declared_in (map (with_extents ms) s.unit.declarations)) (declared_in (new_declarations s.unit ms)))

  -- its members
  pub members_known : Within (member_names ms) (variables u)
  members_known x h = dummies_known u x (within_behind s.unit.dummies (member_names ms) x h)

  -- names among its extents
  extents_good : (ds : List Declaration) → Each (λ d. has_bad_extents u d ≡ false) (map (with_extents ms) ds) → Within (flat_map (λ (d : Declaration). extent_names d.extents) ds) u.dummies
  extents_good [] h x k = absurd cc
  extents_good (d ∷ ds) h x k =
      elim (or_cases (has_name x (extent_names d.extents)) (has_name x (flat_map (λ (d : Declaration). extent_names d.extents) ds)) (sym (has-append x (extent_names d.extents) (flat_map (λ (d : Declaration). extent_names d.extents) ds)) ∙ k)) [
        | inl e ↦ here d.extents refl h.0 e
        | inr e ↦ extents_good ds h.1 x e
      ]
    where
      dummy : (a b : Bool) → not (a && b) ≡ false → a ≡ true
      dummy true b h = refl
      dummy false b h = absurd cc

      good : (es : List Extent) → list_any (is_bad_extent u) es ≡ false → has_name x (extent_names es) ≡ true → has_name x u.dummies ≡ true
      good [] g e = absurd cc
      good (fixed z ∷ es) g e = good es (or_false (is_bad_extent u (fixed z)) (list_any (is_bad_extent u) es) g).1 e
      good (given y ∷ es) g e = go (name_eq x y) refl e (good es (or_false (is_bad_extent u (given y)) (list_any (is_bad_extent u) es) g).1)
        where
          go : (b : Bool) → name_eq x y ≡ b → (b || has_name x (extent_names es)) ≡ true → (has_name x (extent_names es) ≡ true → has_name x u.dummies ≡ true) → has_name x u.dummies ≡ true
          go true f k later = ap (λ z. has_name z u.dummies) (name_same x y f) ∙ dummy (is_dummy u y) (is_scalar u y) (or_false (is_bad_extent u (given y)) (list_any (is_bad_extent u) es) g).0
          go false f k later = later k

      here : (es : List Extent) → d.extents ≡ es → has_bad_extents u (with_extents ms d) ≡ false → has_name x (extent_names es) ≡ true → has_name x u.dummies ≡ true
      here [] f g e = absurd cc
      here (y ∷ ys) f g e =
          let some : (length d.extents == 0) ≡ false = ap (λ es. length es == 0) f ∙ eqb-suc-zero (length ys) in
          let same : with_extents ms d ≡ d = ap (λ b. if b then record d { extents = item_extents ms d.name } else d) some in
          let bad : has_bad_extents u d ≡ false = ap (has_bad_extents u) (sym same) ∙ g in
          good d.extents (or_false (list_any (is_bad_extent u) d.extents) _ bad).0 (ap (λ es. has_name x (extent_names es)) f ∙ e)

  -- so where its extents are good, all names in its text are variables, unless they are of units or reserved
  pub text_known : Each (λ d. has_bad_extents u d ≡ false) u.declarations → Within (item_names s.commons) (member_names ms) → Within (names_in s) (variables u)
  text_known good items =
      let extents = flat_map (λ (d : Declaration). extent_names d.extents) s.unit.declarations in
      λ x h. elim (or_cases (has_name x (variables s.unit)) (has_name x (item_names s.commons ++ extents)) (sym (has-append x (variables s.unit) (item_names s.commons ++ extents)) ∙ h)) [
        | inl e ↦ variables_kept x e
        | inr e ↦ elim (or_cases (has_name x (item_names s.commons)) (has_name x extents) (sym (has-append x (item_names s.commons) extents) ∙ e)) [
          | inl f ↦ members_known x (items x f)
          | inr f ↦ dummies_known u x (extents_good s.unit.declarations (each_front (λ d. has_bad_extents u d ≡ false) (map (with_extents ms) s.unit.declarations) (new_declarations s.unit ms) good) x f)
        ]
      ]
