-- The names in a unit's statements begin with letters, where its lowered unit has no undeclared name.
use Rattle.std.proofs.Common.{◌≡◌, ℕ, Bool, true, false, List, [], ◌∷◌, ◌++◌, map, refl, sym, subst, arith, if◌then◌else◌}
use Rattle.std.proofs.lemmas.List.{map-append}
use Rattle.std.proofs.lemmas.Bool.Decides.{nat_tests}
use Rattle.std.specs.Prelude.{not, ◌&&◌, ◌||◌}
use Rattle.adj_tree.specs.Code.{Terms, none, more, Act, assign, choose, loop, during, call, runtime, Code, stop, step, Declaration, Procedure}
use Rattle.def_meaning.specs.Apart.{has_name}
use Rattle.def_names.specs.Statements.{At, inner, statements}
use Rattle.def_names.specs.Standing.{Standing, in_actual, in_actuals, in_act}
use Rattle.def_names.specs.Variables.{Name, is_integer_name, is_integer, dummy_places, declared_places, statement_places, places}
use Rattle.adj_tree.specs.Common.{Shared}
use Rattle.def_common.specs.Members.{Member, members}
use Rattle.def_common.specs.Lowering.{behind, with_extents, is_declared_so, new_declarations, lowered_act, lowered, lowered_unit}
use Rattle.law_common.specs.Lowers.{Each}
use Rattle.law_common.proofs.Laying.{declared_names, each_append, each_front, each_behind, each_map, each_of_map}
use Rattle.law_common.proofs.Letters.{Begins, BeginsDeclared, HasLetters}
use Rattle.law_common.proofs.Keeping.{each_name}
use Rattle.law_common.proofs.Faults.{each_parts}
use Rattle.law_common.proofs.Declared.{with_names}
use Rattle.law_common.proofs.Freshness.{Said}

-- ---- statements before they are lowered

abbrev Names : List Standing → Type 0
Names l = Each (λ n. Begins n.name) l

abbrev All : List (At Act) → Type 0
All ss = Each (λ a. Names (in_act a.1)) ss

actuals_said : (args : Terms) (xs : List (List ℕ)) → Names (in_actuals (behind args xs)) → Names (in_actuals args)
actuals_said none xs h = tt
actuals_said (more e es) xs h =
    each_append (λ n. Begins n.name) (in_actual e) (in_actuals es) (each_front (λ n. Begins n.name) (in_actual e) (in_actuals (behind es xs)) h) (actuals_said es xs (each_behind (λ n. Begins n.name) (in_actual e) (in_actuals (behind es xs)) h))

module _ (ps : List Shared) (ms : List Member) where
  own_said : (a : Act) → Names (in_act (lowered_act ps ms a)) → Names (in_act a)
  own_said (assign x subs e) h = h
  own_said (choose c a b) h = h
  own_said (loop x first last by body m) h = h
  own_said (during c body) h = h
  own_said (call name args) h = actuals_said args _ h
  own_said (runtime r) h = h

  mutual
    inner_said : (a : Act) → All (inner (lowered_act ps ms a)) → All (inner a)
    inner_said (assign x subs e) h = tt
    inner_said (choose c a b) h =
        let l = statements (lowered ps ms a) in
        let k = statements (lowered ps ms b) in
        each_append (λ a. Names (in_act a.1)) (statements a) (statements b) (code_said a (each_front (λ a. Names (in_act a.1)) l k h)) (code_said b (each_behind (λ a. Names (in_act a.1)) l k h))
    inner_said (loop x first last by body m) h = code_said body h
    inner_said (during c body) h = code_said body h
    inner_said (call name args) h = tt
    inner_said (runtime r) h = tt

    code_said : (c : Code) → All (statements (lowered ps ms c)) → All (statements c)
    code_said stop h = tt
    code_said (step line a rest) h =
        let l = inner (lowered_act ps ms a) in
        let k = statements (lowered ps ms rest) in
        (own_said a h.0, each_append (λ a. Names (in_act a.1)) (inner a) (statements rest) (inner_said a (each_front (λ a. Names (in_act a.1)) l k h.1)) (code_said rest (each_behind (λ a. Names (in_act a.1)) l k h.1)))

-- ---- names that are declared, or integers by their first letter

integer_begins : (x : Name) → is_integer_name x ≡ true → Begins x
integer_begins [] h = absurd (let z : false ≡ true = h in cc)
integer_begins (c ∷ x) h = grind (arith, nat_tests)

new_begins : (u : Procedure) (ms : List Member) → Each (λ m. Begins m.name) ms → Each Begins (declared_names (new_declarations u ms))
new_begins u [] h = tt
new_begins u (m ∷ ms) h = go (is_declared_so u m) (new_begins u ms h.1)
  where
    go : (b : Bool) → Each Begins (declared_names (new_declarations u ms)) → Each Begins (declared_names (if b then record { line = m.line; name = m.name; extents = if m.own then m.item else m.extents } ∷ new_declarations u ms else new_declarations u ms))
    go true r = (h.0, r)
    go false r = r

old_begins : (ds : List Declaration) → Each BeginsDeclared ds → Each Begins (declared_names ds)
old_begins [] h = tt
old_begins (d ∷ ds) h = (h.0.0, old_begins ds h.1)

module _ (ps : List Shared) (s : Shared) (letters : HasLetters s) (named : Each (λ m. Begins m.name) (members ps s)) where
  abbrev u : Procedure
  u = lowered_unit ps s

  declared_begin : Each Begins (declared_names u.declarations)
  declared_begin =
      let ms = members ps s in
      subst (Each Begins) (sym (map-append (λ (d : Declaration). d.name) (map (with_extents ms) s.unit.declarations) (new_declarations s.unit ms)))
      (each_append Begins (declared_names (map (with_extents ms) s.unit.declarations)) (declared_names (new_declarations s.unit ms)) (subst (Each Begins) (sym (with_names ms s.unit.declarations)) (old_begins s.unit.declarations letters.declared))
      (new_begins s.unit ms named))

  name_begins : (x : Name) → is_integer u x ≡ true → Begins x
  name_begins x h = go (has_name x (declared_names u.declarations)) refl (not u.is_none) h
    where
      go : (b : Bool) → has_name x (declared_names u.declarations) ≡ b → (c : Bool) → (b || (c && is_integer_name x)) ≡ true → Begins x
      go true e c h = each_name Begins (declared_names u.declarations) declared_begin x e
      go false e true h = integer_begins x h
      go false e false h = absurd (let z : false ≡ true = h in cc)

  -- so all names in statements begin with letters
  pub all_said : Each (λ p. is_integer u p.1 ≡ true) (places u) → Said s.unit
  all_said h =
      code_said ps (members ps s) s.unit.body
      (each_map (λ (a : At Act). Each (λ p. Begins p.1) (map (λ (n : Standing). (a.0, n.name)) (in_act a.1))) (λ a. Names (in_act a.1)) (λ a k. each_of_map (λ p. Begins p.1) (λ (n : Standing). (a.0, n.name)) (in_act a.1) k) (statements u.body)
      (each_parts (λ p. Begins p.1) (λ (a : At Act). map (λ (n : Standing). (a.0, n.name)) (in_act a.1)) (statements u.body)
      (each_map (λ p. is_integer u p.1 ≡ true) (λ p. Begins p.1) (λ p k. name_begins p.1 k) (statement_places u) (each_behind (λ p. is_integer u p.1 ≡ true) (declared_places u) (statement_places u) (each_behind (λ p. is_integer u p.1 ≡ true) (dummy_places u) (declared_places u ++ statement_places u) h)))))
