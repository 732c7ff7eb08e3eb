-- The members that a unit passes through have names that its text doesn't have.
use Rattle.std.proofs.Common.{◌≡◌, ◌⊎◌, inl, inr, ℕ, suc, ◌+◌, Bool, true, false, List, [], ◌∷◌, ◌++◌, map, refl, sym, ap, ◌∙◌, if◌then◌else◌}
use Rattle.std.proofs.lemmas.List.{map-append}
use Rattle.std.specs.Prelude.{◌||◌, length, flat_map, Option, Some, None}
use Rattle.adj_tree.specs.Code.{Var, plain, shadow, helper, name_eq, Term, lit, var, elem, neg, bin, pow, power_of, abs, Terms, none, more, Test, compare, negation, conjunction, disjunction, Runtime, push_word, pop_word, push_array, pop_array, push_control, pop_control, zero_array, begin_reversal, count_actions, give_action, end_reversal, Mark, unmarked, with_count, count_from, Act, assign, choose, loop, during, call, runtime, Code, stop, step, Extent, fixed, given, Declaration, Procedure}
use Rattle.adj_tree.proofs.Names.{name_refl, name_same}
use Rattle.def_meaning.specs.Apart.{has_name}
use Rattle.def_names.specs.Fresh.{fresh}
use Rattle.def_names.specs.NameFaults.{extent_names}
use Rattle.def_names.specs.Statements.{At, inner, statements}
use Rattle.def_names.specs.Standing.{Standing, standing, scalar, count_of, in_term, in_terms, in_place, in_test, in_actual, in_actuals, in_runtime, in_mark, in_act}
use Rattle.def_names.specs.Variables.{Name, dummy_places, declared_places, statement_places, places, variables}
use Rattle.def_names.proofs.Fresh.{fresh-is_free}
use Rattle.def_names.proofs.Lists.{names_at, first_places-stand}
use Rattle.adj_tree.specs.Common.{Common, Shared}
use Rattle.def_common.specs.Blocks.{declares, first_declaring}
use Rattle.def_common.specs.Members.{is_slot, Member, member_names, member_slots, own_items, own_members, found_members, passed_members, members_from, members, item_names, names_in, taken_in, owned, swapped, swap, swapped_extent, swapped_declaration}
use Rattle.law_common.specs.Passing.{AllSlots}
use Rattle.law_common.specs.Lowers.{Each, EachInTerm, EachInTerms, EachInTest, EachInRuntime, EachInMark, EachInAct, EachIn}
use Rattle.law_common.proofs.Laying.{each_append, each_front, each_behind, each_zip, true_front, true_behind}
use Rattle.law_common.proofs.Letters.{Begins, no_slot, ExtentBegins, BeginsDeclared, HasLetters}
use Rattle.def_names.proofs.NameLists.{has-append}

-- ---- fresh names

module _ (v : List (List ℕ)) where
  -- the unit declares the block, or the name is none of these
  abbrev pub IsNew : Member → Type 0
  IsNew m = (m.own ≡ true) ⊎ ((y : List ℕ) → has_name y v ≡ true → name_eq m.name y ≡ false)

  abbrev Covers : List (List ℕ) → Type 0
  Covers taken = (y : List ℕ) → has_name y v ≡ true → has_name y taken ≡ true

  items_new : (u : Procedure) (b : List ℕ) (line i : ℕ) (ds : List Declaration) → Each IsNew (own_items u b line i ds)
  items_new u b line i [] = tt
  items_new u b line i (d ∷ ds) = (inl refl, items_new u b line (suc i) ds)

  own_new : (u : Procedure) (b : List ℕ) (i : ℕ) (cs : List Common) → Each IsNew (own_members u b i cs)
  own_new u b i [] = tt
  own_new u b i (c ∷ cs) = go (name_eq c.block b) (own_new u b (i + length c.items) cs) (own_new u b i cs)
    where
      go : (p : Bool) → Each IsNew (own_members u b (i + length c.items) cs) → Each IsNew (own_members u b i cs) → Each IsNew (if p then own_items u b c.line i c.items ++ own_members u b (i + length c.items) cs else own_members u b i cs)
      go true h k = each_append IsNew (own_items u b c.line i c.items) (own_members u b (i + length c.items) cs) (items_new u b c.line i c.items) h
      go false h k = k

  -- a name that isn't taken is none of those
  apart_from : (x : List ℕ) (taken : List (List ℕ)) → Covers taken → has_name x taken ≡ false → (y : List ℕ) → has_name y v ≡ true → name_eq x y ≡ false
  apart_from x taken c h y k = go (name_eq x y) refl
    where
      go : (b : Bool) → name_eq x y ≡ b → b ≡ false
      go true e = absurd (let z : true ≡ false = sym (c y k) ∙ ap (λ z. has_name z taken) (sym (name_same x y e)) ∙ h in cc)
      go false e = refl

  passed_new : (line : ℕ) (taken : List (List ℕ)) → Covers taken → (ms : List Member) → Each IsNew (passed_members line taken ms)
  passed_new line taken c [] = tt
  passed_new line taken c (m ∷ ms) =
      (inr (apart_from (fresh m.name taken) taken c (fresh-is_free m.name taken)), passed_new line (fresh m.name taken ∷ taken) (λ y k. true_behind (name_eq y (fresh m.name taken)) (c y k)) ms)

  pub from_new : (ps : List Shared) (s : Shared) (taken : List (List ℕ)) → Covers taken → (bs : List (List ℕ)) → Each IsNew (members_from ps s taken bs)
  from_new ps s taken c [] = tt
  from_new ps s taken c (b ∷ bs) = go (declares b s) (λ t d. from_new ps s t d bs)
    where
      join : (l : List Member) → Each IsNew l → ((t : List (List ℕ)) → Covers t → Each IsNew (members_from ps s t bs)) → Each IsNew (l ++ members_from ps s (member_names l ++ taken) bs)
      join l h f = each_append IsNew l (members_from ps s (member_names l ++ taken) bs) h (f (member_names l ++ taken) (λ y k. has-append y (member_names l) taken ∙ true_behind (has_name y (member_names l)) (c y k)))

      go : (p : Bool) → ((t : List (List ℕ)) → Covers t → Each IsNew (members_from ps s t bs)) →
          (let ms = if p then own_members s.unit b 1 s.commons else passed_members s.unit.line taken (found_members b (first_declaring b ps)) in
          Each IsNew (ms ++ members_from ps s (member_names ms ++ taken) bs))
      go true f = join (own_members s.unit b 1 s.commons) (own_new s.unit b 1 s.commons) f
      go false f = join (passed_members s.unit.line taken (found_members b (first_declaring b ps))) (passed_new s.unit.line taken c (found_members b (first_declaring b ps))) f

  -- so the names keep their meaning
  stays : (ms : List Member) → Each IsNew ms → AllSlots (member_slots ms) → (y : List ℕ) → has_name y v ≡ true → is_slot (plain y) ≡ false → swapped (owned ms) y ≡ swapped ms y
  stays [] h a y k n = refl
  stays (m ∷ ms) h a y k n = go m.own refl h.0 (stays ms h.1 a.1 y k n)
    where
      no_slot : (b : Bool) → name_eq m.slot y ≡ b → b ≡ false
      no_slot true e = sym a.0 ∙ ap (λ z. is_slot (plain z)) (name_same m.slot y e) ∙ n
      no_slot false e = refl

      go : (b : Bool) → m.own ≡ b → IsNew m → swapped (owned ms) y ≡ swapped ms y → swapped (if b then m ∷ owned ms else owned ms) y ≡ swapped (m ∷ ms) y
      go true e p r = λ i. if name_eq m.name y then m.slot else (if name_eq m.slot y then m.name else r i)
      go false e (inl p) r = absurd (let z : true ≡ false = sym p ∙ e in cc)
      go false e (inr p) r = r ∙ (λ i. if sym (p y k) i then m.slot else (if sym (no_slot (name_eq m.slot y) refl) i then m.name else swapped ms y))

-- ---- all names in code

module _ (Q : List ℕ → Type 0) (P : Var → Type 0) (of_plain : (y : List ℕ) → Q y → P (plain y)) (of_shadow : (y : List ℕ) → P (shadow y)) (of_helper : (o : _) (k : ℕ) → P (helper o k)) where
  abbrev Stands : List Standing → Type 0
  Stands l = Each (λ s. Q s.name) l

  of_standing : (n : Option ℕ) (x : Var) → Stands (standing n x) → P x
  of_standing n (plain x) h = of_plain x h.0
  of_standing n (shadow x) h = of_shadow x
  of_standing n (helper o k) h = of_helper o k

  front : (l k : List Standing) → Stands (l ++ k) → Stands l
  front l k h = each_front (λ s. Q s.name) l k h

  rest : (l k : List Standing) → Stands (l ++ k) → Stands k
  rest l k h = each_behind (λ s. Q s.name) l k h

  mutual
    of_term : (e : Term) → Stands (in_term e) → EachInTerm P e
    of_term (lit z) h = tt
    of_term (var x) h = of_standing (Some 0) x h
    of_term (elem x subs) h = (of_standing (Some (count_of subs)) x (front (standing (Some (count_of subs)) x) (in_terms subs) h), of_terms subs (rest (standing (Some (count_of subs)) x) (in_terms subs) h))
    of_term (neg a) h = of_term a h
    of_term (bin op a b) h = (of_term a (front (in_term a) (in_term b) h), of_term b (rest (in_term a) (in_term b) h))
    of_term (pow a k) h = of_term a h
    of_term (power_of a b) h = (of_term a (front (in_term a) (in_term b) h), of_term b (rest (in_term a) (in_term b) h))
    of_term (abs a) h = of_term a h

    of_terms : (es : Terms) → Stands (in_terms es) → EachInTerms P es
    of_terms none h = tt
    of_terms (more e es) h = (of_term e (front (in_term e) (in_terms es) h), of_terms es (rest (in_term e) (in_terms es) h))

  of_place : (x : Var) (subs : Terms) → Stands (in_place x subs) → P x × EachInTerms P subs
  of_place x subs h = (of_standing (Some (count_of subs)) x (front (standing (Some (count_of subs)) x) (in_terms subs) h), of_terms subs (rest (standing (Some (count_of subs)) x) (in_terms subs) h))

  of_test : (c : Test) → Stands (in_test c) → EachInTest P c
  of_test (compare o a b) h = (of_term a (front (in_term a) (in_term b) h), of_term b (rest (in_term a) (in_term b) h))
  of_test (negation c) h = of_test c h
  of_test (conjunction c d) h = (of_test c (front (in_test c) (in_test d) h), of_test d (rest (in_test c) (in_test d) h))
  of_test (disjunction c d) h = (of_test c (front (in_test c) (in_test d) h), of_test d (rest (in_test c) (in_test d) h))

  of_actual : (e : Term) → Stands (in_actual e) → EachInTerm P e
  of_actual (var x) h = of_standing None x h
  of_actual (lit z) h = tt
  of_actual (elem x subs) h = of_term (elem x subs) h
  of_actual (neg a) h = of_term (neg a) h
  of_actual (bin op a b) h = of_term (bin op a b) h
  of_actual (pow a k) h = of_term (pow a k) h
  of_actual (power_of a b) h = of_term (power_of a b) h
  of_actual (abs a) h = of_term (abs a) h

  of_actuals : (es : Terms) → Stands (in_actuals es) → EachInTerms P es
  of_actuals none h = tt
  of_actuals (more e es) h = (of_actual e (front (in_actual e) (in_actuals es) h), of_actuals es (rest (in_actual e) (in_actuals es) h))

  of_runtime : (r : Runtime) → Stands (in_runtime r) → EachInRuntime P r
  of_runtime (push_word x subs) h = of_place x subs h
  of_runtime (pop_word x subs) h = of_place x subs h
  of_runtime (push_array x) h = of_standing None x h
  of_runtime (pop_array x) h = of_standing None x h
  of_runtime (push_control e) h = of_term e h
  of_runtime (pop_control x) h = of_standing (Some 0) x h
  of_runtime (zero_array x) h = of_standing None x h
  of_runtime (begin_reversal l m) h = (of_term l (front (in_term l) (in_term m) h), of_term m (rest (in_term l) (in_term m) h))
  of_runtime (count_actions l m x) h =
      let k = rest (in_term l) (in_term m ++ scalar x) h in
      (of_term l (front (in_term l) (in_term m ++ scalar x) h), (of_term m (front (in_term m) (scalar x) k), of_standing (Some 0) x (rest (in_term m) (scalar x) k)))
  of_runtime (give_action l m e x y z) h =
      let a = rest (in_term l) (in_term m ++ (in_term e ++ (scalar x ++ (scalar y ++ scalar z)))) h in
      let b = rest (in_term m) (in_term e ++ (scalar x ++ (scalar y ++ scalar z))) a in
      let c = rest (in_term e) (scalar x ++ (scalar y ++ scalar z)) b in
      let d = rest (scalar x) (scalar y ++ scalar z) c in (
        of_term l (front (in_term l) (in_term m ++ (in_term e ++ (scalar x ++ (scalar y ++ scalar z)))) h),
        (
          of_term m (front (in_term m) (in_term e ++ (scalar x ++ (scalar y ++ scalar z))) a),
          (
            of_term e (front (in_term e) (scalar x ++ (scalar y ++ scalar z)) b),
            (of_standing (Some 0) x (front (scalar x) (scalar y ++ scalar z) c), (of_standing (Some 0) y (front (scalar y) (scalar z) d), of_standing (Some 0) z (rest (scalar y) (scalar z) d))),
          ),
        ),
      )
  of_runtime end_reversal h = tt

  of_mark : (m : Mark) → Stands (in_mark m) → EachInMark P m
  of_mark unmarked h = tt
  of_mark (with_count m) h = tt
  of_mark (count_from x) h = of_standing (Some 0) x h

  abbrev AllStand : List (At Act) → Type 0
  AllStand ss = Each (λ s. Stands (in_act s.1)) ss

  mutual
    of_act : (a : Act) → Stands (in_act a) → AllStand (inner a) → EachInAct P a
    of_act (assign x subs e) h i =
        let p = of_place x subs (front (in_place x subs) (in_term e) h) in
        (p.0, (p.1, of_term e (rest (in_place x subs) (in_term e) h)))
    of_act (choose c a b) h i = (of_test c h, (of_code a (each_front (λ s. Stands (in_act s.1)) (statements a) (statements b) i), of_code b (each_behind (λ s. Stands (in_act s.1)) (statements a) (statements b) i)))
    of_act (loop x first last by body m) h i =
        let a = rest (in_mark m) (scalar x ++ (in_term first ++ (in_term last ++ in_term by))) h in
        let b = rest (scalar x) (in_term first ++ (in_term last ++ in_term by)) a in
        let c = rest (in_term first) (in_term last ++ in_term by) b in (
          of_standing (Some 0) x (front (scalar x) (in_term first ++ (in_term last ++ in_term by)) a),
          (
            of_term first (front (in_term first) (in_term last ++ in_term by) b),
            (
              of_term last (front (in_term last) (in_term by) c),
              (of_term by (rest (in_term last) (in_term by) c), (of_code body i, of_mark m (front (in_mark m) (scalar x ++ (in_term first ++ (in_term last ++ in_term by))) h))),
            ),
          ),
        )
    of_act (during c body) h i = (of_test c h, of_code body i)
    of_act (call name args) h i = of_actuals args h
    of_act (runtime r) h i = of_runtime r h

    pub of_code : (c : Code) → AllStand (statements c) → EachIn P c
    of_code stop h = tt
    of_code (step line a c) h = (of_act a h.0 (each_front (λ s. Stands (in_act s.1)) (inner a) (statements c) h.1), of_code c (each_behind (λ s. Stands (in_act s.1)) (inner a) (statements c) h.1))

-- ---- the variables of a unit

each_standing : (v : List (List ℕ)) (line : ℕ) (l : List Standing) → ((x : List ℕ) → has_name x (names_at (map (λ (n : Standing). (line, n.name)) l)) ≡ true → has_name x v ≡ true) → Each (λ s. has_name s.name v ≡ true) l
each_standing v line [] f = tt
each_standing v line (s ∷ l) f = (f s.name (true_front (name_eq s.name s.name) (has_name s.name (names_at (map (λ (n : Standing). (line, n.name)) l))) (name_refl s.name)), each_standing v line l (λ x h. f x (true_behind (name_eq x s.name) h)))

abbrev placed : At Act → List (At Name)
placed s = map (λ (n : Standing). (s.0, n.name)) (in_act s.1)

each_statement : (v : List (List ℕ)) (ss : List (At Act)) → ((x : List ℕ) → has_name x (names_at (flat_map placed ss)) ≡ true → has_name x v ≡ true) → Each (λ s. Each (λ n. has_name n.name v ≡ true) (in_act s.1)) ss
each_statement v [] f = tt
each_statement v (s ∷ ss) f =
    let split : (x : List ℕ) → has_name x (names_at (placed s ++ flat_map placed ss)) ≡ (has_name x (names_at (placed s)) || has_name x (names_at (flat_map placed ss))) = λ x. ap (has_name x) (map-append (λ (p : At Name). p.1) (placed s) (flat_map placed ss)) ∙ has-append x (names_at (placed s)) (names_at (flat_map placed ss)) in
    (each_standing v s.0 (in_act s.1) (λ x h. f x (split x ∙ true_front (has_name x (names_at (placed s))) (has_name x (names_at (flat_map placed ss))) h)), each_statement v ss (λ x h. f x (split x ∙ true_behind (has_name x (names_at (placed s))) h)))

-- each name in its statements is a variable of the unit
pub body_stands : (u : Procedure) → Each (λ s. Each (λ n. has_name n.name (variables u) ≡ true) (in_act s.1)) (statements u.body)
body_stands u =
    each_statement (variables u) (statements u.body) (λ x h.
    first_places-stand x (places u) ∙ ap (has_name x) (map-append (λ (p : At Name). p.1) (dummy_places u) (declared_places u ++ statement_places u)) ∙ has-append x (names_at (dummy_places u)) (names_at (declared_places u ++ statement_places u))
    ∙ true_behind (has_name x (names_at (dummy_places u))) (ap (has_name x) (map-append (λ (p : At Name). p.1) (declared_places u) (statement_places u)) ∙ has-append x (names_at (declared_places u)) (names_at (statement_places u)) ∙ true_behind (has_name x (names_at (declared_places u))) h))

-- and each name that is declared
each_declared : (v : List (List ℕ)) (ds : List Declaration) → ((x : List ℕ) → has_name x (names_at (map (λ (d : Declaration). (d.line, d.name)) ds)) ≡ true → has_name x v ≡ true) → Each (λ d. has_name d.name v ≡ true) ds
each_declared v [] f = tt
each_declared v (d ∷ ds) f = (f d.name (true_front (name_eq d.name d.name) (has_name d.name (names_at (map (λ (e : Declaration). (e.line, e.name)) ds))) (name_refl d.name)), each_declared v ds (λ x h. f x (true_behind (name_eq x d.name) h)))

pub declarations_stand : (u : Procedure) → Each (λ d. has_name d.name (variables u) ≡ true) u.declarations
declarations_stand u =
    each_declared (variables u) u.declarations (λ x h.
    first_places-stand x (places u) ∙ ap (has_name x) (map-append (λ (p : At Name). p.1) (dummy_places u) (declared_places u ++ statement_places u)) ∙ has-append x (names_at (dummy_places u)) (names_at (declared_places u ++ statement_places u))
    ∙ true_behind (has_name x (names_at (dummy_places u))) (ap (has_name x) (map-append (λ (p : At Name). p.1) (declared_places u) (statement_places u)) ∙ has-append x (names_at (declared_places u)) (names_at (statement_places u)) ∙ true_front (has_name x (names_at (declared_places u))) (has_name x (names_at (statement_places u))) h))

-- ---- so a unit's text stays as it is under the names that it declares

-- a name among extents stands among some names
abbrev ExtentStands : List (List ℕ) → Extent → Type 0
ExtentStands v (fixed z) = Unit {0}
ExtentStands v (given x) = has_name x v ≡ true

each_extent : (v : List (List ℕ)) (es : List Extent) → ((x : List ℕ) → has_name x (extent_names es) ≡ true → has_name x v ≡ true) → Each (ExtentStands v) es
each_extent v [] f = tt
each_extent v (fixed z ∷ es) f = (tt, each_extent v es f)
each_extent v (given y ∷ es) f = (f y (true_front (name_eq y y) (has_name y (extent_names es)) (name_refl y)), each_extent v es (λ x h. f x (true_behind (name_eq x y) h)))

all_extents : (v : List (List ℕ)) (ds : List Declaration) → ((x : List ℕ) → has_name x (flat_map (λ (d : Declaration). extent_names d.extents) ds) ≡ true → has_name x v ≡ true) → Each (λ d. Each (ExtentStands v) d.extents) ds
all_extents v [] f = tt
all_extents v (d ∷ ds) f =
    let rest : List (List ℕ) = flat_map (λ (e : Declaration). extent_names e.extents) ds in (
      each_extent v d.extents (λ x h. f x (has-append x (extent_names d.extents) rest ∙ true_front (has_name x (extent_names d.extents)) (has_name x rest) h)),
      all_extents v ds (λ x h. f x (has-append x (extent_names d.extents) rest ∙ true_behind (has_name x (extent_names d.extents)) h)),
    )

-- the names in a unit's statements begin with letters
abbrev pub Said : Procedure → Type 0
Said u = Each (λ a. Each (λ n. Begins n.name) (in_act a.1)) (statements u.body)

both_said : (A B : Standing → Type 0) (ss : List (At Act)) → Each (λ a. Each A (in_act a.1)) ss → Each (λ a. Each B (in_act a.1)) ss → Each (λ a. Each (λ n. A n × B n) (in_act a.1)) ss
both_said A B [] h k = tt
both_said A B (a ∷ ss) h k = (each_zip A B (in_act a.1) h.0 k.0, both_said A B ss h.1 k.1)

module _ (ps : List Shared) (s : Shared) (said : Said s.unit) (letters : HasLetters s) (slots : AllSlots (member_slots (members ps s))) where
  name_stays : (y : List ℕ) → has_name y (names_in s) ≡ true → Begins y → swapped (owned (members ps s)) y ≡ swapped (members ps s) y
  name_stays y h b =
      stays (names_in s) (members ps s)
      (from_new (names_in s) ps s (taken_in ps s) (λ z k. has-append z (names_in s) _ ∙ true_front (has_name z (names_in s)) _ k) _)
      slots y h (no_slot y b)

  of_variable : (y : List ℕ) → has_name y (variables s.unit) ≡ true → has_name y (names_in s) ≡ true
  of_variable y h = has-append y (variables s.unit) _ ∙ true_front (has_name y (variables s.unit)) _ h

  abbrev IsSaid : List ℕ → Type 0
  IsSaid y = (has_name y (variables s.unit) ≡ true) × Begins y

  pub body_stays : EachIn (λ x. swap (owned (members ps s)) x ≡ swap (members ps s) x) s.unit.body
  body_stays =
      of_code IsSaid (λ x. swap (owned (members ps s)) x ≡ swap (members ps s) x) (λ y h. ap plain (name_stays y (of_variable y h.0) h.1)) (λ y. refl) (λ o k. refl) s.unit.body
      (both_said (λ n. has_name n.name (variables s.unit) ≡ true) (λ n. Begins n.name) (statements s.unit.body) (body_stands s.unit) said)

  extents_stay : (es : List Extent) → Each (ExtentStands (names_in s)) es → Each ExtentBegins es → map (swapped_extent (owned (members ps s))) es ≡ map (swapped_extent (members ps s)) es
  extents_stay [] h k = refl
  extents_stay (fixed z ∷ es) h k = ap (λ l. fixed z ∷ l) (extents_stay es h.1 k.1)
  extents_stay (given x ∷ es) h k = λ i. given (name_stays x h.0 k.0 i) ∷ extents_stay es h.1 k.1 i

  some_stay : (ds : List Declaration) → Each (λ d. has_name d.name (variables s.unit) ≡ true) ds → Each (λ d. Each (ExtentStands (names_in s)) d.extents) ds → Each BeginsDeclared ds → Each (λ d. swapped_declaration (owned (members ps s)) d ≡ swapped_declaration (members ps s) d) ds
  some_stay [] h k l = tt
  some_stay (d ∷ ds) h k l = ((λ i. record d { name = name_stays d.name (of_variable d.name h.0) l.0.0 i; extents = extents_stay d.extents k.0 l.0.1 i }), some_stay ds h.1 k.1 l.1)

  pub declarations_stay : Each (λ d. swapped_declaration (owned (members ps s)) d ≡ swapped_declaration (members ps s) d) s.unit.declarations
  declarations_stay =
      let extents : List (List ℕ) = flat_map (λ (d : Declaration). extent_names d.extents) s.unit.declarations in
      some_stay s.unit.declarations (declarations_stand s.unit)
      (all_extents (names_in s) s.unit.declarations (λ x h.
      has-append x (variables s.unit) (item_names s.commons ++ extents) ∙ true_behind (has_name x (variables s.unit)) (has-append x (item_names s.commons) extents ∙ true_behind (has_name x (item_names s.commons)) h)))
      letters.declared
