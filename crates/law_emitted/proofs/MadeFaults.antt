-- A unit that is made, with shadows of some variables and with helpers, has no faults of names, those of units left aside; and its calls of the
-- runtime take arrays.
use Rattle.std.proofs.Common.{◌≡◌, ℕ, Bool, true, false, List, [], ◌∷◌, ◌++◌, map, length, refl, sym, ap, ◌∙◌, subst, if◌then◌else◌}
use Rattle.std.specs.Prelude.{pos, ◌||◌, ◌&&◌, ◌==◌, not, flat_map, int_lt, Option, Some, None}
use Rattle.std.specs.List.{list_any}
use Rattle.adj_tree.specs.Code.{Terms, Var, plain, shadow, helper, name_eq, var_eq, Runtime, push_word, pop_word, push_array, pop_array, push_control, pop_control, zero_array, begin_reversal, count_actions, give_action, end_reversal, Act, assign, choose, loop, during, call, runtime, Code, Extent, fixed, given, Declaration, Procedure}
use Rattle.adj_tree.proofs.Names.{name_refl, name_same, nat_same}
use Rattle.def_text.specs.Written.{IsWrittenProcedure}
use Rattle.def_kernel.specs.Form.{IsKernelCode}
use Rattle.def_meaning.specs.Apart.{has_name, AreApart}
use Rattle.def_meaning.specs.Read.{is_extent}
use Rattle.def_meaning.specs.Rename.{rename_terms, rename_runtime}
use Rattle.def_meaning.specs.Units.{declared}
use Rattle.def_meaning.proofs.Variables.{var_same}
use Rattle.def_names.specs.Numbers.{Vars}
use Rattle.def_names.specs.Standing.{Standing, in_act}
use Rattle.def_names.specs.Statements.{At, statements}
use Rattle.def_names.specs.Variables.{dummy_places, declared_places, statement_places, places, variables, rank, is_scalar, is_dummy, is_integer, is_integer_name}
use Rattle.def_names.specs.Fault.{run_rules, fault, faults_if}
use Rattle.def_names.specs.NameFaults.{extent_names, extent_places, undeclared, declared_twice, is_rank_for, has_rank, taken_in, misused, literal_product, is_bad_extent, has_bad_extents, bad_extents}
use Rattle.def_names.specs.Reserved.{is_runtime}
use Rattle.def_names.specs.CallFaults.{variable_rank, array_arguments}
use Rattle.def_names.proofs.Variables.{or_false, or_left, or_right, and_true}
use Rattle.def_sweep.specs.Naming.{Derived, Named, own as own_name, name_in, naming}
use Rattle.def_sweep.specs.MarkedProgram.{shadows_behind, declared_behind}
use Rattle.def_sweep.specs.Declared.{declaration, declared_helpers}
use Rattle.def_sweep.specs.Plan.{Callee}
use Rattle.def_sweep.specs.Callees.{nothing}
use Rattle.def_sweep.specs.Marking.{arrays_of}
use Rattle.def_sweep.specs.Program.{made_unit_for}
use Rattle.law_sweep.specs.Emitted.{DeclaredAlike}
use Rattle.law_sweep.proofs.Naming.{AreMadeInside}
use Rattle.law_sweep.proofs.MadeUnits as of_units
use Rattle.law_sweep.proofs.Variables.{variables_apart, dummy_among}
use Rattle.law_emitted.proofs.Lists.{Each, each_append, each_more}
use Rattle.law_emitted.proofs.Names.{variables_inside}
use Rattle.law_emitted.proofs.Statements.{CallHasNone, not_false}
use Rattle.law_emitted.proofs.CheckedUnits.{dummy_names}
use Rattle.law_emitted.proofs.Over.{OverRuntime, OverCode, Any}
use Rattle.law_emitted.proofs.Called.{IsOwn, each_statement}
use Rattle.law_emitted.proofs.Source.{source_code}
use Rattle.law_emitted.proofs.Tables.{IsFree, has_var, among, among-append, in_set, has_plain_for, plain_known_for, has_shadow_for, has_helper_for, named_free_for, made_no_unit_for, table_for, AreHelpers, plain_no_helper, shadow_no_helper}
use Rattle.law_emitted.proofs.Sources.{each_name, of_each}
use Rattle.law_emitted.proofs.Units.{each_var}
use Rattle.law_emitted.proofs.UnitFaults.{flat_none, if_none, again_none}
use Rattle.law_emitted.proofs.Stood.{stands_code}
use Rattle.law_emitted.proofs.Apart.{VarsApart, vars_append, no_helpers, names_apart, interleaved, plain_there, shadow_there, interleaved_apart, table_in, no_shadow_own, no_helper_own}

-- ---- lists

map_append : {X Y : Type 0} (f : X → Y) (xs ys : List X) → map f (xs ++ ys) ≡ map f xs ++ map f ys
map_append f [] ys = refl
map_append f (x ∷ xs) ys = ap (λ l. f x ∷ l) (map_append f xs ys)

has_mapped : (name : Var → List ℕ) (v : Var) (ws : List Var) → among v ws ≡ true → has_name (name v) (map name ws) ≡ true
has_mapped name v [] h = absurd cc
has_mapped name v (w ∷ ws) h = go (var_eq v w) refl h (has_mapped name v ws)
  where
    go : (b : Bool) → var_eq v w ≡ b → (b || among v ws) ≡ true → (among v ws ≡ true → has_name (name v) (map name ws) ≡ true) → (name_eq (name v) (name w) || has_name (name v) (map name ws)) ≡ true
    go true e h ih = or_left (name_eq (name v) (name w)) (has_name (name v) (map name ws)) (ap (λ z. name_eq (name v) (name z)) (sym (var_same v w e)) ∙ name_refl (name v))
    go false e h ih = or_right (name_eq (name v) (name w)) (has_name (name v) (map name ws)) (ih h)

-- what holds of each name in a list holds of it at each place
each_at_places : (P : List ℕ → Type 0) (line : ℕ) (xs : List (List ℕ)) → Each P xs → Each (λ (p : At (List ℕ)). P p.1) (map (λ x. (line, x)) xs)
each_at_places P line [] h = tt
each_at_places P line (x ∷ xs) h = (h.0, each_at_places P line xs h.1)

-- what holds of each member of some lists holds of all of them
pub each_in_flat : {X Y : Type 0} (P : Y → Type 0) (f : X → List Y) (xs : List X) → Each (λ x. Each P (f x)) xs → Each P (flat_map f xs)
each_in_flat P f [] h = tt
each_in_flat P f (x ∷ xs) h = each_append P (f x) (flat_map f xs) h.0 (each_in_flat P f xs h.1)

-- no name stands before the first
none_before : (places : List (At (List ℕ))) → Each (λ (p : At (List ℕ)). has_name p.1 [] ≡ false) places
none_before [] = tt
none_before (p ∷ places) = (refl, none_before places)

-- ---- declarations and their extents

declaration_name : (line : ℕ) (ds : List Declaration) (x : List ℕ) → (declaration line ds x).name ≡ x
declaration_name line [] x = refl
declaration_name line (d ∷ ds) x = go (name_eq d.name x) refl (declaration_name line ds x)
  where
    go : (b : Bool) → name_eq d.name x ≡ b → (declaration line ds x).name ≡ x → (if b then d else declaration line ds x).name ≡ x
    go true e ih = name_same d.name x e
    go false e ih = ih

-- what the declarations have of their names and extents, the declaration of a name has
declaration_has : (R : List ℕ → List Extent → Type 0) (line : ℕ) (ds : List Declaration) (x : List ℕ) → R x [] → Each (λ d. R d.name d.extents) ds → R x (declaration line ds x).extents
declaration_has R line [] x n h = n
declaration_has R line (d ∷ ds) x n h = go (name_eq d.name x) refl (declaration_has R line ds x n h.1)
  where
    go : (b : Bool) → name_eq d.name x ≡ b → R x (declaration line ds x).extents → R x (if b then d else declaration line ds x).extents
    go true e ih = subst (λ y. R y d.extents) (name_same d.name x e) h.0
    go false e ih = ih

and_none : (b : Bool) → (b && false) ≡ false
and_none true = refl
and_none false = refl

-- the extents of a declaration without fault
abbrev ExtentsFit : Procedure → List ℕ → List Extent → Type 0
ExtentsFit u x es = (list_any (is_bad_extent u) es ≡ false) × ((int_lt (pos 1048576) (literal_product es) ≡ false) × ((not (is_dummy u x) && not (length (extent_names es) == 0)) ≡ false))

extents_fit : (u : Procedure) (d : Declaration) → has_bad_extents u d ≡ false → ExtentsFit u d.name d.extents
extents_fit u d h =
    let p = or_false (list_any (is_bad_extent u) d.extents) _ h in
    let q = or_false (int_lt (pos 1048576) (literal_product d.extents)) _ p.1 in
    (p.0, (q.0, q.1))

no_extents_fit : (u : Procedure) (x : List ℕ) → ExtentsFit u x []
no_extents_fit u x = (refl, (refl, and_none (not (is_dummy u x))))

extents_bad : (u : Procedure) (d : Declaration) → ExtentsFit u d.name d.extents → has_bad_extents u d ≡ false
extents_bad u d h = rw (h.0, h.1.0, h.1.1) refl

-- ---- variables and helpers

-- helpers have names of a text
helpers_inside : (hs : List Var) → AreHelpers hs → AreMadeInside hs
helpers_inside [] h = tt
helpers_inside (plain x ∷ hs) h = absurd h
helpers_inside (shadow x ∷ hs) h = absurd h
helpers_inside (helper r k ∷ hs) h = (tt, helpers_inside hs h)

-- what a call of the unit knows of it: of this only the dummies are used
abbrev its_callee : Procedure → Callee
its_callee u = record { adjoint = []; forth = []; back = []; dummies = u.dummies; written = nothing; members = nothing; shadowed = nothing }

-- how the variables of a made unit may stand, where Q says with how many subscripts each may, and A that one is an array
pub record MayStand (Q : Var → Option ℕ → Type 0) (A : Var → Type 0) (a its_arrays : Vars) (own : List (List ℕ)) (hs : List Var) : Type 0 where
  -- the shadow of a marked variable stands as the variable does, and is an array where that is one
  pub shadows : (x : List ℕ) (i : Option ℕ) → a (plain x) ≡ true → Q (plain x) i → Q (shadow x) i
  pub arrays : (x : List ℕ) → its_arrays (plain x) ≡ true → A (plain x)
  pub shadow_arrays : (x : List ℕ) → a (plain x) ≡ true → its_arrays (plain x) ≡ true → A (shadow x)
  pub scalars : (x : List ℕ) → its_arrays (plain x) ≡ false → Q (plain x) None → Q (plain x) (Some 0)
  pub wholes : (x : List ℕ) → has_name x own ≡ true → Q (plain x) None
  pub helpers : (v : Var) → among v hs ≡ true → Q v (Some 0)

-- ---- a unit that is made

module _ (o : Derived) (units : List (List ℕ)) (a : Vars) (hs : List Var) (helpers : AreHelpers hs) (once : VarsApart hs) (ps : List Procedure) (u : Procedure) (written : IsWrittenProcedure u) (kernel : IsKernelCode u.body) (free : Each IsFree (variables u)) (calls : Each (CallHasNone ps u) (statements u.body))
    (dummies_once : AreApart u.dummies) (extent_dummy : (d : List ℕ) → is_extent d u.declarations ≡ true → has_name d u.dummies ≡ true) (extents : Each (λ d. has_bad_extents u d ≡ false) u.declarations)
    (stands : Each (λ (t : At Act). Each (λ i. (has_name i.name (variables u) ≡ true) × (has_rank u i ≡ true)) (in_act t.1)) (statements u.body)) (its_name : List ℕ) (code : Code) where
  abbrev ns : List Named
  ns = table_for o (variables u) units a hs

  abbrev unit : Procedure
  unit = made_unit_for o its_name a units u hs code

  abbrev name : Var → List ℕ
  name v = name_in ns v

  abbrev W : List Var
  W = interleaved a (variables u) ++ hs

  abbrev Declared : List ℕ → Type 0
  Declared x = has_name x (map (λ d. d.name) unit.declarations) ≡ true

  pub apart : (v w : Var) → name_eq (name v) (name w) ≡ var_eq v w
  apart v w = of_units.separates o its_name a (its_callee u) units u refl hs (helpers_inside hs helpers) code (variables_apart u) (variables_inside u written) extent_dummy v w

  pub keeps : (x : List ℕ) → has_name x (variables u) ≡ true → name (plain x) ≡ x
  keeps x h = of_units.own o its_name a (its_callee u) units u refl hs (helpers_inside hs helpers) code (variables_apart u) (variables_inside u written) extent_dummy x h

  alike : DeclaredAlike u unit (naming ns) (record (its_callee u) { shadowed = a })
  alike = of_units.declared_alike o its_name a (its_callee u) units u refl hs (helpers_inside hs helpers) code (variables_apart u) (variables_inside u written) extent_dummy

  -- ---- its declarations

  behind_names : (xs : List (List ℕ)) → ((x : List ℕ) → has_name x xs ≡ true → name (plain x) ≡ x) → map (λ (d : Declaration). d.name) (declared_behind a ns u xs) ≡ map name (interleaved a xs)
  behind_names [] k = refl
  behind_names (x ∷ xs) k = go (a (plain x)) (declaration_name u.line u.declarations x ∙ sym (k x (or_left (name_eq x x) (has_name x xs) (name_refl x)))) (behind_names xs (λ y h. k y (or_right (name_eq y x) (has_name y xs) h)))
    where
      go : (b : Bool) → (declaration u.line u.declarations x).name ≡ name (plain x) → map (λ (d : Declaration). d.name) (declared_behind a ns u xs) ≡ map name (interleaved a xs) →
          map (λ (d : Declaration). d.name) (if b then declaration u.line u.declarations x ∷ record (declaration u.line u.declarations x) { name = name_in ns (shadow x) } ∷ declared_behind a ns u xs else declaration u.line u.declarations x ∷ declared_behind a ns u xs) ≡ map name (if b then plain x ∷ shadow x ∷ interleaved a xs else plain x ∷ interleaved a xs)
      go true e ih = λ j. e j ∷ name (shadow x) ∷ ih j
      go false e ih = λ j. e j ∷ ih j

  helper_names : (line : ℕ) (vs : List Var) → map (λ (d : Declaration). d.name) (declared_helpers ns line vs) ≡ map name vs
  helper_names line [] = refl
  helper_names line (v ∷ vs) = ap (λ l. name v ∷ l) (helper_names line vs)

  declared_names : map (λ (d : Declaration). d.name) unit.declarations ≡ map name W
  declared_names =
      map_append (λ (d : Declaration). d.name) (declared_behind a ns u (variables u)) (declared_helpers ns u.line hs)
      ∙ (λ j. behind_names (variables u) keeps j ++ helper_names u.line hs j)
      ∙ sym (map_append name (interleaved a (variables u)) hs)

  all_once : VarsApart W
  all_once = vars_append (interleaved a (variables u)) hs (interleaved_apart a (variables u) (variables_apart u)) once (no_helpers a (variables u) hs helpers)

  declared_once : AreApart (map (λ (d : Declaration). d.name) unit.declarations)
  declared_once = subst AreApart (sym declared_names) (names_apart name apart W all_once)

  -- a variable that is declared
  is_declared : (v : Var) → among v W ≡ true → Declared (name v)
  is_declared v h = subst (λ l. has_name (name v) l ≡ true) (sym declared_names) (has_mapped name v W h)

  plain_in : (x : List ℕ) → has_name x (variables u) ≡ true → among (plain x) W ≡ true
  plain_in x h = among-append (plain x) (interleaved a (variables u)) hs ∙ or_left (among (plain x) (interleaved a (variables u))) (among (plain x) hs) (plain_there a x (variables u) ∙ h)

  shadow_in : (x : List ℕ) → has_name x (variables u) ≡ true → a (plain x) ≡ true → among (shadow x) W ≡ true
  shadow_in x h marked = among-append (shadow x) (interleaved a (variables u)) hs ∙ or_left (among (shadow x) (interleaved a (variables u))) (among (shadow x) hs) (shadow_there a x (variables u) ∙ in_set a x (variables u) h marked)

  known_declared : (v : Var) → has_var v ns ≡ true → Declared (name v)
  known_declared v h = is_declared v (table_in o (variables u) units a hs helpers v h)

  -- ---- its dummies

  dummy_list : (xs : List (List ℕ)) → ((x : List ℕ) → has_name x xs ≡ true → name (plain x) ≡ x) → shadows_behind a ns xs ≡ map name (interleaved a xs)
  dummy_list [] k = refl
  dummy_list (x ∷ xs) k = go (a (plain x)) (sym (k x (or_left (name_eq x x) (has_name x xs) (name_refl x)))) (dummy_list xs (λ y h. k y (or_right (name_eq y x) (has_name y xs) h)))
    where
      go : (b : Bool) → x ≡ name (plain x) → shadows_behind a ns xs ≡ map name (interleaved a xs) → (if b then x ∷ name_in ns (shadow x) ∷ shadows_behind a ns xs else x ∷ shadows_behind a ns xs) ≡ map name (if b then plain x ∷ shadow x ∷ interleaved a xs else plain x ∷ interleaved a xs)
      go true e ih = λ j. e j ∷ name (shadow x) ∷ ih j
      go false e ih = λ j. e j ∷ ih j

  dummies_are : unit.dummies ≡ map name (interleaved a u.dummies)
  dummies_are = dummy_list u.dummies (λ x h. keeps x (dummy_among u x h))

  unit_dummies_once : AreApart unit.dummies
  unit_dummies_once = subst AreApart (sym dummies_are) (names_apart name apart (interleaved a u.dummies) (interleaved_apart a u.dummies dummies_once))

  dummy_plain : (x : List ℕ) → has_name x u.dummies ≡ true → has_name x unit.dummies ≡ true
  dummy_plain x h = subst (λ l. has_name x l ≡ true) (sym dummies_are) (subst (λ y. has_name y (map name (interleaved a u.dummies)) ≡ true) (keeps x (dummy_among u x h)) (has_mapped name (plain x) (interleaved a u.dummies) (plain_there a x u.dummies ∙ h)))

  dummy_shadow : (x : List ℕ) → has_name x u.dummies ≡ true → a (plain x) ≡ true → has_name (name (shadow x)) unit.dummies ≡ true
  dummy_shadow x h marked = subst (λ l. has_name (name (shadow x)) l ≡ true) (sym dummies_are) (has_mapped name (shadow x) (interleaved a u.dummies) (shadow_there a x u.dummies ∙ in_set a x u.dummies h marked))

  -- each dummy is declared
  dummies_declared : Each Declared unit.dummies
  dummies_declared = subst (Each Declared) (sym dummies_are) (go u.dummies (each_name (λ x. has_name x (variables u) ≡ true) u.dummies (λ x h. dummy_among u x h)))
    where
      go : (xs : List (List ℕ)) → Each (λ x. has_name x (variables u) ≡ true) xs → Each Declared (map name (interleaved a xs))
      go [] h = tt
      go (x ∷ xs) h = at (a (plain x)) refl (go xs h.1)
        where
          at : (b : Bool) → a (plain x) ≡ b → Each Declared (map name (interleaved a xs)) → Each Declared (map name (if b then plain x ∷ shadow x ∷ interleaved a xs else plain x ∷ interleaved a xs))
          at true e ih = (is_declared (plain x) (plain_in x h.0), (is_declared (shadow x) (shadow_in x h.0 e), ih))
          at false e ih = (is_declared (plain x) (plain_in x h.0), ih)

  -- ---- ranks

  abbrev rank_of : Var → ℕ
  rank_of v = rank unit (name v)

  pub plain_rank : (x : List ℕ) → rank_of (plain x) ≡ rank u x
  plain_rank x = ap length (let d = alike in d.plains x)

  pub shadow_rank : (x : List ℕ) → a (plain x) ≡ true → rank_of (shadow x) ≡ rank u x
  shadow_rank x marked = ap length (let d = alike in d.shadows x) ∙ ap (λ b. length (if b then declared u.declarations (plain x) else [])) marked

  helper_rank : (v : Var) → among v hs ≡ true → rank_of v ≡ 0
  helper_rank (plain x) h = absurd (let p : true ≡ false = sym h ∙ plain_no_helper x hs helpers in cc)
  helper_rank (shadow x) h = absurd (let p : true ≡ false = sym h ∙ shadow_no_helper x hs helpers in cc)
  helper_rank (helper r k) h = ap length (let d = alike in d.helpers r k)

  -- a variable that stands with as many subscripts as it has extents
  abbrev pub Q : Var → Option ℕ → Type 0
  Q v i = (has_var v ns ≡ true) × (is_rank_for i (rank_of v) ≡ true)

  -- an array
  abbrev pub A : Var → Type 0
  A v = (rank_of v == 0) ≡ false

  array_rank : (i k : ℕ) → k ≡ i → not (i == 0) ≡ true → (k == 0) ≡ false
  array_rank i k e h = ap (λ j. j == 0) e ∙ go (i == 0) h
    where
      go : (b : Bool) → not b ≡ true → b ≡ false
      go true h = absurd cc
      go false h = refl

  scalar_rank : (i k : ℕ) → k ≡ i → not (i == 0) ≡ false → (0 == k) ≡ true
  scalar_rank i k e h = let z : i ≡ 0 = nat_same i 0 (not_false (i == 0) h) in ap (λ j. 0 == j) (e ∙ z)

  pub may_stand : MayStand Q A a (arrays_of u) (variables u) hs
  may_stand = record {
    shadows = λ x i marked q. (has_shadow_for o (variables u) units a hs free helpers x (plain_known_for o (variables u) units a hs free helpers x q.0) marked, subst (λ k. is_rank_for i k ≡ true) (plain_rank x ∙ sym (shadow_rank x marked)) q.1);
    arrays = λ x e. array_rank (rank u x) (rank_of (plain x)) (plain_rank x) e;
    shadow_arrays = λ x marked e. array_rank (rank u x) (rank_of (shadow x)) (shadow_rank x marked) e;
    scalars = λ x e q. (q.0, scalar_rank (rank u x) (rank_of (plain x)) (plain_rank x) e);
    wholes = λ x h. (has_plain_for o (variables u) units a hs free helpers x h, refl);
    helpers = λ v h. (has_helper_for o (variables u) units a hs free helpers v h, ap (λ k. 0 == k) (helper_rank v h));
  }

  -- how a name stands in the source
  abbrev S : Standing → Type 0
  S i = (has_name i.name (variables u) ≡ true) × (has_rank u i ≡ true)

  pub source : OverCode Q A Any u.body
  source =
      source_code Q A S (λ x i k. (has_plain_for o (variables u) units a hs free helpers x k.0, subst (λ j. is_rank_for i j ≡ true) (sym (plain_rank x)) k.1)) ps u u.body written.body kernel stands calls

  -- ---- its declarations fit

  fits_there : (x y : List ℕ) (es : List Extent) → (is_dummy u x ≡ true → is_dummy unit y ≡ true) → ExtentsFit u x es → ExtentsFit unit y es
  fits_there x y es d h = (bad es h.0, (h.1.0, third (is_dummy u x) (is_dummy unit y) (not (length (extent_names es) == 0)) d h.1.1))
    where
      third : (b c e : Bool) → (b ≡ true → c ≡ true) → (not b && e) ≡ false → (not c && e) ≡ false
      third true c e d h = ap (λ t. not t && e) (d refl)
      third false c e d h = ap (λ t. not c && t) h ∙ and_none (not c)

      bad : (es : List Extent) → list_any (is_bad_extent u) es ≡ false → list_any (is_bad_extent unit) es ≡ false
      bad [] h = refl
      bad (fixed z ∷ es) h = let k = or_false (is_bad_extent u (fixed z)) (list_any (is_bad_extent u) es) h in rw (k.0, bad es k.1) refl
      bad (given z ∷ es) h =
          let k = or_false (is_bad_extent u (given z)) (list_any (is_bad_extent u) es) h in
          let both = and_true (is_dummy u z) (is_scalar u z) (not_false (is_dummy u z && is_scalar u z) k.0) in
          let inside : has_name z u.dummies ≡ true = both.0 in
          let dummy : is_dummy unit z ≡ true = dummy_plain z inside in
          let ranked : rank unit z ≡ rank u z = ap (rank unit) (sym (keeps z (dummy_among u z inside))) ∙ plain_rank z in
          let scalar : is_scalar unit z ≡ true = ap (λ i. i == 0) ranked ∙ both.1 in
          rw (dummy, scalar, bad es k.1) refl

  declaration_fits : (x : List ℕ) → ExtentsFit u x (declaration u.line u.declarations x).extents
  declaration_fits x = declaration_has (ExtentsFit u) u.line u.declarations x (no_extents_fit u x) (each_more (λ d. has_bad_extents u d ≡ false) (λ d. ExtentsFit u d.name d.extents) (λ d h. extents_fit u d h) u.declarations extents)

  declarations_fit : Each (λ d. ExtentsFit unit d.name d.extents) unit.declarations
  declarations_fit = each_append (λ d. ExtentsFit unit d.name d.extents) (declared_behind a ns u (variables u)) (declared_helpers ns u.line hs) (of_variables (variables u)) (of_helpers hs)
    where
      of_helpers : (vs : List Var) → Each (λ d. ExtentsFit unit d.name d.extents) (declared_helpers ns u.line vs)
      of_helpers [] = tt
      of_helpers (v ∷ vs) = (no_extents_fit unit (name v), of_helpers vs)

      of_variables : (xs : List (List ℕ)) → Each (λ d. ExtentsFit unit d.name d.extents) (declared_behind a ns u xs)
      of_variables [] = tt
      of_variables (x ∷ xs) = go (a (plain x)) refl (of_variables xs)
        where
          own : ExtentsFit unit (declaration u.line u.declarations x).name (declaration u.line u.declarations x).extents
          own = subst (λ y. ExtentsFit unit y (declaration u.line u.declarations x).extents) (sym (declaration_name u.line u.declarations x)) (fits_there x x (declaration u.line u.declarations x).extents (λ h. dummy_plain x h) (declaration_fits x))

          go : (b : Bool) → a (plain x) ≡ b → Each (λ d. ExtentsFit unit d.name d.extents) (declared_behind a ns u xs) →
              Each (λ d. ExtentsFit unit d.name d.extents) (if b then declaration u.line u.declarations x ∷ record (declaration u.line u.declarations x) { name = name_in ns (shadow x) } ∷ declared_behind a ns u xs else declaration u.line u.declarations x ∷ declared_behind a ns u xs)
          go true e ih = (own, (fits_there x (name (shadow x)) (declaration u.line u.declarations x).extents (λ h. dummy_shadow x h e) (declaration_fits x), ih))
          go false e ih = (own, ih)

  pub no_bad_extents : bad_extents unit ≡ []
  no_bad_extents =
      flat_none (λ d. faults_if (has_bad_extents unit d) (fault 12 d.line)) unit.declarations
      (each_more (λ d. ExtentsFit unit d.name d.extents) (λ d. faults_if (has_bad_extents unit d) (fault 12 d.line) ≡ []) (λ d h. if_none (has_bad_extents unit d) (fault 12 d.line) (extents_bad unit d h)) unit.declarations declarations_fit)

  pub no_twice : declared_twice unit ≡ []
  no_twice = λ j. again_none 8 [] (dummy_places unit) (subst AreApart (sym (dummy_names unit.line unit.dummies)) unit_dummies_once) (none_before (dummy_places unit)) j ++ again_none 8 [] (declared_places unit) (subst AreApart (sym (declaration_names unit.declarations)) declared_once) (none_before (declared_places unit)) j
    where
      declaration_names : (ds : List Declaration) → map (λ (q : At (List ℕ)). q.1) (map (λ (d : Declaration). (d.line, d.name)) ds) ≡ map (λ (d : Declaration). d.name) ds
      declaration_names [] = refl
      declaration_names (d ∷ ds) = ap (λ l. d.name ∷ l) (declaration_names ds)

  -- names of extents are dummies, so they are declared
  extents_declared : Each (λ (p : At (List ℕ)). Declared p.1) (extent_places unit)
  extents_declared =
      each_in_flat (λ (p : At (List ℕ)). Declared p.1) (λ (d : Declaration). map (λ x. (d.line, x)) (extent_names d.extents)) unit.declarations
      (each_more (λ d. ExtentsFit unit d.name d.extents) (λ (d : Declaration). Each (λ (p : At (List ℕ)). Declared p.1) (map (λ x. (d.line, x)) (extent_names d.extents)))
      (λ d h. each_at_places Declared d.line (extent_names d.extents) (in_extents d.extents h.0)) unit.declarations declarations_fit)
    where
      in_extents : (es : List Extent) → list_any (is_bad_extent unit) es ≡ false → Each Declared (extent_names es)
      in_extents [] h = tt
      in_extents (fixed z ∷ es) h = in_extents es (or_false (is_bad_extent unit (fixed z)) (list_any (is_bad_extent unit) es) h).1
      in_extents (given z ∷ es) h =
          let k = or_false (is_bad_extent unit (given z)) (list_any (is_bad_extent unit) es) h in
          let both = and_true (is_dummy unit z) (is_scalar unit z) (not_false (is_dummy unit z && is_scalar unit z) k.0) in
          (of_each Declared unit.dummies dummies_declared z both.0, in_extents es k.1)

  -- ---- names that no unit has

  -- its names are those of the unit and names that were made
  pub each_declared : (P : List ℕ → Type 0) → ((x : List ℕ) → has_name x (variables u) ≡ true → P x) → ((z : List ℕ) → IsFree z → has_name z units ≡ false → P z) → (x : List ℕ) → Declared x → P x
  each_declared P f g x h = of_each P (map (λ d. d.name) unit.declarations) (subst (Each P) (sym declared_names) all) x h
    where
      made : (v : Var) → has_var v (map own_name (variables u)) ≡ false → has_var v ns ≡ true → P (name v)
      made v none k = g (name v) (named_free_for o (variables u) units a hs free helpers v k) (made_no_unit_for o (variables u) units a hs free helpers v none k)

      of_helpers : (vs : List Var) → AreHelpers vs → Each (λ v. among v hs ≡ true) vs → Each P (map name vs)
      of_helpers [] l k = tt
      of_helpers (plain y ∷ vs) l k = absurd l
      of_helpers (shadow y ∷ vs) l k = absurd l
      of_helpers (helper r j ∷ vs) l k = (made (helper r j) (no_helper_own r j (variables u)) (has_helper_for o (variables u) units a hs free helpers (helper r j) k.0), of_helpers vs l k.1)

      of_variables : (xs : List (List ℕ)) → Each (λ x. has_name x (variables u) ≡ true) xs → Each P (map name (interleaved a xs))
      of_variables [] k = tt
      of_variables (y ∷ xs) k = at (a (plain y)) refl (of_variables xs k.1)
        where
          at : (b : Bool) → a (plain y) ≡ b → Each P (map name (interleaved a xs)) → Each P (map name (if b then plain y ∷ shadow y ∷ interleaved a xs else plain y ∷ interleaved a xs))
          at true e ih = (subst P (sym (keeps y k.0)) (f y k.0), (made (shadow y) (no_shadow_own y (variables u)) (has_shadow_for o (variables u) units a hs free helpers y k.0 e), ih))
          at false e ih = (subst P (sym (keeps y k.0)) (f y k.0), ih)

      all : Each P (map name W)
      all = subst (Each P) (sym (map_append name (interleaved a (variables u)) hs)) (each_append P (map name (interleaved a (variables u))) (map name hs) (of_variables (variables u) (each_name (λ x. has_name x (variables u) ≡ true) (variables u) (λ x h. h))) (of_helpers hs helpers (each_var (λ v. among v hs ≡ true) hs (λ v h. h))))

  -- ---- its statements

  -- the arrays of a call of the runtime are arrays
  arrays_there : (c : Runtime) → OverRuntime Q A c → Each (λ x. (variable_rank unit x == 0) ≡ false) (array_arguments (rename_runtime (naming ns) c))
  arrays_there (push_word x i) h = tt
  arrays_there (pop_word x i) h = tt
  arrays_there (push_array x) h = (h.1, tt)
  arrays_there (pop_array x) h = (h.1, tt)
  arrays_there (push_control e) h = tt
  arrays_there (pop_control x) h = tt
  arrays_there (zero_array x) h = (h.1, tt)
  arrays_there (begin_reversal l i) h = tt
  arrays_there (count_actions l i k) h = tt
  arrays_there (give_action l i k x f t) h = tt
  arrays_there end_reversal h = tt

  -- each has what CALLs and calls of the runtime have
  pub statements_have : (C : List ℕ → Terms → Type 0) → OverCode Q A C code → (G : At Act → Type 0) → ((line : ℕ) (act : Act) → IsOwn act → G (line, act)) → ((line : ℕ) (other : List ℕ) (args : Terms) → is_runtime other ≡ false → C other args → G (line, call other (rename_terms (naming ns) args))) →
      ((line : ℕ) (c : Runtime) → Each (λ x. (variable_rank unit x == 0) ≡ false) (array_arguments c) → G (line, runtime c)) → Each G (statements unit.body)
  statements_have C over G own called ran = each_statement Q A C (naming ns) G own called (λ line c h. ran line (rename_runtime (naming ns) c) (arrays_there c h)) code over

  module _ (over : OverCode Q A Any code) where
    -- each name that stands in a statement is declared, and has its rank
    abbrev T : Standing → Type 0
    T i = Declared i.name × (has_rank unit i ≡ true)

    standing : Each (λ (t : At Act). Each T (in_act t.1)) (statements unit.body)
    standing = stands_code Q A Any name T (λ v i q. (known_declared v q.0, q.1)) code over

    -- each name that stands anywhere is declared
    pub places_declared : Each (λ (p : At (List ℕ)). Declared p.1) (places unit)
    places_declared =
        each_append (λ (p : At (List ℕ)). Declared p.1) (dummy_places unit) (declared_places unit ++ statement_places unit) (each_at_places Declared unit.line unit.dummies dummies_declared)
        (each_append (λ (p : At (List ℕ)). Declared p.1) (declared_places unit) (statement_places unit) (declarations unit.declarations (each_name Declared (map (λ d. d.name) unit.declarations) (λ x h. h))) in_statements)
      where
        declarations : (ds : List Declaration) → Each Declared (map (λ (d : Declaration). d.name) ds) → Each (λ (p : At (List ℕ)). Declared p.1) (map (λ (d : Declaration). (d.line, d.name)) ds)
        declarations [] h = tt
        declarations (d ∷ ds) h = (h.0, declarations ds h.1)

        of_names : (line : ℕ) (ts : List Standing) → Each T ts → Each (λ (p : At (List ℕ)). Declared p.1) (map (λ (i : Standing). (line, i.name)) ts)
        of_names line [] h = tt
        of_names line (t ∷ ts) h = (h.0.0, of_names line ts h.1)

        in_statements : Each (λ (p : At (List ℕ)). Declared p.1) (statement_places unit)
        in_statements =
            each_in_flat (λ (p : At (List ℕ)). Declared p.1) (λ (t : At Act). map (λ i. (t.0, i.name)) (in_act t.1)) (statements unit.body)
            (each_more (λ (t : At Act). Each T (in_act t.1)) (λ t. Each (λ (p : At (List ℕ)). Declared p.1) (map (λ i. (t.0, i.name)) (in_act t.1))) (λ t h. of_names t.0 (in_act t.1) h) (statements unit.body) standing)

    pub no_misused : misused run_rules unit ≡ []
    no_misused =
        flat_none (λ t. flat_map (λ i. faults_if (not (has_rank unit i)) (fault 9 t.0)) (taken_in true t.1)) (statements unit.body)
        (each_more (λ (t : At Act). Each T (in_act t.1)) (λ t. flat_map (λ i. faults_if (not (has_rank unit i)) (fault 9 t.0)) (taken_in true t.1) ≡ []) each_one (statements unit.body) standing)
      where
        same : (act : Act) → taken_in true act ≡ in_act act
        same (assign x l e) = refl
        same (choose c x y) = refl
        same (loop x f l b c k) = refl
        same (during c x) = refl
        same (call i args) = refl
        same (runtime r) = refl

        each_one : (t : At Act) → Each T (in_act t.1) → flat_map (λ i. faults_if (not (has_rank unit i)) (fault 9 t.0)) (taken_in true t.1) ≡ []
        each_one t h =
            ap (flat_map (λ i. faults_if (not (has_rank unit i)) (fault 9 t.0))) (same t.1)
            ∙ flat_none (λ i. faults_if (not (has_rank unit i)) (fault 9 t.0)) (in_act t.1) (each_more T (λ i. faults_if (not (has_rank unit i)) (fault 9 t.0) ≡ []) (λ i k. if_none (not (has_rank unit i)) (fault 9 t.0) (ap not k.1)) (in_act t.1) h)

    pub no_undeclared : undeclared unit ≡ []
    no_undeclared =
        flat_none (λ (p : At (List ℕ)). faults_if (not (is_integer unit p.1)) (fault 7 p.0)) (places unit ++ extent_places unit)
        (each_more (λ (p : At (List ℕ)). Declared p.1) (λ p. faults_if (not (is_integer unit p.1)) (fault 7 p.0) ≡ [])
        (λ p h. if_none (not (is_integer unit p.1)) (fault 7 p.0) (ap not (or_left (has_name p.1 (map (λ d. d.name) unit.declarations)) (not unit.is_none && is_integer_name p.1) h))) (places unit ++ extent_places unit)
        (each_append (λ (p : At (List ℕ)). Declared p.1) (places unit) (extent_places unit) places_declared extents_declared))
