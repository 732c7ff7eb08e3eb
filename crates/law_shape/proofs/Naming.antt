-- The names in a unit that is made tell its unit's variables, their shadows and helpers apart, as the shape does.
use Rattle.std.proofs.Common.{◌≡◌, ℕ, Bool, true, false, List, [], ◌∷◌, ◌++◌, map, refl, sym, ap, ◌∙◌, if◌then◌else◌}
use Rattle.std.specs.Prelude.{◌||◌}
use Rattle.adj_tree.specs.Code.{Role, Var, plain, shadow, helper, name_eq, var_eq, Declaration, Procedure}
use Rattle.adj_tree.proofs.Names.{name_refl, name_same}
use Rattle.def_meaning.specs.Units.{declared}
use Rattle.def_names.specs.Numbers.{Vars}
use Rattle.def_names.specs.Variables.{variables}
use Rattle.def_meaning.specs.Apart.{has_name}
use Rattle.def_sweep.specs.Callees.{nothing}
use Rattle.def_sweep.specs.Naming.{Named, name_in, naming}
use Rattle.def_sweep.specs.Marked.{names_in}
use Rattle.def_sweep.specs.Declared.{declaration, declared_helpers}
use Rattle.def_sweep.specs.MarkedProgram.{shadows_behind, declared_behind}
use Rattle.def_names.proofs.Variables.{or_false, or_left, or_right}
use Rattle.def_sweep.specs.Marking.{ProgramMarks}
use Rattle.def_adjoint.specs.Shape.{shadow_table, is_own, is_shadow}

-- ---- a unit made of u, by its table of names

module _ (u : Procedure) (ns : List Named) (separates : (v w : Var) → name_eq (name_in ns v) (name_in ns w) ≡ var_eq v w) (keeps : (x : List ℕ) → has_name x (variables u) ≡ true → name_in ns (plain x) ≡ x) where
  -- the unit's variables are told as they are
  pub own_kept : (v : Var) → is_own u v ≡ true → naming ns v ≡ v
  own_kept (plain x) h = ap plain (keeps x h)
  own_kept (shadow x) h = absurd cc
  own_kept (helper o k) h = absurd cc

  -- a name of the unit's is that of its variable alone
  at : (v : Var) (x : List ℕ) → has_name x (variables u) ≡ true → name_eq (name_in ns v) x ≡ var_eq v (plain x)
  at v x h = ap (name_eq (name_in ns v)) (sym (keeps x h)) ∙ separates v (plain x)

  first_has : (x : List ℕ) (xs : List (List ℕ)) → has_name x (x ∷ xs) ≡ true
  first_has x xs = or_left (name_eq x x) (has_name x xs) (name_refl x)

  later_has : (y x : List ℕ) (xs : List (List ℕ)) → has_name y xs ≡ true → has_name y (x ∷ xs) ≡ true
  later_has y x xs h = or_right (name_eq y x) (has_name y xs) h

  plain_among : (y : List ℕ) (xs : List (List ℕ)) → ((x : List ℕ) → has_name x xs ≡ true → has_name x (variables u) ≡ true) → has_name (name_in ns (plain y)) xs ≡ has_name y xs
  plain_among y [] k = refl
  plain_among y (x ∷ xs) k = λ j. at (plain y) x (k x (first_has x xs)) j || plain_among y xs (λ z h. k z (later_has z x xs h)) j

  other_among : (v : Var) → ((x : List ℕ) → var_eq v (plain x) ≡ false) → (xs : List (List ℕ)) → ((x : List ℕ) → has_name x xs ≡ true → has_name x (variables u) ≡ true) → has_name (name_in ns v) xs ≡ false
  other_among v none [] k = refl
  other_among v none (x ∷ xs) k = λ j. (at v x (k x (first_has x xs)) ∙ none x) j || other_among v none xs (λ z h. k z (later_has z x xs h)) j

  -- its variables are told from others under their names
  pub own_same : (v : Var) → is_own u (naming ns v) ≡ is_own u v
  own_same (plain y) = plain_among y (variables u) (λ x h. h)
  own_same (shadow y) = other_among (shadow y) (λ x. refl) (variables u) (λ x h. h)
  own_same (helper o k) = other_among (helper o k) (λ x. refl) (variables u) (λ x h. h)

  -- what is no shadow has no shadow's name
  pub none_shadow : (v : Var) → ((x : List ℕ) → var_eq v (shadow x) ≡ false) → (ss : List (List ℕ)) → has_name (name_in ns v) (map (λ y. name_in ns (shadow y)) ss) ≡ false
  none_shadow v none [] = refl
  none_shadow v none (y ∷ ss) = λ j. (separates v (shadow y) ∙ none y) j || none_shadow v none ss j

  -- ---- declarations

  helpers_scalar : (line : ℕ) (hs : List Var) (v : Var) → declared (declared_helpers ns line hs) v ≡ []
  helpers_scalar line [] v = refl
  helpers_scalar line (h ∷ hs) v = go (var_eq v (plain (name_in ns h))) (helpers_scalar line hs v)
    where
      go : (b : Bool) → declared (declared_helpers ns line hs) v ≡ [] → (if b then [] else declared (declared_helpers ns line hs) v) ≡ []
      go true ih = refl
      go false ih = ih

  name_declared : (line : ℕ) (ds : List Declaration) (x : List ℕ) → (declaration line ds x).name ≡ x
  name_declared line [] x = refl
  name_declared line (d ∷ ds) x = go (name_eq d.name x) refl (name_declared line ds x)
    where
      go : (b : Bool) → name_eq d.name x ≡ b → (declaration line ds x).name ≡ x → (if b then d else declaration line ds x).name ≡ x
      go true e ih = name_same d.name x e
      go false e ih = ih

  others_scalar : (a : Vars) (line : ℕ) (hs : List Var) (z : List ℕ) (xs : List (List ℕ)) → has_name z xs ≡ false → has_name z (map (λ y. name_in ns (shadow y)) (names_in a xs)) ≡ false → declared (declared_behind a ns u xs ++ declared_helpers ns line hs) (plain z) ≡ []
  others_scalar a line hs z [] own made = helpers_scalar line hs (plain z)
  others_scalar a line hs z (x ∷ xs) own made =
      let none = or_false (name_eq z x) (has_name z xs) own in
      go (a (plain x)) (ap (name_eq z) (name_declared u.line u.declarations x) ∙ none.0) made (others_scalar a line hs z xs none.1)
    where
      d : Declaration
      d = declaration u.line u.declarations x

      names_of : List (List ℕ) → List (List ℕ)
      names_of ys = map (λ y. name_in ns (shadow y)) ys

      later : List Declaration
      later = declared_behind a ns u xs ++ declared_helpers ns line hs

      go : (c : Bool) → name_eq z d.name ≡ false → has_name z (names_of (if c then x ∷ names_in a xs else names_in a xs)) ≡ false → (has_name z (names_of (names_in a xs)) ≡ false → declared later (plain z) ≡ []) →
          declared ((if c then d ∷ record d { name = name_in ns (shadow x) } ∷ declared_behind a ns u xs else d ∷ declared_behind a ns u xs) ++ declared_helpers ns line hs) (plain z) ≡ []
      go true e b ih =
          let made = or_false (name_eq z (name_in ns (shadow x))) (has_name z (names_of (names_in a xs))) b in
          ap (λ t. if t then d.extents else (if name_eq z (name_in ns (shadow x)) then d.extents else declared later (plain z))) e
          ∙ ap (λ t. if t then d.extents else declared later (plain z)) made.0
          ∙ ih made.1
      go false e b ih = ap (λ t. if t then d.extents else declared later (plain z)) e ∙ ih b

  none_declared : (ds : List Declaration) (v : Var) → ((x : List ℕ) → var_eq v (plain x) ≡ false) → declared ds v ≡ []
  none_declared [] v none = refl
  none_declared (d ∷ ds) v none = ap (λ t. if t then d.extents else declared ds v) (none d.name) ∙ none_declared ds v none

  -- a variable that is neither one of the unit's nor a shadow is a scalar
  pub are_scalars : (a : Vars) (hs : List Var) → (v : Var) → is_own u v ≡ false → ((z : List ℕ) → v ≡ plain z → has_name z (map (λ y. name_in ns (shadow y)) (names_in a (variables u))) ≡ false) → declared (declared_behind a ns u (variables u) ++ declared_helpers ns u.line hs) v ≡ []
  are_scalars a hs (plain z) own made = others_scalar a u.line hs z (variables u) own (made z refl)
  are_scalars a hs (shadow z) own made = none_declared (declared_behind a ns u (variables u) ++ declared_helpers ns u.line hs) (shadow z) (λ x. refl)
  are_scalars a hs (helper o k) own made = none_declared (declared_behind a ns u (variables u) ++ declared_helpers ns u.line hs) (helper o k) (λ x. refl)

  -- where it has no shadows
  pub no_shadows : (xs : List (List ℕ)) → names_in nothing xs ≡ []
  no_shadows [] = refl
  no_shadows (x ∷ xs) = no_shadows xs

  pub scalars_without : (hs : List Var) → (v : Var) → is_own u v ≡ false → declared (declared_behind nothing ns u (variables u) ++ declared_helpers ns u.line hs) v ≡ []
  scalars_without hs v own = are_scalars nothing hs v own (λ z e. ap (λ ss. has_name z (map (λ y. name_in ns (shadow y)) ss)) (no_shadows (variables u)))

  pub dummies_without : (xs : List (List ℕ)) → shadows_behind nothing ns xs ≡ xs
  dummies_without [] = refl
  dummies_without (x ∷ xs) = ap (λ ys. x ∷ ys) (dummies_without xs)

  -- ---- where its shadows have the names that the shape gives them

  module _ (m : ProgramMarks) (ps : List Procedure) (head : Procedure) (same : (x : List ℕ) → name_in (shadow_table m ps head u) (shadow x) ≡ name_in ns (shadow x)) where
    tables : (ss : List (List ℕ)) → map (λ y. name_in (shadow_table m ps head u) (shadow y)) ss ≡ map (λ y. name_in ns (shadow y)) ss
    tables [] = refl
    tables (y ∷ ss) = λ j. same y j ∷ tables ss j

    none_here : (v : Var) → ((x : List ℕ) → var_eq v (shadow x) ≡ false) → is_shadow m ps head u (naming ns v) ≡ false
    none_here v none = ap (has_name (name_in ns v)) (tables (names_in (m.shadowed u.name) (variables u))) ∙ none_shadow v none (names_in (m.shadowed u.name) (variables u))

    pub plain_unshadowed : (x : List ℕ) → is_shadow m ps head u (naming ns (plain x)) ≡ false
    plain_unshadowed x = none_here (plain x) (λ y. refl)

    pub helper_unshadowed : (o : Role) (k : ℕ) → is_shadow m ps head u (naming ns (helper o k)) ≡ false
    helper_unshadowed o k = none_here (helper o k) (λ y. refl)

    pub scalars_with : (hs : List Var) → (v : Var) → is_own u v ≡ false → is_shadow m ps head u v ≡ false → declared (declared_behind (m.shadowed u.name) ns u (variables u) ++ declared_helpers ns u.line hs) v ≡ []
    scalars_with hs v own made =
        are_scalars (m.shadowed u.name) hs v own (λ z e. ap (has_name z) (sym (tables (names_in (m.shadowed u.name) (variables u)))) ∙ sym (ap (is_shadow m ps head u) e) ∙ made)
