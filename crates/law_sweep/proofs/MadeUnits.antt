-- Any unit that is made from one of the source: it is as the theorem on sweeps asks.
use Rattle.std.proofs.Common.{◌≡◌, ℕ, Bool, true, false, List, [], ◌∷◌, ◌++◌, map, refl, sym, ap, ◌∙◌, subst, if◌then◌else◌}
use Rattle.std.specs.Prelude.{◌&&◌, Some}
use Rattle.adj_tree.specs.Code.{Var, plain, shadow, helper, name_eq, var_eq, Code, Procedure}
use Rattle.adj_tree.proofs.Names.{name_refl}
use Rattle.def_meaning.specs.Written.{find_unit}
use Rattle.def_meaning.specs.Read.{is_extent}
use Rattle.def_meaning.specs.Units.{declared}
use Rattle.def_meaning.specs.Apart.{has_name, AreApart}
use Rattle.def_names.specs.Reserved.{reserved}
use Rattle.def_sweep.specs.Naming.{Derived, Named, unit_names_for, named_for, name_in, naming, AreInside}
use Rattle.def_names.specs.Numbers.{Vars}
use Rattle.def_sweep.specs.Marked.{names_in}
use Rattle.def_sweep.specs.MarkedProgram.{shadows_behind}
use Rattle.def_names.specs.Variables.{variables}
use Rattle.def_sweep.specs.Declared.{declared_helpers}
use Rattle.law_sweep.proofs.Naming.{AreMadeInside, naming-apart, unit_names_for-apart, unit_names_for-inside, own-name}
use Rattle.def_names.proofs.Variables.{or_left, or_right}
use Rattle.def_sweep.specs.Plan.{Callee}
use Rattle.law_sweep.specs.Kernel.{AsMany}
use Rattle.def_sweep.specs.Bindings.{bindings}
use Rattle.law_sweep.specs.Emitted.{AreNamed, DeclaredAlike, HasUnit}
use Rattle.def_sweep.specs.Program.{made_unit_for}
use Rattle.law_sweep.proofs.Variables.{dummy_among, undeclared}
use Rattle.law_sweep.proofs.MadeParts.{inside-made, inside-among, made-append, helpers_none, looked, behind, look_plain, look_shadow, look_helper}

-- ---- any unit that is made from one

module _ (o : Derived) (name : List ℕ) (a : Vars) (g : Callee) (units : List (List ℕ)) (u : Procedure) (is_of : g.dummies ≡ u.dummies) (helpers : List Var) (helpers_in : AreMadeInside helpers) (code : Code) (apart : AreApart (variables u)) (inside : AreInside (variables u)) (dummies : (d : List ℕ) → is_extent d u.declarations ≡ true → has_name d u.dummies ≡ true) where
  abbrev made : List Var
  made = map shadow (names_in a (variables u)) ++ helpers

  abbrev ns : List Named
  ns = unit_names_for o (variables u) units made

  abbrev unit : Procedure
  unit = made_unit_for o name a units u helpers code

  made_inside : AreMadeInside made
  made_inside = made-append (map shadow (names_in a (variables u))) helpers (inside-made (names_in a (variables u)) (inside-among a (variables u) inside)) helpers_in

  pub separates : (v w : Var) → var_eq (naming ns v) (naming ns w) ≡ var_eq v w
  separates = naming-apart ns (unit_names_for-apart o (variables u) units made apart) (unit_names_for-inside o (variables u) units made inside made_inside)

  pub own : (x : List ℕ) → has_name x (variables u) ≡ true → name_in ns (plain x) ≡ x
  own x h = own-name (variables u) (named_for o (variables u ++ (units ++ reserved)) made) x h

  pub own_dummy : (x : List ℕ) → has_name x u.dummies ≡ true → name_in ns (plain x) ≡ x
  own_dummy x h = own x (dummy_among u x h)

  -- what is declared for a variable
  found : (w : Var) → declared unit.declarations (naming ns w) ≡ looked a ns u separates (variables u) w []
  found w =
      let hs = helpers in
      behind a ns u separates (variables u) own (declared_helpers ns u.line hs) w ∙ ap (looked a ns u separates (variables u) w) (helpers_none ns u.line hs (naming ns w))

  found_plain : (x : List ℕ) → declared unit.declarations (naming ns (plain x)) ≡ declared u.declarations (plain x)
  found_plain x = found (plain x) ∙ (look_plain a ns u separates (variables u) x [] ∙ go (has_name x (variables u)) refl)
    where
      go : (b : Bool) → has_name x (variables u) ≡ b → (if b then declared u.declarations (plain x) else []) ≡ declared u.declarations (plain x)
      go true e = refl
      go false e = sym (undeclared u x e)

  found_shadow : (x : List ℕ) → declared unit.declarations (naming ns (shadow x)) ≡ (if a (plain x) then declared u.declarations (plain x) else [])
  found_shadow x = found (shadow x) ∙ (look_shadow a ns u separates (variables u) x [] ∙ go (has_name x (variables u)) refl (a (plain x)))
    where
      go : (b : Bool) → has_name x (variables u) ≡ b → (c : Bool) → (if b && c then declared u.declarations (plain x) else []) ≡ (if c then declared u.declarations (plain x) else [])
      go true e true = refl
      go true e false = refl
      go false e true = sym (undeclared u x e)
      go false e false = refl

  pub declared_alike : DeclaredAlike u unit (naming ns) (record g { shadowed = a })
  declared_alike = record {
    plains = found_plain;
    shadows = found_shadow;
    helpers = λ r k. found (helper r k) ∙ look_helper a ns u separates (variables u) r k [];
    extents = λ d h. (ap plain (own_dummy d (dummies d h)), ap (has_name d) is_of ∙ dummies d h);
  }

  -- each dummy is followed by its shadow
  pub dummies_named : (ds actuals : List (List ℕ)) → ((x : List ℕ) → has_name x ds ≡ true → name_in ns (plain x) ≡ x) → AsMany ds actuals → AreNamed (naming ns) (shadows_behind a ns ds) (bindings a ds actuals)
  dummies_named [] [] o many = tt
  dummies_named [] (y ∷ actuals) o many = tt
  dummies_named (d ∷ ds) [] o many = absurd many
  dummies_named (d ∷ ds) (y ∷ actuals) o many =
      go (a (plain d)) (ap plain (o d (or_left (name_eq d d) (has_name d ds) (name_refl d)))) (dummies_named ds actuals (λ x h. o x (or_right (name_eq x d) (has_name x ds) h)) many)
    where
      go : (b : Bool) → naming ns (plain d) ≡ plain d → AreNamed (naming ns) (shadows_behind a ns ds) (bindings a ds actuals) →
          AreNamed (naming ns) (if b then d ∷ name_in ns (shadow d) ∷ shadows_behind a ns ds else d ∷ shadows_behind a ns ds) (if b then (plain d, plain y) ∷ (shadow d, shadow y) ∷ bindings a ds actuals else (plain d, plain y) ∷ bindings a ds actuals)
      go true e ih = (e, (refl, ih))
      go false e ih = (e, ih)

  -- a program that has the unit has what the theorem asks for
  pub has_unit : (qs : List Procedure) → find_unit qs name ≡ Some unit → HasUnit qs u name g a code
  has_unit qs found = record {
    unit = unit;
    found = found;
    naming = naming ns;
    separates = record { at = separates };
    plainly_named = λ x. refl;
    named = λ actuals many. subst (λ ds. AreNamed (naming ns) unit.dummies (bindings a ds actuals)) (sym is_of) (dummies_named u.dummies actuals own_dummy (subst (λ ds. AsMany ds actuals) is_of many));
    declared = declared_alike;
    body = refl;
  }
