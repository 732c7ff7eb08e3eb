-- A unit that is made is written.
use Rattle.std.proofs.Common.{◌≡◌, ℕ, Bool, true, false, List, [], ◌∷◌, All, refl, arith, if◌then◌else◌}
use Rattle.std.specs.Prelude.{Option}
use Rattle.std.proofs.lemmas.List.Elements.{All-nil, All-cons, All-head, All-tail, All-append}
use Rattle.adj_tree.specs.Code.{Var, plain, shadow, name_eq, var_eq, Code, Declaration, Procedure}
use Rattle.def_text.specs.Written.{IsName, IsWrittenExtent, IsWrittenDeclaration, IsWrittenProcedure}
use Rattle.def_names.specs.Statements.{statements}
use Rattle.def_names.specs.Variables.{variables}
use Rattle.def_kernel.specs.Form.{IsKernelCode}
use Rattle.def_meaning.specs.Apart.{has_name}
use Rattle.def_sweep.specs.Naming.{Derived, Named, name_in, naming}
use Rattle.def_names.specs.Numbers.{Vars}
use Rattle.def_sweep.specs.Marked.{names_in}
use Rattle.def_sweep.specs.MarkedProgram.{shadows_behind, declared_behind}
use Rattle.def_sweep.specs.Declared.{scalar, declaration, declared_helpers}
use Rattle.def_names.proofs.Variables.{or_left, or_right}
use Rattle.def_meaning.proofs.Variables.{var_refl}
use Rattle.def_sweep.specs.Program.{made_unit_for}
use Rattle.law_sweep.proofs.Variables.{dummy_among}
use Rattle.law_emitted.proofs.Lists.{Each}
use Rattle.law_emitted.proofs.Texts.{Known}
use Rattle.law_emitted.proofs.Statements.{CallHasNone}
use Rattle.law_emitted.proofs.CheckedUnits.{names_known}
use Rattle.law_emitted.proofs.Over.{OverCode, Any}
use Rattle.law_emitted.proofs.Renamed.{written_code}
use Rattle.law_emitted.proofs.Source.{source_code}
use Rattle.law_emitted.proofs.Sources.{each_name, of_each}
use Rattle.law_emitted.proofs.Tables.{IsFree, AreHelpers, has_var, among, table_for, named_free_for, named_indexed_for, has_plain_for, has_shadow_for, has_helper_for}

-- the marked ones of a list
pub each_marked : (P : List ℕ → Type 0) (a : Vars) (xs : List (List ℕ)) → Each P xs → Each (λ x. P x × (a (plain x) ≡ true)) (names_in a xs)
each_marked P a [] h = tt
each_marked P a (x ∷ xs) h = go (a (plain x)) refl (each_marked P a xs h.1)
  where
    go : (b : Bool) → a (plain x) ≡ b → Each (λ x. P x × (a (plain x) ≡ true)) (names_in a xs) → Each (λ x. P x × (a (plain x) ≡ true)) (if b then x ∷ names_in a xs else names_in a xs)
    go true e ih = ((h.0, e), ih)
    go false e ih = ih

all_each : {X : Type 0} (P : X → Type 0) (xs : List X) → Each P xs → All P xs
all_each P [] h = All-nil P
all_each P (x ∷ xs) h = All-cons P x xs h.0 (all_each P xs h.1)

-- each variable of a list stands in it
pub each_var : (P : Var → Type 0) (vs : List Var) → ((v : Var) → among v vs ≡ true → P v) → Each P vs
each_var P [] f = tt
each_var P (v ∷ vs) f = (f v (or_left (var_eq v v) (among v vs) (var_refl v)), each_var P vs (λ w h. f w (or_right (var_eq w v) (among w vs) h)))

-- ---- declarations

scalar_written : (line : ℕ) (x : List ℕ) → IsName x → IsWrittenDeclaration (scalar line x)
scalar_written line x h = record { named = h; few_extents = omega arith; extents = All-nil IsWrittenExtent }

declaration_written : (line : ℕ) (ds : List Declaration) (x : List ℕ) → IsName x → All IsWrittenDeclaration ds → IsWrittenDeclaration (declaration line ds x)
declaration_written line [] x h a = scalar_written line x h
declaration_written line (d ∷ ds) x h a = go (name_eq d.name x) (declaration_written line ds x h (All-tail IsWrittenDeclaration d ds a))
  where
    go : (b : Bool) → IsWrittenDeclaration (declaration line ds x) → IsWrittenDeclaration (if b then d else declaration line ds x)
    go true ih = All-head IsWrittenDeclaration d ds a
    go false ih = ih

-- under another name
other_written : (d : Declaration) (x : List ℕ) → IsName x → IsWrittenDeclaration d → IsWrittenDeclaration (record d { name = x })
other_written d x h w = record { named = h; few_extents = w.few_extents; extents = w.extents }

-- ---- a unit that is made, with shadows of some variables and with these helpers

module _ (o : Derived) (units : List (List ℕ)) (u : Procedure) (a : Vars) (hs : List Var) (written : IsWrittenProcedure u) (free : Each IsFree (variables u)) (helpers : AreHelpers hs) where
  abbrev its_names : List Named
  its_names = table_for o (variables u) units a hs

  -- a variable that has a name
  abbrev pub HasName : Var → Option ℕ → Type 0
  HasName v n = has_var v its_names ≡ true

  abbrev pub AnyArray : Var → Type 0
  AnyArray v = Unit {0}

  -- the variables of its source have one
  pub source_formed : (ps : List Procedure) → IsKernelCode u.body → Each (CallHasNone ps u) (statements u.body) → OverCode HasName AnyArray Any u.body
  source_formed ps kernel calls = source_code HasName AnyArray (Known (variables u)) (λ x n k. has_plain_for o (variables u) units a hs free helpers x k) ps u u.body written.body kernel (names_known u) calls

  shadow_named : (x : List ℕ) → has_name x (variables u) ≡ true → a (plain x) ≡ true → IsName (name_in its_names (shadow x))
  shadow_named x h marked = (named_free_for o (variables u) units a hs free helpers (shadow x) (has_shadow_for o (variables u) units a hs free helpers x h marked)).0

  dummies_written : (xs : List (List ℕ)) → Each (λ x. IsName x × (has_name x (variables u) ≡ true)) xs → Each IsName (shadows_behind a its_names xs)
  dummies_written [] h = tt
  dummies_written (x ∷ xs) h = go (a (plain x)) refl (dummies_written xs h.1)
    where
      go : (b : Bool) → a (plain x) ≡ b → Each IsName (shadows_behind a its_names xs) → Each IsName (if b then x ∷ name_in its_names (shadow x) ∷ shadows_behind a its_names xs else x ∷ shadows_behind a its_names xs)
      go true e ih = (h.0.0, (shadow_named x h.0.1 e, ih))
      go false e ih = (h.0.0, ih)

  declared_written : (xs : List (List ℕ)) → Each (λ x. IsName x × (has_name x (variables u) ≡ true)) xs → All IsWrittenDeclaration (declared_behind a its_names u xs)
  declared_written [] h = All-nil IsWrittenDeclaration
  declared_written (x ∷ xs) h = go (a (plain x)) refl (declared_written xs h.1)
    where
      here : IsWrittenDeclaration (declaration u.line u.declarations x)
      here = declaration_written u.line u.declarations x h.0.0 written.declarations

      go : (b : Bool) → a (plain x) ≡ b → All IsWrittenDeclaration (declared_behind a its_names u xs) →
          All IsWrittenDeclaration (if b then declaration u.line u.declarations x ∷ record (declaration u.line u.declarations x) { name = name_in its_names (shadow x) } ∷ declared_behind a its_names u xs else declaration u.line u.declarations x ∷ declared_behind a its_names u xs)
      go true e ih =
          All-cons IsWrittenDeclaration (declaration u.line u.declarations x) (record (declaration u.line u.declarations x) { name = name_in its_names (shadow x) } ∷ declared_behind a its_names u xs) here
          (All-cons IsWrittenDeclaration (record (declaration u.line u.declarations x) { name = name_in its_names (shadow x) }) (declared_behind a its_names u xs) (other_written (declaration u.line u.declarations x) (name_in its_names (shadow x)) (shadow_named x h.0.1 e) here) ih)
      go false e ih = All-cons IsWrittenDeclaration (declaration u.line u.declarations x) (declared_behind a its_names u xs) here ih

  helpers_written : (line : ℕ) (vs : List Var) → Each (λ v. IsName (name_in its_names v)) vs → All IsWrittenDeclaration (declared_helpers its_names line vs)
  helpers_written line [] h = All-nil IsWrittenDeclaration
  helpers_written line (v ∷ vs) h = All-cons IsWrittenDeclaration (scalar line (name_in its_names v)) (declared_helpers its_names line vs) (scalar_written line (name_in its_names v) h.0) (helpers_written line vs h.1)

  helper_names : Each (λ v. IsName (name_in its_names v)) hs
  helper_names = each_var (λ v. IsName (name_in its_names v)) hs (λ v h. (named_free_for o (variables u) units a hs free helpers v (has_helper_for o (variables u) units a hs free helpers v h)).0)

  dummies_known : Each (λ x. IsName x × (has_name x (variables u) ≡ true)) u.dummies
  dummies_known = each_name (λ x. IsName x × (has_name x (variables u) ≡ true)) u.dummies (λ x h. let k = dummy_among u x h in ((of_each IsFree (variables u) free x k).0, k))

  variables_known : Each (λ x. IsName x × (has_name x (variables u) ≡ true)) (variables u)
  variables_known = each_name (λ x. IsName x × (has_name x (variables u) ≡ true)) (variables u) (λ x h. ((of_each IsFree (variables u) free x h).0, h))

  -- it is written, where its name is, and its code is formed over what has a name
  pub made_written : (name : List ℕ) (c : Code) → IsName name → OverCode HasName AnyArray Any c → IsWrittenProcedure (made_unit_for o name a units u hs c)
  made_written name c named over = record {
    named = named;
    dummies = all_each IsName (shadows_behind a its_names u.dummies) (dummies_written u.dummies dummies_known);
    declarations = All-append IsWrittenDeclaration (declared_behind a its_names u (variables u)) (declared_helpers its_names u.line hs) (declared_written (variables u) variables_known) (helpers_written u.line hs helper_names);
    body = written_code HasName AnyArray Any (naming its_names) (λ v n q. named_indexed_for o (variables u) units a hs free helpers v q) c over;
  }
