-- A unit of the emitted program is entered as the program's unit is.
use Rattle.std.proofs.Common.{◌≡◌, ℕ, suc, List, [], true}
use Rattle.std.specs.Prelude.{ℤ, pos, Some}
use Rattle.adj_tree.specs.Code.{Var, plain, shadow, Code, Procedure}
use Rattle.def_meaning.specs.Numbers.{words}
use Rattle.def_meaning.specs.Read.{is_extent}
use Rattle.def_meaning.specs.Store.{Shape, Store}
use Rattle.def_meaning.specs.Run.{Calls}
use Rattle.def_meaning.specs.Rename.{rename}
use Rattle.def_meaning.specs.Seen.{Separates, pulled_setting}
use Rattle.def_meaning.specs.Units.{extents_of, shape_of, entry_store, dummies_fit, setting_in}
use Rattle.def_meaning.specs.Written.{find_unit}
use Rattle.def_sweep.specs.Facts.{In}
use Rattle.def_names.specs.Numbers.{Vars}
use Rattle.def_meaning.specs.Apart.{AreApart}
use Rattle.law_sweep.specs.Pairs.{on_words}
use Rattle.law_sweep.specs.Scenes.{Course}
use Rattle.law_sweep.specs.Kernel.{AsMany}
use Rattle.def_sweep.specs.Callees.{nothing}
use Rattle.def_sweep.specs.Bindings.{bindings}
use Rattle.law_sweep.specs.Passing.{plainly}
use Rattle.def_sweep.specs.Plan.{Callee, IsActual}
use Rattle.law_sweep.specs.Runs.{Comes}
use Rattle.law_sweep.specs.Steps.{ActualsAgree}
use Rattle.law_sweep.proofs.Calls.{with_shadow_shapes}
use Rattle.law_sweep.proofs.Declared.{fits as unit_fits, shapes as unit_shapes}
use Rattle.law_sweep.specs.Emitted.{AreNamed, name_of, HasUnit}
use Rattle.law_sweep.proofs.Entering.{actuals_at, entry}

-- The unit of a name with this code, called with these actuals where the program's call is made from uc: from each store that agrees with uc on
-- the actuals of the dummies of a set it is entered with fitting arrays, and its variables have these shapes.
pub record UnitEnters (qs : List Procedure) (depth : ℕ) (sh : Var → Shape) (level : ℕ) (name : List ℕ) (g : Callee) (shadowed looked : Vars) (given : List (List ℕ)) (c : Code) (uc : Store ℤ) (shapes : Var → Shape) : Type 0 where
  pub unit : Procedure
  pub found : find_unit qs name ≡ Some unit
  pub naming : Var → Var
  pub separates : Separates naming
  pub plainly_named : (x : Var) → naming x ≡ plain (name_of (naming x))
  pub named : AreNamed naming unit.dummies (bindings shadowed g.dummies given)
  pub body : unit.body ≡ rename naming c
  pub enters : (f : Store ℤ) → ActualsAgree sh g given looked uc f →
      let bs = bindings shadowed g.dummies given in
      (dummies_fit words unit (entry qs depth (on_words sh level) name unit found naming separates bs named f) unit.dummies (actuals_at (on_words sh level) f bs) ≡ true)
      × (pulled_setting naming (setting_in (on_words sh level) unit (entry qs depth (on_words sh level) name unit found naming separates bs named f)) ≡ on_words shapes (suc level))

-- a unit that is there is entered so, where the extents of its arrays are looked at and the program's call was entered
pub unit_enters : (qs : List Procedure) (v : Procedure) (name : List ℕ) (g : Callee) (shadowed looked : Vars) (c : Code) → HasUnit qs v name g shadowed c → v.dummies ≡ g.dummies → ((d : List ℕ) → is_extent d v.declarations ≡ true → In (plain d) looked) → AreApart g.dummies →
    (depth : ℕ) (sh : Var → Shape) (level : ℕ) (given : List (List ℕ)) → AsMany g.dummies given → (uc : Store ℤ) → ((d a : List ℕ) → IsActual g.dummies given d a → In (plain d) shadowed → sh (shadow a) ≡ sh (plain a)) →
    (let start = entry_store words v.dummies (actuals_at (on_words (plainly sh) level) uc (bindings nothing g.dummies given)) in
    dummies_fit words v start v.dummies (actuals_at (on_words (plainly sh) level) uc (bindings nothing g.dummies given)) ≡ true →
    UnitEnters qs depth sh level name g shadowed looked given c uc (with_shadow_shapes shadowed (λ x. shape_of (extents_of words v start x))))
unit_enters qs v name g shadowed looked c h dummies extents apart depth sh level given many uc shadow_shapes fit =
    let g1 : Callee = record g { shadowed = shadowed; members = looked } in
    record {
      unit = h.unit;
      found = h.found;
      naming = h.naming;
      separates = h.separates;
      plainly_named = h.plainly_named;
      named = h.named given many;
      body = h.body;
      enters = λ f agree.
          let agree1 : ActualsAgree sh g1 given looked uc f = record { at = agree.at } in
          let alike : _ = h.declared in (
            unit_fits v h.unit h.naming h.separates h.plainly_named g1 dummies (record { plains = alike.plains; shadows = alike.shadows; helpers = alike.helpers; extents = alike.extents }) extents sh level given many (h.named given many) uc f shadow_shapes agree1 apart fit,
            unit_shapes v h.unit h.naming h.separates h.plainly_named g1 dummies (record { plains = alike.plains; shadows = alike.shadows; helpers = alike.helpers; extents = alike.extents }) extents sh level given many (h.named given many) uc f shadow_shapes agree1,
          );
    }

-- code that runs as well where the shadows have other shapes, from a store whose shadows are 0: it ends with the same values
pub record Moved (q : Calls ℤ) (shapes : Var → Shape) (level : ℕ) (c : Code) (base : Course) (s s' : Store ℤ) (t t' : List ℤ) : Type 0 where
  pub to : Store ℤ
  pub runs : Comes q (on_words shapes level) c base s to t t' []
  pub same : (x : List ℕ) (j : ℕ) → to (plain x) j ≡ s' (plain x) j

abbrev pub Moves : Calls ℤ → (Var → Shape) → (Var → Shape) → ℕ → Code → Type 0
Moves q sh sh' level c =
    (base : Course) (s s' : Store ℤ) (t t' : List ℤ) → ((x : List ℕ) (j : ℕ) → s (shadow x) j ≡ pos 0) → Comes q (on_words sh level) c base s s' t t' [] → Moved q sh' level c base s s' t t'
