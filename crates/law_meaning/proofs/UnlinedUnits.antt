-- What units declare and write doesn't depend on line numbers.
use Rattle.std.proofs.Common.{◌≡◌, ℕ, zero, suc, Bool, true, false, List, [], ◌∷◌, refl, ap, ◌∙◌}
use Rattle.std.specs.Prelude.{Option, Some, None, map, length, ◌==◌, ◌+◌, ◌&&◌, ◌||◌, if◌then◌else◌}
use Rattle.adj_tree.specs.Code.{Var, plain, var_eq, name_eq, Act, assign, choose, loop, during, call, runtime, Code, stop, step, Declaration, Procedure}
use Rattle.adj_tree.specs.Lines.{unlined_act, unlined_code, unlined_declaration, unlined_procedure, unlined}
use Rattle.def_meaning.specs.Numbers.{Numbers}
use Rattle.def_meaning.specs.Store.{Store}
use Rattle.def_meaning.specs.Value.{Setting}
use Rattle.def_meaning.specs.LeastSet.{Dummies, row_of, by_rule, rounds, dummies_in_all}
use Rattle.def_meaning.specs.Written.{find_unit, act_writes, writes, write_rule, handed_back}
use Rattle.def_meaning.specs.Units.{Slot, Actual, declared, extent_in, extents_of, shape_of, shape_fits, dummies_fit, setting_in, input_store, slot_fits, slots_fit, fits}

-- ---- declarations

declared_unlined : (ds : List Declaration) (x : Var) → declared (map unlined_declaration ds) x ≡ declared ds x
declared_unlined [] x = refl
declared_unlined (d ∷ ds) x = ap (λ z. if var_eq x (plain d.name) then d.extents else z) (declared_unlined ds x)

module _ {C : Type 0} (n : Numbers C) (u : Procedure) (s : Store C) where
  -- the extents of a variable
  extents_unlined : (x : Var) → extents_of n (unlined_procedure u) s x ≡ extents_of n u s x
  extents_unlined x = ap (map (extent_in n s)) (declared_unlined u.declarations x)

  -- actuals fit the dummies of both or of neither
  pub dummies_fit_unlined : (ds : List (List ℕ)) (got : List (Actual C)) → dummies_fit n (unlined_procedure u) s ds got ≡ dummies_fit n u s ds got
  dummies_fit_unlined [] got = refl
  dummies_fit_unlined (d ∷ ds) [] = refl
  dummies_fit_unlined (d ∷ ds) (a ∷ got) =
      λ i. (length (declared_unlined u.declarations (plain d) i) == 0 || shape_fits (extents_unlined (plain d) i) a.shape) && dummies_fit_unlined ds got i

  -- and so do slots
  slots_fit_unlined : (ds : List (List ℕ)) (input : List (Slot C)) → slots_fit n (unlined_procedure u) s ds input ≡ slots_fit n u s ds input
  slots_fit_unlined [] [] = refl
  slots_fit_unlined [] (v ∷ vs) = refl
  slots_fit_unlined (d ∷ ds) [] = refl
  slots_fit_unlined (d ∷ ds) (v ∷ vs) = λ i. slot_fits (extents_unlined (plain d) i) v && slots_fit_unlined ds vs i

-- an input fits both or neither
pub fits_unlined : {C : Type 0} (n : Numbers C) (u : Procedure) (input : List (Slot C)) → fits n (unlined_procedure u) input ≡ fits n u input
fits_unlined n u input = slots_fit_unlined n u (input_store n u input) u.dummies input

-- the setting within a unit
pub setting_unlined : {C : Type 0} (n : Setting C) (u : Procedure) (s : Store C) → setting_in n (unlined_procedure u) s ≡ setting_in n u s
setting_unlined n u s = λ i. record n { shape = λ x. shape_of (extents_unlined n.numbers u s x i); level = suc n.level }

-- ---- units that are looked for

abbrev pub unlined_found : Option Procedure → Option Procedure
unlined_found None = None
unlined_found (Some u) = Some (unlined_procedure u)

pub find_unlined : (units : List Procedure) (name : List ℕ) → find_unit (unlined units) name ≡ unlined_found (find_unit units name)
find_unlined [] name = refl
find_unlined (u ∷ us) name = go (name_eq u.name name) (find_unlined us name)
  where
    go : (b : Bool) → find_unit (unlined us) name ≡ unlined_found (find_unit us name) → (if b then Some (unlined_procedure u) else find_unit (unlined us) name) ≡ unlined_found (if b then Some u else find_unit us name)
    go true e = refl
    go false e = e

-- ---- dummies that are written

mutual
  act_writes_unlined : (handed : Dummies) (x : Var) (a : Act) → act_writes handed x (unlined_act a) ≡ act_writes handed x a
  act_writes_unlined handed x (assign y subs e) = refl
  act_writes_unlined handed x (choose c a b) = λ i. writes_unlined handed x a i || writes_unlined handed x b i
  act_writes_unlined handed x (loop y first last by body m) = ap (λ z. var_eq x y || z) (writes_unlined handed x body)
  act_writes_unlined handed x (during c body) = writes_unlined handed x body
  act_writes_unlined handed x (call name args) = refl
  act_writes_unlined handed x (runtime r) = refl

  writes_unlined : (handed : Dummies) (x : Var) (c : Code) → writes handed x (unlined_code c) ≡ writes handed x c
  writes_unlined handed x stop = refl
  writes_unlined handed x (step line a rest) = λ i. act_writes_unlined handed x a i || writes_unlined handed x rest i

row_unlined : (units : List Procedure) (rows : List (List Bool)) (name : List ℕ) → row_of (unlined units) rows name ≡ row_of units rows name
row_unlined [] rows name = refl
row_unlined (u ∷ us) [] name = refl
row_unlined (u ∷ us) (ws ∷ rows) name = ap (λ z. if name_eq u.name name then ws else z) (row_unlined us rows name)

dummies_unlined : (units : List Procedure) → dummies_in_all (unlined units) ≡ dummies_in_all units
dummies_unlined [] = refl
dummies_unlined (u ∷ us) = ap (λ z. length u.dummies + z) (dummies_unlined us)

rows_unlined : (f : Procedure → List Bool) → ((u : Procedure) → f (unlined_procedure u) ≡ f u) → (units : List Procedure) → map f (unlined units) ≡ map f units
rows_unlined f h [] = refl
rows_unlined f h (u ∷ us) = λ i. h u i ∷ rows_unlined f h us i

module _ (units : List Procedure) where
  -- what the rule of writing finds
  found_unlined : (rows : List (List Bool)) → by_rule write_rule (unlined units) rows ≡ by_rule write_rule units rows
  found_unlined rows =
      rows_unlined (λ u. map (write_rule (row_of (unlined units) rows) u) u.dummies) (λ u i. map (λ d. writes_unlined (row_of (unlined units) rows) (plain d) u.body i) u.dummies) units
      ∙ (λ i. map (λ u. map (write_rule (λ name. row_unlined units rows name i) u) u.dummies) units)

  -- round by round
  rounds_unlined : (k : ℕ) → rounds write_rule (unlined units) k ≡ rounds write_rule units k
  rounds_unlined zero = rows_unlined (λ u. map (λ d. false) u.dummies) (λ u. refl) units
  rounds_unlined (suc k) = found_unlined (rounds write_rule (unlined units) k) ∙ ap (by_rule write_rule units) (rounds_unlined k)

  -- the dummies that are handed back
  pub handed_unlined : (name : List ℕ) → handed_back (unlined units) name ≡ handed_back units name
  handed_unlined name =
      row_unlined units (rounds write_rule (unlined units) (dummies_in_all (unlined units))) name
      ∙ ap (λ z. row_of units z name) (ap (rounds write_rule (unlined units)) (dummies_unlined units) ∙ rounds_unlined (dummies_in_all units))
