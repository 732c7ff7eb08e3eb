-- What a call reads, and that dummies have as many cells as their actuals.
use Rattle.std.proofs.Common.{◌≡◌, ℕ, Bool, true, false, List, [], ◌∷◌, map, refl, sym, ap, ◌∙◌, subst, if◌then◌else◌}
use Rattle.std.specs.Prelude.{ℤ, pos, length, int_le, ◌==◌, ◌&&◌, ◌||◌, Some}
use Rattle.adj_tree.specs.Code.{Var, plain, name_eq, var_eq, Procedure}
use Rattle.adj_tree.proofs.Names.{nat_same, name_refl, name_same}
use Rattle.def_meaning.specs.Numbers.{words}
use Rattle.def_meaning.specs.Store.{Shape, size_of, Store}
use Rattle.def_meaning.specs.Read.{reads_actuals}
use Rattle.def_meaning.specs.Units.{declared, extent_in, extents_of, shape_of, are_extents, elements, shape_fits, dummies_fit}
use Rattle.law_meaning.proofs.Dependence.{none_declared}
use Rattle.def_meaning.specs.Apart.{AreApart}
use Rattle.law_sweep.specs.Pairs.{on_words}
use Rattle.def_names.proofs.Variables.{and_true, has_apart}
use Rattle.def_meaning.proofs.Variables.{var_same}
use Rattle.def_sweep.specs.Plan.{beside, IsActual, actuals_named}
use Rattle.def_sweep.specs.Callees.{nothing}
use Rattle.def_sweep.specs.Bindings.{bindings}
use Rattle.law_sweep.specs.Kernel.{AsMany}
use Rattle.law_sweep.proofs.Passing.{beside_key}
use Rattle.law_sweep.proofs.Entering.{actuals_at}

-- an actual that is read is that of a dummy that is
pub record ReadActual (f : List ℕ → Bool) (ds given : List (List ℕ)) (v : Var) : Type 0 where
  pub name : List ℕ
  pub is : v ≡ plain name
  pub dummy : List ℕ
  pub found : beside given ds name ≡ Some dummy
  pub read : f dummy ≡ true

pub read_actual : (f : List ℕ → Bool) (ds given : List (List ℕ)) → AreApart given → AsMany ds given → (v : Var) → reads_actuals v (map f ds) (actuals_named given) ≡ true → ReadActual f ds given v
read_actual f [] [] p m v h = cc
read_actual f [] (a ∷ given) p m v h = absurd m
read_actual f (d ∷ ds) [] p m v h = absurd m
read_actual f (d ∷ ds) (a ∷ given) p m v h = go (f d) refl (var_eq v (plain a)) refl h (read_actual f ds given p.1 m v)
  where
    later : ReadActual f ds given v → ReadActual f (d ∷ ds) (a ∷ given) v
    later r =
        let other : name_eq r.name a ≡ false = has_apart r.name a given (beside_key given ds r.name r.dummy r.found) p.0 in
        record { name = r.name; is = r.is; dummy = r.dummy; found = rw other r.found; read = r.read }

    go : (t : Bool) → f d ≡ t → (b : Bool) → var_eq v (plain a) ≡ b → ((t && b) || reads_actuals v (map f ds) (actuals_named given)) ≡ true → (reads_actuals v (map f ds) (actuals_named given) ≡ true → ReadActual f ds given v) → ReadActual f (d ∷ ds) (a ∷ given) v
    go true ft true e h ih = record { name = a; is = var_same v (plain a) e; dummy = d; found = rw (name_refl a) refl; read = ft }
    go true ft false e h ih = later (ih h)
    go false ft b e h ih = later (ih h)

-- the dummies fit, one by one
pub fit_of : (u : Procedure) (sh : Var → Shape) (level : ℕ) (s s0 : Store ℤ) (ds given : List (List ℕ)) → dummies_fit words u s ds (actuals_at (on_words sh level) s0 (bindings nothing ds given)) ≡ true → (d a : List ℕ) → IsActual ds given d a → (length (declared u.declarations (plain d)) == 0 || shape_fits (extents_of words u s (plain d)) (sh (plain a))) ≡ true
fit_of u sh level s s0 [] given h d a b = cc
fit_of u sh level s s0 (e ∷ ds) [] h d a b = cc
fit_of u sh level s s0 (e ∷ ds) (c ∷ given) h d a b =
    let o = and_true (length (declared u.declarations (plain e)) == 0 || shape_fits (extents_of words u s (plain e)) (sh (plain c))) (dummies_fit words u s ds (actuals_at (on_words sh level) s0 (bindings nothing ds given))) h in
    go (name_eq d e) refl b o.0 (fit_of u sh level s s0 ds given o.1 d a)
  where
    go : (t : Bool) → name_eq d e ≡ t → (if t then Some c else beside ds given d) ≡ Some a → (length (declared u.declarations (plain e)) == 0 || shape_fits (extents_of words u s (plain e)) (sh (plain c))) ≡ true → (IsActual ds given d a → (length (declared u.declarations (plain d)) == 0 || shape_fits (extents_of words u s (plain d)) (sh (plain a))) ≡ true) → (length (declared u.declarations (plain d)) == 0 || shape_fits (extents_of words u s (plain d)) (sh (plain a))) ≡ true
    go true n b h ih =
        let same : d ≡ e = name_same d e n in
        let same2 : c ≡ a = cc in
        subst (λ z. (length (declared u.declarations (plain z)) == 0 || shape_fits (extents_of words u s (plain z)) (sh (plain a))) ≡ true) (sym same)
        (subst (λ z. (length (declared u.declarations (plain e)) == 0 || shape_fits (extents_of words u s (plain e)) (sh (plain z))) ≡ true) same2 h)
    go false n b h ih = ih b

-- a dummy has as many cells as its actual
pub fit_size : (u : Procedure) (s : Store ℤ) (x : Var) (sh : Shape) → (declared u.declarations x ≡ [] → size_of sh ≡ 1) → (length (declared u.declarations x) == 0 || shape_fits (extents_of words u s x) sh) ≡ true → size_of sh ≡ size_of (shape_of (extents_of words u s x))
fit_size u s x sh rank h = go (length (declared u.declarations x) == 0) refl h
  where
    go : (b : Bool) → (length (declared u.declarations x) == 0) ≡ b → (b || shape_fits (extents_of words u s x) sh) ≡ true → size_of sh ≡ size_of (shape_of (extents_of words u s x))
    go true e h =
        let none : declared u.declarations x ≡ [] = none_declared (declared u.declarations x) e in
        rank none ∙ sym (ap (λ l. size_of (shape_of (map (extent_in words s) l))) none)
    go false e h =
        let p = and_true (are_extents (extents_of words u s x)) _ h in
        let q = and_true (int_le (elements (extents_of words u s x)) (pos 1048576)) _ p.1 in
        let r = and_true ((shape_of (extents_of words u s x)).rows == sh.rows) ((shape_of (extents_of words u s x)).cols == sh.cols) q.1 in
        let rows : (shape_of (extents_of words u s x)).rows ≡ sh.rows = nat_same _ _ r.0 in
        let cols : (shape_of (extents_of words u s x)).cols ≡ sh.cols = nat_same _ _ r.1 in
        sym (λ i. size_of (record { rows = rows i; cols = cols i }))
