-- How many words a snapshot takes, by the shapes of dummies as by those of actuals.
use Rattle.std.proofs.Common.{◌≡◌, ℕ, ◌+◌, Bool, true, false, List, [], ◌∷◌, map, refl, sym, ◌∙◌, arith, if◌then◌else◌}
use Rattle.std.specs.Prelude.{◌&&◌, ◌||◌}
use Rattle.adj_tree.specs.Code.{Var, plain, shadow, name_eq}
use Rattle.adj_tree.proofs.Names.{name_refl}
use Rattle.def_meaning.specs.Store.{Shape, size_of}
use Rattle.def_meaning.specs.Value.{Setting}
use Rattle.def_names.specs.Numbers.{Vars, everything}
use Rattle.def_meaning.specs.Apart.{has_name, AreApart}
use Rattle.def_names.proofs.Variables.{has_apart}
use Rattle.law_sweep.specs.Emitted.{AreNamed}
use Rattle.law_sweep.specs.Kernel.{AsMany}
use Rattle.def_sweep.specs.Bindings.{Bindings, bindings}
use Rattle.def_sweep.specs.Plan.{Callee, IsActual, group}
use Rattle.def_sweep.specs.Reversals.{words_taken}
use Rattle.def_sweep.specs.StepUnits.{taken_in, taken_behind}
use Rattle.law_sweep.specs.Steps.{words_of}
use Rattle.law_sweep.proofs.Passing.{beside_key}

module _ (sh inner : Var → Shape) (g : Callee) (read : Vars) where
  abbrev takes : Vars
  takes v = g.written v && (g.members v || read v)

  abbrev SizesAre : List (List ℕ) → List (List ℕ) → Type 0
  SizesAre ds given = (d a : List ℕ) → IsActual ds given d a → size_of (sh (plain a)) ≡ size_of (inner (plain d))

  -- the others are those of the rest
  sizes_rest : (d a : List ℕ) (ds given : List (List ℕ)) → has_name d ds ≡ false → SizesAre (d ∷ ds) (a ∷ given) → SizesAre ds given
  sizes_rest d a ds given new h e b k =
      let other : name_eq e d ≡ false = has_apart e d ds (beside_key ds given e b k) new in
      h e b (rw other k)

  size_first : (d a : List ℕ) (ds given : List (List ℕ)) → SizesAre (d ∷ ds) (a ∷ given) → size_of (sh (plain a)) ≡ size_of (inner (plain d))
  size_first d a ds given h = h d a (rw (name_refl d) refl)

  -- of a call of the step unit
  pub taken_words : (ds given : List (List ℕ)) → AreApart ds → AsMany ds given → SizesAre ds given → words_taken (taken_in g read ds) (map (λ d. inner (plain d)) ds) ≡ words_of sh (group takes everything ds given)
  taken_words [] [] p many h = refl
  taken_words [] (a ∷ given) p many h = absurd many
  taken_words (d ∷ ds) [] p many h = absurd many
  taken_words (d ∷ ds) (a ∷ given) p many h = go (takes (plain d)) (size_first d a ds given h) (taken_words ds given p.1 many (sizes_rest d a ds given p.0 h))
    where
      go : (b : Bool) → size_of (sh (plain a)) ≡ size_of (inner (plain d)) → words_taken (taken_in g read ds) (map (λ d. inner (plain d)) ds) ≡ words_of sh (group takes everything ds given) →
          (if b then size_of (inner (plain d)) else 0) + words_taken (taken_in g read ds) (map (λ d. inner (plain d)) ds) ≡ words_of sh (if b && true then a ∷ group takes everything ds given else group takes everything ds given)
      go true e ih = λ i. sym e i + ih i
      go false e ih = omega (arith, ih)

  -- of a call of its adjoint
  pub taken_words_back : (ds given : List (List ℕ)) → AreApart ds → AsMany ds given → SizesAre ds given → words_taken (taken_behind g read ds) (map (λ (b : Var × Var). inner b.0) (bindings g.shadowed ds given)) ≡ words_of sh (group takes everything ds given)
  taken_words_back [] [] p many h = refl
  taken_words_back [] (a ∷ given) p many h = absurd many
  taken_words_back (d ∷ ds) [] p many h = absurd many
  taken_words_back (d ∷ ds) (a ∷ given) p many h = shadowed (g.shadowed (plain d)) (size_first d a ds given h) (taken_words_back ds given p.1 many (sizes_rest d a ds given p.0 h))
    where
      go : (b : Bool) (n : ℕ) → size_of (sh (plain a)) ≡ size_of (inner (plain d)) → n ≡ words_of sh (group takes everything ds given) →
          (if b then size_of (inner (plain d)) else 0) + n ≡ words_of sh (if b && true then a ∷ group takes everything ds given else group takes everything ds given)
      go true n e ih = λ i. sym e i + ih i
      go false n e ih = omega (arith, ih)

      shadowed : (b : Bool) → size_of (sh (plain a)) ≡ size_of (inner (plain d)) → words_taken (taken_behind g read ds) (map (λ (b : Var × Var). inner b.0) (bindings g.shadowed ds given)) ≡ words_of sh (group takes everything ds given) →
          words_taken (if b then takes (plain d) ∷ false ∷ taken_behind g read ds else takes (plain d) ∷ taken_behind g read ds)
          (map (λ (b : Var × Var). inner b.0) (if b then (plain d, plain a) ∷ (shadow d, shadow a) ∷ bindings g.shadowed ds given else (plain d, plain a) ∷ bindings g.shadowed ds given))
          ≡ words_of sh (if takes (plain d) && true then a ∷ group takes everything ds given else group takes everything ds given)
      shadowed true e ih = go (takes (plain d)) (0 + words_taken (taken_behind g read ds) (map (λ (b : Var × Var). inner b.0) (bindings g.shadowed ds given))) e (let z : 0 + words_taken (taken_behind g read ds) (map (λ (b : Var × Var). inner b.0) (bindings g.shadowed ds given)) ≡ words_taken (taken_behind g read ds) (map (λ (b : Var × Var). inner b.0) (bindings g.shadowed ds given)) = omega arith in z ∙ ih)
      shadowed false e ih = go (takes (plain d)) (words_taken (taken_behind g read ds) (map (λ (b : Var × Var). inner b.0) (bindings g.shadowed ds given))) e ih

-- the shapes of dummies that are what a renaming makes of bound variables
pub named_shapes : {C : Type 0} (n : Setting C) (r : Var → Var) (ds : List (List ℕ)) (bs : Bindings) → AreNamed r ds bs → map (λ d. n.shape (plain d)) ds ≡ map (λ (b : Var × Var). n.shape (r b.0)) bs
named_shapes n r [] [] h = refl
named_shapes n r [] (b ∷ bs) h = absurd h
named_shapes n r (d ∷ ds) [] h = absurd h
named_shapes n r (d ∷ ds) (b ∷ bs) h = λ i. n.shape (sym h.0 i) ∷ named_shapes n r ds bs h.1 i
