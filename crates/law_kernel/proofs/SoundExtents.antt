-- The extents of a unit without faults: scalar dummies that it doesn't write, and literals that fit.
use Rattle.std.proofs.Common.{◌≡◌, ℕ, zero, suc, Bool, true, false, List, [], ◌∷◌, map, ◌⊎◌, inl, inr, refl, sym, ap, ◌∙◌, arith, if◌then◌else◌}
use Rattle.std.proofs.lemmas.Bool.{or_cases}
use Rattle.std.proofs.lemmas.Bool.Decides.{nat_tests}
use Rattle.std.specs.Prelude.{ℤ, pos, negsuc, ◌*ℤ◌, int_lt, int_le, not, ◌&&◌, ◌||◌, ◌==◌, length}
use Rattle.std.specs.List.{list_any}
use Rattle.adj_tree.specs.Code.{Var, plain, name_eq, var_eq, Act, assign, choose, loop, during, call, runtime, Code, stop, step, Extent, fixed, given, Declaration, Procedure}
use Rattle.adj_tree.proofs.Names.{name_same, nat_same, nat_refl}
use Rattle.def_meaning.specs.Numbers.{Numbers}
use Rattle.def_meaning.specs.Store.{Store}
use Rattle.def_meaning.specs.LeastSet.{Dummies}
use Rattle.def_meaning.specs.Written.{act_writes, writes}
use Rattle.def_meaning.specs.Read.{names_extent, is_extent}
use Rattle.def_meaning.specs.Units.{declared, extent_in, shape_of, are_extents, elements, shape_fits}
use Rattle.def_meaning.proofs.Booleans.{and_true, or_false, or_first, or_second}
use Rattle.def_names.specs.Statements.{At, inner, statements}
use Rattle.def_names.specs.Variables.{is_dummy, is_scalar}
use Rattle.def_names.specs.NameFaults.{extent_names, literal_product, is_bad_extent, has_bad_extents}
use Rattle.def_names.specs.WriteFaults.{may_write}
use Rattle.law_kernel.proofs.Faultless.{Each, each_front, each_behind, each_join, isn't_not, both_false}

-- ---- names of extents

module _ (u : Procedure) where
  -- a name among extents that aren't bad is a scalar dummy
  of_extents : (x : List ℕ) (es : List Extent) → list_any (is_bad_extent u) es ≡ false → names_extent x es ≡ true → (is_dummy u x ≡ true) × (is_scalar u x ≡ true)
  of_extents x [] h k = absurd cc
  of_extents x (fixed z ∷ es) h k = of_extents x es (or_false (is_bad_extent u (fixed z)) (list_any (is_bad_extent u) es) h).1 k
  of_extents x (given y ∷ es) h k = let p = or_false (is_bad_extent u (given y)) (list_any (is_bad_extent u) es) h in go p.0 (of_extents x es p.1) (or_cases (name_eq x y) (names_extent x es) k)
    where
      go : not (is_dummy u y && is_scalar u y) ≡ false → (names_extent x es ≡ true → (is_dummy u x ≡ true) × (is_scalar u x ≡ true)) → (name_eq x y ≡ true) ⊎ (names_extent x es ≡ true) → (is_dummy u x ≡ true) × (is_scalar u x ≡ true)
      go p q (inl e) =
          let r = and_true (is_dummy u y) (is_scalar u y) (isn't_not (is_dummy u y && is_scalar u y) p) in
          (ap (is_dummy u) (name_same x y e) ∙ r.0, ap (is_scalar u) (name_same x y e) ∙ r.1)
      go p q (inr e) = q e

  -- and so is one among the extents that are declared for a variable
  pub of_declared : (x : List ℕ) (ds : List Declaration) (v : Var) → Each (λ d. has_bad_extents u d ≡ false) ds → names_extent x (declared ds v) ≡ true → (is_dummy u x ≡ true) × (is_scalar u x ≡ true)
  of_declared x [] v h k = absurd cc
  of_declared x (d ∷ ds) v h k = go (var_eq v (plain d.name)) (of_declared x ds v h.1) k
    where
      go : (b : Bool) → (names_extent x (declared ds v) ≡ true → (is_dummy u x ≡ true) × (is_scalar u x ≡ true)) → names_extent x (if b then d.extents else declared ds v) ≡ true → (is_dummy u x ≡ true) × (is_scalar u x ≡ true)
      go true ih k = of_extents x d.extents (or_false (list_any (is_bad_extent u) d.extents) _ h.0).0 k
      go false ih k = ih k

-- what has no length is empty
pub no_extents : (l : List Extent) → (length l == 0) ≡ true → l ≡ []
no_extents [] h = refl
no_extents (e ∷ l) h = absurd (let x = nat_same (length (e ∷ l)) 0 h in omega arith)

-- a name of an extent is an extent of the unit
pub extent_of_unit : (x : List ℕ) (ds : List Declaration) (v : Var) → names_extent x (declared ds v) ≡ true → is_extent x ds ≡ true
extent_of_unit x [] v h = absurd cc
extent_of_unit x (d ∷ ds) v h = go (var_eq v (plain d.name)) (extent_of_unit x ds v) h
  where
    go : (b : Bool) → (names_extent x (declared ds v) ≡ true → is_extent x ds ≡ true) → names_extent x (if b then d.extents else declared ds v) ≡ true → (names_extent x d.extents || is_extent x ds) ≡ true
    go true ih k = or_first (names_extent x d.extents) (is_extent x ds) k
    go false ih k = or_second (names_extent x d.extents) (is_extent x ds) (ih k)

-- ---- writing

module _ (handed : Dummies) (x : Var) where
  mutual
    -- what no statement may write is not written
    act_unwritten : (line : ℕ) (a : Act) → may_write handed x a ≡ false → Each (λ (s : At Act). may_write handed x s.1 ≡ false) (inner a) → act_writes handed x a ≡ false
    act_unwritten line (assign y subs e) h g = h
    act_unwritten line (choose c a b) h g = both_false (writes handed x a) (writes handed x b) (unwritten a (each_front (λ (s : At Act). may_write handed x s.1 ≡ false) (statements a) (statements b) g)) (unwritten b (each_behind (λ (s : At Act). may_write handed x s.1 ≡ false) (statements a) (statements b) g))
    act_unwritten line (loop y first last by body m) h g = both_false (var_eq x y) (writes handed x body) h (unwritten body g)
    act_unwritten line (during c body) h g = unwritten body g
    act_unwritten line (call name args) h g = h
    act_unwritten line (runtime r) h g = h

    -- in a list
    pub unwritten : (c : Code) → Each (λ (s : At Act). may_write handed x s.1 ≡ false) (statements c) → writes handed x c ≡ false
    unwritten stop h = refl
    unwritten (step line a rest) h =
        both_false (act_writes handed x a) (writes handed x rest) (act_unwritten line a h.0 (each_front (λ (s : At Act). may_write handed x s.1 ≡ false) (inner a) (statements rest) h.1))
        (unwritten rest (each_behind (λ (s : At Act). may_write handed x s.1 ≡ false) (inner a) (statements rest) h.1))

  mutual
    -- and the other way
    act_spared : (line : ℕ) (a : Act) → act_writes handed x a ≡ false → (may_write handed x a ≡ false) × Each (λ (s : At Act). may_write handed x s.1 ≡ false) (inner a)
    act_spared line (assign y subs e) h = (h, tt)
    act_spared line (choose c a b) h = let p = or_false (writes handed x a) (writes handed x b) h in (refl, each_join (λ (s : At Act). may_write handed x s.1 ≡ false) (statements a) (statements b) (spared a p.0) (spared b p.1))
    act_spared line (loop y first last by body m) h = let p = or_false (var_eq x y) (writes handed x body) h in (p.0, spared body p.1)
    act_spared line (during c body) h = (refl, spared body h)
    act_spared line (call name args) h = (h, tt)
    act_spared line (runtime r) h = (h, tt)

    -- in a list
    pub spared : (c : Code) → writes handed x c ≡ false → Each (λ (s : At Act). may_write handed x s.1 ≡ false) (statements c)
    spared stop h = tt
    spared (step line a rest) h =
        let p = or_false (act_writes handed x a) (writes handed x rest) h in
        let q = act_spared line a p.0 in
        (q.0, each_join (λ (s : At Act). may_write handed x s.1 ≡ false) (inner a) (statements rest) q.1 (spared rest p.1))

-- ---- literals

module _ {C : Type 0} (n : Numbers C) (s : Store C) (u : Procedure) where
  -- extents without names are what they are
  literal_elements : (es : List Extent) → (length (extent_names es) == 0) ≡ true → elements (map (extent_in n s) es) ≡ literal_product es
  literal_elements [] h = refl
  literal_elements (fixed z ∷ es) h = ap (λ y. z *ℤ y) (literal_elements es h)
  literal_elements (given x ∷ es) h = absurd (let y = nat_same (length (x ∷ extent_names es)) 0 h in omega arith)

  -- what isn't below 1 is at least 1
  at_least_one : (z : ℤ) → int_lt z (pos 1) ≡ false → int_le (pos 1) z ≡ true
  at_least_one (pos zero) h = absurd cc
  at_least_one (pos (suc m)) h = grind (arith, nat_tests)
  at_least_one (negsuc m) h = absurd cc

  -- so each is at least 1
  literal_extents : (es : List Extent) → (length (extent_names es) == 0) ≡ true → list_any (is_bad_extent u) es ≡ false → are_extents (map (extent_in n s) es) ≡ true
  literal_extents [] h b = refl
  literal_extents (fixed z ∷ es) h b = let p = or_false (is_bad_extent u (fixed z)) (list_any (is_bad_extent u) es) b in ap (λ y. y && are_extents (map (extent_in n s) es)) (at_least_one z p.0) ∙ literal_extents es h p.1
  literal_extents (given x ∷ es) h b = absurd (let y = nat_same (length (x ∷ extent_names es)) 0 h in omega arith)

  -- what isn't above the limit is at most it
  at_most_limit : (z : ℤ) → int_lt (pos 1048576) z ≡ false → int_le z (pos 1048576) ≡ true
  at_most_limit (pos m) h = grind (arith, nat_tests)
  at_most_limit (negsuc m) h = refl

  -- so an array that isn't a dummy fits
  literals_fit : (d : Declaration) → is_dummy u d.name ≡ false → has_bad_extents u d ≡ false → shape_fits (map (extent_in n s) d.extents) (shape_of (map (extent_in n s) d.extents)) ≡ true
  literals_fit d k h =
      let p = or_false (list_any (is_bad_extent u) d.extents) (int_lt (pos 1048576) (literal_product d.extents) || (not (is_dummy u d.name) && not (length (extent_names d.extents) == 0))) h in
      let q = or_false (int_lt (pos 1048576) (literal_product d.extents)) (not (is_dummy u d.name) && not (length (extent_names d.extents) == 0)) p.1 in
      let none = isn't_not (length (extent_names d.extents) == 0) (ap (λ b. not b && not (length (extent_names d.extents) == 0)) (sym k) ∙ q.1) in
      let zs = map (extent_in n s) d.extents in
      ap (λ b. b && (int_le (elements zs) (pos 1048576) && (((shape_of zs).rows == (shape_of zs).rows) && ((shape_of zs).cols == (shape_of zs).cols)))) (literal_extents d.extents none p.0)
      ∙ ap (λ b. b && (((shape_of zs).rows == (shape_of zs).rows) && ((shape_of zs).cols == (shape_of zs).cols))) (ap (λ z. int_le z (pos 1048576)) (literal_elements d.extents none) ∙ at_most_limit (literal_product d.extents) q.0)
      ∙ ap (λ b. b && ((shape_of zs).cols == (shape_of zs).cols)) (nat_refl (shape_of zs).rows)
      ∙ nat_refl (shape_of zs).cols

  -- it is declared nowhere, or by a declaration of its name
  pub declared_fit : (ds : List Declaration) (x : List ℕ) → is_dummy u x ≡ false → Each (λ d. has_bad_extents u d ≡ false) ds →
      (length (declared ds (plain x)) == 0 || shape_fits (map (extent_in n s) (declared ds (plain x))) (shape_of (map (extent_in n s) (declared ds (plain x))))) ≡ true
  declared_fit [] x k h = refl
  declared_fit (d ∷ ds) x k h = go (name_eq x d.name) refl (declared_fit ds x k h.1)
    where
      Fits : List Extent → Type 0
      Fits es = (length es == 0 || shape_fits (map (extent_in n s) es) (shape_of (map (extent_in n s) es))) ≡ true

      go : (b : Bool) → name_eq x d.name ≡ b → Fits (declared ds (plain x)) → (length (if b then d.extents else declared ds (plain x)) == 0 || shape_fits (map (extent_in n s) (if b then d.extents else declared ds (plain x))) (shape_of (map (extent_in n s) (if b then d.extents else declared ds (plain x))))) ≡ true
      go true e ih = or_second (length d.extents == 0) (shape_fits (map (extent_in n s) d.extents) (shape_of (map (extent_in n s) d.extents))) (literals_fit d (ap (is_dummy u) (sym (name_same x d.name e)) ∙ k) h.0)
      go false e ih = ih
