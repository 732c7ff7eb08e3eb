-- The names of a lowered unit stand as they should where those of the unit do.
use Rattle.std.proofs.Common.{◌≡◌, ℕ, zero, suc, ◌<◌, ◌⊎◌, inl, inr, true, false, List, [], ◌∷◌, ◌++◌, map, refl, sym, ap, ◌∙◌, arith, subst}
use Rattle.std.proofs.lemmas.Bool.{or_cases}
use Rattle.std.specs.Prelude.{pos, int_lt, ◌&&◌, ◌||◌, ◌==◌, not, length}
use Rattle.std.specs.List.{list_any}
use Rattle.adj_tree.specs.Code.{Var, plain, shadow, helper, name_eq, Term, lit, var, elem, neg, bin, pow, power_of, abs, Terms, none, more, Act, assign, choose, loop, during, call, runtime, Code, stop, step, Extent, fixed, given, Declaration, Procedure}
use Rattle.adj_tree.proofs.Names.{nat_same, name_refl, name_same}
use Rattle.def_meaning.specs.Written.{handed_back}
use Rattle.def_meaning.proofs.Booleans.{or_first, or_second}
use Rattle.def_meaning.proofs.Variables.{var_same}
use Rattle.def_names.specs.Standing.{Standing, scalar, whole, in_actual, in_actuals, in_act}
use Rattle.def_names.specs.Variables.{Name, declared_names, is_integer_name, is_integer, rank, is_dummy}
use Rattle.def_names.specs.NameFaults.{extent_names, literal_product, is_rank_for, is_bad_extent, has_bad_extents}
use Rattle.def_meaning.specs.Apart.{has_name, AreApart}
use Rattle.def_names.specs.Reserved.{reserved}
use Rattle.def_names.proofs.Fresh.{fresh-is_free as fresh_free}
use Rattle.def_names.proofs.NameLists.{has-append}
use Rattle.law_kernel.specs.Apart.{EachCall', EachCall}
use Rattle.def_kernel.specs.Calls.{is_name_of, is_scalar, ArraysStandOnce}
use Rattle.def_kernel.specs.Kernel.{names_of, names_in_code, unit_name, local_names, taken_in, local_in, scalar_at, locals_count, lowered_unit}
use Rattle.law_kernel.specs.Fits.{IsFitCall}
use Rattle.def_kernel.specs.Kernel as kernel
use Rattle.law_kernel.proofs.Faultless.{Each, each_front, each_behind, each_join, each_more, and_none}
use Rattle.law_kernel.proofs.Holding.{HoldsIn, Holds, holds_more}
use Rattle.law_kernel.proofs.Locals.{name_at, earlier_there, not_taken, not_first, not_second, has_second, local_undeclared, scalars_behind}
use Rattle.law_kernel.proofs.Repeated.{Once}
use Rattle.law_kernel.proofs.LoweredNames.{lowered_names}
use Rattle.law_kernel.proofs.SoundUnits.{distinct_join}
use Rattle.law_kernel.proofs.StandingNames.{IsFree, IsGood, Stands, same_declared}

-- names with scalars behind
names_behind : (ds : List Declaration) (line : ℕ) (xs : List Name) → map (λ (d : Declaration). d.name) (ds ++ map (scalar_at line) xs) ≡ map (λ d. d.name) ds ++ xs
names_behind [] line [] = refl
names_behind [] line (x ∷ xs) = ap (λ z. x ∷ z) (names_behind [] line xs)
names_behind (d ∷ ds) line xs = ap (λ z. d.name ∷ z) (names_behind ds line xs)

-- the names of locals are apart
distinct_locals : (taken : List Name) (k : ℕ) → AreApart (local_names taken k)
distinct_locals taken zero = tt
distinct_locals taken (suc k) = distinct_join (local_names taken k) (name_at taken k ∷ []) (distinct_locals taken k) (refl, tt) (λ x h g. clash x h (or_cases (name_eq x (name_at taken k)) false g))
  where
    free : has_name (name_at taken k) (local_names taken k) ≡ false
    free = not_second (name_at taken k) taken (local_names taken k) (fresh_free (kernel.wanted_local k) (taken ++ local_names taken k))

    clash : (x : Name) → has_name x (local_names taken k) ≡ true → (name_eq x (name_at taken k) ≡ true) ⊎ (false ≡ true) → ⊥
    clash x h (inl e) = let z : true ≡ false = sym h ∙ ap (λ y. has_name y (local_names taken k)) (name_same x (name_at taken k) e) ∙ free in cc
    clash x h (inr e) = cc

-- each of them is one of a number
local_number : (taken : List Name) (x : Name) (k : ℕ) → has_name x (local_names taken k) ≡ true → (j : ℕ) × (x ≡ name_at taken j)
local_number taken x zero h = absurd cc
local_number taken x (suc k) h = go (or_cases (has_name x (local_names taken k)) (name_eq x (name_at taken k) || false) (sym (has-append x (local_names taken k) (name_at taken k ∷ [])) ∙ h)) (local_number taken x k)
  where
    go : (has_name x (local_names taken k) ≡ true) ⊎ ((name_eq x (name_at taken k) || false) ≡ true) → (has_name x (local_names taken k) ≡ true → (j : ℕ) × (x ≡ name_at taken j)) → (j : ℕ) × (x ≡ name_at taken j)
    go (inl e) ih = ih e
    go (inr e) ih = last (or_cases (name_eq x (name_at taken k)) false e)
      where
        last : (name_eq x (name_at taken k) ≡ true) ⊎ (false ≡ true) → (j : ℕ) × (x ≡ name_at taken j)
        last (inl f) = (k, name_same x (name_at taken k) f)
        last (inr f) = absurd cc

module _ (all : List Procedure) (v : Procedure) (stands : Stands (map unit_name all) v) where
  -- the lowered unit
  abbrev low : Procedure
  low = lowered_unit all v

  -- the names of the units
  abbrev names : List Name
  names = map unit_name all

  -- the names that its locals don't have
  abbrev taken : List Name
  taken = taken_in all v

  -- ---- what was known stays

  -- a name that is an integer stays one
  integer_still : (x : Name) → is_integer v x ≡ true → is_integer low x ≡ true
  integer_still x h = go (or_cases (has_name x (declared_names v)) (not v.is_none && is_integer_name x) h)
    where
      more_declared : has_name x (declared_names v) ≡ true → has_name x (declared_names low) ≡ true
      more_declared e = ap (has_name x) (names_behind v.declarations v.line (local_names taken (locals_count all v))) ∙ has-append x (declared_names v) (local_names taken (locals_count all v)) ∙ or_first (has_name x (declared_names v)) (has_name x (local_names taken (locals_count all v))) e

      go : (has_name x (declared_names v) ≡ true) ⊎ ((not v.is_none && is_integer_name x) ≡ true) → is_integer low x ≡ true
      go (inl e) = or_first (has_name x (declared_names low)) (not v.is_none && is_integer_name x) (more_declared e)
      go (inr e) = or_second (has_name x (declared_names low)) (not v.is_none && is_integer_name x) e

  -- with its rank
  rank_still : (x : Name) → rank low x ≡ rank v x
  rank_still x = ap length (scalars_behind v.declarations v.line (local_names taken (locals_count all v)) (plain x))

  -- so a name that stands as it should does so still
  good_still : (n : Standing) → IsGood names v n → IsGood names low n
  good_still n h = (integer_still n.name h.0, (ap (is_rank_for n.subscripts) (rank_still n.name) ∙ h.1.0, h.1.1))

  -- ---- locals

  -- a local is declared
  local_declared : (k : ℕ) → k < locals_count all v → is_integer low (name_at taken k) ≡ true
  local_declared k lt =
      or_first (has_name (name_at taken k) (declared_names low)) (not v.is_none && is_integer_name (name_at taken k))
      (ap (has_name (name_at taken k)) (names_behind v.declarations v.line (local_names taken (locals_count all v))) ∙ has_second (name_at taken k) (declared_names v) (local_names taken (locals_count all v)) (earlier_there taken k (locals_count all v) lt))

  -- as a scalar
  local_rank : (k : ℕ) → rank low (name_at taken k) ≡ 0
  local_rank k = rank_still (name_at taken k) ∙ ap length (local_undeclared all v k)

  -- none of the names of the unit, of units and reserved ones
  other_taken : (k : ℕ) → has_name (name_at taken k) (names ++ reserved) ≡ false
  other_taken k = not_second (name_at taken k) (names_of v) (names ++ reserved) (not_taken taken k)

  -- so it is free
  local_free : (k : ℕ) → IsFree names (name_at taken k)
  local_free k = (not_second (name_at taken k) names reserved (other_taken k), not_first (name_at taken k) names reserved (other_taken k))

  -- as names should stand in the lowered unit
  abbrev R : Standing → Type 0
  R = IsGood (map unit_name all) (lowered_unit all v)

  -- a local stands as a scalar
  scalar_local : (k : ℕ) → k < locals_count all v → Each R (scalar (local_in all v k))
  scalar_local k lt = ((local_declared k lt, (ap (λ n. 0 == n) (local_rank k), local_free k)), tt)

  -- and as an actual
  whole_local : (k : ℕ) → k < locals_count all v → Each R (whole (local_in all v k))
  whole_local k lt = ((local_declared k lt, (refl, local_free k)), tt)

  -- ---- names that stand twice in a call are scalars

  -- a scalar that stands as an actual may stand alone
  scalar_of : (x : Var) → is_scalar v.declarations x ≡ true → Each R (whole x) → Each R (scalar x)
  scalar_of (plain x) s h = (((h.0).0, (ap (λ n. 0 == n) (rank_still x ∙ nat_same (rank v x) 0 s), (h.0).1.1)), tt)
  scalar_of (shadow x) s h = tt
  scalar_of (helper r k) s h = tt

  -- a name that is an actual stands as a whole
  whole_actual : (x : Var) (e : Term) → is_name_of x e ≡ true → Each R (in_actual e) → Each R (whole x)
  whole_actual x (lit z) n h = absurd cc
  whole_actual x (var y) n h = subst (λ z. Each R (whole z)) (sym (var_same x y n)) h
  whole_actual x (elem y subs) n h = absurd cc
  whole_actual x (neg a) n h = absurd cc
  whole_actual x (bin op a b) n h = absurd cc
  whole_actual x (pow a k) n h = absurd cc
  whole_actual x (power_of a b) n h = absurd cc
  whole_actual x (abs a) n h = absurd cc

  -- so names that stand twice in a call may
  once_scalars : (args : Terms) → Each R (in_actuals args) → ArraysStandOnce v.declarations args → Once (λ x. Each R (scalar x)) args
  once_scalars none h a = tt
  once_scalars (more e es) h a = ((λ x n s. scalar_of x (a.0 x n s) (whole_actual x e n (each_front R (in_actual e) (in_actuals es) h))), once_scalars es (each_behind R (in_actual e) (in_actuals es) h) a.1)

  mutual
    once_in : (line : ℕ) (a : Act) → Each R (in_act a) → HoldsIn (λ line a. Each R (in_act a)) a → EachCall' (IsFitCall all v) a → EachCall' (λ name args. Once (λ x. Each R (scalar x)) args) a
    once_in line (assign x subs e) n h f = tt
    once_in line (choose c a b) n h f = (once_code a h.0 f.0, once_code b h.1 f.1)
    once_in line (loop x first last by body m) n h f = once_code body h f
    once_in line (during c body) n h f = once_code body h f
    once_in line (call name args) n h f = once_scalars args n f.arrays
    once_in line (runtime r) n h f = absurd f

    -- in each call of a list
    once_code : (c : Code) → Holds (λ line a. Each R (in_act a)) c → EachCall (IsFitCall all v) c → EachCall (λ name args. Once (λ x. Each R (scalar x)) args) c
    once_code stop h f = tt
    once_code (step line a rest) h f = (once_in line a h.0 h.1.0 f.0, once_code rest h.1.1 f.1)

  -- ---- extents

  -- extents are as good as they were
  same_bad : (es : List Extent) → list_any (is_bad_extent low) es ≡ list_any (is_bad_extent v) es
  same_bad [] = refl
  same_bad (fixed z ∷ es) = ap (λ b. int_lt z (pos 1) || b) (same_bad es)
  same_bad (given x ∷ es) = ap (λ n. not (is_dummy v x && (n == 0)) || list_any (is_bad_extent low) es) (rank_still x) ∙ ap (λ b. not (is_dummy v x && (rank v x == 0)) || b) (same_bad es)

  -- those of declared variables
  old_extents : (ds : List Declaration) → Each (λ d. has_bad_extents v d ≡ false) ds → Each (λ d. has_bad_extents low d ≡ false) ds
  old_extents [] h = tt
  old_extents (d ∷ ds) h = (ap (λ b. b || (int_lt (pos 1048576) (literal_product d.extents) || (not (is_dummy v d.name) && not (length (extent_names d.extents) == 0)))) (same_bad d.extents) ∙ h.0, old_extents ds h.1)

  -- and locals have none
  new_extents : (line : ℕ) (xs : List Name) → Each (λ d. has_bad_extents low d ≡ false) (map (scalar_at line) xs)
  new_extents line [] = tt
  new_extents line (x ∷ xs) = (and_none (not (is_dummy v x)), new_extents line xs)

  -- locals are declared by free names
  free_locals : (line : ℕ) (xs : List Name) → ((x : Name) → has_name x xs ≡ true → IsFree names x) → Each (λ (d : Declaration). IsFree names d.name) (map (scalar_at line) xs)
  free_locals line [] h = tt
  free_locals line (x ∷ xs) h = (h x (or_first (name_eq x x) (has_name x xs) (name_refl x)), free_locals line xs (λ y k. h y (or_second (name_eq y x) (has_name y xs) k)))

  -- a local isn't declared by the unit
  not_declared : (k : ℕ) → has_name (name_at taken k) (map (λ (d : Declaration). d.name) v.declarations) ≡ false
  not_declared k =
      ap (has_name (name_at taken k)) (sym (same_declared v.declarations))
      ∙ not_first (name_at taken k) (kernel.declared_names v.declarations) (names_in_code v.body) (not_second (name_at taken k) v.dummies (kernel.declared_names v.declarations ++ names_in_code v.body) (not_first (name_at taken k) (names_of v) (names ++ reserved) (not_taken taken k)))

  -- so the lowered unit stands
  pub lowered_stands : EachCall (IsFitCall all v) v.body → Stands (map unit_name all) (lowered_unit all v)
  lowered_stands f = record {
    dummies = each_more (λ d. (is_integer v d ≡ true) × IsFree names d) (λ d. (is_integer low d ≡ true) × IsFree names d) (λ d h. (integer_still d h.0, h.1)) v.dummies stands.dummies;
    declared = each_join (λ (d : Declaration). IsFree names d.name) v.declarations (map (scalar_at v.line) (local_names taken (locals_count all v))) stands.declared (free_locals v.line (local_names taken (locals_count all v)) (λ x h. let n = local_number taken x (locals_count all v) h in subst (IsFree names) (sym n.1) (local_free n.0)));
    dummies_once = stands.dummies_once;
    declared_once = subst AreApart (sym (names_behind v.declarations v.line (local_names taken (locals_count all v))))
        (distinct_join (map (λ d. d.name) v.declarations) (local_names taken (locals_count all v)) stands.declared_once (distinct_locals taken (locals_count all v))
        (λ x h g. let n = local_number taken x (locals_count all v) g in let z : true ≡ false = sym h ∙ ap (λ y. has_name y (map (λ (d : Declaration). d.name) v.declarations)) n.1 ∙ not_declared n.0 in cc));
    extents = each_join (λ d. has_bad_extents low d ≡ false) v.declarations (map (scalar_at v.line) (local_names taken (locals_count all v))) (old_extents v.declarations stands.extents) (new_extents v.line (local_names taken (locals_count all v)));
    statements = let h = holds_more (λ line a. Each (IsGood names v) (in_act a)) (λ line a. Each R (in_act a)) (λ line a k. each_more (IsGood names v) R good_still (in_act a) k) v.body stands.statements in lowered_names (local_in all v) (locals_count all v) R scalar_local whole_local (handed_back all) v.body (omega arith) h (once_code v.body h f);
  }
