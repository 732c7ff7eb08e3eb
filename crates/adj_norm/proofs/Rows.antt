-- Rows of flags, by the names of units.
use Rattle.std.proofs.Common.{◌≡◌, ℕ, suc, ◌+◌, Bool, true, false, nat_lt, List, [], ◌∷◌, ◌++◌, length, map, Option, Some, None, refl, sym, ap, ◌∙◌, arith, if◌then◌else◌}
use Rattle.std.specs.Prelude.{◌||◌, not, position}
use Rattle.std.specs.List.{prefix_len}
use Rattle.std.proofs.lemmas.List.{map_push}
use Rattle.adj_tree.specs.Code.{name_eq, Procedure}
use Rattle.def_meaning.specs.LeastSet.{row_of}
use Rattle.def_meaning.specs.Apart.{has_name}
use Rattle.def_names.proofs.Variables.{or_false, has_apart}
use Rattle.def_meaning.proofs.Variables.{name_comm}
use Rattle.def_kernel.specs.Kernel.{unit_name}
use Rattle.adj_norm_statement.specs.Handed.{flags_of, flags_at}
use Rattle.adj_norm.specs.Rows.{at_name}
use Rattle.adj_sets.proofs.NameSets.{has-behind}
use Rattle.std.proofs.lemmas.Bool.{ltb-true, ltb-false, lt-ltb, le-ltb}
use Rattle.adj_norm.proofs.Sources.{name_turned}

-- ---- look-ups

nothing_at : (o : Option ℕ) → flags_at [] o ≡ []
nothing_at None = refl
nothing_at (Some i) = refl

lt_step : (n m : ℕ) → nat_lt (suc n) (suc m) ≡ nat_lt n m
lt_step n m = go (nat_lt n m) refl
  where
    go : (b : Bool) → nat_lt n m ≡ b → nat_lt (suc n) (suc m) ≡ b
    go true e = let l = ltb-true n m e in lt-ltb (suc n) (suc m) (omega (arith, l))
    go false e = let l = ltb-false n m e in le-ltb (suc n) (suc m) (omega (arith, l))

lt_first : (m : ℕ) → nat_lt 0 (suc m) ≡ true
lt_first m = lt-ltb 0 (suc m) (omega arith)

-- the row at the place of a name is the row of the name
pub row_found : (x : List ℕ) (names : List (List ℕ)) (rows : List (List Bool)) → flags_at rows (position (name_eq x) names) ≡ at_name names rows x
row_found x [] rows = refl
row_found x (y ∷ ys) [] = nothing_at (position (name_eq x) (y ∷ ys))
row_found x (y ∷ ys) (ws ∷ rows) = go (name_eq x y) (row_found x ys rows)
  where
    n : ℕ
    n = prefix_len (λ z. not (name_eq x z)) ys

    one_more : 1 + n ≡ suc n
    one_more = omega arith

    later : (b : Bool) → flags_at (ws ∷ rows) (if b then Some (suc n) else None) ≡ flags_at rows (if b then Some n else None)
    later true = refl
    later false = refl

    go : (b : Bool) → flags_at rows (if nat_lt n (length ys) then Some n else None) ≡ at_name ys rows x → flags_at (ws ∷ rows) (if nat_lt (if not b then 1 + n else 0) (suc (length ys)) then Some (if not b then 1 + n else 0) else None) ≡ (if b then ws else at_name ys rows x)
    go true ih = ap (λ b. flags_at (ws ∷ rows) (if b then Some 0 else None)) (lt_first (length ys))
    go false ih = ap (λ k. flags_at (ws ∷ rows) (if nat_lt k (suc (length ys)) then Some k else None)) one_more ∙ ap (λ b. flags_at (ws ∷ rows) (if b then Some (suc n) else None)) (lt_step n (length ys)) ∙ later (nat_lt n (length ys)) ∙ ih

-- ---- one more row

pub at_more : (names : List (List ℕ)) (rows : List (List Bool)) (y : List ℕ) (ws : List Bool) (x : List ℕ) → length names ≡ length rows → at_name (names ++ y ∷ []) (rows ++ ws ∷ []) x ≡ (if has_name x names then at_name names rows x else (if name_eq x y then ws else []))
at_more [] [] y ws x h = refl
at_more [] (vs ∷ rows) y ws x h = absurd (omega (arith, h))
at_more (z ∷ names) [] y ws x h = absurd (omega (arith, h))
at_more (z ∷ names) (vs ∷ rows) y ws x h = go (name_eq x z) (at_more names rows y ws x (omega (arith, h)))
  where
    go : (b : Bool) → at_name (names ++ y ∷ []) (rows ++ ws ∷ []) x ≡ (if has_name x names then at_name names rows x else (if name_eq x y then ws else [])) → (if b then vs else at_name (names ++ y ∷ []) (rows ++ ws ∷ []) x) ≡ (if b || has_name x names then (if b then vs else at_name names rows x) else (if name_eq x y then ws else []))
    go true ih = refl
    go false ih = ih

at_none : (names : List (List ℕ)) (rows : List (List Bool)) (x : List ℕ) → has_name x names ≡ false → at_name names rows x ≡ []
at_none [] rows x h = refl
at_none (z ∷ names) [] x h = refl
at_none (z ∷ names) (vs ∷ rows) x h =
    let apart = or_false (name_eq x z) (has_name x names) h in
    ap (λ b. if b then vs else at_name names rows x) apart.0 ∙ at_none names rows x apart.1

-- a name that has a row keeps it
pub at_same : (names : List (List ℕ)) (rows : List (List Bool)) (y : List ℕ) (ws : List Bool) (x : List ℕ) → has_name y names ≡ true → at_name names rows x ≡ (if has_name x names then at_name names rows x else (if name_eq x y then ws else []))
at_same names rows y ws x h = go (has_name x names) refl
  where
    go : (b : Bool) → has_name x names ≡ b → at_name names rows x ≡ (if b then at_name names rows x else (if name_eq x y then ws else []))
    go true e = refl
    go false e = at_none names rows x e ∙ sym (ap (λ t. if t then ws else []) (name_comm y x (has_apart y x names h e)))

-- the row of one more unit
no_row : (b c : Bool) → ◌≡◌ {A = List Bool} [] (if b then [] else (if c then [] else []))
no_row true c = refl
no_row false true = refl
no_row false false = refl

pub rows_more : (us : List Procedure) (u : Procedure) (rows : List (List Bool)) (x : List ℕ) → row_of (us ++ u ∷ []) rows x ≡ (if has_name x (map unit_name us) then row_of us rows x else (if name_eq x u.name then flags_of rows (length us) else []))
rows_more [] u [] x = no_row false (name_eq x u.name)
rows_more [] u (ws ∷ rows) x = ap (λ b. if b then ws else []) (name_turned u.name x)
rows_more (v ∷ us) u [] x = no_row (name_eq x v.name || has_name x (map unit_name us)) (name_eq x u.name)
rows_more (v ∷ us) u (ws ∷ rows) x = ap (λ b. if b then ws else row_of (us ++ u ∷ []) rows x) (name_turned v.name x) ∙ go (name_eq x v.name) (rows_more us u rows x) ∙ ap (λ b. if name_eq x v.name || has_name x (map unit_name us) then (if b then ws else row_of us rows x) else (if name_eq x u.name then flags_of rows (length us) else [])) (name_turned x v.name)
  where
    go : (b : Bool) → row_of (us ++ u ∷ []) rows x ≡ (if has_name x (map unit_name us) then row_of us rows x else (if name_eq x u.name then flags_of rows (length us) else [])) → (if b then ws else row_of (us ++ u ∷ []) rows x) ≡ (if b || has_name x (map unit_name us) then (if b then ws else row_of us rows x) else (if name_eq x u.name then flags_of rows (length us) else []))
    go true ih = refl
    go false ih = ih

or_no : (a : Bool) → (a || false) ≡ a
or_no true = refl
or_no false = refl

-- the names of some units and one more
pub names_more : (us : List Procedure) (u : Procedure) (x : List ℕ) → has_name x (map unit_name (us ++ u ∷ [])) ≡ (has_name x (map unit_name us) || name_eq x u.name)
names_more us u x = ap (has_name x) (map_push unit_name us u) ∙ has-behind x (map unit_name us) (u.name ∷ []) ∙ ap (λ b. has_name x (map unit_name us) || b) (or_no (name_eq x u.name))
