-- Rows of units, by their numbers and by their names.
use Rattle.std.proofs.Common.{◌≡◌, ℕ, suc, ◌+◌, nat_lt, Bool, true, false, List, [], ◌∷◌, ◌++◌, length, map, get_or, Bor, refl, sym, ap, ◌∙◌, Option, Some, None, if◌then◌else◌, append_assoc, arith}
use Rattle.std.specs.Prelude.{unwrap_or, is_some}
use Rattle.std.proofs.lemmas.Option.{slice_get_past, slice_get_read}
use Rattle.std.proofs.lemmas.Bool.Decides.{nat_tests}
use Rattle.std.proofs.lemmas.List.{append-nil}
use Rattle.adj_tree.specs.Code.{name_eq, Procedure}
use Rattle.def_meaning.specs.LeastSet.{row_of}
use Rattle.def_meaning.specs.Written.{find_unit}
use Rattle.def_names.specs.HeadFaults.{unit_number}
use Rattle.def_names.specs.Variables.{Name}
use Rattle.adj_symbols.specs.Writes.{row_at}
use Rattle.adj_symbols_writes.proofs.Rows.{name_comm}
use Rattle.adj_symbols.proofs.Scopes.{number_has}
use Rattle.adj_symbols_writes.specs.Graph.{number_from}
use Rattle.adj_symbols_writes.proofs.Numbers.{place_above}

-- behind the last row there are none
past : (rows : List (List Bool)) (us : List Procedure) (x : Name) → row_at rows (number_from (length rows) us x) ≡ []
past rows us x = go (number_from (length rows) us x) refl
  where
    go : (r : Option ℕ) → number_from (length rows) us x ≡ r → row_at rows r ≡ []
    go None h = refl
    go (Some n) h = ap (λ o. unwrap_or o []) (slice_get_past rows n (place_above (length rows) (map (λ u. u.name) us) x n h))

row_behind : (before : List (List Bool)) (r : List Bool) (rows : List (List Bool)) → row_at (before ++ (r ∷ rows)) (Some (length before)) ≡ r
row_behind [] r rows = refl
row_behind (b ∷ before) r rows = row_behind before r rows

longer : {X : Type 0} (xs : List X) (y : X) → length (xs ++ y ∷ []) ≡ suc (length xs)
longer [] y = refl
longer (x ∷ xs) y = ap suc (longer xs y)

rows_from : (before : List (List Bool)) (us : List Procedure) (rows : List (List Bool)) (x : Name) → row_at (before ++ rows) (number_from (length before) us x) ≡ row_of us rows x
rows_from before [] rows x = refl
rows_from before (u ∷ us) [] x = ap (λ z. row_at z (number_from (length before) (u ∷ us) x)) (append-nil before) ∙ past before (u ∷ us) x
rows_from before (u ∷ us) (r ∷ rows) x =
    ap (λ b. row_at (before ++ (r ∷ rows)) (if b then Some (length before) else number_from (suc (length before)) us x)) (name_comm x u.name)
    ∙ go (name_eq u.name x)
    (ap (λ z. row_at z (number_from (suc (length before)) us x)) (sym (append_assoc before (r ∷ []) rows))
    ∙ ap (λ n. row_at ((before ++ r ∷ []) ++ rows) (number_from n us x)) (sym (longer before r))
    ∙ rows_from (before ++ r ∷ []) us rows x)
  where
    go : (b : Bool) → row_at (before ++ (r ∷ rows)) (number_from (suc (length before)) us x) ≡ row_of us rows x → row_at (before ++ (r ∷ rows)) (if b then Some (length before) else number_from (suc (length before)) us x) ≡ (if b then r else row_of us rows x)
    go true ih = row_behind before r rows
    go false ih = ih

-- the row of the number of a name is that of the unit of that name
pub row_found : (us : List Procedure) (rows : List (List Bool)) (x : Name) → row_at rows (number_from 0 us x) ≡ row_of us rows x
row_found us rows x = rows_from [] us rows x

-- what a look by number gives
pub row_read : (rows : List (List Bool)) (n : ℕ) (b : Bor (List Bool)) → true ≡ nat_lt n (length rows) → b.now ≡ get_or rows n b.now → b.now ≡ row_at rows (Some n)
row_read rows n b e h = sym (ap (λ o. unwrap_or o []) (slice_get_read rows (length rows) n b.now refl (grind (arith, nat_tests)) h))

pub row_missing : (rows : List (List Bool)) (n : ℕ) → false ≡ nat_lt n (length rows) → [] ≡ row_at rows (Some n)
row_missing rows n e = sym (ap (λ o. unwrap_or o []) (slice_get_past rows n (grind (arith, nat_tests))))

-- the number of the first unit of a name
numbered : (k : ℕ) (us : List Procedure) (x : Name) (n : ℕ) → number_from k us x ≡ Some n → k + unit_number us x ≡ n
numbered k [] x n h = absurd cc
numbered k (u ∷ us) x n h = go (name_eq u.name x) (numbered (suc k) us x n) (sym (ap (λ b. if b then Some k else number_from (suc k) us x) (name_comm x u.name)) ∙ h)
  where
    go : (b : Bool) → (number_from (suc k) us x ≡ Some n → suc k + unit_number us x ≡ n) → (if b then Some k else number_from (suc k) us x) ≡ Some n → k + (if b then 0 else suc (unit_number us x)) ≡ n
    go true later e = let same : k ≡ n = cc in omega arith
    go false later e = let above = later e in omega arith

pub unit_numbered : (us : List Procedure) (x : Name) (n : ℕ) → number_from 0 us x ≡ Some n → n ≡ unit_number us x
unit_numbered us x n h = let e = numbered 0 us x n h in omega arith

-- where there is one
pub number_or : (us : List Procedure) (x : Name) (u : Procedure) → find_unit us x ≡ Some u → unwrap_or (number_from 0 us x) 0 ≡ unit_number us x
number_or us x u h = go (number_from 0 us x) refl
  where
    go : (r : Option ℕ) → number_from 0 us x ≡ r → unwrap_or r 0 ≡ unit_number us x
    go None e = absurd (let p : false ≡ true = ap is_some (sym e) ∙ number_has 0 us x ∙ ap is_some h in cc)
    go (Some n) e = unit_numbered us x n e
