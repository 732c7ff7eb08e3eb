-- Numbers of names, looked up among slices.
use Rattle.std.proofs.Common.{◌≡◌, ℕ, Bool, true, false, List, [], ◌∷◌, ◌++◌, map, cond, Bor, Option, Some, None, refl, sym, ap, ◌∙◌, if◌then◌else◌}
use Rattle.std.specs.Prelude.{is_some}
use Rattle.std.specs.Map.{lookup}
use Rattle.std.specs.Str.{bytes_eq}
use Rattle.indexmap.specs.IndexMap.{insert_entry}
use Rattle.adj_tree.specs.Code.{name_eq}
use Rattle.adj_tree.proofs.Names.{name_eq-bytes}
use Rattle.def_names.specs.Variables.{Name}
use Rattle.adj_symbols_writes.specs.Table.{value_of, with_value}

-- both tests of names are one
bytes_name : (x y : List ℕ) → bytes_eq x y ≡ name_eq x y
bytes_name x y = sym (name_eq-bytes x y)

abbrev pub numbers_of : List (Bor (List ℕ) × ℕ) → List (Name × ℕ)
numbers_of es = map (λ e. (e.0.now, e.1)) es

-- a look-up of a name
pub value_found : (x : Name) (es : List (Bor (List ℕ) × ℕ)) → lookup (λ k. bytes_eq x k.now) es ≡ value_of x (numbers_of es)
value_found x [] = refl
value_found x (e ∷ es) = λ i. cond (bytes_name x e.0.now i) (Some e.1) (value_found x es i)

-- a name that has no number gets one behind the others
insert_behind : (k : Bor (List ℕ)) (n : ℕ) (es : List (Bor (List ℕ) × ℕ)) → value_of k.now (numbers_of es) ≡ None → numbers_of (insert_entry (λ a b. bytes_eq a.now b.now) es k n) ≡ numbers_of es ++ (k.now, n) ∷ []
insert_behind k n [] h = refl
insert_behind k n (e ∷ es) h = go (insert_behind k n es) (name_eq k.now e.0.now) (bytes_name k.now e.0.now) h
  where
    go : (value_of k.now (numbers_of es) ≡ None → numbers_of (insert_entry (λ a b. bytes_eq a.now b.now) es k n) ≡ numbers_of es ++ (k.now, n) ∷ []) → (b : Bool) → bytes_eq k.now e.0.now ≡ b → (if b then Some e.1 else value_of k.now (numbers_of es)) ≡ None → numbers_of (if bytes_eq k.now e.0.now then (e.0, n) ∷ es else e ∷ insert_entry (λ a b. bytes_eq a.now b.now) es k n) ≡ (e.0.now, e.1) ∷ (numbers_of es ++ (k.now, n) ∷ [])
    go ih true p h = absurd cc
    go ih false p h = rw p (ap (λ z. (e.0.now, e.1) ∷ z) (ih h))

pub added_value : (k : Bor (List ℕ)) (n : ℕ) (es : List (Bor (List ℕ) × ℕ)) (x : Name) (found : Option ℕ) → k.now ≡ x → found ≡ value_of x (numbers_of es) → is_some found ≡ false → numbers_of (insert_entry (λ a b. bytes_eq a.now b.now) es k n) ≡ with_value (numbers_of es) x n
added_value k n es x None p f h =
    insert_behind k n es (ap (λ y. value_of y (numbers_of es)) p ∙ sym f)
    ∙ ap (λ y. numbers_of es ++ (y, n) ∷ []) p
    ∙ ap (λ r. if is_some r then numbers_of es else numbers_of es ++ (x, n) ∷ []) f
added_value k n es x (Some m) p f h = absurd cc
