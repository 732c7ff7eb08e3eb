-- Nodes, their units, and what is said of them.
use Rattle.std.proofs.Common.{◌≡◌, ℕ, suc, ◌+◌, ◌<◌, ◌≤◌, Bool, true, false, List, [], ◌∷◌, ◌++◌, length, map, refl, sym, ap, ap₂, ◌∙◌, subst, Option, Some, None, if◌then◌else◌, append_assoc, length-append, arith}
use Rattle.std.specs.Prelude.{◌||◌}
use Rattle.std.specs.List.{slice_get}
use Rattle.adj_tree.specs.Code.{name_eq, Procedure}
use Rattle.adj_tree.proofs.Names.{name_same, name_refl}
use Rattle.def_meaning.specs.LeastSet.{row_of, dummies_in_all}
use Rattle.def_meaning.specs.Apart.{has_name}
use Rattle.def_names.specs.Variables.{Name}
use Rattle.adj_reach.specs.Edges.{flag}
use Rattle.adj_symbols_writes.specs.Graph.{Unit', numbered, number_from, place_from, found_at, bits, row}

-- two names are compared in either order
pub name_comm : (x y : Name) → name_eq x y ≡ name_eq y x
name_comm x y = go (name_eq x y) (name_eq y x) refl refl
  where
    go : (a b : Bool) → name_eq x y ≡ a → name_eq y x ≡ b → a ≡ b
    go true true e d = refl
    go false false e d = refl
    go true false e d = let p : name_eq y x ≡ true = ap (λ z. name_eq y z) (name_same x y e) ∙ name_refl y in sym p ∙ d
    go false true e d = let p : name_eq x y ≡ true = ap (λ z. name_eq x z) (name_same y x d) ∙ name_refl x in sym e ∙ p

-- ---- places

-- the node of a name is among those of the dummies
pub place_within : (k : ℕ) (ds : List Name) (x : Name) (n : ℕ) → place_from k ds x ≡ Some n → n < k + length ds
place_within k [] x n e = absurd cc
place_within k (d ∷ ds) x n e = go (name_eq x d) (place_within (suc k) ds x n) e
  where
    go : (t : Bool) → (place_from (suc k) ds x ≡ Some n → n < suc k + length ds) → (if t then Some k else place_from (suc k) ds x) ≡ Some n → n < k + suc (length ds)
    go true ih h = let p : k ≡ n = cc in omega arith
    go false ih h = let p = ih h in omega arith

-- a name that is among the dummies has a node
pub place_some : (k : ℕ) (ds : List Name) (x : Name) → has_name x ds ≡ true → (n : ℕ) × (place_from k ds x ≡ Some n)
place_some k [] x h = absurd cc
place_some k (d ∷ ds) x h = go (name_eq x d) (place_some (suc k) ds x) h
  where
    go : (t : Bool) → (has_name x ds ≡ true → (n : ℕ) × (place_from (suc k) ds x ≡ Some n)) → (t || has_name x ds) ≡ true → (n : ℕ) × ((if t then Some k else place_from (suc k) ds x) ≡ Some n)
    go true ih e = (k, refl)
    go false ih e = ih e

-- what is said of the node of a name is what is said of the name
pub place_bit : (b : ℕ → Bool) (g : Name → Bool) (k : ℕ) (ds : List Name) (x : Name) (n : ℕ) → bits b k (length ds) ≡ map g ds → place_from k ds x ≡ Some n → b n ≡ g x
place_bit b g k [] x n h e = absurd cc
place_bit b g k (d ∷ ds) x n h e = let first : b k ≡ g d = cc in let later : bits b (suc k) (length ds) ≡ map g ds = cc in go first (name_eq x d) refl (place_bit b g (suc k) ds x n later) e
  where
    go : b k ≡ g d → (t : Bool) → name_eq x d ≡ t → (place_from (suc k) ds x ≡ Some n → b n ≡ g x) → (if t then Some k else place_from (suc k) ds x) ≡ Some n → b n ≡ g x
    go f true s ih h = let p : k ≡ n = cc in ap b (sym p) ∙ f ∙ ap g (sym (name_same x d s))
    go f false s ih h = ih h

-- ---- the unit of a name, with its first node

abbrev pub span_from : ℕ → List Procedure → Name → Option Unit'
span_from k [] x = None
span_from k (u ∷ us) x = if name_eq x u.name then Some (k, u) else span_from (k + length u.dummies) us x

get_behind : (before : List Unit') (p : Unit') (ps : List Unit') → slice_get (before ++ (p ∷ ps)) (length before) ≡ Some p
get_behind [] p ps = refl
get_behind (b ∷ before) p ps = get_behind before p ps

found_from : (before : List Unit') (k : ℕ) (us : List Procedure) (x : Name) → found_at (before ++ numbered k us) (number_from (length before) us x) ≡ span_from k us x
found_from before k [] x = refl
found_from before k (u ∷ us) x =
    go (name_eq x u.name)
    (ap (λ z. found_at z (number_from (suc (length before)) us x)) (sym (append_assoc before ((k, u) ∷ []) (numbered (k + length u.dummies) us)))
    ∙ ap (λ n. found_at ((before ++ (k, u) ∷ []) ++ numbered (k + length u.dummies) us) (number_from n us x)) (sym (longer before (k, u)))
    ∙ found_from (before ++ (k, u) ∷ []) (k + length u.dummies) us x)
  where
    longer : (xs : List Unit') (y : Unit') → length (xs ++ y ∷ []) ≡ suc (length xs)
    longer [] y = refl
    longer (x ∷ xs) y = ap suc (longer xs y)

    go : (b : Bool) → found_at (before ++ ((k, u) ∷ numbered (k + length u.dummies) us)) (number_from (suc (length before)) us x) ≡ span_from (k + length u.dummies) us x →
        found_at (before ++ ((k, u) ∷ numbered (k + length u.dummies) us)) (if b then Some (length before) else number_from (suc (length before)) us x) ≡ (if b then Some (k, u) else span_from (k + length u.dummies) us x)
    go true ih = get_behind before (k, u) (numbered (k + length u.dummies) us)
    go false ih = ih

-- the unit of the number of a name
pub found_span : (us : List Procedure) (x : Name) → found_at (numbered 0 us) (number_from 0 us x) ≡ span_from 0 us x
found_span us x = found_from [] 0 us x

-- its dummies are nodes
pub span_within : (k : ℕ) (us : List Procedure) (x : Name) (q : Unit') → span_from k us x ≡ Some q → q.0 + length (q.1).dummies ≤ k + dummies_in_all us
span_within k [] x q e = absurd cc
span_within k (u ∷ us) x q e = go (name_eq x u.name) (span_within (k + length u.dummies) us x q) e
  where
    go : (t : Bool) → (span_from (k + length u.dummies) us x ≡ Some q → q.0 + length (q.1).dummies ≤ (k + length u.dummies) + dummies_in_all us) → (if t then Some (k, u) else span_from (k + length u.dummies) us x) ≡ Some q → q.0 + length (q.1).dummies ≤ k + (length u.dummies + dummies_in_all us)
    go true ih h = let p : (k, u) ≡ q = cc in subst (λ z. z.0 + length (z.1).dummies ≤ k + (length u.dummies + dummies_in_all us)) p (omega arith)
    go false ih h = let p = ih h in omega arith

-- what is said of the dummies of a unit that is found
abbrev pub row_found : (ℕ → Bool) → Option Unit' → List Bool
row_found b None = []
row_found b (Some q) = row b q

pub row_span : (b : ℕ → Bool) (k : ℕ) (us : List Procedure) (x : Name) → row_of us (map (row b) (numbered k us)) x ≡ row_found b (span_from k us x)
row_span b k [] x = refl
row_span b k (u ∷ us) x = ap (λ t. if t then row b (k, u) else row_of us (map (row b) (numbered (k + length u.dummies) us)) x) (name_comm u.name x) ∙ go (name_eq x u.name) (row_span b (k + length u.dummies) us x)
  where
    go : (t : Bool) → row_of us (map (row b) (numbered (k + length u.dummies) us)) x ≡ row_found b (span_from (k + length u.dummies) us x) →
        (if t then row b (k, u) else row_of us (map (row b) (numbered (k + length u.dummies) us)) x) ≡ row_found b (if t then Some (k, u) else span_from (k + length u.dummies) us x)
    go true ih = refl
    go false ih = ih

-- ---- rows side by side

abbrev pub flat : List (List Bool) → List Bool
flat [] = []
flat (r ∷ rs) = r ++ flat rs

flag_behind : (before : List Bool) (b : Bool) (rest : List Bool) → flag (before ++ (b ∷ rest)) (length before) ≡ b
flag_behind [] b rest = refl
flag_behind (a ∷ before) b rest = flag_behind before b rest

longer_by : (xs : List Bool) (y : Bool) → length (xs ++ y ∷ []) ≡ suc (length xs)
longer_by [] y = refl
longer_by (x ∷ xs) y = ap suc (longer_by xs y)

bits_behind : (before r rest : List Bool) → bits (flag (before ++ (r ++ rest))) (length before) (length r) ≡ r
bits_behind before [] rest = refl
bits_behind before (b ∷ r) rest =
    ap₂ (λ x xs. x ∷ xs) (flag_behind before b (r ++ rest))
    ((λ i. bits (flag (sym (append_assoc before (b ∷ []) (r ++ rest)) i)) (sym (longer_by before b) i) (length r)) ∙ bits_behind (before ++ b ∷ []) r rest)

-- the rows of a set of dummies, one after another, say of each node what the rows say of its dummy
module _ (g : Procedure → Name → Bool) where
  abbrev rows : List Procedure → List (List Bool)
  rows us = map (λ u. map (g u) u.dummies) us

  row_length : (ds : List Name) (h : Name → Bool) → length (map h ds) ≡ length ds
  row_length [] h = refl
  row_length (d ∷ ds) h = ap suc (row_length ds h)

  rows_behind : (before : List Bool) (k : ℕ) (us : List Procedure) → k ≡ length before → map (row (flag (before ++ flat (rows us)))) (numbered k us) ≡ rows us
  rows_behind before k [] e = refl
  rows_behind before k (u ∷ us) e =
      ap₂ (λ x xs. x ∷ xs)
      ((λ i. bits (flag (before ++ (map (g u) u.dummies ++ flat (rows us)))) (e i) (sym (row_length u.dummies (g u)) i)) ∙ bits_behind before (map (g u) u.dummies) (flat (rows us)))
      ((λ i. map (row (flag (sym (append_assoc before (map (g u) u.dummies) (flat (rows us))) i))) (numbered (k + length u.dummies) us))
      ∙ rows_behind (before ++ map (g u) u.dummies) (k + length u.dummies) us (omega (arith, e, length-append before (map (g u) u.dummies), row_length u.dummies (g u))))

  pub flat_rows : (us : List Procedure) → map (row (flag (flat (rows us)))) (numbered 0 us) ≡ rows us
  flat_rows us = rows_behind [] 0 us refl
