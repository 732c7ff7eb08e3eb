-- The rows of each column.
use Rattle.std.proofs.Common.{◌≡◌, ℕ, zero, suc, ◌+◌, ◌<◌, ◌⊎◌, inl, inr, Bool, true, false, List, [], ◌∷◌, ◌++◌, length, get_or, take, refl, sym, ap, ap₂, ◌∙◌, eq-eqb, arith}
use Rattle.std.specs.Prelude.{All, ◌==◌, ◌&&◌, ◌||◌}
use Rattle.std.proofs.lemmas.Bool.{cases_eq, ne_eqb, both_ways, or_left, or_right}
use Rattle.std.proofs.lemmas.List.{take_more, get_or-set_same, get_or-set_other, length-take-le}
use Rattle.def_jacobian.specs.Groups.{has}
use Rattle.adj_jacobian_groups.specs.Listed.{list_at, with_more, ListRows}

-- the tests of "or" that the lemmas need
pub or_assoc : (a b c : Bool) → ((a || b) || c) ≡ (a || (b || c))
or_assoc true b c = refl
or_assoc false b c = refl

pub or_none : (a : Bool) → (a || false) ≡ a
or_none true = refl
or_none false = refl

-- a list has what one of its parts has
pub has_append : (xs ys : List ℕ) (c : ℕ) → has (xs ++ ys) c ≡ (has xs c || has ys c)
has_append [] ys c = refl
has_append (x ∷ xs) ys c = ap (λ z. (c == x) || z) (has_append xs ys c) ∙ sym (or_assoc (c == x) (has xs c) (has ys c))

-- one number more in one list
pub more_has : (ls : List (List ℕ)) (i x c r : ℕ) → i < length ls → has (list_at (with_more ls i x) c) r ≡ (has (list_at ls c) r || ((c == i) && (r == x)))
more_has ls i x c r h = by (cases_eq c i)
  where
    by : (c ≡ i) ⊎ (c ≡ i → ⊥) → has (list_at (with_more ls i x) c) r ≡ (has (list_at ls c) r || ((c == i) && (r == x)))
    by (inl e) =
        ap (λ j. has (list_at (with_more ls i x) j) r) e
        ∙ ap (λ l. has l r) (get_or-set_same ls i (list_at ls i ++ x ∷ []) [] h)
        ∙ has_append (list_at ls i) (x ∷ []) r
        ∙ ap₂ (λ y z. y || z) (ap (λ j. has (list_at ls j) r) (sym e)) (or_none (r == x) ∙ ap (λ y. y && (r == x)) (sym (eq-eqb c i e)))
    by (inr n) =
        ap (λ l. has l r) (get_or-set_other ls i c (list_at ls i ++ x ∷ []) [] n)
        ∙ sym (or_none (has (list_at ls c) r))
        ∙ ap (λ y. has (list_at ls c) r || (y && (r == x))) (sym (ne_eqb c i n))

-- a row is listed at a column where it was, or where the column is one of its columns so far, or the next
one_more : (a r t e : Bool) → ((a || (r && t)) || (e && r)) ≡ (a || (r && (t || (e || false))))
one_more true r t e = refl
one_more false true true e = refl
one_more false true false true = refl
one_more false true false false = refl
one_more false false t true = refl
one_more false false t false = refl

-- one column more of a row
pub column_more : (ls was now : List (List ℕ)) (columns : List ℕ) (i row d : ℕ) → i < length columns → d ≡ get_or columns i 0 → d < length was → now ≡ with_more was d row →
    ((c r : ℕ) → has (list_at was c) r ≡ (has (list_at ls c) r || ((r == row) && has (take i columns) c))) →
    (c r : ℕ) → has (list_at now c) r ≡ (has (list_at ls c) r || ((r == row) && has (take (i + 1) columns) c))
column_more ls was now columns i row d h e l w before c r =
    ap (λ z. has (list_at z c) r) w
    ∙ more_has was d row c r l
    ∙ ap (λ y. y || ((c == d) && (r == row))) (before c r)
    ∙ one_more (has (list_at ls c) r) (r == row) (has (take i columns) c) (c == d)
    ∙ ap (λ y. has (list_at ls c) r || ((r == row) && y)) (sym (ap (λ z. has z c) (take_more columns i 0 h ∙ ap (λ x. take i columns ++ x ∷ []) (sym e)) ∙ has_append (take i columns) (d ∷ []) c))

-- numbers are equal where those after them are
same_after : (a b : ℕ) → (suc a == suc b) ≡ (a == b)
same_after a b = by (cases_eq a b)
  where
    by : (a ≡ b) ⊎ (a ≡ b → ⊥) → (suc a == suc b) ≡ (a == b)
    by (inl e) = eq-eqb (suc a) (suc b) (ap suc e) ∙ sym (eq-eqb a b e)
    by (inr n) = ne_eqb (suc a) (suc b) (λ e. n (omega (arith, e))) ∙ sym (ne_eqb a b n)

-- a list has a number where it had it, or the number is in the new list at the end
row_at_end : (rows : List (List ℕ)) (row : List ℕ) (r c : ℕ) → has (list_at (rows ++ row ∷ []) r) c ≡ (has (list_at rows r) c || ((r == length rows) && has row c))
row_at_end [] row zero c = refl
row_at_end [] row (suc r) c = ap (λ y. y && has row c) (sym (ne_eqb (suc r) 0 (λ e. absurd (omega (arith, e)))))
row_at_end (x ∷ rows) row zero c = sym (ap (λ y. has x c || (y && has row c)) (ne_eqb 0 (suc (length rows)) (λ e. absurd (omega (arith, e)))) ∙ or_none (has x c))
row_at_end (x ∷ rows) row (suc r) c = row_at_end rows row r c ∙ ap (λ y. has (list_at rows r) c || (y && has row c)) (sym (same_after r (length rows)))

-- one row more
pub row_listed : (rows : List (List ℕ)) (n i : ℕ) (was now : List (List ℕ)) (row : List ℕ) → i < length rows → row ≡ list_at rows i → ListRows (take i rows) n was → length now ≡ length was →
    ((c r : ℕ) → has (list_at now c) r ≡ (has (list_at was c) r || ((r == i) && has row c))) → ListRows (take (i + 1) rows) n now
row_listed rows n i was now row h e l same added = record {
  count = same ∙ l.count;
  exact = λ c r k.
      added c r
      ∙ ap (λ y. y || ((r == i) && has row c)) (l.exact c r k)
      ∙ ap (λ j. has (list_at (take i rows) r) c || ((r == j) && has row c)) (sym (length-take-le i rows (omega (arith, h))))
      ∙ sym (row_at_end (take i rows) row r c)
      ∙ ap (λ z. has (list_at z r) c) (ap (λ x. take i rows ++ x ∷ []) e ∙ sym (take_more rows i [] h));
}

-- ---- what is listed

-- a list has what stands in it
has_at : (xs : List ℕ) (k d : ℕ) → k < length xs → has xs (get_or xs k d) ≡ true
has_at [] k d h = absurd (omega (arith, h))
has_at (x ∷ xs) zero d h = or_left (x == x) (has xs x) (eq-eqb x x refl)
has_at (x ∷ xs) (suc k) d h = or_right (get_or xs k d == x) (has xs (get_or xs k d)) (has_at xs k d (omega (arith, h)))

-- a row that has a column is there
row_below : (rows : List (List ℕ)) (r c : ℕ) → has (list_at rows r) c ≡ true → r < length rows
row_below [] r c h = absurd (both_ways false refl h)
row_below (x ∷ rows) zero c h = omega arith
row_below (x ∷ rows) (suc r) c h = let q = row_below rows r c h in omega (arith, q)

-- the numbers in the lists are those of rows
pub numbers_below : (rows : List (List ℕ)) (n : ℕ) (lists : List (List ℕ)) (c : ℕ) → c < n → ListRows rows n lists → All (λ r. r < length rows) (list_at lists c)
numbers_below rows n lists c h l k d b = row_below rows (get_or (list_at lists c) k d) c (sym (l.exact c (get_or (list_at lists c) k d) h) ∙ has_at (list_at lists c) k d b)
