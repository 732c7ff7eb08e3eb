-- Rows of cells: products over marked dummies are sums over the cells of all variables, for arrays as for scalars.
use Rattle.std.proofs.Common.{◌≡◌, ℕ, zero, suc, ◌+◌, ◌<◌, Bool, true, false, List, [], ◌∷◌, ◌++◌, map, length, refl, sym, ap, ◌∙◌, subst, arith, if◌then◌else◌}
use Rattle.std.specs.Prelude.{ℤ, pos, int_le, ◌*ℤ◌, ◌||◌, ◌==◌, ◌&&◌}
use Rattle.adj_tree.specs.Code.{Var, plain, shadow, name_eq, Procedure}
use Rattle.adj_tree.proofs.Names.{nat_same, name_refl, name_same}
use Rattle.adj_word.specs.Word.{add, mul}
use Rattle.adj_word.specs.Dot.{dot}
use Rattle.adj_word.specs.Pairing.{pairing}
use Rattle.adj_word.proofs.Residues.{mul-zero, zero-add, wrap-zero, add_comm, add-zero, wrap-wrap}
use Rattle.adj_word.proofs.Pairings.{pairing-append}
use Rattle.adj_word.proofs.DotProducts.{dot-cons, dot-append, dot-nil, wrap-dot}
use Rattle.def_meaning.specs.Numbers.{Numbers, words, duals}
use Rattle.def_meaning.specs.Store.{Shape, Store, size_of, cells_from}
use Rattle.def_meaning.specs.Units.{Slot, from_slot, entry_store, nth_cell, slot_of, extents_of, shape_of, are_extents, elements, shape_fits, slot_fits, slots_fit}
use Rattle.def_meaning.specs.Apart.{has_name, AreApart}
use Rattle.def_sweep.specs.Naming.{Named, name_in, naming}
use Rattle.def_names.specs.Numbers.{Vars}
use Rattle.def_sweep.specs.Declared.{unmarked}
use Rattle.law_sweep.specs.Pairs.{Words}
use Rattle.def_sweep.specs.MarkedAdjoint.{shadow_flags, shadow_cells}
use Rattle.def_sweep.specs.Tangents as slots
use Rattle.def_sweep.specs.Tangents.{AreZeros, OthersAreZero, marked_cells, product}
use Rattle.law_sweep.proofs.Products.{unmarked-out}
use Rattle.law_sweep.proofs.ScalarSlots.{paired, direction}
use Rattle.def_names.proofs.Variables.{and_true, or_left, or_right, has_apart}
use Rattle.law_sweep.specs.Cells.{cells_below, cells_of}

-- the cells of a variable, and of several
abbrev pub row : {C : Type 0} → (Var → Shape) → (List ℕ → ℕ → C) → List ℕ → List C
row sh f x = cells_from (f x) 0 (size_of (sh (plain x)))

abbrev pub rows : {C : Type 0} → (Var → Shape) → (List ℕ → ℕ → C) → List (List ℕ) → List (List C)
rows sh f [] = []
rows sh f (x ∷ xs) = row sh f x ∷ rows sh f xs

-- words by names and cells
abbrev pub by_cells : Words → List ℕ → ℕ → ℤ
by_cells s x j = s (x, j)

-- the words are 0 in the cells of these variables
abbrev pub AreNought : (Var → Shape) → List (List ℕ) → Words → Type 0
AreNought sh xs s = (x : List ℕ) (j : ℕ) → has_name x xs ≡ true → j < size_of (sh (plain x)) → s (x, j) ≡ pos 0

-- ---- the cells of one variable

pub from_length : {C : Type 0} (cs : ℕ → C) (i n : ℕ) → length (cells_from cs i n) ≡ n
from_length cs i zero = refl
from_length cs i (suc n) = ap suc (from_length cs (suc i) n)

from_last : {C : Type 0} (cs : ℕ → C) (i n : ℕ) → cells_from cs i (suc n) ≡ cells_from cs i n ++ (cs (i + n) ∷ [])
from_last cs i zero = let e : i + 0 ≡ i = omega arith in ap (λ j. cs j ∷ []) (sym e)
from_last cs i (suc n) = let e : suc i + n ≡ i + suc n = omega arith in ap (λ l. cs i ∷ l) (from_last cs (suc i) n ∙ ap (λ j. cells_from cs (suc i) n ++ (cs j ∷ [])) e)

pub from_same : {C : Type 0} (cs ds : ℕ → C) (i n : ℕ) → ((j : ℕ) → j < i + n → cs j ≡ ds j) → cells_from cs i n ≡ cells_from ds i n
from_same cs ds i zero h = refl
from_same cs ds i (suc n) h = λ t. h i (omega arith) t ∷ from_same cs ds (suc i) n (λ j l. h j (omega arith)) t

pub from_map : {B C : Type 0} (f : B → C) (cs : ℕ → B) (i n : ℕ) → map f (cells_from cs i n) ≡ cells_from (λ j. f (cs j)) i n
from_map f cs i zero = refl
from_map f cs i (suc n) = ap (λ l. f (cs i) ∷ l) (from_map f cs (suc i) n)

zero_plus : (n : ℕ) → 0 + n ≡ n
zero_plus n = omega arith

last_cell : {C : Type 0} (cs : ℕ → C) (n : ℕ) → cells_from cs 0 (suc n) ≡ cells_from cs 0 n ++ (cs n ∷ [])
last_cell cs n = from_last cs 0 n ∙ ap (λ j. cells_from cs 0 n ++ (cs j ∷ [])) (zero_plus n)

pub cells_same : {C : Type 0} (cs ds : ℕ → C) (n : ℕ) → ((j : ℕ) → j < n → cs j ≡ ds j) → cells_from cs 0 n ≡ cells_from ds 0 n
cells_same cs ds n h = from_same cs ds 0 n (λ j l. h j (omega arith))

unmarked_all : (xs : List (List ℕ)) → unmarked xs [] ≡ xs
unmarked_all [] = refl
unmarked_all (x ∷ xs) = ap (λ l. x ∷ l) (unmarked_all xs)

one_dot : (a b : ℤ) → dot (a ∷ []) (b ∷ []) ≡ mul a b
one_dot a b = dot-cons a b [] [] ∙ ap (add (mul a b)) (dot-nil []) ∙ add-zero (mul a b) ∙ wrap-wrap (a *ℤ b)

below_dot : (s d : Words) (x : List ℕ) (n : ℕ) → pairing (cells_below x n) s d ≡ dot (cells_from (by_cells s x) 0 n) (cells_from (by_cells d x) 0 n)
below_dot s d x zero = sym (dot-nil [])
below_dot s d x (suc n) =
    let c = cells_from (by_cells s x) 0 n in
    let e = cells_from (by_cells d x) 0 n in
    ap (add (mul (s (x, n)) (d (x, n)))) (below_dot s d x n)
    ∙ add_comm (mul (s (x, n)) (d (x, n))) (dot c e)
    ∙ ap (add (dot c e)) (sym (one_dot (s (x, n)) (d (x, n))))
    ∙ sym (dot-append c e (s (x, n) ∷ []) (d (x, n) ∷ []) (from_length (by_cells s x) 0 n ∙ sym (from_length (by_cells d x) 0 n)))
    ∙ ap (λ l. dot l (e ++ (d (x, n) ∷ []))) (sym (last_cell (by_cells s x) n)) ∙ ap (dot (cells_from (by_cells s x) 0 (suc n))) (sym (last_cell (by_cells d x) n))

below_nought : (s d : Words) (x : List ℕ) (n : ℕ) → ((j : ℕ) → j < n → d (x, j) ≡ pos 0) → pairing (cells_below x n) s d ≡ pos 0
below_nought s d x zero h = refl
below_nought s d x (suc n) h = (λ i. add (mul (s (x, n)) (h n (omega arith) i)) (below_nought s d x n (λ j l. h j (omega arith)) i)) ∙ (λ i. add (mul-zero (s (x, n)) i) (pos 0)) ∙ wrap-zero

-- ---- sums in which one side is 0

pub pairing_nought : (sh : Var → Shape) (xs : List (List ℕ)) (s d : Words) → AreNought sh xs d → pairing (cells_of sh xs) s d ≡ pos 0
pairing_nought sh [] s d z = refl
pairing_nought sh (x ∷ xs) s d z =
    pairing-append (cells_below x (size_of (sh (plain x)))) (cells_of sh xs) s d
    ∙ (λ i. add (below_nought s d x (size_of (sh (plain x))) (λ j l. z x j (or_left (name_eq x x) (has_name x xs) (name_refl x)) l) i) (pairing_nought sh xs s d (λ y j h l. z y j (or_right (name_eq y x) (has_name y xs) h) l) i))
    ∙ wrap-zero

-- variables behind the others at which one side is 0 are no matter
pub pairing_behind : (sh : Var → Shape) (xs ys : List (List ℕ)) (s d : Words) → AreNought sh ys d → pairing (cells_of sh (xs ++ ys)) s d ≡ pairing (cells_of sh xs) s d
pairing_behind sh [] ys s d z = pairing_nought sh ys s d z
pairing_behind sh (x ∷ xs) ys s d z =
    pairing-append (cells_below x (size_of (sh (plain x)))) (cells_of sh (xs ++ ys)) s d
    ∙ ap (add (pairing (cells_below x (size_of (sh (plain x)))) s d)) (pairing_behind sh xs ys s d z)
    ∙ sym (pairing-append (cells_below x (size_of (sh (plain x)))) (cells_of sh xs) s d)

-- where d is 0 off the marks, the sum over all cells is the product over the marked rows
pub pairing_product : (sh : Var → Shape) (xs : List (List ℕ)) (marks : List Bool) (s d : Words) → AreNought sh (unmarked xs marks) d → pairing (cells_of sh xs) s d ≡ product marks (rows sh (by_cells s) xs) (rows sh (by_cells d) xs)
pairing_product sh [] [] s d z = sym (dot-nil [])
pairing_product sh [] (m ∷ marks) s d z = sym (dot-nil [])
pairing_product sh (x ∷ xs) [] s d z = pairing_nought sh (x ∷ xs) s d (subst (λ l. AreNought sh l d) (unmarked_all (x ∷ xs)) z) ∙ sym (dot-nil [])
pairing_product sh (x ∷ xs) (true ∷ marks) s d z =
    pairing-append (cells_below x (size_of (sh (plain x)))) (cells_of sh xs) s d
    ∙ (λ i. add (below_dot s d x (size_of (sh (plain x))) i) (pairing_product sh xs marks s d z i))
    ∙ sym (dot-append (row sh (by_cells s) x) (row sh (by_cells d) x) (marked_cells marks (rows sh (by_cells s) xs)) (marked_cells marks (rows sh (by_cells d) xs)) (from_length (by_cells s x) 0 (size_of (sh (plain x))) ∙ sym (from_length (by_cells d x) 0 (size_of (sh (plain x))))))
pairing_product sh (x ∷ xs) (false ∷ marks) s d z =
    pairing-append (cells_below x (size_of (sh (plain x)))) (cells_of sh xs) s d
    ∙ (λ i. add (below_nought s d x (size_of (sh (plain x))) (λ j l. z x j (or_left (name_eq x x) (has_name x (unmarked xs marks)) (name_refl x)) l) i) (pairing_product sh xs marks s d (λ y j h l. z y j (or_right (name_eq y x) (has_name y (unmarked xs marks)) h) l) i))
    ∙ zero-add (product marks (rows sh (by_cells s) xs) (rows sh (by_cells d) xs))
    ∙ wrap-dot (marked_cells marks (rows sh (by_cells s) xs)) (marked_cells marks (rows sh (by_cells d) xs))

-- ---- what isn't marked

zeros_from : (cs : ℕ → ℤ) (i n : ℕ) → ((j : ℕ) → j < i + n → cs j ≡ pos 0) → AreZeros (cells_from cs i n)
zeros_from cs i zero h = tt
zeros_from cs i (suc n) h = (h i (omega arith), zeros_from cs (suc i) n (λ j l. h j (omega arith)))

zeros_row : (cs : ℕ → ℤ) (n : ℕ) → ((j : ℕ) → j < n → cs j ≡ pos 0) → AreZeros (cells_from cs 0 n)
zeros_row cs n h = zeros_from cs 0 n (λ j l. h j (omega arith))

from_zeros : (cs : ℕ → ℤ) (i n : ℕ) → AreZeros (cells_from cs i n) → (j : ℕ) → j < n → cs (i + j) ≡ pos 0
from_zeros cs i zero z j l = absurd (omega arith)
from_zeros cs i (suc n) z zero l = let e : i + 0 ≡ i = omega arith in ap cs e ∙ z.0
from_zeros cs i (suc n) z (suc j) l = let e : i + suc j ≡ suc i + j = omega arith in ap cs e ∙ from_zeros cs (suc i) n z.1 j (omega arith)

row_zeros : (cs : ℕ → ℤ) (n : ℕ) → AreZeros (cells_from cs 0 n) → (j : ℕ) → j < n → cs j ≡ pos 0
row_zeros cs n z j l = ap cs (sym (zero_plus j)) ∙ from_zeros cs 0 n z j l

pub others_nought : (sh : Var → Shape) (xs : List (List ℕ)) (marks : List Bool) (s : Words) → AreNought sh (unmarked xs marks) s → OthersAreZero marks (rows sh (by_cells s) xs)
others_nought sh [] marks s z = tt
others_nought sh (x ∷ xs) [] s z = (zeros_row (by_cells s x) (size_of (sh (plain x))) (λ j l. z x j (or_left (name_eq x x) (has_name x (unmarked xs [])) (name_refl x)) l), others_nought sh xs [] s (λ y j h l. z y j (or_right (name_eq y x) (has_name y (unmarked xs [])) h) l))
others_nought sh (x ∷ xs) (true ∷ marks) s z = others_nought sh xs marks s z
others_nought sh (x ∷ xs) (false ∷ marks) s z = (zeros_row (by_cells s x) (size_of (sh (plain x))) (λ j l. z x j (or_left (name_eq x x) (has_name x (unmarked xs marks)) (name_refl x)) l), others_nought sh xs marks s (λ y j h l. z y j (or_right (name_eq y x) (has_name y (unmarked xs marks)) h) l))

nought_cons : (sh : Var → Shape) (x : List ℕ) (ys : List (List ℕ)) (s : Words) → AreZeros (row sh (by_cells s) x) → AreNought sh ys s → AreNought sh (x ∷ ys) s
nought_cons sh x ys s z r y j h l = go (name_eq y x) refl h
  where
    go : (b : Bool) → name_eq y x ≡ b → (b || has_name y ys) ≡ true → s (y, j) ≡ pos 0
    go true e h =
        let same : y ≡ x = name_same y x e in
        ap (λ n. s (n, j)) same ∙ row_zeros (by_cells s x) (size_of (sh (plain x))) z j (subst (λ n. j < size_of (sh (plain n))) same l)
    go false e h = r y j h l

pub nought_others : (sh : Var → Shape) (xs : List (List ℕ)) (marks : List Bool) (s : Words) → OthersAreZero marks (rows sh (by_cells s) xs) → AreNought sh (unmarked xs marks) s
nought_others sh [] marks s z = λ y j h l. absurd cc
nought_others sh (x ∷ xs) [] s z = nought_cons sh x (unmarked xs []) s z.0 (nought_others sh xs [] s z.1)
nought_others sh (x ∷ xs) (true ∷ marks) s z = nought_others sh xs marks s z
nought_others sh (x ∷ xs) (false ∷ marks) s z = nought_cons sh x (unmarked xs marks) s z.0 (nought_others sh xs marks s z.1)

-- words that agree at the marked variables have the same marked cells
pub marked_alike : (sh : Var → Shape) (xs : List (List ℕ)) (marks : List Bool) (f g : Words) → AreApart xs → ((x : List ℕ) (j : ℕ) → has_name x xs ≡ true → has_name x (unmarked xs marks) ≡ false → j < size_of (sh (plain x)) → f (x, j) ≡ g (x, j)) → marked_cells marks (rows sh (by_cells f) xs) ≡ marked_cells marks (rows sh (by_cells g) xs)
marked_alike sh xs [] f g a h = refl
marked_alike sh [] (m ∷ marks) f g a h = refl
marked_alike sh (x ∷ xs) (true ∷ marks) f g a h =
    λ i. cells_same (by_cells f x) (by_cells g x) (size_of (sh (plain x))) (λ j l. h x j (or_left (name_eq x x) (has_name x xs) (name_refl x)) (unmarked-out x xs marks a.0) l) i
    ++ marked_alike sh xs marks f g a.1 (λ y j e n l. h y j (or_right (name_eq y x) (has_name y xs) e) n l) i
marked_alike sh (x ∷ xs) (false ∷ marks) f g a h =
    marked_alike sh xs marks f g a.1 (λ y j e n l. h y j (or_right (name_eq y x) (has_name y xs) e) ((λ i. has_apart y x xs e a.0 i || has_name y (unmarked xs marks)) ∙ n) l)

-- ---- slots given for the names

-- the slots have as many cells as the variables
abbrev pub AreSized : {C : Type 0} → (Var → Shape) → List (List ℕ) → List (Slot C) → Type 0
AreSized sh [] [] = Unit {0}
AreSized sh [] (v ∷ vs) = ⊥
AreSized sh (x ∷ xs) [] = ⊥
AreSized sh (x ∷ xs) (v ∷ vs) = (length v.cells ≡ size_of (sh (plain x))) × AreSized sh xs vs

from_nth : {C : Type 0} (n : Numbers C) (cs : List C) (f : ℕ → C) (i : ℕ) → ((j : ℕ) → f (i + j) ≡ nth_cell n cs j) → cells_from f i (length cs) ≡ cs
from_nth n [] f i h = refl
from_nth n (c ∷ cs) f i h =
    let e : i + 0 ≡ i = omega arith in
    λ t. (ap f (sym e) ∙ h 0) t ∷ from_nth n cs f (suc i) (λ j. let d : suc i + j ≡ i + suc j = omega arith in ap f d ∙ h (suc j)) t

nth_cells : {C : Type 0} (n : Numbers C) (cs : List C) (f : ℕ → C) → ((j : ℕ) → f j ≡ nth_cell n cs j) → cells_from f 0 (length cs) ≡ cs
nth_cells n cs f h = from_nth n cs f 0 (λ j. ap f (zero_plus j) ∙ h j)

rows_same : {C : Type 0} (sh : Var → Shape) (xs : List (List ℕ)) (f g : List ℕ → ℕ → C) → ((x : List ℕ) (j : ℕ) → has_name x xs ≡ true → f x j ≡ g x j) → rows sh f xs ≡ rows sh g xs
rows_same sh [] f g h = refl
rows_same sh (x ∷ xs) f g h = λ i. cells_same (f x) (g x) (size_of (sh (plain x))) (λ j l. h x j (or_left (name_eq x x) (has_name x xs) (name_refl x))) i ∷ rows_same sh xs f g (λ y j e. h y j (or_right (name_eq y x) (has_name y xs) e)) i

-- the cells of given slots, at the names that get them
pub given_rows : {C : Type 0} (n : Numbers C) (sh : Var → Shape) (xs : List (List ℕ)) (vs : List (Slot C)) → AreApart xs → AreSized sh xs vs → rows sh (λ x j. entry_store n xs (map (from_slot n) vs) (plain x) j) xs ≡ slots.cells_of vs
given_rows n sh [] [] a m = refl
given_rows n sh [] (v ∷ vs) a m = absurd m
given_rows n sh (x ∷ xs) [] a m = absurd m
given_rows n sh (x ∷ xs) (v ∷ vs) a m =
    let rest = entry_store n xs (map (from_slot n) vs) in
    let f : ℕ → _ = λ j. if name_eq x x then nth_cell n v.cells j else rest (plain x) j in
    let first : cells_from f 0 (size_of (sh (plain x))) ≡ v.cells =
    ap (λ l. cells_from f 0 l) (sym m.0) ∙ nth_cells n v.cells f (λ j. ap (λ b. if b then nth_cell n v.cells j else rest (plain x) j) (name_refl x)) in
    let others : rows sh (λ y j. if name_eq y x then nth_cell n v.cells j else rest (plain y) j) xs ≡ rows sh (λ y j. rest (plain y) j) xs =
    rows_same sh xs _ _ (λ y j e. ap (λ b. if b then nth_cell n v.cells j else rest (plain y) j) (has_apart y x xs e a.0)) in
    λ i. first i ∷ (others ∙ given_rows n sh xs vs a.1 m.1) i

-- ---- the slots at a unit's end

-- the slots of the shadows, and zeros for what has none
pub shadow_rows : (sh shape : Var → Shape) (a : Vars) (s : Store ℤ) (ns : List Named) (xs : List (List ℕ)) → ((x : List ℕ) → shape (naming ns (plain x)) ≡ sh (plain x)) → ((x : List ℕ) → a (plain x) ≡ true → shape (naming ns (shadow x)) ≡ sh (plain x)) →
    shadow_cells (shadow_flags a xs) (map (λ d. slot_of (shape (plain d)) (s (plain d))) (map (name_in ns) (paired a xs))) ≡ rows sh (λ x j. if a (plain x) then s (naming ns (shadow x)) j else pos 0) xs
shadow_rows sh shape a s ns [] p q = refl
shadow_rows sh shape a s ns (x ∷ xs) p q = go (a (plain x)) refl (shadow_rows sh shape a s ns xs p q)
  where
    go : (b : Bool) → a (plain x) ≡ b → shadow_cells (shadow_flags a xs) (map (λ d. slot_of (shape (plain d)) (s (plain d))) (map (name_in ns) (paired a xs))) ≡ rows sh (λ x j. if a (plain x) then s (naming ns (shadow x)) j else pos 0) xs →
        shadow_cells (b ∷ shadow_flags a xs) (map (λ d. slot_of (shape (plain d)) (s (plain d))) (map (name_in ns) (if b then plain x ∷ shadow x ∷ paired a xs else plain x ∷ paired a xs))) ≡ cells_from (λ j. if b then s (naming ns (shadow x)) j else pos 0) 0 (size_of (sh (plain x))) ∷ rows sh (λ x j. if a (plain x) then s (naming ns (shadow x)) j else pos 0) xs
    go true e ih = λ i. cells_from (s (naming ns (shadow x))) 0 (size_of (q x e i)) ∷ ih i
    go false e ih = λ i. (from_map (λ c. pos 0) (s (naming ns (plain x))) 0 (size_of (shape (naming ns (plain x)))) ∙ ap (λ m. cells_from (λ j. pos 0) 0 (size_of m)) (p x)) i ∷ ih i

tangents_from : (cs : ℕ → ℤ × ℤ) (i n : ℕ) → slots.tangents_in (cells_from cs i n) ≡ cells_from (λ j. (cs j).1) i n
tangents_from cs i zero = refl
tangents_from cs i (suc n) = ap (λ l. (cs i).1 ∷ l) (tangents_from cs (suc i) n)

pub tangents_rows : (sh : Var → Shape) (f : List ℕ → ℕ → ℤ × ℤ) (xs : List (List ℕ)) → slots.tangents_of (rows sh f xs) ≡ rows sh (λ x j. (f x j).1) xs
tangents_rows sh f [] = refl
tangents_rows sh f (x ∷ xs) = λ i. tangents_from (f x) 0 (size_of (sh (plain x))) i ∷ tangents_rows sh f xs i

-- the cells of slots of these shapes
pub cells_rows : {C : Type 0} (sh shape : Var → Shape) (s : Store C) (xs : List (List ℕ)) → ((x : List ℕ) → shape (plain x) ≡ sh (plain x)) → slots.cells_of (map (λ d. slot_of (shape (plain d)) (s (plain d))) xs) ≡ rows sh (λ x. s (plain x)) xs
cells_rows sh shape s [] p = refl
cells_rows sh shape s (x ∷ xs) p = λ i. cells_from (s (plain x)) 0 (size_of (p x i)) ∷ cells_rows sh shape s xs p i

-- ---- a direction given for the names

tangents_side : (cs ds : List ℤ) → length ds ≡ length cs → slots.tangents_in (slots.side_by_side cs ds) ≡ ds
tangents_side [] [] h = refl
tangents_side [] (d ∷ ds) h = cc
tangents_side (c ∷ cs) [] h = cc
tangents_side (c ∷ cs) (d ∷ ds) h = ap (λ z. d ∷ z) (tangents_side cs ds (cc))

length_side : (cs ds : List ℤ) → length ds ≡ length cs → length (slots.side_by_side cs ds) ≡ length cs
length_side [] ds h = refl
length_side (c ∷ cs) [] h = cc
length_side (c ∷ cs) (d ∷ ds) h = ap suc (length_side cs ds (cc))

tangents_direction : (vs : List (Slot ℤ)) (d : List (List ℤ)) → slots.AreTangents vs d → slots.tangents_of (slots.cells_of (slots.with_direction vs d)) ≡ d
tangents_direction [] [] t = refl
tangents_direction [] (c ∷ d) t = absurd t
tangents_direction (v ∷ vs) [] t = absurd t
tangents_direction (v ∷ vs) (c ∷ d) t = λ i. tangents_side v.cells c t.0 i ∷ tangents_direction vs d t.1 i

sized_direction : (sh : Var → Shape) (xs : List (List ℕ)) (vs : List (Slot ℤ)) (d : List (List ℤ)) → slots.AreTangents vs d → AreSized sh xs vs → AreSized sh xs (slots.with_direction vs d)
sized_direction sh [] [] d t m = tt
sized_direction sh [] (v ∷ vs) d t m = absurd m
sized_direction sh (x ∷ xs) [] d t m = absurd m
sized_direction sh (x ∷ xs) (v ∷ vs) [] t m = absurd t
sized_direction sh (x ∷ xs) (v ∷ vs) (c ∷ d) t m = (length_side v.cells c t.0 ∙ m.0, sized_direction sh xs vs d t.1 m.1)

-- the tangents of a direction, at the names that get them
pub direction_rows : (sh : Var → Shape) (xs : List (List ℕ)) (input : List (Slot ℤ)) (d : List (List ℤ)) → AreApart xs → AreSized sh xs input → slots.AreTangents input d → rows sh (by_cells (direction xs input d)) xs ≡ d
direction_rows sh xs input d a m t =
    sym (tangents_rows sh (λ x j. entry_store duals xs (map (from_slot duals) (slots.with_direction input d)) (plain x) j) xs)
    ∙ ap slots.tangents_of (given_rows duals sh xs (slots.with_direction input d) a (sized_direction sh xs input d t m))
    ∙ tangents_direction input d t

-- ---- slots that fit have as many cells as the variables

pub fits_sized : (u : Procedure) (s : Store ℤ) (ds : List (List ℕ)) (vs : List (Slot ℤ)) → slots_fit words u s ds vs ≡ true → AreSized (λ x. shape_of (extents_of words u s x)) ds vs
fits_sized u s [] [] h = tt
fits_sized u s [] (v ∷ vs) h = absurd cc
fits_sized u s (d ∷ ds) [] h = absurd cc
fits_sized u s (d ∷ ds) (v ∷ vs) h =
    let f = and_true (slot_fits (extents_of words u s (plain d)) v) (slots_fit words u s ds vs) h in
    (one (extents_of words u s (plain d)) v f.0, fits_sized u s ds vs f.1)
  where
    one : (zs : List ℤ) (v : Slot ℤ) → slot_fits zs v ≡ true → length v.cells ≡ size_of (shape_of zs)
    one zs v h =
        let p = and_true (shape_fits zs v.shape) (length v.cells == size_of v.shape) h in
        let q = and_true (are_extents zs) (int_le (elements zs) (pos 1048576) && (((shape_of zs).rows == v.shape.rows) && ((shape_of zs).cols == v.shape.cols))) p.0 in
        let r = and_true (int_le (elements zs) (pos 1048576)) (((shape_of zs).rows == v.shape.rows) && ((shape_of zs).cols == v.shape.cols)) q.1 in
        let t = and_true ((shape_of zs).rows == v.shape.rows) ((shape_of zs).cols == v.shape.cols) r.1 in
        let rows_are = nat_same (shape_of zs).rows v.shape.rows t.0 in
        let cols_are = nat_same (shape_of zs).cols v.shape.cols t.1 in
        let shape_is : size_of (shape_of zs) ≡ size_of v.shape = λ i. size_of (record { rows = rows_are i; cols = cols_are i }) in
        nat_same (length v.cells) (size_of v.shape) p.1 ∙ sym shape_is

pub sized_alike : (sh : Var → Shape) (ds : List (List ℕ)) (vs ws : List (Slot ℤ)) → slots.AreAlike vs ws → AreSized sh ds vs → AreSized sh ds ws
sized_alike sh [] [] [] a m = tt
sized_alike sh [] [] (w ∷ ws) a m = absurd a
sized_alike sh [] (v ∷ vs) ws a m = absurd m
sized_alike sh (d ∷ ds) [] ws a m = absurd m
sized_alike sh (d ∷ ds) (v ∷ vs) [] a m = absurd a
sized_alike sh (d ∷ ds) (v ∷ vs) (w ∷ ws) a m = (a.1.0 ∙ m.0, sized_alike sh ds vs ws a.1.1 m.1)

-- the sizes of a list of slots by shapes that agree on the text's variables
pub sized_same : {C : Type 0} (sh sh' : Var → Shape) → ((x : List ℕ) → sh (plain x) ≡ sh' (plain x)) → (ds : List (List ℕ)) (vs : List (Slot C)) → AreSized sh ds vs → AreSized sh' ds vs
sized_same sh sh' e [] [] m = tt
sized_same sh sh' e [] (v ∷ vs) m = absurd m
sized_same sh sh' e (d ∷ ds) [] m = absurd m
sized_same sh sh' e (d ∷ ds) (v ∷ vs) m = (m.0 ∙ ap size_of (e d), sized_same sh sh' e ds vs m.1)

-- a direction is 0 at what isn't marked, also behind its cells
zero_side : (cs ds : List ℤ) (j : ℕ) → AreZeros ds → (nth_cell duals (slots.side_by_side cs ds) j).1 ≡ pos 0
zero_side [] ds j z = refl
zero_side (c ∷ cs) [] j z = refl
zero_side (c ∷ cs) (d ∷ ds) zero z = z.0
zero_side (c ∷ cs) (d ∷ ds) (suc j) z = zero_side cs ds j z.1

pub direction_nought : (xs : List (List ℕ)) (vs : List (Slot ℤ)) (d : List (List ℤ)) (marks : List Bool) → AreApart xs → slots.AreTangents vs d → OthersAreZero marks d → (y : List ℕ) (j : ℕ) → has_name y xs ≡ true → has_name y (unmarked xs marks) ≡ true → direction xs vs d (y, j) ≡ pos 0
direction_nought [] vs d marks a t z y j i h = absurd cc
direction_nought (x ∷ xs) [] d marks a t z y j i h = refl
direction_nought (x ∷ xs) (v ∷ vs) [] marks a t z y j i h = absurd t
direction_nought (x ∷ xs) (v ∷ vs) (c ∷ d) [] a t z y j i h = go (name_eq y x) i h (direction_nought xs vs d [] a.1 t.1 z.1 y j)
  where
    go : (b : Bool) → (b || has_name y xs) ≡ true → (b || has_name y (unmarked xs [])) ≡ true → (has_name y xs ≡ true → has_name y (unmarked xs []) ≡ true → direction xs vs d (y, j) ≡ pos 0) → (if b then nth_cell duals (slots.side_by_side v.cells c) j else entry_store duals xs (map (from_slot duals) (slots.with_direction vs d)) (plain y) j).1 ≡ pos 0
    go true i h ih = zero_side v.cells c j z.0
    go false i h ih = ih i h
direction_nought (x ∷ xs) (v ∷ vs) (c ∷ d) (false ∷ marks) a t z y j i h = go (name_eq y x) i h (direction_nought xs vs d marks a.1 t.1 z.1 y j)
  where
    go : (b : Bool) → (b || has_name y xs) ≡ true → (b || has_name y (unmarked xs marks)) ≡ true → (has_name y xs ≡ true → has_name y (unmarked xs marks) ≡ true → direction xs vs d (y, j) ≡ pos 0) → (if b then nth_cell duals (slots.side_by_side v.cells c) j else entry_store duals xs (map (from_slot duals) (slots.with_direction vs d)) (plain y) j).1 ≡ pos 0
    go true i h ih = zero_side v.cells c j z.0
    go false i h ih = ih i h
direction_nought (x ∷ xs) (v ∷ vs) (c ∷ d) (true ∷ marks) a t z y j i h = go (name_eq y x) refl i (λ k. direction_nought xs vs d marks a.1 t.1 z y j k h)
  where
    go : (b : Bool) → name_eq y x ≡ b → (b || has_name y xs) ≡ true → (has_name y xs ≡ true → direction xs vs d (y, j) ≡ pos 0) → (if b then nth_cell duals (slots.side_by_side v.cells c) j else entry_store duals xs (map (from_slot duals) (slots.with_direction vs d)) (plain y) j).1 ≡ pos 0
    go true e i ih = absurd (let q : true ≡ false = sym h ∙ ap (λ n. has_name n (unmarked xs marks)) (name_same y x e) ∙ unmarked-out x xs marks a.0 in cc)
    go false e i ih = ih i
