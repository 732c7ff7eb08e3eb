-- Data without a fault are an input that fits the unit.
use Rattle.std.proofs.Common.{◌≡◌, ℕ, zero, suc, ◌*◌, ◌≤◌, Bool, true, false, List, [], ◌∷◌, map, length, refl, sym, ap, subst, ◌∙◌, arith, Option, Some, None, if◌then◌else◌}
use Rattle.std.specs.Prelude.{ℤ, pos, negsuc, int_le, ◌*ℤ◌, ◌==◌, ◌&&◌, ◌||◌, not}
use Rattle.std.specs.List.{All}
use Rattle.std.specs.Ordering.{int_eq}
use Rattle.std.proofs.lemmas.List.{length-map}
use Rattle.std.proofs.Math.IntN.{pos-*ℤ-pos}
use Rattle.adj_tree.specs.Code.{plain, name_eq, Extent, fixed, given, Procedure}
use Rattle.adj_tree.proofs.Names.{name_same, nat_refl}
use Rattle.def_meaning.specs.Numbers.{words}
use Rattle.def_meaning.specs.Store.{Store, Shape, size_of}
use Rattle.def_meaning.specs.Units.{extent_in, extents_of, shape_of, are_extents, elements, shape_fits, nth_cell, from_slot, entry_store, input_store, slot_fits, slots_fit}
use Rattle.def_meaning.proofs.Booleans.{and_true}
use Rattle.adj_data.specs.Entries.{Entry, entries_of, entry_named}
use Rattle.def_meaning.specs.Apart.{has_name}
use Rattle.adj_data.specs.Faults.{Fault, or_else, fault_at, only_number, extent_given, extents_given, with_first, entry_code, given_fault, dummy_fault, dummies_fault, data_items, items_fault}
use Rattle.adj_data.specs.Given.{slot_in, slot_given}
use Rattle.adj_data.specs.Marked.{titles_of, entries_check}
use Rattle.adj_data.specs.Fitting.{extents_in, IsSize, IsSized, DataFit, CheckDataFit}

-- where neither of two is a fault
neither : (f g : Option Fault) → or_else f g ≡ None → (f ≡ None) × (g ≡ None)
neither None g h = (refl, h)
neither (Some f) g h = absurd cc

-- an entry without a fault of such extents
record HasCount (e : Entry) (zs : List ℤ) : Type 0 where
  extents : are_extents zs ≡ true
  few : int_le (elements zs) (pos 1048576) ≡ true
  count : elements zs ≡ pos (length e.numbers)

int_same : (a b : ℤ) → int_eq a b ≡ true → a ≡ b
int_same (pos m) (pos n) h = grind arith
int_same (pos m) (negsuc n) h = absurd cc
int_same (negsuc m) (pos n) h = absurd cc
int_same (negsuc m) (negsuc n) h = grind arith

counted : (e : Entry) (zs : List ℤ) → fault_at e.line (entry_code e (Some zs)) ≡ None → HasCount e zs
counted e zs h = go (are_extents zs && int_le (elements zs) (pos 1048576)) refl h
  where
    count_is : (b : Bool) → int_eq (elements zs) (pos (length e.numbers)) ≡ b → fault_at e.line (if b then None else Some 5) ≡ None → elements zs ≡ pos (length e.numbers)
    count_is true q k = int_same (elements zs) (pos (length e.numbers)) q
    count_is false q k = absurd cc

    go : (b : Bool) → (are_extents zs && int_le (elements zs) (pos 1048576)) ≡ b → fault_at e.line (if not b then Some 7 else (if int_eq (elements zs) (pos (length e.numbers)) then None else Some 5)) ≡ None → HasCount e zs
    go false q k = absurd cc
    go true q k =
        let both = and_true (are_extents zs) (int_le (elements zs) (pos 1048576)) q in
        record { extents = both.0; few = both.1; count = count_is (int_eq (elements zs) (pos (length e.numbers))) refl k }

-- ---- one dummy

-- what is known of the entry of a dummy that has no fault and whose extents have values
record IsFound (es : List Entry) (x : List ℕ) (zs : List ℤ) : Type 0 where
  entry : Entry
  named : entry_named x es ≡ Some entry
  counted : HasCount entry zs

found : (es : List Entry) (u : Procedure) (x : List ℕ) (zs : List ℤ) → extents_given es (extents_in u x) ≡ Some zs → dummy_fault es u x ≡ None → IsFound es x zs
found es u x zs given_is h = go (entry_named x es) refl h
  where
    go : (o : Option Entry) → entry_named x es ≡ o → given_fault es (extents_in u x) o ≡ None → IsFound es x zs
    go None q k = absurd cc
    go (Some e) q k = record { entry = e; named = q; counted = counted e zs (ap (λ o. fault_at e.line (entry_code e o)) (sym given_is) ∙ k) }

slot_is : (es : List Entry) (u : Procedure) (x : List ℕ) (zs : List ℤ) → extents_given es (extents_in u x) ≡ Some zs → (f : IsFound es x zs) → slot_given es u x ≡ record { shape = shape_of zs; cells = f.entry.numbers }
slot_is es u x zs given_is f = λ i. slot_in (f.named i) (given_is i)

-- a list with one number
record IsOnly (zs : List ℤ) : Type 0 where
  number : ℤ
  only : zs ≡ number ∷ []

pos_same : (m n : ℕ) → pos m ≡ pos n → m ≡ n
pos_same m n h = cc

only_one : (zs : List ℤ) → pos 1 ≡ pos (length zs) → IsOnly zs
only_one [] h = absurd (omega (arith, pos_same 1 0 h))
only_one (z ∷ []) h = record { number = z; only = refl }
only_one (z ∷ y ∷ zs) h = absurd (omega (arith, pos_same 1 (suc (suc (length zs))) h))

-- ---- the store of the input

-- the first cell of a dummy is that of its slot
first_cell : (es : List Entry) (u : Procedure) (x : List ℕ) (ds : List (List ℕ)) → has_name x ds ≡ true → entry_store words ds (map (from_slot words) (map (slot_given es u) ds)) (plain x) 0 ≡ nth_cell words (slot_given es u x).cells 0
first_cell es u x [] h = absurd cc
first_cell es u x (d ∷ ds) h = go (name_eq x d) refl h (first_cell es u x ds)
  where
    later : Store ℤ
    later = entry_store words ds (map (from_slot words) (map (slot_given es u) ds))

    go : (b : Bool) → name_eq x d ≡ b → (b || has_name x ds) ≡ true → (has_name x ds ≡ true → later (plain x) 0 ≡ nth_cell words (slot_given es u x).cells 0) → (if b then nth_cell words (slot_given es u d).cells 0 else later (plain x) 0) ≡ nth_cell words (slot_given es u x).cells 0
    go true e k ih = ap (λ y. nth_cell words (slot_given es u y).cells 0) (sym (name_same x d e))
    go false e k ih = ih k

-- ---- sizes

and_both : (a b : Bool) → a ≡ true → b ≡ true → (a && b) ≡ true
and_both a b h g = ap (λ z. z && b) h ∙ g

some_rows : (n : ℕ) → (suc n == 0) ≡ false
some_rows n = grind arith

-- so many elements as extents make has the variable of their shape
size_is : (zs : List ℤ) → are_extents zs ≡ true → length zs ≤ 2 → elements zs ≡ pos (size_of (shape_of zs))
size_is [] h few = refl
size_is (pos zero ∷ zs) h few = absurd cc
size_is (negsuc a ∷ zs) h few = absurd cc
size_is (pos (suc a) ∷ []) h few =
    let one : suc a * 1 ≡ suc a = omega arith in
    pos-*ℤ-pos (suc a) 1 ∙ ap pos one ∙ ap (λ b. pos (if b then 1 else suc a)) (sym (some_rows a))
size_is (pos (suc a) ∷ pos zero ∷ zs) h few = absurd (let k = and_true (int_le (pos 1) (pos (suc a))) (are_extents (pos zero ∷ zs)) h in let q : false ≡ true = k.1 in cc)
size_is (pos (suc a) ∷ negsuc b ∷ zs) h few = absurd (let k = and_true (int_le (pos 1) (pos (suc a))) (are_extents (negsuc b ∷ zs)) h in let q : false ≡ true = k.1 in cc)
size_is (pos (suc a) ∷ pos (suc b) ∷ []) h few =
    let one : suc b * 1 ≡ suc b = omega arith in
    ap (λ z. pos (suc a) *ℤ z) (pos-*ℤ-pos (suc b) 1 ∙ ap pos one) ∙ pos-*ℤ-pos (suc a) (suc b)
    ∙ ap (λ c. pos (if c then suc a else suc a * suc b)) (sym (some_rows b)) ∙ ap (λ c. pos (if c then 1 else (if suc b == 0 then suc a else suc a * suc b))) (sym (some_rows a))
size_is (pos (suc a) ∷ pos (suc b) ∷ c ∷ zs) h few = absurd (omega arith)

same_shape : (sh : Shape) → (sh.rows == sh.rows && sh.cols == sh.cols) ≡ true
same_shape sh = and_both (sh.rows == sh.rows) (sh.cols == sh.cols) (nat_refl sh.rows) (nat_refl sh.cols)

-- an entry that has as many numbers as its extents have elements is a slot of these extents
slot_fitting : (e : Entry) (zs : List ℤ) → HasCount e zs → length zs ≤ 2 → slot_fits zs (record { shape = shape_of zs; cells = e.numbers }) ≡ true
slot_fitting e zs c few =
    let sh : Shape = shape_of zs in
    let alike = same_shape sh in
    let size : pos (length e.numbers) ≡ pos (size_of sh) = sym c.count ∙ size_is zs c.extents few in
    let many : length e.numbers ≡ size_of sh = cc in
    and_both (shape_fits zs sh) (length e.numbers == size_of sh)
    (and_both (are_extents zs) (int_le (elements zs) (pos 1048576) && (sh.rows == sh.rows && sh.cols == sh.cols)) c.extents (and_both (int_le (elements zs) (pos 1048576)) (sh.rows == sh.rows && sh.cols == sh.cols) c.few alike))
    (ap (λ n. n == size_of sh) many ∙ nat_refl (size_of sh))

-- ---- all dummies

module _ (es : List Entry) (u : Procedure) (sized : IsSized u) (sound : dummies_fault es u u.dummies ≡ None) where
  abbrev store : Store ℤ
  store = input_store words u (map (slot_given es u) u.dummies)

  -- a dummy has no fault
  sound_one : (x : List ℕ) (ds : List (List ℕ)) → dummies_fault es u ds ≡ None → has_name x ds ≡ true → dummy_fault es u x ≡ None
  sound_one x [] h k = absurd cc
  sound_one x (d ∷ ds) h k = go (name_eq x d) refl k (neither (dummy_fault es u d) (dummies_fault es u ds) h) (sound_one x ds)
    where
      go : (b : Bool) → name_eq x d ≡ b → (b || has_name x ds) ≡ true → (dummy_fault es u d ≡ None) × (dummies_fault es u ds ≡ None) → (dummies_fault es u ds ≡ None → has_name x ds ≡ true → dummy_fault es u x ≡ None) → dummy_fault es u x ≡ None
      go true e k both ih = ap (dummy_fault es u) (name_same x d e) ∙ both.0
      go false e k both ih = ih both.1 k

  -- what the data give to an extent is what it is at the entry
  given_size : (e : Extent) → IsSize u e → extent_given es e ≡ Some (extent_in words store e)
  given_size (fixed z) h = refl
  given_size (given x) h =
      let none : extents_given es (extents_in u x) ≡ Some [] = ap (extents_given es) h.1 in
      let f = found es u x [] none (sound_one x u.dummies sound h.0) in
      let one = only_one f.entry.numbers f.counted.count in
      let cell : store (plain x) 0 ≡ one.number = first_cell es u x u.dummies h.0 ∙ ap (λ v. nth_cell words v.cells 0) (slot_is es u x [] none f) ∙ ap (λ l. nth_cell words l 0) one.only in
      ap only_number f.named ∙ ap (λ l. only_number (Some (record f.entry { numbers = l }))) one.only ∙ ap Some (sym cell)

  given_sizes : (xs : List Extent) → All (IsSize u) xs → extents_given es xs ≡ Some (map (extent_in words store) xs)
  given_sizes [] h = refl
  given_sizes (e ∷ xs) h = λ i. with_first (given_size e (h 0 e (omega arith)) i) (given_sizes xs (λ k d lt. h (suc k) d (omega arith)) i)

  map_few : (xs : List Extent) → length xs ≤ 2 → length (map (extent_in words store) xs) ≤ 2
  map_few xs h = subst (λ n. n ≤ 2) (sym (length-map xs (extent_in words store))) h

  dummy_fits : (d : List ℕ) → dummy_fault es u d ≡ None → slot_fits (extents_of words u store (plain d)) (slot_given es u d) ≡ true
  dummy_fits d h =
      let zs : List ℤ = extents_of words u store (plain d) in
      let given_is = given_sizes (extents_in u d) (sized.sizes d) in
      let f = found es u d zs given_is h in
      ap (slot_fits zs) (slot_is es u d zs given_is f) ∙ slot_fitting f.entry zs f.counted (map_few (extents_in u d) (sized.few d))

  dummies_fit : (ds : List (List ℕ)) → dummies_fault es u ds ≡ None → slots_fit words u store ds (map (slot_given es u) ds) ≡ true
  dummies_fit [] h = refl
  dummies_fit (d ∷ ds) h =
      let both = neither (dummy_fault es u d) (dummies_fault es u ds) h in
      and_both (slot_fits (extents_of words u store (plain d)) (slot_given es u d)) (slots_fit words u store ds (map (slot_given es u) ds)) (dummy_fits d both.0) (dummies_fit ds both.1)

pub data_fit : DataFit
data_fit line bytes u sized h =
    let ws = data_items false line bytes in
    let both = neither (items_fault u.dummies [] ws) (dummies_fault (entries_of ws) u u.dummies) h in
    dummies_fit (entries_of ws) u sized both.1 u.dummies both.1

pub check_fit : CheckDataFit
check_fit line bytes u vars outvars sized h =
    let ws = data_items true line bytes in
    let first = neither (items_fault (titles_of u vars outvars) [] ws) (entries_check (entries_of ws) u vars outvars) h in
    let second = neither (dummies_fault (entries_of ws) u u.dummies) _ first.1 in
    dummies_fit (entries_of ws) u sized second.0 u.dummies second.0
