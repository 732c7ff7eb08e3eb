-- What cells hold, and products.
use Rattle.std.proofs.Common.{◌≡◌, ℕ, zero, suc, ◌<◌, ◌≤◌, false, List, [], ◌∷◌, map, length, get_or, refl, sym, ap, arith}
use Rattle.std.specs.Prelude.{pos, ◌==◌}
use Rattle.adj_tree.specs.declared.value.Slot.{Slot as CodeSlot}
use Rattle.def_meaning.specs.Numbers.{Numbers, words}
use Rattle.def_meaning.specs.Units.{Slot, nth_cell}
use Rattle.def_jacobian.specs.Patterns.{Place, held}
use Rattle.def_jacobian.specs.Groups.{in_group, group_of}
use Rattle.adj_interp.specs.Concludes.{slot_seen}
use Rattle.adj_jacobian.specs.Products.{tangent_in}

-- a cell of a list
pub nth_is : {C : Type 0} (n : Numbers C) (cs : List C) (j : ℕ) → nth_cell n cs j ≡ get_or cs j (n.of_word (pos 0))
nth_is n [] j = refl
nth_is n (c ∷ cs) zero = refl
nth_is n (c ∷ cs) (suc j) = nth_is n cs j

pub nth_at : {C : Type 0} (n : Numbers C) (cs : List C) (j : ℕ) (d : C) → j < length cs → nth_cell n cs j ≡ get_or cs j d
nth_at n [] j d h = absurd (omega (arith, h))
nth_at n (c ∷ cs) zero d h = refl
nth_at n (c ∷ cs) (suc j) d h = nth_at n cs j d (omega (arith, h))

pub nth_past : {C : Type 0} (n : Numbers C) (cs : List C) (j : ℕ) → length cs ≤ j → nth_cell n cs j ≡ n.of_word (pos 0)
nth_past n [] j h = refl
nth_past n (c ∷ cs) zero h = absurd (omega (arith, h))
nth_past n (c ∷ cs) (suc j) h = nth_past n cs j (omega (arith, h))

-- a cell of slots that are seen
pub held_at : {A C : Type 0} (n : Numbers C) (f : A → Slot C) (vs : List A) (i j : ℕ) (v : A) → i < length vs → v ≡ get_or vs i v → held n (map f vs) i j ≡ nth_cell n (f v).cells j
held_at n f [] i j v h e = absurd (omega (arith, h))
held_at n f (x ∷ xs) zero j v h e = ap (λ z. nth_cell n (f z).cells j) (sym e)
held_at n f (x ∷ xs) (suc i) j v h e = held_at n f xs i j v (omega (arith, h)) e

pub held_past : {A C : Type 0} (n : Numbers C) (f : A → Slot C) (vs : List A) (i j : ℕ) → length vs ≤ i → held n (map f vs) i j ≡ n.of_word (pos 0)
held_past n f [] i j h = refl
held_past n f (x ∷ xs) zero j h = absurd (omega (arith, h))
held_past n f (x ∷ xs) (suc i) j h = held_past n f xs i j (omega (arith, h))

-- ---- products

pub product_at : (ps : List (List CodeSlot)) (g : ℕ) (a : Place) (p : List CodeSlot) → g < length ps → p ≡ get_or ps g p → tangent_in ps g a ≡ held words (map slot_seen p) a.dummy a.cell
product_at [] g a p h e = absurd (omega (arith, h))
product_at (x ∷ xs) zero a p h e = ap (λ z. held words (map slot_seen z) a.dummy a.cell) (sym e)
product_at (x ∷ xs) (suc g) a p h e = product_at xs g a p (omega (arith, h)) e

pub product_past : (ps : List (List CodeSlot)) (g : ℕ) (a : Place) → length ps ≤ g → tangent_in ps g a ≡ pos 0
product_past [] g a h = refl
product_past (x ∷ xs) zero a h = absurd (omega (arith, h))
product_past (x ∷ xs) (suc g) a h = product_past xs g a (omega (arith, h))

-- ---- groups

pub group_is : (groups : List ℕ) (c : ℕ) → group_of groups c ≡ get_or groups c 0
group_is [] c = refl
group_is (h ∷ hs) zero = refl
group_is (h ∷ hs) (suc c) = group_is hs c

pub in_group_at : (groups : List ℕ) (g c d : ℕ) → c < length groups → in_group groups g c ≡ (get_or groups c d == g)
in_group_at [] g c d h = absurd (omega (arith, h))
in_group_at (k ∷ ks) g zero d h = refl
in_group_at (k ∷ ks) g (suc c) d h = in_group_at ks g c d (omega (arith, h))

pub in_group_past : (groups : List ℕ) (g c : ℕ) → length groups ≤ c → in_group groups g c ≡ false
in_group_past [] g c h = refl
in_group_past (k ∷ ks) g zero h = absurd (omega (arith, h))
in_group_past (k ∷ ks) g (suc c) h = in_group_past ks g c (omega (arith, h))
