-- What the slot of a number says of its variable.
use Rattle.std.proofs.Common.{◌≡◌, ℕ, zero, suc, ◌<◌, false, List, [], ◌∷◌, length, get_or, refl, ap, sym, ◌∙◌, arith, if◌then◌else◌}
use Rattle.std.specs.Prelude.{ℤ, Result, Ok, Err, Option, Some, None, IfOk}
use Rattle.adj_tree.specs.Code.{Var, name_eq}
use Rattle.adj_tree.specs.declared.value.Trap.{Trap as CodeTrap}
use Rattle.adj_tree.proofs.Names.{name_refl}
use Rattle.def_meaning.specs.Trap.{Trap, index, then_ok, or_trap}
use Rattle.def_meaning.specs.Numbers.{Numbers}
use Rattle.def_meaning.specs.Store.{scalar, size_of, cell_of}
use Rattle.def_meaning.specs.Value.{Setting, cell_at}
use Rattle.def_meaning.specs.Apart.{has_name, AreApart}
use Rattle.def_meaning.proofs.Booleans.{or_false}
use Rattle.def_meaning.proofs.Variables.{name_comm}
use Rattle.def_meaning.proofs.Cells.{size_positive, cell_below}
use Rattle.adj_interp_frame.specs.declared.slot.Slot.{Slot}
use Rattle.adj_interp_frame.specs.Prepared.{var_at}
use Rattle.adj_interp_frame.specs.Framed.{result_of, in_slot, slot_shape, IsSlot, IsFrame, shapes_in, zero_in, store_in, setting_in_slots}

-- a name among others that don't hold one differs from it
pub other_name : (y : List ℕ) (ys : List (List ℕ)) (i : ℕ) → has_name y ys ≡ false → i < length ys → name_eq (get_or ys i []) y ≡ false
other_name y [] i h lt = absurd (omega arith)
other_name y (e ∷ es) zero h lt = name_comm y e (or_false (name_eq y e) (has_name y es) h).0
other_name y (e ∷ es) (suc i) h lt = other_name y es i (or_false (name_eq y e) (has_name y es) h).1 (omega arith)

-- ---- results in turn

-- what goes on from a result that was found
pub chained : {A B C : Type 0} (v : Result A Trap) (f : A → Result B Trap) (g : B → Result C Trap) (b : B) → Ok b ≡ then_ok v f → then_ok v (λ a. then_ok (f a) g) ≡ g b
chained (Ok a) f g b h = ap (λ r. then_ok r g) (sym h)
chained (Err t) f g b h = absurd cc

-- what goes on from one that is known, and a trap
pub went_on : {A B : Type 0} (v : Result A Trap) (f : A → Result B Trap) (a : A) → Ok a ≡ v → f a ≡ then_ok v f
went_on v f a h = ap (λ r. then_ok r f) h

pub trapped : {A B : Type 0} (v : Result A Trap) (f : A → Result B Trap) (t : Trap) → Err t ≡ v → Err t ≡ then_ok v f
trapped v f t h = ap (λ r. then_ok r f) h

module _ {C : Type 0} where
  -- the name of a number has the slot of that number
  pub at_number : {A : Type 0} (other : A) (f : Slot C → A) (names : List (List ℕ)) (vs : List (Slot C)) (i : ℕ) (d : Slot C) → AreApart names → length names ≡ length vs → i < length vs → in_slot other f names vs (get_or names i []) ≡ f (get_or vs i d)
  at_number other f [] [] i d apart len lt = absurd (omega arith)
  at_number other f [] (v ∷ vs) i d apart len lt = absurd (omega arith)
  at_number other f (y ∷ ys) [] i d apart len lt = absurd (omega arith)
  at_number other f (y ∷ ys) (v ∷ vs) zero d apart len lt = ap (λ b. if b then f v else in_slot other f ys vs y) (name_refl y)
  at_number other f (y ∷ ys) (v ∷ vs) (suc i) d apart len lt =
      ap (λ b. if b then f v else in_slot other f ys vs (get_or ys i [])) (other_name y ys i apart.0 (omega arith)) ∙ at_number other f ys vs i d apart.1 (omega arith) (omega arith)

  -- a slot has a first cell
  pub has_first : (v : Slot C) → IsSlot v → 0 < length v.cells.items
  has_first v h = let p = size_positive (slot_shape v) in omega (arith, p, h)

  -- its shape
  pub read_shape : (names : List (List ℕ)) (vs : List (Slot C)) (i : ℕ) (d : Slot C) → IsFrame names vs → i < length vs → shapes_in names vs (var_at names i) ≡ slot_shape (get_or vs i d)
  read_shape names vs i d f lt = at_number scalar slot_shape names vs i d f.apart f.each lt

  -- a cell that subscripts name is one of the variable's
  pub cell_within : (v : Result (List ℤ) Trap) (n : Setting C) (x : Var) (j : ℕ) → Ok j ≡ then_ok v (λ is. cell_at n x is) → j < size_of (n.shape x)
  cell_within (Ok is) n x j h = go (cell_of (n.shape x) is) refl h
    where
      go : (o : Option ℕ) → cell_of (n.shape x) is ≡ o → Ok j ≡ or_trap index o → j < size_of (n.shape x)
      go (Some k) e h = let s : k ≡ j = cc in cell_below (n.shape x) is j (e ∙ ap Some s)
      go None e h = absurd cc
  cell_within (Err t) n x j h = absurd cc

module _ {C : Type 0} (numbers : Numbers C) where
  -- ---- in the setting and the store of an entry

  -- what the cells of a variable hold
  pub read_cell : (names : List (List ℕ)) (vs : List (Slot C)) (i : ℕ) (d : Slot C) (j : ℕ) → IsFrame names vs → i < length vs → store_in numbers names vs (var_at names i) j ≡ get_or (get_or vs i d).cells.items j (zero_in numbers)
  read_cell names vs i d j f lt = at_number (zero_in numbers) (λ v. get_or v.cells.items j (zero_in numbers)) names vs i d f.apart f.each lt

  -- such a cell is in the variable's slot
  pub cell_there : (names : List (List ℕ)) (vs : List (Slot C)) (i : ℕ) (d : Slot C) (v : Result (List ℤ) Trap) (j : ℕ) → IsFrame names vs → i < length vs → Ok j ≡ then_ok v (λ is. cell_at (setting_in_slots numbers names vs) (var_at names i) is) → j < length (get_or vs i d).cells.items
  cell_there names vs i d v j f lt h =
      let b = cell_within v (setting_in_slots numbers names vs) (var_at names i) j h in
      let s = ap size_of (read_shape names vs i d f lt) in
      let k = f.sized i d lt in
      omega (arith, b, s, k)

  -- the values of one expression and no others
  pub only_one : {B : Type 0} (v : Result C Trap) (ws : Result (List ℤ) Trap) (f : List ℤ → Result B Trap) (z : C) → Ok z ≡ v → ws ≡ Ok [] → then_ok (then_ok v (λ u. then_ok ws (λ us. Ok (numbers.shown u ∷ us)))) f ≡ f (numbers.shown z ∷ [])
  only_one v ws f z e h = ap (λ r. then_ok (then_ok r (λ u. then_ok ws (λ us. Ok (numbers.shown u ∷ us)))) f) (sym e) ∙ ap (λ r. then_ok (then_ok r (λ us. Ok (numbers.shown z ∷ us))) f) h

  -- the values of expressions of which the first is known
  pub first_known : {B : Type 0} (v : Result C Trap) (ws : Result (List ℤ) Trap) (f : List ℤ → Result B Trap) (z : C) → Ok z ≡ v → then_ok (then_ok v (λ u. then_ok ws (λ us. Ok (numbers.shown u ∷ us)))) f ≡ then_ok ws (λ us. f (numbers.shown z ∷ us))
  first_known v (Ok us) f z e = ap (λ r. then_ok (then_ok r (λ u. Ok (numbers.shown u ∷ us))) f) (sym e)
  first_known v (Err t) f z e = ap (λ r. then_ok (then_ok r (λ u. Err t)) f) (sym e)

  -- and of which the first traps
  pub first_trap : {B : Type 0} (v : Result C Trap) (ws : Result (List ℤ) Trap) (f : List ℤ → Result B Trap) (t : Trap) → Err t ≡ v → then_ok (then_ok v (λ u. then_ok ws (λ us. Ok (numbers.shown u ∷ us)))) f ≡ Err t
  first_trap v ws f t e = ap (λ r. then_ok (then_ok r (λ u. then_ok ws (λ us. Ok (numbers.shown u ∷ us)))) f) (sym e)

  -- so is a cell that the code found
  pub found_there : (names : List (List ℕ)) (vs : List (Slot C)) (i : ℕ) (v : Result (List ℤ) Trap) → IsFrame names vs → i < length vs → (r : Result ℕ CodeTrap) → result_of r ≡ then_ok v (λ is. cell_at (setting_in_slots numbers names vs) (var_at names i) is) → IfOk r (λ j. (d : Slot C) → j < length (get_or vs i d).cells.items)
  found_there names vs i v f lt (Ok j) h = λ d. cell_there names vs i d v j f lt h
  found_there names vs i v f lt (Err t) h = tt
