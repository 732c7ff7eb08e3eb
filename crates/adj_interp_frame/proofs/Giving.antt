-- What an actual gives in the store that slots show.
use Rattle.std.proofs.Common.{◌≡◌, ℕ, ◌<◌, List, length, get_or, sym, ap, ◌∙◌, arith}
use Rattle.std.specs.Prelude.{Result, Ok, Err, Option}
use Rattle.adj_tree.specs.Code.{Var, Terms, elem}
use Rattle.adj_tree.specs.declared.value.Trap.{Trap as CodeTrap}
use Rattle.def_meaning.specs.Trap.{Trap, index, then_ok, or_trap}
use Rattle.def_meaning.specs.Numbers.{Numbers}
use Rattle.def_meaning.specs.Store.{Shape, size_of, Store, cell_of}
use Rattle.def_meaning.specs.Value.{Setting, values, cell_at}
use Rattle.def_meaning.specs.Units.{Actual, actual_of, one_word, cell}
use Rattle.adj_interp_frame.specs.declared.slot.Slot.{Slot}
use Rattle.adj_interp_frame.specs.declared.term.Term.{Term}
use Rattle.adj_interp_frame.specs.Prepared.{var_at, term_in}
use Rattle.adj_interp_frame.specs.Framed.{trap_of, IsFrame, zero_in, store_in, setting_in_slots}
use Rattle.adj_interp_frame.specs.Shown.{on_numbers, Shows}
use Rattle.adj_interp_frame.specs.Called.{word_of}
use Rattle.adj_interp_frame.proofs.Reading.{read_cell, read_shape, chained}
use Rattle.adj_interp_frame.proofs.Showing.{values_shown}

-- a trap in the first of two parts
pub chained_err : {A B C : Type 0} (v : Result A Trap) (f : A → Result B Trap) (g : B → Result C Trap) (t : Trap) → Err t ≡ then_ok v f → then_ok v (λ a. then_ok (f a) g) ≡ Err t
chained_err (Ok a) f g t h = ap (λ r. then_ok r g) (sym h)
chained_err (Err d) f g t h = let s : d ≡ t = cc in ap Err s

module _ {C : Type 0} where
  -- an expression that has no place is its word
  pub word_at : (names : List (List ℕ)) (n : Setting C) (s : Store C) (r : Result (Actual C) Trap) (t u : Term) → r ≡ word_of n (term_in names t) s → t ≡ u → word_of n (term_in names u) s ≡ actual_of n (term_in names u) s → r ≡ actual_of n (term_in names t) s
  word_at names n s r t u p e q = p ∙ ap (λ z. word_of n (term_in names z) s) e ∙ q ∙ sym (ap (λ z. actual_of n (term_in names z) s) e)

module _ {C : Type 0} (numbers : Numbers C) where
  module _ (names : List (List ℕ)) (vs : List (Slot C)) (shape : Var → Shape) where
    -- a cell of a slot is the store's
    pub shown_cell : (s : Store C) → Shows numbers names vs shape s → (i : ℕ) (d : Slot C) (j : ℕ) → IsFrame names vs → i < length vs → j < length (get_or vs i d).cells.items → s (var_at names i) j ≡ get_or (get_or vs i d).cells.items j (zero_in numbers)
    shown_cell s h i d j f there lt =
        let size = ap size_of (h.shapes (var_at names i) ∙ read_shape names vs i d f there) in
        let sized = f.sized i d there in
        h.cells (var_at names i) j (omega (arith, lt, size, sized)) ∙ read_cell numbers names vs i d j f there

    module _ (room : Option ℕ) (level : ℕ) (s : Store C) (h : Shows numbers names vs shape s) (x : Var) (subs : Terms) where
      abbrev given_cell : ℕ → Result (Actual C) Trap
      given_cell i = Ok (one_word (s x i) (cell x i))

      in_slots : actual_of (on_numbers numbers shape room level) (elem x subs) s ≡ then_ok (values (setting_in_slots numbers names vs) subs (store_in numbers names vs)) (λ is. then_ok (cell_at (setting_in_slots numbers names vs) x is) given_cell)
      in_slots = λ i. then_ok (values_shown numbers names vs shape room level s h subs i) (λ is. then_ok (or_trap index (cell_of (h.shapes x i) is)) given_cell)

      -- an element whose cell is found
      pub elem_ok : (j : ℕ) → Ok j ≡ then_ok (values (setting_in_slots numbers names vs) subs (store_in numbers names vs)) (λ is. cell_at (setting_in_slots numbers names vs) x is) → actual_of (on_numbers numbers shape room level) (elem x subs) s ≡ Ok (one_word (s x j) (cell x j))
      elem_ok j q = in_slots ∙ chained (values (setting_in_slots numbers names vs) subs (store_in numbers names vs)) (λ is. cell_at (setting_in_slots numbers names vs) x is) given_cell j q

      -- and one that traps
      pub elem_err : (t : CodeTrap) → Err (trap_of t) ≡ then_ok (values (setting_in_slots numbers names vs) subs (store_in numbers names vs)) (λ is. cell_at (setting_in_slots numbers names vs) x is) → actual_of (on_numbers numbers shape room level) (elem x subs) s ≡ Err (trap_of t)
      elem_err t q = in_slots ∙ chained_err (values (setting_in_slots numbers names vs) subs (store_in numbers names vs)) (λ is. cell_at (setting_in_slots numbers names vs) x is) given_cell (trap_of t) q
