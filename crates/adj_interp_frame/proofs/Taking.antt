-- What whole variables take back from the slots of a unit of scalars.
use Rattle.std.proofs.Common.{◌≡◌, ◌+◌, ℕ, zero, suc, ◌<◌, ◌≤◌, Bool, true, false, List, [], ◌∷◌, length, get_or, drop, refl, sym, ap, ◌∙◌, arith, if◌then◌else◌}
use Rattle.std.specs.Prelude.{◌==◌, ◌&&◌, nat_lt}
use Rattle.std.proofs.lemmas.List.{drop_all, length-drop, get_or-map, length-map}
use Rattle.adj_tree.specs.Code.{Var, var_eq}
use Rattle.def_meaning.specs.Numbers.{Numbers}
use Rattle.def_meaning.specs.Store as store
use Rattle.def_meaning.specs.Store.{Shape, size_of, Store}
use Rattle.def_meaning.specs.Units.{Actual, copied_out}
use Rattle.def_meaning.proofs.Variables.{var_same}
use Rattle.adj_interp_frame.specs.declared.slot.Slot.{Slot}
use Rattle.adj_interp_frame.specs.declared.actual.Actual.{Actual as CodeActual}
use Rattle.adj_interp_frame.specs.declared.actual.Actual.TheVariants as actual
use Rattle.adj_interp_frame.specs.declared.routine.Routine.{Routine}
use Rattle.adj_interp_frame.specs.Prepared.{var_at}
use Rattle.adj_interp_frame.specs.Shown.{Shows}
use Rattle.adj_interp_frame.specs.Called.{actual_in, actuals_in, handed, IsLaidOut}
use Rattle.adj_interp_frame.proofs.Returning.{no_flags, from_on, out_next, out_end}

-- the first of the members from a number on is the one of that number, and the others are those from the next on
pub next_of : {A : Type 0} (all left : List A) (a d : A) (i : ℕ) → a ∷ left ≡ drop i all → (i < length all) × (get_or all i d ≡ a) × (left ≡ drop (i + 1) all)
next_of [] left a d zero h = absurd cc
next_of [] left a d (suc i) h = absurd cc
next_of (x ∷ all) left a d zero h = (omega arith, let s : a ≡ x = cc in sym s, cc)
next_of (x ∷ all) left a d (suc i) h =
    let k = next_of all left a d i h in
    let lt = k.0 in
    let n : suc (i + 1) ≡ suc i + 1 = omega arith in
    (omega (arith, lt), k.1, k.2 ∙ ap (λ m. drop m (x ∷ all)) n)

-- and where there are none, the number is past the last
pub none_from : {A : Type 0} (all : List A) (i : ℕ) → [] ≡ drop i all → length all ≤ i
none_from all i h = let n = ap length h ∙ length-drop i all in omega (arith, n)

module _ {C : Type 0} where
  module _ (r : Routine) (names : List (List ℕ)) (shape : Var → Shape) (s0 t : Store C) (all : List (CodeActual C)) where
    -- one whole variable, and then those behind it
    pub out_whole : IsLaidOut r → (i k : ℕ) → i < length r.unit.now.dummies → i < length r.writes.now → i < length all → get_or all i (actual.Whole k) ≡ actual.Whole k → (z : Store C) → from_on r (actuals_in names shape s0 all) t i z ≡ from_on r (actuals_in names shape s0 all) t (i + 1) (if get_or r.writes.now i false then store.set_all z (var_at names k) (t (var_at r.names i)) else z)
    out_whole l i k m n lt at z =
        let f = actual_in names shape s0 in
        let many = length-map all f in
        let place = ap (λ (a : Actual C). a.place) (get_or-map f all i (actual.Whole k) (f (actual.Whole k)) lt ∙ ap f at) in
        let dummy : nat_lt i (length r.unit.now.dummies) ≡ true = grind (arith, m) in
        let flag : nat_lt i (length r.writes.now) ≡ true = grind (arith, n) in
        out_next r (actuals_in names shape s0 all) t l i (f (actual.Whole k)) z (omega (arith, lt, many))
        ∙ ap (λ p. from_on r (actuals_in names shape s0 all) t (i + 1) (handed r i p t z)) place
        ∙ (λ j. from_on r (actuals_in names shape s0 all) t (i + 1) (if dummy j && (flag j && get_or r.writes.now i false) then store.set_all z (var_at names k) (t (var_at r.names i)) else z))

    -- behind the last one nothing is left
    pub out_last : (i : ℕ) (z : Store C) → [] ≡ drop i all → from_on r (actuals_in names shape s0 all) t i z ≡ z
    out_last i z h =
        let past = none_from all i h in
        let many = length-map all (actual_in names shape s0) in
        out_end r (actuals_in names shape s0 all) t i z (omega (arith, past, many))

  -- behind the last dummy or the last flag nothing is left
  pub out_past : (r : Routine) (got : List (Actual C)) (t : Store C) (i : ℕ) (z : Store C) → (i < length r.unit.now.dummies → i < length r.writes.now → ⊥) → from_on r got t i z ≡ z
  out_past r got t i z h = go (nat_lt i (length r.unit.now.dummies)) refl
    where
      go : (b : Bool) → nat_lt i (length r.unit.now.dummies) ≡ b → from_on r got t i z ≡ z
      go true e =
          let m : i < length r.unit.now.dummies = grind arith in
          ap (λ ws. copied_out (drop i r.unit.now.dummies) ws (drop i got) t z) (drop_all i r.writes.now (omega (arith, h m))) ∙ no_flags (drop i r.unit.now.dummies) (drop i got) t z
      go false e =
          let m : length r.unit.now.dummies ≤ i = grind arith in
          ap (λ ds. copied_out ds (drop i r.writes.now) (drop i got) t z) (drop_all i r.unit.now.dummies m)

module _ {C : Type 0} (numbers : Numbers C) where
  -- the slots show a store from which the rest gives the whole
  pub record Taken (names : List (List ℕ)) (vs : List (Slot C)) (shape : Var → Shape) (whole : Store C) (rest : Store C → Store C) : Type 0 where
    pub store : Store C
    pub shown : Shows numbers names vs shape store
    pub same : whole ≡ rest store

  -- where a variable has one cell, slots that show a store with a number there show it with all cells of the variable
  pub shown_whole : (names : List (List ℕ)) (vs : List (Slot C)) (shape : Var → Shape) (z : Store C) (x : Var) (n : C) (cs : ℕ → C) → size_of (shape x) ≡ 1 → n ≡ cs 0 → Shows numbers names vs shape (store.set z x 0 n) → Shows numbers names vs shape (store.set_all z x cs)
  shown_whole names vs shape z x n cs one e h = record { shapes = h.shapes; cells = λ y j lt. same y j lt (var_eq y x) refl ∙ h.cells y j lt }
    where
      same : (y : Var) (j : ℕ) → j < size_of (shape y) → (b : Bool) → var_eq y x ≡ b → (if b then cs j else z y j) ≡ (if b && (j == 0) then n else z y j)
      same y j lt true q =
          let at = ap (λ v. size_of (shape v)) (var_same y x q) in
          let first : j ≡ 0 = omega (arith, lt, at, one) in
          ap cs first ∙ sym e ∙ ap (λ k. if k == 0 then n else z y j) (sym first)
      same y j lt false q = refl
