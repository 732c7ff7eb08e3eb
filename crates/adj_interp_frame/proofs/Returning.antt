-- What is handed back, dummy by dummy.
use Rattle.std.proofs.Common.{◌≡◌, ℕ, ◌+◌, ◌<◌, ◌≤◌, Bool, true, false, List, [], ◌∷◌, length, get_or, drop, refl, sym, ap, subst, ◌∙◌, arith, if◌then◌else◌}
use Rattle.std.specs.Prelude.{nat_lt, ◌&&◌}
use Rattle.std.proofs.lemmas.List.{drop_all, drop_more, get_or_append_left, length-append}
use Rattle.adj_tree.specs.Code.{Var, plain}
use Rattle.def_meaning.specs.Numbers.{Numbers}
use Rattle.def_meaning.specs.Store.{Shape, Store}
use Rattle.def_meaning.specs.Units.{put, Actual, copied_out}
use Rattle.def_meaning.proofs.Booleans.{and_true}
use Rattle.adj_interp_frame.specs.declared.slot.Slot.{Slot}
use Rattle.adj_interp_frame.specs.declared.actual.Actual.{Actual as CodeActual}
use Rattle.adj_interp_frame.specs.declared.actual.Actual.TheVariants as actual
use Rattle.adj_interp_frame.specs.declared.routine.Routine.{Routine}
use Rattle.adj_interp_frame.specs.Prepared.{var_at}
use Rattle.adj_interp_frame.specs.Lent.{IsFirst, ShowsHeld}
use Rattle.adj_interp_frame.specs.Called.{actual_in, place_of, is_written_at, handed, IsLaidOut}

-- a dummy that is written is one of the variables
pub written_there : (r : Routine) → IsLaidOut r → (i : ℕ) → is_written_at r i ≡ true → i < length r.names
written_there r l i h =
    let p = and_true (nat_lt i (length r.unit.now.dummies)) (nat_lt i (length r.writes.now) && get_or r.writes.now i false) h in
    let m : i < length r.unit.now.dummies = grind (arith, p.0) in
    let n = length-append r.unit.now.dummies l.others in
    subst (λ ns. i < length ns) (sym l.names) (omega (arith, m, n))

module _ {C : Type 0} where
  -- an actual's place is known without the store
  pub place_is : (names : List (List ℕ)) (shape : Var → Shape) (s : Store C) (a : CodeActual C) → (actual_in names shape s a).place ≡ place_of names a
  place_is names shape s (actual.Whole i) = refl
  place_is names shape s (actual.Cell i j w) = refl
  place_is names shape s (actual.Word w) = refl

  -- without dummies, flags or actuals nothing is copied
  pub no_flags : (ds : List (List ℕ)) (got : List (Actual C)) (t s : Store C) → copied_out ds [] got t s ≡ s
  no_flags [] got t s = refl
  no_flags (d ∷ ds) got t s = refl

  pub no_actuals : (ds : List (List ℕ)) (ws : List Bool) (t s : Store C) → copied_out ds ws [] t s ≡ s
  no_actuals [] ws t s = refl
  no_actuals (d ∷ ds) [] t s = refl
  no_actuals (d ∷ ds) (w ∷ ws) t s = refl

  module _ (r : Routine) (got : List (Actual C)) (t : Store C) where
    -- what is copied from the variable of a number on
    abbrev pub from_on : ℕ → Store C → Store C
    from_on i s = copied_out (drop i r.unit.now.dummies) (drop i r.writes.now) (drop i got) t s

    -- one dummy, and then those behind it
    pub out_next : (l : IsLaidOut r) (i : ℕ) (a : Actual C) (s : Store C) → i < length got → from_on i s ≡ from_on (i + 1) (handed r i (get_or got i a).place t s)
    out_next l i a s lt = dummy (nat_lt i (length r.unit.now.dummies)) refl
      where
        flag : (b : Bool) → i < length r.unit.now.dummies → nat_lt i (length r.unit.now.dummies) ≡ true → nat_lt i (length r.writes.now) ≡ b → copied_out (drop i r.unit.now.dummies) (drop i r.writes.now) (drop i got) t s ≡ copied_out (drop (i + 1) r.unit.now.dummies) (drop (i + 1) r.writes.now) (drop (i + 1) got) t (if nat_lt i (length r.unit.now.dummies) && (nat_lt i (length r.writes.now) && get_or r.writes.now i false) then put (get_or got i a).place (t (var_at r.names i)) s else s)
        flag true m e f =
            let n : i < length r.writes.now = grind arith in
            let name = ap (λ ns. get_or ns i []) l.names ∙ get_or_append_left r.unit.now.dummies l.others [] i m in
            (λ k. copied_out (drop_more r.unit.now.dummies i [] m k) (drop_more r.writes.now i false n k) (drop_more got i a lt k) t s)
            ∙ ap (λ x. copied_out (drop (i + 1) r.unit.now.dummies) (drop (i + 1) r.writes.now) (drop (i + 1) got) t (if get_or r.writes.now i false then put (get_or got i a).place (t (plain x)) s else s)) (sym name)
            ∙ (λ k. copied_out (drop (i + 1) r.unit.now.dummies) (drop (i + 1) r.writes.now) (drop (i + 1) got) t (if sym e k && (sym f k && get_or r.writes.now i false) then put (get_or got i a).place (t (var_at r.names i)) s else s))
        flag false m e f =
            let n : length r.writes.now ≤ i = grind arith in
            ap (λ ws. copied_out (drop i r.unit.now.dummies) ws (drop i got) t s) (drop_all i r.writes.now n)
            ∙ no_flags (drop i r.unit.now.dummies) (drop i got) t s
            ∙ sym (no_flags (drop (i + 1) r.unit.now.dummies) (drop (i + 1) got) t s)
            ∙ ap (λ ws. copied_out (drop (i + 1) r.unit.now.dummies) ws (drop (i + 1) got) t s) (sym (drop_all (i + 1) r.writes.now (omega (arith, n))))
            ∙ (λ k. copied_out (drop (i + 1) r.unit.now.dummies) (drop (i + 1) r.writes.now) (drop (i + 1) got) t (if sym e k && (sym f k && get_or r.writes.now i false) then put (get_or got i a).place (t (var_at r.names i)) s else s))

        dummy : (b : Bool) → nat_lt i (length r.unit.now.dummies) ≡ b → copied_out (drop i r.unit.now.dummies) (drop i r.writes.now) (drop i got) t s ≡ copied_out (drop (i + 1) r.unit.now.dummies) (drop (i + 1) r.writes.now) (drop (i + 1) got) t (if nat_lt i (length r.unit.now.dummies) && (nat_lt i (length r.writes.now) && get_or r.writes.now i false) then put (get_or got i a).place (t (var_at r.names i)) s else s)
        dummy true e = let m : i < length r.unit.now.dummies = grind arith in flag (nat_lt i (length r.writes.now)) m e refl
        dummy false e =
            let m : length r.unit.now.dummies ≤ i = grind arith in
            ap (λ ds. copied_out ds (drop i r.writes.now) (drop i got) t s) (drop_all i r.unit.now.dummies m)
            ∙ ap (λ ds. copied_out ds (drop (i + 1) r.writes.now) (drop (i + 1) got) t s) (sym (drop_all (i + 1) r.unit.now.dummies (omega (arith, m))))
            ∙ (λ k. copied_out (drop (i + 1) r.unit.now.dummies) (drop (i + 1) r.writes.now) (drop (i + 1) got) t (if sym e k && (nat_lt i (length r.writes.now) && get_or r.writes.now i false) then put (get_or got i a).place (t (var_at r.names i)) s else s))

    -- behind the last actual nothing is left
    pub out_end : (i : ℕ) (s : Store C) → length got ≤ i → from_on i s ≡ s
    out_end i s n = ap (λ as'. copied_out (drop i r.unit.now.dummies) (drop i r.writes.now) as' t s) (drop_all i got n) ∙ no_actuals (drop i r.unit.now.dummies) (drop i r.writes.now) t s

module _ {C : Type 0} (numbers : Numbers C) where
  -- the slots that have cells show a store from which the rest gives the whole, and which is as it was where no actual so far is
  pub record Comes (all : List (CodeActual C)) (i : ℕ) (names : List (List ℕ)) (vs : List (Slot C)) (shape : Var → Shape) (s whole : Store C) (rest : Store C → Store C) : Type 0 where
    pub store : Store C
    pub shown : ShowsHeld numbers names vs shape store
    pub same : whole ≡ rest store
    pub untouched : (k j : ℕ) → k < length names → IsFirst all i k → store (var_at names k) j ≡ s (var_at names k) j

-- a dummy that is written is one
pub written_dummy : (r : Routine) (i : ℕ) → is_written_at r i ≡ true → i < length r.unit.now.dummies
written_dummy r i h =
    let p = and_true (nat_lt i (length r.unit.now.dummies)) (nat_lt i (length r.writes.now) && get_or r.writes.now i false) h in
    grind (arith, p.0)

-- a dummy is one of the variables
pub dummy_there : (r : Routine) → IsLaidOut r → (i : ℕ) → i < length r.unit.now.dummies → i < length r.names
dummy_there r l i m =
    let n = length-append r.unit.now.dummies l.others in
    subst (λ ns. i < length ns) (sym l.names) (omega (arith, m, n))
