-- What is no adjoint: by one input, adjoints of the dependents and a direction at which it fails.
use Rattle.std.proofs.Common.{◌≡◌, ℕ, List, [], ◌∷◌, map, Bool, true, false, refl, sym, ap, ◌∙◌, subst, arith}
use Rattle.std.specs.Prelude.{ℤ, pos, length, reverse, Option, Some, None}
use Rattle.adj_tree.specs.Code.{stop, Procedure}
use Rattle.def_meaning.specs.Store.{scalar}
use Rattle.def_meaning.specs.Numbers.{Numbers, words, duals}
use Rattle.def_meaning.specs.Scene.{Outcome, Done, Trapped, More, Full, IsMore}
use Rattle.def_meaning.specs.Written.{find_unit}
use Rattle.def_meaning.specs.Units.{Slot, Output, fits, run_unit}
use Rattle.law_meaning.proofs.Costs.{one_end}
use Rattle.def_sweep.specs.Declared.{unit_at}
use Rattle.def_sweep.specs.MarkedAdjoint.{shadow_flags, shadow_cells, joined_by}
use Rattle.def_sweep.specs.Tangents.{Ends, AreAlike, AreTangents, OthersAreZero, IsDirection, cells_of, with_direction, tangents_of, product}
use Rattle.def_sweep.specs.Marking.{ProgramMarks}
use Rattle.def_sweep.specs.Names.{adjoint_name}
use Rattle.def_sweep.specs.Adjoint.{TransposesBy, IsAdjoint}
use Rattle.def_sweep.specs.Reversals.{LoopRun, Reversal, AreReversed, runs_in, reversals_in}

-- ---- runs that are computed

-- what a run gives, and how many statements it used
abbrev pub output_in : {C : Type 0} → Outcome (Output C) → Output C
output_in (Done output used) = output
output_in (Trapped t line w) = record { slots = []; tape = []; events = [] }
output_in (More w) = record { slots = []; tape = []; events = [] }
output_in (Full w) = record { slots = []; tape = []; events = [] }

abbrev pub used_in : {C : Type 0} → Outcome (Output C) → ℕ
used_in (Done output used) = used
used_in (Trapped t line w) = 0
used_in (More w) = 0
used_in (Full w) = 0

-- whether a run is done
abbrev pub is_done : {A : Type 0} → Outcome A → Bool
is_done (Done a k) = true
is_done (Trapped t line w) = false
is_done (More w) = false
is_done (Full w) = false

-- it had enough statements
abbrev pub IsOver : {C : Type 0} → Numbers C → List Procedure → Procedure → List (Slot C) → ℕ → Type 0
IsOver n ps u input least = IsMore (run_unit n ps u input [] None least) → ⊥

-- where a run ends, one that was computed and is over ends alike
ends_so : {C : Type 0} (n : Numbers C) (ps : List Procedure) (u : Procedure) (input : List (Slot C)) (least : ℕ) (e : Ends n ps u input) → IsOver n ps u input least → run_unit n ps u input [] None least ≡ Done e.output e.used
ends_so n ps u input least e over =
    let at_end = e.runs e.enough (omega arith) in
    one_end n ps u input [] None least e.enough over (λ h. subst IsMore at_end h) ∙ at_end

some_same : {A : Type 0} (a b : A) → (let o : Option A = Some a in o ≡ Some b) → a ≡ b
some_same a b h = cc

one_same : {A : Type 0} (a b : A) → a ∷ [] ≡ b ∷ [] → a ≡ b
one_same a b h = cc

abbrev pub is_none : {A : Type 0} → List A → Bool
is_none [] = true
is_none (x ∷ xs) = false

-- where no loop is to be reversed nothing is
none_reversed : (loops : List LoopRun) (rs : List Reversal) → is_none loops ≡ true → AreReversed loops rs → is_none rs ≡ false → ⊥
none_reversed [] [] e x f = let c : true ≡ false = f in cc
none_reversed [] (r ∷ rs) e x f = x
none_reversed (l ∷ ls) rs e x f = let c : false ≡ true = e in cc

-- ---- trials

-- the input, the shadows and the direction at which a program is tried, and how many statements are enough
pub record Trial (ps : List Procedure) (u : Procedure) (vars : List Bool) : Type 0 where
  pub input : List (Slot ℤ)
  pub shadows : List (Slot ℤ)
  pub direction : List (List ℤ)
  pub least : ℕ
  pub fit : fits words u input ≡ true
  pub alike : AreAlike input shadows
  pub directed : IsDirection vars input direction
  pub done : run_unit words ps u input [] None least ≡ Done (output_in (run_unit words ps u input [] None least)) (used_in (run_unit words ps u input [] None least))

-- a scalar, and one cell
abbrev pub word : ℤ → Slot ℤ
word z = record { shape = scalar; cells = z ∷ [] }

abbrev pub cell : ℤ → List ℤ
cell z = z ∷ []

pub scalars_alike : (xs ys : List ℤ) → length xs ≡ length ys → AreAlike (map word xs) (map word ys)
scalars_alike [] [] h = tt
scalars_alike [] (y ∷ ys) h = absurd cc
scalars_alike (x ∷ xs) [] h = absurd cc
scalars_alike (x ∷ xs) (y ∷ ys) h = let e : length xs ≡ length ys = cc in (refl, (refl, scalars_alike xs ys e))

-- 1 for each independent, and 0 for each other scalar
abbrev pub ones : List Bool → List ℤ → List (List ℤ)
ones marks [] = []
ones [] (x ∷ xs) = cell (pos 0) ∷ ones [] xs
ones (true ∷ marks) (x ∷ xs) = cell (pos 1) ∷ ones marks xs
ones (false ∷ marks) (x ∷ xs) = cell (pos 0) ∷ ones marks xs

pub ones_tangents : (marks : List Bool) (xs : List ℤ) → AreTangents (map word xs) (ones marks xs)
ones_tangents marks [] = tt
ones_tangents [] (x ∷ xs) = (refl, ones_tangents [] xs)
ones_tangents (true ∷ marks) (x ∷ xs) = (refl, ones_tangents marks xs)
ones_tangents (false ∷ marks) (x ∷ xs) = (refl, ones_tangents marks xs)

pub ones_others : (marks : List Bool) (xs : List ℤ) → OthersAreZero marks (ones marks xs)
ones_others marks [] = tt
ones_others [] (x ∷ xs) = ((refl, tt), ones_others [] xs)
ones_others (true ∷ marks) (x ∷ xs) = ones_others marks xs
ones_others (false ∷ marks) (x ∷ xs) = ((refl, tt), ones_others marks xs)

-- a trial on scalars, in the direction of all independents
abbrev pub tried : (ps : List Procedure) (u : Procedure) (vars : List Bool) (xs shadows : List ℤ) (least : ℕ) → length xs ≡ length shadows → fits words u (map word xs) ≡ true →
    run_unit words ps u (map word xs) [] None least ≡ Done (output_in (run_unit words ps u (map word xs) [] None least)) (used_in (run_unit words ps u (map word xs) [] None least)) → Trial ps u vars
tried ps u vars xs shadows least many fit done = record {
  input = map word xs;
  shadows = map word shadows;
  direction = ones vars xs;
  least = least;
  fit = fit;
  alike = scalars_alike xs shadows many;
  directed = record { tangents = ones_tangents vars xs; others = ones_others vars xs };
  done = done;
}

-- the adjoint of u that stands in a program
abbrev pub found_in : Option Procedure → Procedure
found_in None = record { line = 0; name = []; dummies = []; is_none = false; declarations = []; body = stop }
found_in (Some a) = a

abbrev pub adjoint_in : List Procedure → Procedure → List Procedure → Procedure
adjoint_in ps u qs = found_in (find_unit qs (adjoint_name ps u))

-- the program qs, in which a is the adjoint of the head u
module _ (m : ProgramMarks) (ps : List Procedure) (head : ℕ) (vars outvars : List Bool) (qs : List Procedure) (u a : Procedure) (is_head : unit_at head ps ≡ u ∷ []) (there : find_unit qs (adjoint_name ps u) ≡ Some a) (t : Trial ps u vars) where
  abbrev pub flags_of : Procedure → List Bool
  flags_of v = shadow_flags (m.shadowed v.name) v.dummies

  abbrev By : Procedure → Procedure → Type 0
  By v b = (input shadows : List (Slot ℤ)) → fits words v input ≡ true → AreAlike input shadows → (k used : ℕ) (output : Output ℤ) → run_unit words ps v input [] None k ≡ Done output used → TransposesBy (λ line. None) (flags_of v) ps v vars outvars qs b input shadows output.events

  abbrev Tried : Type 0
  Tried = TransposesBy (λ line. None) (flags_of u) ps u vars outvars qs a t.input t.shadows (let o = output_in (run_unit words ps u t.input [] None t.least) in o.events)

  transposed : IsAdjoint (λ line. None) m ps head vars outvars qs → Tried
  transposed h =
      let at_head : h.unit ≡ u = one_same h.unit u (sym h.is_head ∙ is_head) in
      let at_adjoint : h.adjoint ≡ a = some_same h.adjoint a (sym h.is_there ∙ ap (λ v. find_unit qs (adjoint_name ps v)) at_head ∙ there) in
      let always : By u a = subst (λ v. By v a) at_head (subst (λ b. By h.unit b) at_adjoint h.transposes) in
      always t.input t.shadows t.fit t.alike t.least (used_in (run_unit words ps u t.input [] None t.least)) (output_in (run_unit words ps u t.input [] None t.least)) t.done

  abbrev pub given : List (Slot ℤ)
  given = joined_by (flags_of u) t.input t.shadows

  abbrev pub result : Output ℤ
  result = output_in (run_unit words qs a given [] None t.least)

  abbrev pub dual : Output (ℤ × ℤ)
  dual = output_in (run_unit duals ps u (with_direction t.input t.direction) [] None t.least)

  -- where the products differ it is no adjoint
  pub differ : IsOver words qs a given t.least → IsOver duals ps u (with_direction t.input t.direction) t.least → (product vars (shadow_cells (flags_of u) result.slots) t.direction ≡ product outvars (cells_of t.shadows) (tangents_of (cells_of dual.slots)) → ⊥) → IsAdjoint (λ line. None) m ps head vars outvars qs → ⊥
  differ over dual_over apart h =
      let r = transposed h in
      let agrees = r.products t.direction t.directed in
      apart
      (ap (λ o. product vars (shadow_cells (flags_of u) (output_in o).slots) t.direction) (ends_so words qs a given t.least r.run over)
      ∙ agrees.products
      ∙ ap (λ o. product outvars (cells_of t.shadows) (tangents_of (cells_of (output_in o).slots))) (sym (ends_so duals ps u (with_direction t.input t.direction) t.least agrees.dual dual_over)))

  -- nor where its run is over and isn't done
  pub stuck : IsOver words qs a given t.least → is_done (run_unit words qs a given [] None t.least) ≡ false → IsAdjoint (λ line. None) m ps head vars outvars qs → ⊥
  stuck over traps h =
      let r = transposed h in
      let p : is_done (run_unit words qs a given [] None t.least) ≡ true = ap is_done (ends_so words qs a given t.least r.run over) in
      let c : true ≡ false = sym p ∙ traps in
      cc

  -- nor where words are left on its tape
  pub left : IsOver words qs a given t.least → is_none result.tape ≡ false → IsAdjoint (λ line. None) m ps head vars outvars qs → ⊥
  left over some h =
      let r = transposed h in
      let p : is_none result.tape ≡ true = ap (λ o. is_none (output_in o).tape) (ends_so words qs a given t.least r.run over) ∙ ap is_none r.empties in
      let c : true ≡ false = sym p ∙ some in
      cc

  -- nor where it reverses something by a schedule
  pub replays : IsOver words qs a given t.least → is_none (reversals_in result.events) ≡ false → is_none (runs_in (λ line. None) (reverse (output_in (run_unit words ps u t.input [] None t.least)).events)) ≡ true → IsAdjoint (λ line. None) m ps head vars outvars qs → ⊥
  replays over some no_marks h =
      let r = transposed h in
      let p : is_none (reversals_in result.events) ≡ is_none (reversals_in r.run.output.events) = ap (λ o. is_none (reversals_in (output_in o).events)) (ends_so words qs a given t.least r.run over) in
      none_reversed (runs_in (λ line. None) (reverse (output_in (run_unit words ps u t.input [] None t.least)).events)) (reversals_in r.run.output.events) no_marks r.reverses (sym p ∙ some)
