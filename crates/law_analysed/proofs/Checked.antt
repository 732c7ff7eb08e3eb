-- The code of a checked program in kernel form, whose loops aren't marked or are reversed by schedules, is plain; and its units are found by
-- their numbers.
use Rattle.std.proofs.Common.{◌≡◌, ℕ, zero, suc, List, [], ◌∷◌, Bool, true, false, map, refl, ap, ◌∙◌, subst, if◌then◌else◌}
use Rattle.std.specs.Prelude.{Some, slice_get}
use Rattle.adj_tree.specs.Code.{Var, plain, shadow, helper, name_eq, Mark, unmarked, with_count, count_from, Act, assign, choose, loop, during, call, runtime, Code, stop, step, Procedure}
use Rattle.adj_tree.proofs.Names.{name_refl}
use Rattle.def_text.specs.Written.{IsVariable, IsWrittenAct, IsWrittenCode}
use Rattle.def_names.specs.Statements.{inner, statements}
use Rattle.def_names.specs.CallFaults.{are_actuals_for}
use Rattle.def_kernel.specs.Form.{IsOneCall, WhereMarked, IsKernelAct, IsKernelCode}
use Rattle.def_names.specs.Numbers.{behind}
use Rattle.def_meaning.specs.Apart.{has_name, AreApart}
use Rattle.def_sweep.specs.Declared.{unit_name}
use Rattle.def_names.proofs.Variables.{or_left, or_right, has_apart}
use Rattle.def_meaning.proofs.Variables.{name_comm}
use Rattle.law_emitted.proofs.Lists.{Each, each_front, each_behind}
use Rattle.law_emitted.proofs.Texts.{actuals_given, actuals_many}
use Rattle.law_emitted.proofs.Statements.{CallHasNone, call_of_unit}
use Rattle.def_flow.specs.Parts.{Part, part, parts_from, find_part}
use Rattle.law_analysed.specs.Meets.{MarkFits, IsPlainAct, IsPlainCode}
use Rattle.def_planned.specs.ProgramFacts.{IsUnmarkedAct, IsUnmarked}
use Rattle.law_analysed.proofs.Meets.{some_same}

-- a variable of a text has a name
variable_name : (x : Var) → IsVariable x → (y : List ℕ) × (x ≡ plain y)
variable_name (plain y) h = (y, refl)
variable_name (shadow y) h = absurd h
variable_name (helper r j) h = absurd h

mark_fits : (sb : Bool) (x : Var) (body : Code) (m : Mark) → IsVariable x → WhereMarked m (IsOneCall body) → (sb ≡ false → m ≡ unmarked) → MarkFits sb x body m
mark_fits sb x body unmarked v k h = tt
mark_fits false x body (with_count n) v k h = absurd (let e : with_count n ≡ unmarked = h refl in cc)
mark_fits true x body (with_count n) v k h = (variable_name x v, k)
mark_fits false x body (count_from y) v k h = absurd (let e : count_from y ≡ unmarked = h refl in cc)
mark_fits true x body (count_from y) v k h = (variable_name x v, k)

mutual
  plain_act : (sb : Bool) (ps : List Procedure) (u : Procedure) (line : ℕ) (a : Act) → IsWrittenAct a → IsKernelAct a → CallHasNone ps u (line, a) → Each (CallHasNone ps u) (inner a) → (sb ≡ false → IsUnmarkedAct a) → IsPlainAct sb ps a
  plain_act sb ps u line (assign x subs e) w k h s m = tt
  plain_act sb ps u line (choose c a b) w k h s m = (plain_code sb ps u a w.1 k.0 (each_front (CallHasNone ps u) (statements a) (statements b) s) (λ e. (m e).0), plain_code sb ps u b w.2 k.1 (each_behind (CallHasNone ps u) (statements a) (statements b) s) (λ e. (m e).1))
  plain_act sb ps u line (loop x first last by body mark) w k h s m = (mark_fits sb x body mark w.0 k.0 (λ e. (m e).0), plain_code sb ps u body w.4 k.1 s (λ e. (m e).1))
  plain_act sb ps u line (during c body) w k h s m = plain_code sb ps u body w.1 k s m
  plain_act sb ps u line (call name args) w k h s m =
      let c = call_of_unit ps u line name args h in
      let g = actuals_given args k w.1 in
      record { unit = c.unit; found = c.found; given = g.0; named = g.1; many = actuals_many u c.unit c.unit.dummies g.0 (subst (λ es. are_actuals_for u c.unit c.unit.dummies es ≡ true) g.1 c.fit) }
  plain_act sb ps u line (runtime r) w k h s m = absurd k

  pub plain_code : (sb : Bool) (ps : List Procedure) (u : Procedure) (c : Code) → IsWrittenCode c → IsKernelCode c → Each (CallHasNone ps u) (statements c) → (sb ≡ false → IsUnmarked c) → IsPlainCode sb ps c
  plain_code sb ps u stop w k s m = tt
  plain_code sb ps u (step line a rest) w k s m = (
    plain_act sb ps u line a w.0 k.0 s.0 (each_front (CallHasNone ps u) (inner a) (statements rest) s.1) (λ e. (m e).0),
    plain_code sb ps u rest w.1 k.1 (each_behind (CallHasNone ps u) (inner a) (statements rest) s.1) (λ e. (m e).1),
  )

-- ---- units by their numbers

part_named : (t u i : ℕ) (ps : List Procedure) (n : ℕ) (g : Part) → slice_get (parts_from t u i ps) n ≡ Some g → has_name g.unit.name (map unit_name ps) ≡ true
part_named t u i [] n g h = absurd cc
part_named t u i (p ∷ ps) zero g h =
    let same : part t u i p ≡ g = some_same (part t u i p) g h in
    or_left (name_eq g.unit.name p.name) (has_name g.unit.name (map unit_name ps)) (subst (λ z. name_eq z.unit.name p.name ≡ true) same (name_refl p.name))
part_named t u i (p ∷ ps) (suc n) g h = or_right (name_eq g.unit.name p.name) (has_name g.unit.name (map unit_name ps)) (part_named t (suc u) (behind i p.body) ps n g h)

-- where names are apart, the unit of a number is found under its name
pub part_found : (t u i : ℕ) (ps : List Procedure) → AreApart (map unit_name ps) → (n : ℕ) (g : Part) → slice_get (parts_from t u i ps) n ≡ Some g → find_part (parts_from t u i ps) g.unit.name ≡ Some g
part_found t u i [] a n g h = absurd cc
part_found t u i (p ∷ ps) a zero g h =
    let same : part t u i p ≡ g = some_same (part t u i p) g h in
    let e : name_eq p.name g.unit.name ≡ true = subst (λ z. name_eq p.name z.unit.name ≡ true) same (name_refl p.name) in
    ap (λ b. if b then Some (part t u i p) else find_part (parts_from t (suc u) (behind i p.body) ps) g.unit.name) e ∙ ap Some same
part_found t u i (p ∷ ps) a (suc n) g h =
    let e : name_eq p.name g.unit.name ≡ false = name_comm g.unit.name p.name (has_apart g.unit.name p.name (map unit_name ps) (part_named t (suc u) (behind i p.body) ps n g h) a.0) in
    ap (λ b. if b then Some (part t u i p) else find_part (parts_from t (suc u) (behind i p.body) ps) g.unit.name) e ∙ part_found t (suc u) (behind i p.body) ps a.1 n g h
