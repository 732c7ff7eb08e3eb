-- The calls that directives split are adjointed by the marks of analyses, and none is the step call of a loop that is reversed by a schedule.
use Rattle.std.proofs.Common.{◌≡◌, ℕ, suc, Bool, true, false, List, [], ◌∷◌, ◌++◌, refl, sym, ap, ◌∙◌, subst}
use Rattle.std.specs.Prelude.{◌&&◌, Contains, Option, Some, None, if◌then◌else◌}
use Rattle.std.proofs.lemmas.List.Elements.{Contains-append_left, Contains-append_right}
use Rattle.adj_tree.specs.Code.{Var, Mark, unmarked, with_count, count_from, Act, assign, choose, loop, during, call, runtime, Code, stop, step, Procedure}
use Rattle.def_meaning.specs.Written.{find_unit}
use Rattle.def_names.specs.Fault.{Rules}
use Rattle.def_names.specs.Numbers.{next, behind}
use Rattle.def_names.specs.StatementsIn.{statements_in}
use Rattle.def_names.proofs.Variables.{and_true}
use Rattle.def_sweep.specs.Plan.{Schedules, Step, reversed_by, ByStep}
use Rattle.def_sweep.specs.Marking.{ProgramMarks, first_statement}
use Rattle.def_sweep.specs.Program.{schedules_in}
use Rattle.def_flow.specs.Parts.{parts}
use Rattle.def_flow.specs.Standing.{Place, outermost, part_of, turn_of, body_of, Standing, held_in, standing}
use Rattle.def_flow.specs.Splits.{split_calls}
use Rattle.def_flow.specs.Uses.{is_turn}
use Rattle.def_flow.proofs.Numbers.{found_part}
use Rattle.adj_reach.proofs.Members.{is_first, is_later}
use Rattle.law_emitted.specs.Checked.{IsChecked}
use Rattle.law_emitted.specs.Splits.{MaySplit', MaySplit, AllMaySplit}
use Rattle.law_emitted.proofs.Lists.{Each}
use Rattle.law_emitted.proofs.Callings.{Found}
use Rattle.law_emitted.proofs.Premises.{found}
use Rattle.law_flow.proofs.Unsplit.{step_unsplit}
use Rattle.law_analysed.proofs.Meets.{some_same}
use Rattle.law_analysed.proofs.Numbers.{has_part, placed}

module _ (r : Schedules) (adjointed marked : ℕ → Bool) where
  abbrev split : ℕ → Bool
  split n = marked n && adjointed n

  -- what holds of these statements: no step call of a marked loop is marked
  abbrev Unmarked : List Standing → Type 0
  Unmarked l = (s : Standing) → Contains l s → is_turn s.place ≡ true → marked s.number ≡ false

  not_split : (n : ℕ) → marked n ≡ false → split n ≡ false
  not_split n e = ap (λ b. b && adjointed n) e

  by_step : (o : Option Step) (n : ℕ) → marked n ≡ false → ByStep o (Unit {0}) (λ s. split n ≡ false)
  by_step None n e = tt
  by_step (Some s) n e = not_split n e

  -- a loop without a body isn't reversed
  none_empty : (b : Bool) (n : ℕ) → ByStep (if b then None else None) (Unit {0}) (λ (s : Step). split n ≡ false)
  none_empty true n = tt
  none_empty false n = tt

  empty_counted : (q : Schedules) (i n : ℕ) → ByStep (reversed_by q adjointed i stop (with_count n)) (Unit {0}) (λ s. split (suc i) ≡ false)
  empty_counted None i n = tt
  empty_counted (Some reads) i n = none_empty (adjointed (suc i)) (suc i)

  empty_from : (q : Schedules) (i : ℕ) (y : Var) → ByStep (reversed_by q adjointed i stop (count_from y)) (Unit {0}) (λ s. split (suc i) ≡ false)
  empty_from None i y = tt
  empty_from (Some reads) i y = none_empty (adjointed (suc i)) (suc i)

  not_marked : (q : Schedules) (i : ℕ) (body : Code) → ByStep (reversed_by q adjointed i body unmarked) (Unit {0}) (λ s. split (suc i) ≡ false)
  not_marked None i body = tt
  not_marked (Some reads) i body = tt

  -- the first statement in the body of a marked loop
  step_marked : (i line : ℕ) (x : Var) (a : Act) (rest : Code) → Unmarked (standing (turn_of i x) (suc i) (step line a rest)) → marked (suc i) ≡ false
  step_marked i line x a rest h =
      let self : Standing = record { number = suc i; place = turn_of i x; act = a } in h self (is_first self self (held_in (suc i) a ++ standing (turn_of i x) (next (suc i) a) rest) refl) refl

  loop_may : (i : ℕ) (x : Var) (body : Code) (m : Mark) → Unmarked (standing (body_of i x m) (suc i) body) → ByStep (reversed_by r adjointed i body m) (Unit {0}) (λ s. split (suc i) ≡ false)
  loop_may i x body unmarked h = not_marked r i body
  loop_may i x stop (with_count n) h = empty_counted r i n
  loop_may i x (step line a rest) (with_count n) h = by_step (reversed_by r adjointed i (step line a rest) (with_count n)) (suc i) (step_marked i line x a rest h)
  loop_may i x stop (count_from y) h = empty_from r i y
  loop_may i x (step line a rest) (count_from y) h = by_step (reversed_by r adjointed i (step line a rest) (count_from y)) (suc i) (step_marked i line x a rest h)

  mutual
    act_may : (i : ℕ) (a : Act) → Unmarked (held_in i a) → MaySplit' r adjointed split i a
    act_may i (assign x subs e) h = tt
    act_may i (choose c a b) h =
        let one = standing (part_of i) (suc i) a in
        let other = standing (part_of i) (behind (suc i) a) b in
        (list_may (part_of i) (suc i) a (λ s c. h s (Contains-append_left one other s c)), list_may (part_of i) (behind (suc i) a) b (λ s c. h s (Contains-append_right one other s c)))
    act_may i (loop x a b c body m) h = (loop_may i x body m h, list_may (body_of i x m) (suc i) body h)
    act_may i (during c body) h = list_may (part_of i) (suc i) body h
    act_may i (call name args) h = λ e. (and_true (marked i) (adjointed i) e).1
    act_may i (runtime o) h = tt

    list_may : (at : Place) (i : ℕ) (c : Code) → Unmarked (standing at i c) → MaySplit r adjointed split i c
    list_may at i stop h = tt
    list_may at i (step line a rest) h =
        let self : Standing = record { number = i; place = at; act = a } in
        let held = held_in i a in
        let later = standing at (next i a) rest in
        (act_may i a (λ s c. h s (is_later s self (held ++ later) (Contains-append_left held later s c))), list_may at (next i a) rest (λ s c. h s (is_later s self (held ++ later) (Contains-append_right held later s c))))

-- by marks that split what lines mark, where that is adjointed
pub may_split : (rules : Rules) (units : List Procedure) → IsChecked rules units → (schedules : Bool) (lines : ℕ → Bool) (m : ProgramMarks) → m.split ≡ (λ n. split_calls lines units n && m.adjointed n) → AllMaySplit schedules m units units
may_split rules units checked schedules lines m same = go units (found rules units checked)
  where
    r : Schedules
    r = schedules_in schedules units

    unit_may : (u : Procedure) → find_unit units u.name ≡ Some u → MaySplit r m.adjointed m.split (first_statement units u.name) u.body
    unit_may u f =
        let g = has_part (statements_in 0 units) 0 0 units u.name u f in
        let p = placed units u.name g.0 g.1 in
        let unit : g.0.unit ≡ u = some_same g.0.unit u (sym p.found ∙ f) in
        let there = found_part (parts units) u.name g.0 g.1 in
        let own = list_may r m.adjointed (split_calls lines units) outermost g.0.first g.0.unit.body (λ s c t. step_unsplit lines units g.0 there s t c) in
        subst (λ (q : ℕ → Bool). MaySplit r m.adjointed q (first_statement units u.name) u.body) (sym same)
        (subst (λ (v : Procedure). MaySplit r m.adjointed (λ n. split_calls lines units n && m.adjointed n) (first_statement units u.name) v.body) unit
        (subst (λ i. MaySplit r m.adjointed (λ n. split_calls lines units n && m.adjointed n) i g.0.unit.body) p.first own))

    go : (us : List Procedure) → Each (Found units) us → AllMaySplit schedules m units us
    go [] h = tt
    go (u ∷ us) h = (unit_may u h.0.0, go us h.1)
