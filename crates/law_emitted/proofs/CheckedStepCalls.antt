-- The directive and the turns of a marked loop that is reversed by a schedule, and what lines tell where none is.
use Rattle.std.proofs.Common.{◌≡◌, ℕ, suc, Bool, true, false, List, [], ◌∷◌, refl, sym, ap, ◌∙◌, if◌then◌else◌}
use Rattle.std.specs.Prelude.{◌&&◌, ◌||◌, Some, None}
use Rattle.adj_tree.specs.Code.{Var, plain, shadow, helper, name_eq, Mark, unmarked, with_count, count_from, Act, assign, choose, loop, during, call, runtime, Code, stop, step, Procedure}
use Rattle.def_meaning.specs.Written.{find_unit}
use Rattle.def_text.specs.Written.{IsVariable, IsWrittenMark}
use Rattle.def_names.specs.Numbers.{Vars, next, behind}
use Rattle.def_names.proofs.Variables.{or_left, or_right}
use Rattle.def_sweep.specs.Plan.{Schedules, Step, step_in, reversed_by}
use Rattle.def_sweep.specs.Callees.{CalleeFacts}
use Rattle.law_sweep.specs.Kernel.{is_text, HasSlots}
use Rattle.def_sweep.specs.Marking.{first_from}
use Rattle.def_sweep.specs.Program.{turns_act, turns_in, turns_some}
use Rattle.law_emitted.specs.Checked.{TellsAct, TellsCode}

step_alone : (reads : List ℕ → Vars) (r : Schedules) (f : ℕ → Bool) (mark : Mark) (body : Code) (s : Step) (name : List ℕ) (j : ℕ) → step_in reads mark body ≡ Some s → turns_in r f name j body ≡ false
step_alone reads r f mark stop s name j e = refl
step_alone reads r f mark (step line (assign x subs a) rest) s name j e = absurd cc
step_alone reads r f mark (step line (choose c a b) rest) s name j e = absurd cc
step_alone reads r f mark (step line (loop x a b c body m) rest) s name j e = absurd cc
step_alone reads r f mark (step line (during c body) rest) s name j e = absurd cc
step_alone reads r f mark (step line (runtime o) rest) s name j e = absurd cc
step_alone reads r f mark (step line (call other args) (step l a rest)) s name j e = absurd cc
step_alone reads r f mark (step line (call other args) stop) s name j e = refl

alone_if : (reads : List ℕ → Vars) (f : ℕ → Bool) (mark : Mark) (body : Code) (s : Step) (name : List ℕ) (j : ℕ) (b : Bool) → (if b then step_in reads mark body else None) ≡ Some s → turns_in (Some reads) f name j body ≡ false
alone_if reads f mark body s name j true h = step_alone reads (Some reads) f mark body s name j h
alone_if reads f mark body s name j false h = absurd cc

-- in its body no loop is reversed
pub turned_alone : (r : Schedules) (f : ℕ → Bool) (i : ℕ) (body : Code) (mark : Mark) (s : Step) (name : List ℕ) (j : ℕ) → reversed_by r f i body mark ≡ Some s → turns_in r f name j body ≡ false
turned_alone None f i body mark s name j e = absurd cc
turned_alone (Some reads) f i body unmarked s name j e = absurd cc
turned_alone (Some reads) f i body (with_count n) s name j e = alone_if reads f (with_count n) body s name j (f (suc i)) e
turned_alone (Some reads) f i body (count_from x) s name j e = alone_if reads f (count_from x) body s name j (f (suc i)) e

-- a variable that can be written as a text is of the text
variable_text : (x : Var) → IsVariable x → is_text x ≡ true
variable_text (plain x) h = refl
variable_text (shadow x) h = absurd h
variable_text (helper r k) h = absurd h

-- its directive gives a number of snapshots
pub slots_written : (r : Schedules) (f : ℕ → Bool) (i : ℕ) (body : Code) (mark : Mark) (s : Step) → reversed_by r f i body mark ≡ Some s → IsWrittenMark mark → HasSlots mark
slots_written None f i body mark s e w = absurd cc
slots_written (Some reads) f i body unmarked s e w = absurd cc
slots_written (Some reads) f i body (with_count n) s e w = w
slots_written (Some reads) f i body (count_from x) s e w = variable_text x w

-- where no loop is reversed by a schedule none is turned
mutual
  never_act : (f : ℕ → Bool) (n : List ℕ) (i : ℕ) (a : Act) → turns_act None f n i a ≡ false
  never_act f n i (assign x subs e) = refl
  never_act f n i (choose c a b) = rw (never_turned f n (suc i) a) (never_turned f n (behind (suc i) a) b)
  never_act f n i (loop x a b c body m) = never_turned f n (suc i) body
  never_act f n i (during c body) = never_turned f n (suc i) body
  never_act f n i (call name args) = refl
  never_act f n i (runtime o) = refl

  pub never_turned : (f : ℕ → Bool) (n : List ℕ) (i : ℕ) (c : Code) → turns_in None f n i c ≡ false
  never_turned f n i stop = refl
  never_turned f n i (step line a rest) = rw (never_act f n i a) (never_turned f n (next i a) rest)

-- what the body of a unit that was found turns is turned by one of the units
pub turns_found_some : (r : Schedules) (among : List ℕ → Bool) (f : ℕ → Bool) (n : List ℕ) (i : ℕ) (us : List Procedure) (name : List ℕ) (u : Procedure) → find_unit us name ≡ Some u → among u.name ≡ true → turns_in r f n (first_from i us name) u.body ≡ true → turns_some r among f n i us ≡ true
turns_found_some r among f n i [] name u e a c = absurd cc
turns_found_some r among f n i (v ∷ us) name u e a c = go (name_eq v.name name) e c (λ h k. turns_found_some r among f n (behind i v.body) us name u h a k)
  where
    go : (b : Bool) → (if b then Some v else find_unit us name) ≡ Some u → turns_in r f n (if b then i else first_from (behind i v.body) us name) u.body ≡ true → (find_unit us name ≡ Some u → turns_in r f n (first_from (behind i v.body) us name) u.body ≡ true → turns_some r among f n (behind i v.body) us ≡ true) → ((among v.name && turns_in r f n i v.body) || turns_some r among f n (behind i v.body) us) ≡ true
    go true e c ih =
        let same : u ≡ v = cc in
        let inside : among v.name ≡ true = ap (λ w. among w.name) (sym same) ∙ a in
        let turning : turns_in r f n i v.body ≡ true = ap (λ w. turns_in r f n i w.body) (sym same) ∙ c in
        or_left (among v.name && turns_in r f n i v.body) (turns_some r among f n (behind i v.body) us) (rw (inside, turning) refl)
    go false e c ih = or_right (among v.name && turns_in r f n i v.body) (turns_some r among f n (behind i v.body) us) (ih e c)

-- ---- where no loop is reversed by a schedule, no line tells of one

mutual
  none_told_act : (g : List ℕ → CalleeFacts) (f : ℕ → Bool) (i line : ℕ) (a : Act) → TellsAct (λ line. None) None g f i line a
  none_told_act g f i line (assign x subs e) = tt
  none_told_act g f i line (choose c a b) = (none_told g f (suc i) a, none_told g f (behind (suc i) a) b)
  none_told_act g f i line (loop x a b c body n) = (λ h. refl, none_told g f (suc i) body)
  none_told_act g f i line (during c body) = none_told g f (suc i) body
  none_told_act g f i line (call name args) = tt
  none_told_act g f i line (runtime o) = tt

  pub none_told : (g : List ℕ → CalleeFacts) (f : ℕ → Bool) (i : ℕ) (c : Code) → TellsCode (λ line. None) None g f i c
  none_told g f i stop = tt
  none_told g f i (step line a rest) = (none_told_act g f i line a, none_told g f (next i a) rest)
