-- The units that adjointed calls reach take part.
use Rattle.std.proofs.Common.{◌≡◌, ℕ, zero, suc, Bool, true, false, List, [], ◌∷◌, map, length, refl, sym, ap, ◌∙◌}
use Rattle.std.specs.Prelude.{◌||◌, ◌&&◌, Some}
use Rattle.adj_tree.specs.Code.{name_eq, Act, assign, choose, loop, during, call, runtime, Code, stop, step, Procedure}
use Rattle.def_meaning.specs.Written.{find_unit}
use Rattle.def_names.specs.Numbers.{next, behind}
use Rattle.def_meaning.specs.Apart.{AreApart}
use Rattle.def_sweep.specs.Declared.{unit_name, unit_at}
use Rattle.def_names.proofs.Variables.{and_true, or_left, or_right}
use Rattle.def_sweep.specs.Marking.{ProgramMarks, first_statement, place_from}
use Rattle.def_sweep.specs.Program.{calls_act, calls_in, calls_some, reached_after, takes_part}
use Rattle.law_sweep.proofs.Rounds.{either}
use Rattle.law_emitted.proofs.Callings.{all_found}
use Rattle.def_flow.specs.Parts.{Part, parts, find_part}
use Rattle.def_names.specs.StatementsIn.{statements_in}
use Rattle.def_flow.specs.Problem.{Problem, IsHead, TakesPart}
use Rattle.law_flow.proofs.Heads.{head_part}
use Rattle.law_analysed.proofs.Checked.{part_found}
use Rattle.law_analysed.proofs.Meets.{some_same}
use Rattle.law_analysed.proofs.Numbers.{placed}
use Rattle.law_analysed.proofs.Reaching.{taking}

-- ---- more is called where more calls count

abbrev any : ℕ → Bool
any i = true

module _ (f : ℕ → Bool) (n : List ℕ) where
  mutual
    act_any : (i : ℕ) (a : Act) → calls_act f n i a ≡ true → calls_act any n i a ≡ true
    act_any i (assign x subs e) h = absurd cc
    act_any i (choose c a b) h =
        let j = behind (suc i) a in
        either (calls_in f n (suc i) a) (calls_in f n j b) (calls_in any n (suc i) a || calls_in any n j b) h
        (λ e. or_left (calls_in any n (suc i) a) (calls_in any n j b) (list_any (suc i) a e)) (λ e. or_right (calls_in any n (suc i) a) (calls_in any n j b) (list_any j b e))
    act_any i (loop x a b c body m) h = list_any (suc i) body h
    act_any i (during c body) h = list_any (suc i) body h
    act_any i (call other args) h = (and_true (f i) (name_eq n other) h).1
    act_any i (runtime r) h = absurd cc

    list_any : (i : ℕ) (c : Code) → calls_in f n i c ≡ true → calls_in any n i c ≡ true
    list_any i stop h = absurd cc
    list_any i (step line a rest) h =
        let j = next i a in
        either (calls_act f n i a) (calls_in f n j rest) (calls_act any n i a || calls_in any n j rest) h
        (λ e. or_left (calls_act any n i a) (calls_in any n j rest) (act_any i a e)) (λ e. or_right (calls_act any n i a) (calls_in any n j rest) (list_any j rest e))

  some_any : (among more : List ℕ → Bool) → ((m : List ℕ) → among m ≡ true → more m ≡ true) → (i : ℕ) (us : List Procedure) → calls_some among f n i us ≡ true → calls_some more any n i us ≡ true
  some_any among more w i [] h = absurd cc
  some_any among more w i (u ∷ us) h =
      let j = behind i u.body in
      either (among u.name && calls_in f n i u.body) (calls_some among f n j us) (calls_some more any n i (u ∷ us)) h
      (λ e. let p = and_true (among u.name) (calls_in f n i u.body) e in or_left (more u.name && calls_in any n i u.body) (calls_some more any n j us) (rw (w u.name p.0, list_any i u.body p.1) refl))
      (λ e. or_right (more u.name && calls_in any n i u.body) (calls_some more any n j us) (some_any among more w j us e))

reached_any : (roots : List ℕ → Bool) (f : ℕ → Bool) (ps : List Procedure) (k : ℕ) (n : List ℕ) → reached_after roots f ps k n ≡ true → reached_after roots any ps k n ≡ true
reached_any roots f ps zero n h = absurd cc
reached_any roots f ps (suc k) n h =
    either (roots n) (calls_some (reached_after roots f ps k) f n 0 ps) (reached_after roots any ps (suc k) n) h
    (or_left (roots n) (calls_some (reached_after roots any ps k) any n 0 ps))
    (λ e. or_right (roots n) (calls_some (reached_after roots any ps k) any n 0 ps) (some_any f n (reached_after roots f ps k) (reached_after roots any ps k) (λ m. reached_any roots f ps k m) 0 ps e))

-- ---- the part of a unit that takes part

-- the problem of a head, without independents and dependents
abbrev pub problem_for : List Procedure → ℕ → Problem
problem_for ps h = record { units = ps; head = h; vars = []; outvars = []; split = λ n. false }

-- a unit has a part that takes part, with its numbers
pub record IsTaking (ps : List Procedure) (h : ℕ) (u : Procedure) : Type 0 where
  pub part : Part
  pub unit : part.unit ≡ u
  pub takes : TakesPart (problem_for ps h) part
  pub number : part.number ≡ place_from 0 ps u.name
  pub first : part.first ≡ first_statement ps u.name

pub part_takes : (m : ProgramMarks) (ps : List Procedure) → AreApart (map unit_name ps) → (h : ℕ) (head : Procedure) → unit_at h ps ≡ head ∷ [] → (u : Procedure) → find_unit ps u.name ≡ Some u → takes_part m ps head u.name ≡ true → IsTaking ps h u
part_takes m ps apart h head at u found has =
    let g = head_part (statements_in 0 ps) 0 0 ps h head at in
    let finds : find_part (parts ps) g.0.unit.name ≡ Some g.0 = part_found (statements_in 0 ps) 0 0 ps apart h g.0 g.1 in
    let is : IsHead (problem_for ps h) g.0 = record { is = g.1 } in
    let reached : reached_after (name_eq g.0.unit.name) any ps (length ps) u.name ≡ true =
    ap (λ (v : Procedure). reached_after (name_eq v.name) any ps (length ps) u.name) g.2 ∙ reached_any (name_eq head.name) m.adjointed ps (length ps) u.name has in
    let t = taking (problem_for ps h) (all_found ps apart) g.0 is finds (length ps) u.name u found reached in
    let there = placed ps u.name t.part t.finds in
    record { part = t.part; unit = some_same t.part.unit u (sym there.found ∙ found); takes = t.takes; number = there.number; first = there.first }
