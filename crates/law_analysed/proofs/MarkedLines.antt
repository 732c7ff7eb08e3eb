-- Where no two marked loops stand at one line, lines tell what becomes of each.
use Rattle.std.proofs.Common.{◌≡◌, ℕ, suc, List, [], ◌∷◌, ◌++◌, Bool, true, false, refl, sym, ap, ◌∙◌, subst, if◌then◌else◌}
use Rattle.std.specs.Prelude.{◌==◌, Option, Some}
use Rattle.adj_tree.specs.Code.{name_eq, Act, assign, choose, loop, during, call, runtime, Code, stop, step, Procedure}
use Rattle.adj_tree.proofs.Names.{nat_refl, nat_same}
use Rattle.def_meaning.specs.Written.{find_unit}
use Rattle.def_names.specs.Numbers.{next, behind}
use Rattle.def_names.proofs.Variables.{or_false}
use Rattle.def_sweep.specs.Plan.{Schedules, reversed_by}
use Rattle.def_sweep.specs.Reversals.{StepUnits, ReversedLines}
use Rattle.def_sweep.specs.MarkedUnits.{is_marked, units_of}
use Rattle.def_sweep.specs.Callees.{CalleeFacts}
use Rattle.def_sweep.specs.Marking.{ProgramFacts, callee_facts, first_from}
use Rattle.def_sweep.specs.Schedules.{schedules_by}
use Rattle.law_emitted.specs.Checked.{TellsAct, TellsCode, LinesTell}
use Rattle.law_analysed.specs.MarkedLines.{marked_in, marked_lines, program_lines, has_line, AreLinesApart}
use Rattle.def_sweep.specs.MarkedLines.{Tale, told_in, told_code, told_units, tale_of, tales_of, reversed_lines}

-- the lines say what is told of each
abbrev Agree : ReversedLines → List Tale → Type 0
Agree lines [] = Unit {0}
Agree lines (t ∷ ts) = (lines t.0 ≡ t.1) × Agree lines ts

agree_front : (lines : ReversedLines) (a b : List Tale) → Agree lines (a ++ b) → Agree lines a
agree_front lines [] b h = tt
agree_front lines (t ∷ a) b h = (h.0, agree_front lines a b h.1)

agree_behind : (lines : ReversedLines) (a b : List Tale) → Agree lines (a ++ b) → Agree lines b
agree_behind lines [] b h = h
agree_behind lines (t ∷ a) b h = agree_behind lines a b h.1

-- ---- the first that tells of a line

abbrev lines_of : List Tale → List ℕ
lines_of [] = []
lines_of (t ∷ ts) = t.0 ∷ lines_of ts

lines_append : (a b : List Tale) → lines_of (a ++ b) ≡ lines_of a ++ lines_of b
lines_append [] b = refl
lines_append (t ∷ a) b = ap (λ l. t.0 ∷ l) (lines_append a b)

-- what doesn't tell of a line tells of others
agree_later : (t : Tale) (ts us : List Tale) → has_line t.0 (lines_of us) ≡ false → Agree (tale_of ts) us → Agree (tale_of (t ∷ ts)) us
agree_later t ts [] h a = tt
agree_later t ts (u ∷ us) h a =
    let o = or_false (t.0 == u.0) (has_line t.0 (lines_of us)) h in
    let other : (u.0 == t.0) ≡ false = turned t.0 u.0 o.0 in
    (ap (λ b. if b then t.1 else tale_of ts u.0) other ∙ a.0, agree_later t ts us o.1 a.1)
  where
    turned : (a b : ℕ) → (a == b) ≡ false → (b == a) ≡ false
    turned a b h = go (b == a) refl
      where
        go : (z : Bool) → (b == a) ≡ z → z ≡ false
        go true e = absurd (let c : true ≡ false = sym (ap (λ n. n == b) (sym (nat_same b a e)) ∙ nat_refl b) ∙ h in cc)
        go false e = refl

agree_self : (ts : List Tale) → AreLinesApart (lines_of ts) → Agree (tale_of ts) ts
agree_self [] h = tt
agree_self (t ∷ ts) h = (ap (λ b. if b then t.1 else tale_of ts t.0) (nat_refl t.0), agree_later t ts ts h.0 (agree_self ts h.1))

-- ---- by the statements

module _ (r : Schedules) (g : List ℕ → CalleeFacts) (f : ℕ → Bool) where
  mutual
    lines_act : (i line : ℕ) (a : Act) → lines_of (told_in r g f i line a) ≡ marked_in line a
    lines_act i line (assign x subs e) = refl
    lines_act i line (choose c a b) = lines_append (told_code r g f (suc i) a) (told_code r g f (behind (suc i) a) b) ∙ (λ k. lines_code (suc i) a k ++ lines_code (behind (suc i) a) b k)
    lines_act i line (loop x a b c body n) = lines_append (if is_marked n then (line, units_of g (reversed_by r f i body n)) ∷ [] else []) (told_code r g f (suc i) body) ∙ (λ k. own (is_marked n) k ++ lines_code (suc i) body k)
      where
        own : (b : Bool) → lines_of (if b then (line, units_of g (reversed_by r f i body n)) ∷ [] else []) ≡ (if b then line ∷ [] else [])
        own true = refl
        own false = refl
    lines_act i line (during c body) = lines_code (suc i) body
    lines_act i line (call name args) = refl
    lines_act i line (runtime o) = refl

    lines_code : (i : ℕ) (c : Code) → lines_of (told_code r g f i c) ≡ marked_lines c
    lines_code i stop = refl
    lines_code i (step line a rest) = lines_append (told_in r g f i line a) (told_code r g f (next i a) rest) ∙ (λ k. lines_act i line a k ++ lines_code (next i a) rest k)

  lines_units : (i : ℕ) (us : List Procedure) → lines_of (told_units r g f i us) ≡ program_lines us
  lines_units i [] = refl
  lines_units i (u ∷ us) = lines_append (told_code r g f i u.body) (told_units r g f (behind i u.body) us) ∙ (λ k. lines_code i u.body k ++ lines_units (behind i u.body) us k)

  module _ (lines : ReversedLines) where
    own_line : (line : ℕ) (o : Option StepUnits) (b : Bool) → Agree lines (if b then (line, o) ∷ [] else []) → b ≡ true → lines line ≡ o
    own_line line o true h e = h.0
    own_line line o false h e = absurd cc

    mutual
      tells_act : (i line : ℕ) (a : Act) → Agree lines (told_in r g f i line a) → TellsAct lines r g f i line a
      tells_act i line (assign x subs e) h = tt
      tells_act i line (choose c a b) h = (
        tells_code (suc i) a (agree_front lines (told_code r g f (suc i) a) (told_code r g f (behind (suc i) a) b) h),
        tells_code (behind (suc i) a) b (agree_behind lines (told_code r g f (suc i) a) (told_code r g f (behind (suc i) a) b) h),
      )
      tells_act i line (loop x a b c body n) h = (
        own_line line (units_of g (reversed_by r f i body n)) (is_marked n) (agree_front lines (if is_marked n then (line, units_of g (reversed_by r f i body n)) ∷ [] else []) (told_code r g f (suc i) body) h),
        tells_code (suc i) body (agree_behind lines (if is_marked n then (line, units_of g (reversed_by r f i body n)) ∷ [] else []) (told_code r g f (suc i) body) h),
      )
      tells_act i line (during c body) h = tells_code (suc i) body h
      tells_act i line (call name args) h = tt
      tells_act i line (runtime o) h = tt

      tells_code : (i : ℕ) (c : Code) → Agree lines (told_code r g f i c) → TellsCode lines r g f i c
      tells_code i stop h = tt
      tells_code i (step line a rest) h = (
        tells_act i line a (agree_front lines (told_in r g f i line a) (told_code r g f (next i a) rest) h),
        tells_code (next i a) rest (agree_behind lines (told_in r g f i line a) (told_code r g f (next i a) rest) h),
      )

    tells_unit : (i : ℕ) (us : List Procedure) (name : List ℕ) (u : Procedure) → find_unit us name ≡ Some u → Agree lines (told_units r g f i us) → TellsCode lines r g f (first_from i us name) u.body
    tells_unit i [] name u e h = absurd cc
    tells_unit i (v ∷ us) name u e h = go (name_eq v.name name) e (λ k. tells_unit (behind i v.body) us name u k (agree_behind lines (told_code r g f i v.body) (told_units r g f (behind i v.body) us) h))
      where
        go : (b : Bool) → (if b then Some v else find_unit us name) ≡ Some u → (find_unit us name ≡ Some u → TellsCode lines r g f (first_from (behind i v.body) us name) u.body) → TellsCode lines r g f (if b then i else first_from (behind i v.body) us name) u.body
        go true e ih =
            let same : v ≡ u = cc in
            subst (λ (z : Procedure). TellsCode lines r g f i z.body) same (tells_code i v.body (agree_front lines (told_code r g f i v.body) (told_units r g f (behind i v.body) us) h))
        go false e ih = ih e

-- ---- all together

tales_apart : (w : ProgramFacts) (ps : List Procedure) → AreLinesApart (program_lines ps) → AreLinesApart (lines_of (tales_of w ps))
tales_apart w ps apart = let g = callee_facts w ps in subst AreLinesApart (sym (lines_units (schedules_by true g) g w.marks.adjointed 0 ps)) apart

pub lines_tell : (w : ProgramFacts) (ps : List Procedure) → AreLinesApart (program_lines ps) → LinesTell (reversed_lines w ps) true w ps
lines_tell w ps apart name u found =
    let g = callee_facts w ps in
    tells_unit (schedules_by true g) g w.marks.adjointed (reversed_lines w ps) 0 ps name u found (agree_self (tales_of w ps) (tales_apart w ps apart))

-- no two that tell stand at one line
pub stand_apart : (w : ProgramFacts) (ps : List Procedure) → AreLinesApart (program_lines ps) → (a b c : List Tale) (s t : Tale) → tales_of w ps ≡ a ++ (s ∷ (b ++ (t ∷ c))) → s.0 ≡ t.0 → ⊥
stand_apart w ps apart a b c s t split same = within a (subst (λ ts. AreLinesApart (lines_of ts)) split (tales_apart w ps apart))
  where
    behind_first : (b : List Tale) → has_line s.0 (lines_of (b ++ (t ∷ c))) ≡ false → ⊥
    behind_first [] h = let e : true ≡ false = sym (nat_refl t.0) ∙ ap (λ n. n == t.0) (sym same) ∙ (or_false (s.0 == t.0) (has_line s.0 (lines_of c)) h).0 in absurd cc
    behind_first (x ∷ b) h = behind_first b (or_false (s.0 == x.0) (has_line s.0 (lines_of (b ++ (t ∷ c)))) h).1

    within : (a : List Tale) → AreLinesApart (lines_of (a ++ (s ∷ (b ++ (t ∷ c))))) → ⊥
    within [] h = behind_first b h.0
    within (x ∷ a) h = within a h.1
