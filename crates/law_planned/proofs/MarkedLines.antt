-- The steps to the kernel keep the lines of marked loops, each as often.
use Rattle.std.proofs.Common.{arith, ◌≡◌, ◌≤◌, ℕ, suc, ◌+◌, List, [], ◌∷◌, ◌++◌, Bool, true, false, map, refl, sym, ap, ◌∙◌, subst, if◌then◌else◌}
use Rattle.std.specs.Prelude.{◌==◌, ◌||◌}
use Rattle.adj_tree.specs.Code.{Var, unmarked, with_count, count_from, Act, assign, choose, loop, during, call, runtime, Code, stop, step, Procedure}
use Rattle.adj_tree.proofs.Names.{nat_refl, nat_same}
use Rattle.def_meaning.specs.Append.{◌+++◌, one}
use Rattle.def_meaning.specs.LeastSet.{Dummies}
use Rattle.def_meaning.specs.Written.{handed_back}
use Rattle.def_names.proofs.Variables.{or_false}
use Rattle.def_kernel.specs.Lowered.{lowered_assign, lowered_call, lowered_act, lowered}
use Rattle.def_kernel.specs.Kernel.{local_in, lowered_unit}
use Rattle.def_kernel.specs.Stepped.{marked_in, marked_in_act, cut_act, cut, step_units_in_act, step_units_in, stepped_unit, stepped_from, stepped_program, step_names, names_of_source, kernel_of}
use Rattle.def_sweep.specs.MarkedUnits.{is_marked}
use Rattle.def_planned.specs.ProgramFacts.{IsUnmarkedAct, IsUnmarked}
use Rattle.law_analysed.specs.MarkedLines.{marked_in as lines_in, marked_lines, program_lines, has_line, AreLinesApart}
use Rattle.law_planned.specs.Planned.{KernelKeepsLines}
use Rattle.law_planned.proofs.Unmarked.{assigns, calls}

abbrev pub once : Bool → ℕ
once true = 1
once false = 0

-- how often a line stands among some
abbrev pub tally : ℕ → List ℕ → ℕ
tally t [] = 0
tally t (l ∷ ls) = once (t == l) + tally t ls

no_first : (n : ℕ) → 0 + n ≡ n
no_first n = omega arith

grouped : (x y z : ℕ) → x + (y + z) ≡ x + y + z
grouped x y z = omega arith

crossed : (a b c d : ℕ) → (a + b) + (c + d) ≡ (a + c) + (b + d)
crossed a b c d = omega arith

no_middle : (a b : ℕ) → (a + 0) + b ≡ a + b
no_middle a b = omega arith

no_last : (n : ℕ) → n + 0 ≡ n
no_last n = omega arith

-- ---- lines are apart where none stands more often than once

absent : (t : ℕ) (ls : List ℕ) → has_line t ls ≡ false → tally t ls ≡ 0
absent t [] h = refl
absent t (l ∷ ls) h =
    let o = or_false (t == l) (has_line t ls) h in
    (λ i. once (o.0 i) + tally t ls) ∙ no_first (tally t ls) ∙ absent t ls o.1

is_absent : (t : ℕ) (ls : List ℕ) → tally t ls ≤ 0 → has_line t ls ≡ false
is_absent t [] h = refl
is_absent t (l ∷ ls) h = go (t == l) h (is_absent t ls)
  where
    go : (b : Bool) → once b + tally t ls ≤ 0 → (tally t ls ≤ 0 → has_line t ls ≡ false) → (b || has_line t ls) ≡ false
    go true k ih = absurd (no (tally t ls) k)
      where
        no : (n : ℕ) → 1 + n ≤ 0 → ⊥
        no n k = omega arith
    go false k ih = ih (subst (λ n. n ≤ 0) (no_first (tally t ls)) k)

once_at_most : (ls : List ℕ) → AreLinesApart ls → (t : ℕ) → tally t ls ≤ 1
once_at_most [] h t = omega arith
once_at_most (l ∷ ls) h t = go (t == l) refl (once_at_most ls h.1 t)
  where
    go : (b : Bool) → (t == l) ≡ b → tally t ls ≤ 1 → once b + tally t ls ≤ 1
    go true e ih =
        let k : tally t ls ≡ 0 = (λ i. tally (nat_same t l e i) ls) ∙ absent l ls h.0 in
        alone (tally t ls) k
      where
        alone : (n : ℕ) → n ≡ 0 → 1 + n ≤ 1
        alone n k = omega arith
    go false e ih = subst (λ n. n ≤ 1) (sym (no_first (tally t ls))) ih

pub are_apart : (ls : List ℕ) → ((t : ℕ) → tally t ls ≤ 1) → AreLinesApart ls
are_apart [] h = tt
are_apart (l ∷ ls) h = (
  is_absent l ls (fewer (tally l ls) (subst (λ b. once b + tally l ls ≤ 1) (nat_refl l) (h l))),
  are_apart ls (λ t. less (once (t == l)) (tally t ls) (h t)),
)
  where
    fewer : (n : ℕ) → 1 + n ≤ 1 → n ≤ 0
    fewer n k = omega arith

    less : (a b : ℕ) → a + b ≤ 1 → b ≤ 1
    less a b k = omega arith

-- ---- statements

module _ (t : ℕ) where
  pub tally_append : (a b : List ℕ) → tally t (a ++ b) ≡ tally t a + tally t b
  tally_append [] b = sym (no_first (tally t b))
  tally_append (l ∷ a) b = (λ i. once (t == l) + tally_append a b i) ∙ grouped (once (t == l)) (tally t a) (tally t b)

  units_append : (us vs : List Procedure) → tally t (program_lines (us ++ vs)) ≡ tally t (program_lines us) + tally t (program_lines vs)
  units_append [] vs = sym (no_first (tally t (program_lines vs)))
  units_append (u ∷ us) vs = tally_append (marked_lines u.body) (program_lines (us ++ vs)) ∙ ap (λ n. tally t (marked_lines u.body) + n) (units_append us vs) ∙ grouped (tally t (marked_lines u.body)) (tally t (program_lines us)) (tally t (program_lines vs)) ∙ ap (λ n. n + tally t (program_lines vs)) (sym (tally_append (marked_lines u.body) (program_lines us)))

  code_append : (c d : Code) → tally t (marked_lines (c +++ d)) ≡ tally t (marked_lines c) + tally t (marked_lines d)
  code_append stop d = sym (no_first (tally t (marked_lines d)))
  code_append (step line a c) d = tally_append (lines_in line a) (marked_lines (c +++ d)) ∙ ap (λ n. tally t (lines_in line a) + n) (code_append c d) ∙ grouped (tally t (lines_in line a)) (tally t (marked_lines c)) (tally t (marked_lines d)) ∙ ap (λ n. n + tally t (marked_lines d)) (sym (tally_append (lines_in line a) (marked_lines c)))

  alone : (line : ℕ) (a : Act) → tally t (marked_lines (one line a)) ≡ tally t (lines_in line a)
  alone line a = tally_append (lines_in line a) [] ∙ no_last (tally t (lines_in line a))

  mutual
    unmarked_act : (line : ℕ) (a : Act) → IsUnmarkedAct a → tally t (lines_in line a) ≡ 0
    unmarked_act line (assign x subs e) h = refl
    unmarked_act line (choose c a b) h = tally_append (marked_lines a) (marked_lines b) ∙ (λ i. unmarked_code a h.0 i + unmarked_code b h.1 i)
    unmarked_act line (loop x first last by body m) h = (λ i. tally t ((if is_marked (h.0 i) then line ∷ [] else []) ++ marked_lines body)) ∙ unmarked_code body h.1
    unmarked_act line (during c body) h = unmarked_code body h
    unmarked_act line (call name args) h = refl
    unmarked_act line (runtime r) h = refl

    unmarked_code : (c : Code) → IsUnmarked c → tally t (marked_lines c) ≡ 0
    unmarked_code stop h = refl
    unmarked_code (step line a rest) h = tally_append (lines_in line a) (marked_lines rest) ∙ (λ i. unmarked_act line a h.0 i + unmarked_code rest h.1 i)

  module _ (local : ℕ → Var) (handed : Dummies) where
    mutual
      lowers_act : (line : ℕ) (a : Act) → tally t (marked_lines (lowered_act local handed line a)) ≡ tally t (lines_in line a)
      lowers_act line (assign x subs e) = unmarked_code (lowered_assign local line x subs e) (assigns local line x subs e)
      lowers_act line (choose c a b) =
          alone line (choose c (lowered local handed a) (lowered local handed b))
          ∙ tally_append (marked_lines (lowered local handed a)) (marked_lines (lowered local handed b)) ∙ (λ i. lowers a i + lowers b i) ∙ sym (tally_append (marked_lines a) (marked_lines b))
      lowers_act line (loop x first last by body m) =
          let own = if is_marked m then line ∷ [] else [] in
          alone line (loop x first last by (lowered local handed body) m) ∙ tally_append own (marked_lines (lowered local handed body)) ∙ (λ i. tally t own + lowers body i) ∙ sym (tally_append own (marked_lines body))
      lowers_act line (during c body) = alone line (during c (lowered local handed body)) ∙ lowers body
      lowers_act line (call name args) = unmarked_code (lowered_call local line (handed name) name args) (calls local line (handed name) name args)
      lowers_act line (runtime r) = refl

      lowers : (c : Code) → tally t (marked_lines (lowered local handed c)) ≡ tally t (marked_lines c)
      lowers stop = refl
      lowers (step line a rest) = code_append (lowered_act local handed line a) (lowered local handed rest) ∙ (λ i. lowers_act line a i + lowers rest i) ∙ sym (tally_append (lines_in line a) (marked_lines rest))

  -- a marked loop and its step unit
  with_unit : (line : ℕ) (c body : Code) (us : List Procedure) → tally t (marked_lines c) + tally t (program_lines us) ≡ tally t (marked_lines body) →
      (once (t == line) + 0) + tally t (marked_lines c ++ program_lines us) ≡ once (t == line) + tally t (marked_lines body)
  with_unit line c body us h = (λ i. (once (t == line) + 0) + (tally_append (marked_lines c) (program_lines us) ∙ h) i) ∙ no_middle (once (t == line)) (tally t (marked_lines body))

  module _ (taken : List (List ℕ)) (u : Procedure) where
    mutual
      cuts_act : (k line : ℕ) (a : Act) → tally t (lines_in line (cut_act taken u k line a)) + tally t (program_lines (step_units_in_act taken u k line a)) ≡ tally t (lines_in line a)
      cuts_act k line (assign x subs e) = refl
      cuts_act k line (choose c a b) =
          let p = cut taken u k a in
          let q = cut taken u (k + marked_in a) b in
          let us = step_units_in taken u k a in
          let vs = step_units_in taken u (k + marked_in a) b in
          (λ i. tally_append (marked_lines p) (marked_lines q) i + units_append us vs i)
          ∙ crossed (tally t (marked_lines p)) (tally t (marked_lines q)) (tally t (program_lines us)) (tally t (program_lines vs)) ∙ (λ i. cuts k a i + cuts (k + marked_in a) b i)
          ∙ sym (tally_append (marked_lines a) (marked_lines b))
      cuts_act k line (loop x first last by body unmarked) = cuts k body
      cuts_act k line (loop x first last by body (with_count m)) = with_unit line (cut taken u (suc k) body) body (step_units_in taken u (suc k) body) (cuts (suc k) body)
      cuts_act k line (loop x first last by body (count_from y)) = with_unit line (cut taken u (suc k) body) body (step_units_in taken u (suc k) body) (cuts (suc k) body)
      cuts_act k line (during c body) = cuts k body
      cuts_act k line (call name args) = refl
      cuts_act k line (runtime r) = refl

      cuts : (k : ℕ) (c : Code) → tally t (marked_lines (cut taken u k c)) + tally t (program_lines (step_units_in taken u k c)) ≡ tally t (marked_lines c)
      cuts k stop = refl
      cuts k (step line a rest) =
          let p = cut_act taken u k line a in
          let q = cut taken u (k + marked_in_act a) rest in
          let us = step_units_in_act taken u k line a in
          let vs = step_units_in taken u (k + marked_in_act a) rest in
          (λ i. tally_append (lines_in line p) (marked_lines q) i + units_append us vs i)
          ∙ crossed (tally t (lines_in line p)) (tally t (marked_lines q)) (tally t (program_lines us)) (tally t (program_lines vs)) ∙ (λ i. cuts_act k line a i + cuts (k + marked_in_act a) rest i)
          ∙ sym (tally_append (lines_in line a) (marked_lines rest))

  -- ---- programs

  steps : (taken : List (List ℕ)) (us : List Procedure) → tally t (program_lines (stepped_from taken us)) ≡ tally t (program_lines us)
  steps taken [] = refl
  steps taken (u ∷ us) =
      let later = taken ++ step_names taken u.name (marked_in u.body) in
      units_append (stepped_unit taken u) (stepped_from later us)
      ∙ (λ i. (tally_append (marked_lines (cut taken u 0 u.body)) (program_lines (step_units_in taken u 0 u.body)) ∙ cuts taken u 0 u.body) i + steps later us i)
      ∙ sym (tally_append (marked_lines u.body) (program_lines us))

  all_lowered : (units us : List Procedure) → tally t (program_lines (map (lowered_unit units) us)) ≡ tally t (program_lines us)
  all_lowered units [] = refl
  all_lowered units (u ∷ us) =
      let c = lowered (local_in units u) (handed_back units) u.body in
      tally_append (marked_lines c) (program_lines (map (lowered_unit units) us)) ∙ (λ i. lowers (local_in units u) (handed_back units) u.body i + all_lowered units us i) ∙ sym (tally_append (marked_lines u.body) (program_lines us))

pub kernel_apart : KernelKeepsLines
kernel_apart ps h =
    are_apart (program_lines (kernel_of ps))
    (λ t. subst (λ n. n ≤ 1) (sym (all_lowered t (stepped_program ps) (stepped_program ps) ∙ steps t (names_of_source ps) ps)) (once_at_most (program_lines ps) h t))
