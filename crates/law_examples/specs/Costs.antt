-- What runs of worked programs take, and the bound on it. (docs/THEOREMS.md, "What both sweeps cost")
use Rattle.std.specs.Prelude.{◌≡◌, ℕ, ℤ, zero, suc, ◌+◌, ◌*◌, ◌≤◌, pos, length, List, [], ◌∷◌, map, true, Option, Some, None, codes}
use Rattle.adj_tree.specs.Code.{plain, times, lit, var, bin, Act, loop, call, runtime, unmarked, with_count, end_reversal, Code, stop, step, Procedure}
use Rattle.def_meaning.specs.Numbers.{words}
use Rattle.def_meaning.specs.Padded.{padded_program}
use Rattle.def_meaning.specs.Scene.{Outcome, Done, Trapped, More, Full}
use Rattle.def_meaning.specs.Store.{scalar}
use Rattle.def_meaning.specs.Written.{find_unit}
use Rattle.def_meaning.specs.Units.{Slot, Output, fits, run_unit}
use Rattle.def_sweep.specs.Tangents.{AreAlike}
use Rattle.def_sweep.specs.MarkedAdjoint.{shadow_flags, joined_by}
use Rattle.law_sweep.specs.Examples.{unit_over, set}
use Rattle.def_sweep.specs.Marking.{ProgramMarks}
use Rattle.def_sweep.specs.Plan.{actuals_named}
use Rattle.def_sweep.specs.Reversals.{ReversedLines}
use Rattle.def_adjoint.specs.Few.{AllFew}
use Rattle.law_examples.specs.Faulty.{Change}

-- ---- runs

abbrev used_of : Outcome (Output ℤ) → ℕ
used_of (Done out used) = used
used_of (Trapped t line w) = 0
used_of (More w) = 0
used_of (Full w) = 0

abbrev taken_of : Option Procedure → List Procedure → List ℤ → ℕ → ℕ
taken_of None qs zs k = 0
taken_of (Some u) qs zs k = used_of (run_unit words qs u (map (λ z. record { shape = scalar; cells = z ∷ [] }) zs) [] None k)

-- the statements that a run of the unit of a name takes which is done: on these words
abbrev pub taken_by : List Procedure → List ℕ → List ℤ → ℕ → ℕ
taken_by qs name zs k = taken_of (find_unit qs name) qs zs k

-- The unit of a name in qs takes at most so many statements, by those that u's run in ps takes and by a number of repetitions that serves: on every
-- input on which that run is done.
abbrev pub Keeps : ReversedLines → ProgramMarks → List Procedure → Procedure → List Procedure → List ℕ → (ℕ → ℕ → ℕ → ℕ) → Type 0
Keeps lines m ps u qs name most =
    (a : Procedure) → find_unit qs name ≡ Some a →
    (input shadows : List (Slot ℤ)) → fits words u input ≡ true → AreAlike input shadows → (k used : ℕ) (output : Output ℤ) → run_unit words ps u input [] None k ≡ Done output used → (reps : ℕ) → AllFew lines reps output.events →
    (j spent : ℕ) (end : Output ℤ) → run_unit words qs a (joined_by (shadow_flags (m.shadowed u.name) u.dummies) input shadows) [] None j ≡ Done end spent →
    spent ≤ most reps used (length u.dummies)

-- so much to each unit of what the run of the unit of a name costs, where a statement costs so many statements more, and two for each dummy
abbrev pub bound_priced : (Act → ℕ) → (calls reps : ℕ) → List Procedure → List ℕ → List ℤ → ℕ → ℕ
bound_priced extra calls reps ps name zs k = (15 + suc calls * suc reps) * taken_by (padded_program extra ps) name zs k + 2 * length zs

-- ---- changes

-- before a reversal ends, a loop of n turns that does nothing
abbrev pub idling : ℕ → Change
idling n line (runtime end_reversal) rest = step line (loop (plain (codes "ADK1")) (lit (pos 1)) (lit (pos n)) (lit (pos 1)) stop unmarked) (step line (runtime end_reversal) rest)
idling n line a rest = step line a rest

-- ---- a step with many variables, and a long one

-- L1, .., Ln
abbrev numbered_names : ℕ → List (List ℕ)
numbered_names zero = []
numbered_names (suc n) = (76 ∷ (65 + n) ∷ []) ∷ numbered_names n

abbrev squares : List (List ℕ) → Code
squares [] = stop
squares (x ∷ xs) = step 3 (set (plain x) (bin times (var (plain x)) (var (plain x)))) (squares xs)

abbrev squares_of : ℕ → Code
squares_of zero = stop
squares_of (suc n) = step 3 (set (plain (codes "A")) (bin times (var (plain (codes "A"))) (var (plain (codes "A"))))) (squares_of n)

-- P(I), DO I=1,0 with 1 snapshot, CALL S(L1,..,Ln); S squares each
abbrev pub wide : ℕ → List Procedure
wide n =
    record (unit_over (numbered_names n) (squares (numbered_names n))) { name = codes "S" }
    ∷ unit_over (codes "I" ∷ []) (step 3 (loop (plain (codes "I")) (lit (pos 1)) (lit (pos 0)) (lit (pos 1)) (step 4 (call (codes "S") (actuals_named (numbered_names n))) stop) (with_count 1)) stop)
    ∷ []

-- P(X,I), DO I=1,2 with 1 snapshot, CALL S(X); S(A) squares A n times
abbrev pub long : ℕ → List Procedure
long n =
    record (unit_over (codes "A" ∷ []) (squares_of n)) { name = codes "S" }
    ∷ unit_over (codes "X" ∷ codes "I" ∷ []) (step 3 (loop (plain (codes "I")) (lit (pos 1)) (lit (pos 2)) (lit (pos 1)) (step 4 (call (codes "S") (actuals_named (codes "X" ∷ []))) stop) (with_count 1)) stop)
    ∷ []
