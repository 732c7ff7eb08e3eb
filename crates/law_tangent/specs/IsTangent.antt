-- What it means that a program is the tangent of a program in kernel form for a head, with a bound on the statements of its run.
use Rattle.std.specs.Prelude.{◌≡◌, ◌≤◌, ℕ, ◌+◌, ◌*◌, ℤ, List, [], ◌∷◌, map, length, Bool, true, Some, None}
use Rattle.adj_tree.specs.Code.{Procedure}
use Rattle.def_meaning.specs.Trap.{Trap}
use Rattle.def_meaning.specs.Numbers.{words, duals}
use Rattle.def_meaning.specs.Scene.{Stand, Done, Trapped}
use Rattle.def_meaning.specs.Written.{find_unit}
use Rattle.def_meaning.specs.Seen.{slot_seen}
use Rattle.def_meaning.specs.Units.{Slot, Output, fits, run_unit}
use Rattle.def_sweep.specs.Tangents.{AreAlike, IsDirection, OthersAreZero, cells_of, tangents_of, with_direction}
use Rattle.def_sweep.specs.MarkedAdjoint.{shadow_flags, joined_by}
use Rattle.def_sweep.specs.Declared.{unit_at}
use Rattle.def_tangent.specs.Program.{Carried, tangent_name}
use Rattle.def_tangent.specs.IsTangent.{AreAllWords, AreHandedIn, TangentTraps}

-- where the dual run is done with `out` after `used` statements: the run of the tangent with enough statements is done as follows
pub record TangentDone (w : ℕ) (flags : List Bool) (qs : List Procedure) (a : Procedure) (input : List (Slot ℤ)) (out : Output (ℤ × ℤ)) (used dummies : ℕ) : Type 0 where
  pub enough : ℕ
  pub output : Output ℤ
  pub spent : ℕ
  pub runs : (k : ℕ) → enough ≤ k → run_unit words qs a input [] None k ≡ Done output spent
  -- each dummy has its value, followed by its tangent if it carries one
  pub slots : output.slots ≡ joined_by flags (map (slot_seen (λ c. c.0)) out.slots) (map (slot_seen (λ c. c.1)) out.slots)
  -- a dummy that carries none has the tangent 0 in the dual run
  pub others : OthersAreZero flags (tangents_of (cells_of out.slots))
  pub tape : output.tape ≡ []
  pub cost : spent ≤ w * used + dummies

-- The unit of qs with the name of u's tangent is a tangent of the unit u of ps, where the flags tell u's independents and `c` what carries a
-- tangent. Each dummy that carries one is followed by it.
pub record IsTangentOf (w : ℕ) (c : Carried) (ps : List Procedure) (u : Procedure) (vars : List Bool) (qs : List Procedure) : Type 0 where
  pub unit : Procedure
  pub found : find_unit qs (tangent_name ps u.name) ≡ Some unit
  pub done : (input z : List (Slot ℤ)) (d : List (List ℤ)) → fits words u input ≡ true → AreAlike input z → IsDirection vars input d → AreAllWords d → AreHandedIn vars d z → (n used : ℕ) (out : Output (ℤ × ℤ)) →
      run_unit duals ps u (with_direction input d) [] None n ≡ Done out used → TangentDone w (shadow_flags (c u.name) u.dummies) qs unit (joined_by (shadow_flags (c u.name) u.dummies) input z) out used (length u.dummies)
  pub traps : (input z : List (Slot ℤ)) (d : List (List ℤ)) → fits words u input ≡ true → AreAlike input z → IsDirection vars input d → AreAllWords d → AreHandedIn vars d z → (n line : ℕ) (t : Trap) (x : Stand) →
      run_unit duals ps u (with_direction input d) [] None n ≡ Trapped t line x → TangentTraps qs unit (joined_by (shadow_flags (c u.name) u.dummies) input z) line

-- qs is the tangent of ps for the head of this number, with at most w statements for one of the dual run and one for each dummy
abbrev pub IsTangent : ℕ → Carried → List Procedure → ℕ → List Bool → List Procedure → Type 0
IsTangent w c ps head vars qs = (u : Procedure) → unit_at head ps ≡ u ∷ [] → IsTangentOf w c ps u vars qs
