-- What it means that a program is the tangent of a program of a user for a head: its run on values and tangents is the dual run of the head.
--
-- The dual run begins with the values of an input and with the tangents of a direction, which are 0 for all but the independents. The run of
-- the tangent begins with the same values and with the same tangents of the independents; the other tangents are whatever the caller hands
-- in, since the tangent clears them first. The tangents of the independents are words. An input that is read has no others; and no text could do
-- it for other integers, since the dual run has residues where the text copies a tangent as it is.
use Rattle.std.specs.Prelude.{◌≡◌, ◌≤◌, ℕ, ◌+◌, ◌*◌, ℤ, List, [], ◌∷◌, map, length, Bool, true, false, Some, None}
use Rattle.adj_tree.specs.Code.{Procedure}
use Rattle.adj_word.specs.Word.{IsWord}
use Rattle.def_meaning.specs.Trap.{Trap}
use Rattle.def_meaning.specs.Numbers.{words, duals}
use Rattle.def_meaning.specs.Scene.{Stand, Done, Trapped}
use Rattle.def_meaning.specs.Written.{find_unit}
use Rattle.def_meaning.specs.Seen.{slot_seen}
use Rattle.def_meaning.specs.Units.{Slot, Output, fits, run_unit}
use Rattle.def_sweep.specs.Tangents.{AreAlike, IsDirection, OthersAreZero, cells_of, tangents_of, with_direction}
use Rattle.def_sweep.specs.MarkedAdjoint.{shadow_flags, joined_by}
use Rattle.def_kernel.specs.Kernel.{EachUnit}
use Rattle.def_kernel.specs.Stepped.{kernel_of}
use Rattle.def_kernel.specs.Weights.{WeighsAtMost}
use Rattle.def_tangent.specs.Program.{Carried, tangent_name}

-- each of the tangents that are handed in is a word
abbrev pub AllWords : List ℤ → Type 0
AllWords [] = Unit {0}
AllWords (z ∷ zs) = IsWord z × AllWords zs

abbrev pub AreAllWords : List (List ℤ) → Type 0
AreAllWords [] = Unit {0}
AreAllWords (d ∷ ds) = AllWords d × AreAllWords ds

-- the tangents that are handed in for the independents are those of the direction; for the others they may be anything
abbrev pub AreHandedIn : List Bool → List (List ℤ) → List (Slot ℤ) → Type 0
AreHandedIn [] ds zs = Unit {0}
AreHandedIn (b ∷ vars) [] zs = Unit {0}
AreHandedIn (b ∷ vars) (d ∷ ds) [] = Unit {0}
AreHandedIn (true ∷ vars) (d ∷ ds) (z ∷ zs) = (z.cells ≡ d) × AreHandedIn vars ds zs
AreHandedIn (false ∷ vars) (d ∷ ds) (z ∷ zs) = AreHandedIn vars ds zs

-- Where the dual run of the head is done with `out`, the run of the tangent with enough statements is done as follows. The statements that it takes are compared
-- with those of the kernel's dual run: at most twice as many for each of these as a statement of the kernel weighs at most, and one for each dummy.
pub record EndsAsDual (flags : List Bool) (ks qs : List Procedure) (kernel tangent : Procedure) (dual : List (Slot (ℤ × ℤ))) (input : List (Slot ℤ)) (out : Output (ℤ × ℤ)) (dummies : ℕ) : Type 0 where
  pub kernel_output : Output (ℤ × ℤ)
  pub kernel_used : ℕ
  pub kernel_enough : ℕ
  pub kernel_runs : (k : ℕ) → kernel_enough ≤ k → run_unit duals ks kernel dual [] None k ≡ Done kernel_output kernel_used
  pub enough : ℕ
  pub output : Output ℤ
  pub spent : ℕ
  pub runs : (k : ℕ) → enough ≤ k → run_unit words qs tangent input [] None k ≡ Done output spent
  -- each dummy has its value, followed by its tangent if it carries one
  pub slots : output.slots ≡ joined_by flags (map (slot_seen (λ c. c.0)) out.slots) (map (slot_seen (λ c. c.1)) out.slots)
  -- a dummy that carries none has the tangent 0 in the dual run
  pub others : OthersAreZero flags (tangents_of (cells_of out.slots))
  pub tape : output.tape ≡ []
  pub cost : (weight : ℕ) → EachUnit (λ u. WeighsAtMost weight u.body) ks → spent ≤ 2 * weight * kernel_used + dummies

-- where the dual run traps at a line: so does the run of the tangent, perhaps by another kind of trap
pub record TangentTraps (qs : List Procedure) (a : Procedure) (input : List (Slot ℤ)) (line : ℕ) : Type 0 where
  pub enough : ℕ
  pub kind : Trap
  pub stands : Stand
  pub runs : (k : ℕ) → enough ≤ k → run_unit words qs a input [] None k ≡ Trapped kind line stands

-- The unit of qs that bears the name which the tangent of the head's kernel gets is the tangent of the head, the unit of a name in ps: each dummy that carries
-- a tangent is followed by it. Values, tangents and traps are those of the head's own dual run; a trap may be at another line, since texts have lines of their own.
pub record IsTangentOfSource (on : Carried) (ps : List Procedure) (name : List ℕ) (vars : List Bool) (qs : List Procedure) : Type 0 where
  pub unit : Procedure
  pub is_head : find_unit ps name ≡ Some unit
  pub kernel : Procedure
  pub becomes : find_unit (kernel_of ps) name ≡ Some kernel
  pub tangent : Procedure
  pub is_there : find_unit qs (tangent_name (kernel_of ps) name) ≡ Some tangent
  pub done : (input z : List (Slot ℤ)) (d : List (List ℤ)) → fits words unit input ≡ true → AreAlike input z → IsDirection vars input d → AreAllWords d → AreHandedIn vars d z → (n used : ℕ) (out : Output (ℤ × ℤ)) →
      run_unit duals ps unit (with_direction input d) [] None n ≡ Done out used →
      EndsAsDual (shadow_flags (on name) unit.dummies) (kernel_of ps) qs kernel tangent (with_direction input d) (joined_by (shadow_flags (on name) unit.dummies) input z) out (length unit.dummies)
  pub traps : (input z : List (Slot ℤ)) (d : List (List ℤ)) → fits words unit input ≡ true → AreAlike input z → IsDirection vars input d → AreAllWords d → AreHandedIn vars d z → (n line : ℕ) (t : Trap) (x : Stand) →
      run_unit duals ps unit (with_direction input d) [] None n ≡ Trapped t line x → (at : ℕ) × TangentTraps qs tangent (joined_by (shadow_flags (on name) unit.dummies) input z) at
