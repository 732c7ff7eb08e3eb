-- What a text with blocks is as a program: what is checked, differentiated and run is the lowered program.
use Rattle.std.specs.Prelude.{◌≡◌, ℕ, ℤ, List, Option, Some, None, Result, Ok, Err}
use Rattle.adj_tree.specs.Code.{Procedure}
use Rattle.adj_tree.specs.declared.fault.Refusal.{Refusal}
use Rattle.def_text.specs.Reads.{ReadsShared}
use Rattle.def_meaning.specs.Numbers.{Numbers}
use Rattle.def_meaning.specs.Units.{Slot, run_unit}
use Rattle.adj_tree.specs.Common.{Shared}
use Rattle.def_common.specs.Blocks.{find_shared}
use Rattle.def_common.specs.Lowering.{lowered_unit, lowered_program}
use Rattle.def_common.specs.Slots.{run_with_blocks}
use Rattle.def_common.specs.Refused.{layout_refusal}

abbrev pub or_refused : {A : Type 0} → Option Refusal → A → Result A Refusal
or_refused None a = Ok a
or_refused (Some r) a = Err r

-- the program without blocks: the lowered one, or the refusal of layouts that differ
abbrev pub without_blocks : List Shared → Result (List Procedure) Refusal
without_blocks ps = or_refused (layout_refusal ps) (lowered_program ps)

-- the text reads as a program with blocks, whose layouts are alike, and this is its lowered program
pub record ReadsLowered (bytes : List ℕ) (program : List Procedure) : Type 0 where
  pub shared : List Shared
  pub reads : ReadsShared bytes shared
  pub alike : layout_refusal shared ≡ None
  pub is : program ≡ lowered_program shared

-- each unit's run with blocks is its run in the lowered program, whatever it begins with: the same slots, tape and events after as many
-- statements, or the same trap at the same line, or both run out of statements or of tape
abbrev pub KeepsRunsOver : Type 0 → List Shared → Type 0
KeepsRunsOver C ps =
    (name : List ℕ) (s : Shared) → find_shared ps name ≡ Some s →
    (n : Numbers C) (input : List (Slot C)) (tape : List C) (room : Option ℕ) (k : ℕ) → run_with_blocks n ps s input tape room k ≡ run_unit n (lowered_program ps) (lowered_unit ps s) input tape room k

-- over words, and over words that each carry a tangent
abbrev pub KeepsRuns : List Shared → Type 0
KeepsRuns ps = KeepsRunsOver ℤ ps × KeepsRunsOver (ℤ × ℤ) ps
