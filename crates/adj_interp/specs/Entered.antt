-- Entered: what a call finds before the unit that is called runs.
use Rattle.std.specs.Prelude.{◌≡◌, ℕ, suc, ◌==◌, Result, Ok, Err, if◌then◌else◌}
use Rattle.adj_tree.specs.declared.value.Trap.TheVariants as trap
use Rattle.def_meaning.specs.Trap.{Trap, schedule_trap}
use Rattle.def_meaning.specs.Numbers.{Numbers}
use Rattle.def_meaning.specs.Value.{Setting}
use Rattle.def_meaning.specs.Scene.{Done, Trapped, Go, stand}
use Rattle.def_meaning.specs.Store.{Shape}
use Rattle.adj_tree.specs.Code.{Var}
use Rattle.adj_interp_frame.specs.Framed.{trap_of}
use Rattle.adj_interp.specs.declared.stop.Stop.{Stop}
use Rattle.adj_interp.specs.declared.stop.Stop.TheVariants as stop
use Rattle.adj_interp.specs.Held.{Entry}

-- what stands for a value is found as the value is defined, or its trap at the line, unless memory ran out
abbrev pub Gets : {A B : Type 0} → (A → B) → ℕ → Result B Trap → Result A Stop → Type 0
Gets f line r (Ok a) = r ≡ Ok (f a)
Gets f line r (Err (stop.Trap t l)) = (r ≡ Err (trap_of t)) × (l ≡ line)
Gets f line r (Err stop.Budget) = ⊥
Gets f line r (Err stop.TapeFull) = ⊥
Gets f line r (Err stop.Memory) = Unit {0}

-- a trap SHAPE at the line comes where something holds; no other stop comes, unless memory ran out
abbrev pub IsMisfit : Stop → ℕ → Type 0 → Type 0
IsMisfit (stop.Trap trap.Shape l) line P = (l ≡ line) × P
IsMisfit (stop.Trap trap.Division l) line P = ⊥
IsMisfit (stop.Trap trap.Index l) line P = ⊥
IsMisfit (stop.Trap trap.Step l) line P = ⊥
IsMisfit (stop.Trap trap.Tape l) line P = ⊥
IsMisfit (stop.Trap trap.Schedule l) line P = ⊥
IsMisfit (stop.Trap trap.Power l) line P = ⊥
IsMisfit stop.Budget line P = ⊥
IsMisfit stop.TapeFull line P = ⊥
IsMisfit stop.Memory line P = Unit {0}

-- the entry of a unit with these shapes, called in another, where so many reversals are open
abbrev pub inside : {C : Type 0} {numbers : Numbers C} → Entry numbers → (Var → Shape) → ℕ → Entry numbers
inside e shape count = record { shape = shape; room = e.room; level = suc e.level; base = count }

-- the end of a unit, where no reversal may be open
abbrev pub closed : {C : Type 0} → Setting C → ℕ → Go C
closed n line s k = if s.opened == 0 then Done s k else Trapped schedule_trap line (stand n s)
