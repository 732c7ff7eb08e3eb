-- What a program with blocks does: besides the stores of units there is one slot for each member of a block, which no call copies.
-- A slot is a variable that no text names; a unit's members stand for slots, and a call leaves slots as they are.
use Rattle.std.specs.Prelude.{ℕ, zero, suc, ◌-◌, List, [], ◌++◌, map, reverse, Bool, ◌&&◌, Option, Some, None, if◌then◌else◌}
use Rattle.adj_tree.specs.Code.{Var, Terms, Declaration, Procedure}
use Rattle.def_meaning.specs.Trap.{shape_trap}
use Rattle.def_meaning.specs.Numbers.{Numbers}
use Rattle.def_meaning.specs.Store.{scalar, Store}
use Rattle.def_meaning.specs.Value.{Setting}
use Rattle.def_meaning.specs.Scene.{Scene, Go, Outcome, Done, Trapped, More, stand, then_do, with_value}
use Rattle.def_meaning.specs.Run.{Calls}
use Rattle.def_meaning.specs.Rename.{rename}
use Rattle.def_meaning.specs.Apart.{is_named}
use Rattle.def_meaning.specs.Written.{find_unit, handed_back}
use Rattle.def_meaning.specs.Units.{actuals, entry_store, dummies_fit, copied_out, setting_in, unit_run, Slot, Output, input_store, dummy_slots}
use Rattle.adj_tree.specs.Common.{Shared}
use Rattle.def_common.specs.Blocks.{used_blocks}
use Rattle.def_common.specs.Members.{is_slot, block_members, slots_for, members, owned, swap, swapped_declaration}

-- the slots of a unit stand among its dummies: they are those of the members of the blocks that it uses
abbrev pub is_slot_of : Procedure → Var → Bool
is_slot_of u x = is_slot x && is_named u.dummies x

-- ---- calls

-- the slots of a unit as they are in one store, and all other variables as in another
abbrev pub with_slots : {C : Type 0} → Procedure → Store C → Store C → Store C
with_slots u slots s = λ x j. if is_slot_of u x then slots x j else s x j

-- a call of a unit that was found: dummies and locals are those of each call. Its slots are no actuals: it has them as they are, and leaves them
-- as they are at its end; and the caller's other slots stay
abbrev pub call_in_blocks : {C : Type 0} → Calls C → Setting C → List Bool → Option Procedure → Terms → ℕ → Go C
call_in_blocks inner n ws None args line s k = Trapped shape_trap line (stand n s)
call_in_blocks inner n ws (Some u) args line s k =
    with_value (actuals n args s.store) line (stand n s) (λ got.
    let start = with_slots u s.store (entry_store n.numbers u.dummies got) in
    if dummies_fit n.numbers u start u.dummies got
    then then_do (unit_run inner n u line (record s { store = start }) k)
    (λ s1 j. Done (record s { store = copied_out u.dummies ws got s1.store (with_slots u s1.store s.store); tape = s1.tape; events = s1.events }) j)
    else Trapped shape_trap line (stand n s))

abbrev pub calls_with_blocks : {C : Type 0} → List Procedure → ℕ → Calls C
calls_with_blocks units zero n name args line s k = More (stand n s)
calls_with_blocks units (suc depth) n name args line s k = call_in_blocks (calls_with_blocks units depth) n (handed_back units name) (find_unit units name) args line s k

-- a run of a unit of a program with slots: the slots stand among its dummies, so that the input gives them and the output has them
abbrev pub run_in_slots : {C : Type 0} → Numbers C → List Procedure → Procedure → List (Slot C) → List C → Option ℕ → ℕ → Outcome (Output C)
run_in_slots n units u input tape room k =
    let outside : Setting _ = record { numbers = n; shape = λ x. scalar; room = room; level = 0 } in
    let start : Scene _ = record { store = input_store n u input; tape = tape; opened = 0; events = [] } in
    then_do (unit_run (calls_with_blocks units k) outside u u.line start k) (λ e left.
    Done (record { slots = dummy_slots (setting_in outside u start.store) u e.store; tape = e.tape; events = reverse e.events }) (k - left))

-- ---- a program with blocks

-- slots are laid out as in the first unit that declares the block
abbrev pub slot_declarations : List Shared → List ℕ → List Declaration
slot_declarations ps name = map (λ m. record { line = m.line; name = m.slot; extents = m.extents }) (block_members ps (used_blocks ps name))

-- a unit whose members stand for slots; the slots follow its own dummies
abbrev pub shared_unit : List Shared → Shared → Procedure
shared_unit ps s =
    let ms = owned (members ps s) in
    record s.unit {
      dummies = s.unit.dummies ++ slots_for ps s.unit.name;
      declarations = slot_declarations ps s.unit.name ++ map (swapped_declaration ms) s.unit.declarations;
      body = rename (swap ms) s.unit.body;
    }

abbrev pub shared_units : List Shared → List Procedure
shared_units ps = map (shared_unit ps) ps

-- a run of a unit: its input is its dummies and then the members of the blocks that it uses
abbrev pub run_with_blocks : {C : Type 0} → Numbers C → List Shared → Shared → List (Slot C) → List C → Option ℕ → ℕ → Outcome (Output C)
run_with_blocks n ps s input tape room k = run_in_slots n (shared_units ps) (shared_unit ps s) input tape room k
