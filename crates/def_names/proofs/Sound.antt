-- A program without a first fault has no fault in any pass.
use Rattle.std.proofs.Common.{◌≡◌, List, [], ◌∷◌, refl, Option, Some, None}
use Rattle.std.specs.Option.{option_or}
use Rattle.adj_tree.specs.Code.{Procedure}
use Rattle.adj_tree.specs.declared.fault.Refusal.{Refusal}
use Rattle.def_names.specs.Fault.{Rules, first_of, first_in_passes}
use Rattle.def_names.specs.UnitFaults.{unit_faults}
use Rattle.def_names.specs.NameFaults.{name_faults}
use Rattle.def_names.specs.CallFaults.{call_faults}
use Rattle.def_names.specs.ChainFaults.{chain_faults}
use Rattle.def_names.specs.WriteFaults.{write_faults}
use Rattle.def_names.specs.Check.{IsSound}
use Rattle.def_names.specs.Laws.{HasNone}
use Rattle.def_names.proofs.Order.{no_first}

-- where two have none, each has none
neither : {X : Type 0} (a b : Option X) → option_or a b ≡ None → (a ≡ None) × (b ≡ None)
neither None b h = (refl, h)
neither (Some x) b h = absurd cc

-- a pass has none, and nor have those behind it
pass_has_none : (rs : List Refusal) (later : List (List Refusal)) → first_in_passes (rs ∷ later) ≡ None → (rs ≡ []) × (first_in_passes later ≡ None)
pass_has_none rs later h = let both = neither (first_of rs) (first_in_passes later) h in (no_first rs both.0, both.1)

pub sound_has_none : (m : Rules) (ps : List Procedure) → IsSound m ps → HasNone m ps
sound_has_none m ps h =
    let a = pass_has_none (unit_faults ps) (name_faults m ps ∷ call_faults ps ∷ chain_faults m ps ∷ write_faults ps ∷ []) h in
    let b = pass_has_none (name_faults m ps) (call_faults ps ∷ chain_faults m ps ∷ write_faults ps ∷ []) a.1 in
    let c = pass_has_none (call_faults ps) (chain_faults m ps ∷ write_faults ps ∷ []) b.1 in
    let d = pass_has_none (chain_faults m ps) (write_faults ps ∷ []) c.1 in
    let e = pass_has_none (write_faults ps) [] d.1 in
    record { units = a.0; names = b.0; calls = c.0; chains = d.0; writes = e.0 }
