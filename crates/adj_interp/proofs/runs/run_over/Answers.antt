use Rattle.std.proofs.Common.{rules, ◌≡◌, ◌<◌, List, map, take, length, refl, sym, ap, subst, ◌∙◌, arith, Some, Vec, Global}
use Rattle.std.specs.Prelude.{slice_get, Err, Ok}
use Rattle.std.proofs.lemmas.List.{length-map}
use Rattle.adj_tree.specs.Code.{Procedure}
use Rattle.adj_tree.specs.View.{procedure_of, procedures_of}
use Rattle.def_meaning.specs.Units.{input_store, run_unit}
use Rattle.adj_interp_frame.specs.declared.routine.Routine.{Routine}
use Rattle.adj_interp_frame.specs.declared.slot.Slot.{Slot as EntrySlot}
use Rattle.adj_interp_frame.specs.Framed.{IsFrame}
use Rattle.adj_interp_frame.specs.Linked.{IsRoutine, units_in}
use Rattle.adj_interp_frame.specs.Shown.{Shows}
use Rattle.adj_interp.specs.declared.stop.Stop.TheVariants as stop
use Rattle.adj_interp.specs.Concludes.{Counts}
use Rattle.adj_interp.specs.Ended.{EndsWith}
use Rattle.adj_interp.specs.Held.{used_at}
use Rattle.adj_interp.specs.Inputs.{entry_seen, input_shape}
use Rattle.adj_interp.proofs.Calling.{unit_at, entered_suited}
use Rattle.adj_interp.proofs.Concluding.{values_shown}
use Rattle.adj_interp.proofs.Running.{first_entry, first_scene, starts, stopped, done, stopped_used, done_used}
use Rattle.adj_interp.proofs.runs.run_over.Goals as goal

same_unit : (a b : Procedure) → Some a ≡ Some b → a ≡ b
same_unit a b h = cc

-- a run is of the unit and the program that it is of
turned : {B : Type 0} (us ps : List Procedure) (v u : Procedure) (go : List Procedure → Procedure → B) (P : B → Type 0) → us ≡ ps → v ≡ u → P (go us v) → P (go ps u)
turned us ps v u go P p q h = subst P (λ i. go (p i) (q i)) h

pub first_entry-requires-clause-fits : goal.first_entry-requires-clause-fits
first_entry-requires-clause-fits g c =
    let rs = c.in_ok-routines.routines.items in
    let r = c.index-routine.result.now in
    let units = c.in_ok-routines.ensures.units in
    let n = length-map rs (λ (z : Routine). procedure_of z.unit.now) in
    let there = c.requires.there in
    let many = ap length units in
    let lt : c.args.unit < length c.in_ok-routines.routines.items = omega (arith, n, there, many) in
    let at = ap (λ ps. slice_get ps c.args.unit) (sym units) ∙ unit_at rs c.args.unit r lt ∙ ap (λ (z : Routine). Some (procedure_of z.unit.now)) (sym c.index-routine.ensures) in
    c.requires.fits (procedure_of r.unit.now) at

pub finish-ended-requires-clause-routine : goal.finish-ended-requires-clause-routine
finish-ended-requires-clause-routine g c =
    let rs = c.in_ok-routines.routines.items in
    let r = c.index-routine.result.now in
    let units = c.in_ok-routines.ensures.units in
    let n = length-map rs (λ (z : Routine). procedure_of z.unit.now) in
    let there = c.requires.there in
    let many = ap length units in
    let lt : c.args.unit < length c.in_ok-routines.routines.items = omega (arith, n, there, many) in
    subst (λ all. IsRoutine (units_in all) r) (sym c.as_slice.ensures.value) (subst (IsRoutine (units_in rs)) (sym c.index-routine.ensures) (c.in_ok-routines.ensures.routines c.args.unit r lt))

pub finish-ended-requires-clause-suited : goal.finish-ended-requires-clause-suited
finish-ended-requires-clause-suited g c =
    let rs = c.in_ok-routines.routines.items in
    let r = c.index-routine.result.now in
    let units = c.in_ok-routines.ensures.units in
    let n = length-map rs (λ (z : Routine). procedure_of z.unit.now) in
    let there = c.requires.there in
    let many = ap length units in
    let lt : c.args.unit < length c.in_ok-routines.routines.items = omega (arith, n, there, many) in
    let routine = subst (λ all. IsRoutine (units_in all) r) (sym c.as_slice.ensures.value) (subst (IsRoutine (units_in rs)) (sym c.index-routine.ensures) (c.in_ok-routines.ensures.routines c.args.unit r lt)) in
    let u = procedure_of r.unit.now in
    let store = input_store g.N.Number.numbers u (map entry_seen c.args.input.items) in
    let k = c.in_ok-frame.ensures in
    entered_suited (units_in c.as_slice.result.now) r store (input_shape g.N.Number.numbers u store) store c.in_ok-frame.frame routine k.names k.framed k.shown (λ x. refl)

pub returns-in_err-ended-clause-spent : goal.returns-in_err-ended-clause-spent
returns-in_err-ended-clause-spent g c budget =
    let err : c.from_residual-in_err-ended.result ≡ Err c.in_err-ended.field-0.0 = search rules in
    let both : Err c.in_err-ended.field-0.0 ≡ Err stop.Budget = sym err ∙ budget in
    let is : c.in_err-ended.field-0.0 ≡ stop.Budget = cc in
    c.log.ensures.used ∙ (rw c.in_err-ended.was at c.used.ensures) ∙ ap (λ z. used_at c.args.budget c.finish-ended.new.self.left (Err z)) is

pub returns-in_err-ended-clause-ends : goal.returns-in_err-ended-clause-ends
returns-in_err-ended-clause-ends g c u asked =
    let rs = c.in_ok-routines.routines.items in
    let r = c.index-routine.result.now in
    let units = c.in_ok-routines.ensures.units in
    let n = length-map rs (λ (z : Routine). procedure_of z.unit.now) in
    let there = c.requires.there in
    let many = ap length units in
    let lt : c.args.unit < length c.in_ok-routines.routines.items = omega (arith, n, there, many) in
    let at = ap (λ ps. slice_get ps c.args.unit) (sym units) ∙ unit_at rs c.args.unit r lt ∙ ap (λ (z : Routine). Some (procedure_of z.unit.now)) (sym c.index-routine.ensures) in
    let v = procedure_of r.unit.now in
    let us = units_in c.as_slice.result.now in
    let held = c.args.tape.now in
    let input = map entry_seen c.args.input.items in
    let x = c.in_err-ended.field-0.0 in
    let err : c.from_residual-in_err-ended.result ≡ Err c.in_err-ended.field-0.0 = search rules in
    let k = c.in_ok-frame.ensures in
    let shown = subst (λ ns. Shows g.N.Number.numbers ns c.in_ok-frame.frame.slots.items (input_shape g.N.Number.numbers v (input_store g.N.Number.numbers v input)) (input_store g.N.Number.numbers v input)) (sym k.names) k.shown in
    let holds = starts g.N.Number.numbers us v input held c.args.budget _ c.replace.ensures.value refl refl c.new.ensures shown in
    let ends = rw c.in_err-ended.was at (c.finish-ended.ensures.ends (first_entry g.N.Number.numbers us v input held c.args.budget) (first_scene g.N.Number.numbers us v input held c.args.budget) holds) in
    subst (λ z. EndsWith g.N.Number.numbers (λ (slots : Vec (EntrySlot _) Global). map entry_seen slots.items) (run_unit g.N.Number.numbers (procedures_of c.args.program.now.program) u input held.words (Some held.room) c.args.budget) z c.finish-ended.new.self.tape c.log.result) (sym err)
    (turned us (procedures_of c.args.program.now.program) v u (λ ps w. run_unit g.N.Number.numbers ps w input held.words (Some held.room) c.args.budget) (λ o. EndsWith g.N.Number.numbers (λ (slots : Vec (EntrySlot _) Global). map entry_seen slots.items) o (Err x) c.finish-ended.new.self.tape c.log.result)
    (ap units_in c.as_slice.ensures.value ∙ units) (same_unit v u (sym at ∙ asked))
    (stopped g.N.Number.numbers us v input held c.args.budget (λ (slots : Vec (EntrySlot _) Global). map entry_seen slots.items) x c.finish-ended.new.self c.log.result ends c.log.ensures.counted))

pub returns-in_err-ended-clause-counted : goal.returns-in_err-ended-clause-counted
returns-in_err-ended-clause-counted g c u asked =
    let rs = c.in_ok-routines.routines.items in
    let r = c.index-routine.result.now in
    let units = c.in_ok-routines.ensures.units in
    let n = length-map rs (λ (z : Routine). procedure_of z.unit.now) in
    let there = c.requires.there in
    let many = ap length units in
    let lt : c.args.unit < length c.in_ok-routines.routines.items = omega (arith, n, there, many) in
    let at = ap (λ ps. slice_get ps c.args.unit) (sym units) ∙ unit_at rs c.args.unit r lt ∙ ap (λ (z : Routine). Some (procedure_of z.unit.now)) (sym c.index-routine.ensures) in
    let v = procedure_of r.unit.now in
    let us = units_in c.as_slice.result.now in
    let held = c.args.tape.now in
    let input = map entry_seen c.args.input.items in
    let x = c.in_err-ended.field-0.0 in
    let err : c.from_residual-in_err-ended.result ≡ Err c.in_err-ended.field-0.0 = search rules in
    let k = c.in_ok-frame.ensures in
    let shown = subst (λ ns. Shows g.N.Number.numbers ns c.in_ok-frame.frame.slots.items (input_shape g.N.Number.numbers v (input_store g.N.Number.numbers v input)) (input_store g.N.Number.numbers v input)) (sym k.names) k.shown in
    let holds = starts g.N.Number.numbers us v input held c.args.budget _ c.replace.ensures.value refl refl c.new.ensures shown in
    let ends = rw c.in_err-ended.was at (c.finish-ended.ensures.ends (first_entry g.N.Number.numbers us v input held c.args.budget) (first_scene g.N.Number.numbers us v input held c.args.budget) holds) in
    subst (λ z. Counts (run_unit g.N.Number.numbers (procedures_of c.args.program.now.program) u input held.words (Some held.room)) c.args.budget z c.log.result.used) (sym err)
    (turned us (procedures_of c.args.program.now.program) v u (λ ps w. run_unit g.N.Number.numbers ps w input held.words (Some held.room)) (λ o. Counts {A = Vec (EntrySlot g.row.N.Denot) Global} o c.args.budget (Err x) c.log.result.used)
    (ap units_in c.as_slice.ensures.value ∙ units) (same_unit v u (sym at ∙ asked))
    (stopped_used g.N.Number.numbers us v input held c.args.budget (Vec (EntrySlot g.row.N.Denot) Global) x c.finish-ended.new.self c.log.result.used ends (c.log.ensures.used ∙ (rw c.in_err-ended.was at c.used.ensures))))

pub returns-clause-ends : goal.returns-clause-ends
returns-clause-ends g c u asked =
    let rs = c.in_ok-routines.routines.items in
    let r = c.index-routine.result.now in
    let units = c.in_ok-routines.ensures.units in
    let n = length-map rs (λ (z : Routine). procedure_of z.unit.now) in
    let there = c.requires.there in
    let many = ap length units in
    let lt : c.args.unit < length c.in_ok-routines.routines.items = omega (arith, n, there, many) in
    let at = ap (λ ps. slice_get ps c.args.unit) (sym units) ∙ unit_at rs c.args.unit r lt ∙ ap (λ (z : Routine). Some (procedure_of z.unit.now)) (sym c.index-routine.ensures) in
    let routine = subst (IsRoutine (units_in rs)) (sym c.index-routine.ensures) (c.in_ok-routines.ensures.routines c.args.unit r lt) in
    let v = procedure_of r.unit.now in
    let us = units_in c.as_slice.result.now in
    let held = c.args.tape.now in
    let input = map entry_seen c.args.input.items in
    let k = c.in_ok-frame.ensures in
    let shown = subst (λ ns. Shows g.N.Number.numbers ns c.in_ok-frame.frame.slots.items (input_shape g.N.Number.numbers v (input_store g.N.Number.numbers v input)) (input_store g.N.Number.numbers v input)) (sym k.names) k.shown in
    let holds = starts g.N.Number.numbers us v input held c.args.budget _ c.replace.ensures.value refl refl c.new.ensures shown in
    let ends = rw c.in_ok-ended.was at (c.finish-ended.ensures.ends (first_entry g.N.Number.numbers us v input held c.args.budget) (first_scene g.N.Number.numbers us v input held c.args.budget) holds) in
    let m = c.finish-ended.new.self in
    let f = c.finish-ended.ensures in
    let names = f.names ∙ k.names in
    let framed = subst (λ ns. IsFrame ns m.frame.slots.items) (sym f.names) f.framed in
    let count = ap length c.as_slice-count.ensures.members in
    let front = ap (map entry_seen) (c.truncate.ensures.items ∙ ap (λ (z : Vec (EntrySlot _) Global). take (length c.as_slice-count.result.now) z.items) c.into_slots-slots.ensures ∙ ap (λ j. take j m.frame.slots.items) count) in
    turned us (procedures_of c.args.program.now.program) v u (λ ps w. run_unit g.N.Number.numbers ps w input held.words (Some held.room) c.args.budget) (λ o. EndsWith g.N.Number.numbers (λ (slots : Vec (EntrySlot _) Global). map entry_seen slots.items) o (Ok c.truncate.new.self) m.tape c.log.result)
    (ap units_in c.as_slice.ensures.value ∙ units) (same_unit v u (sym at ∙ asked))
    (done g.N.Number.numbers us v input held c.args.budget (λ (slots : Vec (EntrySlot _) Global). map entry_seen slots.items) c.truncate.new.self m c.log.result ends
    (λ s q. front ∙ values_shown g.N.Number.numbers r.unit.now.dummies routine.laid.others m.frame.names.now m.frame.slots.items (input_shape g.N.Number.numbers v (input_store g.N.Number.numbers v input)) s.store (names ∙ routine.laid.names) framed q.shown)
    c.log.ensures.counted (c.log.ensures.used ∙ (rw c.in_ok-ended.was at c.used.ensures)))

pub returns-clause-counted : goal.returns-clause-counted
returns-clause-counted g c u asked =
    let rs = c.in_ok-routines.routines.items in
    let r = c.index-routine.result.now in
    let units = c.in_ok-routines.ensures.units in
    let n = length-map rs (λ (z : Routine). procedure_of z.unit.now) in
    let there = c.requires.there in
    let many = ap length units in
    let lt : c.args.unit < length c.in_ok-routines.routines.items = omega (arith, n, there, many) in
    let at = ap (λ ps. slice_get ps c.args.unit) (sym units) ∙ unit_at rs c.args.unit r lt ∙ ap (λ (z : Routine). Some (procedure_of z.unit.now)) (sym c.index-routine.ensures) in
    let v = procedure_of r.unit.now in
    let us = units_in c.as_slice.result.now in
    let held = c.args.tape.now in
    let input = map entry_seen c.args.input.items in
    let k = c.in_ok-frame.ensures in
    let shown = subst (λ ns. Shows g.N.Number.numbers ns c.in_ok-frame.frame.slots.items (input_shape g.N.Number.numbers v (input_store g.N.Number.numbers v input)) (input_store g.N.Number.numbers v input)) (sym k.names) k.shown in
    let holds = starts g.N.Number.numbers us v input held c.args.budget _ c.replace.ensures.value refl refl c.new.ensures shown in
    let ends = rw c.in_ok-ended.was at (c.finish-ended.ensures.ends (first_entry g.N.Number.numbers us v input held c.args.budget) (first_scene g.N.Number.numbers us v input held c.args.budget) holds) in
    let m = c.finish-ended.new.self in
    turned us (procedures_of c.args.program.now.program) v u (λ ps w. run_unit g.N.Number.numbers ps w input held.words (Some held.room)) (λ o. Counts {A = Vec (EntrySlot _) Global} o c.args.budget (Ok c.truncate.new.self) c.log.result.used)
    (ap units_in c.as_slice.ensures.value ∙ units) (same_unit v u (sym at ∙ asked))
    (done_used g.N.Number.numbers us v input held c.args.budget c.truncate.new.self m c.log.result.used ends (c.log.ensures.used ∙ (rw c.in_ok-ended.was at c.used.ensures)))
