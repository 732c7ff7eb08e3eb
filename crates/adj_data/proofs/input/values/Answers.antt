use Rattle.std.proofs.Common.{◌≡◌, [], None, map, ap, subst, sym, ◌∙◌, false}
use Rattle.std.proofs.lemmas.Result.{err_from_is_err_and, on_ok_weaker, IfOk-weaker, IfErr-weaker}
use Rattle.adj_tree.specs.View.{procedure_of}
use Rattle.adj_data.specs.Entries.{entries_of}
use Rattle.adj_data.specs.Faults.{or_else, data_items, items_fault, entries_fault, dummies_fault, data_fault}
use Rattle.adj_data.specs.Given.{IsFirstFault, slot_given, input_given, slot_seen}
use Rattle.adj_data.proofs.Entering.{entries_made, fault_made, faults_same, fault_first}
use Rattle.adj_data.proofs.input.values.Goals as goal

pub returns-in_err-entries-clause-fault : goal.returns-in_err-entries-clause-fault
returns-in_err-entries-clause-fault c =
    let u = procedure_of c.args.unit.now in
    let ds = c.args.unit.now.dummies in
    let ws = data_items false c.args.line c.args.bytes.now in
    let e = c.in_err-entries.field-0.0 in
    let items : entries_fault c.in_ok-dummies.dummies [] ws ≡ items_fault ds [] ws = faults_same c.in_ok-dummies.dummies ds c.in_ok-dummies.ensures.same [] ws ∙ fault_made ds ws in
    let p = err_from_is_err_and c.from_residual-in_err-entries.result c.from_residual-in_err-entries.ensures.1 in
    rw (p.1, p.2) (fault_first e (items_fault ds [] ws) (dummies_fault (entries_of ws) u ds) (subst (IsFirstFault e) items c.in_err-entries.ensures.fault))

pub returns-clause-accepted : goal.returns-clause-accepted
returns-clause-accepted c =
    let u = procedure_of c.args.unit.now in
    let ds = c.args.unit.now.dummies in
    let ws = data_items false c.args.line c.args.bytes.now in
    let es = c.in_ok-entries.entries in
    let items : items_fault ds [] ws ≡ None = sym (faults_same c.in_ok-dummies.dummies ds c.in_ok-dummies.ensures.same [] ws ∙ fault_made ds ws) ∙ c.in_ok-entries.ensures.ok in
    let made : entries_of ws ≡ es = sym (c.in_ok-entries.ensures.entries ∙ entries_made ws) in
    let whole : data_fault c.args.line c.args.bytes.now u ≡ dummies_fault es u ds = (λ k. or_else (items k) (dummies_fault (made k) u ds)) in
    on_ok_weaker c.slots_given.result (λ h. whole ∙ h) c.slots_given.ensures.ok

pub returns-clause-input : goal.returns-clause-input
returns-clause-input c =
    let u = procedure_of c.args.unit.now in
    let ds = c.args.unit.now.dummies in
    let ws = data_items false c.args.line c.args.bytes.now in
    let es = c.in_ok-entries.entries in
    let made : es ≡ entries_of ws = c.in_ok-entries.ensures.entries ∙ entries_made ws in
    IfOk-weaker c.slots_given.result (λ vs. map slot_seen vs ≡ map (slot_given es u) ds) (λ vs. map slot_seen vs ≡ input_given c.args.line c.args.bytes.now u) (λ vs h. h ∙ ap (λ z. map (slot_given z u) ds) made) c.slots_given.ensures.slots

pub returns-clause-fault : goal.returns-clause-fault
returns-clause-fault c =
    let u = procedure_of c.args.unit.now in
    let ds = c.args.unit.now.dummies in
    let ws = data_items false c.args.line c.args.bytes.now in
    let es = c.in_ok-entries.entries in
    let items : items_fault ds [] ws ≡ None = sym (faults_same c.in_ok-dummies.dummies ds c.in_ok-dummies.ensures.same [] ws ∙ fault_made ds ws) ∙ c.in_ok-entries.ensures.ok in
    let made : entries_of ws ≡ es = sym (c.in_ok-entries.ensures.entries ∙ entries_made ws) in
    let whole : data_fault c.args.line c.args.bytes.now u ≡ dummies_fault es u ds = (λ k. or_else (items k) (dummies_fault (made k) u ds)) in
    IfErr-weaker c.slots_given.result (λ e. IsFirstFault e (dummies_fault es u ds)) (λ e. IsFirstFault e (data_fault c.args.line c.args.bytes.now u)) (λ e h. subst (IsFirstFault e) (sym whole) h) c.slots_given.ensures.fault
