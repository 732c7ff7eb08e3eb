use Rattle.std.proofs.Common.{◌≡◌, ap, sym, subst, ◌∙◌, map, rules}
use Rattle.std.specs.Prelude.{Some, None, Err, IfErr}
use Rattle.adj_tree.specs.View.{procedure_of}
use Rattle.def_names.specs.CallFaults.{call_faults}
use Rattle.def_names.specs.ChainFaults.{chain_faults}
use Rattle.def_names.specs.Check.{first_fault}
use Rattle.def_names.specs.Fault.{first_of}
use Rattle.def_names.specs.NameFaults.{name_faults}
use Rattle.def_names.specs.UnitFaults.{unit_faults}
use Rattle.def_names.specs.WriteFaults.{write_faults}
use Rattle.adj_symbols.specs.Checked.{IfRefused}
use Rattle.adj_symbols.specs.Rules.{rules_of}
use Rattle.adj_symbols.proofs.Passing.{refused_more, in_units, in_names, in_calls, in_chains, in_writes}
use Rattle.adj_symbols.proofs.passes.check_known.Goals as goal

pub returns-in_err-check_units-clause-refused : goal.returns-in_err-check_units-clause-refused
returns-in_err-check_units-clause-refused c =
    let m = rules_of c.args.rules in
    let ps = map procedure_of c.args.units.now in
    let r : c.from_residual.result ≡ Err c.in_err-check_units.field-0.0 = search rules in
    subst (λ z. IfErr z (λ f. IfRefused f (λ e. first_fault m ps ≡ Some e))) (sym r)
    (refused_more c.in_err-check_units.field-0.0 (λ e. first_of (unit_faults ps) ≡ Some e) (λ e. first_fault m ps ≡ Some e) (in_units m ps) c.in_err-check_units.ensures.refused)

pub returns-in_err-variables-clause-refused : goal.returns-in_err-variables-clause-refused
returns-in_err-variables-clause-refused c =
    let m = rules_of c.args.rules in
    let us = c.args.units.now in
    let ps = map procedure_of us in
    let same = c.requires.units in
    let r : c.from_residual-in_err-variables.result ≡ Err c.in_err-variables.field-0.0 = search rules in
    subst (λ z. IfErr z (λ f. IfRefused f (λ e. first_fault m ps ≡ Some e))) (sym r)
    (refused_more c.in_err-variables.field-0.0 (λ e. first_of (name_faults m (map procedure_of c.args.scope.now)) ≡ Some e) (λ e. first_fault m ps ≡ Some e)
    (λ e h. in_names m ps c.in_ok-check_units.ensures.passes e (ap (λ z. first_of (name_faults m (map procedure_of z))) same ∙ h)) c.in_err-variables.ensures.refused)

pub returns-in_err-check_calls-clause-refused : goal.returns-in_err-check_calls-clause-refused
returns-in_err-check_calls-clause-refused c =
    let m = rules_of c.args.rules in
    let us = c.args.units.now in
    let ps = map procedure_of us in
    let same = c.requires.units in
    let names = ap (λ z. first_of (name_faults m (map procedure_of z))) same ∙ c.in_ok-variables.ensures.passes in
    let r : c.from_residual-in_err-check_calls.result ≡ Err c.in_err-check_calls.field-0.0 = search rules in
    subst (λ z. IfErr z (λ f. IfRefused f (λ e. first_fault m ps ≡ Some e))) (sym r)
    (refused_more c.in_err-check_calls.field-0.0 (λ e. first_of (call_faults (map procedure_of c.args.scope.now)) ≡ Some e) (λ e. first_fault m ps ≡ Some e)
    (λ e h. in_calls m ps c.in_ok-check_units.ensures.passes names e (ap (λ z. first_of (call_faults (map procedure_of z))) same ∙ h)) c.in_err-check_calls.ensures.refused)

pub returns-in_err-check_chains-clause-refused : goal.returns-in_err-check_chains-clause-refused
returns-in_err-check_chains-clause-refused c =
    let m = rules_of c.args.rules in
    let us = c.args.units.now in
    let ps = map procedure_of us in
    let same = c.requires.units in
    let names = ap (λ z. first_of (name_faults m (map procedure_of z))) same ∙ c.in_ok-variables.ensures.passes in
    let calls = ap (λ z. first_of (call_faults (map procedure_of z))) same ∙ c.in_ok-check_calls.ensures.passes in
    let r : c.from_residual-in_err-check_chains.result ≡ Err c.in_err-check_chains.field-0.0 = search rules in
    subst (λ z. IfErr z (λ f. IfRefused f (λ e. first_fault m ps ≡ Some e))) (sym r)
    (refused_more c.in_err-check_chains.field-0.0 (λ e. first_of (chain_faults m (map procedure_of c.args.scope.now)) ≡ Some e) (λ e. first_fault m ps ≡ Some e)
    (λ e h. in_chains m ps c.in_ok-check_units.ensures.passes names calls e (ap (λ z. first_of (chain_faults m (map procedure_of z))) same ∙ h)) c.in_err-check_chains.ensures.refused)

pub returns-in_err-written-clause-refused : goal.returns-in_err-written-clause-refused
returns-in_err-written-clause-refused c =
    let m = rules_of c.args.rules in
    let us = c.args.units.now in
    let ps = map procedure_of us in
    let same = c.requires.units in
    let names = ap (λ z. first_of (name_faults m (map procedure_of z))) same ∙ c.in_ok-variables.ensures.passes in
    let calls = ap (λ z. first_of (call_faults (map procedure_of z))) same ∙ c.in_ok-check_calls.ensures.passes in
    let chains = ap (λ z. first_of (chain_faults m (map procedure_of z))) same ∙ c.in_ok-check_chains.ensures.passes in
    let r : c.from_residual-in_err-written.result ≡ Err c.in_err-written.field-0.0 = search rules in
    subst (λ z. IfErr z (λ f. IfRefused f (λ e. first_fault m ps ≡ Some e))) (sym r)
    (refused_more c.in_err-written.field-0.0 (λ e. first_of (write_faults (map procedure_of c.args.scope.now)) ≡ Some e) (λ e. first_fault m ps ≡ Some e)
    (λ e h. in_writes m ps c.in_ok-check_units.ensures.passes names calls (Some e) chains (ap (λ z. first_of (write_faults (map procedure_of z))) same ∙ h)) c.in_err-written.ensures.refused)

pub returns-clause-sound : goal.returns-clause-sound
returns-clause-sound c =
    let m = rules_of c.args.rules in
    let us = c.args.units.now in
    let ps = map procedure_of us in
    let same = c.requires.units in
    let names = ap (λ z. first_of (name_faults m (map procedure_of z))) same ∙ c.in_ok-variables.ensures.passes in
    let calls = ap (λ z. first_of (call_faults (map procedure_of z))) same ∙ c.in_ok-check_calls.ensures.passes in
    let chains = ap (λ z. first_of (chain_faults m (map procedure_of z))) same ∙ c.in_ok-check_chains.ensures.passes in
    in_writes m ps c.in_ok-check_units.ensures.passes names calls None chains (ap (λ z. first_of (write_faults (map procedure_of z))) same ∙ c.in_ok-written.ensures.passes)

pub check_writes-requires : goal.check_writes-requires
check_writes-requires c = record { units = c.requires.units }
