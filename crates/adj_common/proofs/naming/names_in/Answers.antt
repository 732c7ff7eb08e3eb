use Rattle.std.proofs.Common.{◌≡◌, ◌++◌, map, ap, ◌∙◌, subst}
use Rattle.std.specs.Prelude.{IfOk}
use Rattle.std.specs.List.{flat_map}
use Rattle.adj_tree.specs.View.{declaration_of}
use Rattle.adj_tree.specs.CommonView.{common_of, shared_of}
use Rattle.def_names.specs.Statements.{statements}
use Rattle.adj_symbols_writes.specs.Names.{names_among}
use Rattle.adj_symbols_writes.specs.View.{vars_seen}
use Rattle.adj_symbols_writes.proofs.Naming.{seen_among}
use Rattle.adj_common.specs.Naming.{vars_in_act, vars_of_names, vars_declared, vars_in_extents, vars_of_items}
use Rattle.adj_common.proofs.Walked.{joined_five}
use Rattle.adj_common.proofs.naming.names_in.Goals as goal

pub returns : goal.returns
returns c =
    let s = shared_of c.args.shared.now in
    let none = vars_seen c.new-names.result.items in
    let one = vars_seen c.add_names.new.out.items in
    let two = vars_seen c.add_declared.new.out.items in
    let three = vars_seen c.add_body.new.out.items in
    let four = vars_seen c.add_items.new.out.items in
    let all = joined_five none one two three four (vars_seen c.add_all_extents.new.out.items)
    (vars_of_names s.unit.dummies) (vars_declared s.unit.declarations) (flat_map (λ t. vars_in_act t.1) (statements s.unit.body)) (vars_of_items s.commons) (vars_in_extents s.unit.declarations)
    (ap vars_seen c.new-names.ensures.items)
    (c.in_ok-add_names.ensures.added ∙ ap (λ z. none ++ vars_of_names z) c.as_slice.ensures.members)
    (c.in_ok-add_declared.ensures.added ∙ ap (λ z. one ++ vars_declared (map declaration_of z)) c.as_slice-2.ensures.members)
    c.in_ok-add_body.ensures.added
    (c.in_ok-add_items.ensures.added ∙ ap (λ z. three ++ vars_of_items (map common_of z)) c.as_slice-3.ensures.members)
    (c.in_ok-add_all_extents.ensures.added ∙ ap (λ z. four ++ vars_in_extents (map declaration_of z)) c.as_slice-4.ensures.members) in
    record { names = subst (λ z. IfOk c.copied.result (λ v. v.items ≡ z)) (seen_among c.as_slice-5.result.now ∙ ap names_among (ap vars_seen c.as_slice-5.ensures.value ∙ all)) c.copied.ensures.same }
