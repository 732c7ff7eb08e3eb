use Rattle.std.proofs.Common.{◌++◌, map, append_assoc, ap, ◌∙◌}
use Rattle.adj_tree.specs.View.{procedure_of}
use Rattle.def_names.proofs.Variables.{or_left, or_right}
use Rattle.def_sweep.specs.Program.{emitted_adjoint_with, forth_unit, back_unit}
use Rattle.adj_weave.specs.Shared.{sources, marks_for, reversed_for}
use Rattle.adj_weave.specs.Woven.{head_of, only_if, pair_if}
use Rattle.adj_weave.proofs.weave.add_unit.Goals as goal

pub add_adjoint-requires-clause-part : goal.add_adjoint-requires-clause-part
add_adjoint-requires-clause-part c = λ e. let f = c.args.emits in c.requires.part (or_left f.adjointed f.paired e)

pub add_pair-requires-clause-part : goal.add_pair-requires-clause-part
add_pair-requires-clause-part c = λ e. let f = c.args.emits in c.requires.part (or_right f.adjointed f.paired e)

pub returns : goal.returns
returns c =
    let a = c.args.aim.now in
    let s = c.args.shared.now in
    let b = reversed_for s in
    let m = marks_for s in
    let ps = sources s in
    let u = procedure_of c.args.part.now.unit.now in
    let old = map procedure_of c.args.made.now.items in
    let own = only_if c.args.emits.carried u in
    let adjoint = only_if c.args.emits.adjointed (emitted_adjoint_with b m ps (head_of a) a.vars.now a.outvars.now u) in
    let pair = λ (units : _). pair_if c.args.emits.paired (forth_unit b m ps units u) (back_unit b m ps units u) in
    record {
      units = c.in_ok-add_pair.ensures.units ∙ ap (λ xs. xs ++ pair s.names.now) (c.in_ok-add_adjoint.ensures.units ∙ ap (λ xs. xs ++ adjoint) c.in_ok-add_carried.ensures.units)
          ∙ append_assoc (old ++ own) adjoint (pair s.names.now) ∙ append_assoc old own (adjoint ++ pair s.names.now)
          ∙ ap (λ units. old ++ (own ++ (adjoint ++ pair units))) c.requires.ready.names;
    }
