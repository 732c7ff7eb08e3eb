use Rattle.std.proofs.Common.{◌≡◌, ◌∙◌, map, ap, sym, subst}
use Rattle.std.specs.Prelude.{IfOk}
use Rattle.adj_tree.specs.View.{procedure_of}
use Rattle.def_kernel.specs.Kernel.{lowered_program}
use Rattle.adj_norm.proofs.Unmarked.{unmarked_kernel}
use Rattle.adj_norm.proofs.program.kernel_units.Goals as goal

pub returns-then-branch : goal.returns-then-branch
returns-then-branch c =
    let us = map procedure_of c.args.units.now in
    record { kernel = c.in_ok-made.ensures.lowered ∙ unmarked_kernel us (sym c.in_ok-are_unmarked.ensures.unmarked ∙ c.if-branch.true) }

pub returns : goal.returns
returns c = record {
  kernel = subst (λ us. IfOk c.lowered-2.result (λ v. map procedure_of v.items ≡ lowered_program us)) (ap (map procedure_of) c.as_slice.ensures.value ∙ c.in_ok-units.ensures.stepped) c.lowered-2.ensures.lowered;
}
