use Rattle.std.proofs.Common.{ap, ◌∙◌}
use Rattle.def_kernel.specs.Kernel.{local_of}
use Rattle.adj_norm_statement.specs.Made.{outside}
use Rattle.adj_norm_statement.proofs.Made.{none_made, made_none}
use Rattle.adj_norm_statement.proofs.locals.Locals.new.Goals as goal

pub invariant_of-result : goal.invariant_of-result
invariant_of-result c = record { made = made_none c.in_ok-taken.taken c.new-names.result.items c.new-names.ensures.items }

pub returns : goal.returns
returns c =
    record { locals = ap (λ z. local_of (outside c.in_ok-taken.taken z)) c.new-names.ensures.items ∙ ap local_of (none_made c.in_ok-taken.taken ∙ c.in_ok-taken.ensures.names) }
