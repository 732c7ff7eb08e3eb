-- The locals counted are declared.
use Rattle.std.proofs.Common.{◌≡◌, ◌++◌, ℕ, List, map}
use Rattle.adj_tree.specs.View.{declaration_of}
use Rattle.def_kernel.specs.Kernel.{scalar_at, local_names, local_of}
use Rattle.adj_norm_statement.specs.Locals.{local_by}
use Rattle.adj_norm.proofs.unit.declare_locals.Given as goal

abbrev pub invariant-loop-number : goal.invariant-loop-number
invariant-loop-number l = record {
  declared : (taken : List (List ℕ)) → local_by l.fn.locals ≡ local_of taken → map declaration_of l.made.items ≡ map declaration_of l.fn.made.items ++ map (scalar_at l.line) (local_names taken l.number);
  locals : local_by l.locals ≡ local_by l.fn.locals;
}
