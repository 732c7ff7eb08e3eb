use Rattle.std.proofs.Common.{◌≡◌, length, drop}
use Rattle.def_text.specs.Limits.{limits_of}
use Rattle.def_text.specs.Stated.{all_stated}
use Rattle.adj_fixed.specs.View.{all_lines}
use Rattle.adj_fixed.proofs.Stating.{behind}
use Rattle.adj_fixed.proofs.statement.all_stated.Given as goal

abbrev pub invariant-loop-lined : goal.invariant-loop-lined
invariant-loop-lined l = behind l.all.items (all_stated (limits_of l.mode) (all_lines (drop (length l.yielded) l.fn.lines.items))) ≡ all_stated (limits_of l.mode) (all_lines l.fn.lines.items)
