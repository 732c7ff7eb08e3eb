-- What is summed so far and the dot product of the rest make the whole.
use Rattle.std.proofs.Common.{◌≡◌}
use Rattle.std.specs.Slice.Iter.{iter_rest}
use Rattle.adj_word.specs.Word.{add}
use Rattle.adj_word.specs.Dot.{dot}
use Rattle.adj_word.proofs.dots.dot.Given as goal

abbrev pub invariant-loop-x : goal.invariant-loop-x
invariant-loop-x l = add l.sum (dot (iter_rest l.x-iterator.a) (iter_rest l.x-iterator.b)) ≡ dot l.a l.b
