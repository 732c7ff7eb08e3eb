-- The scalars so far.
use Rattle.std.proofs.Common.{◌≡◌, map, take}
use Rattle.test_programs.specs.Scalars.{scalar_of}
use Rattle.test_programs.proofs.running.scalars.Given as goal

abbrev pub invariant-loop-word : goal.invariant-loop-word
invariant-loop-word l = l.slots.items ≡ map scalar_of (take l.word-index l.words)
