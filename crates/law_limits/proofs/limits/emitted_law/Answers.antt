use Rattle.std.specs.Prelude.{true, false}
use Rattle.law_limits.proofs.ReadableTexts.{emitted_shallow}
use Rattle.law_limits.proofs.Runnable.{emitted_runnable}
use Rattle.law_limits.proofs.limits.emitted_law.Goals as goal

pub returns : goal.returns
returns c = record {
  shallow = emitted_shallow c.source_law.ensures false;
  runnable = emitted_runnable c.kept_law.ensures c.source_law.ensures false;
  reversed_shallow = emitted_shallow c.source_law.ensures true;
  reversed_runnable = emitted_runnable c.kept_law.ensures c.source_law.ensures true;
}
