-- The texts passed are added.
use Rattle.std.proofs.Common.{◌≡◌, map, drop}
use Rattle.adj_sets.specs.Sets.{all_added}
use Rattle.adj_sets.proofs.name_set.add_texts.Given as goal

abbrev pub invariant-loop-text : goal.invariant-loop-text
invariant-loop-text l = all_added l.set (map (λ t. t.now) (drop l.text-index l.texts)) ≡ all_added l.fn.set (map (λ t. t.now) l.texts)
