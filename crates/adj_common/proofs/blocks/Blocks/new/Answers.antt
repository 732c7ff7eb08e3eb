use Rattle.std.proofs.Common.{◌++◌, ◌+◌, map, drop, sym, ap, ◌∙◌, append_assoc, add-one, suc}
use Rattle.adj_tree.specs.CommonView.{common_of, shared_of}
use Rattle.adj_symbols_writes.specs.View.{names_seen}
use Rattle.adj_naming.proofs.Places.{from_here}
use Rattle.adj_common.specs.Entries.{block_names}
use Rattle.adj_common.specs.Texts.{names_of_text, owners_from}
use Rattle.adj_common.proofs.blocks.Blocks.new.Goals as goal

pub loop-unit-preserved : goal.loop-unit-preserved
loop-unit-preserved c =
    let us = c.args.units.now in
    let i = c.loop-unit.unit in
    let s = shared_of c.index-units-unit.result in
    let rest = map shared_of (drop (i + 1) us) in
    let here = ap (map shared_of) (from_here us i c.index-units-unit.result c.loop-unit-test.true c.index-units-unit.is) in
    let commons = ap (map common_of) c.as_slice.ensures.members in
    let names = names_seen c.loop-unit.names.items in
    let owners = c.loop-unit.owners.items in
    let added = c.in_ok-add_owned.ensures in
    record {
      names =
          ap (λ z. z ++ names_of_text rest) (added.names ∙ ap (λ z. names ++ block_names z) commons)
          ∙ append_assoc names (block_names s.commons) (names_of_text rest)
          ∙ ap (λ z. names ++ names_of_text z) (sym here)
          ∙ c.loop-unit.invariant.names;
      owners =
          (λ j. (added.owners ∙ ap (λ z. owners ++ map (λ d. i) z) commons) j ++ owners_from (add-one i j) rest)
          ∙ append_assoc owners (map (λ d. i) s.commons) (owners_from (suc i) rest)
          ∙ ap (λ z. owners ++ owners_from i z) (sym here)
          ∙ c.loop-unit.invariant.owners;
    }
