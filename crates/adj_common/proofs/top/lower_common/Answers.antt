use Rattle.std.proofs.Common.{◌≡◌, [], map, Ok, sym, ap, ◌∙◌}
use Rattle.adj_tree.specs.Common.{Shared}
use Rattle.adj_tree.specs.View.{procedure_of}
use Rattle.adj_tree.specs.CommonView.{shared_of}
use Rattle.def_common.specs.Blocks.{all_blocks, without_repeats, blocks}
use Rattle.def_common.specs.Source.{or_refused}
use Rattle.def_common.proofs.WithoutBlocks.{same_units, none_refused}
use Rattle.adj_common.proofs.top.lower_common.Goals as goal

pub returns-then-has_none : goal.returns-then-has_none
returns-then-has_none c =
    let ps = map shared_of c.args.program.units in
    let empty : all_blocks ps ≡ [] = ap (λ l. all_blocks (map shared_of l)) (sym (c.as_slice.ensures.members ∙ c.into_units-units.ensures.units)) ∙ c.has_none.ensures.none.0 c.if-has_none.true in
    let none : blocks ps ≡ [] = ap (without_repeats []) empty in
    let alone : map procedure_of c.in_ok-made.made.items ≡ map (λ (s : Shared). s.unit) ps = c.in_ok-made.ensures.units ∙ ap (λ l. map (λ (s : Shared). s.unit) (map shared_of l)) (c.into_vec.ensures.members ∙ c.into_units-units.ensures.units) in
    record { lowered = (λ i. or_refused (none_refused ps none i) (same_units ps none i)) ∙ ap Ok (sym alone ∙ ap (map procedure_of) (sym c.new.ensures.members)) }
