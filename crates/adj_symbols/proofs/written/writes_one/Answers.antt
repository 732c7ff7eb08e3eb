use Rattle.std.proofs.Common.{ap, sym, ◌∙◌, ◌∷◌, ◌+◌, drop}
use Rattle.std.specs.Prelude.{◌||◌}
use Rattle.std.specs.List.{list_any}
use Rattle.std.proofs.lemmas.List.{drop_more}
use Rattle.def_meaning.specs.Apart.{has_name}
use Rattle.def_names.specs.Variables.{Name}
use Rattle.adj_symbols_writes.specs.View.{names_seen}
use Rattle.adj_symbols.proofs.written.writes_one.Goals as goal

pub loop-name-preserved : goal.loop-name-preserved
loop-name-preserved c =
    let ns = c.as_slice-name-items.result.now in
    let i = c.loop-name.name-index in
    let n = c.name-item.result in
    let test = λ (x : Name). has_name x c.args.chosen.now in
    ap (λ b. b || list_any test (names_seen (drop (i + 1) ns))) (sym c.if-contains.false ∙ c.contains.ensures.contains)
    ∙ ap (λ z. list_any test (names_seen z)) (sym (drop_more ns i n c.loop-name-test.true ∙ ap (λ z. z ∷ drop (i + 1) ns) (sym c.name-item.is)))
    ∙ c.loop-name.invariant
