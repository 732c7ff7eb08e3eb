use Rattle.std.proofs.Common.{ap, sym, ◌∙◌, ◌++◌, ◌∷◌, ◌+◌, [], map, drop, append_assoc}
use Rattle.std.proofs.lemmas.List.{drop_more}
use Rattle.def_meaning.specs.Apart.{has_name}
use Rattle.def_names.specs.Variables.{Name}
use Rattle.adj_symbols.proofs.written.flags_of.Goals as goal

pub loop-name-preserved : goal.loop-name-preserved
loop-name-preserved c =
    let ns = c.args.names.now in
    let i = c.loop-name.name-index in
    let n = c.name-item.result in
    let f = λ (x : Name). has_name x c.args.chosen.now in
    let old = c.loop-name.flags.items in
    let rest = map f (drop (i + 1) ns) in
    ap (λ z. z ++ rest) (c.in_ok-push.ensures.items ∙ ap (λ b. old ++ b ∷ []) c.contains.ensures.contains)
    ∙ append_assoc old (f n ∷ []) rest
    ∙ ap (λ z. old ++ map f z) (sym (drop_more ns i n c.loop-name-test.true ∙ ap (λ z. z ∷ drop (i + 1) ns) (sym c.name-item.is)))
    ∙ c.loop-name.invariant
