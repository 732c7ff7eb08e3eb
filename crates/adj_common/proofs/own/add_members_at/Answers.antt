use Rattle.std.proofs.Common.{◌++◌, length, map, sym, ap, ◌∙◌, append-nil, arith}
use Rattle.std.proofs.lemmas.Bool.{ltb-false}
use Rattle.std.proofs.lemmas.List.{length-map}
use Rattle.std.proofs.lemmas.Option.{slice_get_past}
use Rattle.adj_tree.specs.CommonView.{common_of}
use Rattle.adj_common.specs.Entries.{entries_at}
use Rattle.adj_common.specs.Views.{entry_of, firsts_of}
use Rattle.adj_common.proofs.own.add_members_at.Goals as goal

pub returns-in-None : goal.returns-in-None
returns-in-None c =
    let cs = c.args.commons.now in
    let k = c.args.place in
    let made = map entry_of c.args.out.now.items in
    let le = ltb-false k (length cs) (sym c.in-None.ensures.lookup.0) in
    record { added = sym (append-nil made) ∙ ap (λ o. made ++ entries_at (firsts_of c.args.declared.now) o) (sym (slice_get_past (map common_of cs) k (omega (arith, le, length-map cs common_of)))) }
