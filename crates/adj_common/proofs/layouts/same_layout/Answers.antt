use Rattle.std.proofs.Common.{List, map, sym, ◌∙◌}
use Rattle.std.proofs.lemmas.List.{length-map}
use Rattle.adj_common.specs.Entries.{Entry}
use Rattle.adj_common.specs.Layouts.{layout_of}
use Rattle.adj_common.specs.Views.{entry_of}
use Rattle.adj_common.specs.declared.members.Member.{Member}
use Rattle.adj_common.proofs.Walked.{layout_differs}
use Rattle.adj_common.proofs.layouts.same_layout.Goals as goal

pub returns-then-one-other : goal.returns-then-one-other
returns-then-one-other c =
    let one = c.args.one.now in
    let other = c.args.other.now in
    let count = λ (ms : List Member). length-map (map entry_of ms) (λ (e : Entry). e.extents) ∙ length-map ms entry_of in
    record { same = sym (layout_differs (layout_of (map entry_of one)) (layout_of (map entry_of other)) (λ q. c.if-one-other.true (sym (count one) ∙ q ∙ count other))) }
