use Rattle.std.proofs.Common.{◌≡◌, None, Some, Ok, Err, map, sym, ap, ◌∙◌, subst}
use Rattle.adj_tree.specs.CommonView.{shared_of}
use Rattle.def_names.specs.Fault.{fault}
use Rattle.def_common.specs.Lowering.{lowered_program}
use Rattle.def_common.specs.Refused.{layout_refusal}
use Rattle.def_common.specs.Source.{or_refused}
use Rattle.adj_common.specs.Entries.{AreOwn}
use Rattle.adj_common.specs.Layouts.{refused_line}
use Rattle.adj_common.specs.Texts.{text_blocks}
use Rattle.adj_common.specs.Views.{own_of}
use Rattle.adj_common.proofs.Blocked.{image}
use Rattle.adj_common.proofs.Laid.{refusal_same}
use Rattle.adj_common.proofs.top.lower.Goals as goal

pub returns-in-Some : goal.returns-in-Some
returns-in-Some c =
    let ps = map shared_of c.args.units.now in
    let os = map own_of c.in_ok-owns.owns.items in
    let line : refused_line os (text_blocks ps) ≡ Some c.in-Some.line =
    (λ i. refused_line (map own_of (sym c.as_slice.ensures.value i)) (sym c.in_ok-blocks.ensures.blocks i)) ∙ sym c.in_ok-line.ensures.line ∙ c.in-Some.is in
    let refused : layout_refusal ps ≡ Some (fault 26 c.in-Some.line) = refusal_same ps os c.in_ok-owns.ensures.own ∙ ap (image (fault 26)) line in
    record { lowered = ap (λ r. or_refused r (lowered_program ps)) refused ∙ ap Err (sym c.new-in-Some.ensures) }

pub returns : goal.returns
returns c =
    let ps = map shared_of c.args.units.now in
    let os = map own_of c.in_ok-owns.owns.items in
    let line : refused_line os (text_blocks ps) ≡ None =
    (λ i. refused_line (map own_of (sym c.as_slice.ensures.value i)) (sym c.in_ok-blocks.ensures.blocks i)) ∙ sym c.in_ok-line.ensures.line ∙ c.in-None.is in
    let alike : layout_refusal ps ≡ None = refusal_same ps os c.in_ok-owns.ensures.own ∙ ap (image (fault 26)) line in
    let own : AreOwn ps (map own_of c.as_slice-in-None.result.now) = subst (λ l. AreOwn ps (map own_of l)) (sym c.as_slice-in-None.ensures.value) c.in_ok-owns.ensures.own in
    record { lowered = ap (λ r. or_refused r (lowered_program ps)) alike ∙ ap Ok (sym (c.in_ok-made-in-None.ensures.lowered own c.in_ok-blocks.ensures.blocks)) }
