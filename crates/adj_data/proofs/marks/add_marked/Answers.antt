use Rattle.std.proofs.Common.{◌≡◌, ◌+◌, ◌<◌, ◌++◌, length, drop, sym, ap, subst, ◌∙◌}
use Rattle.def_meaning.specs.Apart.{has_name}
use Rattle.adj_sets.specs.Sets.{with_added}
use Rattle.adj_sets.proofs.NameSets.{with_added_is}
use Rattle.adj_data.specs.Marked.{marked_names}
use Rattle.adj_data.proofs.Marking.{mark_passed, mark_added}
use Rattle.adj_data.proofs.marks.add_marked.Goals as goal
use Rattle.adj_data.proofs.marks.add_marked.Goals.{then-flags-number+in_ok-marked+in_ok-add, else-flags-number}

pub loop-number-preserved : goal.loop-number-preserved
loop-number-preserved c = λ x.
    let names = c.as_slice-names.result.now in
    let flags = c.as_slice-flags.result.now in
    let mark = c.args.mark.now in
    let i = c.loop-number.number in
    let set = c.loop-number.set in
    let long : length flags ≡ length names = ap length c.as_slice-flags.ensures.members ∙ c.requires ∙ sym (ap length c.as_slice-names.ensures.members) in
    let within : i < length flags = subst (λ n. i < n) (sym long) c.loop-number-test.true in
    elim c.if-flags-number.branch [
      | then-flags-number+in_ok-marked+in_ok-add w ↦
          let d = w.index-names-number.result in
          let text : w.deref.result.now ≡ d ++ mark = w.deref.ensures.value ∙ w.in_ok-marked.ensures ∙ ap (λ b. b ++ mark) w.bytes.ensures.bytes in
          mark_added mark names flags i c.loop-number-test.true within w.if-flags-number.true d w.index-names-number.is x set c.if-flags-number.set
          (w.set-is ∙ w.in_ok-add.ensures.added ∙ ap (λ t. with_added t set) text ∙ with_added_is (d ++ mark) set) ∙ c.loop-number.invariant x
      | else-flags-number w ↦
          ap (λ s. has_name x (s ++ marked_names mark (drop (i + 1) names) (drop (i + 1) flags))) w.set-is ∙ mark_passed mark names flags i c.loop-number-test.true within w.if-flags-number.false x set ∙ c.loop-number.invariant x
    ]
