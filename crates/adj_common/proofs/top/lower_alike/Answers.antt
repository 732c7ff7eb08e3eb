use Rattle.std.proofs.Common.{List, map, sym, ap, ◌∙◌, ◌++◌, [], subst}
use Rattle.std.specs.Prelude.{Bool}
use Rattle.std.proofs.lemmas.Result.{IfOk-weaker}
use Rattle.adj_tree.specs.CommonView.{shared_of}
use Rattle.def_names.specs.Reserved.{reserved}
use Rattle.adj_sets.specs.Sets.{all_added}
use Rattle.adj_common.specs.Using.{AreReached}
use Rattle.adj_common.specs.Views.{own_of, text_of}
use Rattle.adj_common.proofs.Made.{tables_made}
use Rattle.adj_common.proofs.top.lower_alike.Goals as goal

pub returns : goal.returns
returns c =
    let ps = map shared_of c.args.units.now in
    let os = map own_of c.args.owns.now in
    let t = text_of c.args.blocks.now in
    let es = c.as_slice.result.now in
    let reached : AreReached es t.owners t.table.rows c.as_slice-2.result.now = subst (λ (fs : List (List Bool)). AreReached es t.owners t.table.rows fs) (sym c.as_slice-2.ensures.value) c.in_ok-flags.ensures.reached in
    record {
      lowered = IfOk-weaker c.lowered.result _ _
          (λ v made own text.
          made
          ∙ tables_made ps os own t c.in_ok-numbers.numbers es c.as_slice-2.result.now (map (λ r. r.items) c.as_slice-4.result.now) c.in_ok-not_free.not_free
          text c.in_ok-numbers.ensures.numbers (c.as_slice.ensures.value ∙ c.in_ok-edges.ensures.edges) reached
          (ap (map (λ r. r.items)) c.as_slice-4.ensures.value ∙ c.in_ok-used.ensures.rows)
          (c.in_ok-not_free.ensures.names ∙ ap (λ l. all_added [] (l ++ reserved)) (c.as_slice-3.ensures.value ∙ c.in_ok-names.ensures.names)))
          c.lowered.ensures.lowered;
    }
