use Rattle.std.proofs.Common.{◌≡◌, None, ◌++◌, ◌∷◌, [], map, sym, ap, ◌∙◌}
use Rattle.std.specs.Prelude.{position}
use Rattle.std.proofs.lemmas.List.{map_push}
use Rattle.adj_tree.specs.Code.{name_eq}
use Rattle.adj_sets.specs.Sets.{with_added}
use Rattle.adj_naming.proofs.Added.{added_new}
use Rattle.adj_common.specs.Tables.{noted_at}
use Rattle.adj_common.proofs.Tabled.{none_there}
use Rattle.adj_common.proofs.by_name.ByName.note.Goals as goal

pub returns-in_ok-push-in-None-2 : goal.returns-in_ok-push-in-None-2
returns-in_ok-push-in-None-2 c =
    let t = c.args.self.now in
    let x = c.args.name.now in
    let k = c.args.place in
    let known = ap (λ z. z.names) c.self.view_is in
    let at : position (name_eq x) t.names ≡ None = (λ j. position (name_eq (sym c.bytes.ensures.bytes j)) (sym known j)) ∙ sym c.place.ensures.place ∙ c.in-None.is in
    let names = c.in_ok-add-in-None.ensures.added ∙ (λ j. with_added (c.bytes-in-None.ensures.bytes j) (known j)) ∙ added_new x t.names (none_there x t.names at) in
    let row = c.in_ok-push-in-None.ensures.items ∙ ap (λ z. z ++ k ∷ []) c.new-row.ensures.items in
    let rows = ap (map (λ r. r.items)) c.in_ok-push-in-None-2.ensures.items ∙ map_push (λ r. r.items) c.self.inside.rows.items c.push.new.self ∙ (λ j. (c.self.view_is j).rows ++ row j ∷ []) in
    record { noted = (λ j. record { names = names j; rows = rows j }) ∙ ap (noted_at t x k) (sym at) }
