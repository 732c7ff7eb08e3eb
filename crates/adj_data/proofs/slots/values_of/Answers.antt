use Rattle.std.proofs.Common.{rules, FitsSigned, ◌≡◌, ◌+◌, ◌++◌, ◌∷◌, [], map, take, drop, w64, to_z, of_z, ap, sym, ◌∙◌, Some, add-one}
use Rattle.std.proofs.Math.Seq.{take-suc}
use Rattle.std.proofs.lemmas.Int.{to_z-of_z}
use Rattle.std.proofs.lemmas.List.{take-append-drop, map-append}
use Rattle.adj_tree.specs.View.{extent_of}
use Rattle.adj_data.specs.Faults.{extents_given}
use Rattle.adj_data.proofs.Declarations.{from_here}
use Rattle.adj_data.proofs.Extents.{given_none, given_more}
use Rattle.adj_data.proofs.slots.values_of.Goals as goal

pub returns-in-None : goal.returns-in-None
returns-in-None c =
    let xs = c.args.extents.now in
    let es = c.args.entries.now in
    let i = c.loop-extent.extent-index in
    let x = c.extent-item.result in
    let parts : map extent_of (take i xs) ++ (extent_of x ∷ map extent_of (drop (i + 1) xs)) ≡ map extent_of xs =
    sym (map-append extent_of (take i xs) (x ∷ drop (i + 1) xs)) ∙ ap (λ l. map extent_of (take i xs ++ l)) (sym (from_here xs i x c.loop-extent-test.true c.extent-item.is)) ∙ ap (map extent_of) (take-append-drop i xs) in
    sym (ap (extents_given es) (sym parts) ∙ given_none es (map extent_of (take i xs)) (map extent_of (drop (i + 1) xs)) (extent_of x) (sym c.value_of.ensures ∙ c.in-None.is))

pub loop-extent-preserved : goal.loop-extent-preserved
loop-extent-preserved c =
    let xs = c.args.extents.now in
    let es = c.args.entries.now in
    let i = c.loop-extent.extent-index in
    let x = c.extent-item.result in
    let z = c.in-Some.value in
    let parts : map extent_of (take (i + 1) xs) ≡ map extent_of (take i xs) ++ (extent_of x ∷ []) =
    ap (λ k. map extent_of (take k xs)) (add-one i) ∙ ap (map extent_of) (take-suc xs i x c.loop-extent-test.true) ∙ ap (λ y. map extent_of (take i xs ++ (y ∷ []))) (sym c.extent-item.is) ∙ map-append extent_of (take i xs) (x ∷ []) in
    let fits : FitsSigned w64 c.in-Some.value = search rules in
    let cast : to_z w64 (of_z w64 z) ≡ z = to_z-of_z w64 z fits in
    ap (extents_given es) parts ∙ given_more es (map extent_of (take i xs)) (extent_of x) c.loop-extent.values.items z c.loop-extent.invariant (sym c.value_of.ensures ∙ c.in-Some.is)
    ∙ ap Some (ap (λ y. c.loop-extent.values.items ++ (y ∷ [])) (sym cast) ∙ sym c.in_ok-push-in-Some.ensures.items)
