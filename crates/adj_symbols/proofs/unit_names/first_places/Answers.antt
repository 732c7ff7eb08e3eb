use Rattle.std.proofs.Common.{ap, ap₂, sym, ◌∙◌, ◌++◌, ◌+◌, ◌∷◌, [], drop, append_assoc, if◌then◌else◌}
use Rattle.std.proofs.lemmas.List.{drop_all, append-nil}
use Rattle.def_meaning.specs.Apart.{has_name}
use Rattle.def_names.specs.Variables.{first_places}
use Rattle.adj_symbols.specs.View.{place_of, places_of}
use Rattle.adj_symbols.proofs.Repeats.{left}
use Rattle.adj_symbols.proofs.FirstPlaces.{others_at, others_none, place_more}
use Rattle.adj_symbols.proofs.unit_names.first_places.Goals as goal

pub loop-place-init : goal.loop-place-init
loop-place-init c =
    let ps = places_of c.args.places.now in
    ap₂ (λ xs ns. places_of xs ++ others_at ns (first_places ps)) c.new-found.ensures.items c.in_ok-names.ensures.empty ∙ others_none (first_places ps)

pub loop-place-preserved : goal.loop-place-preserved
loop-place-preserved c =
    let ps = c.args.places.now in
    let i = c.loop-place.place-index in
    let p = c.place-item.result in
    let names = c.loop-place.names in
    let rest = places_of (drop (i + 1) ps) in
    let one = if has_name p.name.now names then [] else place_of p ∷ [] in
    ap (λ z. z ++ others_at c.add_new.new.names (first_places rest)) c.in_ok-add_new.ensures.found
    ∙ append_assoc (places_of c.loop-place.found.items) one (others_at c.add_new.new.names (first_places rest))
    ∙ ap (λ z. places_of c.loop-place.found.items ++ z) (place_more (place_of p) rest names c.add_new.new.names c.in_ok-add_new.ensures.names ∙ ap (λ z. others_at names (first_places (places_of z))) (left ps i p c.loop-place-test.true c.place-item.is))
    ∙ c.loop-place.invariant

pub returns : goal.returns
returns c =
    let made = places_of c.loop-place.found.items in
    sym (append-nil made)
    ∙ ap (λ z. made ++ others_at c.loop-place.names (first_places (places_of z))) (sym (drop_all c.loop-place.place-index c.args.places.now c.loop-place-test.false))
    ∙ c.loop-place.invariant
