use Rattle.std.proofs.Common.{◌≡◌, Bool, true, false, ap, sym, ◌∙◌, ◌++◌, ◌+◌, map, drop, refl}
use Rattle.std.specs.Prelude.{◌&&◌, ◌||◌}
use Rattle.std.specs.List.{flat_map}
use Rattle.std.proofs.lemmas.List.{drop_all}
use Rattle.adj_tree.specs.View.{declaration_of, procedure_of}
use Rattle.def_meaning.specs.Apart.{has_name}
use Rattle.def_names.specs.NameFaults.{extent_names}
use Rattle.def_names.specs.Variables.{is_dummy}
use Rattle.adj_symbols.specs.View.{places_of, names_at}
use Rattle.adj_symbols.proofs.Meeting.{extent_listed, extent_more}
use Rattle.adj_symbols.proofs.Repeats.{left}
use Rattle.adj_symbols.proofs.write_faults.extent_dummies.Goals as goal
use Rattle.adj_symbols.proofs.write_faults.extent_dummies.Goals.{then-is_dummy+in_ok-insert, else-is_dummy}

pub loop-place-preserved : goal.loop-place-preserved
loop-place-preserved c x =
    let test = is_dummy (procedure_of c.args.outline.now) in
    let ps = c.as_slice-place-items.result.now in
    let i = c.loop-place.place-index in
    let y = c.place-item.result.name.now in
    let made = c.loop-place.dummies in
    let rest = names_at (places_of (drop (i + 1) ps)) in
    elim c.if-is_dummy.branch [
      | then-is_dummy+in_ok-insert w ↦ extent_more test x y made c.if-is_dummy.dummies rest true (sym c.is_dummy.ensures.dummy ∙ w.if-is_dummy.true) (w.dummies-is ∙ w.in_ok-insert.ensures.names)
      | else-is_dummy w ↦ extent_more test x y made c.if-is_dummy.dummies rest false (sym c.is_dummy.ensures.dummy ∙ w.if-is_dummy.false) w.dummies-is
    ]
    ∙ ap (λ z. has_name x made || (has_name x (names_at (places_of z)) && test x)) (left ps i c.place-item.result c.loop-place-test.true c.place-item.is)
    ∙ c.loop-place.invariant x

pub returns : goal.returns
returns c x =
    let test = is_dummy (procedure_of c.args.outline.now) in
    let ps = c.as_slice-place-items.result.now in
    let made = c.loop-place.dummies in
    or_none (has_name x made)
    ∙ ap (λ z. has_name x made || (has_name x (names_at (places_of z)) && test x)) (sym (drop_all c.loop-place.place-index ps c.loop-place-test.false))
    ∙ c.loop-place.invariant x
    ∙ ap (λ z. has_name x (names_at z) && test x)
    (ap places_of c.as_slice-place-items.ensures.value ∙ c.in_ok-add_extent_places.ensures
    ∙ (λ i. places_of (c.new-places.ensures.items i) ++ flat_map (λ d. map (λ z. (d.line, z)) (extent_names d.extents)) (map declaration_of (c.as_slice.ensures.members i)))
    ∙ ap (λ o. flat_map (λ d. map (λ z. (d.line, z)) (extent_names d.extents)) (map declaration_of o.decls)) c.unit.ensures.unit)
    ∙ ap (λ b. b && test x) (sym (extent_listed x (map declaration_of c.args.outline.now.decls)))
  where
    or_none : (b : Bool) → b ≡ (b || false)
    or_none true = refl
    or_none false = refl
