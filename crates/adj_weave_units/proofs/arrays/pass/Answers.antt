use Rattle.std.proofs.Common.{◌<◌, ◌≤◌, true, false, length, refl, ap, sym, ◌∙◌, subst}
use Rattle.adj_tree.specs.View.{extent_of, declaration_of}
use Rattle.adj_sets.specs.Sets.{with_added}
use Rattle.def_meaning.specs.Apart.{has_name}
use Rattle.adj_weave_units.proofs.Declared.{known_passed, new_passed, extents_there, extents_none}
use Rattle.adj_weave_units.proofs.arrays.pass.Goals as goal

pub returns-then-has : goal.returns-then-has
returns-then-has c =
    let d = declaration_of c.args.decl.now in
    record { passed = known_passed d c.args.known.now c.args.arrays.now (ap (λ x. has_name x c.args.known.now) (sym c.bytes.ensures.bytes) ∙ sym c.has.ensures.found ∙ c.if-has.true) }

pub returns-in_ok-add-2 : goal.returns-in_ok-add-2
returns-in_ok-add-2 c =
    let d = declaration_of c.args.decl.now in
    let known = c.args.known.now in
    let arrays = c.args.arrays.now in
    let extents = c.args.decl.now.extents in
    record {
      passed = new_passed d known arrays c.add.new.self c.add-then-as_slice-gt0.new.self true (ap (λ x. has_name x known) (sym c.bytes.ensures.bytes) ∙ sym c.has.ensures.found ∙ c.if-has.false)
          (c.in_ok-add.ensures.added ∙ ap (λ x. with_added x known) c.bytes-2.ensures.bytes)
          (extents_there extent_of extents (subst (λ xs. 0 < length xs) c.as_slice.ensures.members c.if-as_slice-gt0.true))
          (c.in_ok-add-2.ensures.added ∙ ap (λ x. with_added x arrays) c.bytes-then-as_slice-gt0.ensures.bytes);
    }

pub returns-else-as_slice-gt0 : goal.returns-else-as_slice-gt0
returns-else-as_slice-gt0 c =
    let d = declaration_of c.args.decl.now in
    let known = c.args.known.now in
    let arrays = c.args.arrays.now in
    let extents = c.args.decl.now.extents in
    record {
      passed = new_passed d known arrays c.add.new.self arrays false (ap (λ x. has_name x known) (sym c.bytes.ensures.bytes) ∙ sym c.has.ensures.found ∙ c.if-has.false)
          (c.in_ok-add.ensures.added ∙ ap (λ x. with_added x known) c.bytes-2.ensures.bytes)
          (extents_none extent_of extents (subst (λ xs. length xs ≤ 0) c.as_slice.ensures.members c.if-as_slice-gt0.false)) refl;
    }
