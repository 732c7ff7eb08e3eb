use Rattle.std.proofs.Common.{◌≡◌, ◌++◌, ◌∷◌, [], ◌+◌, map, drop, ap, sym, ◌∙◌, if◌then◌else◌}
use Rattle.std.proofs.lemmas.List.{map_push}
use Rattle.adj_tree.specs.Code.{plain}
use Rattle.adj_tree.specs.declared.unit.Decl.{Decl}
use Rattle.adj_tree.specs.View.{declaration_of}
use Rattle.def_meaning.specs.Units.{declared}
use Rattle.def_meaning.specs.Apart.{has_name}
use Rattle.adj_sets.specs.Sets.{with_added}
use Rattle.adj_sets.proofs.NameSets.{with_added_is}
use Rattle.adj_data.proofs.Declarations.{first_kept, first_passed}
use Rattle.adj_data.proofs.declared.first_declarations.Goals as goal
use Rattle.adj_data.proofs.declared.first_declarations.Goals.{then-not-has+in_ok-add+in_ok-copy+in_ok-push, else-not-has}

pub loop-decl-preserved : goal.loop-decl-preserved
loop-decl-preserved c =
    let items = c.as_slice-decl-items.result.now in
    let firsts = c.loop-decl.firsts.items in
    let names = c.loop-decl.names in
    let i = c.loop-decl.decl-index in
    let d = c.decl-item.result in
    let name_of = λ (e : Decl). e.name in
    let h = c.loop-decl.invariant in
    let known : c.has.result ≡ has_name d.name names = c.has.ensures.found ∙ ap (λ z. has_name z names) c.bytes.ensures.bytes in
    elim c.if-not-has.branch [
      | then-not-has+in_ok-add+in_ok-copy+in_ok-push w ↦
          let e = w.in_ok-copy.field-0 in
          let longer : c.if-not-has.firsts.items ≡ firsts ++ (e ∷ []) = ap (λ v. v.items) w.firsts-is ∙ w.in_ok-push.ensures.items in
          record {
            names = w.names-is ∙ w.in_ok-add.ensures.added ∙ ap (λ z. with_added z names) w.bytes-then-not-has.ensures.bytes ∙ with_added_is d.name names ∙ ap (λ b. if b then names else names ++ (d.name ∷ [])) (sym known ∙ w.if-not-has.true)
                ∙ ap (λ z. z ++ (d.name ∷ [])) h.names ∙ ap (λ z. map name_of firsts ++ (z ∷ [])) (sym (ap (λ x. x.name) w.in_ok-copy.ensures.equal)) ∙ sym (map_push name_of firsts e) ∙ ap (map name_of) (sym longer);
            same = λ x. first_kept items firsts c.if-not-has.firsts.items d e i x c.loop-decl-test.true c.decl-item.is longer w.in_ok-copy.ensures.equal ∙ h.same x;
          }
      | else-not-has w ↦
          record {
            names = w.names-is ∙ h.names ∙ ap (λ v. map name_of v.items) (sym w.firsts-is);
            same = λ x.
                ap (λ v. declared (map declaration_of v.items ++ map declaration_of (drop (i + 1) items)) (plain x)) w.firsts-is
                ∙ first_passed items firsts d i x c.loop-decl-test.true c.decl-item.is (ap (has_name d.name) (sym h.names) ∙ sym known ∙ w.if-not-has.false) ∙ h.same x;
          }
    ]
