use Rattle.std.proofs.Common.{◌+◌, ◌≤◌, [], length, get_or, sym, ap, ap₂, subst, ◌∙◌}
use Rattle.def_meaning.specs.Apart.{AreApart}
use Rattle.adj_interp_frame.proofs.Numberings.{names_of, with_name, place_in, place_named, added_named, placed, few_more, apart_with}
use Rattle.adj_interp_frame.proofs.numbering.Numbering.number.Goals as goal

pub returns-clause-named : goal.returns-clause-named
returns-clause-named c =
    let ks = c.self.inside.names.keys in
    let x = c.args.name.now in
    let all = ap names_of c.in_ok-number.ensures.keys ∙ added_named c.bytes.result ks x c.bytes.ensures.bytes in
    let place = c.in_ok-number.ensures.index ∙ place_named c.bytes.result.now ks ∙ ap (place_in (names_of ks)) c.bytes.ensures.bytes in
    ap₂ (λ ns i. get_or ns i []) all place ∙ (placed x (names_of ks)).1

pub returns-clause-apart : goal.returns-clause-apart
returns-clause-apart c a =
    let ks = c.self.inside.names.keys in
    let x = c.args.name.now in
    let all = ap names_of c.in_ok-number.ensures.keys ∙ added_named c.bytes.result ks x c.bytes.ensures.bytes in
    subst AreApart (sym all) (apart_with x (names_of ks) (subst AreApart (sym c.self.view_is) a))

pub returns-clause-few : goal.returns-clause-few
returns-clause-few c =
    let ks = c.self.inside.names.keys in
    let x = c.args.name.now in
    let all = ap names_of c.in_ok-number.ensures.keys ∙ added_named c.bytes.result ks x c.bytes.ensures.bytes in
    subst (λ ns. length ns ≤ length c.args.self.now + 1) (sym all) (subst (λ ns. length (with_name (names_of ks) x) ≤ length ns + 1) c.self.view_is (few_more x (names_of ks)))
