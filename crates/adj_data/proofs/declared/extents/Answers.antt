use Rattle.std.proofs.Common.{◌≡◌, false, ap, sym, ◌∙◌, map}
use Rattle.adj_tree.specs.View.{extent_of}
use Rattle.adj_tree.specs.declared.unit.Decl.{Decl}
use Rattle.def_meaning.specs.Apart.{has_name}
use Rattle.adj_data.proofs.Declarations.{undeclared, declared_placed}
use Rattle.adj_data.proofs.declared.extents.Goals as goal

pub returns-in-Some : goal.returns-in-Some
returns-in-Some c =
    let t = c.args.declared.now in
    ap (map extent_of) c.as_slice.ensures.members ∙ ap (λ (d : Decl). map extent_of d.extents) c.index.ensures
    ∙ sym (declared_placed c.args.name.now t.firsts.items t.names c.in-Some.place c.index.result.now t.alike (sym c.in-Some.ensures.place))

pub returns-in-None : goal.returns-in-None
returns-in-None c =
    let t = c.args.declared.now in
    let none : false ≡ has_name c.args.name.now t.names = c.in-None.ensures.found in
    sym (undeclared c.args.name.now t.firsts.items t.names t.alike (sym none))
