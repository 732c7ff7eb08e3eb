use Rattle.std.proofs.Common.{◌∙◌, map}
use Rattle.adj_tree.specs.View.{declaration_of}
use Rattle.def_names.specs.NameFaults.{extent_names}
use Rattle.adj_symbols.specs.View.{places_of}
use Rattle.adj_symbols.proofs.CallsListed.{flat_more}
use Rattle.adj_symbols.proofs.extents.add_extent_places.Goals as goal

pub loop-decl-preserved : goal.loop-decl-preserved
loop-decl-preserved c =
    flat_more declaration_of (λ d. map (λ x. (d.line, x)) (extent_names d.extents)) c.args.decls.now c.loop-decl.decl-index c.decl-item.result (places_of c.loop-decl.out.items) (places_of c.add_extent_names.new.out.items) c.loop-decl-test.true c.decl-item.is c.in_ok-add_extent_names.ensures
    ∙ c.loop-decl.invariant
