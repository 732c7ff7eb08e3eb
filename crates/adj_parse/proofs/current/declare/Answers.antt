use Rattle.std.proofs.Common.{◌++◌, ◌∙◌, sym, ap, map}
use Rattle.std.proofs.lemmas.Iterator.Adapters.{YieldsList-from_vec}
use Rattle.std.proofs.lemmas.Iterator.Consumers.{YieldsList-end}
use Rattle.std.proofs.lemmas.List.{map-id}
use Rattle.adj_tree.specs.View.{declaration_of}
use Rattle.def_text.specs.Unit as unit
use Rattle.adj_parse_statement.specs.View.{item_of}
use Rattle.adj_parse.proofs.Declares.{one_declared}
use Rattle.adj_parse.proofs.current.declare.Goals as goal

pub loop-item-preserved : goal.loop-item-preserved
loop-item-preserved c = rw c.in_ok-push.ensures.items (one_declared c.args.decls.now.items c.loop-item.decls.items c.loop-item.yielded c.args.line c.in-Some.item _ c.loop-item.invariant c.into_decl.ensures)

pub returns : goal.returns
returns c =
    let gives = c.into_iter-item-iterator.ensures.into_iter_gives in
    let past = YieldsList-end (YieldsList-from_vec {s = c.into_iter-item-iterator.result} c.args.items.items gives.0 (gives.1 ∙ c.args.items.ok.0)) c.loop-item.yielded c.loop-item.item-iterator c.loop-item.yielded_by c.next.result c.next.new.self c.in-None.is c.next.ensures.steps in
    c.loop-item.invariant ∙ ap (λ is. map declaration_of c.args.decls.now.items ++ map (unit.declaration_of c.args.line) (map item_of is)) (sym (map-id c.loop-item.yielded) ∙ past.0)
