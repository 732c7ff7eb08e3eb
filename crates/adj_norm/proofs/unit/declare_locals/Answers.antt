use Rattle.std.proofs.Common.{◌∙◌, map, refl, sym, append-nil}
use Rattle.adj_tree.specs.View.{declaration_of}
use Rattle.adj_norm_statement.specs.Locals.{local_by}
use Rattle.adj_norm.proofs.Units.{local_declared}
use Rattle.adj_norm.proofs.unit.declare_locals.Goals as goal

pub loop-number-init : goal.loop-number-init
loop-number-init c = record { declared = λ taken h. sym (append-nil (map declaration_of c.args.made.now.items)); locals = refl }

pub loop-number-preserved : goal.loop-number-preserved
loop-number-preserved c =
    let l = c.loop-number in
    let local = local_by l.locals in
    record {
      declared = λ taken h.
          local_declared l.made.items c.push.new.self.items _ (map declaration_of c.args.made.now.items) c.args.line l.number taken local c.in_ok-push.ensures.items refl c.in_ok-name.ensures.name (l.invariant.locals ∙ h) (c.new-extents.ensures.members ∙ c.new.ensures.items) (l.invariant.declared taken h);
      locals = c.in_ok-name.ensures.same ∙ l.invariant.locals;
    }
