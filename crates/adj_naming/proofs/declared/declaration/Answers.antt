use Rattle.std.proofs.Common.{ap, sym, ◌∙◌}
use Rattle.std.specs.Prelude.{position}
use Rattle.adj_tree.specs.Code.{name_eq}
use Rattle.def_meaning.specs.Apart.{has_name}
use Rattle.def_sweep.specs.Declared.{scalar}
use Rattle.adj_naming.proofs.Declarations.{declaration_placed, declaration_absent}
use Rattle.adj_naming.proofs.declared.declaration.Goals as goal

pub returns-in_ok-found-in-Some : goal.returns-in_ok-found-in-Some
returns-in_ok-found-in-Some c =
    let t = c.args.declared.now in
    let x = c.args.x.now in
    record {
      declaration = c.in_ok-found-in-Some.ensures.equal
          ∙ declaration_placed c.args.line t.firsts.items t.names x c.in-Some.place c.index.result.now t.alike (ap (λ z. position (name_eq z) t.names) (sym c.bytes.ensures.bytes) ∙ sym c.in-Some.ensures.place) c.index.ensures;
    }

pub returns-in_ok-name-in-None : goal.returns-in_ok-name-in-None
returns-in_ok-name-in-None c =
    let t = c.args.declared.now in
    let x = c.args.x.now in
    record {
      declaration = c.scalar.ensures.declaration ∙ ap (scalar c.args.line) c.in_ok-name-in-None.ensures.same
          ∙ declaration_absent c.args.line t.firsts.items t.names x t.alike (ap (λ z. has_name z t.names) (sym c.bytes.ensures.bytes) ∙ sym c.in-None.ensures.found);
    }
