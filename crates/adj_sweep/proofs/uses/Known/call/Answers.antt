use Rattle.std.proofs.Common.{◌≡◌, suc, ◌∙◌, arith}
use Rattle.adj_sweep.proofs.uses.Known.call.Goals as goal

pub returns : goal.returns
returns c =
    let next : c.in_ok-next.next ≡ suc c.args.number = omega arith in
    let e = c.nothing-used.ensures in
    record {
      uses = λ r arrays callees reads k d. record {
        idle = c.is_idle_call.ensures.idle arrays callees reads k d;
        tells = e.tells;
        works = e.works;
        temps = e.temps;
        depth = e.depth;
        number = e.number ∙ next;
      };
    }
