use Rattle.std.proofs.Common.{◌≡◌, ◌++◌, ◌+◌, suc, length, ap, ◌∙◌, arith, codes}
use Rattle.def_names.specs.Fresh.{fresh, digits}
use Rattle.def_kernel.specs.Kernel.{wanted_local}
use Rattle.adj_norm_statement.proofs.Made.{one_made, same_made}
use Rattle.adj_norm_statement.proofs.locals.Locals.grown.Goals as goal

pub invariant_of-result : goal.invariant_of-result
invariant_of-result c =
    let l = c.args.self in
    let k = length l.names.items in
    let more : c.len.result + 1 ≡ suc k = omega arith in
    let is : c.in_ok-name.name ≡ fresh (wanted_local k) l.taken =
    c.in_ok-name.ensures.name ∙ ap (λ n. fresh (codes "ADV" ++ digits n) l.taken) more in
    record { made = one_made l.taken c.named.new.taken l.names.items c.in_ok-name.name l.made is c.in_ok-name.ensures.taken c.push.new.self.items c.in_ok-push.ensures.items }

pub returns-clause-same : goal.returns-clause-same
returns-clause-same c =
    let l = c.args.self in
    let k = length l.names.items in
    let more : c.len.result + 1 ≡ suc k = omega arith in
    let is : c.in_ok-name.name ≡ fresh (wanted_local k) l.taken =
    c.in_ok-name.ensures.name ∙ ap (λ n. fresh (codes "ADV" ++ digits n) l.taken) more in
    same_made l.taken c.named.new.taken l.names.items c.in_ok-name.name l.made is c.in_ok-name.ensures.taken c.push.new.self.items c.in_ok-push.ensures.items
