use Rattle.std.proofs.Common.{◌≡◌, true, ap, sym, ◌∙◌, length, arith}
use Rattle.def_meaning.specs.Apart.{has_name}
use Rattle.def_names.specs.Fresh.{candidate}
use Rattle.adj_naming.proofs.Places.{candidate_passed}
use Rattle.adj_naming.proofs.taken.Taken.fresh.Goals as goal

pub loop-number-preserved : goal.loop-number-preserved
loop-number-preserved c =
    let taken = c.args.self.now in
    let i = c.loop-number.number in
    let there : has_name (candidate c.args.base.now i) taken ≡ true =
    ap (λ z. has_name z taken) (sym c.in_ok-name.ensures.name ∙ sym c.bytes.ensures.bytes) ∙ sym c.has.ensures.found ∙ c.if-not-has.false in
    let count = c.in_ok-count.ensures.count in
    c.loop-number.invariant ∙ candidate_passed (length taken) i c.args.base.now taken (omega arith) there
