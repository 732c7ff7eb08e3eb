use Rattle.std.proofs.Common.{◌∙◌, arith}
use Rattle.adj_interp_frame.proofs.Listing.{directory_found}
use Rattle.adj_interp_frame.proofs.directory.Directory.number.Goals as goal

pub returns-clause-found : goal.returns-clause-found
returns-clause-found c =
    let d = c.requires in
    let x = c.in_ok-number.ensures.extends in
    let longer = d.longer in
    let more = x.longer in
    directory_found c.args.self.now.units.now c.number.new.self c.in_ok-number.number c.args.name.now (c.in_ok-number.ensures.apart d.apart) (omega (arith, longer, more)) (λ j l. x.keeps j (omega (arith, l, longer)) ∙ d.first j l) c.in_ok-number.ensures.within c.in_ok-number.ensures.named
