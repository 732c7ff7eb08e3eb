use Rattle.def_text.proofs.Fitting.{or_fits, whole_fits, begun_fits}
use Rattle.def_text.specs.Class.{whole, begun}
use Rattle.adj_fixed.proofs.class.kind_of.Goals as goal

pub returns-else-has_open-clause-fits : goal.returns-else-has_open-clause-fits
returns-else-has_open-clause-fits c = rw (c.or.ensures, c.whole.ensures, c.begun.ensures) (or_fits _ (whole c.args.text.now) (begun c.args.text.now) (whole_fits c.args.text.now) (begun_fits c.args.text.now))
