use Rattle.adj_interp_frame.proofs.Showing.{value_shown, target_shown, holds_shown}
use Rattle.adj_interp_frame.proofs.laws.shown_is_seen.Goals as goal

pub returns : goal.returns
returns g c = record {
  seen = λ names vs shape room level s h. record {
    values = value_shown g.N.Number.numbers names vs shape room level s h;
    targets = target_shown g.N.Number.numbers names vs shape room level s h;
    conditions = holds_shown g.N.Number.numbers names vs shape room level s h;
  };
}
