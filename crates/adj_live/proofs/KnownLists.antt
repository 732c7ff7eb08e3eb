-- What the lists of the rules have are facts that are known, a dummy that is wanted being one of its unit.
use Rattle.std.proofs.Common.{ℕ, refl}
use Rattle.def_flow.specs.Problem.{Problem}
use Rattle.def_flow.specs.Activity.{Activity}
use Rattle.def_flow.specs.Live as live
use Rattle.def_flow.specs.Live.{Fact}
use Rattle.def_flow.specs.Rules.{Scope, Covers, live_starts, live_steps}
use Rattle.def_flow.proofs.AsLists.{AreLists}
use Rattle.def_flow.proofs.LiveListed as listing
use Rattle.adj_live.proofs.Facts.{IsKnown}

module _ (k : Problem) (o : Scope) (y : Covers k o) (a : Activity) (w : ℕ) where
  lists : AreLists (live.LiveBegins k a) (live.LiveLeads k a) (listing.IsKnown k o y a) (live_starts k a o) (live_steps k a o)
  lists = listing.live_lists k o y a

  weaker : (x : Fact) → IsKnown k o w x → listing.IsKnown k o y a x
  weaker (live.needed p v) h = h
  weaker (live.kept i) h = tt
  weaker (live.wanted u d) h = tt

  begun : (x : Fact) → live.LiveBegins k a x → listing.IsKnown k o y a x → IsKnown k o w x
  begun x (live.reads p c h j r) q = q
  begun x (live.turns p c j h b r n) q = q
  begun x (live.holds p c j h) q = tt
  begun x (live.counts p c h r) q = tt
  begun x (live.split p c h) q = tt
  begun x (live.extents {g = g} {d = d} p c h) q = (g, p, refl, y.dummies g p d c)

  led : (x z : Fact) → live.LiveLeads k a x z → listing.IsKnown k o y a z → IsKnown k o w z
  led x z (live.stays p c h) q = q
  led x z (live.used p c h) q = q
  led x z (live.assigned p c h) q = tt
  led x z (live.handed p c h) q = tt
  led x z (live.indexed p c h) q = tt
  led x z (live.held p c h) q = tt
  led x z (live.entered {g = g} {d = d} p c) q = (g, p, refl, y.dummies g p d c)
  led x z (live.member p c j b n) q = q

  pub known_lists : AreLists (live.LiveBegins k a) (live.LiveLeads k a) (IsKnown k o w) (live_starts k a o) (live_steps k a o)
  known_lists = record {
    begun = λ x b. let q = lists.begun x b in (begun x b q.0, q.1);
    led = λ x z h l. let q = lists.led x z (weaker x h) l in (led x z l q.0, q.1);
    only_begun = lists.only_begun;
    only_led = lists.only_led;
  }
