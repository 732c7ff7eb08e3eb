-- What the analyses find meets the laws of each statement.
use Rattle.std.proofs.Common.{◌≡◌, refl, subst}
use Rattle.std.specs.Prelude.{Contains}
use Rattle.adj_tree.specs.Code.{Act, assign, choose, loop, during, call, runtime}
use Rattle.def_flow.specs.Problem.{statements_of}
use Rattle.law_flow.specs.Laws.{facts_of, ActAt, AnalysedIsClosed, EntriesAreClosed, StatementsAreClosed, CallsAreClosed}
use Rattle.law_flow.proofs.Closed.{in_unit, on_entry, at_holder, at_kept, at_branch, at_while, at_loop}
use Rattle.law_flow.proofs.Assigned.{at_assignment}
use Rattle.law_flow.proofs.Called.{at_call}

pub analysed_is_closed : AnalysedIsClosed
analysed_is_closed k a l saved held y g p = in_unit k a l saved held y.active y.live y.holds y.saves g p

pub statements_are_closed : StatementsAreClosed
statements_are_closed k a l saved held y g p s c = record {
  act = go s.act refl;
  kept = at_kept k a l saved held y.active y.live y.holds y.saves g p s c;
  holder = at_holder k a l saved held y.active y.live y.holds y.saves g p s c;
}
  where
    go : (b : Act) → s.act ≡ b → ActAt (facts_of k a l saved held g.number) s.number b
    go (assign x subs e) h =
        at_assignment k a l saved held y.active y.live y.holds y.saves g p s.number s.place x subs e (subst (λ z. Contains (statements_of g) (record { number = s.number; place = s.place; act = z })) h c)
    go (choose q c1 c2) h = at_branch k a l saved held y.active y.live y.holds y.saves g p s c q c1 c2 h
    go (loop x first last by body m) h = at_loop k a l saved held y.active y.live y.holds y.saves g p s c x first last by body m h
    go (during q body) h = at_while k a l saved held y.active y.live y.holds y.saves g p s c q body h
    go (call name args) h = tt
    go (runtime r) h = tt

pub calls_are_closed : CallsAreClosed
calls_are_closed k a l saved held y f g p s args c = at_call k a l saved held y.active y.live y.holds y.saves f g p s args c

pub entries_are_closed : EntriesAreClosed
entries_are_closed k a l saved held y g p = on_entry k a l saved held y.active y.live y.holds y.saves g p
