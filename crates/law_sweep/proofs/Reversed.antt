-- The code of a reversal turns the steps of its loop.
use Rattle.std.proofs.Common.{suc, refl, arith}
use Rattle.def_meaning.specs.Append.{one}
use Rattle.adj_tree.specs.Code.{call}
use Rattle.def_sweep.specs.Plan.{actuals_named, step_snapshot}
use Rattle.def_sweep.specs.Rows.{pushes, pops, adjoint_call}
use Rattle.law_sweep.specs.Steps.{ReversalsTurn, step_words}
use Rattle.def_sweep.specs.StepUnits.{step_units}
use Rattle.law_sweep.proofs.StepRuns.{numbers_few}
use Rattle.law_sweep.proofs.StepUnits.{StandingIn, Loose, SnapIn, stepping}
use Rattle.law_sweep.proofs.Reversing.{reversing}

pub reversals_turn : ReversalsTurn
reversals_turn q sh level cells line x g given name p fits d l m mark few slot most a0 c0 change loops U U' s at base f t count_is first_is stride_is slots_is h =
    let n = numbers_few l m few slot most in
    let snapshot = step_snapshot g.callee g.read given in
    let free = fits.keeps_variable in
    let st = stepping q sh level cells d line p fits.scalars x fits.one_cell l m mark a0 c0 g given fits.dummies_apart fits.given_apart name change loops U U' f s free in
    let r = reversing q sh level cells (suc d) line x l m mark a0 c0 (step_units name g.callee g.read) (step_words q sh level cells line x g given name) (pushes p line snapshot) (pops p line snapshot) (one line (call name (actuals_named given))) (one line (adjoint_call g.callee given))
    (StandingIn q sh level cells d line p fits.scalars x fits.one_cell l m mark a0 c0 g given fits.dummies_apart fits.given_apart name change loops U U' f s free)
    (Loose q sh level cells d line p fits.scalars x fits.one_cell l m mark a0 c0 g given fits.dummies_apart fits.given_apart name change loops U U' f)
    (SnapIn q sh level cells d line p fits.scalars x fits.one_cell l m mark a0 c0 g given fits.dummies_apart fits.given_apart name change loops U U' f s free)
    change loops slot n.steps_fit n.snapshots_fit n.few n.small fits.other_name fits.other_adjoint st at base f t count_is first_is stride_is slots_is
    (omega arith, record { at = h; framed = record { off = record { at = λ y j o. refl }; depth = record { at = λ r k c lt le. refl } } }) in
    record {
      after = r.after;
      later = r.later;
      own = r.own;
      inner = r.inner;
      runs = r.runs;
      tells = r.tells;
      reverses = r.reverses;
      begins = r.begins;
      reversed = r.reversed;
      pairs = r.pairs;
      off = r.loose.framed.off;
      depth = λ role k c lt le. r.loose.framed.depth.at role k c lt le;
    }
