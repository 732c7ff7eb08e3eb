use Rattle.std.proofs.Common.{◌∙◌, ap}
use Rattle.adj_tree.specs.Code.{push_word, pop_word, push_array, pop_array, push_control, pop_control, zero_array, begin_reversal, count_actions, give_action}
use Rattle.adj_tree.specs.View.{term_of}
use Rattle.adj_interp_frame.proofs.Failing.{err_is}
use Rattle.adj_interp_frame.proofs.Resolving.{extends_on}
use Rattle.adj_interp_frame.proofs.numbering.Numbering.service.Goals as goal

pub returns-in_ok-cell-in-PushWord : goal.returns-in_ok-cell-in-PushWord
returns-in_ok-cell-in-PushWord c =
    let r = c.in_ok-cell-in-PushWord.ensures in
    record {
      extends = r.extends;
      resolves = rw c.in-PushWord.is (record { stands_for = λ ls f i. push_word (r.variable.stands_for ls f i) (r.subs.stands_for ls f i); below = λ ls f. (r.variable.below ls f, r.subs.below ls f) });
    }

pub returns-in_ok-cell-in-PopWord : goal.returns-in_ok-cell-in-PopWord
returns-in_ok-cell-in-PopWord c =
    let r = c.in_ok-cell-in-PopWord.ensures in
    record {
      extends = r.extends;
      resolves = rw c.in-PopWord.is (record { stands_for = λ ls f i. pop_word (r.variable.stands_for ls f i) (r.subs.stands_for ls f i); below = λ ls f. (r.variable.below ls f, r.subs.below ls f) });
    }

pub returns-in_ok-variable-in-PushArray : goal.returns-in_ok-variable-in-PushArray
returns-in_ok-variable-in-PushArray c =
    let r = c.in_ok-variable-in-PushArray.ensures in
    record {
      extends = r.extends;
      resolves = rw c.in-PushArray.is (record { stands_for = λ ls f i. push_array (r.resolves.stands_for ls f i); below = λ ls f. r.resolves.below ls f });
    }

pub returns-in_ok-variable-in-PopArray : goal.returns-in_ok-variable-in-PopArray
returns-in_ok-variable-in-PopArray c =
    let r = c.in_ok-variable-in-PopArray.ensures in
    record {
      extends = r.extends;
      resolves = rw c.in-PopArray.is (record { stands_for = λ ls f i. pop_array (r.resolves.stands_for ls f i); below = λ ls f. r.resolves.below ls f });
    }

pub returns-in_ok-term-in-PushControl : goal.returns-in_ok-term-in-PushControl
returns-in_ok-term-in-PushControl c =
    let r = c.in_ok-term-in-PushControl.ensures in
    record {
      extends = r.extends;
      resolves = rw c.in-PushControl.is (record { stands_for = λ ls f i. push_control (r.resolves.stands_for ls f i); below = λ ls f. r.resolves.below ls f });
    }

pub returns-in_ok-variable-in-PopControl : goal.returns-in_ok-variable-in-PopControl
returns-in_ok-variable-in-PopControl c =
    let r = c.in_ok-variable-in-PopControl.ensures in
    record {
      extends = r.extends;
      resolves = rw c.in-PopControl.is (record { stands_for = λ ls f i. pop_control (r.resolves.stands_for ls f i); below = λ ls f. r.resolves.below ls f });
    }

pub returns-in_ok-variable-in-Zero : goal.returns-in_ok-variable-in-Zero
returns-in_ok-variable-in-Zero c =
    let r = c.in_ok-variable-in-Zero.ensures in
    record {
      extends = r.extends;
      resolves = rw c.in-Zero.is (record { stands_for = λ ls f i. zero_array (r.resolves.stands_for ls f i); below = λ ls f. r.resolves.below ls f });
    }

pub returns-in_ok-steps-in-Begin : goal.returns-in_ok-steps-in-Begin
returns-in_ok-steps-in-Begin c =
    let r = c.in_ok-steps-in-Begin.ensures in
    record {
      extends = r.extends;
      resolves = rw c.in-Begin.is (record {
        stands_for = λ ls f i. begin_reversal ((r.first.stands_for ls f ∙ ap term_of c.deref.ensures) i) ((r.second.stands_for ls f ∙ ap term_of c.deref-in-Begin.ensures) i);
        below = λ ls f. (r.first.below ls f, r.second.below ls f);
      });
    }

pub returns-in_ok-steps-in-Actions : goal.returns-in_ok-steps-in-Actions
returns-in_ok-steps-in-Actions c =
    let r1 = c.in_ok-variable-in-Actions.ensures in
    let r2 = c.in_ok-steps-in-Actions.ensures in
    let e2 = r2.extends in
    record {
      extends = extends_on _ _ _ r1.extends e2;
      resolves = rw c.in-Actions.is (record {
        stands_for = λ ls f i. count_actions ((r2.first.stands_for ls f ∙ ap term_of c.deref-in-Actions.ensures) i) ((r2.second.stands_for ls f ∙ ap term_of c.deref-in-Actions-2.ensures) i) (r1.resolves.stands_for ls (extends_on _ _ _ e2 f) i);
        below = λ ls f. (r2.first.below ls f, r2.second.below ls f, r1.resolves.below ls (extends_on _ _ _ e2 f));
      });
    }

pub returns-in_ok-steps-in-Action : goal.returns-in_ok-steps-in-Action
returns-in_ok-steps-in-Action c =
    let r1 = c.in_ok-kind-in-Action.ensures in
    let r2 = c.in_ok-lower-in-Action.ensures in
    let r3 = c.in_ok-upper-in-Action.ensures in
    let r4 = c.in_ok-steps-in-Action.ensures in
    let e4 = r4.extends in
    let e3 = extends_on _ _ _ r3.extends e4 in
    let e2 = extends_on _ _ _ r2.extends e3 in
    record {
      extends = extends_on _ _ _ r1.extends e2;
      resolves = rw c.in-Action.is (record {
        stands_for = λ ls f i. give_action ((r4.first.stands_for ls f ∙ ap term_of c.deref-in-Action.ensures) i) ((r4.second.stands_for ls f ∙ ap term_of c.deref-in-Action-2.ensures) i) ((r4.third.stands_for ls f ∙ ap term_of c.deref-in-Action-3.ensures) i) (r1.resolves.stands_for ls (extends_on _ _ _ e2 f) i) (r2.resolves.stands_for ls (extends_on _ _ _ e3 f) i) (r3.resolves.stands_for ls (extends_on _ _ _ e4 f) i);
        below = λ ls f. (r4.first.below ls f, r4.second.below ls f, r4.third.below ls f, r1.resolves.below ls (extends_on _ _ _ e2 f), r2.resolves.below ls (extends_on _ _ _ e3 f), r3.resolves.below ls (extends_on _ _ _ e4 f));
      });
    }

-- ---- where memory is out

pub returns-in_err-cell-in-PushWord : goal.returns-in_err-cell-in-PushWord
returns-in_err-cell-in-PushWord c = rw (err_is c.from_residual.result c.in_err-cell-in-PushWord.field-0.0 c.from_residual.ensures.1) (record { extends = tt; resolves = tt })

pub returns-in_err-cell-in-PopWord : goal.returns-in_err-cell-in-PopWord
returns-in_err-cell-in-PopWord c = rw (err_is c.from_residual-in_err-cell-in-PopWord.result c.in_err-cell-in-PopWord.field-0.0 c.from_residual-in_err-cell-in-PopWord.ensures.1) (record { extends = tt; resolves = tt })

pub returns-in_err-variable-in-PushArray : goal.returns-in_err-variable-in-PushArray
returns-in_err-variable-in-PushArray c = rw (err_is c.from_residual-in_err-variable-in-PushArray.result c.in_err-variable-in-PushArray.field-0.0 c.from_residual-in_err-variable-in-PushArray.ensures.1) (record { extends = tt; resolves = tt })

pub returns-in_err-variable-in-PopArray : goal.returns-in_err-variable-in-PopArray
returns-in_err-variable-in-PopArray c = rw (err_is c.from_residual-in_err-variable-in-PopArray.result c.in_err-variable-in-PopArray.field-0.0 c.from_residual-in_err-variable-in-PopArray.ensures.1) (record { extends = tt; resolves = tt })

pub returns-in_err-term-in-PushControl : goal.returns-in_err-term-in-PushControl
returns-in_err-term-in-PushControl c = rw (err_is c.from_residual-in_err-term-in-PushControl.result c.in_err-term-in-PushControl.field-0.0 c.from_residual-in_err-term-in-PushControl.ensures.1) (record { extends = tt; resolves = tt })

pub returns-in_err-variable-in-PopControl : goal.returns-in_err-variable-in-PopControl
returns-in_err-variable-in-PopControl c = rw (err_is c.from_residual-in_err-variable-in-PopControl.result c.in_err-variable-in-PopControl.field-0.0 c.from_residual-in_err-variable-in-PopControl.ensures.1) (record { extends = tt; resolves = tt })

pub returns-in_err-variable-in-Zero : goal.returns-in_err-variable-in-Zero
returns-in_err-variable-in-Zero c = rw (err_is c.from_residual-in_err-variable-in-Zero.result c.in_err-variable-in-Zero.field-0.0 c.from_residual-in_err-variable-in-Zero.ensures.1) (record { extends = tt; resolves = tt })

pub returns-in_err-steps-in-Begin : goal.returns-in_err-steps-in-Begin
returns-in_err-steps-in-Begin c = rw (err_is c.from_residual-in_err-steps-in-Begin.result c.in_err-steps-in-Begin.field-0.0 c.from_residual-in_err-steps-in-Begin.ensures.1) (record { extends = tt; resolves = tt })

pub returns-in_err-variable-in-Actions : goal.returns-in_err-variable-in-Actions
returns-in_err-variable-in-Actions c = rw (err_is c.from_residual-in_err-variable-in-Actions.result c.in_err-variable-in-Actions.field-0.0 c.from_residual-in_err-variable-in-Actions.ensures.1) (record { extends = tt; resolves = tt })

pub returns-in_err-steps-in-Actions : goal.returns-in_err-steps-in-Actions
returns-in_err-steps-in-Actions c = rw (err_is c.from_residual-in_err-steps-in-Actions.result c.in_err-steps-in-Actions.field-0.0 c.from_residual-in_err-steps-in-Actions.ensures.1) (record { extends = tt; resolves = tt })

pub returns-in_err-kind-in-Action : goal.returns-in_err-kind-in-Action
returns-in_err-kind-in-Action c = rw (err_is c.from_residual-in_err-kind-in-Action.result c.in_err-kind-in-Action.field-0.0 c.from_residual-in_err-kind-in-Action.ensures.1) (record { extends = tt; resolves = tt })

pub returns-in_err-lower-in-Action : goal.returns-in_err-lower-in-Action
returns-in_err-lower-in-Action c = rw (err_is c.from_residual-in_err-lower-in-Action.result c.in_err-lower-in-Action.field-0.0 c.from_residual-in_err-lower-in-Action.ensures.1) (record { extends = tt; resolves = tt })

pub returns-in_err-upper-in-Action : goal.returns-in_err-upper-in-Action
returns-in_err-upper-in-Action c = rw (err_is c.from_residual-in_err-upper-in-Action.result c.in_err-upper-in-Action.field-0.0 c.from_residual-in_err-upper-in-Action.ensures.1) (record { extends = tt; resolves = tt })

pub returns-in_err-steps-in-Action : goal.returns-in_err-steps-in-Action
returns-in_err-steps-in-Action c = rw (err_is c.from_residual-in_err-steps-in-Action.result c.in_err-steps-in-Action.field-0.0 c.from_residual-in_err-steps-in-Action.ensures.1) (record { extends = tt; resolves = tt })
