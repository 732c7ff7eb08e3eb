use Rattle.std.proofs.Common.{get_or, arith}
use Rattle.adj_interp_frame.proofs.Reading.{has_first}
use Rattle.adj_interp.proofs.Driving.{done_at_once}
use Rattle.adj_interp.proofs.machine.Machine.serve.Goals as goal

pub pop-requires-clause-within : goal.pop-requires-clause-within
pop-requires-clause-within g c d =
    let f = c.requires.framed in
    let each = f.each in
    let below = rw c.in-PopControl.is at c.requires.below in
    has_first (get_or c.args.self.now.frame.slots.items c.in-PopControl.variable d) (f.sized c.in-PopControl.variable d (omega (arith, each, below)))

pub returns-in-PushArray-clause-ends : goal.returns-in-PushArray-clause-ends
returns-in-PushArray-clause-ends g c e s h = rw c.in-PushArray.is (c.push_array.ensures.ends c.args.line e s h)

pub returns-in-PushWord-clause-ends : goal.returns-in-PushWord-clause-ends
returns-in-PushWord-clause-ends g c e s h = rw c.in-PushWord.is (c.push_word.ensures.ends e s h)

pub returns-in-PopWord-clause-ends : goal.returns-in-PopWord-clause-ends
returns-in-PopWord-clause-ends g c e s h = rw c.in-PopWord.is (c.pop_word.ensures.ends e s h)

pub returns-in-PopArray-clause-ends : goal.returns-in-PopArray-clause-ends
returns-in-PopArray-clause-ends g c e s h = rw c.in-PopArray.is (c.pop_array.ensures.ends e s h)

pub returns-in-PushControl-clause-ends : goal.returns-in-PushControl-clause-ends
returns-in-PushControl-clause-ends g c e s h = rw c.in-PushControl.is (c.push_control.ensures.ends e s h)

pub returns-in-PopControl-clause-ends : goal.returns-in-PopControl-clause-ends
returns-in-PopControl-clause-ends g c e s h = rw c.in-PopControl.is (c.pop.ensures.ends e s h)

pub returns-in-Begin-clause-ends : goal.returns-in-Begin-clause-ends
returns-in-Begin-clause-ends g c e s h = rw c.in-Begin.is (c.begin.ensures.ends e s h)

pub returns-in-Actions-clause-ends : goal.returns-in-Actions-clause-ends
returns-in-Actions-clause-ends g c e s h = rw c.in-Actions.is (c.count_actions.ensures.ends e s h)

pub returns-in-Action-clause-ends : goal.returns-in-Action-clause-ends
returns-in-Action-clause-ends g c e s h = rw c.in-Action.is (c.give_action.ensures.ends e s h)

pub returns-in-End-clause-ends : goal.returns-in-End-clause-ends
returns-in-End-clause-ends g c e s h = rw c.in-End.is (c.end.ensures.ends e s h)

pub returns-in-Zero-clause-ends : goal.returns-in-Zero-clause-ends
returns-in-Zero-clause-ends g c e s h = rw c.in-Zero.is (done_at_once e c.args.self.now c.clear.new.self _ (c.clear.ensures.holds e s h) c.clear.ensures.left)
