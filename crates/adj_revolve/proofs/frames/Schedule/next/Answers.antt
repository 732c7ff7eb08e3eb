use Rattle.std.proofs.Common.{◌-◌, ap, sym, ◌∙◌, subst}
use Rattle.adj_revolve.specs.Split.{split_of}
use Rattle.adj_revolve.specs.Frames.{IsGoing, remaining}
use Rattle.adj_revolve.proofs.FrameLemmas.{body_going, body_remaining, return_turn, return_keep}
use Rattle.adj_revolve.proofs.frames.Schedule.next.Goals as goal

pub invariant_of-self-in-Body : goal.invariant_of-self-in-Body
invariant_of-self-in-Body c =
    body_going c.self.inside.slots c.self.inside.frames.items c.push.new.self.items c.in-Body.low c.in-Body.steps c.split-first.result
    (subst (λ p. IsGoing c.self.inside.slots c.self.inside.frames.items p) c.in-Body.is c.self.invariant) (c.split-first.ensures.value ∙ ap (λ z. split_of c.in-Body.steps (c.self.inside.slots - z)) c.len.ensures.value) c.split-first.ensures.some c.split-first.ensures.less c.push.ensures.items

pub returns-in-Body : goal.returns-in-Body
returns-in-Body c =
    sym c.self.view_is ∙ (ap (λ p. remaining c.self.inside.slots c.self.inside.frames.items p) c.in-Body.is
    ∙ body_remaining c.self.inside.slots c.self.inside.frames.items c.push.new.self.items c.in-Body.low c.in-Body.steps c.split-first.result
    (subst (λ p. IsGoing c.self.inside.slots c.self.inside.frames.items p) c.in-Body.is c.self.invariant) (c.split-first.ensures.value ∙ ap (λ z. split_of c.in-Body.steps (c.self.inside.slots - z)) c.len.ensures.value) c.push.ensures.items)

pub invariant_of-self-then-frame-eq1 : goal.invariant_of-self-then-frame-eq1
invariant_of-self-then-frame-eq1 c =
    (return_turn c.self.inside.slots c.self.inside.frames.items c.pop.new.self.items c.in_ok-frame-in-Return.frame
    (subst (λ p. IsGoing c.self.inside.slots c.self.inside.frames.items p) c.in-Return.is c.self.invariant) c.in_ok-frame-in-Return.ensures.items c.if-frame-eq1.true).0

pub returns-then-frame-eq1 : goal.returns-then-frame-eq1
returns-then-frame-eq1 c =
    sym c.self.view_is ∙ (ap (λ p. remaining c.self.inside.slots c.self.inside.frames.items p) c.in-Return.is
    ∙ (return_turn c.self.inside.slots c.self.inside.frames.items c.pop.new.self.items c.in_ok-frame-in-Return.frame
    (subst (λ p. IsGoing c.self.inside.slots c.self.inside.frames.items p) c.in-Return.is c.self.invariant) c.in_ok-frame-in-Return.ensures.items c.if-frame-eq1.true).1)

pub invariant_of-self-in-Return : goal.invariant_of-self-in-Return
invariant_of-self-in-Return c =
    (return_keep c.self.inside.slots c.self.inside.frames.items c.pop.new.self.items c.in_ok-frame-in-Return.frame
    (subst (λ p. IsGoing c.self.inside.slots c.self.inside.frames.items p) c.in-Return.is c.self.invariant) c.in_ok-frame-in-Return.ensures.items c.if-frame-eq1.false).0

pub returns-else-frame-eq1 : goal.returns-else-frame-eq1
returns-else-frame-eq1 c =
    sym c.self.view_is ∙ (ap (λ p. remaining c.self.inside.slots c.self.inside.frames.items p) c.in-Return.is
    ∙ (return_keep c.self.inside.slots c.self.inside.frames.items c.pop.new.self.items c.in_ok-frame-in-Return.frame
    (subst (λ p. IsGoing c.self.inside.slots c.self.inside.frames.items p) c.in-Return.is c.self.invariant) c.in_ok-frame-in-Return.ensures.items c.if-frame-eq1.false).1)
