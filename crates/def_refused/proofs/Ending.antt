-- Ending: which blocks can end.
use Rattle.std.proofs.Common.{◌≡◌, Bool, true, false, List, [], ◌∷◌, ◌++◌, map, Option, Some, None, refl, sym, ap, subst, ◌∙◌}
use Rattle.std.specs.Prelude.{◌&&◌, ◌||◌, not}
use Rattle.def_text.specs.Form.{Statement, at}
use Rattle.def_text.specs.declared.stated.Kind.{Kind}
use Rattle.def_text.specs.declared.stated.Kind.TheVariants.{EndIf, EndDo, Else}
use Rattle.def_refused.specs.Ends.{Exactly, is_first, BlocksEnd}
use Rattle.def_refused.specs.Opened.{Open, to_end, first_part, other_part, opened, is_innermost, has_label, is_to_end, is_part, leaves_loop}
use Rattle.def_refused.specs.Following.{with_label, Continues, CanFollow}
use Rattle.def_refused.proofs.Places.{Inner, blocks_in, may_at, suits, stands_at, next_at, Leads, no_misses}
use Rattle.def_refused.proofs.Bridged.{reads_accepted}
use Rattle.def_refused.proofs.Leading.{accepted_leads, leads_back, leads_blocks, free_some}
use Rattle.def_refused.proofs.Continuing.{follows, follows_stands}
use Rattle.def_refused.proofs.TreeTests.{IsBare}
use Rattle.def_refused.proofs.TreeWalk.{next_bare}

leads_bare : (w v : Option Inner) (ss : List Statement) → IsBare w → Leads w ss v → IsBare v
leads_bare w v [] b h = subst IsBare h b
leads_bare w v (at n l f ∷ ss) b h = leads_bare (next_at l f w) v ss (next_bare l f w h.0 b) h.1

-- what has a continuation leads somewhere
goes_on_leads : (ss : List Statement) → Continues ss → (w : Option Inner) × Leads None ss w
goes_on_leads ss c =
    let some = free_some c.label ss c.free in
    let front = accepted_leads None (map (with_label c.label) ss) c.more (reads_accepted (map (with_label c.label) ss ++ c.more) c.units c.reads) in
    leads_back c.label some None front.0 ss c.free front.1

-- a statement of a class that ends or turns the innermost block, if it is such
record Turns (kind : Kind) (is : Open → Bool) : Type 0 where
  outside : (l : Option Inner) → l ≡ None → stands_at kind 0 l ≡ false
  suited : (os : List Open) → suits kind os ≡ is_innermost is os
  ordered : (i : Inner) → may_at kind i.stage ≡ not i.stage.left
  unlabelled : (o : Open) → is o ≡ true → has_label o ≡ false

suit : (m s v b : Bool) → (not (not (m && (s || v))) && not (v || b)) ≡ true → s ≡ true
suit false s v b h = absurd cc
suit true true v b h = refl
suit true false true b h = absurd cc
suit true false false b h = absurd cc

module _ (kind : Kind) (is : Open → Bool) (turns : Turns kind is) where
  stands_suits : (w : Option Inner) → stands_at kind 0 w ≡ true → is_innermost is (blocks_in w) ≡ true
  stands_suits None h = let never : false ≡ true = sym (turns.outside None refl) ∙ h in absurd cc
  stands_suits (Some i) h = sym (turns.suited i.blocks) ∙ suit (may_at kind i.stage) (suits kind i.blocks) _ _ h

  no_label : (os : List Open) → is_innermost is os ≡ true → leaves_loop kind os ≡ false
  no_label [] h = refl
  no_label (o ∷ os) h = rw (turns.unlabelled o h) refl

  in_body : (i : Inner) → IsBare (Some i) → is_innermost is i.blocks ≡ true → (b : Bool) → i.stage.left ≡ b → b ≡ false
  in_body i bare h true e = let none = bare e in let never : false ≡ true = rw none at h in absurd cc
  in_body i bare h false e = refl

  suits_stands : (w : Option Inner) → IsBare w → is_innermost is (blocks_in w) ≡ true → stands_at kind 0 w ≡ true
  suits_stands None bare h = absurd cc
  suits_stands (Some i) bare h = rw (turns.ordered i, in_body i bare h i.stage.left refl, turns.suited i.blocks, h, no_label i.blocks h, no_misses kind i.blocks) refl

  exactly : (ss : List Statement) → Continues ss → Exactly (CanFollow kind ss) (is_innermost is (opened [] ss))
  exactly ss c =
      let w = goes_on_leads ss c in
      let blocks = leads_blocks None w.0 ss w.1 in (
        λ f. sym (ap (is_innermost is) blocks) ∙ stands_suits w.0 (follows_stands kind ss w.0 w.1 f),
        λ h. follows kind ss w.0 w.1 (suits_stands w.0 (leads_bare None w.0 ss tt w.1) (ap (is_innermost is) blocks ∙ h)),
      )

to_end_plain : (o : Open) → is_to_end o ≡ true → has_label o ≡ false
to_end_plain to_end h = refl
to_end_plain o h = absurd cc

part_plain : (o : Open) → is_part o ≡ true → has_label o ≡ false
part_plain first_part h = refl
part_plain other_part h = refl
part_plain o h = absurd cc

first_plain : (o : Open) → is_first o ≡ true → has_label o ≡ false
first_plain first_part h = refl
first_plain o h = absurd cc

pub blocks_end : BlocksEnd
blocks_end ss c = (
  exactly EndDo is_to_end (record { outside = λ l e. rw e refl; suited = λ os. refl; ordered = λ i. refl; unlabelled = to_end_plain }) ss c,
  exactly EndIf is_part (record { outside = λ l e. rw e refl; suited = λ os. refl; ordered = λ i. refl; unlabelled = part_plain }) ss c,
  exactly Else is_first (record { outside = λ l e. rw e refl; suited = λ os. refl; ordered = λ i. refl; unlabelled = first_plain }) ss c,
)
