-- Leading: where statements lead, also where a DO without a proper label gets one.
use Rattle.std.proofs.Common.{◌≡◌, ◌≢◌, ℕ, suc, ◌+◌, ◌≤◌, Bool, true, false, cond, eqb, List, [], ◌∷◌, ◌++◌, map, length, Option, Some, None, refl, sym, ap, subst, ◌∙◌, arith}
use Rattle.std.proofs.lemmas.Bool.{ne_eqb, eqb-true, eqb-false}
use Rattle.std.proofs.lemmas.List.{length-map}
use Rattle.std.specs.Prelude.{◌==◌, ◌&&◌, not, option_map}
use Rattle.std.specs.List.{list_any}
use Rattle.def_text.specs.Form.{Form, subroutine, implicit_none, integers, common, opens_do, opens_while, end_do, go_on, opens_if, otherwise, otherwise_if, end_if, leaves, ends, Statement, at}
use Rattle.def_text.specs.declared.stated.Kind.{Kind}
use Rattle.def_text.specs.declared.stated.Kind.TheVariants.{Return, End, EndIf, EndDo, Else, ElseIf}
use Rattle.adj_parse.proofs.Machine.{kind_of}
use Rattle.def_refused.specs.Opened.{Open, to_label, to_end, first_part, other_part, chained, body_of, outer, closed, turned, is_chained, ends_at, behind, opened, is_innermost, has_label, is_to_end, is_part, awaits_else, closes, leaves_loop, misses_loop}
use Rattle.def_refused.specs.Following.{renumbered, with_label, IsFree}
use Rattle.def_refused.specs.Ends.{is_first}
use Rattle.def_refused.proofs.Places.{Inner, acting, may_at, in_unit, blocks_in, suits, stands_at, next_in, next_at, accepted, Leads, IsPlace, AreLabelled, stood, none_open, next_place}

both : (a b : Bool) → (a && b) ≡ true → (a ≡ true) × (b ≡ true)
both true b h = (refl, h)
both false b h = absurd cc

pub leads_accepted : (w v : Option Inner) (ss ts : List Statement) → Leads w ss v → accepted v ts ≡ true → accepted w (ss ++ ts) ≡ true
leads_accepted w v [] ts h a = rw h a
leads_accepted w v (at n l f ∷ ss) ts h a = rw (h.0) (leads_accepted (next_at l f w) v ss ts h.1 a)

pub accepted_leads : (w : Option Inner) (ss ts : List Statement) → accepted w (ss ++ ts) ≡ true → (v : Option Inner) × Leads w ss v × (accepted v ts ≡ true)
accepted_leads w [] ts h = (w, refl, h)
accepted_leads w (at n l f ∷ ss) ts h =
    let here = both (stands_at (kind_of f) l w) (accepted (next_at l f w) (ss ++ ts)) h in
    let rest = accepted_leads (next_at l f w) ss ts here.1 in
    (rest.0, (here.0, rest.1), rest.2)

pub leads_one : (w u v : Option Inner) (ss : List Statement) → Leads w ss u → Leads w ss v → u ≡ v
leads_one w u v [] h g = sym h ∙ g
leads_one w u v (at n l f ∷ ss) h g = leads_one (next_at l f w) u v ss h.1 g.1

pub leads_more : (w v : Option Inner) (ss : List Statement) (n l : ℕ) (f : Form) → Leads w ss v → stands_at (kind_of f) l v ≡ true → Leads w (ss ++ at n l f ∷ []) (next_at l f v)
leads_more w v [] n l f h s = rw h (s, refl)
leads_more w v (at m k g ∷ ss) n l f h s = (h.0, leads_more (next_at k g w) v ss n l f h.1 s)

pub leads_place : (w v : Option Inner) (ss : List Statement) → AreLabelled ss → IsPlace w → Leads w ss v → IsPlace v
leads_place w v [] a p h = subst IsPlace h p
leads_place w v (at n l f ∷ ss) a p h = leads_place (next_at l f w) v ss a.1 (next_place l f w a.0 h.0 p) h.1

-- the blocks of a place are those that the statements open
next_blocks : (l : ℕ) (f : Form) (w : Option Inner) → stands_at (kind_of f) l w ≡ true → blocks_in (next_at l f w) ≡ behind l f (blocks_in w)
next_blocks l (subroutine x ds) None h = refl
next_blocks l f None h = absurd cc
next_blocks l f (Some i) h = inner f (stood (may_at (kind_of f) i.stage) (suits (kind_of f) i.blocks) (leaves_loop (kind_of f) i.blocks) (misses_loop (kind_of f) l i.blocks) h)
  where
    inner : (f : Form) → (may_at (kind_of f) i.stage ≡ true) × (suits (kind_of f) i.blocks ≡ true) → blocks_in (next_in l f i) ≡ behind l f i.blocks
    inner ends s = sym (none_open i.blocks s.1)
    inner (subroutine x ds) s = absurd cc
    inner f s = refl

pub leads_blocks : (w v : Option Inner) (ss : List Statement) → Leads w ss v → blocks_in v ≡ opened (blocks_in w) ss
leads_blocks w v [] h = ap blocks_in (sym h)
leads_blocks w v (at n l f ∷ ss) h = leads_blocks (next_at l f w) v ss h.1 ∙ ap (λ os. opened os ss) (next_blocks l f w h.0)

-- ---- a label for `DO 0`

module _ (k : ℕ) (some : k ≢ 0) where
  abbrev renewed : Open → Open
  renewed (to_label l) = to_label (renumbered k l)
  renewed o = o

  abbrev pub renewed_at : Option Inner → Option Inner
  renewed_at None = None
  renewed_at (Some i) = in_unit i.stage (map renewed i.blocks)

  zero : (l : ℕ) (b : Bool) → eqb l 0 ≡ b → (not b && false) ≡ (not b && eqb 0 l)
  zero l true e = refl
  zero l false e = sym (ne_eqb 0 l (λ q. eqb-false l 0 e (sym q)))

  same_label : (l j : ℕ) → l ≢ k → ends_at l (to_label (renumbered k j)) ≡ ends_at l (to_label j)
  same_label l j other = by (eqb j 0) refl
    where
      by : (b : Bool) → eqb j 0 ≡ b → ends_at l (to_label (cond b k j)) ≡ ends_at l (to_label j)
      by true e = rw (eqb-true j 0 e, ne_eqb k l (λ q. other (sym q))) (zero l (eqb l 0) refl)
      by false e = refl

  same_end : (l : ℕ) (o : Open) → l ≢ k → ends_at l (renewed o) ≡ ends_at l o
  same_end l (to_label j) other = same_label l j other
  same_end l to_end other = refl
  same_end l first_part other = refl
  same_end l other_part other = refl
  same_end l chained other = refl

  same_any : (is_such is : Open → Bool) → ((o : Open) → is_such (renewed o) ≡ is o) → (os : List Open) → list_any is_such (map renewed os) ≡ list_any is os
  same_any is_such is h [] = refl
  same_any is_such is h (o ∷ os) = rw (h o, same_any is_such is h os) refl

  same_innermost : (is_such is : Open → Bool) → ((o : Open) → is_such (renewed o) ≡ is o) → (os : List Open) → is_innermost is_such (map renewed os) ≡ is_innermost is os
  same_innermost is_such is h [] = refl
  same_innermost is_such is h (o ∷ os) = h o

  same_closed : (is_such : Open → Bool) → ((o : Open) → is_such (renewed o) ≡ is_such o) → (os : List Open) → closed is_such (map renewed os) ≡ map renewed (closed is_such os)
  same_closed is_such h [] = refl
  same_closed is_such h (o ∷ os) = rw (h o) (by (is_such o) (same_closed is_such h os))
    where
      by : (b : Bool) → closed is_such (map renewed os) ≡ map renewed (closed is_such os) → cond b (closed is_such (map renewed os)) (renewed o ∷ map renewed os) ≡ map renewed (cond b (closed is_such os) (o ∷ os))
      by true r = r
      by false r = refl

  -- tests that don't look at labels
  to_end_kept : (o : Open) → is_to_end (renewed o) ≡ is_to_end o
  to_end_kept (to_label l) = refl
  to_end_kept o = refl

  part_kept : (o : Open) → is_part (renewed o) ≡ is_part o
  part_kept (to_label l) = refl
  part_kept o = refl

  label_kept : (o : Open) → has_label (renewed o) ≡ has_label o
  label_kept (to_label l) = refl
  label_kept o = refl

  chained_kept : (o : Open) → is_chained (renewed o) ≡ is_chained o
  chained_kept (to_label l) = refl
  chained_kept o = refl

  awaits_kept : (os : List Open) → awaits_else (map renewed os) ≡ awaits_else os
  awaits_kept [] = refl
  awaits_kept (to_label l ∷ os) = awaits_kept os
  awaits_kept (to_end ∷ os) = awaits_kept os
  awaits_kept (first_part ∷ os) = refl
  awaits_kept (other_part ∷ os) = refl
  awaits_kept (chained ∷ os) = awaits_kept os

  first_kept : (o : Open) → is_first (renewed o) ≡ is_first o
  first_kept (to_label l) = refl
  first_kept o = refl

  none_kept : (os : List Open) → (length (map renewed os) == 0) ≡ (length os == 0)
  none_kept os = ap (λ n. n == 0) (length-map os renewed)

  suits_kept : (kind : Kind) (os : List Open) → suits kind (map renewed os) ≡ suits kind os
  suits_kept Return os = none_kept os
  suits_kept End os = none_kept os
  suits_kept EndDo os = same_innermost is_to_end is_to_end to_end_kept os
  suits_kept EndIf os = same_innermost is_part is_part part_kept os
  suits_kept Else os = same_innermost is_first is_first first_kept os
  suits_kept ElseIf os = same_innermost is_first is_first first_kept os
  suits_kept kind os = refl

  closes_kept : (kind : Kind) (os : List Open) → closes kind (map renewed os) ≡ closes kind os
  closes_kept End os = refl
  closes_kept EndDo os = same_any is_to_end is_to_end to_end_kept os
  closes_kept EndIf os = same_any is_part is_part part_kept os
  closes_kept Else os = awaits_kept os
  closes_kept ElseIf os = awaits_kept os
  closes_kept kind os = refl

  leaves_kept : (kind : Kind) (os : List Open) → leaves_loop kind (map renewed os) ≡ leaves_loop kind os
  leaves_kept kind os = rw (same_innermost has_label has_label label_kept os, closes_kept kind os) refl

  misses_kept : (kind : Kind) (l : ℕ) (os : List Open) → l ≢ k → misses_loop kind l (map renewed os) ≡ misses_loop kind l os
  misses_kept kind l os other = rw (same_any (ends_at l) (ends_at l) (λ o. same_end l o other) os, same_innermost (ends_at l) (ends_at l) (λ o. same_end l o other) os) refl

  pub stands_kept : (kind : Kind) (l : ℕ) (w : Option Inner) → l ≢ k → stands_at kind l (renewed_at w) ≡ stands_at kind l w
  stands_kept kind l None other = refl
  stands_kept kind l (Some i) other = rw (suits_kept kind i.blocks, leaves_kept kind i.blocks, misses_kept kind l i.blocks other) refl

  abbrev pub relabelled : Form → Form
  relabelled (opens_do label r mark) = opens_do (option_map (renumbered k) label) r mark
  relabelled f = f

  pub relabels : (n l : ℕ) (f : Form) → with_label k (at n l f) ≡ at n l (relabelled f)
  relabels n l (opens_do label r mark) = refl
  relabels n l f = refl

  pub same_kind : (f : Form) → kind_of (relabelled f) ≡ kind_of f
  same_kind (opens_do label r mark) = refl
  same_kind f = refl

  turned_kept : (part : Open) (os : List Open) → renewed part ≡ part → turned part (map renewed os) ≡ map renewed (turned part os)
  turned_kept part [] h = refl
  turned_kept part (first_part ∷ os) h = ap (λ o. o ∷ map renewed os) (sym h)
  turned_kept part (to_label l ∷ os) h = refl
  turned_kept part (o ∷ os) h = refl

  outer_kept : (os : List Open) → outer (map renewed os) ≡ map renewed (outer os)
  outer_kept [] = refl
  outer_kept (o ∷ os) = refl

  body_kept : (label : Option ℕ) → body_of (option_map (renumbered k) label) ≡ renewed (body_of label)
  body_kept None = refl
  body_kept (Some l) = refl

  behind_kept : (l : ℕ) (f : Form) (os : List Open) → l ≢ k → behind l (relabelled f) (map renewed os) ≡ map renewed (behind l f os)
  behind_kept l (opens_do label r mark) os other = ap (λ o. o ∷ map renewed os) (body_kept label)
  behind_kept l (opens_while c) os other = refl
  behind_kept l end_do os other = outer_kept os
  behind_kept l go_on os other = same_closed (ends_at l) (λ o. same_end l o other) os
  behind_kept l (opens_if c) os other = refl
  behind_kept l otherwise os other = turned_kept other_part os refl
  behind_kept l (otherwise_if c) os other = ap (λ ps. first_part ∷ ps) (turned_kept chained os refl)
  behind_kept l end_if os other = ap (closed is_chained) (outer_kept os) ∙ same_closed is_chained chained_kept (outer os)
  behind_kept l f os other = refl

  next_kept : (l : ℕ) (f : Form) (w : Option Inner) → l ≢ k → next_at l (relabelled f) (renewed_at w) ≡ renewed_at (next_at l f w)
  next_kept l (opens_do label r mark) None other = refl
  next_kept l f None other = refl
  next_kept l f (Some i) other = inner f
    where
      inner : (f : Form) → next_at l (relabelled f) (renewed_at (Some i)) ≡ renewed_at (next_in l f i)
      inner implicit_none = refl
      inner (integers is) = refl
      inner (common b is) = refl
      inner leaves = refl
      inner ends = refl
      inner f = ap (in_unit acting) (behind_kept l f i.blocks other)

  pub leads_kept : (w v : Option Inner) (ss : List Statement) → IsFree k ss → Leads w ss v → Leads (renewed_at w) (map (with_label k) ss) (renewed_at v)
  leads_kept w v [] free h = ap renewed_at h
  leads_kept w v (at n l f ∷ ss) free h =
      let rest = leads_kept (next_at l f w) v ss free.1 h.1 in
      let here : stands_at (kind_of (relabelled f)) l (renewed_at w) ≡ true = rw (same_kind f, stands_kept (kind_of f) l w free.0) (h.0) in
      let all : Leads (renewed_at w) (at n l (relabelled f) ∷ map (with_label k) ss) (renewed_at v) = (here, subst (λ u. Leads u (map (with_label k) ss) (renewed_at v)) (sym (next_kept l f w free.0)) rest) in
      subst (λ s. Leads (renewed_at w) (s ∷ map (with_label k) ss) (renewed_at v)) (sym (relabels n l f)) all

  pub are_labelled : (ss : List Statement) → AreLabelled (map (with_label k) ss)
  are_labelled [] = tt
  are_labelled (at n l f ∷ ss) = by f (are_labelled ss)
    where
      some_label : (l : ℕ) (b : Bool) → eqb l 0 ≡ b → cond b k l ≢ 0
      some_label l true e = some
      some_label l false e = eqb-false l 0 e

      by : (f : Form) → AreLabelled (map (with_label k) ss) → AreLabelled (with_label k (at n l f) ∷ map (with_label k) ss)
      by (opens_do (Some l) r mark) rest = (some_label l (eqb l 0) refl, rest)
      by (opens_do None r mark) rest = (tt, rest)
      by f rest = (tt, rest)

  -- and the other way round
  pub leads_back : (w v : Option Inner) (ss : List Statement) → IsFree k ss → Leads (renewed_at w) (map (with_label k) ss) v → (u : Option Inner) × Leads w ss u
  leads_back w v [] free h = (w, refl)
  leads_back w v (at n l f ∷ ss) free h =
      let there : Leads (renewed_at w) (at n l (relabelled f) ∷ map (with_label k) ss) v = subst (λ s. Leads (renewed_at w) (s ∷ map (with_label k) ss) v) (relabels n l f) h in
      let here : stands_at (kind_of f) l w ≡ true = sym (stands_kept (kind_of f) l w free.0) ∙ ap (λ x. stands_at x l (renewed_at w)) (sym (same_kind f)) ∙ there.0 in
      let rest = leads_back (next_at l f w) v ss free.1 (subst (λ u. Leads u (map (with_label k) ss) v) (next_kept l f w free.0) there.1) in
      (rest.0, (here, rest.1))

-- a label that no statement has
abbrev pub above : List Statement → ℕ
above [] = 1
above (at n l f ∷ ss) = suc l + above ss

free_above : (ss : List Statement) (k : ℕ) → above ss ≤ k → IsFree k ss
free_above [] k h = λ e. absurd (let never : ⊥ = omega (arith, h, e) in never)
free_above (at n l f ∷ ss) k h = (λ e. absurd (let never : ⊥ = omega (arith, h, e) in never), free_above ss k (omega (arith, h)))

pub above_free : (ss : List Statement) → IsFree (above ss) ss
above_free ss = free_above ss (above ss) (omega arith)

pub free_some : (k : ℕ) (ss : List Statement) → IsFree k ss → k ≢ 0
free_some k [] h = h
free_some k (at n l f ∷ ss) h = free_some k ss h.1

pub free_front : (k : ℕ) (ss ts : List Statement) → IsFree k (ss ++ ts) → IsFree k ss
free_front k [] ts h = free_some k ts h
free_front k (at n l f ∷ ss) ts h = (h.0, free_front k ss ts h.1)

pub free_last : (k : ℕ) (ss : List Statement) (n l : ℕ) (f : Form) → IsFree k (ss ++ at n l f ∷ []) → l ≢ k
free_last k [] n l f h = h.0
free_last k (at m j g ∷ ss) n l f h = free_last k ss n l f h.1
