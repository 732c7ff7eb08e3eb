-- Places: where a unit stands behind some statements, and which of them can follow; every place has a way to the end of its unit.
use Rattle.std.proofs.Common.{◌≡◌, ◌≢◌, ℕ, Bool, true, false, cond, List, [], ◌∷◌, length, Option, Some, None, refl}
use Rattle.std.proofs.lemmas.List.{nil_from_length}
use Rattle.std.proofs.lemmas.Bool.{ne_eqb, eq-eqb, eqb-true}
use Rattle.adj_parse.proofs.Truths.{and_false}
use Rattle.std.specs.Prelude.{◌==◌, ◌&&◌, ◌||◌, not, is_none}
use Rattle.std.specs.List.{list_any}
use Rattle.def_text.specs.Form.{Form, subroutine, implicit_none, integers, common, simple, logical, opens_do, opens_while, end_do, go_on, opens_if, otherwise, otherwise_if, end_if, leaves, ends, Statement, at}
use Rattle.def_text.specs.declared.stated.Kind.{Kind}
use Rattle.def_text.specs.declared.stated.Kind.TheVariants.{Return, End, EndIf, EndDo, Else, ImplicitNone, ElseIf, Subroutine, Integer, Common}
use Rattle.adj_parse.specs.Order.{is_heading}
use Rattle.adj_parse.proofs.Machine.{kind_of}
use Rattle.def_refused.specs.Ends.{is_first}
use Rattle.def_refused.specs.Opened.{Open, to_label, to_end, first_part, other_part, chained, outer, closed, turned, is_chained, ends_at, behind, is_innermost, has_label, is_to_end, is_part, leaves_loop, misses_loop}

-- how far a unit has come: it has its SUBROUTINE alone, no executable statement, or a RETURN
pub record Stage : Type 0 where
  pub bare : Bool
  pub early : Bool
  pub left : Bool

abbrev pub heading : Stage
heading = record { bare = true; early = true; left = false }

abbrev pub declaring : Stage
declaring = record { bare = false; early = true; left = false }

abbrev pub acting : Stage
acting = record { bare = false; early = false; left = false }

abbrev pub leaving : Stage
leaving = record { bare = false; early = false; left = true }

-- the order of the statements of a unit
abbrev pub may_at : Kind → Stage → Bool
may_at Subroutine g = false
may_at ImplicitNone g = g.bare
may_at Integer g = g.early
may_at Common g = g.early
may_at End g = true
may_at kind g = not g.left

-- that, and which blocks are open
pub record Inner : Type 0 where
  pub stage : Stage
  pub blocks : List Open

abbrev pub in_unit : Stage → List Open → Option Inner
in_unit p os = Some (record { stage = p; blocks = os })

abbrev pub blocks_in : Option Inner → List Open
blocks_in None = []
blocks_in (Some i) = i.blocks

-- whether the innermost block is the one that a statement of the class ends or turns
abbrev pub suits : Kind → List Open → Bool
suits Return os = length os == 0
suits End os = length os == 0
suits EndDo os = is_innermost is_to_end os
suits EndIf os = is_innermost is_part os
suits Else os = is_innermost is_first os
suits ElseIf os = is_innermost is_first os
suits kind os = true

abbrev pub misplaced_at : Kind → Option Inner → Bool
misplaced_at kind None = not (is_heading kind)
misplaced_at kind (Some i) = not (may_at kind i.stage && (suits kind i.blocks || leaves_loop kind i.blocks))

abbrev pub broken_at : Kind → ℕ → Option Inner → Bool
broken_at kind l w = leaves_loop kind (blocks_in w) || misses_loop kind l (blocks_in w)

abbrev pub stands_at : Kind → ℕ → Option Inner → Bool
stands_at kind l w = not (misplaced_at kind w) && not (broken_at kind l w)

-- behind a statement with this label
abbrev pub next_in : ℕ → Form → Inner → Option Inner
next_in l implicit_none i = in_unit declaring i.blocks
next_in l (integers is) i = in_unit declaring i.blocks
next_in l (common b is) i = in_unit declaring i.blocks
next_in l leaves i = in_unit leaving i.blocks
next_in l ends i = None
next_in l f i = in_unit acting (behind l f i.blocks)

abbrev pub next_at : ℕ → Form → Option Inner → Option Inner
next_at l (subroutine x dummies) None = in_unit heading []
next_at l f None = None
next_at l f (Some i) = next_in l f i

-- whether statements are the rest of a unit, and units
abbrev pub accepted : Option Inner → List Statement → Bool
accepted w [] = is_none w
accepted w (at n l f ∷ ts) = stands_at (kind_of f) l w && accepted (next_at l f w) ts

-- where statements lead, if they stand
abbrev pub Leads : Option Inner → List Statement → Option Inner → Type 0
Leads w [] v = w ≡ v
Leads w (at n l f ∷ ts) v = (stands_at (kind_of f) l w ≡ true) × Leads (next_at l f w) ts v

-- ---- a way to the end

no_label : (os : List Open) → list_any (ends_at 0) os ≡ false
no_label [] = refl
no_label (to_label l ∷ os) = no_label os
no_label (to_end ∷ os) = no_label os
no_label (first_part ∷ os) = no_label os
no_label (other_part ∷ os) = no_label os
no_label (chained ∷ os) = no_label os

pub no_misses : (kind : Kind) (os : List Open) → misses_loop kind 0 os ≡ false
no_misses kind os = rw (no_label os) refl

none_closed : (os : List Open) → closed (ends_at 0) os ≡ os
none_closed [] = refl
none_closed (to_label l ∷ os) = refl
none_closed (to_end ∷ os) = refl
none_closed (first_part ∷ os) = refl
none_closed (other_part ∷ os) = refl
none_closed (chained ∷ os) = refl

-- blocks as statements open them: each label is one, and a chained part stands round an IF alone
abbrev pub Fine : Bool → List Open → Type 0
Fine chain [] = Unit {0}
Fine chain (to_label l ∷ os) = (l ≢ 0) × Fine false os
Fine chain (to_end ∷ os) = Fine false os
Fine chain (first_part ∷ os) = Fine true os
Fine chain (other_part ∷ os) = Fine true os
Fine chain (chained ∷ os) = (chain ≡ true) × Fine true os

looser : (os : List Open) → Fine false os → Fine true os
looser [] h = h
looser (to_label l ∷ os) h = h
looser (to_end ∷ os) h = h
looser (first_part ∷ os) h = h
looser (other_part ∷ os) h = h
looser (chained ∷ os) h = absurd cc

chain_closed : (os : List Open) → Fine true os → Fine false (closed is_chained os)
chain_closed [] h = h
chain_closed (to_label l ∷ os) h = h
chain_closed (to_end ∷ os) h = h
chain_closed (first_part ∷ os) h = h
chain_closed (other_part ∷ os) h = h
chain_closed (chained ∷ os) h = chain_closed os h.1

label_closed : (l : ℕ) (os : List Open) → Fine false os → Fine false (closed (ends_at l) os)
label_closed l [] h = h
label_closed l (to_label k ∷ os) h = by (ends_at l (to_label k)) (label_closed l os h.1)
  where
    by : (b : Bool) → Fine false (closed (ends_at l) os) → Fine false (cond b (closed (ends_at l) os) (to_label k ∷ os))
    by true rest = rest
    by false rest = h
label_closed l (to_end ∷ os) h = h
label_closed l (first_part ∷ os) h = h
label_closed l (other_part ∷ os) h = h
label_closed l (chained ∷ os) h = absurd cc

-- statements that end the unit
abbrev Ends : List Open → Type 0
Ends os = (ts : List Statement) × (accepted (in_unit acting os) ts ≡ true)

abbrev ending : ℕ → Form → Statement
ending l f = at 0 l f

-- the blocks end, and so do they without those of a chain or of a label
record EndsAll (os : List Open) : Type 0 where
  all : Fine false os → Ends os
  chain : Fine true os → Ends (closed is_chained os)
  label : (l : ℕ) → Fine false os → Ends (closed (ends_at l) os)

end_loop : (os : List Open) → Ends os → Ends (to_end ∷ os)
end_loop os e = (ending 0 end_do ∷ e.0, rw (no_label os) e.1)

end_part : (o : Open) (os : List Open) → is_part o ≡ true → Ends (closed is_chained os) → Ends (o ∷ os)
end_part first_part os h e = (ending 0 end_if ∷ e.0, rw (no_label os) e.1)
end_part other_part os h e = (ending 0 end_if ∷ e.0, rw (no_label os) e.1)
end_part o os h e = absurd cc

end_label : (l : ℕ) (os : List Open) → l ≢ 0 → Ends (closed (ends_at l) os) → Ends (to_label l ∷ os)
end_label l os some e = (ending l go_on ∷ e.0, rw (ne_eqb l 0 some, eq-eqb l l refl) e.1)

end_all : (os : List Open) → EndsAll os
end_all [] = record { all = λ h. (ending 0 ends ∷ [], refl); chain = λ h. (ending 0 ends ∷ [], refl); label = λ l h. (ending 0 ends ∷ [], refl) }
end_all (to_end ∷ os) = let r = end_all os in record { all = λ h. end_loop os (r.all h); chain = λ h. end_loop os (r.all h); label = λ l h. end_loop os (r.all h) }
end_all (first_part ∷ os) = let r = end_all os in record { all = λ h. end_part first_part os refl (r.chain h); chain = λ h. end_part first_part os refl (r.chain h); label = λ l h. end_part first_part os refl (r.chain h) }
end_all (other_part ∷ os) = let r = end_all os in record { all = λ h. end_part other_part os refl (r.chain h); chain = λ h. end_part other_part os refl (r.chain h); label = λ l h. end_part other_part os refl (r.chain h) }
end_all (chained ∷ os) = let r = end_all os in record { all = λ h. absurd cc; chain = λ h. r.chain h.1; label = λ l h. absurd cc }
end_all (to_label k ∷ os) = let r = end_all os in record { all = λ h. end_label k os h.0 (r.label k h.1); chain = λ h. end_label k os h.0 (r.label k h.1); label = λ l h. by l (ends_at l (to_label k)) h r }
  where
    by : (l : ℕ) (b : Bool) → Fine false (to_label k ∷ os) → EndsAll os → Ends (cond b (closed (ends_at l) os) (to_label k ∷ os))
    by l true h r = r.label l h.1
    by l false h r = end_label k os h.0 (r.label k h.1)

-- a place that statements lead to
abbrev pub IsPlace : Option Inner → Type 0
IsPlace None = Unit {0}
IsPlace (Some i) = Fine false i.blocks × (i.stage.left ≡ true → i.blocks ≡ [])

pub finishes : (w : Option Inner) → IsPlace w → (ts : List Statement) × (accepted w ts ≡ true)
finishes None h = ([], refl)
finishes (Some i) h = elim (i.stage.left) as (λ t. i.stage.left ≡ t → (ts : List Statement) × (accepted (Some i) ts ≡ true)) [
  | true ↦ λ e. (ending 0 ends ∷ [], rw (h.1 e) refl)
  -- a CONTINUE, and then what ends the blocks
  | false ↦ λ e. let r = (end_all i.blocks).all h.0 in (ending 0 go_on ∷ r.0, rw (e, no_label i.blocks, none_closed i.blocks, and_false (is_innermost has_label i.blocks)) r.1)
] refl

-- ---- places that statements lead to

abbrev pub IsLabelled : Form → Type 0
IsLabelled (opens_do (Some l) r mark) = l ≢ 0
IsLabelled f = Unit {0}

abbrev pub AreLabelled : List Statement → Type 0
AreLabelled [] = Unit {0}
AreLabelled (at n l f ∷ ss) = IsLabelled f × AreLabelled ss

-- what a statement that stands needs: nothing of a closed unit, and of an open one these
pub stood : (m s v b : Bool) → (not (not (m && (s || v))) && not (v || b)) ≡ true → (m ≡ true) × (s ≡ true)
stood false s v b h = absurd cc
stood true true v b h = (refl, refl)
stood true false true b h = absurd cc
stood true false false b h = absurd cc

outer_fine : (os : List Open) → is_innermost is_to_end os ≡ true → Fine false os → Fine false (outer os)
outer_fine [] h f = f
outer_fine (to_end ∷ os) h f = f
outer_fine (o ∷ os) h f = absurd cc

part_fine : (os : List Open) → is_innermost is_part os ≡ true → Fine false os → Fine false (closed is_chained (outer os))
part_fine [] h f = f
part_fine (first_part ∷ os) h f = chain_closed os f
part_fine (other_part ∷ os) h f = chain_closed os f
part_fine (o ∷ os) h f = absurd cc

other_fine : (os : List Open) → Fine false os → Fine false (turned other_part os)
other_fine [] f = f
other_fine (first_part ∷ os) f = f
other_fine (to_end ∷ os) f = f
other_fine (to_label l ∷ os) f = f
other_fine (other_part ∷ os) f = f
other_fine (chained ∷ os) f = f

chain_fine : (os : List Open) → Fine false os → Fine true (turned chained os)
chain_fine [] f = f
chain_fine (first_part ∷ os) f = (refl, f)
chain_fine (to_end ∷ os) f = f
chain_fine (to_label l ∷ os) f = f
chain_fine (other_part ∷ os) f = f
chain_fine (chained ∷ os) f = absurd cc

behind_fine : (l : ℕ) (f : Form) (os : List Open) → IsLabelled f → suits (kind_of f) os ≡ true → Fine false os → Fine false (behind l f os)
behind_fine l (opens_do None r mark) os i s f = f
behind_fine l (opens_do (Some k) r mark) os i s f = (i, f)
behind_fine l (opens_while c) os i s f = f
behind_fine l end_do os i s f = outer_fine os s f
behind_fine l go_on os i s f = label_closed l os f
behind_fine l (opens_if c) os i s f = looser os f
behind_fine l otherwise os i s f = other_fine os f
behind_fine l (otherwise_if c) os i s f = chain_fine os f
behind_fine l end_if os i s f = part_fine os s f
behind_fine l (simple a) os i s f = f
behind_fine l (logical c a) os i s f = f
behind_fine l (subroutine x ds) os i s f = f
behind_fine l implicit_none os i s f = f
behind_fine l (integers is) os i s f = f
behind_fine l (common b is) os i s f = f
behind_fine l leaves os i s f = f
behind_fine l ends os i s f = f

pub none_open : (os : List Open) → (length os == 0) ≡ true → os ≡ []
none_open os h = nil_from_length os (eqb-true (length os) 0 h)

-- a statement that stands leads to a place
pub next_place : (l : ℕ) (f : Form) (w : Option Inner) → IsLabelled f → stands_at (kind_of f) l w ≡ true → IsPlace w → IsPlace (next_at l f w)
next_place l (subroutine x ds) None i h p = (tt, λ e. refl)
next_place l f None i h p = tt
next_place l f (Some j) i h p = inner f i (stood (may_at (kind_of f) j.stage) (suits (kind_of f) j.blocks) (leaves_loop (kind_of f) j.blocks) (misses_loop (kind_of f) l j.blocks) h)
  where
    inner : (f : Form) → IsLabelled f → (may_at (kind_of f) j.stage ≡ true) × (suits (kind_of f) j.blocks ≡ true) → IsPlace (next_in l f j)
    inner implicit_none i s = (p.0, λ e. absurd cc)
    inner (integers is) i s = (p.0, λ e. absurd cc)
    inner (common b is) i s = (p.0, λ e. absurd cc)
    inner leaves i s = (p.0, λ e. none_open j.blocks s.1)
    inner ends i s = tt
    inner f i s = (behind_fine l f j.blocks i s.1 p.0, λ e. absurd cc)
