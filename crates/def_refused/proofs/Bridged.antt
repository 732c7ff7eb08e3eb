-- Bridged: what the machine makes of statements, by the blocks that they leave open alone.
use Rattle.std.proofs.Common.{◌≡◌, ℕ, suc, Bool, true, false, cond, List, [], ◌∷◌, length, Option, Some, None, refl, sym, ap, ◌∙◌}
use Rattle.std.specs.Prelude.{◌==◌, ◌&&◌, ◌||◌, not, is_none}
use Rattle.std.specs.List.{list_any}
use Rattle.adj_tree.specs.Code.{Test, Code}
use Rattle.adj_tree.specs.Common.{Shared}
use Rattle.def_text.specs.Form.{Form, subroutine, implicit_none, integers, common, opens_do, opens_while, end_do, go_on, opens_if, otherwise, otherwise_if, end_if, leaves, ends, Statement, at}
use Rattle.def_text.specs.Unit.{ReadsUnits}
use Rattle.def_text.specs.declared.stated.Kind.{Kind}
use Rattle.def_text.specs.declared.stated.Kind.TheVariants.{Continue, Return, End, EndIf, EndDo, Else, ImplicitNone, ElseIf, Subroutine, Integer, Common}
use Rattle.adj_parse.specs.Blocks.{Acts, Part, of_loop, of_while, of_if, of_else, of_chain, Block, Nest, close, close_while, turned, turn, acted, ended, is_chain, is_labelled}
use Rattle.adj_parse.specs.Order as order
use Rattle.adj_parse.specs.Order.{is_bare, is_early, is_left, may_follow, has_no_label, is_if, is_second, innermost_is, some_is, reaches_out, breaks_loop}
use Rattle.adj_parse.specs.Unit.{Current, Units, followed, open_blocks, is_misplaced}
use Rattle.adj_parse.proofs.Machine.{picked, kind_of, stands, units_of, run}
use Rattle.adj_parse.proofs.UnitsComplete.{nothing, units_run}
use Rattle.adj_parse.proofs.UnitsSound.{run_reads}
use Rattle.def_refused.specs.Opened as opened
use Rattle.def_refused.specs.Opened.{Open, to_label, to_end, first_part, other_part, chained, body_of, outer, closed, is_chained, ends_at, behind, is_innermost, has_label, is_to_end, is_part, awaits_else, closes, leaves_loop, misses_loop}
use Rattle.def_refused.specs.Ends.{is_first}
use Rattle.def_refused.proofs.Places.{Stage, may_at, Inner, in_unit, suits, misplaced_at, broken_at, stands_at, next_at, accepted}

abbrev pub open_of : Part → Open
open_of (of_loop None r s) = to_end
open_of (of_loop (Some l) r s) = to_label l
open_of (of_while c) = to_end
open_of (of_if c) = first_part
open_of (of_else c first) = other_part
open_of (of_chain c first) = chained

abbrev pub opens : List Block → List Open
opens [] = []
opens (b ∷ bs) = open_of b.part ∷ opens bs

abbrev pub place_of : Option Current → Option Inner
place_of None = None
place_of (Some c) = in_unit (record { bare = is_bare c.phase; early = is_early c.phase; left = is_left c.phase }) (opens c.nest.blocks)

abbrev stage_of : Current → Stage
stage_of c = record { bare = is_bare c.phase; early = is_early c.phase; left = is_left c.phase }

order_same : (kind : Kind) (c : Current) → may_at kind (stage_of c) ≡ may_follow kind c.phase
order_same Subroutine c = refl
order_same ImplicitNone c = refl
order_same Integer c = refl
order_same Common c = refl
order_same End c = refl
order_same kind c = refl

-- tests of one block
end_same : (p : Part) → is_to_end (open_of p) ≡ has_no_label p
end_same (of_loop None r s) = refl
end_same (of_loop (Some l) r s) = refl
end_same (of_while c) = refl
end_same (of_if c) = refl
end_same (of_else c first) = refl
end_same (of_chain c first) = refl

label_same : (p : Part) → has_label (open_of p) ≡ order.has_label p
label_same (of_loop None r s) = refl
label_same (of_loop (Some l) r s) = refl
label_same (of_while c) = refl
label_same (of_if c) = refl
label_same (of_else c first) = refl
label_same (of_chain c first) = refl

first_same : (p : Part) → is_first (open_of p) ≡ order.is_first p
first_same (of_loop None r s) = refl
first_same (of_loop (Some l) r s) = refl
first_same (of_while c) = refl
first_same (of_if c) = refl
first_same (of_else c first) = refl
first_same (of_chain c first) = refl

part_same : (p : Part) → is_part (open_of p) ≡ is_if p
part_same (of_loop None r s) = refl
part_same (of_loop (Some l) r s) = refl
part_same (of_while c) = refl
part_same (of_if c) = refl
part_same (of_else c first) = refl
part_same (of_chain c first) = refl

chain_same : (p : Part) → is_chained (open_of p) ≡ is_chain p
chain_same (of_loop None r s) = refl
chain_same (of_loop (Some l) r s) = refl
chain_same (of_while c) = refl
chain_same (of_if c) = refl
chain_same (of_else c first) = refl
chain_same (of_chain c first) = refl

labelled_same : (l : ℕ) (p : Part) → ends_at l (open_of p) ≡ is_labelled l p
labelled_same l (of_loop None r s) = refl
labelled_same l (of_loop (Some k) r s) = refl
labelled_same l (of_while c) = refl
labelled_same l (of_if c) = refl
labelled_same l (of_else c first) = refl
labelled_same l (of_chain c first) = refl

innermost_same : (is : Open → Bool) (is_such : Part → Bool) → ((p : Part) → is (open_of p) ≡ is_such p) → (bs : List Block) → is_innermost is (opens bs) ≡ innermost_is is_such bs
innermost_same is is_such h [] = refl
innermost_same is is_such h (b ∷ bs) = h b.part

some_same : (is : Open → Bool) (is_such : Part → Bool) → ((p : Part) → is (open_of p) ≡ is_such p) → (bs : List Block) → list_any is (opens bs) ≡ some_is is_such bs
some_same is is_such h [] = refl
some_same is is_such h (b ∷ bs) = rw (h b.part, some_same is is_such h bs) refl

awaits_same : (bs : List Block) → awaits_else (opens bs) ≡ order.awaits_else bs
awaits_same [] = refl
awaits_same (b ∷ bs) = by b.part (awaits_same bs)
  where
    by : (p : Part) → awaits_else (opens bs) ≡ order.awaits_else bs → awaits_else (open_of p ∷ opens bs) ≡ (order.is_first p || (not (is_second p) && order.awaits_else bs))
    by (of_loop None r s) h = h
    by (of_loop (Some l) r s) h = h
    by (of_while c) h = h
    by (of_if c) h = refl
    by (of_else c first) h = refl
    by (of_chain c first) h = h

pub length_same : (bs : List Block) → length (opens bs) ≡ length bs
length_same [] = refl
length_same (b ∷ bs) = ap suc (length_same bs)

suits_same : (kind : Kind) (bs : List Block) → suits kind (opens bs) ≡ order.suits kind bs
suits_same Return bs = ap (λ n. n == 0) (length_same bs)
suits_same End bs = ap (λ n. n == 0) (length_same bs)
suits_same EndDo bs = innermost_same is_to_end has_no_label end_same bs
suits_same EndIf bs = innermost_same is_part is_if part_same bs
suits_same Else bs = innermost_same is_first order.is_first first_same bs
suits_same ElseIf bs = innermost_same is_first order.is_first first_same bs
suits_same kind bs = refl

reaches_same : (kind : Kind) (bs : List Block) → closes kind (opens bs) ≡ reaches_out kind bs
reaches_same End bs = refl
reaches_same EndDo bs = some_same is_to_end has_no_label end_same bs
reaches_same EndIf bs = some_same is_part is_if part_same bs
reaches_same Else bs = awaits_same bs
reaches_same ElseIf bs = awaits_same bs
reaches_same kind bs = refl

leaves_same : (kind : Kind) (bs : List Block) → leaves_loop kind (opens bs) ≡ order.leaves_loop kind bs
leaves_same kind bs = rw (innermost_same has_label order.has_label label_same bs, reaches_same kind bs) refl

misses_same : (kind : Kind) (l : ℕ) (bs : List Block) → misses_loop kind l (opens bs) ≡ (some_is (is_labelled l) bs && not (order.is_continue kind && innermost_is (is_labelled l) bs))
misses_same kind l bs = rw (some_same (ends_at l) (is_labelled l) (labelled_same l) bs, innermost_same (ends_at l) (is_labelled l) (labelled_same l) bs) (ap (λ b. some_is (is_labelled l) bs && not (b && innermost_is (is_labelled l) bs)) (continue_same kind))
  where
    continue_same : (kind : Kind) → opened.is_continue kind ≡ order.is_continue kind
    continue_same Continue = refl
    continue_same kind = refl

pub misplaced_same : (kind : Kind) (c : Option Current) → misplaced_at kind (place_of c) ≡ is_misplaced kind c
misplaced_same kind None = refl
misplaced_same kind (Some c) = rw (order_same kind c, suits_same kind c.nest.blocks, leaves_same kind c.nest.blocks) refl

pub broken_same : (kind : Kind) (l : ℕ) (c : Option Current) → broken_at kind l (place_of c) ≡ breaks_loop kind l (open_blocks c)
broken_same kind l None = rw (leaves_same kind [], misses_same kind l []) refl
broken_same kind l (Some c) = rw (leaves_same kind c.nest.blocks, misses_same kind l c.nest.blocks) refl

pub stands_same : (kind : Kind) (l : ℕ) (c : Option Current) → stands_at kind l (place_of c) ≡ stands kind l c
stands_same kind l c = rw (misplaced_same kind c, broken_same kind l c) refl

-- the blocks behind a statement
closed_same : (is : Open → Bool) (is_such : Part → Bool) → ((p : Part) → is (open_of p) ≡ is_such p) → (bs : List Block) (acts : Acts) → opens (close_while is_such bs acts).blocks ≡ closed is (opens bs)
closed_same is is_such h [] acts = refl
closed_same is is_such h (b ∷ bs) acts = rw (h b.part) (by (is_such b.part) (closed_same is is_such h bs (ended b acts)))
  where
    by : (t : Bool) → opens (close_while is_such bs (ended b acts)).blocks ≡ closed is (opens bs) → opens (cond t (close_while is_such bs (ended b acts)) (record { blocks = b ∷ bs; acts = acts })).blocks ≡ cond t (closed is (opens bs)) (opens (b ∷ bs))
    by true r = r
    by false r = refl

close_same : (bs : List Block) (acts : Acts) → opens (close bs acts).blocks ≡ outer (opens bs)
close_same [] acts = refl
close_same (b ∷ bs) acts = refl

turn_same : (make : Test → Code → Part) (o : Open) → ((c : Test) (k : Code) → open_of (make c k) ≡ o) → (bs : List Block) (acts : Acts) → opens (turn make bs acts).blocks ≡ opened.turned o (opens bs)
turn_same make o h [] acts = refl
turn_same make o h (b ∷ bs) acts = by b.part
  where
    by : (p : Part) → (open_of (turned make p acts) ∷ opens bs) ≡ opened.turned o (open_of p ∷ opens bs)
    by (of_loop None r s) = refl
    by (of_loop (Some l) r s) = refl
    by (of_while c) = refl
    by (of_if c) = ap (λ p. p ∷ opens bs) (h c _)
    by (of_else c first) = refl
    by (of_chain c first) = refl

acted_same : (nest : Nest) (n l : ℕ) (f : Form) → opens (acted nest n l f).blocks ≡ behind l f (opens nest.blocks)
acted_same nest n l (opens_do None r s) = refl
acted_same nest n l (opens_do (Some k) r s) = refl
acted_same nest n l (opens_while c) = refl
acted_same nest n l end_do = close_same nest.blocks nest.acts
acted_same nest n l go_on = closed_same (ends_at l) (is_labelled l) (labelled_same l) nest.blocks nest.acts
acted_same nest n l (opens_if c) = refl
acted_same nest n l otherwise = turn_same of_else other_part (λ c k. refl) nest.blocks nest.acts
acted_same nest n l (otherwise_if c) = ap (λ os. first_part ∷ os) (turn_same of_chain chained (λ c k. refl) nest.blocks nest.acts)
acted_same nest n l end_if = closed_same is_chained is_chain chain_same (close nest.blocks nest.acts).blocks (close nest.blocks nest.acts).acts ∙ ap (closed is_chained) (close_same nest.blocks nest.acts)
acted_same nest n l f = refl

pub next_same : (done : List Shared) (c : Option Current) (n l : ℕ) (f : Form) → place_of (followed done c n l f).current ≡ next_at l f (place_of c)
next_same done None n l (subroutine x ds) = refl
next_same done None n l f = refl
next_same done (Some c) n l ends = refl
next_same done (Some c) n l implicit_none = refl
next_same done (Some c) n l (integers is) = refl
next_same done (Some c) n l (common b is) = refl
next_same done (Some c) n l leaves = refl
next_same done (Some c) n l f = ap (in_unit _) (acted_same c.nest n l f)

-- ---- what the machine answers

pub run_accepted : (ts : List Statement) (u : Units) (ps : List Shared) → run u ts ≡ Some ps → accepted (place_of u.current) ts ≡ true
unfolding run
run_accepted [] u ps h = none u.current h
  where
    none : (c : Option Current) → units_of u.done c ≡ Some ps → is_none (place_of c) ≡ true
    none None h = refl
    none (Some c) h = absurd cc
run_accepted (at n l f ∷ ts) u ps h =
    let step = picked (stands (kind_of f) l u.current) (run (followed u.done u.current n l f) ts) h in
    rw (stands_same (kind_of f) l u.current, step.0, sym (next_same u.done u.current n l f)) (run_accepted ts (followed u.done u.current n l f) ps step.1)

both : (a b : Bool) → (a && b) ≡ true → (a ≡ true) × (b ≡ true)
both true b h = (refl, h)
both false b h = absurd cc

pub accepted_runs : (ts : List Statement) (u : Units) → accepted (place_of u.current) ts ≡ true → (ps : List Shared) × (run u ts ≡ Some ps)
unfolding run
accepted_runs [] u h = none u.current h
  where
    none : (c : Option Current) → is_none (place_of c) ≡ true → (ps : List Shared) × (units_of u.done c ≡ Some ps)
    none None h = (u.done, refl)
    none (Some c) h = absurd cc
accepted_runs (at n l f ∷ ts) u h =
    let here = both (stands_at (kind_of f) l (place_of u.current)) (accepted (next_at l f (place_of u.current)) ts) h in
    let rest = accepted_runs ts (followed u.done u.current n l f) (ap (λ w. accepted w ts) (next_same u.done u.current n l f) ∙ here.1) in
    (rest.0, rw (sym (stands_same (kind_of f) l u.current) ∙ here.0) rest.1)

pub reads_accepted : (ts : List Statement) (ps : List Shared) → ReadsUnits ts ps → accepted None ts ≡ true
reads_accepted ts ps r = run_accepted ts nothing ps (units_run r)

pub accepted_reads : (ts : List Statement) → accepted None ts ≡ true → (ps : List Shared) × ReadsUnits ts ps
accepted_reads ts h = let r = accepted_runs ts nothing h in (r.0, run_reads ts r.0 r.1)
