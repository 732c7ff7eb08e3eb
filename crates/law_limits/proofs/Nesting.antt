-- The blocks that are open while statements are read are no more than the units are deep that are read.
use Rattle.std.proofs.Common.{◌≡◌, ◌≤◌, ◌<◌, ℕ, ◌+◌, max, Bool, true, false, List, [], ◌∷◌, ◌++◌, length, Option, Some, None, refl, sym, subst, ◌∙◌, arith}
use Rattle.std.specs.Prelude.{◌&&◌, ◌||◌, ◌==◌, not, nat_le}
use Rattle.std.proofs.lemmas.Bool.{eqb-true, lt-leb}
use Rattle.adj_tree.specs.Common.{Shared}
use Rattle.adj_tree.specs.Size.{code_depth, IsNested}
use Rattle.def_text.specs.Form.{Form, subroutine, implicit_none, integers, common, simple, logical, opens_do, opens_while, end_do, go_on, opens_if, otherwise, otherwise_if, end_if, leaves, ends, Statement, at}
use Rattle.def_text.specs.declared.stated.Kind.{Kind}
use Rattle.def_text.specs.declared.stated.Kind.TheVariants.{End}
use Rattle.adj_parse.specs.Blocks.{Block}
use Rattle.adj_parse.specs.Order.{may_follow, suits, leaves_loop, opens_block}
use Rattle.adj_parse.specs.Unit.{Current, Units, finished, continued, followed, open_blocks}
use Rattle.adj_parse.proofs.Machine.{kind_of, stands, units_of, run, picked}
use Rattle.law_limits.proofs.Keeping.{units_in}
use Rattle.law_limits.proofs.Heights.{acts_depth, listed_depth, high, height, open_below, opening, acted_height}

-- of the unit that is being read
abbrev pub tall : Option Current → ℕ
tall None = 0
tall (Some c) = height c.nest

suit : (m s v r : Bool) → (not (not (m && (s || v))) && not (v || r)) ≡ true → s ≡ true
suit false s v r h = absurd cc
suit true true v r h = refl
suit true false true r h = absurd cc
suit true false false r h = absurd cc

-- a statement that stands rightly in a unit suits its blocks
pub stands_suits : (kind : Kind) (l : ℕ) (c : Current) → stands kind l (Some c) ≡ true → suits kind c.nest.blocks ≡ true
stands_suits kind l c h = suit (may_follow kind c.phase) (suits kind c.nest.blocks) (leaves_loop kind c.nest.blocks) _ h

same_height : (c : Current) → height c.nest ≡ max (height c.nest) (length c.nest.blocks + 0)
same_height c = let h = open_below c.nest in omega arith

pub continued_height : (c : Current) (n l : ℕ) (f : Form) → suits (kind_of f) c.nest.blocks ≡ true → height (continued c n l f).nest ≡ max (height c.nest) (length c.nest.blocks + opening f)
continued_height c n l implicit_none h = same_height c
continued_height c n l (integers is) h = same_height c
continued_height c n l (common b is) h = same_height c
continued_height c n l leaves h = same_height c
continued_height c n l (subroutine x dummies) h = acted_height c.nest n l (subroutine x dummies) h
continued_height c n l (simple a) h = acted_height c.nest n l (simple a) h
continued_height c n l (logical t a) h = acted_height c.nest n l (logical t a) h
continued_height c n l (opens_do k r m) h = acted_height c.nest n l (opens_do k r m) h
continued_height c n l (opens_while t) h = acted_height c.nest n l (opens_while t) h
continued_height c n l end_do h = acted_height c.nest n l end_do h
continued_height c n l go_on h = acted_height c.nest n l go_on h
continued_height c n l (opens_if t) h = acted_height c.nest n l (opens_if t) h
continued_height c n l otherwise h = acted_height c.nest n l otherwise h
continued_height c n l (otherwise_if t) h = acted_height c.nest n l (otherwise_if t) h
continued_height c n l end_if h = acted_height c.nest n l end_if h
continued_height c n l ends h = acted_height c.nest n l ends h

-- the unit at its END is as deep as its blocks were
no_blocks_high : (bs : List Block) (d : ℕ) → (length bs == 0) ≡ true → high bs d ≡ d
no_blocks_high [] d h = refl
no_blocks_high (b ∷ bs) d h = let z : length (b ∷ bs) ≡ 0 = eqb-true (length (b ∷ bs)) 0 h in absurd (omega arith)

pub finished_depth : (c : Current) → suits End c.nest.blocks ≡ true → code_depth (finished c).unit.body ≡ height c.nest
finished_depth c h = listed_depth c.nest.acts ∙ sym (no_blocks_high c.nest.blocks (acts_depth c.nest.acts) h)

pub nested_front : (n : ℕ) (ps : List Shared) (p : Shared) → IsNested n (units_in (ps ++ p ∷ [])) → IsNested n (units_in ps) × (code_depth p.unit.body ≤ n)
nested_front n [] p h = (tt, h.0)
nested_front n (q ∷ ps) p h = let r = nested_front n ps p h.1 in ((h.0, r.0), r.1)

pub nested_behind : (n : ℕ) (ps : List Shared) (p : Shared) → IsNested n (units_in ps) → code_depth p.unit.body ≤ n → IsNested n (units_in (ps ++ p ∷ []))
nested_behind n [] p h g = (g, tt)
nested_behind n (q ∷ ps) p h g = (h.0, nested_behind n ps p h.1 g)

abbrev pub IsTall : ℕ → Units → Type 0
IsTall n u = IsNested n (units_in u.done) × (tall u.current ≤ n)

module _ (n : ℕ) where
  -- what is no deeper behind a statement was no deeper before it
  before : (done : List Shared) (current : Option Current) (m l : ℕ) (f : Form) → stands (kind_of f) l current ≡ true → IsTall n (followed done current m l f) → IsNested n (units_in done) × (tall current ≤ n)
  before done None m l (subroutine x dummies) s h = (h.0, omega arith)
  before done None m l f s h = (h.0, omega arith)
  before done (Some c) m l ends s h =
      let r = nested_front n done (finished c) h.0 in
      let e = finished_depth c (stands_suits End l c s) in
      let low : code_depth (finished c).unit.body ≤ n = r.1 in
      (r.0, subst (λ k. k ≤ n) e low)
  before done (Some c) m l f s h =
      let e = continued_height c m l f (stands_suits (kind_of f) l c s) in
      let low : height (continued c m l f).nest ≤ n = h.1 in
      (h.0, omega arith)

  at_end : (done : List Shared) (current : Option Current) (ps : List Shared) → units_of done current ≡ Some ps → IsNested n (units_in ps) → IsNested n (units_in done) × (tall current ≤ n)
  at_end done None ps h g = let q : ps ≡ done = cc in (subst (λ xs. IsNested n (units_in xs)) q g, omega arith)
  at_end done (Some c) ps h g = absurd cc

  pub run_nested : (ts : List Statement) (u : Units) (ps : List Shared) → run u ts ≡ Some ps → IsNested n (units_in ps) → IsTall n u
  unfolding run
  run_nested [] u ps h g = at_end u.done u.current ps h g
  run_nested (at m l f ∷ ts) u ps h g =
      let p = picked (stands (kind_of f) l u.current) (run (followed u.done u.current m l f) ts) h in
      before u.done u.current m l f p.0 (run_nested ts (followed u.done u.current m l f) ps p.1 g)

-- a statement that opens a block is at least one deep
pub opens_one : (f : Form) → opens_block (kind_of f) ≡ true → 1 ≤ opening f
opens_one (logical c a) h = omega arith
opens_one (opens_do k r m) h = omega arith
opens_one (opens_while c) h = omega arith
opens_one (opens_if c) h = omega arith
opens_one (otherwise_if c) h = omega arith
opens_one f h = absurd cc

open_room : (n : ℕ) (c : Current) (m l : ℕ) (f : Form) → suits (kind_of f) c.nest.blocks ≡ true → height (continued c m l f).nest ≤ n → opens_block (kind_of f) ≡ true → length c.nest.blocks < n
open_room n c m l f s h o = let e = continued_height c m l f s in let one = opens_one f o in omega arith

-- so where a statement opens a block, fewer are open
pub opens_below : (n : ℕ) → 0 < n → (done : List Shared) (current : Option Current) (m l : ℕ) (f : Form) → stands (kind_of f) l current ≡ true → IsTall n (followed done current m l f) → opens_block (kind_of f) ≡ true → length (open_blocks current) < n
opens_below n some done None m l f s h o = some
opens_below n some done (Some c) m l ends s h o = absurd cc
opens_below n some done (Some c) m l f s h o = open_room n c m l f (stands_suits (kind_of f) l c s) h.1 o

pub too_nested : (n : ℕ) → 0 < n → (done : List Shared) (current : Option Current) (m l : ℕ) (f : Form) → stands (kind_of f) l current ≡ true → IsTall n (followed done current m l f) → (opens_block (kind_of f) && nat_le n (length (open_blocks current))) ≡ false
too_nested n some done current m l f s h =
    elim (opens_block (kind_of f)) as (λ b. opens_block (kind_of f) ≡ b → (b && nat_le n (length (open_blocks current))) ≡ false) [
      | true ↦ λ o. lt-leb n (length (open_blocks current)) (opens_below n some done current m l f s h o)
      | false ↦ λ o. refl
    ] refl
