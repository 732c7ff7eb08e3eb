-- Statements that follow one another without any limit, and what their labels are to the open blocks.
use Rattle.std.proofs.Common.{◌≡◌, ℕ, Bool, true, false, cond, eqb, List, [], ◌∷◌, ◌++◌, Option, Some, None, refl, sym, ap}
use Rattle.std.specs.Prelude.{◌==◌, ◌&&◌, ◌||◌, not}
use Rattle.std.specs.List.{list_any}
use Rattle.std.proofs.lemmas.Bool.{ne_eqb, eqb-false}
use Rattle.adj_tree.specs.Code.{Test, Mark, Act, Code, stop, step}
use Rattle.adj_tree.specs.Common.{Shared}
use Rattle.adj_tree.specs.Listed.{code_onto, code_listed}
use Rattle.def_text.specs.Statement.{Range}
use Rattle.def_text.specs.Block.{is_open, innermost}
use Rattle.def_text.specs.Form.{Form, subroutine, implicit_none, integers, common, simple, logical, opens_do, opens_while, end_do, go_on, opens_if, otherwise, otherwise_if, end_if, leaves, ends, Statement, at}
use Rattle.def_text.specs.declared.stated.Kind.{Kind}
use Rattle.def_text.specs.declared.stated.Kind.TheVariants.{Do, BlockIf, LogicalIf, Assign, Continue, Return, End, EndIf, EndDo, Else, ImplicitNone, ElseIf, DoWhile, Subroutine, Integer, Common}
use Rattle.adj_parse.specs.Blocks.{Acts, Part, of_loop, of_while, of_if, of_else, of_chain, Block, is_chain, is_labelled, close_while}
use Rattle.adj_parse.specs.Order.{innermost_is, some_is, breaks_loop}
use Rattle.adj_parse.specs.Unit.{Current, Units, followed, open_blocks, is_misplaced}

-- the class of a statement that says this; a CALL stands where an assignment does
abbrev pub kind_of : Form → Kind
kind_of (subroutine x dummies) = Subroutine
kind_of implicit_none = ImplicitNone
kind_of (integers is) = Integer
kind_of (common b is) = Common
kind_of (simple a) = Assign
kind_of (logical c a) = LogicalIf
kind_of (opens_do l r n) = Do
kind_of (opens_while c) = DoWhile
kind_of end_do = EndDo
kind_of go_on = Continue
kind_of (opens_if c) = BlockIf
kind_of otherwise = Else
kind_of (otherwise_if c) = ElseIf
kind_of end_if = EndIf
kind_of leaves = Return
kind_of ends = End

-- whether a statement may follow
abbrev pub stands : Kind → ℕ → Option Current → Bool
stands kind l current = not (is_misplaced kind current) && not (breaks_loop kind l (open_blocks current))

abbrev pub units_of : List Shared → Option Current → Option (List Shared)
units_of done None = Some done
units_of done (Some c) = None

-- the units that statements are behind these
unfoldable pub run : Units → List Statement → Option (List Shared)
run u [] = units_of u.done u.current
run u (at n l f ∷ ts) = cond (stands (kind_of f) l u.current) (run (followed u.done u.current n l f) ts) None

-- a statement that let the machine go on
pub picked : {ps : List Shared} (b : Bool) (x : Option (List Shared)) → cond b x None ≡ Some ps → (b ≡ true) × (x ≡ Some ps)
picked true x h = (refl, h)
picked false x h = absurd cc

-- the labels of blocks as the grammar has them: the IFs of a chain of ELSE IFs are one block
abbrev pub labels_before : Part → List ℕ → List ℕ
labels_before (of_loop None r s) ls = 0 ∷ ls
labels_before (of_loop (Some l) r s) ls = l ∷ ls
labels_before (of_while c) ls = 0 ∷ ls
labels_before (of_if c) ls = 0 ∷ ls
labels_before (of_else c first) ls = 0 ∷ ls
labels_before (of_chain c first) ls = ls

abbrev pub labels : List Block → List ℕ
labels [] = []
labels (b ∷ bs) = labels_before b.part (labels bs)

-- a body stands directly in the innermost block
pub data IsBody : List Block → Type 0 where
  at_bottom : IsBody []
  in_loop : {n : ℕ} {s : Mark} {l : Option ℕ} {r : Range} {before : Acts} {bs : List Block} → IsBody (record { line = n; before = before; part = of_loop l r s } ∷ bs)
  in_while : {n : ℕ} {c : Test} {before : Acts} {bs : List Block} → IsBody (record { line = n; before = before; part = of_while c } ∷ bs)
  in_if : {n : ℕ} {c : Test} {before : Acts} {bs : List Block} → IsBody (record { line = n; before = before; part = of_if c } ∷ bs)
  in_else : {n : ℕ} {c : Test} {first : Code} {before : Acts} {bs : List Block} → IsBody (record { line = n; before = before; part = of_else c first } ∷ bs)

zero_other : (l : ℕ) → eqb l 0 ≡ false → eqb 0 l ≡ false
zero_other l h = ne_eqb 0 l (λ q. eqb-false l 0 h (sym q))

none_open : (b some any : Bool) → (not b && any) ≡ some → (e : Bool) → (b ≡ false → e ≡ false) → (not b && (e || any)) ≡ some
none_open true some any h e f = h
none_open false some any h e f = rw (f refl) h

one_open : (b some any : Bool) → (not b && any) ≡ some → (e : Bool) → (not b && (e || any)) ≡ ((not b && e) || some)
one_open true some any h e = h
one_open false some any h e = rw h refl

open_step : (part : Part) (l : ℕ) (ls : List ℕ) (some : Bool) → is_open ls l ≡ some → is_open (labels_before part ls) l ≡ (is_labelled l part || some)
open_step (of_loop None r s) l ls some h = none_open (eqb l 0) some (list_any (λ k. k == l) ls) h (0 == l) (zero_other l)
open_step (of_loop (Some k) r s) l ls some h = one_open (eqb l 0) some (list_any (λ k. k == l) ls) h (k == l)
open_step (of_while c) l ls some h = none_open (eqb l 0) some (list_any (λ k. k == l) ls) h (0 == l) (zero_other l)
open_step (of_if c) l ls some h = none_open (eqb l 0) some (list_any (λ k. k == l) ls) h (0 == l) (zero_other l)
open_step (of_else c first) l ls some h = none_open (eqb l 0) some (list_any (λ k. k == l) ls) h (0 == l) (zero_other l)
open_step (of_chain c first) l ls some h = h

no_label : (b : Bool) → (not b && false) ≡ false
no_label true = refl
no_label false = refl

-- a label is open in the grammar where it is in some block
pub is_open_some : (bs : List Block) (l : ℕ) → is_open (labels bs) l ≡ some_is (is_labelled l) bs
is_open_some [] l = no_label (eqb l 0)
is_open_some (b ∷ bs) l = open_step b.part l (labels bs) (some_is (is_labelled l) bs) (is_open_some bs l)

unlabelled_is : (l : ℕ) (b : Bool) → eqb l 0 ≡ b → false ≡ (not b && (0 == l))
unlabelled_is l true h = refl
unlabelled_is l false h = sym (zero_other l h)

-- a label is that of the innermost block
pub innermost_labelled : {bs : List Block} (l : ℕ) → IsBody bs → innermost_is (is_labelled l) bs ≡ (not (l == 0) && innermost (labels bs) == l)
innermost_labelled l at_bottom = unlabelled_is l (eqb l 0) refl
innermost_labelled l (in_loop {l = Some k}) = refl
innermost_labelled l (in_loop {l = None}) = unlabelled_is l (eqb l 0) refl
innermost_labelled l in_while = unlabelled_is l (eqb l 0) refl
innermost_labelled l in_if = unlabelled_is l (eqb l 0) refl
innermost_labelled l in_else = unlabelled_is l (eqb l 0) refl

pub close_while-other : (is_such : Part → Bool) (bs : List Block) (acts : Acts) → innermost_is is_such bs ≡ false → close_while is_such bs acts ≡ record { blocks = bs; acts = acts }
close_while-other is_such [] acts h = refl
close_while-other is_such (b ∷ bs) acts h = rw h refl

pub no_chain : {bs : List Block} → IsBody bs → innermost_is is_chain bs ≡ false
no_chain at_bottom = refl
no_chain in_loop = refl
no_chain in_while = refl
no_chain in_if = refl
no_chain in_else = refl

-- the statements of a linked list
abbrev pub acts_of : Code → Acts
acts_of stop = []
acts_of (step n a rest) = (n, a) ∷ acts_of rest

pub listed_back : (k : Code) → code_listed (acts_of k) ≡ k
listed_back stop = refl
listed_back (step n a rest) = ap (step n a) (listed_back rest)

-- the last of some statements comes directly before the others
pub onto_last : (xs : Acts) (n : ℕ) (a : Act) (others : Code) → code_onto (xs ++ (n, a) ∷ []) others ≡ code_onto xs (step n a others)
onto_last [] n a others = refl
onto_last (x ∷ xs) n a others = ap (step x.0 x.1) (onto_last xs n a others)
