-- How deep statements are nested, of which some stand in blocks that are open.
use Rattle.std.proofs.Common.{◌≡◌, ◌≤◌, ℕ, ◌+◌, max, Bool, true, false, List, [], ◌∷◌, ◌++◌, length, refl, ap, ◌∙◌, arith}
use Rattle.std.specs.Prelude.{if◌then◌else◌}
use Rattle.adj_tree.specs.Code.{Test, Act, Code, choose, stop, step}
use Rattle.adj_tree.specs.Size.{act_depth, code_depth}
use Rattle.adj_tree.specs.Listed.{code_listed}
use Rattle.def_text.specs.Form.{Form, subroutine, implicit_none, integers, common, simple, logical, opens_do, opens_while, end_do, go_on, opens_if, otherwise, otherwise_if, end_if, leaves, ends}
use Rattle.adj_parse.specs.Blocks.{Acts, Part, of_loop, of_while, of_if, of_else, of_chain, Block, Nest, whole, ended, close, close_while, begin, turned, turn, acted, is_chain, is_labelled}
use Rattle.adj_parse.specs.Order.{is_first, innermost_is, suits}
use Rattle.adj_parse.proofs.Machine.{kind_of}

abbrev pub acts_depth : Acts → ℕ
acts_depth [] = 0
acts_depth (x ∷ xs) = max (act_depth x.1) (acts_depth xs)

pub listed_depth : (xs : Acts) → code_depth (code_listed xs) ≡ acts_depth xs
listed_depth [] = refl
listed_depth (x ∷ xs) = ap (max (act_depth x.1)) (listed_depth xs)

pushed_depth : (xs : Acts) (n : ℕ) (a : Act) → acts_depth (xs ++ (n, a) ∷ []) ≡ max (acts_depth xs) (act_depth a)
pushed_depth [] n a = omega arith
pushed_depth (x ∷ xs) n a = let rest = pushed_depth xs n a in omega arith

-- the first part of an IF, where another is being read
abbrev part_depth : Part → ℕ
part_depth (of_loop l r m) = 0
part_depth (of_while c) = 0
part_depth (of_if c) = 0
part_depth (of_else c first) = code_depth first
part_depth (of_chain c first) = code_depth first

whole_depth : (p : Part) (k : Code) → act_depth (whole p k) ≡ max (part_depth p) (code_depth k) + 1
whole_depth (of_loop l r m) k = omega arith
whole_depth (of_while c) k = omega arith
whole_depth (of_if c) k = omega arith
whole_depth (of_else c first) k = refl
whole_depth (of_chain c first) k = refl

-- what stands in the innermost block is so deep: then the whole is so deep
abbrev pub high : List Block → ℕ → ℕ
high [] d = d
high (b ∷ bs) d = high bs (max (acts_depth b.before) (max (part_depth b.part) d + 1))

abbrev pub height : Nest → ℕ
height nest = high nest.blocks (acts_depth nest.acts)

pub high_is : (bs : List Block) (d : ℕ) → high bs d ≡ max (high bs 0) (length bs + d)
high_is [] d = omega arith
high_is (b ∷ bs) d =
    let here = high_is bs (max (acts_depth b.before) (max (part_depth b.part) d + 1)) in
    let there = high_is bs (max (acts_depth b.before) (max (part_depth b.part) 0 + 1)) in
    omega arith

-- the open blocks count
pub open_below : (nest : Nest) → length nest.blocks ≤ height nest
open_below nest = let h = high_is nest.blocks (acts_depth nest.acts) in omega arith

ended_depth : (b : Block) (xs : Acts) → acts_depth (ended b xs) ≡ max (acts_depth b.before) (max (part_depth b.part) (acts_depth xs) + 1)
ended_depth b xs = pushed_depth b.before b.line (whole b.part (code_listed xs)) ∙ ap (max (acts_depth b.before)) (whole_depth b.part (code_listed xs) ∙ ap (λ k. max (part_depth b.part) k + 1) (listed_depth xs))

close_height : (bs : List Block) (xs : Acts) → height (close bs xs) ≡ high bs (acts_depth xs)
close_height [] xs = refl
close_height (b ∷ bs) xs = ap (high bs) (ended_depth b xs)

close_while-height : (is_such : Part → Bool) (bs : List Block) (xs : Acts) → height (close_while is_such bs xs) ≡ high bs (acts_depth xs)
close_while-height is_such [] xs = refl
close_while-height is_such (b ∷ bs) xs =
    elim (is_such b.part) as (λ t. height (if t then close_while is_such bs (ended b xs) else record { blocks = b ∷ bs; acts = xs }) ≡ high (b ∷ bs) (acts_depth xs)) [
      | true ↦ close_while-height is_such bs (ended b xs) ∙ ap (high bs) (ended_depth b xs)
      | false ↦ refl
    ]

-- a part that begins keeps what stands before it
abbrev Keeps : (Test → Code → Part) → Type 0
Keeps make = (c : Test) (k : Code) → part_depth (make c k) ≡ code_depth k

turned_depth : (make : Test → Code → Part) → Keeps make → (p : Part) (xs : Acts) → is_first p ≡ true → max (part_depth (turned make p xs)) 0 ≡ max (part_depth p) (acts_depth xs)
turned_depth make h (of_if c) xs e = let q = h c (code_listed xs) in let r = listed_depth xs in omega arith
turned_depth make h (of_loop l r m) xs e = absurd cc
turned_depth make h (of_while c) xs e = absurd cc
turned_depth make h (of_else c first) xs e = absurd cc
turned_depth make h (of_chain c first) xs e = absurd cc

turn_height : (make : Test → Code → Part) → Keeps make → (bs : List Block) (xs : Acts) → innermost_is is_first bs ≡ true → height (turn make bs xs) ≡ high bs (acts_depth xs)
turn_height make h [] xs e = absurd cc
turn_height make h (b ∷ bs) xs e = ap (λ k. high bs (max (acts_depth b.before) (k + 1))) (turned_depth make h b.part xs e)

turn_length : (make : Test → Code → Part) (bs : List Block) (xs : Acts) → length (turn make bs xs).blocks ≡ length bs
turn_length make [] xs = refl
turn_length make (b ∷ bs) xs = refl

-- how deep a statement is by itself
abbrev pub opening : Form → ℕ
opening (simple a) = act_depth a
opening (logical c a) = act_depth a + 1
opening (opens_do l r m) = 1
opening (opens_while c) = 1
opening (opens_if c) = 1
opening (otherwise_if c) = 1
opening (subroutine x dummies) = 0
opening implicit_none = 0
opening (integers is) = 0
opening (common b is) = 0
opening end_do = 0
opening go_on = 0
opening otherwise = 0
opening end_if = 0
opening leaves = 0
opening ends = 0

-- an act behind those of the innermost block
added : (bs : List Block) (xs : Acts) (n : ℕ) (a : Act) (k : ℕ) → act_depth a ≡ k → high bs (acts_depth (xs ++ (n, a) ∷ [])) ≡ max (high bs (acts_depth xs)) (length bs + k)
added bs xs n a k e =
    let p = pushed_depth xs n a in
    let here = high_is bs (acts_depth (xs ++ (n, a) ∷ [])) in
    let there = high_is bs (acts_depth xs) in
    omega arith

begun_height : (nest : Nest) (n : ℕ) (p : Part) → part_depth p ≡ 0 → height (begin nest n p) ≡ max (height nest) (length nest.blocks + 1)
begun_height nest n p e =
    let here = high_is nest.blocks (max (acts_depth nest.acts) (max (part_depth p) 0 + 1)) in
    let there = high_is nest.blocks (acts_depth nest.acts) in
    omega arith

no_more : (bs : List Block) (d : ℕ) → high bs d ≡ max (high bs d) (length bs + 0)
no_more bs d = let h = high_is bs d in omega arith

-- a statement that stands rightly makes the whole as deep as it is where it stands, or leaves it as it was
pub acted_height : (nest : Nest) (n l : ℕ) (f : Form) → suits (kind_of f) nest.blocks ≡ true → height (acted nest n l f) ≡ max (height nest) (length nest.blocks + opening f)
acted_height nest n l (simple a) h = added nest.blocks nest.acts n a (act_depth a) refl
acted_height nest n l (logical c a) h = added nest.blocks nest.acts n (choose c (step n a stop) stop) (act_depth a + 1) (omega arith)
acted_height nest n l (opens_do k r m) h = begun_height nest n (of_loop k r m) refl
acted_height nest n l (opens_while c) h = begun_height nest n (of_while c) refl
acted_height nest n l (opens_if c) h = begun_height nest n (of_if c) refl
acted_height nest n l end_do h = close_height nest.blocks nest.acts ∙ no_more nest.blocks (acts_depth nest.acts)
acted_height nest n l go_on h = close_while-height (is_labelled l) nest.blocks nest.acts ∙ no_more nest.blocks (acts_depth nest.acts)
acted_height nest n l otherwise h = turn_height of_else (λ c k. refl) nest.blocks nest.acts h ∙ no_more nest.blocks (acts_depth nest.acts)
acted_height nest n l (otherwise_if c) h =
    let inner = turn of_chain nest.blocks nest.acts in
    let a = begun_height inner n (of_if c) refl in
    let b = turn_height of_chain (λ c k. refl) nest.blocks nest.acts h in
    let e = turn_length of_chain nest.blocks nest.acts in
    a ∙ omega arith
acted_height nest n l end_if h =
    let rest = close nest.blocks nest.acts in
    close_while-height is_chain rest.blocks rest.acts ∙ close_height nest.blocks nest.acts ∙ no_more nest.blocks (acts_depth nest.acts)
acted_height nest n l (subroutine x dummies) h = no_more nest.blocks (acts_depth nest.acts)
acted_height nest n l implicit_none h = no_more nest.blocks (acts_depth nest.acts)
acted_height nest n l (integers is) h = no_more nest.blocks (acts_depth nest.acts)
acted_height nest n l (common b is) h = no_more nest.blocks (acts_depth nest.acts)
acted_height nest n l leaves h = no_more nest.blocks (acts_depth nest.acts)
acted_height nest n l ends h = no_more nest.blocks (acts_depth nest.acts)
