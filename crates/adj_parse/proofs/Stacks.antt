-- The open blocks as the code holds them: after a push, and before a pop.
use Rattle.std.proofs.Common.{◌≡◌, ℕ, Bool, List, [], ◌∷◌, ◌++◌, ◌-◌, ◌+◌, ◌<◌, length, take, get_or, Option, Some, None, arith, sym, refl, ap, ◌∙◌}
use Rattle.std.proofs.lemmas.List.{map_push, reverse-append, length-reverse, length-map, append-nil, nil_from_length, take_all, take_more}
use Rattle.std.proofs.lemmas.Option.{slice_get_within, get_or_from_slice_get, slice_get-get_or}
use Rattle.std.proofs.lemmas.List.Sorted.{IsPermutation-reverse, list_any-IsPermutation}
use Rattle.std.specs.List.{list_any}
use Rattle.std.specs.Prelude.{map, reverse, slice_get, ◌||◌}
use Rattle.adj_tree.specs.Listed.{statement_of, code_listed}
use Rattle.adj_tree.specs.declared.stmt.Stmt.{Stmt}
use Rattle.adj_parse.specs.Blocks as blocks
use Rattle.adj_parse.specs.Blocks.{Acts, of_loop, of_while, of_if, of_else, of_chain, turned}
use Rattle.adj_parse.specs.Order.{innermost_is, some_is}
use Rattle.adj_parse.specs.NestView.{part_of, block_of, blocks_of, other_part, turn_of}
use Rattle.adj_parse.specs.declared.block.Block.{Block}
use Rattle.adj_parse.specs.declared.block.Turn.{Turn}

pub blocks_push : (items : List Block) (block : Block) → blocks_of (items ++ block ∷ []) ≡ block_of block ∷ blocks_of items
unfolding blocks_of
blocks_push items block = ap reverse (map_push block_of items block) ∙ reverse-append (map block_of items) (block_of block ∷ [])

pub blocks_pop : (items rest : List Block) (block : Block) → items ≡ rest ++ block ∷ [] → blocks_of items ≡ block_of block ∷ blocks_of rest
blocks_pop items rest block e = ap blocks_of e ∙ blocks_push rest block

pub blocks_nil : (items : List Block) → length items ≡ 0 → blocks_of items ≡ []
unfolding blocks_of
blocks_nil items n = let none = nil_from_length items n in rw none refl

pub blocks_last : (items : List Block) (block : Block) → slice_get items (length items - 1) ≡ Some block → blocks_of items ≡ block_of block ∷ blocks_of (take (length items - 1) items)
blocks_last items block e =
    let within = slice_get_within items (length items - 1) block e in
    let n = length items - 1 in
    let all : take (n + 1) items ≡ items = take_all (n + 1) items (omega arith) in
    let last : get_or items n block ≡ block = get_or_from_slice_get items n block block e in
    blocks_pop items (take n items) block (sym all ∙ take_more items n block within ∙ ap (λ f. take n items ++ f ∷ []) last)

pub blocks_no_last : (items : List Block) → slice_get items (length items - 1) ≡ None → blocks_of items ≡ []
blocks_no_last [] e = blocks_nil [] refl
blocks_no_last (block ∷ items) e =
    let n = length items in
    let within : n < length (block ∷ items) = omega arith in
    let found = slice_get-get_or (block ∷ items) n block within in
    let k : length (block ∷ items) - 1 ≡ n = omega arith in
    let same = ap (slice_get (block ∷ items)) k in
    cc (e, found, same)

-- the innermost block is the last
pub innermost_last : (is_such : blocks.Part → Bool) (items : List Block) (block : Block) → Some block ≡ slice_get items (length items - 1) → innermost_is is_such (blocks_of items) ≡ is_such (part_of block.part)
innermost_last is_such items block e = ap (innermost_is is_such) (blocks_last items block (sym e))

list_any-map : {X Y : Type 0} (p : Y → Bool) (f : X → Y) (xs : List X) → list_any p (map f xs) ≡ list_any (λ x. p (f x)) xs
list_any-map p f [] = refl
list_any-map p f (x ∷ xs) = ap (λ b. p (f x) || b) (list_any-map p f xs)

-- some block is such, in whichever order
pub some_block : (is_such : blocks.Part → Bool) (items : List Block) → some_is is_such (blocks_of items) ≡ list_any (λ (b : Block). is_such (part_of b.part)) items
unfolding blocks_of
some_block is_such items =
    let p : blocks.Block → Bool = λ (b : blocks.Block). is_such b.part in
    sym (list_any-IsPermutation p (map block_of items) (reverse (map block_of items)) (IsPermutation-reverse (map block_of items))) ∙ list_any-map p block_of items

-- the other part of an IF, from the statements of the first
pub turned_other : (turn : Turn) (part : blocks.Part) (acts : Acts) → turned (turn_of turn) part acts ≡ other_part turn part (code_listed acts)
turned_other turn (of_loop l r s) acts = refl
turned_other turn (of_while c) acts = refl
turned_other turn (of_if c) acts = refl
turned_other turn (of_else c first) acts = refl
turned_other turn (of_chain c first) acts = refl

pub acts_push : (items : List Stmt) (s : Stmt) → map statement_of (items ++ s ∷ []) ≡ map statement_of items ++ statement_of s ∷ []
acts_push items s = map_push statement_of items s

pub blocks_length : (items : List Block) → length (blocks_of items) ≡ length items
unfolding blocks_of
blocks_length items = length-reverse (map block_of items) ∙ length-map items block_of

pub ruleset stacks = (blocks_push, blocks_pop, blocks_nil, append-nil, blocks_last, blocks_no_last, turned_other, acts_push, blocks_length, some_block)
