-- StackLemmas: a stack after a push, and before a pop.
use Rattle.std.proofs.Common.{◌≡◌, List, [], ◌∷◌, ◌++◌, ◌-◌, ◌+◌, ◌<◌, length, take, get_or, Option, Some, None, arith, sym, refl, ap, ◌∙◌}
use Rattle.std.proofs.lemmas.List.{map_push, reverse-append, append-nil, nil_from_length, take_all, take_more}
use Rattle.std.proofs.lemmas.Option.{slice_get_within, get_or_from_slice_get, slice_get-get_or}
use Rattle.std.specs.Prelude.{map, reverse, slice_get}
use Rattle.def_text.specs.Machine.{whole}
use Rattle.adj_parse_expression.specs.declared.frame.Frame.{Frame}
use Rattle.adj_parse_expression.specs.Partial.{Partial}
use Rattle.adj_parse_expression.specs.Stack.{stacked, frame_of, stack_of}

pub stacked-push : {A B : Type 0} (view : A → B) (items : List A) (item : A) → stacked view (items ++ item ∷ []) ≡ view item ∷ stacked view items
unfolding stacked
stacked-push view items item = ap reverse (map_push view items item) ∙ reverse-append (map view items) (view item ∷ [])

pub stacked-pop : {A B : Type 0} (view : A → B) (items rest : List A) (item : A) → items ≡ rest ++ item ∷ [] → stacked view items ≡ view item ∷ stacked view rest
stacked-pop view items rest item e = ap (stacked view) e ∙ stacked-push view rest item

pub stacked-nil : {A B : Type 0} (view : A → B) (items : List A) → length items ≡ 0 → stacked view items ≡ []
unfolding stacked
stacked-nil view items n = let none = nil_from_length items n in rw none refl

pub stacked-last : {A B : Type 0} (view : A → B) (items : List A) (item : A) → slice_get items (length items - 1) ≡ Some item → stacked view items ≡ view item ∷ stacked view (take (length items - 1) items)
stacked-last view items item e =
    let within = slice_get_within items (length items - 1) item e in
    let n = length items - 1 in
    let all : take (n + 1) items ≡ items = take_all (n + 1) items (omega arith) in
    let last : get_or items n item ≡ item = get_or_from_slice_get items n item item e in
    stacked-pop view items (take n items) item (sym all ∙ take_more items n item within ∙ ap (λ f. take n items ++ f ∷ []) last)

pub stacked-no_last : {A B : Type 0} (view : A → B) (items : List A) → slice_get items (length items - 1) ≡ None → stacked view items ≡ []
stacked-no_last view [] e = stacked-nil view [] refl
stacked-no_last view (item ∷ items) e =
    let n = length items in
    let within : n < length (item ∷ items) = omega arith in
    let found = slice_get-get_or (item ∷ items) n item within in
    let k : length (item ∷ items) - 1 ≡ n = omega arith in
    let same = ap (slice_get (item ∷ items)) k in
    absurd cc

-- something is left over
pub stacked-left_over : {A B : Type 0} (view : A → B) (items : List A) → 0 < length items → (newest : B) × (rest : List B) × (stacked view items ≡ newest ∷ rest)
stacked-left_over view [] some = absurd (omega arith)
stacked-left_over view (item ∷ items) some =
    let n = length (item ∷ items) - 1 in
    let within : n < length (item ∷ items) = omega arith in
    let found = slice_get-get_or (item ∷ items) n item within in
    (view (get_or (item ∷ items) n item), stacked view (take n (item ∷ items)), stacked-last view (item ∷ items) (get_or (item ∷ items) n item) found)

pub whole-left_over : (items : List Frame) (x : Partial) → 0 < length items → whole (stack_of items, x) ≡ None
whole-left_over items x some = ap (λ frames. whole (frames, x)) (stacked-left_over frame_of items some).2

pub ruleset stacks = (stacked-push, stacked-pop, stacked-nil, append-nil, stacked-last, stacked-no_last, whole-left_over, map_push)
