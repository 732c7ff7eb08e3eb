-- What is known of a run over any numbers, told of words and of words with tangents.
use Rattle.std.proofs.Common.{◌≡◌, ◌+◌, ◌<◌, ℕ, zero, suc, List, [], ◌∷◌, ◌++◌, map, take, length, get_or, refl, sym, ap, subst, ◌∙◌, arith}
use Rattle.std.specs.Prelude.{ℤ, Ok, Err}
use Rattle.std.specs.List.{zip}
use Rattle.std.proofs.lemmas.List.{map-id, map_push}
use Rattle.adj_tree.specs.declared.value.Slot.{Slot as CodeSlot}
use Rattle.def_meaning.specs.Numbers.{words, duals}
use Rattle.def_meaning.specs.Scene.{Stand, Outcome, Done, Trapped, More, Full}
use Rattle.def_meaning.specs.Units.{Slot, Output}
use Rattle.adj_tape.specs.Held.{Held}
use Rattle.adj_interp.specs.declared.log.Log.{Log}
use Rattle.adj_interp.specs.declared.stop.Stop.{Stop}
use Rattle.adj_interp.specs.declared.stop.Stop.TheVariants as stop
use Rattle.adj_interp.specs.Concludes.{Concludes, StandsSo, slot_seen}
use Rattle.adj_interp.specs.Ended.{StandsWith, EndsWith}
use Rattle.adj_interp.specs.Dually.{AreTangents, dual_slot, dual_slots, DualEnds}

-- ---- words

-- the words of words are themselves
stands_so : (w : Stand) (tape : Held ℤ) (log : Log) → StandsWith words w tape log → StandsSo w tape log
stands_so w tape log h = (h.0 ∙ map-id tape.words, h.1)

-- a stop
pub words_stop : {A : Type 0} (seen : A → List (Slot ℤ)) (o : Outcome (Output ℤ)) (x : Stop) (tape : Held ℤ) (log : Log) → EndsWith words seen o (Err x) tape log → Concludes o (Err x) tape log
words_stop seen o stop.Memory tape log h = tt
words_stop seen (Trapped d l w) (stop.Trap t line) tape log h = (h.0, h.1, stands_so w tape log h.2)
words_stop seen (Done out used) (stop.Trap t line) tape log h = absurd h
words_stop seen (More w) (stop.Trap t line) tape log h = absurd h
words_stop seen (Full w) (stop.Trap t line) tape log h = absurd h
words_stop seen (More w) stop.Budget tape log h = stands_so w tape log h
words_stop seen (Done out used) stop.Budget tape log h = absurd h
words_stop seen (Trapped d l w) stop.Budget tape log h = absurd h
words_stop seen (Full w) stop.Budget tape log h = absurd h
words_stop seen (Full w) stop.TapeFull tape log h = stands_so w tape log h
words_stop seen (Done out used) stop.TapeFull tape log h = absurd h
words_stop seen (Trapped d l w) stop.TapeFull tape log h = absurd h
words_stop seen (More w) stop.TapeFull tape log h = absurd h

-- and the end
pub words_done : {A : Type 0} (seen : A → List (Slot ℤ)) (o : Outcome (Output ℤ)) (a : A) (values : List CodeSlot) (tape : Held ℤ) (log : Log) → map slot_seen values ≡ seen a → EndsWith words seen o (Ok a) tape log → Concludes o (Ok values) tape log
words_done seen (Done out used) a values tape log p h = (p ∙ h.0, h.1, h.2, h.3)
words_done seen (Trapped d l w) a values tape log p h = absurd h
words_done seen (More w) a values tape log p h = absurd h
words_done seen (Full w) a values tape log p h = absurd h

-- ---- words with tangents

-- a stop
pub duals_stop : {A : Type 0} (seen : A → List (Slot (ℤ × ℤ))) (o : Outcome (Output (ℤ × ℤ))) (x : Stop) (tape : Held (ℤ × ℤ)) (log : Log) → EndsWith duals seen o (Err x) tape log → DualEnds o (Err x)
duals_stop seen o stop.Memory tape log h = tt
duals_stop seen (Trapped d l w) (stop.Trap t line) tape log h = (h.0, h.1)
duals_stop seen (Done out used) (stop.Trap t line) tape log h = absurd h
duals_stop seen (More w) (stop.Trap t line) tape log h = absurd h
duals_stop seen (Full w) (stop.Trap t line) tape log h = absurd h
duals_stop seen (More w) stop.Budget tape log h = tt
duals_stop seen (Done out used) stop.Budget tape log h = absurd h
duals_stop seen (Trapped d l w) stop.Budget tape log h = absurd h
duals_stop seen (Full w) stop.Budget tape log h = absurd h
duals_stop seen (Full w) stop.TapeFull tape log h = tt
duals_stop seen (Done out used) stop.TapeFull tape log h = absurd h
duals_stop seen (Trapped d l w) stop.TapeFull tape log h = absurd h
duals_stop seen (More w) stop.TapeFull tape log h = absurd h

-- and the end
pub duals_done : {A : Type 0} (seen : A → List (Slot (ℤ × ℤ))) (o : Outcome (Output (ℤ × ℤ))) (a : A) (vs ts : List CodeSlot) (tape : Held (ℤ × ℤ)) (log : Log) → AreTangents vs ts → dual_slots vs ts ≡ seen a → EndsWith duals seen o (Ok a) tape log → DualEnds o (Ok (vs, ts))
duals_done seen (Done out used) a vs ts tape log q p h = (q, p ∙ h.0)
duals_done seen (Trapped d l w) a vs ts tape log q p h = absurd h
duals_done seen (More w) a vs ts tape log q p h = absurd h
duals_done seen (Full w) a vs ts tape log q p h = absurd h

-- ---- pairs

-- the next of both
pub zip_next : {A B : Type 0} (xs : List A) (ys : List B) (i : ℕ) (x : A) (y : B) → i < length xs → i < length ys → x ≡ get_or xs i x → y ≡ get_or ys i y → zip (take (i + 1) xs) (take (i + 1) ys) ≡ zip (take i xs) (take i ys) ++ (x, y) ∷ []
zip_next [] ys i x y l m p q = absurd (omega arith)
zip_next (a ∷ xs) [] i x y l m p q = absurd (omega arith)
zip_next (a ∷ xs) (b ∷ ys) zero x y l m p q = λ k. (sym p k, sym q k) ∷ []
zip_next (a ∷ xs) (b ∷ ys) (suc i) x y l m p q =
    let next : suc (i + 1) ≡ suc i + 1 = omega arith in
    subst (λ j. zip (take j (a ∷ xs)) (take j (b ∷ ys)) ≡ (a, b) ∷ (zip (take i xs) (take i ys) ++ (x, y) ∷ [])) next (ap (λ zs. (a, b) ∷ zs) (zip_next xs ys i x y (omega (arith, l)) (omega (arith, m)) p q))

-- one more of each
pub zip_push : {A B : Type 0} (xs : List A) (ys : List B) (x : A) (y : B) → length ys ≡ length xs → zip (xs ++ x ∷ []) (ys ++ y ∷ []) ≡ zip xs ys ++ (x, y) ∷ []
zip_push [] [] x y n = refl
zip_push [] (b ∷ ys) x y n = absurd (omega (arith, n))
zip_push (a ∷ xs) [] x y n = absurd (omega (arith, n))
zip_push (a ∷ xs) (b ∷ ys) x y n = ap (λ zs. (a, b) ∷ zs) (zip_push xs ys x y (omega (arith, n)))

-- pairs are their parts
pub zip_parts : {A B : Type 0} (ps : List (A × B)) → zip (map (λ p. p.0) ps) (map (λ p. p.1) ps) ≡ ps
zip_parts [] = refl
zip_parts (p ∷ ps) = ap (λ zs. p ∷ zs) (zip_parts ps)

-- one slot more
pub dual_push : (vs ts : List CodeSlot) (v t : CodeSlot) → length ts ≡ length vs → dual_slots (vs ++ v ∷ []) (ts ++ t ∷ []) ≡ dual_slots vs ts ++ dual_slot (v, t) ∷ []
dual_push vs ts v t n = ap (map dual_slot) (zip_push vs ts v t n) ∙ map_push dual_slot (zip vs ts) (v, t)

pub dual_next : (vs ts : List CodeSlot) (i : ℕ) (v t : CodeSlot) → i < length vs → i < length ts → v ≡ get_or vs i v → t ≡ get_or ts i t → dual_slots (take (i + 1) vs) (take (i + 1) ts) ≡ dual_slots (take i vs) (take i ts) ++ dual_slot (v, t) ∷ []
dual_next vs ts i v t l m p q = ap (map dual_slot) (zip_next vs ts i v t l m p q) ∙ map_push dual_slot (zip (take i vs) (take i ts)) (v, t)
