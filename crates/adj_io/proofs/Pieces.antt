-- Pieces that are read or written one after the other.
use Rattle.std.proofs.Common.{◌≡◌, ℕ, ◌+◌, ◌-◌, ◌≤◌, List, ◌++◌, length, take, drop, length-take, length-drop, Option, Some, None, Result, Err, append_assoc, length-append, arith, refl, ap, ◌∙◌, sym}
use Rattle.std.specs.Prelude.{◌↔◌}
use Rattle.std.specs.Result.{IsErrOf}
use Rattle.std.proofs.lemmas.List.{drop-drop, take_all, take-append-le, take-append-drop}
use Rattle.std.proofs.Math.Seq.{take-add}
use Rattle.adj_io.specs.Bytes.{followed_by, extended_by, HasRead}

-- two pieces read are one
pub followed_by-append : (a b : List ℕ) (left : Option (List ℕ)) → followed_by a (followed_by b left) ≡ followed_by (a ++ b) left
followed_by-append a b None = refl
followed_by-append a b (Some rest) = ap Some (sym (append_assoc a b rest))

-- two pieces taken are one
pub extended_by-append : (taken : Option (List ℕ)) (a b : List ℕ) → extended_by (extended_by taken a) b ≡ extended_by taken (a ++ b)
extended_by-append None a b = refl
extended_by-append (Some bytes) a b = ap Some (append_assoc bytes a b)

-- after a front of some bytes was taken, and then a front of the rest, a longer front was taken
pub next_taken : (old mid new : Option (List ℕ)) (bytes rest : List ℕ) (i k : ℕ) → rest ≡ drop i bytes → mid ≡ extended_by old (take i bytes) → new ≡ extended_by mid (take k rest) → new ≡ extended_by old (take (i + k) bytes)
next_taken old mid new bytes rest i k r e f =
    f ∙ (λ j. extended_by (e j) (take k (r j))) ∙ extended_by-append old (take i bytes) (take k (drop i bytes)) ∙ ap (extended_by old) (sym (take-add i k bytes))

-- a slice from a place to the end
pub slice_rest : (bytes : List ℕ) (i : ℕ) → take (length bytes - i) (drop i bytes) ≡ drop i bytes
slice_rest bytes i = take_all (length bytes - i) (drop i bytes) (omega (arith, length-drop i bytes))

-- bytes that were read, and a front of a buffer more
pub read_more : (front buffer : List ℕ) (k : ℕ) (old mid new : Option (List ℕ)) → k ≤ length buffer → old ≡ followed_by front mid → mid ≡ followed_by (take k buffer) new → HasRead (length front + k) old new
read_more front buffer k old mid new h e f = record {
  front = front ++ take k buffer;
  long = omega (arith, length-append front (take k buffer), length-take k buffer);
  before = e ∙ ap (followed_by front) f ∙ followed_by-append front (take k buffer) new;
}

-- what isn't that error comes with fewer bytes than it
pub another : {T E : Type 0} (r : Result T E) (e : E) (n limit : ℕ) → (r ≡ Err e → ⊥) → n ≤ limit → IsErrOf r e ↔ (n ≡ limit + 1)
another r e n limit other h = (λ is. absurd (other is), λ is. absurd (omega (arith, is, h)))

-- what a source in memory copied, and what it then has left
pub copied : (bytes copy rest : List ℕ) (i k : ℕ) → copy ≡ take k (drop i bytes) → k ≤ length (drop i bytes) → drop i bytes ≡ take k (copy ++ rest) ++ drop (i + k) bytes
copied bytes copy rest i k e h =
    let long : length copy ≡ k = ap length e ∙ omega (arith, h, length-take k (drop i bytes)) in
    let front : take k (copy ++ rest) ≡ take k (drop i bytes) = take-append-le k copy rest (omega (arith, long)) ∙ take_all k copy (omega (arith, long)) ∙ e in
    sym ((λ j. front j ++ sym (drop-drop k i bytes) j) ∙ take-append-drop k (drop i bytes))
