-- What follows for the layers above: rising counts, and bytes that a source told.
use Rattle.std.proofs.Common.{◌≡◌, ℕ, ◌≤◌, List, [], ◌++◌, length, drop, Option, Some, None, length-append, append-nil, arith, ap, ◌∙◌, sym, inl, inr}
use Rattle.std.proofs.Math.Seq.{drop-append_seam}
use Rattle.adj_io.specs.Bytes.{followed_by, IsAtEnd, HasRead}
use Rattle.adj_io.specs.Faults.{Rose}

-- a count that rose later rose
pub rose_earlier : (a b c : ℕ) → a ≤ b → Rose b c → Rose a c
rose_earlier a b c h (inl lt) = inl (omega arith)
rose_earlier a b c h (inr e) = inr e

-- a count that rose first rose
pub rose_later : (a b c : ℕ) → a ≤ b → b ≤ c → Rose a b → Rose a c
rose_later a b c h k (inl lt) = inl (omega arith)
rose_later a b c h k (inr e) = grind arith

some_same : (a b : List ℕ) → Some a ≡ Some b → a ≡ b
some_same a b e = cc

-- a source that was read to its end gave all
pub read_whole : (had read : List ℕ) (left : Option (List ℕ)) → Some had ≡ followed_by read left → IsAtEnd left → (read ≡ had) × (left ≡ Some [])
read_whole had read None e h = cc
read_whole had read (Some rest) e h = (sym (append-nil read) ∙ ap (λ r. read ++ r) (sym h) ∙ sym (some_same _ _ e), ap Some h)

-- a source of which some bytes were read has the others
pub read_part : (had : List ℕ) (n : ℕ) (left : Option (List ℕ)) → HasRead n (Some had) left → (n ≤ length had) × (left ≡ Some (drop n had))
read_part had n None h = absurd (let e : Some had ≡ None = h.before in cc)
read_part had n (Some rest) h =
    let e : had ≡ h.front ++ rest = some_same _ _ h.before in
    (omega (arith, ap length e, length-append h.front rest, h.long), ap Some (sym (ap (drop n) e ∙ (λ i. drop (sym h.long i) (h.front ++ rest)) ∙ drop-append_seam h.front rest)))
