-- Words that carry two tangents and their columns, and the proof that the tangents are one where the two directions agree at the columns.
-- A run over these is seen as a dual run in either direction and as a pattern run.
use Rattle.std.proofs.Common.{◌≡◌, ℕ, zero, suc, refl, ap, ap₂}
use Rattle.std.specs.Prelude.{ℤ, pos}
use Rattle.adj_word.specs.Word.{add, sub, mul, negated, power}
use Rattle.def_meaning.specs.Numbers.{Numbers, duals, power_tangent}
use Rattle.def_meaning.specs.Seen.{Projects}
use Rattle.def_meaning.proofs.Booleans.{or_first, or_second}
use Rattle.def_jacobian.specs.Columns.{Columns, no_column, one_column, together, marked}
use Rattle.def_jacobian.specs.Laws.{AgreeOver}
use Rattle.law_jacobian.proofs.Grouping.{eqb_itself}

pub record Traced (t t' : ℕ → ℤ) : Type 0 where
  pub word : ℤ
  pub first : ℤ
  pub second : ℤ
  pub columns : Columns
  pub same : AgreeOver columns t t' → first ≡ second

module _ (t t' : ℕ → ℤ) where
  -- directions that agree at the columns of two sets agree at those of each
  pub of_left : (s r : Columns) → AgreeOver (together s r) t t' → AgreeOver s t t'
  of_left s r g c h = g c (or_first (s c) (r c) h)

  pub of_right : (s r : Columns) → AgreeOver (together s r) t t' → AgreeOver r t t'
  of_right s r g c h = g c (or_second (s c) (r c) h)

  -- a word without tangents
  abbrev pub still : ℤ → Traced t t'
  still z = record { word = z; first = pos 0; second = pos 0; columns = no_column; same = λ g. refl }

  -- the word of a column, with its tangent in both directions
  abbrev pub moved : ℤ → ℕ → Traced t t'
  moved z j = record { word = z; first = t j; second = t' j; columns = one_column j; same = λ g. g j (eqb_itself j) }

  abbrev pub traced_power : Traced t t' → ℕ → Traced t t'
  traced_power a zero = record { word = power a.word 0; first = pos 0; second = pos 0; columns = no_column; same = λ g. refl }
  traced_power a (suc k) = record {
    word = power a.word (suc k);
    first = power_tangent a.word a.first (suc k);
    second = power_tangent a.word a.second (suc k);
    columns = a.columns;
    same = λ g. ap (λ d. power_tangent a.word d (suc k)) (a.same g);
  }

  abbrev pub traced : Numbers (Traced t t')
  traced = record {
    of_word = still;
    shown = λ a. a.word;
    negation = λ a. record { word = negated a.word; first = negated a.first; second = negated a.second; columns = a.columns; same = λ g. ap negated (a.same g) };
    sum = λ a b. record {
      word = add a.word b.word;
      first = add a.first b.first;
      second = add a.second b.second;
      columns = together a.columns b.columns;
      same = λ g. ap₂ add (a.same (of_left a.columns b.columns g)) (b.same (of_right a.columns b.columns g));
    };
    difference = λ a b. record {
      word = sub a.word b.word;
      first = sub a.first b.first;
      second = sub a.second b.second;
      columns = together a.columns b.columns;
      same = λ g. ap₂ sub (a.same (of_left a.columns b.columns g)) (b.same (of_right a.columns b.columns g));
    };
    product = λ a b. record {
      word = mul a.word b.word;
      first = add (mul a.first b.word) (mul a.word b.first);
      second = add (mul a.second b.word) (mul a.word b.second);
      columns = together a.columns b.columns;
      same = λ g. ap₂ (λ d e. add (mul d b.word) (mul a.word e)) (a.same (of_left a.columns b.columns g)) (b.same (of_right a.columns b.columns g));
    };
    raised_to = traced_power;
  }

  -- what is seen of them
  abbrev pub as_first : Traced t t' → ℤ × ℤ
  as_first a = (a.word, a.first)

  abbrev pub as_second : Traced t t' → ℤ × ℤ
  as_second a = (a.word, a.second)

  abbrev pub as_marked : Traced t t' → ℤ × Columns
  as_marked a = (a.word, a.columns)

  power_first : (a : Traced t t') (k : ℕ) → as_first (traced_power a k) ≡ duals.raised_to (as_first a) k
  power_first a zero = refl
  power_first a (suc k) = refl

  power_second : (a : Traced t t') (k : ℕ) → as_second (traced_power a k) ≡ duals.raised_to (as_second a) k
  power_second a zero = refl
  power_second a (suc k) = refl

  power_marked : (a : Traced t t') (k : ℕ) → as_marked (traced_power a k) ≡ marked.raised_to (as_marked a) k
  power_marked a zero = refl
  power_marked a (suc k) = refl

  pub does_first : Projects as_first traced duals
  does_first = record { of_word = λ z. refl; shown = λ a. refl; negation = λ a. refl; sum = λ a b. refl; difference = λ a b. refl; product = λ a b. refl; raised_to = power_first }

  pub does_second : Projects as_second traced duals
  does_second = record { of_word = λ z. refl; shown = λ a. refl; negation = λ a. refl; sum = λ a b. refl; difference = λ a b. refl; product = λ a b. refl; raised_to = power_second }

  pub does_marked : Projects as_marked traced marked
  does_marked = record { of_word = λ z. refl; shown = λ a. refl; negation = λ a. refl; sum = λ a b. refl; difference = λ a b. refl; product = λ a b. refl; raised_to = power_marked }
