-- Starts and edges: which names they stand for, and where they are.
use Rattle.std.proofs.Common.{◌≡◌, ◌⊎◌, inl, inr, ℕ, suc, ◌+◌, ◌<◌, ◌≤◌, Bool, true, false, List, [], ◌∷◌, length, map, refl, sym, ap, ◌∙◌, subst, Option, Some, None, arith}
use Rattle.std.specs.Prelude.{◌&&◌, Contains}
use Rattle.std.specs.List.{flat_map}
use Rattle.std.proofs.lemmas.Bool.{or_cases}
use Rattle.std.proofs.lemmas.List.Elements.{Contains-append_left, Contains-append_right, Contains-append_cases}
use Rattle.adj_tree.specs.Code.{Var, plain, shadow, helper, name_eq, Term, lit, var, elem, neg, bin, pow, power_of, abs, Terms, none, more, Act, assign, choose, loop, during, call, runtime}
use Rattle.adj_tree.proofs.Names.{name_same, name_refl}
use Rattle.adj_reach.proofs.Members.{is_first, is_none, is_only}
use Rattle.def_meaning.specs.LeastSet.{Dummies}
use Rattle.def_meaning.specs.Written.{is_place_of, is_handed_back}
use Rattle.def_meaning.proofs.Booleans.{and_true, or_first, or_second}
use Rattle.def_meaning.specs.Apart.{has_name}
use Rattle.def_names.specs.Statements.{At}
use Rattle.def_names.specs.Variables.{Name}
use Rattle.def_names.specs.WriteFaults.{named_by}
use Rattle.adj_symbols_writes.specs.Graph.{Unit', place_from, list_of, nodes_of, edge_to, edge_from, same_edges, var_place, place_in, actual_edges, call_edges, act_edges, bits}
use Rattle.adj_symbols_writes.proofs.Rows.{row_found}
use Rattle.adj_symbols_writes.proofs.Splitting.{hands, some_hand}

abbrev pub place : Unit' → Name → Option ℕ
place p x = place_from p.0 (p.1).dummies x

-- ---- one or none

list_only : (o : Option ℕ) (n : ℕ) → Contains (list_of o) n → o ≡ Some n
list_only None n c = absurd (is_none n c)
list_only (Some m) n c = ap Some (is_only n m c)

to_only : (i : ℕ) (o : Option ℕ) (m n : ℕ) → Contains (edge_to i o) (m, n) → (i ≡ m) × (o ≡ Some n)
to_only i None m n c = absurd (is_none (m, n) c)
to_only i (Some k) m n c = let e = is_only (m, n) (i, k) c in (ap (λ z. z.0) e, ap (λ z. Some z.1) e)

from_only : (o : Option ℕ) (j m n : ℕ) → Contains (edge_from o j) (m, n) → (o ≡ Some m) × (j ≡ n)
from_only None j m n c = absurd (is_none (m, n) c)
from_only (Some k) j m n c = let e = is_only (m, n) (k, j) c in (ap (λ z. Some z.0) e, ap (λ z. z.1) e)

list_has : (o : Option ℕ) (n : ℕ) → o ≡ Some n → Contains (list_of o) n
list_has o n e = subst (λ z. Contains (list_of z) n) (sym e) (is_first n n [] refl)

to_has : (i : ℕ) (o : Option ℕ) (n : ℕ) → o ≡ Some n → Contains (edge_to i o) (i, n)
to_has i o n e = subst (λ z. Contains (edge_to i z) (i, n)) (sym e) (is_first (i, n) (i, n) [] refl)

from_has : (o : Option ℕ) (j m : ℕ) → o ≡ Some m → Contains (edge_from o j) (m, j)
from_has o j m e = subst (λ z. Contains (edge_from z j) (m, j)) (sym e) (is_first (m, j) (m, j) [] refl)

-- ---- starts

pub nodes_only : (p : Unit') (xs : List Name) (n : ℕ) → Contains (nodes_of p xs) n → (x : Name) × (has_name x xs ≡ true) × (place p x ≡ Some n)
nodes_only p [] n c = absurd (is_none n c)
nodes_only p (x ∷ xs) n c = go (Contains-append_cases (list_of (place p x)) (nodes_of p xs) n c) (nodes_only p xs n)
  where
    go : Contains (list_of (place p x)) n ⊎ Contains (nodes_of p xs) n → (Contains (nodes_of p xs) n → (y : Name) × (has_name y xs ≡ true) × (place p y ≡ Some n)) → (y : Name) × (has_name y (x ∷ xs) ≡ true) × (place p y ≡ Some n)
    go (inl d) ih = (x, or_first (name_eq x x) (has_name x xs) (name_refl x), list_only (place p x) n d)
    go (inr d) ih = let o = ih d in (o.0, or_second (name_eq o.0 x) (has_name o.0 xs) o.1, o.2)

pub nodes_has : (p : Unit') (xs : List Name) (x : Name) (n : ℕ) → has_name x xs ≡ true → place p x ≡ Some n → Contains (nodes_of p xs) n
nodes_has p [] x n h e = absurd cc
nodes_has p (y ∷ ys) x n h e = go (or_cases (name_eq x y) (has_name x ys) h) (λ s. nodes_has p ys x n s e)
  where
    go : (name_eq x y ≡ true) ⊎ (has_name x ys ≡ true) → (has_name x ys ≡ true → Contains (nodes_of p ys) n) → Contains (nodes_of p (y ∷ ys)) n
    go (inl s) ih = Contains-append_left (list_of (place p y)) (nodes_of p ys) n (list_has (place p y) n (ap (place p) (sym (name_same x y s)) ∙ e))
    go (inr s) ih = Contains-append_right (list_of (place p y)) (nodes_of p ys) n (ih s)

-- ---- edges to all dummies of a name

pub same_only : (p : Unit') (j : ℕ) (ds : List Name) (b : ℕ → Bool) (g : Name → Bool) (m n : ℕ) → bits b j (length ds) ≡ map g ds → Contains (same_edges p j ds) (m, n) → (x : Name) × (place p x ≡ Some m) × (b n ≡ g x)
same_only p j [] b g m n h c = absurd (is_none (m, n) c)
same_only p j (d ∷ ds) b g m n h c =
    let first : b j ≡ g d = cc in
    let later : bits b (suc j) (length ds) ≡ map g ds = cc in
    go first (Contains-append_cases (edge_from (place p d) j) (same_edges p (suc j) ds) (m, n) c) (same_only p (suc j) ds b g m n later)
  where
    go : b j ≡ g d → Contains (edge_from (place p d) j) (m, n) ⊎ Contains (same_edges p (suc j) ds) (m, n) → (Contains (same_edges p (suc j) ds) (m, n) → (x : Name) × (place p x ≡ Some m) × (b n ≡ g x)) → (x : Name) × (place p x ≡ Some m) × (b n ≡ g x)
    go f (inl k) ih = let o = from_only (place p d) j m n k in (d, o.0, ap b (sym o.1) ∙ f)
    go f (inr k) ih = ih k

pub same_within : (p : Unit') (j : ℕ) (ds : List Name) (m n : ℕ) → Contains (same_edges p j ds) (m, n) → ((x : Name) × (place p x ≡ Some m)) × (n < j + length ds)
same_within p j [] m n c = absurd (is_none (m, n) c)
same_within p j (d ∷ ds) m n c = go (Contains-append_cases (edge_from (place p d) j) (same_edges p (suc j) ds) (m, n) c) (same_within p (suc j) ds m n)
  where
    go : Contains (edge_from (place p d) j) (m, n) ⊎ Contains (same_edges p (suc j) ds) (m, n) → (Contains (same_edges p (suc j) ds) (m, n) → ((x : Name) × (place p x ≡ Some m)) × (n < suc j + length ds)) → ((x : Name) × (place p x ≡ Some m)) × (n < j + suc (length ds))
    go (inl k) ih = let o = from_only (place p d) j m n k in ((d, o.0), omega (arith, o.1))
    go (inr k) ih = let o = ih k in (o.0, omega (arith, o.1))

-- the edge to the first of some dummies that are left
pub same_first : (p : Unit') (j : ℕ) (d : Name) (ds : List Name) (m : ℕ) → place p d ≡ Some m → Contains (same_edges p j (d ∷ ds)) (m, j)
same_first p j d ds m e = Contains-append_left (edge_from (place p d) j) (same_edges p (suc j) ds) (m, j) (from_has (place p d) j m e)

pub same_later : (p : Unit') (j : ℕ) (d : Name) (ds : List Name) (e : ℕ × ℕ) → Contains (same_edges p (suc j) ds) e → Contains (same_edges p j (d ∷ ds)) e
same_later p j d ds e c = Contains-append_right (edge_from (place p d) j) (same_edges p (suc j) ds) e c

-- ---- edges from dummies to actuals

-- the actual that has a node names a dummy
named_only : (p : Unit') (e : Term) (n : ℕ) → place_in p (named_by e) ≡ Some n → (x : Name) × (place p x ≡ Some n) × (is_place_of (plain x) e ≡ true)
named_only p (lit z) n h = absurd cc
named_only p (var (plain x)) n h = (x, h, name_refl x)
named_only p (var (shadow x)) n h = absurd cc
named_only p (var (helper r k)) n h = absurd cc
named_only p (elem (plain x) subs) n h = (x, h, name_refl x)
named_only p (elem (shadow x) subs) n h = absurd cc
named_only p (elem (helper r k) subs) n h = absurd cc
named_only p (neg a) n h = absurd cc
named_only p (bin op a b) n h = absurd cc
named_only p (pow a k) n h = absurd cc
named_only p (power_of a b) n h = absurd cc
named_only p (abs a) n h = absurd cc

var_has : (p : Unit') (x : Name) (y : Var) (n : ℕ) → is_place_of (plain x) (var y) ≡ true → place p x ≡ Some n → var_place p y ≡ Some n
var_has p x (plain y) n h e = ap (place p) (sym (name_same x y h)) ∙ e
var_has p x (shadow y) n h e = absurd cc
var_has p x (helper r k) n h e = absurd cc

named_has : (p : Unit') (x : Name) (e : Term) (n : ℕ) → is_place_of (plain x) e ≡ true → place p x ≡ Some n → place_in p (named_by e) ≡ Some n
named_has p x (lit z) n h l = absurd cc
named_has p x (var y) n h l = var_has p x y n h l
named_has p x (elem y subs) n h l = var_has p x y n h l
named_has p x (neg a) n h l = absurd cc
named_has p x (bin op a b) n h l = absurd cc
named_has p x (pow a k) n h l = absurd cc
named_has p x (power_of a b) n h l = absurd cc
named_has p x (abs a) n h l = absurd cc

and_both : (a b : Bool) → a ≡ true → b ≡ true → (a && b) ≡ true
and_both true b h k = k
and_both false b h k = absurd cc

-- an edge leads from a dummy to the variable that its actual names
pub actual_only : (p : Unit') (b : ℕ → Bool) (i : ℕ) (ds : List Name) (args : Terms) (m q : ℕ) → Contains (actual_edges p i ds args) (m, q) →
    (x : Name) × (place p x ≡ Some q) × (b m ≡ true → is_handed_back (plain x) (bits b i (length ds)) args ≡ true) × (m < i + length ds)
actual_only p b i [] args m q c = absurd (is_none (m, q) c)
actual_only p b i (d ∷ ds) none m q c = absurd (is_none (m, q) c)
actual_only p b i (d ∷ ds) (more e es) m q c = go (Contains-append_cases (edge_to i (place_in p (named_by e))) (actual_edges p (suc i) ds es) (m, q) c) (actual_only p b (suc i) ds es m q)
  where
    go : Contains (edge_to i (place_in p (named_by e))) (m, q) ⊎ Contains (actual_edges p (suc i) ds es) (m, q) →
        (Contains (actual_edges p (suc i) ds es) (m, q) → (x : Name) × (place p x ≡ Some q) × (b m ≡ true → is_handed_back (plain x) (bits b (suc i) (length ds)) es ≡ true) × (m < suc i + length ds)) →
        (x : Name) × (place p x ≡ Some q) × (b m ≡ true → is_handed_back (plain x) (bits b i (suc (length ds))) (more e es) ≡ true) × (m < i + suc (length ds))
    go (inl d) ih =
        let o = to_only i (place_in p (named_by e)) m q d in
        let a = named_only p e q o.1 in
        (a.0, a.1, (λ h. or_first (b i && is_place_of (plain a.0) e) (is_handed_back (plain a.0) (bits b (suc i) (length ds)) es) (and_both (b i) (is_place_of (plain a.0) e) (ap b o.0 ∙ h) a.2)), omega (arith, o.0))
    go (inr d) ih =
        let o = ih d in
        (o.0, o.1, (λ h. or_second (b i && is_place_of (plain o.0) e) (is_handed_back (plain o.0) (bits b (suc i) (length ds)) es) (o.2 h)), omega (arith, o.3))

-- and where a dummy is in the set whose actual names the variable, there is an edge from it
pub actual_has : (p : Unit') (b : ℕ → Bool) (i : ℕ) (ds : List Name) (args : Terms) (x : Name) (q : ℕ) → is_handed_back (plain x) (bits b i (length ds)) args ≡ true → place p x ≡ Some q →
    (m : ℕ) × Contains (actual_edges p i ds args) (m, q) × (b m ≡ true)
actual_has p b i [] args x q h l = absurd cc
actual_has p b i (d ∷ ds) none x q h l = absurd cc
actual_has p b i (d ∷ ds) (more e es) x q h l = go (or_cases (b i && is_place_of (plain x) e) (is_handed_back (plain x) (bits b (suc i) (length ds)) es) h) (λ k. actual_has p b (suc i) ds es x q k l)
  where
    go : ((b i && is_place_of (plain x) e) ≡ true) ⊎ (is_handed_back (plain x) (bits b (suc i) (length ds)) es ≡ true) →
        (is_handed_back (plain x) (bits b (suc i) (length ds)) es ≡ true → (m : ℕ) × Contains (actual_edges p (suc i) ds es) (m, q) × (b m ≡ true)) →
        (m : ℕ) × Contains (actual_edges p i (d ∷ ds) (more e es)) (m, q) × (b m ≡ true)
    go (inl k) ih =
        let a = and_true (b i) (is_place_of (plain x) e) k in
        (i, Contains-append_left (edge_to i (place_in p (named_by e))) (actual_edges p (suc i) ds es) (i, q) (to_has i (place_in p (named_by e)) q (named_has p x e q a.1 l)), a.0)
    go (inr k) ih = let o = ih k in (o.0, Contains-append_right (edge_to i (place_in p (named_by e))) (actual_edges p (suc i) ds es) (o.0, q) o.1, o.2)

-- ---- statements

module _ (find : Name → Option Unit') (F : Dummies) (b : ℕ → Bool) (known : (x : Name) → F x ≡ row_found b (find x)) (p : Unit') where
  call_only : (o : Option Unit') (args : Terms) (m q : ℕ) → Contains (call_edges p o args) (m, q) →
      (x : Name) × (place p x ≡ Some q) × (b m ≡ true → is_handed_back (plain x) (row_found b o) args ≡ true)
  call_only None args m q c = absurd (is_none (m, q) c)
  call_only (Some r) args m q c = let o = actual_only p b r.0 (r.1).dummies args m q c in (o.0, o.1, o.2)

  act_only : (a : Act) (m q : ℕ) → Contains (act_edges find p a) (m, q) → (x : Name) × (place p x ≡ Some q) × (b m ≡ true → hands F (plain x) a ≡ true)
  act_only (assign y subs e) m q c = absurd (is_none (m, q) c)
  act_only (choose t a e) m q c = absurd (is_none (m, q) c)
  act_only (loop y first last by body k) m q c = absurd (is_none (m, q) c)
  act_only (during t body) m q c = absurd (is_none (m, q) c)
  act_only (call name args) m q c =
      let o = call_only (find name) args m q c in
      (o.0, o.1, λ h. ap (λ z. is_handed_back (plain o.0) z args) (known name) ∙ o.2 h)
  act_only (runtime r) m q c = absurd (is_none (m, q) c)

  pub acts_only : (ss : List (At Act)) (m q : ℕ) → Contains (flat_map (λ s. act_edges find p s.1) ss) (m, q) → (x : Name) × (place p x ≡ Some q) × (b m ≡ true → some_hand F (plain x) ss ≡ true)
  acts_only [] m q c = absurd (is_none (m, q) c)
  acts_only (s ∷ ss) m q c = go (Contains-append_cases (act_edges find p s.1) (flat_map (λ t. act_edges find p t.1) ss) (m, q) c) (acts_only ss m q)
    where
      go : Contains (act_edges find p s.1) (m, q) ⊎ Contains (flat_map (λ t. act_edges find p t.1) ss) (m, q) →
          (Contains (flat_map (λ t. act_edges find p t.1) ss) (m, q) → (x : Name) × (place p x ≡ Some q) × (b m ≡ true → some_hand F (plain x) ss ≡ true)) →
          (x : Name) × (place p x ≡ Some q) × (b m ≡ true → some_hand F (plain x) (s ∷ ss) ≡ true)
      go (inl d) ih = let o = act_only s.1 m q d in (o.0, o.1, λ h. or_first (hands F (plain o.0) s.1) (some_hand F (plain o.0) ss) (o.2 h))
      go (inr d) ih = let o = ih d in (o.0, o.1, λ h. or_second (hands F (plain o.0) s.1) (some_hand F (plain o.0) ss) (o.2 h))

  call_has : (o : Option Unit') (args : Terms) (x : Name) (q : ℕ) → is_handed_back (plain x) (row_found b o) args ≡ true → place p x ≡ Some q → (m : ℕ) × Contains (call_edges p o args) (m, q) × (b m ≡ true)
  call_has None args x q h l = absurd cc
  call_has (Some r) args x q h l = actual_has p b r.0 (r.1).dummies args x q h l

  act_has : (a : Act) (x : Name) (q : ℕ) → hands F (plain x) a ≡ true → place p x ≡ Some q → (m : ℕ) × Contains (act_edges find p a) (m, q) × (b m ≡ true)
  act_has (assign y subs e) x q h l = absurd cc
  act_has (choose t a e) x q h l = absurd cc
  act_has (loop y first last by body k) x q h l = absurd cc
  act_has (during t body) x q h l = absurd cc
  act_has (call name args) x q h l = call_has (find name) args x q (ap (λ z. is_handed_back (plain x) z args) (sym (known name)) ∙ h) l
  act_has (runtime r) x q h l = absurd cc

  pub acts_has : (ss : List (At Act)) (x : Name) (q : ℕ) → some_hand F (plain x) ss ≡ true → place p x ≡ Some q → (m : ℕ) × Contains (flat_map (λ s. act_edges find p s.1) ss) (m, q) × (b m ≡ true)
  acts_has [] x q h l = absurd cc
  acts_has (s ∷ ss) x q h l = go (or_cases (hands F (plain x) s.1) (some_hand F (plain x) ss) h) (λ k. acts_has ss x q k l)
    where
      go : (hands F (plain x) s.1 ≡ true) ⊎ (some_hand F (plain x) ss ≡ true) → (some_hand F (plain x) ss ≡ true → (m : ℕ) × Contains (flat_map (λ t. act_edges find p t.1) ss) (m, q) × (b m ≡ true)) →
          (m : ℕ) × Contains (flat_map (λ t. act_edges find p t.1) (s ∷ ss)) (m, q) × (b m ≡ true)
      go (inl k) ih = let o = act_has s.1 x q k l in (o.0, Contains-append_left (act_edges find p s.1) (flat_map (λ t. act_edges find p t.1) ss) (o.0, q) o.1, o.2)
      go (inr k) ih = let o = ih k in (o.0, Contains-append_right (act_edges find p s.1) (flat_map (λ t. act_edges find p t.1) ss) (o.0, q) o.1, o.2)

-- ---- where edges come from

module _ (find : Name → Option Unit') (p : Unit') (t : ℕ) (most : (x : Name) (r : Unit') → find x ≡ Some r → r.0 + length (r.1).dummies ≤ t) where
  call_within : (o : Option Unit') (args : Terms) (m q : ℕ) → ((r : Unit') → o ≡ Some r → r.0 + length (r.1).dummies ≤ t) → Contains (call_edges p o args) (m, q) → m < t
  call_within None args m q h c = absurd (is_none (m, q) c)
  call_within (Some r) args m q h c = let o = actual_only p (λ n. true) r.0 (r.1).dummies args m q c in let l = o.3 in let k = h r refl in omega arith

  act_within : (a : Act) (m q : ℕ) → Contains (act_edges find p a) (m, q) → m < t
  act_within (assign y subs e) m q c = absurd (is_none (m, q) c)
  act_within (choose c' a e) m q c = absurd (is_none (m, q) c)
  act_within (loop y first last by body k) m q c = absurd (is_none (m, q) c)
  act_within (during c' body) m q c = absurd (is_none (m, q) c)
  act_within (call name args) m q c = call_within (find name) args m q (most name) c
  act_within (runtime r) m q c = absurd (is_none (m, q) c)

  pub acts_within : (ss : List (At Act)) (m q : ℕ) → Contains (flat_map (λ s. act_edges find p s.1) ss) (m, q) → m < t
  acts_within [] m q c = absurd (is_none (m, q) c)
  acts_within (s ∷ ss) m q c = go (Contains-append_cases (act_edges find p s.1) (flat_map (λ z. act_edges find p z.1) ss) (m, q) c) (acts_within ss m q)
    where
      go : Contains (act_edges find p s.1) (m, q) ⊎ Contains (flat_map (λ z. act_edges find p z.1) ss) (m, q) → (Contains (flat_map (λ z. act_edges find p z.1) ss) (m, q) → m < t) → m < t
      go (inl d) ih = act_within s.1 m q d
      go (inr d) ih = ih d
