-- Balanced: characters behind which as many parentheses are open as before them, and in which no comma and no = stands open.
use Rattle.std.proofs.Common.{◌≡◌, ℕ, suc, ◌+◌, Bool, true, false, eqb, List, [], ◌∷◌, ◌++◌, length, Option, Some, None, option_map, refl, ap, subst, ◌∙◌, arith, append_assoc, length-append}
use Rattle.std.specs.List.{list_all}
use Rattle.std.proofs.lemmas.Bool.{ne_eqb}
use Rattle.def_text.specs.Char.{left, right, comma, equals, is_name_char}
use Rattle.def_text.specs.Class.{has_open, is_matched, group_len}
use Rattle.def_text.specs.Text.{behind_commas, bracketed, enclosed}
use Rattle.def_text.proofs.Scans.{both_true}
use Rattle.def_text.proofs.Classes.{and_no}

-- inside parentheses these characters leave everything as it is
pub record IsInner (cs : List ℕ) : Type 0 where
  pub opens : (x n : ℕ) (rest : List ℕ) → has_open x (suc n) (cs ++ rest) ≡ has_open x (suc n) rest
  pub matches : (n : ℕ) (rest : List ℕ) → is_matched (suc n) (cs ++ rest) ≡ is_matched (suc n) rest
  pub groups : (n : ℕ) (rest : List ℕ) → group_len (suc n) (cs ++ rest) ≡ option_map (λ k. k + length cs) (group_len (suc n) rest)

-- and outside too
pub record IsBalanced (cs : List ℕ) : Type 0 where
  pub inner : IsInner cs
  pub commas : (rest : List ℕ) → has_open comma 0 (cs ++ rest) ≡ has_open comma 0 rest
  pub assigns : (rest : List ℕ) → has_open equals 0 (cs ++ rest) ≡ has_open equals 0 rest
  pub matches : (rest : List ℕ) → is_matched 0 (cs ++ rest) ≡ is_matched 0 rest

map_none : (o : Option ℕ) → o ≡ option_map (λ k. k + 0) o
map_none None = refl
map_none (Some k) = ap Some (omega arith)

map_twice : (a b c : ℕ) (o : Option ℕ) → c ≡ b + a → option_map (λ k. k + a) (option_map (λ k. k + b) o) ≡ option_map (λ k. k + c) o
map_twice a b c None h = refl
map_twice a b c (Some k) h = ap Some (omega arith)

pub inner-nil : IsInner []
inner-nil = record { opens = λ x n rest. refl; matches = λ n rest. refl; groups = λ n rest. map_none (group_len (suc n) rest) }

pub inner-append : (cs ds : List ℕ) → IsInner cs → IsInner ds → IsInner (cs ++ ds)
inner-append cs ds h g = record {
  opens = λ x n rest. ap (has_open x (suc n)) (append_assoc cs ds rest) ∙ h.opens x n (ds ++ rest) ∙ g.opens x n rest;
  matches = λ n rest. ap (is_matched (suc n)) (append_assoc cs ds rest) ∙ h.matches n (ds ++ rest) ∙ g.matches n rest;
  groups = λ n rest. ap (group_len (suc n)) (append_assoc cs ds rest) ∙ h.groups n (ds ++ rest) ∙ ap (option_map (λ k. k + length cs)) (g.groups n rest) ∙ map_twice (length cs) (length ds) (length (cs ++ ds)) (group_len (suc n) rest) (length-append cs ds ∙ omega arith);
}

some_open : (n : ℕ) → eqb (suc n) 0 ≡ false
some_open n = ne_eqb (suc n) 0 (λ e. absurd (omega arith))

two_open : (n : ℕ) → eqb (suc (suc n)) 1 ≡ false
two_open n = ne_eqb (suc (suc n)) 1 (λ e. absurd (omega arith))

-- a character that is no parenthesis
pub inner-char : (c : ℕ) → eqb c left ≡ false → eqb c right ≡ false → IsInner (c ∷ [])
unfolding has_open is_matched group_len
inner-char c l r = record {
  opens = λ x n rest. rw (and_no (eqb c x) (eqb (suc n) 0) (some_open n), l, r) refl;
  matches = λ n rest. rw (r, l) refl;
  groups = λ n rest. rw (r, l) refl;
}

opening-opens : (x n : ℕ) (rest : List ℕ) → has_open x (suc n) (left ∷ rest) ≡ has_open x (suc (suc n)) rest
unfolding has_open
opening-opens x n rest = rw (and_no (eqb left x) (eqb (suc n) 0) (some_open n)) (ap (λ k. has_open x k rest) (omega arith))

closing-opens : (x n : ℕ) (rest : List ℕ) → has_open x (suc n) (right ∷ rest) ≡ has_open x n rest
unfolding has_open
closing-opens x n rest = rw (and_no (eqb right x) (eqb (suc n) 0) (some_open n)) (ap (λ k. has_open x k rest) (omega arith))

opening-matches : (n : ℕ) (rest : List ℕ) → is_matched n (left ∷ rest) ≡ is_matched (suc n) rest
unfolding is_matched
opening-matches n rest = ap (λ k. is_matched k rest) (omega arith)

closing-matches : (n : ℕ) (rest : List ℕ) → is_matched (suc n) (right ∷ rest) ≡ is_matched n rest
unfolding is_matched
closing-matches n rest = rw (some_open n) (ap (λ k. is_matched k rest) (omega arith))

pub opening-groups : (n : ℕ) (rest : List ℕ) → group_len n (left ∷ rest) ≡ option_map (λ k. k + 1) (group_len (suc n) rest)
unfolding group_len
opening-groups n rest = ap (λ m. option_map (λ k. k + 1) (group_len m rest)) (omega arith)

closing-groups : (n : ℕ) (rest : List ℕ) → group_len (suc (suc n)) (right ∷ rest) ≡ option_map (λ k. k + 1) (group_len (suc n) rest)
unfolding group_len
closing-groups n rest = rw (two_open n) (ap (λ m. option_map (λ k. k + 1) (group_len m rest)) (omega arith))

pub closing-group : (rest : List ℕ) → group_len 1 (right ∷ rest) ≡ Some 1
unfolding group_len
closing-group rest = refl

-- characters in parentheses
abbrev pub grouped : List ℕ → List ℕ
grouped cs = left ∷ cs ++ right ∷ []

grouped_before : (cs rest : List ℕ) → grouped cs ++ rest ≡ left ∷ (cs ++ right ∷ rest)
grouped_before cs rest = ap (λ xs. left ∷ xs) (append_assoc cs (right ∷ []) rest)

inner-grouped : (cs : List ℕ) → IsInner cs → IsInner (grouped cs)
inner-grouped cs h = record {
  opens = λ x n rest. ap (has_open x (suc n)) (grouped_before cs rest) ∙ opening-opens x n (cs ++ right ∷ rest) ∙ h.opens x (suc n) (right ∷ rest) ∙ closing-opens x (suc n) rest;
  matches = λ n rest. ap (is_matched (suc n)) (grouped_before cs rest) ∙ opening-matches (suc n) (cs ++ right ∷ rest) ∙ h.matches (suc n) (right ∷ rest) ∙ closing-matches (suc n) rest;
  groups = λ n rest. ap (group_len (suc n)) (grouped_before cs rest) ∙ opening-groups (suc n) (cs ++ right ∷ rest)
      ∙ ap (option_map (λ k. k + 1)) (h.groups (suc n) (right ∷ rest) ∙ ap (option_map (λ k. k + length cs)) (closing-groups n rest) ∙ map_twice (length cs) 1 (length cs + 1) (group_len (suc n) rest) (omega arith))
      ∙ map_twice 1 (length cs + 1) (length (grouped cs)) (group_len (suc n) rest) (let e = length-append cs (right ∷ []) in omega arith);
}

pub balanced-nil : IsBalanced []
balanced-nil = record { inner = inner-nil; commas = λ rest. refl; assigns = λ rest. refl; matches = λ rest. refl }

pub balanced-append : (cs ds : List ℕ) → IsBalanced cs → IsBalanced ds → IsBalanced (cs ++ ds)
balanced-append cs ds h g = record {
  inner = inner-append cs ds h.inner g.inner;
  commas = λ rest. ap (has_open comma 0) (append_assoc cs ds rest) ∙ h.commas (ds ++ rest) ∙ g.commas rest;
  assigns = λ rest. ap (has_open equals 0) (append_assoc cs ds rest) ∙ h.assigns (ds ++ rest) ∙ g.assigns rest;
  matches = λ rest. ap (is_matched 0) (append_assoc cs ds rest) ∙ h.matches (ds ++ rest) ∙ g.matches rest;
}

-- a character that is no parenthesis, no comma and no =
pub balanced-char : (c : ℕ) → eqb c left ≡ false → eqb c right ≡ false → eqb c comma ≡ false → eqb c equals ≡ false → IsBalanced (c ∷ [])
unfolding has_open is_matched
balanced-char c l r m e = record {
  inner = inner-char c l r;
  commas = λ rest. rw (m, l, r) refl;
  assigns = λ rest. rw (e, l, r) refl;
  matches = λ rest. rw (r, l) refl;
}

opening-open : (x : ℕ) (rest : List ℕ) → eqb left x ≡ false → has_open x 0 (left ∷ rest) ≡ has_open x 1 rest
unfolding has_open
opening-open x rest h = rw h refl

-- characters in parentheses, commas among them
pub balanced-grouped : (cs : List ℕ) → IsInner cs → IsBalanced (grouped cs)
balanced-grouped cs h = record {
  inner = inner-grouped cs h;
  commas = λ rest. ap (has_open comma 0) (grouped_before cs rest) ∙ opening-open comma (cs ++ right ∷ rest) refl ∙ h.opens comma 0 (right ∷ rest) ∙ closing-opens comma 0 rest;
  assigns = λ rest. ap (has_open equals 0) (grouped_before cs rest) ∙ opening-open equals (cs ++ right ∷ rest) refl ∙ h.opens equals 0 (right ∷ rest) ∙ closing-opens equals 0 rest;
  matches = λ rest. ap (is_matched 0) (grouped_before cs rest) ∙ opening-matches 0 (cs ++ right ∷ rest) ∙ h.matches 0 (right ∷ rest) ∙ closing-matches 0 rest;
}

pub balanced-enclosed : (b : Bool) (cs : List ℕ) → IsBalanced cs → IsBalanced (enclosed b cs)
balanced-enclosed true cs h = balanced-grouped cs h.inner
balanced-enclosed false cs h = h

name_char_differs : (c : ℕ) → is_name_char c ≡ true → (eqb c left ≡ false) × (eqb c right ≡ false) × (eqb c comma ≡ false) × (eqb c equals ≡ false)
name_char_differs c h =
    (ne_eqb c left (λ e. let f = ap is_name_char e in cc), ne_eqb c right (λ e. let f = ap is_name_char e in cc), ne_eqb c comma (λ e. let f = ap is_name_char e in cc), ne_eqb c equals (λ e. let f = ap is_name_char e in cc))

-- the characters of names and digits
pub balanced-name : (cs : List ℕ) → list_all is_name_char cs ≡ true → IsBalanced cs
balanced-name [] h = balanced-nil
balanced-name (c ∷ cs) h =
    let k = both_true (is_name_char c) (list_all is_name_char cs) h in
    let d = name_char_differs c k.0 in
    balanced-append (c ∷ []) cs (balanced-char c d.0 d.1 d.2 d.3) (balanced-name cs k.1)

-- what stands in a list between its first item and its closing parenthesis
abbrev comma_inside : List (List ℕ) → List ℕ
comma_inside [] = []
comma_inside (t ∷ ts) = comma ∷ t ++ comma_inside ts

comma_inside-closed : (ts : List (List ℕ)) → comma_inside ts ++ right ∷ [] ≡ behind_commas ts
comma_inside-closed [] = refl
comma_inside-closed (t ∷ ts) = ap (λ xs. comma ∷ xs) (append_assoc t (comma_inside ts) (right ∷ []) ∙ ap (λ xs. t ++ xs) (comma_inside-closed ts))

-- each item is balanced
abbrev pub AreBalanced : List (List ℕ) → Type 0
AreBalanced [] = Unit {0}
AreBalanced (t ∷ ts) = IsBalanced t × AreBalanced ts

comma_inside-inner : (ts : List (List ℕ)) → AreBalanced ts → IsInner (comma_inside ts)
comma_inside-inner [] h = inner-nil
comma_inside-inner (t ∷ ts) h = inner-append (comma ∷ []) (t ++ comma_inside ts) (inner-char comma refl refl) (inner-append t (comma_inside ts) h.0.inner (comma_inside-inner ts h.1))

-- a list is something in parentheses
pub bracketed_is_grouped : (t : List ℕ) (ts : List (List ℕ)) → AreBalanced (t ∷ ts) → (inside : List ℕ) × IsInner inside × (grouped inside ≡ bracketed (t ∷ ts))
bracketed_is_grouped t ts h =
    (t ++ comma_inside ts, inner-append t (comma_inside ts) h.0.inner (comma_inside-inner ts h.1), ap (λ xs. left ∷ xs) (append_assoc t (comma_inside ts) (right ∷ []) ∙ ap (λ xs. t ++ xs) (comma_inside-closed ts)))

-- items in parentheses, separated by commas
pub balanced-bracketed : (ts : List (List ℕ)) → AreBalanced ts → IsBalanced (bracketed ts)
balanced-bracketed [] h = balanced-nil
balanced-bracketed (t ∷ ts) h = let g = bracketed_is_grouped t ts h in subst IsBalanced g.2 (balanced-grouped g.0 g.1)
