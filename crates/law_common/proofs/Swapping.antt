-- Members and slots change places.
use Rattle.std.proofs.Common.{◌≡◌, ℕ, Bool, true, false, List, [], ◌∷◌, ◌++◌, refl, sym, ap, ◌∙◌, if◌then◌else◌}
use Rattle.std.specs.Prelude.{◌||◌}
use Rattle.adj_tree.specs.Code.{Var, plain, shadow, helper, name_eq, var_eq, Term, lit, var, elem, neg, bin, pow, power_of, abs, Terms, none, more, Test, compare, negation, conjunction, disjunction, Runtime, push_word, pop_word, push_array, pop_array, push_control, pop_control, zero_array, begin_reversal, count_actions, give_action, end_reversal, Mark, unmarked, with_count, count_from}
use Rattle.adj_tree.proofs.Names.{name_refl, name_same}
use Rattle.def_meaning.specs.Apart.{has_name, AreApart}
use Rattle.def_meaning.specs.Rename.{rename_term, rename_terms, rename_test, rename_runtime, rename_mark}
use Rattle.def_meaning.specs.Seen.{Separates}
use Rattle.def_meaning.proofs.Booleans.{or_false}
use Rattle.def_meaning.proofs.Variables.{name_comm, var_refl, var_same}
use Rattle.def_common.specs.Members.{Member, member_names, member_slots, swapped, swap}
use Rattle.law_common.specs.Lowers.{Each, EachInTerm, EachInTerms, EachInTest, EachInRuntime, EachInMark}
use Rattle.law_common.proofs.Laying.{true_behind}

-- ---- two renamings that agree on the variables of some code

module _ (r q : Var → Var) where
  abbrev Agrees : Var → Type 0
  Agrees x = r x ≡ q x

  mutual
    term_agrees : (e : Term) → EachInTerm Agrees e → rename_term r e ≡ rename_term q e
    term_agrees (lit z) h = refl
    term_agrees (var x) h = ap var h
    term_agrees (elem x subs) h = λ i. elem (h.0 i) (terms_agree subs h.1 i)
    term_agrees (neg a) h = ap neg (term_agrees a h)
    term_agrees (bin op a b) h = λ i. bin op (term_agrees a h.0 i) (term_agrees b h.1 i)
    term_agrees (pow a k) h = ap (λ z. pow z k) (term_agrees a h)
    term_agrees (power_of a b) h = λ i. power_of (term_agrees a h.0 i) (term_agrees b h.1 i)
    term_agrees (abs a) h = ap abs (term_agrees a h)

    pub terms_agree : (es : Terms) → EachInTerms Agrees es → rename_terms r es ≡ rename_terms q es
    terms_agree none h = refl
    terms_agree (more e es) h = λ i. more (term_agrees e h.0 i) (terms_agree es h.1 i)

  pub test_agrees : (c : Test) → EachInTest Agrees c → rename_test r c ≡ rename_test q c
  test_agrees (compare o a b) h = λ i. compare o (term_agrees a h.0 i) (term_agrees b h.1 i)
  test_agrees (negation c) h = ap negation (test_agrees c h)
  test_agrees (conjunction c d) h = λ i. conjunction (test_agrees c h.0 i) (test_agrees d h.1 i)
  test_agrees (disjunction c d) h = λ i. disjunction (test_agrees c h.0 i) (test_agrees d h.1 i)

  pub runtime_agrees : (c : Runtime) → EachInRuntime Agrees c → rename_runtime r c ≡ rename_runtime q c
  runtime_agrees (push_word x subs) h = λ i. push_word (h.0 i) (terms_agree subs h.1 i)
  runtime_agrees (pop_word x subs) h = λ i. pop_word (h.0 i) (terms_agree subs h.1 i)
  runtime_agrees (push_array x) h = ap push_array h
  runtime_agrees (pop_array x) h = ap pop_array h
  runtime_agrees (push_control e) h = ap push_control (term_agrees e h)
  runtime_agrees (pop_control x) h = ap pop_control h
  runtime_agrees (zero_array x) h = ap zero_array h
  runtime_agrees (begin_reversal l m) h = λ i. begin_reversal (term_agrees l h.0 i) (term_agrees m h.1 i)
  runtime_agrees (count_actions l m x) h = λ i. count_actions (term_agrees l h.0 i) (term_agrees m h.1.0 i) (h.1.1 i)
  runtime_agrees (give_action l m e x y z) h = λ i. give_action (term_agrees l h.0 i) (term_agrees m h.1.0 i) (term_agrees e h.1.1.0 i) (h.1.1.1.0 i) (h.1.1.1.1.0 i) (h.1.1.1.1.1 i)
  runtime_agrees end_reversal h = refl

  pub mark_agrees : (m : Mark) → EachInMark Agrees m → rename_mark r m ≡ rename_mark q m
  mark_agrees unmarked h = refl
  mark_agrees (with_count i) h = refl
  mark_agrees (count_from x) h = ap count_from h

  pub one_agrees : (e : Term) → EachInTerm Agrees e → rename_term r e ≡ rename_term q e
  one_agrees e h = term_agrees e h

-- ---- a renaming that undoes itself keeps variables apart

pub undone_separates : (r : Var → Var) → ((x : Var) → r (r x) ≡ x) → Separates r
undone_separates r undone = record { at = at }
  where
    at : (x y : Var) → var_eq (r x) (r y) ≡ var_eq x y
    at x y = go (var_eq x y) refl (var_eq (r x) (r y)) refl
      where
        go : (b : Bool) → var_eq x y ≡ b → (c : Bool) → var_eq (r x) (r y) ≡ c → c ≡ b
        go true e true f = refl
        go false e false f = refl
        go true e false f = sym f ∙ ap (λ z. var_eq (r x) (r z)) (sym (var_same x y e)) ∙ var_refl (r x)
        go false e true f = sym (var_refl y) ∙ ap (λ z. var_eq z y) (sym (undone y) ∙ ap r (sym (var_same (r x) (r y) f)) ∙ undone x) ∙ e

-- ---- names in lists

has_first : (x : List ℕ) (xs : List (List ℕ)) → (name_eq x x || has_name x xs) ≡ true
has_first x xs = ap (λ b. b || has_name x xs) (name_refl x)

not_in_append : (x : List ℕ) (xs ys : List (List ℕ)) → has_name x (xs ++ ys) ≡ false → (has_name x xs ≡ false) × (has_name x ys ≡ false)
not_in_append x [] ys h = (refl, h)
not_in_append x (y ∷ xs) ys h =
    let p = or_false (name_eq x y) (has_name x (xs ++ ys)) h in
    let q = not_in_append x xs ys p.1 in
    (ap (λ b. b || has_name x xs) p.0 ∙ q.0, q.1)

apart_behind : (xs ys : List (List ℕ)) → AreApart (xs ++ ys) → AreApart ys
apart_behind [] ys h = h
apart_behind (x ∷ xs) ys h = apart_behind xs ys h.1

-- without one of the second list they are still apart
without : (xs : List (List ℕ)) (y : List ℕ) (ys : List (List ℕ)) → AreApart (xs ++ (y ∷ ys)) → AreApart (xs ++ ys)
without [] y ys h = h.1
without (x ∷ xs) y ys h = (go x xs h.0, without xs y ys h.1)
  where
    go : (x : List ℕ) (xs : List (List ℕ)) → has_name x (xs ++ (y ∷ ys)) ≡ false → has_name x (xs ++ ys) ≡ false
    go x [] k = (or_false (name_eq x y) (has_name x ys) k).1
    go x (z ∷ xs) k = let p = or_false (name_eq x z) (has_name x (xs ++ (y ∷ ys))) k in ap (λ b. b || has_name x (xs ++ ys)) p.0 ∙ go x xs p.1

-- one of the second list is none of the first
crosswise : (xs : List (List ℕ)) (y : List ℕ) (ys : List (List ℕ)) → AreApart (xs ++ (y ∷ ys)) → has_name y xs ≡ false
crosswise [] y ys h = refl
crosswise (x ∷ xs) y ys h =
    ap (λ b. b || has_name y xs) (name_comm x y (or_false (name_eq x y) (has_name x ys) (not_in_append x xs (y ∷ ys) h.0).1).0) ∙ crosswise xs y ys h.1

-- ---- swapping

abbrev pub Apart : List Member → Type 0
Apart ms = AreApart (member_names ms ++ member_slots ms)

-- what is known of the first member
record First (m : Member) (ms : List Member) : Type 0 where
  pub other : name_eq m.name m.slot ≡ false
  pub name_names : has_name m.name (member_names ms) ≡ false
  pub name_slots : has_name m.name (member_slots ms) ≡ false
  pub slot_names : has_name m.slot (member_names ms) ≡ false
  pub slot_slots : has_name m.slot (member_slots ms) ≡ false
  pub rest : Apart ms

first_of : (m : Member) (ms : List Member) → Apart (m ∷ ms) → First m ms
first_of m ms h =
    let p = not_in_append m.name (member_names ms) (m.slot ∷ member_slots ms) h.0 in
    let q = or_false (name_eq m.name m.slot) (has_name m.name (member_slots ms)) p.1 in
    record {
      other = q.0;
      name_names = p.0;
      name_slots = q.1;
      slot_names = crosswise (member_names ms) m.slot (member_slots ms) h.1;
      slot_slots = (apart_behind (member_names ms) (m.slot ∷ member_slots ms) h.1).0;
      rest = without (member_names ms) m.slot (member_slots ms) h.1;
    }

-- what isn't there is reached from nothing else
not_reached : (ms : List Member) (z : List ℕ) → has_name z (member_names ms) ≡ false → has_name z (member_slots ms) ≡ false → (x : List ℕ) → name_eq z x ≡ false → name_eq z (swapped ms x) ≡ false
not_reached [] z h k x e = e
not_reached (m ∷ ms) z h k x e =
    let p = or_false (name_eq z m.name) (has_name z (member_names ms)) h in
    let q = or_false (name_eq z m.slot) (has_name z (member_slots ms)) k in
    go p.0 q.0 (not_reached ms z p.1 q.1 x e) (name_eq m.name x) (name_eq m.slot x)
  where
    go : name_eq z m.name ≡ false → name_eq z m.slot ≡ false → name_eq z (swapped ms x) ≡ false → (b c : Bool) → name_eq z (if b then m.slot else (if c then m.name else swapped ms x)) ≡ false
    go a b r true c = b
    go a b r false true = a
    go a b r false false = r

pub swapped_twice : (ms : List Member) → Apart ms → (x : List ℕ) → swapped ms (swapped ms x) ≡ x
swapped_twice [] h x = refl
swapped_twice (m ∷ ms) h x = go (name_eq m.name x) refl (name_eq m.slot x) refl (swapped_twice ms f.rest x)
  where
    f : First m ms
    f = first_of m ms h

    go : (b : Bool) → name_eq m.name x ≡ b → (c : Bool) → name_eq m.slot x ≡ c → swapped ms (swapped ms x) ≡ x → swapped (m ∷ ms) (if b then m.slot else (if c then m.name else swapped ms x)) ≡ x
    go true e c k r =
        (λ i. if f.other i then m.slot else (if name_refl m.slot i then m.name else swapped ms m.slot)) ∙ name_same m.name x e
    go false e true k r = (λ i. if name_refl m.name i then m.slot else (if name_eq m.slot m.name then m.name else swapped ms m.name)) ∙ name_same m.slot x k
    go false e false k r =
        (λ i. if not_reached ms m.name f.name_names f.name_slots x e i then m.slot else (if not_reached ms m.slot f.slot_names f.slot_slots x k i then m.name else swapped ms (swapped ms x))) ∙ r

pub swap_twice : (ms : List Member) → Apart ms → (x : Var) → swap ms (swap ms x) ≡ x
swap_twice ms h (plain x) = ap plain (swapped_twice ms h x)
swap_twice ms h (shadow x) = refl
swap_twice ms h (helper r k) = refl

pub swap_separates : (ms : List Member) → Apart ms → Separates (swap ms)
swap_separates ms h = undone_separates (swap ms) (swap_twice ms h)

-- ---- a member's name and its slot

-- the member of a name
pub record Named (P : Member → Type 0) (ms : List Member) (x : List ℕ) : Type 0 where
  pub member : Member
  pub is : P member
  pub name : member.name ≡ x
  pub slot : swapped ms x ≡ member.slot
  pub among : has_name member.slot (member_slots ms) ≡ true

clash : (x y : List ℕ) (xs : List (List ℕ)) → name_eq y x ≡ true → has_name x xs ≡ true → has_name y xs ≡ false → ⊥
clash x y xs e h k = let z : true ≡ false = sym h ∙ ap (λ z. has_name z xs) (sym (name_same y x e)) ∙ k in cc

pub name_at : (P : Member → Type 0) (ms : List Member) → Apart ms → Each P ms → (x : List ℕ) → has_name x (member_names ms) ≡ true → Named P ms x
name_at P [] h p x k = absurd cc
name_at P (m ∷ ms) h p x k = go (name_eq m.name x) refl (λ e. name_at P ms f.rest p.1 x (later e))
  where
    f : First m ms
    f = first_of m ms h

    later : name_eq m.name x ≡ false → has_name x (member_names ms) ≡ true
    later e = ap (λ b. b || has_name x (member_names ms)) (sym (name_comm m.name x e)) ∙ k

    behind : has_name x (member_names ms) ≡ true → (b : Bool) → name_eq m.slot x ≡ b → b ≡ false
    behind j true e = absurd (clash x m.slot (member_names ms) e j f.slot_names)
    behind j false e = refl

    go : (b : Bool) → name_eq m.name x ≡ b → (name_eq m.name x ≡ false → Named P ms x) → Named P (m ∷ ms) x
    go true e r = record { member = m; is = p.0; name = name_same m.name x e; slot = ap (λ b. if b then m.slot else (if name_eq m.slot x then m.name else swapped ms x)) e; among = has_first m.slot (member_slots ms) }
    go false e r =
        let n = r e in
        record {
          member = n.member;
          is = n.is;
          name = n.name;
          slot = (λ i. if e i then m.slot else (if behind (later e) (name_eq m.slot x) refl i then m.name else swapped ms x)) ∙ n.slot;
          among = true_behind (name_eq n.member.slot m.slot) n.among;
        }

-- a slot's name is a member's
pub slot_at : (ms : List Member) → Apart ms → (x : List ℕ) → has_name x (member_slots ms) ≡ true → has_name (swapped ms x) (member_names ms) ≡ true
slot_at [] h x k = absurd cc
slot_at (m ∷ ms) h x k = go (name_eq m.name x) refl (name_eq m.slot x) refl (slot_at ms f.rest x)
  where
    f : First m ms
    f = first_of m ms h

    later : name_eq m.slot x ≡ false → has_name x (member_slots ms) ≡ true
    later e = ap (λ b. b || has_name x (member_slots ms)) (sym (name_comm m.slot x e)) ∙ k

    none : name_eq m.name x ≡ true → (b : Bool) → name_eq m.slot x ≡ b → ⊥
    none e true j = let z : true ≡ false = sym e ∙ ap (name_eq m.name) (sym (name_same m.slot x j)) ∙ f.other in cc
    none e false j = clash x m.name (member_slots ms) e (later j) f.name_slots

    go : (b : Bool) → name_eq m.name x ≡ b → (c : Bool) → name_eq m.slot x ≡ c → (has_name x (member_slots ms) ≡ true → has_name (swapped ms x) (member_names ms) ≡ true) → has_name (if b then m.slot else (if c then m.name else swapped ms x)) (m.name ∷ member_names ms) ≡ true
    go true e c j r = absurd (none e (name_eq m.slot x) refl)
    go false e true j r = has_first m.name (member_names ms)
    go false e false j r = true_behind (name_eq (swapped ms x) m.name) (r (later j))
