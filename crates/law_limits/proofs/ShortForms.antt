-- The names among the lexemes of a statement are those of what it says.
use Rattle.std.proofs.Common.{◌≡◌, ◌≤◌, ℕ, Bool, true, List, refl, sym, ap, ◌∙◌}
use Rattle.std.specs.Prelude.{◌&&◌, Option}
use Rattle.std.specs.List.{list_all}
use Rattle.adj_tree.specs.Code.{Var, Terms, none, Test, Mark, Act, Extent}
use Rattle.def_text.specs.Form as forms
use Rattle.def_text.specs.Form.{Form, ReadsForm}
use Rattle.def_text.specs.Statement as says
use Rattle.def_text.specs.Statement.{Item, Range, ReadsPlace, ReadsAssignment, ReadsNames, ReadsHead, ReadsExtent, ReadsItem, ReadsItems, ReadsCommon, ReadsCall, ReadsRange, ReadsDo, ReadsGuard, ReadsGuarded}
use Rattle.def_text.specs.Lexeme.{Lexeme}
use Rattle.def_text.specs.declared.stated.Kind.{Kind}
use Rattle.law_limits.specs.Rule.{act_keeps}
use Rattle.law_limits.specs.Kept.{is_short, var_short, term_short, terms_short, test_short, mark_short, extent_short, short_names}
use Rattle.law_limits.proofs.Truths.{and_true, and_group}
use Rattle.law_limits.proofs.Keeping.{item_keeps, form_keeps}
use Rattle.law_limits.proofs.ShortTerms.{lexemes_short, term_read, terms_read, test_read}
use Rattle.law_limits.proofs.Actuals.{called_short}

module _ (n : ℕ) (wide : 17 ≤ n) where
  place : {ts rest : List Lexeme} {x : Var} {s : Terms} → ReadsPlace ts rest x s → lexemes_short n ts ≡ (var_short n x && (terms_short n s && lexemes_short n rest))
  place says.ReadsPlace.scalar = refl
  place (says.ReadsPlace.element {x = x} d le) = ap (λ t. is_short n x && t) (terms_read n wide d)

  assignment : {ts : List Lexeme} {a : Act} → ReadsAssignment ts a → lexemes_short n ts ≡ act_keeps (short_names n) a
  assignment (says.assignment {x = x} {subscripts = s} {e = e} p d) =
      place p ∙ ap (λ t. var_short n x && (terms_short n s && t)) (term_read n wide d ∙ and_true (term_short n e))

  all_named : {ts rest : List Lexeme} {xs : List (List ℕ)} → ReadsNames ts rest xs → lexemes_short n ts ≡ (list_all (is_short n) xs && lexemes_short n rest)
  all_named {rest = rest} (says.ReadsNames.last {x = x}) = ap (λ t. t && lexemes_short n rest) (sym (and_true (is_short n x)))
  all_named {rest = rest} (says.ReadsNames.another {x = x} {xs = xs} d) = ap (λ t. is_short n x && t) (all_named d) ∙ and_group (is_short n x) (list_all (is_short n) xs) (lexemes_short n rest)

  head : {ts : List Lexeme} {x : List ℕ} {dummies : List (List ℕ)} → ReadsHead ts x dummies → lexemes_short n ts ≡ (is_short n x && list_all (is_short n) dummies)
  head says.ReadsHead.alone = refl
  head says.ReadsHead.empty = refl
  head {x = x} {dummies = xs} (says.ReadsHead.dummies d) = ap (λ t. is_short n x && t) (all_named d ∙ and_true (list_all (is_short n) xs))

  size : {ts rest : List Lexeme} {e : Extent} → ReadsExtent ts rest e → lexemes_short n ts ≡ (extent_short n e && lexemes_short n rest)
  size says.ReadsExtent.literal = refl
  size says.ReadsExtent.name = refl

  item : {ts rest : List Lexeme} {i : Item} → ReadsItem ts rest i → lexemes_short n ts ≡ (item_keeps (short_names n) i && lexemes_short n rest)
  item {rest = rest} (says.ReadsItem.scalar {x = x}) = ap (λ t. t && lexemes_short n rest) (sym (and_true (is_short n x)))
  item {rest = rest} (says.row {x = x} {a = a} d) =
      ap (λ t. is_short n x && t) (size d ∙ ap (λ t. t && lexemes_short n rest) (sym (and_true (extent_short n a)))) ∙ and_group (is_short n x) (extent_short n a && true) (lexemes_short n rest)
  item {rest = rest} (says.table {x = x} {a = a} {b = b} d e) =
      ap (λ t. is_short n x && t) (size d ∙ ap (λ t. extent_short n a && t) (size e ∙ ap (λ t. t && lexemes_short n rest) (sym (and_true (extent_short n b)))) ∙ and_group (extent_short n a) (extent_short n b && true) (lexemes_short n rest))
      ∙ and_group (is_short n x) (extent_short n a && (extent_short n b && true)) (lexemes_short n rest)

  items : {ts : List Lexeme} {is : List Item} → ReadsItems ts is → lexemes_short n ts ≡ list_all (item_keeps (short_names n)) is
  items (says.ReadsItems.last d) = item d
  items (says.ReadsItems.another {i = i} d ds) = item d ∙ ap (λ t. item_keeps (short_names n) i && t) (items ds)

  block : {ts : List Lexeme} {b : List ℕ} {is : List Item} → ReadsCommon ts b is → lexemes_short n ts ≡ ((is_short n b && true) && list_all (item_keeps (short_names n)) is)
  block (says.ReadsCommon.block {b = b} {is = is} ds e) = ap (λ t. is_short n b && t) (items ds) ∙ ap (λ t. t && list_all (item_keeps (short_names n)) is) (sym (and_true (is_short n b)))

  calling : {ts : List Lexeme} {a : Act} → ReadsCall ts a → lexemes_short n ts ≡ act_keeps (short_names n) a
  calling (says.ReadsCall.alone {x = x}) = sym (called_short n wide x none)
  calling (says.ReadsCall.empty {x = x}) = sym (called_short n wide x none)
  calling (says.ReadsCall.actuals {x = x} {es = es} d) = ap (λ t. is_short n x && t) (terms_read n wide d ∙ and_true (terms_short n es)) ∙ sym (called_short n wide x es)

  abbrev range_short : Range → Bool
  range_short r = var_short n r.counter && (term_short n r.from && (term_short n r.to && term_short n r.by))

  range : {ts : List Lexeme} {r : Range} → ReadsRange ts r → lexemes_short n ts ≡ range_short r
  range (says.by_one {x = x} {a = a} {b = b} d e) = ap (λ t. is_short n x && t) (term_read n wide d ∙ ap (λ t. term_short n a && t) (term_read n wide e))
  range (says.by_step {x = x} {a = a} {b = b} {c = c} d e f) = ap (λ t. is_short n x && t) (term_read n wide d ∙ ap (λ t. term_short n a && t) (term_read n wide e ∙ ap (λ t. term_short n b && t) (term_read n wide f ∙ and_true (term_short n c))))

  do_short : {ts : List Lexeme} {l : Option ℕ} {r : Range} → ReadsDo ts l r → lexemes_short n ts ≡ range_short r
  do_short (says.unlabelled d) = range d
  do_short (says.labelled d) = range d
  do_short (says.labelled_comma d) = range d

  guard : {ts rest : List Lexeme} {c : Test} → ReadsGuard ts rest c → lexemes_short n ts ≡ (test_short n c && lexemes_short n rest)
  guard (says.guard d) = test_read n wide d

  guarded : {ts : List Lexeme} {a : Act} → ReadsGuarded ts a → lexemes_short n ts ≡ act_keeps (short_names n) a
  guarded (says.assigned d) = assignment d
  guarded (says.calls d) = calling d

  -- so they are short, with the name in the directive before it, where the form is
  pub form_short : {mark : Mark} {kind : Kind} {ts : List Lexeme} {f : Form} → ReadsForm mark kind ts f → (lexemes_short n ts && mark_short n mark) ≡ form_keeps (short_names n) f
  form_short (forms.ReadsForm.heading d) = and_true _ ∙ head d
  form_short forms.ReadsForm.implicit = refl
  form_short (forms.ReadsForm.declaration d) = and_true _ ∙ items d
  form_short (forms.ReadsForm.shared d) = and_true _ ∙ block d
  form_short (forms.ReadsForm.assigned d) = and_true _ ∙ assignment d
  form_short (forms.ReadsForm.calls d) = and_true _ ∙ calling d
  form_short (forms.ReadsForm.guarded {c = c} d e) = and_true _ ∙ guard d ∙ ap (λ t. test_short n c && t) (guarded e)
  form_short (forms.ReadsForm.begins {mark = mark} d) = ap (λ t. t && mark_short n mark) (do_short d)
  form_short (forms.ReadsForm.repeats {c = c} d) = and_true _ ∙ guard d ∙ and_true (test_short n c)
  form_short forms.ReadsForm.finished = refl
  form_short forms.ReadsForm.continued = refl
  form_short (forms.ReadsForm.tests {c = c} d) = and_true _ ∙ guard d ∙ and_true (test_short n c)
  form_short forms.ReadsForm.turns = refl
  form_short (forms.ReadsForm.tests_again {c = c} d) = and_true _ ∙ guard d ∙ and_true (test_short n c)
  form_short forms.ReadsForm.closed = refl
  form_short forms.ReadsForm.returned = refl
  form_short forms.ReadsForm.ended = refl
