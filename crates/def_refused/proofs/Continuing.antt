-- Continuing: what can follow statements that lead somewhere, in the lexemes of the grammar.
use Rattle.std.proofs.Common.{◌≡◌, ℕ, pos, Bool, true, false, List, [], ◌∷◌, ◌++◌, map, Option, Some, None, refl, sym, ap, ◌∙◌}
use Rattle.std.proofs.lemmas.List.{append_assoc, map-append}
use Rattle.std.specs.Prelude.{◌&&◌}
use Rattle.adj_tree.specs.Code.{plain, Term, lit, none, Test, compare, is_less, unmarked, Act, assign}
use Rattle.def_text.specs.Form.{Form, subroutine, implicit_none, integers, common, simple, logical, opens_do, opens_while, end_do, go_on, opens_if, otherwise, otherwise_if, end_if, leaves, ends, Statement, at}
use Rattle.def_text.specs.declared.stated.Kind.{Kind}
use Rattle.def_text.specs.declared.stated.Kind.TheVariants.{Do, BlockIf, LogicalIf, Assign, Continue, Return, End, EndIf, EndDo, Else, ImplicitNone, ElseIf, DoWhile, Subroutine, Integer, Call, Common}
use Rattle.adj_parse.proofs.Machine.{kind_of}
use Rattle.def_refused.specs.Following as following
use Rattle.def_refused.specs.Following.{with_label, IsFree, Continues, IsOf, CanFollow}
use Rattle.def_refused.proofs.Bridged.{reads_accepted, accepted_reads}
use Rattle.def_refused.proofs.Leading.{leads_accepted, accepted_leads, leads_one, leads_more, leads_place, renewed_at, stands_kept, relabelled, relabels, same_kind, leads_kept, are_labelled, above, above_free, free_some, free_front, free_last}
use Rattle.def_refused.proofs.Places.{Inner, stands_at, next_at, accepted, Leads, finishes}

-- statements that lead somewhere have a continuation
pub continues : (ss : List Statement) (w : Option Inner) → Leads None ss w → Continues ss
continues ss w h =
    let k = above ss in
    let free = above_free ss in
    let some = free_some k ss free in
    let there = leads_kept k some None w ss free h in
    let place = leads_place None (renewed_at k some w) (map (with_label k) ss) (are_labelled k some ss) tt there in
    let more = finishes (renewed_at k some w) place in
    let reads = accepted_reads (map (with_label k) ss ++ more.0) (leads_accepted None (renewed_at k some w) (map (with_label k) ss) more.0 there more.1) in
    record { label = k; free = free; more = more.0; units = reads.0; reads = reads.1 }

-- a statement stands as its form does
pub same_class : {kind : Kind} {f : Form} → IsOf kind f → (l : ℕ) (w : Option Inner) → stands_at kind l w ≡ stands_at (kind_of f) l w
same_class following.IsOf.heading l w = refl
same_class following.IsOf.implicit l w = refl
same_class following.IsOf.declaration l w = refl
same_class following.IsOf.shared l w = refl
same_class following.IsOf.assigned l w = refl
same_class following.IsOf.called l None = refl
same_class following.IsOf.called l (Some i) = refl
same_class following.IsOf.guarded l w = refl
same_class following.IsOf.begins l w = refl
same_class following.IsOf.repeats l w = refl
same_class following.IsOf.finished l w = refl
same_class following.IsOf.continued l w = refl
same_class following.IsOf.tests l w = refl
same_class following.IsOf.turns l w = refl
same_class following.IsOf.tests_again l w = refl
same_class following.IsOf.whole l w = refl
same_class following.IsOf.returned l w = refl
same_class following.IsOf.ended l w = refl

abbrev zero_term : Term
zero_term = lit (pos 0)

abbrev some_test : Test
some_test = compare is_less zero_term zero_term

abbrev some_act : Act
some_act = assign (plain []) none zero_term

-- a statement of each class
some_form : (kind : Kind) → (f : Form) × IsOf kind f
some_form Subroutine = (subroutine [] [], following.IsOf.heading)
some_form ImplicitNone = (implicit_none, following.IsOf.implicit)
some_form Integer = (integers [], following.IsOf.declaration)
some_form Common = (common [] [], following.IsOf.shared)
some_form Assign = (simple some_act, following.IsOf.assigned)
some_form Call = (simple some_act, following.IsOf.called)
some_form LogicalIf = (logical some_test some_act, following.IsOf.guarded)
some_form Do = (opens_do None (record { counter = plain []; from = zero_term; to = zero_term; by = zero_term }) unmarked, following.IsOf.begins)
some_form DoWhile = (opens_while some_test, following.IsOf.repeats)
some_form EndDo = (end_do, following.IsOf.finished)
some_form Continue = (go_on, following.IsOf.continued)
some_form BlockIf = (opens_if some_test, following.IsOf.tests)
some_form Else = (otherwise, following.IsOf.turns)
some_form ElseIf = (otherwise_if some_test, following.IsOf.tests_again)
some_form EndIf = (end_if, following.IsOf.whole)
some_form Return = (leaves, following.IsOf.returned)
some_form End = (ends, following.IsOf.ended)

-- what stands can follow
pub follows : (kind : Kind) (ss : List Statement) (w : Option Inner) → Leads None ss w → stands_at kind 0 w ≡ true → CanFollow kind ss
follows kind ss w h s =
    let f = some_form kind in
    let stands = sym (same_class f.1 0 w) ∙ s in
    record { line = 0; form = f.0; of_kind = f.1; continues = continues (ss ++ at 0 0 f.0 ∷ []) (next_at 0 f.0 w) (leads_more None w ss 0 0 f.0 h stands) }

-- a statement with which there is a continuation stands
pub goes_on_stands : (ss : List Statement) (w : Option Inner) (n l : ℕ) (f : Form) → Leads None ss w → Continues (ss ++ at n l f ∷ []) → stands_at (kind_of f) l w ≡ true
goes_on_stands ss w n l f h c =
    let k = c.label in
    let all = ss ++ at n l f ∷ [] in
    let free = free_front k ss (at n l f ∷ []) c.free in
    let some = free_some k ss free in
    let g : Form = relabelled k some f in
    let cut : map (with_label k) all ++ c.more ≡ map (with_label k) ss ++ (at n l g ∷ c.more) =
    ap (λ xs. xs ++ c.more) (map-append (with_label k) ss (at n l f ∷ []) ∙ ap (λ s. map (with_label k) ss ++ s ∷ []) (relabels k some n l f)) ∙ append_assoc (map (with_label k) ss) (at n l g ∷ []) c.more in
    let whole : accepted None (map (with_label k) ss ++ (at n l g ∷ c.more)) ≡ true = sym (ap (accepted None) cut) ∙ reads_accepted (map (with_label k) all ++ c.more) c.units c.reads in
    let front = accepted_leads None (map (with_label k) ss) (at n l g ∷ c.more) whole in
    let same : front.0 ≡ renewed_at k some w = leads_one None front.0 (renewed_at k some w) (map (with_label k) ss) front.1 (leads_kept k some None w ss free h) in
    let stands : stands_at (kind_of g) l front.0 ≡ true = first _ _ front.2 in
    sym (stands_kept k some (kind_of f) l w (free_last k ss n l f c.free)) ∙ ap (λ x. stands_at x l (renewed_at k some w)) (sym (same_kind k some f)) ∙ ap (stands_at (kind_of g) l) (sym same) ∙ stands
  where
    first : (a b : Bool) → (a && b) ≡ true → a ≡ true
    first true b h = refl
    first false b h = absurd cc

-- and so does what can follow
pub follows_stands : (kind : Kind) (ss : List Statement) (w : Option Inner) → Leads None ss w → CanFollow kind ss → stands_at kind 0 w ≡ true
follows_stands kind ss w h c = same_class c.of_kind 0 w ∙ goes_on_stands ss w c.line 0 c.form h c.continues
