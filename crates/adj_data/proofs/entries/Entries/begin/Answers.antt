use Rattle.std.proofs.Common.{◌≡◌, true, false, [], ◌∷◌, ◌++◌, map, ap, sym, ◌∙◌, if◌then◌else◌}
use Rattle.std.specs.Prelude.{is_ok}
use Rattle.std.proofs.lemmas.List.{map_push}
use Rattle.adj_data.specs.Items.{name_of}
use Rattle.def_meaning.specs.Apart.{has_name}
use Rattle.adj_sets.specs.Sets.{with_added}
use Rattle.adj_sets.proofs.NameSets.{with_added_is}
use Rattle.adj_data.specs.declared.entries.Entry.{Entry}
use Rattle.adj_data.specs.Faults.{fault_at}
use Rattle.adj_data.proofs.Found.{stands_seen, name_twice, name_new}
use Rattle.adj_data.proofs.entries.Entries.begin.Goals as goal

pub returns-then-has-clause-fault : goal.returns-then-has-clause-fault
returns-then-has-clause-fault c =
    let x = name_of c.args.item.now in
    let first = c.deref.ensures.value ∙ c.in_ok-name.ensures in
    let second = c.deref-2.ensures.value ∙ c.in_ok-name.ensures in
    let dummy : has_name x c.args.dummies.now ≡ true = ap (λ y. has_name y c.args.dummies.now) (sym first) ∙ sym c.has.ensures.found ∙ c.if-not-has.false in
    let before : has_name x c.self.inside.names ≡ true = ap (λ y. has_name y c.self.inside.names) (sym second) ∙ sym c.has-2.ensures.found ∙ c.if-has.true in
    ap (fault_at c.args.line) (name_twice c.args.dummies.now c.args.self.now x dummy (stands_seen x c.self.inside.entries.items c.self.inside.names c.args.self.now c.self.invariant c.self.view_is ∙ before))

pub returns-clause-ok : goal.returns-clause-ok
returns-clause-ok c =
    let x = name_of c.args.item.now in
    let first = c.deref.ensures.value ∙ c.in_ok-name.ensures in
    let second = c.deref-2.ensures.value ∙ c.in_ok-name.ensures in
    let dummy : has_name x c.args.dummies.now ≡ true = ap (λ y. has_name y c.args.dummies.now) (sym first) ∙ sym c.has.ensures.found ∙ c.if-not-has.false in
    let before : has_name x c.self.inside.names ≡ false = ap (λ y. has_name y c.self.inside.names) (sym second) ∙ sym c.has-2.ensures.found ∙ c.if-has.false in
    name_new c.args.dummies.now c.args.self.now x dummy (stands_seen x c.self.inside.entries.items c.self.inside.names c.args.self.now c.self.invariant c.self.view_is ∙ before)

pub invariant_of-self-2 : goal.invariant_of-self-2
invariant_of-self-2 c =
    let names = c.self.inside.names in
    let x = c.in_ok-name.name.items in
    let before : has_name x names ≡ false = ap (λ y. has_name y names) (sym c.deref-2.ensures.value) ∙ sym c.has-2.ensures.found ∙ c.if-has.false in
    let grown : c.add.new.self ≡ names ++ (x ∷ []) =
    c.in_ok-add.ensures.added ∙ ap (λ y. with_added y names) c.deref-3.ensures.value ∙ with_added_is x names ∙ ap (λ b. if b then names else names ++ (x ∷ [])) before in
    let entry : Entry = record { name = c.in_ok-name.name; line = c.args.line; numbers = c.new.result } in
    let before_it = c.try_reserve.new.self.items in
    let pushed : c.push.new.self.items ≡ c.self.inside.entries.items ++ (entry ∷ []) =
    c.push.ensures.items ∙ ap (λ r. if is_ok r then before_it ++ (entry ∷ []) else before_it) c.unwrap.ensures ∙ ap (λ z. z ++ (entry ∷ [])) c.try_reserve.ensures.items in
    grown ∙ ap (λ z. z ++ (x ∷ [])) c.self.invariant ∙ sym (map_push (λ e. e.name.items) c.self.inside.entries.items entry) ∙ ap (map (λ e. e.name.items)) (sym pushed)
