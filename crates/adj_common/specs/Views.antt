-- What clauses see of the crate's types.
use Rattle.std.specs.Prelude.{List, map, Option, Some, None}
use Rattle.std.specs.Borrow.{Bor}
use Rattle.adj_tree.specs.Code.{Declaration}
use Rattle.adj_tree.specs.View.{extent_of, declaration_of}
use Rattle.adj_naming.specs.declared.declared.Declared.{Declared}
use Rattle.adj_common.specs.Entries.{Entry, OwnBlocks}
use Rattle.adj_common.specs.Texts.{TextBlocks}
use Rattle.adj_common.specs.Handing.{Tables}
use Rattle.adj_common.specs.Lowering.{Known}
use Rattle.adj_common.specs.declared.members.Member.{Member}
use Rattle.adj_common.specs.declared.own.Own.{Own}
use Rattle.adj_common.specs.declared.blocks.Blocks.{Blocks}
use Rattle.adj_common.specs.declared.handing.Handing.{Handing}
use Rattle.adj_common.specs.declared.lowering.Text.{Text}

abbrev pub entry_of : Member → Entry
entry_of m = record { name = m.name; extents = map extent_of m.extents; item = map extent_of m.item; line = m.line; own = m.own }

abbrev pub firsts_of : Declared → List Declaration
firsts_of t = map declaration_of t.firsts.items

abbrev pub own_of : Own → OwnBlocks
own_of o = record { declarations = firsts_of o.declared; names = o.table.names; groups = map (λ g. map entry_of g.items) o.groups.items; lines = o.lines.items }

abbrev pub seen_group : Option (Bor (List Member)) → Option (List Entry)
seen_group None = None
seen_group (Some g) = Some (map entry_of g.now)

abbrev pub text_of : Blocks → TextBlocks
text_of b = record { table = b.table; names = map (λ n. n.now) b.names.items; owners = b.owners.items }

abbrev pub tables_of : Handing → Tables
tables_of h = record { groups = h.groups.now; names = map (λ v. v.items) h.names.now; text = text_of h.blocks.now; units = h.units.now; used = map (λ v. v.items) h.used.now }

abbrev pub known_of : Text → Known
known_of t = record { owns = map own_of t.owns.now; text = text_of t.blocks.now; units = t.units.now; used = map (λ v. v.items) t.used.now; not_free = t.not_free.now }
