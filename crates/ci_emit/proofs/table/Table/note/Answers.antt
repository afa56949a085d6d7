use Rattle.std.proofs.Common.{sym, ap, ◌∙◌}
use Rattle.std.specs.Prelude.{map}
use Rattle.std.specs.List.{list_any}
use Rattle.std.specs.List.{position_or_len}
use Rattle.std.specs.Cmp.Lexicographic.{pointwise}
use Rattle.indexmap.specs.IndexSet.{insert_key}
use Rattle.ci_emit.proofs.Tables.{found_there, position_seen, any_seen, insert_seen, there_already}
use Rattle.ci_emit.proofs.table.Table.note.Goals as goal

-- src/table.rt:43:13
pub returns-in-Some-clause-number : goal.returns-in-Some-clause-number
returns-in-Some-clause-number g c =
    (found_there (λ k. pointwise g.T.PartialEq.eq c.args.list.now k.items) c.self.inside.kept.keys c.in-Some.number (sym c.in-Some.ensures.index)).0
    ∙ sym (position_seen (λ k. k.items) (pointwise g.T.PartialEq.eq c.args.list.now) c.self.inside.kept.keys)
    ∙ ap (position_or_len (pointwise g.T.PartialEq.eq c.args.list.now)) c.self.view_is

-- src/table.rt:43:13
pub returns-in-Some-clause-noted : goal.returns-in-Some-clause-noted
returns-in-Some-clause-noted g c = there_already (pointwise g.T.PartialEq.eq) c.args.self.now c.args.list.now
    (ap (list_any (pointwise g.T.PartialEq.eq c.args.list.now)) (sym c.self.view_is)
    ∙ any_seen (λ k. k.items) (pointwise g.T.PartialEq.eq c.args.list.now) c.self.inside.kept.keys
    ∙ (found_there (λ k. pointwise g.T.PartialEq.eq c.args.list.now k.items) c.self.inside.kept.keys c.in-Some.number (sym c.in-Some.ensures.index)).1)

-- src/table.rt:38:5
pub returns-clause-number : goal.returns-clause-number
returns-clause-number g c =
    c.in-Ok.ensures.index
    ∙ sym (position_seen (λ k. k.items) (pointwise g.T.PartialEq.eq c.in_ok-copy.copy.items) c.self.inside.kept.keys)
    ∙ (λ i. position_or_len (pointwise g.T.PartialEq.eq (c.in_ok-copy.ensures i)) (c.self.view_is i))

-- src/table.rt:38:5
pub returns-clause-noted : goal.returns-clause-noted
returns-clause-noted g c =
    ap (map (λ k. k.items)) c.in-Ok.ensures.keys
    ∙ insert_seen (λ k. k.items) (pointwise g.T.PartialEq.eq) c.self.inside.kept.keys c.in_ok-copy.copy
    ∙ (λ i. insert_key (pointwise g.T.PartialEq.eq) (c.self.view_is i) (c.in_ok-copy.ensures i))
